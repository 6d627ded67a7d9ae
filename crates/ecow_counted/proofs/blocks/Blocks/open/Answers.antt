use Rattle.std.proofs.Common.{sym, ◌∙◌}
use Rattle.ecow_counted.proofs.Opening.{opened_as, put_back, none_taken, where_ok, where_err, always_ok, always_err}
use Rattle.ecow_counted.proofs.blocks.Blocks.open.Goals as goal

pub grow-requires-clause-there : goal.grow-requires-clause-there
grow-requires-clause-there g c = (opened_as c.args.self.now.names c.args.name c.take.new.self.names c.take.ensures.names).there

pub returns-in-Some-clause-opened : goal.returns-in-Some-clause-opened
returns-in-Some-clause-opened g c =
    where_ok c.grow.result (λ same. opened_as c.args.self.now.names c.args.name c.grow.new.self.names
    (same ∙ c.take.ensures.names)) c.grow.ensures.names

pub returns-in-Some-clause-unchanged : goal.returns-in-Some-clause-unchanged
returns-in-Some-clause-unchanged g c = where_err c.grow.result
    (λ put. put_back c.args.self.now.names c.args.name c.requires.there c.requires.sole c.requires.sharing c.requires.backed
    c.in-Some.block (sym c.in-Some.is ∙ c.take.ensures.block) c.take.new.self.names c.grow.new.self.names c.take.ensures.names put)
    c.grow.ensures.given_back

pub returns-in-None-clause-opened : goal.returns-in-None-clause-opened
returns-in-None-clause-opened g c =
    always_ok c.copy.result (opened_as c.args.self.now.names c.args.name c.copy.new.self.names (c.copy.ensures.names ∙ c.take.ensures.names))

pub returns-in-None-clause-unchanged : goal.returns-in-None-clause-unchanged
returns-in-None-clause-unchanged g c = always_err c.copy.result
    (none_taken c.args.self.now.names c.args.name c.requires.there c.requires.sole c.requires.sharing c.requires.backed
    (sym c.in-None.is ∙ c.take.ensures.block) c.copy.new.self.names (c.copy.ensures.names ∙ c.take.ensures.names))
