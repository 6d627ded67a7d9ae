use Rattle.std.proofs.Common.{ap, sym, ◌∙◌, Some}
use Rattle.std.specs.Option.{option_copied}
use Rattle.ecow_counted.proofs.Updates.{shared_names_are, size_shown, backed_shown, bare_shown, no_size}
use Rattle.ecow_counted.proofs.blocks.Blocks.size.Goals as goal

pub returns-then-not-contains-clause-size : goal.returns-then-not-contains-clause-size
returns-then-not-contains-clause-size g c =
    no_size c.self.inside.places c.self.inside.table c.self.invariant c.args.self.now.names
    (ap (λ s. s.names) c.self.view_is) c.args.name (sym c.contains.ensures ∙ c.if-not-contains.true)

pub returns-in-Some-clause-size : goal.returns-in-Some-clause-size
returns-in-Some-clause-size g c =
    (λ i. Some (record { len = c.len.ensures.len i; capacity = c.capacity.ensures.capacity i; owners = c.in-Some.entry.now.owners }))
    ∙ size_shown c.self.inside.places c.self.inside.table c.self.invariant c.args.self.now.names
    (ap (λ s. s.names) c.self.view_is) c.args.name c.in-Some.entry.now (sym c.entry_of.ensures ∙ ap option_copied c.in-Some.is)

pub returns-in-Some-clause-backed : goal.returns-in-Some-clause-backed
returns-in-Some-clause-backed g c =
    λ some. rw c.capacity.ensures.capacity (backed_shown c.self.inside.places c.self.inside.table c.self.invariant c.args.self.now.names
    (ap (λ s. s.names) c.self.view_is) c.args.name c.in-Some.entry.now (sym c.entry_of.ensures ∙ ap option_copied c.in-Some.is))

pub returns-in-None-clause-size : goal.returns-in-None-clause-size
returns-in-None-clause-size g c =
    bare_shown c.self.inside.places c.self.inside.table c.self.invariant c.args.self.now.names
    (ap (λ s. s.names) c.self.view_is) c.args.name (sym c.entry_of.ensures
    ∙ ap option_copied c.in-None.is) (sym c.contains.ensures ∙ c.if-not-contains.false)

pub returns-then-not-contains-clause-sharing : goal.returns-then-not-contains-clause-sharing
returns-then-not-contains-clause-sharing g c =
    shared_names_are c.self.inside.places c.self.inside.table c.self.invariant c.args.self.now.names (ap (λ s. s.names) c.self.view_is)

pub returns-in-Some-clause-sharing : goal.returns-in-Some-clause-sharing
returns-in-Some-clause-sharing g c =
    shared_names_are c.self.inside.places c.self.inside.table c.self.invariant c.args.self.now.names (ap (λ s. s.names) c.self.view_is)

pub returns-in-None-clause-sharing : goal.returns-in-None-clause-sharing
returns-in-None-clause-sharing g c =
    shared_names_are c.self.inside.places c.self.inside.table c.self.invariant c.args.self.now.names (ap (λ s. s.names) c.self.view_is)
