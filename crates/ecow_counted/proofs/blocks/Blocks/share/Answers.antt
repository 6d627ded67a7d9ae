use Rattle.std.proofs.Common.{ap, ◌∙◌, Some}
use Rattle.std.specs.FinMap as finite
use Rattle.ecow_counted.proofs.Updates.{owners_fit, few_before, joined_names, joined_table, bare_joined_names, bare_joined_table}
use Rattle.ecow_counted.proofs.Placing.{sharing-table}
use Rattle.ecow_counted.proofs.Updates.{has_place}
use Rattle.ecow_counted.proofs.blocks.Blocks.share.Goals as goal

pub add_owner-requires-clause-room : goal.add_owner-requires-clause-room
add_owner-requires-clause-room g c = λ entry at.
    let names = c.args.self.now.names in
    let shown = ap (λ s. s.names) c.self.view_is in
    owners_fit c.self.inside.places c.self.inside.table c.self.invariant names shown c.in-Some.place entry at
    (few_before c.self.inside.places c.self.inside.table c.self.invariant names shown c.args.to c.place_of-place.result
    c.insert.new.self c.requires.free c.in_ok-insert.ensures.ok c.in_ok-insert.ensures.countable)

pub invariant_of-self-in-Some : goal.invariant_of-self-in-Some
invariant_of-self-in-Some g c =
    joined_table c.self.inside.places c.self.inside.table c.self.invariant c.args.self.now.names
    (ap (λ s. s.names) c.self.view_is) c.args.from c.args.to c.requires.free c.insert.new.self c.add_owner.new.table c.in-Some.place
    (c.place_of-place.ensures ∙ ap Some c.in-Some.is) (c.in_ok-insert.ensures.ok
    ∙ ap (finite.insert c.self.inside.places c.args.to) c.in-Some.is)
    c.add_owner.ensures.counted c.add_owner.ensures.others c.add_owner.ensures.len

pub invariant_of-self-in_default : goal.invariant_of-self-in_default
invariant_of-self-in_default g c =
    bare_joined_table c.self.inside.places c.self.inside.table c.self.invariant c.args.self.now.names
    (ap (λ s. s.names) c.self.view_is) c.args.from c.args.to c.requires.free c.insert.new.self (c.place_of-place.ensures
    ∙ ap Some c.in_default.is) (c.in_ok-insert.ensures.ok ∙ ap (finite.insert c.self.inside.places c.args.to) c.in_default.is)

pub returns-in-Some-clause-ok : goal.returns-in-Some-clause-ok
returns-in-Some-clause-ok g c =
    joined_names c.self.inside.places c.self.inside.table c.self.invariant c.args.self.now.names
    (ap (λ s. s.names) c.self.view_is) c.args.from c.args.to c.requires.free c.insert.new.self c.add_owner.new.table c.in-Some.place
    (c.place_of-place.ensures ∙ ap Some c.in-Some.is) (c.in_ok-insert.ensures.ok
    ∙ ap (finite.insert c.self.inside.places c.args.to) c.in-Some.is)
    c.add_owner.ensures.counted c.add_owner.ensures.others c.add_owner.ensures.len

pub returns-in_default-clause-ok : goal.returns-in_default-clause-ok
returns-in_default-clause-ok g c =
    bare_joined_names c.self.inside.places c.self.inside.table c.self.invariant c.args.self.now.names
    (ap (λ s. s.names) c.self.view_is) c.args.from c.args.to c.requires.free c.insert.new.self (c.place_of-place.ensures
    ∙ ap Some c.in_default.is) (c.in_ok-insert.ensures.ok ∙ ap (finite.insert c.self.inside.places c.args.to) c.in_default.is)

pub returns-in_err-insert-clause-sharing : goal.returns-in_err-insert-clause-sharing
returns-in_err-insert-clause-sharing g c = rw c.in_err-insert.ensures.unchanged (sharing-table c.self.inside.places c.self.inside.table c.self.invariant)

pub returns-in-Some-clause-sharing : goal.returns-in-Some-clause-sharing
returns-in-Some-clause-sharing g c = sharing-table c.insert.new.self c.add_owner.new.table (invariant_of-self-in-Some g c)

pub returns-in_default-clause-sharing : goal.returns-in_default-clause-sharing
returns-in_default-clause-sharing g c = sharing-table c.insert.new.self c.self.inside.table (invariant_of-self-in_default g c)

pub place_of-place-requires : goal.place_of-place-requires
place_of-place-requires g c =
    has_place c.self.inside.places c.self.inside.table c.self.invariant c.args.self.now.names
    (ap (λ s. s.names) c.self.view_is) c.args.from c.requires.there
