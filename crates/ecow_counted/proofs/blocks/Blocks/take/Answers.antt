use Rattle.std.proofs.Common.{ap, ◌∙◌, Some}
use Rattle.ecow_counted.specs.Places.{entry_in}
use Rattle.ecow_counted.proofs.Changes.{entry_at}
use Rattle.ecow_counted.proofs.Updates.{room_for_one, taken_names, taken_table, bare_taken, taken_block, taken_room}
use Rattle.ecow_counted.proofs.Placing.{sharing-table}
use Rattle.ecow_counted.proofs.Updates.{has_place, shared_names_are}
use Rattle.ecow_counted.proofs.blocks.Blocks.take.Goals as goal

pub drop_owner-requires-clause-some : goal.drop_owner-requires-clause-some
drop_owner-requires-clause-some g c = λ entry at. (c.self.invariant.owned c.in-Some.place entry at).some

pub invariant_of-self : goal.invariant_of-self
invariant_of-self g c =
    let source = (c.place_of.ensures ∙ ap Some c.in-Some.is) in
    let there = entry_at c.self.inside.places c.self.inside.table c.args.name c.self.invariant c.in-Some.place source in
    taken_table c.self.inside.places c.self.inside.table c.self.invariant c.args.self.now.names
    (ap (λ s. s.names) c.self.view_is) c.args.name c.in-Some.place source c.set_place.new.places
    c.drop_owner.new.table c.set_place.ensures there.0 there.1
    (λ one. let h = c.drop_owner.ensures.last there.0 there.1 one in (h.1, h.2))
    (λ more. let h = c.drop_owner.ensures.counted there.0 there.1 more in (h.1, h.2)) c.drop_owner.ensures.others

pub returns-in-Some-clause-names : goal.returns-in-Some-clause-names
returns-in-Some-clause-names g c =
    let source = (c.place_of.ensures ∙ ap Some c.in-Some.is) in
    let there = entry_at c.self.inside.places c.self.inside.table c.args.name c.self.invariant c.in-Some.place source in
    taken_names c.self.inside.places c.self.inside.table c.self.invariant c.args.self.now.names
    (ap (λ s. s.names) c.self.view_is) c.args.name c.in-Some.place source c.set_place.new.places
    c.drop_owner.new.table c.set_place.ensures there.0 there.1
    (λ one. let h = c.drop_owner.ensures.last there.0 there.1 one in (h.1, h.2))
    (λ more. let h = c.drop_owner.ensures.counted there.0 there.1 more in (h.1, h.2)) c.drop_owner.ensures.others

pub returns-in-Some-clause-block : goal.returns-in-Some-clause-block
returns-in-Some-clause-block g c =
    let source = (c.place_of.ensures ∙ ap Some c.in-Some.is) in
    let there = entry_at c.self.inside.places c.self.inside.table c.args.name c.self.invariant c.in-Some.place source in
    taken_block c.self.inside.places c.self.inside.table c.self.invariant c.args.self.now.names
    (ap (λ s. s.names) c.self.view_is) c.args.name there.0 (ap (entry_in c.self.inside.table) source ∙ there.1) c.drop_owner.result
    (λ one. (c.drop_owner.ensures.last there.0 there.1 one).0) (λ more. (c.drop_owner.ensures.counted there.0 there.1 more).0)

pub returns-in-Some-clause-room : goal.returns-in-Some-clause-room
returns-in-Some-clause-room g c = λ some.
    let source = (c.place_of.ensures ∙ ap Some c.in-Some.is) in
    let there = entry_at c.self.inside.places c.self.inside.table c.args.name c.self.invariant c.in-Some.place source in
    room_for_one c.drop_owner.new.table (taken_room there.0 (c.self.invariant.owned c.in-Some.place there.0 there.1).some c.drop_owner.result some
    (λ one. (c.drop_owner.ensures.last there.0 there.1 one).3) (λ more. (c.drop_owner.ensures.counted there.0 there.1 more).0))

pub returns-in-None-clause-names : goal.returns-in-None-clause-names
returns-in-None-clause-names g c =
    (bare_taken c.self.inside.places c.self.inside.table c.self.invariant c.args.self.now.names
    (ap (λ s. s.names) c.self.view_is) c.args.name
    (ap (entry_in c.self.inside.table) (c.place_of.ensures ∙ ap Some c.in-None.is)) c.requires.there).0

pub returns-in-None-clause-block : goal.returns-in-None-clause-block
returns-in-None-clause-block g c =
    (bare_taken c.self.inside.places c.self.inside.table c.self.invariant c.args.self.now.names
    (ap (λ s. s.names) c.self.view_is) c.args.name
    (ap (entry_in c.self.inside.table) (c.place_of.ensures ∙ ap Some c.in-None.is)) c.requires.there).1

pub returns-in-Some-clause-sharing : goal.returns-in-Some-clause-sharing
returns-in-Some-clause-sharing g c = sharing-table c.set_place.new.places c.drop_owner.new.table (invariant_of-self g c)

pub returns-in-None-clause-sharing : goal.returns-in-None-clause-sharing
returns-in-None-clause-sharing g c =
    shared_names_are c.self.inside.places c.self.inside.table c.self.invariant c.args.self.now.names (ap (λ s. s.names) c.self.view_is)

pub place_of-requires : goal.place_of-requires
place_of-requires g c =
    has_place c.self.inside.places c.self.inside.table c.self.invariant c.args.self.now.names
    (ap (λ s. s.names) c.self.view_is) c.args.name c.requires.there
