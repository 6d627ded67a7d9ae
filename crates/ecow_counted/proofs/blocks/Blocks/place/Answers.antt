use Rattle.std.proofs.Common.{ap, refl, arith}
use Rattle.ecow_counted.proofs.Updates.{there_still, own_names, own_table}
use Rattle.ecow_counted.proofs.Placing.{sharing-table}
use Rattle.ecow_counted.proofs.blocks.Blocks.place.Goals as goal

pub set_place-requires : goal.set_place-requires
set_place-requires g c =
    there_still c.self.inside.places c.self.inside.table c.self.invariant c.args.self.now.names
    (ap (λ s. s.names) c.self.view_is) c.args.name c.requires.bare

pub invariant_of-self : goal.invariant_of-self
invariant_of-self g c =
    own_table c.self.inside.places c.self.inside.table c.self.invariant c.args.self.now.names
    (ap (λ s. s.names) c.self.view_is) c.args.name c.requires.bare c.set_place.new.places c.insert_reserved-place.new.self
    c.insert_reserved-place.result (record { block = c.args.block; owners = 1 }) c.set_place.ensures
    c.insert_reserved-place.ensures.was_vacant c.insert_reserved-place.ensures.updates.changed
    c.insert_reserved-place.ensures.updates.others c.insert_reserved-place.ensures.len refl
    (let n = c.len-fits.ensures.len in let w = c.len-fits.ensures.bounded in
    omega (arith, n, w.0)) c.len-fits.ensures.bounded.1 c.requires.backed

pub returns : goal.returns
returns g c =
    record {
      names = own_names c.self.inside.places c.self.inside.table c.self.invariant c.args.self.now.names
          (ap (λ s. s.names) c.self.view_is) c.args.name c.requires.bare c.set_place.new.places c.insert_reserved-place.new.self
          c.insert_reserved-place.result (record { block = c.args.block; owners = 1 }) c.set_place.ensures
          c.insert_reserved-place.ensures.was_vacant c.insert_reserved-place.ensures.updates.changed
          c.insert_reserved-place.ensures.updates.others c.insert_reserved-place.ensures.len refl
          (let n = c.len-fits.ensures.len in let w = c.len-fits.ensures.bounded in
          omega (arith, n, w.0)) c.len-fits.ensures.bounded.1 c.requires.backed;
      sharing = sharing-table c.set_place.new.places c.insert_reserved-place.new.self (invariant_of-self g c);
    }
