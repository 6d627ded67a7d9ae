use Rattle.std.proofs.Common.{ap, sym, ◌≡◌, ◌∙◌, Some}
use Rattle.std.specs.FinMap.{get}
use Rattle.std.specs.Option.{option_copied_mut}
use borrow.Follows.Closed.{read_of}
use Rattle.ecow_model.proofs.PutBack.{insert_same}
use Rattle.ecow_store.proofs.kinds.payload_at.Goals as goal

pub returns-in-Some : goal.returns-in-Some
returns-in-Some g c =
    let held = c.in-Some.value.now in
    let stands : get c.args.values.now c.args.name ≡ Some held =
    sym c.get_mut.ensures.value ∙ ap option_copied_mut c.in-Some.is in (
      ap (read_of _ _) (insert_same c.args.values.now c.args.name held stands),
      record { writes_back = tt; value = rw stands c.payload_mut.ensures.value },
    )
