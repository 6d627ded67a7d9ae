use Rattle.std.proofs.Common.{rules}
use Rattle.ecow_string.proofs.Texts.{AreUtf8-replace, chars-replace, boundary_fits}
use Rattle.ecow_string.proofs.string.SmallText.insert_str.Goals as goal

pub insert_slice-requires : goal.insert_slice-requires
insert_slice-requires g c = (search rules, boundary_fits _ c.args.index c.self.invariant (rw (← c.self.view_is) at c.requires))

pub invariant_of-self-2 : goal.invariant_of-self-2
invariant_of-self-2 g c =
    let cut = rw (← c.self.view_is) at c.requires in
    rw (c.in_ok-insert_slice.ensures.bytes, c.as_bytes.ensures.value) (AreUtf8-replace _ _ c.args.index c.args.index c.self.invariant c.utf8.text cut cut)

pub returns-clause-chars : goal.returns-clause-chars
returns-clause-chars g c =
    let cut = rw (← c.self.view_is) at c.requires in
    rw (← c.self.view_is, c.in_ok-insert_slice.ensures.bytes, c.as_bytes.ensures.value)
    (chars-replace _ _ c.args.index c.args.index c.self.invariant c.utf8.text cut cut)
