-- Rooms and slots: the element type as the lemmas on slots take it, and where a block begins.
use mathlib.Core.Path.{◌≡◌, sym, ap, subst}
use Prim.Native.Nat.{ℕ, ◌+◌}
use denote.RawPtr.{Ptr, InBlock, block_ptr, null_ptr, block_of, count_of, ◌+ₚ◌}
use Rattle.core.proofs.mem.Param.{El}
use Rattle.std_alloc.proofs.VecSteps.El.{El as Vec_el, no_al}

abbrev pub in_vec : El → Vec_el
in_vec E = record { row = E.row; laws = E.laws; al = no_al }

-- what lies n bytes below a place of a block
pub below : (p : Ptr) (n b o : ℕ) → p +ₚ n ≡ block_ptr b o → (p ≡ block_ptr b (count_of p)) × (count_of p + n ≡ o)
below (block_ptr b' o') n b o e = (ap (λ k. block_ptr k o') (ap block_of e), ap count_of e)
below null_ptr n b o e = absurd (subst InBlock (sym e) tt)
