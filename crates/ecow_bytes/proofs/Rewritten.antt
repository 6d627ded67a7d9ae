-- What is left of bytes that a closure was lent.
use Rattle.std.proofs.Common.{rules, ◌≡◌, ℕ, List, [], length, take, refl, sym, ap, ◌∙◌, arith}
use Rattle.std.proofs.lemmas.List.{take_all}
use Rattle.std.specs.Fn.{Once}
use Rattle.std.specs.List.{refill}
use denote.Ref.{MutBor}
use Rattle.ecow_list.proofs.Views.{refilled}
use Rattle.ecow_bytes.specs.Rewrites.{Rewrites}

-- of no items none are taken
take_none : (len : ℕ) → take {A = ℕ} len [] ≡ []
take_none len = search rules

module _ {F : Type 0} (g : Once F (MutBor (List ℕ) × Unit {0}) (ℕ × (MutBor (List ℕ) × Unit {0}))) (f : F) where
  -- f was lent xs and left as many, of which new has the first
  pub rewritten : (xs old new : List ℕ) (shown left : MutBor (List ℕ)) (len : ℕ) → xs ≡ old → shown.now ≡ xs → length left.now ≡ length shown.now
      → g.post f (shown, tt) (len, (left, tt)) → new ≡ take len (refill (length xs) xs left.now) → Rewrites g f old new
  rewritten xs old new shown left len same lent long met cut =
      let as_many : length left.now ≡ length xs = long ∙ ap length lent in (
        len,
        left.now,
        record { shown = shown; shows = lent ∙ same; left = left; met = met; leaves = refl },
        as_many ∙ ap length same,
        cut ∙ ap (take len) (refilled (length xs) xs left.now (sym as_many)),
      )

  -- f was lent none, and none are left
  pub none_rewritten : (old new : List ℕ) (shown left : MutBor (List ℕ)) (len : ℕ) → old ≡ [] → new ≡ [] → shown.now ≡ [] → length left.now ≡ length shown.now
      → g.post f (shown, tt) (len, (left, tt)) → Rewrites g f old new
  none_rewritten old new shown left len none stays lent long met =
      let gone : left.now ≡ [] = sym (take_all 0 left.now (omega (arith, long, ap length lent))) in (
        len,
        left.now,
        record { shown = shown; shows = lent ∙ sym none; left = left; met = met; leaves = refl },
        long ∙ ap length (lent ∙ sym none),
        stays ∙ sym (ap (take len) gone ∙ take_none len),
      )
