-- Nodes that stand below one of a height: how much they hold, and what keeps them fit.
use Rattle.std.proofs.Common.{◌≡◌, ◌<◌, ◌≤◌, ◌+◌, ◌*◌, ◌^◌, ℕ, zero, suc, List, [], ◌∷◌, ◌++◌, Some, length, take, drop, slice_get, slice_set, refl, ap, subst, sym, ◌∙◌, arith, length-append}
use Rattle.std.proofs.Math.Nat.{pow-succ'}
use Rattle.std.specs.List.{insert, remove}
use Rattle.std.proofs.lemmas.Option.{none-some, same_Some}
use Rattle.ecow_tree.specs.Grown.{Grown}
use Rattle.ecow_tree.specs.Nodes.{items_of, tallest, Fits, AllFit}

pub four_pos : (n : ℕ) → 0 < 4 ^ n
four_pos zero = omega arith
four_pos (suc n) = omega (arith, pow-succ' 4 n, four_pos n)

module _ {T : Type 0} where
  pub fit_at : (h : ℕ) (nodes : List (Grown T)) (at : ℕ) (node : Grown T) → AllFit h nodes → slice_get nodes at ≡ Some node → Fits h node
  fit_at h [] at node all found = absurd (none-some node found)
  fit_at h (x ∷ xs) zero node all found = subst (Fits h) (same_Some x node found) all.0
  fit_at h (x ∷ xs) (suc at) node all found = fit_at h xs at node all.1 found

  pub fit_set : (h : ℕ) (nodes : List (Grown T)) (at : ℕ) (new : Grown T) → AllFit h nodes → Fits h new → AllFit h (slice_set nodes at new)
  fit_set h [] at new all fits = tt
  fit_set h (x ∷ xs) zero new all fits = (fits, all.1)
  fit_set h (x ∷ xs) (suc at) new all fits = (all.0, fit_set h xs at new all.1 fits)

  pub fit_append : (h : ℕ) (xs ys : List (Grown T)) → AllFit h xs → AllFit h ys → AllFit h (xs ++ ys)
  fit_append h [] ys left right = right
  fit_append h (x ∷ xs) ys left right = (left.0, fit_append h xs ys left.1 right)

  pub fit_take : (h n : ℕ) (nodes : List (Grown T)) → AllFit h nodes → AllFit h (take n nodes)
  fit_take h zero nodes all = tt
  fit_take h (suc n) [] all = tt
  fit_take h (suc n) (x ∷ xs) all = (all.0, fit_take h n xs all.1)

  pub fit_drop : (h n : ℕ) (nodes : List (Grown T)) → AllFit h nodes → AllFit h (drop n nodes)
  fit_drop h zero nodes all = all
  fit_drop h (suc n) [] all = tt
  fit_drop h (suc n) (x ∷ xs) all = fit_drop h n xs all.1

  pub fit_insert : (h : ℕ) (nodes : List (Grown T)) (i : ℕ) (new : Grown T) → AllFit h nodes → Fits h new → AllFit h (insert nodes i new)
  fit_insert h nodes i new all fits = fit_append h (take i nodes) (new ∷ drop i nodes) (fit_take h i nodes all) (fits, fit_drop h i nodes all)

  pub fit_remove : (h : ℕ) (nodes : List (Grown T)) (i : ℕ) → AllFit h nodes → AllFit h (remove nodes i)
  fit_remove h nodes i all = fit_append h (take i nodes) (drop (suc i) nodes) (fit_take h i nodes all) (fit_drop h (suc i) nodes all)

  pub fit_low : (h : ℕ) (nodes : List (Grown T)) → AllFit h nodes → tallest nodes ≤ h
  fit_low h [] all = omega arith
  fit_low h (x ∷ xs) all = omega (arith, all.0.height, fit_low h xs all.1)

  pub fit_none : (h : ℕ) (nodes : List (Grown T)) → AllFit h nodes → h ≡ 0 → nodes ≡ []
  fit_none h [] all none = refl
  fit_none h (x ∷ xs) all none = absurd (omega (arith, all.0.height, none))

  pub fit_some : (h : ℕ) (nodes : List (Grown T)) → AllFit h nodes → 0 < length nodes → 0 < h
  fit_some h [] all some = absurd (omega (arith, some))
  fit_some h (x ∷ xs) all some = omega (arith, all.0.height)

  -- a node holds a fourth of what one above must hold
  fourth : (h : ℕ) (x : Grown T) → Fits h x → 4 ^ h ≤ 4 * length x.items
  fourth h x fits =
      let e : h ≡ suc x.height = omega (arith, fits.height) in
      let power : 4 ^ h ≡ 4 * 4 ^ x.height = ap (λ n. 4 ^ n) e ∙ pow-succ' 4 x.height in
      omega (arith, power, fits.weight)

  pub fit_one : (h : ℕ) (nodes : List (Grown T)) → AllFit h nodes → 0 < length nodes → 4 ^ h ≤ 4 * length (items_of nodes)
  fit_one h [] all some = absurd (omega (arith, some))
  fit_one h (x ∷ xs) all some = omega (arith, fourth h x all.0, length-append x.items (items_of xs))

  pub fit_two : (h : ℕ) (nodes : List (Grown T)) → AllFit h nodes → 2 ≤ length nodes → 4 ^ h < 4 * length (items_of nodes)
  fit_two h [] all some = absurd (omega (arith, some))
  fit_two h (x ∷ xs) all some =
      omega (arith, four_pos h, fourth h x all.0, fit_one h xs all.1 (omega (arith, some)), length-append x.items (items_of xs))

  fit_three : (h : ℕ) (nodes : List (Grown T)) → AllFit h nodes → 3 ≤ length nodes → 3 * 4 ^ h ≤ 4 * length (items_of nodes)
  fit_three h [] all some = absurd (omega (arith, some))
  fit_three h (x ∷ []) all some = absurd (omega (arith, some))
  fit_three h (x ∷ (y ∷ zs)) all some =
      omega (
        arith,
        fourth h x all.0,
        fourth h y all.1.0,
        fit_one h zs all.1.1 (omega (arith, some)),
        length-append x.items (y.items ++ items_of zs),
        length-append y.items (items_of zs),
      )

  pub fit_four : (h : ℕ) (nodes : List (Grown T)) → AllFit h nodes → 4 ≤ length nodes → 4 ^ h ≤ length (items_of nodes)
  fit_four h [] all some = absurd (omega (arith, some))
  fit_four h (x ∷ xs) all some =
      omega (arith, fourth h x all.0, fit_three h xs all.1 (omega (arith, some)), length-append x.items (items_of xs))

  pub fit_five : (h : ℕ) (nodes : List (Grown T)) → AllFit h nodes → 5 ≤ length nodes → 4 ^ h < length (items_of nodes)
  fit_five h [] all some = absurd (omega (arith, some))
  fit_five h (x ∷ xs) all some =
      omega (arith, four_pos h, fourth h x all.0, fit_four h xs all.1 (omega (arith, some)), length-append x.items (items_of xs))

  -- a node that is put alone below another
  pub lifted : (h : ℕ) (new none : List (Grown T)) (self copy : Grown T) → new ≡ none ++ copy ∷ [] → none ≡ [] → copy ≡ self → self.height ≡ h
      → 4 ^ self.height ≤ length self.items → AllFit (h + 1) new
  lifted h new none self copy is empty same height weight =
      subst (AllFit (h + 1)) (sym (is ∙ ap (λ ns. ns ++ copy ∷ []) empty ∙ ap (λ n. n ∷ []) same))
      (record { height = omega (arith, height); weight = weight }, tt)

  -- a leaf that comes behind others
  pub pushed_fit : (h : ℕ) (nodes block new : List (Grown T)) (leaf : Grown T) → new ≡ block ++ leaf ∷ [] → block ≡ nodes → AllFit h nodes → h ≡ 1
      → leaf.height ≡ 0 → 0 < length leaf.items → AllFit h new
  pushed_fit h nodes block new leaf is was all above low some =
      let power : 4 ^ leaf.height ≡ 1 = ap (λ n. 4 ^ n) low in
      subst (AllFit h) (sym (is ∙ ap (λ ns. ns ++ leaf ∷ []) was))
      (fit_append h nodes (leaf ∷ []) all
      (record { height = omega (arith, above, low); weight = omega (arith, power, some) }, tt))
