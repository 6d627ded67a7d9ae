-- Items side by side and empty places, at any element type: one is taken from the end or put there, and runs are cut and glued. Assumes `Logic`.
use mathlib.Core.Path.{◌≡◌, refl, sym, ap, ◌∙◌}
use Prim.Native.Nat.{ℕ, zero, suc, ◌+◌, ◌-◌, ◌*◌, ◌≤◌, ◌<◌}
use native.Mathlib.Omega.{arith}
use native.Mathlib.Nat.{add_comm, zero-mul}
use mathlib.Core.List.{List, [], ◌∷◌, ◌++◌}
use lib.ListN.{length, get_or, take, drop as drop_l, length-append, length-drop, take-append-drop}
use lib.Seq.{length-take-le}
use seplogic.Ra.Ura.{Ura}
use base.Fraction.{full_share}
use base.Logic.{SProp, ent, emp, id⊢}
use base.Fml.{Fml, froom}
use mir.Syntax.{ty_array}
use types.Logic.{Logic, sem}
use types.Kit.{join, ‵, ◌⊛◌, given, ◌$◌, ◌∵◌, !, qed, by, move, use0, use1, use2, split, learn, rewrite, done}
use denote.Memory.{part_at}
use denote.Array.{Array}
use denote.Index.{row, place_is}
use Rattle.core.proofs.mem.Param.{El, R, el_x, elτ}
use Rattle.core.proofs.ptr.Rows as rows
use Rattle.core.proofs.ptr.Rows.{next, add_times, hd, take_all, take_snoc}
use Rattle.core.proofs.str.Laws.{order}
use mathlib.Core.Logic.{⊎_elim}
use Rattle.std.proofs.lemmas.List.{take_all as take_front, drop_all as drop_front}
use Rattle.std_alloc.proofs.RawLayout.{as_raw, as_written}
use Rattle.ecow_block.proofs.Memory.{sz, Held, Spare}

-- a list that has items is some and a last one
pub last_of : {X : Type 0} (xs : List X) → 0 < length xs → (p : List X × X) × (xs ≡ p.0 ++ p.1 ∷ [])
last_of xs lt =
    let k = length xs - 1 in let one : length xs ≡ suc k = omega arith in let d = hd xs lt in
    ((take k xs, get_or xs k d), sym (take_all xs) ∙ ap (λ j. take j xs) one ∙ take_snoc xs k d (omega arith))

module _ (E : El) {M : Type 1} {𝓤 : Ura M} (𝓛 : Logic 𝓤) (b : ℕ) where
  abbrev ◌⊢◌ : Fml → SProp 𝓤 → Type 1
  F ⊢ Q = ent 𝓤 (sem 𝓛 F) Q

  abbrev ◌&◌ : Fml → Fml → SProp 𝓤
  F & G = base.Logic.sep 𝓤 (sem 𝓛 F) (sem 𝓛 G)

  infix 26 ◌⊢◌
  infix 35 ◌&◌
  abbrev s : ℕ
  s = sz E

  abbrev pub E' : rows.El
  E' = record { row = E.row; laws = E.laws }

  abbrev Room : ℕ → ℕ → Fml
  Room o n = froom (ty_array (elτ E) n) b o

  abbrev All : List (el_x E) → ℕ → Fml
  All xs o = row (R E) full_share xs b o

  -- the empty place behind n others, at most c in all
  pub spare_out : (o n c : ℕ) → n < c → Spare E b (o + n * s) (c - n) ⊢ froom (elτ E) b (n * s + o) & Spare E b (o + (n + 1) * s) (c - (n + 1))
  spare_out o n c lt = qed 𝓛 (‵ (Spare E b (o + n * s) (c - n)) ∷ []) ∵ as_written ! (ty_array (elτ E) (c - n)) b (o + n * s) $
      use1 𝓛 (‵ (froom (elτ E) b (n * s + o)) ⊛ ‵ (Room (o + (n + 1) * s) (c - (n + 1)))) (rows.spare E' 𝓛 b o n c lt) $ split ! $
      move ! (1 ∷ []) $ as_raw ! (ty_array (elτ E) (c - (n + 1))) b (o + (n + 1) * s) $ move ! (1 ∷ []) $ done !

  pub spare_in : (o n c : ℕ) → n < c → ent 𝓤 (froom (elτ E) b (n * s + o) & Spare E b (o + (n + 1) * s) (c - (n + 1))) (sem 𝓛 (Spare E b (o + n * s) (c - n)))
  spare_in o n c lt =
      let there : o + (n + 1) * s ≡ o + n * s + s = omega (arith, next n s) in
      let here : n * s + o ≡ o + n * s = omega arith in let many : suc (c - (n + 1)) ≡ c - n = omega arith in
      qed 𝓛 (‵ (froom (elτ E) b (n * s + o)) ∷ ‵ (Spare E b (o + (n + 1) * s) (c - (n + 1))) ∷ []) ∵
      rewrite ! 0 (λ (k : ℕ). ‵ (froom (elτ E) b k)) here refl $ rewrite ! 1 (λ (k : ℕ). ‵ (Spare E b k (c - (n + 1)))) there refl $ move ! (1 ∷ []) $
      as_written ! (ty_array (elτ E) (c - (n + 1))) b (o + n * s + s) $ move ! (1 ∷ 0 ∷ []) $
      use2 𝓛 (‵ (Room (o + n * s) (suc (c - (n + 1))))) (𝓛.laws.room_cons (elτ E) (c - (n + 1)) b (o + n * s)) $
      rewrite ! 0 (λ (k : ℕ). ‵ (Room (o + n * s) k)) many refl $ as_raw ! (ty_array (elτ E) (c - n)) b (o + n * s) $ done !

  -- the last item
  pub item_in : (o : ℕ) (xs : List (el_x E)) (x : el_x E)
      → ent 𝓤 (Held E b o xs & part_at (R E) full_share x b (length xs * s + o)) (sem 𝓛 (Held E b o (xs ++ x ∷ [])))
  item_in o xs x = qed 𝓛 (‵ (Held E b o xs) ∷ ‵ (part_at (R E) full_share x b (length xs * s + o)) ∷ []) ∵
      use2 𝓛 (‵ (part_at (Array (R E) (length xs + 1)) full_share (xs ++ x ∷ []) b o)) (rows.snoc E' 𝓛 b o (length xs) xs x) $
      rewrite ! 0 (λ (k : ℕ). ‵ (part_at (Array (R E) k) full_share (xs ++ x ∷ []) b o)) (sym (length-append xs (x ∷ []))) refl $ done !

  pub item_out : (o : ℕ) (xs : List (el_x E)) (x : el_x E) → Held E b o (xs ++ x ∷ []) ⊢ Held E b o xs & part_at (R E) full_share x b (length xs * s + o)
  item_out o xs x = rows.unsnoc E' 𝓛 b o (length (xs ++ x ∷ [])) (length xs) xs x refl

  pub to_row : (o : ℕ) (xs : List (el_x E)) → Held E b o xs ⊢ sem 𝓛 (All xs o)
  to_row o xs =
      qed 𝓛 (‵ (Held E b o xs) ∷ []) ∵ use1 𝓛 (given (length xs ≡ length xs) (‵ (All xs o)))
      (rows.apart E' 𝓛 full_share (length xs) xs b o) $ learn ! (λ _. done !)

  pub of_row : (o : ℕ) (xs : List (el_x E)) → All xs o ⊢ sem 𝓛 (Held E b o xs)
  of_row o xs = rows.whole E' 𝓛 full_share (length xs) xs b o refl

  pub none_held : (o : ℕ) → ent 𝓤 (emp 𝓤) (sem 𝓛 (Held E b o []))
  none_held o = of_row o []

  pub no_spare : (o n : ℕ) → n ≡ 0 → ent 𝓤 (emp 𝓤) (sem 𝓛 (Spare E b o n))
  no_spare o n e =
      qed 𝓛 [] ∵ use0 𝓛 (‵ (Room o zero)) (𝓛.laws.room_nil (elτ E) b o) $ as_raw ! (ty_array (elτ E) zero) b o $
      rewrite ! 0 (λ (k : ℕ). ‵ (Spare E b o k)) (sym e) refl $ done !

  -- two runs of items, the second at the place behind the first
  pub cut : (o at : ℕ) (xs ys : List (el_x E)) → at ≡ o + length xs * s → Held E b o (xs ++ ys) ⊢ Held E b o xs & Held E b at ys
  cut o at xs ys e = qed 𝓛 (‵ (Held E b o (xs ++ ys)) ∷ []) ∵ use1 𝓛 (‵ (All (xs ++ ys) o)) (to_row o (xs ++ ys)) $
      use1 𝓛 (‵ (All xs o) ⊛ ‵ (All ys (denote.Index.place s o (length xs)))) (rows.row_cut E' 𝓛 full_share xs ys b o) $ split ! $
      use1 𝓛 (‵ (Held E b o xs)) (of_row o xs) $ move ! (1 ∷ []) $
      rewrite ! 0 (λ (k : ℕ). ‵ (All ys k)) (place_is s o (length xs) ∙ add_comm (length xs * s) o ∙ sym e) refl $
      use1 𝓛 (‵ (Held E b at ys)) (of_row at ys) $ move ! (1 ∷ []) $ done !

  pub glue : (o at : ℕ) (xs ys : List (el_x E)) → at ≡ o + length xs * s → ent 𝓤 (Held E b o xs & Held E b at ys) (sem 𝓛 (Held E b o (xs ++ ys)))
  glue o at xs ys e =
      qed 𝓛 (‵ (Held E b o xs) ∷ ‵ (Held E b at ys) ∷ []) ∵ use1 𝓛 (‵ (All xs o)) (to_row o xs) $
      move ! (1 ∷ []) $ use1 𝓛 (‵ (All ys at)) (to_row at ys) $
      rewrite ! 0 (λ (k : ℕ). ‵ (All ys k)) (e ∙ add_comm o (length xs * s) ∙ sym (place_is s o (length xs))) refl $ move ! (1 ∷ 0 ∷ []) $
      use2 𝓛 (‵ (All (xs ++ ys) o)) (rows.row_glue E' 𝓛 full_share xs ys b o) $ by ! (of_row o (xs ++ ys))

  -- and two runs of empty places
  pub spare_cut : (o at n m : ℕ) → at ≡ o + n * s → Spare E b o (n + m) ⊢ Spare E b o n & Spare E b at m
  spare_cut o at n m e = let many : n + m - n ≡ m = omega arith in qed 𝓛 (‵ (Spare E b o (n + m)) ∷ []) ∵ as_written ! (ty_array (elτ E) (n + m)) b o $
      use1 𝓛 (‵ (Room o n) ⊛ ‵ (Room (o + n * s) (n + m - n))) (rows.room_split E' 𝓛 n (n + m) b o (omega arith)) $ split ! $
      as_raw ! (ty_array (elτ E) n) b o $ move ! (1 ∷ []) $ rewrite ! 0 (λ (k : ℕ). ‵ (Room k (n + m - n))) (sym e) refl $
      rewrite ! 0 (λ (k : ℕ). ‵ (Room at k)) many refl $ as_raw ! (ty_array (elτ E) m) b at $ move ! (1 ∷ []) $ done !

  pub spare_glue : (o at n m : ℕ) → at ≡ o + n * s → ent 𝓤 (Spare E b o n & Spare E b at m) (sem 𝓛 (Spare E b o (n + m)))
  spare_glue o at n m e = qed 𝓛 (‵ (Spare E b o n) ∷ ‵ (Spare E b at m) ∷ []) ∵ as_written ! (ty_array (elτ E) n) b o $ move ! (1 ∷ []) $
      as_written ! (ty_array (elτ E) m) b at $ rewrite ! 0 (λ (k : ℕ). ‵ (Room k m)) e refl $ move ! (1 ∷ []) $
      use2 𝓛 (‵ (Room o (n + m))) (rows.glued E' 𝓛 n m (n + m) b o refl) $ as_raw ! (ty_array (elτ E) (n + m)) b o $ done !

  -- a room with n items and c places in all
  abbrev Whole : ℕ → ℕ → List (el_x E) → SProp 𝓤
  Whole o c xs = Held E b o xs & Spare E b (o + length xs * s) (c - length xs)

  -- it is cut in two behind its k-th place, among the items or behind them
  cut_items : (o at k c : ℕ) (xs : List (el_x E)) → at ≡ o + k * s → length xs ≤ c → k ≤ length xs
      → ent 𝓤 (Whole o c xs) (base.Logic.sep 𝓤 (Whole o k (take k xs)) (Whole at (c - k) (drop_l k xs)))
  cut_items o at k c xs begins fits le =
      let left = take k xs in let right = drop_l k xs in let n = length xs in let m = length right in
      let on_left : length left ≡ k = length-take-le k xs le in let on_right : m ≡ n - k = length-drop k xs in
      let whole : n ≡ k + m = omega arith in
      let there : at ≡ o + length left * s = begins ∙ ap (λ j. o + j * s) (sym on_left) in
      let ends : o + n * s ≡ at + m * s = let more = ap (λ j. j * s) whole ∙ add_times k m s in omega arith in
      let many : c - n ≡ c - k - m = omega arith in let none : k - length left ≡ 0 = omega arith in
      qed 𝓛 (‵ (Held E b o xs) ∷ ‵ (Spare E b (o + n * s) (c - n)) ∷ []) ∵
      rewrite ! 0 (λ (zs : List (el_x E)). ‵ (Held E b o zs)) (sym (take-append-drop k xs)) refl $
      use1 𝓛 (‵ (Held E b o left) ⊛ ‵ (Held E b at right)) (cut o at left right there) $ split ! $
      rewrite ! 2 (λ (j : ℕ). ‵ (Spare E b j (c - n))) ends refl $ rewrite ! 2 (λ (j : ℕ). ‵ (Spare E b (at + m * s) j)) many refl $
      use0 𝓛 (‵ (Spare E b (o + length left * s) (k - length left))) (no_spare (o + length left * s) (k - length left) none) $
      move ! (1 ∷ 0 ∷ []) $ join ! $ done !

  cut_spare : (o at k c : ℕ) (xs : List (el_x E)) → at ≡ o + k * s → k ≤ c → length xs ≤ k
      → ent 𝓤 (Whole o c xs) (base.Logic.sep 𝓤 (Whole o k (take k xs)) (Whole at (c - k) (drop_l k xs)))
  cut_spare o at k c xs begins fits le =
      let n = length xs in let all : take k xs ≡ xs = take_front k xs le in let none : drop_l k xs ≡ [] = drop_front k xs le in
      let parts : c - n ≡ (k - n) + (c - k) = omega arith in
      let there : at ≡ o + n * s + (k - n) * s = let whole : k ≡ n + (k - n) = omega arith in
      let more = ap (λ j. j * s) whole ∙ add_times n (k - n) s in omega arith in
      let here : at ≡ at + 0 * s = let zero_times = zero-mul s in omega arith in let rest : c - k ≡ c - k - 0 = omega arith in
      qed 𝓛 (‵ (Held E b o xs) ∷ ‵ (Spare E b (o + n * s) (c - n)) ∷ []) ∵ move ! (1 ∷ []) $ rewrite ! 0 (λ (j : ℕ). ‵ (Spare E b (o + n * s) j)) parts refl $
      use1 𝓛 (‵ (Spare E b (o + n * s) (k - n)) ⊛ ‵ (Spare E b at (c - k))) (spare_cut (o + n * s) at (k - n) (c - k) there) $ split ! $
      rewrite ! 1 (λ (j : ℕ). ‵ (Spare E b j (c - k))) here refl $ rewrite ! 1 (λ (j : ℕ). ‵ (Spare E b (at + 0 * s) j)) rest refl $
      move ! (2 ∷ 0 ∷ []) $ join ! $
      rewrite ! 0 (λ (zs : List (el_x E)). ‵ (Held E b o zs) ⊛ ‵ (Spare E b (o + length zs * s) (k - length zs))) (sym all) refl $ move ! (1 ∷ []) $
      use0 𝓛 (‵ (Held E b at [])) (none_held at) $ join ! $
      rewrite ! 0 (λ (zs : List (el_x E)). ‵ (Held E b at zs) ⊛ ‵ (Spare E b (at + length zs * s) (c - k - length zs)))
      (sym none) refl $ move ! (1 ∷ 0 ∷ []) $ done !

  pub cut_room : (o at k c : ℕ) (xs : List (el_x E)) → at ≡ o + k * s → length xs ≤ c → k ≤ c
      → ent 𝓤 (Whole o c xs) (base.Logic.sep 𝓤 (Whole o k (take k xs)) (Whole at (c - k) (drop_l k xs)))
  cut_room o at k c xs begins fits le =
      ⊎_elim (λ below. cut_items o at k c xs begins fits (omega arith)) (λ past. cut_spare o at k c xs begins le past) (order k (length xs))
