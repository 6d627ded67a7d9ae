-- The items in bytes, and the bytes of items.
use Rattle.std.proofs.Common.{◌≡◌, ℕ, zero, suc, ◌+◌, ◌-◌, ◌*◌, ◌/◌, ◌%◌, ◌<◌, ◌≤◌, Bool, true, List, [], ◌∷◌, ◌++◌, length, take, drop, refl, sym, ap, ap₂, ◌∙◌, subst, arith, rules, inl, inr}
use Rattle.std.proofs.Math.Nat.{mul-sub, lt_of_mul-lt-mul_right}
use Rattle.std.proofs.Math.Seq.{take-add}
use Rattle.std.proofs.lemmas.List.{drop-drop, take_all, take_rest, length-drop, append-nil}
use Rattle.std.proofs.lemmas.Bool.{cases_lt}
use Rattle.std.proofs.lemmas.List.Folds.{concat-append}
use Rattle.std.specs.Prelude.{slice_set, slice_get, ◌↔◌, Option, Some, IfSome, Result, OnOk}
use Rattle.std.specs.declared.result.Result.TheVariants.{Ok, Err}
use Rattle.std.specs.declared.ops.Bound.TheVariants.{Included, Excluded}
use Rattle.ecow_base.specs.declared.capacity.TheConstants.{MAX_LEN}
use Rattle.ecow_list.specs.Ranges.{AtRange}
use Rattle.ecow_list.proofs.Ranges.{within}
use Rattle.std.specs.Option.{option_map}
use Rattle.std.proofs.lemmas.List.Edits.{paste_all, length-paste, take-paste}
use Rattle.std.proofs.lemmas.Slice.{put_mid-paste}
use borrow.Rule.Slice.PartMut.{put_mid}
use Rattle.ecow_list.proofs.Views.{refilled}
use Rattle.std.specs.List.{concat, copy_within, replace_range, remove, refill}
use Rattle.std.proofs.Math.Seq.{paste}
use Rattle.std.specs.Simd.{first_chunks}
use Rattle.std.proofs.lemmas.Option.{none-some}
use Rattle.ecow_c.specs.declared.status.TheConstants.{OK, NULL}
use Rattle.ecow_c.specs.Arrays.{AltersArray, AltersItems, ItemsPass, are_items, count_in, items_in}

-- the bytes of the first k items
pub concat_first : (n k : ℕ) (xs : List ℕ) → concat (first_chunks n k xs) ≡ take (k * n) xs
concat_first n zero xs = let e : 0 * n ≡ 0 = omega arith in sym (ap (λ m. take m xs) e)
concat_first n (suc k) xs =
    let e : suc k * n ≡ n + k * n = omega arith in
    ap (λ l. take n xs ++ l) (concat_first n k (drop n xs)) ∙ sym (take-add n (k * n) xs) ∙ sym (ap (λ m. take m xs) e)

pub take_first : (n k j : ℕ) (xs : List ℕ) → j ≤ k → take j (first_chunks n k xs) ≡ first_chunks n j xs
take_first n k zero xs le = refl
take_first n zero (suc j) xs le = absurd (omega arith)
take_first n (suc k) (suc j) xs le = ap (λ l. take n xs ∷ l) (take_first n k j (drop n xs) (omega arith))

pub drop_first : (n k j : ℕ) (xs : List ℕ) → j ≤ k → drop j (first_chunks n k xs) ≡ first_chunks n (k - j) (drop (j * n) xs)
drop_first n k zero xs le =
    let e : 0 * n ≡ 0 = omega arith in
    let same : k - 0 ≡ k = omega arith in
    sym (ap₂ (λ m l. first_chunks n m (drop l xs)) same e)
drop_first n zero (suc j) xs le = absurd (omega arith)
drop_first n (suc k) (suc j) xs le =
    let e : n + j * n ≡ suc j * n = omega arith in
    let same : k - j ≡ suc k - suc j = omega arith in
    drop_first n k j (drop n xs) (omega arith) ∙ ap₂ (λ m l. first_chunks n m l) same (drop-drop (j * n) n xs ∙ ap (λ m. drop m xs) e)

pub length_first : (n k : ℕ) (xs : List ℕ) → length (first_chunks n k xs) ≡ k
length_first n zero xs = refl
length_first n (suc k) xs = ap suc (length_first n k (drop n xs))

pub whole : (n : ℕ) (xs : List ℕ) → are_items n xs ≡ true → count_in n xs * n ≡ length xs
whole n xs are = search rules

-- all items have all bytes
pub concat_all : (n : ℕ) (xs : List ℕ) → are_items n xs ≡ true → concat (items_in n xs) ≡ xs
concat_all n xs are =
    let e : length xs ≤ count_in n xs * n = omega (whole n xs are, arith) in
    concat_first n (count_in n xs) xs ∙ take_all _ xs e

pub concat_take : (n k : ℕ) (xs : List ℕ) → are_items n xs ≡ true → k ≤ count_in n xs → concat (take k (items_in n xs)) ≡ take (k * n) xs
concat_take n k xs are le = ap concat (take_first n (count_in n xs) k xs le) ∙ concat_first n k xs

pub concat_drop : (n k : ℕ) (xs : List ℕ) → are_items n xs ≡ true → k ≤ count_in n xs → concat (drop k (items_in n xs)) ≡ drop (k * n) xs
concat_drop n k xs are le =
    let e : length (drop (k * n) xs) ≡ (count_in n xs - k) * n =
    length-drop (k * n) xs ∙ omega (whole n xs are, mul-sub n (count_in n xs) k, arith) in
    let enough : length (drop (k * n) xs) ≤ (count_in n xs - k) * n = omega (e, arith) in
    ap concat (drop_first n (count_in n xs) k xs le) ∙ concat_first n (count_in n xs - k) (drop (k * n) xs) ∙ take_all _ (drop (k * n) xs) enough

-- an item behind all, or several
pub concat_push : (n : ℕ) (xs item : List ℕ) → are_items n xs ≡ true → concat (items_in n xs ++ item ∷ []) ≡ xs ++ item
concat_push n xs item are = concat-append (items_in n xs) (item ∷ []) ∙ ap₂ (λ l m. l ++ m) (concat_all n xs are) (append-nil item)

pub concat_extend : (n : ℕ) (xs ys : List ℕ) → are_items n xs ≡ true → are_items n ys ≡ true → concat (items_in n xs ++ items_in n ys) ≡ xs ++ ys
concat_extend n xs ys are added = concat-append (items_in n xs) (items_in n ys) ∙ ap₂ (λ l m. l ++ m) (concat_all n xs are) (concat_all n ys added)

mul_le : (n j k : ℕ) → j ≤ k → j * n ≤ k * n
mul_le n j k le = grind (arith, le)

-- at most k items, as many as there are
pub concat_take_any : (n k : ℕ) (xs : List ℕ) → are_items n xs ≡ true → concat (take k (items_in n xs)) ≡ take (k * n) xs
concat_take_any n k xs are = elim (cases_lt k (count_in n xs)) [
  | inl lt ↦ concat_take n k xs are (omega (arith, lt))
  | inr ge ↦
      let all : length (items_in n xs) ≤ k = omega (arith, length_first n (count_in n xs) xs, ge) in
      let more : length xs ≤ k * n = omega (arith, whole n xs are, mul_le n (count_in n xs) k ge) in
      ap concat (take_all k (items_in n xs) all) ∙ concat_all n xs are ∙ sym (take_all (k * n) xs more)
]

-- the same where the product is bounded by what is past the end
pub concat_take_most : (n k m : ℕ) (xs : List ℕ) → are_items n xs ≡ true → (k * n ≤ length xs → m ≡ k * n) → (length xs ≤ k * n → length xs ≤ m)
    → concat (take k (items_in n xs)) ≡ take m xs
concat_take_most n k m xs are within past = concat_take_any n k xs are ∙ elim (cases_lt (k * n) (length xs)) [
  | inl lt ↦ sym (ap (λ j. take j xs) (within (omega (arith, lt))))
  | inr ge ↦ take_all (k * n) xs ge ∙ sym (take_all m xs (past ge))
]

-- others in place of some
pub concat_splice : (n start end : ℕ) (xs ys : List ℕ) → are_items n xs ≡ true → are_items n ys ≡ true → start ≤ end → end ≤ count_in n xs
    → concat (replace_range (items_in n xs) start end (items_in n ys)) ≡ replace_range xs (start * n) (end * n) ys
concat_splice n start end xs ys are added in_order in_bounds =
    let front : concat (take start (items_in n xs) ++ items_in n ys) ≡ take (start * n) xs ++ ys =
    concat-append (take start (items_in n xs)) (items_in n ys)
    ∙ ap₂ (λ l m. l ++ m) (concat_take n start xs are (omega arith)) (concat_all n ys added) in
    concat-append (take start (items_in n xs) ++ items_in n ys) (drop end (items_in n xs))
    ∙ ap₂ (λ l m. l ++ m) front (concat_drop n end xs are in_bounds)

pub concat_remove : (n i : ℕ) (xs : List ℕ) → are_items n xs ≡ true → i < count_in n xs
    → concat (remove (items_in n xs) i) ≡ take (i * n) xs ++ drop (i * n + n) xs
concat_remove n i xs are below =
    let e : suc i * n ≡ i * n + n = omega arith in
    concat-append (take i (items_in n xs)) (drop (suc i) (items_in n xs))
    ∙ ap₂ (λ l m. l ++ m) (concat_take n i xs are (omega arith)) (concat_drop n (suc i) xs are (omega arith) ∙ ap (λ m. drop m xs) e)

-- one in place of another
set_parts : {X : Type 0} (xs : List X) (i : ℕ) (x : X) → i < length xs → slice_set xs i x ≡ take i xs ++ x ∷ drop (suc i) xs
set_parts [] i x below = absurd (omega arith)
set_parts (y ∷ xs) zero x below = refl
set_parts (y ∷ xs) (suc i) x below = ap (λ l. y ∷ l) (set_parts xs i x (omega arith))

pub concat_set : (n i : ℕ) (xs item : List ℕ) → are_items n xs ≡ true → i < count_in n xs
    → concat (slice_set (items_in n xs) i item) ≡ take (i * n) xs ++ (item ++ drop (i * n + n) xs)
concat_set n i xs item are below =
    let e : suc i * n ≡ i * n + n = omega arith in
    let within : i < length (items_in n xs) = omega (length_first n (count_in n xs) xs, arith) in
    ap concat (set_parts (items_in n xs) i item within)
    ∙ concat-append (take i (items_in n xs)) (item ∷ drop (suc i) (items_in n xs))
    ∙ ap₂ (λ l m. l ++ (item ++ m)) (concat_take n i xs are (omega arith)) (concat_drop n (suc i) xs are (omega arith) ∙ ap (λ m. drop m xs) e)

-- an item is the bytes at its place
get_first : (n k i : ℕ) (xs : List ℕ) → i < k → slice_get (first_chunks n k xs) i ≡ Some (take n (drop (i * n) xs))
get_first n zero i xs below = absurd (omega arith)
get_first n (suc k) zero xs below =
    let e : 0 * n ≡ 0 = omega arith in
    sym (ap (λ m. Some (take n (drop m xs))) e)
get_first n (suc k) (suc i) xs below =
    let e : n + i * n ≡ suc i * n = omega arith in
    get_first n k i (drop n xs) (omega arith) ∙ ap (λ l. Some (take n l)) (drop-drop (i * n) n xs ∙ ap (λ m. drop m xs) e)

pub get_item : (n i : ℕ) (xs : List ℕ) → i < count_in n xs → slice_get (items_in n xs) i ≡ Some (take n (drop (i * n) xs))
get_item n i xs below = get_first n (count_in n xs) i xs below

-- a place below the end is that of an item
pub below_end : (n i : ℕ) (xs : List ℕ) → are_items n xs ≡ true → i * n < length xs → i < count_in n xs
below_end n i xs are below = lt_of_mul-lt-mul_right n (omega (whole n xs are, arith))

pub past_end : (n i : ℕ) (xs : List ℕ) → are_items n xs ≡ true → length xs ≤ i * n → count_in n xs ≤ i
past_end n i xs are past = search rules

pub item_fits : (n i : ℕ) (xs : List ℕ) → are_items n xs ≡ true → i < count_in n xs → i * n + n ≤ length xs
item_fits n i xs are below = search rules

-- what a call does to the bytes, said of the items
pub alters_items : (n : ℕ) (change : List (List ℕ) → List (List ℕ)) (f : List ℕ → List ℕ) (old : Option (List ℕ)) (status : ℕ)
    (new : Option (List ℕ)) (bytes : List ℕ) → old ≡ Some bytes → concat (change (items_in n bytes)) ≡ f bytes
    → AltersArray f old status new → AltersItems n change old status new
alters_items n change f old status new bytes is same a = record {
  ok = λ done. a.ok done ∙ ap (option_map f) is ∙ ap Some (sym same) ∙ sym (ap (option_map (λ bs. concat (change (items_in n bs)))) is);
  refused = a.refused;
  null = a.null;
}

-- what a block holds in which some bytes were written
pub written : (block all bytes item copied : List ℕ) (start k : ℕ) → all ≡ block → block ≡ bytes → copied ≡ item → start + length item ≤ length bytes
    → k ≡ length item → refill (length block) block (put_mid start k all copied) ≡ take start bytes ++ (item ++ drop (start + length item) bytes)
written block all bytes item copied start k same was is fits size =
    let put : put_mid start k all copied ≡ take start bytes ++ (item ++ drop (start + length item) bytes) =
    put_mid-paste start k all copied item (length item) is (sym size) refl ∙ paste_all all start item (length item) refl
    ∙ ap (λ xs. take start xs ++ (item ++ drop (start + length item) xs)) (same ∙ was) in
    let len : length block ≡ length (put_mid start k all copied) =
    ap length was ∙ sym (length-paste bytes start item (length item) fits (omega arith))
    ∙ ap (λ xs. length xs) (paste_all bytes start item (length item) refl) ∙ sym (ap length put) in
    refilled (length block) block (put_mid start k all copied) len ∙ put

-- what is left of a block in which the bytes behind an item went to its place
pub closed : (block all bytes moved : List ℕ) (start size len : ℕ) → all ≡ block → block ≡ bytes → len ≡ length bytes → start + size ≤ length bytes
    → moved ≡ copy_within all (start + size) len start
    → take (len - size) (refill (length block) block moved) ≡ take start bytes ++ drop (start + size) bytes
closed block all bytes moved start size len same was all_len fits is =
    let n = len - (start + size) in
    let rest : length (drop (start + size) bytes) ≡ n = omega (arith, length-drop (start + size) bytes, all_len) in
    let here : moved ≡ paste bytes start (drop (start + size) bytes) n = is ∙ ap (λ xs. paste xs start (drop (start + size) xs) n) (same ∙ was) in
    let long : length moved ≡ length bytes =
    ap length here ∙ length-paste bytes start (drop (start + size) bytes) n (omega (arith, all_len, fits)) (omega (arith, rest)) in
    let cut : len - size ≡ start + n = omega (arith, all_len, fits) in
    ap (take (len - size)) (refilled (length block) block moved (omega (arith, ap length was, long)) ∙ here)
    ∙ ap (λ m. take m (paste bytes start (drop (start + size) bytes) n)) cut
    ∙ take-paste bytes start (drop (start + size) bytes) n (omega (arith, fits)) (omega (arith, rest))
    ∙ ap (λ xs. take start bytes ++ xs) (take_all n (drop (start + size) bytes) (omega (arith, rest)))

-- the same of a call that writes to a block that was lent, and is done
pub lent_alters : {X : Type 0} (n : ℕ) (change : List (List ℕ) → List (List ℕ)) (f : List ℕ → List ℕ) (old : Option (List ℕ)) (bytes : List ℕ)
    (lender : X → List ℕ) (x : X) → old ≡ Some bytes → concat (change (items_in n bytes)) ≡ f bytes → lender x ≡ f bytes → 0 ≡ OK → (0 ≡ NULL → ⊥)
    → AltersItems n change old 0 (Some (lender x))
lent_alters n change f old bytes lender x is same left done no_null = record {
  ok = λ _. ap Some (left ∙ sym same) ∙ sym (ap (option_map (λ bs. concat (change (items_in n bs)))) is);
  refused = λ other. absurd (other done);
  null = ((λ e. absurd (no_null e)), λ none. absurd (none-some bytes (sym none ∙ is)));
}

pub taken : (start size : ℕ) (all : List ℕ) → take (start + size - start) (drop start all) ≡ take size (drop start all)
taken start size all = let e : start + size - start ≡ size = omega arith in ap (λ n. take n (drop start all)) e

-- a range of items is a range of their bytes
pub bytes_in_order : (n start end : ℕ) → start ≤ end → start * n ≤ end * n
bytes_in_order n start end le = mul_le n start end le

pub bytes_in_bounds : (n end : ℕ) (xs : List ℕ) → are_items n xs ≡ true → end ≤ count_in n xs → end * n ≤ length xs
bytes_in_bounds n end xs are le = omega (arith, whole n xs are, mul_le n end (count_in n xs) le)

pub replaced : {R E : Type 0} (result : Result R E) (xs new added : List ℕ) (s e : ℕ) → s ≤ e → e ≤ length xs
    → OnOk result (AtRange (Included s, Excluded e) (length xs) (λ i j. new ≡ replace_range xs i j added))
    → OnOk result (new ≡ replace_range xs s e added)
replaced (Ok r) xs new added s e in_order in_bounds h =
    subst (λ (range : Option (ℕ × ℕ)). IfSome range (λ part. new ≡ replace_range xs part.0 part.1 added)) (within s e (length xs) in_order in_bounds) h
replaced (Err r) xs new added s e in_order in_bounds h = tt

-- where there are no bytes, those that are added alone pass the limit
pub passes_empty : (n start end : ℕ) (added xs : List ℕ) → xs ≡ [] → are_items n xs ≡ true → start ≤ end → end ≤ count_in n xs
    → (MAX_LEN < length xs + length added) ↔ ItemsPass n start end added xs
passes_empty n start end added xs none are in_order in_bounds =
    let part : (end - start) * n ≤ end * n = mul_le n (end - start) end (omega arith) in
    let product : (end - start) * n ≡ 0 = omega (arith, part, bytes_in_bounds n end xs are in_bounds, ap length none) in
    ((λ past. (in_order, in_bounds, omega (arith, past, product))), λ pass. omega (arith, pass.2, product))
