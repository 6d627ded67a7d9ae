-- What an accepted command makes of the length of its list.
use Rattle.std.proofs.Common.{◌≡◌, ℕ, ◌+◌, ◌-◌, ◌^◌, ◌<◌, ◌≤◌, Bool, true, false, List, [], ◌∷◌, ◌++◌, length, take, drop, Option, Some, None, Result, Ok, Err, refl, sym, ◌∙◌, ap, subst, arith, length-append, length-drop, ⊎_elim, get_or}
use Rattle.std.specs.Prelude.{nat_lt, nat_le, ◌==◌, slice_get, slice_set, slice_range, replicate}
use Rattle.std.specs.List.{insert as insert_at, remove as remove_at, remove_range, splice, items_where_true}
use Rattle.std.specs.Option.{option_map_or, ok_or}
use Rattle.std.proofs.lemmas.Bool.{ltb-true, leb-true}
use Rattle.std.proofs.lemmas.List.{length-take, length-replicate, length-set}
use Rattle.std.proofs.lemmas.List.Edits.{length-remove}
use Rattle.std.proofs.lemmas.Option.{none-some, slice_get_cases}
use Rattle.ecow_base.specs.Capacity.{MAX}
use Rattle.ecow_base.specs.Range.{range_of, items_in_range}
use Rattle.ecow_model.specs.Refusing.{◌>>=◌, OnRefused, Effect, allowed, check, becomes}
use Rattle.ecow_model.specs.Uses.{Observation}
use Rattle.ecow_model.specs.Vecs.{make_vec, edit_vec, ask_vec, grows}
use Rattle.ecow_model.specs.declared.vecs.VecMake.{VecMake}
use Rattle.ecow_model.specs.declared.vecs.VecMake.TheVariants.{New, WithCapacity, FromList, FromElem}
use Rattle.ecow_model.specs.declared.vecs.VecEdit.{VecEdit}
use Rattle.ecow_model.specs.declared.vecs.VecEdit.TheVariants.{Push, Pop, Insert, Remove, Truncate, Clear, Retain, Drain, Splice, Extend, Reserve, Write}
use Rattle.ecow_model.specs.declared.vecs.VecAsk.{VecAsk}
use Rattle.ecow_model.specs.declared.vecs.VecAsk.TheVariants.{Read, Len, Contents, Capacity, Unique}
use Rattle.ecow_model.specs.declared.command.Outcome.{Outcome}
use Rattle.ecow_model.specs.declared.command.Outcome.TheVariants.{Done, Popped, Elements, Element}
use Rattle.ecow_model.specs.declared.command.Refusal.{Refusal}
use Rattle.ecow_model.specs.declared.command.Refusal.TheVariants.{Capacity as TooMuch, Index, Range, Marks}
use Rattle.ecow_model.proofs.Lengths.{length-inserted, length-spliced}
use Rattle.ecow_counted.proofs.Ranges.{range_fits}

length-picked : {T : Type 0} (marks : List Bool) (xs : List T) → length (items_where_true marks xs) ≤ length xs
length-picked [] xs = omega arith
length-picked (mark ∷ marks) [] = omega arith
length-picked (true ∷ marks) (x ∷ xs) = let later : length (items_where_true marks xs) ≤ length xs = length-picked marks xs in omega arith
length-picked (false ∷ marks) (x ∷ xs) = let later : length (items_where_true marks xs) ≤ length xs = length-picked marks xs in omega arith

length-remove_range : {T : Type 0} (xs : List T) (s e : ℕ) → s ≤ e → length (remove_range xs s e) ≤ length xs
length-remove_range xs s e le = omega (arith, length-append (take s xs) (drop e xs), length-take s xs, length-drop e xs)

length-remove_at : {T : Type 0} (xs : List T) (i : ℕ) (y : T) → slice_get xs i ≡ Some y → length (remove_at xs i) ≤ length xs
length-remove_at xs i y is = ⊎_elim
    (λ (h : (x : _) × (i < length xs) × (slice_get xs i ≡ Some x) × (get_or xs i x ≡ x)). let less : length (remove_at xs i)
    + 1 ≡ length xs = length-remove xs i h.1 in omega arith)
    (λ (h : (length xs ≤ i) × (slice_get xs i ≡ None)). absurd (none-some y (sym h.1 ∙ is)))
    (slice_get_cases xs i).1

-- a fact of the answer, by the tests before it
module _ {A : Type 0} (P : A → Type 0) (answer : A) where
  answered : (other : A) → P other → ◌≡◌ {A = Result A Refusal} (Ok other) (Ok answer) → P answer
  answered other p e = let same : ◌≡◌ {A = A} other answer = cc in subst P same p

  checked : (b : Bool) (refusal : Refusal) (then : Unit {0} → Result A Refusal)
      → (b ≡ true → then tt ≡ Ok answer → P answer) → (check b refusal >>= then) ≡ Ok answer → P answer
  checked true refusal then p e = p refl e
  checked false refusal then p e = cc

  limited : (n : ℕ) (then : Unit {0} → Result A Refusal) → (n ≤ MAX → then tt ≡ Ok answer → P answer) → (allowed n >>= then) ≡ Ok answer → P answer
  limited n then p e = checked (nat_lt n (2 ^ 63)) TooMuch then (λ t e. let lt : n < 2 ^ 63 = ltb-true n (2 ^ 63) t in p (omega arith) e) e

  given : {B : Type 0} (o : Option B) (refusal : Refusal) (then : B → Result A Refusal)
      → ((x : B) → o ≡ Some x → then x ≡ Ok answer → P answer) → (ok_or o refusal >>= then) ≡ Ok answer → P answer
  given None refusal then p e = cc
  given (Some x) refusal then p e = p x refl e

module _ {T : Type 0} where
  widened : (P : Outcome T × List T → Type 0) (answer : Outcome T × List T) (ys : List T) → (length ys ≤ MAX → P (Done, ys)) → grows ys ≡ Ok answer → P answer
  widened P answer ys p e = limited P answer (length ys) (λ _. becomes ys) (λ le e. answered P answer (Done, ys) (p le) e) e

  -- how long a list is that is made
  abbrev pub LengthMade : VecMake T → ℕ → Type 0
  LengthMade New m = m ≡ 0
  LengthMade (WithCapacity asked) m = (m ≡ 0) × (asked ≤ MAX)
  LengthMade (FromList items) m = (m ≡ length items) × (m ≤ MAX)
  LengthMade (FromElem value count) m = (m ≡ count) × (count ≤ MAX)

  pub is_made : (how : VecMake T) (xs : List T) → make_vec how ≡ Ok xs → LengthMade how (length xs)
  is_made New xs e = answered (λ xs. LengthMade New (length xs)) xs [] refl e
  is_made (WithCapacity asked) xs e =
      limited (λ xs. LengthMade (WithCapacity asked) (length xs)) xs asked _
      (λ le e. answered (λ xs. LengthMade (WithCapacity asked) (length xs)) xs [] (refl, le) e) e
  is_made (FromList items) xs e =
      limited (λ xs. LengthMade (FromList items) (length xs)) xs (length items) _
      (λ le e. answered (λ xs. LengthMade (FromList items) (length xs)) xs items (refl, le) e) e
  is_made (FromElem value n) xs e =
      limited (λ xs. LengthMade (FromElem value n) (length xs)) xs n _
      (λ le e. answered (λ xs. LengthMade (FromElem value n) (length xs)) xs (replicate n value) (length-replicate n value, le) e) e

  -- a list of n elements has m after the change
  abbrev pub LengthIs : VecEdit T → ℕ → ℕ → Type 0
  LengthIs (Push value) n m = (m ≡ n + 1) × (m ≤ MAX)
  LengthIs (Insert index value) n m = (m ≡ n + 1) × (m ≤ MAX)
  LengthIs (Truncate target) n m = (m ≤ n) × (m ≤ target)
  LengthIs Clear n m = m ≡ 0
  LengthIs (Splice bounds items) n m = (m ≡ n - items_in_range bounds n + length items) × (m ≤ MAX)
  LengthIs (Extend items) n m = (m ≡ n + length items) × (m ≤ MAX)
  LengthIs (Reserve additional) n m = (m ≤ n) × (n + additional ≤ MAX)
  LengthIs _ n m = m ≤ n

  -- it isn't refused, and has this length
  abbrev pub IsAnswer : VecEdit T → ℕ → Outcome T × List T → Type 0
  IsAnswer edit n answer = OnRefused answer.0 ⊥ × LengthIs edit n (length answer.1)

  spliced_then : (answer : Outcome T × List T) (removed ys : List T) (r : Effect T (List T))
      → (r >>= (λ spliced. Ok (Elements removed, spliced.1))) ≡ Ok answer
      → ((other : Outcome T × List T) → r ≡ Ok other → length other.1 ≡ length ys × length other.1 ≤ MAX)
      → OnRefused answer.0 ⊥ × (length answer.1 ≡ length ys × length answer.1 ≤ MAX)
  spliced_then answer removed ys (Ok other) e p =
      answered (λ (a : Outcome T × List T). OnRefused a.0 ⊥ × (length a.1 ≡ length ys × length a.1 ≤ MAX)) answer
      (Elements removed, other.1) (tt, p other refl) e
  spliced_then answer removed ys (Err refusal) e p = cc

  -- what an accepted change answers
  module _ (xs : List T) (answer : Outcome T × List T) where
    pub is_answer : (edit : VecEdit T) → edit_vec edit xs ≡ Ok answer → IsAnswer edit (length xs) answer
    is_answer (Push value) e = widened (IsAnswer (Push value) (length xs)) answer (xs ++ value ∷ []) (λ le. (tt, (length-append xs (value ∷ []), le))) e
    is_answer Pop e =
        answered (IsAnswer Pop (length xs)) answer (
          Popped (slice_get xs (length xs - 1)),
          take (length xs - 1) xs,
        ) (tt, omega (arith, length-take (length xs - 1) xs)) e
    is_answer (Insert index value) e =
        checked (IsAnswer (Insert index value) (length xs)) answer (nat_le index (length xs)) Index _
        (λ t e. widened (IsAnswer (Insert index value) (length xs)) answer (insert_at xs index value)
        (λ le. (tt, (length-inserted xs index value (leb-true index (length xs) t), le))) e) e
    is_answer (Remove index) e =
        given (IsAnswer (Remove index) (length xs)) answer (slice_get xs index) Index _
        (λ y is e. answered (IsAnswer (Remove index) (length xs)) answer (Element y, remove_at xs index) (tt, length-remove_at xs index y is) e) e
    is_answer (Truncate target) e =
        answered (IsAnswer (Truncate target) (length xs)) answer (Done, take target xs)
        (tt, (omega (arith, length-take target xs), omega (arith, length-take target xs))) e
    is_answer Clear e = answered (IsAnswer Clear (length xs)) answer (Done, []) (tt, refl) e
    is_answer (Retain marks) e =
        checked (IsAnswer (Retain marks) (length xs)) answer (length marks == length xs) Marks _
        (λ _ e. answered (IsAnswer (Retain marks) (length xs)) answer (Done, items_where_true marks xs) (tt, length-picked marks xs) e) e
    is_answer (Drain bounds) e = given (IsAnswer (Drain bounds) (length xs)) answer (range_of bounds (length xs)) Range _ (λ range r e.
        let fits = range_fits bounds (length xs) range r in
        answered (IsAnswer (Drain bounds) (length xs)) answer (
          Elements (slice_range xs range.0 range.1),
          remove_range xs range.0 range.1,
        ) (tt, length-remove_range xs range.0 range.1 fits.0) e) e
    is_answer (Splice bounds items) e = given (IsAnswer (Splice bounds items) (length xs)) answer (range_of bounds (length xs)) Range _ (λ range r e.
        let fits = range_fits bounds (length xs) range r in
        let ys : List T = splice xs range.0 range.1 items in
        let count : items_in_range bounds (length xs) ≡ range.1 - range.0 = ap (λ o. option_map_or (λ (range : ℕ × ℕ). range.1 - range.0) o 0) r in
        let long : length ys ≡ length xs - (range.1 - range.0) + length items = length-spliced xs range.0 range.1 items fits.0 fits.1 in
        let is =
        spliced_then answer (slice_range xs range.0 range.1) ys (grows ys) e
        (λ other o. widened (λ a. length a.1 ≡ length ys × length a.1 ≤ MAX) other ys (λ le. (refl, le)) o) in
        (is.0, (rw count (is.1.0 ∙ long), is.1.1))) e
    is_answer (Extend items) e = widened (IsAnswer (Extend items) (length xs)) answer (xs ++ items) (λ le. (tt, (length-append xs items, le))) e
    is_answer (Reserve additional) e =
        limited (IsAnswer (Reserve additional) (length xs)) answer (length xs + additional) _
        (λ le e. answered (IsAnswer (Reserve additional) (length xs)) answer (Done, xs) (tt, (omega arith, le)) e) e
    is_answer (Write index value) e =
        given (IsAnswer (Write index value) (length xs)) answer (slice_get xs index) Index _
        (λ _ _ e. answered (IsAnswer (Write index value) (length xs)) answer
        (Done, slice_set xs index value) (tt, omega (arith, length-set xs index value)) e) e

  -- a question that is answered isn't refused
  pub is_asked : (seen : Observation) (question : VecAsk) (xs : List T) (answer : Outcome T) → ask_vec seen question xs ≡ Ok answer → OnRefused answer ⊥
  is_asked seen (Read index) xs answer e =
      given (λ (a : Outcome T). OnRefused a ⊥) answer (slice_get xs index) Index _
      (λ y _ e. answered (λ (a : Outcome T). OnRefused a ⊥) answer (Element y) tt e) e
  is_asked seen Len xs answer e = answered (λ (a : Outcome T). OnRefused a ⊥) answer _ tt e
  is_asked seen Contents xs answer e = answered (λ (a : Outcome T). OnRefused a ⊥) answer _ tt e
  is_asked seen Capacity xs answer e = answered (λ (a : Outcome T). OnRefused a ⊥) answer _ tt e
  is_asked seen Unique xs answer e = answered (λ (a : Outcome T). OnRefused a ⊥) answer _ tt e
