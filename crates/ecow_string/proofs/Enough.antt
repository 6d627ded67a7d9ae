-- A replacement of more occurrences than a text can have is one of all.
use Rattle.std.proofs.Common.{◌≡◌, ℕ, zero, suc, ◌<◌, ◌≤◌, Bool, true, false, List, [], ◌∷◌, ◌++◌, length, Option, Some, None, refl, ap, arith}
use Rattle.std.specs.Prelude.{◌==◌, if◌then◌else◌}
use Rattle.std.specs.Option.{option_map, option_map_or}
use Rattle.ecow_base.specs.Replaced.{after_front, or_later, first_split, replacen}

is_some : {A : Type 0} (x y : A) → Some x ≡ Some y → x ≡ y
is_some x y e = ap (λ (o : Option _). option_map_or (λ a. a) o x) e

-- what follows a front has as many fewer characters
shorter_front : (p s b : List ℕ) → after_front p s ≡ Some b → length b ≤ length s
shorter_front [] s b e = let same = is_some s b e in omega (arith, ap length same)
shorter_front (c ∷ p) [] b e = cc
shorter_front (c ∷ p) (x ∷ s) b e = by_test (c == x) (λ f. shorter_front p s b f) e
  where
    by_test : (t : Bool) → (after_front p s ≡ Some b → length b ≤ length s) → (if t then after_front p s else None) ≡ Some b → length b ≤ length (x ∷ s)
    by_test true rest f = let less = rest f in omega arith
    by_test false rest f = cc

fewer : (c : ℕ) (p s b : List ℕ) → after_front (c ∷ p) s ≡ Some b → length b < length s
fewer c p [] b e = cc
fewer c p (x ∷ s) b e = by_test (c == x) e
  where
    by_test : (t : Bool) → (if t then after_front p s else None) ≡ Some b → length b < length (x ∷ s)
    by_test true f = let rest = shorter_front p s b f in omega arith
    by_test false f = cc

later : (c : ℕ) (p s : List ℕ) (x : ℕ) (a b : List ℕ) (o : Option (List ℕ × List ℕ)) → first_split (c ∷ p) s ≡ o
    → ((y z : List ℕ) → first_split (c ∷ p) s ≡ Some (y, z) → length z < length s)
    → option_map {U = List ℕ × List ℕ} (λ (parts : List ℕ × List ℕ). (x ∷ parts.0, parts.1)) o ≡ Some (a, b) → length b < length (x ∷ s)
later c p s x a b None f rest h = cc
later c p s x a b (Some parts) f rest h =
    let same : parts.1 ≡ b = ap (λ (pair : List ℕ × List ℕ). pair.1) (is_some (x ∷ parts.0, parts.1) (a, b) h) in
    let less = rest parts.0 parts.1 f in
    omega (arith, less, ap length same)

-- what follows a first split has fewer characters
shorter : (c : ℕ) (p s a b : List ℕ) → first_split (c ∷ p) s ≡ Some (a, b) → length b < length s
unfolding first_split
shorter c p [] a b e = cc
shorter c p (x ∷ s) a b e = by_front (after_front (c ∷ p) (x ∷ s)) refl (λ y z f. shorter c p s y z f) e
  where
    by_front : (o : Option (List ℕ)) → after_front (c ∷ p) (x ∷ s) ≡ o → ((y z : List ℕ) → first_split (c ∷ p) s ≡ Some (y, z) → length z < length s)
        → or_later x o (first_split (c ∷ p) s) ≡ Some (a, b) → length b < length (x ∷ s)
    by_front (Some d) f rest h =
        let same : d ≡ b = ap (λ (pair : List ℕ × List ℕ). pair.1) (is_some ([], d) (a, b) h) in
        let less = fewer c p (x ∷ s) d f in
        omega (arith, less, ap length same)
    by_front None f rest h = later c p s x a b (first_split (c ∷ p) s) refl rest h

pub enough : (n k : ℕ) (p t s : List ℕ) → length s < n → length s < k → replacen n p t s ≡ replacen k p t s
unfolding replacen
enough zero k p t s less more = absurd (omega arith)
enough (suc n) zero p t s less more = absurd (omega arith)
enough (suc n) (suc k) [] t [] less more = refl
enough (suc n) (suc k) [] t (x ∷ s) less more = ap (λ l. t ++ x ∷ l) (enough n k [] t s (omega arith) (omega arith))
enough (suc n) (suc k) (c ∷ p) t s less more = by_split (first_split (c ∷ p) s) refl (λ b shorter_n shorter_k. enough n k (c ∷ p) t b shorter_n shorter_k)
  where
    by_split : (o : Option (List ℕ × List ℕ)) → first_split (c ∷ p) s ≡ o
        → ((b : List ℕ) → length b < n → length b < k → replacen n (c ∷ p) t b ≡ replacen k (c ∷ p) t b)
        → option_map_or (λ (parts : List ℕ × List ℕ). parts.0 ++ (t ++ replacen n (c ∷ p) t parts.1)) o s ≡ option_map_or
        (λ (parts : List ℕ × List ℕ). parts.0 ++ (t ++ replacen k (c ∷ p) t parts.1)) o s
    by_split None e rest = refl
    by_split (Some parts) e rest =
        let fewer_left = shorter c p s parts.0 parts.1 e in
        ap (λ l. parts.0 ++ (t ++ l)) (rest parts.1 (omega arith) (omega arith))
