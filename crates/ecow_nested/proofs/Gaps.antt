-- Where the fields are among gaps.
use Rattle.std.proofs.Common.{rules, arith, ◌≡◌, ◌≤◌, ◌<◌, ◌+◌, ◌-◌, ℕ, zero, suc, Bool, true, false, cond, nat_lt, List, [], ◌∷◌, ◌++◌, length, get_or, take, slice_get, slice_set, None, Some, refl, sym, ap, ◌∙◌}
use Rattle.std.specs.Prelude.{Option, insert, remove}
use Rattle.std.proofs.lemmas.Option.{none-some, same_Some, slice_get-get_or}
use Rattle.ecow_nested.specs.Index.{present, gaps_from, past}

past_here : (at gap : ℕ) (gaps : List ℕ) → at < gap → past (gap ∷ gaps) at ≡ at
past_here at gap gaps low = search (rules, low)

past_on : (at gap : ℕ) (gaps : List ℕ) → gap ≤ at → past (gap ∷ gaps) at ≡ past gaps (suc at)
past_on at gap gaps low = search (rules, low)

pub past_low : (gaps : List ℕ) (at : ℕ) → at ≤ past gaps at
past_low [] at = omega arith
past_low (gap ∷ gaps) at =
    elim (nat_lt at gap) as (λ b. at ≤ cond b at (past gaps (suc at))) [
      | true ↦ omega arith
      | false ↦ omega (arith, past_low gaps (suc at))
    ]

pub past_high : (gaps : List ℕ) (at : ℕ) → past gaps at ≤ at + length gaps
past_high [] at = omega arith
past_high (gap ∷ gaps) at =
    elim (nat_lt at gap) as (λ b. cond b at (past gaps (suc at)) ≤ at + suc (length gaps)) [
      | true ↦ omega arith
      | false ↦ omega (arith, past_high gaps (suc at))
    ]

module _ {X : Type 0} where
  -- the number of what is there before a place
  abbrev pub before : List (Option X) → ℕ → ℕ
  before os s = length (present (take s os))

  pub before_low : (os : List (Option X)) (s : ℕ) → before os s ≤ s
  before_low os zero = omega arith
  before_low [] (suc s) = omega arith
  before_low (None ∷ os) (suc s) = omega (arith, before_low os s)
  before_low (Some x ∷ os) (suc s) = omega (arith, before_low os s)

  -- the gaps and what is there are all
  pub all_places : (at : ℕ) (os : List (Option X))
      → length (gaps_from at os) + length (present os) ≡ length os
  all_places at [] = refl
  all_places at (None ∷ os) = omega (arith, all_places (suc at) os)
  all_places at (Some x ∷ os) = omega (arith, all_places (suc at) os)

  pub before_high : (at : ℕ) (os : List (Option X)) (s : ℕ) → s ≤ length os
      → s ≤ length (gaps_from at os) + before os s
  before_high at os zero low = omega arith
  before_high at [] (suc s) low = absurd (omega (arith, low))
  before_high at (None ∷ os) (suc s) low = omega (arith, before_high (suc at) os s (omega (arith, low)))
  before_high at (Some x ∷ os) (suc s) low = omega (arith, before_high (suc at) os s (omega (arith, low)))

  -- the gaps rise
  pub rises : (at : ℕ) (os : List (Option X)) (m g : ℕ) → slice_get (gaps_from at os) m ≡ Some g
      → at + m ≤ g
  rises at [] m g is = absurd (none-some g is)
  rises at (None ∷ os) zero g is = omega (arith, same_Some at g is)
  rises at (None ∷ os) (suc m) g is = omega (arith, rises (suc at) os m g is)
  rises at (Some x ∷ os) m g is = omega (arith, rises (suc at) os m g is)

  -- what a gap says of a place before or behind it
  pub gap_before : (at : ℕ) (os : List (Option X)) (s m g : ℕ)
      → slice_get (gaps_from at os) m ≡ Some g → g < at + s → suc m + before os s ≤ s
  gap_before at [] s m g is low = absurd (none-some g is)
  gap_before at (o ∷ os) zero m g is low = absurd (omega (arith, rises at (o ∷ os) m g is, low))
  gap_before at (None ∷ os) (suc s) zero g is low = omega (arith, before_low os s)
  gap_before at (None ∷ os) (suc s) (suc m) g is low =
      omega (arith, gap_before (suc at) os s m g is (omega (arith, low)))
  gap_before at (Some x ∷ os) (suc s) m g is low =
      omega (arith, gap_before (suc at) os s m g is (omega (arith, low)))

  pub gap_behind : (at : ℕ) (os : List (Option X)) (s m g : ℕ)
      → slice_get (gaps_from at os) m ≡ Some g → at + s ≤ g → s ≤ m + before os s
  gap_behind at os zero m g is high = omega arith
  gap_behind at [] (suc s) m g is high = absurd (none-some g is)
  gap_behind at (None ∷ os) (suc s) zero g is high = absurd (omega (arith, same_Some at g is, high))
  gap_behind at (None ∷ os) (suc s) (suc m) g is high =
      omega (arith, gap_behind (suc at) os s m g is (omega (arith, high)))
  gap_behind at (Some x ∷ os) (suc s) m g is high =
      omega (arith, gap_behind (suc at) os s m g is (omega (arith, high)))

  -- what a gap says of the place of an index
  pub past_before : (k : ℕ) (os : List (Option X)) (at m g : ℕ)
      → slice_get (gaps_from k os) m ≡ Some g → g ≤ at + m → at + suc m ≤ past (gaps_from k os) at
  past_before k [] at m g is low = absurd (none-some g is)
  past_before k (None ∷ os) at zero g is low =
      let on = past_on at k (gaps_from (suc k) os) (omega (arith, same_Some k g is, low)) in
      omega (arith, on, past_low (gaps_from (suc k) os) (suc at))
  past_before k (None ∷ os) at (suc m) g is low =
      let on = past_on at k (gaps_from (suc k) os) (omega (arith, rises (suc k) os m g is, low)) in
      omega (arith, on, past_before (suc k) os (suc at) m g is (omega (arith, low)))
  past_before k (Some x ∷ os) at m g is low = past_before (suc k) os at m g is low

  pub past_behind : (k : ℕ) (os : List (Option X)) (at m g : ℕ)
      → slice_get (gaps_from k os) m ≡ Some g → at + m < g → past (gaps_from k os) at ≤ at + m
  past_behind k [] at m g is high = absurd (none-some g is)
  past_behind k (None ∷ os) at zero g is high =
      let here = past_here at k (gaps_from (suc k) os) (omega (arith, same_Some k g is, high)) in
      omega (arith, here)
  past_behind k (None ∷ os) at (suc m) g is high =
      let on = past_behind (suc k) os (suc at) m g is (omega (arith, high)) in
      elim (nat_lt at k) as (λ b. cond b at (past (gaps_from (suc k) os) (suc at)) ≤ at + suc m) [
        | true ↦ omega arith
        | false ↦ omega (arith, on)
      ]
  past_behind k (Some x ∷ os) at m g is high = past_behind (suc k) os at m g is high

  -- no gap lies up to a place before all of them
  past_none : (k : ℕ) (os : List (Option X)) (at : ℕ) → at < k → past (gaps_from k os) at ≡ at
  past_none k [] at low = refl
  past_none k (None ∷ os) at low = past_here at k (gaps_from (suc k) os) low
  past_none k (Some x ∷ os) at low = past_none (suc k) os at (omega (arith, low))

  -- the place of an index
  pub record Placed (k : ℕ) (os : List (Option X)) (i : ℕ) : Type 0 where
    pub place : ℕ
    pub is : past (gaps_from k os) (k + i) ≡ k + place
    pub held : X
    pub there : slice_get os place ≡ Some (Some held)
    pub index : before os place ≡ i

  pub placed : (k : ℕ) (os : List (Option X)) (i : ℕ) → i < length (present os) → Placed k os i
  placed k [] i within = absurd (omega (arith, within))
  placed k (None ∷ os) i within =
      let p = placed (suc k) os i within in
      let on = past_on (k + i) k (gaps_from (suc k) os) (omega arith) in
      record {
        place = suc p.place;
        is = on ∙ ap (past (gaps_from (suc k) os)) (omega arith) ∙ p.is ∙ omega arith;
        held = p.held;
        there = p.there;
        index = p.index;
      }
  placed k (Some x ∷ os) zero within =
      record {
        place = 0;
        is = ap (past (gaps_from (suc k) os)) (omega arith) ∙ past_none (suc k) os k (omega arith) ∙ omega arith;
        held = x;
        there = refl;
        index = refl;
      }
  placed k (Some x ∷ os) (suc i) within =
      let p = placed (suc k) os i (omega (arith, within)) in
      record {
        place = suc p.place;
        is = ap (past (gaps_from (suc k) os)) (omega arith) ∙ p.is ∙ omega arith;
        held = p.held;
        there = p.there;
        index = ap suc p.index;
      }

  -- what is there at a place is at the index that counts what is there before it
  pub present_there : (os : List (Option X)) (s : ℕ) (x : X) → slice_get os s ≡ Some (Some x)
      → slice_get (present os) (before os s) ≡ Some x
  present_there [] s x is = absurd (none-some (Some x) is)
  present_there (None ∷ os) zero x is = absurd (none-some x (same_Some None (Some x) is))
  present_there (Some y ∷ os) zero x is = same_Some (Some y) (Some x) is
  present_there (None ∷ os) (suc s) x is = present_there os s x is
  present_there (Some y ∷ os) (suc s) x is = present_there os s x is

  pub present_set : (os : List (Option X)) (s : ℕ) (x y : X) → slice_get os s ≡ Some (Some x)
      → present (slice_set os s (Some y)) ≡ slice_set (present os) (before os s) y
  present_set [] s x y is = refl
  present_set (None ∷ os) zero x y is = absurd (none-some x (same_Some None (Some x) is))
  present_set (Some z ∷ os) zero x y is = refl
  present_set (None ∷ os) (suc s) x y is = present_set os s x y is
  present_set (Some z ∷ os) (suc s) x y is = ap (λ xs. z ∷ xs) (present_set os s x y is)

  pub present_gone : (os : List (Option X)) (s : ℕ) (x : X) → slice_get os s ≡ Some (Some x)
      → present (slice_set os s None) ≡ remove (present os) (before os s)
  present_gone [] s x is = absurd (none-some (Some x) is)
  present_gone (None ∷ os) zero x is = absurd (none-some x (same_Some None (Some x) is))
  present_gone (Some z ∷ os) zero x is = refl
  present_gone (None ∷ os) (suc s) x is = present_gone os s x is
  present_gone (Some z ∷ os) (suc s) x is = ap (λ xs. z ∷ xs) (present_gone os s x is)

  pub gaps_kept : (k : ℕ) (os : List (Option X)) (s : ℕ) (x y : X)
      → slice_get os s ≡ Some (Some x) → gaps_from k (slice_set os s (Some y)) ≡ gaps_from k os
  gaps_kept k [] s x y is = refl
  gaps_kept k (None ∷ os) zero x y is = absurd (none-some x (same_Some None (Some x) is))
  gaps_kept k (Some z ∷ os) zero x y is = refl
  gaps_kept k (None ∷ os) (suc s) x y is = ap (λ gs. k ∷ gs) (gaps_kept (suc k) os s x y is)
  gaps_kept k (Some z ∷ os) (suc s) x y is = gaps_kept (suc k) os s x y is

  pub gap_more : (k : ℕ) (os : List (Option X)) (s : ℕ) (x : X)
      → slice_get os s ≡ Some (Some x)
      → gaps_from k (slice_set os s None) ≡ insert (gaps_from k os) (s - before os s) (k + s)
  gap_more k [] s x is = absurd (none-some (Some x) is)
  gap_more k (None ∷ os) zero x is = absurd (none-some x (same_Some None (Some x) is))
  gap_more k (Some z ∷ os) zero x is =
      let here : k + 0 ≡ k = omega arith in
      ap (λ n. n ∷ gaps_from (suc k) os) (sym here)
  gap_more k (None ∷ os) (suc s) x is =
      let one : suc s - before os s ≡ suc (s - before os s) = omega (arith, before_low os s) in
      let same : suc k + s ≡ k + suc s = omega arith in
      ap (λ gs. k ∷ gs) (gap_more (suc k) os s x is)
      ∙ ap (λ n. k ∷ insert (gaps_from (suc k) os) (s - before os s) n) same
      ∙ ap (λ n. insert (k ∷ gaps_from (suc k) os) n (k + suc s)) (sym one)
  gap_more k (Some z ∷ os) (suc s) x is =
      let same : suc k + s ≡ k + suc s = omega arith in
      let less : s - before os s ≡ suc s - suc (before os s) = omega (arith, before_low os s) in
      gap_more (suc k) os s x is ∙ ap (insert (gaps_from (suc k) os) (s - before os s)) same
      ∙ ap (λ n. insert (gaps_from (suc k) os) n (k + suc s)) less

  -- one more at the end is no gap
  pub present_pushed : (os : List (Option X)) (x : X)
      → present (os ++ Some x ∷ []) ≡ present os ++ x ∷ []
  present_pushed [] x = refl
  present_pushed (None ∷ os) x = present_pushed os x
  present_pushed (Some y ∷ os) x = ap (λ xs. y ∷ xs) (present_pushed os x)

  pub gaps_pushed : (k : ℕ) (os : List (Option X)) (x : X)
      → gaps_from k (os ++ Some x ∷ []) ≡ gaps_from k os
  gaps_pushed k [] x = refl
  gaps_pushed k (None ∷ os) x = ap (λ gs. k ∷ gs) (gaps_pushed (suc k) os x)
  gaps_pushed k (Some y ∷ os) x = gaps_pushed (suc k) os x

  gaps_none : (k j : ℕ) (os : List (Option X)) → gaps_from k os ≡ [] → gaps_from j os ≡ []
  gaps_none k j [] none = refl
  gaps_none k j (None ∷ os) none = absurd (omega (arith, ap length none))
  gaps_none k j (Some x ∷ os) none = gaps_none (suc k) (suc j) os none

  -- without gaps each place is its index
  pub whole_remove : (k : ℕ) (os : List (Option X)) (i : ℕ) → gaps_from k os ≡ []
      → (present (remove os i) ≡ remove (present os) i) × (gaps_from k (remove os i) ≡ [])
  whole_remove k [] zero none = (refl, refl)
  whole_remove k [] (suc i) none = (refl, refl)
  whole_remove k (None ∷ os) i none = absurd (omega (arith, ap length none))
  whole_remove k (Some x ∷ os) zero none = (refl, gaps_none (suc k) k os none)
  whole_remove k (Some x ∷ os) (suc i) none =
      let rest = whole_remove (suc k) os i none in
      (ap (λ xs. x ∷ xs) rest.0, rest.1)

  pub whole_there : (k : ℕ) (os : List (Option X)) (i : ℕ) → gaps_from k os ≡ []
      → i < length (present os)
      → (x : X) × (slice_get os i ≡ Some (Some x)) × (slice_get (present os) i ≡ Some x)
  whole_there k [] i none within = absurd (omega (arith, within))
  whole_there k (None ∷ os) i none within = absurd (omega (arith, ap length none))
  whole_there k (Some x ∷ os) zero none within = (x, refl, refl)
  whole_there k (Some x ∷ os) (suc i) none within = whole_there (suc k) os i none (omega (arith, within))

  -- the first of what is there with a property
  module _ (p : X → Bool) where
    abbrev pub passes : Option X → Bool
    passes o = elim o [ None ↦ false | Some x ↦ p x ]

-- what a binary search among noted gaps reads
module _ {X : Type 0} (gaps : List ℕ) (os : List (Option X)) (noted : gaps ≡ gaps_from 0 os) where
  read : (m : ℕ) → m < length gaps → slice_get (gaps_from 0 os) m ≡ Some (get_or gaps m 0)
  read m within = ap (λ gs. slice_get gs m) (sym noted) ∙ slice_get-get_or gaps m 0 within

  pub gap_high : (m : ℕ) → m < length gaps → m ≤ get_or gaps m 0
  gap_high m within = omega (arith, rises 0 os m (get_or gaps m 0) (read m within))

  pub index_before : (at m : ℕ) → m < length gaps → get_or gaps m 0 - m ≤ at
      → at + (m + 1) ≤ past gaps at
  index_before at m within low =
      let there = past_before 0 os at m (get_or gaps m 0) (read m within) (omega (arith, gap_high m within, low)) in
      omega (arith, there, ap (λ gs. past gs at) noted)

  pub index_behind : (at m : ℕ) → m < length gaps → at < get_or gaps m 0 - m
      → past gaps at ≤ at + m
  index_behind at m within high =
      let there = past_behind 0 os at m (get_or gaps m 0) (read m within) (omega (arith, gap_high m within, high)) in
      omega (arith, there, ap (λ gs. past gs at) noted)

  pub place_before : (s m : ℕ) → m < length gaps → get_or gaps m 0 < s
      → m + 1 + before os s ≤ s
  place_before s m within low =
      omega (arith, gap_before 0 os s m (get_or gaps m 0) (read m within) (omega (arith, low)))

  pub place_behind : (s m : ℕ) → m < length gaps → s ≤ get_or gaps m 0 → s ≤ m + before os s
  place_behind s m within high =
      gap_behind 0 os s m (get_or gaps m 0) (read m within) (omega (arith, high))

  pub index_placed : (i : ℕ) → i < length (present os)
      → (x : X) × (slice_get os (past gaps i) ≡ Some (Some x)) × (before os (past gaps i) ≡ i)
  index_placed i within =
      let p = placed 0 os i within in
      let zero_more : 0 + i ≡ i = omega arith in
      let is : p.place ≡ past gaps i = omega (arith, ap (λ gs. past gs i) noted, ap (past (gaps_from 0 os)) zero_more, p.is) in
      (p.held, ap (slice_get os) (sym is) ∙ p.there, ap (before os) (sym is) ∙ p.index)

  pub counted : length gaps + length (present os) ≡ length os
  counted = omega (arith, ap length noted, all_places 0 os)
