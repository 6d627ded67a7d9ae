-- What a call answers, and what it leaves of the value at a pointer; `None` is the null pointer.
use Rattle.std.specs.Prelude.{◌≡◌, ◌≢◌, ◌↔◌, ◌<◌, ℕ, ℤ, pos, negsuc, Bool, true, false, ◌||◌, ◌==◌, List, [], Option, Some, None, IfSome, IsSomeAnd, is_none}
use Rattle.std.specs.Option.{option_map, option_map_or}
use Rattle.std.specs.List.{fold, list_any}
use Rattle.std.specs.Hash.DefaultHasher.{initial, write, finish}
use Rattle.std.specs.declared.cmp.Ordering.{Ordering}
use Rattle.std.specs.declared.cmp.Ordering.TheVariants.{Less, Equal, Greater}
use Rattle.ecow_base.specs.declared.plain.PlainBytes.{PlainBytes}
use Rattle.ecow_base.specs.declared.plain.PlainText.{PlainText}
use Rattle.ecow_base.specs.declared.capacity.TheConstants.{MAX_LEN}
use Rattle.ecow_c.specs.declared.status.TheConstants.{OK, CAPACITY, NULL}

-- the status is one of these
abbrev pub IsAmong : List ℕ → ℕ → Type 0
IsAmong statuses status = list_any (λ one. status == one) statuses ≡ true

-- the contents are what `change` makes of them; a refused call leaves the value as it was
pub record Alters {X C : Type 0} (contents : X → C) (change : C → C) (old : Option X) (status : ℕ)
    (new : Option X) : Type 0 where
  pub ok : status ≡ OK → option_map contents new ≡ option_map (λ x. change (contents x)) old
  pub refused : status ≢ OK → new ≡ old
  pub null : status ≡ NULL ↔ old ≡ None

-- the same of numbers, bytes and characters
abbrev pub AltersList : (List ℤ → List ℤ) → Option (List ℤ) → ℕ → Option (List ℤ) → Type 0
AltersList = Alters (λ numbers. numbers)

abbrev pub AltersBytes : (List ℕ → List ℕ) → Option PlainBytes → ℕ → Option PlainBytes → Type 0
AltersBytes = Alters (λ value. value.bytes)

abbrev pub AltersText : (List ℕ → List ℕ) → Option PlainText → ℕ → Option PlainText → Type 0
AltersText = Alters (λ value. value.chars)

abbrev pub AltersTexts : (List PlainText → List PlainText) → Option (List PlainText) → ℕ
    → Option (List PlainText) → Type 0
AltersTexts = Alters (λ texts. texts)

-- the contents are what `change` makes of them and of a second value, at another pointer; a refused
-- call leaves the value as it was
pub record AltersBy {X C Y : Type 0} (contents : X → C) (change : Y → C → C) (old : Option X)
    (other : Option Y) (status : ℕ) (new : Option X) : Type 0 where
  pub ok : status ≡ OK
      → IfSome other (λ y. option_map contents new ≡ option_map (λ x. change y (contents x)) old)
  pub refused : status ≢ OK → new ≡ old
  pub null : status ≡ NULL ↔ is_none old || is_none other ≡ true

-- the same of a list of texts
abbrev pub AltersTextsBy : {Y : Type 0} → (Y → List PlainText → List PlainText)
    → Option (List PlainText) → Option Y → ℕ → Option (List PlainText) → Type 0
AltersTextsBy = AltersBy (λ texts. texts)

-- `out` is what `read` finds in the value; a refused call leaves it as it was
pub record Writes {X A : Type 0} (read : X → Option A) (old : Option X) (status : ℕ)
    (before after : A) : Type 0 where
  pub ok : status ≡ OK → IfSome old (λ x. read x ≡ Some after)
  pub refused : status ≢ OK → after ≡ before

-- the same of a value at a second pointer
pub record WritesTo {X A : Type 0} (read : X → Option A) (old : Option X) (status : ℕ)
    (before after : Option A) : Type 0 where
  pub ok : status ≡ OK → IfSome old (λ x. read x ≡ after)
  pub refused : status ≢ OK → after ≡ before

-- the same of calls that leave the value as it was
pub record Reads {X A : Type 0} (read : X → Option A) (old : Option X) (status : ℕ)
    (new : Option X) (before after : A) : Type 0 where
  pub ok : status ≡ OK → IfSome old (λ x. read x ≡ Some after)
  pub refused : status ≢ OK → after ≡ before
  pub null : status ≡ NULL ↔ old ≡ None
  pub unchanged : new ≡ old

pub record ReadsTo {X A : Type 0} (read : X → Option A) (old : Option X) (status : ℕ)
    (new : Option X) (before after : Option A) : Type 0 where
  pub ok : status ≡ OK → IfSome old (λ x. read x ≡ after)
  pub refused : status ≢ OK → after ≡ before
  pub null : status ≡ NULL ↔ is_none old || is_none before ≡ true
  pub unchanged : new ≡ old

-- the status is CAPACITY exactly where the length that the call needs passes the limit
abbrev pub RefusesPast : {X : Type 0} → (X → ℕ) → Option X → ℕ → Type 0
RefusesPast needed old status = status ≡ CAPACITY ↔ IsSomeAnd old (λ x. MAX_LEN < needed x)

-- both values are there, and P holds of them
abbrev pub AreBothAnd : {X Y : Type 0} → Option X → Option Y → (X → Y → Type 0) → Type 0
AreBothAnd old other P = IsSomeAnd old (λ x. IsSomeAnd other (λ y. P x y))

-- the numbers of a list; at a null pointer there are none
abbrev pub numbers_at : Option (List ℤ) → List ℤ
numbers_at value = option_map_or (λ numbers. numbers) value []

-- the bytes of a value; at a null pointer there are none
abbrev pub bytes_at : Option PlainBytes → List ℕ
bytes_at value = option_map_or (λ value. value.bytes) value []

-- the texts of a list; at a null pointer there are none
abbrev pub texts_at : Option (List PlainText) → List PlainText
texts_at value = option_map_or (λ texts. texts) value []

-- the characters of a text; at a null pointer there are none
abbrev pub chars_at : Option PlainText → List ℕ
chars_at value = option_map_or (λ value. value.chars) value []

-- whether two values are equal by the test; a null pointer equals a null pointer alone
abbrev pub are_equal : {X : Type 0} → (X → X → Bool) → Option X → Option X → Bool
are_equal test (Some x) (Some y) = test x y
are_equal test (Some x) None = false
are_equal test None (Some y) = false
are_equal test None None = true

-- an order as C has it
abbrev pub sign_of : Ordering → ℤ
sign_of Less = negsuc 0
sign_of Equal = pos 0
sign_of Greater = pos 1

-- how two values compare; a null pointer comes before every value
abbrev pub order_of : {X : Type 0} → (X → X → Ordering) → Option X → Option X → ℤ
order_of order (Some x) (Some y) = sign_of (order x y)
order_of order (Some x) None = pos 1
order_of order None (Some y) = negsuc 0
order_of order None None = pos 0

-- the hash of what is fed to std's hasher
abbrev pub hash_of : List (List ℕ) → ℕ
hash_of pieces = finish (fold write initial pieces)
