-- What commands do to named values, by their parts: a table of rules for each kind of value, and
-- once for all kinds the names.
use Rattle.std.specs.Prelude.{◌≡◌, ℕ, ◌⊎◌, Bool, true, false, Some, None, Result, Ok, Err, MatchResult, IfErr}
use Rattle.std.specs.FinMap.{insert, remove}
use Rattle.ecow_model.specs.Refusing.{◌>>=◌, Effect, IfRefused}
use Rattle.ecow_model.specs.Values.{Named, there, unused}
use Rattle.ecow_model.specs.declared.usage.NewValue.{NewValue}
use Rattle.ecow_model.specs.declared.usage.NewValue.TheVariants.{Always, Tried}
use Rattle.ecow_model.specs.declared.usage.Usage.{Usage}
use Rattle.ecow_model.specs.declared.usage.Usage.TheVariants.{Make, Derive, Drop, Edit, Ask}
use Rattle.ecow_model.specs.declared.command.Outcome.{Outcome}
use Rattle.ecow_model.specs.declared.command.Outcome.TheVariants.{Done, Count, Flag, Refused}
use Rattle.ecow_model.specs.declared.command.Refusal.{Refusal}
use Rattle.ecow_model.specs.declared.command.Refusal.TheVariants.{Memory}

-- what Capacity and Unique read, which plain values don't have
pub record Observation : Type 0 where
  pub capacity : ℕ
  pub unique : Bool

-- what an outcome says that it read
abbrev pub observation_in : {T : Type 0} → Outcome T → Observation
observation_in (Count n) = record { capacity = n; unique = false }
observation_in (Flag b) = record { capacity = 0; unique = b }
observation_in _ = record { capacity = 0; unique = false }

-- the rules of one kind of value: how its values are made, derived from any value, changed and
-- asked. T is an element of a list, V what stands under a name, and A a value of the kind. M is a
-- way to make one, D a way to derive one, E a change of one and Q a question to one
pub record Rules (T V A M D E Q : Type 0) : Type 0 where
  pub payload : V → Result A Refusal
  pub wrap : A → V
  pub make : M → Result (NewValue A) Refusal
  pub derive : D → V → Result A Refusal
  pub edit : E → A → Effect T A
  pub ask : Observation → Q → A → Result (Outcome T) Refusal
  -- changes and questions that take no memory, whoever shares the value
  pub edit_is_free : E → A → Bool
  pub ask_is_free : Q → Bool

-- a kind whose values are kept as they are seen
abbrev pub WrapsPayloads : {T V A M D E Q : Type 0} → Rules T V A M D E Q → Type 0
WrapsPayloads {V = V} {A = A} rules = (v : V) (x : A) → rules.payload v ≡ Ok x → v ≡ rules.wrap x

-- what is given, or want of memory where it is neither refused nor free
abbrev pub Gives : {T S : Type 0} → Result (Outcome T × S) Refusal → Bool → S → Outcome T → S
    → Type 0
Gives given free old outcome new = MatchResult given
    (λ answer. ((outcome, new) ≡ answer)
    ⊎ ((outcome ≡ Refused Memory) × (new ≡ old) × (free ≡ false)))
    (λ refusal. (outcome ≡ Refused refusal) × (new ≡ old))

-- the outcome is refused exactly as is given, or for want of memory where nothing else refuses it
-- and it isn't free
abbrev pub IsVerdict : {T A : Type 0} → Result A Refusal → Bool → Outcome T → Type 0
IsVerdict given free outcome = MatchResult given
    (λ _. IfRefused outcome (λ refusal. (refusal ≡ Memory) × (free ≡ false)))
    (λ refusal. outcome ≡ Refused refusal)

-- a value that is made or derived: what is given, or want of memory
abbrev pub IsGiven : {A : Type 0} → Result A Refusal → Result A Refusal → Type 0
IsGiven given result =
    MatchResult given (λ value. (result ≡ Ok value) ⊎ (result ≡ Err Memory))
    (λ refusal. result ≡ Err refusal)

-- a value that is made or derived, as far as its refusal goes: it is refused exactly as is given,
-- or for want of memory where nothing else refuses it
abbrev pub IsRefusedAlike : {A B : Type 0} → Result A Refusal → Result B Refusal → Type 0
IsRefusedAlike given result =
    MatchResult given (λ _. IfErr result (λ refusal. refusal ≡ Memory))
    (λ refusal. result ≡ Err refusal)

-- a test of a value, if there is one
abbrev pub passes : {A : Type 0} → Result A Refusal → (A → Bool) → Bool
passes (Ok value) test = test value
passes (Err refusal) test = true

module _ {T V A M D E Q : Type 0} (rules : Rules T V A M D E Q) where
  -- the value under a name, refused where none stands there or one of another kind
  abbrev pub value_at : Named V → ℕ → Result A Refusal
  value_at old name = there old name >>= rules.payload

  -- what is answered, and the values, where a value was made under a name
  abbrev pub put_made : Named V → ℕ → NewValue A → Outcome T × Named V
  put_made old name (Always value) = (Done, insert old name (rules.wrap value))
  put_made old name (Tried (Some value)) = (Flag true, insert old name (rules.wrap value))
  put_made old name (Tried None) = (Flag false, old)

  -- the outcome and the values after a command, or the first refusal that applies
  abbrev pub carry_out : Observation → Named V → Usage M D E Q
      → Result (Outcome T × Named V) Refusal
  carry_out seen old (Make name how) = do
    _ ← unused old name
    value ← rules.make how
    Ok (put_made old name value)
  carry_out seen old (Derive from to how) = do
    source ← there old from
    _ ← unused old to
    value ← rules.derive how source
    Ok (Done, insert old to (rules.wrap value))
  carry_out seen old (Drop name) = do
    value ← value_at old name
    Ok (Done, remove old name)
  carry_out seen old (Edit name edit) = do
    value ← value_at old name
    after ← rules.edit edit value
    Ok (after.0, insert old name (rules.wrap after.1))
  carry_out seen old (Ask name question) = do
    value ← value_at old name
    answer ← rules.ask seen question value
    Ok (answer, old)

  -- a command that takes no memory
  abbrev pub use_is_free : Named V → Usage M D E Q → Bool
  use_is_free old (Drop name) = true
  use_is_free old (Edit name edit) = passes (value_at old name) (rules.edit_is_free edit)
  use_is_free old (Ask name question) = rules.ask_is_free question
  use_is_free old _ = false

  -- one command: its outcome, and the values after it
  abbrev pub IsUse : Named V → Usage M D E Q → Outcome T → Named V → Type 0
  IsUse old usage outcome new =
      Gives (carry_out (observation_in outcome) old usage) (use_is_free old usage) old outcome new

  -- of one command, only whether it is refused, and why
  abbrev pub IsUseVerdict : Named V → Usage M D E Q → Outcome T → Type 0
  IsUseVerdict old usage outcome =
      IsVerdict (carry_out (observation_in outcome) old usage) (use_is_free old usage) outcome

  -- one change of a value: its outcome, and the value after it
  abbrev pub IsEdit : E → A → Outcome T → A → Type 0
  IsEdit edit old outcome new =
      Gives (rules.edit edit old) (rules.edit_is_free edit old) old outcome new

  -- of one change, only whether it is refused, and why
  abbrev pub IsEditVerdict : E → A → Outcome T → Type 0
  IsEditVerdict edit old outcome =
      IsVerdict (rules.edit edit old) (rules.edit_is_free edit old) outcome

  -- one question to a value, and its outcome
  abbrev pub IsAnswer : Q → A → Outcome T → Type 0
  IsAnswer question value outcome = MatchResult (rules.ask (observation_in outcome) question value)
      (λ answer. (outcome ≡ answer)
      ⊎ ((outcome ≡ Refused Memory) × (rules.ask_is_free question ≡ false)))
      (λ refusal. outcome ≡ Refused refusal)

  -- of one question, only whether it is refused, and why
  abbrev pub IsAnswerVerdict : Q → A → Outcome T → Type 0
  IsAnswerVerdict question value outcome =
      IsVerdict (rules.ask (observation_in outcome) question value)
      (rules.ask_is_free question) outcome

  -- one value that is made, and one that is derived
  abbrev pub IsMade : M → Result (NewValue A) Refusal → Type 0
  IsMade how result = IsGiven (rules.make how) result

  -- of a value that is made, only whether it is refused, and why
  abbrev pub IsMadeOrRefused : M → Result (NewValue A) Refusal → Type 0
  IsMadeOrRefused how result = IsRefusedAlike (rules.make how) result

  -- one value that is derived
  abbrev pub IsDerived : D → V → Result A Refusal → Type 0
  IsDerived how source result = IsGiven (rules.derive how source) result

  -- of a value that is derived, only whether it is refused, and why
  abbrev pub IsDerivedOrRefused : D → V → Result A Refusal → Type 0
  IsDerivedOrRefused how source result = IsRefusedAlike (rules.derive how source) result
