-- Tests that may refuse a command, and what an outcome says of them.
use Rattle.std.specs.Prelude.{ℕ, ◌^◌, Bool, if◌then◌else◌, nat_lt, Result, Ok, Err}
use Rattle.ecow_model.specs.declared.command.Outcome.{Outcome}
use Rattle.ecow_model.specs.declared.command.Outcome.TheVariants.{Done, Refused}
use Rattle.ecow_model.specs.declared.command.Refusal.{Refusal}
use Rattle.ecow_model.specs.declared.command.Refusal.TheVariants.{Capacity}

-- a test that may refuse, and then what follows it
infixl 10 ◌>>=◌
abbrev pub ◌>>=◌ : {A B : Type 0} → Result A Refusal → (A → Result B Refusal) → Result B Refusal
Ok x >>= f = f x
Err refusal >>= f = Err refusal

-- refused unless the test holds
abbrev pub check : Bool → Refusal → Result (Unit {0}) Refusal
check test refusal = if test then Ok tt else Err refusal

-- refused past the greatest length and capacity, 2^63 - 1
abbrev pub allowed : ℕ → Result (Unit {0}) Refusal
allowed n = check (nat_lt n (2 ^ 63)) Capacity

-- whether it is refused, and why
abbrev pub verdict : {A : Type 0} → Result A Refusal → Result (Unit {0}) Refusal
verdict (Ok x) = Ok tt
verdict (Err refusal) = Err refusal

-- P holds of the refusal, where the command was refused
abbrev pub IfRefused : {T : Type 0} → Outcome T → (Refusal → Type 0) → Type 0
IfRefused (Refused refusal) P = P refusal
IfRefused _ P = Unit {0}

-- P holds where the command was refused
abbrev pub OnRefused : {T : Type 0} → Outcome T → Type 0 → Type 0
OnRefused outcome P = IfRefused outcome (λ refusal. P)

-- what a change of a value answers, and what the value is afterwards
abbrev pub Effect : Type 0 → Type 0 → Type 0
Effect T A = Result (Outcome T × A) Refusal

-- the value becomes this, and the answer is Done
abbrev pub becomes : {T A : Type 0} → A → Effect T A
becomes value = Ok (Done, value)
