-- Why a call is refused, and what a refusal leaves.
use Rattle.std.specs.Prelude.{◌≡◌, ◌<◌, ◌↔◌, ℕ, Result, IfErr, IsErrAnd, IsErrOf, OnErr}
use Rattle.ecow_base.specs.declared.capacity.TheConstants.{MAX_LEN}
use Rattle.ecow_list.specs.declared.error.EcoError.{EcoError}
use Rattle.ecow_list.specs.declared.error.EcoError.TheVariants.{Capacity, Memory}
use Rattle.ecow_list.specs.declared.error.Rejected.{Rejected}

module _ {X R : Type 0} where
  -- a call after which there are `needed` elements is refused for capacity exactly where these pass
  -- the limit, and else for memory; a refusal leaves the value as it was
  pub record RefusesPast (needed : ℕ) (old : X) (result : Result R EcoError) (new : X) : Type 0
    where
      pub unchanged : OnErr result (new ≡ old)
      pub capacity : IsErrOf result Capacity ↔ (MAX_LEN < needed)

  -- a call is refused for memory alone; a refusal leaves the value as it was
  pub record RefusesForMemory (old : X) (result : Result R EcoError) (new : X) : Type 0 where
    pub unchanged : OnErr result (new ≡ old)
    pub memory : IfErr result (λ error. error ≡ Memory)

  -- the same of calls that hand back what they were given
  pub record RejectsPast {A : Type 0} (needed : ℕ) (given : A) (old : X)
      (result : Result R (Rejected A)) (new : X) : Type 0 where
    pub unchanged : OnErr result (new ≡ old)
    pub value_returned : IfErr result (λ rejected. rejected.value ≡ given)
    pub capacity : IsErrAnd result (λ rejected. rejected.error ≡ Capacity) ↔ (MAX_LEN < needed)

  pub record RejectsForMemory {A : Type 0} (given : A) (old : X) (result : Result R (Rejected A))
      (new : X) : Type 0 where
    pub unchanged : OnErr result (new ≡ old)
    pub value_returned : IfErr result (λ rejected. rejected.value ≡ given)
    pub memory : IfErr result (λ rejected. rejected.error ≡ Memory)
