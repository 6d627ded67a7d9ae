-- A name gives up its block for a while, and has it again.
use Rattle.std.proofs.Common.{◌≡◌, ◌≢◌, ℕ, ◌<◌, ◌≤◌, true, false, cond, eqb, [], length, Some, None, IsSome, Result, Ok, Err, refl, sym, ◌∙◌, ap, arith, subst}
use Rattle.std.specs.Prelude.{is_some, OnOk, OnErr}
use Rattle.std.specs.FinMap as finite
use Rattle.std.specs.Option.{unwrap_or}
use Rattle.std.proofs.lemmas.Bool.{true≢false, ltb-false, eq-eqb}
use Rattle.std.proofs.lemmas.Option.{none-some, same_Some}
use Rattle.std.proofs.lemmas.List.{nil_from_length}
use Rattle.ecow_block.specs.Contents.{Contents, contents}
use Rattle.ecow_model.specs.CountedRun.{holding_at, nothing}
use Rattle.ecow_model.specs.Names.{Names, IsSharing, is_shared, settle}
use Rattle.ecow_counted.proofs.Settled.{get-settle, settle-settle, settle_same}
use Rattle.ecow_counted.specs.Opened.{IsOpened}
use Rattle.ecow_counted.specs.Sizes.{sole_block}

module _ {T : Type 0} (names : Names T) (x : ℕ) where
  pub taken_opened : IsOpened x names (settle x [] 0 names)
  taken_opened = record { there = ap is_some (get-settle names x [] 0); settles = λ items capacity. settle-settle names x [] items 0 capacity }

  pub opened_as : (after : Names T) → after ≡ settle x [] 0 names → IsOpened x names after
  opened_as after e = subst (IsOpened x names) (sym e) taken_opened

  pub same_opened : IsSome (finite.get names x) → IsOpened x names names
  same_opened some = record { there = some; settles = λ items capacity. refl }

  pub held_there : IsSome (finite.get names x) → finite.get names x ≡ Some (holding_at names x)
  held_there some =
      elim (finite.get names x) as (λ o. IsSome o
      → o ≡ Some (unwrap_or o nothing)) [ None ↦ λ e. absurd (true≢false (sym e)) | Some h ↦ λ _. refl ] some

  module _ (there : IsSome (finite.get names x)) (sole : is_shared (holding_at names x) ≡ false) (groups : IsSharing names)
      (backed : 0 < length (holding_at names x).group → 0 < (holding_at names x).capacity) where
    few : length (holding_at names x).group ≤ 1
    few = ltb-false 1 (length (holding_at names x).group) sole

    again : settle x (holding_at names x).items (holding_at names x).capacity names ≡ names
    again = settle_same names x groups (holding_at names x) (held_there there) few backed

    block_is : (block : Contents T) → Some block ≡ sole_block (finite.get names x) → contents (holding_at names x).items (holding_at names x).capacity ≡ block
    block_is block e =
        elim (eqb (length (holding_at names x).group) 1) as (λ b.
        cond b (Some (contents (holding_at names x).items (holding_at names x).capacity)) None ≡ Some block
        → contents (holding_at names x).items (holding_at names x).capacity ≡ block) [
          | true ↦ λ is. same_Some _ block is
          | false ↦ λ is. absurd (none-some block is)
        ] (sym (ap sole_block (held_there there)) ∙ sym e)

    -- the block that was taken is put back
    pub put_back : (block : Contents T) → Some block ≡ sole_block (finite.get names x) → (mid after : Names T)
        → mid ≡ settle x [] 0 names → after ≡ settle x block.items block.capacity mid → after ≡ names
    put_back block is mid after taken put =
        let same = block_is block is in
        put ∙ ap (settle x block.items block.capacity) taken ∙ settle-settle names x [] block.items 0 block.capacity
        ∙ (λ i. settle x (sym same i).items (sym same i).capacity names) ∙ again

    -- there was none to take
    pub none_taken : None ≡ sole_block (finite.get names x) → (mid : Names T) → mid ≡ settle x [] 0 names → mid ≡ names
    none_taken e mid taken =
        let apart : length (holding_at names x).group ≢ 1 =
        λ one. none-some (contents (holding_at names x).items (holding_at names x).capacity) (e
        ∙ ap sole_block (held_there there)
        ∙ ap (λ b. cond b (Some (contents (holding_at names x).items (holding_at names x).capacity)) None)
        (eq-eqb (length (holding_at names x).group) 1 one)) in
        let bare : (holding_at names x).group ≡ [] = nil_from_length (holding_at names x).group (omega (arith, few, apart)) in
        let none : (holding_at names x).capacity ≡ 0 = groups.bare x (holding_at names x) (held_there there) bare in
        let fits = (groups.fits x (holding_at names x) (held_there there)).0 in
        let empty : (holding_at names x).items ≡ [] = nil_from_length (holding_at names x).items (omega (arith, fits, none)) in
        taken ∙ sym (λ i. settle x (empty i) (none i) names) ∙ again

pub where_ok : {A E P Q : Type 0} (r : Result A E) → (P → Q) → OnOk r P → OnOk r Q
where_ok (Ok a) f p = f p
where_ok (Err e) f p = tt

pub where_err : {A E P Q : Type 0} (r : Result A E) → (P → Q) → OnErr r P → OnErr r Q
where_err (Ok a) f p = tt
where_err (Err e) f p = f p

pub always_ok : {A E P : Type 0} (r : Result A E) → P → OnOk r P
always_ok (Ok a) p = p
always_ok (Err e) p = tt

pub always_err : {A E P : Type 0} (r : Result A E) → P → OnErr r P
always_err (Ok a) p = tt
always_err (Err e) p = p
