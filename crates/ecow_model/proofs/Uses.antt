-- What is done to a value that stands under a name is done to the named values, whatever kind it is.
use Rattle.std.proofs.Common.{◌≡◌, ℕ, Bool, Result, Ok, Err, refl, ap, ◌∙◌, inl, inr}
use Rattle.std.specs.FinMap.{get, insert}
use Rattle.ecow_model.specs.Refusing.{◌>>=◌, OnRefused, Effect}
use Rattle.ecow_model.specs.Values.{Named, there}
use Rattle.ecow_model.specs.Uses.{Rules, WrapsPayloads, Gives, IsVerdict, value_at, observation_in, IsEdit, IsEditVerdict, IsAnswer, IsAnswerVerdict, IsUse, IsUseVerdict}
use Rattle.ecow_model.specs.Vecs.{vec_rules}
use Rattle.ecow_model.specs.Bytes.{bytes_rules}
use Rattle.ecow_model.specs.Texts.{text_rules}
use Rattle.ecow_model.specs.declared.usage.Usage.TheVariants as use_to
use Rattle.ecow_model.specs.declared.command.Outcome.{Outcome}
use Rattle.ecow_model.specs.declared.command.Outcome.TheVariants.{Refused}
use Rattle.ecow_model.specs.declared.command.Refusal.{Refusal}
use Rattle.ecow_model.specs.declared.value.Value.TheVariants.{Vec as VecValue, Bytes as BytesValue, Text as TextValue}
use Rattle.ecow_model.proofs.PutBack.{insert_same, found_value}

module _ {T V A M D E Q : Type 0} (rules : Rules T V A M D E Q) (keeps : WrapsPayloads rules)
    (old : Named V) (name : ℕ) (x : A) (at : value_at rules old name ≡ Ok x) where
  stands : (held : Result V Refusal) → (held >>= rules.payload) ≡ Ok x → held ≡ Ok (rules.wrap x)
  stands (Ok v) e = ap Ok (keeps v x e)
  stands (Err refusal) e = cc

  put_same : insert old name (rules.wrap x) ≡ old
  put_same = insert_same old name (rules.wrap x) (found_value (get old name) (rules.wrap x) (stands (there old name) at))

  -- a value that stays as it was is put back
  pub put_wrap : (y : A) → y ≡ x → insert old name (rules.wrap y) ≡ old
  put_wrap y e = ap (λ v. insert old name (rules.wrap v)) e ∙ put_same

  by_edit : (y : A) (outcome : Outcome T) (free : Bool) (given : Effect T A) → Gives given free x outcome y
      → Gives {S = Named V} (given >>= (λ after. Ok (after.0, insert old name (rules.wrap after.1)))) free old outcome
      (insert old name (rules.wrap y))
  by_edit y outcome free (Ok answer) (inl h) = inl (λ i. ((h i).0, insert old name (rules.wrap (h i).1)))
  by_edit y outcome free (Ok answer) (inr h) = inr (h.0, put_wrap y h.1, h.2)
  by_edit y outcome free (Err refusal) h = (h.0, put_wrap y h.1)

  pub edit_lifts : (edit : E) (outcome : Outcome T) (y : A) → IsEdit rules edit x outcome y
      → IsUse rules old (use_to.Edit name edit) outcome (insert old name (rules.wrap y))
  edit_lifts edit outcome y h = rw at (by_edit y outcome (rules.edit_is_free edit x) (rules.edit edit x) h)

  by_verdict : {B C : Type 0} (outcome : Outcome T) (free : Bool) (given : Result B Refusal) (after : B → C)
      → IsVerdict given free outcome → IsVerdict (given >>= (λ answer. Ok (after answer))) free outcome
  by_verdict outcome free (Ok answer) after h = h
  by_verdict outcome free (Err refusal) after h = h

  pub edit_verdict_lifts : (edit : E) (outcome : Outcome T) → IsEditVerdict rules edit x outcome → IsUseVerdict rules old (use_to.Edit name edit) outcome
  edit_verdict_lifts edit outcome h =
      rw at (by_verdict outcome (rules.edit_is_free edit x) (rules.edit edit x) (λ after. (after.0, insert old name (rules.wrap after.1))) h)

  by_answer : (question : Q) (outcome : Outcome T) (given : Result (Outcome T) Refusal)
      → rules.ask (observation_in outcome) question x ≡ given → IsAnswer rules question x outcome
      → Gives {S = Named V} (given >>= (λ answer. Ok (answer, old))) (rules.ask_is_free question) old outcome old
  by_answer question outcome (Ok answer) e h = elim (rw e at h) [ inl k ↦ inl (λ i. (k i, old)) | inr k ↦ inr (k.0, refl, k.1) ]
  by_answer question outcome (Err refusal) e h = (rw e at h, refl)

  pub answer_lifts : (question : Q) (outcome : Outcome T) → IsAnswer rules question x outcome → IsUse rules old (use_to.Ask name question) outcome old
  answer_lifts question outcome h = rw at (by_answer question outcome (rules.ask (observation_in outcome) question x) refl h)

  pub answer_verdict_lifts : (question : Q) (outcome : Outcome T) → IsAnswerVerdict rules question x outcome
      → IsUseVerdict rules old (use_to.Ask name question) outcome
  answer_verdict_lifts question outcome h =
      rw at (by_verdict outcome (rules.ask_is_free question) (rules.ask (observation_in outcome) question x) (λ answer. (answer, old)) h)

  pub refused_lifts : (y : A) (outcome : Outcome T) → OnRefused outcome (y ≡ x) → OnRefused outcome (insert old name (rules.wrap y) ≡ old)
  refused_lifts y (Refused refusal) same = put_wrap y same
  refused_lifts y _ same = tt

-- lists, bytes and texts are kept as they are seen
pub vec_wraps : {T : Type 0} → WrapsPayloads (vec_rules {T = T})
vec_wraps (VecValue xs) ys e = cc
vec_wraps (BytesValue b) ys e = cc
vec_wraps (TextValue t) ys e = cc

-- what stays stays where the command was refused
pub on_refused : {T P : Type 0} (outcome : Outcome T) → P → OnRefused outcome P
on_refused (Refused refusal) p = p
on_refused _ p = tt

pub bytes_wraps : {T : Type 0} (limit : ℕ) → WrapsPayloads (bytes_rules {T = T} limit)
bytes_wraps limit (VecValue xs) b e = cc
bytes_wraps limit (BytesValue c) b e = cc
bytes_wraps limit (TextValue t) b e = cc

pub text_wraps : {T : Type 0} (limit : ℕ) → WrapsPayloads (text_rules {T = T} limit)
text_wraps limit (VecValue xs) t e = cc
text_wraps limit (BytesValue b) t e = cc
text_wraps limit (TextValue u) t e = cc
