-- Texts appended one after another.
use Rattle.std.proofs.Common.{◌≡◌, ℕ, ◌+◌, List, [], ◌∷◌, ◌++◌, length, sym, ap, ◌∙◌, append_assoc, append-nil, IsUtf8, Result, Ok, Err}
use Rattle.std.specs.Prelude.{IsErrOf}
use Rattle.std.specs.Str.{chars}
use Rattle.std.proofs.lemmas.Grind.{flat_map-append}
use Rattle.ecow_base.specs.Utf8.{utf8_len}
use Rattle.ecow_string.specs.Appends.{joined_by}
use Rattle.ecow_string.proofs.Occurrences.{encoded_len}
use Rattle.ecow_string.proofs.Steps.{utf8_len-chars}

-- one text more
pub joined_by_more : {T : Type 0} (f : T → List ℕ) (old : List ℕ) (xs : List T) (x : T) (now : List ℕ)
    → now ≡ old ++ joined_by f xs → now ++ f x ≡ old ++ joined_by f (xs ++ x ∷ [])
joined_by_more f old xs x now e =
    let last : joined_by f (xs ++ x ∷ []) ≡ joined_by f xs ++ f x = flat_map-append f xs (x ∷ []) ∙ ap (λ l. joined_by f xs ++ l) (append-nil (f x)) in
    ap (λ l. l ++ f x) e ∙ append_assoc old (joined_by f xs) (f x) ∙ ap (λ l. old ++ l) (sym last)

pub text_more : (cs bs : List ℕ) → IsUtf8 bs → utf8_len (cs ++ chars bs) ≡ utf8_len cs + length bs
text_more cs bs text = encoded_len cs (chars bs) ∙ ap (λ n. utf8_len cs + n) (utf8_len-chars bs text)

error_of : {T E : Type 0} → E → Result T E → E
error_of other (Ok x) = other
error_of other (Err e) = e

-- an error is the same one in another call's result
pub same_error : {T U E : Type 0} (e k : E) → IsErrOf {T = T} (Err e) k → IsErrOf {T = U} (Err e) k
unfolding error_of
same_error e k is = ap Err (ap (error_of e) is)
