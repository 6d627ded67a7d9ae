-- How many bytes a text has after an edit.
use Rattle.std.proofs.Common.{◌≡◌, ℕ, ◌+◌, true, List, [], ◌∷◌, ◌++◌, ◌^◌, nat_lt, length, take, drop, sym, ap, ◌∙◌, arith, append_assoc, length-append, take-append-drop}
use Rattle.std.specs.Prelude.{◌==◌}
use Rattle.std.specs.List.{insert, insert_slice}
use Rattle.std.specs.Char.{len_utf8}
use Rattle.std.specs.Str.{encode_utf8_all}
use Rattle.std.proofs.lemmas.Bool.{eqb-true, lt-ltb}
use Rattle.std.proofs.lemmas.List.{nil_from_length}
use Rattle.std.proofs.lemmas.Str.{encodes-append, len_utf8_bounds, is_utf8-from_IsUtf8}
use Rattle.ecow_base.specs.Utf8.{utf8_len}
use Rattle.ecow_base.proofs.Boundaries.{width}
use Rattle.ecow_string.proofs.Places.{nothing_at_end}
use Rattle.ecow_string.proofs.Texts.{not_utf8}

pub utf8_len-append : (cs ds : List ℕ) → utf8_len (cs ++ ds) ≡ utf8_len cs + utf8_len ds
utf8_len-append cs ds = ap length (encodes-append cs ds) ∙ length-append (encode_utf8_all cs) (encode_utf8_all ds)

pub utf8_len-one : (c : ℕ) → utf8_len (c ∷ []) ≡ len_utf8 c
utf8_len-one c = let wide = width c [] in omega arith

pub utf8_len-insert_slice : (cs : List ℕ) (k : ℕ) (ds : List ℕ) → utf8_len (insert_slice cs k ds) ≡ utf8_len cs + utf8_len ds
utf8_len-insert_slice cs k ds =
    let halves : utf8_len cs ≡ utf8_len (take k cs) + utf8_len (drop k cs) =
    ap utf8_len (sym (take-append-drop k cs)) ∙ utf8_len-append (take k cs) (drop k cs) in
    let front = utf8_len-append (take k cs) ds in
    let all = utf8_len-append (take k cs ++ ds) (drop k cs) in
    omega arith

pub utf8_len-insert : (cs : List ℕ) (k c : ℕ) → utf8_len (insert cs k c) ≡ utf8_len cs + len_utf8 c
utf8_len-insert cs k c =
    ap utf8_len (sym (append_assoc (take k cs) (c ∷ []) (drop k cs))) ∙ utf8_len-insert_slice cs k (c ∷ []) ∙ ap (λ n. utf8_len cs + n) (utf8_len-one c)

-- one character is far from the limit of lengths
pub one_fits : (c : ℕ) → nat_lt (utf8_len (c ∷ [])) (2 ^ 63) ≡ true
one_fits c = let small = len_utf8_bounds c in let size = utf8_len-one c in lt-ltb (utf8_len (c ∷ [])) (2 ^ 63) (omega (arith, small.1))

-- a text without characters has no bytes
pub no_bytes : (cs bs : List ℕ) → encode_utf8_all cs ≡ bs → (length cs == 0) ≡ true → bs ≡ []
no_bytes cs bs e none = sym e ∙ ap encode_utf8_all (nil_from_length cs (eqb-true (length cs) 0 none))

pub ruleset texts = (utf8_len-append, utf8_len-one, utf8_len-insert_slice, utf8_len-insert, nothing_at_end, no_bytes, one_fits, is_utf8-from_IsUtf8, not_utf8)
