-- What a caller reads under a name.
use Rattle.std.specs.Prelude.{ℕ, List, Option}
use Rattle.std.specs.Result.{result_ok}
use Rattle.ecow_model.specs.Refusing.{◌>>=◌}
use Rattle.ecow_model.specs.State.{State}
use Rattle.ecow_model.specs.Values.{as_vec, as_bytes, as_text, there}
use Rattle.ecow_base.specs.declared.plain.PlainBytes.{PlainBytes}
use Rattle.ecow_base.specs.declared.plain.PlainText.{PlainText}

module _ {T : Type 0} where
  -- the list under a name, if one stands there
  abbrev pub vec_under : State T → ℕ → Option (List T)
  vec_under values name = result_ok (there values name >>= as_vec)

  -- the bytes under a name, if some stand there
  abbrev pub bytes_under : State T → ℕ → Option PlainBytes
  bytes_under values name = result_ok (there values name >>= as_bytes)

  -- the text under a name, if one stands there
  abbrev pub text_under : State T → ℕ → Option PlainText
  text_under values name = result_ok (there values name >>= as_text)
