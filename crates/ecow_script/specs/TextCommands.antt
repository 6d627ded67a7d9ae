-- The commands on texts: a word, and the forms of its arguments.
use Rattle.std.specs.Prelude.{ℕ, List, [], ◌∷◌, codes, Option}
use Rattle.ecow_script.specs.Words.{Reading, ◌>>=◌, gives, next_word, name, count, character, text}
use Rattle.ecow_script.specs.Forms.{one, two, four, beside, command_at}
use Rattle.ecow_script.specs.declared.commands.TextWord.{TextWord}
use Rattle.ecow_script.specs.declared.commands.TextWord.TheVariants as word
use Rattle.ecow_model.specs.declared.texts.TextCommand.{TextCommand}
use Rattle.ecow_model.specs.declared.texts.TextCommand.TheVariants.{New, TryInline, WithCapacity, FromStr, FromChar, FromBytes, Clone, Drop, Push, Pop, PushStr, Insert, InsertStr, Remove, Truncate, Clear, Reserve, Replace, Repeat, AsciiLower, AsciiUpper, ToAsciiLower, ToAsciiUpper, ShrinkToFit, Len, Capacity, Contents, IsInline}

-- the words of the commands
abbrev pub text_words : List (List ℕ × TextWord)
text_words =
    (codes "new", word.New)
    ∷ (codes "try_inline", word.TryInline)
    ∷ (codes "with_capacity", word.WithCapacity)
    ∷ (codes "from_str", word.FromStr)
    ∷ (codes "from_char", word.FromChar)
    ∷ (codes "from_bytes", word.FromBytes)
    ∷ (codes "clone", word.Clone)
    ∷ (codes "drop", word.Drop)
    ∷ (codes "push", word.Push)
    ∷ (codes "pop", word.Pop)
    ∷ (codes "push_str", word.PushStr)
    ∷ (codes "insert", word.Insert)
    ∷ (codes "insert_str", word.InsertStr)
    ∷ (codes "remove", word.Remove)
    ∷ (codes "truncate", word.Truncate)
    ∷ (codes "clear", word.Clear)
    ∷ (codes "reserve", word.Reserve)
    ∷ (codes "replace", word.Replace)
    ∷ (codes "repeat", word.Repeat)
    ∷ (codes "ascii_lower", word.AsciiLower)
    ∷ (codes "ascii_upper", word.AsciiUpper)
    ∷ (codes "to_ascii_lower", word.ToAsciiLower)
    ∷ (codes "to_ascii_upper", word.ToAsciiUpper)
    ∷ (codes "shrink_to_fit", word.ShrinkToFit)
    ∷ (codes "len", word.Len)
    ∷ (codes "capacity", word.Capacity)
    ∷ (codes "contents", word.Contents)
    ∷ (codes "is_inline", word.IsInline)
    ∷ []

-- the command that a word stands for
abbrev pub text_word : List ℕ → Option TextWord
text_word bytes = beside bytes text_words

-- the arguments behind the name, which each command has first
abbrev pub text_rest : ℕ → TextWord → Reading TextCommand
text_rest first word.New = gives (New first)
text_rest first word.TryInline = one (TryInline first) text
text_rest first word.WithCapacity = one (WithCapacity first) count
text_rest first word.FromStr = one (FromStr first) text
text_rest first word.FromChar = one (FromChar first) character
text_rest first word.FromBytes = one (FromBytes first) name
text_rest first word.Clone = one (Clone first) name
text_rest first word.Drop = gives (Drop first)
text_rest first word.Push = one (Push first) character
text_rest first word.Pop = gives (Pop first)
text_rest first word.PushStr = one (PushStr first) text
text_rest first word.Insert = two (Insert first) count character
text_rest first word.InsertStr = two (InsertStr first) count text
text_rest first word.Remove = one (Remove first) count
text_rest first word.Truncate = one (Truncate first) count
text_rest first word.Clear = gives (Clear first)
text_rest first word.Reserve = one (Reserve first) count
text_rest first word.Replace = four (Replace first) name text text count
text_rest first word.Repeat = two (Repeat first) name count
text_rest first word.AsciiLower = gives (AsciiLower first)
text_rest first word.AsciiUpper = gives (AsciiUpper first)
text_rest first word.ToAsciiLower = one (ToAsciiLower first) name
text_rest first word.ToAsciiUpper = one (ToAsciiUpper first) name
text_rest first word.ShrinkToFit = gives (ShrinkToFit first)
text_rest first word.Len = gives (Len first)
text_rest first word.Capacity = gives (Capacity first)
text_rest first word.Contents = gives (Contents first)
text_rest first word.IsInline = gives (IsInline first)

-- the arguments behind a word
abbrev pub text_form : TextWord → Reading TextCommand
text_form word = do
  first ← name
  text_rest first word

-- a command on texts behind its kind
abbrev pub text_command : Reading TextCommand
text_command old = command_at text_word text_form (next_word old)
