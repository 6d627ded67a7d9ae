-- The commands on bytes: a word, and the forms of its arguments.
use Rattle.std.specs.Prelude.{ℕ, List, [], ◌∷◌, codes, Option}
use Rattle.ecow_script.specs.Words.{Reading, ◌>>=◌, gives, next_word, name, count, byte, bytes}
use Rattle.ecow_script.specs.Forms.{one, two, beside, command_at}
use Rattle.ecow_script.specs.declared.commands.BytesWord.{BytesWord}
use Rattle.ecow_script.specs.declared.commands.BytesWord.TheVariants as word
use Rattle.ecow_model.specs.declared.bytes.BytesCommand.{BytesCommand}
use Rattle.ecow_model.specs.declared.bytes.BytesCommand.TheVariants.{New, TryInline, WithCapacity, FromList, FromEcoVec, FromText, Clone, Drop, Push, Pop, Insert, Remove, Extend, InsertSlice, Truncate, Clear, Reserve, Write, Read, Repeat, ShrinkToFit, Len, Capacity, Contents, IsInline}

-- the words of the commands
abbrev pub bytes_words : List (List ℕ × BytesWord)
bytes_words =
    (codes "new", word.New)
    ∷ (codes "try_inline", word.TryInline)
    ∷ (codes "with_capacity", word.WithCapacity)
    ∷ (codes "from_list", word.FromList)
    ∷ (codes "from_eco_vec", word.FromEcoVec)
    ∷ (codes "from_text", word.FromText)
    ∷ (codes "clone", word.Clone)
    ∷ (codes "drop", word.Drop)
    ∷ (codes "push", word.Push)
    ∷ (codes "pop", word.Pop)
    ∷ (codes "insert", word.Insert)
    ∷ (codes "remove", word.Remove)
    ∷ (codes "extend", word.Extend)
    ∷ (codes "insert_slice", word.InsertSlice)
    ∷ (codes "truncate", word.Truncate)
    ∷ (codes "clear", word.Clear)
    ∷ (codes "reserve", word.Reserve)
    ∷ (codes "write", word.Write)
    ∷ (codes "read", word.Read)
    ∷ (codes "repeat", word.Repeat)
    ∷ (codes "shrink_to_fit", word.ShrinkToFit)
    ∷ (codes "len", word.Len)
    ∷ (codes "capacity", word.Capacity)
    ∷ (codes "contents", word.Contents)
    ∷ (codes "is_inline", word.IsInline)
    ∷ []

-- the command that a word stands for
abbrev pub bytes_word : List ℕ → Option BytesWord
bytes_word bytes = beside bytes bytes_words

-- the arguments behind the name, which each command has first
abbrev pub bytes_rest : ℕ → BytesWord → Reading BytesCommand
bytes_rest first word.New = gives (New first)
bytes_rest first word.TryInline = one (TryInline first) bytes
bytes_rest first word.WithCapacity = one (WithCapacity first) count
bytes_rest first word.FromList = one (FromList first) bytes
bytes_rest first word.FromEcoVec = one (FromEcoVec first) bytes
bytes_rest first word.FromText = one (FromText first) name
bytes_rest first word.Clone = one (Clone first) name
bytes_rest first word.Drop = gives (Drop first)
bytes_rest first word.Push = one (Push first) byte
bytes_rest first word.Pop = gives (Pop first)
bytes_rest first word.Insert = two (Insert first) count byte
bytes_rest first word.Remove = one (Remove first) count
bytes_rest first word.Extend = one (Extend first) bytes
bytes_rest first word.InsertSlice = two (InsertSlice first) count bytes
bytes_rest first word.Truncate = one (Truncate first) count
bytes_rest first word.Clear = gives (Clear first)
bytes_rest first word.Reserve = one (Reserve first) count
bytes_rest first word.Write = two (Write first) count byte
bytes_rest first word.Read = one (Read first) count
bytes_rest first word.Repeat = two (Repeat first) name count
bytes_rest first word.ShrinkToFit = gives (ShrinkToFit first)
bytes_rest first word.Len = gives (Len first)
bytes_rest first word.Capacity = gives (Capacity first)
bytes_rest first word.Contents = gives (Contents first)
bytes_rest first word.IsInline = gives (IsInline first)

-- the arguments behind a word
abbrev pub bytes_form : BytesWord → Reading BytesCommand
bytes_form word = do
  first ← name
  bytes_rest first word

-- a command on bytes behind its kind
abbrev pub bytes_command : Reading BytesCommand
bytes_command old = command_at bytes_word bytes_form (next_word old)
