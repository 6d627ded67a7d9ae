-- The commands on lists: a word, and the forms of its arguments.
use Rattle.std.specs.Prelude.{ℕ, ℤ, List, [], ◌∷◌, codes, Option}
use Rattle.ecow_script.specs.Words.{Reading, ◌>>=◌, gives, next_word, name, count, integer, integers, bounds, marks}
use Rattle.ecow_script.specs.Forms.{one, two, beside, command_at}
use Rattle.ecow_script.specs.declared.commands.VecWord.{VecWord}
use Rattle.ecow_script.specs.declared.commands.VecWord.TheVariants as word
use Rattle.ecow_model.specs.declared.vecs.VecCommand.{VecCommand}
use Rattle.ecow_model.specs.declared.vecs.VecCommand.TheVariants.{New, WithCapacity, FromList, FromElem, Clone, Drop, Push, Pop, Insert, Remove, Write, Truncate, Clear, Retain, Drain, Splice, Extend, Reserve, Read, Len, Contents, Capacity, Unique}

-- the words of the commands
abbrev pub vec_words : List (List ℕ × VecWord)
vec_words =
    (codes "new", word.New)
    ∷ (codes "with_capacity", word.WithCapacity)
    ∷ (codes "from_list", word.FromList)
    ∷ (codes "from_elem", word.FromElem)
    ∷ (codes "clone", word.Clone)
    ∷ (codes "drop", word.Drop)
    ∷ (codes "push", word.Push)
    ∷ (codes "pop", word.Pop)
    ∷ (codes "insert", word.Insert)
    ∷ (codes "remove", word.Remove)
    ∷ (codes "write", word.Write)
    ∷ (codes "truncate", word.Truncate)
    ∷ (codes "clear", word.Clear)
    ∷ (codes "retain", word.Retain)
    ∷ (codes "drain", word.Drain)
    ∷ (codes "splice", word.Splice)
    ∷ (codes "extend", word.Extend)
    ∷ (codes "reserve", word.Reserve)
    ∷ (codes "read", word.Read)
    ∷ (codes "len", word.Len)
    ∷ (codes "contents", word.Contents)
    ∷ (codes "capacity", word.Capacity)
    ∷ (codes "unique", word.Unique)
    ∷ []

-- the command that a word stands for
abbrev pub vec_word : List ℕ → Option VecWord
vec_word bytes = beside bytes vec_words

-- the arguments behind the name, which each command has first
abbrev pub vec_rest : ℕ → VecWord → Reading (VecCommand ℤ)
vec_rest first word.New = gives (New first)
vec_rest first word.WithCapacity = one (WithCapacity first) count
vec_rest first word.FromList = one (FromList first) integers
vec_rest first word.FromElem = two (FromElem first) integer count
vec_rest first word.Clone = one (Clone first) name
vec_rest first word.Drop = gives (Drop first)
vec_rest first word.Push = one (Push first) integer
vec_rest first word.Pop = gives (Pop first)
vec_rest first word.Insert = two (Insert first) count integer
vec_rest first word.Remove = one (Remove first) count
vec_rest first word.Write = two (Write first) count integer
vec_rest first word.Truncate = one (Truncate first) count
vec_rest first word.Clear = gives (Clear first)
vec_rest first word.Retain = one (Retain first) marks
vec_rest first word.Drain = one (Drain first) bounds
vec_rest first word.Splice = two (Splice first) bounds integers
vec_rest first word.Extend = one (Extend first) integers
vec_rest first word.Reserve = one (Reserve first) count
vec_rest first word.Read = one (Read first) count
vec_rest first word.Len = gives (Len first)
vec_rest first word.Contents = gives (Contents first)
vec_rest first word.Capacity = gives (Capacity first)
vec_rest first word.Unique = gives (Unique first)

-- the arguments behind a word
abbrev pub vec_form : VecWord → Reading (VecCommand ℤ)
vec_form word = do
  first ← name
  vec_rest first word

-- a command on lists behind its kind
abbrev pub vec_command : Reading (VecCommand ℤ)
vec_command old = command_at vec_word vec_form (next_word old)
