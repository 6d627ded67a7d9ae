-- What each command on lists does.
use Rattle.std.specs.Prelude.{◌+◌, ◌-◌, ℕ, Bool, true, false, ◌||◌, ◌==◌, nat_le, max, List, [], ◌∷◌, ◌++◌, length, take, replicate, slice_get, slice_set, slice_range, Result, Ok}
use Rattle.std.specs.List.{insert as insert_at, remove as remove_at, remove_range, splice, items_where_true}
use Rattle.std.specs.Option.{ok_or}
use Rattle.ecow_base.specs.Range.{range_of}
use Rattle.ecow_model.specs.State.{Plain}
use Rattle.ecow_model.specs.Refusing.{◌>>=◌, check, allowed, Effect, becomes}
use Rattle.ecow_model.specs.Values.{as_vec}
use Rattle.ecow_model.specs.Uses.{Observation, Rules}
use Rattle.ecow_model.specs.declared.value.Value.TheVariants.{Vec as VecValue}
use Rattle.ecow_model.specs.declared.command.Outcome.{Outcome}
use Rattle.ecow_model.specs.declared.command.Outcome.TheVariants.{Element, Popped, Elements, Count, Flag}
use Rattle.ecow_model.specs.declared.command.Refusal.{Refusal}
use Rattle.ecow_model.specs.declared.command.Refusal.TheVariants.{Index, Range, Marks}
use Rattle.ecow_model.specs.declared.usage.NewValue.{NewValue}
use Rattle.ecow_model.specs.declared.usage.NewValue.TheVariants.{Always}
use Rattle.ecow_model.specs.declared.usage.Usage.{Usage}
use Rattle.ecow_model.specs.declared.usage.Usage.TheVariants.{Make, Derive, Drop, Edit, Ask}
use Rattle.ecow_model.specs.declared.vecs.VecCommand.{VecCommand}
use Rattle.ecow_model.specs.declared.vecs.VecCommand.TheVariants as command
use Rattle.ecow_model.specs.declared.vecs.VecMake.{VecMake}
use Rattle.ecow_model.specs.declared.vecs.VecMake.TheVariants.{New, WithCapacity, FromList, FromElem}
use Rattle.ecow_model.specs.declared.vecs.VecDerive.{VecDerive}
use Rattle.ecow_model.specs.declared.vecs.VecDerive.TheVariants.{Clone}
use Rattle.ecow_model.specs.declared.vecs.VecEdit.{VecEdit}
use Rattle.ecow_model.specs.declared.vecs.VecEdit.TheVariants.{Push, Pop, Insert, Remove, Truncate, Clear, Retain, Drain, Splice, Extend, Reserve, Write}
use Rattle.ecow_model.specs.declared.vecs.VecAsk.{VecAsk}
use Rattle.ecow_model.specs.declared.vecs.VecAsk.TheVariants.{Read, Len, Contents, Capacity, Unique}

-- a question that takes no memory
abbrev pub vec_ask_is_free : VecAsk → Bool
vec_ask_is_free (Read index) = false
vec_ask_is_free Contents = false
vec_ask_is_free _ = true

-- a command on lists, by its parts
abbrev pub VecUsage : Type 0 → Type 0
VecUsage T = Usage (VecMake T) VecDerive (VecEdit T) VecAsk

module _ {T : Type 0} where
  -- the list becomes `xs`, if it may be so long
  abbrev pub grows : List T → Effect T (List T)
  grows xs = do
    _ ← allowed (length xs)
    becomes xs

  -- the item at an index, refused past the end
  abbrev pub item_at : List T → ℕ → Result T Refusal
  item_at xs index = ok_or (slice_get xs index) Index

  -- the list that is made
  abbrev pub make_vec : VecMake T → Result (List T) Refusal
  make_vec New = Ok []
  make_vec (WithCapacity capacity) = do
    _ ← allowed capacity
    Ok []
  make_vec (FromList items) = do
    _ ← allowed (length items)
    Ok items
  make_vec (FromElem value n) = do
    _ ← allowed n
    Ok (replicate n value)

  -- the list that is made from the value of a name, which stays as it is
  abbrev pub derive_vec : VecDerive → Plain T → Result (List T) Refusal
  derive_vec Clone value = as_vec value

  -- what is answered, and the list after the change of the list `xs`
  abbrev pub edit_vec : VecEdit T → List T → Effect T (List T)
  edit_vec (Push value) xs = grows (xs ++ value ∷ [])
  edit_vec Pop xs = Ok (Popped (slice_get xs (length xs - 1)), take (length xs - 1) xs)
  edit_vec (Insert index value) xs = do
    _ ← check (nat_le index (length xs)) Index
    grows (insert_at xs index value)
  edit_vec (Remove index) xs = do
    x ← item_at xs index
    Ok (Element x, remove_at xs index)
  edit_vec (Truncate target) xs = becomes (take target xs)
  edit_vec Clear xs = becomes []
  edit_vec (Retain marks) xs = do
    _ ← check (length marks == length xs) Marks
    becomes (items_where_true marks xs)
  edit_vec (Drain bounds) xs = do
    range ← ok_or (range_of bounds (length xs)) Range
    Ok (Elements (slice_range xs range.0 range.1), remove_range xs range.0 range.1)
  edit_vec (Splice bounds items) xs = do
    range ← ok_or (range_of bounds (length xs)) Range
    spliced ← grows (splice xs range.0 range.1 items)
    Ok (Elements (slice_range xs range.0 range.1), spliced.1)
  edit_vec (Extend items) xs = grows (xs ++ items)
  edit_vec (Reserve additional) xs = do
    _ ← allowed (length xs + additional)
    becomes xs
  edit_vec (Write index value) xs = do
    x ← item_at xs index
    becomes (slice_set xs index value)

  -- what the list `xs` answers; the capacity that is read of it is not below its length
  abbrev pub ask_vec : Observation → VecAsk → List T → Result (Outcome T) Refusal
  ask_vec seen (Read index) xs = do
    x ← item_at xs index
    Ok (Element x)
  ask_vec seen Len xs = Ok (Count (length xs))
  ask_vec seen Contents xs = Ok (Elements xs)
  ask_vec seen Capacity xs = Ok (Count (max seen.capacity (length xs)))
  ask_vec seen Unique xs = Ok (Flag seen.unique)

  -- a change that takes no memory on the list `xs`, whoever shares it
  abbrev pub vec_edit_is_free : VecEdit T → List T → Bool
  vec_edit_is_free Clear xs = true
  vec_edit_is_free Pop xs = length xs == 0
  vec_edit_is_free (Truncate target) xs = target == 0 || nat_le (length xs) target
  vec_edit_is_free (Extend items) xs = length items == 0
  vec_edit_is_free _ xs = false

  -- the list that is made is a value of its name
  abbrev pub list_value : VecMake T → Result (NewValue (List T)) Refusal
  list_value how = do
    xs ← make_vec how
    Ok (Always xs)

  -- the rules of lists
  abbrev pub vec_rules : Rules T (Plain T) (List T) (VecMake T) VecDerive (VecEdit T) VecAsk
  vec_rules = record {
    payload = as_vec;
    wrap = VecValue;
    make = list_value;
    derive = derive_vec;
    edit = edit_vec;
    ask = ask_vec;
    edit_is_free = vec_edit_is_free;
    ask_is_free = vec_ask_is_free;
  }

  -- the parts of a command
  abbrev pub vec_usage : VecCommand T → VecUsage T
  vec_usage (command.New name) = Make name New
  vec_usage (command.WithCapacity name capacity) = Make name (WithCapacity capacity)
  vec_usage (command.FromList name items) = Make name (FromList items)
  vec_usage (command.FromElem name value n) = Make name (FromElem value n)
  vec_usage (command.Clone from to) = Derive from to Clone
  vec_usage (command.Drop name) = Drop name
  vec_usage (command.Push name value) = Edit name (Push value)
  vec_usage (command.Pop name) = Edit name Pop
  vec_usage (command.Insert name index value) = Edit name (Insert index value)
  vec_usage (command.Remove name index) = Edit name (Remove index)
  vec_usage (command.Truncate name target) = Edit name (Truncate target)
  vec_usage (command.Clear name) = Edit name Clear
  vec_usage (command.Retain name marks) = Edit name (Retain marks)
  vec_usage (command.Drain name bounds) = Edit name (Drain bounds)
  vec_usage (command.Splice name bounds items) = Edit name (Splice bounds items)
  vec_usage (command.Extend name items) = Edit name (Extend items)
  vec_usage (command.Reserve name additional) = Edit name (Reserve additional)
  vec_usage (command.Write name index value) = Edit name (Write index value)
  vec_usage (command.Read name index) = Ask name (Read index)
  vec_usage (command.Len name) = Ask name Len
  vec_usage (command.Contents name) = Ask name Contents
  vec_usage (command.Capacity name) = Ask name Capacity
  vec_usage (command.Unique name) = Ask name Unique
