-- Lines of a text, one after the other.
use Rattle.std.proofs.Common.{◌≡◌, ℕ, ◌+◌, ◌<◌, Bool, true, false, cond, eqb, not, List, [], ◌∷◌, ◌++◌, length, get_or, take, Option, Some, None, refl, sym, ap, ◌∙◌, arith, inl, inr, ◌⊎◌, Result, Ok, Err, append_assoc}
use Rattle.std.specs.List.{position, position_or_len, before_first, after_first, slice_split}
use Rattle.std.proofs.lemmas.Bool.{lt-ltb, le-ltb, cases_lt}
use Rattle.std.proofs.lemmas.List.Splits.{slice_split_first, slice_split_none, length-slice_split}
use Rattle.std.specs.List.{All}
use Rattle.std.proofs.lemmas.List.{take_all, drop_all, append-nil}
use Rattle.std.proofs.lemmas.List.Sums.{position_or_len_is, fails_before_first, prefix_len-le-length}
use Rattle.memchr.specs.Find.{IsFirstByte, is_byte}
use Rattle.ecow_script.specs.Scripts.{is_feed, without_return, script_lines, lines_of_parts, last_line, Unread, commands_ahead, behind_line, line_command, commands_on, with_front, with_command, IsFaultOf}
use Rattle.ecow_script.specs.declared.script.Fault.{Fault}
use Rattle.ecow_script.specs.declared.script.Fault.TheVariants as faults
use Rattle.ecow_script.specs.Words.{Reading, place}
use Rattle.ecow_script.specs.declared.reason.Reason.{Reason}
use Rattle.std.specs.Option.{option_to_list}

not_true : (b : Bool) → (b ≡ true → ⊥) → b ≡ false
not_true true h = absurd (h refl)
not_true false h = refl

-- the first line feed, as `memchr` finds it
pub feed_position : (bs : List ℕ) (r : Option ℕ) → IsFirstByte (is_byte 10) bs r
    → r ≡ position is_feed bs
feed_position bs None h =
    let e : position_or_len is_feed bs ≡ length bs =
    position_or_len_is is_feed bs (length bs) 0 (omega arith)
    (λ k l. not_true (is_feed (get_or bs k 0)) (h k (omega arith) l))
    (λ l. absurd (omega arith)) in
    sym (ap (λ b. cond b (Some (position_or_len is_feed bs)) None) (le-ltb _ _ (omega arith)))
feed_position bs (Some i) h =
    let e : position_or_len is_feed bs ≡ i =
    position_or_len_is is_feed bs i 0 (omega (arith, h.0.high))
    (λ k l. not_true (is_feed (get_or bs k 0)) (h.0.before k (omega arith) l)) (λ l. h.1) in
    sym (ap (λ b. cond b (Some (position_or_len is_feed bs)) None)
    (lt-ltb _ _ (omega (arith, h.0.high))) ∙ ap Some e)

pub return_push : (front : List ℕ) (x : ℕ)
    → without_return (front ++ x ∷ []) ≡ cond (eqb x 13) front (front ++ x ∷ [])
return_push [] x = refl
return_push (c ∷ []) x =
    elim (eqb x 13) as
    (λ b. c ∷ cond b [] (x ∷ []) ≡ cond b (c ∷ []) (c ∷ x ∷ [])) [ true ↦ refl | false ↦ refl ]
return_push (c ∷ d ∷ ds) x =
    ap (λ line. c ∷ line) (return_push (d ∷ ds) x)
    ∙ elim (eqb x 13) as
    (λ b. c ∷ cond b (d ∷ ds) ((d ∷ ds) ++ x ∷ []) ≡ cond b (c ∷ d ∷ ds)
    ((c ∷ d ∷ ds) ++ x ∷ [])) [ true ↦ refl | false ↦ refl ]

-- ---- lines

cases_place : (p : ℕ → Bool) (xs : List ℕ)
    → (position_or_len p xs < length xs) ⊎ (position_or_len p xs ≡ length xs)
cases_place p xs =
    elim (cases_lt (position_or_len p xs) (length xs)) [
      | inl l ↦ inl l
      | inr g ↦ inr
          (omega (arith, prefix_len-le-length (λ x. not (p x)) xs))
    ]

split_again : (part : List ℕ) (parts : List (List ℕ)) → 0 < length parts
    → lines_of_parts (part ∷ parts) ≡ without_return part ∷ lines_of_parts parts
split_again part [] h = absurd (omega arith)
split_again part (next ∷ parts) h = refl

parts_next : (part : List ℕ) (xs : List ℕ)
    → lines_of_parts (part ∷ slice_split is_feed xs)
    ≡ without_return part ∷ lines_of_parts (slice_split is_feed xs)
parts_next part xs =
    split_again part (slice_split is_feed xs) (omega (arith, length-slice_split is_feed xs))

last_is : (text : List ℕ) → 0 < length text → last_line text ≡ without_return text ∷ []
last_is [] h = absurd (omega arith)
last_is (c ∷ cs) h = refl

-- the first line of a text, and the lines of what stands behind it
pub lines_step : (text : List ℕ) → 0 < length text
    → script_lines text
    ≡ without_return (before_first is_feed text) ∷ script_lines (after_first is_feed text)
lines_step text h =
    elim (cases_place is_feed text) [
      | inl l ↦
          ap lines_of_parts (slice_split_first is_feed text 0 l)
          ∙ parts_next (before_first is_feed text) (after_first is_feed text)
      | inr e ↦
          let none : All (λ x. is_feed x ≡ false) text =
          λ k d l. fails_before_first is_feed text k d (omega arith) in
          let front : before_first is_feed text ≡ text =
          ap (λ n. take n text) e ∙ take_all (length text) text (omega arith) in
          let behind : after_first is_feed text ≡ [] =
          drop_all (position_or_len is_feed text + 1) text (omega arith) in
          ap lines_of_parts (slice_split_none is_feed text none) ∙ last_is text h
          ∙ ap (λ line. without_return line ∷ []) (sym front)
          ∙ ap (λ rest. without_return (before_first is_feed text) ∷ script_lines rest) (sym behind)
    ]

-- ---- commands

module _ {C : Type 0} where
  pub commands_step : (form : List ℕ → Reading C) (l : Unread) → 0 < length l.text
      → commands_ahead form l
      ≡ behind_line l.number
      (line_command form (place (without_return (before_first is_feed l.text)) l.names))
      (commands_on form (script_lines (after_first is_feed l.text)) (l.number + 1))
  commands_step form l h =
      ap (λ lines. commands_on form lines l.number l.names) (lines_step l.text h)

  pub front_nil : (r : Result (List C) (ℕ × Reason)) → with_front [] r ≡ r
  front_nil (Ok commands) = refl
  front_nil (Err fault) = refl

  pub front_behind : (front : List C) (command : Option C) (r : Result (List C) (ℕ × Reason))
      → with_front front (with_command command r) ≡ with_front (front ++ option_to_list command) r
  front_behind front None r = ap (λ xs. with_front xs r) (sym (append-nil front))
  front_behind front (Some command) (Ok commands) =
      ap Ok (sym (append_assoc front (command ∷ []) commands))
  front_behind front (Some command) (Err fault) = refl

  all_read_at : (form : List ℕ → Reading C) (text : List ℕ) (number : ℕ) (names : List (List ℕ))
      → length text ≡ 0 → commands_on form (script_lines text) number names ≡ Ok []
  all_read_at form [] number names h = refl
  all_read_at form (c ∷ cs) number names h = absurd (omega arith)

  pub all_read : (form : List ℕ → Reading C) (l : Unread) → length l.text ≡ 0
      → commands_ahead form l ≡ Ok []
  all_read form l h = all_read_at form l.text l.number l.names h

  pub front_front : (front more : List C) (r : Result (List C) (ℕ × Reason))
      → with_front front (with_front more r) ≡ with_front (front ++ more) r
  front_front front more (Ok commands) = ap Ok (sym (append_assoc front more commands))
  front_front front more (Err fault) = refl

  -- a fault in what is left is one of the whole
  pub front_fault : (front : List C) (whole rest : Result (List C) (ℕ × Reason)) (fault : Fault)
      → whole ≡ with_front front rest → IsFaultOf fault rest → IsFaultOf fault whole
  front_fault front whole rest (faults.Unreadable number reason) e h = e ∙ ap (with_front front) h
  front_fault front whole rest faults.Memory e h = tt
