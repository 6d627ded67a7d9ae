use Rattle.std.proofs.Common.{◌≡◌, ℕ, List, [], ◌++◌, length, Ok, refl, sym, ap, ◌∙◌, arith, ◌∷◌, rules}
use Rattle.std.proofs.lemmas.Bool.{eqb-true}
use Rattle.std.proofs.lemmas.List.{append-nil}
use Rattle.std.proofs.lemmas.List.Concat.{flat_map-append}
use Rattle.ecow_script.specs.Scripts.{commands_ahead, with_front}
use Rattle.ecow_script.specs.Answers.{answer_lines, answer_line}
use Rattle.ecow_script.proofs.Lines.{front_nil, front_front, all_read, front_fault}
use Rattle.ecow_script.proofs.run.answers_of.Goals as goal

pub pieces-init : goal.pieces-init
pieces-init g c = (
  [],
  sym (front_nil (commands_ahead g.C.Scripted.form c.new-rest.result)
      ∙ ap (commands_ahead g.C.Scripted.form) c.new-rest.ensures),
  λ _. ([], g.K.NamedStore.runs_none c.args.store.now, c.new-answers.ensures.bytes),
)

pub pieces-preserved : goal.pieces-preserved
pieces-preserved g c =
    let done = c.pieces.invariant in
    let piece = c.in_ok-piece.piece.items in (
      done.0 ++ piece,
      done.1 ∙ ap (λ r. with_front done.0 r) c.in_ok-piece.ensures.commands
          ∙ front_front done.0 piece (commands_ahead g.C.Scripted.form c.next_piece.new.self),
      λ is.
          let more = c.run_piece-ran.ensures is in
          let before = done.2 more.1 in (
            before.0 ++ more.0,
            g.K.NamedStore.runs_on _ _ _ _ _ _ _ before.1 more.2,
            more.3 ∙ ap (λ (bytes : List ℕ). bytes ++ answer_lines more.0) before.2
                ∙ sym (flat_map-append answer_line before.0 more.0),
          ),
    )

empty : {A : Type 0} (xs : List A) → length xs ≡ 0 → xs ≡ []
empty [] e = refl
empty (x ∷ xs) e = absurd (omega arith)

pub returns-then-ran-clause-answers : goal.returns-then-ran-clause-answers
returns-then-ran-clause-answers g c =
    let done = c.pieces.invariant in
    let form = g.C.Scripted.form in
    let piece = c.in_ok-piece.piece in
    let none : length piece.items ≡ 0 = omega (arith, eqb-true _ _ (sym c.if-is_empty.ensures)) in
    let before = done.2 c.if-ran.true in (
      done.0,
      before.0,
      done.1
          ∙ ap (with_front done.0)
          (c.in_ok-piece.ensures.commands
          ∙ ap (with_front piece.items)
          (all_read form c.next_piece.new.self (c.in_ok-piece.ensures.end none))
          ∙ ap (λ xs. with_front xs (Ok [])) (empty piece.items none))
          ∙ ap Ok (append-nil done.0),
      before.1,
      before.2,
    )

pub returns-in_err-piece-clause-fault : goal.returns-in_err-piece-clause-fault
returns-in_err-piece-clause-fault g c =
    let all =
    front_fault c.pieces.invariant.0 _ _ c.in_err-piece.field-0.0 c.pieces.invariant.1
    c.in_err-piece.ensures.fault in
    search rules
