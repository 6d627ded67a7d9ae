use Rattle.std.proofs.Common.{◌≡◌, ◌+◌, ◌*◌, ◌≤◌, None, Some, length, drop, take, [], ◌∷◌, ◌++◌, refl, sym, ◌∙◌, ap, subst, arith, inl, inr, length-drop}
use Rattle.std.specs.Vec.Iter.{into_iter_items}
use Rattle.std.proofs.lemmas.List.{nil_from_length, take_all}
use Rattle.ecow_base.specs.Clones.{ClonesAreEqual}
use Rattle.ecow_model.specs.Refusing.{OnRefused}
use Rattle.ecow_model.specs.declared.command.Outcome.{Outcome}
use Rattle.ecow_model.specs.declared.command.Outcome.TheVariants.{Refused}
use Rattle.std.specs.FinMap as finite
use Rattle.ecow_model.specs.declared.command.Refusal.TheVariants.{Memory, NoName, Taken}
use Rattle.ecow_model.specs.declared.vecs.VecCommand.TheVariants.{New, Push}
use Rattle.ecow_counted.specs.Filling.{IsRunOf, filling, accepted}
use Rattle.ecow_counted.specs.State.{CountedState}
use Rattle.ecow_counted.proofs.Filling.{paid, next_of, accepted_more, filling_more, runs_one, runs_more, begins, pushes, moves_at_most, not_refused_by, is_taken, lacks_the_name, refusal_in}
use Rattle.ecow_counted.proofs.counted.Counted.fill.Goals as goal

pub returns-in-Refused-clause-run : goal.returns-in-Refused-clause-run
returns-in-Refused-clause-run g c =
    λ clones. inl (
      refl,
      paid c.args.self.now (New c.args.name ∷ []) (Refused c.in-Refused.refusal ∷ []) c.step.new.self c.blocks-sharing.ensures.sharing
          (runs_one c.args.self.now (New c.args.name) (Refused c.in-Refused.refusal) c.step.new.self
          (c.in-Refused.ensures.step clones) c.in-Refused.ensures.copied c.in-Refused.ensures.moved),
    )

pub loop-value-init : goal.loop-value-init
loop-value-init g c =
    let is = c.step.ensures in
    let ok : OnRefused c.step.result ⊥ = not_refused_by c.step.result c.in_default.not-Refused in
    let begun = λ (clones : ClonesAreEqual g.T.Clone.is_clone). begins c.args.self.now c.step.new.self c.args.name c.step.result ok (is.step clones) is.moved in
    record {
      within = omega arith;
      left = c.into_iter-rest.ensures.rest;
      sharing = is.sharing;
      run = λ clones. subst (λ outcome. IsRunOf c.args.self.now (New c.args.name ∷ []) (outcome ∷ []) c.step.new.self)
          (begun clones).0 (runs_one c.args.self.now (New c.args.name) c.step.result c.step.new.self (is.step clones) is.copied is.moved);
      moves = λ clones. (begun clones).1;
    }

pub returns-in-Refused-clause-taken : goal.returns-in-Refused-clause-taken
returns-in-Refused-clause-taken g c = λ there. (
  refl,
  ap (λ (o : Outcome g.row.T.Denot). refusal_in o)
      (is_taken c.args.self.now.names c.args.name (Refused c.in-Refused.refusal) c.step.new.self.names c.in-Refused.ensures.verdict there),
  c.in-Refused.ensures.unchanged,
)

pub returns-in-Refused-step-clause-run : goal.returns-in-Refused-step-clause-run
returns-in-Refused-step-clause-run g c =
    let so_far = c.loop-value.invariant in
    let is = c.in-Refused-step.ensures in
    let next = next_of c.loop-value.accepted c.args.items.items c.in-Some.value _ (sym so_far.left ∙ c.in-Some.ensures.items) in
    λ clones. inr (
      next.within,
      paid c.args.self.now (filling c.args.name (take (c.loop-value.accepted + 1) c.args.items.items))
          (accepted c.loop-value.accepted ++ Refused c.in-Refused-step.refusal ∷ []) c.step-in-Some.new.self c.blocks-sharing.ensures.sharing
          (subst (λ cs. IsRunOf c.args.self.now cs (accepted c.loop-value.accepted ++ Refused c.in-Refused-step.refusal
          ∷ []) c.step-in-Some.new.self) (sym (filling_more c.args.name c.loop-value.accepted c.args.items.items c.in-Some.value _ next))
          (runs_more c.args.self.now (filling c.args.name (take c.loop-value.accepted c.args.items.items))
          (accepted c.loop-value.accepted) c.loop-value.self c.step-in-Some.new.self (Push c.args.name c.in-Some.value)
          (Refused c.in-Refused-step.refusal) c.blocks-sharing.ensures.sharing (so_far.run clones) (is.step clones) is.copied is.moved)),
    )

pub returns-in-Refused-step-clause-taken : goal.returns-in-Refused-step-clause-taken
returns-in-Refused-step-clause-taken g c =
    λ there. absurd (c.in_default.not-Refused Taken
    (is_taken c.args.self.now.names c.args.name c.step.result c.step.new.self.names c.step.ensures.verdict there))

pub returns-in-Refused-step-clause-unchanged : goal.returns-in-Refused-step-clause-unchanged
returns-in-Refused-step-clause-unchanged g c = λ lacking missing.
    let is = c.in-Refused-step.ensures in
    let was_missing : finite.get c.loop-value.self.names c.args.name ≡ None =
    subst (λ (k : CountedState g.row.T.Denot). finite.get k.names c.args.name ≡ None) is.unchanged missing in
    let other : Some Memory ≡ Some NoName = sym lacking
    ∙ lacks_the_name c.loop-value.self.names c.args.name c.in-Some.value c.in-Refused-step.refusal c.step-in-Some.new.self.names is.verdict was_missing in cc

pub returns-in-Refused-step-clause-moves : goal.returns-in-Refused-step-clause-moves
returns-in-Refused-step-clause-moves g c =
    let so_far = c.loop-value.invariant in
    let is = c.in-Refused-step.ensures in
    let next = next_of c.loop-value.accepted c.args.items.items c.in-Some.value _ (sym so_far.left ∙ c.in-Some.ensures.items) in
    λ clones. subst (λ (k : CountedState g.row.T.Denot). k.moved ≤ c.args.self.now.moved + 2 * c.loop-value.accepted)
    (sym is.unchanged) (moves_at_most c.args.self.now.moved c.args.name c.loop-value.accepted c.loop-value.self (so_far.moves clones))

pub loop-value-preserved : goal.loop-value-preserved
loop-value-preserved g c =
    let so_far = c.loop-value.invariant in
    let is = c.step-in-Some.ensures in
    let ok : OnRefused c.step-in-Some.result ⊥ = not_refused_by c.step-in-Some.result c.in_default-step.not-Refused in
    let next = next_of c.loop-value.accepted c.args.items.items c.in-Some.value _ (sym so_far.left ∙ c.in-Some.ensures.items) in
    let pushed =
    λ (clones : ClonesAreEqual g.T.Clone.is_clone). pushes c.loop-value.self c.step-in-Some.new.self c.args.name
    c.step-in-Some.result ok c.in-Some.value c.args.self.now.moved c.loop-value.accepted so_far.sharing
    (so_far.moves clones) (is.step clones) is.moved in
    record {
      within = omega (arith, next.within);
      left = sym next.left;
      sharing = is.sharing;
      run = λ clones. rw (filling_more c.args.name c.loop-value.accepted c.args.items.items c.in-Some.value _ next, accepted_more c.loop-value.accepted)
          (subst (λ outcome. IsRunOf c.args.self.now (filling c.args.name (take c.loop-value.accepted c.args.items.items)
          ++ Push c.args.name c.in-Some.value ∷ [])
          (accepted c.loop-value.accepted ++ outcome ∷ []) c.step-in-Some.new.self) (pushed clones).0
          (runs_more c.args.self.now (filling c.args.name (take c.loop-value.accepted c.args.items.items))
          (accepted c.loop-value.accepted) c.loop-value.self c.step-in-Some.new.self
          (Push c.args.name c.in-Some.value) c.step-in-Some.result c.blocks-sharing.ensures.sharing
          (so_far.run clones) (is.step clones) is.copied is.moved));
      moves = λ clones. (pushed clones).1;
    }

pub returns-clause-run : goal.returns-clause-run
returns-clause-run g c =
    let so_far = c.loop-value.invariant in
    let rest = c.loop-value.rest in
    let ended : into_iter_items rest ≡ [] = nil_from_length (into_iter_items rest) (omega (arith, rest.rest.ok.0, c.in_default-next.ensures.cases.0)) in
    let none : length (drop c.loop-value.accepted c.args.items.items) ≡ 0 = ap length (sym so_far.left ∙ ended) in
    let all : c.loop-value.accepted ≡ length c.args.items.items = omega (arith, none, length-drop c.loop-value.accepted c.args.items.items, so_far.within) in
    let whole : take c.loop-value.accepted c.args.items.items ≡ c.args.items.items = take_all c.loop-value.accepted c.args.items.items (omega (arith, all)) in
    λ clones. (
      all,
      paid c.args.self.now (filling c.args.name c.args.items.items) (accepted c.loop-value.accepted) c.loop-value.self
          c.blocks-sharing.ensures.sharing (subst (λ items. IsRunOf c.args.self.now (filling c.args.name items)
          (accepted c.loop-value.accepted) c.loop-value.self) whole (so_far.run clones)),
    )

pub returns-clause-taken : goal.returns-clause-taken
returns-clause-taken g c =
    λ there. absurd (c.in_default.not-Refused Taken
    (is_taken c.args.self.now.names c.args.name c.step.result c.step.new.self.names c.step.ensures.verdict there))

pub returns-clause-all : goal.returns-clause-all
returns-clause-all g c =
    let so_far = c.loop-value.invariant in
    let rest = c.loop-value.rest in
    let ended : into_iter_items rest ≡ [] = nil_from_length (into_iter_items rest) (omega (arith, rest.rest.ok.0, c.in_default-next.ensures.cases.0)) in
    let none : length (drop c.loop-value.accepted c.args.items.items) ≡ 0 = ap length (sym so_far.left ∙ ended) in
    let all : c.loop-value.accepted ≡ length c.args.items.items = omega (arith, none, length-drop c.loop-value.accepted c.args.items.items, so_far.within) in
    let _whole : take c.loop-value.accepted c.args.items.items ≡ c.args.items.items = take_all c.loop-value.accepted c.args.items.items (omega (arith, all)) in
    all

pub returns-clause-moves : goal.returns-clause-moves
returns-clause-moves g c =
    let so_far = c.loop-value.invariant in
    λ clones. moves_at_most c.args.self.now.moved c.args.name c.loop-value.accepted c.loop-value.self (so_far.moves clones)
