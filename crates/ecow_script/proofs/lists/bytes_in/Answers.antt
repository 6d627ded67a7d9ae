use Rattle.std.proofs.Common.{refl, rules, ℕ, ◌+◌, eqb, length, drop, sym, ap, ◌∙◌, arith}
use Rattle.std.specs.List.{slice_split}
use Rattle.std.proofs.lemmas.Iterator.Consumers.{YieldsList-turn, YieldsList-end}
use Rattle.std.proofs.lemmas.Iterator.Splits.{YieldsList-from_slice_split}
use Rattle.std.proofs.lemmas.List.{length_push}
use Rattle.ecow_script.specs.Numbers.{byte_in, each_in}
use Rattle.ecow_script.specs.Parts.{behind}
use Rattle.ecow_script.proofs.PartsLemmas.{part_fails, part_read, parts_end}
use Rattle.ecow_script.proofs.lists.bytes_in.Goals as goal

pub returns-in_default : goal.returns-in_default
returns-in_default c =
    let t =
    YieldsList-turn
    (YieldsList-from_slice_split _ (λ b. eqb b 44) c.args.inner.now (cc) (cc) (cc)
    (λ x b q h. (search rules))) c.loop-part.yielded _ c.loop-part.yielded_by _ _ c.in-Some.part
    c.in-Some.is c.next.ensures.steps in (
      sym c.loop-part.invariant
          ∙ part_fails byte_in c.loop-part.items.items _ _ c.in-Some.part.now t.0 t.1
          (sym c.in_default.ensures),
      refl,
    )

pub loop-part-preserved : goal.loop-part-preserved
loop-part-preserved c =
    let t =
    YieldsList-turn
    (YieldsList-from_slice_split _ (λ b. eqb b 44) c.args.inner.now (cc) (cc) (cc)
    (λ x b q h. (search rules))) c.loop-part.yielded _ c.loop-part.yielded_by _ _ c.in-Some.part
    c.in-Some.is c.next.ensures.steps in
    let parts = slice_split (λ b. eqb b 44) c.args.inner.now in
    ap (λ (n : ℕ). behind c.push.new.self.items (each_in byte_in (drop n parts)))
    (length_push c.loop-part.yielded c.in-Some.part)
    ∙ ap (λ xs. behind xs
    (each_in byte_in (drop (length c.loop-part.yielded + 1) parts))) c.in_ok-push.ensures.items
    ∙ sym (part_read byte_in c.loop-part.items.items parts _ c.in-Some.part.now
    c.in-Some-byte_in.item t.0 t.1 (sym c.in-Some-byte_in.ensures))
    ∙ c.loop-part.invariant

pub returns : goal.returns
returns c =
    let t =
    YieldsList-end
    (YieldsList-from_slice_split _ (λ b. eqb b 44) c.args.inner.now (cc) (cc) (cc)
    (λ x b q h. (search rules))) c.loop-part.yielded _ c.loop-part.yielded_by _ _ c.in-None.is
    c.next.ensures.steps in
    (sym c.loop-part.invariant
    ∙ parts_end byte_in c.loop-part.items.items (slice_split (λ b. eqb b 44) c.args.inner.now) _
    (omega (arith, t.1)))
