-- What a run of two commands leaves.
use Rattle.std.proofs.Common.{◌≡◌, ℕ, List, [], ◌∷◌, refl, ap, subst, ◌∙◌, slice_set}
use Rattle.std.specs.Option.{option_map}
use Rattle.ecow_model.proofs.CallerLemmas.{share_reads, shared_write_sets}
use Rattle.ecow_model.specs.CountedRun.{CountedRun}
use Rattle.ecow_model.specs.Names.{Names, list_of}
use Rattle.ecow_model.specs.declared.command.Outcome.{Outcome}
use Rattle.ecow_model.specs.declared.command.Outcome.TheVariants.{Done}
use Rattle.ecow_model.specs.declared.vecs.VecCommand.TheVariants.{Clone, Write}

done_both : {T : Type 0} (old new : Names T) (from to index : ℕ) (value : T)
    → CountedRun old (Clone from to ∷ Write to index value ∷ []) (Done ∷ Done ∷ []) new
    → list_of new to ≡ option_map (λ xs. slice_set xs index value) (list_of old from)
done_both old new from to index value (mid, fork, (last, write, end)) =
    ap (λ names. list_of names to) end
    ∙ shared_write_sets mid last Done to index value write refl
    ∙ ap (option_map (λ xs. slice_set xs index value)) (share_reads old mid Done from to fork refl)

-- a clone that is written to is its source, but for one element
pub branched : {T : Type 0} (old new : Names T) (outcomes : List (Outcome T)) (from to index : ℕ) (value : T)
    → CountedRun old (Clone from to ∷ Write to index value ∷ []) outcomes new → outcomes ≡ Done ∷ Done ∷ []
    → list_of new to ≡ option_map (λ xs. slice_set xs index value) (list_of old from)
branched old new outcomes from to index value run both =
    done_both old new from to index value (subst (λ os. CountedRun old (Clone from to ∷ Write to index value ∷ []) os new) both run)
