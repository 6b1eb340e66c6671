-- Conflicts of several tables: there is one where the first has one or the others have.
use Rattle.std.proofs.Common.{◌≡◌, sym, ap, ◌∙◌, ℕ, true, false, Bool, not, ◌==◌, List}
use Rattle.chunk_store.specs.Chunks.{Chunks}
use Rattle.schema_merge.specs.RootMerge.{MergedDatabase}
use Rattle.root_merge.specs.declared.names.Named.{Named}
use Rattle.root_merge.specs.Names.{Wanted}
use Rattle.root_merge.proofs.NatLemmas.{none_sum, some_sum}
use Rattle.root_merge.proofs.RootLemmas.{IsStep}

pub first_some : (address : List ℕ → List ℕ) (chunks : Chunks) (first : Named) (names : List Named) (wanted : List Wanted) (merged : MergedDatabase) (step : IsStep address chunks first names wanted merged) (found : Bool)
    → found ≡ not (step.one.conflicts == 0) → found ≡ true → true ≡ not (merged.conflicts == 0)
first_some address chunks first names wanted merged step found told holds =
    sym (ap (λ (m : MergedDatabase). not (m.conflicts == 0)) step.merged_is ∙ some_sum step.one.conflicts step.others.conflicts (sym told ∙ holds))

pub later_some : (address : List ℕ → List ℕ) (chunks : Chunks) (first : Named) (names : List Named) (wanted : List Wanted) (merged : MergedDatabase) (step : IsStep address chunks first names wanted merged) (found rest : Bool)
    → found ≡ not (step.one.conflicts == 0) → found ≡ false → rest ≡ not (step.others.conflicts == 0) → rest ≡ not (merged.conflicts == 0)
later_some address chunks first names wanted merged step found rest told fails later =
    later ∙ sym (ap (λ (m : MergedDatabase). not (m.conflicts == 0)) step.merged_is ∙ none_sum step.one.conflicts step.others.conflicts (sym told ∙ fails))
