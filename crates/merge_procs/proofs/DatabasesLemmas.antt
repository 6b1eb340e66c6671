-- A database's violations, and merged databases judged by them.
use Rattle.std.proofs.Common.{◌≡◌, refl, sym, ap, ◌∙◌, subst, ℕ, Bool, true, false, not, ◌==◌, List, [], ◌∷◌, ◌++◌, length, suc, arith, Option, None, Some, Result, Ok, Err}
use Rattle.std.specs.List.{flat_map, list_all}
use Rattle.std.specs.Option.{option_map_or}
use Rattle.std.proofs.lemmas.Bool.{and_parts}
use Rattle.std.proofs.lemmas.Bool.Decides.{nat_tests}
use Rattle.chunk_store.specs.Chunks.{Chunks}
use Rattle.violation_lists.specs.Recorded.{AllAreRecorded}
use Rattle.violation_lists.specs.Recording as recording
use Rattle.violation_lists.specs.Recording.{may_stand, may_stand_in}
use Rattle.table_root.specs.Kept.{IsKeptAt}
use Rattle.violation_lists.specs.Written.{written, written_in}
use Rattle.violation_lists.specs.declared.listing.ListedViolation.{ListedViolation}
use Rattle.expr_eval.specs.Binding.{Outcome, and_then}
use Rattle.schema_model.specs.PlainTables.{PlainDatabase, PlainTable}
use Rattle.schema_model.proofs.SizeLemmas.{few_tables}
use Rattle.table_root.specs.Standing.{IsReadAt}
use Rattle.schema_merge.specs.RootMerge.{MergedDatabase, SchemaConflict}
use Rattle.plain_writes.specs.CheckTexts.{checks}
use Rattle.plain_sessions.specs.CommitRule.{is_none}
use Rattle.plain_sessions.specs.Merging.{if_within_limits, or_schema_conflict}
use Rattle.plain_sql.specs.Lists.{unless}
use Rattle.plain_writes.specs.Violations.{Found, table_in, violations}
use Rattle.root_merge.specs.Merging.{IsFaultOf, IsMergedDatabase, PassesLimit}
use Rattle.root_merge.specs.declared.merging.Merged.{Merged}
use Rattle.table_merge.specs.declared.faults.MergeFault.{MergeFault}
use Rattle.table_merge.specs.declared.faults.MergeFault.TheVariants as fault
use Rattle.merge_procs.specs.Databases.{AreAllIn}

-- ---- all violations of a database

pub read_kept : (address : List ℕ → List ℕ) (chunks : Chunks) (k : List ℕ) (database : PlainDatabase) → IsKeptAt address chunks k database → IsReadAt address chunks k database
read_kept address chunks k database kept = record { stands = kept.stands; few = few_tables database kept.within }

pub can_record : (address : List ℕ → List ℕ) (chunks : Chunks) (k : List ℕ) (list : List ListedViolation) (database : PlainDatabase) → AllAreRecorded → AreAllIn address chunks k list database
    → recording.CanRecord address chunks k list database (violations checks database)
can_record address chunks k list database laws all = record {
  kept = all.kept;
  recordable = subst (λ (l : List ListedViolation). recording.IsRecordable database l (violations checks database)) (sym all.all) (laws.recordable address chunks k database all.kept);
}

-- one whose table is there is written
one_written : (table : Option PlainTable) (one : Found) → option_map_or (λ t. may_stand t.schema one.violation) table false ≡ true
    → length (option_map_or (λ t. written t.schema one ∷ []) table []) ≡ 1
one_written None one e = absurd cc
one_written (Some table) one e = refl

never : (n : ℕ) → (suc n == 0) ≡ false
never n = grind (arith, nat_tests)

-- those that may stand are all written, so there are none exactly where none is written
pub none_written : (database : PlainDatabase) (found : List Found) → list_all (may_stand_in database) found ≡ true → is_none (flat_map (written_in database) found) ≡ is_none found
none_written database [] all = refl
none_written database (one ∷ more) all =
    let here = and_parts (may_stand_in database one) (list_all (may_stand_in database) more) all in
    some (written_in database one) (flat_map (written_in database) more) (one_written (table_in database one.table) one here.0) ∙ sym (never (length more))
  where
    some : (xs ys : List ListedViolation) → length xs ≡ 1 → is_none (xs ++ ys) ≡ false
    some [] ys e = absurd cc
    some (x ∷ xs) ys e = never (length (xs ++ ys))

pub none_listed : (address : List ℕ → List ℕ) (chunks : Chunks) (k : List ℕ) (list : List ListedViolation) (database : PlainDatabase) → AllAreRecorded → IsKeptAt address chunks k database
    → list ≡ flat_map (written_in database) (violations checks database) → is_none list ≡ is_none (violations checks database)
none_listed address chunks k list database laws kept is =
    let may = laws.recordable address chunks k database kept in
    ap is_none is ∙ none_written database (violations checks database) may.stand

-- ---- merged databases

within_limits : Result MergedDatabase SchemaConflict → Outcome MergedDatabase
within_limits wanted = and_then (or_schema_conflict wanted) if_within_limits

pub schema_refused : (wanted : Result MergedDatabase SchemaConflict) (why : MergeFault) (table part : List ℕ) → why ≡ fault.Schema table part → IsFaultOf wanted why
    → and_then (or_schema_conflict wanted) if_within_limits ≡ Err 9009
unfolding within_limits
schema_refused wanted why table part is of =
    let own : IsFaultOf wanted (fault.Schema table part) = subst (λ (f : MergeFault). IsFaultOf wanted f) is of in
    ap within_limits own

pub limit_refused : (wanted : Result MergedDatabase SchemaConflict) (why : MergeFault) → why ≡ fault.Limit → IsFaultOf wanted why
    → and_then (or_schema_conflict wanted) if_within_limits ≡ Err 9010
unfolding within_limits
limit_refused wanted why is of =
    let passes : PassesLimit wanted = subst (λ (f : MergeFault). IsFaultOf wanted f) is of in
    ap within_limits passes.is ∙ ap (λ (b : Bool). unless (not b) 9010 (Ok passes.merged)) passes.limits

-- a merged database that stands keeps the limits
pub within_merged : (address : List ℕ → List ℕ) (chunks : Chunks) (result : Merged) (wanted : Result MergedDatabase SchemaConflict) (is : IsMergedDatabase address chunks result wanted)
    → and_then (or_schema_conflict wanted) if_within_limits ≡ Ok is.merged
unfolding within_limits
within_merged address chunks result wanted is = ap within_limits is.is ∙ ap (λ (b : Bool). unless (not b) 9010 (Ok is.merged)) is.made.root.within
