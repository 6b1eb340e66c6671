-- Three databases merged, and what is recorded of what comes of them.
use Rattle.std.specs.Prelude.{◌≡◌, ℕ, true, false, List, Ok, Err}
use Rattle.std.specs.List.{flat_map}
use Rattle.chunk_store.specs.Chunks.{Chunks}
use Rattle.table_root.specs.Kept.{IsKeptAt}
use Rattle.violation_lists.specs.Written.{written_in}
use Rattle.violation_lists.specs.declared.listing.ListedViolation.{ListedViolation}
use Rattle.expr_eval.specs.Binding.{Outcome, and_then}
use Rattle.schema_model.specs.PlainTables.{PlainDatabase}
use Rattle.schema_merge.specs.RootMerge.{MergedDatabase, root3}
use Rattle.plain_writes.specs.CheckTexts.{checks}
use Rattle.plain_sessions.specs.CommitRule.{recorded}
use Rattle.plain_sessions.specs.Merging.{if_within_limits, is_clean, or_schema_conflict}
use Rattle.plain_writes.specs.Violations.{violations}
use Rattle.merge_procs.specs.declared.databases.Met.{Met}
use Rattle.merge_procs.specs.declared.databases.Met.TheVariants as met

-- the merged database, or the first refusal: 9009, 9010
abbrev pub merged_of : (b o t : PlainDatabase) → Outcome MergedDatabase
merged_of b o t = and_then (or_schema_conflict (root3 b o t)) if_within_limits

-- the list has all violations of the database, which the address stands for
pub record AreAllIn (address : List ℕ → List ℕ) (chunks : Chunks) (k : List ℕ) (list : List ListedViolation) (contents : PlainDatabase) : Type 0 where
  pub kept : IsKeptAt address chunks k contents
  pub all : list ≡ flat_map (written_in contents) (violations checks contents)

-- a refusal; the merged database where it is clean; or the one that has recorded its violations, where it isn't
abbrev pub IsMet : (List ℕ → List ℕ) → Chunks → Met → Outcome MergedDatabase → Type 0
IsMet address chunks (met.Refused number) wanted = wanted ≡ Err number
IsMet address chunks (met.Clean root) wanted =
    (merged : MergedDatabase) × (wanted ≡ Ok merged) × (is_clean merged ≡ true) × IsKeptAt address chunks root.0 merged.database
IsMet address chunks (met.Open working) wanted =
    (merged : MergedDatabase) × (wanted ≡ Ok merged) × (is_clean merged ≡ false) × IsKeptAt address chunks working.0 (recorded merged.database)
