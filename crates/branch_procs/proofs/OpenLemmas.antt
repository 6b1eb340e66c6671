-- What tables have recorded.
use Rattle.std.proofs.Common.{◌≡◌, refl, sym, ap, ◌∙◌, subst, ℕ, suc, Bool, true, false, ◌||◌, not, ◌==◌, List, ◌∷◌, length}
use Rattle.std.proofs.lemmas.List.{length-map}
use Rattle.schema_model.specs.PlainTables as plain
use Rattle.schema_model.specs.PlainTables.{PlainDatabase, PlainTable, conflict_item, conflict_items, violation_item, violation_items}
use Rattle.chunk_store.specs.Chunks.{Chunks}
use Rattle.chunk_store.specs.Standing.{IsTree}
use Rattle.table_root.specs.Standing.{IsTableOf}
use Rattle.table_root.specs.declared.records.StoredTable.{StoredTable}
use Rattle.table_root.specs.declared.records.TableEntry.{TableEntry}
use Rattle.plain_sessions.specs.Branching.{is_open, is_open_table}
use Rattle.plain_sessions.specs.CommitRule.{has_conflicts, has_violations, is_none}

pub conflicts_tree : (address : List ℕ → List ℕ) (chunks : Chunks) (table : StoredTable) (contents : PlainTable) → IsTableOf address chunks table contents
    → IsTree address chunks table.conflicts.0 (conflict_items contents)
conflicts_tree address chunks table contents stands =
    subst (λ (k : List ℕ). IsTree address chunks k (conflict_items contents)) (sym (ap (λ (t : StoredTable). t.conflicts.0) stands.value)) stands.trees.conflicts

pub violations_tree : (address : List ℕ → List ℕ) (chunks : Chunks) (table : StoredTable) (contents : PlainTable) → IsTableOf address chunks table contents
    → IsTree address chunks table.violations.0 (violation_items contents)
violations_tree address chunks table contents stands =
    subst (λ (k : List ℕ). IsTree address chunks k (violation_items contents)) (sym (ap (λ (t : StoredTable). t.violations.0) stands.value)) stands.trees.violations

some_open : (contents : PlainTable) (conflicts violations : Bool) → conflicts ≡ not (length (conflict_items contents) == 0) → violations ≡ not (length (violation_items contents) == 0)
    → (conflicts || violations) ≡ is_open_table contents
some_open contents conflicts violations c v =
    λ i. (c ∙ ap (λ (n : ℕ). not (n == 0)) (length-map contents.conflicts (conflict_item contents.schema))) i
    || (v ∙ ap (λ (n : ℕ). not (n == 0)) (length-map contents.violations (violation_item contents.schema))) i

pub open_by_conflicts : (contents : PlainTable) (conflicts : Bool) → conflicts ≡ not (length (conflict_items contents) == 0) → conflicts ≡ true → true ≡ is_open_table contents
open_by_conflicts contents conflicts told holds =
    let violations = not (length (violation_items contents) == 0) in
    sym (ap (λ (b : Bool). b || violations) holds) ∙ some_open contents conflicts violations told refl

pub open_by_violations : (contents : PlainTable) (conflicts violations : Bool) → conflicts ≡ not (length (conflict_items contents) == 0) → conflicts ≡ false
    → violations ≡ not (length (violation_items contents) == 0) → violations ≡ is_open_table contents
open_by_violations contents conflicts violations told fails found =
    sym (ap (λ (b : Bool). b || violations) fails) ∙ some_open contents conflicts violations told found

open_first : (c v d w : Bool) → (c || v) ≡ true → ((c || d) || (v || w)) ≡ true
open_first true v d w e = refl
open_first false true true w e = refl
open_first false true false w e = refl
open_first false false d w e = absurd (cc)

open_later : (c v d w : Bool) → (c || v) ≡ false → ((c || d) || (v || w)) ≡ (d || w)
open_later true v d w e = absurd (cc)
open_later false true d w e = absurd (cc)
open_later false false d w e = refl

-- whether some table has recorded anything, by the first
pub any_first : (database : PlainDatabase) (named : plain.NamedTable) (more : PlainDatabase) (found : Bool) → database ≡ named ∷ more → found ≡ is_open_table named.table → found ≡ true
    → true ≡ is_open database
any_first database named more found is told holds =
    sym (ap is_open is ∙ open_first (not (is_none named.table.conflicts)) (not (is_none named.table.violations)) (has_conflicts more) (has_violations more) (sym told ∙ holds))

pub any_later : (database : PlainDatabase) (named : plain.NamedTable) (more : PlainDatabase) (found rest : Bool) → database ≡ named ∷ more → found ≡ is_open_table named.table → found ≡ false
    → rest ≡ is_open more → rest ≡ is_open database
any_later database named more found rest is told fails later =
    later ∙ sym (ap is_open is ∙ open_later (not (is_none named.table.conflicts)) (not (is_none named.table.violations)) (has_conflicts more) (has_violations more) (sym told ∙ fails))
