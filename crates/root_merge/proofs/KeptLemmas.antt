-- Tables that are kept: found by name, and later.
use Rattle.std.proofs.Common.{◌≡◌, refl, sym, ap, ◌∙◌, subst, ℕ, true, false, Bool, cond, ◌&&◌, nat_le, ◌≤◌, List, [], ◌∷◌, length, take, drop, slice_index_or, suc, ◌-◌, arith, bytes_eq, Option, Some, None}
use Rattle.std.specs.List.{AllByRecursion, list_all}
use Rattle.std.proofs.lemmas.Bool.{and_parts}
use Rattle.tuple_codec.proofs.Arithmetic.{one_less}
use Rattle.tuple_codec.proofs.Lists.{take_whole as take_all}
use Rattle.tuple_codec.specs.declared.addresses.Address.{Address}
use Rattle.schema_model.specs.Limits.{is_database_within_limits, is_conflict_within_limits, is_named_within_limits, is_row_within_limits, is_short_name, is_table_within_limits, is_violation_within_limits, is_within_limits, most_rows, most_tables}
use Rattle.schema_model.specs.PlainTables.{PlainDatabase, PlainTable}
use Rattle.schema_model.specs.WrittenForms.{table_address}
use Rattle.chunk_store.specs.Chunks.{Chunks, Extends}
use Rattle.table_root.specs.Standing.{IsTableAt, TablesStand, named_tables}
use Rattle.table_root.specs.declared.records.TableEntry.{TableEntry}
use Rattle.schema_merge.specs.RootMerge.{table_in}
use Rattle.table_merge.specs.Merging.{PlainSides}
use Rattle.table_root.specs.Kept.{IsKeptAt}
use Rattle.root_merge.specs.Choosing.{address_in}
use Rattle.root_merge.specs.Kept.{AreKept, AreKeptSides, IsKeptPerhaps, IsKeptTable}

-- ---- later

pub kept_later : (address : List ℕ → List ℕ) (old new : Chunks) → Extends old new → TablesStand → (k : List ℕ) (table : PlainTable) → IsKeptTable address old k table → IsKeptTable address new k table
kept_later address old new more laws k table kept = record { stands = laws.later address old new k table more kept.stands; within = kept.within }

pub perhaps_later : (address : List ℕ → List ℕ) (old new : Chunks) → Extends old new → TablesStand → (k : Option Address) (table : Option PlainTable) → IsKeptPerhaps address old k table → IsKeptPerhaps address new k table
perhaps_later address old new more laws None None kept = tt
perhaps_later address old new more laws (Some k) (Some table) kept = kept_later address old new more laws k.0 table kept
perhaps_later address old new more laws None (Some table) kept = absurd kept
perhaps_later address old new more laws (Some k) None kept = absurd kept

pub sides_later : (address : List ℕ → List ℕ) (old new : Chunks) → Extends old new → TablesStand → (base : Option Address) (ours theirs : Address) (contents : PlainSides)
    → AreKeptSides address old base ours theirs contents → AreKeptSides address new base ours theirs contents
sides_later address old new more laws base ours theirs contents kept = record {
  base_side = perhaps_later address old new more laws base contents.base kept.base_side;
  our_side = kept_later address old new more laws ours.0 contents.ours kept.our_side;
  their_side = kept_later address old new more laws theirs.0 contents.theirs kept.their_side;
}

-- ---- limits

pub kept_named : (database : PlainDatabase) → is_database_within_limits database ≡ true → list_all is_named_within_limits database ≡ true
kept_named database within = (and_parts (nat_le (length database) most_tables) (list_all is_named_within_limits database) within).1

pub schema_within : (table : PlainTable) → is_table_within_limits table ≡ true → is_within_limits table.schema ≡ true
schema_within table within =
    let rows = list_all (is_row_within_limits table.schema) table.rows in
    let conflicts = list_all (is_conflict_within_limits table.schema) table.conflicts in
    let a = and_parts (is_within_limits table.schema && nat_le (length table.rows) most_rows && rows && conflicts) (list_all (is_violation_within_limits table.schema) table.violations) within in
    let b = and_parts (is_within_limits table.schema && nat_le (length table.rows) most_rows && rows) conflicts a.0 in
    let c = and_parts (is_within_limits table.schema && nat_le (length table.rows) most_rows) rows b.0 in
    (and_parts (is_within_limits table.schema) (nat_le (length table.rows) most_rows) c.0).0

pub kept_listed : (address : List ℕ → List ℕ) (chunks : Chunks) (k : List ℕ) (database : PlainDatabase) (tables : List TableEntry) → IsKeptAt address chunks k database
    → tables ≡ named_tables address database → AreKept address chunks tables database
kept_listed address chunks k database tables kept is = record {
  is_database = kept.stands.is_database;
  within = kept.within;
  there = record { stand = kept.stands.tables; listed = is };
}

-- ---- found by name

pub found_perhaps : (address : List ℕ → List ℕ) (chunks : Chunks) (name : List ℕ) (database : PlainDatabase)
    → AllByRecursion (λ named. IsTableAt address chunks (table_address address named.table) named.table) database → list_all is_named_within_limits database ≡ true
    → IsKeptPerhaps address chunks (address_in name (named_tables address database)) (table_in name database)
found_perhaps address chunks name [] stand within = tt
found_perhaps address chunks name (named ∷ database) stand within =
    let parts = and_parts (is_named_within_limits named) (list_all is_named_within_limits database) within in
    by (bytes_eq named.name name) (and_parts (is_short_name named.name) (is_table_within_limits named.table) parts.0).1 (found_perhaps address chunks name database stand.1 parts.1) where
      by : (b : Bool) → is_table_within_limits named.table ≡ true → IsKeptPerhaps address chunks (address_in name (named_tables address database)) (table_in name database)
          → IsKeptPerhaps address chunks (cond b (Some (record { 0 = table_address address named.table })) (address_in name (named_tables address database))) (cond b (Some named.table) (table_in name database))
      by true within more = record { stands = stand.0; within = within }
      by false within more = more

-- a table that is there
pub record IsSome (address : List ℕ → List ℕ) (chunks : Chunks) (k : Address) (contents : Option PlainTable) : Type 0 where
  pub table : PlainTable
  pub is : contents ≡ Some table
  pub kept : IsKeptTable address chunks k.0 table

pub kept_some : (address : List ℕ → List ℕ) (chunks : Chunks) (k : Address) (contents : Option PlainTable) → IsKeptPerhaps address chunks (Some k) contents → IsSome address chunks k contents
kept_some address chunks k (Some table) kept = record { table = table; is = refl; kept = kept }
kept_some address chunks k None kept = absurd kept

pub kept_some_by : (address : List ℕ → List ℕ) (chunks : Chunks) (place : Option Address) (k : Address) (contents : Option PlainTable) → place ≡ Some k
    → IsKeptPerhaps address chunks place contents → IsSome address chunks k contents
kept_some_by address chunks place k contents is kept = kept_some address chunks k contents (subst (λ (o : Option Address). IsKeptPerhaps address chunks o contents) is kept)

pub kept_found : (address : List ℕ → List ℕ) (chunks : Chunks) (name : List ℕ) (tables : List TableEntry) (database : PlainDatabase) → AreKept address chunks tables database
    → IsKeptPerhaps address chunks (address_in name tables) (table_in name database)
kept_found address chunks name tables database kept =
    subst (λ (list : List TableEntry). IsKeptPerhaps address chunks (address_in name list) (table_in name database)) (sym kept.there.listed)
    (found_perhaps address chunks name database kept.there.stand (kept_named database kept.within))

-- ---- lists by their first and the others, as a pattern names them

pub by_first : {A : Type 0} (xs : List A) (first : A) → 1 ≤ length xs → first ≡ slice_index_or xs 0 first → xs ≡ first ∷ take (length xs - 1) (drop 1 xs)
by_first [] first some is = absurd (nothing some) where
  nothing : 1 ≤ 0 → ⊥
  nothing some = omega (arith, some)
by_first (x ∷ xs) first some is =
    let rest : take (suc (length xs) - 1) xs ≡ xs = ap (λ n. take n xs) (one_less (length xs)) ∙ take_all xs in
    λ i. sym is i ∷ sym rest i
