-- Databases with a table more or less keep the limits, and the lists of their tables are found.
use Rattle.std.proofs.Common.{◌≡◌, ℕ, Bool, true, false, ◌||◌, not, List, length, nat_le, Option, Some, None, Ok, Err, refl, sym, ap, ◌∙◌}
use Rattle.std.specs.Prelude.{if◌then◌else◌}
use Rattle.std.specs.List.{AllByRecursion}
use Rattle.std.proofs.lemmas.Result.{IfOk-at_ok}
use Rattle.schema_model.specs.declared.schemas.Schema.{Schema}
use Rattle.schema_model.specs.Limits.{is_within_limits, most_tables}
use Rattle.schema_model.specs.PlainTables.{PlainDatabase}
use Rattle.schema_model.specs.WrittenForms.{table_address}
use Rattle.schema_model.proofs.SizeLemmas.{kept_few}
use Rattle.sql_ast.specs.declared.tables.CreateTable.{CreateTable}
use Rattle.sql_ast.specs.declared.tables.DropTable.{DropTable}
use Rattle.expr_eval.specs.Binding.{Outcome, and_then}
use Rattle.chunk_store.specs.Chunks.{Chunks}
use Rattle.table_root.specs.Standing.{IsTableAt, named_tables}
use Rattle.table_root.specs.declared.records.TableEntry.{TableEntry}
use Rattle.plain_writes.specs.Violations.{own_scope, table_in}
use Rattle.plain_writes.specs.Writes.{Effect}
use Rattle.plain_schemas.specs.Effects.{changed_to, check_allowed, create_effect, drop_effect, empty_table, foreign_allowed, is_there, key_lists, with_table, without_table}
use Rattle.plain_schemas.specs.Lists.{all_allowed}
use Rattle.plain_schemas.specs.Made.{columns_made, schema_of}
use Rattle.table_root.specs.Kept.{IsKeptAt}
use Rattle.plain_writes.specs.WriteLaws.{IsKept}
use Rattle.plain_writes.proofs.DatabaseLemmas.{IsKeptTable, found_kept}
use Rattle.plain_writes.proofs.OutcomeLemmas.{then_so, unless_so}
use Rattle.keep_laws.specs.SchemaLaws.{SchemasKeep}
use Rattle.sql_laws.specs.Fit.{IsFit}
use Rattle.sql_ast.specs.declared.statements.Write.TheVariants as write
use Rattle.sql_write.specs.Adding.{CanAdd}
use Rattle.sql_write.specs.Listing.{without}
use Rattle.sql_write.specs.Putting.{AreListed}
use Rattle.sql_write.specs.Skeletons.{SchemasSuffice, schema_created, schema_judged, schema_within, table_goes, with_schema, without_if}
use Rattle.sql_write.proofs.ListingLemmas.{all_without, found_new, named_without}
use Rattle.sql_write.proofs.SkeletonLemmas.{schemas_suffice}
use Rattle.sql_write.proofs.TableLemmas.{kept_short}

kept_of : (address : List ℕ → List ℕ) (chunks : Chunks) (k : List ℕ) (database : PlainDatabase) → IsKeptAt address chunks k database → IsKept database
kept_of address chunks k database kept = record { is_database = kept.stands.is_database; within = kept.within }

pub listed_kept : (address : List ℕ → List ℕ) (chunks : Chunks) (tables : List TableEntry) (database : PlainDatabase) → IsKept database
    → AllByRecursion (λ named. IsTableAt address chunks (table_address address named.table) named.table) database → tables ≡ named_tables address database
    → AreListed address chunks tables database
listed_kept address chunks tables database kept stand is = record {
  is_database = kept.is_database;
  few = kept_few database kept.within;
  short = kept_short database kept.within;
  stand = stand;
  listed = is;
}

-- ---- DROP

pub drops : (follow : SchemasSuffice) (database : PlainDatabase) (statement : DropTable) (goes : Bool) → table_goes database statement ≡ Ok goes
    → drop_effect database statement ≡ Ok (changed_to (without_if database statement.table goes))
drops follow database statement goes e = follow.drop database statement ∙ ap (λ found. and_then found (λ goes. Ok (changed_to (without_if database statement.table goes)))) e

pub dropped_listed : SchemasSuffice → SchemasKeep → (address : List ℕ → List ℕ) (chunks : Chunks) (k : List ℕ) (database : PlainDatabase) (statement : DropTable) (tables left : List TableEntry)
    → IsKeptAt address chunks k database → AreListed address chunks tables database → table_goes database statement ≡ Ok true → left ≡ without statement.table tables
    → AreListed address chunks left (without_table statement.table database)
dropped_listed follow keep address chunks k database statement tables left kept are goes is =
    listed_kept address chunks left (without_table statement.table database)
    (IfOk-at_ok (λ (effect : Effect). IsKept effect.database) (drops follow database statement true goes) (keep.drops database statement (kept_of address chunks k database kept)))
    (all_without (λ named. IsTableAt address chunks (table_address address named.table) named.table) statement.table database are.stand)
    (is ∙ ap (without statement.table) are.listed ∙ named_without address statement.table database)

-- ---- CREATE

pub creates : (follow : SchemasSuffice) (database : PlainDatabase) (create : CreateTable) (made : Option Schema) → schema_created database create ≡ Ok made
    → create_effect database create ≡ Ok (changed_to (with_schema database create.table made))
creates follow database create made e = follow.create database create ∙ ap (λ found. and_then found (λ made. Ok (changed_to (with_schema database create.table made)))) e

judged_some : (database : PlainDatabase) (create : CreateTable) (schema : Schema) (made : Option Schema) → schema_judged database create schema ≡ Ok made → (s : Schema) × (made ≡ Some s)
judged_some database create schema made e =
    let referred : Outcome (Option Schema) = and_then (all_allowed (foreign_allowed database create.table schema.columns (key_lists schema)) create.elements) (λ referred. schema_within database schema) in
    let one = then_so (all_allowed (check_allowed (own_scope create.table schema)) create.elements) (λ checked. referred) made e in
    let two = then_so (all_allowed (foreign_allowed database create.table schema.columns (key_lists schema)) create.elements) (λ referred. schema_within database schema) made one.2 in
    let three = unless_so (not (is_within_limits schema) || nat_le most_tables (length database)) 9010 (Ok (Some schema)) made two.2 in
    (schema, let same : Some schema ≡ made = cc in sym same)

-- where no table of the name is there, a schema comes
pub comes : (database : PlainDatabase) (create : CreateTable) (made : Option Schema) → is_there database create.table ≡ false → schema_created database create ≡ Ok made → (s : Schema) × (made ≡ Some s)
comes database create made none e =
    let judged : Outcome (Option Schema) = and_then (columns_made create.elements) (λ columns. schema_judged database create (schema_of create columns)) in
    let here : judged ≡ Ok made = sym (ap (λ there. if there then (if create.if_not_exists then Ok None else Err 1050) else judged) none) ∙ e in
    let one = then_so (columns_made create.elements) (λ columns. schema_judged database create (schema_of create columns)) made here in
    judged_some database create (schema_of create one.0) made one.2

absent_if_made : (database : PlainDatabase) (create : CreateTable) (schema : Schema) → schema_created database create ≡ Ok (Some schema) → is_there database create.table ≡ false
absent_if_made database create schema e = by (is_there database create.table) create.if_not_exists (and_then (columns_made create.elements) (λ columns. schema_judged database create (schema_of create columns))) refl e where
  by : (there allowed : Bool) (judged : Outcome (Option Schema)) → is_there database create.table ≡ there → (if there then (if allowed then Ok None else Err 1050) else judged) ≡ Ok (Some schema) → is_there database create.table ≡ false
  by true true judged is e = absurd cc
  by true false judged is e = absurd cc
  by false allowed judged is e = is

-- what CREATE answers tells the schema
created_of : (database : PlainDatabase) (create : CreateTable) (effect : Effect) → create_effect database create ≡ Ok effect
    → (made : Option Schema) × (schema_created database create ≡ Ok made) × (with_schema database create.table made ≡ effect.database)
created_of database create effect e =
    let found = then_so (schema_created database create) (λ made. Ok (changed_to (with_schema database create.table made))) effect (sym (schemas_suffice.create database create) ∙ e) in
    let again : Ok (changed_to (with_schema database create.table found.0)) ≡ Ok effect = found.2 in
    let same : changed_to (with_schema database create.table found.0) ≡ effect = cc in (found.0, found.1, ap (λ (x : Effect). x.database) same)

-- an answer for a name that wasn't there has the new table
pub created_absent : (database : PlainDatabase) (create : CreateTable) (effect : Effect) → is_there database create.table ≡ false → create_effect database create ≡ Ok effect
    → (s : Schema) × (schema_created database create ≡ Ok (Some s)) × (table_in effect.database create.table ≡ Some (empty_table s))
created_absent database create effect none e =
    let found = created_of database create effect e in
    let one = comes database create found.0 none found.1 in (
      one.0,
      found.1 ∙ ap Ok one.1,
      ap (λ (d : PlainDatabase). table_in d create.table) (sym found.2 ∙ ap (with_schema database create.table) one.1) ∙ found_new create.table (empty_table one.0) database none,
    )

-- the new table is one, within the limits
pub new_kept : (database : PlainDatabase) (name : List ℕ) (schema : Schema) → is_there database name ≡ false → IsKept (with_table database name schema) → IsKeptTable (empty_table schema)
new_kept database name schema none kept = found_kept name (with_table database name schema) (empty_table schema) kept (found_new name (empty_table schema) database none)

pub drop_refused : SchemasSuffice → (database : PlainDatabase) (statement : DropTable) (number : ℕ) → table_goes database statement ≡ Err number → drop_effect database statement ≡ Err number
drop_refused follow database statement number e = follow.drop database statement ∙ ap (λ found. and_then found (λ goes. Ok (changed_to (without_if database statement.table goes)))) e

pub create_refused : SchemasSuffice → (database : PlainDatabase) (create : CreateTable) (number : ℕ) → schema_created database create ≡ Err number → create_effect database create ≡ Err number
create_refused follow database create number e = follow.create database create ∙ ap (λ found. and_then found (λ made. Ok (changed_to (with_schema database create.table made)))) e

pub may_add : SchemasSuffice → SchemasKeep → (address : List ℕ → List ℕ) (chunks : Chunks) (k : List ℕ) (database : PlainDatabase) (create : CreateTable) (tables : List TableEntry) (schema : Schema)
    → IsFit (write.Create create) → IsKeptAt address chunks k database → AreListed address chunks tables database → schema_created database create ≡ Ok (Some schema)
    → CanAdd address chunks tables create.table schema database
may_add follow keep address chunks k database create tables schema fit kept are e = record {
  listed = are;
  absent = absent_if_made database create schema e;
  kept = IfOk-at_ok (λ (effect : Effect). IsKept effect.database) (creates follow database create (Some schema) e) (keep.creates database create (kept_of address chunks k database kept) fit);
}
