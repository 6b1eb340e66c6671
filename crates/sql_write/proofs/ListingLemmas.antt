-- Databases with a table more or less, and the lists of their tables.
use Rattle.std.proofs.Common.{◌≡◌, ℕ, suc, ◌+◌, Bool, true, false, cond, not, List, [], ◌∷◌, Some, None, refl, ap, ◌∙◌, arith}
use Rattle.std.specs.Prelude.{bytes_eq, if◌then◌else◌}
use Rattle.std.specs.List.{AllByRecursion, find, insert, list_any}
use Rattle.std.specs.Option.{option_map}
use Rattle.std.specs.Ordering.{is_lt}
use Rattle.tuple_codec.proofs.ByteLemmas.{bytes_itself as itself}
use Rattle.tuple_codec.specs.Edits.{order}
use Rattle.schema_model.specs.PlainTables as plain
use Rattle.schema_model.specs.PlainTables.{PlainDatabase, PlainTable}
use Rattle.schema_model.specs.WrittenForms.{table_address}
use Rattle.table_root.specs.Standing.{named_tables}
use Rattle.table_root.specs.declared.records.TableEntry.{TableEntry}
use Rattle.plain_writes.specs.Violations.{is_called, table_in}
use Rattle.plain_schemas.specs.Effects.{is_there, placed_in, without_table}
use Rattle.plain_writes.proofs.RowOrderLemmas.{left_not, right_not}
use Rattle.sql_write.specs.Listing.{count_before, placed, without}

-- ---- placing

place_if : (b : Bool) (new named : TableEntry) (more : List TableEntry) (count : ℕ) → placed new more ≡ insert more count new
    → (if b then new ∷ named ∷ more else named ∷ placed new more) ≡ insert (named ∷ more) (if b then 0 else 1 + count) new
place_if true new named more count e = refl
place_if false new named more count e =
    let at : suc count ≡ 1 + count = omega arith in
    ap (λ rest. named ∷ rest) e ∙ ap (λ n. insert (named ∷ more) n new) at

pub placed_at : (new : TableEntry) (tables : List TableEntry) → placed new tables ≡ insert tables (count_before new.name tables) new
placed_at new [] = refl
placed_at new (named ∷ more) = place_if (is_lt (order new.name named.name)) new named more (count_before new.name more) (placed_at new more)

place_named : (b : Bool) (address : List ℕ → List ℕ) (new named : plain.NamedTable) (database : PlainDatabase) (rest : List TableEntry) → rest ≡ named_tables address (placed_in new database)
    → (if b then record { name = new.name; table = record { 0 = table_address address new.table } } ∷ named_tables address (named ∷ database) else record { name = named.name; table = record { 0 = table_address address named.table } } ∷ rest)
    ≡ named_tables address (if b then new ∷ named ∷ database else named ∷ placed_in new database)
place_named true address new named database rest e = refl
place_named false address new named database rest e = ap (λ rest. record { name = named.name; table = record { 0 = table_address address named.table } } ∷ rest) e

pub named_placed : (address : List ℕ → List ℕ) (new : plain.NamedTable) (database : PlainDatabase)
    → placed (record { name = new.name; table = record { 0 = table_address address new.table } }) (named_tables address database) ≡ named_tables address (placed_in new database)
named_placed address new [] = refl
named_placed address new (named ∷ database) = place_named (is_lt (order new.name named.name)) address new named database _ (named_placed address new database)

-- what holds of the tables and of the new one holds of all
pub all_placed : (P : plain.NamedTable → Type 0) (new : plain.NamedTable) (database : PlainDatabase) → P new → AllByRecursion P database → AllByRecursion P (placed_in new database)
all_placed P new [] one all = (one, tt)
all_placed P new (named ∷ database) one all =
    elim (is_lt (order new.name named.name)) as (λ b. AllByRecursion P (if b then new ∷ named ∷ database else named ∷ placed_in new database)) [
      | true ↦ (one, all)
      | false ↦ (all.0, all_placed P new database one all.1)
    ]

-- the new one is found, where none has its name
pub found_new : (name : List ℕ) (table : PlainTable) (database : PlainDatabase) → is_there database name ≡ false
    → table_in (placed_in (record { name = name; table = table }) database) name ≡ Some table
found_new name table [] none = ap (λ b. option_map (λ (n : plain.NamedTable). n.table) (cond b (Some (record { name = name; table = table })) None)) (itself name)
found_new name table (named ∷ database) none =
    let other : bytes_eq named.name name ≡ false = left_not (bytes_eq named.name name) (list_any (is_called name) database) none in
    let more = found_new name table database (right_not (bytes_eq named.name name) (list_any (is_called name) database) none) in
    elim (is_lt (order name named.name)) as (λ b. table_in (if b then record { name = name; table = table } ∷ named ∷ database else named ∷ placed_in (record { name = name; table = table }) database) name ≡ Some table) [
      | true ↦ ap (λ b. option_map (λ (n : plain.NamedTable). n.table) (cond b (Some (record { name = name; table = table })) (find (is_called name) (named ∷ database)))) (itself name)
      | false ↦ ap (λ b. option_map (λ (n : plain.NamedTable). n.table) (cond b (Some named) (find (is_called name) (placed_in (record { name = name; table = table }) database)))) other ∙ more
    ]

-- ---- removing

left_named : (b : Bool) (address : List ℕ → List ℕ) (named : plain.NamedTable) (database left : PlainDatabase) (rest : List TableEntry) → rest ≡ named_tables address left
    → cond b (record { name = named.name; table = record { 0 = table_address address named.table } } ∷ rest) rest ≡ named_tables address (cond b (named ∷ left) left)
left_named true address named database left rest e = ap (λ rest. record { name = named.name; table = record { 0 = table_address address named.table } } ∷ rest) e
left_named false address named database left rest e = e

pub named_without : (address : List ℕ → List ℕ) (name : List ℕ) (database : PlainDatabase) → without name (named_tables address database) ≡ named_tables address (without_table name database)
named_without address name [] = refl
named_without address name (named ∷ database) =
    left_named (not (bytes_eq named.name name)) address named database (without_table name database) (without name (named_tables address database)) (named_without address name database)

pub all_without : (P : plain.NamedTable → Type 0) (name : List ℕ) (database : PlainDatabase) → AllByRecursion P database → AllByRecursion P (without_table name database)
all_without P name [] all = tt
all_without P name (named ∷ database) all =
    elim (not (bytes_eq named.name name)) as (λ b. AllByRecursion P (cond b (named ∷ without_table name database) (without_table name database))) [
      | true ↦ (all.0, all_without P name database all.1)
      | false ↦ all_without P name database all.1
    ]
