-- What ALTER leaves of a database.
use Rattle.std.proofs.Common.{◌≡◌, ◌<◌, refl, sym, ap, ◌∙◌, subst, ℕ, zero, suc, true, false, not, ◌&&◌, ◌||◌, leb, is_lt, List, [], ◌∷◌, ◌++◌, map, length, set, Some, Ok, Err, bytes_eq, cond}
use Rattle.std.specs.Cmp.Lexicographic.{bytes_decides}
use Rattle.std.specs.List.{list_all, list_any, remove, slice_get}
use Rattle.std.specs.Prelude.{is_some}
use Rattle.std.proofs.lemmas.Bool.{and_parts, not-false, or_parts}
use Rattle.tuple_codec.proofs.Options.{none_so as none_there}
use Rattle.tuple_codec.specs.Rows.{Cells, cell_at, fits, fits_all, key_cmp}
use Rattle.tuple_codec.specs.declared.values.SqlType.{SqlType}
use Rattle.tuple_codec.specs.declared.values.Value.{Value}
use Rattle.tuple_codec.specs.declared.values.Value.TheVariants as cell
use Rattle.schema_model.specs.Limits.{is_row_within_limits, is_table_within_limits, is_within_limits, most_rows}
use Rattle.schema_model.specs.PlainTables.{PlainDatabase, PlainTable, is_keyed, is_row, primary_key, rises}
use Rattle.schema_model.specs.Schemas.{is_schema}
use Rattle.schema_model.specs.declared.schemas.Column.{Column}
use Rattle.schema_model.specs.declared.schemas.Schema.{Schema}
use Rattle.schema_model.proofs.FitLemmas.{places_within as places_below}
use Rattle.sql_ast.specs.declared.statements.Alter.{Alter}
use Rattle.sql_ast.specs.declared.statements.AlterAction.{AlterAction}
use Rattle.sql_ast.specs.declared.statements.AlterAction.TheVariants as action
use Rattle.sql_values.specs.Kinds.{may_assign}
use Rattle.sql_values.specs.declared.kinds.Kind.{Kind}
use Rattle.sql_rules.specs.Defaults.{refuses_null_after}
use Rattle.expr_eval.specs.Binding.{Outcome, and_then, mismatch}
use Rattle.plain_sql.specs.Lists.{each, or_refuse, unless}
use Rattle.plain_writes.specs.Violations.{Checks, column_place, table_in}
use Rattle.plain_writes.specs.Writes.{Effect, assigned, if_small, is_large, replaced, standard}
use Rattle.plain_schemas.specs.Altered.{alter_effect, altered, change_of, check_needs, column_after, free_place, is_open, is_used, kind_at, redefined, redefined_from, refers_to, row_after, schema_after, small_row_after, table_after, without_column}
use Rattle.plain_schemas.specs.Effects.{changed_to}
use Rattle.plain_schemas.specs.declared.changing.ColumnChange.{ColumnChange}
use Rattle.plain_schemas.specs.declared.changing.ColumnChange.TheVariants as change
use Rattle.sql_laws.specs.SoundLaws.{IsKeptAction}
use Rattle.plain_writes.specs.WriteLaws.{IsKept}
use Rattle.plain_writes.proofs.RowOrderLemmas.{both_so, two}
use Rattle.plain_writes.proofs.OutcomeLemmas.{each_all, found_so, ok_same, then_so, unless_so}
use Rattle.plain_writes.proofs.RowLemmas.{all_left, all_right, assigned_fits, is_good, standard_fits}
use Rattle.plain_writes.proofs.DatabaseLemmas.{IsKeptTable, found_kept, replaced_kept}
use Rattle.keep_laws.proofs.AlterSchemas.{changed_schema, Fits, IsFree}
use Rattle.keep_laws.proofs.ColumnLemmas.{made_so, name_kept}
use Rattle.keep_laws.proofs.PlaceLemmas.{at_place, no_place}
use Rattle.keep_laws.proofs.PositionLemmas.{key_added, key_removed, key_set}
use Rattle.keep_laws.proofs.SchemaParts.{parts_so}

-- ---- rows

abbrev types : List Column → List SqlType
types columns = map (λ (column : Column). column.kind) columns

row_added : (columns : List Column) (row : Cells) (column : Column) (value : Value) → fits_all (types columns) row ≡ true → fits column.kind value ≡ true
    → fits_all (types (columns ++ column ∷ [])) (row ++ value ∷ []) ≡ true
row_added [] [] column value h at = both_so at refl
row_added [] (first ∷ row) column value h at = cc
row_added (one ∷ columns) [] column value h at = cc
row_added (one ∷ columns) (first ∷ row) column value h at =
    let parts = and_parts (fits one.kind first) (fits_all (types columns) row) h in both_so parts.0 (row_added columns row column value parts.1 at)

row_removed : (columns : List Column) (row : Cells) (gone : ℕ) → fits_all (types columns) row ≡ true → fits_all (types (remove columns gone)) (remove row gone) ≡ true
row_removed [] [] zero h = refl
row_removed [] [] (suc gone) h = refl
row_removed [] (first ∷ row) gone h = cc
row_removed (one ∷ columns) [] gone h = cc
row_removed (one ∷ columns) (first ∷ row) zero h = (and_parts (fits one.kind first) (fits_all (types columns) row) h).1
row_removed (one ∷ columns) (first ∷ row) (suc gone) h =
    let parts = and_parts (fits one.kind first) (fits_all (types columns) row) h in both_so parts.0 (row_removed columns row gone parts.1)

row_set : (columns : List Column) (row : Cells) (place : ℕ) (column : Column) (value : Value) → fits_all (types columns) row ≡ true → fits column.kind value ≡ true
    → fits_all (types (set columns place column)) (set row place value) ≡ true
row_set [] [] place column value h at = refl
row_set [] (first ∷ row) place column value h at = cc
row_set (one ∷ columns) [] place column value h at = cc
row_set (one ∷ columns) (first ∷ row) zero column value h at = both_so at (and_parts (fits one.kind first) (fits_all (types columns) row) h).1
row_set (one ∷ columns) (first ∷ row) (suc place) column value h at =
    let parts = and_parts (fits one.kind first) (fits_all (types columns) row) h in both_so parts.0 (row_set columns row place column value parts.1 at)

as_long : (columns : List Column) (row : Cells) → fits_all (types columns) row ≡ true → length row ≡ length columns
as_long [] [] h = refl
as_long [] (first ∷ row) h = cc
as_long (one ∷ columns) [] h = cc
as_long (one ∷ columns) (first ∷ row) h = ap suc (as_long columns row (and_parts (fits one.kind first) (fits_all (types columns) row) h).1)

-- a row after a change fits the schema after it, and has its key
record Follows (schema : Schema) (done : ColumnChange) (row after : Cells) : Type 0 where
  fits : is_row (schema_after done schema) after ≡ true
  key : primary_key (schema_after done schema) after ≡ primary_key schema row

row_follows : (schema : Schema) (done : ColumnChange) (row after : Cells) → Fits done schema → is_schema schema ≡ true → is_row schema row ≡ true → row_after done row ≡ Ok after → Follows schema done row after
row_follows schema (change.Add column) row after fit is h e =
    let value = then_so (standard column) (λ value. Ok (row ++ value ∷ [])) after e in
    let made : Outcome Cells = Ok (row ++ value.0 ∷ []) in
    let parts = parts_so schema is in
    let below = places_below (length schema.columns) schema.key parts.key in
    subst (Follows schema (change.Add column) row) (ok_same made (row ++ value.0 ∷ []) after refl value.2) (record {
      fits = row_added schema.columns row column value.0 h (standard_fits column value.0 fit.0 value.1);
      key = key_added schema.key row value.0 (subst (λ n. list_all (λ position. leb (suc position) n) schema.key ≡ true) (sym (as_long schema.columns row h)) below);
    })
row_follows schema (change.Remove gone) row after fit is h e =
    let made : Outcome Cells = Ok (remove row gone) in
    subst (Follows schema (change.Remove gone) row) (ok_same made (remove row gone) after refl e) (record {
      fits = row_removed schema.columns row gone h;
      key = let free = fit.1 in key_removed schema.key row gone free.key;
    })
row_follows schema (change.Redefine place kind column) row after fit is h e =
    let value = then_so (assigned kind column (cell_at row place)) (λ value. Ok (set row place value)) after e in
    let made : Outcome Cells = Ok (set row place value.0) in
    subst (Follows schema (change.Redefine place kind column) row) (ok_same made (set row place value.0) after refl value.2) (record {
      fits = row_set schema.columns row place column value.0 h (assigned_fits kind column (cell_at row place) value.0 value.1);
      key = let free = fit.1 in key_set schema.key row place value.0 free.key;
    })

-- the same of one that keeps the limits
small_follows : (schema : Schema) (done : ColumnChange) (row after : Cells) → Fits done schema → is_schema schema ≡ true → is_row schema row ≡ true
    → small_row_after (schema_after done schema) done row ≡ Ok after → Follows schema done row after × (is_row_within_limits (schema_after done schema) after ≡ true)
small_follows schema done row after fit is h e =
    let turned = then_so (row_after done row) (if_small (schema_after done schema)) after e in
    let kept : Outcome Cells = Ok turned.0 in
    let parts = unless_so (is_large (schema_after done schema) turned.0) 9010 kept after turned.2 in
    subst (λ a. Follows schema done row a × (is_row_within_limits (schema_after done schema) a ≡ true)) (ok_same kept turned.0 after refl parts.1)
    (row_follows schema done row turned.0 fit is h turned.1, not-false _ parts.0)

-- ---- the rows of a table

rows_good : (schema : Schema) (done : ColumnChange) (rows afters : List Cells) → Fits done schema → is_schema schema ≡ true → list_all (is_row schema) rows ≡ true
    → each (small_row_after (schema_after done schema) done) rows ≡ Ok afters → list_all (is_good (schema_after done schema)) afters ≡ true
rows_good schema done rows afters fit is h e =
    each_all (small_row_after (schema_after done schema) done) (is_row schema) (is_good (schema_after done schema))
    (λ row after here made. let both = small_follows schema done row after fit is here made in let follows = both.0 in both_so follows.fits both.1) rows afters h e

rows_keys : (schema : Schema) (done : ColumnChange) (rows afters : List Cells) → Fits done schema → is_schema schema ≡ true → list_all (is_row schema) rows ≡ true
    → each (small_row_after (schema_after done schema) done) rows ≡ Ok afters → map (primary_key (schema_after done schema)) afters ≡ map (primary_key schema) rows
rows_keys schema done [] afters fit is h e =
    let none : Outcome (List Cells) = Ok [] in ap (map (primary_key (schema_after done schema))) (sym (ok_same none [] afters refl e))
rows_keys schema done (row ∷ rows) afters fit is h e =
    let parts = and_parts (is_row schema row) (list_all (is_row schema) rows) h in
    let turn = small_row_after (schema_after done schema) done in
    let first = then_so (turn row) (λ y. and_then (each turn rows) (λ more. Ok (y ∷ more))) afters e in
    let rest = then_so (each turn rows) (λ more. Ok (first.0 ∷ more)) afters first.2 in
    let made : Outcome (List Cells) = Ok (first.0 ∷ rest.0) in
    let both = small_follows schema done row first.0 fit is parts.0 first.1 in
    let follows = both.0 in
    ap (map (primary_key (schema_after done schema))) (sym (ok_same made (first.0 ∷ rest.0) afters refl rest.2))
    ∙ (λ i. follows.key i ∷ rows_keys schema done rows rest.0 fit is parts.1 rest.1 i)

rises_by : (f : Cells → Cells) (rows : List Cells) → rises (λ a b. key_cmp (f a) (f b)) rows ≡ rises key_cmp (map f rows)
rises_by f [] = refl
rises_by f (row ∷ []) = refl
rises_by f (row ∷ next ∷ rows) = ap (λ b. is_lt (key_cmp (f row) (f next)) && b) (rises_by f (next ∷ rows))

rows_length : (turn : Cells → Outcome Cells) (rows afters : List Cells) → each turn rows ≡ Ok afters → length afters ≡ length rows
rows_length turn [] afters e = let none : Outcome (List Cells) = Ok [] in ap length (sym (ok_same none [] afters refl e))
rows_length turn (row ∷ rows) afters e =
    let first = then_so (turn row) (λ y. and_then (each turn rows) (λ more. Ok (y ∷ more))) afters e in
    let rest = then_so (each turn rows) (λ more. Ok (first.0 ∷ more)) afters first.2 in
    let made : Outcome (List Cells) = Ok (first.0 ∷ rest.0) in
    ap length (sym (ok_same made (first.0 ∷ rest.0) afters refl rest.2)) ∙ ap suc (rows_length turn rows rest.0 rest.1)

few_rows : (table : PlainTable) → is_table_within_limits table ≡ true → leb (length table.rows) most_rows ≡ true
few_rows table h = (and_parts (is_within_limits table.schema) (leb (length table.rows) most_rows) (and_parts _ _ (and_parts _ _ (and_parts _ _ h).0).0).0).1

changed_table : (table after : PlainTable) (done : ColumnChange) → Fits done table.schema → IsKeptTable table → table_after table done ≡ Ok after → IsKeptTable after
changed_table table after done fit kept e =
    let schema = schema_after done table.schema in
    let it = kept.is_table in
    let rows = then_so (each (small_row_after schema done) table.rows)
    (λ rows. unless (not (is_within_limits schema)) 9010 (Ok (record { schema = schema; rows = rows; conflicts = []; violations = [] }))) after e in
    let made : PlainTable = record { schema = schema; rows = rows.0; conflicts = []; violations = [] } in
    let whole : Outcome PlainTable = Ok made in
    let parts = unless_so (not (is_within_limits schema)) 9010 whole after rows.2 in
    let within : is_within_limits schema ≡ true = not-false (is_within_limits schema) parts.0 in
    let good = rows_good table.schema done table.rows rows.0 fit it.schema it.rows rows.1 in
    subst IsKeptTable (ok_same whole made after refl parts.1) (record {
      is_table = record {
        schema = changed_schema table.schema done fit within it.schema;
        rows = all_left (is_row schema) (is_row_within_limits schema) rows.0 good;
        keys = rises_by (primary_key schema) rows.0 ∙ ap (rises key_cmp) (rows_keys table.schema done table.rows rows.0 fit it.schema it.rows rows.1) ∙ sym (rises_by (primary_key table.schema) table.rows) ∙ it.keys;
        conflicts = refl;
        conflict_keys = refl;
        violations = refl;
        violation_keys = refl;
      };
      within = both_so (both_so (both_so (both_so within (ap (λ n. leb n most_rows) (rows_length (small_row_after schema done) table.rows rows.0 rows.1) ∙ few_rows table kept.within))
          (all_right (is_row schema) (is_row_within_limits schema) rows.0 good)) refl) refl;
    })

-- ---- which changes are allowed

abbrev Named : Schema → List ℕ → ℕ → Type 0
Named schema name place = (column : Column) × (slice_get schema.columns place ≡ Some column) × (column.name ≡ name)

named_so : (schema : Schema) (name : List ℕ) (place : ℕ) → column_place schema name ≡ Some place → (place < length schema.columns) × Named schema name place
named_so schema name place h =
    let at = at_place (λ (column : Column). bytes_eq column.name name) schema.columns place h in
    let column = at.1 in
    (at.0, (column.0, column.1, (bytes_decides (column.0).name name).0 column.2))

free_so : (checks : Checks) (database : PlainDatabase) (name : List ℕ) (schema : Schema) (column : List ℕ) (place : ℕ) → is_used checks database name schema column place ≡ false → IsFree schema place
free_so checks database name schema column place h =
    let key = is_keyed schema.key place in
    let indexes = list_any (λ index. is_keyed index.columns place) schema.indexes in
    let needs = list_any (check_needs checks name (without_column schema place)) schema.checks in
    let foreign = list_any (λ foreign. is_keyed foreign.columns place) schema.foreign in
    let p5 = or_parts (key || indexes || needs || foreign) (list_any (refers_to name column) database) h in
    let p4 = or_parts (key || indexes || needs) foreign p5.0 in
    let p3 = or_parts (key || indexes) needs p4.0 in
    let p2 = or_parts key indexes p3.0 in
    record { key = p2.0; indexes = p2.1; foreign = p4.1 }

free_place_so : (checks : Checks) (database : PlainDatabase) (name : List ℕ) (schema : Schema) (column : List ℕ) (place : ℕ) → free_place checks database name schema column ≡ Ok place
    → (place < length schema.columns) × Named schema column place × IsFree schema place
free_place_so checks database name schema column place e =
    let found = then_so (or_refuse 1054 (column_place schema column)) (λ place. unless (is_used checks database name schema column place) 9013 (Ok place)) place e in
    let here : Outcome ℕ = Ok found.0 in
    let parts = unless_so (is_used checks database name schema column found.0) 9013 here place found.2 in
    let named = named_so schema column found.0 (found_so 1054 (column_place schema column) found.0 found.1) in
    subst (λ p. (p < length schema.columns) × Named schema column p × IsFree schema p) (ok_same here found.0 place refl parts.1)
    (named.0, named.1, free_so checks database name schema column found.0 parts.0)

redefined_from_so : (place : ℕ) (column : Column) (kind : Kind) (done : ColumnChange) → redefined_from place column kind ≡ Ok done → change.Redefine place kind column ≡ done
redefined_from_so place column kind done e = two (may_assign kind column.kind)
    (λ t. let made : Outcome ColumnChange = Ok (change.Redefine place kind column) in
    ok_same made (change.Redefine place kind column) done refl (sym (ap (λ b. cond b (Ok (change.Redefine place kind column)) mismatch) t) ∙ e))
    (λ t. let refused : redefined_from place column kind ≡ Err 9001 = ap (λ b. cond b (Ok (change.Redefine place kind column)) mismatch) t in cc)

change_fits : (checks : Checks) (database : PlainDatabase) (name : List ℕ) (schema : Schema) (done : AlterAction) (found : ColumnChange) → IsKeptAction done → change_of checks database name schema done ≡ Ok found → Fits found schema
change_fits checks database name schema (action.Add column) found kept e =
    let next : Outcome ColumnChange = and_then (column_after column) (λ made. Ok (change.Add made)) in
    let parts = unless_so (is_some (column_place schema column.name)) 9013 next found e in
    let made = then_so (column_after column) (λ made. Ok (change.Add made)) found parts.1 in
    let whole : Outcome ColumnChange = Ok (change.Add made.0) in
    let one = made_so column.name (refuses_null_after false column.attributes) column made.0 made.1 in
    subst (λ c. Fits c schema) (ok_same whole (change.Add made.0) found refl made.2)
    (one.is_one (name_kept column.name kept), subst (λ n. list_any (λ (other : Column). bytes_eq other.name n) schema.columns ≡ false) (sym one.name_is) (no_place (λ (other : Column). bytes_eq other.name column.name) schema.columns (none_there (column_place schema column.name) parts.0)))
change_fits checks database name schema (action.Drop column) found kept e =
    let place = then_so (free_place checks database name schema column) (λ place. Ok (change.Remove place)) found e in
    let whole : Outcome ColumnChange = Ok (change.Remove place.0) in
    let free = free_place_so checks database name schema column place.0 place.1 in
    subst (λ c. Fits c schema) (ok_same whole (change.Remove place.0) found refl place.2) (free.0, free.2)
change_fits checks database name schema (action.Modify column) found kept e =
    let place = then_so (free_place checks database name schema column.name) (λ place. and_then (column_after column) (redefined schema place)) found e in
    let free = free_place_so checks database name schema column.name place.0 place.1 in
    let made = then_so (column_after column) (redefined schema place.0) found place.2 in
    let kind = then_so (or_refuse 9001 (kind_at schema place.0)) (redefined_from place.0 made.0) found made.2 in
    let one = made_so column.name (refuses_null_after false column.attributes) column made.0 made.1 in
    let named = free.1 in
    subst (λ c. Fits c schema) (redefined_from_so place.0 made.0 kind.0 found kind.2)
    (one.is_one (name_kept column.name kept), free.2, (named.0, named.1, named.2 ∙ sym one.name_is))

-- ---- the whole

pub alters_keep : (checks : Checks) (database : PlainDatabase) (alter : Alter) (effect : Effect) → IsKeptAction alter.action → IsKept database → alter_effect checks database alter ≡ Ok effect → IsKept effect.database
alters_keep checks database alter effect named kept e =
    let found = then_so (or_refuse 1146 (table_in database alter.table)) (altered checks database alter) effect e in
    let table = found.0 in
    let it = found_kept alter.table database table kept (found_so 1146 (table_in database alter.table) table found.1) in
    let next : Outcome Effect = and_then (change_of checks database alter.table table.schema alter.action) (λ change. and_then (table_after table change) (λ after. Ok (changed_to (replaced alter.table after database)))) in
    let closed = unless_so (is_open table) 9011 next effect found.2 in
    let done = then_so (change_of checks database alter.table table.schema alter.action) (λ change. and_then (table_after table change) (λ after. Ok (changed_to (replaced alter.table after database)))) effect closed.1 in
    let after = then_so (table_after table done.0) (λ after. Ok (changed_to (replaced alter.table after database))) effect done.2 in
    let whole : Outcome Effect = Ok (changed_to (replaced alter.table after.0 database)) in
    subst (λ (made : Effect). IsKept made.database) (ok_same whole (changed_to (replaced alter.table after.0 database)) effect refl after.2)
    (replaced_kept alter.table after.0 database (changed_table table after.0 done.0 (change_fits checks database alter.table table.schema alter.action done.0 named done.1) it after.1) kept)
