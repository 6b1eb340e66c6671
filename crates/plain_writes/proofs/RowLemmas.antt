-- Rows that statements write fit their table and keep the limits.
use Rattle.std.proofs.Common.{◌≡◌, refl, sym, ap, ◌∙◌, subst, ℕ, zero, suc, ◌+◌, Bool, true, false, cond, not, ◌&&◌, ◌⊎◌, inl, inr, List, [], ◌∷◌, map, filter, set, slice_get, Option, Some, None, Result, Ok, Err, unwrap_or}
use Rattle.std.specs.List.{list_all, AllByRecursion, enumerate_from}
use Rattle.tuple_codec.proofs.Truths.{not_both}
use Rattle.tuple_codec.specs.Rows.{Cells, fits, fits_all, same_cells}
use Rattle.tuple_codec.specs.declared.values.SqlType.{SqlType}
use Rattle.tuple_codec.specs.declared.values.Value.{Value}
use Rattle.tuple_codec.specs.declared.values.Value.TheVariants as cell
use Rattle.schema_model.specs.declared.schemas.Column.{Column}
use Rattle.schema_model.specs.declared.schemas.Schema.{Schema}
use Rattle.schema_model.specs.Limits.{is_row_within_limits}
use Rattle.schema_model.specs.PlainTables.{is_row}
use Rattle.schema_model.specs.Schemas.{default_fits, is_column, is_name}
use Rattle.tuple_codec.specs.Limits.{is_type}
use Rattle.sql_values.specs.Assigning.{stored}
use Rattle.sql_values.specs.Kinds.{may_assign}
use Rattle.plain_sql.specs.Plans.{meaning}
use Rattle.sql_values.specs.declared.assigning.Misfit.{Misfit}
use Rattle.sql_values.specs.declared.kinds.Kind.{Kind}
use Rattle.sql_ast.specs.declared.statements.Assignment.{Assignment}
use Rattle.expr_eval.specs.Binding.{Outcome, and_then, mismatch, bound}
use Rattle.expr_eval.specs.declared.bound.BoundExpr.{BoundExpr}
use Rattle.expr_eval.specs.declared.scopes.ScopeColumn.{ScopeColumn}
use Rattle.plain_sql.specs.Answers.{Meaning, given, is_null, passes}
use Rattle.plain_sql.specs.Lists.{each, or_refuse, unless}
use Rattle.plain_writes.specs.Violations.{column_place}
use Rattle.plain_writes.specs.Writes.{Assign, Said, assign_if, assign_to, assigned, bound_assignment, cell_said, if_changed, if_small, if_small_turned, is_large, keeps_null, new_cell, new_row, or_misfit, rest_of, row_after, said_of, standard, stays, turned, turned_if, turned_small, untouched}
use Rattle.plain_writes.specs.Writes.Said.{Nothing, Worth}
use Rattle.plain_writes.specs.declared.updating.Later.{Later}
use Rattle.plain_writes.proofs.RowOrderLemmas.{both_so, left_so, right_so, two}
use Rattle.plain_writes.proofs.OutcomeLemmas.{all_true, each_all, found_so, ok_same, then_so, unless_so}
use Rattle.plain_writes.proofs.CellLemmas.{stored_fits}

-- ---- cells

misfit_so : (o : Result Value Misfit) (v : Value) → or_misfit o ≡ Ok v → o ≡ Ok v
misfit_so (Ok value) v e = let same : value ≡ v = cc in cc
misfit_so (Err misfit) v e = cc

pub assigned_fits : (k : Kind) (column : Column) (value kept : Value) → assigned k column value ≡ Ok kept → fits column.kind kept ≡ true
assigned_fits k column value kept e = stored_fits k column.kind column.not_null value kept (misfit_so (stored k column.kind column.not_null value) kept e)

pub default_so : (t : SqlType) (default : Option Value) → default_fits t default ≡ true → fits t (unwrap_or default cell.Null) ≡ true
default_so t None h = refl
default_so t (Some value) h = h

column_default : (column : Column) → is_column column ≡ true → default_fits column.kind column.default ≡ true
column_default column h = right_so (is_name column.name && is_type column.kind) (default_fits column.kind column.default) h

pub standard_fits : (column : Column) (v : Value) → is_column column ≡ true → standard column ≡ Ok v → fits column.kind v ≡ true
standard_fits column v h e =
    let parts = unless_so (column.not_null && is_null (unwrap_or column.default cell.Null)) 1048 (Ok (unwrap_or column.default cell.Null)) v e in
    ap (fits column.kind) (sym (ok_same (Ok (unwrap_or column.default cell.Null)) (unwrap_or column.default cell.Null) v refl parts.1)) ∙ default_so column.kind column.default (column_default column h)

said_fits : (column : Column) (said : Option Said) (v : Value) → is_column column ≡ true → cell_said column said ≡ Ok v → fits column.kind v ≡ true
said_fits column (Some (Worth k meaning)) v h e =
    let parts = then_so (given meaning []) (assigned k column) v e in
    assigned_fits k column parts.0 v parts.2
said_fits column (Some Nothing) v h e = standard_fits column v h e
said_fits column None v h e = standard_fits column v h e

cells_fit : (places : List ℕ) (said : List Said) (columns : List Column) (n : ℕ) (row : Cells) → list_all is_column columns ≡ true
    → each (new_cell places said) (enumerate_from n columns) ≡ Ok row → fits_all (map (λ column. column.kind) columns) row ≡ true
cells_fit places said [] n row h e = ap (fits_all []) (sym (ok_same (Ok []) [] row refl e))
cells_fit places said (column ∷ columns) n row h e =
    let first = then_so (new_cell places said (n, column)) (λ y. and_then (each (new_cell places said) (enumerate_from (n + 1) columns)) (λ more. Ok (y ∷ more))) row e in
    let rest = then_so (each (new_cell places said) (enumerate_from (n + 1) columns)) (λ more. Ok (first.0 ∷ more)) row first.2 in
    ap (fits_all (column.kind ∷ map (λ column. column.kind) columns)) (sym (ok_same (Ok (first.0 ∷ rest.0)) (first.0 ∷ rest.0) row refl rest.2))
    ∙ both_so (said_fits column (said_of places said n) first.0 (left_so (is_column column) (list_all is_column columns) h) first.1)
    (cells_fit places said columns (n + 1) rest.0 (right_so (is_column column) (list_all is_column columns) h) rest.1)

-- ---- rows

-- a row of the table, within the limits
abbrev pub is_good : Schema → Cells → Bool
is_good schema row = is_row schema row && is_row_within_limits schema row

not_large : (schema : Schema) (row : Cells) → is_large schema row ≡ false → is_row_within_limits schema row ≡ true
not_large schema row e = by (is_row_within_limits schema row) e
  where
    by : (b : Bool) → not b ≡ false → b ≡ true
    by true h = refl
    by false h = sym h

small_so : (schema : Schema) (row kept : Cells) → if_small schema row ≡ Ok kept → (is_row_within_limits schema kept ≡ true) × (row ≡ kept)
small_so schema row kept e =
    let parts = unless_so (is_large schema row) 9010 (Ok row) kept e in
    let same : row ≡ kept = ok_same (Ok row) row kept refl parts.1 in
    (subst (λ r. is_row_within_limits schema r ≡ true) same (not_large schema row parts.0), same)

new_row_good : (schema : Schema) (places : List ℕ) (said : List Said) (row : Cells) → list_all is_column schema.columns ≡ true → new_row schema places said ≡ Ok row → is_good schema row ≡ true
new_row_good schema places said row h e =
    let parts = then_so (each (new_cell places said) (enumerate_from 0 schema.columns)) (if_small schema) row e in
    let small = small_so schema parts.0 row parts.2 in
    both_so (subst (λ r. is_row schema r ≡ true) small.1 (cells_fit places said schema.columns 0 parts.0 h parts.1)) small.0

pub new_rows_good : (schema : Schema) (places : List ℕ) (said : List (List Said)) (rows : List Cells) → list_all is_column schema.columns ≡ true
    → each (new_row schema places) said ≡ Ok rows → list_all (is_good schema) rows ≡ true
new_rows_good schema places said rows h e = each_all (new_row schema places) (λ said. true) (is_good schema) (λ one row t made. new_row_good schema places one row h made) said rows (all_true said) e

-- the part of the columns that are well, of which there is one at a place
column_at : (columns : List Column) (place : ℕ) (column : Column) (row : Cells) (kept : Value) → fits_all (map (λ column. column.kind) columns) row ≡ true
    → slice_get columns place ≡ Some column → fits column.kind kept ≡ true → fits_all (map (λ column. column.kind) columns) (set row place kept) ≡ true
column_at [] place column row kept f at h = cc
column_at (first ∷ columns) place column [] kept f at h = cc
column_at (first ∷ columns) zero column (value ∷ row) kept f at h =
    let same : first ≡ column = cc in
    both_so (subst (λ (c : Column). fits c.kind kept ≡ true) (sym same) h) (right_so (fits first.kind value) (fits_all (map (λ column. column.kind) columns) row) f)
column_at (first ∷ columns) (suc place) column (value ∷ row) kept f at h =
    both_so (left_so (fits first.kind value) (fits_all (map (λ column. column.kind) columns) row) f)
    (column_at columns place column row kept (right_so (fits first.kind value) (fits_all (map (λ column. column.kind) columns) row) f) at h)

-- an assignment names a column at its place
abbrev pub IsPlaced : Schema → Assign → Type 0
IsPlaced schema one = slice_get schema.columns one.place ≡ Some one.column

assign_if_placed : (schema : Schema) (place : ℕ) (column : Column) (b : BoundExpr) (one : Assign) → slice_get schema.columns place ≡ Some column → assign_if place column b ≡ Ok one → IsPlaced schema one
assign_if_placed schema place column b one at e = two (may_assign b.kind column.kind)
    (λ may. subst (IsPlaced schema) (ok_same (assign_if place column b) (record { place = place; column = column; kind = b.kind; meaning = meaning b }) one
    (ap (λ t. cond t (Ok (record { place = place; column = column; kind = b.kind; meaning = meaning b })) mismatch) may) e) at)
    (λ may. let refused : assign_if place column b ≡ Err 9001 = ap (λ t. cond t (Ok (record { place = place; column = column; kind = b.kind; meaning = meaning b })) mismatch) may in cc)

pub assignment_placed : (schema : Schema) (scope : List ScopeColumn) (assignment : Assignment) (one : Assign) → bound_assignment schema scope assignment ≡ Ok one → IsPlaced schema one
assignment_placed schema scope assignment one e =
    let first = then_so (or_refuse 1054 (column_place schema assignment.column)) (λ place. and_then (or_refuse 1054 (slice_get schema.columns place)) (assign_to scope assignment.value place)) one e in
    let second = then_so (or_refuse 1054 (slice_get schema.columns first.0)) (assign_to scope assignment.value first.0) one first.2 in
    let third = then_so (bound scope assignment.value) (assign_if first.0 second.0) one second.2 in
    assign_if_placed schema first.0 second.0 third.0 one (found_so 1054 (slice_get schema.columns first.0) second.0 second.1) third.2

row_after_fits : (schema : Schema) (sets : List Assign) (row after : Cells) → AllByRecursion (IsPlaced schema) sets → is_row schema row ≡ true → row_after sets row ≡ Ok after → is_row schema after ≡ true
row_after_fits schema [] row after placed f e = subst (λ r. is_row schema r ≡ true) (ok_same (Ok row) row after refl e) f
row_after_fits schema (one ∷ more) row after placed f e =
    let value = then_so (given one.meaning row) (λ value. and_then (assigned one.kind one.column value) (λ kept. row_after more (set row one.place kept))) after e in
    let kept = then_so (assigned one.kind one.column value.0) (λ kept. row_after more (set row one.place kept)) after value.2 in
    row_after_fits schema more (set row one.place kept.0) after placed.1
    (column_at schema.columns one.place one.column row kept.0 f placed.0 (assigned_fits one.kind one.column value.0 kept.0 kept.1)) kept.2

-- what is good of a row behind UPDATE
abbrev pub is_good_later : Schema → Later → Bool
is_good_later schema one = is_good schema one.row

changed_row : (schema : Schema) (sets : List Assign) (old new : Cells) (one : Later) → if_changed schema sets old new ≡ Ok one → (one ≡ untouched old) ⊎ (one ≡ record { row = new; is_new = true })
changed_row schema sets old new one e = two (same_cells old new)
    (λ t. inl (sym (ok_same (if_changed schema sets old new) (untouched old) one (ap (λ b. cond b (Ok (untouched old)) (unless (keeps_null schema sets new) 1048 (Ok (record { row = new; is_new = true })))) t) e)))
    (λ t. let parts = unless_so (keeps_null schema sets new) 1048 (Ok (record { row = new; is_new = true })) one
    (sym (ap (λ b. cond b (Ok (untouched old)) (unless (keeps_null schema sets new) 1048 (Ok (record { row = new; is_new = true })))) t) ∙ e) in
    inr (sym (ok_same (Ok (record { row = new; is_new = true })) (record { row = new; is_new = true }) one refl parts.1)))

-- a row behind UPDATE is the row, or a new one that fits
turned_so : (schema : Schema) (tests : List Meaning) (sets : List Assign) (row : Cells) (one : Later) → AllByRecursion (IsPlaced schema) sets → is_row schema row ≡ true
    → turned schema tests sets row ≡ Ok one → (one ≡ untouched row) ⊎ ((one.is_new ≡ true) × (is_row schema one.row ≡ true))
turned_so schema tests sets row one placed f e = by_choice tested.0 tested.2
  where
    tested : (chosen : Bool) × (passes tests row ≡ Ok chosen) × (turned_if schema sets row chosen ≡ Ok one)
    tested = then_so (passes tests row) (turned_if schema sets row) one e

    by_change : (new : Cells) → row_after sets row ≡ Ok new → (one ≡ untouched row) ⊎ (one ≡ record { row = new; is_new = true })
        → (one ≡ untouched row) ⊎ ((one.is_new ≡ true) × (is_row schema one.row ≡ true))
    by_change new made (inl same) = inl same
    by_change new made (inr same) = inr (ap (λ (o : Later). o.is_new) same, subst (λ (o : Later). is_row schema o.row ≡ true) (sym same) (row_after_fits schema sets row new placed f made))

    by_choice : (chosen : Bool) → turned_if schema sets row chosen ≡ Ok one → (one ≡ untouched row) ⊎ ((one.is_new ≡ true) × (is_row schema one.row ≡ true))
    by_choice false h = inl (sym (ok_same (Ok (untouched row)) (untouched row) one refl h))
    by_choice true h =
        let after = then_so (row_after sets row) (if_changed schema sets row) one h in
        by_change after.0 after.1 (changed_row schema sets row after.0 one after.2)

turned_good : (schema : Schema) (tests : List Meaning) (sets : List Assign) (row : Cells) (one : Later) → AllByRecursion (IsPlaced schema) sets → is_good schema row ≡ true
    → turned_small schema tests sets row ≡ Ok one → is_good_later schema one ≡ true
turned_good schema tests sets row one placed good e =
    subst (λ o. is_good_later schema o ≡ true) same (by_kind (turned_so schema tests sets row made.0 placed (left_so (is_row schema row) (is_row_within_limits schema row) good) made.1))
  where
    made : (t : Later) × (turned schema tests sets row ≡ Ok t) × (if_small_turned schema t ≡ Ok one)
    made = then_so (turned schema tests sets row) (if_small_turned schema) one e

    before : Outcome Later
    before = Ok made.0

    small : ((made.0.is_new && is_large schema made.0.row) ≡ false) × (before ≡ Ok one)
    small = unless_so (made.0.is_new && is_large schema made.0.row) 9010 before one made.2

    same : made.0 ≡ one
    same = ok_same before made.0 one refl small.1

    by_kind : (made.0 ≡ untouched row) ⊎ ((made.0.is_new ≡ true) × (is_row schema made.0.row ≡ true)) → is_good_later schema made.0 ≡ true
    by_kind (inl kept) = subst (λ o. is_good_later schema o ≡ true) (sym kept) good
    by_kind (inr new) = both_so new.1 (not_large schema made.0.row (not_both made.0.is_new (is_large schema made.0.row) small.0 new.0))

pub turned_all_good : (schema : Schema) (tests : List Meaning) (sets : List Assign) (rows : List Cells) (later : List Later) → AllByRecursion (IsPlaced schema) sets → list_all (is_good schema) rows ≡ true
    → each (turned_small schema tests sets) rows ≡ Ok later → list_all (is_good_later schema) later ≡ true
turned_all_good schema tests sets rows later placed good e =
    each_all (turned_small schema tests sets) (is_good schema) (is_good_later schema) (λ row one h made. turned_good schema tests sets row one placed h made) rows later good e

stays_good : (schema : Schema) (tests : List Meaning) (row : Cells) (one : Later) → is_good schema row ≡ true → stays tests row ≡ Ok one → is_good_later schema one ≡ true
stays_good schema tests row one good e =
    let tested = then_so (passes tests row) (λ chosen. Ok (record { row = row; is_new = chosen })) one e in
    subst (λ o. is_good_later schema o ≡ true) (ok_same (Ok (record { row = row; is_new = tested.0 })) (record { row = row; is_new = tested.0 }) one refl tested.2) good

pub stay_all_good : (schema : Schema) (tests : List Meaning) (rows : List Cells) (later : List Later) → list_all (is_good schema) rows ≡ true
    → each (stays tests) rows ≡ Ok later → list_all (is_good_later schema) later ≡ true
stay_all_good schema tests rows later good e = each_all (stays tests) (is_good schema) (is_good_later schema) (λ row one h made. stays_good schema tests row one h made) rows later good e

pub all_rows : (schema : Schema) (later : List Later) → list_all (is_good_later schema) later ≡ true → list_all (is_good schema) (map (λ one. one.row) later) ≡ true
all_rows schema [] h = refl
all_rows schema (one ∷ later) h = both_so (left_so (is_good_later schema one) (list_all (is_good_later schema) later) h) (all_rows schema later (right_so (is_good_later schema one) (list_all (is_good_later schema) later) h))

pub all_rest : (schema : Schema) (later : List Later) → list_all (is_good_later schema) later ≡ true → list_all (is_good schema) (rest_of later) ≡ true
all_rest schema [] h = refl
all_rest schema (one ∷ later) h = two (not one.is_new)
    (λ e. ap (λ b. list_all (is_good schema) (map (λ (o : Later). o.row) (cond b (one ∷ filter (λ (o : Later). not o.is_new) later) (filter (λ (o : Later). not o.is_new) later)))) e
    ∙ both_so (left_so (is_good_later schema one) (list_all (is_good_later schema) later) h) (all_rest schema later (right_so (is_good_later schema one) (list_all (is_good_later schema) later) h)))
    (λ e. ap (λ b. list_all (is_good schema) (map (λ (o : Later). o.row) (cond b (one ∷ filter (λ (o : Later). not o.is_new) later) (filter (λ (o : Later). not o.is_new) later)))) e
    ∙ all_rest schema later (right_so (is_good_later schema one) (list_all (is_good_later schema) later) h))

pub all_left : {A : Type 0} (p q : A → Bool) (xs : List A) → list_all (λ x. p x && q x) xs ≡ true → list_all p xs ≡ true
all_left p q [] h = refl
all_left p q (x ∷ xs) h = both_so (left_so (p x) (q x) (left_so (p x && q x) (list_all (λ x. p x && q x) xs) h)) (all_left p q xs (right_so (p x && q x) (list_all (λ x. p x && q x) xs) h))

pub all_right : {A : Type 0} (p q : A → Bool) (xs : List A) → list_all (λ x. p x && q x) xs ≡ true → list_all q xs ≡ true
all_right p q [] h = refl
all_right p q (x ∷ xs) h = both_so (right_so (p x) (q x) (left_so (p x && q x) (list_all (λ x. p x && q x) xs) h)) (all_right p q xs (right_so (p x && q x) (list_all (λ x. p x && q x) xs) h))
