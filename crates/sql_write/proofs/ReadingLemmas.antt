-- Which rows are read, and that the tests leave out the others.
use Rattle.std.proofs.Common.{◌≡◌, refl, sym, ap, ◌∙◌, ℕ, suc, ◌≤◌, ◌<◌, Bool, true, false, true≢false, cond, List, [], ◌∷◌, filter, length, get_or, Ok, arith}
use Rattle.std.specs.List.{list_all}
use Rattle.std.proofs.lemmas.Bool.{and_parts}
use Rattle.tuple_codec.specs.Rows.{Cells}
use Rattle.tuple_codec.specs.declared.values.Value.{Value}
use Rattle.schema_model.specs.PlainTables.{PlainTable, is_row}
use Rattle.schema_model.specs.declared.schemas.Schema.{Schema}
use Rattle.expr_eval.specs.Binding.{Outcome, and_then}
use Rattle.expr_eval.specs.declared.bound.BoundExpr.{BoundExpr}
use Rattle.plain_sql.specs.Answers.{Meaning, is_true}
use Rattle.plain_sql.specs.Plans.{meaning}
use Rattle.sql_select.specs.Seeking.{Seeks}
use Rattle.sql_write.specs.Changes.{AreToTurn, Turning}
use Rattle.sql_write.specs.Passing.{ArePassed, AreRead, LeavesOthers, sets_key}

abbrev passed_if : Bool → Outcome Bool
passed_if passed = cond passed (Ok true) (Ok false)

-- a single test that seeks leaves out the rows that aren't wanted
pub leaves_others : (schema : Schema) (test : BoundExpr) (wanted : Cells → Bool) → Seeks schema test wanted → LeavesOthers schema (meaning test ∷ []) wanted
leaves_others schema test wanted seeks = λ row fit out.
    let over = seeks row fit out in
    ap (λ (o : Outcome Value). and_then o (λ value. passed_if (is_true value))) over.1 ∙ ap passed_if over.2

-- all rows
abbrev every : Cells → Bool
every row = true

all_kept : (rows : List Cells) → rows ≡ filter every rows
all_kept [] = refl
all_kept (row ∷ rows) = ap (λ (l : List Cells). row ∷ l) (all_kept rows)

none_out : (tests : List Meaning) (rows : List Cells) → ArePassed tests every rows
none_out tests [] = tt
none_out tests (row ∷ rows) = (λ out. absurd (true≢false out), none_out tests rows)

pub whole_read : (tests : List Meaning) (all read : List Cells) → read ≡ all → AreRead tests all read
whole_read tests all read is = record { keep = every; kept = is ∙ all_kept all; passed = none_out tests all }

-- the rows that are wanted
others_out : (tests : List Meaning) (schema : Schema) (wanted : Cells → Bool) (rows : List Cells) → LeavesOthers schema tests wanted → list_all (is_row schema) rows ≡ true → ArePassed tests wanted rows
others_out tests schema wanted [] leaves fit = tt
others_out tests schema wanted (row ∷ rows) leaves fit =
    let parts = and_parts (is_row schema row) (list_all (is_row schema) rows) fit in
    (leaves row parts.0, others_out tests schema wanted rows leaves parts.1)

pub wanted_read : (tests : List Meaning) (schema : Schema) (wanted : Cells → Bool) (table : PlainTable) (read : List Cells) → schema ≡ table.schema → LeavesOthers schema tests wanted
    → list_all (is_row table.schema) table.rows ≡ true → read ≡ filter wanted table.rows → AreRead tests table.rows read
wanted_read tests schema wanted table read same leaves fit is = record {
  keep = wanted;
  kept = is;
  passed = others_out tests schema wanted table.rows leaves (ap (λ (s : Schema). list_all (is_row s) table.rows) same ∙ fit);
}

-- what an UPDATE reads
pub whole_turned : (schema : Schema) (turning : Turning) (all read : List Cells) → read ≡ all → AreToTurn schema turning all read
whole_turned schema turning all read is = record { passed = whole_read turning.tests all read is; whole = λ t. sym is }

pub some_turned : (schema : Schema) (turning : Turning) (all read : List Cells) → sets_key schema turning.sets ≡ false → AreRead turning.tests all read → AreToTurn schema turning all read
some_turned schema turning all read free are = record { passed = are; whole = λ t. absurd (true≢false (sym t ∙ free)) }

none_there : 1 ≤ 0 → ⊥
none_there some = omega (arith, some)

two_there : (n : ℕ) → suc (suc n) < 2 → ⊥
two_there n few = omega (arith, few)

-- a list of one
pub only_one : {A : Type 0} (xs : List A) (first : A) → first ≡ get_or xs 0 first → 1 ≤ length xs → length xs < 2 → xs ≡ first ∷ []
only_one [] first is some few = absurd (none_there some)
only_one (x ∷ []) first is some few = λ i. sym is i ∷ []
only_one (x ∷ y ∷ xs) first is some few = absurd (two_there (length xs) few)
