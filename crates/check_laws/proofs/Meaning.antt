-- Each CHECK of a table is judged by a meaning.
use Rattle.std.proofs.Common.{◌≡◌, refl, sym, ap, ◌∙◌, ℕ, true, true≢false, cond, List, [], ◌∷◌, Option, Some, Ok, Err}
use Rattle.std.specs.Prelude.{is_some}
use Rattle.std.specs.List.{AllByRecursion, list_all}
use Rattle.std.specs.Option.{option_and_then}
use Rattle.schema_model.specs.PlainTables.{PlainDatabase}
use Rattle.schema_model.specs.declared.schemas.CheckDef.{CheckDef}
use Rattle.schema_model.specs.declared.schemas.Schema.{Schema}
use Rattle.sql_ast.specs.declared.expressions.Expr.{Expr}
use Rattle.sql_values.specs.Kinds.{is_bool}
use Rattle.tuple_codec.specs.Rows.{Cells}
use Rattle.check_laws.specs.CheckLaws.{BindAlike}
use Rattle.expr_eval.specs.Binding.{Outcome, and_then, bound, if_truth}
use Rattle.expr_eval.specs.declared.bound.BoundExpr.{BoundExpr}
use Rattle.expr_eval.specs.declared.scopes.ScopeColumn.{ScopeColumn}
use Rattle.plain_sql.specs.Answers.{Meaning}
use Rattle.plain_sql.specs.Plans.{condition, meaning}
use Rattle.plain_sessions.specs.StateLimits.{has_meant_checks}
use Rattle.plain_writes.specs.CheckTexts.{checks}
use Rattle.plain_writes.specs.Violations.{breaks_check, meaning_if, own_scope}
use Rattle.plain_writes.proofs.RowOrderLemmas.{both_so}
use Rattle.plain_writes.proofs.OutcomeLemmas.{ok_same}
use Rattle.check_laws.specs.Laws.{ChecksAreMeant, HasMeaning}
use Rattle.check_laws.specs.Meant.{AreMeant, IsMeantCheck, is_condition}
use Rattle.check_laws.proofs.Altering.{back_condition, read_back}

Has : Option Meaning → Type 0
Has o = (meaning : Meaning) × (o ≡ Some meaning)

bound_meaning : (o : Outcome BoundExpr) → is_condition o ≡ true → (m : Meaning) × (and_then (and_then o if_truth) (λ found. Ok (meaning found)) ≡ Ok m)
bound_meaning (Ok b) h = (meaning b, ap (λ c. and_then (cond c (Ok b) (Err 9001)) (λ found. Ok (meaning found))) h)
bound_meaning (Err n) h = absurd (true≢false (sym h))

pub condition_meant : (scope : List ScopeColumn) (x : Expr) → is_condition (bound scope x) ≡ true → (m : Meaning) × (condition scope x ≡ Ok m)
unfolding condition
condition_meant scope x h = bound_meaning (bound scope x) h

pub check_meant : (name : List ℕ) (schema : Schema) (check : CheckDef) → IsMeantCheck name schema check → (m : Meaning) × (checks name schema check.text ≡ Some m)
check_meant name schema check it =
    let scope = own_scope name schema in
    let back = read_back name schema check it in
    let meant = condition_meant scope back.back (back_condition scope check it.expr back ∙ it.binds) in
    (meant.0, ap (λ (o : Option Expr). option_and_then (λ expr. meaning_if (condition scope expr)) o) back.read ∙ ap meaning_if meant.1)

-- what the canonical text says has the values of the expression
bound_alike : (o p : Outcome BoundExpr) → BindAlike o p → is_condition o ≡ true
    → (m n : Meaning) → and_then (and_then o if_truth) (λ found. Ok (meaning found)) ≡ Ok m → and_then (and_then p if_truth) (λ found. Ok (meaning found)) ≡ Ok n → (row : Cells) → m row ≡ n row
unfolding meaning
bound_alike (Ok a) (Ok b) h is m n e f row =
    let first : Outcome Meaning = Ok (meaning a) in
    let second : Outcome Meaning = Ok (meaning b) in
    let one : meaning a ≡ m = ok_same first (meaning a) m refl (sym (ap (λ c. and_then (cond c (Ok a) (Err 9001)) (λ found. Ok (meaning found))) is) ∙ e) in
    let two_ : meaning b ≡ n = ok_same second (meaning b) n refl (sym (ap (λ c. and_then (cond c (Ok b) (Err 9001)) (λ found. Ok (meaning found))) (sym (ap is_bool h.0) ∙ is)) ∙ f) in
    ap (λ (x : Meaning). x row) (sym one) ∙ h.1 row ∙ ap (λ (x : Meaning). x row) two_
bound_alike (Ok a) (Err n) h is m k e f row = absurd h
bound_alike (Err n) (Ok b) h is m k e f row = absurd h
bound_alike (Err n) (Err l) h is m k e f row = cc

alike : (scope : List ScopeColumn) (x y : Expr) → BindAlike (bound scope x) (bound scope y) → is_condition (bound scope x) ≡ true → (m n : Meaning) → condition scope x ≡ Ok m → condition scope y ≡ Ok n → (row : Cells) → m row ≡ n row
unfolding condition
alike scope x y h is m n e f row = bound_alike (bound scope x) (bound scope y) h is m n e f row

pub check_means : (name : List ℕ) (schema : Schema) (check : CheckDef) → IsMeantCheck name schema check → HasMeaning name schema check
check_means name schema check it =
    let scope = own_scope name schema in
    let back = read_back name schema check it in
    let binds = back_condition scope check it.expr back ∙ it.binds in
    let meant = condition_meant scope back.back binds in
    let own = condition_meant scope it.expr it.binds in
    let m = meant.0 in
    let is : checks name schema check.text ≡ Some m = ap (λ (o : Option Expr). option_and_then (λ expr. meaning_if (condition scope expr)) o) back.read ∙ ap meaning_if meant.1 in
    record {
      expr = it.expr;
      text_is = it.text_is;
      own = own.0;
      own_is = own.1;
      meaning = m;
      meaning_is = is;
      same = alike scope back.back it.expr (back.alike scope) binds m own.0 meant.1 own.1;
      judged = λ row. ap (λ o. breaks_check o row) is;
    }

all_meant : (name : List ℕ) (schema : Schema) (list : List CheckDef) → AllByRecursion (IsMeantCheck name schema) list → AllByRecursion (HasMeaning name schema) list
all_meant name schema [] all = tt
all_meant name schema (check ∷ list) all = (check_means name schema check all.0, all_meant name schema list all.1)

all_some : (name : List ℕ) (schema : Schema) (list : List CheckDef) → AllByRecursion (IsMeantCheck name schema) list → list_all (λ (check : CheckDef). is_some (checks name schema check.text)) list ≡ true
all_some name schema [] all = refl
all_some name schema (check ∷ list) all = both_so (ap is_some (check_meant name schema check all.0).1) (all_some name schema list all.1)

tables_meant : (database : PlainDatabase) → AreMeant database → list_all has_meant_checks database ≡ true
tables_meant [] meant = refl
tables_meant (named ∷ database) meant = both_so (all_some named.name named.table.schema named.table.schema.checks meant.0) (tables_meant database meant.1)

pub checks_are_meant : ChecksAreMeant
checks_are_meant = record { limits = tables_meant; meanings = λ name schema meant. all_meant name schema schema.checks meant }
