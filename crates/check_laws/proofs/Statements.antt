-- Every database statement.
use Rattle.std.proofs.Common.{◌≡◌, refl, sym, subst, ℕ, true, false, cond, not, List, [], ◌∷◌, ◌++◌, None, Some, Ok}
use Rattle.std.specs.Prelude.{IfOk}
use Rattle.schema_model.specs.PlainTables.{Conflict, PlainDatabase, PlainTable, Violation}
use Rattle.schema_model.specs.Sameness.{SamenessIsEquality}
use Rattle.sql_ast.specs.declared.statements.Delete.{Delete}
use Rattle.sql_ast.specs.declared.statements.Write.{Write}
use Rattle.sql_ast.specs.declared.statements.Write.TheVariants as write
use Rattle.sql_procedures.specs.declared.requests.CommitRequest.{CommitRequest}
use Rattle.sql_procedures.specs.declared.requests.Reset.{Reset}
use Rattle.sql_procedures.specs.declared.requests.Reset.TheVariants as reset
use Rattle.sql_procedures.specs.declared.requests.Staging.{Staging}
use Rattle.sql_procedures.specs.declared.requests.Staging.TheVariants as staging
use Rattle.sql_procedures.specs.declared.requests.Tables.{Tables}
use Rattle.sql_procedures.specs.declared.requests.Tables.TheVariants as tables
use Rattle.sql_procedures.specs.declared.requests.Verification.{Verification}
use Rattle.sql_procedures.specs.declared.requests.Verification.TheVariants as verification
use Rattle.expr_eval.specs.Binding.{Outcome, and_then}
use Rattle.plain_sql.specs.Answers.{Meaning}
use Rattle.plain_sql.specs.Lists.{each, or_refuse, unless}
use Rattle.plain_sql.specs.Plans.{answer}
use Rattle.plain_writes.specs.Violations.{table_in}
use Rattle.plain_writes.specs.Writes.{Effect}
use Rattle.plain_schemas.specs.Statements.{write_effect}
use Rattle.plain_sessions.specs.declared.commands.Work.TheVariants.{Ask, Change, Add, ResetTo, Commit, Merge, Resolve, Verify}
use Rattle.plain_sessions.specs.Branching.{add, is_open, may_reset, may_stage, names_in, reset_to, says_something, staged_as, staged_first, status, taking_all, to_commit}
use Rattle.plain_sessions.specs.Merging.{Answers, Closes, Committing, Worked, resolve, verified}
use Rattle.plain_sessions.specs.Records.{BranchState}
use Rattle.plain_sessions.specs.Replies.{one_row, shown}
use Rattle.plain_sessions.specs.Sessions.{own_root}
use Rattle.plain_sessions.specs.Statements.{changed, or_of_rows, staged, worked, write_worked, written_by}
use Rattle.plain_sessions.specs.SystemTables.{behind, conflict_columns, conflict_row, conflicts_front, delete_by, delete_conflicts, delete_entries, delete_violations, entries_left, keeping_conflicts, known, tests_on, violation_columns, violation_row, violations_front, with_table, without_violations}
use Rattle.sql_rules.specs.Writes.{is_below}
use Rattle.sql_laws.specs.Fit.{IsFit}
use Rattle.plain_writes.specs.WriteLaws.{IsKept}
use Rattle.plain_writes.proofs.OutcomeLemmas.{found_so}
use Rattle.check_laws.specs.Meant.{AreMeant, IsMeantState, IsMeantTable, IsMeantWork}
use Rattle.check_laws.specs.Moments.{WorkKeepsChecks}
use Rattle.check_laws.proofs.Databases.{IsMeantEffect, found_meant}
use Rattle.check_laws.proofs.Outcomes.{follow, then_ok, unless_ok}
use Rattle.check_laws.proofs.Roots.{recorded_meant}
use Rattle.check_laws.proofs.Staging.{put_meant, resolved_meant, staged_meant, taking_meant}
use Rattle.check_laws.proofs.MergeCalls.{merge_meant, root_of_meant}
use Rattle.check_laws.proofs.Writing.{all_meant}

-- ---- writes

changed_meant : (own : BranchState) (effect : Outcome Effect) → IsMeantState own → IfOk effect IsMeantEffect → IfOk (changed own effect) IsMeantWork
changed_meant own effect o h = follow IsMeantEffect IsMeantWork effect (λ made. Ok (written_by own made)) h (λ made m. record { working = m; staged = o.staged })

same_schema : (own : BranchState) (name : List ℕ) (table new : PlainTable) → IsMeantState own → IsMeantTable name table.schema → new.schema ≡ table.schema → IsMeantState (with_table own name new)
same_schema own name table new o it same = record {
  working = put_meant name (Some new) own.working (λ one e. let is : new ≡ one = cc in subst (λ (t : PlainTable). IsMeantTable name t.schema) is (subst (IsMeantTable name) (sym same) it)) o.working;
  staged = o.staged;
}

by_meant : (delete_from : List ℕ → PlainTable → Outcome Worked) (own : BranchState) (name : List ℕ) → IsMeantState own
    → ((table : PlainTable) → IsMeantTable name table.schema → IfOk (delete_from name table) IsMeantWork) → IfOk (delete_by delete_from own name) IsMeantWork
by_meant delete_from own name o keeps =
    then_ok IsMeantWork (or_refuse 1146 (table_in own.working name)) (delete_from name) (λ table e. keeps table (found_meant name own.working table o.working (found_so 1146 (table_in own.working name) table e)))

conflicts_meant : (own : BranchState) (delete : Delete) (name : List ℕ) (table : PlainTable) → IsMeantState own → IsMeantTable name table.schema → IfOk (delete_conflicts own delete name table) IsMeantWork
conflicts_meant own delete name table o it =
    let last : List Conflict → Outcome Worked = λ left. Ok (keeping_conflicts own name table left) in
    let go : List Meaning → Outcome Worked = λ tests. and_then (entries_left tests (conflict_row table.schema) table.conflicts) last in
    then_ok IsMeantWork (tests_on (conflict_columns table.schema) delete) go (λ tests h. then_ok IsMeantWork (entries_left tests (conflict_row table.schema) table.conflicts) last (λ left k.
    same_schema own name table (record table { conflicts = left }) o it refl))

violations_meant : (own : BranchState) (delete : Delete) (name : List ℕ) (table : PlainTable) → IsMeantState own → IsMeantTable name table.schema → IfOk (delete_violations own delete name table) IsMeantWork
violations_meant own delete name table o it =
    let last : List Violation → Outcome Worked = λ left. Ok (without_violations own name table left) in
    let go : List Meaning → Outcome Worked = λ tests. and_then (entries_left tests violation_row table.violations) last in
    then_ok IsMeantWork (tests_on (violation_columns table.schema) delete) go (λ tests h. then_ok IsMeantWork (entries_left tests violation_row table.violations) last (λ left k.
    same_schema own name table (record table { violations = left }) o it refl))

delete_meant : (own : BranchState) (delete : Delete) → IsKept own.working → IsMeantState own → IsFit (write.Delete delete) → IfOk (or_of_rows own delete (delete_entries own delete)) IsMeantWork
delete_meant own delete kept o fit =
    let rows = changed_meant own (write_effect own.working (write.Delete delete)) o (all_meant own.working (write.Delete delete) kept o.working fit) in
    let one = by_meant (delete_conflicts own delete) own (behind conflicts_front delete.table) o (λ table it. conflicts_meant own delete (behind conflicts_front delete.table) table o it) in
    let other = by_meant (delete_violations own delete) own (behind violations_front delete.table) o (λ table it. violations_meant own delete (behind violations_front delete.table) table o it) in
    let conflicts = delete_by (delete_conflicts own delete) own (behind conflicts_front delete.table) in
    let violations = delete_by (delete_violations own delete) own (behind violations_front delete.table) in
    let rest : IfOk (or_of_rows own delete (cond (is_below violations_front delete.table) (Some violations) None)) IsMeantWork =
    elim (is_below violations_front delete.table) as (λ b. IfOk (or_of_rows own delete (cond b (Some violations) None)) IsMeantWork) [ true ↦ other | false ↦ rows ] in
    elim (is_below conflicts_front delete.table) as (λ b. IfOk (or_of_rows own delete (cond b (Some conflicts) (cond (is_below violations_front delete.table) (Some violations) None))) IsMeantWork) [ true ↦ one | false ↦ rest ]

write_meant : (own : BranchState) (one : Write) → IsKept own.working → IsMeantState own → IsFit one → IfOk (write_worked own one) IsMeantWork
write_meant own (write.Create create) kept o fit = changed_meant own (write_effect own.working (write.Create create)) o (all_meant own.working (write.Create create) kept o.working fit)
write_meant own (write.Drop drop) kept o fit = changed_meant own (write_effect own.working (write.Drop drop)) o (all_meant own.working (write.Drop drop) kept o.working fit)
write_meant own (write.Insert insert) kept o fit = changed_meant own (write_effect own.working (write.Insert insert)) o (all_meant own.working (write.Insert insert) kept o.working fit)
write_meant own (write.Update update) kept o fit = changed_meant own (write_effect own.working (write.Update update)) o (all_meant own.working (write.Update update) kept o.working fit)
write_meant own (write.Delete delete) kept o fit = delete_meant own delete kept o fit
write_meant own (write.Alter alter) kept o fit = changed_meant own (write_effect own.working (write.Alter alter)) o (all_meant own.working (write.Alter alter) kept o.working fit)

-- ---- staging

add_meant : (which : Tables) (own : BranchState) → IsMeantState own → IfOk (add which own) IsMeantState
add_meant tables.All own o = unless_ok IsMeantState (is_open own.working) 9011 (staged_as own own.working) (λ closed. staged_meant own own.working o o.working)
add_meant (tables.Named names) own o =
    let go : List (List ℕ) → Outcome BranchState = λ named. staged_as own (taking_all own.working own.staged named) in
    then_ok IsMeantState (each (may_stage own) names) go (λ named h. staged_meant own (taking_all own.working own.staged named) o (taking_meant own.working own.staged named o.working o.staged))

reset_meant : (root : PlainDatabase) (asked : Reset) (own : BranchState) → AreMeant root → IsMeantState own → IfOk (reset_to root asked own) IsMeantState
reset_meant root reset.Hard own r o = record { working = r; staged = r }
reset_meant root (reset.Tables tables.All) own r o = record { working = o.working; staged = r }
reset_meant root (reset.Tables (tables.Named names)) own r o =
    let go : List (List ℕ) → Outcome BranchState = λ named. staged_as own (taking_all root own.staged named) in
    then_ok IsMeantState (each (may_reset root own) names) go (λ named h. staged_meant own (taking_all root own.staged named) o (taking_meant root own.staged named r o.staged))

first_meant : (root : PlainDatabase) (way : Staging) (own : BranchState) → IsMeantState own → AreMeant (staged_first root way own)
first_meant root staging.AsIs own o = o.staged
first_meant root staging.Known own o = taking_meant own.working own.staged (names_in own.staged ++ names_in root) o.working o.staged
first_meant root staging.All own o = o.working

commit_meant : (root : PlainDatabase) (request : CommitRequest) (own : BranchState) → IsMeantState own → IfOk (to_commit root request own) IsMeantState
commit_meant root request own o =
    let made : BranchState = record own { staged = staged_first root request.staging own } in
    let whole : Outcome BranchState = Ok made in
    unless_ok IsMeantState (is_open own.working) 9011 (unless (not (says_something root request made)) 9007 whole) (λ closed.
    unless_ok IsMeantState (not (says_something root request made)) 9007 whole (λ says. record { working = o.working; staged = first_meant root request.staging own o }))

verified_meant : (way : Verification) (database : PlainDatabase) → AreMeant database → AreMeant (verified way database)
verified_meant verification.Recorded database meant = recorded_meant database meant
verified_meant verification.OutputOnly database meant = meant

-- ---- the whole

staged_work : (made : Outcome BranchState) → IfOk made IsMeantState → IfOk (staged made) IsMeantWork
staged_work made h = follow IsMeantState IsMeantWork made (λ made. Ok (Answers (one_row (status ∷ [])) made)) h (λ state m. m)

pub work_keeps : SamenessIsEquality → WorkKeepsChecks
unfolding worked
work_keeps told session t (Ask one) kept meant fit = then_ok IsMeantWork (answer (known t) one) (λ answer. Ok (Answers (shown answer) t.own)) (λ found h. meant.own)
work_keeps told session t (Change one) kept meant fit = let own = kept.own in write_meant t.own one own.working meant.own fit
work_keeps told session t (Add which) kept meant fit = staged_work (add which t.own) (add_meant which t.own meant.own)
work_keeps told session t (ResetTo request) kept meant fit = staged_work (reset_to (own_root t) request t.own) (reset_meant (own_root t) request t.own (root_of_meant t.commits t.own.head meant.commits) meant.own)
work_keeps told session t (Commit request) kept meant fit =
    follow IsMeantState IsMeantWork (to_commit (own_root t) request t.own) (λ own. Ok (Closes (Committing own request.message))) (commit_meant (own_root t) request t.own meant.own) (λ own m. m)
work_keeps told session t (Merge request) kept meant fit = merge_meant told session t kept meant request
work_keeps told session t (Resolve request) kept meant fit =
    let own = meant.own in
    follow AreMeant IsMeantWork (resolve request t.own.working) (λ working. Ok (Answers (one_row (status ∷ [])) (record t.own { working = working }))) (resolved_meant request t.own.working own.working) (λ working m. record { working = m; staged = own.staged })
work_keeps told session t (Verify way) kept meant fit = let own = meant.own in record { working = verified_meant way t.own.working own.working; staged = own.staged }
