-- Worked examples: the commit rule, staging, branches, merges, conflicts, and runs of two sessions.
use Rattle.std.proofs.Common.{◌≡◌, refl, codes, ℕ, ◌==◌, List, [], ◌∷◌, true, false, None, Some, Ok, Err, pos, map}
use Rattle.std.specs.Prelude.{if◌then◌else◌}
use Rattle.std.specs.Option.{option_map}
use Rattle.tuple_codec.specs.RowRule.{row3}
use Rattle.tuple_codec.specs.Rows.{Cells}
use Rattle.tuple_codec.specs.declared.values.SqlType.TheVariants as type
use Rattle.tuple_codec.specs.declared.values.Value.TheVariants as cell
use Rattle.schema_model.specs.PlainCommits.{Commits, PlainCommit, with_commit}
use Rattle.schema_model.specs.PlainTables.{Conflict, PlainDatabase}
use Rattle.schema_model.specs.Sameness.{is_same_database}
use Rattle.schema_model.specs.declared.schemas.Column.{Column}
use Rattle.schema_model.specs.declared.schemas.Schema.{Schema}
use Rattle.schema_merge.specs.Merging.{schema3}
use Rattle.schema_merge.specs.Parts.{moved_place}
use Rattle.script_text.specs.Output.{AfterStart}
use Rattle.script_text.specs.declared.scripts.Moment.{Moment}
use Rattle.sql_ast.specs.declared.statements.Write.TheVariants as write
use Rattle.sql_procedures.specs.declared.requests.BranchRequest.TheVariants as branch
use Rattle.sql_procedures.specs.declared.requests.CheckoutRequest.TheVariants as checkout
use Rattle.sql_procedures.specs.declared.requests.CommitRequest.{CommitRequest}
use Rattle.sql_procedures.specs.declared.requests.MergeRequest.TheVariants as merging
use Rattle.sql_procedures.specs.declared.requests.Side.TheVariants as side
use Rattle.sql_procedures.specs.declared.requests.Staging.TheVariants as staging
use Rattle.sql_procedures.specs.declared.requests.Tables.TheVariants as tables
use Rattle.schema_merge.specs.RootMerge.{root3}
use Rattle.schema_merge.specs.TableMerge.{table3}
use Rattle.plain_schemas.specs.Statements.{write_effect}
use Rattle.plain_sessions.specs.Records.{BranchState, Shared, clean_at, is_same_state, no_commits}
use Rattle.plain_sessions.specs.Sessions.{Session, Transaction, first_variables, new_session, within}
use Rattle.script_text.specs.declared.replies.Reply.{Reply}
use Rattle.plain_sessions.specs.Replies.{counted, done, one_row, refused, text_field}
use Rattle.plain_sessions.specs.declared.commands.Command.{Command}
use Rattle.plain_sessions.specs.declared.commands.Command.TheVariants.{Begin, Checkout, CommitAll, Data, Rollback}
use Rattle.plain_sessions.specs.declared.commands.Work.TheVariants.{Change}
use Rattle.plain_sessions.specs.CommitRule.{decide, recorded}
use Rattle.plain_sessions.specs.Branching.{add, branch_step, checkout_step, to_commit}
use Rattle.plain_sessions.specs.Merging.{Answers, Closes, Committing, Forwarding, Joining, merge, merge_reply, resolve}
use Rattle.plain_sessions.specs.SystemTables.{conflicts_of, delete_entries, log, status}
use Rattle.plain_sessions.specs.Moments.{closed, effect_alone}
use Rattle.plain_sessions.specs.Statements.{worked}
use Rattle.plain_sessions.specs.Runs.{Runner, Shortages, State, advance, run_along}

abbrev column : List ℕ → Column
column name = record { name = name; kind = type.BigInt; not_null = true; default = None }

-- t (id, x, y), with the primary key id
abbrev schema : Schema
schema = record { columns = column (codes "id") ∷ column (codes "x") ∷ column (codes "y") ∷ []; key = 0 ∷ []; indexes = []; checks = []; foreign = [] }

abbrev row : ℕ → ℕ → ℕ → Cells
row id x y = cell.Int (pos id) ∷ cell.Int (pos x) ∷ cell.Int (pos y) ∷ []

abbrev holding : List Cells → PlainDatabase
holding rows = record { name = codes "t"; table = record { schema = schema; rows = rows; conflicts = []; violations = [] } } ∷ []

abbrev first : List ℕ
first = 1 ∷ []

-- changed, and nothing staged
abbrev working : List Cells → BranchState
working rows = record { head = first; working = holding rows; staged = []; merging = None }

-- both change cells of a row, each another one
cells_merge : decide (working (row 1 1 1 ∷ [])) (working (row 1 9 1 ∷ [])) (working (row 1 1 8 ∷ [])) first_variables ≡ Ok (working (row 1 9 8 ∷ []))
unfolding decide recorded is_same_state is_same_database root3 table3 schema3 moved_place row3
cells_merge = refl

-- both change one cell
one_cell : decide (working (row 1 1 1 ∷ [])) (working (row 1 9 1 ∷ [])) (working (row 1 8 1 ∷ [])) first_variables ≡ Err 1213
unfolding decide recorded is_same_state is_same_database root3 table3 schema3 moved_place row3
one_cell = refl

-- each inserts a row
rows_merge : decide (working []) (working (row 1 1 1 ∷ [])) (working (row 2 2 2 ∷ [])) first_variables ≡ Ok (working (row 1 1 1 ∷ row 2 2 2 ∷ []))
unfolding decide recorded is_same_state is_same_database root3 table3 schema3 moved_place row3
rows_merge = refl

-- ---- the commit rule, case by case

abbrev conflict : Conflict
conflict = record { key = cell.Int (pos 1) ∷ []; base = Some (row 1 1 1); ours = Some (row 1 9 1); theirs = Some (row 1 8 1) }

abbrev conflicted : PlainDatabase
conflicted = record { name = codes "t"; table = record { schema = schema; rows = row 1 9 1 ∷ []; conflicts = conflict ∷ []; violations = [] } } ∷ []

abbrev in_conflict : BranchState
in_conflict = record { head = first; working = conflicted; staged = []; merging = Some (3 ∷ []) }

-- the branch as it was at the start: a merge in progress doesn't matter, but conflicts do
unresolved : decide (working []) (working []) in_conflict first_variables ≡ Err 9002
unfolding decide is_same_state is_same_database
unresolved = refl

allowed : decide (working []) (working []) in_conflict (record first_variables { allow = true }) ≡ Ok in_conflict
unfolding decide is_same_state is_same_database
allowed = refl

-- the branch moved: nothing unsettled merges
unsettled : decide (working []) (working (row 2 2 2 ∷ [])) in_conflict (record first_variables { allow = true }) ≡ Err 1213
unfolding decide is_same_state is_same_database
unsettled = refl

abbrev with_null : PlainDatabase
with_null = record {
  name = codes "t";
  table = record {
    schema = schema;
    rows = (cell.Int (pos 1) ∷ cell.Null ∷ cell.Int (pos 1) ∷ []) ∷ [];
    conflicts = [];
    violations = record { kind = 4; constraint = codes "x"; key = cell.Int (pos 1) ∷ []; row = cell.Int (pos 1) ∷ cell.Null ∷ cell.Int (pos 1) ∷ [] } ∷ [];
  };
} ∷ []

abbrev in_violation : BranchState
in_violation = record (working []) { working = with_null }

violated : decide (working []) (working []) in_violation (record first_variables { allow = true }) ≡ Err 9003
unfolding decide is_same_state is_same_database
violated = refl

forced : decide (working []) (working []) in_violation (record first_variables { force = true }) ≡ Ok in_violation
unfolding decide is_same_state is_same_database
forced = refl

-- ---- staging

not_there : add (tables.Named (codes "t" ∷ codes "u" ∷ [])) (working []) ≡ Err 1146
not_there = refl

-- from left to right
open_first : add (tables.Named (codes "t" ∷ codes "u" ∷ [])) in_conflict ≡ Err 9011
open_first = refl

staged_whole : add tables.All (working (row 1 1 1 ∷ [])) ≡ Ok (record (working (row 1 1 1 ∷ [])) { staged = holding (row 1 1 1 ∷ []) })
staged_whole = refl

abbrev request : CommitRequest
request = record { message = codes "m"; staging = staging.AsIs; allow_empty = false }

commit_open : to_commit [] request in_conflict ≡ Err 9011
commit_open = refl

commit_nothing : to_commit [] request (working []) ≡ Err 9007
unfolding is_same_database
commit_nothing = refl

commit_all : to_commit [] (record request { staging = staging.All }) (working []) ≡ Ok (record (working []) { staged = holding [] })
unfolding is_same_database
commit_all = refl

-- ---- branches

-- the first commit, and one each on `main` and on `feat`, which change different cells of a row
abbrev commit_of : List (List ℕ) → ℕ → List Cells → PlainCommit
commit_of parents height rows = record { database = holding rows; parents = parents; height = height; date = pos 0; committer = codes "a"; message = codes "m" }

abbrev commits : Commits
commits = with_commit (3 ∷ []) (commit_of (first ∷ []) 2 (row 1 1 8 ∷ [])) (with_commit (2 ∷ []) (commit_of (first ∷ []) 2 (row 1 9 1 ∷ []))
    (with_commit first (commit_of [] 1 (row 1 1 1 ∷ [])) no_commits))

abbrev on_main : BranchState
on_main = clean_at (2 ∷ []) (holding (row 1 9 1 ∷ []))

abbrev on_feat : BranchState
on_feat = clean_at (3 ∷ []) (holding (row 1 1 8 ∷ []))

abbrev shared : Shared
shared = record {
  branches = record { name = codes "feat"; state = on_feat } ∷ record { name = codes "main"; state = on_main } ∷ [];
  commits = commits;
  places = codes "main" ∷ [];
}

abbrev session : Session
session = new_session 0 (codes "a")

no_point : branch_step shared session (branch.Create (record { name = codes "feat"; point = Some (codes "nope") })) ≡ Err 9004
no_point = refl

name_taken : branch_step shared session (branch.Create (record { name = codes "feat"; point = Some (codes "main") })) ≡ Err 9005
name_taken = refl

no_branch : branch_step shared session (branch.Delete (codes "nope")) ≡ Err 9004
no_branch = refl

in_use : branch_step shared session (branch.Delete (codes "main")) ≡ Err 9014
in_use = refl

deleted : branch_step shared session (branch.Delete (codes "feat")) ≡ Ok (record shared { branches = record { name = codes "main"; state = on_main } ∷ [] })
deleted = refl

no_checkout : checkout_step shared session (checkout.Existing (codes "nope")) ≡ Err 9004
no_checkout = refl

-- at the head of the session's branch, and checked out
checked_out_new : checkout_step shared session (checkout.New (record { name = codes "g"; point = None }))
    ≡ Ok (record shared {
      branches = record { name = codes "feat"; state = on_feat } ∷ record { name = codes "g"; state = on_main } ∷ record { name = codes "main"; state = on_main } ∷ [];
      places = codes "g" ∷ [];
    })
checked_out_new = refl

-- ---- a transaction on `main`

abbrev transaction : Transaction
transaction = record {
  start = on_main;
  heads = record { name = codes "feat"; commit = 3 ∷ [] } ∷ record { name = codes "main"; commit = 2 ∷ [] } ∷ [];
  commits = commits;
  own = on_main;
}

abbrev dirty : Transaction
dirty = record transaction { own = record on_main { working = [] } }

-- changes keep a session on its branch, before any moment
dirty_checkout : effect_alone (within session dirty) (Checkout (checkout.Existing (codes "nope"))) ≡ Some (within session dirty, refused 9006)
unfolding is_same_state is_same_database
dirty_checkout = refl

clean_checkout : effect_alone (within session transaction) (Checkout (checkout.Existing (codes "nope"))) ≡ None
unfolding is_same_state is_same_database
clean_checkout = refl

-- ---- DOLT_MERGE

no_merge : merge session transaction merging.Abort ≡ Err 9012
no_merge = refl

-- the name comes before the changes
no_such : merge session dirty (merging.Merge (record { name = codes "nope"; no_ff = false; message = None })) ≡ Err 9004
no_such = refl

uncommitted : merge session dirty (merging.Merge (record { name = codes "feat"; no_ff = false; message = None })) ≡ Err 9006
unfolding is_same_database
uncommitted = refl

up_to_date : merge session transaction (merging.Merge (record { name = codes "main"; no_ff = false; message = None }))
    ≡ Ok (Answers (merge_reply [] 0 0 (codes "up to date")) on_main)
unfolding is_same_database
up_to_date = refl

-- both changed other cells than the base has
clean_merge : merge session transaction (merging.Merge (record { name = codes "feat"; no_ff = false; message = None }))
    ≡ Ok (Closes (Joining (holding (row 1 9 8 ∷ [])) (3 ∷ []) (codes "Merge feat into main")))
unfolding is_same_database root3 table3 schema3 moved_place row3
clean_merge = refl

-- from the first commit it is a fast-forward
fast_forward : merge session (record transaction { own = clean_at first (holding (row 1 1 1 ∷ [])) }) (merging.Merge (record { name = codes "feat"; no_ff = false; message = None }))
    ≡ Ok (Closes (Forwarding (3 ∷ [])))
unfolding is_same_database
fast_forward = refl

-- the other commit changed the cell too: the working database has ours and the conflict, and the merge is in progress
both_changed : merge session (record transaction { commits = with_commit (3 ∷ []) (commit_of (first ∷ []) 2 (row 1 8 1 ∷ [])) commits })
    (merging.Merge (record { name = codes "feat"; no_ff = false; message = None }))
    ≡ Ok (Answers (merge_reply [] 0 1 (codes "conflicts found")) (record on_main { working = conflicted; merging = Some (3 ∷ []) }))
unfolding is_same_database recorded root3 table3 schema3 moved_place row3
both_changed = refl

-- or dropped the table
dropped_there : merge session (record transaction { commits = with_commit (3 ∷ []) (record (commit_of (first ∷ []) 2 []) { database = [] }) commits })
    (merging.Merge (record { name = codes "feat"; no_ff = false; message = None })) ≡ Err 9009
unfolding is_same_database root3
dropped_there = refl

-- ---- decisions of closing calls

-- every byte string has the same address
abbrev to_seven : List ℕ → List ℕ
to_seven bytes = 7 ∷ []

-- a merge that is committed has two parents
two_parents : closed to_seven (pos 5) commits session transaction on_main (Committing (record on_main { merging = Some (3 ∷ []) }) (codes "m"))
    ≡ Ok (record {
      becomes = clean_at (7 ∷ []) (holding (row 1 9 1 ∷ []));
      made = Some (record { database = holding (row 1 9 1 ∷ []); parents = (2 ∷ []) ∷ (3 ∷ []) ∷ []; height = 3; date = pos 5; committer = codes "a"; message = codes "m" });
      reply = one_row (text_field (codes "hash") [] ∷ []);
    })
unfolding decide is_same_state is_same_database
two_parents = refl

-- the branch moved
moved_on : closed to_seven (pos 5) commits session transaction on_feat (Forwarding (3 ∷ [])) ≡ Err 1213
unfolding is_same_state is_same_database
moved_on = refl

-- ---- DOLT_CONFLICTS_RESOLVE

theirs_taken : resolve (record { side = side.Theirs; tables = tables.All }) conflicted ≡ Ok (holding (row 1 8 1 ∷ []))
theirs_taken = refl

ours_kept : resolve (record { side = side.Ours; tables = tables.All }) conflicted ≡ Ok (holding (row 1 9 1 ∷ []))
ours_kept = refl

not_resolved : resolve (record { side = side.Ours; tables = tables.Named (codes "u" ∷ []) }) conflicted ≡ Err 1146
not_resolved = refl

abbrev null_there : Conflict
null_there = record conflict { theirs = Some (cell.Int (pos 1) ∷ cell.Null ∷ cell.Int (pos 1) ∷ []) }

null_taken : resolve (record { side = side.Theirs; tables = tables.All })
    (record { name = codes "t"; table = record { schema = schema; rows = row 1 9 1 ∷ []; conflicts = null_there ∷ []; violations = [] } } ∷ []) ≡ Err 1048
null_taken = refl

-- ---- system tables

-- the table is staged and dropped from the working database
shown_status : (status dirty).rows ≡ (cell.Text (codes "t") ∷ cell.Bool false ∷ cell.Text (codes "deleted") ∷ []) ∷ []
unfolding is_same_database
shown_status = refl

-- the head's two ancestors, the later one first
shown_log : (log transaction).rows
    ≡ (cell.Text [] ∷ cell.Text (codes "a") ∷ cell.Int (pos 0) ∷ cell.Text (codes "m") ∷ [])
    ∷ (cell.Text [] ∷ cell.Text (codes "a") ∷ cell.Int (pos 0) ∷ cell.Text (codes "m") ∷ []) ∷ []
shown_log = refl

shown_conflict : (conflicts_of (record { name = codes "t"; table = record { schema = schema; rows = []; conflicts = record conflict { ours = None } ∷ []; violations = [] } })).rows
    ≡ (cell.Int (pos 1) ∷ cell.Int (pos 1) ∷ cell.Int (pos 1) ∷ cell.Null ∷ cell.Null ∷ cell.Null ∷ cell.Text (codes "removed")
    ∷ cell.Int (pos 1) ∷ cell.Int (pos 8) ∷ cell.Int (pos 1) ∷ cell.Text (codes "modified") ∷ []) ∷ []
shown_conflict = refl

-- DELETE FROM dolt_conflicts_t
entries_gone : delete_entries in_conflict (record { table = codes "dolt_conflicts_t"; filter = None })
    ≡ Some (Ok (Answers (counted 1) (record in_conflict { working = holding (row 1 9 1 ∷ []) })))
entries_gone = refl

no_entries : delete_entries in_conflict (record { table = codes "dolt_conflicts_u"; filter = None }) ≡ Some (Err 1146)
no_entries = refl

-- ---- runs of two sessions on `main`

abbrev delete_all : Command
delete_all = Data (Change (write.Delete (record { table = codes "t"; filter = None })))

abbrev drop_table : Command
drop_table = Data (Change (write.Drop (record { if_exists = false; table = codes "t" })))

abbrev none_short : Shortages
none_short place statement = None

abbrev second_starts_short : Shortages
second_starts_short place statement = if place == 1 then Some AfterStart else None

abbrev opened : Shortages → List Command → List Command → State
opened answers a b = record {
  shared = record { branches = record { name = codes "main"; state = on_main } ∷ []; commits = commits; places = codes "main" ∷ codes "main" ∷ [] };
  runners = advance (answers 0) a [] (new_session 0 (codes "a")) ∷ advance (answers 1) b [] (new_session 1 (codes "b")) ∷ [];
}

abbrev replies_of : State → List (List Reply)
replies_of state = map (λ (runner : Runner). runner.replies) state.runners

abbrev at : ℕ → ℕ → Moment
at place number = record { session = place; statement = number }

-- a's decision falls while b is in its transaction, and b drops the table that a emptied
retried : option_map replies_of (run_along to_seven (pos 0) none_short (at 1 1 ∷ at 0 1 ∷ at 0 1 ∷ at 1 3 ∷ [])
    (opened none_short (delete_all ∷ []) (Begin ∷ drop_table ∷ CommitAll ∷ [])))
    ≡ Some ((counted 1 ∷ []) ∷ (done ∷ done ∷ refused 1213 ∷ []) ∷ [])
unfolding worked write_effect decide is_same_state is_same_database root3
retried = refl

-- both emptied it
agreed : option_map replies_of (run_along to_seven (pos 0) none_short (at 1 1 ∷ at 0 1 ∷ at 0 1 ∷ at 1 3 ∷ [])
    (opened none_short (delete_all ∷ []) (Begin ∷ delete_all ∷ CommitAll ∷ [])))
    ≡ Some ((counted 1 ∷ []) ∷ (done ∷ counted 1 ∷ done ∷ []) ∷ [])
unfolding worked write_effect decide recorded is_same_state is_same_database root3
agreed = refl

-- an order that is one moment short
too_short : option_map replies_of (run_along to_seven (pos 0) none_short (at 0 1 ∷ []) (opened none_short (delete_all ∷ []) [])) ≡ None
unfolding worked write_effect is_same_state is_same_database
too_short = refl

-- no memory after the start: the start is in the order, and nothing changed
start_alone : option_map replies_of (run_along to_seven (pos 0) second_starts_short (at 1 1 ∷ []) (opened second_starts_short (Rollback ∷ []) (delete_all ∷ [])))
    ≡ Some ((done ∷ []) ∷ (refused 2 ∷ []) ∷ [])
start_alone = refl
