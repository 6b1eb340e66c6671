-- Staging, commits and branches: DOLT_ADD, DOLT_RESET, DOLT_COMMIT, DOLT_BRANCH, DOLT_CHECKOUT.
use Rattle.std.specs.Prelude.{ℕ, Bool, false, ◌&&◌, ◌||◌, not, nat_le, nat_lt, is_some, if◌then◌else◌, List, [], ◌∷◌, ◌++◌, map, fold, length, set, unwrap_or, codes, Option, None, Some, Ok, bytes_eq}
use Rattle.std.specs.List.{find, list_any}
use Rattle.std.specs.Option.{option_map_or}
use Rattle.std.specs.Ordering.{nat_cmp}
use Rattle.std.specs.Cmp.Lexicographic.{slice_cmp}
use Rattle.std.specs.declared.cmp.Ordering.{Ordering}
use Rattle.tuple_codec.specs.AddressTexts.{address_bytes, address_text}
use Rattle.schema_model.specs.Limits.{most_branches, most_tables}
use Rattle.schema_model.specs.PlainCommits.{Commits, is_known}
use Rattle.schema_model.specs.PlainTables.{NamedTable, PlainDatabase, PlainTable}
use Rattle.schema_model.specs.Sameness.{is_same_database}
use Rattle.sql_procedures.specs.declared.requests.BranchRequest.{BranchRequest}
use Rattle.sql_procedures.specs.declared.requests.BranchRequest.TheVariants as branch
use Rattle.sql_procedures.specs.declared.requests.CheckoutRequest.{CheckoutRequest}
use Rattle.sql_procedures.specs.declared.requests.CheckoutRequest.TheVariants as checkout
use Rattle.sql_procedures.specs.declared.requests.CommitRequest.{CommitRequest}
use Rattle.sql_procedures.specs.declared.requests.NewBranch.{NewBranch}
use Rattle.sql_procedures.specs.declared.requests.Reset.{Reset}
use Rattle.sql_procedures.specs.declared.requests.Reset.TheVariants as reset
use Rattle.sql_procedures.specs.declared.requests.Staging.{Staging}
use Rattle.sql_procedures.specs.declared.requests.Staging.TheVariants as staging
use Rattle.sql_procedures.specs.declared.requests.Tables.{Tables}
use Rattle.sql_procedures.specs.declared.requests.Tables.TheVariants as tables
use Rattle.expr_eval.specs.Binding.{Outcome, and_then}
use Rattle.plain_sql.specs.Lists.{each, in_order, or_refuse, unless}
use Rattle.plain_writes.specs.Violations.{table_in}
use Rattle.plain_schemas.specs.Effects.{without_table}
use Rattle.plain_sessions.specs.Records.{BranchState, Shared, clean_at, root_of, state_of, with_branch, without_branch}
use Rattle.plain_sessions.specs.Sessions.{Head, Session, heads_in}
use Rattle.script_text.specs.declared.replies.Reply.{Reply}
use Rattle.plain_sessions.specs.Replies.{Field, number_field, one_row, text_field}
use Rattle.plain_sessions.specs.CommitRule.{has_conflicts, has_violations, is_none}

abbrev pub status : Field
status = number_field (codes "status") 0

-- ---- tables from one database into another

abbrev pub table_cmp : NamedTable → NamedTable → Ordering
table_cmp a b = slice_cmp nat_cmp a.name b.name

abbrev pub put_table : List ℕ → Option PlainTable → PlainDatabase → PlainDatabase
put_table name None database = without_table name database
put_table name (Some table) database = in_order table_cmp (record { name = name; table = table } ∷ without_table name database)

-- takes the table of that name, or its absence
abbrev pub taking : PlainDatabase → PlainDatabase → List ℕ → PlainDatabase
taking from into name = put_table name (table_in from name) into

abbrev pub taking_all : PlainDatabase → PlainDatabase → List (List ℕ) → PlainDatabase
taking_all from into names = fold (taking from) into names

abbrev pub is_in : PlainDatabase → List ℕ → Bool
is_in database name = is_some (table_in database name)

abbrev pub is_in_either : PlainDatabase → PlainDatabase → List ℕ → Bool
is_in_either a b name = is_in a name || is_in b name

-- too many tables come last
abbrev pub staged_as : BranchState → PlainDatabase → Outcome BranchState
staged_as own staged = unless (nat_lt most_tables (length staged)) 9010 (Ok (record own { staged = staged }))

-- ---- DOLT_ADD

abbrev pub is_open_table : PlainTable → Bool
is_open_table table = not (is_none table.conflicts) || not (is_none table.violations)

-- with conflicts or violations
abbrev pub is_open : PlainDatabase → Bool
is_open database = has_conflicts database || has_violations database

-- a table in neither database; one with conflicts or violations
abbrev pub may_stage : BranchState → List ℕ → Outcome (List ℕ)
may_stage own name =
    unless (not (is_in_either own.working own.staged name)) 1146 (
    unless (option_map_or is_open_table (table_in own.working name) false) 9011 (Ok name))

-- staged takes the working tables, or their absence
abbrev pub add : Tables → BranchState → Outcome BranchState
add tables.All own = unless (is_open own.working) 9011 (staged_as own own.working)
add (tables.Named names) own = and_then (each (may_stage own) names) (λ named. staged_as own (taking_all own.working own.staged named))

-- ---- DOLT_RESET

abbrev pub may_reset : PlainDatabase → BranchState → List ℕ → Outcome (List ℕ)
may_reset root own name = unless (not (is_in_either root own.staged name)) 1146 (Ok name)

-- staged takes the head's tables; `--hard` gives both databases up, and the merge with them
abbrev pub reset_to : PlainDatabase → Reset → BranchState → Outcome BranchState
reset_to root reset.Hard own = Ok (clean_at own.head root)
reset_to root (reset.Tables tables.All) own = Ok (record own { staged = root })
reset_to root (reset.Tables (tables.Named names)) own =
    and_then (each (may_reset root own) names) (λ named. staged_as own (taking_all root own.staged named))

-- ---- DOLT_COMMIT

abbrev pub names_in : PlainDatabase → List (List ℕ)
names_in database = map (λ named. named.name) database

-- `-A` stages all tables, `-a` those that staged or the head names
abbrev pub staged_first : PlainDatabase → Staging → BranchState → PlainDatabase
staged_first root staging.AsIs own = own.staged
staged_first root staging.Known own = taking_all own.working own.staged (names_in own.staged ++ names_in root)
staged_first root staging.All own = own.working

abbrev pub says_something : PlainDatabase → CommitRequest → BranchState → Bool
says_something root request own = not (is_same_database own.staged root) || is_some own.merging || request.allow_empty

-- the state that the decision is on; 9011 and 9007 are judged before it
abbrev pub to_commit : PlainDatabase → CommitRequest → BranchState → Outcome BranchState
to_commit root request own =
    unless (is_open own.working) 9011 (
    let staged = record own { staged = staged_first root request.staging own } in
    unless (not (says_something root request staged)) 9007 (Ok staged))

-- ---- names

-- an address's text, where a commit has that address
abbrev pub commit_named : Commits → List ℕ → Option (List ℕ)
commit_named commits name =
    let k = address_bytes name in if bytes_eq (address_text k) name && is_known commits k then Some k else None

abbrev pub or_commit : Commits → List ℕ → Option Head → Option (List ℕ)
or_commit commits name (Some head) = Some head.commit
or_commit commits name None = commit_named commits name

-- a name is first a branch's, then a commit's
abbrev pub resolved : List Head → Commits → List ℕ → Option (List ℕ)
resolved heads commits name = or_commit commits name (find (λ head. bytes_eq head.name name) heads)

-- ---- DOLT_BRANCH, at its moment

-- the point's commit; without one, the head of the session's branch at that moment
abbrev pub point_in : Shared → Session → NewBranch → Option (List ℕ)
point_in shared session request =
    resolved (heads_in shared.branches) shared.commits (unwrap_or request.point session.branch)

abbrev pub is_branch_there : Shared → List ℕ → Bool
is_branch_there shared name = is_some (state_of shared.branches name)

-- a branch made at a commit, with nothing changed on it
abbrev pub made_at : Shared → List ℕ → List ℕ → Outcome Shared
made_at shared name point =
    unless (is_branch_there shared name) 9005 (
    unless (nat_le most_branches (length shared.branches)) 9010 (
    Ok (record shared { branches = with_branch name (clean_at point (root_of shared.commits point)) shared.branches })))

abbrev pub create_branch : Shared → Session → NewBranch → Outcome Shared
create_branch shared session request = and_then (or_refuse 9004 (point_in shared session request)) (made_at shared request.name)

-- a session has it checked out
abbrev pub is_checked_out : Shared → List ℕ → Bool
is_checked_out shared name = list_any (bytes_eq name) shared.places

abbrev pub delete_branch : Shared → List ℕ → Outcome Shared
delete_branch shared name =
    unless (not (is_branch_there shared name)) 9004 (
    unless (is_checked_out shared name) 9014 (
    Ok (record shared { branches = without_branch name shared.branches })))

abbrev pub branch_step : Shared → Session → BranchRequest → Outcome Shared
branch_step shared session (branch.Create request) = create_branch shared session request
branch_step shared session (branch.Delete name) = delete_branch shared name

-- ---- DOLT_CHECKOUT, at its moment

abbrev pub placed_on : Session → List ℕ → Shared → Shared
placed_on session name shared = record shared { places = set shared.places session.number name }

abbrev pub checkout_step : Shared → Session → CheckoutRequest → Outcome Shared
checkout_step shared session (checkout.Existing name) =
    unless (not (is_branch_there shared name)) 9004 (Ok (placed_on session name shared))
checkout_step shared session (checkout.New request) =
    and_then (create_branch shared session request) (λ made. Ok (placed_on session request.name made))

abbrev pub checkout_name : CheckoutRequest → List ℕ
checkout_name (checkout.Existing name) = name
checkout_name (checkout.New request) = request.name

abbrev pub switched_to : List ℕ → Reply
switched_to name = one_row (status ∷ text_field (codes "message") (codes "Switched to branch '" ++ name ++ codes "'") ∷ [])

-- on that branch, outside any transaction
abbrev pub moved_to : List ℕ → Session → Session
moved_to name session = record session { branch = name; transaction = None }
