-- What staging, resetting, committing, writing and verifying leave.
use Rattle.std.proofs.Common.{◌≡◌, refl, ℕ, true, false, not, nat_lt, List, [], ◌++◌, length, Option, None, Some, Ok, Err, nat_le}
use Rattle.std.specs.Prelude.{IfOk}
use Rattle.std.proofs.lemmas.Bool.{le-leb, ltb-false}
use Rattle.schema_model.specs.Limits.{most_tables}
use Rattle.schema_model.specs.PlainCommits.{Commits, PlainCommit}
use Rattle.schema_model.specs.PlainTables.{PlainDatabase}
use Rattle.sql_procedures.specs.declared.requests.CommitRequest.{CommitRequest}
use Rattle.sql_procedures.specs.declared.requests.Reset.{Reset}
use Rattle.sql_procedures.specs.declared.requests.Reset.TheVariants as reset
use Rattle.sql_procedures.specs.declared.requests.Staging.{Staging}
use Rattle.sql_procedures.specs.declared.requests.Staging.TheVariants as staging
use Rattle.sql_procedures.specs.declared.requests.Tables.{Tables}
use Rattle.sql_procedures.specs.declared.requests.Tables.TheVariants as tables
use Rattle.sql_procedures.specs.declared.requests.Verification.{Verification}
use Rattle.sql_procedures.specs.declared.requests.Verification.TheVariants as verification
use Rattle.expr_eval.specs.Binding.{Outcome}
use Rattle.plain_sql.specs.Lists.{each, unless}
use Rattle.plain_writes.specs.Writes.{Effect}
use Rattle.plain_sessions.specs.Branching.{add, is_open, may_reset, may_stage, names_in, reset_to, says_something, staged_as, staged_first, taking_all, to_commit}
use Rattle.plain_sessions.specs.Merging.{Worked, verified}
use Rattle.plain_sessions.specs.Records.{BranchState, clean_at, database_in, root_of}
use Rattle.plain_sessions.specs.Statements.{changed, written_by}
use Rattle.plain_writes.specs.WriteLaws.{IsKept}
use Rattle.plain_writes.proofs.OutcomeLemmas.{then_so, unless_so}
use Rattle.keep_laws.specs.StateLaws.{AreKeptCommits, IsKeptState, IsKeptWork}
use Rattle.keep_laws.proofs.KeptLemmas.{AreKept, are_kept, few_tables, is_kept, recorded_kept}
use Rattle.keep_laws.proofs.PutLemmas.{taking_few, taking_kept}
use Rattle.keep_laws.proofs.TestLemmas.{ok_has}

-- ---- commits

pub empty_kept : IsKept []
empty_kept = record { is_database = record { tables = tt; names = refl; rise = refl }; within = refl }

database_kept : (commit : Option PlainCommit) → ((one : PlainCommit) → commit ≡ Some one → IsKept one.database) → IsKept (database_in commit)
database_kept None h = empty_kept
database_kept (Some one) h = h one refl

pub root_kept : (commits : Commits) (k : List ℕ) → AreKeptCommits commits → IsKept (root_of commits k)
root_kept commits k kept = database_kept (commits k) (λ one e. kept k one e)

pub clean_kept : (head : List ℕ) (database : PlainDatabase) → IsKept database → IsKeptState (clean_at head database)
clean_kept head database kept = record { working = kept; staged = kept }

-- ---- writes

pub changed_kept : (own : BranchState) (effect : Outcome Effect) → IsKeptState own → IfOk effect (λ (made : Effect). IsKept made.database) → (w : Worked) → changed own effect ≡ Ok w → IsKeptWork w
changed_kept own (Ok made) o kept w e = ok_has IsKeptWork (written_by own made) w (record { working = kept; staged = o.staged }) e
changed_kept own (Err number) o kept w e = cc

-- ---- staging

few_so : (n : ℕ) → nat_lt most_tables n ≡ false → nat_le n most_tables ≡ true
few_so n h = le-leb n most_tables (ltb-false most_tables n h)

staged_kept : (own state : BranchState) (staged : PlainDatabase) → IsKeptState own → AreKept staged → staged_as own staged ≡ Ok state → IsKeptState state
staged_kept own state staged o kept e =
    let made : BranchState = record own { staged = staged } in
    let parts = unless_so (nat_lt most_tables (length staged)) 9010 (Ok made) state e in
    ok_has IsKeptState made state (record { working = o.working; staged = is_kept staged kept (few_so (length staged) parts.0) }) parts.1

taken_kept : (from into : PlainDatabase) (names : List (List ℕ)) → IsKept from → IsKept into → AreKept (taking_all from into names)
taken_kept from into names f i = let are = are_kept from f in taking_kept from into names are.tables (are_kept into i)

pub add_kept : (tables : Tables) (own state : BranchState) → IsKeptState own → add tables own ≡ Ok state → IsKeptState state
add_kept tables.All own state o e =
    let parts = unless_so (is_open own.working) 9011 (staged_as own own.working) state e in
    staged_kept own state own.working o (are_kept own.working o.working) parts.1
add_kept (tables.Named names) own state o e =
    let named = then_so (each (may_stage own) names) (λ named. staged_as own (taking_all own.working own.staged named)) state e in
    staged_kept own state (taking_all own.working own.staged named.0) o (taken_kept own.working own.staged named.0 o.working o.staged) named.2

pub reset_kept : (root : PlainDatabase) (asked : Reset) (own state : BranchState) → IsKept root → IsKeptState own → reset_to root asked own ≡ Ok state → IsKeptState state
reset_kept root reset.Hard own state r o e = ok_has IsKeptState (clean_at own.head root) state (clean_kept own.head root r) e
reset_kept root (reset.Tables tables.All) own state r o e =
    let made : BranchState = record own { staged = root } in ok_has IsKeptState made state (record { working = o.working; staged = r }) e
reset_kept root (reset.Tables (tables.Named names)) own state r o e =
    let named = then_so (each (may_reset root own) names) (λ named. staged_as own (taking_all root own.staged named)) state e in
    staged_kept own state (taking_all root own.staged named.0) o (taken_kept root own.staged named.0 r o.staged) named.2

-- ---- what is committed

first_kept : (root : PlainDatabase) (way : Staging) (own : BranchState) → IsKeptState own → IsKept (staged_first root way own)
first_kept root staging.AsIs own o = o.staged
first_kept root staging.Known own o =
    let are = are_kept own.working o.working in
    let names = names_in own.staged ++ names_in root in
    is_kept (taking_all own.working own.staged names) (taken_kept own.working own.staged names o.working o.staged)
    (taking_few own.working own.staged (names_in root) are.tables (are_kept own.staged o.staged) (few_tables own.working o.working))
first_kept root staging.All own o = o.working

pub to_commit_kept : (root : PlainDatabase) (request : CommitRequest) (own state : BranchState) → IsKeptState own → to_commit root request own ≡ Ok state → IsKeptState state
to_commit_kept root request own state o e =
    let made : BranchState = record own { staged = staged_first root request.staging own } in
    let whole : Outcome BranchState = Ok made in
    let open_ = unless_so (is_open own.working) 9011 (unless (not (says_something root request made)) 9007 whole) state e in
    let says = unless_so (not (says_something root request made)) 9007 whole state open_.1 in
    ok_has IsKeptState made state (record { working = o.working; staged = first_kept root request.staging own o }) says.1

-- ---- violations

pub verified_kept : (way : Verification) (database : PlainDatabase) → IsKept database → IsKept (verified way database)
verified_kept verification.Recorded database kept = recorded_kept database kept
verified_kept verification.OutputOnly database kept = kept
