-- The shared state: its beginning, its changes, and steps on branches.
use Rattle.std.proofs.Common.{◌≡◌, ◌∙◌, refl, sym, ap, ℕ, cond, not, nat_le, List, [], ◌∷◌, length, Option, None, Some, Ok}
use Rattle.std.specs.Prelude.{IfOk}
use Rattle.std.specs.List.{AllByRecursion, find}
use Rattle.std.specs.Option.{option_map}
use Rattle.schema_model.specs.Limits.{most_branches}
use Rattle.schema_model.specs.PlainCommits.{Commits, PlainCommit, commit_address}
use Rattle.sql_procedures.specs.declared.requests.BranchRequest.{BranchRequest}
use Rattle.sql_procedures.specs.declared.requests.BranchRequest.TheVariants as branch
use Rattle.sql_procedures.specs.declared.requests.CheckoutRequest.{CheckoutRequest}
use Rattle.sql_procedures.specs.declared.requests.CheckoutRequest.TheVariants as checkout
use Rattle.sql_procedures.specs.declared.requests.NewBranch.{NewBranch}
use Rattle.expr_eval.specs.Binding.{Outcome}
use Rattle.plain_sql.specs.Lists.{or_refuse, unless}
use Rattle.plain_sessions.specs.Branching.{branch_step, checkout_step, create_branch, is_branch_there, is_checked_out, made_at, placed_on, point_in}
use Rattle.plain_sessions.specs.Moments.{Change, changed_by, commits_with, with_change}
use Rattle.plain_sessions.specs.Records.{Branch, BranchState, Shared, branch_cmp, clean_at, first_commit, is_branch, no_commits, root_of, state_of, with_branch, without_branch}
use Rattle.plain_sessions.specs.Sessions.{Session}
use Rattle.plain_writes.proofs.RowOrderLemmas.{two}
use Rattle.keep_laws.proofs.ListLemmas.{filter_have}
use Rattle.keep_laws.proofs.PutLemmas.{in_order_have}
use Rattle.keep_laws.proofs.TestLemmas.{some_ok}
use Rattle.check_laws.specs.Meant.{AreMeant, AreMeantCommits, IsMeantChange, IsMeantShared, IsMeantState}
use Rattle.check_laws.specs.Moments.{SharedKeepsChecks}
use Rattle.check_laws.proofs.Grown.{made_each, with_each}
use Rattle.check_laws.proofs.MergeCalls.{root_of_meant}
use Rattle.check_laws.proofs.Outcomes.{follow, then_ok, unless_ok}

-- ---- branches

-- each branch's state has this
abbrev pub EachState : (BranchState → Type 0) → List Branch → Type 0
EachState P branches = AllByRecursion (λ (branch : Branch). P branch.state) branches

pub without_state : (P : BranchState → Type 0) (name : List ℕ) (branches : List Branch) → EachState P branches → EachState P (without_branch name branches)
without_state P name branches b = filter_have (λ (one : Branch). not (is_branch name one)) (λ (branch : Branch). P branch.state) branches b

pub put_state : (P : BranchState → Type 0) (name : List ℕ) (state : BranchState) (branches : List Branch) → P state → EachState P branches → EachState P (with_branch name state branches)
put_state P name state branches s b =
    in_order_have branch_cmp (λ (branch : Branch). P branch.state) (record { name = name; state = state } ∷ without_branch name branches) (s, without_state P name branches b)

pub found_state : (P : BranchState → Type 0) (branches : List Branch) (name : List ℕ) (state : BranchState) → EachState P branches → state_of branches name ≡ Some state → P state
found_state P [] name state b e = cc
found_state P (one ∷ branches) name state b e = two (is_branch name one)
    (λ t. some_ok P one.state state b.0 (sym (ap (λ c. option_map (λ (branch : Branch). branch.state) (cond c (Some one) (find (is_branch name) branches))) t) ∙ e))
    (λ t. found_state P branches name state b.1 (sym (ap (λ c. option_map (λ (branch : Branch). branch.state) (cond c (Some one) (find (is_branch name) branches))) t) ∙ e))

-- ---- changes

pub mapped_some : (branch : List ℕ) (change : Change) (shared : Shared) (commits : Option Commits) (left : Shared) → option_map (with_change branch change shared) commits ≡ Some left
    → (made : Commits) × (commits ≡ Some made) × (◌≡◌ {A = Option Shared} (Some (with_change branch change shared made)) (Some left))
mapped_some branch change shared (Some made) left e = (made, refl, e)
mapped_some branch change shared None left e = absurd (cc)

changed_meant : (address : List ℕ → List ℕ) (shared left : Shared) (session : Session) (change : Change) → IsMeantShared shared → IsMeantChange change → changed_by address shared session change ≡ Some left
    → IsMeantShared left
changed_meant address shared left session change meant c e =
    let made = mapped_some session.branch change shared (commits_with address change.made shared.commits) left e in
    some_ok IsMeantShared (with_change session.branch change shared made.0) left (record {
      branches = put_state IsMeantState session.branch change.becomes shared.branches c.becomes meant.branches;
      commits = made_each (λ (commit : PlainCommit). AreMeant commit.database) address change.made shared.commits made.0 c.made meant.commits made.1;
    }) made.2

-- ---- steps on branches

created_meant : (shared : Shared) (session : Session) (request : NewBranch) → IsMeantShared shared → IfOk (create_branch shared session request) IsMeantShared
created_meant shared session request meant =
    then_ok IsMeantShared (or_refuse 9004 (point_in shared session request)) (made_at shared request.name) (λ point e.
    let whole : Outcome Shared = Ok (record shared { branches = with_branch request.name (clean_at point (root_of shared.commits point)) shared.branches }) in
    let root = root_of_meant shared.commits point meant.commits in
    unless_ok IsMeantShared (is_branch_there shared request.name) 9005 (unless (nat_le most_branches (length shared.branches)) 9010 whole) (λ new.
    unless_ok IsMeantShared (nat_le most_branches (length shared.branches)) 9010 whole (λ few. record {
      branches = put_state IsMeantState request.name (clean_at point (root_of shared.commits point)) shared.branches (record { working = root; staged = root }) meant.branches;
      commits = meant.commits;
    })))

branch_meant : (shared : Shared) (session : Session) (request : BranchRequest) → IsMeantShared shared → IfOk (branch_step shared session request) IsMeantShared
branch_meant shared session (branch.Create request) meant = created_meant shared session request meant
branch_meant shared session (branch.Delete name) meant =
    let whole : Outcome Shared = Ok (record shared { branches = without_branch name shared.branches }) in
    unless_ok IsMeantShared (not (is_branch_there shared name)) 9004 (unless (is_checked_out shared name) 9014 whole) (λ there.
    unless_ok IsMeantShared (is_checked_out shared name) 9014 whole (λ free.
    record { branches = without_state IsMeantState name shared.branches meant.branches; commits = meant.commits }))

checkout_meant : (shared : Shared) (session : Session) (request : CheckoutRequest) → IsMeantShared shared → IfOk (checkout_step shared session request) IsMeantShared
checkout_meant shared session (checkout.Existing name) meant =
    unless_ok IsMeantShared (not (is_branch_there shared name)) 9004 (Ok (placed_on session name shared)) (λ there. record { branches = meant.branches; commits = meant.commits })
checkout_meant shared session (checkout.New request) meant =
    follow IsMeantShared IsMeantShared (create_branch shared session request) (λ made. Ok (placed_on session request.name made)) (created_meant shared session request meant)
    (λ made m. record { branches = m.branches; commits = m.commits })

-- ---- all

no_commits_meant : AreMeantCommits no_commits
no_commits_meant k commit e = cc

pub shared_keeps : SharedKeepsChecks
shared_keeps = record {
  first = λ address epoch names. record {
    branches = (record { working = tt; staged = tt }, tt);
    commits = with_each no_commits (commit_address address (first_commit epoch)) (first_commit epoch) (λ (commit : PlainCommit). AreMeant commit.database) tt no_commits_meant;
  };
  starts = λ shared name state meant e. let found = found_state IsMeantState shared.branches name state meant.branches e in record { start = found; own = found; commits = meant.commits };
  changes = changed_meant;
  branchings = branch_meant;
  checkouts = checkout_meant;
}
