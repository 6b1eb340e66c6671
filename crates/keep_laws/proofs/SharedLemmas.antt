-- The shared state: its beginning, its changes, and steps on branches.
use Rattle.std.proofs.Common.{◌≡◌, ◌∙◌, refl, sym, ap, ℕ, ℤ, cond, not, nat_le, List, [], ◌∷◌, length, Option, None, Some, Ok, bytes_eq}
use Rattle.std.specs.List.{AllByRecursion, find}
use Rattle.std.specs.Option.{option_map}
use Rattle.schema_model.specs.Limits.{most_branches}
use Rattle.schema_model.specs.PlainCommits.{Commits, PlainCommit, commit_address, with_commit}
use Rattle.sql_procedures.specs.declared.requests.BranchRequest.{BranchRequest}
use Rattle.sql_procedures.specs.declared.requests.BranchRequest.TheVariants as branch
use Rattle.sql_procedures.specs.declared.requests.CheckoutRequest.{CheckoutRequest}
use Rattle.sql_procedures.specs.declared.requests.CheckoutRequest.TheVariants as checkout
use Rattle.sql_procedures.specs.declared.requests.NewBranch.{NewBranch}
use Rattle.expr_eval.specs.Binding.{Outcome}
use Rattle.plain_sql.specs.Lists.{or_refuse, unless}
use Rattle.plain_sessions.specs.Branching.{branch_step, placed_on, checkout_step, create_branch, is_branch_there, is_checked_out, made_at, point_in}
use Rattle.plain_sessions.specs.Moments.{Change, changed_by, commits_with, with_change}
use Rattle.plain_sessions.specs.Records.{Branch, BranchState, Shared, added_at, branch_cmp, clean_at, first_commit, is_branch, is_same_commit, no_commits, root_of, state_of, with_branch, without_branch}
use Rattle.plain_sessions.specs.Sessions.{Session}
use Rattle.keep_laws.proofs.ListLemmas.{filter_have}
use Rattle.plain_writes.specs.WriteLaws.{IsKept}
use Rattle.plain_writes.proofs.RowOrderLemmas.{two}
use Rattle.plain_writes.proofs.OutcomeLemmas.{then_so, unless_so}
use Rattle.keep_laws.specs.StateLaws.{AreKeptCommits, IsKeptChange, IsKeptCommitPerhaps, IsKeptShared, IsKeptState, SharedKeep}
use Rattle.keep_laws.proofs.PutLemmas.{in_order_have}
use Rattle.keep_laws.proofs.WorkLemmas.{clean_kept, empty_kept, root_kept}
use Rattle.keep_laws.proofs.TestLemmas.{if_ok, ok_has, some_ok}

-- ---- branches

abbrev IsKeptBranch : Branch → Type 0
IsKeptBranch branch = IsKeptState branch.state

abbrev AreKeptBranches : List Branch → Type 0
AreKeptBranches branches = AllByRecursion IsKeptBranch branches

put_kept : (name : List ℕ) (state : BranchState) (branches : List Branch) → IsKeptState state → AreKeptBranches branches → AreKeptBranches (with_branch name state branches)
put_kept name state branches s b =
    in_order_have branch_cmp IsKeptBranch (record { name = name; state = state } ∷ without_branch name branches) (s, filter_have (λ (one : Branch). not (is_branch name one)) IsKeptBranch branches b)

found_kept : (branches : List Branch) (name : List ℕ) (state : BranchState) → AreKeptBranches branches → state_of branches name ≡ Some state → IsKeptState state
found_kept [] name state b e = cc
found_kept (one ∷ branches) name state b e = two (is_branch name one)
    (λ t. some_ok IsKeptState one.state state b.0 (sym (ap (λ c. option_map (λ (branch : Branch). branch.state) (cond c (Some one) (find (is_branch name) branches))) t) ∙ e))
    (λ t. found_kept branches name state b.1 (sym (ap (λ c. option_map (λ (branch : Branch). branch.state) (cond c (Some one) (find (is_branch name) branches))) t) ∙ e))

-- ---- commits

more_kept : (k : List ℕ) (commit : PlainCommit) (commits : Commits) → IsKept commit.database → AreKeptCommits commits → AreKeptCommits (with_commit k commit commits)
more_kept k commit commits kept are at one e = two (bytes_eq at k)
    (λ t. some_ok (λ (c : PlainCommit). IsKept c.database) commit one kept (sym (ap (λ b. cond b (Some commit) (commits at)) t) ∙ e))
    (λ t. are at one (sym (ap (λ b. cond b (Some commit) (commits at)) t) ∙ e))

added_kept : (k : List ℕ) (commit : PlainCommit) (there : Option PlainCommit) (commits left : Commits) → IsKept commit.database → AreKeptCommits commits → added_at k commit there commits ≡ Some left
    → AreKeptCommits left
added_kept k commit None commits left kept are e = some_ok AreKeptCommits (with_commit k commit commits) left (more_kept k commit commits kept are) e
added_kept k commit (Some other) commits left kept are e = two (is_same_commit commit other)
    (λ t. some_ok AreKeptCommits commits left are (sym (ap (λ b. cond b (Some commits) None) t) ∙ e))
    (λ t. let none : ◌≡◌ {A = Option Commits} None (Some left) = sym (ap (λ b. cond b (Some commits) None) t) ∙ e in absurd (cc))

with_kept : (address : List ℕ → List ℕ) (epoch : ℤ) (made : Option PlainCommit) (commits left : Commits) → IsKeptCommitPerhaps commits epoch made → AreKeptCommits commits
    → commits_with address made commits ≡ Some left → AreKeptCommits left
with_kept address epoch None commits left kept are e = some_ok AreKeptCommits commits left are e
with_kept address epoch (Some commit) commits left kept are e =
    let k = commit_address address commit in added_kept k commit (commits k) commits left kept.database are e

-- ---- changes

mapped_some : (branch : List ℕ) (change : Change) (shared : Shared) (commits : Option Commits) (left : Shared) → option_map (with_change branch change shared) commits ≡ Some left
    → (made : Commits) × (commits ≡ Some made) × (◌≡◌ {A = Option Shared} (Some (with_change branch change shared made)) (Some left))
mapped_some branch change shared (Some made) left e = (made, refl, e)
mapped_some branch change shared None left e = absurd (cc)

changed_kept : (address : List ℕ → List ℕ) (epoch : ℤ) (shared left : Shared) (session : Session) (change : Change) → IsKeptShared shared → IsKeptChange shared.commits epoch change
    → changed_by address shared session change ≡ Some left → IsKeptShared left
changed_kept address epoch shared left session change kept c e =
    let made = mapped_some session.branch change shared (commits_with address change.made shared.commits) left e in
    some_ok IsKeptShared (with_change session.branch change shared made.0) left (record {
      branches = put_kept session.branch change.becomes shared.branches c.becomes kept.branches;
      commits = with_kept address epoch change.made shared.commits made.0 c.made kept.commits made.1;
    }) made.2

-- ---- steps on branches

created_kept : (shared : Shared) (session : Session) (request : NewBranch) (left : Shared) → IsKeptShared shared → create_branch shared session request ≡ Ok left → IsKeptShared left
created_kept shared session request left kept e =
    let point = then_so (or_refuse 9004 (point_in shared session request)) (made_at shared request.name) left e in
    let made : Shared = record shared { branches = with_branch request.name (clean_at point.0 (root_of shared.commits point.0)) shared.branches } in
    let whole : Outcome Shared = Ok made in
    let new = unless_so (is_branch_there shared request.name) 9005 (unless (nat_le most_branches (length shared.branches)) 9010 whole) left point.2 in
    let few = unless_so (nat_le most_branches (length shared.branches)) 9010 whole left new.1 in
    ok_has IsKeptShared made left (record {
      branches = put_kept request.name (clean_at point.0 (root_of shared.commits point.0)) shared.branches (clean_kept point.0 (root_of shared.commits point.0) (root_kept shared.commits point.0 kept.commits)) kept.branches;
      commits = kept.commits;
    }) few.1

branch_kept : (shared : Shared) (session : Session) (request : BranchRequest) (left : Shared) → IsKeptShared shared → branch_step shared session request ≡ Ok left → IsKeptShared left
branch_kept shared session (branch.Create request) left kept e = created_kept shared session request left kept e
branch_kept shared session (branch.Delete name) left kept e =
    let made : Shared = record shared { branches = without_branch name shared.branches } in
    let whole : Outcome Shared = Ok made in
    let there = unless_so (not (is_branch_there shared name)) 9004 (unless (is_checked_out shared name) 9014 whole) left e in
    let free = unless_so (is_checked_out shared name) 9014 whole left there.1 in
    ok_has IsKeptShared made left (record { branches = filter_have (λ (one : Branch). not (is_branch name one)) IsKeptBranch shared.branches kept.branches; commits = kept.commits }) free.1

checkout_kept : (shared : Shared) (session : Session) (request : CheckoutRequest) (left : Shared) → IsKeptShared shared → checkout_step shared session request ≡ Ok left → IsKeptShared left
checkout_kept shared session (checkout.Existing name) left kept e =
    let whole : Outcome Shared = Ok (placed_on session name shared) in
    let there = unless_so (not (is_branch_there shared name)) 9004 whole left e in
    ok_has IsKeptShared (placed_on session name shared) left (record { branches = kept.branches; commits = kept.commits }) there.1
checkout_kept shared session (checkout.New request) left kept e =
    let made = then_so (create_branch shared session request) (λ made. Ok (placed_on session request.name made)) left e in
    let new = created_kept shared session request made.0 kept made.1 in
    ok_has IsKeptShared (placed_on session request.name made.0) left (record { branches = new.branches; commits = new.commits }) made.2

-- ---- all

no_commits_kept : AreKeptCommits no_commits
no_commits_kept k commit e = cc

pub shared_keep : SharedKeep
shared_keep = record {
  first = λ address epoch names. let k = commit_address address (first_commit epoch) in record {
    branches = (clean_kept k [] empty_kept, tt);
    commits = more_kept k (first_commit epoch) no_commits empty_kept no_commits_kept;
  };
  starts = λ shared name state kept e. let found = found_kept shared.branches name state kept.branches e in record { start = found; own = found; commits = kept.commits };
  changes = λ address epoch shared left session change kept c e. changed_kept address epoch shared left session change kept c e;
  branchings = λ shared session request kept. if_ok IsKeptShared (branch_step shared session request) (λ left e. branch_kept shared session request left kept e);
  checkouts = λ shared session request kept. if_ok IsKeptShared (checkout_step shared session request) (λ left e. checkout_kept shared session request left kept e);
}
