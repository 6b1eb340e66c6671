-- Steps on branches leave all sound.
use Rattle.std.proofs.Common.{◌≡◌, ◌≤◌, ◌<◌, refl, sym, subst, ℕ, ℤ, true, false, not, List, length, unwrap_or, nat_le, Ok, Err, arith}
use Rattle.std.specs.Prelude.{IfOk}
use Rattle.std.proofs.lemmas.Bool.{le-leb, leb-false, leb-true}
use Rattle.schema_model.specs.Limits.{most_branches}
use Rattle.sql_procedures.specs.declared.requests.BranchRequest.{BranchRequest}
use Rattle.sql_procedures.specs.declared.requests.BranchRequest.TheVariants as branch
use Rattle.sql_procedures.specs.declared.requests.CheckoutRequest.{CheckoutRequest}
use Rattle.sql_procedures.specs.declared.requests.CheckoutRequest.TheVariants as checkout
use Rattle.sql_procedures.specs.declared.requests.NewBranch.{NewBranch}
use Rattle.expr_eval.specs.Binding.{Outcome}
use Rattle.plain_sql.specs.Lists.{or_refuse, unless}
use Rattle.plain_sessions.specs.Branching.{branch_step, checkout_step, create_branch, is_branch_there, is_checked_out, made_at, placed_on, point_in}
use Rattle.plain_sessions.specs.Records.{Branch, Shared, clean_at, is_branch, root_of, with_branch, without_branch}
use Rattle.plain_sessions.specs.Sessions.{Session, heads_in}
use Rattle.plain_sessions.specs.StateLimits.{IsFirst}
use Rattle.plain_writes.proofs.OutcomeLemmas.{found_so}
use Rattle.keep_laws.specs.StateLaws.{IsKeptShared, SharedKeep}
use Rattle.keep_laws.proofs.ListLemmas.{filter_few}
use Rattle.check_laws.specs.Meant.{IsMeantShared}
use Rattle.check_laws.proofs.Grown.{AreAmong, EachIs}
use Rattle.check_laws.proofs.Heads.{resolved_known}
use Rattle.check_laws.proofs.Outcomes.{follow, then_ok, unless_ok}
use Rattle.check_laws.proofs.Sharing.{EachState, put_state, shared_keeps, without_state}
use Rattle.check_laws.proofs.Sound.{HasHead, IsSmall, IsSoundMove, IsSoundShared, put_length, seen_known}

-- no commit more, and not too many branches, each with a head
record IsLedStep (shared left : Shared) : Type 0 where
  same : left.commits ≡ shared.commits
  few : nat_le (length left.branches) most_branches ≡ true
  heads : EachState (HasHead shared.commits) left.branches

module _ (keep : SharedKeep) (epoch : ℤ) (shared : Shared) (sound : IsSoundShared epoch shared) (session : Session) where
  made_few : (request : NewBranch) (point : List ℕ) → nat_le most_branches (length shared.branches) ≡ false
      → nat_le (length (with_branch request.name (clean_at point (root_of shared.commits point)) shared.branches)) most_branches ≡ true
  made_few request point room =
      let made = with_branch request.name (clean_at point (root_of shared.commits point)) shared.branches in
      let is = put_length request.name (clean_at point (root_of shared.commits point)) shared.branches in
      let few = filter_few (λ (branch : Branch). not (is_branch request.name branch)) shared.branches in
      let less : length shared.branches < most_branches = leb-false most_branches (length shared.branches) room in
      let now : length made ≤ most_branches = omega (arith, is, few, less) in
      le-leb (length made) most_branches now

  created_led : (request : NewBranch) → IfOk (create_branch shared session request) (IsLedStep shared)
  created_led request =
      then_ok (IsLedStep shared) (or_refuse 9004 (point_in shared session request)) (made_at shared request.name) (λ point e.
      let whole : Outcome Shared = Ok (record shared { branches = with_branch request.name (clean_at point (root_of shared.commits point)) shared.branches }) in
      let found = found_so 9004 (point_in shared session request) point e in
      let there = resolved_known (heads_in shared.branches) shared.commits (unwrap_or request.point session.branch) point (seen_known shared.commits shared.branches sound.heads) found in
      unless_ok (IsLedStep shared) (is_branch_there shared request.name) 9005 (unless (nat_le most_branches (length shared.branches)) 9010 whole) (λ new.
      unless_ok (IsLedStep shared) (nat_le most_branches (length shared.branches)) 9010 whole (λ room. record {
        same = refl;
        few = made_few request point room;
        heads = put_state (HasHead shared.commits) request.name (clean_at point (root_of shared.commits point)) shared.branches there sound.heads;
      })))

  gone_few : (name : List ℕ) → nat_le (length (without_branch name shared.branches)) most_branches ≡ true
  gone_few name =
      let few = filter_few (λ (branch : Branch). not (is_branch name branch)) shared.branches in
      let all = leb-true (length shared.branches) most_branches sound.few in
      let now : length (without_branch name shared.branches) ≤ most_branches = omega (arith, few, all) in
      le-leb (length (without_branch name shared.branches)) most_branches now

  branch_led : (request : BranchRequest) → IfOk (branch_step shared session request) (IsLedStep shared)
  branch_led (branch.Create request) = created_led request
  branch_led (branch.Delete name) =
      let whole : Outcome Shared = Ok (record shared { branches = without_branch name shared.branches }) in
      unless_ok (IsLedStep shared) (not (is_branch_there shared name)) 9004 (unless (is_checked_out shared name) 9014 whole) (λ there.
      unless_ok (IsLedStep shared) (is_checked_out shared name) 9014 whole (λ free.
      record { same = refl; few = gone_few name; heads = without_state (HasHead shared.commits) name shared.branches sound.heads }))

  checkout_led : (request : CheckoutRequest) → IfOk (checkout_step shared session request) (IsLedStep shared)
  checkout_led (checkout.Existing name) =
      unless_ok (IsLedStep shared) (not (is_branch_there shared name)) 9004 (Ok (placed_on session name shared)) (λ there. record { same = refl; few = sound.few; heads = sound.heads })
  checkout_led (checkout.New request) =
      follow (IsLedStep shared) (IsLedStep shared) (create_branch shared session request) (λ made. Ok (placed_on session request.name made)) (created_led request)
      (λ made led. record { same = led.same; few = led.few; heads = led.heads })

  step_of : (o : Outcome Shared) → IfOk o IsKeptShared → IfOk o IsMeantShared → IfOk o (IsLedStep shared) → IfOk o (IsSoundMove epoch shared)
  step_of (Ok left) k m led = record {
    shared = record {
      kept = k;
      meant = m;
      few = led.few;
      heads = subst (λ commits. EachState (HasHead commits) left.branches) (sym led.same) led.heads;
      small = subst (EachIs (IsSmall epoch)) (sym led.same) sound.small;
      first = subst (λ commits. (first : List ℕ) × IsFirst commits first) (sym led.same) sound.first;
    };
    among = subst (AreAmong shared.commits) (sym led.same) (λ k commit at. at);
  }
  step_of (Err number) k m led = tt

  pub branch_sound : (request : BranchRequest) → IfOk (branch_step shared session request) (IsSoundMove epoch shared)
  branch_sound request = step_of (branch_step shared session request) (keep.branchings shared session request sound.kept) (shared_keeps.branchings shared session request sound.meant) (branch_led request)

  pub checkout_sound : (request : CheckoutRequest) → IfOk (checkout_step shared session request) (IsSoundMove epoch shared)
  checkout_sound request = step_of (checkout_step shared session request) (keep.checkouts shared session request sound.kept) (shared_keeps.checkouts shared session request sound.meant) (checkout_led request)
