-- What a decision makes of a branch is sound.
use Rattle.std.proofs.Common.{◌≡◌, refl, ap, ◌∙◌, subst, ℕ, ℤ, true, false, cond, not, ◌&&◌, ◌||◌, List, [], ◌∷◌, None, Some, Ok, Err}
use Rattle.std.specs.Prelude.{IfOk}
use Rattle.std.specs.Option.{option_to_list}
use Rattle.std.specs.Cmp.Lexicographic.{bytes_decides}
use Rattle.std.proofs.lemmas.Bool.{or_left}
use Rattle.schema_model.specs.Limits.{is_database_within_limits}
use Rattle.schema_model.specs.PlainCommits.{has_address, is_known}
use Rattle.schema_model.specs.PlainTables.{PlainDatabase}
use Rattle.schema_model.specs.Sameness.{SamenessIsEquality}
use Rattle.schema_merge.specs.RootMerge.{root3}
use Rattle.script_text.specs.declared.replies.Reply.{Reply}
use Rattle.expr_eval.specs.Binding.{Outcome, and_then}
use Rattle.plain_sql.specs.Lists.{unless}
use Rattle.plain_sessions.specs.CommitRule.{both_merged, candidate, decide, is_in_conflict, is_in_violation, is_unsettled, judged, merged, recorded, without_conflicts}
use Rattle.plain_sessions.specs.Merging.{Committing, Ending, Forwarding, Joining}
use Rattle.plain_sessions.specs.Moments.{Change, closed, commit_of, committed_as, forwarded, merged_as, ruled, unless_moved, without_commit}
use Rattle.plain_sessions.specs.Records.{BranchState, Shared, commit_on, is_same_state, state_of}
use Rattle.plain_sessions.specs.Sessions.{Session, Transaction, Variables, started_at}
use Rattle.keep_laws.specs.StateLaws.{ChangesKeep, IsKeptChange, IsKeptEnding, IsKeptTransaction, SharedKeep, WorkKeeps}
use Rattle.check_laws.specs.Meant.{IsMeantChange, IsMeantEnding, IsMeantTransaction}
use Rattle.check_laws.proofs.Changing.{changes_keep}
use Rattle.check_laws.proofs.Grown.{known_among}
use Rattle.check_laws.proofs.Heads.{IsLedEnding}
use Rattle.check_laws.proofs.Outcomes.{follow, then_ok, unless_ok}
use Rattle.check_laws.proofs.Sharing.{found_state, shared_keeps}
use Rattle.check_laws.proofs.Sound.{HasHead, IsLedChange, IsSoundChange, IsSoundSession, IsSoundShared, IsSoundTransaction}

-- the laws of the crates below
pub record Laws : Type 0 where
  pub work : WorkKeeps
  pub changes : ChangesKeep
  pub shared : SharedKeep
  pub same : SamenessIsEquality

-- ---- decisions

first_has : (k : List ℕ) (more : List (List ℕ)) → has_address (k ∷ more) k ≡ true
first_has k more = or_left _ _ ((bytes_decides k k).1 refl)

-- a decision's head is the one that was found, or the transaction's own
decided_led : (P : List ℕ → Type 0) (start present own : BranchState) (variables : Variables) → P present.head → P own.head → IfOk (decide start present own variables) (λ (state : BranchState). P state.head)
unfolding decide
decided_led P start present own variables p o =
    then_ok Q (candidate start present own) (judged variables) (λ state e.
    let second : Outcome BranchState = unless (is_in_violation state && not variables.force) 9003 (Ok state) in
    unless_ok Q (is_in_conflict state && not variables.allow && not variables.force) 9002 second (λ first.
    unless_ok Q (is_in_violation state && not variables.force) 9003 (Ok state) (λ clean.
    subst (λ (r : Outcome BranchState). IfOk r Q) e candidates)))
  where
    Q : BranchState → Type 0
    Q state = P state.head

    by_merge : IfOk (merged start present own) Q
    by_merge =
        let by_staged : PlainDatabase → PlainDatabase → Outcome BranchState = λ working staged. both_merged present working staged in
        let by_working : PlainDatabase → Outcome BranchState = λ working. and_then (without_conflicts (root3 start.staged present.staged own.staged)) (by_staged working) in
        unless_ok Q (is_unsettled present || is_unsettled start || is_unsettled own) 1213 (and_then (without_conflicts (root3 start.working present.working own.working)) by_working) (λ settled.
        then_ok Q (without_conflicts (root3 start.working present.working own.working)) by_working (λ working w.
        then_ok Q (without_conflicts (root3 start.staged present.staged own.staged)) (by_staged working) (λ staged g.
        unless_ok Q (not (is_database_within_limits working && is_database_within_limits staged)) 9010 (Ok (record { head = present.head; working = recorded working; staged = staged; merging = None })) (λ small. p))))

    candidates : IfOk (candidate start present own) Q
    candidates = let more = by_merge in elim (is_same_state present start) as (λ b. IfOk (cond b (Ok own) (merged start present own)) Q) [
      | true ↦ o
      | false ↦ more
    ]

module _ (laws : Laws) (address : List ℕ → List ℕ) (epoch : ℤ) (shared : Shared) (sound : IsSoundShared epoch shared) (session : Session) (is : IsSoundSession shared.commits session)
    (t : Transaction) (at : IsSoundTransaction shared.commits t) (present : BranchState) (found : state_of shared.branches session.branch ≡ Some present) where
  abbrev here_kept : IsKeptTransaction (started_at shared present)
  here_kept = laws.shared.starts shared session.branch present sound.kept found

  abbrev here_meant : IsMeantTransaction (started_at shared present)
  here_meant = shared_keeps.starts shared session.branch present sound.meant found

  abbrev here_known : is_known shared.commits present.head ≡ true
  here_known = found_state (HasHead shared.commits) shared.branches session.branch present sound.heads found

  own_known : is_known shared.commits t.own.head ≡ true
  own_known = known_among t.commits shared.commits at.among t.own.head at.own

  abbrev IsLedBy : Change → Type 0
  IsLedBy change = IsLedChange address shared.commits change.made change.becomes.head

  change_of : (o : Outcome Change) → IfOk o (λ (change : Change). IsKeptChange shared.commits epoch change) → IfOk o IsMeantChange → IfOk o IsLedBy → IfOk o (IsSoundChange address epoch shared.commits)
  change_of (Ok change) k m l = record { kept = k; meant = m; led = l }
  change_of (Err number) k m l = tt

  pub ruled_sound : (reply : Reply) → IfOk (ruled session t present reply) (IsSoundChange address epoch shared.commits)
  ruled_sound reply = change_of (ruled session t present reply)
      (laws.changes.rules shared.commits epoch session t present reply at.kept here_kept.start)
      ((changes_keep laws.same).rules session t present reply at.kept here_kept.start at.meant here_meant.start)
      (follow (HasHead shared.commits) IsLedBy (decide t.start present t.own session.variables) (λ state. Ok (without_commit reply state))
      (decided_led (λ head. is_known shared.commits head ≡ true) t.start present t.own session.variables here_known own_known) (λ state known. known))

  unmoved_led : (made : Change) → IsLedBy made → IfOk (unless_moved t present made) IsLedBy
  unmoved_led made led = unless_ok IsLedBy (not (is_same_state present t.start)) 1213 (Ok made) (λ same. led)

  closed_led : (ending : Ending) → IsLedEnding t.commits t.own.head ending → IfOk (closed address epoch shared.commits session t present ending) IsLedBy
  closed_led (Committing own message) led =
      let own_there : is_known shared.commits own.head ≡ true = ap (is_known shared.commits) led.0 ∙ own_known in
      follow (HasHead shared.commits) IsLedBy (decide t.start present own session.variables)
      (λ state. Ok (committed_as address (commit_of epoch shared.commits session present message state) state))
      (decided_led (λ head. is_known shared.commits head ≡ true) t.start present own session.variables here_known own_there)
      (λ state known. record {
        is = refl;
        grown = record { parent = present.head; is = first_has present.head (option_to_list state.merging); there = here_known };
        committer = is.name;
        message = led.1;
      })
  closed_led (Forwarding other) led = unmoved_led (forwarded shared.commits other) (known_among t.commits shared.commits at.among other led)
  closed_led (Joining database other message) led =
      unmoved_led (merged_as address (commit_on shared.commits epoch session.name database (t.own.head ∷ other ∷ []) message)) (record {
        is = refl;
        grown = record { parent = t.own.head; is = first_has t.own.head (other ∷ []); there = own_known };
        committer = is.name;
        message = led;
      })

  pub closed_sound : (ending : Ending) → IsKeptEnding ending → IsMeantEnding ending → IsLedEnding t.commits t.own.head ending
      → IfOk (closed address epoch shared.commits session t present ending) (IsSoundChange address epoch shared.commits)
  closed_sound ending k m led = let kept = sound.kept in let meant = sound.meant in change_of (closed address epoch shared.commits session t present ending)
      (laws.changes.closings address epoch shared.commits session t present ending kept.commits at.kept here_kept.start k)
      ((changes_keep laws.same).closings address epoch shared.commits session t present ending at.kept here_kept.start k meant.commits at.meant here_meant.start m)
      (closed_led ending led)
