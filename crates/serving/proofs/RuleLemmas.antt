-- The refusals of the commit rule tell neither want of memory nor a collision, and each has its text.
use Rattle.std.proofs.Common.{◌≡◌, refl, subst, ℕ, Bool, true, false, not, ◌&&◌, None, Ok, Err, if◌then◌else◌}
use Rattle.schema_model.specs.Limits.{is_database_within_limits}
use Rattle.schema_model.specs.PlainTables.{PlainDatabase}
use Rattle.expr_eval.specs.Binding.{Outcome, and_then}
use Rattle.schema_merge.specs.RootMerge.{MergedDatabase, SchemaConflict, root3}
use Rattle.plain_sql.specs.Lists.{unless}
use Rattle.script_text.specs.Output.{shortage}
use Rattle.plain_sessions.specs.CommitRule.{both_merged, candidate, decide, is_in_conflict, is_in_violation, is_unsettled, judged, merged, recorded, without_conflicts}
use Rattle.plain_sessions.specs.Records.{BranchState, is_same_state}
use Rattle.plain_sessions.specs.Replies.{refused}
use Rattle.plain_sessions.specs.Sessions.{Variables}
use Rattle.session_plan.specs.Showing.{is_sound_reply}
use Rattle.std.specs.Prelude.{Result, ◌||◌}

pub record IsPlain (number : ℕ) : Type 0 where
  pub short : shortage (refused number) ≡ None
  pub sound : is_sound_reply (refused number) ≡ true

abbrev IsPlainly : {A : Type 0} → Outcome A → Type 0
IsPlainly (Ok a) = Unit {0}
IsPlainly (Err number) = IsPlain number

plainly_unless : {A : Type 0} (wrong : Bool) (number : ℕ) (next : Outcome A) → IsPlain number → IsPlainly next → IsPlainly (unless wrong number next)
plainly_unless true number next plain rest = plain
plainly_unless false number next plain rest = rest

plainly_then : {A B : Type 0} (outcome : Outcome A) (f : A → Outcome B) → IsPlainly outcome → ((a : A) → IsPlainly (f a)) → IsPlainly (and_then outcome f)
plainly_then (Ok a) f plain rest = rest a
plainly_then (Err number) f plain rest = plain

plainly_conflicts : (made : Result MergedDatabase SchemaConflict) → IsPlainly (without_conflicts made)
plainly_conflicts (Ok made) = plainly_unless _ 1213 (Ok made.database) (record { short = refl; sound = refl }) tt
plainly_conflicts (Err conflict) = record { short = refl; sound = refl }

plainly_both : (present : BranchState) (working staged : PlainDatabase) → IsPlainly (both_merged present working staged)
plainly_both present working staged =
    plainly_unless (not (is_database_within_limits working && is_database_within_limits staged)) 9010
    (Ok (record { head = present.head; working = recorded working; staged = staged; merging = None })) (record { short = refl; sound = refl }) tt

plainly_merged : (start present own : BranchState) → IsPlainly (merged start present own)
plainly_merged start present own =
    let staged = root3 start.staged present.staged own.staged in
    let rest : PlainDatabase → Outcome BranchState = λ working. and_then (without_conflicts staged) (λ made. both_merged present working made) in
    let working = root3 start.working present.working own.working in
    plainly_unless (is_unsettled present || is_unsettled start || is_unsettled own) 1213 (and_then (without_conflicts working) rest) (record { short = refl; sound = refl })
    (plainly_then (without_conflicts working) rest (plainly_conflicts working) (λ made.
    plainly_then (without_conflicts staged) (both_merged present made) (plainly_conflicts staged) (plainly_both present made)))

plainly_if : {A : Type 0} (test : Bool) (a b : Outcome A) → IsPlainly a → IsPlainly b → IsPlainly (if test then a else b)
plainly_if true a b left right = left
plainly_if false a b left right = right

plainly_judged : (variables : Variables) (state : BranchState) → IsPlainly (judged variables state)
plainly_judged variables state =
    plainly_unless (is_in_conflict state && not variables.allow && not variables.force) 9002 (unless (is_in_violation state && not variables.force) 9003 (Ok state))
    (record { short = refl; sound = refl })
    (plainly_unless (is_in_violation state && not variables.force) 9003 (Ok state) (record { short = refl; sound = refl }) tt)

plainly_decided : (start present own : BranchState) (variables : Variables) → IsPlainly (decide start present own variables)
unfolding decide
plainly_decided start present own variables =
    plainly_then (candidate start present own) (judged variables)
    (plainly_if (is_same_state present start) (Ok own) (merged start present own) tt (plainly_merged start present own)) (plainly_judged variables)

pub refused_plainly : (start present own : BranchState) (variables : Variables) (number : ℕ) → decide start present own variables ≡ Err number → IsPlain number
refused_plainly start present own variables number is = subst IsPlainly is (plainly_decided start present own variables)
