-- SET autocommit where it ends a transaction that changed something.
use Rattle.std.proofs.Common.{◌≡◌, refl, ◌∙◌, sym, ap, subst, ℕ, ℤ, Bool, true, ◌&&◌, not, List, Some, None, Ok, Err, if◌then◌else◌, bytes_eq, codes}
use Rattle.std.proofs.lemmas.Bool.{and_parts as both}
use Rattle.expr_eval.specs.Binding.{Outcome}
use Rattle.sql_ast.specs.declared.statements.Setting.{Setting}
use Rattle.script_text.specs.declared.replies.Reply.{Reply}
use Rattle.script_text.specs.declared.replies.Reply.TheVariants.{Done}
use Rattle.plain_sessions.specs.Moments.{effect_alone, ends_by_set}
use Rattle.plain_sessions.specs.Records.{BranchState, Shared}
use Rattle.plain_sessions.specs.Replies.{done}
use Rattle.plain_sessions.specs.Sessions as plain
use Rattle.plain_sessions.specs.Sessions.{Transaction, Variables, is_autocommit, is_changed, over, with_variable}
use Rattle.plain_sessions.specs.declared.commands.Command.TheVariants as command
use Rattle.session_state.specs.Changes.{Parts}
use Rattle.session_state.specs.Standing.{SessionStands}
use Rattle.session_state.specs.declared.sessions.Session.{Session}
use Rattle.serving.specs.Serving.{IsBefore}
use Rattle.serving.specs.Answering.{Answered}
use Rattle.serving.specs.Steps.{ComesTo, Decided, IsStillAt, switched_by}
use Rattle.serving.proofs.AnswerLemmas.{decided_answered, over_stands}
use Rattle.serving.proofs.MomentLemmas.{verdict_said}

module _ {D : Type 0} (address : List ℕ → List ℕ) (epoch : ℤ) (old : Session D) (parts : Parts) (p : plain.Session) (shared : Shared) (before : IsBefore address old parts p shared) (setting : Setting) where
  abbrev switched_over : plain.Session
  switched_over = with_variable setting.variable setting.on (over p)

  set_stands : is_autocommit setting.variable ≡ true → SessionStands address (record old { start = None; autocommit = setting.on }) switched_over
  set_stands is =
      let stands = over_stands address old p before.session_stands in
      let set : ◌≡◌ {A = Variables} (record p.variables { autocommit = setting.on }) (plain.switched setting.variable setting.on p.variables) =
      sym (ap (λ (test : Bool). if test then record p.variables { autocommit = setting.on } else (
      if bytes_eq setting.variable (codes "dolt_allow_commit_conflicts") then record p.variables { allow = setting.on } else record p.variables { force = setting.on })) is) in
      subst (λ (v : Variables). SessionStands address (record old { start = None; autocommit = setting.on }) (record (over p) { variables = v })) set (record {
        name = stands.name;
        number = stands.number;
        branch = stands.branch;
        autocommit = refl;
        allow = stands.allow;
        force = stands.force;
        position = stands.position;
        transaction = tt;
        named = stands.named;
        plain_own = stands.plain_own;
        committer = stands.committer;
      })

  -- the session stands after the decision, and says what its verdict is
  record Ended (verdict : Outcome BranchState) (reply : Reply) : Type 0 where
    said : plain.Session
    says : verdict_said address epoch p switched_over done verdict ≡ (said, reply)
    stands : SessionStands address (switched_by setting.on reply (record old { start = None })) said
    still : IsStillAt p said

  ended : is_autocommit setting.variable ≡ true → (last : Shared) (reply : Reply) (verdict : Outcome BranchState) → ComesTo shared p.branch verdict last reply → Ended verdict reply
  ended is last reply (Ok state) comes = subst (Ended (Ok state)) (sym comes.1) (record {
    said = switched_over;
    says = refl;
    stands = set_stands is;
    still = record { number = refl; branch = refl };
  })
  ended is last reply (Err number) comes = subst (Ended (Err number)) (sym comes.1) (record {
    said = over p;
    says = refl;
    stands = over_stands address old p before.session_stands;
    still = record { number = refl; branch = refl };
  })

  base_kept : (reply : Reply) → (switched_by setting.on reply (record old { start = None })).draft.chunks.base ≡ old.draft.chunks.base
  base_kept Done = refl
  base_kept other = refl

  pub switch_answered : (t : Transaction) (new : Parts) (reply : Reply) → p.transaction ≡ Some t → is_changed p ≡ true → ends_by_set p setting.variable setting.on ≡ true
      → Decided address p t shared parts new reply → Answered address epoch p (command.Switch setting) shared parts new (switched_by setting.on reply (record old { start = None })) reply
  switch_answered t new reply transaction changed ends d =
      let autocommit = (both (is_autocommit setting.variable) setting.on (both (is_autocommit setting.variable && setting.on) (not p.variables.autocommit) ends).0).0 in
      let e = ended autocommit d.last reply d.verdict d.comes in
      let waits : effect_alone p (command.Switch setting) ≡ None =
      ap (λ (test : Bool). if test then (if is_changed p then None else Some (switched_over, done)) else Some (with_variable setting.variable setting.on p, done)) ends
      ∙ ap (λ (test : Bool). if test then None else Some (switched_over, done)) changed in
      decided_answered address epoch old (switched_by setting.on reply (record old { start = None })) parts p shared before (command.Switch setting) switched_over t new reply transaction d waits refl
      e.said e.says e.stands e.still (base_kept reply)
