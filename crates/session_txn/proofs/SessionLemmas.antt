-- What a session's steps leave of it.
use Rattle.std.proofs.Common.{◌≡◌, ◌≤◌, ◌+◌, arith, refl, sym, ◌∙◌, ap, subst, inl, inr, ◌⊎◌, ℕ, Bool, true, false, ◌&&◌, not, List, [], Option, None, Some, if◌then◌else◌}
use Rattle.std.specs.Option.{option_map}
use Rattle.tuple_codec.proofs.Options.{some_there as has_one}
use Rattle.tuple_codec.proofs.Truths.{not_true as kept_so}
use Rattle.chunk_store.specs.Drafts.{Drafting, DraftParts, IsNamed, chunks_of}
use Rattle.chunk_store.specs.Stores.{all_chunks}
use Rattle.table_root.specs.Kept.{HasKeptAt, IsKeptAt}
use Rattle.table_root.specs.declared.heads.Look.{Look}
use Rattle.script_text.specs.Output.{shortage}
use Rattle.script_text.specs.declared.replies.Reply.{Reply}
use Rattle.script_text.specs.declared.replies.Reply.TheVariants.{Done}
use Rattle.sql_ast.specs.declared.statements.Setting.{Setting}
use Rattle.plain_sessions.specs.Moments.{effect_alone, ends_by_set, is_in_transaction, set_alone}
use Rattle.plain_sessions.specs.Records.{Shared, state_of}
use Rattle.plain_sessions.specs.Replies.{done}
use Rattle.plain_sessions.specs.Sessions as plain
use Rattle.plain_sessions.specs.Sessions.{Said, Transaction, is_changed, over, started_at, taken, with_variable, within}
use Rattle.plain_sessions.specs.declared.commands.Command.{Command}
use Rattle.plain_sessions.specs.declared.commands.Command.TheVariants as command
use Rattle.session_state.specs.Commits.{HasNoCommit}
use Rattle.session_state.specs.Laws.{TransactionsFollow}
use Rattle.session_state.specs.Transactions.{IsLookOf, TransactionStands}
use Rattle.session_state.specs.Standing.{IsInTransaction, SessionStands}
use Rattle.session_state.specs.declared.sessions.Session.{Session}
use Rattle.session_plan.specs.Answering.{AnswersAlone}
use Rattle.session_txn.specs.Answering.{is_local}
use Rattle.session_plan.proofs.AloneLemmas.{answers_so}
use Rattle.session_plan.proofs.LocalLemmas.{own_in}

-- ---- SET

unchanged : (b : Bool) → not (true && b) ≡ true → b ≡ false
unchanged true h = absurd (cc)
unchanged false h = refl

switch_effect : (p : plain.Session) (variable : List ℕ) (on ends : Bool) → ends ≡ ends_by_set p variable on → not (ends_by_set p variable on && is_changed p) ≡ true
    → set_alone p variable on ≡ Some (with_variable variable on (if ends then over p else p), done)
switch_effect p variable on true is h =
    let here : Option Said = Some (with_variable variable on (over p), done) in
    ap (λ (b : Bool). if b then (if is_changed p then None else here) else Some (with_variable variable on p, done)) (sym is)
    ∙ ap (λ (b : Bool). if b then None else here) (unchanged (is_changed p) (ap (λ (b : Bool). not (b && is_changed p)) is ∙ h))
switch_effect p variable on false is h =
    ap (λ (b : Bool). if b then (if is_changed p then None else Some (with_variable variable on (over p), done)) else Some (with_variable variable on p, done)) (sym is)

pub switches : {D : Type 0} (address : List ℕ → List ℕ) (session : Session D) (p : plain.Session) (setting : Setting) (variable : List ℕ) (ends : Bool) → variable ≡ setting.variable
    → ends ≡ ends_by_set p variable setting.on → not (ends_by_set p setting.variable setting.on && is_changed p) ≡ true
    → SessionStands address session (with_variable variable setting.on (if ends then over p else p)) → AnswersAlone address p (command.Switch setting) session Done
switches address session p setting variable ends same is h stands =
    answers_so address session p (with_variable setting.variable setting.on (if ends then over p else p)) (command.Switch setting) Done
    (switch_effect p setting.variable setting.on ends (is ∙ ap (λ (name : List ℕ). ends_by_set p name setting.on) same) h) refl
    (subst (λ (name : List ℕ). SessionStands address session (with_variable name setting.on (if ends then over p else p))) same stands)

-- ---- a start

nothing_there : HasNoCommit []
nothing_there k bytes h is = absurd (cc)

pub begins : {D : Type 0} (address : List ℕ → List ℕ) (old : Session D) (look kept : Look) (d : Drafting) (p : plain.Session) (shared : Shared) → TransactionsFollow
    → SessionStands address old p → IsLookOf address look shared → look.branch ≡ old.branch → kept.rec ≡ look.rec → kept.heads ≡ look.heads
    → d.chunks ≡ (record { base = all_chunks look.store; own = [] })
    → (t : Transaction) × (taken shared p ≡ Some t) × SessionStands address (record old { start = Some kept; own = look.rec; draft = d }) (within p t)
begins address old look kept d p shared follow stands look_is here rec heads is =
    let t = started_at shared look_is.state in (
      t,
      ap (λ (name : List ℕ). option_map (started_at shared) (state_of shared.branches name)) (sym (here ∙ stands.branch)) ∙ ap (option_map (started_at shared)) look_is.there,
      record {
        name = stands.name;
        number = stands.number;
        branch = stands.branch;
        autocommit = stands.autocommit;
        allow = stands.allow;
        force = stands.force;
        position = stands.position;
        transaction = subst (λ (chunks : DraftParts). TransactionStands address chunks kept look.rec t) (sym is) (follow.started address look kept shared look_is rec heads);
        named = subst (λ (chunks : DraftParts). IsNamed address chunks) (sym is) look_is.named;
        plain_own = subst (λ (chunks : DraftParts). HasNoCommit chunks.own) (sym is) nothing_there;
        committer = stands.committer;
      },
    )

-- ---- in a transaction

-- its own tables stand, and keep the limits
pub own_kept : {D : Type 0} (address : List ℕ → List ℕ) (session : Session D) (p : plain.Session) (t : Transaction) → SessionStands address session p → p.transaction ≡ Some t
    → IsKeptAt address (chunks_of session.draft.chunks) session.own.working.0 t.own.working
own_kept address session p t stands there = let own = own_in address session p t stands there in let kept = own.stands in kept.working

pub has_own : {D : Type 0} (address : List ℕ → List ℕ) (session : Session D) (p : plain.Session) (t : Transaction) → SessionStands address session p → p.transaction ≡ Some t
    → HasKeptAt address (chunks_of session.draft.chunks) session.own.working.0
has_own address session p t stands there = (t.own.working, own_kept address session p t stands there)

-- a session that is in one
pub in_transaction : {D : Type 0} (address : List ℕ → List ℕ) (session : Session D) (p : plain.Session) → SessionStands address session p → is_in_transaction p ≡ true
    → IsInTransaction address session
in_transaction address session p stands inside = let found = has_one p.transaction inside in (p, found.0, stands, found.1)

-- ---- COMMIT of nothing, and ROLLBACK

-- all pages are free
pub none_lost : (free taken new_free new_taken : ℕ) → new_free ≡ free + taken → new_taken ≡ 0 → free + taken ≤ new_free + new_taken
none_lost free taken new_free new_taken all none = omega (arith, all, none)

-- with no transaction and nothing of its own over the store
pub ended : {D : Type 0} (address : List ℕ → List ℕ) (old : Session D) (d : Drafting) (p : plain.Session) → d.chunks ≡ (record { base = old.draft.chunks.base; own = [] })
    → SessionStands address old p → SessionStands address (record old { start = None; draft = d }) (over p)
ended address old d p is stands = record {
  name = stands.name;
  number = stands.number;
  branch = stands.branch;
  autocommit = stands.autocommit;
  allow = stands.allow;
  force = stands.force;
  position = stands.position;
  transaction = tt;
  named = subst (λ (chunks : DraftParts). IsNamed address chunks) (sym is) stands.named;
  plain_own = subst (λ (chunks : DraftParts). HasNoCommit chunks.own) (sym is) nothing_there;
  committer = stands.committer;
}

end_effect : (p : plain.Session) (asked : Command) → (asked ≡ command.CommitAll) ⊎ (asked ≡ command.Rollback) → is_local p asked ≡ true → effect_alone p asked ≡ Some (over p, done)
end_effect p asked (inl is) local =
    let unmoved : is_changed p ≡ false = kept_so (is_changed p) (ap (is_local p) (sym is) ∙ local) in
    let here : Option Said = Some (over p, done) in
    ap (effect_alone p) is ∙ ap (λ (b : Bool). if b then None else here) unmoved
end_effect p asked (inr is) local = ap (effect_alone p) is

pub ends : {D : Type 0} (address : List ℕ → List ℕ) (session : Session D) (p : plain.Session) (asked : Command) (reply : Reply)
    → (asked ≡ command.CommitAll) ⊎ (asked ≡ command.Rollback) → is_local p asked ≡ true → reply ≡ Done → SessionStands address session (over p)
    → AnswersAlone address p asked session reply
ends address session p asked reply is local told stands =
    answers_so address session p (over p) asked reply
    (end_effect p asked is local ∙ ap (λ (r : Reply). let said : Option Said = Some (over p, r) in said) (sym told)) (ap shortage told) stands
