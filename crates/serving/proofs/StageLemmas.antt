-- What a session answers by itself: a call in a transaction, or a local statement.
use Rattle.std.proofs.Common.{◌≡◌, refl, ◌∙◌, sym, ap, Bool, true, false, ◌&&◌, ◌||◌, List, ℕ}
use Rattle.plain_sessions.specs.Moments.{is_in_transaction}
use Rattle.plain_sessions.specs.Sessions as plain
use Rattle.plain_sessions.specs.declared.commands.Command.{Command}
use Rattle.plain_sessions.specs.declared.commands.Command.TheVariants as command
use Rattle.plain_sessions.specs.declared.commands.Work.{Work}
use Rattle.plain_sessions.specs.declared.commands.Work.TheVariants as work
use Rattle.sql_procedures.specs.declared.requests.MergeRequest.TheVariants as merging
use Rattle.session_state.specs.Standing.{IsInTransaction, SessionStands}
use Rattle.session_state.specs.declared.sessions.Session.{Session}
use Rattle.session_txn.specs.Answering.{is_local}
use Rattle.session_txn.proofs.SessionLemmas.{in_transaction}
use Rattle.serving.specs.Kinds.{calls, is_alone, is_call}

pub is_then_local : (p : plain.Session) (asked : Command) → calls asked ≡ false → is_alone p asked ≡ true → is_local p asked ≡ true
is_then_local p asked other alone = sym (ap (λ (call : Bool). (call && is_in_transaction p) || is_local p asked) other) ∙ alone

not_local : (p : plain.Session) (asked : Work) → is_call asked ≡ true → is_local p (command.Data asked) ≡ false
not_local p (work.Ask query) is = absurd (cc)
not_local p (work.Change write) is = absurd (cc)
not_local p (work.Add tables) is = refl
not_local p (work.ResetTo reset) is = refl
not_local p (work.Commit request) is = absurd (cc)
not_local p (work.Merge merging.Abort) is = refl
not_local p (work.Merge (merging.Merge request)) is = absurd (cc)
not_local p (work.Resolve request) is = refl
not_local p (work.Verify way) is = refl

call_local : (p : plain.Session) (asked : Command) → calls asked ≡ true → is_local p asked ≡ false
call_local p (command.Data asked) is = not_local p asked is
call_local p (command.Faulty refusal) is = absurd (cc)
call_local p command.Begin is = absurd (cc)
call_local p command.CommitAll is = absurd (cc)
call_local p command.Rollback is = absurd (cc)
call_local p (command.Switch setting) is = absurd (cc)
call_local p (command.Say list) is = absurd (cc)
call_local p (command.OnBranches request) is = absurd (cc)
call_local p (command.Checkout request) is = absurd (cc)

or_nothing : (a b : Bool) → b ≡ false → a || b ≡ true → a ≡ true
or_nothing true b none is = refl
or_nothing false b none is = absurd (cc)

pub is_then_inside : (p : plain.Session) (asked : Command) → calls asked ≡ true → is_alone p asked ≡ true → is_in_transaction p ≡ true
is_then_inside p asked call alone =
    or_nothing (is_in_transaction p) (is_local p asked) (call_local p asked call)
    (sym (ap (λ (test : Bool). (test && is_in_transaction p) || is_local p asked) call) ∙ alone)

pub stands_inside : {D : Type 0} (address : List ℕ → List ℕ) (session : Session D) (p : plain.Session) (asked : Command) → SessionStands address session p → calls asked ≡ true → is_alone p asked ≡ true
    → IsInTransaction address session
stands_inside address session p asked stands call alone = in_transaction address session p stands (is_then_inside p asked call alone)
