-- Statements that a session answers by itself.
use Rattle.std.proofs.Common.{◌≡◌, refl, ◌∙◌, ap, subst, ℕ, Bool, true, false, Option, Some, None, Ok, Err, option_map, if◌then◌else◌}
use Rattle.std.specs.Option.{option_and_then}
use Rattle.std.proofs.lemmas.Option.{same_Some}
use Rattle.expr_eval.specs.Binding.{Outcome}
use Rattle.script_text.specs.Output.{Shortage, AtOnce, AfterStart, Clashes}
use Rattle.script_text.specs.declared.replies.Reply.{Reply}
use Rattle.plain_sessions.specs.Merging.{Worked, Answers, Closes}
use Rattle.plain_sessions.specs.Moments.{alone, alone_by, ends_by_set, effect_alone, if_answered, past, takes_start}
use Rattle.plain_sessions.specs.Replies.{refused}
use Rattle.plain_sessions.specs.Sessions as plain
use Rattle.plain_sessions.specs.Sessions.{Before, Place, Said, Transaction, is_before_statement, is_changed}
use Rattle.plain_sessions.specs.Statements.{worked}
use Rattle.plain_sessions.specs.declared.commands.Command.{Command}
use Rattle.plain_sessions.specs.declared.commands.Command.TheVariants as command
use Rattle.plain_sessions.specs.declared.commands.Work.{Work}
use Rattle.serving.specs.Steps.{IsStillAt}

-- whoever says it is the same session
abbrev Stays : plain.Session → Option Said → Type 0
Stays p answer = (said : plain.Session) (reply : Reply) → answer ≡ Some (said, reply) → IsStillAt p said

itself : (p : plain.Session) → IsStillAt p p
itself p = record { number = refl; branch = refl }

stays : (p q : plain.Session) (reply : Reply) → IsStillAt p q → Stays p (Some (q, reply))
stays p q reply still said other same = subst (λ (r : plain.Session). IsStillAt p r) (ap (λ (x : Said). x.0) (same_Some _ _ same)) still

stays_none : (p : plain.Session) → Stays p None
stays_none p said reply same = absurd (cc)

stays_if : (p : plain.Session) (test : Bool) (a b : Option Said) → Stays p a → Stays p b → Stays p (if test then a else b)
stays_if p true a b left right = left
stays_if p false a b left right = right

stays_answered : (p : plain.Session) (t : Transaction) (outcome : Outcome Worked) → Stays p (if_answered p t outcome)
stays_answered p t (Ok (Answers reply own)) = stays p _ reply (record { number = refl; branch = refl })
stays_answered p t (Ok (Closes call)) = stays_none p
stays_answered p t (Err number) = stays p p _ (itself p)

stays_working : (p : plain.Session) (work : Work) (transaction : Option Transaction) → Stays p (option_and_then (λ t. if_answered p t (worked p t work)) transaction)
stays_working p work None = stays_none p
stays_working p work (Some t) = stays_answered p t (worked p t work)

stays_alone : (p : plain.Session) (asked : Command) → Stays p (effect_alone p asked)
stays_alone p (command.Faulty refusal) = stays p p _ (itself p)
stays_alone p command.Begin = stays_none p
stays_alone p command.CommitAll = stays_if p (is_changed p) None _ (stays_none p) (stays p _ _ (record { number = refl; branch = refl }))
stays_alone p command.Rollback = stays p _ _ (record { number = refl; branch = refl })
stays_alone p (command.Switch setting) =
    stays_if p (ends_by_set p setting.variable setting.on) _ _
    (stays_if p (is_changed p) None _ (stays_none p) (stays p _ _ (record { number = refl; branch = refl })))
    (stays p _ _ (record { number = refl; branch = refl }))
stays_alone p (command.Say list) = stays p p _ (itself p)
stays_alone p (command.Data work) = stays_working p work p.transaction
stays_alone p (command.OnBranches request) = stays_none p
stays_alone p (command.Checkout request) = stays_if p (is_changed p) (Some (p, refused 9006)) None (stays p p _ (itself p)) (stays_none p)

-- a statement answered without a moment leaves the session where it was
pub still_alone : (answer : Option Shortage) (p : plain.Session) (asked : Command) (said : plain.Session) (reply : Reply) → alone_by answer p asked ≡ Some (said, reply) → IsStillAt p said
still_alone None p asked = stays_alone p asked
still_alone (Some AtOnce) p asked = stays p p _ (itself p)
still_alone (Some AfterStart) p asked = stays_none p
still_alone (Some (Clashes clash)) p asked = stays_if p (takes_start p asked) None _ (stays_none p) (stays p p _ (itself p))

-- before a statement it is the answer to that
pub alone_before : (answer : Option Shortage) (p : plain.Session) (asked : Command) (said : Said) → p.place ≡ Before → alone_by answer p asked ≡ Some said
    → alone answer p asked ≡ Some (past p.statement said)
alone_before answer p asked said before is =
    ap (λ (at : Place). option_map (past p.statement) (if is_before_statement at then alone_by answer p asked else None)) before ∙ ap (option_map (past p.statement)) is
