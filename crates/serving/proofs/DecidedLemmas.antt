-- A decision that was made through the meeting is the machine's, on whatever state was found.
use Rattle.std.proofs.Common.{◌≡◌, ◌≢◌, refl, ◌∙◌, sym, ap, subst, ℕ, ℤ, Bool, true, false, List, Option, Some, None, Ok, Err, IfSome}
use Rattle.std.proofs.lemmas.Option.{same_Some}
use Rattle.std.specs.Arc.{arc_value}
use Rattle.std.specs.Option.{option_map}
use Rattle.chunk_store.specs.Chunks.{Chunk, IsSingle, Lists}
use Rattle.chunk_store.specs.Stores.{all_chunks}
use Rattle.expr_eval.specs.Binding.{Outcome, and_then}
use Rattle.schema_model.specs.PlainCommits.{Commits}
use Rattle.script_text.specs.declared.replies.Reply.{Reply}
use Rattle.script_text.specs.declared.replies.Reply.TheVariants.{Done}
use Rattle.script_text.specs.declared.replies.Reply.TheVariants as reply
use Rattle.table_root.specs.declared.heads.Look.{Look}
use Rattle.plain_sessions.specs.CommitRule.{decide}
use Rattle.plain_sessions.specs.Merging.{Ending}
use Rattle.plain_sessions.specs.Moments.{without_commit}
use Rattle.plain_sessions.specs.Records.{BranchState, Shared}
use Rattle.plain_sessions.specs.Replies.{done}
use Rattle.plain_sessions.specs.Sessions as plain
use Rattle.plain_sessions.specs.Sessions.{Transaction, taken, within}
use Rattle.session_state.specs.Changes.{Parts, StateStands}
use Rattle.session_state.specs.Laws.{StatesFollow}
use Rattle.session_state.specs.Standing.{SessionStands}
use Rattle.session_state.specs.Transactions.{IsLookOf}
use Rattle.session_state.specs.declared.sessions.Session.{Session}
use Rattle.shared_db.specs.Plans.{PlanIs}
use Rattle.shared_db.specs.Settling as db
use Rattle.shared_db.specs.Settling.{StateGoesOn, sealed_in}
use Rattle.shared_db.specs.Shared.{IsSettled, record_at}
use Rattle.shared_db.specs.declared.changes.DecisionPlan.{DecisionPlan}
use Rattle.shared_db.specs.declared.changes.RecordChange.{RecordChange}
use Rattle.shared_db.specs.declared.changes.RecordChange.TheVariants as change
use Rattle.shared_history.specs.Meeting.{IsFitChange, IsLookAhead, ShowsNext, Tells}
use Rattle.serving.specs.Deciding.{Asks, DecidedAs, DecidesFree, EndsTo, HasBegunOn, HasDecided, HasEndedBy, HasLost, MomentOn, PlansDecision, ShowsAfter, TriesFree, deciding_of, starts_next}
use Rattle.serving.specs.Meetings.{InOneMoment, IsAtMeeting}
use Rattle.serving.specs.Planning.{IsPlanned}
use Rattle.serving.specs.declared.deciding.Decision.{Decision}
use Rattle.serving.specs.declared.deciding.Decision.TheVariants as decision
use Rattle.serving.specs.declared.trying.Made.{Made}
use Rattle.serving.proofs.ClosingLemmas.{IsPlainly, closed_by, plainly_closed, plainly_ruled, planned_plainly}
use Rattle.serving.proofs.DecisionLemmas.{settled_over}
use Rattle.serving.proofs.FoundLemmas.{number_in}
use Rattle.serving.proofs.GrowthLemmas.{SettlingFollows, commits_among, present_again}
use Rattle.serving.proofs.StateLemmas.{looks_at}
use Rattle.serving.proofs.TryingLemmas.{may_settle}
use Rattle.shared_history.proofs.ShownLemmas.{state_shown}

-- a state stands in what was left, so each chunk is there once
single_left : (address : List ℕ → List ℕ) (look : Look) (commits : Commits) (made : RecordChange) (sealed : List Chunk) (found left : Parts) (shared : Shared) → IsFitChange address look commits made sealed
    → StateGoesOn look made sealed found left → StateStands address found shared → db.HasLooked address look commits found → IsSingle left.chunks
single_left address look commits change.Nothing sealed found left shared fit goes stands looked = (goes address commits shared stands looked fit).single
single_left address look commits (change.Record rec) sealed found left shared fit goes stands looked = (goes address commits shared fit.0 stands looked fit.1).2.single

module _ {D : Type 0} (laws : SettlingFollows) (address : List ℕ → List ℕ) (epoch : ℤ) (session : Session D) (look : Look) (plan : DecisionPlan) (p : plain.Session) (t : Transaction) where
  -- where the branch has the record that was looked at, what was planned is what the machine decides, however the state has grown
  outcome_of : (ending : Option Ending) → IsPlanned address session look plan p t (deciding_of address epoch p t ending) → (found left : Parts) (shared : Shared) → StateStands address found shared
      → Lists (all_chunks look.store) found.chunks → record_at look.branch found.branches ≡ Some look.rec
      → IsSettled p.number p.statement look.branch plan.change (option_map arc_value plan.sealed) found left
      → StateGoesOn look plan.change (sealed_in (option_map arc_value plan.sealed)) found left → DecidedAs address epoch p t ending found shared left plan.reply
  outcome_of None planned found left shared stands listed there settled goes =
      let d = planned.decides in
      let may = may_settle address session look plan p t (deciding_of address epoch p t None) planned in
      settled_over laws.states address found left p t shared planned.present look plan planned.seen
      (present_again laws address session look p t planned.seen planned.present d found shared stands listed there) d.look_is d.branch listed stands planned.is
      (single_left address look may.commits plan.change (sealed_in (option_map arc_value plan.sealed)) found left shared may.fit goes stands (record { listed = listed; there = may.there; head = may.head })) settled
  outcome_of (Some ending) planned found left shared stands listed there settled goes =
      let d = planned.decides in
      let may = may_settle address session look plan p t (deciding_of address epoch p t (Some ending)) planned in
      closed_by address epoch planned.seen p t planned.present shared
      (commits_among laws address session look p t planned.seen planned.present d found shared stands listed) ending laws.states found left look plan _ refl
      (present_again laws address session look p t planned.seen planned.present d found shared stands listed there) d.look_is d.branch listed stands planned.is
      (single_left address look may.commits plan.change (sealed_in (option_map arc_value plan.sealed)) found left shared may.fit goes stands (record { listed = listed; there = may.there; head = may.head })) settled

  pub plain_reply : (ending : Option Ending) → IsPlanned address session look plan p t (deciding_of address epoch p t ending) → IsPlainly address plan.reply
  plain_reply None planned =
      planned_plainly address epoch planned.seen p t planned.present look plan _ (plainly_ruled address p t planned.present (decide t.start planned.present t.own p.variables) refl) planned.is
  plain_reply (Some ending) planned =
      planned_plainly address epoch planned.seen p t planned.present look plan _ (plainly_closed address epoch planned.seen p t planned.present ending) planned.is

-- ---- the look at what is left

shows_none : (name : List ℕ) (left : Parts) (shown : Option Look) → ShowsNext false name left shown → shown ≡ None
shows_none name left None shows = refl
shows_none name left (Some look) shows = absurd (cc)

shows_one : (name : List ℕ) (left : Parts) (shown : Option Look) → ShowsNext true name left shown → (look : Look) × (shown ≡ Some look) × IsLookAhead left name look
shows_one name left None shows = absurd (cc)
shows_one name left (Some look) shows = (look, refl, shows.1)

begin_shows : (address : List ℕ → List ℕ) (look : Look) (commits : Commits) (plan : DecisionPlan) (name : List ℕ) (left : Parts) (made : Made) (verdict : Outcome BranchState)
    → PlanIs address look commits plan (and_then verdict (λ state. Ok (without_commit done state))) → made.reply ≡ plan.reply
    → ShowsNext (starts_next decision.Begin plan.change) name left made.next → ShowsAfter address decision.Begin name left made
begin_shows address look commits plan name left made (Ok state) planned said shows =
    let well : made.reply ≡ Done = said ∙ planned.reply in
    (λ is. shows_one name left made.next (subst (λ (c : RecordChange). ShowsNext (starts_next decision.Begin c) name left made.next) planned.is shows), λ other. absurd (other well))
begin_shows address look commits plan name left made (Err number) planned said shows =
    let bad = said ∙ planned.reply in
    (λ is. absurd (cc), λ other. shows_none name left made.next (subst (λ (c : RecordChange). ShowsNext (starts_next decision.Begin c) name left made.next) planned.change shows))

shows_after : {D : Type 0} (address : List ℕ → List ℕ) (epoch : ℤ) (session : Session D) (look : Look) (plan : DecisionPlan) (p : plain.Session) (t : Transaction) (d : Decision) (ending : Option Ending)
    → Asks address session d p t ending → IsPlanned address session look plan p t (deciding_of address epoch p t ending) → (name : List ℕ) (left : Parts) (made : Made) → made.reply ≡ plan.reply
    → ShowsNext (starts_next d plan.change) name left made.next → ShowsAfter address d name left made
shows_after address epoch session look plan p t decision.Commit ending asks planned name left made said shows = shows_none name left made.next shows
shows_after address epoch session look plan p t decision.Begin ending asks planned name left made said shows =
    let rule = subst (λ (e : Option Ending). IsPlanned address session look plan p t (deciding_of address epoch p t e)) asks.of planned in
    begin_shows address look rule.seen.commits plan name left made (decide t.start rule.present t.own p.variables) rule.is said shows
shows_after address epoch session look plan p t (decision.DoltCommit request) ending asks planned name left made said shows = shows_none name left made.next shows
shows_after address epoch session look plan p t (decision.Merge request) ending asks planned name left made said shows = shows_none name left made.next shows
shows_after address epoch session look plan p t (decision.Close closing) ending asks planned name left made said shows = shows_none name left made.next shows

-- ---- the moment

module _ {D : Type 0} (laws : SettlingFollows) (address : List ℕ → List ℕ) (epoch : ℤ) (session : Session D) (d : Decision) (made : Made) (old new : Tells)
    (has : HasDecided address (PlansDecision address epoch session d) session.branch (starts_next d) made old new) where
  pub decided_once : (p : plain.Session) (t : Transaction) (ending : Option Ending) → IsAtMeeting address session old p → Asks address session d p t ending
      → MomentOn address (λ found shared left. DecidedAs address epoch p t ending found shared left made.reply × ShowsAfter address d p.branch left made) session.branch old new
  decided_once p t ending at asks =
      let look = has.planned.look in
      let plan = has.planned.plan in
      let planned = has.plans p t ending asks in
      let settled = subst (λ (n : ℕ). IsSettled p.number n look.branch plan.change (option_map arc_value plan.sealed) has.found has.left) at.statement
      (subst (λ (n : ℕ). IsSettled n old.statement look.branch plan.change (option_map arc_value plan.sealed) has.found has.left) (number_in address session old p at)
      (subst (λ (n : List ℕ). IsSettled old.session old.statement n plan.change (option_map arc_value plan.sealed) has.found has.left) (sym has.branch) has.settled)) in
      let there : record_at look.branch has.found.branches ≡ Some look.rec = subst (λ (n : List ℕ). record_at n has.found.branches ≡ Some look.rec) (sym has.branch) has.there in
      record {
        moment = record {
          found = has.found;
          is = has.is;
          left = has.left;
          leaves = λ shared stands. (
            subst (DecidedAs address epoch p t ending has.found shared has.left) (sym has.reply)
                (outcome_of laws address epoch session look plan p t ending planned has.found has.left shared stands has.listed there settled has.stands),
            subst (λ (n : List ℕ). ShowsAfter address d n has.left made) at.stands.branch (shows_after address epoch session look plan p t d ending asks planned session.branch has.left made has.reply has.shows),
          );
          turned = has.turned;
        };
        looked = has.looked ∙ sym has.there;
      }

  pub decided_plainly : (p : plain.Session) (t : Transaction) (ending : Option Ending) → Asks address session d p t ending → IsPlainly address made.reply
  decided_plainly p t ending asks =
      subst (IsPlainly address) (sym has.reply) (plain_reply laws address epoch session has.planned.look has.planned.plan p t ending (has.plans p t ending asks))

-- ---- what the tries tell

module _ (address : List ℕ → List ℕ) (Plans : Look → DecisionPlan → Type 0) (name : List ℕ) (Next : RecordChange → Bool) (old new : Tells) (tried : Option Made) (tries : TriesFree address Plans name Next old new tried) where
  pub tried_some : (made : Made) → tried ≡ Some made → DecidesFree address Plans name Next made old new
  tried_some made is = subst (TriesFree address Plans name Next old new) is tries

  pub tried_none : tried ≡ None → HasLost 3 old new
  tried_none is = subst (TriesFree address Plans name Next old new) is tries

-- ---- the session behind it

-- a state stands in what was left
last_of : (address : List ℕ → List ℕ) (epoch : ℤ) (p : plain.Session) (t : Transaction) (ending : Option Ending) (found : Parts) (shared : Shared) (left : Parts) (reply : Reply)
    → DecidedAs address epoch p t ending found shared left reply → (last : Shared) × StateStands address left last
last_of address epoch p t None found shared left reply has = (has.last, has.state_stands)
last_of address epoch p t (Some ending) found shared left reply has = (has.last, has.state_stands)

look_of_ahead : StatesFollow → (address : List ℕ → List ℕ) (left : Parts) (last : Shared) (name : List ℕ) (look : Look) → StateStands address left last → IsLookAhead left name look → IsLookOf address look last
look_of_ahead follow address left last name look stands ahead =
    looks_at address (record left { chunks = all_chunks look.store }) last look follow (state_shown address left (all_chunks look.store) last ahead.chunks stands)
    (subst (λ (n : List ℕ). record_at n left.branches ≡ Some look.rec) (sym ahead.branch) ahead.there) ahead.heads refl

-- what is shown is the look at what is left
ahead_by : (address : List ℕ → List ℕ) (name : List ℕ) (left : Parts) (reply : Reply) (next : Option Look) (look : Look) → ShowsAfter address decision.Begin name left (record { reply = reply; next = next })
    → next ≡ Some look → IsLookAhead left name look
ahead_by address name left Done next look shows is =
    let has = shows.0 refl in
    subst (λ (l : Look). IsLookAhead left name l) (same_Some has.0 look (sym has.1 ∙ is)) has.2
ahead_by address name left (reply.Count n) next look shows is = let none = shows.1 (λ so. absurd (cc)) in absurd (cc)
ahead_by address name left (reply.Rows answer) next look shows is = let none = shows.1 (λ so. absurd (cc)) in absurd (cc)
ahead_by address name left (reply.Refused n) next look shows is = let none = shows.1 (λ so. absurd (cc)) in absurd (cc)
ahead_by address name left (reply.Syntax n) next look shows is = let none = shows.1 (λ so. absurd (cc)) in absurd (cc)
ahead_by address name left (reply.Collided clash) next look shows is = let none = shows.1 (λ so. absurd (cc)) in absurd (cc)

shown_ahead : (address : List ℕ → List ℕ) (d : Decision) (name : List ℕ) (left : Parts) (made : Made) (look : Look) → ShowsAfter address d name left made → made.next ≡ Some look → IsLookAhead left name look
shown_ahead address decision.Commit name left made look shows is = let never : Some look ≡ None = sym is ∙ shows in absurd (cc)
shown_ahead address decision.Begin name left made look shows is = ahead_by address name left made.reply made.next look shows is
shown_ahead address (decision.DoltCommit request) name left made look shows is = let never : Some look ≡ None = sym is ∙ shows in absurd (cc)
shown_ahead address (decision.Merge request) name left made look shows is = let never : Some look ≡ None = sym is ∙ shows in absurd (cc)
shown_ahead address (decision.Close closing) name left made look shows is = let never : Some look ≡ None = sym is ∙ shows in absurd (cc)

module _ {D : Type 0} (follow : StatesFollow) (address : List ℕ → List ℕ) (epoch : ℤ) (d : Decision) (old : Session D) (made : Made) (p : plain.Session) (t : Transaction) (ending : Option Ending)
    (stands : SessionStands address old p) where
  -- a next transaction may begin on it
  pub may_begin : (found : Parts) (shared : Shared) (left : Parts) → DecidedAs address epoch p t ending found shared left made.reply → ShowsAfter address d p.branch left made
      → IfSome made.next (λ look. (last : Shared) × IsLookOf address look last × (look.branch ≡ old.branch))
  may_begin found shared left has shows = by made.next refl where
    by : (next : Option Look) → made.next ≡ next → IfSome next (λ look. (last : Shared) × IsLookOf address look last × (look.branch ≡ old.branch))
    by None is = tt
    by (Some look) is =
        let ahead = shown_ahead address d p.branch left made look shows is in
        let last = last_of address epoch p t ending found shared left made.reply has in
        (last.0, look_of_ahead follow address left last.0 p.branch look last.1 ahead, ahead.branch ∙ sym stands.branch)

  module _ (session : Session D) (over : made.next ≡ None → session ≡ record old { start = None })
      (begun : IfSome made.next (λ look. (p : plain.Session) (shared : Shared) → SessionStands address old p → IsLookOf address look shared → (t : Transaction) × (taken shared p ≡ Some t) × SessionStands address session (within p t)))
      (base : IfSome made.next (λ look. session.draft.chunks.base ≡ all_chunks look.store)) where
    ends_begun : (left : Parts) → ShowsAfter address decision.Begin p.branch left made → made.reply ≡ Done → HasBegunOn address p left session
    ends_begun left shows well =
        let has = shows.0 well in
        record {
          begun = λ last there. subst (λ (n : Option Look). IfSome n (λ look. (p : plain.Session) (shared : Shared) → SessionStands address old p → IsLookOf address look shared
              → (t : Transaction) × (taken shared p ≡ Some t) × SessionStands address session (within p t))) has.1 begun p last stands (look_of_ahead follow address left last p.branch has.0 there has.2);
          later = subst (λ (cs : List Chunk). Lists cs left.chunks) (sym (subst (λ (n : Option Look). IfSome n (λ look. session.draft.chunks.base ≡ all_chunks look.store)) has.1 base)) has.2.chunks.right;
        }

    ends_to : (e : Decision) (left : Parts) → ShowsAfter address e p.branch left made → EndsTo address e p old left session made.reply
    ends_to decision.Commit left shows = over shows
    ends_to decision.Begin left shows = (ends_begun left shows, λ ill. over (shows.1 ill))
    ends_to (decision.DoltCommit request) left shows = over shows
    ends_to (decision.Merge request) left shows = over shows
    ends_to (decision.Close closing) left shows = over shows

    -- with the date of the call
    pub ended_once : (date : ℤ) → date ≡ epoch → (a b : Tells)
        → MomentOn address (λ found shared left. DecidedAs address date p t ending found shared left made.reply × ShowsAfter address d p.branch left made) old.branch a b
        → MomentOn address (λ found shared left. HasEndedBy address epoch d p t ending old found shared left session made.reply) old.branch a b
    ended_once date same a b once = record {
      moment = record {
        found = once.moment.found;
        is = once.moment.is;
        left = once.moment.left;
        leaves = λ shared there.
            let has = once.moment.leaves shared there in
            record {
              decided = subst (λ (e : ℤ). DecidedAs address e p t ending once.moment.found shared once.moment.left made.reply) same has.0;
              ends = ends_to d once.moment.left has.1;
            };
        turned = once.moment.turned;
      };
      looked = once.looked;
    }
