-- From the moments of a statement to the statement that was served.
use Rattle.std.proofs.Common.{◌≡◌, ◌≢◌, refl, ◌∙◌, sym, ap, subst, ℕ, ◌+◌, ◌<◌, ◌≤◌, ℤ, List, [], ◌∷◌, Option, Some, None, ◌⊎◌, inl, inr}
use Rattle.std.proofs.lemmas.Option.{same_Some}
use Rattle.chunk_store.specs.Drafts.{Drafting}
use Rattle.script_text.specs.Output.{Shortage, AtOnce, AfterStart, Clashes, shortage}
use Rattle.script_text.specs.declared.replies.Reply.{Reply}
use Rattle.plain_sessions.specs.Moments.{alone, past}
use Rattle.plain_sessions.specs.Records.{Shared}
use Rattle.plain_sessions.specs.Runs.{awaiting}
use Rattle.plain_sessions.specs.Sessions as plain
use Rattle.plain_sessions.specs.Sessions.{Before, is_before_statement}
use Rattle.plain_sessions.specs.declared.commands.Command.{Command}
use Rattle.run_laws.specs.Replaying.{dropped, reply_of}
use Rattle.run_laws.specs.Turns.{InOneTurn, InTwoTurns}
use Rattle.run_laws.proofs.SeenLemmas.{start_short, start_waits}
use Rattle.session_state.specs.Standing.{SessionStands}
use Rattle.session_state.specs.declared.sessions.Session.{Session}
use Rattle.shared_history.specs.Fitting.{HasTurned}
use Rattle.shared_history.specs.Meeting.{Tells, room_of}
use Rattle.serving.specs.Meetings.{InOneMoment, IsBeforeAt, IsBetweenAt, ServesAt, WaitsFree}
use Rattle.serving.specs.Serving.{Concludes, Drops, Meets, MeetsOnce, PassesAlone, Starts, turn_at}
use Rattle.serving.specs.Steps.{number_at}
use Rattle.serving.specs.declared.meeting.Met.{Met}
use Rattle.serving.specs.declared.meeting.Met.TheVariants as met
use Rattle.serving.specs.declared.meeting.Pending.{Pending}
use Rattle.serving.proofs.AnswerLemmas.{same_number}
use Rattle.serving.proofs.BehindLemmas.{between_behind, room_behind, seated_behind, seated_waiting, session_is, start_passes, turned_by, waits_still}

-- where a moment of the session was made
abbrev pub OnceAt : {D : Type 0} → (List ℕ → List ℕ) → ℤ → plain.Session → Command → Session D → Reply → Tells → Tells → Type 0
OnceAt address epoch p asked session reply = InOneMoment address (λ found shared left. MeetsOnce address epoch p asked shared found left session reply)

abbrev pub StartsAt : {D : Type 0} → (List ℕ → List ℕ) → ℤ → plain.Session → Command → Session D → Pending → Tells → Tells → Type 0
StartsAt address epoch p asked session wanted = InOneMoment address (λ found shared left. Starts address epoch p asked shared found left session wanted)

abbrev pub ConcludesAt : {D : Type 0} → (List ℕ → List ℕ) → ℤ → plain.Session → Command → Session D → Reply → Tells → Tells → Type 0
ConcludesAt address epoch q asked session reply = InOneMoment address (λ found shared left. Concludes address epoch q asked shared found left session reply)

-- it was dropped, and nothing else became of the session
abbrev pub DropsAt : {D : Type 0} → (List ℕ → List ℕ) → plain.Session → Session D → Session D → Reply → Tells → Tells → Type 0
DropsAt address q old session reply before after = WaitsFree before after × Drops address q session reply × (session.draft ≡ old.draft) × (session.branch ≡ old.branch)

module _ {D : Type 0} (address : List ℕ → List ℕ) (epoch : ℤ) (p : plain.Session) (asked : Command) (entry : Session D) (old : Tells) (before : IsBeforeAt address entry old p) where
  -- no moment
  pub serves_alone : (new : Tells) (session : Session D) (reply : Reply) → PassesAlone address p asked session reply → session.draft.chunks.base ≡ entry.draft.chunks.base → WaitsFree old new
      → ServesAt address epoch p asked old new session reply
  serves_alone new session reply a base waits = record {
    after = a.after;
    turns = [];
    is = a.is;
    goes = waits;
    stands = a.stands;
    before = a.before;
    number = a.number;
    seated = seated_waiting entry session old new (a.stands.number ∙ a.number ∙ sym before.at.stands.number) (a.stands.branch ∙ a.branch ∙ sym before.at.stands.branch) base before.at.seated waits;
  }

  is_of : old.session ≡ p.number
  is_of = session_is address entry old p before.at

  -- one moment
  pub serves_once : (new : Tells) (session : Session D) (reply : Reply) → OnceAt address epoch p asked session reply old new → ServesAt address epoch p asked old new session reply
  serves_once new session reply one =
      let shared : Shared = one.is.shared in
      let m : MeetsOnce address epoch p asked shared one.found one.left session reply = one.leaves shared one.is.stands in
      record {
        after = m.after;
        turns = turn_at p shared m.left ∷ [];
        is = m.is;
        goes = (
          one.found,
          one.left,
          new,
          one.is,
          one.is.stands,
          m.next.state_stands,
          turned_by address old p.number p.statement shared m.left one.found one.left is_of before.at.statement one.is.stands m.next.state_stands m.passes,
          one.turned,
          waits_still new one.turned.free,
        );
        stands = m.next.session_stands;
        before = m.next.before;
        number = m.number;
        seated = seated_behind address session old new one.found one.left one.turned m.after m.left (is_of ∙ sym m.number) m.next.session_stands m.next.state_stands m.next.placed m.next.later;
      }

  module _ (mid : Tells) (rested : Session D) (wanted : Pending) (first : StartsAt address epoch p asked rested wanted old mid) where
    abbrev pub found_first : Shared
    found_first = first.is.shared

    abbrev pub start : Starts address epoch p asked found_first first.found first.left rested wanted
    start = first.leaves found_first first.is.stands

    abbrev pub q : plain.Session
    q = awaiting p start.transaction start.place

    pub between_then : IsBetweenAt address rested mid q asked wanted
    between_then = between_behind address rested old mid first.found first.left first.turned q asked wanted found_first is_of before.at.statement start.next

    start_turned : HasTurned old.session old.statement first.found first.left
    start_turned =
        turned_by address old p.number p.statement found_first found_first first.found first.left is_of before.at.statement first.is.stands start.next.here.state_stands
        (start_passes p.number p.statement found_first first.found first.left start.new_is)

    pub room_then : 2 ≤ room_of old → 0 < room_of mid
    room_then room = room_behind address old mid first.found first.left old.statement first.is start_turned first.turned room

    pub place_then : number_at rested.position ≡ number_at entry.position
    place_then = same_number rested.position p.statement start.place start.next.here.session_stands.position ∙ sym (same_number entry.position p.statement p.place before.at.stands.position)

    -- two moments
    serves_twice : (new : Tells) (session : Session D) (reply : Reply) → alone None p asked ≡ None → ConcludesAt address epoch q asked session reply mid new → ServesAt address epoch p asked old new session reply
    serves_twice new session reply waits second =
        let shared : Shared = second.is.shared in
        let c : Concludes address epoch q asked shared second.found second.left session reply = second.leaves shared second.is.stands in
        let two : InTwoTurns address epoch None p asked (turn_at p found_first found_first) (turn_at p shared c.left) (c.after, reply) = record {
          transaction = start.transaction;
          place = start.place;
          waits = waits;
          numbered = refl;
          numbered_again = refl;
          started = start.started;
          answered = c.is;
        } in
        record {
          after = c.after;
          turns = turn_at p found_first found_first ∷ turn_at p shared c.left ∷ [];
          is = subst (λ (answer : Option Shortage). InTwoTurns address epoch answer p asked (turn_at p found_first found_first) (turn_at p shared c.left) (c.after, reply)) (sym c.short) two;
          goes = (
            first.found,
            first.left,
            mid,
            first.is,
            first.is.stands,
            start.next.here.state_stands,
            start_turned,
            first.turned,
            (
              second.found,
              second.left,
              new,
              second.is,
              second.is.stands,
              c.next.state_stands,
              turned_by address mid p.number p.statement shared c.left second.found second.left (first.turned.session ∙ is_of) (first.turned.statement ∙ before.at.statement) second.is.stands
                  c.next.state_stands c.passes,
              second.turned,
              waits_still new second.turned.free,
            ),
          );
          stands = c.next.session_stands;
          before = c.next.before;
          number = c.number;
          seated = seated_behind address session mid new second.found second.left second.turned c.after c.left (first.turned.session ∙ is_of ∙ sym c.number) c.next.session_stands c.next.state_stands
              c.next.placed c.next.later;
        }

    -- a start, and no decision
    told_short : (short : Shortage) → shortage (reply_of short) ≡ Some short
    told_short AtOnce = refl
    told_short AfterStart = refl
    told_short (Clashes clash) = refl

    started_short : (short : Shortage) → short ≢ AtOnce → InOneTurn address epoch (Some short) p asked (turn_at p found_first found_first) (past p.statement (p, reply_of short))
    started_short short later =
        subst (λ (one : Command). InOneTurn address epoch (Some short) p one (turn_at p found_first found_first) (past p.statement (p, reply_of short))) (sym start.next.asked_is) (record {
          waits = start_waits p start.next.work start.outside (Some short) (λ same. later (same_Some _ _ same));
          numbered = refl;
          answered = start_short address epoch found_first p start.next.work short start.outside (ap is_before_statement before.before) later;
        })

    after_drop : dropped q ≡ (past p.statement (p, reply_of AtOnce)).0
    after_drop = λ i. record p { transaction = sym start.outside i; statement = p.statement + 1; place = Before }

    serves_dropped : (new : Tells) (session : Session D) (reply : Reply) → DropsAt address q rested session reply mid new → ServesAt address epoch p asked old new session reply
    serves_dropped new session reply dropped_so =
        let d : Drops address q session reply = dropped_so.1 in
        let one : InOneTurn address epoch (shortage (reply_of d.short)) p asked (turn_at p found_first found_first) ((past p.statement (p, reply_of d.short)).0, reply_of d.short) =
        subst (λ (answer : Option Shortage). InOneTurn address epoch answer p asked (turn_at p found_first found_first) (past p.statement (p, reply_of d.short))) (sym (told_short d.short))
        (started_short d.short d.later) in
        record {
          after = (past p.statement (p, reply)).0;
          turns = turn_at p found_first found_first ∷ [];
          is = subst (λ (r : Reply). InOneTurn address epoch (shortage r) p asked (turn_at p found_first found_first) ((past p.statement (p, r)).0, r)) (sym d.is) one;
          goes = (
            first.found,
            first.left,
            mid,
            first.is,
            first.is.stands,
            start.next.here.state_stands,
            start_turned,
            first.turned,
            dropped_so.0,
          );
          stands = subst (λ (at : plain.Session). SessionStands address session at) after_drop d.stands;
          before = refl;
          number = refl;
          seated = seated_waiting rested session mid new (d.stands.number ∙ sym between_then.at.stands.number) dropped_so.3 (ap (λ (draft : Drafting). draft.chunks.base) dropped_so.2)
              between_then.at.seated dropped_so.0;
        }

    -- the decision, or none
    pub serves_behind : (new : Tells) (session : Session D) (reply : Reply) → alone None p asked ≡ None
        → ConcludesAt address epoch q asked session reply mid new ⊎ DropsAt address q rested session reply mid new → ServesAt address epoch p asked old new session reply
    serves_behind new session reply waits (inl c) = serves_twice new session reply waits c
    serves_behind new session reply waits (inr d) = serves_dropped new session reply d

-- ---- what the first moment came to

module _ {D : Type 0} (address : List ℕ → List ℕ) (epoch e : ℤ) (same : e ≡ epoch) (p : plain.Session) (asked : Command) (session : Session D) (m : Met) (old new : Tells)
    (meets : InOneMoment address (λ found shared left. Meets address e p asked shared found left session m) old new) where
  pub once_of : (reply : Reply) → m ≡ met.Answered reply → OnceAt address epoch p asked session reply old new
  once_of reply is =
      subst (λ (n : ℤ). OnceAt address n p asked session reply old new) same
      (subst (λ (one : Met). InOneMoment address (λ found shared left. Meets address e p asked shared found left session one) old new) is meets)

  pub starts_of : (wanted : Pending) → m ≡ met.Pending wanted → StartsAt address epoch p asked session wanted old new
  starts_of wanted is =
      subst (λ (n : ℤ). StartsAt address n p asked session wanted old new) same
      (subst (λ (one : Met). InOneMoment address (λ found shared left. Meets address e p asked shared found left session one) old new) is meets)
