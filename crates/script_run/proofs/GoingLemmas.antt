-- One session on its way along a given order: where it stands.
use Rattle.std.proofs.Common.{◌≡◌, refl, sym, ◌∙◌, ap, subst, ℕ, ℤ, ◌+◌, ◌-◌, ◌<◌, ◌≤◌, ◌^◌, ◌==◌, Bool, true, false, not, List, [], ◌∷◌, ◌++◌, length, map, drop, None, Some, slice_get, vec_capacity, vec_len, arith}
use Rattle.std.specs.Prelude.{slice_index_or}
use Rattle.std.specs.List.{list_all}
use Rattle.std.proofs.lemmas.List.{length-append, length-drop, length-map}
use Rattle.std.proofs.lemmas.Bool.Decides.{nat_tests}
use Rattle.std.proofs.lemmas.Bool.{and_parts as both, and_from as join}
use Rattle.tuple_codec.proofs.Lists.{all_append, all_at, drop_at_get, there_at}
use Rattle.script_text.specs.Collisions.{TellsTruly}
use Rattle.script_text.specs.Output.{shortage}
use Rattle.script_text.specs.declared.replies.Reply.{Reply}
use Rattle.plain_sessions.specs.Commands.{command}
use Rattle.plain_sessions.specs.Fitness.{IsFitCommand}
use Rattle.plain_sessions.specs.Moments.{Still, alone, moment_at}
use Rattle.plain_sessions.specs.Records.{Shared}
use Rattle.plain_sessions.specs.Runs.{Runner, awaiting}
use Rattle.plain_sessions.specs.Sessions as plain
use Rattle.plain_sessions.specs.Sessions.{Transaction, is_before_statement}
use Rattle.plain_sessions.specs.declared.commands.Command.{Command}
use Rattle.plain_sessions.specs.declared.commands.Command.TheVariants.{Data}
use Rattle.plain_sessions.specs.declared.commands.Work.{Work}
use Rattle.chunk_store.specs.Chunks.{Chunk, Chunks, Listed, Lists}
use Rattle.chunk_store.specs.Drafts.{chunks_of}
use Rattle.chunk_store.specs.declared.faults.PutFault.TheVariants.{Memory}
use Rattle.run_laws.specs.Replaying.{dropped, reply_of}
use Rattle.run_laws.proofs.Steps.{alone_past, moment_past}
use Rattle.session_state.specs.Changes.{Parts, StateStands}
use Rattle.session_state.specs.Standing.{SessionStands}
use Rattle.session_state.specs.declared.sessions.Session.{Session}
use Rattle.serving.specs.Serving.{is_sound_reply}
use Rattle.serving.specs.Serving.{Awaits, Concludes, Drops, Fails, IsBefore, IsBetween, IsHere, MeetsOnce, Passes, PassesAlone, Starts}
use Rattle.serving.specs.Steps.{number_at}
use Rattle.serving.specs.declared.meeting.Pending.{Pending}
use Rattle.serving.specs.declared.meeting.Pending.TheVariants as pending
use Rattle.serving.proofs.AnswerLemmas.{same_number as number_is}
use Rattle.script_run.specs.Following as going
use Rattle.script_run.specs.Following.{GoesOn, IsAsked, IsFurther, IsLed, IsPlayer, StandsAt, Turns, is_free, is_next_at, moments_left, starts_made}
use Rattle.script_run.specs.Scripts.{is_statement_text}
use Rattle.script_run.specs.declared.players.Player.{Player}
use Rattle.script_run.specs.declared.players.Stage.{Stage}
use Rattle.script_run.specs.declared.players.Stage.TheVariants as stage
use Rattle.script_run.proofs.LineLemmas.{found_at}
use Rattle.script_run.proofs.SpeakerLemmas.{truly_behind}

-- ---- on its way, and further

pub joined : (first middle last : Runner) → GoesOn first middle → GoesOn middle last → GoesOn first last
joined first middle last one (going.Stays _) = one
joined first middle last one (going.Answers _ session replies asked todo said more numbered before is) =
    going.Answers first session replies asked todo said (joined first middle _ one more) numbered before is
joined first middle last one (going.Drops _ session replies asked todo short more numbered started later) =
    going.Drops first session replies asked todo short (joined first middle _ one more) numbered started later

-- its replies only grow
pub grows : (first last : Runner) → GoesOn first last → length first.replies ≤ length last.replies
grows first last (going.Stays _) = omega arith
grows first last (going.Answers _ session replies asked todo said more numbered before is) =
    let fewer : length first.replies ≤ length replies = grows first _ more in
    omega (arith, length-append replies (said.1 ∷ []))
grows first last (going.Drops _ session replies asked todo short more numbered started later) =
    let fewer : length first.replies ≤ length replies = grows first _ more in
    omega (arith, length-append replies (reply_of short ∷ []))

-- ---- where it stands

pub few_starts : (s : Stage) → starts_made s ≤ 1
few_starts stage.Free = omega arith
few_starts (stage.Waits asked) = omega arith
few_starts (stage.Between asked wanted) = omega arith

pub free_is : (s : Stage) → is_free s ≡ true → s ≡ stage.Free
free_is stage.Free free = refl
free_is (stage.Waits asked) free = absurd (cc)
free_is (stage.Between asked wanted) free = absurd (cc)

-- it needs its next moment at this statement
pub needs : {D : Type 0} (statement : ℕ) (player : Player D) → is_next_at statement player ≡ true → (is_free player.stage ≡ false) × (number_at player.session.position ≡ statement)
needs statement player h =
    let parts = both (not (is_free player.stage)) (number_at player.session.position == statement) h in
    let same : (number_at player.session.position == statement) ≡ true = parts.1 in
    (is_false (is_free player.stage) parts.0, grind (arith, nat_tests)) where
      is_false : (b : Bool) → not b ≡ true → b ≡ false
      is_false true h = sym h
      is_false false h = refl

-- between the start and the decision
pub started_at : (address : List ℕ → List ℕ) (chunks : Chunks) (wanted : Pending) (q : plain.Session) (t : Transaction) (work : Work) → Awaits address chunks wanted q t work
    → is_before_statement q.place ≡ false
started_at address chunks (pending.Between reply) q t work awaits = ap is_before_statement awaits.0
started_at address chunks (pending.Closing found) q t work awaits = ap is_before_statement awaits.0

module _ {D : Type 0} {address : List ℕ → List ℕ} {parts : Parts} {shared : Shared} {place : ℕ} {runner : Runner} {player : Player D} (is : IsPlayer address parts shared place runner player) where
  pub stands_of : SessionStands address player.session runner.session
  stands_of = by player.stage is.stands where
    by : (s : Stage) → StandsAt address player parts runner shared s → SessionStands address player.session runner.session
    by stage.Free stands = stands.session_stands
    by (stage.Waits asked) stands = stands.0.session_stands
    by (stage.Between asked wanted) stands = stands.0.here.session_stands

  pub state_of : StateStands address parts shared
  state_of = by player.stage is.stands where
    by : (s : Stage) → StandsAt address player parts runner shared s → StateStands address parts shared
    by stage.Free stands = stands.state_stands
    by (stage.Waits asked) stands = stands.0.state_stands
    by (stage.Between asked wanted) stands = stands.0.here.state_stands

  pub here_of : IsHere address player.session parts runner.session shared
  here_of = by player.stage is.stands where
    before : IsBefore address player.session parts runner.session shared → IsHere address player.session parts runner.session shared
    before stands = record { session_stands = stands.session_stands; state_stands = stands.state_stands; placed = stands.placed; later = stands.later }

    by : (s : Stage) → StandsAt address player parts runner shared s → IsHere address player.session parts runner.session shared
    by stage.Free stands = before stands
    by (stage.Waits asked) stands = before stands.0
    by (stage.Between asked wanted) stands = stands.0.here

  pub before_of : is_free player.stage ≡ true → IsBefore address player.session parts runner.session shared
  before_of free = by player.stage free is.stands where
    by : (s : Stage) → is_free s ≡ true → StandsAt address player parts runner shared s → IsBefore address player.session parts runner.session shared
    by stage.Free free stands = stands
    by (stage.Waits asked) free stands = absurd (cc)
    by (stage.Between asked wanted) free stands = absurd (cc)

  -- it has said as much
  pub as_many : length player.replies.items ≡ length runner.replies
  as_many = ap length is.said

  -- a statement is left
  pub more_of : (asked : Command) (rest : List Command) → runner.todo ≡ asked ∷ rest → length runner.replies < length player.texts
  more_of asked rest todo =
      let many : length (map command (drop (length runner.replies) player.texts)) ≡ length (asked ∷ rest) = ap length (sym is.todo ∙ todo) in
      omega (arith, length-map (drop (length runner.replies) player.texts) command, length-drop (length runner.replies) player.texts)

  pub more_said : (asked : Command) (rest : List Command) → runner.todo ≡ asked ∷ rest → length player.replies.items < length player.texts
  more_said asked rest todo = let all : length player.replies.items ≡ length runner.replies = as_many in omega (arith, more_of asked rest todo)

  -- where it needs a moment, a statement is left
  pub more_left : is_free player.stage ≡ false → (length player.replies.items < length player.texts) × (0 < moments_left player)
  more_left waiting =
      let left = by player.stage waiting is.stands in
      let more = more_said left.0 left.1.0 left.1.1 in
      (more, omega (arith, more, few_starts player.stage)) where
        by : (s : Stage) → is_free s ≡ false → StandsAt address player parts runner shared s → (asked : Command) × ((rest : List Command) × (runner.todo ≡ asked ∷ rest))
        by stage.Free waiting stands = absurd (cc)
        by (stage.Waits asked) waiting stands = (asked, stands.3)
        by (stage.Between asked wanted) waiting stands = (asked, stands.2)

  pub number_is_at : number_at player.session.position ≡ runner.session.statement
  number_is_at = number_is player.session.position runner.session.statement runner.session.place stands_of.position

  -- a memory fault in reading is answered
  pub fails_for : (asked : Command) → Fails runner.session asked Memory
  fails_for asked = refl

  rest_of : (asked : Command) (rest : List Command) → runner.todo ≡ asked ∷ rest → rest ≡ map command (drop (length runner.replies + 1) player.texts)
  rest_of asked rest todo =
      let text = there_at player.texts (length runner.replies) (more_of asked rest todo) in
      let same : asked ∷ rest ≡ command text.0 ∷ map command (drop (length runner.replies + 1) player.texts)
      = sym todo ∙ is.todo ∙ ap (map command) (drop_at_get player.texts (length runner.replies) text.0 text.1) in
      cc

  pub may_number : length runner.replies < length player.texts → number_at player.session.position + 1 < 2 ^ 32
  may_number more =
      let number : number_at player.session.position ≡ runner.session.statement = number_is player.session.position runner.session.statement runner.session.place stands_of.position in
      let counted : runner.session.statement ≡ length runner.replies + 1 = is.counted in
      let few : length player.texts + 2 < 2 ^ 32 = is.few in
      omega (arith, more)

  pub has_room : length runner.replies < length player.texts → vec_len player.replies < vec_capacity player.replies
  has_room more =
      let all : length player.replies.items ≡ length runner.replies = as_many in
      let room : length player.texts ≤ vec_capacity player.replies = is.room in
      let len : player.replies.len ≡ length player.replies.items = player.replies.ok.0 in
      omega (arith, more)

  pub said_of : length player.replies.items < length player.texts → length runner.replies < length player.texts
  said_of more = let all : length player.replies.items ≡ length runner.replies = as_many in omega (arith, more)

  -- it has something to do
  pub next_asks : length runner.replies < length player.texts → (asked : Command) × ((rest : List Command) × (runner.todo ≡ asked ∷ rest))
  next_asks more =
      let text = there_at player.texts (length runner.replies) more in
      (command text.0, (map command (drop (length runner.replies + 1) player.texts), is.todo ∙ ap (map command) (drop_at_get player.texts (length runner.replies) text.0 text.1)))

  -- what its next text asks
  pub asked_of : (at : ℕ) (texts : List (List ℕ)) (text : List ℕ) (asked : Command) → at ≡ length player.replies.items → texts ≡ player.texts → at < length player.texts
      → text ≡ slice_index_or texts at text → asked ≡ command text → IsFitCommand asked → IsAsked asked runner
  asked_of at texts text asked same all more e reads fit = record {
    fit = fit;
    rest = map command (drop (length runner.replies + 1) player.texts);
    is =
        let number : at ≡ length runner.replies = same ∙ as_many in
        let found : slice_get player.texts (length runner.replies) ≡ Some text = subst (λ n. slice_get player.texts n ≡ Some text) number (found_at player.texts texts at text all more e) in
        is.todo ∙ ap (map command) (drop_at_get player.texts (length runner.replies) text found)
        ∙ ap (λ (first : Command). first ∷ map command (drop (length runner.replies + 1) player.texts)) (sym reads);
  }

  -- which is one that a statement may be
  pub text_of : (at : ℕ) (texts : List (List ℕ)) (text : List ℕ) → texts ≡ player.texts → at < length player.texts → text ≡ slice_index_or texts at text → is_statement_text text ≡ true
  text_of at texts text all more e = all_at is_statement_text player.texts at text (found_at player.texts texts at text all more e) is.spelled

  -- it stands before its next statement in these parts still
  before_next : (after : plain.Session) (session : Session D) → SessionStands address session after → after.place ≡ plain.Before → after.number ≡ runner.session.number
      → after.branch ≡ runner.session.branch → session.draft.chunks.base ≡ player.session.draft.chunks.base → IsBefore address session parts after shared
  before_next after session stands before number branch base = record {
    session_stands = stands;
    before = before;
    state_stands = here_of.state_stands;
    placed = ap (slice_get shared.places) number ∙ here_of.placed ∙ ap Some (sym branch);
    later = subst (λ (chunks : List Chunk). Lists chunks parts.chunks) (sym base) here_of.later;
  }

  here : (asked : Command) (rest : List Command) → runner.todo ≡ asked ∷ rest → GoesOn runner (record { session = runner.session; replies = runner.replies; todo = asked ∷ rest })
  here asked rest todo = subst (λ (left : List Command). GoesOn runner (record { session = runner.session; replies = runner.replies; todo = left })) todo (going.Stays runner)

  -- it has answered its next statement
  next_player : {new : Parts} {left : Shared} (asked : Command) (rest : List Command) → runner.todo ≡ asked ∷ rest → (after : plain.Session) (reply : Reply) (next : Player D)
      → IsBefore address next.session new after left → after.number ≡ runner.session.number → after.statement ≡ runner.session.statement + 1
      → next.replies.items ≡ player.replies.items ++ reply ∷ [] → vec_capacity next.replies ≡ vec_capacity player.replies → next.texts ≡ player.texts → next.stage ≡ stage.Free
      → is_sound_reply reply ≡ true → TellsTruly address reply
      → IsPlayer address new left place (record { session = after; replies = runner.replies ++ reply ∷ []; todo = rest }) next
  next_player {new = new} {left = left} asked rest todo after reply next before number statement pushed kept texts free sound truly =
      let more : length runner.replies < length player.texts = more_of asked rest todo in
      let longer : length (runner.replies ++ reply ∷ []) ≡ length runner.replies + 1 = length-append runner.replies (reply ∷ []) in
      record {
        stands = subst (λ (s : Stage). StandsAt address next new (record { session = after; replies = runner.replies ++ reply ∷ []; todo = rest }) left s) (sym free) before;
        number = number ∙ is.number;
        said = pushed ∙ ap (λ (rs : List Reply). rs ++ reply ∷ []) is.said;
        counted = let counted : runner.session.statement ≡ length runner.replies + 1 = is.counted in omega (arith, longer, statement);
        todo = rest_of asked rest todo ∙ ap (λ n. map command (drop n player.texts)) (sym longer)
            ∙ ap (λ (all : List (List ℕ)). map command (drop (length (runner.replies ++ reply ∷ [])) all)) (sym texts);
        within = let all : length next.texts ≡ length player.texts = ap length texts in omega (arith, longer, more);
        few = let all : length next.texts ≡ length player.texts = ap length texts in let few : length player.texts + 2 < 2 ^ 32 = is.few in omega arith;
        spelled = subst (λ (all : List (List ℕ)). list_all is_statement_text all ≡ true) (sym texts) is.spelled;
        room = let all : length next.texts ≡ length player.texts = ap length texts in let room : length player.texts ≤ vec_capacity player.replies = is.room in omega (arith, kept);
        sound = all_append is_sound_reply runner.replies (reply ∷ []) is.sound (join (is_sound_reply reply) true sound refl);
        truly = truly_behind address runner.replies reply is.truly truly;
      }

  -- it has answered it alone
  pub answers : (asked : Command) (rest : List Command) → runner.todo ≡ asked ∷ rest → (reply : Reply) (next : Player D) → PassesAlone address runner.session asked next.session reply
      → next.session.draft.chunks.base ≡ player.session.draft.chunks.base → is_before_statement runner.session.place ≡ true
      → next.replies.items ≡ player.replies.items ++ reply ∷ [] → vec_capacity next.replies ≡ vec_capacity player.replies → next.texts ≡ player.texts → next.stage ≡ stage.Free
      → is_sound_reply reply ≡ true → TellsTruly address reply → IsFurther address parts shared place runner next
  answers asked rest todo reply next passes base before pushed kept texts free sound truly = record {
    next = record { session = passes.after; replies = runner.replies ++ reply ∷ []; todo = rest };
    goes = going.Answers runner runner.session runner.replies asked rest (passes.after, reply) (here asked rest todo) is.counted before passes.is;
    is = next_player asked rest todo passes.after reply next (before_next passes.after next.session passes.stands passes.before passes.number passes.branch base) passes.number (alone_past (shortage reply) runner.session asked (passes.after, reply) passes.is).0
        pushed kept texts free sound truly;
  }

  -- it waits before it for a moment
  pub waits : (asked : Command) → IsAsked asked runner → (next : Player D) → alone None runner.session asked ≡ None → SessionStands address next.session runner.session → runner.session.place ≡ plain.Before
      → next.session.draft.chunks.base ≡ player.session.draft.chunks.base → next.replies ≡ player.replies → next.texts ≡ player.texts → next.stage ≡ stage.Waits asked → IsFurther address parts shared place runner next
  waits asked asks next none stands before base replies texts stage_is = record {
    next = runner;
    goes = going.Stays runner;
    is = record {
      stands = subst (λ (s : Stage). StandsAt address next parts runner shared s) (sym stage_is)
          (before_next runner.session next.session stands before refl refl base, none, asks.fit, (asks.rest, asks.is));
      number = is.number;
      said = ap (λ rs. rs.items) replies ∙ is.said;
      counted = is.counted;
      todo = is.todo ∙ ap (λ (all : List (List ℕ)). map command (drop (length runner.replies) all)) (sym texts);
      within = let all : length next.texts ≡ length player.texts = ap length texts in let within : length runner.replies ≤ length player.texts = is.within in omega arith;
      few = let all : length next.texts ≡ length player.texts = ap length texts in let few : length player.texts + 2 < 2 ^ 32 = is.few in omega arith;
      spelled = subst (λ (all : List (List ℕ)). list_all is_statement_text all ≡ true) (sym texts) is.spelled;
      room = let all : length next.texts ≡ length player.texts = ap length texts in let room : length player.texts ≤ vec_capacity player.replies = is.room in
          let kept : vec_capacity next.replies ≡ vec_capacity player.replies = ap (λ rs. vec_capacity rs) replies in omega arith;
      sound = is.sound;
      truly = is.truly;
    };
  }

  -- ---- a moment

  passes_at : (new : Parts) (left : Shared) → Passes runner.session.number runner.session.statement shared left parts new → Passes place runner.session.statement shared left parts new
  passes_at new left passes = subst (λ n. Passes n runner.session.statement shared left parts new) is.number passes

  -- it was answered at its one moment
  pub met_once : (epoch : ℤ) (asked : Command) (rest : List Command) → runner.todo ≡ asked ∷ rest → is_before_statement runner.session.place ≡ true → (new : Parts) (reply : Reply) (next : Player D)
      → MeetsOnce address epoch runner.session asked shared parts new next.session reply
      → next.replies.items ≡ player.replies.items ++ reply ∷ [] → vec_capacity next.replies ≡ vec_capacity player.replies → next.texts ≡ player.texts → next.stage ≡ stage.Free
      → is_sound_reply reply ≡ true → TellsTruly address reply → IsLed address epoch place runner shared parts new next
  met_once epoch asked rest todo before new reply next meets pushed kept texts free sound truly = record {
    left = meets.left;
    next = record { session = meets.after; replies = runner.replies ++ reply ∷ []; todo = rest };
    turns = subst (λ (all : List Command). Turns address epoch shared (record { session = runner.session; replies = runner.replies; todo = all }) meets.left
        (record { session = meets.after; replies = runner.replies ++ reply ∷ []; todo = rest })) (sym todo)
        (going.Meets runner.session runner.replies asked rest meets.left (meets.after, reply) is.counted before meets.is.waits meets.is.answered);
    is = next_player asked rest todo meets.after reply next meets.next meets.number
        (moment_past address epoch (shortage reply) shared runner.session asked meets.left (meets.after, reply) meets.is.answered).0 pushed kept texts free sound truly;
    state_stands = meets.next.state_stands;
    passes = passes_at new meets.left meets.passes;
  }

  -- its start was made
  pub was_started : (epoch : ℤ) (asked : Command) (rest : List Command) → runner.todo ≡ asked ∷ rest → is_before_statement runner.session.place ≡ true → IsFitCommand asked
      → (new : Parts) (wanted : Pending) (next : Player D) → Starts address epoch runner.session asked shared parts new next.session wanted
      → next.replies ≡ player.replies → next.texts ≡ player.texts → next.stage ≡ stage.Between asked wanted → IsLed address epoch place runner shared parts new next
  was_started epoch asked rest todo before fit new wanted next starts replies texts stage_is =
      let work = starts.next.work in
      let data_next : runner.todo ≡ Data work ∷ rest = todo ∙ ap (λ (one : Command). one ∷ rest) starts.next.asked_is in
      let waiting : plain.Session = awaiting runner.session starts.transaction starts.place in
      record {
        left = shared;
        next = record { session = waiting; replies = runner.replies; todo = Data work ∷ rest };
        turns = subst (λ (all : List Command). Turns address epoch shared (record { session = runner.session; replies = runner.replies; todo = all }) shared
            (record { session = waiting; replies = runner.replies; todo = Data work ∷ rest })) (sym data_next)
            (going.Starts runner.session runner.replies work rest starts.transaction starts.place before starts.outside
            (subst (λ (one : Command). moment_at address epoch None shared runner.session one ≡ Some (shared, Still starts.transaction starts.place)) starts.next.asked_is starts.started)
            (started_at address (chunks_of next.session.draft.chunks) wanted waiting starts.next.transaction work starts.next.awaits));
        is = record {
          stands = subst (λ (s : Stage). StandsAt address next new (record { session = waiting; replies = runner.replies; todo = Data work ∷ rest }) shared s) (sym stage_is)
              (starts.next, fit, (rest, ap (λ (one : Command). one ∷ rest) (sym starts.next.asked_is)));
          number = is.number;
          said = ap (λ rs. rs.items) replies ∙ is.said;
          counted = is.counted;
          todo = sym data_next ∙ is.todo ∙ ap (λ (all : List (List ℕ)). map command (drop (length runner.replies) all)) (sym texts);
          within = let all : length next.texts ≡ length player.texts = ap length texts in let within : length runner.replies ≤ length player.texts = is.within in omega arith;
          few = let all : length next.texts ≡ length player.texts = ap length texts in let few : length player.texts + 2 < 2 ^ 32 = is.few in omega arith;
          spelled = subst (λ (all : List (List ℕ)). list_all is_statement_text all ≡ true) (sym texts) is.spelled;
          room = let all : length next.texts ≡ length player.texts = ap length texts in let room : length player.texts ≤ vec_capacity player.replies = is.room in
              let kept : vec_capacity next.replies ≡ vec_capacity player.replies = ap (λ rs. vec_capacity rs) replies in omega arith;
          sound = is.sound;
          truly = is.truly;
        };
        state_stands = starts.next.here.state_stands;
        passes = passes_at new shared (record {
          moments = ap (λ (p : Parts). p.moments) starts.new_is;
          numbers = ap (λ (p : Parts). p.numbers) starts.new_is;
          others = λ other apart. refl;
          grown = λ k bytes listed. subst (λ (p : Parts). Listed p.chunks k bytes) (sym starts.new_is) listed;
        });
      }

  -- its decision was made
  pub has_decided : (epoch : ℤ) (asked : Command) (rest : List Command) → runner.todo ≡ asked ∷ rest → (wanted : Pending) → IsBetween address player.session parts runner.session asked wanted shared
      → (new : Parts) (reply : Reply) (next : Player D) → Concludes address epoch runner.session asked shared parts new next.session reply
      → next.replies.items ≡ player.replies.items ++ reply ∷ [] → vec_capacity next.replies ≡ vec_capacity player.replies → next.texts ≡ player.texts → next.stage ≡ stage.Free
      → is_sound_reply reply ≡ true → TellsTruly address reply → IsLed address epoch place runner shared parts new next
  has_decided epoch asked rest todo wanted between new reply next concludes pushed kept texts free sound truly = record {
    left = concludes.left;
    next = record { session = concludes.after; replies = runner.replies ++ reply ∷ []; todo = rest };
    turns = subst (λ (all : List Command). Turns address epoch shared (record { session = runner.session; replies = runner.replies; todo = all }) concludes.left
        (record { session = concludes.after; replies = runner.replies ++ reply ∷ []; todo = rest })) (sym todo)
        (going.Decides runner.session runner.replies asked rest concludes.left (concludes.after, reply) is.counted
        (started_at address (chunks_of player.session.draft.chunks) wanted runner.session between.transaction between.work between.awaits) concludes.short concludes.is);
    is = next_player asked rest todo concludes.after reply next concludes.next concludes.number
        (moment_past address epoch None shared runner.session asked concludes.left (concludes.after, reply) concludes.is).0 pushed kept texts free sound truly;
    state_stands = concludes.next.state_stands;
    passes = passes_at new concludes.left concludes.passes;
  }

  -- it was dropped in place of its decision
  pub was_dropped : (asked : Command) (rest : List Command) → runner.todo ≡ asked ∷ rest → (wanted : Pending) → IsBetween address player.session parts runner.session asked wanted shared
      → (reply : Reply) (next : Player D) → Drops address runner.session next.session reply
      → next.session.draft.chunks.base ≡ player.session.draft.chunks.base → next.replies.items ≡ player.replies.items ++ reply ∷ [] → vec_capacity next.replies ≡ vec_capacity player.replies → next.texts ≡ player.texts → next.stage ≡ stage.Free
      → is_sound_reply reply ≡ true → TellsTruly address reply → IsFurther address parts shared place runner next
  was_dropped asked rest todo wanted between reply next drops base pushed kept texts free sound truly = record {
    next = record { session = dropped runner.session; replies = runner.replies ++ reply ∷ []; todo = rest };
    goes = subst (λ (r : Reply). GoesOn runner (record { session = dropped runner.session; replies = runner.replies ++ r ∷ []; todo = rest })) (sym drops.is)
        (going.Drops runner runner.session runner.replies asked rest drops.short (here asked rest todo) is.counted
        (started_at address (chunks_of player.session.draft.chunks) wanted runner.session between.transaction between.work between.awaits) drops.later);
    is = next_player asked rest todo (dropped runner.session) reply next (before_next (dropped runner.session) next.session drops.stands refl refl refl base) refl refl pushed kept texts free sound truly;
  }
