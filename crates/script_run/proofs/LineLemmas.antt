-- One more line of a run under way.
use Rattle.std.proofs.Common.{◌≡◌, ◌≢◌, refl, sym, ◌∙◌, ap, subst, ℕ, ℤ, ◌+◌, ◌-◌, ◌*◌, ◌<◌, ◌≤◌, ◌==◌, ◌^◌, true, false, nat_lt, List, ◌++◌, length, take, Some, slice_get, slice_set, vec_capacity, vec_len, arith}
use Rattle.std.specs.Prelude.{slice_index_or}
use Rattle.std.proofs.lemmas.List.{length-take}
use Rattle.std.proofs.lemmas.Bool.Decides.{nat_tests}
use Rattle.std.proofs.lemmas.Option.{get_or_from_slice_get, slice_get_read, slice_get_within}
use Rattle.tuple_codec.proofs.Lists.{all_at, there_at}
use Rattle.script_text.specs.Output.{shortage}
use Rattle.script_text.specs.declared.replies.Reply.{Reply}
use Rattle.script_text.specs.declared.scripts.Line.{Line}
use Rattle.script_text.specs.declared.scripts.Moment.{Moment}
use Rattle.script_text.specs.declared.scripts.Script.{Script}
use Rattle.plain_sessions.specs.Commands.{command}
use Rattle.plain_sessions.specs.Sessions as plain
use Rattle.run_laws.specs.Laws.{LinesAreRun}
use Rattle.run_laws.specs.Lines.{IsRunTo, answered_at}
use Rattle.run_laws.specs.Orders.{count_of}
use Rattle.run_laws.specs.Turns.{moments_of}
use Rattle.run_laws.proofs.RunLemmas.{commands_counted}
use Rattle.run_laws.proofs.OrderLemmas.{count_fits as count_most}
use Rattle.session_state.specs.declared.sessions.Position.TheVariants as place
use Rattle.shared_history.specs.Meeting.{moments_by}
use Rattle.serving.specs.Steps.{number_at}
use Rattle.serving.proofs.AnswerLemmas.{same_number as number_is}
use Rattle.script_run.specs.Running.{AreSpeakers, IsRunningAt, IsSpeaker, Speaks}
use Rattle.script_run.specs.Scripts.{IsSoundScript, has_statement, is_line_within, is_statement_text}
use Rattle.script_run.specs.Seats.{IsAtRest, room_at}
use Rattle.script_run.specs.declared.running.Running.{Running}
use Rattle.script_run.specs.declared.running.Speaker.{Speaker}
use Rattle.script_run.proofs.CountLemmas.{count_at, count_other, count_own, count_rises}
use Rattle.script_run.proofs.RoomLemmas.{served_other, served_own}
use Rattle.script_run.proofs.ServedLemmas.{two_turns}
use Rattle.script_run.proofs.SpeakerLemmas.{speakers_next}

-- the line at a place, and what an index gives
pub found_at : {X : Type 0} (xs ys : List X) (i : ℕ) (x : X) → ys ≡ xs → i < length xs → x ≡ slice_index_or ys i x → slice_get xs i ≡ Some x
found_at xs ys i x same h e = slice_get_read xs (length xs) i x refl h (e ∙ ap (λ (zs : List _). slice_index_or zs i x) same)

-- the next line, and its session before it
pub record IsNext {D : Type 0} (address : List ℕ → List ℕ) (epoch : ℤ) (script : Script) (at : ℕ) (running : Running D) (line : Line) (speaker : Speaker D) : Type 0 where
  pub sound : IsSoundScript script
  pub within : at < length script.lines
  pub line_there : slice_get script.lines at ≡ Some line
  pub now : IsRunningAt address epoch script at running
  pub p : plain.Session
  pub replies : List Reply
  pub there : slice_get now.spoken line.session ≡ Some (p, replies)
  pub found : slice_get running.speakers.items line.session ≡ Some speaker
  pub is : IsSpeaker address script.lines running.lone.db.parts now.shared line.session p replies speaker

module _ {D : Type 0} (address : List ℕ → List ℕ) (epoch : ℤ) (script : Script) (at : ℕ) (running : Running D) (lines : List Line) (line : Line) where
  -- the line's session is one of those under way
  pub session_there : IsSoundScript script → at < length script.lines → lines ≡ script.lines → line ≡ slice_index_or lines at line → IsRunningAt address epoch script at running
      → line.session < length running.speakers.items
  session_there sound within same e now =
      let test : nat_lt line.session (length script.names) ≡ true = all_at (is_line_within script) script.lines at line (found_at script.lines lines at line same within e) sound.sessions in
      let below : line.session < length script.names = grind (arith, nat_tests) in
      subst (λ n. line.session < n) (sym (now.speakers.lists ∙ now.run.lists)) below

  pub next_of : (speaker : Speaker D) → IsSoundScript script → at < length script.lines → lines ≡ script.lines → line ≡ slice_index_or lines at line → IsRunningAt address epoch script at running
      → speaker ≡ slice_index_or running.speakers.items line.session speaker → IsNext address epoch script at running line speaker
  next_of speaker sound within same e now is_speaker =
      let below = session_there sound within same e now in
      let found = found_at running.speakers.items running.speakers.items line.session speaker refl below is_speaker in
      let one = there_at now.spoken line.session (subst (λ n. line.session < n) now.speakers.lists below) in
      record {
        sound = sound;
        within = within;
        line_there = found_at script.lines lines at line same within e;
        now = now;
        p = one.0.0;
        replies = one.0.1;
        there = one.1;
        found = found;
        is = now.speakers.each line.session one.0.0 one.0.1 speaker one.1 found;
      }

module _ {D : Type 0} {address : List ℕ → List ℕ} {epoch : ℤ} {script : Script} {at : ℕ} {running : Running D} {line : Line} {speaker : Speaker D}
    (next : IsNext address epoch script at running line speaker) where
  said_so_far : length next.replies ≡ count_of line.session (take at script.lines)
  said_so_far = (next.now.run.counted line.session next.p next.replies next.there).0 ∙ commands_counted command line.session (take at script.lines)

  pub may_number : number_at speaker.session.position + 1 < 2 ^ 32
  may_number =
      let number : number_at speaker.session.position ≡ next.p.statement = number_is speaker.session.position next.p.statement next.p.place next.is.before.session_stands.position in
      let statement : next.p.statement ≡ length next.replies + 1 = (next.now.run.counted line.session next.p next.replies next.there).1 in
      let said : length next.replies ≡ count_of line.session (take at script.lines) = said_so_far in
      let most : count_of line.session (take at script.lines) ≤ length (take at script.lines) = count_most line.session (take at script.lines) in
      let few : length script.lines ≤ 20000 = next.sound.few in
      omega (arith, next.within, length-take at script.lines)

  pub has_room : vec_len speaker.replies < vec_capacity speaker.replies
  has_room =
      let said : length next.replies ≡ count_of line.session (take at script.lines) = said_so_far in
      let rises : count_of line.session (take at script.lines) < count_of line.session script.lines = count_rises script.lines at line next.line_there in
      let room : count_of line.session script.lines ≤ vec_capacity speaker.replies = next.is.room in
      let all : length speaker.replies.items ≡ length next.replies = ap length next.is.said in
      let len : speaker.replies.len ≡ length speaker.replies.items = speaker.replies.ok.0 in
      omega arith

  pub has_text : is_statement_text line.statement ≡ true
  has_text = all_at has_statement script.lines at line next.line_there next.sound.statements

  pub has_turns : 2 ≤ room_at running.lone.db.parts speaker.session.number
  has_turns =
      let number : speaker.session.number ≡ line.session = next.is.before.session_stands.number ∙ next.is.number in
      let below : line.session < length script.names = subst (λ n. line.session < n) next.now.run.lists (slice_get_within next.now.spoken line.session (next.p, next.replies) next.there) in
      let counted : slice_index_or running.lone.db.parts.numbers line.session 0 ≡ count_of line.session script.lines
      = get_or_from_slice_get running.lone.db.parts.numbers line.session (count_of line.session script.lines) 0
      (ap (λ (ns : List ℕ). slice_get ns line.session) next.now.numbers ∙ count_at (length script.names) script.lines line.session below) in
      let rises : count_of line.session (take at script.lines) < count_of line.session script.lines = count_rises script.lines at line next.line_there in
      let few : moments_by line.session running.lone.db.parts.moments ≤ 2 * count_of line.session (take at script.lines) = next.now.few line.session in
      let room : 2 ≤ 2 * slice_index_or running.lone.db.parts.numbers line.session 0 - moments_by line.session running.lone.db.parts.moments = omega arith in
      subst (λ n. 2 ≤ room_at running.lone.db.parts n) (sym number) room

  -- the line was run
  pub run_further : (after : Running D) (last : Speaker D) → LinesAreRun
      → (speaks : Speaks address epoch next.p (command line.statement) next.now.shared running.lone.db.parts after.lone.db.parts speaker last)
      → after.speakers.items ≡ slice_set running.speakers.items line.session last → vec_capacity last.replies ≡ vec_capacity speaker.replies → IsAtRest address after.lone
      → IsRunningAt address epoch script (at + 1) after
  run_further after last laws speaks put kept rest = record {
    shared = speaks.serves.last;
    spoken = answered_at line.session (speaks.serves.after, speaks.reply) next.replies next.now.spoken;
    run =
        let ran = laws.next command address epoch script at running.lone.db.parts.moments next.now.shared speaks.serves.last next.now.spoken line next.p next.replies speaks.serves.turns
        (speaks.serves.after, speaks.reply) next.line_there next.there speaks.serves.is speaks.serves.follows next.now.run in
        subst (λ (o : List Moment). IsRunTo command address epoch script (at + 1) o speaks.serves.last
        (answered_at line.session (speaks.serves.after, speaks.reply) next.replies next.now.spoken)) (sym in_order) ran;
    stands = speaks.serves.next.state_stands;
    speakers = subst (λ (all : List (Speaker D)). AreSpeakers address script.lines after.lone.db.parts speaks.serves.last
        (answered_at line.session (speaks.serves.after, speaks.reply) next.replies next.now.spoken) all) (sym put)
        (speakers_next address epoch script.lines running.lone.db.parts after.lone.db.parts next.now.shared next.now.spoken running.speakers.items line.session next.p next.replies speaker last
        (command line.statement) next.now.speakers next.there next.found speaks kept);
    rest = rest;
    numbers = speaks.serves.numbers ∙ next.now.numbers;
    few = λ place.
        let before : moments_by place running.lone.db.parts.moments ≤ 2 * count_of place (take at script.lines) = next.now.few place in
        let all : moments_by place after.lone.db.parts.moments ≡ moments_by place (running.lone.db.parts.moments ++ moments_of line.session speaks.serves.turns) = ap (moments_by place) in_order in
        elim (line.session == place) as (λ test. (line.session == place) ≡ test → moments_by place after.lone.db.parts.moments ≤ 2 * count_of place (take (at + 1) script.lines)) [
          | true ↦ λ test.
              let same : line.session ≡ place = grind (arith, nat_tests) in
              let more : count_of place (take (at + 1) script.lines) ≡ count_of place (take at script.lines) + 1
              = subst (λ n. count_of n (take (at + 1) script.lines) ≡ count_of n (take at script.lines) + 1) same (count_own script.lines at line next.line_there) in
              let own : moments_by place (running.lone.db.parts.moments ++ moments_of line.session speaks.serves.turns) ≤ moments_by place running.lone.db.parts.moments + 2
              = served_own place line.session speaks.serves.turns running.lone.db.parts.moments
              (two_turns address epoch (shortage speaks.reply) next.p (command line.statement) (speaks.serves.after, speaks.reply) speaks.serves.turns speaks.serves.is) in
              omega (arith, before, all, more, own)
          | false ↦ λ test.
              let apart : line.session ≢ place = grind (arith, nat_tests) in
              let more : count_of place (take (at + 1) script.lines) ≡ count_of place (take at script.lines) = count_other script.lines at place line next.line_there apart in
              let other : moments_by place (running.lone.db.parts.moments ++ moments_of line.session speaks.serves.turns) ≡ moments_by place running.lone.db.parts.moments
              = served_other place line.session speaks.serves.turns running.lone.db.parts.moments apart in
              omega (arith, before, all, more, other)
        ] refl;
  } where
    in_order : after.lone.db.parts.moments ≡ running.lone.db.parts.moments ++ moments_of line.session speaks.serves.turns
    in_order = speaks.serves.moments ∙ ap (λ n. running.lone.db.parts.moments ++ moments_of n speaks.serves.turns) next.is.number
