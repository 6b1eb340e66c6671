-- What the machine has come to after lines served one after another.
use Rattle.std.proofs.Common.{◌≡◌, ◌≢◌, refl, sym, ◌∙◌, ap, subst, ℕ, ℤ, zero, suc, ◌+◌, ◌-◌, ◌<◌, true, false, ◌==◌, List, [], ◌∷◌, ◌++◌, length, map, Some, None, slice_get, arith, append_assoc, if◌then◌else◌}
use Rattle.std.specs.Option.{option_and_then}
use Rattle.std.specs.List.{list_all}
use Rattle.std.specs.Prelude.{slice_index_or}
use Rattle.std.proofs.lemmas.List.{append-nil, length_push}
use Rattle.std.proofs.lemmas.Option.{get_or_from_slice_get}
use Rattle.std.proofs.lemmas.Bool.Decides.{nat_tests}
use Rattle.tuple_codec.proofs.Truths.{if_true}
use Rattle.script_text.specs.Output.{shortage, shortages_in}
use Rattle.script_text.specs.declared.replies.Reply.{Reply}
use Rattle.script_text.specs.declared.scripts.Line.{Line}
use Rattle.script_text.specs.declared.scripts.Moment.{Moment}
use Rattle.script_text.specs.declared.scripts.Script.{Script}
use Rattle.plain_sessions.specs.Records.{Shared, opening}
use Rattle.plain_sessions.specs.Sessions.{Said, Session, new_session}
use Rattle.plain_sessions.specs.declared.commands.Command.{Command}
use Rattle.plain_sessions.specs.Runs.{Runner, Shortages, State, commands_of, is_over, opened, plain_run, steps_along}
use Rattle.run_laws.specs.Turns.{Turn, IsPast, ServedIn, TurnsFollow, moments_of}
use Rattle.run_laws.specs.Lines.{Agrees, AreCounted, SoFar, Spoken, answered_at, new_spoken, replies_of, resting, state_before}
use Rattle.run_laws.proofs.ListLemmas.{get_behind, get_front, get_put, get_put_other, if_false}
use Rattle.run_laws.proofs.Resting.{first_runners, goes}

-- who knows of the wants of memory in more replies knows of those in fewer
agrees_before : (answers : Shortages) (spoken : Spoken) (place : ℕ) (session : Session) (replies : List Reply) (said : Said) → slice_get spoken place ≡ Some (session, replies)
    → Agrees answers (answered_at place said replies spoken) → Agrees answers spoken
agrees_before answers spoken place session replies said h agrees j at other earlier there below =
    elim (j == place) as (λ test. (j == place) ≡ test → answers j (at + 1) ≡ option_and_then shortage (slice_get earlier at)) [
      | true ↦ λ test.
          let same : j ≡ place = grind (arith, nat_tests) in
          let pair : ◌≡◌ {A = Session × List Reply} (other, earlier) (session, replies) = cc (ap (slice_get spoken) same) in
          let earlier_is : earlier ≡ replies = ap (λ (one : Session × List Reply). one.1) pair in
          let less : at < length replies = subst (λ (rs : List Reply). at < length rs) earlier_is below in
          let more : at < length (replies ++ said.1 ∷ []) = omega (arith, length_push replies said.1) in
          let there_now : slice_get (answered_at place said replies spoken) j ≡ Some (said.0, replies ++ said.1 ∷ [])
          = ap (slice_get (answered_at place said replies spoken)) same ∙ get_put spoken place (session, replies) (said.0, replies ++ said.1 ∷ []) h in
          agrees j at said.0 (replies ++ said.1 ∷ []) there_now more
          ∙ ap (option_and_then shortage) (get_front replies (said.1 ∷ []) at less ∙ ap (λ (rs : List Reply). slice_get rs at) (sym earlier_is))
      | false ↦ λ test.
          let apart : j ≢ place = grind (arith, nat_tests) in
          agrees j at other earlier (get_put_other spoken place j (said.0, replies ++ said.1 ∷ []) apart ∙ there) below
    ] refl

-- and knows of the want of memory of the last reply
agrees_last : (answers : Shortages) (spoken : Spoken) (place : ℕ) (session : Session) (replies : List Reply) (said : Said) → slice_get spoken place ≡ Some (session, replies)
    → Agrees answers (answered_at place said replies spoken) → answers place (length replies + 1) ≡ shortage said.1
agrees_last answers spoken place session replies said h agrees =
    let less : length replies < length (replies ++ said.1 ∷ []) = omega (arith, length_push replies said.1) in
    agrees place (length replies) said.0 (replies ++ said.1 ∷ []) (get_put spoken place (session, replies) (said.0, replies ++ said.1 ∷ []) h) less
    ∙ ap (option_and_then shortage) (get_behind replies said.1)

pub so_far_first : (reads : List ℕ → Command) (address : List ℕ → List ℕ) (epoch : ℤ) (script : Script)
    → SoFar reads address epoch script script.lines [] (opening address epoch script.names) (new_spoken 0 script.names)
so_far_first reads address epoch script answers more agrees =
    ap (λ runners. steps_along address epoch answers more (record { shared = opening address epoch script.names; runners = runners })) (first_runners reads answers script.lines 0 script.names)

pub so_far_next : (reads : List ℕ → Command) (address : List ℕ → List ℕ) (epoch : ℤ) (script : Script) (line : Line) (rest : List Line) (order : List Moment) (shared last : Shared) (spoken : Spoken)
    (session : Session) (replies : List Reply) (turns : List Turn) (said : Said)
    → slice_get spoken line.session ≡ Some (session, replies) → session.statement ≡ length replies + 1
    → ServedIn address epoch (shortage said.1) session (reads line.statement) turns said → TurnsFollow shared turns last
    → SoFar reads address epoch script (line ∷ rest) order shared spoken
    → SoFar reads address epoch script rest (order ++ moments_of line.session turns) last (answered_at line.session said replies spoken)
so_far_next reads address epoch script line rest order shared last spoken session replies turns said h number served follows run answers more agrees =
    let answer : answers line.session session.statement ≡ shortage said.1
    = ap (answers line.session) number ∙ agrees_last answers spoken line.session session replies said h agrees in
    ap (λ moments. steps_along address epoch answers moments (opened reads address epoch answers script)) (append_assoc order (moments_of line.session turns) more)
    ∙ run answers (moments_of line.session turns ++ more) (agrees_before answers spoken line.session session replies said h agrees)
    ∙ goes reads address epoch answers line rest shared last turns spoken session replies said h
    (subst (λ known. ServedIn address epoch known session (reads line.statement) turns said) (sym answer) served) follows more

-- ---- counts

-- one more line of a session, and of the others
commands_push : (reads : List ℕ → Command) (place : ℕ) (lines : List Line) (line : Line) → commands_of reads place (lines ++ line ∷ []) ≡ commands_of reads place lines ++ commands_of reads place (line ∷ [])
commands_push reads place [] line = refl
commands_push reads place (first ∷ lines) line =
    elim (first.session == place) as (λ test. (if test then reads first.statement ∷ commands_of reads place (lines ++ line ∷ []) else commands_of reads place (lines ++ line ∷ []))
    ≡ (if test then reads first.statement ∷ commands_of reads place lines else commands_of reads place lines) ++ commands_of reads place (line ∷ [])) [
      | true ↦ ap (λ more. reads first.statement ∷ more) (commands_push reads place lines line)
      | false ↦ commands_push reads place lines line
    ]

pub counted_first : (place : ℕ) (names : List (List ℕ)) (at : ℕ) (session : Session) (replies : List Reply) → slice_get (new_spoken place names) at ≡ Some (session, replies)
    → (length replies ≡ 0) × (session.statement ≡ length replies + 1)
counted_first place [] at session replies h = absurd (cc)
counted_first place (name ∷ names) zero session replies h =
    let pair : ◌≡◌ {A = Session × List Reply} (new_session place name, []) (session, replies) = cc in
    (ap (λ (one : Session × List Reply). length one.1) (sym pair), ap (λ (one : Session × List Reply). one.0.statement) (sym pair) ∙ ap (λ (one : Session × List Reply). length one.1 + 1) pair)
counted_first place (name ∷ names) (suc at) session replies h = counted_first (place + 1) names at session replies h

pub counted_next : (reads : List ℕ → Command) (lines : List Line) (spoken : Spoken) (line : Line) (session : Session) (replies : List Reply) (said : Said) → slice_get spoken line.session ≡ Some (session, replies)
    → IsPast session.statement said.0 → AreCounted reads lines spoken → AreCounted reads (lines ++ line ∷ []) (answered_at line.session said replies spoken)
counted_next reads lines spoken line session replies said h past counted place other later there =
    elim (line.session == place) as (λ test. (line.session == place) ≡ test → (length later ≡ length (commands_of reads place (lines ++ line ∷ []))) × (other.statement ≡ length later + 1)) [
      | true ↦ λ test.
          let same : place ≡ line.session = grind (arith, nat_tests) in
          let pair : ◌≡◌ {A = Session × List Reply} (other, later) (said.0, replies ++ said.1 ∷ [])
          = cc (ap (slice_get (answered_at line.session said replies spoken)) same, get_put spoken line.session (session, replies) (said.0, replies ++ said.1 ∷ []) h) in
          let later_is : later ≡ replies ++ said.1 ∷ [] = ap (λ (one : Session × List Reply). one.1) pair in
          let other_is : other ≡ said.0 = ap (λ (one : Session × List Reply). one.0) pair in
          let before = counted place session replies (ap (slice_get spoken) same ∙ h) in
          let one : commands_of reads place (line ∷ []) ≡ reads line.statement ∷ [] = if_true (line.session == place) (reads line.statement ∷ []) [] test in
          let many : length later ≡ length replies + 1 = ap length later_is ∙ length_push replies said.1 in (
            many ∙ ap (λ n. n + 1) before.0 ∙ sym (length_push (commands_of reads place lines) (reads line.statement))
                ∙ ap (λ more. length (commands_of reads place lines ++ more)) (sym one) ∙ ap length (sym (commands_push reads place lines line)),
            ap (λ (s : Session). s.statement) other_is ∙ past.0 ∙ ap (λ n. n + 1) (before.1 ∙ sym many),
          )
      | false ↦ λ test.
          let apart : place ≢ line.session = grind (arith, nat_tests) in
          let none : commands_of reads place (line ∷ []) ≡ [] = if_false (line.session == place) (reads line.statement ∷ []) [] test in
          let before = counted place other later (sym (get_put_other spoken line.session place (said.0, replies ++ said.1 ∷ []) apart) ∙ there) in (
            before.0 ∙ ap length (sym (append-nil (commands_of reads place lines)) ∙ ap (λ more. commands_of reads place lines ++ more) (sym none) ∙ sym (commands_push reads place lines line)),
            before.1,
          )
    ] refl

-- ---- the end

-- the replies tell of the wants of memory themselves
replies_at : (spoken : Spoken) (place : ℕ) (session : Session) (replies : List Reply) → slice_get spoken place ≡ Some (session, replies) → slice_get (replies_of spoken) place ≡ Some replies
replies_at [] place session replies h = absurd (cc)
replies_at (one ∷ spoken) zero session replies h =
    let pair : ◌≡◌ {A = Session × List Reply} one (session, replies) = cc in ap (λ (one : Session × List Reply). Some one.1) pair
replies_at (one ∷ spoken) (suc place) session replies h = replies_at spoken place session replies h

pub agrees_self : (spoken : Spoken) → Agrees (shortages_in (replies_of spoken)) spoken
agrees_self spoken place at session replies h below =
    let e : at + 1 - 1 ≡ at = omega arith in
    ap (λ n. option_and_then shortage (slice_get (slice_index_or (replies_of spoken) place []) n)) e
    ∙ ap (λ (rs : List Reply). option_and_then shortage (slice_get rs at)) (get_or_from_slice_get (replies_of spoken) place replies [] (replies_at spoken place session replies h))

all_over : (reads : List ℕ → Command) (answers : Shortages) (place : ℕ) (spoken : Spoken) → list_all is_over (resting reads answers [] place spoken) ≡ true
all_over reads answers place [] = refl
all_over reads answers place (one ∷ spoken) = all_over reads answers (place + 1) spoken

all_said : (reads : List ℕ → Command) (answers : Shortages) (place : ℕ) (spoken : Spoken) → map (λ (runner : Runner). runner.replies) (resting reads answers [] place spoken) ≡ replies_of spoken
all_said reads answers place [] = refl
all_said reads answers place (one ∷ spoken) = ap (λ more. one.1 ∷ more) (all_said reads answers (place + 1) spoken)

pub run_at_end : (reads : List ℕ → Command) (address : List ℕ → List ℕ) (epoch : ℤ) (script : Script) (order : List Moment) (shared : Shared) (spoken : Spoken)
    → SoFar reads address epoch script [] order shared spoken
    → plain_run reads address script order (shortages_in (replies_of spoken)) epoch ≡ Some (state_before reads (shortages_in (replies_of spoken)) [] shared spoken)
unfolding plain_run
run_at_end reads address epoch script order shared spoken run =
    let answers : Shortages = shortages_in (replies_of spoken) in
    let stepped : steps_along address epoch answers order (opened reads address epoch answers script) ≡ Some (state_before reads answers [] shared spoken)
    = ap (λ moments. steps_along address epoch answers moments (opened reads address epoch answers script)) (sym (append-nil order)) ∙ run answers [] (agrees_self spoken) in
    ap (option_and_then (λ (last : State). if list_all is_over last.runners then Some last else None)) stepped
    ∙ ap (λ test. if test then Some (state_before reads answers [] shared spoken) else None) (all_over reads answers 0 spoken)

pub said_at_end : (reads : List ℕ → Command) (answers : Shortages) (spoken : Spoken) → map (λ (runner : Runner). runner.replies) (resting reads answers [] 0 spoken) ≡ replies_of spoken
said_at_end reads answers spoken = all_said reads answers 0 spoken
