-- The machine's sessions before a line, and behind it: the line's own session goes, and no other.
use Rattle.std.proofs.Common.{◌≡◌, ◌≢◌, refl, sym, ◌∙◌, ap, ℕ, ℤ, zero, suc, ◌+◌, ◌<◌, true, false, ◌==◌, List, [], ◌∷◌, ◌++◌, Option, Some, None, slice_get, slice_set, arith}
use Rattle.std.specs.Option.{option_map_or, option_and_then}
use Rattle.std.proofs.lemmas.List.{set-set}
use Rattle.std.proofs.lemmas.Bool.Decides.{nat_tests}
use Rattle.tuple_codec.proofs.Truths.{if_true}
use Rattle.script_text.specs.declared.replies.Reply.{Reply}
use Rattle.script_text.specs.declared.scripts.Line.{Line}
use Rattle.script_text.specs.declared.scripts.Moment.{Moment}
use Rattle.plain_sessions.specs.Records.{Shared}
use Rattle.plain_sessions.specs.Sessions.{Said, Session, new_session}
use Rattle.plain_sessions.specs.declared.commands.Command.{Command}
use Rattle.plain_sessions.specs.Moments.{Past, Still, alone}
use Rattle.plain_sessions.specs.Runs.{Runner, Shortages, advance, awaiting, commands_of, runners_of, step, steps_along}
use Rattle.run_laws.specs.Turns.{Turn, ServedIn, TurnsFollow, moment_of_turn, moments_of}
use Rattle.run_laws.specs.Lines.{Spoken, answered_at, new_spoken, resting, state_before}
use Rattle.run_laws.proofs.ListLemmas.{get_put, if_false, put_same}
use Rattle.run_laws.proofs.Steps.{behind_waits, step_here}
use Rattle.run_laws.proofs.WaitLemmas.{behind_start}

abbrev runner_of : (List ℕ → Command) → Shortages → List Line → ℕ → Session × List Reply → Runner
runner_of reads answers lines place one = advance (answers place) (commands_of reads place lines) one.1 one.0

-- a line of another session is none of this one's
others : (reads : List ℕ → Command) (place : ℕ) (line : Line) (lines : List Line) → line.session ≢ place → commands_of reads place (line ∷ lines) ≡ commands_of reads place lines
others reads place line lines apart =
    let test : (line.session == place) ≡ false = grind (arith, nat_tests) in
    if_false (line.session == place) (reads line.statement ∷ commands_of reads place lines) (commands_of reads place lines) test

own : (reads : List ℕ → Command) (place : ℕ) (line : Line) (lines : List Line) → line.session ≡ place → commands_of reads place (line ∷ lines) ≡ reads line.statement ∷ commands_of reads place lines
own reads place line lines same =
    let test : (line.session == place) ≡ true = grind (arith, nat_tests) in
    if_true (line.session == place) (reads line.statement ∷ commands_of reads place lines) (commands_of reads place lines) test

found : (reads : List ℕ → Command) (answers : Shortages) (lines : List Line) (place i : ℕ) (spoken : Spoken) (one : Session × List Reply) → slice_get spoken i ≡ Some one
    → slice_get (resting reads answers lines place spoken) i ≡ Some (runner_of reads answers lines (place + i) one)
found reads answers lines place i [] one h = cc
found reads answers lines place zero (first ∷ spoken) one h =
    let same : first ≡ one = cc in
    let here : place ≡ place + 0 = omega arith in
    ap (λ r. Some (runner_of reads answers lines place r)) same ∙ ap (λ n. Some (runner_of reads answers lines n one)) here
found reads answers lines place (suc i) (first ∷ spoken) one h =
    let e : place + 1 + i ≡ place + suc i = omega arith in
    found reads answers lines (place + 1) i spoken one h ∙ ap (λ n. Some (runner_of reads answers lines n one)) e

-- sessions behind the line's own don't see that it goes
unmoved : (reads : List ℕ → Command) (answers : Shortages) (line : Line) (lines : List Line) (place : ℕ) (spoken : Spoken) → line.session < place
    → resting reads answers (line ∷ lines) place spoken ≡ resting reads answers lines place spoken
unmoved reads answers line lines place [] below = refl
unmoved reads answers line lines place (one ∷ spoken) below =
    let apart : line.session ≢ place = omega arith in
    let further : line.session < place + 1 = omega arith in
    ap (λ texts. advance (answers place) texts one.1 one.0 ∷ resting reads answers (line ∷ lines) (place + 1) spoken) (others reads place line lines apart)
    ∙ ap (λ more. runner_of reads answers lines place one ∷ more) (unmoved reads answers line lines (place + 1) spoken further)

-- the line's own session moves on, and no other
moved : (reads : List ℕ → Command) (answers : Shortages) (line : Line) (lines : List Line) (place i : ℕ) (spoken : Spoken) (one next : Session × List Reply)
    → slice_get spoken i ≡ Some one → line.session ≡ place + i
    → slice_set (resting reads answers (line ∷ lines) place spoken) i (runner_of reads answers lines (place + i) next) ≡ resting reads answers lines place (slice_set spoken i next)
moved reads answers line lines place i [] one next h at = cc
moved reads answers line lines place zero (first ∷ spoken) one next h at =
    let here : place + 0 ≡ place = omega arith in
    let below : line.session < place + 1 = omega arith in
    ap (λ n. runner_of reads answers lines n next ∷ resting reads answers (line ∷ lines) (place + 1) spoken) here
    ∙ ap (λ more. runner_of reads answers lines place next ∷ more) (unmoved reads answers line lines (place + 1) spoken below)
moved reads answers line lines place (suc i) (first ∷ spoken) one next h at =
    let apart : line.session ≢ place = omega arith in
    let further : line.session ≡ place + 1 + i = omega arith in
    let e : place + suc i ≡ place + 1 + i = omega arith in
    ap (λ n. runner_of reads answers (line ∷ lines) place first ∷ slice_set (resting reads answers (line ∷ lines) (place + 1) spoken) i (runner_of reads answers lines n next)) e
    ∙ ap (λ texts. advance (answers place) texts first.1 first.0 ∷ slice_set (resting reads answers (line ∷ lines) (place + 1) spoken) i (runner_of reads answers lines (place + 1 + i) next)) (others reads place line lines apart)
    ∙ ap (λ more. runner_of reads answers lines place first ∷ more) (moved reads answers line lines (place + 1) i spoken one next h further)

-- the runner that stands before a line
at_line : (reads : List ℕ → Command) (answers : Shortages) (line : Line) (lines : List Line) (spoken : Spoken) (session : Session) (replies : List Reply) → slice_get spoken line.session ≡ Some (session, replies)
    → slice_get (resting reads answers (line ∷ lines) 0 spoken) line.session
    ≡ Some (advance (answers line.session) (reads line.statement ∷ commands_of reads line.session lines) replies session)
at_line reads answers line lines spoken session replies h =
    let zeroth : 0 + line.session ≡ line.session = omega arith in
    found reads answers (line ∷ lines) 0 line.session spoken (session, replies) h
    ∙ ap (λ n. Some (runner_of reads answers (line ∷ lines) n (session, replies))) zeroth
    ∙ ap (λ texts. Some (advance (answers line.session) texts replies session)) (own reads line.session line lines refl)

-- the sessions behind a line
put_behind : (reads : List ℕ → Command) (answers : Shortages) (line : Line) (lines : List Line) (spoken : Spoken) (one next : Session × List Reply) → slice_get spoken line.session ≡ Some one
    → slice_set (resting reads answers (line ∷ lines) 0 spoken) line.session (runner_of reads answers lines line.session next)
    ≡ resting reads answers lines 0 (slice_set spoken line.session next)
put_behind reads answers line lines spoken one next h =
    let zeroth : line.session ≡ 0 + line.session = omega arith in
    ap (λ n. slice_set (resting reads answers (line ∷ lines) 0 spoken) line.session (runner_of reads answers lines n next)) zeroth
    ∙ moved reads answers line lines 0 line.session spoken one next h zeroth

regrouped : {A B C : Type 0} (o : Option A) (f : A → Option B) (g : B → Option C) → option_and_then (λ x. option_and_then g (f x)) o ≡ option_and_then g (option_and_then f o)
regrouped None f g = refl
regrouped (Some x) f g = refl

-- ---- one line

-- a line without a moment
by_itself : (reads : List ℕ → Command) (answers : Shortages) (line : Line) (lines : List Line) (shared : Shared) (spoken : Spoken) (session : Session) (replies : List Reply) (said : Said) → slice_get spoken line.session ≡ Some (session, replies)
    → alone (answers line.session session.statement) session (reads line.statement) ≡ Some said
    → state_before reads answers (line ∷ lines) shared spoken ≡ state_before reads answers lines shared (answered_at line.session said replies spoken)
by_itself reads answers line lines shared spoken session replies said h served =
    let todo : List Command = commands_of reads line.session lines in
    let went : advance (answers line.session) (reads line.statement ∷ todo) replies session ≡ advance (answers line.session) todo (replies ++ said.1 ∷ []) said.0
    = ap (λ (answer : Option Said). option_map_or (λ (s : Said). advance (answers line.session) todo (replies ++ s.1 ∷ []) s.0)
    answer (record { session = session; replies = replies; todo = reads line.statement ∷ todo })) served in
    let there : slice_get (resting reads answers (line ∷ lines) 0 spoken) line.session ≡ Some (advance (answers line.session) todo (replies ++ said.1 ∷ []) said.0)
    = at_line reads answers line lines spoken session replies h ∙ ap (λ (runner : Runner). Some runner) went in
    ap (λ runners. record { shared = shared; runners = runners })
    (sym (put_same (resting reads answers (line ∷ lines) 0 spoken) line.session (advance (answers line.session) todo (replies ++ said.1 ∷ []) said.0) there)
    ∙ put_behind reads answers line lines spoken (session, replies) (said.0, replies ++ said.1 ∷ []) h)

-- a line that waits for a moment
waits : (reads : List ℕ → Command) (answers : Shortages) (line : Line) (lines : List Line) (spoken : Spoken) (session : Session) (replies : List Reply) → slice_get spoken line.session ≡ Some (session, replies)
    → alone (answers line.session session.statement) session (reads line.statement) ≡ None
    → slice_get (resting reads answers (line ∷ lines) 0 spoken) line.session
    ≡ Some (record { session = session; replies = replies; todo = reads line.statement ∷ commands_of reads line.session lines })
waits reads answers line lines spoken session replies h none =
    let todo : List Command = commands_of reads line.session lines in
    at_line reads answers line lines spoken session replies h
    ∙ ap (λ (answer : Option Said). Some (option_map_or (λ (s : Said). advance (answers line.session) todo (replies ++ s.1 ∷ []) s.0)
    answer (record { session = session; replies = replies; todo = reads line.statement ∷ todo }))) none

-- a line with one moment
by_moment : (reads : List ℕ → Command) (address : List ℕ → List ℕ) (epoch : ℤ) (answers : Shortages) (line : Line) (lines : List Line) (turn : Turn) (spoken : Spoken) (session : Session) (replies : List Reply) (said : Said)
    → slice_get spoken line.session ≡ Some (session, replies)
    → ServedIn address epoch (answers line.session session.statement) session (reads line.statement) (turn ∷ []) said
    → step address epoch answers (moment_of_turn line.session turn) (state_before reads answers (line ∷ lines) turn.found spoken)
    ≡ Some (state_before reads answers lines turn.left (answered_at line.session said replies spoken))
by_moment reads address epoch answers line lines turn spoken session replies said h served =
    step_here address epoch answers (moment_of_turn line.session turn) turn.found (resting reads answers (line ∷ lines) 0 spoken) session replies (reads line.statement)
    (commands_of reads line.session lines) (turn.left, Past said) (waits reads answers line lines spoken session replies h served.waits) (sym served.numbered) served.waits served.answered
    ∙ ap (λ runners. Some (record { shared = turn.left; runners = runners }))
    (put_behind reads answers line lines spoken (session, replies) (said.0, replies ++ said.1 ∷ []) h)

-- a line with a start and a decision, on the state that the start left
by_moments : (reads : List ℕ → Command) (address : List ℕ → List ℕ) (epoch : ℤ) (answers : Shortages) (line : Line) (lines : List Line) (start decision : Turn) (spoken : Spoken) (session : Session) (replies : List Reply) (said : Said)
    → slice_get spoken line.session ≡ Some (session, replies)
    → ServedIn address epoch (answers line.session session.statement) session (reads line.statement) (start ∷ decision ∷ []) said → decision.found ≡ start.left
    → option_and_then (step address epoch answers (moment_of_turn line.session decision)) (step address epoch answers (moment_of_turn line.session start) (state_before reads answers (line ∷ lines) start.found spoken))
    ≡ Some (state_before reads answers lines decision.left (answered_at line.session said replies spoken))
by_moments reads address epoch answers line lines start decision spoken session replies said h served follows =
    let runners : List Runner = resting reads answers (line ∷ lines) 0 spoken in
    let todo : List Command = commands_of reads line.session lines in
    let before : Runner = record { session = session; replies = replies; todo = reads line.statement ∷ todo } in
    let pending : Runner = record { session = awaiting session served.transaction served.place; replies = replies; todo = reads line.statement ∷ todo } in
    let waiting : slice_get runners line.session ≡ Some before = waits reads answers line lines spoken session replies h served.waits in
    let first : step address epoch answers (moment_of_turn line.session start) (state_before reads answers (line ∷ lines) start.found spoken)
    ≡ Some (record { shared = start.left; runners = slice_set runners line.session pending })
    = step_here address epoch answers (moment_of_turn line.session start) start.found runners session replies (reads line.statement)
    todo (start.left, Still served.transaction served.place) waiting (sym served.numbered) served.waits served.started in
    let there : slice_get (slice_set runners line.session pending) line.session ≡ Some pending = get_put runners line.session before pending waiting in
    ap (option_and_then (step address epoch answers (moment_of_turn line.session decision))) first
    ∙ ap (λ shared. step address epoch answers (moment_of_turn line.session decision) (record { shared = shared; runners = slice_set runners line.session pending })) (sym follows)
    ∙ step_here address epoch answers (moment_of_turn line.session decision) decision.found (slice_set runners line.session pending) (awaiting session served.transaction served.place) replies (reads line.statement)
    todo (decision.left, Past said) there (sym served.numbered_again)
    (behind_waits (answers line.session session.statement) (awaiting session served.transaction served.place) (reads line.statement)
    (behind_start address epoch (answers line.session session.statement) start.found session (reads line.statement) start.left served.transaction served.place served.started))
    served.answered
    ∙ ap (λ runners. Some (record { shared = decision.left; runners = runners }))
    (set-set runners line.session pending (advance (answers line.session) todo (replies ++ said.1 ∷ []) said.0)
    ∙ put_behind reads answers line lines spoken (session, replies) (said.0, replies ++ said.1 ∷ []) h)

-- a line served with these moments, whatever moments follow
pub goes : (reads : List ℕ → Command) (address : List ℕ → List ℕ) (epoch : ℤ) (answers : Shortages) (line : Line) (lines : List Line) (shared last : Shared) (turns : List Turn) (spoken : Spoken) (session : Session) (replies : List Reply) (said : Said)
    → slice_get spoken line.session ≡ Some (session, replies)
    → ServedIn address epoch (answers line.session session.statement) session (reads line.statement) turns said → TurnsFollow shared turns last → (more : List Moment)
    → steps_along address epoch answers (moments_of line.session turns ++ more) (state_before reads answers (line ∷ lines) shared spoken)
    ≡ steps_along address epoch answers more (state_before reads answers lines last (answered_at line.session said replies spoken))
goes reads address epoch answers line lines shared last [] spoken session replies said h served follows more =
    ap (steps_along address epoch answers more)
    (by_itself reads answers line lines shared spoken session replies said h served
    ∙ ap (λ state. state_before reads answers lines state (answered_at line.session said replies spoken)) follows)
goes reads address epoch answers line lines shared last (turn ∷ []) spoken session replies said h served follows more =
    ap (λ state. option_and_then (steps_along address epoch answers more) (step address epoch answers (moment_of_turn line.session turn) (state_before reads answers (line ∷ lines) state spoken))) (sym follows.0)
    ∙ ap (option_and_then (steps_along address epoch answers more))
    (by_moment reads address epoch answers line lines turn spoken session replies said h served
    ∙ ap (λ state. Some (state_before reads answers lines state (answered_at line.session said replies spoken))) follows.1)
goes reads address epoch answers line lines shared last (start ∷ decision ∷ []) spoken session replies said h served follows more =
    ap (λ state. option_and_then (λ next. option_and_then (steps_along address epoch answers more) (step address epoch answers (moment_of_turn line.session decision) next))
    (step address epoch answers (moment_of_turn line.session start) (state_before reads answers (line ∷ lines) state spoken))) (sym follows.0)
    ∙ regrouped (step address epoch answers (moment_of_turn line.session start) (state_before reads answers (line ∷ lines) start.found spoken))
    (step address epoch answers (moment_of_turn line.session decision)) (steps_along address epoch answers more)
    ∙ ap (option_and_then (steps_along address epoch answers more))
    (by_moments reads address epoch answers line lines start decision spoken session replies said h served follows.1.0
    ∙ ap (λ state. Some (state_before reads answers lines state (answered_at line.session said replies spoken))) follows.1.1)
goes reads address epoch answers line lines shared last (one ∷ two ∷ three ∷ turns) spoken session replies said h served follows more = absurd served

pub first_runners : (reads : List ℕ → Command) (answers : Shortages) (lines : List Line) (place : ℕ) (names : List (List ℕ))
    → runners_of reads answers lines place names ≡ resting reads answers lines place (new_spoken place names)
first_runners reads answers lines place [] = refl
first_runners reads answers lines place (name ∷ names) =
    ap (λ more. runner_of reads answers lines place (new_session place name, []) ∷ more) (first_runners reads answers lines (place + 1) names)
