-- Where a run has come to after its first lines, and that it ends as the machine's run.
use Rattle.std.proofs.Common.{◌≡◌, refl, sym, ◌∙◌, ap, subst, ℕ, ℤ, suc, ◌+◌, ◌<◌, ◌≤◌, true, false, ◌==◌, List, [], ◌∷◌, ◌++◌, length, map, take, drop, Option, Some, slice_get, arith, if◌then◌else◌}
use Rattle.std.specs.Option.{option_map}
use Rattle.std.specs.List.{list_all}
use Rattle.std.proofs.lemmas.List.{drop_all, length-map, length-set}
use Rattle.std.proofs.lemmas.Option.{slice_get_within}
use Rattle.std.proofs.lemmas.Bool.Decides.{nat_tests}
use Rattle.std.proofs.lemmas.Bool.{and_from as join}
use Rattle.tuple_codec.proofs.Lists.{drop_at_get, take_at_get}
use Rattle.script_text.specs.Output.{Shortage, shortage, shortages_in}
use Rattle.script_text.specs.declared.replies.Reply.{Reply}
use Rattle.script_text.specs.declared.scripts.Line.{Line}
use Rattle.script_text.specs.declared.scripts.Moment.{Moment}
use Rattle.script_text.specs.declared.scripts.Script.{Script}
use Rattle.plain_sessions.specs.Output.{IsPlainRun, shown, shown_branch}
use Rattle.plain_sessions.specs.Records.{Shared, opening}
use Rattle.plain_sessions.specs.Sessions.{Said, Session}
use Rattle.plain_sessions.specs.declared.commands.Command.{Command}
use Rattle.plain_sessions.specs.Runs.{commands_of, plain_run}
use Rattle.run_laws.specs.Turns.{Turn, ServedIn, TurnsFollow, moments_of}
use Rattle.run_laws.specs.Orders.{count_of}
use Rattle.run_laws.specs.Lines.{AreCounted, IsRunTo, SoFar, Spoken, answered_at, new_spoken, replies_of, state_before}
use Rattle.run_laws.specs.Laws.{shown_by}
use Rattle.run_laws.proofs.LineLemmas.{counted_first, counted_next, run_at_end, said_at_end, so_far_first, so_far_next}
use Rattle.run_laws.proofs.OrderLemmas.{is_of, order_first, order_next}
use Rattle.run_laws.proofs.Steps.{served_number}

pub served_moments : (address : List ℕ → List ℕ) (epoch : ℤ) (answer : Option Shortage) (session : Session) (command : Command) (turns : List Turn) (said : Said)
    → ServedIn address epoch answer session command turns said → length turns ≤ 2
served_moments address epoch answer session command [] said served = omega arith
served_moments address epoch answer session command (turn ∷ []) said served = omega arith
served_moments address epoch answer session command (start ∷ decision ∷ []) said served = omega arith
served_moments address epoch answer session command (one ∷ two ∷ three ∷ turns) said served = absurd served

moment_at_number : (place number : ℕ) (turn : Turn) → turn.statement ≡ number → is_of place number (record { session = place; statement = turn.statement }) ≡ true
moment_at_number place number turn is =
    let own : (place == place) ≡ true = grind (arith, nat_tests) in
    let same : (turn.statement == number) ≡ true = grind (arith, nat_tests) in
    join (place == place) (turn.statement == number) own same

served_at_number : (address : List ℕ → List ℕ) (epoch : ℤ) (answer : Option Shortage) (place : ℕ) (session : Session) (command : Command) (turns : List Turn) (said : Said)
    → ServedIn address epoch answer session command turns said → list_all (is_of place session.statement) (moments_of place turns) ≡ true
served_at_number address epoch answer place session command [] said served = refl
served_at_number address epoch answer place session command (turn ∷ []) said served =
    join (is_of place session.statement (record { session = place; statement = turn.statement })) true (moment_at_number place session.statement turn served.numbered) refl
served_at_number address epoch answer place session command (start ∷ decision ∷ []) said served =
    join (is_of place session.statement (record { session = place; statement = start.statement }))
    (list_all (is_of place session.statement) (moments_of place (decision ∷ [])))
    (moment_at_number place session.statement start served.numbered)
    (join (is_of place session.statement (record { session = place; statement = decision.statement })) true (moment_at_number place session.statement decision served.numbered_again) refl)
served_at_number address epoch answer place session command (one ∷ two ∷ three ∷ turns) said served = absurd served

pub commands_counted : (reads : List ℕ → Command) (place : ℕ) (lines : List Line) → length (commands_of reads place lines) ≡ count_of place lines
commands_counted reads place [] = refl
commands_counted reads place (line ∷ lines) =
    elim (line.session == place) as (λ test. length (if test then reads line.statement ∷ commands_of reads place lines else commands_of reads place lines) ≡ (if test then suc (count_of place lines) else count_of place lines)) [
      | true ↦ ap suc (commands_counted reads place lines)
      | false ↦ commands_counted reads place lines
    ]

pub as_many : (place : ℕ) (names : List (List ℕ)) → length (new_spoken place names) ≡ length names
as_many place [] = refl
as_many place (name ∷ names) = ap suc (as_many (place + 1) names)

pub run_first : (reads : List ℕ → Command) (address : List ℕ → List ℕ) (epoch : ℤ) (script : Script)
    → IsRunTo reads address epoch script 0 [] (opening address epoch script.names) (new_spoken 0 script.names)
run_first reads address epoch script = record {
  lists = as_many 0 script.names;
  counted = λ place session replies h. counted_first 0 script.names place session replies h;
  run = so_far_first reads address epoch script;
  order_to = order_first script;
}

pub run_next : (reads : List ℕ → Command) (address : List ℕ → List ℕ) (epoch : ℤ) (script : Script) (count : ℕ) (order : List Moment) (shared last : Shared) (spoken : Spoken)
    (line : Line) (session : Session) (replies : List Reply) (turns : List Turn) (said : Said)
    → slice_get script.lines count ≡ Some line → slice_get spoken line.session ≡ Some (session, replies)
    → ServedIn address epoch (shortage said.1) session (reads line.statement) turns said → TurnsFollow shared turns last
    → IsRunTo reads address epoch script count order shared spoken
    → IsRunTo reads address epoch script (count + 1) (order ++ moments_of line.session turns) last (answered_at line.session said replies spoken)
run_next reads address epoch script count order shared last spoken line session replies turns said at h served follows before =
    let number = before.counted line.session session replies h in
    let taken : take (count + 1) script.lines ≡ take count script.lines ++ line ∷ [] = take_at_get script.lines count line at in
    let past = served_number address epoch (shortage said.1) session (reads line.statement) turns said served in
    let within : line.session < length spoken = slice_get_within spoken line.session (session, replies) h in
    let session_fits : line.session < length script.names = subst (λ n. line.session < n) before.lists within in
    let standing : session.statement ≡ count_of line.session (take count script.lines) + 1
    = number.1 ∙ ap (λ n. n + 1) (number.0 ∙ commands_counted reads line.session (take count script.lines)) in
    record {
      lists = length-set spoken line.session (said.0, replies ++ said.1 ∷ []) ∙ before.lists;
      counted = subst (λ (lines : List Line). AreCounted reads lines (answered_at line.session said replies spoken)) (sym taken)
          (counted_next reads (take count script.lines) spoken line session replies said h past before.counted);
      run = so_far_next reads address epoch script line (drop (count + 1) script.lines) order shared last spoken session replies turns said h number.1 served follows
          (subst (λ (rest : List Line). SoFar reads address epoch script rest order shared spoken) (drop_at_get script.lines count line at) before.run);
      order_to = order_next script count order (moments_of line.session turns) line session.statement at session_fits standing
          (served_at_number address epoch (shortage said.1) line.session session (reads line.statement) turns said served)
          (let few : length turns ≤ 2 = served_moments address epoch (shortage said.1) session (reads line.statement) turns said served in
          subst (λ n. n ≤ 2) (sym (length-map turns (λ (turn : Turn). record { session = line.session; statement = turn.statement }))) few)
          before.order_to;
    }

pub machine_at_end : (reads : List ℕ → Command) (address : List ℕ → List ℕ) (epoch : ℤ) (script : Script) (order : List Moment) (shared : Shared) (spoken : Spoken)
    → IsRunTo reads address epoch script (length script.lines) order shared spoken
    → plain_run reads address script order (shortages_in (replies_of spoken)) epoch ≡ Some (state_before reads (shortages_in (replies_of spoken)) [] shared spoken)
machine_at_end reads address epoch script order shared spoken done =
    let none : drop (length script.lines) script.lines ≡ [] = drop_all (length script.lines) script.lines (omega arith) in
    run_at_end reads address epoch script order shared spoken (subst (λ (rest : List Line). SoFar reads address epoch script rest order shared spoken) none done.run)

pub plain_at_end : (reads : List ℕ → Command) (address : List ℕ → List ℕ) (epoch : ℤ) (script : Script) (order : List Moment) (shared : Shared) (spoken : Spoken)
    → IsRunTo reads address epoch script (length script.lines) order shared spoken
    → IsPlainRun reads address epoch script (shown_by address script order shared spoken)
plain_at_end reads address epoch script order shared spoken done =
    ap (option_map (shown address script order)) (machine_at_end reads address epoch script order shared spoken done)
    ∙ ap (λ replies. Some (record { names = script.names; replies = replies; order = order; branches = map (shown_branch address) shared.branches }))
    (said_at_end reads (shortages_in (replies_of spoken)) spoken)
