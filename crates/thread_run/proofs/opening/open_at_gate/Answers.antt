use Rattle.std.proofs.Common.{◌≡◌, ◌∙◌, ◌≤◌, sym, ap, subst, List, ℕ, ℤ, length, w64, arith}
use Rattle.std.proofs.lemmas.Int.{to_z-of_z}
use Rattle.script_text.specs.declared.scripts.Line.{Line}
use Rattle.plain_sessions.specs.Records.{opening}
use Rattle.session_state.specs.Changes.{StateStands}
use Rattle.seat_gate.specs.History.{View}
use Rattle.seat_gate.specs.Words.{gate_id}
use Rattle.seat_gate.specs.Working.{AreNewcomers, giving_out}
use Rattle.script_run.specs.Opening.{AreNewPlayers, counts}
use Rattle.script_run.proofs.CountLemmas.{as_many}
use Rattle.thread_run.proofs.OpeningLemmas.{is_open}
use Rattle.thread_run.proofs.opening.open_at_gate.Goals as goal

pub new_players-requires-clause-lists : goal.new_players-requires-clause-lists
new_players-requires-clause-lists g c κs within =
    ap length (c.as_slice.ensures.value ∙ c.in_ok-statements.ensures) ∙ as_many (length c.as_slice-names.result.now) c.as_slice-lines.result.now

pub seat_workers-requires-clause-few : goal.seat_workers-requires-clause-few
seat_workers-requires-clause-few g c =
    let spoken = c.requires.sound.spoken in
    let few : length c.args.script.now.lines ≤ 20000 = c.requires.sound.few in
    let names : length c.as_slice-names.result.now ≡ length c.args.script.now.names = ap length c.as_slice-names.ensures in
    let lists : length c.in_ok-players.players.items ≡ length c.as_slice-names.result.now = c.in_ok-players.ensures.lists in
    let given = ap (λ (v : View). v.given) c.in_ok-gate.ensures.seat in
    omega (arith, spoken, few, names, lists, given)

pub returns-clause-opened : goal.returns-clause-opened
returns-clause-opened g c =
    let are : c.as_slice-2.result.now ≡ counts (length c.args.script.now.names) c.args.script.now.lines
    = c.as_slice-2.ensures.value ∙ c.in_ok-statements.ensures ∙ ap (λ (names : List (List ℕ)). counts (length names) c.as_slice-lines.result.now) c.as_slice-names.ensures
    ∙ ap (λ (lines : List Line). counts (length c.args.script.now.names) lines) c.as_slice-lines.ensures in
    let many : length c.args.script.now.names ≡ length c.as_slice-2.result.now = sym (ap length are ∙ as_many (length c.args.script.now.names) c.args.script.now.lines) in
    let stands = subst (λ (e : ℤ). StateStands g.D.Digester.address c.in_ok-gated.gated.db.parts (opening g.D.Digester.address e c.args.script.now.names)) (to_z-of_z w64 c.args.epoch c.ranges.epoch)
    (c.in_ok-gated.ensures.opening c.args.script.now.names many) in
    let new = subst (λ (names : List (List ℕ)). AreNewPlayers g.D.Digester.address names c.args.script.now.lines c.as_slice-2.result.now c.in_ok-players.players.items) c.as_slice-names.ensures
    (subst (λ (lines : List Line). AreNewPlayers g.D.Digester.address c.as_slice-names.result.now lines c.as_slice-2.result.now c.in_ok-players.players.items) c.as_slice-lines.ensures
    (subst (λ (statements : List ℕ). AreNewPlayers g.D.Digester.address c.as_slice-names.result.now c.as_slice-lines.result.now statements c.in_ok-players.players.items)
    (c.as_slice.ensures.value ∙ sym c.as_slice-2.ensures.value) c.in_ok-players.ensures)) in
    is_open g.D.Digester.address c.args.epoch c.args.script.now c.in_ok-gated.gated.db.parts c.as_slice-2.result.now c.in_ok-players.players.items c.requires.sound are stands c.in_ok-gated.ensures.numbers c.in_ok-gated.ensures.fits.moments new
    (record { gate = c.in_ok-gate.gate; first = c.seat_workers.new.first; workers = c.in_ok-workers.workers }) c.seat_workers.ensures.gate
    (c.in_ok-workers.ensures.first ∙ ap (giving_out (length c.in_ok-players.players.items)) c.in_ok-gate.ensures.seat)
    (subst (λ (v : View). AreNewcomers (gate_id c.in_ok-gate.gate) v c.in_ok-players.players.items c.in_ok-workers.workers.items) c.in_ok-gate.ensures.seat c.in_ok-workers.ensures.new)
