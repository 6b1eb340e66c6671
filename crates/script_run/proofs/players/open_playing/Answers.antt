use Rattle.std.proofs.Common.{◌≡◌, ◌∙◌, sym, ap, subst, List, ℕ, ℤ, length, w64}
use Rattle.std.proofs.lemmas.Int.{to_z-of_z}
use Rattle.script_text.specs.declared.scripts.Line.{Line}
use Rattle.plain_sessions.specs.Records.{opening}
use Rattle.session_state.specs.Changes.{StateStands}
use Rattle.script_run.specs.Opening.{AreNewPlayers, counts}
use Rattle.script_run.proofs.CountLemmas.{as_many}
use Rattle.script_run.proofs.PlayerLemmas.{play_opened}
use Rattle.script_run.proofs.players.open_playing.Goals as goal

pub new_players-requires-clause-lists : goal.new_players-requires-clause-lists
new_players-requires-clause-lists g c κs within =
    ap length (c.as_slice.ensures.value ∙ c.in_ok-statements.ensures) ∙ as_many (length c.as_slice-names.result.now) c.as_slice-lines.result.now

pub returns-clause-opened : goal.returns-clause-opened
returns-clause-opened g c =
    let are : c.as_slice-2.result.now ≡ counts (length c.args.script.now.names) c.args.script.now.lines
    = c.as_slice-2.ensures.value ∙ c.in_ok-statements.ensures ∙ ap (λ (names : List (List ℕ)). counts (length names) c.as_slice-lines.result.now) c.as_slice-names.ensures
    ∙ ap (λ (lines : List Line). counts (length c.args.script.now.names) lines) c.as_slice-lines.ensures in
    play_opened g.D.Digester.address c.args.epoch c.args.script.now _ c.as_slice-2.result.now c.law_of_orders.ensures c.requires.sound are
    (λ names same. subst (λ (e : ℤ). StateStands g.D.Digester.address c.in_ok-lone.lone.db.parts (opening g.D.Digester.address e names)) (to_z-of_z w64 c.args.epoch c.ranges.epoch) (c.in_ok-lone.ensures.opening names same))
    c.in_ok-lone.ensures.moments c.in_ok-lone.ensures.numbers (record { alone = c.in_ok-lone.ensures.ready; free = c.in_ok-lone.ensures.free })
    (subst (λ (names : List (List ℕ)). AreNewPlayers g.D.Digester.address names c.args.script.now.lines c.as_slice-2.result.now c.in_ok-players.players.items) c.as_slice-names.ensures
    (subst (λ (lines : List Line). AreNewPlayers g.D.Digester.address c.as_slice-names.result.now lines c.as_slice-2.result.now c.in_ok-players.players.items) c.as_slice-lines.ensures
    (subst (λ (statements : List ℕ). AreNewPlayers g.D.Digester.address c.as_slice-names.result.now c.as_slice-lines.result.now statements c.in_ok-players.players.items)
    (c.as_slice.ensures.value ∙ sym c.as_slice-2.ensures.value) c.in_ok-players.ensures)))
