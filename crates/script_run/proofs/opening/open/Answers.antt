use Rattle.std.proofs.Common.{◌≡◌, ◌∙◌, sym, ap, subst, List, ℕ, ℤ, length, w64}
use Rattle.std.proofs.lemmas.Int.{to_z-of_z}
use Rattle.script_text.specs.declared.scripts.Line.{Line}
use Rattle.plain_sessions.specs.Records.{opening}
use Rattle.session_state.specs.Changes.{StateStands}
use Rattle.script_run.specs.Opening.{AreNew, counts}
use Rattle.script_run.proofs.CountLemmas.{as_many}
use Rattle.script_run.proofs.OpenLemmas.{run_opened}
use Rattle.script_run.proofs.opening.open.Goals as goal

pub new_speakers-requires-clause-lists : goal.new_speakers-requires-clause-lists
new_speakers-requires-clause-lists g c κs within =
    ap length (c.as_slice-2.ensures.value ∙ c.in_ok-statements.ensures) ∙ as_many (length c.as_slice-names.result.now) c.as_slice.result.now

pub returns-clause-opened : goal.returns-clause-opened
returns-clause-opened g c =
    let are : c.as_slice-3.result.now ≡ counts (length c.args.script.now.names) c.args.script.now.lines
    = c.as_slice-3.ensures.value ∙ c.in_ok-statements.ensures ∙ ap (λ (names : List (List ℕ)). counts (length names) c.as_slice.result.now) c.as_slice-names.ensures
    ∙ ap (λ (lines : List Line). counts (length c.args.script.now.names) lines) c.as_slice.ensures in
    run_opened g.D.Digester.address c.args.epoch c.args.script.now _ c.as_slice-3.result.now c.law_of_lines.ensures are
    (λ names same. subst (λ (e : ℤ). StateStands g.D.Digester.address c.in_ok-lone.lone.db.parts (opening g.D.Digester.address e names)) (to_z-of_z w64 c.args.epoch c.ranges.epoch) (c.in_ok-lone.ensures.opening names same))
    c.in_ok-lone.ensures.moments c.in_ok-lone.ensures.numbers (record { alone = c.in_ok-lone.ensures.ready; free = c.in_ok-lone.ensures.free })
    (subst (λ (names : List (List ℕ)). AreNew g.D.Digester.address names c.as_slice-3.result.now c.in_ok-speakers.speakers.items) c.as_slice-names.ensures
    (subst (λ (statements : List ℕ). AreNew g.D.Digester.address c.as_slice-names.result.now statements c.in_ok-speakers.speakers.items)
    (c.as_slice-2.ensures.value ∙ sym c.as_slice-3.ensures.value) c.in_ok-speakers.ensures))
