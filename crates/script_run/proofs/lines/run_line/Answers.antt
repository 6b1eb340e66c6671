use Rattle.std.proofs.Common.{◌≡◌, List, ℕ, ℤ, length, refl, subst, sym, true, arith, w64}
use Rattle.std.proofs.lemmas.Int.{to_z-of_z}
use Rattle.plain_sessions.specs.Commands.{command}
use Rattle.script_run.specs.Running.{Speaks}
use Rattle.script_run.specs.Scripts.{is_statement_text}
use Rattle.script_run.proofs.LineLemmas.{has_room, has_text, has_turns, may_number, next_of, run_further, session_there}
use Rattle.script_run.proofs.lines.run_line.Goals as goal

pub index_mut-speaker-requires : goal.index_mut-speaker-requires
index_mut-speaker-requires g c =
    let len : c.args.running.now.speakers.len ≡ length c.args.running.now.speakers.items = c.args.running.now.speakers.ok.0 in
    let there = session_there g.D.Digester.address c.args.epoch c.args.script.now c.args.at c.args.running.now c.as_slice.result.now c.index-as_slice-at.result c.requires.sound c.requires.there c.as_slice.ensures c.index-as_slice-at.is c.requires.before in
    omega (arith, there)

pub speak-requires-clause-before : goal.speak-requires-clause-before
speak-requires-clause-before g c κs within =
    let next = next_of g.D.Digester.address c.args.epoch c.args.script.now c.args.at c.args.running.now c.as_slice.result.now c.index-as_slice-at.result c.index_mut-speaker.result.now c.requires.sound c.requires.there c.as_slice.ensures c.index-as_slice-at.is c.requires.before c.index_mut-speaker.ensures.value in
    (next.p, next.now.shared, next.is.before)

pub speak-requires-clause-place : goal.speak-requires-clause-place
speak-requires-clause-place g c κs within =
    let next = next_of g.D.Digester.address c.args.epoch c.args.script.now c.args.at c.args.running.now c.as_slice.result.now c.index-as_slice-at.result c.index_mut-speaker.result.now c.requires.sound c.requires.there c.as_slice.ensures c.index-as_slice-at.is c.requires.before c.index_mut-speaker.ensures.value in
    may_number next

pub speak-requires-clause-rest : goal.speak-requires-clause-rest
speak-requires-clause-rest g c κs within = c.requires.before.rest

pub speak-requires-clause-turns : goal.speak-requires-clause-turns
speak-requires-clause-turns g c κs within =
    let next = next_of g.D.Digester.address c.args.epoch c.args.script.now c.args.at c.args.running.now c.as_slice.result.now c.index-as_slice-at.result c.index_mut-speaker.result.now c.requires.sound c.requires.there c.as_slice.ensures c.index-as_slice-at.is c.requires.before c.index_mut-speaker.ensures.value in
    has_turns next

pub speak-requires-clause-room : goal.speak-requires-clause-room
speak-requires-clause-room g c κs within =
    let next = next_of g.D.Digester.address c.args.epoch c.args.script.now c.args.at c.args.running.now c.as_slice.result.now c.index-as_slice-at.result c.index_mut-speaker.result.now c.requires.sound c.requires.there c.as_slice.ensures c.index-as_slice-at.is c.requires.before c.index_mut-speaker.ensures.value in
    has_room next

pub speak-requires-clause-spelled : goal.speak-requires-clause-spelled
speak-requires-clause-spelled g c κs within =
    let next = next_of g.D.Digester.address c.args.epoch c.args.script.now c.args.at c.args.running.now c.as_slice.result.now c.index-as_slice-at.result c.index_mut-speaker.result.now c.requires.sound c.requires.there c.as_slice.ensures c.index-as_slice-at.is c.requires.before c.index_mut-speaker.ensures.value in
    subst (λ (text : List ℕ). is_statement_text text ≡ true) (sym c.as_slice-2.ensures) (has_text next)

pub returns : goal.returns
returns g c =
    let next = next_of g.D.Digester.address c.args.epoch c.args.script.now c.args.at c.args.running.now c.as_slice.result.now c.index-as_slice-at.result c.index_mut-speaker.result.now c.requires.sound c.requires.there c.as_slice.ensures c.index-as_slice-at.is c.requires.before c.index_mut-speaker.ensures.value in
    run_further next _ c.speak.new.speaker c.law_of_lines.ensures
    (subst (λ (text : List ℕ). Speaks g.D.Digester.address c.args.epoch next.p (command text) next.now.shared c.args.running.now.lone.db.parts c.speak.new.lone.db.parts c.index_mut-speaker.result.now c.speak.new.speaker)
    c.as_slice-2.ensures
    (subst (λ (e : ℤ). Speaks g.D.Digester.address e next.p (command c.as_slice-2.result.now) next.now.shared c.args.running.now.lone.db.parts c.speak.new.lone.db.parts c.index_mut-speaker.result.now c.speak.new.speaker)
    (to_z-of_z w64 c.args.epoch c.ranges.epoch) (c.speak.ensures.speaks next.p next.now.shared next.is.before)))
    refl c.speak.ensures.room c.speak.ensures.rest
