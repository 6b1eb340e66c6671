use Rattle.std.proofs.Common.{refl, ap}
use Rattle.plain_sessions.specs.Commands.{command}
use Rattle.session_state.specs.declared.sessions.Session.{Session}
use Rattle.script_run.proofs.ServedLemmas.{passes_at}
use Rattle.script_run.proofs.asking.serve_text.Goals as goal

pub returns-in-Err-clause-served : goal.returns-in-Err-clause-served
returns-in-Err-clause-served g c = λ p before.
    passes_at g.D.Digester.address c.args.epoch p (command c.args.text.now) (g.T.Meeting.tells c.args.meeting.now) c.args.session.now c.answer_fault.new.session c.answer_fault.result before
    (ap (λ (s : Session g.row.D.Denot). s.number) c.answer_fault.ensures.same) (ap (λ (s : Session g.row.D.Denot). s.branch) c.answer_fault.ensures.same)
    (ap (λ (s : Session g.row.D.Denot). s.draft.chunks.base) c.answer_fault.ensures.same)
    (c.answer_fault.ensures.alone p (command c.args.text.now) before.at.stands before.before refl)
