use Rattle.std.proofs.Common.{◌∙◌, sym}
use Rattle.serving.proofs.BeginLemmas.{anew_begun, changed_open}
use Rattle.serving.proofs.beginning.begin.Goals as goal

pub begin_anew-requires-clause-open : goal.begin_anew-requires-clause-open
begin_anew-requires-clause-open g c κs within =
    let held = c.requires.before in
    let way = changed_open held.0 (sym (c.is_changed.ensures held.0 held.1.at.stands) ∙ c.if-is_changed.true) in
    (held.0, way.0, held.1, way.1)

pub returns-then-is_changed-clause-answered : goal.returns-then-is_changed-clause-answered
returns-then-is_changed-clause-answered g c =
    anew_begun g.D.Digester.address c.args.session.now c.begin_anew.new.session (g.T.Meeting.tells c.args.meeting.now) (g.T.Meeting.tells c.begin_anew.new.meeting) c.is_changed.result
    c.is_changed.ensures c.if-is_changed.true c.begin_anew.result c.begin_anew.ensures.answered

pub returns-in_ok-begin_unchanged-clause-answered : goal.returns-in_ok-begin_unchanged-clause-answered
returns-in_ok-begin_unchanged-clause-answered g c = λ e p before.
    c.in_ok-begin_unchanged.ensures.answered e p before (sym (c.is_changed.ensures p before.at.stands) ∙ c.if-is_changed.false)
