use Rattle.std.proofs.Common.{refl, None}
use Rattle.serving.proofs.OpenLemmas.{anew_decided}
use Rattle.serving.proofs.beginning.begin_anew.Goals as goal

pub decide_in-requires-clause-asks : goal.decide_in-requires-clause-asks
decide_in-requires-clause-asks g c κs within =
    let held = c.requires.open in (held.0, held.1, None, held.2.at, record { stands = held.2.at.stands; has = held.3; of = refl })

pub returns-clause-answered : goal.returns-clause-answered
returns-clause-answered g c =
    anew_decided g.D.Digester.address _ c.args.session.now c.decide_in.new.session (g.T.Meeting.tells c.args.meeting.now) (g.T.Meeting.tells c.decide_in.new.meeting) c.decide_in.result
    c.decide_in.ensures.decided
