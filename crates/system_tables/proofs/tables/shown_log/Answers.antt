use Rattle.system_tables.proofs.SessionLemmas.{at_head}
use Rattle.system_tables.proofs.tables.shown_log.Goals as goal

pub log-requires-after_bounds : goal.log-requires-after_bounds
log-requires-after_bounds g c κs within =
    let (p, t, stands, there) = c.requires in
    (t, at_head g.D.Digester.address c.args.session.now p t stands there c.law_of_chunks.ensures c.law_of_standing_commits.ensures)

pub returns : goal.returns
returns g c = λ p t stands there. c.log.ensures t (at_head g.D.Digester.address c.args.session.now p t stands there c.law_of_chunks.ensures c.law_of_standing_commits.ensures)
