use Rattle.system_tables.proofs.SessionLemmas.{at_head}
use Rattle.system_tables.proofs.tables.shown_ancestors.Goals as goal

pub commit_ancestors-requires-after_bounds : goal.commit_ancestors-requires-after_bounds
commit_ancestors-requires-after_bounds g c κs within =
    let (p, t, stands, there) = c.requires in
    (t, at_head g.D.Digester.address c.args.session.now p t stands there c.law_of_chunks.ensures c.law_of_standing_commits.ensures)

pub returns : goal.returns
returns g c = λ p t stands there. c.commit_ancestors.ensures t (at_head g.D.Digester.address c.args.session.now p t stands there c.law_of_chunks.ensures c.law_of_standing_commits.ensures)
