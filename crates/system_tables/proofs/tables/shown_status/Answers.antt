use Rattle.system_tables.proofs.SessionLemmas.{root_is, states_are}
use Rattle.system_tables.proofs.tables.shown_status.Goals as goal

pub own_root-requires-after_bounds : goal.own_root-requires-after_bounds
own_root-requires-after_bounds g c κs within =
    let (p, t, stands, there) = c.requires in
    (t, root_is g.D.Digester.address c.args.session.now p t stands there c.law_of_chunks.ensures c.law_of_standing_commits.ensures)

pub status-requires-after_bounds : goal.status-requires-after_bounds
status-requires-after_bounds g c κs within =
    let (p, t, stands, there) = c.requires in
    let root = c.in_ok-root.ensures t (root_is g.D.Digester.address c.args.session.now p t stands there c.law_of_chunks.ensures c.law_of_standing_commits.ensures) in
    (t, states_are g.D.Digester.address c.args.session.now p t stands there c.law_of_chunks.ensures c.law_of_standing_commits.ensures c.in_ok-root.root.0 root)

pub returns : goal.returns
returns g c = λ p t stands there.
    let root = c.in_ok-root.ensures t (root_is g.D.Digester.address c.args.session.now p t stands there c.law_of_chunks.ensures c.law_of_standing_commits.ensures) in
    c.status.ensures t (states_are g.D.Digester.address c.args.session.now p t stands there c.law_of_chunks.ensures c.law_of_standing_commits.ensures c.in_ok-root.root.0 root)
