use Rattle.session_plan.proofs.RootLemmas.{has_commit, root_kept}
use Rattle.session_plan.proofs.roots.head_root.Goals as goal

pub read_commit-requires-after_bounds : goal.read_commit-requires-after_bounds
read_commit-requires-after_bounds g c κs within =
    has_commit g.D.Digester.address c.law_of_chunks.ensures c.law_of_standing_commits.ensures c.args.draft.now.chunks c.requires.0 c.requires.1 c.args.head.now.0 c.requires.2

pub returns : goal.returns
returns g c = λ commits there known.
    root_kept g.D.Digester.address c.law_of_chunks.ensures c.law_of_standing_commits.ensures c.args.draft.now.chunks commits there c.args.head.now.0
    c.law_of_commits.ensures c.law_of_databases.ensures known c.in_ok-commit.commit c.in_ok-commit.ensures
