use Rattle.chunk_store.specs.Drafts.{chunks_of}
use Rattle.commit_graph.specs.Commits.{parts_of}
use Rattle.system_tables.proofs.CommitLemmas.{has_commit, known_root, root_kept}
use Rattle.system_tables.proofs.changes.own_root.Goals as goal

pub read_commit-requires-after_bounds : goal.read_commit-requires-after_bounds
read_commit-requires-after_bounds g c κs within =
    let address = g.D.Digester.address in
    let chunks = chunks_of c.args.draft.now.chunks in
    let k = c.args.head.now.0 in
    let t = c.requires.0 in
    has_commit address chunks k c.law_of_standing_commits.ensures t.commits (known_root address chunks k c.law_of_standing_commits.ensures t c.requires.1)

pub returns : goal.returns
returns g c = λ t of.
    root_kept g.D.Digester.address (chunks_of c.args.draft.now.chunks) c.args.head.now.0 c.law_of_standing_commits.ensures t of c.law_of_commits.ensures (parts_of c.in_ok-commit.commit) c.in_ok-commit.ensures
