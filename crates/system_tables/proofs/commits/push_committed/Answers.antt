use Rattle.std.proofs.Common.{◌∙◌, ◌++◌, ◌∷◌, [], ap}
use Rattle.chunk_store.specs.Drafts.{chunks_of}
use Rattle.commit_graph.specs.Commits.{parts_of}
use Rattle.tuple_codec.specs.Rows.{Cells}
use Rattle.tuple_codec.specs.declared.values.Value.TheVariants as cell
use Rattle.system_tables.proofs.CommitLemmas.{has_commit, shown}
use Rattle.system_tables.proofs.RowLemmas.{three}
use Rattle.system_tables.proofs.commits.push_committed.Goals as goal

pub read_commit-requires-after_bounds : goal.read_commit-requires-after_bounds
read_commit-requires-after_bounds g c κs within =
    has_commit g.D.Digester.address (chunks_of c.args.draft.now.chunks) c.args.address.now.0 c.law_of_standing_commits.ensures c.requires.0 c.requires.1

pub returns : goal.returns
returns g c = λ commits are.
    let commit = c.in_ok-commit.commit in
    three c.args.row.now c.push.new.self c.push-2.new.self c.push-3.new.self (cell.Text commit.committer) (cell.Int commit.date) (cell.Text commit.message)
    c.in_ok-push.ensures.ok (c.in_ok-push-2.ensures.ok ∙ ap (λ value. c.push.new.self ++ value ∷ []) c.date_cell-date.ensures) c.in_ok-push-3.ensures.ok
    ∙ ap (λ (l : Cells). c.args.row.now ++ l)
    (shown g.D.Digester.address (chunks_of c.args.draft.now.chunks) c.args.address.now.0 c.law_of_standing_commits.ensures commits are c.law_of_commits.ensures (parts_of commit) c.in_ok-commit.ensures)
