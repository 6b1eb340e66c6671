use Rattle.std.proofs.Common.{◌≡◌, ◌∙◌, ◌++◌, ◌∷◌, [], ap, sym, append-nil, map, List, ℕ}
use Rattle.std.specs.List.{enumerate_from}
use Rattle.chunk_store.specs.Drafts.{chunks_of}
use Rattle.commit_graph.specs.Commits.{parts_of}
use Rattle.plain_sessions.specs.SystemTables.{parent_row, parent_rows}
use Rattle.schema_model.specs.PlainCommits.{parents_of}
use Rattle.tuple_codec.specs.Rows.{Cells}
use Rattle.system_tables.specs.Rows.{all_parent_rows, bytes_of}
use Rattle.system_tables.proofs.CommitLemmas.{found_parents, has_commit}
use Rattle.system_tables.proofs.RowLemmas.{on_ok_same}
use Rattle.system_tables.proofs.parents.push_parents_of.Goals as goal

pub read_commit-requires-after_bounds : goal.read_commit-requires-after_bounds
read_commit-requires-after_bounds g c κs within =
    has_commit g.D.Digester.address (chunks_of c.args.draft.now.chunks) c.args.address.now.0 c.law_of_standing_commits.ensures c.requires.0 c.requires.1

pub returns : goal.returns
returns g c = λ commits are.
    let k = c.args.address.now.0 in
    let parents : bytes_of c.as_slice.result.now ≡ parents_of commits k =
    ap bytes_of c.as_slice.ensures
    ∙ found_parents g.D.Digester.address (chunks_of c.args.draft.now.chunks) k c.law_of_standing_commits.ensures commits are c.law_of_commits.ensures (parts_of c.in_ok-commit.commit) c.in_ok-commit.ensures in
    on_ok_same c.push_parents.result c.push_parents.new.rows (c.args.rows.now ++ map (parent_row k) (enumerate_from 0 (bytes_of c.as_slice.result.now))) (c.args.rows.now ++ all_parent_rows commits (k ∷ []))
    (ap (λ (ks : List (List ℕ)). c.args.rows.now ++ map (parent_row k) (enumerate_from 0 ks)) parents ∙ ap (λ (l : List Cells). c.args.rows.now ++ l) (sym (append-nil (parent_rows commits k))))
    c.push_parents.ensures
