use Rattle.std.proofs.Common.{◌≡◌, ◌∙◌, ◌++◌, ◌∷◌, [], ap}
use Rattle.plain_sessions.specs.SystemTables.{committed, hash}
use Rattle.tuple_codec.specs.Rows.{Cells}
use Rattle.tuple_codec.specs.declared.values.Value.{Value}
use Rattle.system_tables.specs.Rows.{commit_row}
use Rattle.system_tables.proofs.commits.push_commit.Goals as goal

pub returns : goal.returns
returns g c = λ commits are.
    let k = c.args.address.now.0 in
    let first : c.push.new.self ≡ hash k ∷ [] =
    c.in_ok-push.ensures.ok ∙ ap (λ (l : Cells). l ++ c.in_ok-hash.field-0 ∷ []) c.new-row.ensures ∙ ap (λ (v : Value). let l : Cells = v ∷ [] in l) c.in_ok-hash.ensures in
    let whole : c.push_committed.new.row ≡ commit_row commits k = c.in_ok-push_committed.ensures commits are ∙ ap (λ (l : Cells). l ++ committed (commits k)) first in
    c.in_ok-push-2.ensures.ok ∙ ap (λ (row : Cells). c.args.rows.now ++ row ∷ []) whole
