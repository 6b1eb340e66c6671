use Rattle.std.proofs.Common.{◌≡◌, ◌∙◌, ◌++◌, ◌∷◌, [], ap}
use Rattle.plain_sessions.specs.SystemTables.{branch_row, committed, hash}
use Rattle.session_state.specs.Transactions.{head_seen}
use Rattle.tuple_codec.specs.Rows.{Cells}
use Rattle.tuple_codec.specs.declared.values.Value.{Value}
use Rattle.tuple_codec.specs.declared.values.Value.TheVariants as cell
use Rattle.system_tables.proofs.branches.push_branch.Goals as goal

pub returns : goal.returns
returns g c = λ commits are.
    let head = c.args.head.now in
    let k = head.head.0 in
    let first : c.push.new.self ≡ cell.Text head.branch ∷ [] =
    c.in_ok-push.ensures.ok ∙ ap (λ (l : Cells). l ++ c.in_ok-branch_name.field-0 ∷ []) c.new-row.ensures ∙ ap (λ (v : Value). let l : Cells = v ∷ [] in l) c.in_ok-branch_name.ensures in
    let second : c.push-2.new.self ≡ cell.Text head.branch ∷ hash k ∷ [] =
    c.in_ok-push-2.ensures.ok ∙ ap (λ (l : Cells). l ++ c.in_ok-hash.field-0 ∷ []) first ∙ ap (λ (v : Value). let l : Cells = cell.Text head.branch ∷ v ∷ [] in l) c.in_ok-hash.ensures in
    let whole : c.push_committed.new.row ≡ branch_row commits (head_seen head) = c.in_ok-push_committed.ensures commits are ∙ ap (λ (l : Cells). l ++ committed (commits k)) second in
    c.in_ok-push-3.ensures.ok ∙ ap (λ (row : Cells). c.args.rows.now ++ row ∷ []) whole
