use Rattle.std.proofs.Common.{◌≡◌, List, map, sym, ap, ◌∙◌, subst}
use Rattle.std.proofs.lemmas.Result.{IfOk-weaker}
use Rattle.expr_eval.specs.declared.bound.BoundExpr.{BoundExpr}
use Rattle.plain_sql.specs.Plans.{meaning}
use Rattle.plain_writes.specs.Seen.{setting_seen}
use Rattle.plain_writes.specs.declared.updating.BoundAssignment.{BoundAssignment}
use Rattle.sql_write.specs.Changes.{AreToTurn, change_seen}
use Rattle.sql_write.specs.Passing.{AreRead, sets_key}
use Rattle.sql_write.proofs.ReadingLemmas.{some_turned, whole_turned}
use Rattle.sql_write.proofs.reading.rows_to_turn.Goals as goal

pub returns-then-sets_key : goal.returns-then-sets_key
returns-then-sets_key g c = λ contents of.
    let schema = c.args.found.now.table.schema in
    let turning = change_seen c.args.change.now in
    IfOk-weaker c.rows_of.result (λ rows. rows ≡ contents.rows) (λ rows. AreToTurn schema turning contents.rows rows) (λ rows is. whole_turned schema turning contents.rows rows is)
    (c.rows_of.ensures contents of)

pub returns : goal.returns
returns g c = λ contents of.
    let schema = c.args.found.now.table.schema in
    let turning = change_seen c.args.change.now in
    let free = ap (λ (l : List BoundAssignment). sets_key schema (map setting_seen l)) (sym c.as_slice.ensures) ∙ sym c.sets_key.ensures ∙ c.if-sets_key.false in
    IfOk-weaker c.rows_to_test.result (λ rows. AreRead (map meaning c.as_slice-2.result.now) contents.rows rows) (λ rows. AreToTurn schema turning contents.rows rows)
    (λ rows are. some_turned schema turning contents.rows rows free (subst (λ (l : List BoundExpr). AreRead (map meaning l) contents.rows rows) c.as_slice-2.ensures are))
    (c.rows_to_test.ensures contents of)
