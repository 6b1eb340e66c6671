use Rattle.std.proofs.Common.{◌≡◌, List, Some, map, sym, subst}
use Rattle.std.proofs.lemmas.Result.{IfOk-weaker}
use Rattle.expr_eval.specs.declared.bound.BoundExpr.{BoundExpr}
use Rattle.plain_sql.specs.Plans.{meaning}
use Rattle.sql_select.specs.Choosing.{is_wanted}
use Rattle.sql_select.specs.Seeking.{Seeks}
use Rattle.sql_write.specs.Passing.{LeavesOthers}
use Rattle.sql_write.proofs.ReadingLemmas.{leaves_others, only_one}
use Rattle.sql_write.proofs.reading.seek_named.Goals as goal

pub returns-in-len1-clause-leaves : goal.returns-in-len1-clause-leaves
returns-in-len1-clause-leaves c = λ seek.
    let schema = c.args.schema.now in
    let test = c.test-item.result in
    let wanted = is_wanted schema seek in
    IfOk-weaker c.sought.result (λ found. found ≡ Some seek → Seeks schema test wanted) (λ found. found ≡ Some seek → LeavesOthers schema (map meaning c.args.tests.now) wanted)
    (λ found seeks is. subst (λ (l : List BoundExpr). LeavesOthers schema (map meaning l) wanted) (sym (only_one c.args.tests.now test c.test-item.is c.in-len1.len_at_least c.in-len1.len_below))
    (leaves_others schema test wanted (seeks is))) (c.sought.ensures.seeks seek)
