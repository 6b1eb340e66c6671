use Rattle.std.proofs.Common.{◌≡◌, ◌∙◌, ◌++◌, Ok, List, sym, ap, map, drop}
use Rattle.std.proofs.lemmas.List.{drop_all}
use Rattle.tuple_codec.specs.Rows.{Cells}
use Rattle.expr_eval.specs.Binding.{Outcome}
use Rattle.plain_sql.specs.Answers.{kept_row}
use Rattle.plain_sql.specs.Lists.{behind}
use Rattle.plain_sql.specs.Plans.{meaning}
use Rattle.plain_sql.proofs.NestedLemmas.{behind_none, one_more}
use Rattle.plain_sql.proofs.combining.keep_joined.Goals as goal

pub loop-more-preserved : goal.loop-more-preserved
loop-more-preserved c =
    let tests = map meaning c.args.tests.now in
    let row = c.args.row.now in
    let more = c.more-item.result in
    let f : Cells → Outcome (List Cells) = λ more. kept_row tests (row ++ more) in
    let whole : c.in_ok-whole.whole ≡ row ++ more = c.in_ok-whole.ensures ∙ ap (λ m. row ++ m) c.as_slice.ensures in
    c.loop-more.invariant
    ∙ one_more f c.args.rows.now c.loop-more.more-index more c.loop-more.kept (Ok c.keep.new.kept) c.loop-more-test.true c.more-item.is
    (ap (λ w. behind (Ok c.loop-more.kept) (kept_row tests w)) (sym whole) ∙ c.in_ok-keep.ensures)

pub returns : goal.returns
returns c =
    let tests = map meaning c.args.tests.now in
    let row = c.args.row.now in
    let f : Cells → Outcome (List Cells) = λ more. kept_row tests (row ++ more) in
    c.loop-more.invariant ∙ behind_none f (drop c.loop-more.more-index c.args.rows.now) c.loop-more.kept (drop_all c.loop-more.more-index c.args.rows.now c.loop-more-test.false)
