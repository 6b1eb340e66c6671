use Rattle.std.proofs.Common.{◌≡◌, [], Some}
use Rattle.std.proofs.lemmas.Result.{IfOk-weaker}
use Rattle.sql_select.specs.Parts.{IsSpanIn}
use Rattle.sql_select.specs.Seeking.{IsSpanOf, Seeks, is_sought}
use Rattle.sql_select.proofs.KeyLemmas.{seeks_and, seeks_one, span_fits}
use Rattle.sql_select.proofs.test_seeking.sought_keys.Goals as goal

pub returns-in-And-clause-seeks : goal.returns-in-And-clause-seeks
returns-in-And-clause-seeks c = λ span.
    IfOk-weaker c.span_in.result (λ found. found ≡ Some span → IsSpanIn c.args.schema.now c.get.result.now c.as_slice.result.now span)
    (λ found. found ≡ Some span → Seeks c.args.schema.now c.args.test.now (is_sought c.args.schema.now span))
    (λ found f e. seeks_and c.args.schema.now c.args.test.now c.in-And.first c.get.result.now c.in-And.rest c.as_slice.result.now span c.in-And.is c.get.ensures c.as_slice.ensures (f e))
    (c.span_in.ensures span)

pub returns-in-And-clause-fits : goal.returns-in-And-clause-fits
returns-in-And-clause-fits c = λ span.
    IfOk-weaker c.span_in.result (λ found. found ≡ Some span → IsSpanIn c.args.schema.now c.get.result.now c.as_slice.result.now span)
    (λ found. found ≡ Some span → IsSpanOf c.args.schema.now span)
    (λ found f e. span_fits c.args.schema.now c.get.result.now c.as_slice.result.now span (f e))
    (c.span_in.ensures span)

pub returns-in_default : goal.returns-in_default
returns-in_default c = record {
  seeks = λ span.
      IfOk-weaker c.span_in-in_default.result (λ found. found ≡ Some span → IsSpanIn c.args.schema.now c.args.test.now.node [] span)
      (λ found. found ≡ Some span → Seeks c.args.schema.now c.args.test.now (is_sought c.args.schema.now span))
      (λ found f e. seeks_one c.args.schema.now c.args.test.now span (f e)) (c.span_in-in_default.ensures span);
  fits = λ span.
      IfOk-weaker c.span_in-in_default.result (λ found. found ≡ Some span → IsSpanIn c.args.schema.now c.args.test.now.node [] span)
      (λ found. found ≡ Some span → IsSpanOf c.args.schema.now span)
      (λ found f e. span_fits c.args.schema.now c.args.test.now.node [] span (f e)) (c.span_in-in_default.ensures span);
}
