use Rattle.std.proofs.Common.{subst}
use Rattle.sql_select.specs.Parts.{IsSpanIn}
use Rattle.sql_select.proofs.KeyLemmas.{same_span}
use Rattle.sql_select.proofs.test_seeking.span_in.Goals as goal

pub returns-then-is_bounded : goal.returns-then-is_bounded
returns-then-is_bounded c = λ span e.
    subst (IsSpanIn c.args.schema.now c.args.first.now c.args.rest.now) (same_span c.in_ok-span.span span e)
    (record { first_calm = c.is_steady.ensures c.if-not-is_steady.false; rest_calm = c.are_steady.ensures c.if-not-are_steady.false; told = c.in_ok-span.ensures })
