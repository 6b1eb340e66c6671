use Rattle.std.proofs.Common.{ap, sym, ◌∙◌}
use Rattle.std.specs.Prelude.{not}
use Rattle.std.specs.Ordering.{is_lt}
use Rattle.tuple_codec.specs.Edits.{order}
use Rattle.prolly_edit.specs.Stages.{are_not_before}
use Rattle.prolly_edit.proofs.merging.first_before.Goals as goal

pub returns-then-is_below : goal.returns-then-is_below
returns-then-is_below c =
    let key = c.args.key.now in
    record {
      are = c.in_ok-edit.ensures.cases.0;
      below = ap (λ k. is_lt (order k key)) (sym c.as_slice.ensures) ∙ sym c.is_below.ensures ∙ c.if-is_below.true;
    }

pub returns-else-is_below : goal.returns-else-is_below
returns-else-is_below c =
    let key = c.args.key.now in
    ap (are_not_before key) c.in_ok-edit.ensures.cases.0
    ∙ ap not (ap (λ k. is_lt (order k key)) (sym c.as_slice.ensures) ∙ sym c.is_below.ensures ∙ c.if-is_below.false)
