use Rattle.std.proofs.Common.{ap, sym, ◌∙◌}
use Rattle.std.specs.Ordering.{is_lt}
use Rattle.tuple_codec.specs.Edits.{order}
use Rattle.prolly_edit.specs.Stages.{is_past}
use Rattle.prolly_edit.proofs.merging.is_past.Goals as goal

pub returns-in-Some : goal.returns-in-Some
returns-in-Some c =
    let key = c.args.key.now in
    c.is_below.ensures ∙ ap (λ k. is_lt (order key k)) c.as_slice.ensures ∙ sym (ap (is_past key) c.in-Some.ensures.cases.0)
