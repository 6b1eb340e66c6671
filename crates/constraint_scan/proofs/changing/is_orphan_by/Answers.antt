use Rattle.std.proofs.Common.{◌∙◌, List, ℕ, ap, sym}
use Rattle.tuple_codec.specs.Rows.{key_of}
use Rattle.plain_writes.specs.Violations.{is_whole}
use Rattle.constraint_scan.proofs.PairLemmas.{orphan_not, orphan_told}
use Rattle.constraint_scan.proofs.changing.is_orphan_by.Goals as goal

pub returns-then-is_whole : goal.returns-then-is_whole
returns-then-is_whole g c = λ before after are.
    let same = c.in_ok-key.ensures ∙ ap (λ (p : List ℕ). key_of p c.args.row.now) c.as_slice.ensures in
    orphan_told after c.args.schema.now c.args.foreign.now c.args.row.now c.in_ok-key.key same c.in_ok-found.found
    (ap is_whole (sym c.as_slice-2.ensures) ∙ sym c.is_whole.ensures ∙ c.if-is_whole.true) (c.in_ok-found.ensures before after are)

pub returns : goal.returns
returns g c = λ before after are.
    let same = c.in_ok-key.ensures ∙ ap (λ (p : List ℕ). key_of p c.args.row.now) c.as_slice.ensures in
    orphan_not after c.args.schema.now c.args.foreign.now c.args.row.now c.in_ok-key.key same
    (ap is_whole (sym c.as_slice-2.ensures) ∙ sym c.is_whole.ensures ∙ c.if-is_whole.false)
