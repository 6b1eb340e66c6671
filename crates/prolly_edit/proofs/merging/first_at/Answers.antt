use Rattle.std.proofs.Common.{◌≡◌, false, ap, sym, ◌∙◌}
use Rattle.std.specs.Prelude.{bytes_eq}
use Rattle.prolly_edit.specs.Stages.{are_not_before, is_past}
use Rattle.prolly_edit.proofs.EditLemmas.{above_other}
use Rattle.prolly_edit.proofs.merging.first_at.Goals as goal

pub returns-else-eq : goal.returns-else-eq
returns-else-eq c =
    let key = c.args.key.now in
    let edit = c.in_ok-edit.edit.now in
    let are = c.in_ok-edit.ensures.cases.0 in
    let apart : bytes_eq edit.key key ≡ false = ap (λ k. bytes_eq k key) (sym c.as_slice.ensures) ∙ sym c.eq.ensures ∙ c.if-eq.false in
    ap (is_past key) are ∙ above_other edit.key key (ap (are_not_before key) (sym are) ∙ c.requires) apart
