use Rattle.std.proofs.Common.{◌≡◌, ◌∙◌, IfOk, List, ℕ, subst}
use Rattle.std.specs.List.{list_any}
use Rattle.tuple_codec.specs.Nodes.{Item}
use Rattle.violation_lists.specs.Seeking.{is_another}
use Rattle.violation_lists.proofs.entries.begins_another.Goals as goal

pub returns : goal.returns
returns g c = λ rows tree.
    subst (λ (own : List ℕ). IfOk c.has_another.result (λ found. found ≡ list_any (λ (item : Item). is_another c.args.prefix.now own item.key) rows))
    (c.as_slice.ensures.value ∙ c.in_ok-own.ensures) (c.has_another.ensures rows tree)
