use Rattle.std.proofs.Common.{◌≡◌, ℕ, List, sym, ap, ◌∙◌}
use Rattle.std.proofs.lemmas.Option.{none-some}
use Rattle.tuple_codec.proofs.Options.{some_is}
use Rattle.tuple_codec.specs.Nodes.{Item}
use Rattle.node_format.specs.Reading.{leaf_at}
use Rattle.node_format.proofs.FieldLemmas.{leaf_again}
use Rattle.node_format.proofs.known.first_row.Goals as goal

pub unreachable-requires : goal.unreachable-requires
unreachable-requires c =
    let item = c.requires.0 in
    let rest = c.requires.1 in
    none-some (item, rest) (c.in-None.ensures ∙ ap leaf_at c.requires.3 ∙ leaf_again item rest c.requires.2)

pub returns : goal.returns
returns c = λ item rest is bytes.
    ap (λ (x : Item × List ℕ). x.0) (sym (some_is _ (item, rest) (c.in-Some.ensures ∙ ap leaf_at bytes ∙ leaf_again item rest is)))
