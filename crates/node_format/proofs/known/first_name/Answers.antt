use Rattle.std.proofs.Common.{◌≡◌, ℕ, List, sym, ap, ◌∙◌}
use Rattle.std.proofs.lemmas.Option.{none-some}
use Rattle.tuple_codec.proofs.Options.{some_is}
use Rattle.tuple_codec.specs.Nodes.{Item}
use Rattle.node_format.specs.Reading.{inner_at}
use Rattle.node_format.specs.Views.{seen}
use Rattle.node_format.proofs.FieldLemmas.{inner_again}
use Rattle.node_format.proofs.FoundLemmas.{inner_body}
use Rattle.node_format.proofs.known.first_name.Goals as goal

pub unreachable-requires : goal.unreachable-requires
unreachable-requires c =
    let item = c.requires.0 in
    let rest = c.requires.1 in
    none-some (item, rest) (c.in-None.ensures ∙ ap inner_at c.requires.3 ∙ inner_again 0 item rest c.requires.2)

pub from_slice-requires : goal.from_slice-requires
from_slice-requires c = inner_body c.args.bytes.now (seen c.in-Some.item, c.in-Some.field-0-1.now) (sym c.in-Some.ensures)

pub returns : goal.returns
returns c = λ item rest is bytes.
    ap (λ (x : Item × List ℕ). x.0) (sym (some_is _ (item, rest) (c.in-Some.ensures ∙ ap inner_at bytes ∙ inner_again 0 item rest is)))
    ∙ ap (λ (body : List ℕ). record { key = c.in-Some.item.key.now; body = body; rows = c.in-Some.item.rows }) (sym c.from_slice.ensures)
