use Rattle.std.proofs.Common.{◌≡◌, ap, ◌∙◌}
use Rattle.std.proofs.lemmas.Option.{none-some}
use Rattle.tuple_codec.proofs.Options.{some_is}
use Rattle.node_format.specs.Reading.{header_at}
use Rattle.node_format.proofs.KnownLemmas.{is_known, known_is}
use Rattle.node_format.proofs.NodeLemmas.{node_header, parts_of}
use Rattle.node_format.proofs.known.KnownNode.of.Goals as goal

pub unreachable-requires : goal.unreachable-requires
unreachable-requires c =
    let node = c.requires.0 in
    none-some (parts_of node) (c.in-None.ensures ∙ ap header_at c.requires.2 ∙ node_header node c.requires.1)

pub invariant_of-result : goal.invariant_of-result
invariant_of-result c =
    let node = c.requires.0 in
    is_known node c.requires.1 (c.in-Some.level, c.in-Some.count, c.in-Some.items.now)
    (some_is _ (parts_of node) (c.in-Some.ensures ∙ ap header_at c.requires.2 ∙ node_header node c.requires.1))

pub returns : goal.returns
returns c = λ node is bytes.
    known_is node is (c.in-Some.level, c.in-Some.count, c.in-Some.items.now) (some_is _ (parts_of node) (c.in-Some.ensures ∙ ap header_at bytes ∙ node_header node is))
