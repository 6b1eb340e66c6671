use Rattle.std.proofs.Common.{◌∙◌, ap}
use Rattle.tuple_codec.proofs.Options.{some_is}
use Rattle.schema_model.proofs.PartLemmas.{nothing}
use Rattle.schema_model.specs.WrittenForms.{commit_bytes}
use Rattle.commit_graph.specs.Reading.{height_in}
use Rattle.commit_graph.proofs.CommitLemmas.{height_again}
use Rattle.commit_graph.proofs.parts.height.Goals as goal

pub unreachable-requires-in-None : goal.unreachable-requires-in-None
unreachable-requires-in-None g c =
    let e = some_is c.in-Some.bytes.now (commit_bytes c.requires.0) (c.in-Some.ensures ∙ c.requires.1.held) in
    nothing c.requires.0.height (c.in-None.ensures ∙ ap height_in e ∙ height_again c.requires.0 c.requires.1.is_commit)

pub returns : goal.returns
returns g c = λ commit found.
    let e = some_is c.in-Some.bytes.now (commit_bytes commit) (c.in-Some.ensures ∙ found.held) in
    some_is c.in-Some-height_in.height commit.height (c.in-Some-height_in.ensures ∙ ap height_in e ∙ height_again commit found.is_commit)
