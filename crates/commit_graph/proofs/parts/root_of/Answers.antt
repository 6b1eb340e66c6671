use Rattle.std.proofs.Common.{◌∙◌, ap}
use Rattle.tuple_codec.proofs.Options.{some_is}
use Rattle.schema_model.proofs.PartLemmas.{nothing}
use Rattle.schema_model.specs.WrittenForms.{commit_bytes}
use Rattle.commit_graph.specs.Reading.{root_in}
use Rattle.commit_graph.proofs.CommitLemmas.{root_again}
use Rattle.commit_graph.proofs.parts.root_of.Goals as goal

pub unreachable-requires-in-None : goal.unreachable-requires-in-None
unreachable-requires-in-None c =
    let e = some_is c.in-Some.bytes.now (commit_bytes c.requires.0) (c.in-Some.ensures.held ∙ c.requires.1.held) in
    nothing c.requires.0.root (c.in-None.ensures ∙ ap root_in e ∙ root_again c.requires.0 c.requires.1.is_commit)

pub returns : goal.returns
returns c = λ commit found.
    let e = some_is c.in-Some.bytes.now (commit_bytes commit) (c.in-Some.ensures.held ∙ found.held) in
    some_is c.in-Some-root_in.root.0 commit.root (c.in-Some-root_in.ensures ∙ ap root_in e ∙ root_again commit found.is_commit)
