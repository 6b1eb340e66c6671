use Rattle.std.proofs.Common.{◌∙◌, ap, option_map, sym, subst}
use Rattle.tuple_codec.proofs.Options.{some_is}
use Rattle.schema_model.specs.WrittenForms.{CommitParts, commit_bytes}
use Rattle.schema_model.proofs.PartLemmas.{nothing}
use Rattle.chunk_store.specs.Drafts.{chunks_of}
use Rattle.commit_graph.specs.Commits.{IsCommitFound, parts_of}
use Rattle.commit_graph.proofs.CommitLemmas.{read_again}
use Rattle.commit_graph.proofs.reading.read_commit.Goals as goal

pub unreachable-requires-in-None : goal.unreachable-requires-in-None
unreachable-requires-in-None g c =
    let e = some_is c.in-Some.bytes.now (commit_bytes c.requires.0) (c.in-Some.ensures ∙ c.requires.1.held) in
    let read = read_again c.requires.0 c.in-Some.bytes.now (option_map parts_of c.in_ok-commit.field-0) c.requires.1.is_commit e c.in_ok-commit.ensures in
    nothing c.requires.0 (sym (ap (option_map parts_of) c.in-None.is) ∙ read)

pub returns : goal.returns
returns g c =
    let e = some_is c.in-Some.bytes.now (commit_bytes c.requires.0) (c.in-Some.ensures ∙ c.requires.1.held) in
    let read = read_again c.requires.0 c.in-Some.bytes.now (option_map parts_of c.in_ok-commit.field-0) c.requires.1.is_commit e c.in_ok-commit.ensures in
    let same = some_is c.requires.0 (parts_of c.in-Some-2.commit) (sym read ∙ ap (option_map parts_of) c.in-Some-2.is) in
    subst (λ (commit : CommitParts). IsCommitFound (chunks_of c.args.draft.now.chunks) c.args.address.now.0 commit) same c.requires.1
