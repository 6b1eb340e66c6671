use Rattle.std.proofs.Common.{◌∙◌, sym, subst}
use Rattle.tuple_codec.proofs.Options.{some_is}
use Rattle.tuple_codec.specs.declared.records.BranchRecord.{BranchRecord}
use Rattle.chunk_store.specs.Drafts.{chunks_of}
use Rattle.schema_model.specs.WrittenForms.{branch_bytes}
use Rattle.schema_model.proofs.PartLemmas.{nothing}
use Rattle.table_root.specs.Branches.{IsBranchFound}
use Rattle.table_root.proofs.branches.read_branch.Goals as goal

pub unreachable-requires-in-None : goal.unreachable-requires-in-None
unreachable-requires-in-None g c =
    let e = some_is c.in-Some.bytes.now (branch_bytes c.requires.0) (c.in-Some.ensures ∙ c.requires.1.held) in
    nothing c.requires.0 (sym c.in-None.is ∙ (c.read_branch_bytes.ensures c.requires.0).1 (c.requires.1.is_branch, sym e))

pub returns : goal.returns
returns g c =
    let e = some_is c.in-Some.bytes.now (branch_bytes c.requires.0) (c.in-Some.ensures ∙ c.requires.1.held) in
    let same = some_is c.in-Some-read_branch_bytes.branch c.requires.0 (sym c.in-Some-read_branch_bytes.is ∙ (c.read_branch_bytes.ensures c.requires.0).1 (c.requires.1.is_branch, sym e)) in
    subst (λ (branch : BranchRecord). IsBranchFound (chunks_of c.args.draft.now.chunks) c.args.address.now.0 branch) (sym same) c.requires.1
