use Rattle.std.proofs.Common.{sym, ap, ◌∙◌, cond, Option, option_map, Some, None}
use Rattle.tuple_codec.specs.declared.addresses.Address.{Address}
use Rattle.chunk_store.specs.Drafts.{chunks_of}
use Rattle.merge_procs.proofs.WayNames.{none_named, named_by}
use Rattle.merge_procs.proofs.ways.commit_named.Goals as goal

pub returns-in_err-address : goal.returns-in_err-address
returns-in_err-address g c = λ commits there.
    let none = none_named g.D.Digester.address (chunks_of c.args.draft.now.chunks) commits there c.args.name.now c.in_err-address.ensures in
    ap (λ (k : Option Address). option_map (λ (a : Address). a.0) k) c.from_residual.ensures ∙ none

pub returns-then-is_commit : goal.returns-then-is_commit
returns-then-is_commit g c = λ commits there.
    let k = c.in_ok-address.address.0 in
    let named = named_by g.D.Digester.address (chunks_of c.args.draft.now.chunks) commits there k c.args.name.now c.know_bytes.ensures c.in_ok-address.ensures in
    sym (named ∙ ap (λ b. cond b (Some k) None) (sym c.is_commit.ensures ∙ c.if-is_commit.true))

pub returns-else-is_commit : goal.returns-else-is_commit
returns-else-is_commit g c = λ commits there.
    let k = c.in_ok-address.address.0 in
    let named = named_by g.D.Digester.address (chunks_of c.args.draft.now.chunks) commits there k c.args.name.now c.know_bytes.ensures c.in_ok-address.ensures in
    sym (named ∙ ap (λ b. cond b (Some k) None) (sym c.is_commit.ensures ∙ c.if-is_commit.false))
