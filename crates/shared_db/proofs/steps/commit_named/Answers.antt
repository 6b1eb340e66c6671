use Rattle.std.proofs.Common.{sym, ap, ◌∙◌, subst, cond, Option, option_map, Some, None}
use Rattle.tuple_codec.specs.AddressTexts.{ReadsAddress}
use Rattle.tuple_codec.specs.declared.addresses.Address.{Address}
use Rattle.chunk_store.specs.Chunks.{chunk_bytes}
use Rattle.chunk_store.specs.Stores.{all_chunks}
use Rattle.shared_db.proofs.PointLemmas.{none_named, named_by}
use Rattle.shared_db.proofs.steps.commit_named.Goals as goal

pub returns-in_err-address : goal.returns-in_err-address
returns-in_err-address c = λ address commits there.
    let none = none_named address (chunk_bytes (all_chunks c.args.store.now)) commits there c.args.name.now (subst (λ text. ReadsAddress text None) c.bytes.ensures.bytes c.in_err-address.ensures) in
    ap (λ (k : Option Address). option_map (λ (a : Address). a.0) k) c.from_residual.ensures ∙ none

pub returns-then-is_commit : goal.returns-then-is_commit
returns-then-is_commit c = λ address commits there.
    let k = c.in_ok-address.address.0 in
    let named = named_by address (chunk_bytes (all_chunks c.args.store.now)) commits there k c.args.name.now c.know_bytes.ensures (c.in_ok-address.ensures ∙ c.bytes.ensures.bytes) in
    sym (named ∙ ap (λ b. cond b (Some k) None) (sym c.is_commit.ensures ∙ c.if-is_commit.true))

pub returns-else-is_commit : goal.returns-else-is_commit
returns-else-is_commit c = λ address commits there.
    let k = c.in_ok-address.address.0 in
    let named = named_by address (chunk_bytes (all_chunks c.args.store.now)) commits there k c.args.name.now c.know_bytes.ensures (c.in_ok-address.ensures ∙ c.bytes.ensures.bytes) in
    sym (named ∙ ap (λ b. cond b (Some k) None) (sym c.is_commit.ensures ∙ c.if-is_commit.false))
