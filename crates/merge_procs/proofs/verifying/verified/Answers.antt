use Rattle.std.proofs.Common.{◌∙◌, ap, ℕ, ◌==◌, Bool, not, cond, [], ◌∷◌, codes}
use Rattle.chunk_store.specs.Chunks.{Extends}
use Rattle.chunk_store.specs.Drafts.{chunks_of}
use Rattle.chunk_store.specs.Kinds.{is_data}
use Rattle.plain_sessions.specs.Replies.{number_field, one_row}
use Rattle.merge_procs.proofs.VerifyingLemmas.{verified_so}
use Rattle.merge_procs.proofs.verifying.verified.Goals as goal

pub returns-clause-is : goal.returns-clause-is
returns-clause-is g c = λ commits state stands.
    let address = g.D.Digester.address in
    let old = c.args.draft.now in
    let new = c.verified_root.new.draft in
    let laws = c.laws.ensures in
    let more : Extends (chunks_of old.chunks) (chunks_of new.chunks) = laws.drafts.longer_extends old.chunks new.chunks (laws.growth.is_longer is_data old new c.verified_root.ensures.grows) in
    let all = c.in_ok-list.ensures.all state.working stands.working in
    verified_so address (chunks_of old.chunks) (chunks_of new.chunks) commits c.args.own.now state c.in_ok-working.working c.args.way c.in_ok-list.list.items c.in_ok-reply.reply
    more laws.databases stands (c.in_ok-list.ensures.none state.working stands.working)
    (c.in_ok-reply.ensures ∙ ap (λ (b : Bool). one_row (number_field (codes "violations") (cond (not b) 1 0) ∷ [])) (c.is_empty.ensures ∙ ap (λ (n : ℕ). n == 0) c.in_ok-list.list.ok.0))
    (c.in_ok-working.ensures.stands state.working (record { kept = all.kept; all = c.as_slice.ensures.value ∙ all.all }))
