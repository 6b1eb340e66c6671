use Rattle.std.proofs.Common.{sym, subst, Ok}
use Rattle.std.proofs.lemmas.Result.{IfOk-weaker}
use Rattle.expr_eval.specs.Binding.{Outcome}
use Rattle.chunk_store.specs.Drafts.{chunks_of}
use Rattle.schema_merge.specs.RootMerge.{MergedDatabase, root3}
use Rattle.merge_procs.specs.Databases.{IsMet, merged_of}
use Rattle.merge_procs.proofs.DatabasesLemmas.{limit_refused, schema_refused, within_merged}
use Rattle.merge_procs.proofs.databases.meet.Goals as goal

pub judged-requires-after_bounds : goal.judged-requires-after_bounds
judged-requires-after_bounds g c κs within =
    let b = c.requires.base in
    let o = c.requires.ours in
    let t = c.requires.theirs in
    let is = c.in-Ok.ensures.merged b.0 o.0 t.0 (record { base_root = b.1; our_root = o.1; their_root = t.1 }) in
    (is.merged, is.made)

pub returns-in-Ok-clause-is : goal.returns-in-Ok-clause-is
returns-in-Ok-clause-is g c = λ b o t roots.
    let address = g.D.Digester.address in
    let now = chunks_of c.judged.new.draft.chunks in
    let is = c.in-Ok.ensures.merged b o t roots in
    IfOk-weaker c.judged.result (λ found. IsMet address now found (Ok is.merged)) (λ found. IsMet address now found (merged_of b o t))
    (λ found own. subst (λ (o : Outcome MergedDatabase). IsMet address now found o) (sym (within_merged address (chunks_of c.merge_roots.new.draft.chunks) c.in-Ok.merged (root3 b o t) is)) own)
    (c.judged.ensures.is is.merged is.made)

pub returns-in-Err-Schema-clause-is : goal.returns-in-Err-Schema-clause-is
returns-in-Err-Schema-clause-is g c = λ b o t roots.
    schema_refused (root3 b o t) c.in-Err-Schema.field-0 c.in-Err-Schema.field-0-0 c.in-Err-Schema.field-0-1 c.in-Err-Schema.field-0-is (c.in-Err-Schema.ensures.fault b o t roots)

pub returns-in-Err-Limit-clause-is : goal.returns-in-Err-Limit-clause-is
returns-in-Err-Limit-clause-is g c = λ b o t roots.
    limit_refused (root3 b o t) c.in-Err-Limit.field-0 c.in-Err-Limit.field-0-is (c.in-Err-Limit.ensures.fault b o t roots)
