use Rattle.std.proofs.Common.{List, subst, sym}
use Rattle.std.proofs.lemmas.Result.{IfErr-weaker, IfOk-weaker}
use Rattle.schema_model.specs.Limits.{is_database_within_limits}
use Rattle.chunk_store.specs.Drafts.{chunks_of}
use Rattle.schema_merge.specs.RootMerge.{root3}
use Rattle.table_merge.specs.Merging.{IsMergeReason}
use Rattle.root_merge.specs.Merging.{AreRoots, IsFaultOf, IsLimitFault, IsMadeOf, IsMergedDatabase}
use Rattle.root_merge.specs.Names.{LeadTo, all_wanted, together}
use Rattle.root_merge.specs.declared.names.Named.{Named}
use Rattle.root_merge.proofs.RootLemmas.{can_merge, is_merged, limit_fault, schema_fault, schema_reason}
use Rattle.root_merge.proofs.TableLemmas.{same_fault}
use Rattle.root_merge.proofs.merging.merge_roots.Goals as goal

pub judge-requires-after_bounds : goal.judge-requires-after_bounds
judge-requires-after_bounds g c κs within =
    let address = g.D.Digester.address in
    let chunks = chunks_of c.args.draft.now.chunks in
    let b = c.requires.base.0 in
    let o = c.requires.ours.0 in
    let t = c.requires.theirs.0 in
    let roots : AreRoots address chunks c.args.base.now c.args.ours.now c.args.theirs.now b o t = record { base_root = c.requires.base.1; our_root = c.requires.ours.1; their_root = c.requires.theirs.1 } in
    (all_wanted b o t, subst (λ (list : List Named). LeadTo address chunks list (all_wanted b o t)) (sym c.as_slice.ensures.value) (c.in_ok-names.ensures.lead b o t roots))

pub returns-in_err-judge-clause-fault : goal.returns-in_err-judge-clause-fault
returns-in_err-judge-clause-fault g c = λ b o t roots.
    let address = g.D.Digester.address in
    let chunks = chunks_of c.args.draft.now.chunks in
    let lead = subst (λ (list : List Named). LeadTo address chunks list (all_wanted b o t)) (sym c.as_slice.ensures.value) (c.in_ok-names.ensures.lead b o t roots) in
    same_fault (IsFaultOf (root3 b o t)) c.from_residual-in_err-judge.result c.in_err-judge.field-0.0
    (schema_fault b o t c.in_err-judge.field-0.0 (c.in_err-judge.ensures.fault (all_wanted b o t) lead)) c.from_residual-in_err-judge.ensures

pub returns-in_err-judge-clause-cause : goal.returns-in_err-judge-clause-cause
returns-in_err-judge-clause-cause g c =
    let address = g.D.Digester.address in
    let chunks = chunks_of c.args.draft.now.chunks in
    let b = c.requires.base.0 in
    let o = c.requires.ours.0 in
    let t = c.requires.theirs.0 in
    let roots : AreRoots address chunks c.args.base.now c.args.ours.now c.args.theirs.now b o t = record { base_root = c.requires.base.1; our_root = c.requires.ours.1; their_root = c.requires.theirs.1 } in
    let lead = subst (λ (list : List Named). LeadTo address chunks list (all_wanted b o t)) (sym c.as_slice.ensures.value) (c.in_ok-names.ensures.lead b o t roots) in
    same_fault (IsMergeReason address chunks) c.from_residual-in_err-judge.result c.in_err-judge.field-0.0
    (schema_reason address chunks (together (all_wanted b o t)) c.in_err-judge.field-0.0 (c.in_err-judge.ensures.fault (all_wanted b o t) lead)) c.from_residual-in_err-judge.ensures

pub merge_chosen-requires-clause-lead : goal.merge_chosen-requires-clause-lead
merge_chosen-requires-clause-lead g c κs within =
    let address = g.D.Digester.address in
    let chunks = chunks_of c.args.draft.now.chunks in
    let b = c.requires.base.0 in
    let o = c.requires.ours.0 in
    let t = c.requires.theirs.0 in
    let roots : AreRoots address chunks c.args.base.now c.args.ours.now c.args.theirs.now b o t = record { base_root = c.requires.base.1; our_root = c.requires.ours.1; their_root = c.requires.theirs.1 } in
    let lead = subst (λ (list : List Named). LeadTo address chunks list (all_wanted b o t)) (sym c.as_slice.ensures.value) (c.in_ok-names.ensures.lead b o t roots) in
    let later = subst (λ (list : List Named). LeadTo address chunks list (all_wanted b o t)) (sym c.as_slice-2.ensures.value) (c.in_ok-names.ensures.lead b o t roots) in
    let all = c.in_ok-judge.ensures.ok (all_wanted b o t) lead in
    (all_wanted b o t, all.0, can_merge address chunks c.args.base.now c.args.ours.now c.args.theirs.now b o t c.as_slice-2.result.now all.0 roots later all.1)

pub returns-clause-merged : goal.returns-clause-merged
returns-clause-merged g c = λ b o t roots.
    let address = g.D.Digester.address in
    let chunks = chunks_of c.args.draft.now.chunks in
    let now = chunks_of c.merge_chosen.new.draft.chunks in
    let lead = subst (λ (list : List Named). LeadTo address chunks list (all_wanted b o t)) (sym c.as_slice.ensures.value) (c.in_ok-names.ensures.lead b o t roots) in
    let later = subst (λ (list : List Named). LeadTo address chunks list (all_wanted b o t)) (sym c.as_slice-2.ensures.value) (c.in_ok-names.ensures.lead b o t roots) in
    let all = c.in_ok-judge.ensures.ok (all_wanted b o t) lead in
    IfOk-weaker c.merge_chosen.result (λ made. IsMadeOf address now made all.0) (λ made. IsMergedDatabase address now made (root3 b o t))
    (λ made is. is_merged address now made b o t all.0 all.1 is)
    (c.merge_chosen.ensures.merged (all_wanted b o t) all.0 (can_merge address chunks c.args.base.now c.args.ours.now c.args.theirs.now b o t c.as_slice-2.result.now all.0 roots later all.1))

pub returns-clause-fault : goal.returns-clause-fault
returns-clause-fault g c = λ b o t roots.
    let address = g.D.Digester.address in
    let chunks = chunks_of c.args.draft.now.chunks in
    let lead = subst (λ (list : List Named). LeadTo address chunks list (all_wanted b o t)) (sym c.as_slice.ensures.value) (c.in_ok-names.ensures.lead b o t roots) in
    let later = subst (λ (list : List Named). LeadTo address chunks list (all_wanted b o t)) (sym c.as_slice-2.ensures.value) (c.in_ok-names.ensures.lead b o t roots) in
    let all = c.in_ok-judge.ensures.ok (all_wanted b o t) lead in
    IfErr-weaker c.merge_chosen.result (IsLimitFault (is_database_within_limits all.0.database)) (IsFaultOf (root3 b o t))
    (λ why of. limit_fault b o t all.0 why all.1 of)
    (c.merge_chosen.ensures.fault (all_wanted b o t) all.0 (can_merge address chunks c.args.base.now c.args.ours.now c.args.theirs.now b o t c.as_slice-2.result.now all.0 roots later all.1))
