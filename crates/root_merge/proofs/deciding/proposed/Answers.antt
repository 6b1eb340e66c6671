use Rattle.std.proofs.Common.{◌≡◌, IfOk, rules, subst, sym}
use Rattle.std.proofs.lemmas.Bool.{false_from_ne_true as not_same}
use Rattle.tuple_codec.specs.declared.records.BranchRecord.{BranchRecord}
use Rattle.chunk_store.specs.Drafts.{chunks_of}
use Rattle.expr_eval.specs.Binding.{Outcome}
use Rattle.plain_sessions.specs.CommitRule.{candidate}
use Rattle.plain_sessions.specs.Records.{BranchState, is_same_state}
use Rattle.root_merge.specs.States.{BranchStateStands, IsCandidate}
use Rattle.root_merge.proofs.DecideLemmas.{moved, stands_for, unmoved}
use Rattle.root_merge.proofs.StateLemmas.{one_record, same_record}
use Rattle.root_merge.proofs.deciding.proposed.Goals as goal

pub returns-then-eq-clause-is : goal.returns-then-eq-clause-is
returns-then-eq-clause-is g c = λ s p o states.
    let address = g.D.Digester.address in
    let chunks = chunks_of c.args.draft.now.chunks in
    let equal : c.args.present.now ≡ c.args.start.now = search rules in
    let start = subst (λ (rec : BranchRecord). BranchStateStands address chunks rec s) (sym equal) states.start_stands in
    let same = same_record address chunks c.laws_of_growth.ensures.databases c.laws_of_states.ensures.sameness c.args.present.now p s states.present_stands start in
    stands_for address chunks (candidate s p o) c.args.own.now o (unmoved s p o same) states.own_stands

pub returns-clause-is : goal.returns-clause-is
returns-clause-is g c = λ s p o states.
    let address = g.D.Digester.address in
    let chunks = chunks_of c.args.draft.now.chunks in
    let apart : c.args.present.now ≡ c.args.start.now → ⊥ = search rules in
    let fails = not_same (is_same_state p s) (λ same. apart (one_record address chunks c.laws_of_growth.ensures.databases c.laws_of_states.ensures.sameness c.args.present.now c.args.start.now p s states.present_stands states.start_stands same)) in
    subst (λ (outcome : Outcome BranchState). IfOk c.merge_states.result (λ made. IsCandidate address (chunks_of c.merge_states.new.draft.chunks) made outcome)) (sym (moved s p o fails)) (c.merge_states.ensures.is s p o states)
