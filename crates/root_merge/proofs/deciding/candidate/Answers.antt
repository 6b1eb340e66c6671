use Rattle.std.proofs.Common.{subst, sym, true}
use Rattle.chunk_store.specs.Drafts.{chunks_of}
use Rattle.expr_eval.specs.Binding.{Outcome}
use Rattle.plain_sessions.specs.CommitRule.{candidate}
use Rattle.plain_sessions.specs.Records.{BranchState}
use Rattle.root_merge.specs.Deciding.{AreStates, set}
use Rattle.root_merge.specs.States.{IsCandidate}
use Rattle.root_merge.specs.declared.candidates.Candidate.{Candidate}
use Rattle.root_merge.specs.declared.candidates.Candidate.TheVariants as candidate_of
use Rattle.root_merge.proofs.DecideLemmas.{proposed_is, refusal_stays}
use Rattle.root_merge.proofs.deciding.candidate.Goals as goal

pub proposed-requires-clause-settled : goal.proposed-requires-clause-settled
proposed-requires-clause-settled g c κs within = c.new-settled.ensures g.D.Digester.address (chunks_of c.args.draft.now.chunks)

pub judged-requires-clause-decided : goal.judged-requires-clause-decided
judged-requires-clause-decided g c κs within =
    let address = g.D.Digester.address in
    let old = chunks_of c.args.draft.now.chunks in
    let now = chunks_of c.proposed.new.draft.chunks in
    let s = c.requires.start.0 in
    let p = c.requires.present.0 in
    let o = c.requires.own.0 in
    let states : AreStates address old c.args.start.now c.args.present.now c.args.own.now s p o = record { start_stands = c.requires.start.1; present_stands = c.requires.present.1; own_stands = c.requires.own.1 } in
    let made : IsCandidate address now (candidate_of.Record c.in-Record.decided) (candidate s p o) =
    subst (λ (one : Candidate). IsCandidate address now one (candidate s p o)) c.in-Record.is (c.in_ok-proposal.ensures.is s p o states) in
    let is = proposed_is address now c.in-Record.decided s p o (set true c.args.allow c.args.force) made in
    (is.state, is.stands)

pub returns-in-Refused-clause-is : goal.returns-in-Refused-clause-is
returns-in-Refused-clause-is g c = λ s p o autocommit states.
    let address = g.D.Digester.address in
    let now = chunks_of c.proposed.new.draft.chunks in
    let made : IsCandidate address now (candidate_of.Refused c.in-Refused.number) (candidate s p o) =
    subst (λ (one : Candidate). IsCandidate address now one (candidate s p o)) c.in-Refused.is (c.in_ok-proposal.ensures.is s p o states) in
    refusal_stays address now s p o (set autocommit c.args.allow c.args.force) c.in-Refused.number made

pub returns-clause-is : goal.returns-clause-is
returns-clause-is g c = λ s p o autocommit states.
    let address = g.D.Digester.address in
    let now = chunks_of c.proposed.new.draft.chunks in
    let made : IsCandidate address now (candidate_of.Record c.in-Record.decided) (candidate s p o) =
    subst (λ (one : Candidate). IsCandidate address now one (candidate s p o)) c.in-Record.is (c.in_ok-proposal.ensures.is s p o states) in
    let is = proposed_is address now c.in-Record.decided s p o (set autocommit c.args.allow c.args.force) made in
    subst (λ (outcome : Outcome BranchState). IsCandidate address now c.in_ok-made-in-Record.made outcome) (sym is.decided) (c.in_ok-made-in-Record.ensures.is is.state autocommit is.stands)
