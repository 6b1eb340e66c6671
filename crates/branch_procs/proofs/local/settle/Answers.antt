use Rattle.std.proofs.Common.{◌≡◌, refl, sym, ap, subst}
use Rattle.chunk_store.specs.Drafts.{DraftParts}
use Rattle.root_merge.specs.declared.candidates.Candidate.{Candidate}
use Rattle.branch_procs.specs.Calls.{Settles}
use Rattle.branch_procs.proofs.LocalLemmas.{status_sound}
use Rattle.branch_procs.proofs.local.settle.Goals as goal

pub returns-in-Record-clause-settles : goal.returns-in-Record-clause-settles
returns-in-Record-clause-settles g c =
    subst (λ (m : Candidate). Settles c.args.mark.own c.args.draft.now c.args.draft.now c.args.own.now c.in-Record.rec m c.args.reply) (sym c.in-Record.is) (refl, refl, c.requires)

pub returns-in-Record-clause-sound : goal.returns-in-Record-clause-sound
returns-in-Record-clause-sound g c = status_sound c.args.reply c.requires

pub returns-in-Refused-clause-settles : goal.returns-in-Refused-clause-settles
returns-in-Refused-clause-settles g c =
    subst (λ (m : Candidate). Settles c.args.mark.own c.args.draft.now c.back_to.new.self c.args.own.now c.args.own.now m c.due.result) (sym c.in-Refused.is)
    (c.back_to.ensures.chunks, refl, c.due.ensures.due)

pub returns-in-Refused-clause-base : goal.returns-in-Refused-clause-base
returns-in-Refused-clause-base g c = ap (λ (d : DraftParts). d.base) c.back_to.ensures.chunks
