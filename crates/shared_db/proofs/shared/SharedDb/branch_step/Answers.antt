use Rattle.std.proofs.Common.{ap}
use Rattle.session_state.specs.Changes.{Parts}
use Rattle.shared_db.specs.Stepping.{plain_step}
use Rattle.shared_db.proofs.StandLemmas.{ends_restated}
use Rattle.shared_db.proofs.shared.SharedDb.branch_step.Goals as goal

pub returns-clause-plain : goal.returns-clause-plain
returns-clause-plain c = λ address shared p stands placed.
    let is = c.note.ensures.parts in
    ends_restated address (plain_step shared p c.args.step.now) c.step-reply.result c.step-reply.new.self.parts _ (c.step-reply.ensures.plain address shared p stands placed)
    (ap (λ (parts : Parts). parts.branches) is) (ap (λ (parts : Parts). parts.places) is) (ap (λ (parts : Parts). parts.chunks) is)
