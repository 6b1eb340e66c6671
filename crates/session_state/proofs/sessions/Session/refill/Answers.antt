use Rattle.std.proofs.Common.{max}
use Rattle.session_state.proofs.PageLemmas.{kept_so, raised_so}
use Rattle.session_state.proofs.sessions.Session.refill.Goals as goal

pub returns-clause-raised : goal.returns-clause-raised
returns-clause-raised g c =
    raised_so c.args.self.now c.refill.new.self (max c.args.self.now.draft.free c.args.n) c.refill.result c.refill.ensures.chunks c.refill.ensures.segments c.refill.ensures.taken
    c.refill.ensures.raised

pub returns-clause-same : goal.returns-clause-same
returns-clause-same g c = kept_so c.args.self.now c.refill.new.self c.refill.result c.refill.ensures.same
