use Rattle.std.proofs.Common.{ap}
use Rattle.chunk_store.specs.Drafts.{DraftParts}
use Rattle.session_txn.proofs.SessionLemmas.{ended, none_lost}
use Rattle.session_txn.proofs.answering.end.Goals as goal

pub returns-clause-over : goal.returns-clause-over
returns-clause-over g c = λ p stands. ended g.D.Digester.address c.args.session.now c.clear.new.self p c.clear.ensures.chunks stands

pub returns-clause-base : goal.returns-clause-base
returns-clause-base g c = ap (λ (d : DraftParts). d.base) c.clear.ensures.chunks

pub returns-clause-pages : goal.returns-clause-pages
returns-clause-pages g c =
    none_lost c.args.session.now.draft.free c.args.session.now.draft.taken c.clear.new.self.free c.clear.new.self.taken c.clear.ensures.free c.clear.ensures.taken
