use Rattle.std.proofs.Common.{refl}
use Rattle.session_txn.proofs.SessionLemmas.{begins, none_lost}
use Rattle.session_txn.proofs.planning.plan_begin.Goals as goal

pub returns-clause-started : goal.returns-clause-started
returns-clause-started g c p shared stands look_is =
    begins g.D.Digester.address c.args.session.now c.args.look (record { branch = c.args.look.branch; rec = c.args.look.rec; heads = c.args.look.heads; store = c.new.result })
    c.restart.new.self p shared c.law_of_transactions.ensures stands look_is c.requires.look.2 refl refl c.restart.ensures.chunks

pub returns-clause-pages : goal.returns-clause-pages
returns-clause-pages g c =
    none_lost c.args.session.now.draft.free c.args.session.now.draft.taken c.restart.new.self.free c.restart.new.self.taken c.restart.ensures.free c.restart.ensures.taken
