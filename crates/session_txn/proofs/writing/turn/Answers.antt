use Rattle.std.proofs.Common.{ap, ◌∙◌, ◌≤◌, subst, sym}
use Rattle.chunk_store.specs.Drafts.{DraftParts, pages_in}
use Rattle.session_txn.specs.Deleting.{turn_effect}
use Rattle.session_txn.proofs.WriteLemmas.{refuses_truly, turned, unturned}
use Rattle.session_txn.proofs.writing.turn.Goals as goal

pub returns-in-Ok-clause-turns : goal.returns-in-Ok-clause-turns
returns-in-Ok-clause-turns g c = λ tables stands.
    turned g.D.Digester.address c.args.draft.now c.written-result.new.draft c.args.database.now tables c.args.statement.now c.in-Ok.written c.written_reply.result
    (c.in-Ok.ensures.done tables stands) c.written_reply.ensures c.in-Ok.ensures.grows

pub returns-in-Err-clause-turns : goal.returns-in-Err-clause-turns
returns-in-Err-clause-turns g c = λ tables stands.
    unturned g.D.Digester.address c.args.draft.now c.written-result.new.draft c.back_to.new.self c.args.database.now c.mark-mark.result.own c.in-Err.fault (turn_effect tables c.args.statement.now)
    c.refuse.result c.laws.ensures.drafts (c.in-Err.ensures.done tables stands) c.refuse.ensures.due c.mark-mark.ensures.own c.in-Err.ensures.longer c.back_to.ensures.chunks

pub returns-in-Err-clause-truly : goal.returns-in-Err-clause-truly
returns-in-Err-clause-truly g c =
    refuses_truly g.D.Digester.address c.args.draft.now.chunks c.written-result.new.draft.chunks c.in-Err.fault (turn_effect c.requires.tables.0 c.args.statement.now) c.refuse.result
    c.laws.ensures.chunks c.laws.ensures.drafts c.requires.named c.tell.ensures c.in-Err.ensures.longer (c.in-Err.ensures.done c.requires.tables.0 c.requires.tables.1) c.refuse.ensures.due

pub returns-in-Ok-clause-base : goal.returns-in-Ok-clause-base
returns-in-Ok-clause-base g c = c.in-Ok.ensures.grows.base

pub returns-in-Err-clause-base : goal.returns-in-Err-clause-base
returns-in-Err-clause-base g c = ap (λ (d : DraftParts). d.base) c.back_to.ensures.chunks ∙ c.in-Err.ensures.longer.base

pub returns-in-Ok-clause-pages : goal.returns-in-Ok-clause-pages
returns-in-Ok-clause-pages g c = c.in-Ok.ensures.grows.pages

pub returns-in-Err-clause-pages : goal.returns-in-Err-clause-pages
returns-in-Err-clause-pages g c = subst (λ n. pages_in c.args.draft.now ≤ n) (sym c.back_to.ensures.pages) c.in-Err.ensures.grows.pages
