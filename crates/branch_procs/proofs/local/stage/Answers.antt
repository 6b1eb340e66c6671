use Rattle.std.proofs.Common.{◌≡◌, ◌≤◌, ◌∙◌, sym, ap, subst}
use Rattle.chunk_store.specs.Drafts.{pages_in}
use Rattle.plain_sessions.specs.Records.{root_of}
use Rattle.branch_procs.specs.Calls.{staged_by}
use Rattle.branch_procs.proofs.LocalLemmas.{base_back, failed_so, fails_truly, settled_so, settled_truly}
use Rattle.branch_procs.proofs.local.stage.Goals as goal

pub returns-in-Ok-clause-stages : goal.returns-in-Ok-clause-stages
returns-in-Ok-clause-stages g c = λ commits state own.
    settled_so g.D.Digester.address c.args.draft.now c.made-made.new.draft c.settle.new.draft c.args.own.now c.settle.new.own c.mark-mark.result.own c.in-Ok.candidate
    (staged_by (root_of commits state.head) c.args.asked.now state) c.settle.result c.laws.ensures.drafts c.laws.ensures.growth c.mark-mark.ensures.own c.in-Ok.ensures.grows
    (c.in-Ok.ensures.is commits state own) c.settle.ensures.settles

pub returns-in-Err-clause-stages : goal.returns-in-Err-clause-stages
returns-in-Err-clause-stages g c = λ commits state own.
    failed_so g.D.Digester.address c.args.draft.now c.made-made.new.draft c.back_to.new.self c.args.own.now c.mark-mark.result.own c.in-Err.fault
    (staged_by (root_of commits state.head) c.args.asked.now state) c.told.result c.laws.ensures.drafts c.laws.ensures.growth c.mark-mark.ensures.own c.in-Err.ensures.grows
    c.back_to.ensures.chunks c.told.ensures.told

pub returns-in-Ok-clause-truly : goal.returns-in-Ok-clause-truly
returns-in-Ok-clause-truly g c =
    settled_truly g.D.Digester.address c.made-made.new.draft c.settle.new.draft c.args.own.now c.settle.new.own c.mark-mark.result.own c.in-Ok.candidate c.settle.result c.settle.ensures.settles

pub returns-in-Err-clause-truly : goal.returns-in-Err-clause-truly
returns-in-Err-clause-truly g c =
    fails_truly g.D.Digester.address c.args.draft.now c.made-made.new.draft c.in-Err.fault c.told.result c.laws.ensures.chunks c.laws.ensures.drafts c.laws.ensures.growth c.requires.named
    c.tell.ensures c.in-Err.ensures.grows c.in-Err.ensures.cause c.told.ensures.told

pub returns-in-Ok-clause-base : goal.returns-in-Ok-clause-base
returns-in-Ok-clause-base g c = c.settle.ensures.base ∙ c.in-Ok.ensures.grows.base

pub returns-in-Err-clause-base : goal.returns-in-Err-clause-base
returns-in-Err-clause-base g c =
    base_back c.args.draft.now.chunks c.made-made.new.draft.chunks c.back_to.new.self.chunks c.mark-mark.result.own c.in-Err.ensures.grows.base c.back_to.ensures.chunks

pub returns-in-Ok-clause-pages : goal.returns-in-Ok-clause-pages
returns-in-Ok-clause-pages g c = subst (λ n. pages_in c.args.draft.now ≤ n) (sym c.settle.ensures.pages) c.in-Ok.ensures.grows.pages

pub returns-in-Err-clause-pages : goal.returns-in-Err-clause-pages
returns-in-Err-clause-pages g c = subst (λ n. pages_in c.args.draft.now ≤ n) (sym c.back_to.ensures.pages) c.in-Err.ensures.grows.pages
