use Rattle.chunk_store.specs.Drafts.{chunks_of}
use Rattle.root_merge.proofs.DecideLemmas.{clean_candidate}
use Rattle.root_merge.proofs.deciding.both.Goals as goal

pub returns-in_ok-record-in-Clean-staged-clause-is : goal.returns-in_ok-record-in-Clean-staged-clause-is
returns-in_ok-record-in-Clean-staged-clause-is g c = λ w s present are at.
    clean_candidate g.D.Digester.address (chunks_of c.args.draft.now.chunks) (chunks_of c.record_merged.new.draft.chunks) present c.args.head c.args.working.now c.args.staged.now c.in-Clean.working c.in-Clean-staged.staged w s
    c.in_ok-record-in-Clean-staged.record c.in-Clean.is c.in-Clean-staged.is are.working_is are.staged_is at c.in_ok-record-in-Clean-staged.ensures.stands
