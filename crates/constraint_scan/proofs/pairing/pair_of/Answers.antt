use Rattle.std.proofs.Common.{◌≡◌}
use Rattle.chunk_store.specs.Drafts.{chunks_of}
use Rattle.constraint_scan.proofs.PairLemmas.{rows_at, valid_at}
use Rattle.constraint_scan.proofs.pairing.pair_of.Goals as goal

pub rows_that_came-requires-clause-schema : goal.rows_that_came-requires-clause-schema
rows_that_came-requires-clause-schema g c κs within = valid_at g.D.Digester.address (chunks_of c.args.draft.now.chunks) c.args.new c.requires.new.0 c.requires.new.1

pub rows_that_came-requires-clause-new : goal.rows_that_came-requires-clause-new
rows_that_came-requires-clause-new g c κs within = let new = c.requires.new.0 in (new.rows, rows_at g.D.Digester.address (chunks_of c.args.draft.now.chunks) c.args.new new c.requires.new.1)

pub returns : goal.returns
returns g c = λ before after old_at new_at.
    let come = c.in_ok-come.ensures before after.rows old_at (rows_at g.D.Digester.address (chunks_of c.args.draft.now.chunks) c.args.new after new_at) in
    λ i. record { name = c.in_ok-name.ensures i; old = c.args.old; new = c.args.new; come = come i }
