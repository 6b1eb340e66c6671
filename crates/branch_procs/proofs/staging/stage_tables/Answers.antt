use Rattle.chunk_store.specs.Chunks.{Extends}
use Rattle.chunk_store.specs.Drafts.{chunks_of}
use Rattle.chunk_store.specs.Kinds.{is_database}
use Rattle.branch_procs.proofs.StageLemmas.{few_tables, many_refused, staged_so}
use Rattle.branch_procs.proofs.staging.stage_tables.Goals as goal

pub returns-then-many-clause-is : goal.returns-then-many-clause-is
returns-then-many-clause-is g c = λ state database can.
    many_refused g.D.Digester.address (chunks_of c.args.draft.now.chunks) c.args.tables.now state database c.are_too_many-many.result can.tables_are c.are_too_many-many.ensures c.if-many.true

pub put_database-requires-after_bounds : goal.put_database-requires-after_bounds
put_database-requires-after_bounds g c κs within =
    let (state, database, can) = c.requires in (
      database,
      few_tables g.D.Digester.address (chunks_of c.args.draft.now.chunks) c.args.tables.now database c.are_too_many-many.result can.tables_are c.are_too_many-many.ensures c.if-many.false,
    )

pub returns-clause-is : goal.returns-clause-is
returns-clause-is g c = λ state database can.
    let address = g.D.Digester.address in
    let old = c.args.draft.now in
    let new = c.put_database.new.draft in
    let laws = c.laws_of_growth.ensures in
    let more : Extends (chunks_of old.chunks) (chunks_of new.chunks) = laws.drafts.longer_extends old.chunks new.chunks (laws.growth.is_longer is_database old new c.put_database.ensures.grows) in
    let few = few_tables address (chunks_of old.chunks) c.args.tables.now database c.are_too_many-many.result can.tables_are c.are_too_many-many.ensures c.if-many.false in
    staged_so address (chunks_of old.chunks) (chunks_of new.chunks) more laws.databases c.args.own.now c.in_ok-staged.staged c.with_staged.result state database can.stands
    (c.in_ok-staged.ensures.stands database few) c.with_staged.ensures few.few
