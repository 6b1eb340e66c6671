use Rattle.std.proofs.Common.{[], List, sym, subst}
use Rattle.chunk_store.specs.Chunks.{Extends}
use Rattle.chunk_store.specs.Drafts.{chunks_of}
use Rattle.chunk_store.specs.Kinds.{is_data}
use Rattle.table_root.specs.declared.records.TableEntry.{TableEntry}
use Rattle.plain_sessions.specs.Merging.{database_after}
use Rattle.sql_write.specs.Putting.{AreListed}
use Rattle.merge_procs.specs.Resolving.{CanJudge}
use Rattle.merge_procs.proofs.JudgeLemmas.{can_judge, can_settle, listed_after}
use Rattle.merge_procs.proofs.resolving.settled.Goals as goal

pub settle_each-requires-after_bounds : goal.settle_each-requires-after_bounds
settle_each-requires-after_bounds g c κs within =
    let (commits, state, can) = c.requires in
    (state.working, can_settle g.D.Digester.address (chunks_of c.args.draft.now.chunks) commits c.args.own.now c.args.tables.now c.args.request.now state can)

pub put_database-requires-after_bounds : goal.put_database-requires-after_bounds
put_database-requires-after_bounds g c κs within =
    let (commits, state, can) = c.requires in
    let address = g.D.Digester.address in
    let old = chunks_of c.args.draft.now.chunks in
    let mid = chunks_of c.settle_each.new.draft.chunks in
    let request = c.args.request.now in
    let settle = can_settle address old commits c.args.own.now c.args.tables.now request state can in
    let there = c.in_ok-settle_each.ensures.stands state.working settle [] (record { stand = tt; listed = c.new-made.ensures }) in
    let is = can.is in
    let stands = is.stands in (
      database_after request state.working,
      subst (λ (l : List TableEntry). AreListed address mid l (database_after request state.working)) (sym c.as_slice.ensures)
          (listed_after address old mid c.args.own.now.working.0 c.settle_each.new.made request state.working stands.working there),
    )

pub judged-requires-after_bounds : goal.judged-requires-after_bounds
judged-requires-after_bounds g c κs within =
    let (commits, state, can) = c.requires in
    let address = g.D.Digester.address in
    let old = c.args.draft.now in
    let mid = c.settle_each.new.draft in
    let new = c.put_database.new.draft in
    let laws = c.laws_of_growth.ensures in
    let first : Extends (chunks_of old.chunks) (chunks_of mid.chunks) = laws.drafts.longer_extends old.chunks mid.chunks (laws.growth.is_longer is_data old mid c.settle_each.ensures.grows) in
    let later : Extends (chunks_of mid.chunks) (chunks_of new.chunks) = laws.drafts.longer_extends mid.chunks new.chunks (laws.growth.is_longer is_data mid new c.put_database.ensures.grows) in
    let more : Extends (chunks_of old.chunks) (chunks_of new.chunks) = λ k bytes found. later k bytes (first k bytes found) in
    let request = c.args.request.now in
    let settle = can_settle address (chunks_of old.chunks) commits c.args.own.now c.args.tables.now request state can in
    let there = c.in_ok-settle_each.ensures.stands state.working settle [] (record { stand = tt; listed = c.new-made.ensures }) in
    let is = can.is in
    let stands = is.stands in
    let listed = subst (λ (l : List TableEntry). AreListed address (chunks_of mid.chunks) l (database_after request state.working)) (sym c.as_slice.ensures)
    (listed_after address (chunks_of old.chunks) (chunks_of mid.chunks) c.args.own.now.working.0 c.settle_each.new.made request state.working stands.working there) in
    let at = c.in_ok-root.ensures.stands (database_after request state.working) listed in (
      commits,
      request,
      state,
      database_after request state.working,
      subst (λ (l : List TableEntry). CanJudge address (chunks_of new.chunks) commits c.args.own.now l c.in_ok-root.root request state (database_after request state.working)) (sym c.as_slice-2.ensures)
          (can_judge address (chunks_of old.chunks) (chunks_of mid.chunks) (chunks_of new.chunks) commits c.args.own.now c.args.tables.now c.settle_each.new.made c.in_ok-root.root request state later more laws.tables
          c.law_of_records.ensures can there at),
    )

pub returns-clause-is : goal.returns-clause-is
returns-clause-is g c = λ commits state can.
    let address = g.D.Digester.address in
    let old = c.args.draft.now in
    let mid = c.settle_each.new.draft in
    let new = c.put_database.new.draft in
    let laws = c.laws_of_growth.ensures in
    let first : Extends (chunks_of old.chunks) (chunks_of mid.chunks) = laws.drafts.longer_extends old.chunks mid.chunks (laws.growth.is_longer is_data old mid c.settle_each.ensures.grows) in
    let later : Extends (chunks_of mid.chunks) (chunks_of new.chunks) = laws.drafts.longer_extends mid.chunks new.chunks (laws.growth.is_longer is_data mid new c.put_database.ensures.grows) in
    let more : Extends (chunks_of old.chunks) (chunks_of new.chunks) = λ k bytes found. later k bytes (first k bytes found) in
    let request = c.args.request.now in
    let settle = can_settle address (chunks_of old.chunks) commits c.args.own.now c.args.tables.now request state can in
    let there = c.in_ok-settle_each.ensures.stands state.working settle [] (record { stand = tt; listed = c.new-made.ensures }) in
    let is = can.is in
    let stands = is.stands in
    let listed = subst (λ (l : List TableEntry). AreListed address (chunks_of mid.chunks) l (database_after request state.working)) (sym c.as_slice.ensures)
    (listed_after address (chunks_of old.chunks) (chunks_of mid.chunks) c.args.own.now.working.0 c.settle_each.new.made request state.working stands.working there) in
    let at = c.in_ok-root.ensures.stands (database_after request state.working) listed in
    c.in_ok-step.ensures commits request state (database_after request state.working)
    (subst (λ (l : List TableEntry). CanJudge address (chunks_of new.chunks) commits c.args.own.now l c.in_ok-root.root request state (database_after request state.working)) (sym c.as_slice-2.ensures)
    (can_judge address (chunks_of old.chunks) (chunks_of mid.chunks) (chunks_of new.chunks) commits c.args.own.now c.args.tables.now c.settle_each.new.made c.in_ok-root.root request state later more laws.tables
    c.law_of_records.ensures can there at))
