use Rattle.std.proofs.Common.{sym, subst}
use Rattle.chunk_store.specs.Chunks.{Extends}
use Rattle.chunk_store.specs.Drafts.{chunks_of}
use Rattle.chunk_store.specs.Kinds.{is_database}
use Rattle.plain_sessions.specs.Branching.{staged_first}
use Rattle.plain_sessions.specs.Records.{root_of}
use Rattle.tuple_codec.specs.declared.records.BranchRecord.{BranchRecord}
use Rattle.root_merge.specs.States.{BranchStateStands}
use Rattle.branch_procs.proofs.LocalLemmas.{head_known_at, on_head}
use Rattle.branch_procs.proofs.StageLemmas.{staged_stands}
use Rattle.branch_procs.proofs.TablesLemmas.{few_as}
use Rattle.branch_procs.proofs.making.staged_for.Goals as goal

pub head_root-requires-after_bounds : goal.head_root-requires-after_bounds
head_root-requires-after_bounds g c κs within =
    let (commits, state, own) = c.requires in
    (commits, own.all_there, head_known_at g.D.Digester.address c.args.draft.now.chunks c.args.own.now commits state own)

pub first_staged-requires-after_bounds : goal.first_staged-requires-after_bounds
first_staged-requires-after_bounds g c κs within =
    let (commits, state, own) = c.requires in
    let known = head_known_at g.D.Digester.address c.args.draft.now.chunks c.args.own.now commits state own in
    (state, root_of commits state.head, on_head g.D.Digester.address c.args.draft.now.chunks c.args.own.now commits state own c.in_ok-root.root (c.in_ok-root.ensures commits own.all_there known))

pub put_database-requires-after_bounds : goal.put_database-requires-after_bounds
put_database-requires-after_bounds g c κs within =
    let (commits, state, own) = c.requires in
    let address = g.D.Digester.address in
    let known = head_known_at address c.args.draft.now.chunks c.args.own.now commits state own in
    let on = on_head address c.args.draft.now.chunks c.args.own.now commits state own c.in_ok-root.root (c.in_ok-root.ensures commits own.all_there known) in (
      staged_first (root_of commits state.head) c.args.staging state,
      few_as address (chunks_of c.args.draft.now.chunks) c.in_ok-tables.tables.items c.as_slice.result.now (staged_first (root_of commits state.head) c.args.staging state) c.as_slice.ensures.value
          (c.in_ok-tables.ensures state (root_of commits state.head) on),
    )

pub returns-clause-stands : goal.returns-clause-stands
returns-clause-stands g c = λ commits state own.
    let address = g.D.Digester.address in
    let old = c.args.draft.now in
    let new = c.put_database.new.draft in
    let laws = c.laws_of_growth.ensures in
    let more : Extends (chunks_of old.chunks) (chunks_of new.chunks) = laws.drafts.longer_extends old.chunks new.chunks (laws.growth.is_longer is_database old new c.put_database.ensures.grows) in
    let root = root_of commits state.head in
    let first = staged_first root c.args.staging state in
    let known = head_known_at address old.chunks c.args.own.now commits state own in
    let on = on_head address old.chunks c.args.own.now commits state own c.in_ok-root.root (c.in_ok-root.ensures commits own.all_there known) in
    let few = few_as address (chunks_of old.chunks) c.in_ok-tables.tables.items c.as_slice.result.now first c.as_slice.ensures.value (c.in_ok-tables.ensures state root on) in
    subst (λ (r : BranchRecord). BranchStateStands address (chunks_of new.chunks) r (record state { staged = first })) (sym c.with_staged.ensures)
    (staged_stands address (chunks_of old.chunks) (chunks_of new.chunks) more laws.databases c.args.own.now c.in_ok-staged.staged state first on.stands (c.in_ok-staged.ensures.stands first few))
