use Rattle.std.proofs.Common.{◌≡◌, map}
use Rattle.std.proofs.lemmas.Result.{IfOk-weaker}
use Rattle.chunk_store.specs.Drafts.{chunks_of}
use Rattle.plain_sessions.specs.Branching.{staged_first}
use Rattle.sql_procedures.specs.declared.requests.Staging.TheVariants as staging
use Rattle.table_root.specs.declared.records.TableEntry.{TableEntry}
use Rattle.branch_procs.specs.Listing.{AreFewTables}
use Rattle.branch_procs.specs.Taking.{taking_all}
use Rattle.branch_procs.proofs.ClosingLemmas.{known_told}
use Rattle.branch_procs.proofs.closing.known_staged.Goals as goal

pub read_tables-requires-after_bounds : goal.read_tables-requires-after_bounds
read_tables-requires-after_bounds g c κs within = let (state, database, on) = c.requires in let stands = on.stands in (state.working, stands.working)

pub read_tables-requires-2-after_bounds : goal.read_tables-requires-2-after_bounds
read_tables-requires-2-after_bounds g c κs within = let (state, database, on) = c.requires in let stands = on.stands in (state.staged, stands.staged)

pub read_tables-requires-3-after_bounds : goal.read_tables-requires-3-after_bounds
read_tables-requires-3-after_bounds g c κs within = let (state, database, on) = c.requires in let stands = on.stands in (state.staged, stands.staged)

pub read_tables-requires-4-after_bounds : goal.read_tables-requires-4-after_bounds
read_tables-requires-4-after_bounds g c κs within = let (state, database, on) = c.requires in (database, on.root_stands)

pub returns : goal.returns
returns g c = λ state database on.
    let stands = on.stands in
    let address = g.D.Digester.address in
    let chunks = chunks_of c.args.draft.now.chunks in
    IfOk-weaker c.take_named-2.result (λ made. made.items ≡ taking_all c.as_slice-3.result.now c.in_ok-made.made.items (map (λ (named : TableEntry). named.name) c.as_slice-4.result.now))
    (λ made. AreFewTables address chunks made.items (staged_first database staging.Known state))
    (λ made is. known_told address chunks c.in_ok-working.working.items c.in_ok-staged.staged.items c.in_ok-names.names.items c.in_ok-head.head.items
    c.as_slice.result.now c.as_slice-2.result.now c.as_slice-3.result.now c.as_slice-4.result.now c.in_ok-made.made.items made.items state.working state.staged database
    (c.in_ok-working.ensures state.working stands.working) (c.in_ok-staged.ensures state.staged stands.staged) (c.in_ok-names.ensures state.staged stands.staged)
    (c.in_ok-head.ensures database on.root_stands) c.as_slice.ensures.value c.as_slice-2.ensures.value c.as_slice-3.ensures.value c.as_slice-4.ensures.value c.in_ok-made.ensures is)
    c.take_named-2.ensures
