use Rattle.std.proofs.Common.{Option, sym, ap, subst}
use Rattle.chunk_store.specs.Drafts.{chunks_of}
use Rattle.schema_model.specs.PlainTables.{PlainTable}
use Rattle.expr_eval.specs.Binding.{Outcome, and_then}
use Rattle.plain_sql.specs.Lists.{or_refuse}
use Rattle.plain_writes.specs.Violations.{table_in}
use Rattle.plain_writes.specs.Writes.{Effect}
use Rattle.sql_write.specs.Writing.{Writes}
use Rattle.session_txn.specs.Deleting.{effect_on}
use Rattle.session_txn.proofs.FoundLemmas.{found_of}
use Rattle.session_txn.proofs.deleting.delete_entries.Goals as goal

pub delete_found-requires-after_bounds : goal.delete_found-requires-after_bounds
delete_found-requires-after_bounds g c κs within =
    let database = c.requires.0 in
    let found = found_of g.D.Digester.address (chunks_of c.args.draft.now.chunks) c.args.database.now.0 c.args.name.now database c.in_ok-found.found (table_in database c.args.name.now)
    (c.in_ok-found.ensures database c.requires.1) in
    (database, found.0, found.2)

pub returns-clause-done : goal.returns-clause-done
returns-clause-done g c = λ database kept.
    let address = g.D.Digester.address in
    let found = found_of address (chunks_of c.args.draft.now.chunks) c.args.database.now.0 c.args.name.now database c.in_ok-found.found (table_in database c.args.name.now) (c.in_ok-found.ensures database kept) in
    subst (λ (o : Outcome Effect). Writes address (chunks_of c.delete_found.new.draft.chunks) c.delete_found.result o)
    (sym (ap (λ (o : Option PlainTable). and_then (or_refuse 1146 o) (effect_on c.args.which database c.args.delete.now c.args.name.now)) found.1))
    (c.delete_found.ensures.done database found.0 found.2)
