use Rattle.std.proofs.Common.{ℕ, List, Option, sym, ap, ◌∙◌, subst}
use Rattle.chunk_store.specs.Drafts.{chunks_of}
use Rattle.schema_model.specs.PlainTables.{PlainTable}
use Rattle.expr_eval.specs.Binding.{Outcome, and_then}
use Rattle.plain_writes.specs.CheckTexts.{checks}
use Rattle.plain_sql.specs.Lists.{or_refuse}
use Rattle.plain_writes.specs.Violations.{table_in}
use Rattle.plain_writes.specs.Writes.{Effect, deleted}
use Rattle.sql_write.specs.Finding.{IsFound}
use Rattle.sql_write.specs.Making.{Makes}
use Rattle.sql_write.proofs.PlaceLemmas.{found_of}
use Rattle.sql_write.proofs.updating.delete.Goals as goal

pub delete_found-requires-after_bounds : goal.delete_found-requires-after_bounds
delete_found-requires-after_bounds g c κs within =
    let address = g.D.Digester.address in
    let chunks = chunks_of c.args.draft.now.chunks in
    let database = c.requires.0 in
    let found = found_of address chunks c.args.database.now.0 c.as_slice.result.now database c.in_ok-found.found (table_in database c.as_slice.result.now) (c.in_ok-found.ensures database c.requires.1) in
    (database, found.0, subst (λ (name : List ℕ). IsFound address chunks c.args.database.now.0 name database found.0 c.in_ok-found.found) c.as_slice.ensures found.2)

pub returns-clause-done : goal.returns-clause-done
returns-clause-done g c = λ database kept.
    let address = g.D.Digester.address in
    let chunks = chunks_of c.args.draft.now.chunks in
    let statement = c.args.delete.now in
    let found = found_of address chunks c.args.database.now.0 c.as_slice.result.now database c.in_ok-found.found (table_in database c.as_slice.result.now) (c.in_ok-found.ensures database kept) in
    let there = sym (ap (λ (name : List ℕ). table_in database name) c.as_slice.ensures) ∙ found.1 in
    subst (λ (o : Outcome Effect). Makes address (chunks_of c.delete_found.new.draft.chunks) c.delete_found.result o)
    (sym (ap (λ (o : Option PlainTable). and_then (or_refuse 1146 o) (deleted checks database statement)) there))
    (c.delete_found.ensures.done database found.0 (subst (λ (name : List ℕ). IsFound address chunks c.args.database.now.0 name database found.0 c.in_ok-found.found) c.as_slice.ensures found.2))
