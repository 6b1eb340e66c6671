use Rattle.std.proofs.Common.{ℕ, List, Option, sym, ap, ◌∙◌, subst}
use Rattle.chunk_store.specs.Drafts.{chunks_of}
use Rattle.schema_model.specs.PlainTables.{PlainTable}
use Rattle.expr_eval.specs.Binding.{Outcome, and_then}
use Rattle.plain_writes.specs.CheckTexts.{checks}
use Rattle.plain_sql.specs.Lists.{or_refuse}
use Rattle.plain_writes.specs.Violations.{table_in}
use Rattle.plain_writes.specs.Writes.{Effect, inserted}
use Rattle.sql_write.specs.Finding.{IsFound}
use Rattle.sql_write.specs.Making.{Makes}
use Rattle.sql_write.proofs.PlaceLemmas.{found_of}
use Rattle.sql_write.proofs.inserting.insert.Goals as goal

pub insert_into-requires-after_bounds : goal.insert_into-requires-after_bounds
insert_into-requires-after_bounds g c κs within =
    let address = g.D.Digester.address in
    let chunks = chunks_of c.args.draft.now.chunks in
    let database = c.requires.0 in
    let found = found_of address chunks c.args.database.now.0 c.as_slice.result.now database c.in_ok-found.found (table_in database c.as_slice.result.now) (c.in_ok-found.ensures database c.requires.1) in
    (database, found.0, subst (λ (name : List ℕ). IsFound address chunks c.args.database.now.0 name database found.0 c.in_ok-found.found) c.as_slice.ensures found.2)

pub returns-clause-done : goal.returns-clause-done
returns-clause-done g c = λ database kept.
    let address = g.D.Digester.address in
    let chunks = chunks_of c.args.draft.now.chunks in
    let insert = c.args.insert.now in
    let found = found_of address chunks c.args.database.now.0 c.as_slice.result.now database c.in_ok-found.found (table_in database c.as_slice.result.now) (c.in_ok-found.ensures database kept) in
    let there = sym (ap (λ (name : List ℕ). table_in database name) c.as_slice.ensures) ∙ found.1 in
    subst (λ (o : Outcome Effect). Makes address (chunks_of c.insert_into.new.draft.chunks) c.insert_into.result o)
    (sym (ap (λ (o : Option PlainTable). and_then (or_refuse 1146 o) (inserted checks database insert)) there))
    (c.insert_into.ensures.done database found.0 (subst (λ (name : List ℕ). IsFound address chunks c.args.database.now.0 name database found.0 c.in_ok-found.found) c.as_slice.ensures found.2))
