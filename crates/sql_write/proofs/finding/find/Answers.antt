use Rattle.std.proofs.Common.{List, Option, None, Some, Ok, refl, sym, ap, ◌∙◌, subst}
use Rattle.schema_model.specs.PlainTables.{PlainTable}
use Rattle.chunk_store.specs.Drafts.{chunks_of}
use Rattle.table_root.specs.declared.records.TableEntry.{TableEntry}
use Rattle.sql_write.specs.Finding.{Finds}
use Rattle.sql_write.specs.Putting.{address_in}
use Rattle.sql_write.proofs.TableLemmas.{absent, found_at}
use Rattle.sql_write.proofs.finding.find.Goals as goal

pub table_at-requires-after_bounds : goal.table_at-requires-after_bounds
table_at-requires-after_bounds g c κs within =
    let address = g.D.Digester.address in
    let chunks = chunks_of c.args.draft.now.chunks in
    let name = c.args.name.now in
    let are = c.in_ok-tables.ensures c.requires.0 c.requires.1 in
    let e = sym (ap (λ (l : List TableEntry). address_in l name) are.listed.listed) ∙ sym (ap (λ (l : List TableEntry). address_in l name) c.as_slice.ensures.value) ∙ sym c.in-Some.ensures in
    let there = found_at address chunks name c.in-Some.address c.requires.0 are.listed.stand e in
    (there.0, there.2)

pub returns-in_ok-table-in-Some : goal.returns-in_ok-table-in-Some
returns-in_ok-table-in-Some g c = λ contents kept.
    let address = g.D.Digester.address in
    let chunks = chunks_of c.args.draft.now.chunks in
    let name = c.args.name.now in
    let are = c.in_ok-tables.ensures contents kept in
    let e = sym (ap (λ (l : List TableEntry). address_in l name) are.listed.listed) ∙ sym (ap (λ (l : List TableEntry). address_in l name) c.as_slice.ensures.value) ∙ sym c.in-Some.ensures in
    let there = found_at address chunks name c.in-Some.address contents are.listed.stand e in
    subst (λ (o : Option PlainTable). Finds address chunks c.args.database.now.0 name contents (Ok (record { tables = c.in_ok-tables.tables; table = c.in_ok-table-in-Some.table })) o) (sym there.1)
    (record { kept = kept; listed = are.listed.listed; named = there.1; stands = c.in_ok-table-in-Some.ensures there.0 there.2 })

pub returns-in-None : goal.returns-in-None
returns-in-None g c = λ contents kept.
    let address = g.D.Digester.address in
    let name = c.args.name.now in
    let are = c.in_ok-tables.ensures contents kept in
    let e = sym (ap (λ (l : List TableEntry). address_in l name) are.listed.listed) ∙ sym (ap (λ (l : List TableEntry). address_in l name) c.as_slice.ensures.value) ∙ sym c.in-None.ensures in
    (refl, absent address name contents e)
