use Rattle.std.proofs.Common.{List, ℕ, None, Some, Bor, subst, arith}
use Rattle.std.proofs.lemmas.Result.{err_from_is_err_and}
use Rattle.schema_model.specs.Spellings.{ReadsSchema}
use Rattle.table_root.specs.Reading.{table_of}
use Rattle.table_root.specs.Tables.{IsTableIn}
use Rattle.table_root.proofs.SpellingLemmas.{no_schema, no_text_found, table_reads}
use Rattle.table_root.proofs.TakenLemmas.{finds}
use Rattle.table_root.proofs.tables.table_in.Goals as goal

pub returns-in_err-text : goal.returns-in_err-text
returns-in_err-text c =
    let p = err_from_is_err_and c.from_residual.result c.from_residual.ensures.1 in
    rw (p.1, p.2)
    (no_text_found c.args.bytes.now (λ (x : Bor (List ℕ) × Bor (List ℕ)). (x.0.now, x.1.now)) c.in_err-text.field-0.0 c.in_err-text.ensures)

pub returns-in-Some : goal.returns-in-Some
returns-in-Some c =
    let text = c.in_ok-text.text.now in
    let roots = c.in_ok-text.roots.now in
    let is : ReadsSchema text (Some c.in-Some.schema) = subst (ReadsSchema text) c.in-Some.is c.in_ok-schema.ensures in
    finds (IsTableIn c.args.bytes.now) c.table_of.result (table_of c.in-Some.schema roots) c.table_of.ensures
    (table_reads c.args.bytes.now text roots c.in-Some.schema (λ i. omega (arith, c.type_inv.bytes i)) c.in_ok-text.ensures is c.law_of_schemas.ensures)

pub returns-in-None : goal.returns-in-None
returns-in-None c =
    let text = c.in_ok-text.text.now in
    let none : ReadsSchema text None = subst (ReadsSchema text) c.in-None.is c.in_ok-schema.ensures in
    no_schema c.args.bytes.now text c.in_ok-text.roots.now c.in_ok-text.ensures none
