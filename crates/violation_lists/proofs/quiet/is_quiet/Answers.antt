use Rattle.std.proofs.Common.{◌≡◌, ◌∙◌, ◌&&◌, ap, false, List, not, true, ℕ}
use Rattle.std.specs.Borrow.{Bor}
use Rattle.std.specs.List.{list_any}
use Rattle.chunk_store.specs.Drafts.{chunks_of}
use Rattle.schema_model.specs.PlainTables.{row_items}
use Rattle.violation_lists.specs.Thinned.{has_null_key, is_judged}
use Rattle.violation_lists.proofs.NullLemmas.{told_quiet}
use Rattle.violation_lists.proofs.TreeLemmas.{rows_tree, schema_same}
use Rattle.violation_lists.proofs.quiet.is_quiet.Goals as goal

pub get-requires-clause-tree : goal.get-requires-clause-tree
get-requires-clause-tree g c = λ κs within.
    let contents = c.requires.0 in
    (row_items contents, rows_tree g.D.Digester.address (chunks_of c.args.draft.now.chunks) c.args.table.now contents c.requires.1)

pub returns-then-not-is_judged : goal.returns-then-not-is_judged
returns-then-not-is_judged g c = λ contents of.
    let address = g.D.Digester.address in
    let chunks = chunks_of c.args.draft.now.chunks in
    let judged : false ≡ is_judged contents.schema = c.if-not-is_judged.ensures ∙ ap is_judged (schema_same address chunks c.args.table.now contents of) in
    told_quiet contents.schema (λ (value : Bor (List ℕ)). value.now) c.get.result c.is_none.result contents.rows c.is_none.ensures
    (c.get.ensures (row_items contents) (rows_tree address chunks c.args.table.now contents of))
    ∙ (λ i. not (judged i) && not (list_any (has_null_key contents.schema) contents.rows))

pub returns-else-not-is_judged : goal.returns-else-not-is_judged
returns-else-not-is_judged g c = λ contents of.
    let judged : true ≡ is_judged contents.schema =
    c.if-not-is_judged.ensures ∙ ap is_judged (schema_same g.D.Digester.address (chunks_of c.args.draft.now.chunks) c.args.table.now contents of) in
    ap not c.if-not-is_judged.false ∙ (λ i. not (judged i) && not (list_any (has_null_key contents.schema) contents.rows))
