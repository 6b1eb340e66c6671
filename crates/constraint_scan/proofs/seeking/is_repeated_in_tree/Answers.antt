use Rattle.std.proofs.Common.{◌++◌, ◌∙◌, List, ℕ, Some, ap, sym}
use Rattle.std.specs.List.{list_any}
use Rattle.chunk_store.specs.Drafts.{chunks_of}
use Rattle.tuple_codec.specs.Nodes.{Item}
use Rattle.tuple_codec.specs.Rows.{key_of}
use Rattle.schema_model.specs.PlainTables.{index_items}
use Rattle.plain_writes.specs.Violations.{is_twin}
use Rattle.violation_lists.specs.Seeking.{is_another, sought}
use Rattle.constraint_scan.proofs.FoundLemmas.{so_found, twin_found}
use Rattle.violation_lists.proofs.TreeLemmas.{in_twins}
use Rattle.constraint_scan.proofs.seeking.is_repeated_in_tree.Goals as goal

pub returns-in-Some-own : goal.returns-in-Some-own
returns-in-Some-own g c = λ contents at.
    let schema = c.args.table.now.schema in
    let index = c.args.index.now in
    let row = c.args.row.now in
    let bytes = c.as_slice-in-Some-own.result.now in
    let own = c.as_slice-in-Some-own-2.result.now in
    let is = ap (λ (l : List ℕ). sought schema l (key_of l row)) (sym c.as_slice-columns.ensures) ∙ sym c.in_ok-bytes.ensures ∙ c.in-Some.is ∙ ap (λ (l : List ℕ). Some l) (sym c.as_slice-in-Some-own.ensures) in
    let is_own = ap (λ (l : List ℕ). sought schema l (key_of l row)) (sym c.as_slice.ensures) ∙ sym c.in_ok-own.ensures ∙ c.in-Some-own.is ∙ ap (λ (l : List ℕ). Some l) (sym c.as_slice-in-Some-own-2.ensures) in
    twin_found c.begins_another.result contents.schema contents.rows index.columns row c.requires.whole
    (so_found c.begins_another.result (list_any (λ (item : Item). is_another bytes (bytes ++ own) item.key) (index_items contents index))
    (list_any (is_twin contents.schema index.columns row) contents.rows)
    (in_twins g.D.Digester.address (chunks_of c.args.draft.now.chunks) c.args.table.now contents at.stands index row bytes own is is_own)
    (c.begins_another.ensures (index_items contents index) at.tree))
