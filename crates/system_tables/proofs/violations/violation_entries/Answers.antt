use Rattle.std.proofs.Common.{List, [], ◌∷◌, ◌++◌, sym, ap, ◌∙◌, subst, map}
use Rattle.chunk_store.specs.Drafts.{chunks_of}
use Rattle.prolly_tree.specs.Walks.{scan_rest}
use Rattle.schema_model.specs.PlainTables.{violation_item}
use Rattle.system_tables.specs.declared.entries.ListEntry.{ListEntry}
use Rattle.system_tables.proofs.ViolationLemmas.{IsReading, begins, first, over, own_fit, own_tree, shown_of}
use Rattle.system_tables.proofs.violations.violation_entries.Goals as goal

pub scan_from-requires-clause-tree : goal.scan_from-requires-clause-tree
scan_from-requires-clause-tree g c κs within =
    let contents = c.requires.0 in (
      map (violation_item c.args.table.now.schema) contents.violations,
      own_tree g.D.Digester.address (chunks_of c.args.draft.now.chunks) c.args.table.now contents c.requires.1,
    )

pub items-init : goal.items-init
items-init g c = λ contents of.
    let schema = c.args.table.now.schema in
    let address = g.D.Digester.address in
    let chunks = chunks_of c.args.draft.now.chunks in
    subst (λ (l : List ListEntry). IsReading schema contents.violations l (scan_rest c.in_ok-scan.scan)) (sym c.new-entries.ensures)
    (begins schema contents.violations (own_fit address chunks c.args.table.now contents of) (scan_rest c.in_ok-scan.scan)
    (c.in_ok-scan.ensures (map (violation_item schema) contents.violations) (own_tree address chunks c.args.table.now contents of)))

pub violation_entry-requires-clause-listed : goal.violation_entry-requires-clause-listed
violation_entry-requires-clause-listed g c =
    let contents = c.requires.0 in
    let f = first c.args.table.now.schema contents.violations c.items.entries (scan_rest c.items.scan) (scan_rest c.next.new.self) (c.in-Some.key.now, c.in-Some.value.now)
    (c.items.invariant contents c.requires.1) c.in-Some.ensures.gives in
    (f.violation, f.is)

pub items-preserved : goal.items-preserved
items-preserved g c = λ contents of.
    let schema = c.args.table.now.schema in
    let f = first schema contents.violations c.items.entries (scan_rest c.items.scan) (scan_rest c.next.new.self) (c.in-Some.key.now, c.in-Some.value.now)
    (c.items.invariant contents of) c.in-Some.ensures.gives in
    let read = c.in_ok-violation_entry.ensures f.violation f.is in
    subst (λ (l : List ListEntry). IsReading schema contents.violations l (scan_rest c.next.new.self))
    (ap (λ (entry : ListEntry). c.items.entries ++ entry ∷ []) (sym read) ∙ sym c.in_ok-push.ensures.ok) f.reading

pub returns : goal.returns
returns g c = λ contents of.
    shown_of g.D.Digester.address (chunks_of c.args.draft.now.chunks) c.args.table.now contents of c.items.entries
    (over c.args.table.now.schema contents.violations c.items.entries (scan_rest c.items.scan) (c.items.invariant contents of) c.in_default.ensures.gives.0)
