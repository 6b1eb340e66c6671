use Rattle.std.proofs.Common.{List, [], ◌∷◌, ◌++◌, ℕ, sym, ap, ◌∙◌, subst}
use Rattle.chunk_store.specs.Drafts.{chunks_of}
use Rattle.chunk_store.specs.Standing.{IsTree}
use Rattle.prolly_tree.specs.Walks.{scan_rest}
use Rattle.schema_model.specs.PlainTables.{conflict_items}
use Rattle.table_root.specs.declared.records.StoredTable.{StoredTable}
use Rattle.conflict_tables.specs.declared.entries.ConflictEntry.{ConflictEntry}
use Rattle.conflict_tables.proofs.ReadLemmas.{IsReading, begins, first, over}
use Rattle.conflict_tables.proofs.reading.conflicts.Goals as goal

pub scan_from-requires-clause-tree : goal.scan_from-requires-clause-tree
scan_from-requires-clause-tree g c κs within =
    let of = c.requires.1 in (
      conflict_items c.requires.0,
      subst (λ (k : List ℕ). IsTree g.D.Digester.address (chunks_of c.args.draft.now.chunks) k (conflict_items c.requires.0))
          (sym (ap (λ (t : StoredTable). t.conflicts.0) of.value)) of.trees.conflicts,
    )

pub items-init : goal.items-init
items-init g c = λ contents of.
    subst (λ (l : List ConflictEntry). IsReading l (scan_rest c.in_ok-scan.scan) contents) (sym c.new-list.ensures)
    (begins contents (scan_rest c.in_ok-scan.scan) (c.in_ok-scan.ensures (conflict_items contents)
    (subst (λ (k : List ℕ). IsTree g.D.Digester.address (chunks_of c.args.draft.now.chunks) k (conflict_items contents)) (sym (ap (λ (t : StoredTable). t.conflicts.0) of.value)) of.trees.conflicts)))

pub read_entry-requires : goal.read_entry-requires
read_entry-requires g c =
    let f = first c.requires.0 c.items.list (scan_rest c.items.scan) (scan_rest c.next.new.self) (c.in-Some.key.now, c.in-Some.value.now)
    (c.items.invariant c.requires.0 c.requires.1) c.in-Some.ensures.gives in
    (f.entry, f.is)

pub items-preserved : goal.items-preserved
items-preserved g c = λ contents of.
    let f = first contents c.items.list (scan_rest c.items.scan) (scan_rest c.next.new.self) (c.in-Some.key.now, c.in-Some.value.now) (c.items.invariant contents of) c.in-Some.ensures.gives in
    let read = c.in_ok-read_entry.ensures f.entry f.is in
    subst (λ (l : List ConflictEntry). IsReading l (scan_rest c.next.new.self) contents) (ap (λ (entry : ConflictEntry). c.items.list ++ entry ∷ []) (sym read) ∙ sym c.in_ok-push.ensures.ok) f.reading

pub returns : goal.returns
returns g c = λ contents of. over contents c.items.list (scan_rest c.items.scan) (c.items.invariant contents of) c.in_default.ensures.gives.0
