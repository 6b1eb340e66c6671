use Rattle.std.proofs.Common.{◌∙◌, ap, sym}
use Rattle.chunk_store.specs.Drafts.{chunks_of}
use Rattle.schema_model.specs.PlainTables.{conflict_items, violation_items}
use Rattle.system_tables.specs.Entries.{count_in}
use Rattle.system_tables.specs.declared.entries.Listed.{Listed}
use Rattle.system_tables.proofs.TableLemmas.{conflict_tree, conflicts_counted, violation_tree, violations_counted}
use Rattle.system_tables.proofs.counts.count_in.Goals as goal

pub returns-in-Conflicts-clause-is : goal.returns-in-Conflicts-clause-is
returns-in-Conflicts-clause-is g c = λ contents at.
    let address = g.D.Digester.address in
    let chunks = chunks_of c.args.draft.now.chunks in
    let of = c.in_ok-table.ensures contents at in
    conflicts_counted address chunks c.in_ok-table.table contents of c.count.result
    (c.count.ensures (conflict_items contents) (conflict_tree address chunks c.in_ok-table.table contents of))
    ∙ ap (λ (which : Listed). count_in which contents) (sym c.in-Conflicts.is)

pub returns-clause-is : goal.returns-clause-is
returns-clause-is g c = λ contents at.
    let address = g.D.Digester.address in
    let chunks = chunks_of c.args.draft.now.chunks in
    let of = c.in_ok-table.ensures contents at in
    violations_counted address chunks c.in_ok-table.table contents of c.count-in-Violations.result
    (c.count-in-Violations.ensures (violation_items contents) (violation_tree address chunks c.in_ok-table.table contents of))
    ∙ ap (λ (which : Listed). count_in which contents) (sym c.in-Violations.is)
