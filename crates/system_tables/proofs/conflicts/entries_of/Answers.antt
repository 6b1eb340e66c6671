use Rattle.std.proofs.Common.{get_or, sym, ap, ◌∙◌, ◌∷◌, ◌++◌, [], None, subst}
use Rattle.conflict_tables.specs.declared.entries.ConflictEntry.{ConflictEntry}
use Rattle.schema_model.specs.PlainTables.{Conflict}
use Rattle.system_tables.specs.Entries.{IsConflictOf}
use Rattle.system_tables.specs.declared.entries.ListEntry.{ListEntry}
use Rattle.system_tables.proofs.ConflictLemmas.{one_more, one_of}
use Rattle.system_tables.proofs.conflicts.entries_of.Goals as goal

abbrev nothing : Conflict
nothing = record { key = []; base = None; ours = None; theirs = None }

pub conflict_entry-requires-clause-entry : goal.conflict_entry-requires-clause-entry
conflict_entry-requires-clause-entry c =
    let schema = c.args.schema.now in
    let at = c.loop-entry.entry-index in (
      get_or c.requires.list.0 at nothing,
      subst (λ (entry : ConflictEntry). IsConflictOf schema entry (get_or c.requires.list.0 at nothing)) (sym c.entry-item.is)
          (one_of c.same_cells_are_one.ensures.cells schema c.args.list.now c.requires.list.0 c.requires.list.1 at c.entry-item.result nothing c.loop-entry-test.true),
    )

pub loop-entry-preserved : goal.loop-entry-preserved
loop-entry-preserved c = λ conflicts are.
    let schema = c.args.schema.now in
    let at = c.loop-entry.entry-index in
    let told = c.same_cells_are_one.ensures.cells in
    let one = subst (λ (entry : ConflictEntry). IsConflictOf schema entry (get_or conflicts at nothing)) (sym c.entry-item.is)
    (one_of told schema c.args.list.now conflicts are at c.entry-item.result nothing c.loop-entry-test.true) in
    one_more told schema c.args.list.now conflicts are at nothing c.loop-entry-test.true c.loop-entry.entries c.push.new.self (c.loop-entry.invariant conflicts are)
    (c.in_ok-push.ensures.ok ∙ ap (λ (entry : ListEntry). c.loop-entry.entries ++ entry ∷ []) (c.in_ok-conflict_entry.ensures (get_or conflicts at nothing) one))
