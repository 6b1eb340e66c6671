use Rattle.std.proofs.Common.{◌≡◌, ◌∙◌, List, map}
use Rattle.std.proofs.lemmas.Result.{IfOk-weaker}
use Rattle.chunk_store.specs.Drafts.{chunks_of}
use Rattle.system_tables.specs.Entries.{conflict_entry}
use Rattle.system_tables.specs.declared.entries.ListEntry.{ListEntry}
use Rattle.system_tables.proofs.ConflictLemmas.{read_of, shown_of}
use Rattle.system_tables.proofs.conflicts.conflict_entries.Goals as goal

pub entries_of-requires-clause-list : goal.entries_of-requires-clause-list
entries_of-requires-clause-list g c =
    let contents = c.requires.0 in (
      contents.conflicts,
      read_of g.D.Digester.address (chunks_of c.args.draft.now.chunks) c.args.table.now contents c.requires.1 c.as_slice.result.now
          (c.as_slice.ensures ∙ c.in_ok-list.ensures contents c.requires.1),
    )

pub returns : goal.returns
returns g c = λ contents of.
    let address = g.D.Digester.address in
    let chunks = chunks_of c.args.draft.now.chunks in
    let table = c.args.table.now in
    IfOk-weaker c.entries_of.result (λ (entries : List ListEntry). entries ≡ map (conflict_entry table.schema) contents.conflicts)
    (λ (entries : List ListEntry). entries ≡ map (conflict_entry contents.schema) contents.conflicts)
    (λ entries are. shown_of address chunks table contents of entries are)
    (c.entries_of.ensures contents.conflicts (read_of address chunks table contents of c.as_slice.result.now (c.as_slice.ensures ∙ c.in_ok-list.ensures contents of)))
