use Rattle.std.proofs.Common.{◌≡◌, ◌∙◌, sym}
use Rattle.chunk_store.specs.Drafts.{chunks_of}
use Rattle.root_merge.proofs.SettlingLemmas.{is_bare, table_seen}
use Rattle.root_merge.proofs.settling.left_in_table.Goals as goal

pub returns-then-has_table-clause-is : goal.returns-then-has_table-clause-is
returns-then-has_table-clause-is g c = λ contents at.
    table_seen g.D.Digester.address (chunks_of c.args.draft.now.chunks) c.laws_of_growth.ensures.tables c.args.settled.now c.requires.settled c.args.address.now.0 (sym c.has_table.ensures ∙ c.if-has_table.true) contents at

pub keep_table-requires-clause-table : goal.keep_table-requires-clause-table
keep_table-requires-clause-table g c κs within =
    let contents = c.requires.table.0 in
    let at = c.requires.table.1 in
    record { contents = contents; at = at; bare = sym (c.read_left-left.ensures contents at) ∙ is_bare c.read_left-left.result (sym c.is_any.ensures ∙ c.if-is_any.false) }
