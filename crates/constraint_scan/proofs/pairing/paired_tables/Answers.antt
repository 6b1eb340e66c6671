use Rattle.std.proofs.Common.{◌∙◌, sym, subst}
use Rattle.std.specs.Prelude.{IfSome, Option}
use Rattle.tuple_codec.specs.declared.addresses.Address.{Address}
use Rattle.chunk_store.specs.Drafts.{chunks_of}
use Rattle.table_root.specs.Standing.{table_of_lists}
use Rattle.constraint_scan.specs.Pairs.{HasRoot}
use Rattle.constraint_scan.proofs.PairLemmas.{is_paired}
use Rattle.constraint_scan.proofs.pairing.paired_tables.Goals as goal

pub read_table-requires-after_bounds : goal.read_table-requires-after_bounds
read_table-requires-after_bounds g c κs within =
    let address = g.D.Digester.address in
    (table_of_lists address c.requires.new.0, c.law_of_tables.ensures.tables.found address (chunks_of c.args.draft.now.chunks) c.args.new.now.table.0 c.requires.new.0 c.requires.new.1)

pub pair_of-requires-clause-new : goal.pair_of-requires-clause-new
pair_of-requires-clause-new g c κs within =
    (c.requires.new.0, c.law_of_tables.ensures.values.read g.D.Digester.address (chunks_of c.args.draft.now.chunks) c.args.new.now.table.0 c.requires.new.0 c.in_ok-after.after c.requires.new.1 c.in_ok-after.ensures)

pub returns-in_ok-pair-in-Some : goal.returns-in_ok-pair-in-Some
returns-in_ok-pair-in-Some g c = λ before after same old_is new_is.
    let stands = c.law_of_tables.ensures.values.read g.D.Digester.address (chunks_of c.args.draft.now.chunks) c.args.new.now.table.0 after.table c.in_ok-after.after new_is.at c.in_ok-after.ensures in
    let has = subst (λ (o : Option Address). IfSome o (λ root. HasRoot g.D.Digester.address (chunks_of c.args.draft.now.chunks) root.0 c.in_ok-after.after.schema before.table)) c.in-Some.is (c.in_ok-root.ensures before.table old_is.at) in
    is_paired g.D.Digester.address (chunks_of c.args.draft.now.chunks) c.in_ok-pair-in-Some.pair before after c.as_slice.result.now c.in-Some.root c.in_ok-after.after
    (c.as_slice.ensures ∙ new_is.name) (sym old_is.name ∙ same ∙ new_is.name) has stands (c.in_ok-pair-in-Some.ensures before.table.rows after.table has.rows stands)
