use Rattle.std.proofs.Common.{◌∙◌, sym}
use Rattle.chunk_store.specs.Drafts.{chunks_of}
use Rattle.root_merge.proofs.KeepingLemmas.{kept_of}
use Rattle.root_merge.proofs.tables.keep_merge.Goals as goal

pub keep_changes-requires-after_bounds : goal.keep_changes-requires-after_bounds
keep_changes-requires-after_bounds g c κs within =
    let table = c.args.table in
    let ours = c.args.ours in
    let same = (c.law_of_sameness.ensures.schemas table.schema ours.schema).0 (sym c.is_same_schema.ensures ∙ c.if-is_same_schema.true) in
    (c.requires.0, c.requires.1, kept_of g.D.Digester.address (chunks_of c.args.draft.now.chunks) ours table c.requires.0 c.requires.1 c.requires.2 same)

pub returns-then-is_same_schema-clause-made : goal.returns-then-is_same_schema-clause-made
returns-then-is_same_schema-clause-made g c = λ before contents is.
    let table = c.args.table in
    let ours = c.args.ours in
    let same = (c.law_of_sameness.ensures.schemas table.schema ours.schema).0 (sym c.is_same_schema.ensures ∙ c.if-is_same_schema.true) in
    c.keep_changes.ensures.made before contents (kept_of g.D.Digester.address (chunks_of c.args.draft.now.chunks) ours table before contents is same)

pub returns-then-is_same_schema-clause-fault : goal.returns-then-is_same_schema-clause-fault
returns-then-is_same_schema-clause-fault g c = λ before contents is.
    let table = c.args.table in
    let ours = c.args.ours in
    let same = (c.law_of_sameness.ensures.schemas table.schema ours.schema).0 (sym c.is_same_schema.ensures ∙ c.if-is_same_schema.true) in
    c.keep_changes.ensures.fault before contents (kept_of g.D.Digester.address (chunks_of c.args.draft.now.chunks) ours table before contents is same)

pub keep_rows-requires-after_bounds : goal.keep_rows-requires-after_bounds
keep_rows-requires-after_bounds g c κs within = let is = c.requires.2 in (c.requires.1, is.made)

pub returns-else-is_same_schema-clause-made : goal.returns-else-is_same_schema-clause-made
returns-else-is_same_schema-clause-made g c = λ before contents is. c.keep_rows.ensures.made contents is.made

pub returns-else-is_same_schema-clause-fault : goal.returns-else-is_same_schema-clause-fault
returns-else-is_same_schema-clause-fault g c = λ before contents is. c.keep_rows.ensures.fault contents is.made
