use Rattle.std.proofs.Common.{◌≡◌, ◌∙◌, sym}
use Rattle.chunk_store.specs.Drafts.{chunks_of}
use Rattle.schema_model.proofs.SizeLemmas.{few_tables}
use Rattle.table_root.specs.Standing.{named_tables}
use Rattle.root_merge.proofs.SettlingLemmas.{database_seen, is_bare, kept_there}
use Rattle.root_merge.proofs.settling.left_in_database.Goals as goal

pub returns-then-has_database-clause-is : goal.returns-then-has_database-clause-is
returns-then-has_database-clause-is g c = λ contents at.
    database_seen g.D.Digester.address (chunks_of c.args.draft.now.chunks) c.laws_of_growth.ensures.databases c.args.settled.now c.requires.settled c.args.database.now.0 (sym c.has_database.ensures ∙ c.if-has_database.true) contents at.stands

pub listed_tables-tables-requires-after_bounds : goal.listed_tables-tables-requires-after_bounds
listed_tables-tables-requires-after_bounds g c κs within =
    let address = g.D.Digester.address in
    let contents = c.requires.database.0 in
    let kept = c.requires.database.1 in
    (named_tables address contents, c.laws_of_growth.ensures.databases.found address (chunks_of c.args.draft.now.chunks) c.args.database.now.0 contents kept.stands (few_tables contents kept.within))

pub left_in_tables-requires-clause-there : goal.left_in_tables-requires-clause-there
left_in_tables-requires-clause-there g c κs within =
    let contents = c.requires.database.0 in
    (contents, kept_there g.D.Digester.address (chunks_of c.args.draft.now.chunks) c.laws_of_growth.ensures.databases c.args.database.now.0 contents c.requires.database.1 c.listed_tables-tables.result.now c.listed_tables-tables.ensures)

pub keep_database-requires-clause-database : goal.keep_database-requires-clause-database
keep_database-requires-clause-database g c κs within =
    let contents = c.requires.database.0 in
    let kept = c.requires.database.1 in
    let there = kept_there g.D.Digester.address (chunks_of c.args.draft.now.chunks) c.laws_of_growth.ensures.databases c.args.database.now.0 contents kept c.listed_tables-tables.result.now c.listed_tables-tables.ensures in
    record { contents = contents; at = kept.stands; bare = sym (c.in_ok-left.ensures.is contents there) ∙ is_bare c.in_ok-left.left (sym c.is_any.ensures ∙ c.if-is_any.false) }

pub returns-then-is_any-clause-is : goal.returns-then-is_any-clause-is
returns-then-is_any-clause-is g c = λ contents kept.
    c.in_ok-left.ensures.is contents (kept_there g.D.Digester.address (chunks_of c.args.draft.now.chunks) c.laws_of_growth.ensures.databases c.args.database.now.0 contents kept c.listed_tables-tables.result.now c.listed_tables-tables.ensures)

pub returns-clause-is : goal.returns-clause-is
returns-clause-is g c = λ contents kept.
    c.in_ok-left.ensures.is contents (kept_there g.D.Digester.address (chunks_of c.args.draft.now.chunks) c.laws_of_growth.ensures.databases c.args.database.now.0 contents kept c.listed_tables-tables.result.now c.listed_tables-tables.ensures)
