use Rattle.std.proofs.Common.{ap}
use Rattle.chunk_store.specs.Drafts.{chunks_of}
use Rattle.table_root.specs.Standing.{named_tables}
use Rattle.root_merge.specs.Settling.{database_left}
use Rattle.root_merge.proofs.SettlingLemmas.{first_left, first_there, none_there}
use Rattle.root_merge.proofs.settling.+left_in_tables.Goals as goal

pub first_listed-requires : goal.first_listed-requires
first_listed-requires g t c = (named_tables g.D.Digester.address c.requires.there.0, c.requires.there.1.listed)

pub left_in_table-requires-clause-table : goal.left_in_table-requires-clause-table
left_in_table-requires-clause-table g t c κs within =
    let address = g.D.Digester.address in
    let database = c.requires.there.0 in
    let there = c.requires.there.1 in
    let first = first_there address (chunks_of c.args.draft.now.chunks) database c.args.tables.now there c.in-Some.table c.in-Some.others.now (c.in-Some.ensures.is (named_tables address database) there.listed) in
    (first.named.table, first.at)

pub left_in_tables-requires-clause-there : goal.left_in_tables-requires-clause-there
left_in_tables-requires-clause-there g t c κs within =
    let address = g.D.Digester.address in
    let database = c.requires.there.0 in
    let there = c.requires.there.1 in
    let first = first_there address (chunks_of c.args.draft.now.chunks) database c.args.tables.now there c.in-Some.table c.in-Some.others.now (c.in-Some.ensures.is (named_tables address database) there.listed) in
    (first.others, first.there)

pub returns-in-None-clause-is : goal.returns-in-None-clause-is
returns-in-None-clause-is g t c = λ database there.
    let address = g.D.Digester.address in
    ap database_left (none_there address database (c.in-None.ensures.is (named_tables address database) there.listed))

pub returns-in_ok-more-in-Some-clause-is : goal.returns-in_ok-more-in-Some-clause-is
returns-in_ok-more-in-Some-clause-is g t c = λ database there.
    let address = g.D.Digester.address in
    let first = first_there address (chunks_of c.args.draft.now.chunks) database c.args.tables.now there c.in-Some.table c.in-Some.others.now (c.in-Some.ensures.is (named_tables address database) there.listed) in
    first_left database first.others first.named c.in_ok-one-in-Some.one c.in_ok-more-in-Some.more c.either.result first.both (c.in_ok-one-in-Some.ensures.is first.named.table first.at) (c.in_ok-more-in-Some.ensures.is first.others first.there) c.either.ensures
