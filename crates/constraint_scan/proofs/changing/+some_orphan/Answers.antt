use Rattle.std.proofs.Common.{◌≡◌, ◌-◌, ◌∙◌, sym, drop, length, take}
use Rattle.std.proofs.lemmas.Result.{IfOk-weaker}
use Rattle.chunk_store.specs.Drafts.{chunks_of}
use Rattle.constraint_scan.specs.Changed.{is_orphan}
use Rattle.constraint_scan.specs.Pairs.{some_come}
use Rattle.constraint_scan.proofs.PairLemmas.{first_not, first_so, none_below, none_come, pair_parts, orphan_come}
use Rattle.constraint_scan.proofs.changing.+some_orphan.Goals as goal

pub some_orphan-requires-clause-tables : goal.some_orphan-requires-clause-tables
some_orphan-requires-clause-tables g t c κs within =
    let parts = pair_parts g.D.Digester.address (chunks_of c.args.draft.now.chunks) c.args.tables.now c.requires.tables.0 c.requires.tables.1 c.first-item.result c.requires.tables.2 c.first-item.is c.in-len1-up.len_at_least in
    (parts.olds, parts.news, parts.are)

pub returns-in_default : goal.returns-in_default
returns-in_default g t c = λ before after old new are own. sym (none_come g.D.Digester.address (chunks_of c.args.draft.now.chunks) (is_orphan after) c.args.tables.now old new own (none_below c.args.tables.now c.in_default.len_below))

pub returns-then-found : goal.returns-then-found
returns-then-found g t c = λ before after old new are own.
    let parts = pair_parts g.D.Digester.address (chunks_of c.args.draft.now.chunks) c.args.tables.now old new c.first-item.result own c.first-item.is c.in-len1-up.len_at_least in
    sym (first_so g.D.Digester.address (chunks_of c.args.draft.now.chunks) (is_orphan after) old new c.first-item.result (take (length c.args.tables.now - 1) (drop 1 c.args.tables.now)) parts
    (sym (orphan_come g.D.Digester.address (chunks_of c.args.draft.now.chunks) c.first-item.result parts.old parts.new parts.is after c.as_slice.result.now c.as_slice.ensures) ∙ sym (c.in_ok-found.ensures before after are) ∙ c.if-found.true))

pub returns : goal.returns
returns g t c = λ before after old new are own.
    let parts = pair_parts g.D.Digester.address (chunks_of c.args.draft.now.chunks) c.args.tables.now old new c.first-item.result own c.first-item.is c.in-len1-up.len_at_least in
    IfOk-weaker c.some_orphan.result (λ rest. rest ≡ some_come (is_orphan after) parts.olds parts.news) (λ rest. rest ≡ some_come (is_orphan after) old new)
    (λ rest later. later ∙ sym (first_not g.D.Digester.address (chunks_of c.args.draft.now.chunks) (is_orphan after) old new c.first-item.result (take (length c.args.tables.now - 1) (drop 1 c.args.tables.now)) parts
    (sym (orphan_come g.D.Digester.address (chunks_of c.args.draft.now.chunks) c.first-item.result parts.old parts.new parts.is after c.as_slice.result.now c.as_slice.ensures) ∙ sym (c.in_ok-found.ensures before after are) ∙ c.if-found.false)))
    (c.some_orphan.ensures before after parts.olds parts.news are parts.are)
