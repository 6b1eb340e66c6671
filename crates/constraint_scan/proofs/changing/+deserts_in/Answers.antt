use Rattle.std.proofs.Common.{◌≡◌, ◌-◌, ◌∙◌, ap, sym, true, false, drop, length, take}
use Rattle.std.specs.List.{list_any}
use Rattle.std.proofs.lemmas.Result.{IfOk-weaker}
use Rattle.chunk_store.specs.Drafts.{chunks_of}
use Rattle.constraint_scan.specs.Changed.{is_missed_row}
use Rattle.constraint_scan.specs.Pairs.{come_of, deserts}
use Rattle.constraint_scan.proofs.PairLemmas.{deserts_first, deserts_rest, named_so, no_pairs, none_below, pair_parts}
use Rattle.constraint_scan.proofs.changing.+deserts_in.Goals as goal

pub deserts-requires-clause-parent : goal.deserts-requires-clause-parent
deserts-requires-clause-parent g t c κs within =
    let parts = pair_parts g.D.Digester.address (chunks_of c.args.draft.now.chunks) c.args.tables.now c.requires.tables.0 c.requires.tables.1 c.first-item.result c.requires.tables.2 c.first-item.is c.in-len1-up.len_at_least in
    (parts.old, parts.new, parts.is)

pub deserts_in-requires-clause-tables : goal.deserts_in-requires-clause-tables
deserts_in-requires-clause-tables g t c κs within =
    let parts = pair_parts g.D.Digester.address (chunks_of c.args.draft.now.chunks) c.args.tables.now c.requires.tables.0 c.requires.tables.1 c.first-item.result c.requires.tables.2 c.first-item.is c.in-len1-up.len_at_least in
    (parts.olds, parts.news, parts.are)

pub returns-in_default : goal.returns-in_default
returns-in_default g t c = λ before after old new contents are child own.
    let none = no_pairs g.D.Digester.address (chunks_of c.args.draft.now.chunks) c.args.tables.now old new own (none_below c.args.tables.now c.in_default.len_below) in
    sym (λ i. deserts after contents c.args.foreign.now (none.0 i) (none.1 i))

pub returns-then-found : goal.returns-then-found
returns-then-found g t c = λ before after old new contents are child own.
    let parts = pair_parts g.D.Digester.address (chunks_of c.args.draft.now.chunks) c.args.tables.now old new c.first-item.result own c.first-item.is c.in-len1-up.len_at_least in
    IfOk-weaker c.deserts.result (λ found. found ≡ list_any (is_missed_row after contents c.args.foreign.now parts.new.table) (come_of parts.new.table.rows parts.old.table.rows))
    (λ found. found ≡ deserts after contents c.args.foreign.now old new)
    (λ found is. is ∙ sym (deserts_first g.D.Digester.address (chunks_of c.args.draft.now.chunks) c.args.foreign.now old new c.first-item.result (take (length c.args.tables.now - 1) (drop 1 c.args.tables.now)) parts after contents (named_so c.first-item.result.name c.args.foreign.now.parent c.as_slice.result.now c.is-found.result true c.as_slice.ensures c.is-found.ensures c.if-found.true)))
    (c.deserts.ensures before after contents parts.old parts.new are child parts.is)

pub returns : goal.returns
returns g t c = λ before after old new contents are child own.
    let parts = pair_parts g.D.Digester.address (chunks_of c.args.draft.now.chunks) c.args.tables.now old new c.first-item.result own c.first-item.is c.in-len1-up.len_at_least in
    IfOk-weaker c.deserts_in.result (λ found. found ≡ deserts after contents c.args.foreign.now parts.olds parts.news)
    (λ found. found ≡ deserts after contents c.args.foreign.now old new)
    (λ found is. is ∙ sym (deserts_rest g.D.Digester.address (chunks_of c.args.draft.now.chunks) c.args.foreign.now old new c.first-item.result (take (length c.args.tables.now - 1) (drop 1 c.args.tables.now)) parts after contents (named_so c.first-item.result.name c.args.foreign.now.parent c.as_slice.result.now c.is-found.result false c.as_slice.ensures c.is-found.ensures c.if-found.false)))
    (c.deserts_in.ensures before after parts.olds parts.news contents are child parts.are)
