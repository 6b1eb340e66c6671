use Rattle.std.proofs.Common.{◌≡◌, ◌-◌, ◌∙◌, ap, sym, true, false, drop, length, take}
use Rattle.std.specs.List.{list_any}
use Rattle.std.proofs.lemmas.Result.{IfOk-weaker}
use Rattle.chunk_store.specs.Drafts.{chunks_of}
use Rattle.tuple_codec.specs.Rows.{same_cells}
use Rattle.schema_model.specs.PlainTables.{PlainDatabase}
use Rattle.plain_writes.specs.Violations.{keys_of_parent, parent_keys}
use Rattle.constraint_scan.proofs.PairLemmas.{leads_first, leads_rest, named_so, no_pairs, none_below, pair_parts}
use Rattle.constraint_scan.proofs.changing.+leads_to.Goals as goal

pub has_parent_key-requires-after_bounds : goal.has_parent_key-requires-after_bounds
has_parent_key-requires-after_bounds g t c κs within =
    let parts = pair_parts g.D.Digester.address (chunks_of c.args.draft.now.chunks) c.args.pairs.now c.requires.0 c.requires.1 c.first-item.result c.requires.2 c.first-item.is c.in-len1-up.len_at_least in
    (parts.new.table, parts.is.new)

pub leads_to-requires-after_bounds : goal.leads_to-requires-after_bounds
leads_to-requires-after_bounds g t c κs within =
    let parts = pair_parts g.D.Digester.address (chunks_of c.args.draft.now.chunks) c.args.pairs.now c.requires.0 c.requires.1 c.first-item.result c.requires.2 c.first-item.is c.in-len1-up.len_at_least in
    (parts.olds, parts.news, parts.are)

pub returns-in_default : goal.returns-in_default
returns-in_default g t c = λ before after are.
    sym (ap (λ (d : PlainDatabase). list_any (same_cells c.args.key.now) (parent_keys d c.args.schema.now c.args.foreign.now)) ((no_pairs g.D.Digester.address (chunks_of c.args.draft.now.chunks) c.args.pairs.now before after are (none_below c.args.pairs.now c.in_default.len_below)).1))

pub returns-then-found : goal.returns-then-found
returns-then-found g t c = λ before after are.
    let parts = pair_parts g.D.Digester.address (chunks_of c.args.draft.now.chunks) c.args.pairs.now before after c.first-item.result are c.first-item.is c.in-len1-up.len_at_least in
    IfOk-weaker c.has_parent_key.result (λ found. found ≡ list_any (same_cells c.args.key.now) (keys_of_parent c.args.schema.now c.args.foreign.now parts.new.table))
    (λ found. found ≡ list_any (same_cells c.args.key.now) (parent_keys after c.args.schema.now c.args.foreign.now))
    (λ found is. is ∙ sym (leads_first g.D.Digester.address (chunks_of c.args.draft.now.chunks) c.args.foreign.now before after c.first-item.result (take (length c.args.pairs.now - 1) (drop 1 c.args.pairs.now)) parts (same_cells c.args.key.now) c.args.schema.now (named_so c.first-item.result.name c.args.foreign.now.parent c.as_slice.result.now c.is-found.result true c.as_slice.ensures c.is-found.ensures c.if-found.true)))
    (c.has_parent_key.ensures parts.new.table parts.is.new)

pub returns : goal.returns
returns g t c = λ before after are.
    let parts = pair_parts g.D.Digester.address (chunks_of c.args.draft.now.chunks) c.args.pairs.now before after c.first-item.result are c.first-item.is c.in-len1-up.len_at_least in
    IfOk-weaker c.leads_to.result (λ found. found ≡ list_any (same_cells c.args.key.now) (parent_keys parts.news c.args.schema.now c.args.foreign.now))
    (λ found. found ≡ list_any (same_cells c.args.key.now) (parent_keys after c.args.schema.now c.args.foreign.now))
    (λ found is. is ∙ sym (leads_rest g.D.Digester.address (chunks_of c.args.draft.now.chunks) c.args.foreign.now before after c.first-item.result (take (length c.args.pairs.now - 1) (drop 1 c.args.pairs.now)) parts (same_cells c.args.key.now) c.args.schema.now (named_so c.first-item.result.name c.args.foreign.now.parent c.as_slice.result.now c.is-found.result false c.as_slice.ensures c.is-found.ensures c.if-found.false)))
    (c.leads_to.ensures parts.olds parts.news parts.are)
