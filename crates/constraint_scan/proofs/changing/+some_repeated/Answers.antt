use Rattle.std.proofs.Common.{◌≡◌, ◌-◌, ◌∙◌, sym, drop, length, take}
use Rattle.std.proofs.lemmas.Result.{IfOk-weaker}
use Rattle.chunk_store.specs.Drafts.{chunks_of}
use Rattle.constraint_scan.specs.Changed.{is_repeated}
use Rattle.constraint_scan.specs.Pairs.{some_come}
use Rattle.constraint_scan.proofs.PairLemmas.{first_not, first_so, none_below, none_come, pair_parts, repeated_come}
use Rattle.constraint_scan.proofs.changing.+some_repeated.Goals as goal

pub has_repeated-requires-after_bounds : goal.has_repeated-requires-after_bounds
has_repeated-requires-after_bounds g t c κs within =
    let parts = pair_parts g.D.Digester.address (chunks_of c.args.draft.now.chunks) c.args.tables.now c.requires.0 c.requires.1 c.first-item.result c.requires.2 c.first-item.is c.in-len1-up.len_at_least in
    let is = parts.is in
    let named = parts.new in
    (named.table, is.new)

pub some_repeated-requires-after_bounds : goal.some_repeated-requires-after_bounds
some_repeated-requires-after_bounds g t c κs within =
    let parts = pair_parts g.D.Digester.address (chunks_of c.args.draft.now.chunks) c.args.tables.now c.requires.0 c.requires.1 c.first-item.result c.requires.2 c.first-item.is c.in-len1-up.len_at_least in
    (parts.olds, parts.news, parts.are)

pub returns-in_default : goal.returns-in_default
returns-in_default g t c = λ old new own. sym (none_come g.D.Digester.address (chunks_of c.args.draft.now.chunks) (is_repeated) c.args.tables.now old new own (none_below c.args.tables.now c.in_default.len_below))

pub returns-then-found : goal.returns-then-found
returns-then-found g t c = λ old new own.
    let parts = pair_parts g.D.Digester.address (chunks_of c.args.draft.now.chunks) c.args.tables.now old new c.first-item.result own c.first-item.is c.in-len1-up.len_at_least in
    sym (first_so g.D.Digester.address (chunks_of c.args.draft.now.chunks) (is_repeated) old new c.first-item.result (take (length c.args.tables.now - 1) (drop 1 c.args.tables.now)) parts
    (sym (repeated_come g.D.Digester.address (chunks_of c.args.draft.now.chunks) c.first-item.result parts.old parts.new parts.is c.as_slice.result.now c.as_slice.ensures) ∙ sym (c.in_ok-found.ensures parts.new.table parts.is.new) ∙ c.if-found.true))

pub returns : goal.returns
returns g t c = λ old new own.
    let parts = pair_parts g.D.Digester.address (chunks_of c.args.draft.now.chunks) c.args.tables.now old new c.first-item.result own c.first-item.is c.in-len1-up.len_at_least in
    IfOk-weaker c.some_repeated.result (λ rest. rest ≡ some_come (is_repeated) parts.olds parts.news) (λ rest. rest ≡ some_come (is_repeated) old new)
    (λ rest later. later ∙ sym (first_not g.D.Digester.address (chunks_of c.args.draft.now.chunks) (is_repeated) old new c.first-item.result (take (length c.args.tables.now - 1) (drop 1 c.args.tables.now)) parts
    (sym (repeated_come g.D.Digester.address (chunks_of c.args.draft.now.chunks) c.first-item.result parts.old parts.new parts.is c.as_slice.result.now c.as_slice.ensures) ∙ sym (c.in_ok-found.ensures parts.new.table parts.is.new) ∙ c.if-found.false)))
    (c.some_repeated.ensures parts.olds parts.news parts.are)
