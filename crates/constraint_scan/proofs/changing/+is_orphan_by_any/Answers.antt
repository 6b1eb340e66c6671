use Rattle.std.proofs.Common.{◌≡◌, ◌-◌, ap, sym, drop, length, take}
use Rattle.std.specs.List.{list_any}
use Rattle.std.proofs.lemmas.Result.{IfOk-weaker}
use Rattle.tuple_codec.proofs.Lists.{any_first, any_later, none_below as no_items}
use Rattle.constraint_scan.specs.Changed.{is_orphan_by}
use Rattle.constraint_scan.proofs.PairLemmas.{by_first}
use Rattle.constraint_scan.proofs.changing.+is_orphan_by_any.Goals as goal

pub returns-in_default : goal.returns-in_default
returns-in_default g t c = λ before after are. sym (ap (list_any (is_orphan_by after c.args.schema.now c.args.row.now)) (no_items c.args.keys.now c.in_default.len_below))

pub returns-then-found : goal.returns-then-found
returns-then-found g t c = λ before after are.
    any_first (is_orphan_by after c.args.schema.now c.args.row.now) c.args.keys.now c.first-item.result (take (length c.args.keys.now - 1) (drop 1 c.args.keys.now)) c.in_ok-found.found (by_first c.args.keys.now c.first-item.result c.first-item.is c.in-len1-up.len_at_least)
    (c.in_ok-found.ensures before after are) c.if-found.true

pub returns : goal.returns
returns g t c = λ before after are.
    IfOk-weaker c.is_orphan_by_any.result (λ rest. rest ≡ list_any (is_orphan_by after c.args.schema.now c.args.row.now) (take (length c.args.keys.now - 1) (drop 1 c.args.keys.now))) (λ rest. rest ≡ list_any (is_orphan_by after c.args.schema.now c.args.row.now) c.args.keys.now)
    (λ rest later. any_later (is_orphan_by after c.args.schema.now c.args.row.now) c.args.keys.now c.first-item.result (take (length c.args.keys.now - 1) (drop 1 c.args.keys.now)) c.in_ok-found.found rest
    (by_first c.args.keys.now c.first-item.result c.first-item.is c.in-len1-up.len_at_least) (c.in_ok-found.ensures before after are) c.if-found.false later)
    (c.is_orphan_by_any.ensures before after are)
