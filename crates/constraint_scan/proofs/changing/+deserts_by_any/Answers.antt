use Rattle.std.proofs.Common.{◌≡◌, ◌-◌, ap, sym, drop, length, take}
use Rattle.std.specs.List.{list_any}
use Rattle.std.proofs.lemmas.Result.{IfOk-weaker}
use Rattle.tuple_codec.proofs.Lists.{any_first, any_later, none_below as no_items}
use Rattle.schema_model.specs.declared.schemas.ForeignKey.{ForeignKey}
use Rattle.constraint_scan.specs.Pairs.{deserts}
use Rattle.constraint_scan.proofs.PairLemmas.{by_first}
use Rattle.constraint_scan.proofs.changing.+deserts_by_any.Goals as goal

pub returns-in_default : goal.returns-in_default
returns-in_default g t c = λ before after contents are child. sym (ap (list_any (λ (foreign : ForeignKey). deserts after contents foreign before after)) (no_items c.args.keys.now c.in_default.len_below))

pub returns-then-found : goal.returns-then-found
returns-then-found g t c = λ before after contents are child.
    any_first (λ (foreign : ForeignKey). deserts after contents foreign before after) c.args.keys.now c.first-item.result (take (length c.args.keys.now - 1) (drop 1 c.args.keys.now)) c.in_ok-found.found (by_first c.args.keys.now c.first-item.result c.first-item.is c.in-len1-up.len_at_least)
    (c.in_ok-found.ensures before after before after contents are child are) c.if-found.true

pub returns : goal.returns
returns g t c = λ before after contents are child.
    IfOk-weaker c.deserts_by_any.result (λ rest. rest ≡ list_any (λ (foreign : ForeignKey). deserts after contents foreign before after) (take (length c.args.keys.now - 1) (drop 1 c.args.keys.now))) (λ rest. rest ≡ list_any (λ (foreign : ForeignKey). deserts after contents foreign before after) c.args.keys.now)
    (λ rest later. any_later (λ (foreign : ForeignKey). deserts after contents foreign before after) c.args.keys.now c.first-item.result (take (length c.args.keys.now - 1) (drop 1 c.args.keys.now)) c.in_ok-found.found rest
    (by_first c.args.keys.now c.first-item.result c.first-item.is c.in-len1-up.len_at_least) (c.in_ok-found.ensures before after before after contents are child are) c.if-found.false later)
    (c.deserts_by_any.ensures before after contents are child)
