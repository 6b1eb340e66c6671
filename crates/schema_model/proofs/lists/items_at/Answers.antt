use Rattle.std.proofs.Common.{◌-◌, ◌+◌, List, ℕ, Some, sym, ap, ◌∙◌, Bor}
use Rattle.std.proofs.lemmas.Result.{err_from_is_err_and}
use Rattle.schema_model.specs.Reading.{after_items, items_at}
use Rattle.schema_model.proofs.ItemLemmas.{all_read, fails, one_more}
use Rattle.schema_model.proofs.lists.items_at.Goals as goal

pub returns-in_err-item : goal.returns-in_err-item
returns-in_err-item g c =
    let p = err_from_is_err_and c.from_residual-in_err-item.result c.from_residual-in_err-item.ensures.1 in
    rw (p.1, p.2)
    (fails g.P.Readable.front c.args.count c.loop.counter c.args.bytes.now c.loop.rest.now c.loop.items.items
    (λ (x : g.row.P.Denot × Bor (List ℕ)). (x.0, x.1.now)) (λ (x : List g.row.P.Denot × Bor (List ℕ)). (x.0, x.1.now)) c.in_err-item.field-0.0 c.loop.invariant c.loop-test.true c.in_err-item.ensures)

pub loop-preserved : goal.loop-preserved
loop-preserved g c =
    let more = one_more g.P.Readable.front c.args.count c.loop.counter c.args.bytes.now c.loop.rest.now c.loop.items.items c.loop.invariant (c.in_ok-item.item, c.in_ok-item.after.now) c.loop-test.true c.in_ok-item.ensures in
    more ∙ ap (λ (l : List g.row.P.Denot). after_items l (items_at g.P.Readable.front (c.args.count - (c.loop.counter + 1)) c.in_ok-item.after.now)) (sym c.in_ok-push.ensures.items)

pub returns : goal.returns
returns g c =
    let all = all_read g.P.Readable.front c.args.count c.loop.counter c.args.bytes.now c.loop.rest.now c.loop.items.items c.loop.invariant c.loop-test.false in
    all ∙ ap (λ (l : List g.row.P.Denot). Some (l, c.loop.rest.now)) (sym c.from_vec.ensures)
