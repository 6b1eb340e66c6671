use Rattle.std.proofs.Common.{◌≡◌, ◌/◌, ◌%◌, ◌<◌, ◌≤◌, ℕ, List, length, get_or, drop, sym, ap, subst, ◌∙◌, arith}
use Rattle.std.specs.Option.{option_map}
use Rattle.std.specs.List.{slice_get}
use Rattle.tuple_codec.specs.Nodes.{Node}
use Rattle.node_format.specs.Reading.{item_at, skip}
use Rattle.node_format.proofs.FoundLemmas.{item_from_mark}
use Rattle.node_format.proofs.MarkLemmas.{mark_before}
use Rattle.node_format.proofs.node.NodeRef.from_item.Goals as goal

pub split_at-requires : goal.split_at-requires
split_at-requires c =
    let n = c.self.inside in
    let within = subst (λ (node : Node). c.args.i < length node.items) (sym c.self.view_is) c.requires in
    let below : c.args.i < n.count = omega (arith, within, c.self.invariant.many) in
    let place = mark_before n.level n.items.now n.marks.stride n.marks.places n.count c.args.i c.self.invariant.marks below in
    subst (λ (k : ℕ). get_or n.marks.places k 0 ≤ length n.items.now) (sym c.from-mark.ensures) place.0

pub returns : goal.returns
returns c =
    let n = c.self.inside in
    let within = subst (λ (node : Node). c.args.i < length node.items) (sym c.self.view_is) c.requires in
    let below : c.args.i < n.count = omega (arith, within, c.self.invariant.many) in
    let found = item_from_mark n.level n.count n.items.now n.marks.stride n.marks.places c.args.i c.self.invariant below in
    let start : c.after_items.result.now ≡ skip n.level (c.args.i % n.marks.stride) (drop (get_or n.marks.places (c.args.i / n.marks.stride) 0) n.items.now) =
    c.after_items.ensures ∙ ap (λ (l : List ℕ). skip n.level (c.args.i % n.marks.stride) l)
    (c.split_at.ensures.back ∙ ap (λ (k : ℕ). drop (get_or n.marks.places k 0) n.items.now) c.from-mark.ensures) in
    subst (λ (node : Node). option_map (λ x. x.0) (item_at node.level c.after_items.result.now) ≡ slice_get node.items c.args.i) c.self.view_is
    (ap (λ (l : List ℕ). option_map (λ x. x.0) (item_at n.level l)) start ∙ found)
