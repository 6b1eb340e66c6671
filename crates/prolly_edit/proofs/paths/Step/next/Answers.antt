use Rattle.std.proofs.Common.{◌<◌, ◌+◌, ◌-◌, ◌∷◌, suc, List, drop, length, ap, refl, sym, subst, ◌∙◌, arith}
use Rattle.tuple_codec.specs.Nodes.{IsItem, Item, Node, item_bytes, items_bytes}
use Rattle.prolly_edit.proofs.NameLemmas.{first_copied, first_there, first_within, next_ends, others_left, split_left}
use Rattle.prolly_edit.proofs.paths.Step.next.Goals as goal

pub first_name-rows-requires : goal.first_name-rows-requires
first_name-rows-requires g c =
    let a = g.D.Digester.address in
    let s = c.self.inside in
    let first = split_left a s.level s.taken s.left s.start s.bytes.items _ c.self.invariant (subst (λ (n : Node). 0 < length n.items) (sym c.self.view_is) c.requires) in (
      first.0,
      items_bytes (suc s.level) first.1,
      first.3.each.0,
      c.split_at.ensures.back ∙ ap (drop s.start) c.deref.ensures.value ∙ first_there a s.level s.taken s.left s.start s.bytes.items first.0 first.1 first.3,
    )

pub name_size-requires : goal.name_size-requires
name_size-requires g c =
    let a = g.D.Digester.address in
    let s = c.self.inside in
    let first = split_left a s.level s.taken s.left s.start s.bytes.items _ c.self.invariant (subst (λ (n : Node). 0 < length n.items) (sym c.self.view_is) c.requires) in
    let there = first_there a s.level s.taken s.left s.start s.bytes.items first.0 first.1 first.3 in
    let name = c.first_name-rows.ensures first.0 (items_bytes (suc s.level) first.1) first.3.each.0 (c.split_at.ensures.back ∙ ap (drop s.start) c.deref.ensures.value ∙ there) in
    subst (IsItem 1) (first_copied first.0 _ c.in_ok-key.key _ _ name c.in_ok-key.ensures.copy) first.3.each.0

pub overflow_cast-end : goal.overflow_cast-end
overflow_cast-end g c =
    let a = g.D.Digester.address in
    let s = c.self.inside in
    let first = split_left a s.level s.taken s.left s.start s.bytes.items _ c.self.invariant (subst (λ (n : Node). 0 < length n.items) (sym c.self.view_is) c.requires) in
    let there = first_there a s.level s.taken s.left s.start s.bytes.items first.0 first.1 first.3 in
    let name = c.first_name-rows.ensures first.0 (items_bytes (suc s.level) first.1) first.3.each.0 (c.split_at.ensures.back ∙ ap (drop s.start) c.deref.ensures.value ∙ there) in
    let copied = first_copied first.0 _ c.in_ok-key.key _ _ name c.in_ok-key.ensures.copy in
    omega (
      arith,
      first_within a s.level s.taken s.left s.start s.bytes.items first.0 first.1 first.3,
      c.name_size.ensures.size ∙ ap (λ (i : Item). length (item_bytes 1 i)) (sym copied),
      c.self.invariant.small,
    )

pub invariant_of-self : goal.invariant_of-self
invariant_of-self g c =
    let a = g.D.Digester.address in
    let s = c.self.inside in
    let first = split_left a s.level s.taken s.left s.start s.bytes.items _ c.self.invariant (subst (λ (n : Node). 0 < length n.items) (sym c.self.view_is) c.requires) in
    let there = first_there a s.level s.taken s.left s.start s.bytes.items first.0 first.1 first.3 in
    let name = c.first_name-rows.ensures first.0 (items_bytes (suc s.level) first.1) first.3.each.0 (c.split_at.ensures.back ∙ ap (drop s.start) c.deref.ensures.value ∙ there) in
    let copied = first_copied first.0 _ c.in_ok-key.key _ _ name c.in_ok-key.ensures.copy in
    let wide = c.name_size.ensures.size ∙ ap (λ (i : Item). length (item_bytes 1 i)) (sym copied) in
    (others_left a s.level s.taken s.left s.start s.bytes.items first.0 first.1 first.3 (s.start + c.name_size.result) (s.taken + 1) (s.left - 1)
    (ap (λ n. s.start + n) wide) refl (omega (arith, first.3.many))).are

pub returns-clause-items : goal.returns-clause-items
returns-clause-items g c =
    let a = g.D.Digester.address in
    let s = c.self.inside in
    let first = split_left a s.level s.taken s.left s.start s.bytes.items _ c.self.invariant (subst (λ (n : Node). 0 < length n.items) (sym c.self.view_is) c.requires) in
    let there = first_there a s.level s.taken s.left s.start s.bytes.items first.0 first.1 first.3 in
    let name = c.first_name-rows.ensures first.0 (items_bytes (suc s.level) first.1) first.3.each.0 (c.split_at.ensures.back ∙ ap (drop s.start) c.deref.ensures.value ∙ there) in
    let copied = first_copied first.0 _ c.in_ok-key.key _ _ name c.in_ok-key.ensures.copy in
    let wide = c.name_size.ensures.size ∙ ap (λ (i : Item). length (item_bytes 1 i)) (sym copied) in
    let others = (others_left a s.level s.taken s.left s.start s.bytes.items first.0 first.1 first.3 (s.start + c.name_size.result) (s.taken + 1) (s.left - 1)
    (ap (λ n. s.start + n) wide) refl (omega (arith, first.3.many))).same in
    sym (ap (λ (n : Node). n.items) c.self.view_is) ∙ first.2 ∙ ap (λ (i : Item). i ∷ first.1) copied
    ∙ ap (λ (l : List Item). record { key = c.in_ok-key.key; body = c.first_name-rows.result.1.0; rows = c.first_name-rows.result.2 } ∷ l) (sym others)

pub returns-clause-known : goal.returns-clause-known
returns-clause-known g c =
    let a = g.D.Digester.address in
    let s = c.self.inside in
    let first = split_left a s.level s.taken s.left s.start s.bytes.items _ c.self.invariant (subst (λ (n : Node). 0 < length n.items) (sym c.self.view_is) c.requires) in
    let there = first_there a s.level s.taken s.left s.start s.bytes.items first.0 first.1 first.3 in
    let name = c.first_name-rows.ensures first.0 (items_bytes (suc s.level) first.1) first.3.each.0 (c.split_at.ensures.back ∙ ap (drop s.start) c.deref.ensures.value ∙ there) in
    let copied = first_copied first.0 _ c.in_ok-key.key _ _ name c.in_ok-key.ensures.copy in
    let wide = c.name_size.ensures.size ∙ ap (λ (i : Item). length (item_bytes 1 i)) (sym copied) in
    c.steps_of_next-steps.ensures a (suc c.args.self.now.level) c.in_ok-key.key
    (next_ends a s.level s.taken s.left s.start s.bytes.items first.0 first.1 first.3 c.args.self.now.level _ _ c.in_ok-key.key
    (ap (λ (n : Node). n.level) c.self.view_is) (ap (λ n. s.start + n) (sym wide)) (omega arith) (ap (λ (i : Item). i.key) copied))
