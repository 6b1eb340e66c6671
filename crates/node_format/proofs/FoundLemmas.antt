-- An item of a node that was read, from its mark on.
use Rattle.std.proofs.Common.{◌≡◌, ℕ, zero, suc, ◌+◌, ◌*◌, ◌/◌, ◌%◌, ◌<◌, List, [], length, drop, get_or, Option, Some, None, refl, sym, ap, ◌∙◌, arith}
use Rattle.std.specs.Option.{option_map}
use Rattle.std.specs.List.{slice_get}
use Rattle.std.specs.Int.{w64}
use Rattle.std.proofs.Math.Nat.{div-add-mod'}
use Rattle.std.proofs.lemmas.Option.{none-some, slice_get-get_or}
use Rattle.tuple_codec.proofs.Options.{some_is}
use Rattle.tuple_codec.specs.Fields.{bytes_at}
use Rattle.tuple_codec.specs.Nodes.{Item, Node, leaf_item}
use Rattle.node_format.specs.Reading.{◌>>=◌, inner_at, item_at, items_from, leaf_at, number_at, sized_at, skip}
use Rattle.node_format.specs.Marks.{IsRead}
use Rattle.node_format.proofs.FieldLemmas.{bind_some, bytes_length}
use Rattle.node_format.proofs.ItemLemmas.{item_there, skip_then}
use Rattle.node_format.proofs.MarkLemmas.{mark_before}

abbrev blank : Item
blank = leaf_item [] []

pub item_from_mark : (level count : ℕ) (bytes : List ℕ) (stride : ℕ) (places : List ℕ) (i : ℕ) → IsRead level count bytes stride places → i < count
    → option_map (λ x. x.0) (item_at level (skip level (i % stride) (drop (get_or places (i / stride) 0) bytes))) ≡ slice_get (items_from level count bytes) i
item_from_mark level count bytes stride places i read below =
    let place = mark_before level bytes stride places count i read.marks below in
    let whole : i / stride * stride + i % stride ≡ i = div-add-mod' i stride in
    let start : skip level (i % stride) (drop (get_or places (i / stride) 0) bytes) ≡ skip level i bytes =
    ap (λ (l : List ℕ). skip level (i % stride) l) place.1 ∙ sym (skip_then level (i / stride * stride) (i % stride) bytes) ∙ ap (λ (n : ℕ). skip level n bytes) whole in
    let items = items_from level count bytes in
    let got : slice_get items i ≡ Some (get_or items i blank) = slice_get-get_or items i blank (omega (arith, below, read.many)) in
    ap (λ (l : List ℕ). option_map (λ x. x.0) (item_at level l)) start ∙ item_there level count i bytes (get_or items i blank) got ∙ sym got

-- what is known of the bytes from an item on
module _ (node : Node) (i : ℕ) (bytes : List ℕ) (within : i < length node.items) (there : option_map (λ x. x.0) (item_at node.level bytes) ≡ slice_get node.items i) where
  missing : item_at node.level bytes ≡ None → ⊥
  missing none =
      let got = slice_get-get_or node.items i blank within in
      none-some (get_or node.items i blank) (ap (λ (o : Option (Item × List ℕ)). option_map (λ x. x.0) o) (sym none) ∙ there ∙ got)

  found : (x : Item × List ℕ) → item_at node.level bytes ≡ Some x → slice_get node.items i ≡ Some x.0
  found x some = sym there ∙ ap (λ (o : Option (Item × List ℕ)). option_map (λ y. y.0) o) some

  as_leaf : node.level ≡ 0 → item_at node.level bytes ≡ leaf_at bytes
  unfolding item_at
  as_leaf leaf = ap (λ (l : ℕ). item_at l bytes) leaf

  pub leaf_missing : node.level ≡ 0 → leaf_at bytes ≡ None → ⊥
  leaf_missing leaf none = missing (as_leaf leaf ∙ none)

  pub leaf_found : (x : Item × List ℕ) → node.level ≡ 0 → leaf_at bytes ≡ Some x → slice_get node.items i ≡ Some x.0
  leaf_found x leaf some = found x (as_leaf leaf ∙ some)

  as_inner : (level : ℕ) → 0 < level → item_at level bytes ≡ inner_at bytes
  unfolding item_at
  as_inner zero above = absurd (omega arith)
  as_inner (suc level) above = refl

  pub inner_missing : 0 < node.level → inner_at bytes ≡ None → ⊥
  inner_missing inner none = missing (as_inner node.level inner ∙ none)

  pub inner_found : (x : Item × List ℕ) → 0 < node.level → inner_at bytes ≡ Some x → slice_get node.items i ≡ Some x.0
  inner_found x inner some = found x (as_inner node.level inner ∙ some)

-- an address has 20 bytes
pub inner_body : (bytes : List ℕ) (x : Item × List ℕ) → inner_at bytes ≡ Some x → length x.0.body ≡ 20
unfolding inner_at
inner_body bytes x e =
    let a = bind_some (sized_at bytes) (λ key. bytes_at 20 key.1 >>= λ address. number_at w64 address.1 >>= λ rows. Some (record { key = key.0; body = address.0; rows = rows.0 }, rows.1)) x e in
    let b = bind_some (bytes_at 20 a.0.1) (λ address. number_at w64 address.1 >>= λ rows. Some (record { key = a.0.0; body = address.0; rows = rows.0 }, rows.1)) x a.2 in
    let c = bind_some (number_at w64 b.0.1) (λ rows. Some (record { key = a.0.0; body = b.0.0; rows = rows.0 }, rows.1)) x b.2 in
    let made : Item × List ℕ = (record { key = a.0.0; body = b.0.0; rows = c.0.0 }, c.0.1) in
    let same : made ≡ x = some_is made x c.2 in
    ap (λ (y : Item × List ℕ). length y.0.body) (sym same) ∙ bytes_length 20 a.0.1 b.0 b.1
