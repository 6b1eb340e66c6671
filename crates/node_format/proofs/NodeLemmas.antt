-- Whole nodes: what is read is a node, what is no node is refused at its place, and equal bytes are of one node.
use Rattle.std.proofs.Common.{◌≡◌, ℕ, zero, suc, ◌+◌, ◌-◌, ◌<◌, ◌≤◌, ◌^◌, true, cond, List, [], ◌∷◌, ◌++◌, length, Some, None, inl, inr, refl, sym, ap, subst, ◌∙◌, append_assoc, arith}
use Rattle.std.specs.Prelude.{◌&&◌, ◌==◌, nat_lt}
use Rattle.std.specs.Int.{w16, to_be_bytes}
use Rattle.std.proofs.lemmas.Bool.{ltb-true, lt-ltb, eqb-true, eq-eqb, and_parts as both_true, or_cases as one_true}
use Rattle.std.proofs.lemmas.List.{length-append}
use Rattle.std.proofs.lemmas.Option.{none-some}
use Rattle.tuple_codec.proofs.Options.{some_is, chosen_some}
use Rattle.tuple_codec.specs.Nodes.{Item, Node, IsHeader, IsNode, header_bytes, items_bytes, kind_of, node_bytes}
use Rattle.node_format.specs.Reading.{number_at, is_header, header_at, stop_at, items_from}
use Rattle.node_format.specs.Marks.{node_from}
use Rattle.node_format.specs.Found.{FindsItems, items_in}
use Rattle.node_format.specs.Faults.{HasNoHeader, HasOneSpelling, IsNoNode, StopsAt}
use Rattle.node_format.proofs.FieldLemmas.{IsBytes, bind_some, wide16, number_takes, number_again}
use Rattle.node_format.proofs.ItemLemmas.{all_read, read_again, stops_at}

-- ---- the header

abbrev Agree : ℕ → ℕ → ℕ → Type 0
Agree kind level count = (kind ≡ kind_of level) × (0 < level → 0 < count)

agree_inner : (kind level count : ℕ) → kind ≡ 2 → 0 < level → 0 < count → Agree kind level count
agree_inner kind zero count k l n = absurd (omega arith)
agree_inner kind (suc level) count k l n = (k, λ _. n)

agree_leaf : (kind level count : ℕ) → kind ≡ 1 → level ≡ 0 → Agree kind level count
agree_leaf kind zero count k l = (k, λ lt. absurd (omega arith))
agree_leaf kind (suc level) count k l = absurd (omega arith)

header_agrees : (kind level count : ℕ) → is_header kind level count ≡ true → Agree kind level count
header_agrees kind level count e =
    elim (one_true (kind == 1 && level == 0) (kind == 2 && nat_lt 0 level && nat_lt 0 count) e) [
      | inl leaf ↦
          let b = both_true (kind == 1) (level == 0) leaf in
          agree_leaf kind level count (eqb-true kind 1 b.0) (eqb-true level 0 b.1)
      | inr inner ↦
          let b = both_true (kind == 2 && nat_lt 0 level) (nat_lt 0 count) inner in
          let c = both_true (kind == 2) (nat_lt 0 level) b.0 in
          agree_inner kind level count (eqb-true kind 2 c.0) (ltb-true 0 level c.1) (ltb-true 0 count b.1)
    ]

header_is : (level count : ℕ) → IsHeader level count → is_header (kind_of level) level count ≡ true
header_is zero count h = refl
header_is (suc level) count h = rw (lt-ltb 0 (suc level) (omega arith), lt-ltb 0 count (h.has_item (omega arith))) refl

pub record TakesHeader (bytes : List ℕ) (x : ℕ × ℕ × List ℕ) : Type 0 where
  pub parts : bytes ≡ header_bytes x.0 x.1 ++ x.2
  pub rest_fits : IsBytes x.2
  pub is : IsHeader x.0 x.1

pub header_takes : (bytes : List ℕ) (x : ℕ × ℕ × List ℕ) → IsBytes bytes → header_at bytes ≡ Some x → TakesHeader bytes x
unfolding header_at
header_takes [] x fits e = absurd cc
header_takes (kind ∷ []) x fits e = absurd cc
header_takes (kind ∷ level ∷ rest) x fits e =
    let b = bind_some (number_at w16 rest) (λ count. cond (is_header kind level count.0) (Some (level, count.0, count.1)) None) x e in
    let made : ℕ × ℕ × List ℕ = (level, b.0.0, b.0.1) in
    let g = chosen_some (is_header kind level b.0.0) made x b.2 in
    let n = number_takes w16 (2 ^ 16) wide16 rest b.0 (λ i. fits (suc (suc i))) b.1 in
    let a = header_agrees kind level b.0.0 g.0 in
    let parts : kind ∷ level ∷ rest ≡ header_bytes level b.0.0 ++ b.0.1 =
    ap (λ (t : List ℕ). kind ∷ level ∷ t) n.0.parts ∙ ap (λ (k : ℕ). k ∷ level ∷ (to_be_bytes w16 b.0.0 ++ b.0.1)) a.0 in
    let is : IsHeader level b.0.0 = record { level_fits = fits 1; count_fits = n.1; has_item = a.1 } in
    subst (λ (y : ℕ × ℕ × List ℕ). TakesHeader (kind ∷ level ∷ rest) y) g.1 (record { parts = parts; rest_fits = n.0.rest_fits; is = is })

pub header_again : (level count : ℕ) (rest : List ℕ) → IsHeader level count → header_at (header_bytes level count ++ rest) ≡ Some (level, count, rest)
unfolding header_at
header_again level count rest is =
    rw (number_again w16 (2 ^ 16) wide16 count rest is.count_fits, header_is level count is) refl

pub header_shorter : (bytes : List ℕ) (x : ℕ × ℕ × List ℕ) → IsBytes bytes → header_at bytes ≡ Some x → length x.2 ≤ length bytes
header_shorter bytes x fits e =
    let h = header_takes bytes x fits e in
    let total : length bytes ≡ length (header_bytes x.0 x.1) + length x.2 = ap (λ (l : List ℕ). length l) h.parts ∙ length-append (header_bytes x.0 x.1) x.2 in
    omega arith

-- ---- a node

pub node_read : (bytes : List ℕ) (x : ℕ × ℕ × List ℕ) → IsBytes bytes → header_at bytes ≡ Some x → stop_at x.0 x.1 None x.2 ≡ None
    → IsNode (node_from x.0 x.1 x.2) × (bytes ≡ node_bytes (node_from x.0 x.1 x.2)) × (length (items_from x.0 x.1 x.2) ≡ x.1)
node_read bytes x fits header stop =
    let h = header_takes bytes x fits header in
    let items = items_from x.0 x.1 x.2 in
    let r = all_read x.0 x.1 None x.2 h.rest_fits stop in
    let parts : bytes ≡ node_bytes (node_from x.0 x.1 x.2) =
    h.parts ∙ ap (λ (t : List ℕ). header_bytes x.0 x.1 ++ t) r.parts ∙ ap (λ (n : ℕ). header_bytes x.0 n ++ items_bytes x.0 items) (sym r.many) in
    (record { header = subst (λ (n : ℕ). IsHeader x.0 n) (sym r.many) h.is; items = r.each; keys = r.keys }, parts, r.many)

-- ---- no node

abbrev pub parts_of : Node → ℕ × ℕ × List ℕ
parts_of node = (node.level, length node.items, items_bytes node.level node.items)

pub node_header : (node : Node) → IsNode node → header_at (node_bytes node) ≡ Some (parts_of node)
node_header node is = header_again node.level (length node.items) (items_bytes node.level node.items) is.header

pub no_header : (bytes : List ℕ) → header_at bytes ≡ None → HasNoHeader bytes
no_header bytes none level count rest is e =
    let x : ℕ × ℕ × List ℕ = (level, count, rest) in
    none-some x (sym none ∙ ap header_at e ∙ header_again level count rest is)

pub none_without_header : (bytes : List ℕ) → header_at bytes ≡ None → IsNoNode bytes
none_without_header bytes none node is e =
    let clash : None ≡ Some (parts_of node) = sym none ∙ ap header_at e ∙ node_header node is in
    absurd cc

pub none_that_stops : (bytes rest : List ℕ) (x : ℕ × ℕ × List ℕ) → header_at bytes ≡ Some x → stop_at x.0 x.1 None x.2 ≡ Some rest → IsNoNode bytes
none_that_stops bytes rest x header stop node is e =
    let same : x ≡ parts_of node = some_is x (parts_of node) (sym header ∙ ap header_at e ∙ node_header node is) in
    let all = (read_again node.level None node.items is.items is.keys).0 in
    let clash : Some rest ≡ None = sym stop ∙ ap (λ (y : ℕ × ℕ × List ℕ). stop_at y.0 y.1 None y.2) same ∙ all in
    absurd cc

pub fault_place : (bytes rest : List ℕ) (x : ℕ × ℕ × List ℕ) → IsBytes bytes → header_at bytes ≡ Some x → stop_at x.0 x.1 None x.2 ≡ Some rest
    → (length rest ≤ length bytes) × StopsAt bytes (length bytes - length rest)
fault_place bytes rest x fits header stop =
    let h = header_takes bytes x fits header in
    let s = stops_at x.0 x.1 None x.2 rest h.rest_fits stop in
    let front = header_bytes x.0 x.1 ++ items_bytes x.0 s.items in
    let reads : bytes ≡ front ++ rest =
    h.parts ∙ ap (λ (t : List ℕ). header_bytes x.0 x.1 ++ t) s.parts ∙ sym (append_assoc (header_bytes x.0 x.1) (items_bytes x.0 s.items) rest) in
    let total : length bytes ≡ length front + length rest = ap (λ (l : List ℕ). length l) reads ∙ length-append front rest in (
      omega arith,
      record {
        level = x.0;
        count = x.1;
        items = s.items;
        rest = rest;
        header = h.is;
        each = s.each;
        keys = s.keys;
        reads = reads;
        stops = s.stops;
        place = omega arith;
      },
    )

-- ---- one spelling

pub one_spelling : HasOneSpelling
one_spelling a b is_a is_b e =
    let same : parts_of a ≡ parts_of b = some_is (parts_of a) (parts_of b) (sym (node_header a is_a) ∙ ap header_at e ∙ node_header b is_b) in
    let read_a = (read_again a.level None a.items is_a.items is_a.keys).1 in
    let read_b = (read_again b.level None b.items is_b.items is_b.keys).1 in
    let items : a.items ≡ b.items = sym read_a ∙ ap (λ (y : ℕ × ℕ × List ℕ). items_from y.0 y.1 y.2) same ∙ read_b in
    let level : a.level ≡ b.level = ap (λ (y : ℕ × ℕ × List ℕ). y.0) same in
    ap (λ (l : ℕ). record { level = l; items = a.items }) level ∙ ap (λ (l : List Item). record { level = b.level; items = l }) items

-- ---- a node's items are found

pub items_found : FindsItems
unfolding items_in
items_found node is =
    let read = (read_again node.level None node.items is.items is.keys).1 in
    rw (node_header node is, eq-eqb node.level node.level refl) (ap (λ (items : List Item). Some items) read)
