-- A tree that stands leads back to its rows: level by level, from the nodes that are held.
use Rattle.std.proofs.Common.{◌≡◌, ◌<◌, ◌≤◌, ◌+◌, ◌^◌, ◌⊎◌, inl, inr, ℕ, zero, suc, true, false, cond, List, [], ◌∷◌, ◌++◌, length, map, None, Some, refl, sym, ap, ◌∙◌, subst, append_assoc, append-nil, arith}
use Rattle.std.specs.List.{AllByRecursion}
use Rattle.std.proofs.Math.Nat.{pow-succ'}
use Rattle.std.proofs.Math.Pow.{pow_mono}
use Rattle.std.proofs.lemmas.Bool.Decides.{leb_tells}
use Rattle.tuple_codec.specs.Nodes.{Item, Node, Rise, items_bytes}
use Rattle.tuple_codec.specs.Trees.{AreRows, IsRow, bytes_of, closes, cut, cut_from, inner_chunks, last_key, name, names, rows_in, top, tower}
use Rattle.chunk_store.specs.Chunks.{Chunks}
use Rattle.chunk_store.specs.Standing.{AreHeld, IsThere, IsTree}
use Rattle.prolly_tree.specs.Found.{ButLast, IsCanonical, IsCounted, IsEnded, IsOrdered, UpTo, each_of, left, nodes_in, rows_at}
use Rattle.prolly_tree.specs.Standing.{IsNodeFound, IsStored, IsTop, LeadsTo, TreesHaveRoots, TreesLead, rows_below}
use Rattle.prolly_tree.proofs.StandingReads.{all_map, items_there, many_rows, reached, rows_there}
use Rattle.prolly_tree.proofs.StandingOrder.{rise_left, rise_right, upto_last}
use Rattle.prolly_tree.proofs.StandingCuts.{HasNoEnd, IsSmall, cut_ended, cut_last, no_end_more, no_end_yet, small_open, two_closed}
use Rattle.prolly_tree.proofs.StandingNodes.{HasFit, bytes_length, few_each, fit_item, fit_last_key, fit_rows, items_count, node_size, open_size}
use Rattle.prolly_tree.proofs.StandingLists.{all_left, all_right, but_all, but_both, but_cons, but_ended, but_left, but_map, but_right, cut_none, cut_short, cut_some, each_append, names_length, names_rise, some_last}

-- what is known of an item of a level, and of one whose node ended
record IsLow (address : List ℕ → List ℕ) (chunks : Chunks) (level : ℕ) (item : Item) : Type 0 where
  pub fit : HasFit level item
  pub found : IsNodeFound chunks level item
  pub canonical : IsCanonical address (nodes_in chunks) level item

record IsHigh (address : List ℕ → List ℕ) (chunks : Chunks) (level : ℕ) (item : Item) : Type 0 where
  pub ended : IsEnded address (nodes_in chunks) level item
  pub many : 2 ^ level ≤ item.rows

named : (address : List ℕ → List ℕ) (level : ℕ) (items : List Item)
    → name address level items ≡ record { key = last_key items; body = address (bytes_of level items); rows = rows_in items }
unfolding name
named address level items = refl

all_both : {P Q R : Item → Type 0} → ((item : Item) → P item → Q item → R item) → (items : List Item) → AllByRecursion P items → AllByRecursion Q items → AllByRecursion R items
all_both f [] p q = tt
all_both f (item ∷ items) p q = (f item p.0 q.0, all_both f items p.1 q.1)

some_rows_in : (level : ℕ) (items : List Item) → AllByRecursion (HasFit level) items → 0 < length items → 0 < rows_in items
some_rows_in level [] fit some = some
some_rows_in level (item ∷ items) fit some = let one = fit_rows level item fit.0 in omega (arith, one)

module _ (address : List ℕ → List ℕ) (chunks : Chunks) where
  f : ℕ → Item → List Item
  f level = rows_at (nodes_in chunks) level

  Low : ℕ → Item → Type 0
  Low level = IsLow address chunks level

  High : ℕ → Item → Type 0
  High level = IsHigh address chunks level

  -- a node of fitting items that is held and not too long is found
  stored : (level : ℕ) (node : List Item) → level < 256 → 4 + length (items_bytes level node) ≤ 65536 → 0 < length node → AllByRecursion (HasFit level) node
      → Rise node → rows_in node < 2 ^ 63 → (chunks (address (bytes_of level node)) ≡ Some (bytes_of level node)) × (length (address (bytes_of level node)) ≡ 20)
      → IsStored chunks (address (bytes_of level node)) (record { level = level; items = node })
  stored level node low size some fit rise few there =
      let count = items_count level node fit in
      let length_is = bytes_length level node in
      record {
        address = there.1;
        found = there.0;
        is_node = record {
          header = record { level_fits = low; count_fits = omega (arith, size, count); has_item = λ above. some };
          items = all_both (λ i p q. fit_item level i p q) node fit (few_each node (2 ^ 63) few);
          keys = rise;
        };
        size = omega (arith, size, length_is);
      }

  -- the name of such a node
  whole : (level : ℕ) (node : List Item) → 0 < length node → ButLast (IsLow address chunks level) (IsHigh address chunks level) node
      → cut address level node ≡ node ∷ [] → IsStored chunks (address (bytes_of level node)) (record { level = level; items = node })
      → IsLow address chunks (suc level) (name address level node)
  whole level node some each single is =
      let all = but_all (IsLow address chunks level) (IsHigh address chunks level) node each in
      let fit : AllByRecursion (HasFit level) node = all_map (λ i a. a.fit) node all in
      let e = named address level node in
      let made : Item = record { key = last_key node; body = address (bytes_of level node); rows = rows_in node } in
      let know : IsLow address chunks (suc level) made = record {
        fit = (fit_last_key level node fit, is.address, some_rows_in level node fit some);
        found = (node, is, all_map (λ i a. a.found) node all, some, refl, refl);
        canonical = (
          node,
          items_there chunks (address (bytes_of level node)) level node is,
          but_map (IsLow address chunks level) (IsHigh address chunks level) (IsCanonical address (nodes_in chunks) level) (IsEnded address (nodes_in chunks) level) (λ i a. a.canonical) (λ i a. a.ended) node each,
          ap (names address level) single ∙ ap (λ (x : Item). x ∷ []) e,
        );
      } in
      subst (IsLow address chunks (suc level)) (sym e) know

  rows_many : (level : ℕ) (items : List Item) → AllByRecursion (IsHigh address chunks level) items → 2 ≤ length items → 2 ^ suc level ≤ rows_in items
  rows_many level [] all two = absurd (omega (arith, two))
  rows_many level (item ∷ []) all two = absurd (omega (arith, two))
  rows_many level (item ∷ other ∷ items) all two =
      let a = all.0.many in
      let b = all.1.0.many in
      let e = pow-succ' 2 level in
      omega (arith, a, b, e)

  -- the name of a node that ended
  ended : (level : ℕ) (node : List Item) → AllByRecursion (IsHigh address chunks level) node → 2 ≤ length node → left address level [] node ≡ []
      → IsStored chunks (address (bytes_of level node)) (record { level = level; items = node }) → IsHigh address chunks (suc level) (name address level node)
  ended level node all two over is =
      let e = named address level node in
      let made : Item = record { key = last_key node; body = address (bytes_of level node); rows = rows_in node } in
      let know : IsHigh address chunks (suc level) made = record {
        ended = (node, items_there chunks (address (bytes_of level node)) level node is, all_map (λ i a. a.ended) node all, over);
        many = rows_many level node all two;
      } in
      subst (IsHigh address chunks (suc level)) (sym e) know

  -- the rows below a name are those of its node's items
  rows_named : (level : ℕ) (node : List Item) → IsStored chunks (address (bytes_of level node)) (record { level = level; items = node })
      → rows_at (nodes_in chunks) (suc level) (name address level node) ≡ each_of (rows_at (nodes_in chunks) level) node
  rows_named level node is =
      let made : Item = record { key = last_key node; body = address (bytes_of level node); rows = rows_in node } in
      ap (rows_at (nodes_in chunks) (suc level)) (named address level node) ∙ rows_there chunks level made node is

  -- one level of names
  record IsLevel (level : ℕ) (nodes : List (List Item)) (items : List Item) : Type 0 where
    each : ButLast (IsLow address chunks (suc level)) (IsHigh address chunks (suc level)) (names address level nodes)
    rows : each_of (rows_at (nodes_in chunks) (suc level)) (names address level nodes) ≡ each_of (rows_at (nodes_in chunks) level) items

  rows_in_append : (some others : List Item) → rows_in (some ++ others) ≡ rows_in some + rows_in others
  rows_in_append [] others = omega arith
  rows_in_append (item ∷ some) others = let more = rows_in_append some others in omega (arith, more)

  levels : (level : ℕ) → level < 256 → (held items : List Item) → HasNoEnd address level held → IsSmall level held
      → ButLast (IsLow address chunks level) (IsHigh address chunks level) (held ++ items) → Rise (held ++ items) → rows_in (held ++ items) < 2 ^ 63
      → AreHeld address chunks (map (bytes_of level) (cut_from address level held items)) → IsLevel level (cut_from address level held items) (held ++ items)
  levels level low [] [] no_end small each rise few there = record { each = tt; rows = refl }
  levels level low (first ∷ held) [] no_end small each rise few there =
      let node = first ∷ held in
      let e = append-nil node in
      let each' : ButLast (IsLow address chunks level) (IsHigh address chunks level) node = subst (ButLast (IsLow address chunks level) (IsHigh address chunks level)) e each in
      let fit : AllByRecursion (HasFit level) node = all_map (λ i a. a.fit) node (but_all (IsLow address chunks level) (IsHigh address chunks level) node each') in
      let is = stored level node low (open_size level node fit small) (omega arith) fit (subst Rise e rise) (subst (λ (l : List Item). rows_in l < 2 ^ 63) e few) there.0 in
      record {
        each = whole level node (omega arith) each' (cut_last address level first held no_end) is;
        rows = append-nil (rows_at (nodes_in chunks) (suc level) (name address level node)) ∙ rows_named level node is ∙ ap (each_of (rows_at (nodes_in chunks) level)) (sym e);
      }
  levels level low held (item ∷ items) no_end small each rise few there =
      let node = held ++ item ∷ [] in
      let e : held ++ item ∷ items ≡ node ++ items = sym (append_assoc held (item ∷ []) items) in
      let each' : ButLast (IsLow address chunks level) (IsHigh address chunks level) (node ++ items) = subst (ButLast (IsLow address chunks level) (IsHigh address chunks level)) e each in
      let rise' : Rise (node ++ items) = subst Rise e rise in
      let few' : rows_in (node ++ items) < 2 ^ 63 = subst (λ (l : List Item). rows_in l < 2 ^ 63) e few in
      (elim (closes address level node) as (λ b. closes address level node ≡ b
      → AreHeld address chunks (map (bytes_of level) (cond b (node ∷ cut_from address level [] items) (cut_from address level node items)))
      → IsLevel level (cond b (node ∷ cut_from address level [] items) (cut_from address level node items)) (held ++ item ∷ items)) [
        | true ↦ λ t there.
            let front = but_left (IsLow address chunks level) (IsHigh address chunks level) node items each' in
            let fit : AllByRecursion (HasFit level) node = all_map (λ i a. a.fit) node (but_all (IsLow address chunks level) (IsHigh address chunks level) node front) in
            let some = some_last held item in
            let sum = rows_in_append node items in
            let is = stored level node low (node_size level held item fit small) some fit (rise_left None node items rise') (omega (arith, sum, few')) there.0 in
            let over = cut_ended address level held item no_end t in
            let more = levels level low [] items (no_end_yet address level) (inl (omega arith)) (but_right (IsLow address chunks level) (IsHigh address chunks level) node items each')
            (rise_right None node items rise') (omega (arith, sum, few')) there.1 in
            let high = λ (follows : 0 < length items). ended level node (but_ended (IsLow address chunks level) (IsHigh address chunks level) node items follows each') (two_closed address level node t) over.1 is in
            record {
              each = but_cons (IsLow address chunks (suc level)) (IsHigh address chunks (suc level)) (name address level node) (names address level (cut_from address level [] items))
                  (whole level node some front over.0 is) (λ follows. high (cut_none address level items follows)) more.each;
              rows = ap (λ (l : List Item). rows_at (nodes_in chunks) (suc level) (name address level node) ++ l) more.rows
                  ∙ ap (λ (l : List Item). l ++ each_of (rows_at (nodes_in chunks) level) items) (rows_named level node is)
                  ∙ sym (each_append (rows_at (nodes_in chunks) level) node items) ∙ ap (each_of (rows_at (nodes_in chunks) level)) (sym e);
            }
        | false ↦ λ t there.
            subst (IsLevel level (cut_from address level node items)) (sym e)
            (levels level low node items (no_end_more address level held item no_end t) (small_open address level node t) each' rise' few' there)
      ]) refl there

  record IsStanding (level : ℕ) (items rows : List Item) : Type 0 where
    each : ButLast (IsLow address chunks level) (IsHigh address chunks level) items
    rise : Rise items
    rows_are : each_of (rows_at (nodes_in chunks) level) items ≡ rows

  standing_count : (level : ℕ) (items rows : List Item) → IsStanding level items rows → rows_in items ≡ length rows
  standing_count level items rows is =
      let all = but_all (IsLow address chunks level) (IsHigh address chunks level) items is.each in
      sym (many_rows (rows_at (nodes_in chunks) level) items (all_map (λ i a. reached chunks level i a.found) items all)) ∙ ap (λ (l : List Item). length l) is.rows_are

  -- the names of the nodes into which items are cut
  above : (level : ℕ) (items rows : List Item) → level < 256 → length rows < 2 ^ 63 → IsStanding level items rows
      → AreHeld address chunks (map (bytes_of level) (cut address level items)) → IsStanding (suc level) (names address level (cut address level items)) rows
  above level items rows low few is there =
      let count = standing_count level items rows is in
      let next = levels level low [] items (no_end_yet address level) (inl (omega arith)) is.each is.rise (omega (arith, count, few)) there in
      record { each = next.each; rise = names_rise address level None [] items is.rise; rows_are = next.rows ∙ is.rows_are }

  -- an item of a tree's top: what it is, and that its rows are all
  record IsAbove (height : ℕ) (item : Item) (rows : List Item) : Type 0 where
    low : IsLow address chunks (suc height) item
    rows_are : rows_at (nodes_in chunks) (suc height) item ≡ rows

  -- levels are few: an item whose node ended has at least two rows to the power of its level
  few_levels : (level : ℕ) (items rows : List Item) → length rows < 2 ^ 63 → IsStanding level items rows → 2 ≤ length items → level < 256
  few_levels level [] rows few is two = absurd (omega (arith, two))
  few_levels level (item ∷ []) rows few is two = absurd (omega (arith, two))
  few_levels level (item ∷ other ∷ items) rows few is two =
      let count = standing_count level (item ∷ other ∷ items) rows is in
      let many = is.each.1.many in
      elim (decide level) [
        | inl below ↦ omega (arith, below)
        | inr over ↦ (let p : 2 ^ 63 ≤ 2 ^ level = pow_mono over in absurd (omega (arith, p, many, count, few)))
      ] where
        decide : (level : ℕ) → (level < 63) ⊎ (63 ≤ level)
        decide level = elim (leb_tells 63 level) [ inl most ↦ inr most.1 | inr least ↦ inl least.1 ]

  topped : (turns level : ℕ) (items rows : List Item) → length rows < 2 ^ 63 → IsStanding (suc level) items rows → 0 < length items → length items ≤ suc turns
      → AreHeld address chunks (inner_chunks address turns (suc level) items) → (height : ℕ) × IsAbove height (top address turns (suc level) items) rows
  topped turns level [] rows few is some short there = absurd (omega arith)
  topped turns level (item ∷ []) rows few is some short there =
      (level, record { low = is.each; rows_are = sym (append-nil (rows_at (nodes_in chunks) (suc level) item)) ∙ is.rows_are })
  topped zero level (item ∷ other ∷ items) rows few is some short there = absurd (omega (arith, short))
  topped (suc turns) level (item ∷ other ∷ items) rows few is some short there =
      let all = item ∷ other ∷ items in
      let low = few_levels (suc level) all rows few is (omega arith) in
      let held = all_left (IsThere address chunks) (map (bytes_of (suc level)) (cut address (suc level) all)) _ there in
      let rest = all_right (IsThere address chunks) (map (bytes_of (suc level)) (cut address (suc level) all)) _ there in
      let half = cut_short address (suc level) [] all (two_closed address (suc level)) in
      let same = names_length address (suc level) (cut address (suc level) all) in
      let one = cut_some address (suc level) [] all (omega arith) in
      topped turns (suc level) (names address (suc level) (cut address (suc level) all)) rows few (above (suc level) all rows low few is held)
      (omega (arith, one, same)) (omega (arith, half, same, short)) rest

  -- ---- the rows themselves

  row_low : (row : Item) → IsRow row → IsLow address chunks 0 row
  row_low row is = record { fit = is; found = is.one; canonical = tt }

  row_high : (row : Item) → IsRow row → IsHigh address chunks 0 row
  row_high row is = record { ended = tt; many = (let one = is.one in omega (arith, one)) }

  each_itself : (items : List Item) → each_of (rows_at (nodes_in chunks) 0) items ≡ items
  each_itself [] = refl
  each_itself (item ∷ items) = ap (λ (l : List Item). item ∷ l) (each_itself items)

  rows_stand : (rows : List Item) → AreRows rows → IsStanding 0 rows rows
  rows_stand rows are = record {
    each = but_both (IsLow address chunks 0) (IsHigh address chunks 0) rows (all_map row_low rows are.each) (all_map row_high rows are.each);
    rise = are.rise;
    rows_are = each_itself rows;
  }

  -- ---- order and counts, from the rows

  all_ordered : (level : ℕ) → ((item : Item) → IsNodeFound chunks level item → Rise (rows_at (nodes_in chunks) level item) → IsOrdered (nodes_in chunks) level item)
      → (items : List Item) → AllByRecursion (IsNodeFound chunks level) items → Rise (each_of (rows_at (nodes_in chunks) level) items)
      → AllByRecursion (IsOrdered (nodes_in chunks) level) items
  all_ordered level go [] all rise = tt
  all_ordered level go (item ∷ items) all rise = (
    go item all.0 (rise_left None (rows_at (nodes_in chunks) level item) (each_of (rows_at (nodes_in chunks) level) items) rise),
    all_ordered level go items all.1 (rise_right None (rows_at (nodes_in chunks) level item) (each_of (rows_at (nodes_in chunks) level) items) rise),
  )

  ordered : (level : ℕ) (item : Item) → IsNodeFound chunks level item → Rise (rows_at (nodes_in chunks) level item) → IsOrdered (nodes_in chunks) level item
  ordered zero item found rise = tt
  ordered (suc level) item found rise = (
    found.0,
    items_there chunks item.body level found.0 found.1,
    all_ordered level (ordered level) found.0 found.2 (subst Rise (rows_there chunks level item found.0 found.1) rise),
    subst (λ (k : List ℕ). UpTo k (rows_at (nodes_in chunks) (suc level) item)) (reached chunks (suc level) item found).last (upto_last (rows_at (nodes_in chunks) (suc level) item) rise),
  )

  counted : (level : ℕ) (item : Item) → IsNodeFound chunks level item → IsCounted (nodes_in chunks) level item
  counted zero item found = found
  counted (suc level) item found = (
    found.0,
    items_there chunks item.body level found.0 found.1,
    all_map (counted level) found.0 found.2,
    sym (reached chunks (suc level) item found).many,
  )

  -- ---- the laws

  has_root : (k : List ℕ) (first : Item) (rows : List Item) → IsTree address chunks k (first ∷ rows)
      → (height : ℕ) × (item : Item) × IsTop address chunks k height item (first ∷ rows)
  has_root k first rows tree =
      let all = first ∷ rows in
      let few = tree.are_rows.few in
      let held = all_left (IsThere address chunks) (map (bytes_of 0) (cut address 0 all)) _ tree.held in
      let rest = all_right (IsThere address chunks) (map (bytes_of 0) (cut address 0 all)) _ tree.held in
      let half = cut_short address 0 [] all (two_closed address 0) in
      let same = names_length address 0 (cut address 0 all) in
      let one = cut_some address 0 [] all (omega arith) in
      let t = topped (length all) 0 (names address 0 (cut address 0 all)) all few (above 0 all all (omega arith) few (rows_stand all tree.are_rows) held)
      (omega (arith, one, same)) (omega (arith, half, same)) rest in
      let rise : Rise (rows_at (nodes_in chunks) (suc t.0) (tower address all)) = subst Rise (sym t.1.rows_are) tree.are_rows.rise in (
        t.0,
        tower address all,
        record {
          named = tree.named;
          root = record {
            canonical = t.1.low.canonical;
            ordered = ordered (suc t.0) (tower address all) t.1.low.found rise;
            counted = counted (suc t.0) (tower address all) t.1.low.found;
            rows_are = t.1.rows_are;
          };
          found = t.1.low.found;
        },
      )

  empty_stored : (k : List ℕ) → IsTree address chunks k [] → IsStored chunks k (record { level = 0; items = [] })
  unfolding name
  empty_stored k tree =
      let length_is = bytes_length 0 [] in
      record {
        address = subst (λ (a : List ℕ). length a ≡ 20) tree.named tree.held.0.1;
        found = ap chunks (sym tree.named) ∙ tree.held.0.0;
        is_node = record { header = record { level_fits = omega arith; count_fits = omega arith; has_item = λ above. absurd (omega arith) }; items = tt; keys = tt };
        size = omega (arith, length_is);
      }

  leads : (k : List ℕ) (rows : List Item) → IsTree address chunks k rows → (node : Node) × LeadsTo chunks k node rows
  leads k [] tree = (
    record { level = 0; items = [] },
    record { opens = record { stored = empty_stored k tree; leads = record { each = tt; rise = tt } }; rows_are = refl },
  )
  leads k (first ∷ rows) tree =
      let t = has_root k first rows tree in
      let found = t.2.found in
      let node : Node = record { level = t.0; items = found.0 } in
      let e : rows_below chunks node ≡ first ∷ rows = sym (rows_there chunks t.0 t.1 found.0 found.1) ∙ t.2.root.rows_are in (
        node,
        record {
          opens = record {
            stored = subst (λ (a : List ℕ). IsStored chunks a node) t.2.named found.1;
            leads = record { each = found.2; rise = subst Rise (sym e) tree.are_rows.rise };
          };
          rows_are = e;
        },
      )

pub trees_have_roots : TreesHaveRoots
trees_have_roots address chunks k first rows tree = has_root address chunks k first rows tree

pub trees_lead : TreesLead
trees_lead address chunks k rows tree = leads address chunks k rows tree
