-- A comparison from its beginning to its end.
use Rattle.std.proofs.Common.{◌≡◌, ◌≤◌, ◌*◌, ◌+◌, ℕ, suc, List, [], ◌∷◌, ◌++◌, refl, sym, ap, ◌∙◌, subst, append-nil, arith}
use Rattle.tuple_codec.specs.Nodes.{Item, Node}
use Rattle.tuple_codec.specs.Edits.{changed}
use Rattle.tuple_codec.specs.declared.edits.ItemChange.{ItemChange}
use Rattle.chunk_store.specs.Chunks.{Chunks}
use Rattle.chunk_store.specs.Drafts.{DraftParts, chunks_of}
use Rattle.chunk_store.specs.Standing.{IsTree}
use Rattle.prolly_tree.specs.Found.{Nodes}
use Rattle.prolly_tree.specs.Standing.{IsStored, rows_below}
use Rattle.prolly_tree.proofs.Standing.{trees_lead}
use Rattle.prolly_tree.proofs.One.{one_node}
use Rattle.prolly_tree.specs.Fronts.{Front, nodes_of, on_level, rows_ahead, rows_of}
use Rattle.pair_walk.specs.Counts.{IsCount, counted}
use Rattle.pair_walk.specs.Heads.{BeginsComparing}
use Rattle.pair_walk.specs.Pairs.{AllPairs, AreAlike, AreAligned, HaveSameKeys, differing, differing_ahead, differing_from, pair_sum}
use Rattle.pair_walk.specs.Turns.{AreAlikeAhead, Compared, IsTurn, all_changes, all_reads}
use Rattle.pair_walk.proofs.ChangeLaws.{changed_itself}

-- what a comparison comes to, whatever turns it took
pub record IsGoing (address : List ℕ → List ℕ) (parts : DraftParts) (old new : List ℕ) (reads : ℕ) (c : Compared) : Type 0 where
  pub old_parts : c.old_walk.parts ≡ parts
  pub new_parts : c.new_walk.parts ≡ parts
  pub changes : (rows others : List Item) → IsTree address (chunks_of parts) old rows → IsTree address (chunks_of parts) new others → all_changes c ≡ changed rows others
  pub alike : (node other : Node) → IsStored (chunks_of parts) old node → IsStored (chunks_of parts) new other → AreAlike (nodes_of parts) node other
      → AreAlikeAhead c × (all_reads c ≡ counted reads (2 * differing_from (nodes_of parts) node other))
  pub rises : counted reads 2 ≤ c.reads
  pub count : IsCount c.reads

aligned_from : (nodes : Nodes) (level : ℕ) (items others : List Item) → AllPairs (HaveSameKeys nodes level) items others → AreAligned nodes (on_level level items) (on_level level others)
aligned_from nodes level [] [] pairs = tt
aligned_from nodes level [] (other ∷ others) pairs = absurd pairs
aligned_from nodes level (item ∷ items) [] pairs = absurd pairs
aligned_from nodes level (item ∷ items) (other ∷ others) pairs = (refl, pairs.0, aligned_from nodes level items others pairs.1)

differing_sum : (nodes : Nodes) (level : ℕ) (items others : List Item) → differing_ahead nodes (on_level level items) (on_level level others) ≡ pair_sum (differing nodes level) items others
differing_sum nodes level [] others = refl
differing_sum nodes level (item ∷ items) [] = refl
differing_sum nodes level (item ∷ items) (other ∷ others) = ap (λ (n : ℕ). differing nodes level item other + n) (differing_sum nodes level items others)

both_roots : (reads pairs : ℕ) → counted (counted reads 2) (2 * pairs) ≡ counted reads (2 * suc pairs)
both_roots reads pairs = omega arith

-- fronts that are the items of two nodes which are alike
begin_alike : (nodes : Nodes) (reads : ℕ) (front others : Front) (node other : Node) → front ≡ on_level node.level node.items → others ≡ on_level other.level other.items → AreAlike nodes node other
    → AreAligned nodes front others × (counted (counted reads 2) (2 * differing_ahead nodes front others) ≡ counted reads (2 * differing_from nodes node other))
begin_alike nodes reads front others node other first second alike =
    let at : others ≡ on_level node.level other.items = second ∙ ap (λ (n : ℕ). on_level n other.items) (sym alike.level) in
    let ahead : differing_ahead nodes front others ≡ pair_sum (differing nodes node.level) node.items other.items =
    ap (λ (f : Front). differing_ahead nodes f others) first ∙ ap (differing_ahead nodes (on_level node.level node.items)) at ∙ differing_sum nodes node.level node.items other.items in (
      subst (λ (f : Front). AreAligned nodes f others) (sym first) (subst (AreAligned nodes (on_level node.level node.items)) (sym at) (aligned_from nodes node.level node.items other.items alike.items)),
      ap (λ (n : ℕ). counted (counted reads 2) (2 * n)) ahead ∙ both_roots reads (pair_sum (differing nodes node.level) node.items other.items),
    )

pub begin_goes : (address : List ℕ → List ℕ) (parts : DraftParts) (old new : List ℕ) (reads : ℕ) (c : Compared) → BeginsComparing address parts old new reads c → IsGoing address parts old new reads c
begin_goes address parts old new reads c b = record {
  old_parts = b.old_parts;
  new_parts = b.new_parts;
  changes = λ rows others is_old is_new.
      ap (λ (l : List ItemChange). l ++ changed (rows_of c.old_walk) (rows_of c.new_walk)) b.found
      ∙ ap (λ (l : List Item). changed l (rows_of c.new_walk)) (b.old_rows rows is_old)
      ∙ ap (changed rows) (b.new_rows others is_new);
  alike = λ node other is_old is_new alike.
      let a = begin_alike (nodes_of parts) reads c.old_walk.front c.new_walk.front node other (b.old_items node is_old) (b.new_items other is_new) alike in (
        subst (λ (p : DraftParts). AreAligned (nodes_of p) c.old_walk.front c.new_walk.front) (sym b.old_parts) a.0,
        ap (λ (p : DraftParts). counted c.reads (2 * differing_ahead (nodes_of p) c.old_walk.front c.new_walk.front)) b.old_parts
            ∙ ap (λ (n : ℕ). counted n (2 * differing_ahead (nodes_of parts) c.old_walk.front c.new_walk.front)) b.reads_are
            ∙ a.1,
      );
  rises = let two = b.reads_are in omega (arith, two);
  count = let two = b.reads_are in omega (arith, two);
}

pub turn_goes : (address : List ℕ → List ℕ) (parts : DraftParts) (old new : List ℕ) (reads : ℕ) (c d : Compared) → IsTurn c d
    → IsGoing address parts old new reads c → IsGoing address parts old new reads d
turn_goes address parts old new reads c d turn goes = record {
  old_parts = turn.old_parts ∙ goes.old_parts;
  new_parts = turn.new_parts ∙ goes.new_parts;
  changes = λ rows others is_old is_new. turn.changes ∙ goes.changes rows others is_old is_new;
  alike = λ node other is_old is_new alike. let a = goes.alike node other is_old is_new alike in (turn.alike a.0, turn.reads a.0 ∙ a.1);
  rises = let more = (turn.rises goes.count).0 in let before = goes.rises in omega (arith, before, more);
  count = (turn.rises goes.count).1;
}

pub end_changes : (c : Compared) → c.old_walk.front ≡ [] → c.new_walk.front ≡ [] → all_changes c ≡ c.found
end_changes c old new =
    ap (λ (f : Front). c.found ++ changed (rows_ahead (nodes_of c.old_walk.parts) f) (rows_of c.new_walk)) old
    ∙ ap (λ (f : Front). c.found ++ changed [] (rows_ahead (nodes_of c.new_walk.parts) f)) new
    ∙ append-nil c.found

pub end_reads : (c : Compared) → c.old_walk.front ≡ [] → IsCount c.reads → all_reads c ≡ c.reads
end_reads c old few =
    let over : all_reads c ≡ counted c.reads (2 * 0) = ap (λ (f : Front). counted c.reads (2 * differing_ahead (nodes_of c.old_walk.parts) f c.new_walk.front)) old in
    let stays : counted c.reads (2 * 0) ≡ c.reads = omega (arith, few) in
    over ∙ stays

-- trees of one address have no changes
pub same_tree : (address : List ℕ → List ℕ) (chunks : Chunks) (old new : List ℕ) (rows others : List Item) → old ≡ new
    → IsTree address chunks old rows → IsTree address chunks new others → [] ≡ changed rows others
same_tree address chunks old new rows others same is_old is_new =
    let a = trees_lead address chunks old rows is_old in
    let b = trees_lead address chunks old others (subst (λ (k : List ℕ). IsTree address chunks k others) (sym same) is_new) in
    let one = one_node chunks old a.0 b.0 a.1.opens.stored b.1.opens.stored in
    let e : rows ≡ others = sym a.1.rows_are ∙ ap (rows_below chunks) one ∙ b.1.rows_are in
    sym (changed_itself rows) ∙ ap (changed rows) e
