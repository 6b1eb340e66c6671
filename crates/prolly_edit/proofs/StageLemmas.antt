-- A tower on its way to a whole list.
use Rattle.std.proofs.Common.{◌≡◌, ◌+◌, ℕ, suc, drop, Some, List, [], ◌∷◌, ◌++◌, None, refl, sym, ap, ◌∙◌, subst, append_assoc, append-nil, arith}
use Rattle.std.specs.List.{AllByRecursion}
use Rattle.std.specs.Prelude.{slice_get}
use Rattle.std.proofs.lemmas.List.{length-append}
use Rattle.tuple_codec.specs.Nodes.{Item}
use Rattle.tuple_codec.specs.Trees.{AreRows, IsRow}
use Rattle.chunk_store.specs.Chunks.{Chunks}
use Rattle.node_chunker.specs.Growth.{IsTower}
use Rattle.prolly_tree.proofs.StandingOrder.{rise_left}
use Rattle.prolly_tree.proofs.Descents.{drop_get}
use Rattle.prolly_edit.specs.Stages.{Awaits}

each_left : (rows more : List Item) → AllByRecursion IsRow (rows ++ more) → AllByRecursion IsRow rows
each_left [] more each = tt
each_left (row ∷ rows) more each = (each.0, each_left rows more each.1)

-- the first rows of a list of rows
pub rows_left : (rows more : List Item) → AreRows (rows ++ more) → AreRows rows
rows_left rows more are =
    let few = are.few in
    record { each = each_left rows more are.each; rise = rise_left None rows more are.rise; few = omega (arith, few, length-append rows more) }

-- what was pushed and what comes next are rows
pub next_rows : (a : List ℕ → List ℕ) (chunks : Chunks) (nodes : List (List Item)) (next later whole : List Item) → (awaits : Awaits a chunks nodes (next ++ later) whole)
    → AreRows (awaits.pushed ++ next)
next_rows a chunks nodes next later whole awaits =
    rows_left (awaits.pushed ++ next) later (subst AreRows (sym (append_assoc awaits.pushed next later ∙ awaits.comes)) awaits.are_rows)

-- what comes next was pushed
pub awaits_next : (a : List ℕ → List ℕ) (chunks new : Chunks) (nodes now : List (List Item)) (next later whole : List Item) → (awaits : Awaits a chunks nodes (next ++ later) whole)
    → IsTower a new now (awaits.pushed ++ next) → Awaits a new now later whole
awaits_next a chunks new nodes now next later whole awaits tower = record {
  pushed = awaits.pushed ++ next;
  tower = tower;
  comes = append_assoc awaits.pushed next later ∙ awaits.comes;
  are_rows = awaits.are_rows;
}

-- at the end all was pushed
pub awaits_none : (a : List ℕ → List ℕ) (chunks : Chunks) (nodes : List (List Item)) (whole : List Item) → Awaits a chunks nodes [] whole → IsTower a chunks nodes whole
awaits_none a chunks nodes whole awaits = subst (λ l. IsTower a chunks nodes l) (sym (append-nil awaits.pushed) ∙ awaits.comes) awaits.tower

-- at the beginning nothing was
pub awaits_all : (a : List ℕ → List ℕ) (chunks : Chunks) (nodes : List (List Item)) (whole : List Item) → IsTower a chunks nodes [] → AreRows whole → Awaits a chunks nodes whole whole
awaits_all a chunks nodes whole tower are = record { pushed = []; tower = tower; comes = refl; are_rows = are }

pub awaits_same : (a : List ℕ → List ℕ) (chunks : Chunks) (nodes : List (List Item)) (later other whole : List Item) → later ≡ other → Awaits a chunks nodes later whole
    → Awaits a chunks nodes other whole
awaits_same a chunks nodes later other whole same awaits = subst (λ l. Awaits a chunks nodes l whole) same awaits

-- the items from this one on
pub drop_some : (items : List Item) (at : ℕ) (item : Item) → slice_get items at ≡ Some item → drop at items ≡ item ∷ drop (at + 1) items
drop_some items at item is = let e : suc at ≡ at + 1 = omega arith in drop_get items at item is ∙ ap (λ n. item ∷ drop n items) e
