-- Laws of the changes between two lists.
use Rattle.std.proofs.Common.{◌≡◌, true, false, List, [], ◌∷◌, ◌++◌, refl, ◌∙◌}
use Rattle.std.specs.Str.{bytes_eq}
use Rattle.std.specs.declared.cmp.Ordering.TheVariants.{Less, Equal, Greater}
use Rattle.std.proofs.lemmas.Cmp.{nat_list_cmp_total, tied_itself}
use Rattle.std.proofs.lemmas.Slice.Eq.{bytes_eq-Decides}
use Rattle.tuple_codec.specs.Nodes.{Item}
use Rattle.tuple_codec.specs.Edits.{added, changed, order, removed, replaced}

-- a row that both lists have first adds nothing
pub changed_same : (row : Item) (rows others : List Item) → changed (row ∷ rows) (row ∷ others) ≡ changed rows others
changed_same row rows others =
    let o : order row.key row.key ≡ Equal = tied_itself nat_list_cmp_total row.key in
    let b : bytes_eq row.body row.body ≡ true = (bytes_eq-Decides row.body row.body).1 refl in
    rw o (rw b refl)

-- nor does a list of them
pub common_prefix : (prefix rows others : List Item) → changed (prefix ++ rows) (prefix ++ others) ≡ changed rows others
common_prefix [] rows others = refl
common_prefix (row ∷ prefix) rows others = changed_same row (prefix ++ rows) (prefix ++ others) ∙ common_prefix prefix rows others

pub changed_itself : (rows : List Item) → changed rows rows ≡ []
changed_itself [] = refl
changed_itself (row ∷ rows) = changed_same row rows rows ∙ changed_itself rows

pub changed_added : (row other : Item) (rows others : List Item) → order other.key row.key ≡ Less
    → changed (row ∷ rows) (other ∷ others) ≡ added other ∷ changed (row ∷ rows) others
changed_added row other rows others o = rw o refl

pub changed_removed : (row other : Item) (rows others : List Item) → order other.key row.key ≡ Greater
    → changed (row ∷ rows) (other ∷ others) ≡ removed row ∷ changed rows (other ∷ others)
changed_removed row other rows others o = rw o refl

pub changed_kept : (row other : Item) (rows others : List Item) → order other.key row.key ≡ Equal → bytes_eq other.body row.body ≡ true
    → changed (row ∷ rows) (other ∷ others) ≡ changed rows others
changed_kept row other rows others o b = rw o (rw b refl)

pub changed_replaced : (row other : Item) (rows others : List Item) → order other.key row.key ≡ Equal → bytes_eq other.body row.body ≡ false
    → changed (row ∷ rows) (other ∷ others) ≡ replaced row other ∷ changed rows others
changed_replaced row other rows others o b = rw o (rw b refl)
