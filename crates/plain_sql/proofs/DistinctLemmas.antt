-- The set of lines tells which rows were kept.
use Rattle.std.proofs.Common.{◌≡◌, refl, sym, ap, ◌∙◌, Bool, true, false, cond, ◌||◌, List, [], ◌∷◌, ◌++◌}
use Rattle.std.specs.List.{list_any}
use Rattle.std.specs.Ordering.{is_eq}
use Rattle.std.specs.Prelude.{if◌then◌else◌}
use Rattle.std.proofs.lemmas.List.Folds.{list_any-append}
use Rattle.tuple_codec.specs.Rows.{Cells, key_cmp}
use Rattle.tuple_codec.proofs.Orders.{key_cmp_total}
use Rattle.plain_sql.specs.Answers.{cells_cmp}
use Rattle.plain_sql.specs.Distinct.{AreSeen}
use Rattle.plain_sql.specs.Lists.{has}
use Rattle.plain_sql.specs.declared.distinct.DistinctRow.{DistinctRow}
use Rattle.plain_sql.specs.declared.ranking.RankedRow.{RankedRow}
use Rattle.plain_sql.proofs.InsertionLemmas.{either_way}

pub was_kept : (lines : List DistinctRow) (ranks : List RankedRow) (cells : Cells) (rank : RankedRow) (test : Bool) → AreSeen lines ranks → cells ≡ rank.cells
    → list_any (λ line. is_eq (key_cmp cells line.cells)) lines ≡ test → has cells_cmp ranks rank ≡ test
was_kept lines ranks cells rank test are same is =
    sym (are rank.cells) ∙ ap (λ k. list_any (λ line. is_eq (key_cmp k line.cells)) lines) (sym same) ∙ is

either : (a b : Bool) → cond a true b ≡ (b || (a || false))
either true true = refl
either true false = refl
either false true = refl
either false false = refl

-- with one line and one row more
pub more_seen : (lines more : List DistinctRow) (ranks : List RankedRow) (line : DistinctRow) (rank : RankedRow) → AreSeen lines ranks → line.cells ≡ rank.cells
    → ((q : DistinctRow) → list_any (λ other. is_eq (key_cmp q.cells other.cells)) more
    ≡ cond (is_eq (key_cmp line.cells q.cells)) true (list_any (λ other. is_eq (key_cmp q.cells other.cells)) lines))
    → AreSeen more (ranks ++ rank ∷ [])
more_seen lines more ranks line rank are same updates cells =
    let test = λ (other : RankedRow). is_eq (key_cmp cells other.cells) in
    updates (record { cells = cells })
    ∙ either (is_eq (key_cmp line.cells cells)) (list_any (λ (other : DistinctRow). is_eq (key_cmp cells other.cells)) lines)
    ∙ ap (λ b. b || (is_eq (key_cmp line.cells cells) || false)) (are cells)
    ∙ ap (λ b. list_any test ranks || (b || false)) (either_way key_cmp key_cmp_total line.cells cells ∙ ap (λ k. is_eq (key_cmp cells k)) same)
    ∙ sym (list_any-append test ranks (rank ∷ []))

pub kept_if : (test : Bool) (ranks : List RankedRow) (rank : RankedRow) → has cells_cmp ranks rank ≡ test
    → (if has cells_cmp ranks rank then ranks else ranks ++ rank ∷ []) ≡ (if test then ranks else ranks ++ rank ∷ [])
kept_if test ranks rank e = ap (λ b. if b then ranks else ranks ++ rank ∷ []) e
