-- What an UPDATE or a DELETE does to a table's rows is what it does to those that its tests don't leave out, among the others.
use Rattle.std.proofs.Common.{◌≡◌, refl, sym, ap, ◌∙◌, subst, ℕ, ◌+◌, Bool, true, false, cond, ◌&&◌, not, ◌==◌, List, [], ◌∷◌, map, filter, set, Ok, Err, arith}
use Rattle.std.specs.Cmp.{IsTotalOrder}
use Rattle.std.specs.List.{AllByRecursion, AllZip, count_by, list_any}
use Rattle.std.specs.Ordering.{is_lt}
use Rattle.std.specs.declared.cmp.Ordering.{Ordering}
use Rattle.std.proofs.lemmas.Bool.{eqb-false}
use Rattle.std.proofs.lemmas.List.{get_or-set_other}
use Rattle.std.proofs.lemmas.List.Sums.{sum_by-cons}
use Rattle.tuple_codec.proofs.Orderings.{less_is}
use Rattle.tuple_codec.specs.Rows.{Cells, key_cmp, key_of, same_cells}
use Rattle.tuple_codec.specs.declared.values.Value.{Value}
use Rattle.tuple_codec.specs.declared.values.Value.TheVariants as cell
use Rattle.schema_model.specs.PlainTables.{primary_key, rises}
use Rattle.schema_model.specs.declared.schemas.Schema.{Schema}
use Rattle.expr_eval.specs.Binding.{Outcome, and_then}
use Rattle.plain_sql.specs.Answers.{Meaning, given, passes}
use Rattle.plain_sql.specs.Lists.{each, unless}
use Rattle.plain_writes.specs.Writes.{Assign, assigned, assigns, if_changed, if_small_turned, is_large, keeps_null, keyed_cmp, rest_of, row_after, stays, turned, turned_if, turned_small, untouched}
use Rattle.plain_writes.specs.declared.updating.Later.{Later}
use Rattle.plain_writes.proofs.SortLemmas.{risen_rows}
use Rattle.plain_writes.proofs.DatabaseLemmas.{keyed_total}
use Rattle.plain_writes.proofs.RowOrderLemmas.{both_so, left_not, left_so, neither_so, right_not, right_so, two}
use Rattle.plain_writes.proofs.OutcomeLemmas.{ok_same, then_so, unless_so}
use Rattle.sql_write.specs.Passing.{ArePassed, AreRead, sets_key}
use Rattle.sql_write.specs.Turning.{rows_deleted_by, rows_turned_by, turned_rows}
use Rattle.sql_write.specs.declared.turning.Turned.{Turned}
use Rattle.sql_write.specs.Weaving.{Fate, Stays, Leaves, Comes, IsWoven, after, before, come, gone}
use Rattle.sql_write.proofs.PlaceLemmas.{then_assoc}
use Rattle.sql_write.proofs.WeavingLemmas.{all_woven, none_woven, one_comes, one_leaves, one_stays}

-- ---- each row of a list, of which some are left as they are

-- of each row that isn't kept nothing comes but the row itself
abbrev AreLeft : (Cells → Outcome Later) → (Cells → Bool) → List Cells → Type 0
AreLeft f keep rows = AllByRecursion (λ row. keep row ≡ false → f row ≡ Ok (untouched row)) rows

abbrev spread_first : List Later → (List Later → List Later) → List Later
spread_first [] rest = []
spread_first (one ∷ more) rest = one ∷ rest more

-- what comes of all rows, by what comes of those that are kept
abbrev spread : (Cells → Bool) → List Cells → List Later → List Later
spread keep [] later = []
spread keep (row ∷ rows) later = cond (keep row) (spread_first later (spread keep rows)) (untouched row ∷ spread keep rows later)

kept_step : (f : Cells → Outcome Later) (keep : Cells → Bool) (row : Cells) (rows : List Cells) (o : Outcome Later) → each f rows ≡ and_then (each f (filter keep rows)) (λ later. Ok (spread keep rows later))
    → and_then o (λ one. and_then (each f rows) (λ more. Ok (one ∷ more)))
    ≡ and_then (and_then o (λ one. and_then (each f (filter keep rows)) (λ more. Ok (one ∷ more)))) (λ later. Ok (spread_first later (spread keep rows)))
kept_step f keep row rows (Err number) rest = refl
kept_step f keep row rows (Ok one) rest =
    ap (λ (o : Outcome (List Later)). and_then o (λ more. Ok (one ∷ more))) rest
    ∙ then_assoc (each f (filter keep rows)) (λ later. Ok (spread keep rows later)) (λ more. Ok (one ∷ more))
    ∙ sym (then_assoc (each f (filter keep rows)) (λ more. Ok (one ∷ more)) (λ later. Ok (spread_first later (spread keep rows))))

spread_step : (f : Cells → Outcome Later) (keep : Cells → Bool) (row : Cells) (rows : List Cells) → each f rows ≡ and_then (each f (filter keep rows)) (λ later. Ok (spread keep rows later)) → (b : Bool)
    → (b ≡ false → f row ≡ Ok (untouched row))
    → each f (row ∷ rows) ≡ and_then (each f (cond b (row ∷ filter keep rows) (filter keep rows))) (λ later. Ok (cond b (spread_first later (spread keep rows)) (untouched row ∷ spread keep rows later)))
spread_step f keep row rows rest true left = kept_step f keep row rows (f row) rest
spread_step f keep row rows rest false left =
    ap (λ (o : Outcome Later). and_then o (λ one. and_then (each f rows) (λ more. Ok (one ∷ more)))) (left refl)
    ∙ ap (λ (o : Outcome (List Later)). and_then o (λ more. Ok (untouched row ∷ more))) rest
    ∙ then_assoc (each f (filter keep rows)) (λ later. Ok (spread keep rows later)) (λ more. Ok (untouched row ∷ more))

each_spread : (f : Cells → Outcome Later) (keep : Cells → Bool) (rows : List Cells) → AreLeft f keep rows → each f rows ≡ and_then (each f (filter keep rows)) (λ later. Ok (spread keep rows later))
each_spread f keep [] left = refl
each_spread f keep (row ∷ rows) left = spread_step f keep row rows (each_spread f keep rows left.1) (keep row) left.0

all_left : (f : Cells → Outcome Later) (tests : List Meaning) (keep : Cells → Bool) → ((row : Cells) → passes tests row ≡ Ok false → f row ≡ Ok (untouched row)) → (rows : List Cells)
    → ArePassed tests keep rows → AreLeft f keep rows
all_left f tests keep one [] passed = tt
all_left f tests keep one (row ∷ rows) passed = (λ out. one row (passed.0 out), all_left f tests keep one rows passed.1)

-- ---- what is seen of such a list

rest_step : (one : Later) (later : List Later) → rest_of (one ∷ later) ≡ cond (not one.is_new) (one.row ∷ rest_of later) (rest_of later)
rest_step one later = by (not one.is_new) where
  by : (b : Bool) → map (λ (o : Later). o.row) (cond b (one ∷ filter (λ (o : Later). not o.is_new) later) (filter (λ (o : Later). not o.is_new) later)) ≡ cond b (one.row ∷ rest_of later) (rest_of later)
  by true = refl
  by false = refl

abbrev news : List Later → ℕ
news later = count_by (λ (one : Later). one.is_new) later

none_more : (n : ℕ) → 0 + n ≡ n
none_more n = omega arith

news_step : (one : Later) (later : List Later) → news (one ∷ later) ≡ cond one.is_new 1 0 + news later
news_step one later = sum_by-cons (λ (one : Later). cond one.is_new 1 0) one later

abbrev rows_of : List Later → List Cells
rows_of later = map (λ (one : Later). one.row) later

abbrev OneEach : List Cells → List Later → Type 0
OneEach rows later = AllZip (λ (row : Cells) (one : Later). Unit {0}) rows later

-- one for each row that is kept
abbrev AreOf : (Cells → Bool) → List Cells → List Later → Type 0
AreOf keep rows later = OneEach (filter keep rows) later

each_of : (f : Cells → Outcome Later) (rows : List Cells) (later : List Later) → each f rows ≡ Ok later → OneEach rows later
each_of f [] later e = subst (OneEach []) (ok_same (each f []) [] later refl e) tt
each_of f (row ∷ rows) later e =
    let first = then_so (f row) (λ one. and_then (each f rows) (λ more. Ok (one ∷ more))) later e in
    let rest = then_so (each f rows) (λ more. Ok (first.0 ∷ more)) later first.2 in
    subst (OneEach (row ∷ rows)) (ok_same (Ok (first.0 ∷ rest.0)) (first.0 ∷ rest.0) later refl rest.2) (tt, each_of f rows rest.0 rest.1)

news_spread : (keep : Cells → Bool) (rows : List Cells) (later : List Later) → AreOf keep rows later → news (spread keep rows later) ≡ news later
news_spread keep [] [] of = refl
news_spread keep [] (one ∷ later) of = absurd (of)
news_spread keep (row ∷ rows) later of = by (keep row) later of (news_spread keep rows) where
  by : (b : Bool) (later : List Later) → OneEach (cond b (row ∷ filter keep rows) (filter keep rows)) later
      → ((later : List Later) → AreOf keep rows later → news (spread keep rows later) ≡ news later)
      → news (cond b (spread_first later (spread keep rows)) (untouched row ∷ spread keep rows later)) ≡ news later
  by true [] of more = absurd (of)
  by true (one ∷ later) of more = news_step one (spread keep rows later) ∙ ap (λ n. cond one.is_new 1 0 + n) (more later of.1) ∙ sym (news_step one later)
  by false later of more =
      let step : news (untouched row ∷ spread keep rows later) ≡ 0 + news (spread keep rows later) = news_step (untouched row) (spread keep rows later) in
      step ∙ none_more (news (spread keep rows later)) ∙ more later of

-- all rows of an UPDATE
rows_woven : (keep : Cells → Bool) (rows : List Cells) (later : List Later) → AreOf keep rows later → IsWoven rows (rows_of (spread keep rows later)) (filter keep rows) (rows_of later)
rows_woven keep [] [] of = none_woven
rows_woven keep [] (one ∷ later) of = absurd (of)
rows_woven keep (row ∷ rows) later of = by (keep row) later of (rows_woven keep rows) where
  by : (b : Bool) (later : List Later) → OneEach (cond b (row ∷ filter keep rows) (filter keep rows)) later
      → ((later : List Later) → AreOf keep rows later → IsWoven rows (rows_of (spread keep rows later)) (filter keep rows) (rows_of later))
      → IsWoven (row ∷ rows) (rows_of (cond b (spread_first later (spread keep rows)) (untouched row ∷ spread keep rows later))) (cond b (row ∷ filter keep rows) (filter keep rows)) (rows_of later)
  by true [] of more = absurd (of)
  by true (one ∷ later) of more = one_leaves row (one_comes one.row (more later of.1))
  by false later of more = one_stays row (more later of)

-- all rows of a DELETE
rest_woven : (keep : Cells → Bool) (rows : List Cells) (later : List Later) → AreOf keep rows later → IsWoven rows (rest_of (spread keep rows later)) (filter keep rows) (rest_of later)
rest_woven keep [] [] of = none_woven
rest_woven keep [] (one ∷ later) of = absurd (of)
rest_woven keep (row ∷ rows) later of = by (keep row) later of (rest_woven keep rows) where
  chosen : (one : Later) (later rest : List Later) (b : Bool) → IsWoven rows (rest_of rest) (filter keep rows) (rest_of later)
      → IsWoven (row ∷ rows) (cond b (one.row ∷ rest_of rest) (rest_of rest)) (row ∷ filter keep rows) (cond b (one.row ∷ rest_of later) (rest_of later))
  chosen one later rest true woven = one_leaves row (one_comes one.row woven)
  chosen one later rest false woven = one_leaves row woven

  by : (b : Bool) (later : List Later) → OneEach (cond b (row ∷ filter keep rows) (filter keep rows)) later
      → ((later : List Later) → AreOf keep rows later → IsWoven rows (rest_of (spread keep rows later)) (filter keep rows) (rest_of later))
      → IsWoven (row ∷ rows) (rest_of (cond b (spread_first later (spread keep rows)) (untouched row ∷ spread keep rows later))) (cond b (row ∷ filter keep rows) (filter keep rows)) (rest_of later)
  by true [] of more = absurd (of)
  by true (one ∷ later) of more =
      subst (λ (l : List Cells). IsWoven (row ∷ rows) l (row ∷ filter keep rows) (rest_of (one ∷ later))) (sym (rest_step one (spread keep rows later)))
      (subst (λ (l : List Cells). IsWoven (row ∷ rows) (cond (not one.is_new) (one.row ∷ rest_of (spread keep rows later)) (rest_of (spread keep rows later))) (row ∷ filter keep rows) l)
      (sym (rest_step one later)) (chosen one later (spread keep rows later) (not one.is_new) (more later of.1)))
  by false later of more = one_stays row (more later of)

-- ---- lists that rise

module _ {A : Type 0} (compare : A → A → Ordering) (total : IsTotalOrder compare) where
  abbrev precedes : A → A → Bool
  precedes x y = is_lt (compare x y)

  abbrev Below : A → List A → Type 0
  Below x ys = AllByRecursion (λ y. precedes x y ≡ true) ys

  before_again : (x y z : A) → precedes x y ≡ true → precedes y z ≡ true → precedes x z ≡ true
  before_again x y z first second = ap is_lt (total.trans x y z (less_is (compare x y) first) (less_is (compare y z) second))

  below_by : (x y : A) (ys : List A) → precedes x y ≡ true → Below y ys → Below x ys
  below_by x y [] less below = tt
  below_by x y (z ∷ ys) less below = (before_again x y z less below.0, below_by x y ys less below.1)

  below_all : (x : A) (ys : List A) → rises compare (x ∷ ys) ≡ true → Below x ys
  below_all x [] rise = tt
  below_all x (y ∷ ys) rise =
      let less = left_so (precedes x y) (rises compare (y ∷ ys)) rise in
      (less, below_by x y ys less (below_all y ys (right_so (precedes x y) (rises compare (y ∷ ys)) rise)))

  rest_rises : (x : A) (ys : List A) → rises compare (x ∷ ys) ≡ true → rises compare ys ≡ true
  rest_rises x [] rise = refl
  rest_rises x (y ∷ ys) rise = right_so (precedes x y) (rises compare (y ∷ ys)) rise

  rises_on : (x : A) (ys : List A) → Below x ys → rises compare ys ≡ true → rises compare (x ∷ ys) ≡ true
  rises_on x [] below rise = refl
  rises_on x (y ∷ ys) below rise = both_so below.0 rise

-- rows of a list that rises rise
module _ (compare : Cells → Cells → Ordering) (total : IsTotalOrder compare) where
  below_gone : (row : Cells) (fates : List Fate) → Below compare total row (before fates) → Below compare total row (gone fates)
  below_gone row [] below = tt
  below_gone row (Stays one ∷ fates) below = below_gone row fates below.1
  below_gone row (Leaves one ∷ fates) below = (below.0, below_gone row fates below.1)
  below_gone row (Comes one ∷ fates) below = below_gone row fates below

  below_come : (row : Cells) (fates : List Fate) → Below compare total row (after fates) → Below compare total row (come fates)
  below_come row [] below = tt
  below_come row (Stays one ∷ fates) below = below_come row fates below.1
  below_come row (Leaves one ∷ fates) below = below_come row fates below
  below_come row (Comes one ∷ fates) below = (below.0, below_come row fates below.1)

  pub gone_rises : (fates : List Fate) → rises compare (before fates) ≡ true → rises compare (gone fates) ≡ true
  gone_rises [] rise = refl
  gone_rises (Stays row ∷ fates) rise = gone_rises fates (rest_rises compare total row (before fates) rise)
  gone_rises (Leaves row ∷ fates) rise =
      rises_on compare total row (gone fates) (below_gone row fates (below_all compare total row (before fates) rise)) (gone_rises fates (rest_rises compare total row (before fates) rise))
  gone_rises (Comes row ∷ fates) rise = gone_rises fates rise

  pub come_rises : (fates : List Fate) → rises compare (after fates) ≡ true → rises compare (come fates) ≡ true
  come_rises [] rise = refl
  come_rises (Stays row ∷ fates) rise = come_rises fates (rest_rises compare total row (after fates) rise)
  come_rises (Leaves row ∷ fates) rise = come_rises fates rise
  come_rises (Comes row ∷ fates) rise =
      rises_on compare total row (come fates) (below_come row fates (below_all compare total row (after fates) rise)) (come_rises fates (rest_rises compare total row (after fates) rise))

-- ---- what was read, among what wasn't

abbrev pub turned_of : ℕ → List Cells → Outcome Turned
turned_of count rows = Ok (record { rows = rows; count = count })

-- what a statement does to all rows is what it does to those that were read, among the others
pub record Splits (all read : List Cells) (whole part : Outcome Turned) : Type 0 where
  pub rows : List Cells
  pub same : whole ≡ and_then part (λ turned. turned_of turned.count rows)
  pub woven : (turned : Turned) → part ≡ Ok turned → IsWoven all rows read turned.rows

refused_splits : (all read : List Cells) (number : ℕ) → Splits all read (Err number) (Err number)
refused_splits all read number = record { rows = []; same = refl; woven = λ turned e. absurd (cc) }

-- where all were read
pub whole_splits : (all : List Cells) (o : Outcome Turned) → Splits all all o o
whole_splits all (Ok turned) = record { rows = turned.rows; same = refl; woven = λ other e. subst (λ (t : Turned). IsWoven all turned.rows all t.rows) (ok_same (Ok turned) turned other refl e) (all_woven all turned.rows) }
whole_splits all (Err number) = refused_splits all all number

-- ---- DELETE

abbrev chosen_row : Cells → Bool → Outcome Later
chosen_row row chosen = Ok (record { row = row; is_new = chosen })

-- what a statement does to rows, by what is seen of what came of them
abbrev turned_by : Schema → (List Later → List Cells) → List Later → Outcome Turned
turned_by schema see later = turned_rows schema (see later) (news later)

module _ (schema : Schema) where
  abbrev cmp : Cells → Cells → Ordering
  cmp = keyed_cmp schema

  abbrev total : IsTotalOrder cmp
  total = keyed_total schema

  below_rest : (x : Cells) (later : List Later) → Below cmp total x (rows_of later) → Below cmp total x (rest_of later)
  below_rest x [] below = tt
  below_rest x (one ∷ later) below = subst (Below cmp total x) (sym (rest_step one later)) (by (not one.is_new) (below_rest x later below.1)) where
    by : (b : Bool) → Below cmp total x (rest_of later) → Below cmp total x (cond b (one.row ∷ rest_of later) (rest_of later))
    by true rest = (below.0, rest)
    by false rest = rest

  rest_rise : (later : List Later) → rises cmp (rows_of later) ≡ true → rises cmp (rest_of later) ≡ true
  rest_rise [] rise = refl
  rest_rise (one ∷ later) rise =
      ap (rises cmp) (rest_step one later)
      ∙ by (not one.is_new) (below_rest one.row later (below_all cmp total one.row (rows_of later) rise)) (rest_rise later (rest_rises cmp total one.row (rows_of later) rise))
    where
      by : (b : Bool) → Below cmp total one.row (rest_of later) → rises cmp (rest_of later) ≡ true → rises cmp (cond b (one.row ∷ rest_of later) (rest_of later)) ≡ true
      by true below rest = rises_on cmp total one.row (rest_of later) below rest
      by false below rest = rest

  risen_turned : (rows : List Cells) (count : ℕ) → rises cmp rows ≡ true → turned_rows schema rows count ≡ turned_of count rows
  risen_turned rows count rise = ap (λ (o : Outcome (List Cells)). and_then o (turned_of count)) (risen_rows schema rows rise)

  -- what a statement that sees rows that rise does to all rows is what it does to those that were read, among the others
  splits_at : (see : List Later → List Cells) (all read : List Cells) (more later : List Later) → news more ≡ news later → rises cmp (see more) ≡ true → IsWoven all (see more) read (see later)
      → Splits all read (turned_by schema see more) (turned_by schema see later)
  splits_at see all read more later same rise woven =
      let part : turned_by schema see later ≡ turned_of (news later) (see later) = risen_turned (see later) (news later)
      (subst (λ (l : List Cells). rises cmp l ≡ true) (sym woven.new_are) (come_rises cmp total woven.fates (subst (λ (l : List Cells). rises cmp l ≡ true) woven.rows_are rise))) in
      let whole : turned_by schema see more ≡ turned_of (news later) (see more) = risen_turned (see more) (news more) rise ∙ ap (λ n. turned_of n (see more)) same in record {
        rows = see more;
        same = whole ∙ ap (λ (o : Outcome Turned). and_then o (λ turned. turned_of turned.count (see more))) (sym part);
        woven = λ turned e. subst (λ (t : Turned). IsWoven all (see more) read t.rows) (ok_same (turned_by schema see later) (record { rows = see later; count = news later }) turned part e) woven;
      }

  splits_by : (f : Cells → Outcome Later) (see : List Later → List Cells) (keep : Cells → Bool) (all : List Cells) (o : Outcome (List Later))
      → each f all ≡ and_then o (λ later. Ok (spread keep all later)) → ((later : List Later) → o ≡ Ok later → news (spread keep all later) ≡ news later)
      → ((later : List Later) → o ≡ Ok later → rises cmp (see (spread keep all later)) ≡ true)
      → ((later : List Later) → o ≡ Ok later → IsWoven all (see (spread keep all later)) (filter keep all) (see later))
      → Splits all (filter keep all) (and_then (each f all) (turned_by schema see)) (and_then o (turned_by schema see))
  splits_by f see keep all (Ok later) whole same rise woven =
      subst (λ (o : Outcome (List Later)). Splits all (filter keep all) (and_then o (turned_by schema see)) (turned_by schema see later)) (sym whole)
      (splits_at see all (filter keep all) (spread keep all later) later (same later refl) (rise later refl) (woven later refl))
  splits_by f see keep all (Err number) whole same rise woven =
      subst (λ (o : Outcome (List Later)). Splits all (filter keep all) (and_then o (turned_by schema see)) (Err number)) (sym whole) (refused_splits all (filter keep all) number)

  stays_rows : (tests : List Meaning) (rows : List Cells) (later : List Later) → each (stays tests) rows ≡ Ok later → rows_of later ≡ rows
  stays_rows tests [] later e = ap (λ (l : List Later). rows_of l) (sym (ok_same (each (stays tests) []) [] later refl e))
  stays_rows tests (row ∷ rows) later e =
      let first = then_so (stays tests row) (λ one. and_then (each (stays tests) rows) (λ more. Ok (one ∷ more))) later e in
      let rest = then_so (each (stays tests) rows) (λ more. Ok (first.0 ∷ more)) later first.2 in
      let chosen = then_so (passes tests row) (chosen_row row) first.0 first.1 in
      let same = ok_same (chosen_row row chosen.0) (record { row = row; is_new = chosen.0 }) first.0 refl chosen.2 in
      ap (λ (l : List Later). rows_of l) (sym (ok_same (Ok (first.0 ∷ rest.0)) (first.0 ∷ rest.0) later refl rest.2))
      ∙ (λ i. ap (λ (o : Later). o.row) (sym same) i ∷ stays_rows tests rows rest.0 rest.1 i)

  pub deleted_among : (tests : List Meaning) (all read : List Cells) → AreRead tests all read → rises cmp all ≡ true → Splits all read (rows_deleted_by schema all tests) (rows_deleted_by schema read tests)
  deleted_among tests all read are rise =
      subst (λ (l : List Cells). Splits all l (rows_deleted_by schema all tests) (rows_deleted_by schema l tests)) (sym are.kept)
      (splits_by (stays tests) rest_of are.keep all (each (stays tests) (filter are.keep all)) whole
      (λ later e. news_spread are.keep all later (each_of (stays tests) (filter are.keep all) later e))
      (λ later e. rest_rise (spread are.keep all later) (ap (λ (l : List Cells). rises cmp l) (stays_rows tests all (spread are.keep all later) (all_come later e)) ∙ rise))
      (λ later e. rest_woven are.keep all later (each_of (stays tests) (filter are.keep all) later e)))
    where
      left : (row : Cells) → passes tests row ≡ Ok false → stays tests row ≡ Ok (untouched row)
      left row e = ap (λ (o : Outcome Bool). and_then o (chosen_row row)) e

      whole : each (stays tests) all ≡ and_then (each (stays tests) (filter are.keep all)) (λ later. Ok (spread are.keep all later))
      whole = each_spread (stays tests) are.keep all (all_left (stays tests) tests are.keep left all are.passed)

      all_come : (later : List Later) → each (stays tests) (filter are.keep all) ≡ Ok later → each (stays tests) all ≡ Ok (spread are.keep all later)
      all_come later e = whole ∙ ap (λ (o : Outcome (List Later)). and_then o (λ later. Ok (spread are.keep all later))) e

  -- ---- UPDATE

  key_kept : (keys : List ℕ) (row : Cells) (place : ℕ) (value : Value) → list_any (λ at. place == at) keys ≡ false → key_of keys (set row place value) ≡ key_of keys row
  key_kept [] row place value free = refl
  key_kept (at ∷ keys) row place value free =
      let apart = left_not (place == at) (list_any (λ at. place == at) keys) free in
      λ i. get_or-set_other row place at value cell.Null (λ same. eqb-false place at apart (sym same)) i ∷ key_kept keys row place value (right_not (place == at) (list_any (λ at. place == at) keys) free) i

  first_apart : (one : Assign) (more : List Assign) (keys : List ℕ) → list_any (assigns (one ∷ more)) keys ≡ false → list_any (λ at. one.place == at) keys ≡ false
  first_apart one more [] free = refl
  first_apart one more (at ∷ keys) free =
      neither_so (left_not (one.place == at) (assigns more at) (left_not (assigns (one ∷ more) at) (list_any (assigns (one ∷ more)) keys) free))
      (first_apart one more keys (right_not (assigns (one ∷ more) at) (list_any (assigns (one ∷ more)) keys) free))

  more_apart : (one : Assign) (more : List Assign) (keys : List ℕ) → list_any (assigns (one ∷ more)) keys ≡ false → list_any (assigns more) keys ≡ false
  more_apart one more [] free = refl
  more_apart one more (at ∷ keys) free =
      neither_so (right_not (one.place == at) (assigns more at) (left_not (assigns (one ∷ more) at) (list_any (assigns (one ∷ more)) keys) free))
      (more_apart one more keys (right_not (assigns (one ∷ more) at) (list_any (assigns (one ∷ more)) keys) free))

  after_key : (sets : List Assign) (row after : Cells) → sets_key schema sets ≡ false → row_after sets row ≡ Ok after → primary_key schema after ≡ primary_key schema row
  after_key [] row after free e = ap (primary_key schema) (sym (ok_same (Ok row) row after refl e))
  after_key (one ∷ more) row after free e =
      let value = then_so (given one.meaning row) (λ value. and_then (assigned one.kind one.column value) (λ kept. row_after more (set row one.place kept))) after e in
      let kept = then_so (assigned one.kind one.column value.0) (λ kept. row_after more (set row one.place kept)) after value.2 in
      after_key more (set row one.place kept.0) after (more_apart one more schema.key free) kept.2 ∙ key_kept schema.key row one.place kept.0 (first_apart one more schema.key free)

  changed_key : (sets : List Assign) (old new : Cells) (one : Later) → if_changed schema sets old new ≡ Ok one → primary_key schema new ≡ primary_key schema old → primary_key schema one.row ≡ primary_key schema old
  changed_key sets old new one e kept = two (same_cells old new)
      (λ t. ap (λ (o : Later). primary_key schema o.row)
      (sym (ok_same (if_changed schema sets old new) (untouched old) one (ap (λ b. cond b (Ok (untouched old)) (unless (keeps_null schema sets new) 1048 (Ok (record { row = new; is_new = true })))) t) e)))
      (λ t. let parts = unless_so (keeps_null schema sets new) 1048 (Ok (record { row = new; is_new = true })) one
      (sym (ap (λ b. cond b (Ok (untouched old)) (unless (keeps_null schema sets new) 1048 (Ok (record { row = new; is_new = true })))) t) ∙ e) in
      ap (λ (o : Later). primary_key schema o.row) (sym (ok_same (Ok (record { row = new; is_new = true })) (record { row = new; is_new = true }) one refl parts.1)) ∙ kept)

  chosen_key : (sets : List Assign) (row : Cells) (chosen : Bool) (one : Later) → sets_key schema sets ≡ false → turned_if schema sets row chosen ≡ Ok one → primary_key schema one.row ≡ primary_key schema row
  chosen_key sets row false one free e = ap (λ (o : Later). primary_key schema o.row) (sym (ok_same (Ok (untouched row)) (untouched row) one refl e))
  chosen_key sets row true one free e =
      let after = then_so (row_after sets row) (if_changed schema sets row) one e in
      changed_key sets row after.0 one after.2 (after_key sets row after.0 free after.1)

  turned_key : (tests : List Meaning) (sets : List Assign) (row : Cells) (one : Later) → sets_key schema sets ≡ false → turned_small schema tests sets row ≡ Ok one → primary_key schema one.row ≡ primary_key schema row
  turned_key tests sets row one free e =
      let made = then_so (turned schema tests sets row) (if_small_turned schema) one e in
      let tested = then_so (passes tests row) (turned_if schema sets row) made.0 made.1 in
      let small = unless_so (made.0.is_new && is_large schema made.0.row) 9010 (Ok made.0) one made.2 in
      ap (λ (o : Later). primary_key schema o.row) (sym (ok_same (Ok made.0) made.0 one refl small.1)) ∙ chosen_key sets row tested.0 made.0 free tested.2

  turned_keys : (tests : List Meaning) (sets : List Assign) (rows : List Cells) (later : List Later) → sets_key schema sets ≡ false → each (turned_small schema tests sets) rows ≡ Ok later
      → map (primary_key schema) (rows_of later) ≡ map (primary_key schema) rows
  turned_keys tests sets [] later free e = ap (λ (l : List Later). map (primary_key schema) (rows_of l)) (sym (ok_same (each (turned_small schema tests sets) []) [] later refl e))
  turned_keys tests sets (row ∷ rows) later free e =
      let first = then_so (turned_small schema tests sets row) (λ one. and_then (each (turned_small schema tests sets) rows) (λ more. Ok (one ∷ more))) later e in
      let rest = then_so (each (turned_small schema tests sets) rows) (λ more. Ok (first.0 ∷ more)) later first.2 in
      ap (λ (l : List Later). map (primary_key schema) (rows_of l)) (sym (ok_same (Ok (first.0 ∷ rest.0)) (first.0 ∷ rest.0) later refl rest.2))
      ∙ (λ i. turned_key tests sets row first.0 free first.1 i ∷ turned_keys tests sets rows rest.0 free rest.1 i)

  rises_by_keys : (rows : List Cells) → rises cmp rows ≡ rises key_cmp (map (primary_key schema) rows)
  rises_by_keys [] = refl
  rises_by_keys (row ∷ []) = refl
  rises_by_keys (row ∷ next ∷ rows) = ap (λ b. is_lt (cmp row next) && b) (rises_by_keys (next ∷ rows))

  pub updated_among : (sets : List Assign) (tests : List Meaning) (all read : List Cells) → AreRead tests all read → rises cmp all ≡ true → sets_key schema sets ≡ false
      → Splits all read (rows_turned_by schema all sets tests) (rows_turned_by schema read sets tests)
  updated_among sets tests all read are rise free =
      subst (λ (l : List Cells). Splits all l (rows_turned_by schema all sets tests) (rows_turned_by schema l sets tests)) (sym are.kept)
      (splits_by (turned_small schema tests sets) rows_of are.keep all (each (turned_small schema tests sets) (filter are.keep all)) whole
      (λ later e. news_spread are.keep all later (each_of (turned_small schema tests sets) (filter are.keep all) later e))
      (λ later e. rises_by_keys (rows_of (spread are.keep all later))
      ∙ ap (λ (l : List Cells). rises key_cmp l) (turned_keys tests sets all (spread are.keep all later) free (all_come later e)) ∙ sym (rises_by_keys all) ∙ rise)
      (λ later e. rows_woven are.keep all later (each_of (turned_small schema tests sets) (filter are.keep all) later e)))
    where
      left : (row : Cells) → passes tests row ≡ Ok false → turned_small schema tests sets row ≡ Ok (untouched row)
      left row e = ap (λ (o : Outcome Bool). and_then (and_then o (turned_if schema sets row)) (if_small_turned schema)) e

      whole : each (turned_small schema tests sets) all ≡ and_then (each (turned_small schema tests sets) (filter are.keep all)) (λ later. Ok (spread are.keep all later))
      whole = each_spread (turned_small schema tests sets) are.keep all (all_left (turned_small schema tests sets) tests are.keep left all are.passed)

      all_come : (later : List Later) → each (turned_small schema tests sets) (filter are.keep all) ≡ Ok later → each (turned_small schema tests sets) all ≡ Ok (spread are.keep all later)
      all_come later e = whole ∙ ap (λ (o : Outcome (List Later)). and_then o (λ later. Ok (spread are.keep all later))) e
