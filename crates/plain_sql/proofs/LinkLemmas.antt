-- Rows whose cell isn't equal to an earlier one are passed over by the test that compares the two.
use Rattle.std.proofs.Common.{◌≡◌, ◌<◌, ◌≤◌, ◌∙◌, ◌⊎◌, inl, inr, sym, ap, refl, subst, ℕ, zero, suc, ◌+◌, ◌*◌, ◌^◌, ℤ, pos, negsuc, neg_ℤ, unsigned_abs, ◌*ℤ◌, Bool, true, false, true≢false, cond, List, [], ◌∷◌, ◌++◌, Ok, Option, None, Some, length, map, drop, get_or, nat_lt, arith}
use Rattle.std.proofs.lemmas.Bool.Decides.{nat_tests}
use Rattle.std.specs.List.{All, Contains}
use Rattle.std.proofs.lemmas.List.{drop_more, length-append}
use Rattle.std.specs.Option.{IfSome, option_map}
use native.Mathlib.Nat.{eq_of_mul-eq-mul_right, mul-pos, one-le-pow}
use Rattle.std.specs.Ordering.{int_cmp, is_eq}
use Rattle.tuple_codec.proofs.Truths.{left_so, two as case_of}
use Rattle.sql_ast.specs.declared.expressions.Comparison.{Comparison}
use Rattle.sql_ast.specs.declared.expressions.Comparison.TheVariants as op
use Rattle.tuple_codec.specs.Rows.{Cells, cell_at, same_value, value_cmp}
use Rattle.tuple_codec.specs.declared.values.Value.{Value}
use Rattle.tuple_codec.specs.declared.values.Value.TheVariants as cell
use Rattle.tuple_codec.proofs.Orders.{value_cmp_total, values_told}
use Rattle.sql_values.specs.Kinds.{is_bool, is_int}
use Rattle.sql_values.specs.declared.kinds.Kind.{Kind}
use Rattle.sql_values.specs.declared.kinds.Kind.TheVariants as kind
use Rattle.sql_values.specs.Worths.{Worth, Unknown, Whole, Truth, Letters, Octets, Scaled, cell_of, of_truth, scale_of, worth_of}
use Rattle.expr_eval.specs.Binding.{and_then}
use Rattle.expr_eval.specs.declared.bound.BoundExpr.{BoundExpr}
use Rattle.expr_eval.specs.declared.bound.BoundNode.{BoundNode}
use Rattle.expr_eval.specs.declared.bound.BoundNode.TheVariants as n
use Rattle.expr_eval.specs.Valuing.{chained, compared, comparison, conjunction, holds, two, worth}
use Rattle.expr_eval.proofs.WorthNodes.{worth_and, worth_column, worth_compare}
use Rattle.plain_sql.specs.Answers.{Meaning, given, is_true, kept_row, passes, row_if}
use Rattle.plain_sql.specs.Links.{AreCalm, AreColumns, AreEnds, Misses, NeedsLink, OneNeedsLink, PassesOver, Skips, is_decimal, meets, suits}
use Rattle.plain_sql.specs.Lists.{or_refuse}
use Rattle.plain_sql.specs.Passing.{IsCalm, IsMissed, IsPassedOver, is_so}
use Rattle.plain_sql.specs.Plans.{meaning}
use Rattle.plain_sql.specs.declared.linking.Link.{Link}
use Rattle.plain_sql.proofs.InsertionLemmas.{clash, either_way, right_so}
use Rattle.plain_sql.proofs.MissedLemmas.{holds_not, missed_at, missed_first, passed_over, times_one}

pub some_weaker : {A : Type 0} (o : Option A) (P Q : A → Type 0) → ((x : A) → P x → Q x) → IfSome o P → IfSome o Q
some_weaker None P Q f h = tt
some_weaker (Some x) P Q f h = f x h

-- ---- two cells of one kind

int_or_bool : (k : Kind) → is_int k ≡ true → is_bool k ≡ true → ⊥
int_or_bool kind.Int p q = absurd (cc)
int_or_bool kind.Bool p q = absurd (cc)
int_or_bool kind.Text p q = absurd (cc)
int_or_bool kind.Bytes p q = absurd (cc)
int_or_bool (kind.Decimal scale) p q = absurd (cc)
int_or_bool kind.Null p q = absurd (cc)

int_or_decimal : (k : Kind) → is_int k ≡ true → is_decimal k ≡ true → ⊥
int_or_decimal kind.Int p q = absurd (cc)
int_or_decimal kind.Bool p q = absurd (cc)
int_or_decimal kind.Text p q = absurd (cc)
int_or_decimal kind.Bytes p q = absurd (cc)
int_or_decimal (kind.Decimal scale) p q = absurd (cc)
int_or_decimal kind.Null p q = absurd (cc)

bool_or_decimal : (k : Kind) → is_bool k ≡ true → is_decimal k ≡ true → ⊥
bool_or_decimal kind.Int p q = absurd (cc)
bool_or_decimal kind.Bool p q = absurd (cc)
bool_or_decimal kind.Text p q = absurd (cc)
bool_or_decimal kind.Bytes p q = absurd (cc)
bool_or_decimal (kind.Decimal scale) p q = absurd (cc)
bool_or_decimal kind.Null p q = absurd (cc)

-- ---- numbers times one that isn't 0

not_below : (m o : ℕ) → 0 < o → pos m ≡ neg_ℤ (pos o) → ⊥
not_below m zero h e = absurd (omega (arith, h))
not_below m (suc o) h e = absurd (cc)

size_is : (m : ℕ) → unsigned_abs (neg_ℤ (pos m)) ≡ m
size_is zero = refl
size_is (suc m) = refl

cancelled : (by : ℕ) (x y : ℤ) → 0 < by → x *ℤ pos by ≡ y *ℤ pos by → x ≡ y
cancelled by (pos a) (pos c) h e = ap (λ (k : ℕ). pos k) (eq_of_mul-eq-mul_right by h a c (ap unsigned_abs e))
cancelled by (pos a) (negsuc c) h e = absurd (not_below (a * by) (suc c * by) (mul-pos {m = suc c} {n = by} (omega arith) h) e)
cancelled by (negsuc a) (pos c) h e = absurd (not_below (c * by) (suc a * by) (mul-pos {m = suc a} {n = by} (omega arith) h) (sym e))
cancelled by (negsuc a) (negsuc c) h e =
    let same : suc a ≡ suc c = eq_of_mul-eq-mul_right by h (suc a) (suc c) (sym (size_is (suc a * by)) ∙ ap unsigned_abs e ∙ size_is (suc c * by)) in
    let one : a ≡ c = omega (arith, same) in
    ap (λ (k : ℕ). negsuc k) one

ten_power : (n : ℕ) → 0 < 10 ^ n
ten_power n = let some : 1 ≤ 10 ^ n = one-le-pow n 10 (omega arith) in omega (arith, some)

one_decimal : (x y : ℤ) → cell.Decimal x ≡ cell.Decimal y → x ≡ y
one_decimal x y e = cc

-- decimals of one scale
scaled : (by : ℕ) (x y : ℤ) → 0 < by → is_eq (int_cmp x y) ≡ false → is_eq (int_cmp (x *ℤ pos by) (y *ℤ pos by)) ≡ false
scaled by x y h apart = case_of (is_eq (int_cmp (x *ℤ pos by) (y *ℤ pos by)))
    (λ e. let one = cancelled by x y h (one_decimal (x *ℤ pos by) (y *ℤ pos by) ((values_told (cell.Decimal (x *ℤ pos by)) (cell.Decimal (y *ℤ pos by))).0 e)) in
    clash ((values_told (cell.Decimal x) (cell.Decimal y)).1 (ap cell.Decimal one)) apart)
    (λ e. e)

-- the comparison isn't true, either way round
abbrev Differs : Worth → Worth → Type 0
Differs a b = is_so (of_truth (compared op.Equal a b)) ≡ false

abbrev Differ : Worth → Worth → Type 0
Differ a b = Differs a b × Differs b a

whole : (m o : ℤ) → holds op.Equal (int_cmp m o) ≡ false → holds op.Equal (int_cmp (m *ℤ pos 1) (o *ℤ pos 1)) ≡ false
whole m o h = ap (λ (x : ℤ). holds op.Equal (int_cmp x (o *ℤ pos 1))) (times_one m) ∙ ap (λ (x : ℤ). holds op.Equal (int_cmp m x)) (times_one o) ∙ h

nothing_right : (w : Worth) → Differs w Unknown
nothing_right Unknown = refl
nothing_right (Whole m) = refl
nothing_right (Truth true) = refl
nothing_right (Truth false) = refl
nothing_right (Letters text) = refl
nothing_right (Octets bytes) = refl
nothing_right (Scaled m scale) = refl

scaled_apart : (l m : Kind) (x y : ℤ) → scale_of l ≡ scale_of m → is_eq (int_cmp x y) ≡ false → Differs (Scaled x (scale_of l)) (Scaled y (scale_of m))
scaled_apart l m x y same apart =
    ap (λ scale. holds op.Equal (int_cmp (x *ℤ pos (10 ^ scale)) (y *ℤ pos (10 ^ scale_of l)))) (sym same) ∙ holds_not _ (scaled (10 ^ scale_of l) x y (ten_power (scale_of l)) apart)

pub turned : (a b : Value) → same_value a b ≡ false → same_value b a ≡ false
turned a b h = either_way value_cmp value_cmp_total b a ∙ h

differ : (k l m : Kind) (a b : Value) → scale_of l ≡ scale_of m → suits k a ≡ true → suits k b ≡ true → meets a b ≡ false → Differ (worth_of l a) (worth_of m b)
differ k l m cell.Null b same p q h = (refl, nothing_right (worth_of m b))
differ k l m (cell.Int x) cell.Null same p q h = (refl, refl)
differ k l m (cell.Int x) (cell.Int y) same p q h = (whole x y (holds_not (int_cmp x y) h), whole y x (holds_not (int_cmp y x) (turned (cell.Int x) (cell.Int y) h)))
differ k l m (cell.Int x) (cell.Bool c) same p q h = absurd (int_or_bool k p q)
differ k l m (cell.Int x) (cell.Text text) same p q h = (refl, refl)
differ k l m (cell.Int x) (cell.Bytes bytes) same p q h = (refl, refl)
differ k l m (cell.Int x) (cell.Decimal y) same p q h = absurd (int_or_decimal k p q)
differ k l m (cell.Bool true) cell.Null same p q h = (refl, refl)
differ k l m (cell.Bool false) cell.Null same p q h = (refl, refl)
differ k l m (cell.Bool c) (cell.Int y) same p q h = absurd (int_or_bool k q p)
differ k l m (cell.Bool true) (cell.Bool true) same p q h = absurd (true≢false h)
differ k l m (cell.Bool true) (cell.Bool false) same p q h = (refl, refl)
differ k l m (cell.Bool false) (cell.Bool true) same p q h = (refl, refl)
differ k l m (cell.Bool false) (cell.Bool false) same p q h = absurd (true≢false h)
differ k l m (cell.Bool true) (cell.Text text) same p q h = (refl, refl)
differ k l m (cell.Bool false) (cell.Text text) same p q h = (refl, refl)
differ k l m (cell.Bool true) (cell.Bytes bytes) same p q h = (refl, refl)
differ k l m (cell.Bool false) (cell.Bytes bytes) same p q h = (refl, refl)
differ k l m (cell.Bool c) (cell.Decimal y) same p q h = absurd (bool_or_decimal k p q)
differ k l m (cell.Text text) cell.Null same p q h = (refl, refl)
differ k l m (cell.Text text) (cell.Int y) same p q h = (refl, refl)
differ k l m (cell.Text text) (cell.Bool true) same p q h = (refl, refl)
differ k l m (cell.Text text) (cell.Bool false) same p q h = (refl, refl)
differ k l m (cell.Text text) (cell.Text other) same p q h = (holds_not _ h, holds_not _ (turned (cell.Text text) (cell.Text other) h))
differ k l m (cell.Text text) (cell.Bytes bytes) same p q h = (refl, refl)
differ k l m (cell.Text text) (cell.Decimal y) same p q h = (refl, refl)
differ k l m (cell.Bytes bytes) cell.Null same p q h = (refl, refl)
differ k l m (cell.Bytes bytes) (cell.Int y) same p q h = (refl, refl)
differ k l m (cell.Bytes bytes) (cell.Bool true) same p q h = (refl, refl)
differ k l m (cell.Bytes bytes) (cell.Bool false) same p q h = (refl, refl)
differ k l m (cell.Bytes bytes) (cell.Text text) same p q h = (refl, refl)
differ k l m (cell.Bytes bytes) (cell.Bytes other) same p q h = (holds_not _ h, holds_not _ (turned (cell.Bytes bytes) (cell.Bytes other) h))
differ k l m (cell.Bytes bytes) (cell.Decimal y) same p q h = (refl, refl)
differ k l m (cell.Decimal x) cell.Null same p q h = (refl, refl)
differ k l m (cell.Decimal x) (cell.Int y) same p q h = absurd (int_or_decimal k q p)
differ k l m (cell.Decimal x) (cell.Bool c) same p q h = absurd (bool_or_decimal k q p)
differ k l m (cell.Decimal x) (cell.Text text) same p q h = (refl, refl)
differ k l m (cell.Decimal x) (cell.Bytes bytes) same p q h = (refl, refl)
differ k l m (cell.Decimal x) (cell.Decimal y) same p q h = (scaled_apart l m x y same h, scaled_apart m l y x (sym same) (turned (cell.Decimal x) (cell.Decimal y) h))

-- ---- a combination's cells

cell_before : (row more : Cells) (place : ℕ) → place < length row → cell_at (row ++ more) place ≡ cell_at row place
cell_before [] more place h = absurd (omega (arith, h))
cell_before (x ∷ row) more zero h = refl
cell_before (x ∷ row) more (suc place) h = cell_before row more place (omega (arith, h))

cell_behind : (row more : Cells) (place : ℕ) → cell_at (row ++ more) (length row + place) ≡ cell_at more place
cell_behind [] more place = let at : zero + place ≡ place = omega arith in ap (cell_at more) at
cell_behind (x ∷ row) more place = let at : suc (length row) + place ≡ suc (length row + place) = omega arith in ap (cell_at (x ∷ (row ++ more))) at ∙ cell_behind row more place

-- ---- the comparison

met_columns : (whole : Cells) (a b : BoundNode) (k l : Kind) (p q : ℕ) (u v : Value) → a ≡ n.Column k p → b ≡ n.Column l q → cell_at whole p ≡ u → cell_at whole q ≡ v
    → Differs (worth_of k u) (worth_of l v) → IsMissed (two (comparison op.Equal) (worth whole a) (worth whole b))
met_columns whole a b k l p q u v is other here there d =
    let left : worth whole a ≡ Some (worth_of k u) = ap (worth whole) is ∙ worth_column whole k p ∙ ap (λ c. Some (worth_of k c)) here in
    let right : worth whole b ≡ Some (worth_of l v) = ap (worth whole) other ∙ worth_column whole l q ∙ ap (λ c. Some (worth_of l c)) there in (
      of_truth (compared op.Equal (worth_of k u) (worth_of l v)),
      ap (λ x. two (comparison op.Equal) x (worth whole b)) left ∙ ap (two (comparison op.Equal) (Some (worth_of k u))) right,
      d,
    )

near_cell : (width : ℕ) (link : Link) (row more behind : Cells) (near : ℕ) → length row ≡ width → near ≡ link.earlier → near < width
    → cell_at (row ++ more ++ behind) near ≡ cell_at row link.earlier
near_cell width link row more behind near wide is h =
    let many = length-append row more in
    cell_before (row ++ more) behind near (omega (arith, many, wide, h)) ∙ cell_before row more near (omega (arith, wide, h)) ∙ ap (cell_at row) is

far_cell : (width : ℕ) (link : Link) (row more behind : Cells) (far : ℕ) → length row ≡ width → link.place < length more → far ≡ width + link.place
    → cell_at (row ++ more ++ behind) far ≡ cell_at more link.place
far_cell width link row more behind far wide within is =
    let many = length-append row more in
    let at : far ≡ length row + link.place = omega (arith, wide, is) in
    cell_before (row ++ more) behind far (omega (arith, many, at, within)) ∙ ap (cell_at (row ++ more)) at ∙ cell_behind row more link.place

within_of : (place : ℕ) (more : Cells) → nat_lt place (length more) ≡ true → place < length more
within_of place more h = grind (arith, nat_tests)

columns_missed : (width : ℕ) (link : Link) (a b : BoundNode) → AreColumns width link a b → (row more behind : Cells) → Misses link width row more
    → IsMissed (two (comparison op.Equal) (worth (row ++ more ++ behind) a) (worth (row ++ more ++ behind) b))
columns_missed width link a b are row more behind miss = by_ends are.7
  where
    u : Value
    u = cell_at row link.earlier

    v : Value
    v = cell_at more link.place

    within : link.place < length more
    within = within_of link.place more (left_so (nat_lt link.place (length more)) (suits link.kind v) miss.later)

    later : suits link.kind v ≡ true
    later = right_so (nat_lt link.place (length more)) (suits link.kind v) miss.later

    by_ends : AreEnds width link are.1 are.3 → IsMissed (two (comparison op.Equal) (worth (row ++ more ++ behind) a) (worth (row ++ more ++ behind) b))
    by_ends (inl apart) =
        met_columns (row ++ more ++ behind) a b are.0 are.2 are.1 are.3 u v are.4 are.5
        (near_cell width link row more behind are.1 miss.wide apart.0 apart.1) (far_cell width link row more behind are.3 miss.wide within apart.2)
        (differ link.kind are.0 are.2 u v are.6 miss.earlier later miss.apart).0
    by_ends (inr apart) =
        met_columns (row ++ more ++ behind) a b are.0 are.2 are.1 are.3 v u are.4 are.5
        (far_cell width link row more behind are.1 miss.wide within apart.2) (near_cell width link row more behind are.3 miss.wide apart.0 apart.1)
        (differ link.kind are.2 are.0 u v (sym are.6) miss.earlier later miss.apart).1

pub part_missed : (width : ℕ) (link : Link) (part a b x y : BoundNode) (operator : Comparison) → part ≡ n.Compare a operator b → operator ≡ op.Equal → x ≡ a → y ≡ b → AreColumns width link x y → NeedsLink width link part
part_missed width link part a b x y operator is equal same other are = λ row more behind miss.
    let missed = columns_missed width link a b (subst (λ z. AreColumns width link a z) other (subst (λ z. AreColumns width link z y) same are)) row more behind miss in
    (missed.0, ap (worth (row ++ more ++ behind)) (is ∙ ap (λ o. n.Compare a o b) equal) ∙ worth_compare (row ++ more ++ behind) a op.Equal b ∙ missed.1, missed.2)

-- ---- the test

all_missed : (width : ℕ) (link : Link) (first : BoundNode) (rest : List BoundNode) → AreCalm first rest → OneNeedsLink width link first rest → (row more behind : Cells) → Misses link width row more
    → IsMissed (chained conjunction (worth (row ++ more ++ behind) first) (map (worth (row ++ more ++ behind)) rest))
all_missed width link first rest calm (inl parts) row more behind miss =
    missed_first (row ++ more ++ behind) (worth (row ++ more ++ behind) first) rest (parts row more behind miss) calm.1
all_missed width link first rest calm (inr there) row more behind miss =
    missed_at (row ++ more ++ behind) (worth (row ++ more ++ behind) first) rest there.0 there.1.0 (calm.0 (row ++ more ++ behind)) calm.1 there.1.1 there.1.2 (there.2 row more behind miss)

pub over_one : (width : ℕ) (link : Link) (test : BoundExpr) → AreCalm test.node [] × OneNeedsLink width link test.node [] → PassesOver width link test
over_one width link test is = λ row more behind miss. passed_over test (row ++ more ++ behind) (all_missed width link test.node [] is.0 is.1 row more behind miss)

pub over_parts : (width : ℕ) (link : Link) (test : BoundExpr) (first : BoundNode) (rest : List BoundNode) → test.node ≡ n.And first rest → AreCalm first rest × OneNeedsLink width link first rest → PassesOver width link test
over_parts width link test first rest e is = λ row more behind miss.
    let missed = all_missed width link first rest is.0 is.1 row more behind miss in
    passed_over test (row ++ more ++ behind) (missed.0, ap (worth (row ++ more ++ behind)) e ∙ worth_and (row ++ more ++ behind) first rest ∙ missed.1, missed.2)

pub over_and : (width : ℕ) (link : Link) (test : BoundExpr) (first a : BoundNode) (rest xs : List BoundNode) → test.node ≡ n.And first rest → a ≡ first → xs ≡ rest
    → AreCalm a xs × OneNeedsLink width link a xs → PassesOver width link test
over_and width link test first a rest xs e same others is =
    over_parts width link test a xs (e ∙ ap (λ x. n.And x rest) (sym same) ∙ ap (λ l. n.And a l) (sym others)) is

row_skipped : (test : BoundExpr) (tests : List Meaning) (row : Cells) → IsPassedOver test row → kept_row (meaning test ∷ tests) row ≡ Ok []
row_skipped test tests row over =
    ap (λ o. and_then (and_then o (λ v. cond (is_true v) (passes tests row) (Ok false))) (λ stays. Ok (row_if row stays))) over.1
    ∙ ap (λ b. and_then {A = Bool} (cond b (passes tests row) (Ok false)) (λ stays. Ok (row_if row stays))) over.2

pub skips_by : (width : ℕ) (link : Link) (test : BoundExpr) (tests : List Meaning) → PassesOver width link test → Skips (meaning test ∷ tests) width link
skips_by width link test tests over = λ row more behind miss. row_skipped test tests (row ++ more ++ behind) (over row more behind miss)

row_known : (test : BoundExpr) (tests : List Meaning) (row : Cells) (w : Worth) → worth row test.node ≡ Some w → kept_row tests row ≡ Ok [] → kept_row (meaning test ∷ tests) row ≡ Ok []
unfolding given meaning
row_known test tests row w known none =
    ap (λ o. and_then (and_then (or_refuse 1264 (option_map cell_of o)) (λ v. cond (is_true v) (passes tests row) (Ok false))) (λ stays. Ok (row_if row stays))) known
    ∙ case_of (is_true (cell_of w))
    (λ e. ap (λ b. and_then {A = Bool} (cond b (passes tests row) (Ok false)) (λ stays. Ok (row_if row stays))) e ∙ none)
    (λ e. ap (λ b. and_then {A = Bool} (cond b (passes tests row) (Ok false)) (λ stays. Ok (row_if row stays))) e)

pub skips_behind : (width : ℕ) (link : Link) (test : BoundExpr) (tests : List Meaning) → IsCalm test.node → Skips tests width link → Skips (meaning test ∷ tests) width link
skips_behind width link test tests calm skips = λ row more behind miss.
    let known = calm (row ++ more ++ behind) in
    row_known test tests (row ++ more ++ behind) known.0 known.1 (skips row more behind miss)

pub skips_from : (width : ℕ) (link : Link) (tests : List BoundExpr) (i : ℕ) (test : BoundExpr) → i < length tests → test ≡ get_or tests i test
    → Skips (meaning test ∷ map meaning (drop (i + 1) tests)) width link → Skips (map meaning (drop i tests)) width link
skips_from width link tests i test below is =
    subst (λ (l : List BoundExpr). Skips (map meaning l) width link) (sym (drop_more tests i test below ∙ ap (λ x. x ∷ drop (i + 1) tests) (sym is)))
