-- Parts that tell a span pass over every row whose key lies outside, and its cells fit the columns of the key.
use Rattle.std.proofs.Common.{◌≡◌, ◌∙◌, ◌⊎◌, ◌+◌, ◌<◌, ◌≤◌, inl, inr, sym, ap, refl, subst, ℕ, zero, suc, Bool, true, false, cond, not, List, [], ◌∷◌, ◌++◌, Option, None, Some, length, map, slice_get, take, drop, get_or, ltb, drop-cons, append_assoc, append-nil, arith}
use Rattle.std.specs.List.{All, AllZip, Contains, flat_map, list_all}
use Rattle.std.specs.Option.{option_to_list}
use Rattle.std.specs.Ordering.{is_eq, is_lt, ordering_reverse, ordering_then}
use Rattle.std.specs.declared.cmp.Ordering.{Ordering}
use Rattle.std.specs.declared.cmp.Ordering.TheVariants.{Less, Equal, Greater}
use Rattle.std.proofs.lemmas.Bool.{and_from, and_parts}
use Rattle.std.proofs.lemmas.List.{drop_all}
use Rattle.sql_ast.specs.declared.expressions.Comparison.{Comparison}
use Rattle.sql_ast.specs.declared.expressions.Comparison.TheVariants as op
use Rattle.tuple_codec.specs.Rows.{Cells, cell_at, fits, fits_all, key_of, same_cells, value_cmp}
use Rattle.tuple_codec.specs.declared.values.SqlType.{SqlType}
use Rattle.tuple_codec.specs.declared.values.Value.{Value}
use Rattle.tuple_codec.proofs.Orders.{cells_told, value_cmp_total}
use Rattle.schema_model.specs.PlainTables.{is_row, kinds}
use Rattle.schema_model.specs.declared.schemas.Column.{Column}
use Rattle.schema_model.specs.declared.schemas.Schema.{Schema}
use Rattle.expr_eval.specs.declared.bound.BoundExpr.{BoundExpr}
use Rattle.expr_eval.specs.declared.bound.BoundNode.{BoundNode}
use Rattle.expr_eval.specs.declared.bound.BoundNode.TheVariants as n
use Rattle.expr_eval.specs.Valuing.{chained, conjunction, holds, worth}
use Rattle.expr_eval.proofs.WorthNodes.{worth_and}
use Rattle.plain_sql.specs.Passing.{IsCalm, IsMissed, IsPassedOver}
use Rattle.plain_sql.proofs.MissedLemmas.{holds_not, missed_at, missed_first, passed_over}
use Rattle.plain_writes.specs.Violations.{types_at}
use Rattle.sql_select.specs.Entries.{AreEntriesOf, has_cells_in, is_entered}
use Rattle.sql_select.specs.Parts.{AreEntriesIn, AreTold, IsFixed, IsHigh, IsLow, IsSaid, IsSpanIn, Tells}
use Rattle.sql_select.specs.Seeking.{IsSpanOf, Seeks, is_sought}
use Rattle.sql_select.specs.Spans.{is_before, is_beyond, place_of, side_of, value_at}
use Rattle.sql_select.specs.declared.choosing.Seek.{Seek}
use Rattle.sql_select.specs.declared.entries.Entries.{Entries}
use Rattle.sql_select.specs.declared.spans.End.{End}
use Rattle.sql_select.specs.declared.spans.End.TheVariants as end
use Rattle.sql_select.specs.declared.spans.KeySpan.{KeySpan}

-- ---- a row's cell

cell_fits : (columns : List Column) (row : Cells) (place : ℕ) (column : Column) → fits_all (map (λ column. column.kind) columns) row ≡ true → slice_get columns place ≡ Some column
    → fits column.kind (cell_at row place) ≡ true
cell_fits [] row place column fit there = absurd (cc)
cell_fits (first ∷ columns) [] place column fit there = absurd (cc)
cell_fits (first ∷ columns) (value ∷ row) zero column fit there =
    subst (λ (c : Column). fits c.kind value ≡ true) (some_is first column there) (and_parts (fits first.kind value) (fits_all (map (λ column. column.kind) columns) row) fit).0
  where
    some_is : (a b : Column) → Some a ≡ Some b → a ≡ b
    some_is a b e = cc
cell_fits (first ∷ columns) (value ∷ row) (suc place) column fit there =
    cell_fits columns row place column (and_parts (fits first.kind value) (fits_all (map (λ column. column.kind) columns) row) fit).1 there

-- ---- a row outside

abbrev Said : Cells → BoundNode → List BoundNode → Type 0
Said row first rest = IsMissed (worth row first) ⊎ ((part : BoundNode) × Contains rest part × IsMissed (worth row part))

told_missed : (row : Cells) (t : SqlType) (place : ℕ) (comparison : Comparison) (v : Value) (part : BoundNode) → IsCalm part → fits t (cell_at row place) ≡ true
    → holds comparison (value_cmp (cell_at row place) v) ≡ false → Tells t place comparison v part → IsMissed (worth row part)
told_missed row t place comparison v part calm fit h tells = let known = calm row in (known.0, known.1, tells.1 row known.0 fit h known.1)

module _ (schema : Schema) (row : Cells) (first : BoundNode) (rest : List BoundNode) (first_calm : IsCalm first) (rest_calm : All IsCalm rest) (fit : is_row schema row ≡ true) where
  said_missed : (t : SqlType) (place : ℕ) (comparison : Comparison) (v : Value) → fits t (cell_at row place) ≡ true → holds comparison (value_cmp (cell_at row place) v) ≡ false
      → IsSaid t place comparison v first rest → Said row first rest
  said_missed t place comparison v fits h (inl is) = inl (told_missed row t place comparison v first first_calm fits h is)
  said_missed t place comparison v fits h (inr is) =
      inr (is.0, is.1, told_missed row t place comparison v is.0 (subst IsCalm is.1.2 (rest_calm is.1.0 is.0 is.1.1)) fits h is.2)

  fixed_missed : (place : ℕ) (comparison : Comparison) (v : Value) → holds comparison (value_cmp (cell_at row place) v) ≡ false → IsFixed schema first rest comparison place v → Said row first rest
  fixed_missed place comparison v h is = said_missed is.0.kind place comparison v (cell_fits schema.columns row place is.0 fit is.1) h is.2

  less_is : (o : Ordering) → is_lt o ≡ true → o ≡ Less
  less_is Less e = refl
  less_is Equal e = absurd (cc)
  less_is Greater e = absurd (cc)

  not_above : (o : Ordering) → not (is_lt o) ≡ true → holds op.Greater (ordering_reverse o) ≡ false
  not_above Less e = absurd (cc)
  not_above Equal e = refl
  not_above Greater e = refl

  not_below : (o : Ordering) → not (is_lt o) ≡ true → holds op.Less o ≡ false
  not_below Less e = absurd (cc)
  not_below Equal e = refl
  not_below Greater e = refl

  low_missed : (place : ℕ) (low : End) → is_before low (cell_at row place) ≡ true → IsLow schema first rest place low → Said row first rest
  low_missed place end.Open e is = absurd (cc)
  low_missed place (end.With v) e is = fixed_missed place op.AtLeast v (ap (holds op.AtLeast) (less_is (value_cmp (cell_at row place) v) e)) is
  low_missed place (end.Without v) e is =
      fixed_missed place op.Greater v (ap (holds op.Greater) (value_cmp_total.antisymm (cell_at row place) v) ∙ not_above (value_cmp v (cell_at row place)) e) is

  high_missed : (place : ℕ) (high : End) → is_beyond high (cell_at row place) ≡ true → IsHigh schema first rest place high → Said row first rest
  high_missed place end.Open e is = absurd (cc)
  high_missed place (end.With v) e is =
      fixed_missed place op.AtMost v
      (ap (holds op.AtMost) (value_cmp_total.antisymm (cell_at row place) v ∙ ap ordering_reverse (less_is (value_cmp v (cell_at row place)) e))) is
  high_missed place (end.Without v) e is = fixed_missed place op.Less v (not_below (value_cmp (cell_at row place) v) e) is

  side_missed : (place : ℕ) (low high : End) → is_eq (side_of low high (cell_at row place)) ≡ false → IsLow schema first rest place low → IsHigh schema first rest place high → Said row first rest
  side_missed place low high h is_low is_high = by (is_before low (cell_at row place)) refl (is_beyond high (cell_at row place)) refl h where
    by : (b : Bool) → is_before low (cell_at row place) ≡ b → (c : Bool) → is_beyond high (cell_at row place) ≡ c → is_eq (cond b Less (cond c Greater Equal)) ≡ false → Said row first rest
    by true e c f h = low_missed place low e is_low
    by false e true f h = high_missed place high f is_high
    by false e false f h = absurd (cc)

  cmp_then : (o p : Ordering) → is_eq o ≡ true → is_eq (ordering_then o p) ≡ is_eq p
  cmp_then Less p h = absurd (cc)
  cmp_then Equal p h = refl
  cmp_then Greater p h = absurd (cc)

  span_missed : (places : List ℕ) (fixed : Cells) (low high : End) → AreTold schema first rest places fixed low high → is_eq (place_of fixed low high (key_of places row)) ≡ false → Said row first rest
  span_missed [] [] low high told h = absurd (cc)
  span_missed [] (v ∷ fixed) low high told h = absurd (told)
  span_missed (place ∷ places) [] low high told h = side_missed place low high h told.0 told.1
  span_missed (place ∷ places) (v ∷ fixed) low high told h =
      elim (is_eq (value_cmp (cell_at row place) v)) as (λ b. is_eq (value_cmp (cell_at row place) v) ≡ b → Said row first rest) [
        | true ↦ λ e. span_missed places fixed low high told.1 (sym (cmp_then (value_cmp (cell_at row place) v) _ e) ∙ h)
        | false ↦ λ e. fixed_missed place op.Equal v (holds_not (value_cmp (cell_at row place) v) e) told.0
      ] refl

  cells_missed : (places : List ℕ) (cells : Cells) → AllZip (IsFixed schema first rest op.Equal) places cells → same_cells (key_of places row) cells ≡ false → Said row first rest
  cells_missed [] [] fixed h = absurd (cc)
  cells_missed [] (v ∷ cells) fixed h = absurd (fixed)
  cells_missed (place ∷ places) [] fixed h = absurd (fixed)
  cells_missed (place ∷ places) (v ∷ cells) fixed h =
      elim (is_eq (value_cmp (cell_at row place) v)) as (λ b. is_eq (value_cmp (cell_at row place) v) ≡ b → Said row first rest) [
        | true ↦ λ e. cells_missed places cells fixed.1 (sym (cmp_then (value_cmp (cell_at row place) v) _ e) ∙ h)
        | false ↦ λ e. fixed_missed place op.Equal v (holds_not (value_cmp (cell_at row place) v) e) fixed.0
      ] refl

parts_missed : (row : Cells) (first : BoundNode) (rest : List BoundNode) → IsCalm first → All IsCalm rest → Said row first rest → IsMissed (chained conjunction (worth row first) (map (worth row) rest))
parts_missed row first rest first_calm rest_calm (inl missed) = missed_first row (worth row first) rest missed rest_calm
parts_missed row first rest first_calm rest_calm (inr there) =
    let at = there.1 in missed_at row (worth row first) rest there.0 at.0 (first_calm row) rest_calm at.1 at.2 there.2

-- ---- the test

over_one : (test : BoundExpr) (row : Cells) → IsCalm test.node → All IsCalm [] → Said row test.node [] → IsPassedOver test row
over_one test row calm none said = passed_over test row (parts_missed row test.node [] calm none said)

over_parts : (test : BoundExpr) (row : Cells) (first : BoundNode) (rest : List BoundNode) → test.node ≡ n.And first rest → IsCalm first → All IsCalm rest → Said row first rest → IsPassedOver test row
over_parts test row first rest e first_calm rest_calm said =
    let missed = parts_missed row first rest first_calm rest_calm said in
    passed_over test row (missed.0, ap (worth row) e ∙ worth_and row first rest ∙ missed.1, missed.2)

-- the parts of an AND as they were read
read_and : (test : BoundExpr) (first a : BoundNode) (rest xs : List BoundNode) → test.node ≡ n.And first rest → a ≡ first → xs ≡ rest → test.node ≡ n.And a xs
read_and test first a rest xs e same others = e ∙ ap (λ x. n.And x rest) (sym same) ∙ ap (λ l. n.And a l) (sym others)

pub seeks_one : (schema : Schema) (test : BoundExpr) (span : KeySpan) → IsSpanIn schema test.node [] span → Seeks schema test (is_sought schema span)
seeks_one schema test span is = λ row fit h.
    over_one test row is.first_calm is.rest_calm (span_missed schema row test.node [] is.first_calm is.rest_calm fit schema.key span.fixed span.low span.high is.told h)

pub seeks_and : (schema : Schema) (test : BoundExpr) (first a : BoundNode) (rest xs : List BoundNode) (span : KeySpan) → test.node ≡ n.And first rest → a ≡ first → xs ≡ rest → IsSpanIn schema a xs span → Seeks schema test (is_sought schema span)
seeks_and schema test first a rest xs span e same others is = λ row fit h.
    over_parts test row a xs (read_and test first a rest xs e same others) is.first_calm is.rest_calm
    (span_missed schema row a xs is.first_calm is.rest_calm fit schema.key span.fixed span.low span.high is.told h)

-- ---- rows with other cells in an index's columns

same_false : (a b : Cells) → same_cells a b ≡ false → same_cells b a ≡ false
same_false a b h = by (same_cells b a) refl where
  by : (c : Bool) → same_cells b a ≡ c → c ≡ false
  by true e = absurd (cc (sym h ∙ (cells_told a b).1 (sym ((cells_told b a).0 e))))
  by false e = refl

others_missed : (schema : Schema) (row : Cells) (first : BoundNode) (rest : List BoundNode) (entries : Entries) → AreEntriesIn schema first rest entries → is_row schema row ≡ true → is_entered schema entries row ≡ false → Said row first rest
others_missed schema row first rest entries is fit h =
    cells_missed schema row first rest is.first_calm is.rest_calm fit is.index.columns entries.cells is.fixed
    (same_false entries.cells (key_of is.index.columns row) (ap (λ o. has_cells_in o entries.cells row) (sym is.there) ∙ h))

pub entries_one : (schema : Schema) (test : BoundExpr) (entries : Entries) → AreEntriesIn schema test.node [] entries → Seeks schema test (is_entered schema entries)
entries_one schema test entries is = λ row fit h. over_one test row is.first_calm is.rest_calm (others_missed schema row test.node [] entries is fit h)

pub entries_and : (schema : Schema) (test : BoundExpr) (first a : BoundNode) (rest xs : List BoundNode) (entries : Entries) → test.node ≡ n.And first rest → a ≡ first → xs ≡ rest → AreEntriesIn schema a xs entries → Seeks schema test (is_entered schema entries)
entries_and schema test first a rest xs entries e same others is = λ row fit h.
    over_parts test row a xs (read_and test first a rest xs e same others) is.first_calm is.rest_calm (others_missed schema row a xs entries is fit h)

-- ---- it fits

said_fits : (t : SqlType) (place : ℕ) (comparison : Comparison) (v : Value) (first : BoundNode) (rest : List BoundNode) → IsSaid t place comparison v first rest → fits t v ≡ true
said_fits t place comparison v first rest (inl is) = is.0
said_fits t place comparison v first rest (inr is) = is.2.0

module _ (schema : Schema) (first : BoundNode) (rest : List BoundNode) where
  key_types_at : List ℕ → List SqlType
  key_types_at places = flat_map (λ place. kinds (slice_get schema.columns place)) places

  -- of one more column
  one_more : (place : ℕ) (places : List ℕ) (comparison : Comparison) (v : Value) (cells : Cells) → IsFixed schema first rest comparison place v → fits_all (take (length cells) (key_types_at places)) cells ≡ true
      → fits_all (take (suc (length cells)) (key_types_at (place ∷ places))) (v ∷ cells) ≡ true
  unfolding key_types_at
  one_more place places comparison v cells is more =
      subst (λ (o : Option Column). fits_all (take (suc (length cells)) (kinds o ++ key_types_at places)) (v ∷ cells) ≡ true) (sym is.1)
      (and_from (fits is.0.kind v) (fits_all (take (length cells) (key_types_at places)) cells) (said_fits is.0.kind place comparison v first rest is.2) more)

  all_fit : (places : List ℕ) (fixed : Cells) (low high : End) → AreTold schema first rest places fixed low high
      → fits_all (take (length (fixed ++ value_at low)) (key_types_at places)) (fixed ++ value_at low) ≡ true
  unfolding key_types_at
  all_fit [] [] low high told = subst (λ l. fits_all (take (length (value_at l)) []) (value_at l) ≡ true) (sym told.0) refl
  all_fit [] (v ∷ fixed) low high told = absurd (told)
  all_fit (place ∷ places) [] end.Open high told = refl
  all_fit (place ∷ places) [] (end.With v) high told = one_more place places op.AtLeast v [] told.0 refl
  all_fit (place ∷ places) [] (end.Without v) high told = one_more place places op.Greater v [] told.0 refl
  all_fit (place ∷ places) (v ∷ fixed) low high told = one_more place places op.Equal v (fixed ++ value_at low) told.0 (all_fit places fixed low high told.1)

pub span_fits : (schema : Schema) (first : BoundNode) (rest : List BoundNode) (span : KeySpan) → IsSpanIn schema first rest span → IsSpanOf schema span
unfolding key_types_at
span_fits schema first rest span is = all_fit schema first rest schema.key span.fixed span.low span.high is.told

-- ---- cells of an index

types_alike_at : (o : Option Column) → map (λ (column : Column). column.kind) (option_to_list o) ≡ kinds o
types_alike_at None = refl
types_alike_at (Some column) = refl

types_alike : (schema : Schema) (places : List ℕ) → types_at schema places ≡ flat_map (λ place. kinds (slice_get schema.columns place)) places
types_alike schema [] = refl
types_alike schema (place ∷ places) = (λ i. types_alike_at (slice_get schema.columns place) i ++ types_alike schema places i)

-- of places as they were read
pub types_of : (schema : Schema) (places read : List ℕ) → read ≡ places → types_at schema places ≡ flat_map (λ place. kinds (slice_get schema.columns place)) read
types_of schema places read is = types_alike schema places ∙ ap (flat_map (λ place. kinds (slice_get schema.columns place))) (sym is)

pub places_of : (schema : Schema) (places read : List ℕ) → read ≡ places → list_all (λ place. ltb place (length schema.columns)) places ≡ true → list_all (λ place. ltb place (length schema.columns)) read ≡ true
places_of schema places read is h = subst (λ l. list_all (λ place. ltb place (length schema.columns)) l ≡ true) (sym is) h

cells_told_fit : (schema : Schema) (first : BoundNode) (rest : List BoundNode) (places : List ℕ) (cells : Cells) → AllZip (IsFixed schema first rest op.Equal) places cells → fits_all (types_at schema places) cells ≡ true
cells_told_fit schema first rest [] [] fixed = refl
cells_told_fit schema first rest [] (v ∷ cells) fixed = absurd (fixed)
cells_told_fit schema first rest (place ∷ places) [] fixed = absurd (fixed)
cells_told_fit schema first rest (place ∷ places) (v ∷ cells) fixed =
    let is = fixed.0 in
    subst (λ (o : Option Column). fits_all (map (λ (column : Column). column.kind) (option_to_list o) ++ types_at schema places) (v ∷ cells) ≡ true) (sym is.1)
    (and_from (fits is.0.kind v) (fits_all (types_at schema places) cells) (said_fits is.0.kind place op.Equal v first rest is.2) (cells_told_fit schema first rest places cells fixed.1))

pub entries_fit : (schema : Schema) (first : BoundNode) (rest : List BoundNode) (entries : Entries) → AreEntriesIn schema first rest entries → AreEntriesOf schema entries
entries_fit schema first rest entries is = (is.index, is.there, cells_told_fit schema first rest is.index.columns entries.cells is.fixed)

-- one more column
pub zip_more : {A B : Type 0} (R : A → B → Type 0) (xs : List A) (ys : List B) (x : A) (y : B) → AllZip R xs ys → R x y → AllZip R (xs ++ x ∷ []) (ys ++ y ∷ [])
zip_more R [] [] x y all one = (one, tt)
zip_more R [] (z ∷ ys) x y all one = absurd (all)
zip_more R (z ∷ xs) [] x y all one = absurd (all)
zip_more R (w ∷ xs) (z ∷ ys) x y all one = (all.0, zip_more R xs ys x y all.1 one)

pub same_cells_found : (a b : Cells) → Some a ≡ Some b → a ≡ b
same_cells_found a b e = cc

pub same_entries : (a b : Entries) → Some a ≡ Some b → a ≡ b
same_entries a b e = cc

pub same_span : (a b : KeySpan) → Some a ≡ Some b → a ≡ b
same_span a b e = cc

pub same_seek : (a b : Seek) → Some a ≡ Some b → a ≡ b
same_seek a b e = cc

-- ---- going over a key

module _ (schema : Schema) (first : BoundNode) (rest : List BoundNode) (items : List ℕ) (at : ℕ) where
  -- what the cells so far leave to be told
  abbrev pub IsLeft : Cells → Type 0
  IsLeft fixed = (more : Cells) (low high : End) → AreTold schema first rest (drop at items) more low high → AreTold schema first rest items (fixed ++ more) low high

  pub fixed_more : (place : ℕ) (fixed pushed : Cells) (v : Value) → at < length items → place ≡ get_or items at 0 → pushed ≡ fixed ++ v ∷ [] → IsFixed schema first rest op.Equal place v → IsLeft fixed
      → (more : Cells) (low high : End) → AreTold schema first rest (drop (at + 1) items) more low high → AreTold schema first rest items (pushed ++ more) low high
  fixed_more place fixed pushed v below there is one left = λ more low high told.
      let next : at + 1 ≡ suc at = omega arith in
      let front : drop at items ≡ place ∷ drop (at + 1) items = drop-cons items at 0 below ∙ (λ i. sym there i ∷ drop (sym next i) items) in
      subst (λ cells. AreTold schema first rest items cells low high) (sym (append_assoc fixed (v ∷ []) more) ∙ ap (λ cells. cells ++ more) (sym is))
      (left (v ∷ more) low high (subst (λ places. AreTold schema first rest places (v ∷ more) low high) (sym front) (one, told)))

  pub ends_told : (place : ℕ) (fixed : Cells) (low high : End) → at < length items → place ≡ get_or items at 0 → IsLow schema first rest place low → IsHigh schema first rest place high → IsLeft fixed
      → AreTold schema first rest items fixed low high
  ends_told place fixed low high below there is_low is_high left =
      let front : drop at items ≡ place ∷ drop (suc at) items = drop-cons items at 0 below ∙ (λ i. sym there i ∷ drop (suc at) items) in
      subst (λ cells. AreTold schema first rest items cells low high) (append-nil fixed)
      (left [] low high (subst (λ places. AreTold schema first rest places [] low high) (sym front) (is_low, is_high)))

  pub fixed_all : (fixed : Cells) → length items ≤ at → IsLeft fixed → AreTold schema first rest items fixed end.Open end.Open
  fixed_all fixed over left =
      subst (λ cells. AreTold schema first rest items cells end.Open end.Open) (append-nil fixed)
      (left [] end.Open end.Open (subst (λ places. AreTold schema first rest places [] end.Open end.Open) (sym (drop_all at items over)) (refl, refl)))
