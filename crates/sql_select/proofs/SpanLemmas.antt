-- Keys before, in and behind a span: as keys rise they come in this order, so the rows of a span stand together.
use Rattle.std.proofs.Common.{◌≡◌, ◌∙◌, sym, ap, refl, subst, ℕ, suc, Bool, true, false, cond, not, List, [], ◌∷◌, ◌++◌, length, take, drop, filter, append-nil, append_assoc, zero, arith}
use Rattle.std.specs.List.{AllByRecursion}
use Rattle.std.specs.Ordering.{nat_cmp, is_eq, is_lt, ordering_reverse, ordering_then}
use Rattle.std.specs.Cmp.Lexicographic.{slice_cmp}
use Rattle.std.specs.declared.cmp.Ordering.{Ordering}
use Rattle.std.specs.declared.cmp.Ordering.TheVariants.{Less, Equal, Greater}
use Rattle.std.proofs.lemmas.Bool.{and_from, and_parts}
use Rattle.tuple_codec.proofs.Orderings.{less_is}
use Rattle.tuple_codec.specs.KeyBytes.{key_bytes, key_cell}
use Rattle.tuple_codec.specs.Limits.{are_types, is_type}
use Rattle.tuple_codec.specs.Rows.{Cells, fits, fits_all, key_cmp, key_of, value_cmp}
use Rattle.tuple_codec.specs.Spellings.{KeepsOrderBefore}
use Rattle.tuple_codec.specs.declared.values.SqlType.{SqlType}
use Rattle.tuple_codec.specs.declared.values.Value.{Value}
use Rattle.tuple_codec.proofs.Orders.{value_cmp_total, values_told}
use Rattle.schema_model.specs.PlainTables.{primary_key, rises}
use Rattle.schema_model.specs.declared.schemas.Schema.{Schema}
use Rattle.sql_select.specs.Seeking.{is_sought}
use Rattle.sql_select.specs.Spans.{is_before, is_beyond, is_in, place_of, side_of, start_of, value_at}
use Rattle.sql_select.specs.declared.spans.End.{End}
use Rattle.sql_select.specs.declared.spans.End.TheVariants as end
use Rattle.sql_select.specs.declared.spans.KeySpan.{KeySpan}

-- ---- two values, the first the lesser

differ : true ≡ false → ⊥
differ e = cc

false_by : (b : Bool) → (b ≡ true → ⊥) → b ≡ false
false_by true none = absurd (none refl)
false_by false none = refl

less_than : (x y z : Value) → value_cmp x y ≡ Less → is_lt (value_cmp y z) ≡ true → is_lt (value_cmp x z) ≡ true
less_than x y z less e = ap is_lt (value_cmp_total.trans x y z less (less_is (value_cmp y z) e))

-- what a greater one isn't below the lesser isn't either
not_less : (x y z : Value) → value_cmp x y ≡ Less → not (is_lt (value_cmp z y)) ≡ true → not (is_lt (value_cmp z x)) ≡ true
not_less x y z less e = ap not (false_by (is_lt (value_cmp z x)) (λ f. clash f))
  where
    clash : is_lt (value_cmp z x) ≡ true → ⊥
    clash f = differ (sym e ∙ ap (λ o. not (is_lt o)) (value_cmp_total.trans z x y (less_is (value_cmp z x) f) less))

not_less_than : (x y z : Value) → value_cmp x y ≡ Less → not (is_lt (value_cmp x z)) ≡ true → not (is_lt (value_cmp y z)) ≡ true
not_less_than x y z less e = ap not (false_by (is_lt (value_cmp y z)) (λ f. clash f))
  where
    clash : is_lt (value_cmp y z) ≡ true → ⊥
    clash f = differ (sym e ∙ ap not (less_than x y z less f))

before_both : (low : End) (x y : Value) → value_cmp x y ≡ Less → is_before low y ≡ true → is_before low x ≡ true
before_both end.Open x y less e = absurd (cc)
before_both (end.With v) x y less e = less_than x y v less e
before_both (end.Without v) x y less e = not_less x y v less e

beyond_both : (high : End) (x y : Value) → value_cmp x y ≡ Less → is_beyond high x ≡ true → is_beyond high y ≡ true
beyond_both end.Open x y less e = absurd (cc)
beyond_both (end.With v) x y less e = ap is_lt (value_cmp_total.trans v x y (less_is (value_cmp v x) e) less)
beyond_both (end.Without v) x y less e = not_less_than x y v less e

-- ---- the sides of a span

before_is : (b c : Bool) → cond b Less (cond c Greater Equal) ≡ Less → b ≡ true
before_is true c e = refl
before_is false true e = absurd (cc)
before_is false false e = absurd (cc)

beyond_is : (b c : Bool) → cond b Less (cond c Greater Equal) ≡ Greater → c ≡ true
beyond_is true c e = absurd (cc)
beyond_is false true e = refl
beyond_is false false e = absurd (cc)

within_is : (b c : Bool) → cond b Less (cond c Greater Equal) ≡ Greater → b ≡ false
within_is true c e = absurd (cc)
within_is false c e = refl

side_less : (low high : End) (x y : Value) → value_cmp x y ≡ Less → side_of low high y ≡ Less → side_of low high x ≡ Less
side_less low high x y less e =
    ap (λ b. cond b Less (cond (is_beyond high x) Greater Equal)) (before_both low x y less (before_is (is_before low y) (is_beyond high y) e))

side_greater : (low high : End) (x y : Value) → value_cmp x y ≡ Less → side_of low high x ≡ Greater → side_of low high y ≡ Greater
side_greater low high x y less e =
    ap (λ b. cond b Less (cond (is_beyond high y) Greater Equal)) (false_by (is_before low y) (λ f. clash f))
    ∙ ap (λ c. cond c Greater Equal) (beyond_both high x y less (beyond_is (is_before low x) (is_beyond high x) e))
  where
    clash : is_before low y ≡ true → ⊥
    clash f = differ (sym (before_both low x y less f) ∙ within_is (is_before low x) (is_beyond high x) e)

-- ---- keys

equal_is : (o : Ordering) → o ≡ Equal → is_eq o ≡ true
equal_is o e = ap is_eq e

value_is : (x y : Value) → value_cmp x y ≡ Equal → x ≡ y
value_is x y e = (values_told x y).0 (equal_is (value_cmp x y) e)

-- one that is above what equals another is above this one
above_is : (x y c : Value) → value_cmp x c ≡ Equal → value_cmp x y ≡ Less → value_cmp y c ≡ Greater
above_is x y c same less =
    value_cmp_total.antisymm y c ∙ ap ordering_reverse (subst (λ v. value_cmp v y ≡ Less) (value_is x c same) less)

above_more : (x y c : Value) → value_cmp x c ≡ Greater → value_cmp x y ≡ Less → value_cmp y c ≡ Greater
above_more x y c more less =
    value_cmp_total.antisymm y c ∙ ap ordering_reverse (value_cmp_total.trans c x y (value_cmp_total.antisymm c x ∙ ap ordering_reverse more) less)

-- behind a key that is behind the span all are
pub still_behind : (fixed : Cells) (low high : End) (a b : Cells) → key_cmp a b ≡ Less → place_of fixed low high a ≡ Greater → place_of fixed low high b ≡ Greater
still_behind [] low high [] b less e = absurd (cc)
still_behind [] low high (x ∷ a) [] less e = absurd (cc)
still_behind [] low high (x ∷ a) (y ∷ b) less e = by (value_cmp x y) refl less where
  by : (o : Ordering) → value_cmp x y ≡ o → ordering_then o (key_cmp a b) ≡ Less → side_of low high y ≡ Greater
  by Less f h = side_greater low high x y f e
  by Equal f h = subst (λ v. side_of low high v ≡ Greater) (value_is x y f) e
  by Greater f h = absurd (cc)
still_behind (c ∷ fixed) low high [] b less e = absurd (cc)
still_behind (c ∷ fixed) low high (x ∷ a) [] less e = absurd (cc)
still_behind (c ∷ fixed) low high (x ∷ a) (y ∷ b) less e = by (value_cmp x y) refl (value_cmp x c) refl less e (still_behind fixed low high a b) where
  by : (o : Ordering) → value_cmp x y ≡ o → (q : Ordering) → value_cmp x c ≡ q → ordering_then o (key_cmp a b) ≡ Less → ordering_then q (place_of fixed low high a) ≡ Greater
      → (key_cmp a b ≡ Less → place_of fixed low high a ≡ Greater → place_of fixed low high b ≡ Greater) → ordering_then (value_cmp y c) (place_of fixed low high b) ≡ Greater
  by o f Less g h e more = absurd (cc)
  by Less f Equal g h e more = ap (λ q. ordering_then q (place_of fixed low high b)) (above_is x y c g f)
  by Less f Greater g h e more = ap (λ q. ordering_then q (place_of fixed low high b)) (above_more x y c g f)
  by Equal f Equal g h e more =
      ap (λ q. ordering_then q (place_of fixed low high b)) (subst (λ v. value_cmp v c ≡ Equal) (value_is x y f) g) ∙ more h e
  by Equal f Greater g h e more = ap (λ q. ordering_then q (place_of fixed low high b)) (subst (λ v. value_cmp v c ≡ Greater) (value_is x y f) g)
  by Greater f Equal g h e more = absurd (cc)
  by Greater f Greater g h e more = absurd (cc)

-- and before one of as many cells that is before it
pub still_before : (fixed : Cells) (low high : End) (a b : Cells) → length a ≡ length b → key_cmp a b ≡ Less → place_of fixed low high b ≡ Less → place_of fixed low high a ≡ Less
still_before [] low high a [] long less e = absurd (cc)
still_before [] low high [] (y ∷ b) long less e = let none : 0 ≡ suc (length b) = long in absurd (omega (arith, none))
still_before [] low high (x ∷ a) (y ∷ b) long less e = by (value_cmp x y) refl less where
  by : (o : Ordering) → value_cmp x y ≡ o → ordering_then o (key_cmp a b) ≡ Less → side_of low high x ≡ Less
  by Less f h = side_less low high x y f e
  by Equal f h = subst (λ v. side_of low high v ≡ Less) (sym (value_is x y f)) e
  by Greater f h = absurd (cc)
still_before (c ∷ fixed) low high [] b long less e = refl
still_before (c ∷ fixed) low high (x ∷ a) [] long less e = absurd (cc)
still_before (c ∷ fixed) low high (x ∷ a) (y ∷ b) long less e =
    let shorter : length a ≡ length b = omega (arith, long) in
    by (value_cmp x y) refl (value_cmp y c) refl less e (still_before fixed low high a b shorter)
  where
    by : (o : Ordering) → value_cmp x y ≡ o → (q : Ordering) → value_cmp y c ≡ q → ordering_then o (key_cmp a b) ≡ Less → ordering_then q (place_of fixed low high b) ≡ Less
        → (key_cmp a b ≡ Less → place_of fixed low high b ≡ Less → place_of fixed low high a ≡ Less) → ordering_then (value_cmp x c) (place_of fixed low high a) ≡ Less
    by o f Greater g h e more = absurd (cc)
    by Less f Less g h e more = ap (λ q. ordering_then q (place_of fixed low high a)) (value_cmp_total.trans x y c f g)
    by Less f Equal g h e more = ap (λ q. ordering_then q (place_of fixed low high a)) (subst (λ v. value_cmp x v ≡ Less) (value_is y c g) f)
    by Equal f Less g h e more = ap (λ q. ordering_then q (place_of fixed low high a)) (subst (λ v. value_cmp v c ≡ Less) (sym (value_is x y f)) g)
    by Equal f Equal g h e more =
        ap (λ q. ordering_then q (place_of fixed low high a)) (subst (λ v. value_cmp v c ≡ Equal) (sym (value_is x y f)) g) ∙ more h e
    by Greater f Less g h e more = absurd (cc)
    by Greater f Equal g h e more = absurd (cc)

-- ---- keys whose bytes are below those with which the span begins

then_less : (o p : Ordering) → (p ≡ Less → ⊥) → ordering_then o p ≡ Less → o ≡ Less
then_less Less p none e = refl
then_less Equal p none e = absurd (none e)
then_less Greater p none e = absurd (cc)

never : Equal ≡ Less → ⊥
never e = cc

-- a key that comes before those cells comes before the span
starts_before : (types : List SqlType) (fixed : Cells) (low high : End) (key : Cells) → fits_all types key ≡ true
    → fits_all (take (length (fixed ++ value_at low)) types) (fixed ++ value_at low) ≡ true
    → key_cmp (take (length (fixed ++ value_at low)) key) (fixed ++ value_at low) ≡ Less → place_of fixed low high key ≡ Less
starts_before types [] end.Open high key fit starts less = absurd (never less)
starts_before [] [] (end.With v) high [] fit starts less = absurd (cc)
starts_before (t ∷ types) [] (end.With v) high [] fit starts less = absurd (cc)
starts_before types [] (end.With v) high (x ∷ key) fit starts less =
    ap (λ (o : Ordering). cond (is_lt o) Less (cond (is_beyond high x) Greater Equal)) (then_less (value_cmp x v) Equal never less)
starts_before [] [] (end.Without v) high [] fit starts less = absurd (cc)
starts_before (t ∷ types) [] (end.Without v) high [] fit starts less = absurd (cc)
starts_before types [] (end.Without v) high (x ∷ key) fit starts less =
    ap (λ (o : Ordering). cond (not (is_lt o)) Less (cond (is_beyond high x) Greater Equal)) (value_cmp_total.antisymm v x ∙ ap ordering_reverse (then_less (value_cmp x v) Equal never less))
starts_before types (c ∷ fixed) low high [] fit starts less = refl
starts_before [] (c ∷ fixed) low high (x ∷ key) fit starts less = absurd (cc)
starts_before (t ∷ types) (c ∷ fixed) low high (x ∷ key) fit starts less =
    by (value_cmp x c) less
    (starts_before types fixed low high key (and_parts (fits t x) (fits_all types key) fit).1
    (and_parts (fits t c) (fits_all (take (length (fixed ++ value_at low)) types) (fixed ++ value_at low)) starts).1)
  where
    by : (o : Ordering) → ordering_then o (key_cmp (take (length (fixed ++ value_at low)) key) (fixed ++ value_at low)) ≡ Less
        → (key_cmp (take (length (fixed ++ value_at low)) key) (fixed ++ value_at low) ≡ Less → place_of fixed low high key ≡ Less) → ordering_then o (place_of fixed low high key) ≡ Less
    by Less h more = refl
    by Equal h more = more h
    by Greater h more = absurd (cc)

-- ---- a key in two parts

take_fits : (types : List SqlType) (key : Cells) (n : ℕ) → fits_all types key ≡ true → fits_all (take n types) (take n key) ≡ true
take_fits types key zero fit = refl
take_fits [] [] (suc n) fit = refl
take_fits [] (x ∷ key) (suc n) fit = absurd (cc)
take_fits (t ∷ types) [] (suc n) fit = absurd (cc)
take_fits (t ∷ types) (x ∷ key) (suc n) fit =
    let parts = and_parts (fits t x) (fits_all types key) fit in
    and_from (fits t x) (fits_all (take n types) (take n key)) parts.0 (take_fits types key n parts.1)

pub take_types : (types : List SqlType) (n : ℕ) → are_types types ≡ true → are_types (take n types) ≡ true
take_types types zero h = refl
take_types [] (suc n) h = refl
take_types (t ∷ types) (suc n) h =
    let parts = and_parts (is_type t) (are_types types) h in
    and_from (is_type t) (are_types (take n types)) parts.0 (take_types types n parts.1)

bytes_split : (key : Cells) (n : ℕ) → key_bytes key ≡ key_bytes (take n key) ++ key_bytes (drop n key)
bytes_split key zero = refl
bytes_split [] (suc n) = refl
bytes_split (x ∷ key) (suc n) = ap (λ l. key_cell x ++ l) (bytes_split key n) ∙ sym (append_assoc (key_cell x) (key_bytes (take n key)) (key_bytes (drop n key)))

none_less : (bytes : List ℕ) → slice_cmp nat_cmp bytes [] ≡ Less → ⊥
none_less [] e = never e
none_less (b ∷ bytes) e = cc

pub early : KeepsOrderBefore → (types : List SqlType) (span : KeySpan) (key : Cells) → are_types types ≡ true → fits_all types key ≡ true
    → fits_all (take (length (start_of span)) types) (start_of span) ≡ true → is_lt (slice_cmp nat_cmp (key_bytes key) (key_bytes (start_of span))) ≡ true → is_in span key ≡ false
early ordered types span key valid fit starts below =
    let n = length (start_of span) in
    let order : slice_cmp nat_cmp (key_bytes key) (key_bytes (start_of span)) ≡ ordering_then (key_cmp (take n key) (start_of span)) (slice_cmp nat_cmp (key_bytes (drop n key)) []) =
    ap (λ l. slice_cmp nat_cmp l (key_bytes (start_of span))) (bytes_split key n)
    ∙ ap (λ l. slice_cmp nat_cmp (key_bytes (take n key) ++ key_bytes (drop n key)) l) (sym (append-nil (key_bytes (start_of span))))
    ∙ ordered (take n types) (take n key) (start_of span) (key_bytes (drop n key)) [] (take_types types n valid) (take_fits types key n fit) starts in
    ap is_eq (starts_before types span.fixed span.low span.high key fit starts
    (then_less (key_cmp (take n key) (start_of span)) (slice_cmp nat_cmp (key_bytes (drop n key)) []) (none_less (key_bytes (drop n key))) (sym order ∙ less_is _ below)))

-- ---- rows

abbrev pub Rises : Schema → List Cells → Type 0
Rises schema rows = rises (λ a b. key_cmp (primary_key schema a) (primary_key schema b)) rows ≡ true

pub rest_rises : (schema : Schema) (row : Cells) (rows : List Cells) → Rises schema (row ∷ rows) → Rises schema rows
rest_rises schema row [] rise = refl
rest_rises schema row (next ∷ rows) rise =
    (and_parts (is_lt (key_cmp (primary_key schema row) (primary_key schema next))) (rises (λ a b. key_cmp (primary_key schema a) (primary_key schema b)) (next ∷ rows)) rise).1

pub next_less : (schema : Schema) (row next : Cells) (rows : List Cells) → Rises schema (row ∷ next ∷ rows) → key_cmp (primary_key schema row) (primary_key schema next) ≡ Less
next_less schema row next rows rise =
    less_is _ (and_parts (is_lt (key_cmp (primary_key schema row) (primary_key schema next))) (rises (λ a b. key_cmp (primary_key schema a) (primary_key schema b)) (next ∷ rows)) rise).0

-- where a row stands
abbrev pub row_place : Schema → KeySpan → Cells → Ordering
row_place schema span row = place_of span.fixed span.low span.high (primary_key schema row)

-- none of these is sought
abbrev pub AreOut : Schema → KeySpan → List Cells → Type 0
AreOut schema span rows = AllByRecursion (λ row. is_sought schema span row ≡ false) rows

pub none_sought : (schema : Schema) (span : KeySpan) (rows : List Cells) → AreOut schema span rows → filter (is_sought schema span) rows ≡ []
none_sought schema span [] out = refl
none_sought schema span (row ∷ rows) out = ap (λ b. cond b (row ∷ filter (is_sought schema span) rows) (filter (is_sought schema span) rows)) out.0 ∙ none_sought schema span rows out.1

pub all_behind : (schema : Schema) (span : KeySpan) (row : Cells) (rows : List Cells) → Rises schema (row ∷ rows) → row_place schema span row ≡ Greater → AreOut schema span (row ∷ rows)
all_behind schema span row [] rise e = (ap is_eq e, tt)
all_behind schema span row (next ∷ rows) rise e = (
  ap is_eq e,
  all_behind schema span next rows (rest_rises schema row (next ∷ rows) rise)
      (still_behind span.fixed span.low span.high (primary_key schema row) (primary_key schema next) (next_less schema row next rows rise) e),
)

-- rows of a span among those before and behind it
pub record IsSplit (schema : Schema) (span : KeySpan) (rows : List Cells) : Type 0 where
  pub front : List Cells
  pub back : List Cells
  pub split : rows ≡ front ++ (filter (is_sought schema span) rows ++ back)
  pub front_out : AreOut schema span front
  pub back_out : AreOut schema span back

-- those behind it, where no row is before it
record IsFollowed (schema : Schema) (span : KeySpan) (rows : List Cells) : Type 0 where
  back : List Cells
  split : rows ≡ filter (is_sought schema span) rows ++ back
  out : AreOut schema span back

as_many : (keys : List ℕ) (a b : Cells) → length (key_of keys a) ≡ length (key_of keys b)
as_many [] a b = refl
as_many (key ∷ keys) a b = ap suc (as_many keys a b)

sought_first : (schema : Schema) (span : KeySpan) (row : Cells) (rows : List Cells) → is_sought schema span row ≡ true → filter (is_sought schema span) (row ∷ rows) ≡ row ∷ filter (is_sought schema span) rows
sought_first schema span row rows e = ap (λ b. cond b (row ∷ filter (is_sought schema span) rows) (filter (is_sought schema span) rows)) e

out_first : (schema : Schema) (span : KeySpan) (row : Cells) (rows : List Cells) → is_sought schema span row ≡ false → filter (is_sought schema span) (row ∷ rows) ≡ filter (is_sought schema span) rows
out_first schema span row rows e = ap (λ b. cond b (row ∷ filter (is_sought schema span) rows) (filter (is_sought schema span) rows)) e

within : (schema : Schema) (span : KeySpan) (row : Cells) (rows : List Cells) → is_sought schema span row ≡ true → IsFollowed schema span rows → IsFollowed schema span (row ∷ rows)
within schema span row rows e more = record {
  back = more.back;
  split = ap (λ l. row ∷ l) more.split ∙ ap (λ l. l ++ more.back) (sym (sought_first schema span row rows e));
  out = more.out;
}

past : (schema : Schema) (span : KeySpan) (rows : List Cells) → AreOut schema span rows → IsFollowed schema span rows
past schema span rows out = record { back = rows; split = ap (λ l. l ++ rows) (sym (none_sought schema span rows out)); out = out }

followed : (schema : Schema) (span : KeySpan) (row : Cells) (rows : List Cells) → Rises schema (row ∷ rows) → (row_place schema span row ≡ Less → ⊥) → IsFollowed schema span (row ∷ rows)
followed schema span row [] rise not_before = by (row_place schema span row) refl where
  by : (o : Ordering) → row_place schema span row ≡ o → IsFollowed schema span (row ∷ [])
  by Less e = absurd (not_before e)
  by Equal e = within schema span row [] (ap is_eq e) (past schema span [] tt)
  by Greater e = past schema span (row ∷ []) (ap is_eq e, tt)
followed schema span row (next ∷ rows) rise not_before =
    by (row_place schema span row) refl
    (followed schema span next rows (rest_rises schema row (next ∷ rows) rise)
    (λ e. not_before (still_before span.fixed span.low span.high (primary_key schema row) (primary_key schema next) (as_many schema.key row next) (next_less schema row next rows rise) e)))
  where
    by : (o : Ordering) → row_place schema span row ≡ o → IsFollowed schema span (next ∷ rows) → IsFollowed schema span (row ∷ next ∷ rows)
    by Less e more = absurd (not_before e)
    by Equal e more = within schema span row (next ∷ rows) (ap is_eq e) more
    by Greater e more = past schema span (row ∷ next ∷ rows) (all_behind schema span row (next ∷ rows) rise e)

above_less : (o : Ordering) → o ≡ Equal → o ≡ Less → ⊥
above_less o e f = never (sym e ∙ f)

greater_less : (o : Ordering) → o ≡ Greater → o ≡ Less → ⊥
greater_less o e f = clash (sym e ∙ f)
  where
    clash : Greater ≡ Less → ⊥
    clash e = cc

-- the rows of a span stand together
pub split_of : (schema : Schema) (span : KeySpan) (rows : List Cells) → Rises schema rows → IsSplit schema span rows
split_of schema span [] rise = record { front = []; back = []; split = refl; front_out = tt; back_out = tt }
split_of schema span (row ∷ rows) rise = by (row_place schema span row) refl (split_of schema span rows (rest_rises schema row rows rise)) where
  from_here : (row_place schema span row ≡ Less → ⊥) → IsSplit schema span (row ∷ rows)
  from_here not_before =
      let more = followed schema span row rows rise not_before in
      record { front = []; back = more.back; split = more.split; front_out = tt; back_out = more.out }

  by : (o : Ordering) → row_place schema span row ≡ o → IsSplit schema span rows → IsSplit schema span (row ∷ rows)
  by Less e more = record {
    front = row ∷ more.front;
    back = more.back;
    split = ap (λ l. row ∷ l) more.split ∙ ap (λ l. row ∷ (more.front ++ (l ++ more.back))) (sym (out_first schema span row rows (ap is_eq e)));
    front_out = (ap is_eq e, more.front_out);
    back_out = more.back_out;
  }
  by Equal e more = from_here (above_less (row_place schema span row) e)
  by Greater e more = from_here (greater_less (row_place schema span row) e)
