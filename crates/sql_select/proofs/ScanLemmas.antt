-- The rows of a span that a scan has come to.
use Rattle.std.proofs.Common.{◌≡◌, ◌∙◌, sym, ap, refl, ℕ, Bool, true, false, cond, List, [], ◌∷◌, ◌++◌, filter, map, append_assoc, append-nil}
use Rattle.std.specs.List.{list_all}
use Rattle.std.specs.Ordering.{nat_cmp, is_eq, is_lt}
use Rattle.std.specs.Cmp.Lexicographic.{slice_cmp}
use Rattle.std.specs.declared.cmp.Ordering.TheVariants.{Less, Equal, Greater}
use Rattle.std.proofs.lemmas.Bool.{and_parts}
use Rattle.prolly_tree.specs.Lists.{from_key, pair_of}
use Rattle.tuple_codec.specs.KeyBytes.{key_bytes}
use Rattle.tuple_codec.specs.Rows.{Cells}
use Rattle.tuple_codec.specs.Spellings.{KeepsOrderBefore}
use Rattle.schema_model.specs.PlainTables.{is_row, key_types, primary_key, row_item}
use Rattle.schema_model.specs.Schemas.{is_schema}
use Rattle.schema_model.specs.declared.schemas.Schema.{Schema}
use Rattle.schema_model.proofs.FitLemmas.{key_types_fit, primary_key_fits}
use Rattle.table_root.specs.Rows.{IsRowOf}
use Rattle.table_root.proofs.ReadingLemmas.{pairs_of}
use Rattle.sql_select.specs.Seeking.{IsSpanOf, is_sought}
use Rattle.sql_select.specs.Spans.{start_of}
use Rattle.sql_select.specs.declared.spans.KeySpan.{KeySpan}
use Rattle.sql_select.proofs.SpanLemmas.{Rises, all_behind, early, none_sought, rest_rises, row_place}

-- these were read, and of those that are left the sought ones come behind them
pub record IsSeeking (schema : Schema) (span : KeySpan) (done : List Cells) (rest : List (List ℕ × List ℕ)) (rows : List Cells) : Type 0 where
  pub left : List Cells
  pub fit : list_all (is_row schema) left ≡ true
  pub rise : Rises schema left
  pub whole : done ++ filter (is_sought schema span) left ≡ filter (is_sought schema span) rows
  pub follow : rest ≡ pairs_of schema left

pub begins : KeepsOrderBefore → (schema : Schema) (span : KeySpan) (rows : List Cells) (rest : List (List ℕ × List ℕ)) → is_schema schema ≡ true → IsSpanOf schema span → list_all (is_row schema) rows ≡ true
    → Rises schema rows → rest ≡ map pair_of (from_key (key_bytes (start_of span)) (map (row_item schema) rows)) → IsSeeking schema span [] rest rows
begins ordered schema span [] rest valid starts fit rise e = record { left = []; fit = refl; rise = refl; whole = refl; follow = e }
begins ordered schema span (row ∷ rows) rest valid starts fit rise e =
    let parts = and_parts (is_row schema row) (list_all (is_row schema) rows) fit in
    by (is_lt (slice_cmp nat_cmp (key_bytes (primary_key schema row)) (key_bytes (start_of span)))) refl e
    (begins ordered schema span rows rest valid starts parts.1 (rest_rises schema row rows rise))
    (early ordered (key_types schema) span (primary_key schema row) (key_types_fit schema valid) (primary_key_fits schema row valid parts.0) starts)
  where
    by : (b : Bool) → is_lt (slice_cmp nat_cmp (key_bytes (primary_key schema row)) (key_bytes (start_of span))) ≡ b
        → rest ≡ map pair_of (cond b (from_key (key_bytes (start_of span)) (map (row_item schema) rows)) (map (row_item schema) (row ∷ rows)))
        → (rest ≡ map pair_of (from_key (key_bytes (start_of span)) (map (row_item schema) rows)) → IsSeeking schema span [] rest rows)
        → (is_lt (slice_cmp nat_cmp (key_bytes (primary_key schema row)) (key_bytes (start_of span))) ≡ true → is_sought schema span row ≡ false) → IsSeeking schema span [] rest (row ∷ rows)
    by true below e rest_so out =
        let more = rest_so e in
        record {
          left = more.left;
          fit = more.fit;
          rise = more.rise;
          whole = more.whole ∙ sym (ap (λ b. cond b (row ∷ filter (is_sought schema span) rows) (filter (is_sought schema span) rows)) (out below));
          follow = more.follow;
        }
    by false at e rest_so out = record { left = row ∷ rows; fit = fit; rise = rise; whole = refl; follow = e }

-- the row of the first pair that is left, and what is known behind it, by where it stands
pub record IsNext (schema : Schema) (span : KeySpan) (done : List Cells) (pair : List ℕ × List ℕ) (rest : List (List ℕ × List ℕ)) (rows : List Cells) : Type 0 where
  pub row : Cells
  pub is : IsRowOf schema pair.0 pair.1 row
  pub before : row_place schema span row ≡ Less → IsSeeking schema span done rest rows
  pub within : row_place schema span row ≡ Equal → IsSeeking schema span (done ++ row ∷ []) rest rows
  pub behind : row_place schema span row ≡ Greater → done ≡ filter (is_sought schema span) rows

next_of : (schema : Schema) (span : KeySpan) (done rows left : List Cells) (pair : List ℕ × List ℕ) (rest : List (List ℕ × List ℕ)) → list_all (is_row schema) left ≡ true → Rises schema left
    → done ++ filter (is_sought schema span) left ≡ filter (is_sought schema span) rows → (pair ∷ rest) ≡ pairs_of schema left → IsNext schema span done pair rest rows
next_of schema span done rows [] pair rest fit rise whole e = absurd (cc)
next_of schema span done rows (row ∷ left) pair rest fit rise whole e =
    let parts = and_parts (is_row schema row) (list_all (is_row schema) left) fit in
    let one : pair ≡ pair_of (row_item schema row) = cc in
    let more : rest ≡ pairs_of schema left = cc in
    let seen = λ (b : Bool) (f : is_sought schema span row ≡ b).
    ap (λ b. done ++ cond b (row ∷ filter (is_sought schema span) left) (filter (is_sought schema span) left)) (sym f) ∙ whole in
    record {
      row = row;
      is = record { fits = parts.0; key = sym (ap (λ (p : List ℕ × List ℕ). p.0) one); value = sym (ap (λ (p : List ℕ × List ℕ). p.1) one) };
      before = λ f. record { left = left; fit = parts.1; rise = rest_rises schema row left rise; whole = seen false (ap is_eq f); follow = more };
      within = λ f. record {
        left = left;
        fit = parts.1;
        rise = rest_rises schema row left rise;
        whole = append_assoc done (row ∷ []) (filter (is_sought schema span) left) ∙ seen true (ap is_eq f);
        follow = more;
      };
      behind = λ f. sym (append-nil done) ∙ ap (λ l. done ++ l) (sym (none_sought schema span (row ∷ left) (all_behind schema span row left rise f))) ∙ whole;
    }

pub next : (schema : Schema) (span : KeySpan) (done rows : List Cells) (all rest : List (List ℕ × List ℕ)) (pair : List ℕ × List ℕ) → IsSeeking schema span done all rows → all ≡ pair ∷ rest
    → IsNext schema span done pair rest rows
next schema span done rows all rest pair seeking e = next_of schema span done rows seeking.left pair rest seeking.fit seeking.rise seeking.whole (sym e ∙ seeking.follow)

over_by : (schema : Schema) (span : KeySpan) (done rows left : List Cells) → done ++ filter (is_sought schema span) left ≡ filter (is_sought schema span) rows → [] ≡ pairs_of schema left
    → done ≡ filter (is_sought schema span) rows
over_by schema span done rows [] whole e = sym (append-nil done) ∙ whole
over_by schema span done rows (row ∷ left) whole e = absurd (cc)

pub over : (schema : Schema) (span : KeySpan) (done rows : List Cells) (all : List (List ℕ × List ℕ)) → IsSeeking schema span done all rows → all ≡ [] → done ≡ filter (is_sought schema span) rows
over schema span done rows all seeking e = over_by schema span done rows seeking.left seeking.whole (sym e ∙ seeking.follow)
