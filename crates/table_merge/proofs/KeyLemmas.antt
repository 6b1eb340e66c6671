-- Merged schemas are schemas, and rows of the sides are rows of them, under the same keys.
use Rattle.std.proofs.Common.{◌≡◌, ◌^◌, ℕ, zero, suc, true, nat_le, List, [], ◌∷◌, length, map, get_or, Option, Some, None, Ok, refl, sym, ap, ◌∙◌, subst, option_map, slice_get, unsigned_abs, ◌==◌, arith}
use Rattle.std.specs.List.{list_all}
use Rattle.std.specs.Option.{option_map_or}
use Rattle.std.proofs.lemmas.Bool.{and_parts, and_from, le-leb, leb-true, lt-ltb, ltb-true}
use Rattle.std.proofs.Math.Nat.{pow-le-pow_right}
use Rattle.std.proofs.lemmas.List.{length-map}
use Rattle.std.proofs.lemmas.Option.{get_or_from_slice_get, slice_get-map}
use Rattle.tuple_codec.proofs.Options.{some_is}
use Rattle.tuple_codec.specs.Rows.{AreTold, Cells, fits, fits_all, key_of}
use Rattle.tuple_codec.specs.declared.values.SqlType.{SqlType}
use Rattle.tuple_codec.specs.declared.values.SqlType.TheVariants as kind
use Rattle.tuple_codec.specs.declared.values.Value.{Value}
use Rattle.tuple_codec.specs.declared.values.Value.TheVariants as cell
use Rattle.tuple_codec.proofs.CellLemmas.{bits_more as int_wide}
use Rattle.schema_model.specs.PlainTables.{is_row}
use Rattle.schema_model.specs.Sameness.{is_same_column, is_same_option}
use Rattle.schema_model.specs.Schemas.{are_positions, default_fits, is_column, is_foreign, is_index, is_name, is_not_null}
use Rattle.schema_model.specs.declared.schemas.Column.{Column}
use Rattle.schema_model.specs.declared.schemas.IndexDef.{IndexDef}
use Rattle.schema_model.specs.declared.schemas.ForeignKey.{ForeignKey}
use Rattle.schema_model.specs.declared.schemas.Schema.{Schema}
use Rattle.schema_model.proofs.FitLemmas.{places_within}
use Rattle.schema_merge.specs.Parts.{Sides, covers, covers_in, find, keeps_places, moved_index, moved_foreign, moved_place, moved_places, of_columns, place_of}
use Rattle.schema_merge.specs.Merging.{parts3}
use Rattle.schema_merge.specs.Projecting.{cell_or_default, default_cell, projected_cell}
use Rattle.table_merge.proofs.NameLemmas.{get_found, get_place, named_apart, place_found}
use Rattle.table_merge.proofs.PlaceLemmas.{AllMove, moved_is, moves, named, positions_moved}
use Rattle.table_merge.proofs.SchemaLemmas.{KeysMatch, kept_places, key_column}

-- ---- the key's columns among merged ones

abbrev pub KeyStands : List Column → Schema → List ℕ → Type 0
KeyStands columns ours [] = Unit {0}
KeyStands columns ours (y ∷ ys) = ((c : Column) × (slice_get ours.columns y ≡ Some c) × (named c.name columns ≡ Some c)) × KeyStands columns ours ys

abbrev pub BaseMatches : Option Schema → Schema → List ℕ → Type 0
BaseMatches None ours ys = Unit {0}
BaseMatches (Some base) ours ys = (named_apart base.columns ≡ true) × ((zs : List ℕ) × KeysMatch base ours zs ys)

base_first : (base : Option Schema) (ours : Schema) (y : ℕ) (ys : List ℕ) → BaseMatches base ours (y ∷ ys) → BaseMatches base ours ys
base_first None ours y ys h = tt
base_first (Some base) ours y ys h = (h.0, tail h.1.0 h.1.1) where
  tail : (zs : List ℕ) → KeysMatch base ours zs (y ∷ ys) → (zs : List ℕ) × KeysMatch base ours zs ys
  tail [] m = absurd m
  tail (z ∷ zs) m = (zs, m.1)

base_same : AreTold is_same_column → (base : Option Schema) (ours : Schema) (y : ℕ) (ys : List ℕ) (c : Column) → BaseMatches base ours (y ∷ ys) → slice_get ours.columns y ≡ Some c
    → option_map_or (λ (s : Schema). is_same_option is_same_column (find (λ part. part.name) c.name s.columns) (Some c)) base true ≡ true
base_same told None ours y ys c h e = refl
base_same told (Some base) ours y ys c h e = at h.1.0 h.1.1 where
  at : (zs : List ℕ) → KeysMatch base ours zs (y ∷ ys) → is_same_option is_same_column (find (λ part. part.name) c.name base.columns) (Some c) ≡ true
  at [] m = absurd m
  at (z ∷ zs) m =
      let d = m.0 in
      let same : d.0 ≡ c = some_is d.0 c (sym d.2 ∙ e) in
      let found = get_found base.columns z c h.0 (d.1 ∙ ap (λ (k : Column). Some k) same) in
      rw found ((told c c).1 refl)

pub key_stands : AreTold is_same_column → (all : Sides) (columns : List Column) → parts3 (λ part. part.name) of_columns all [] ≡ Ok columns → named_apart all.ours.columns ≡ true
    → named_apart all.theirs.columns ≡ true → (xs ys : List ℕ) → KeysMatch all.theirs all.ours xs ys → BaseMatches all.base all.ours ys → KeyStands columns all.ours ys
key_stands told all columns e p q [] [] m b = tt
key_stands told all columns e p q [] (y ∷ ys) m b = absurd m
key_stands told all columns e p q (x ∷ xs) [] m b = absurd m
key_stands told all columns e p q (x ∷ xs) (y ∷ ys) m b =
    let c = m.0 in (
      (c.0, c.2, key_column told all columns c.0 e (get_found all.ours.columns y c.0 p c.2) (get_found all.theirs.columns x c.0 q c.1) (base_same told all.base all.ours y ys c.0 b c.2)),
      key_stands told all columns e p q xs ys m.1 (base_first all.base all.ours y ys b),
    )

pub key_moves : (columns : List Column) (ours : Schema) (ys : List ℕ) → named_apart columns ≡ true → KeyStands columns ours ys → AllMove columns ours ys
key_moves columns ours [] apart k = tt
key_moves columns ours (y ∷ ys) apart k = (moves columns ours y k.0.0 k.0.0 apart k.0.1 k.0.2, key_moves columns ours ys apart k.1)

pub key_not_null : (columns : List Column) (ours : Schema) (ys : List ℕ) → named_apart columns ≡ true → KeyStands columns ours ys
    → list_all (λ position. is_not_null (slice_get ours.columns position)) ys ≡ true
    → list_all (λ position. is_not_null (slice_get columns position)) (moved_places columns ours ys) ≡ true
key_not_null columns ours [] apart k h = refl
key_not_null columns ours (y ∷ ys) apart k h =
    let one = and_parts (is_not_null (slice_get ours.columns y)) (list_all (λ position. is_not_null (slice_get ours.columns position)) ys) h in
    and_from _ _ (ap is_not_null (moved_is columns ours y k.0.0 k.0.0 apart k.0.1 k.0.2 ∙ sym k.0.1) ∙ one.0) (key_not_null columns ours ys apart k.1 one.1)

-- ---- the parts

pub index_is : (columns : List Column) (side : Schema) (old part : IndexDef) → named_apart columns ≡ true → named_apart side.columns ≡ true → is_index (length side.columns) old ≡ true
    → keeps_places columns side old.columns ≡ true → moved_index columns side old ≡ part → is_index (length columns) part ≡ true
index_is columns side old part apart old_apart h keeps e =
    let one = and_parts (is_name old.name) (are_positions (length side.columns) old.columns) h in
    let move = kept_places columns side old.columns apart (places_within (length side.columns) old.columns one.1) keeps in
    ap (is_index (length columns)) (sym e) ∙ and_from _ _ one.0 (positions_moved columns side old.columns old_apart move one.1)

pub foreign_is : (columns : List Column) (side : Schema) (old part : ForeignKey) → named_apart columns ≡ true → named_apart side.columns ≡ true → is_foreign (length side.columns) old ≡ true
    → keeps_places columns side old.columns ≡ true → moved_foreign columns side old ≡ part → is_foreign (length columns) part ≡ true
foreign_is columns side old part apart old_apart h keeps e =
    let a = and_parts _ (length old.columns == length old.parent_columns) h in
    let b = and_parts _ (list_all is_name old.parent_columns) a.0 in
    let c = and_parts _ (is_name old.parent) b.0 in
    let d = and_parts (is_name old.name) (are_positions (length side.columns) old.columns) c.0 in
    let move = kept_places columns side old.columns apart (places_within (length side.columns) old.columns d.1) keeps in
    let n : (length (moved_places columns side old.columns) == length old.parent_columns) ≡ true = ap (λ (k : ℕ). k == length old.parent_columns) (length-map old.columns (moved_place columns side)) ∙ a.1 in
    ap (is_foreign (length columns)) (sym e) ∙ and_from _ _ (and_from _ _ (and_from _ _ (and_from _ _ d.0 (positions_moved columns side old.columns old_apart move d.1)) c.1) b.1) n

-- ---- types

fits_null : (type : SqlType) → fits type cell.Null ≡ true
fits_null kind.BigInt = refl
fits_null kind.Int = refl
fits_null kind.Bool = refl
fits_null (kind.Varchar a) = refl
fits_null (kind.Varbinary a) = refl
fits_null (kind.Decimal a b) = refl

less_more : (n a b : ℕ) → nat_le n b ≡ true → nat_le b a ≡ true → nat_le n a ≡ true
less_more n a b p q = let one = leb-true n b p in let two = leb-true b a q in le-leb n a (omega (arith, one, two))

pub covers_fits : (a b : SqlType) (v : Value) → covers a b ≡ true → fits b v ≡ true → fits a v ≡ true
covers_fits a b cell.Null c f = fits_null a
covers_fits kind.BigInt kind.BigInt v c f = f
covers_fits kind.BigInt kind.Int (cell.Int n) c f = int_wide n f
covers_fits kind.BigInt kind.Int (cell.Bool n) c f = absurd (cc)
covers_fits kind.BigInt kind.Int (cell.Text n) c f = absurd (cc)
covers_fits kind.BigInt kind.Int (cell.Bytes n) c f = absurd (cc)
covers_fits kind.BigInt kind.Int (cell.Decimal n) c f = absurd (cc)
covers_fits kind.BigInt kind.Bool v c f = absurd (cc)
covers_fits kind.BigInt (kind.Varchar d) v c f = absurd (cc)
covers_fits kind.BigInt (kind.Varbinary d) v c f = absurd (cc)
covers_fits kind.BigInt (kind.Decimal d e) v c f = absurd (cc)
covers_fits kind.Int kind.Int v c f = f
covers_fits kind.Int kind.BigInt v c f = absurd (cc)
covers_fits kind.Int kind.Bool v c f = absurd (cc)
covers_fits kind.Int (kind.Varchar d) v c f = absurd (cc)
covers_fits kind.Int (kind.Varbinary d) v c f = absurd (cc)
covers_fits kind.Int (kind.Decimal d e) v c f = absurd (cc)
covers_fits kind.Bool kind.Bool v c f = f
covers_fits kind.Bool kind.BigInt v c f = absurd (cc)
covers_fits kind.Bool kind.Int v c f = absurd (cc)
covers_fits kind.Bool (kind.Varchar d) v c f = absurd (cc)
covers_fits kind.Bool (kind.Varbinary d) v c f = absurd (cc)
covers_fits kind.Bool (kind.Decimal d e) v c f = absurd (cc)
covers_fits (kind.Varchar a) (kind.Varchar b) (cell.Text text) c f =
    let one = and_parts _ (nat_le _ b) f in and_from _ _ one.0 (less_more _ a b one.1 c)
covers_fits (kind.Varchar a) (kind.Varchar b) (cell.Int n) c f = absurd (cc)
covers_fits (kind.Varchar a) (kind.Varchar b) (cell.Bool n) c f = absurd (cc)
covers_fits (kind.Varchar a) (kind.Varchar b) (cell.Bytes n) c f = absurd (cc)
covers_fits (kind.Varchar a) (kind.Varchar b) (cell.Decimal n) c f = absurd (cc)
covers_fits (kind.Varchar a) kind.BigInt v c f = absurd (cc)
covers_fits (kind.Varchar a) kind.Int v c f = absurd (cc)
covers_fits (kind.Varchar a) kind.Bool v c f = absurd (cc)
covers_fits (kind.Varchar a) (kind.Varbinary d) v c f = absurd (cc)
covers_fits (kind.Varchar a) (kind.Decimal d e) v c f = absurd (cc)
covers_fits (kind.Varbinary a) (kind.Varbinary b) (cell.Bytes bytes) c f = less_more (length bytes) a b f c
covers_fits (kind.Varbinary a) (kind.Varbinary b) (cell.Int n) c f = absurd (cc)
covers_fits (kind.Varbinary a) (kind.Varbinary b) (cell.Bool n) c f = absurd (cc)
covers_fits (kind.Varbinary a) (kind.Varbinary b) (cell.Text n) c f = absurd (cc)
covers_fits (kind.Varbinary a) (kind.Varbinary b) (cell.Decimal n) c f = absurd (cc)
covers_fits (kind.Varbinary a) kind.BigInt v c f = absurd (cc)
covers_fits (kind.Varbinary a) kind.Int v c f = absurd (cc)
covers_fits (kind.Varbinary a) kind.Bool v c f = absurd (cc)
covers_fits (kind.Varbinary a) (kind.Varchar d) v c f = absurd (cc)
covers_fits (kind.Varbinary a) (kind.Decimal d e) v c f = absurd (cc)
covers_fits (kind.Decimal a s) (kind.Decimal b t) (cell.Decimal n) c f =
    let one = leb-true b a (and_parts (s == t) (nat_le b a) c).1 in let two = ltb-true (unsigned_abs n) (10 ^ b) f in let three = pow-le-pow_right {n = 10} (omega arith) one in lt-ltb (unsigned_abs n) (10 ^ a) (omega (arith, two, three))
covers_fits (kind.Decimal a s) (kind.Decimal b t) (cell.Int n) c f = absurd (cc)
covers_fits (kind.Decimal a s) (kind.Decimal b t) (cell.Bool n) c f = absurd (cc)
covers_fits (kind.Decimal a s) (kind.Decimal b t) (cell.Text n) c f = absurd (cc)
covers_fits (kind.Decimal a s) (kind.Decimal b t) (cell.Bytes n) c f = absurd (cc)
covers_fits (kind.Decimal a s) kind.BigInt v c f = absurd (cc)
covers_fits (kind.Decimal a s) kind.Int v c f = absurd (cc)
covers_fits (kind.Decimal a s) kind.Bool v c f = absurd (cc)
covers_fits (kind.Decimal a s) (kind.Varchar d) v c f = absurd (cc)
covers_fits (kind.Decimal a s) (kind.Varbinary d) v c f = absurd (cc)

-- ---- rows

row_cell : (columns : List Column) (row : Cells) (i : ℕ) (c : Column) → fits_all (map (λ column. column.kind) columns) row ≡ true → slice_get columns i ≡ Some c
    → fits c.kind (get_or row i cell.Null) ≡ true
row_cell [] row i c h e = absurd (cc)
row_cell (x ∷ columns) [] i c h e = absurd (cc)
row_cell (x ∷ columns) (value ∷ row) zero c h e =
    ap (λ (k : Column). fits k.kind value) (sym (some_is x c e)) ∙ (and_parts (fits x.kind value) (fits_all (map (λ column. column.kind) columns) row) h).0
row_cell (x ∷ columns) (value ∷ row) (suc i) c h e = row_cell columns row i c (and_parts (fits x.kind value) (fits_all (map (λ column. column.kind) columns) row) h).1 e

default_is : (kind : SqlType) (default : Option Value) → default_fits kind default ≡ true → fits kind (default_cell default) ≡ true
default_is kind None h = fits_null kind
default_is kind (Some value) h = h

cell_fits : (s : Schema) (row : Cells) (c : Column) → is_row s row ≡ true → is_column c ≡ true → covers_in c.kind c.name (Some s) ≡ true → fits c.kind (projected_cell s row c) ≡ true
cell_fits s row c h is cover = by (place_of s.columns c.name) refl where
  by : (o : Option ℕ) → place_of s.columns c.name ≡ o → fits c.kind (cell_or_default row c.default o) ≡ true
  by None e = default_is c.kind c.default (and_parts _ (default_fits c.kind c.default) is).1
  by (Some place) e =
      let d = place_found s.columns c.name place e in
      let wide : covers c.kind d.0.kind ≡ true = ap (λ (o : Option Column). option_map_or (λ (part : Column). covers c.kind part.kind) o true) (sym d.2) ∙ cover in
      covers_fits c.kind d.0.kind (get_or row place cell.Null) wide (row_cell s.columns row place d.0 h d.1)

pub projected_fits : (s : Schema) (row : Cells) (columns : List Column) → is_row s row ≡ true → list_all is_column columns ≡ true
    → list_all (λ (c : Column). covers_in c.kind c.name (Some s)) columns ≡ true → fits_all (map (λ column. column.kind) columns) (map (projected_cell s row) columns) ≡ true
projected_fits s row [] h is cover = refl
projected_fits s row (c ∷ columns) h is cover =
    let one = and_parts (is_column c) (list_all is_column columns) is in
    let two = and_parts (covers_in c.kind c.name (Some s)) (list_all (λ (c : Column). covers_in c.kind c.name (Some s)) columns) cover in
    and_from _ _ (cell_fits s row c h one.0 two.0) (projected_fits s row columns h one.1 two.1)

-- ---- keys

pub key_cell : (s ours : Schema) (columns : List Column) (row : Cells) (x y : ℕ) (c : Column) → named_apart s.columns ≡ true → named_apart columns ≡ true
    → slice_get s.columns x ≡ Some c → slice_get ours.columns y ≡ Some c → named c.name columns ≡ Some c
    → get_or (map (projected_cell s row) columns) (moved_place columns ours y) cell.Null ≡ get_or row x cell.Null
key_cell s ours columns row x y c p q at other found =
    let moved = moved_is columns ours y c c q other found in
    let there = slice_get-map (projected_cell s row) columns (moved_place columns ours y) ∙ ap (option_map (projected_cell s row)) moved in
    get_or_from_slice_get (map (projected_cell s row) columns) (moved_place columns ours y) (projected_cell s row c) cell.Null there
    ∙ ap (cell_or_default row c.default) (get_place s.columns x c p at)

pub key_projected : (s ours : Schema) (columns : List Column) (row : Cells) (xs ys : List ℕ) → named_apart s.columns ≡ true → named_apart columns ≡ true → KeysMatch s ours xs ys
    → KeyStands columns ours ys → key_of (moved_places columns ours ys) (map (projected_cell s row) columns) ≡ key_of xs row
key_projected s ours columns row [] [] p q m k = refl
key_projected s ours columns row [] (y ∷ ys) p q m k = absurd m
key_projected s ours columns row (x ∷ xs) [] p q m k = absurd m
key_projected s ours columns row (x ∷ xs) (y ∷ ys) p q m k =
    let c = m.0 in
    let d = k.0 in
    let same : d.0 ≡ c.0 = some_is d.0 c.0 (sym d.1 ∙ c.2) in
    let found : named c.0.name columns ≡ Some c.0 = subst (λ (z : Column). named z.name columns ≡ Some z) same d.2 in
    let here = key_cell s ours columns row x y c.0 p q c.1 c.2 found in
    let rest = key_projected s ours columns row xs ys p q m.1 k.1 in
    ap (λ (v : Value). v ∷ key_of (moved_places columns ours ys) (map (projected_cell s row) columns)) here ∙ ap (λ (vs : Cells). get_or row x cell.Null ∷ vs) rest
