-- What merged schemas are, and what rows of the sides are on them.
use Rattle.std.proofs.Common.{◌≡◌, ◌⊎◌, ℕ, Bool, true, ltb, List, [], ◌∷◌, length, Option, Some, None, Ok, refl, sym, ap, ◌∙◌, subst, ◌&&◌}
use Rattle.std.specs.List.{list_all}
use Rattle.std.proofs.lemmas.Bool.{and_parts, and_from}
use Rattle.tuple_codec.specs.Rows.{AreTold, Cells, key_of}
use Rattle.schema_model.specs.PlainTables.{is_row, primary_key}
use Rattle.schema_model.specs.Sameness.{is_same_column}
use Rattle.schema_model.specs.Schemas.{are_columns, is_check, is_column, is_foreign, is_index, is_key, is_schema}
use Rattle.schema_model.specs.declared.schemas.Column.{Column}
use Rattle.schema_model.specs.declared.schemas.IndexDef.{IndexDef}
use Rattle.schema_model.specs.declared.schemas.CheckDef.{CheckDef}
use Rattle.schema_model.specs.declared.schemas.ForeignKey.{ForeignKey}
use Rattle.schema_model.specs.declared.schemas.Schema.{Schema}
use Rattle.schema_model.proofs.FitLemmas.{places_within}
use Rattle.schema_merge.specs.Parts.{Sides, covers_all, covers_in, moved_places, of_checks, of_columns, of_foreign, of_indexes, sides}
use Rattle.schema_merge.specs.Merging.{keys_agree, parts3, same_key, same_key_in, schema3, schema_of}
use Rattle.schema_merge.specs.Projecting.{projected}
use Rattle.table_merge.specs.Laws.{AreSchemas, IsBase, IsOneOf, IsOurs, IsSchemaPerhaps, IsTheirs}
use Rattle.table_merge.proofs.NameLemmas.{named_apart}
use Rattle.table_merge.proofs.PlaceLemmas.{positions_moved}
use Rattle.table_merge.proofs.SchemaLemmas.{IsForm, KeysMatch, by_side, checks_keep_name, columns_keep_name, few_of, foreign_keep_name, form_of, if_so_some, indexes_keep_name, keys_match, made_of, parts_apart, parts_few, parts_pass, same_keys}
use Rattle.table_merge.proofs.KeyLemmas.{BaseMatches, KeyStands, foreign_is, index_is, key_moves, key_not_null, key_projected, key_stands, projected_fits}

-- ---- the merged schema

columns_covered : (all : Sides) (columns : List Column) → IsForm all.ours → IsForm all.theirs → parts3 (λ part. part.name) of_columns all [] ≡ Ok columns
    → list_all (λ (c : Column). is_column c && covers_all all c) columns ≡ true
columns_covered all columns p q e =
    parts_pass (λ (c : Column). c.name) of_columns all [] (λ s c. is_column c) (λ (c : Column). is_column c && covers_all all c) columns p.columns q.columns
    (λ side old part of h moved. let m = if_so_some (covers_all all old) old part moved in
    ap (λ (c : Column). is_column c && covers_all all c) (sym m.1) ∙ and_from (is_column old) (covers_all all old) h m.0) e

all_parts : {P : Type 0} (p q : P → Bool) (xs : List P) → list_all (λ x. p x && q x) xs ≡ true → (list_all p xs ≡ true) × (list_all q xs ≡ true)
all_parts p q [] h = (refl, refl)
all_parts p q (x ∷ xs) h =
    let a = and_parts (p x && q x) (list_all (λ x. p x && q x) xs) h in
    let b = and_parts (p x) (q x) a.0 in
    let c = all_parts p q xs a.1 in
    (and_from _ _ b.0 c.0, and_from _ _ b.1 c.1)

base_matches : AreTold is_same_column → (base : Option Schema) (ours : Schema) → IsSchemaPerhaps base → IsForm ours → same_key_in base ours ≡ true → BaseMatches base ours ours.key
base_matches told None ours p q h = tt
base_matches told (Some base) ours p q h =
    ((form_of base p).apart, (base.key, keys_match told base ours base.key ours.key (places_within (length ours.columns) ours.key q.positions) h))

-- what is known of the merged schema
pub record IsMergedSchema (base : Option Schema) (ours theirs merged : Schema) : Type 0 where
  pub is : is_schema merged ≡ true
  pub columns : list_all is_column merged.columns ≡ true
  pub apart : named_apart merged.columns ≡ true
  pub cover : list_all (covers_all (sides base ours theirs)) merged.columns ≡ true
  pub agree : keys_agree (sides base ours theirs) ≡ true
  pub key : merged.key ≡ moved_places merged.columns ours ours.key
  pub stands : KeyStands merged.columns ours ours.key

pub merged_is : AreTold is_same_column → (base : Option Schema) (ours theirs merged : Schema) → AreSchemas base ours theirs → schema3 base ours theirs ≡ Ok merged
    → IsMergedSchema base ours theirs merged
merged_is told base ours theirs merged are e =
    let made = made_of base ours theirs merged e in
    subst (IsMergedSchema base ours theirs) made.is (made_is made.columns made.indexes made.checks made.foreign made.columns_are made.agree made.indexes_are made.checks_are made.foreign_are) where
      made_is : (columns : List Column) (indexes : List IndexDef) (checks : List CheckDef) (foreign : List ForeignKey)
          → parts3 (λ part. part.name) of_columns (sides base ours theirs) [] ≡ Ok columns → keys_agree (sides base ours theirs) ≡ true
          → parts3 (λ part. part.name) of_indexes (sides base ours theirs) columns ≡ Ok indexes → parts3 (λ part. part.name) of_checks (sides base ours theirs) columns ≡ Ok checks
          → parts3 (λ part. part.name) of_foreign (sides base ours theirs) columns ≡ Ok foreign → IsMergedSchema base ours theirs (schema_of ours columns indexes checks foreign)
      made_is columns indexes checks foreign c k i h f =
          let all = sides base ours theirs in
          let p = form_of ours are.ours_is in
          let q = form_of theirs are.theirs_is in
          let few_p = few_of ours are.ours_within in
          let few_q = few_of theirs are.theirs_within in
          let both = all_parts is_column (covers_all all) columns (columns_covered all columns p q c) in
          let apart = parts_apart (λ (x : Column). x.name) of_columns all [] columns (columns_keep_name all []) p.apart q.apart c in
          let agree = and_parts (same_key theirs ours) (same_key_in base ours) k in
          let within = places_within (length ours.columns) ours.key p.positions in
          let match = keys_match told theirs ours theirs.key ours.key within agree.0 in
          let stands = key_stands told all columns c p.apart q.apart theirs.key ours.key match (base_matches told base ours are.base_is p agree.1) in
          let key : is_key columns (moved_places columns ours ours.key) ≡ true =
          and_from _ _ (positions_moved columns ours ours.key p.apart (key_moves columns ours ours.key apart stands) p.positions) (key_not_null columns ours ours.key apart stands p.not_null) in
          let are_all_columns : are_columns columns ≡ true = and_from _ _ (and_from _ _ (parts_few (λ (x : Column). x.name) of_columns all [] columns few_p.columns few_q.columns c) both.0) apart in
          let old_apart = λ (side : Schema) (of : (side ≡ ours) ⊎ (side ≡ theirs)). by_side (λ (s : Schema). named_apart s.columns ≡ true) all side of p.apart q.apart in
          let each_index = parts_pass (λ (x : IndexDef). x.name) of_indexes all columns (λ s. is_index (length s.columns)) (is_index (length columns)) indexes p.indexes q.indexes
          (λ side old part of before moved. let m = if_so_some _ _ part moved in index_is columns side old part apart (old_apart side of) before m.0 m.1) i in
          let each_check = parts_pass (λ (x : CheckDef). x.name) of_checks all columns (λ s. is_check) is_check checks p.checks q.checks
          (λ side old part of before moved. let m = if_so_some _ _ part moved in ap is_check (sym m.1) ∙ before) h in
          let each_foreign = parts_pass (λ (x : ForeignKey). x.name) of_foreign all columns (λ s. is_foreign (length s.columns)) (is_foreign (length columns)) foreign p.foreign q.foreign
          (λ side old part of before moved. let m = if_so_some _ _ part moved in foreign_is columns side old part apart (old_apart side of) before m.0 m.1) f in
          let index_apart = parts_apart (λ (x : IndexDef). x.name) of_indexes all columns indexes (indexes_keep_name all columns) p.indexes_apart q.indexes_apart i in
          let check_apart = parts_apart (λ (x : CheckDef). x.name) of_checks all columns checks (checks_keep_name all columns) p.checks_apart q.checks_apart h in
          let foreign_apart = parts_apart (λ (x : ForeignKey). x.name) of_foreign all columns foreign (foreign_keep_name all columns) p.foreign_apart q.foreign_apart f in
          let index_few = parts_few (λ (x : IndexDef). x.name) of_indexes all columns indexes few_p.indexes few_q.indexes i in
          let check_few = parts_few (λ (x : CheckDef). x.name) of_checks all columns checks few_p.checks few_q.checks h in
          let foreign_few = parts_few (λ (x : ForeignKey). x.name) of_foreign all columns foreign few_p.foreign few_q.foreign f in
          record {
            is = and_from _ _ (and_from _ _ (and_from _ _ (and_from _ _ are_all_columns key) (and_from _ _ (and_from _ _ index_few each_index) index_apart))
                (and_from _ _ (and_from _ _ check_few each_check) check_apart)) (and_from _ _ (and_from _ _ foreign_few each_foreign) foreign_apart);
            columns = both.0;
            apart = apart;
            cover = both.1;
            agree = k;
            key = refl;
            stands = stands;
          }

-- ---- the sides' rows

covers_one : (base : Option Schema) (ours theirs s : Schema) → IsOneOf base ours theirs s → (columns : List Column) → list_all (covers_all (sides base ours theirs)) columns ≡ true
    → list_all (λ (c : Column). covers_in c.kind c.name (Some s)) columns ≡ true
covers_one base ours theirs s of [] h = refl
covers_one base ours theirs s of (c ∷ columns) h =
    let one = and_parts (covers_all (sides base ours theirs) c) (list_all (covers_all (sides base ours theirs)) columns) h in
    and_from _ _ (by of one.0) (covers_one base ours theirs s of columns one.1) where
      by : IsOneOf base ours theirs s → covers_all (sides base ours theirs) c ≡ true → covers_in c.kind c.name (Some s) ≡ true
      by (IsBase e) h = let a = and_parts _ (covers_in c.kind c.name (Some theirs)) h in let b = and_parts (covers_in c.kind c.name base) _ a.0 in ap (covers_in c.kind c.name) (sym e) ∙ b.0
      by (IsOurs e) h = let a = and_parts _ (covers_in c.kind c.name (Some theirs)) h in let b = and_parts (covers_in c.kind c.name base) _ a.0 in
          ap (λ (k : Schema). covers_in c.kind c.name (Some k)) (sym e) ∙ b.1
      by (IsTheirs e) h = let a = and_parts _ (covers_in c.kind c.name (Some theirs)) h in ap (λ (k : Schema). covers_in c.kind c.name (Some k)) (sym e) ∙ a.1

match_one : AreTold is_same_column → (base : Option Schema) (ours theirs s : Schema) → AreSchemas base ours theirs → keys_agree (sides base ours theirs) ≡ true → IsOneOf base ours theirs s
    → KeysMatch s ours s.key ours.key
match_one told base ours theirs s are k of =
    by of (places_within (length ours.columns) ours.key (form_of ours are.ours_is).positions) (and_parts (same_key theirs ours) (same_key_in base ours) k) where
      by : IsOneOf base ours theirs s → list_all (λ position. ltb position (length ours.columns)) ours.key ≡ true → (same_key theirs ours ≡ true) × (same_key_in base ours ≡ true)
          → KeysMatch s ours s.key ours.key
      by (IsBase e) w agree = keys_match told s ours s.key ours.key w (ap (λ (o : Option Schema). same_key_in o ours) (sym e) ∙ agree.1)
      by (IsOurs e) w agree = subst (λ (x : Schema). KeysMatch x ours x.key ours.key) e (same_keys ours ours.key w)
      by (IsTheirs e) w agree = keys_match told s ours s.key ours.key w (ap (λ (x : Schema). same_key x ours) (sym e) ∙ agree.0)

pub one_is : (base : Option Schema) (ours theirs s : Schema) → AreSchemas base ours theirs → IsOneOf base ours theirs s → is_schema s ≡ true
one_is base ours theirs s are (IsBase e) = subst IsSchemaPerhaps e are.base_is
one_is base ours theirs s are (IsOurs e) = ap is_schema (sym e) ∙ are.ours_is
one_is base ours theirs s are (IsTheirs e) = ap is_schema (sym e) ∙ are.theirs_is

-- a side's row on the merged schema is a row of it, under the same key
pub side_row : AreTold is_same_column → (base : Option Schema) (ours theirs merged s : Schema) → AreSchemas base ours theirs → schema3 base ours theirs ≡ Ok merged
    → IsOneOf base ours theirs s → (row : Cells) → is_row s row ≡ true
    → (is_row merged (projected s merged row) ≡ true) × (primary_key merged (projected s merged row) ≡ primary_key s row)
side_row told base ours theirs merged s are e of row h =
    let m = merged_is told base ours theirs merged are e in
    let fits = projected_fits s row merged.columns h m.columns (covers_one base ours theirs s of merged.columns m.cover) in
    let key = key_projected s ours merged.columns row s.key ours.key (form_of s (one_is base ours theirs s are of)).apart m.apart (match_one told base ours theirs s are m.agree of) m.stands in
    (fits, ap (λ (k : List ℕ). key_of k (projected s merged row)) m.key ∙ key)
