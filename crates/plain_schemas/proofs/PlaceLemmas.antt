-- Places of columns fit in a byte where the columns are few, and the keys of a schema are those of its parts.
use Rattle.std.proofs.Common.{◌≡◌, ℕ, ◌≤◌, ◌<◌, Bool, true, false, cond, List, [], ◌∷◌, length, map, filter, Some, None, refl, arith, ltb}
use Rattle.std.specs.List.{flat_map, list_all, list_any}
use Rattle.std.specs.Option.{option_to_list}
use Rattle.std.proofs.lemmas.Bool.{and_from, lt-ltb}
use Rattle.std.proofs.lemmas.List.Quantifiers.{position-Some}
use Rattle.tuple_codec.proofs.Lists.{all_append}
use Rattle.tuple_codec.specs.declared.values.SqlType.TheVariants as type
use Rattle.schema_model.specs.declared.schemas.Column.{Column}
use Rattle.sql_ast.specs.declared.tables.Element.{Element}
use Rattle.sql_ast.specs.declared.tables.Element.TheVariants as element
use Rattle.sql_rules.specs.Tables.{is_key_mark}
use Rattle.plain_schemas.specs.declared.naming.IndexPart.{IndexPart}
use Rattle.plain_schemas.specs.Lists.{fits_byte, place_in, places}
use Rattle.plain_schemas.specs.Made.{index_of, indexes_named, key_in, name_for, unique_places}

abbrev some_column : Column
some_column = record { name = []; kind = type.BigInt; not_null = false; default = None }

place_fits : (columns : List Column) (name : List ℕ) → length columns ≤ 64 → list_all fits_byte (option_to_list (place_in columns name)) ≡ true
place_fits columns name few =
    elim (place_in columns name) as (λ o. place_in columns name ≡ o → list_all fits_byte (option_to_list o) ≡ true) [
      | None ↦ λ e. refl
      | Some at ↦ λ e.
          let below = (position-Some _ columns at some_column e).0 in
          let small : at < 256 = omega (arith, below, few) in
          and_from (ltb at 256) true (lt-ltb at 256 small) refl
    ] refl

pub places_fit : (columns : List Column) (names : List (List ℕ)) → length columns ≤ 64 → list_all fits_byte (places columns names) ≡ true
places_fit columns [] few = refl
places_fit columns (name ∷ names) few = all_append fits_byte (option_to_list (place_in columns name)) (places columns names) (place_fits columns name few) (places_fit columns names few)

column_fits : (b : Bool) (columns : List Column) (name : List ℕ) → length columns ≤ 64
    → list_all fits_byte (cond b (option_to_list (place_in columns name)) []) ≡ true
column_fits true columns name few = place_fits columns name few
column_fits false columns name few = refl

key_fits : (columns : List Column) (e : Element) → length columns ≤ 64 → list_all fits_byte (key_in columns e) ≡ true
key_fits columns (element.Column column) few = column_fits (list_any is_key_mark column.attributes) columns column.name few
key_fits columns (element.PrimaryKey names) few = places_fit columns names few
key_fits columns other few = refl

pub keys_fit : (columns : List Column) (elements : List Element) → length columns ≤ 64 → list_all fits_byte (flat_map (key_in columns) elements) ≡ true
keys_fit columns [] few = refl
keys_fit columns (e ∷ elements) few = all_append fits_byte (key_in columns e) (flat_map (key_in columns) elements) (key_fits columns e few) (keys_fit columns elements few)

kept : {A B C : Type 0} (f : A → C) (g : B → C) (b : Bool) (x : A) (y : B) (xs : List A) (ys : List B)
    → f x ≡ g y → map f xs ≡ map g ys → map f (cond b (x ∷ xs) xs) ≡ map g (cond b (y ∷ ys) ys)
kept f g true x y xs ys e h = λ i. e i ∷ h i
kept f g false x y xs ys e h = h

pub named_places : (columns : List Column) (made : List (List ℕ)) (parts : List IndexPart)
    → map (λ index. index.columns) (filter (λ index. index.unique) (indexes_named columns made parts)) ≡ unique_places columns parts
named_places columns made [] = refl
named_places columns made (part ∷ parts) =
    kept (λ index. index.columns) (λ one. places columns one.columns) part.unique (index_of columns part (name_for made part.name).0) part _ _
    refl (named_places columns (name_for made part.name).1 parts)
