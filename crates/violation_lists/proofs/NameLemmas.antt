-- Each table of a database is found by its name.
use Rattle.std.proofs.Common.{◌≡◌, refl, sym, ap, ◌∙◌, true, false, cond, nat_cmp, is_lt, List, [], ◌∷◌, Some}
use Rattle.std.specs.Cmp.Lexicographic.{bytes_decides, slice_cmp}
use Rattle.std.specs.List.{AllByRecursion, find, list_all}
use Rattle.std.specs.Option.{option_map}
use Rattle.std.specs.Ordering.{is_eq}
use Rattle.std.proofs.lemmas.Bool.{and_from, and_parts}
use Rattle.std.proofs.lemmas.Cmp.{nat_list_cmp_total}
use Rattle.std.proofs.lemmas.Map.Text.{is_eq-slice_cmp}
use Rattle.tuple_codec.proofs.Orderings.{less_is}
use Rattle.schema_model.specs.PlainTables.{NamedTable, rises}
use Rattle.plain_writes.specs.Violations.{is_called, table_in}

pub apart : (x y : NamedTable) → is_lt (slice_cmp nat_cmp x.name y.name) ≡ true → is_called y.name x ≡ false
apart x y less = sym (is_eq-slice_cmp x.name y.name) ∙ ap is_eq (less_is (slice_cmp nat_cmp x.name y.name) less)

less_again : (x y z : NamedTable) → is_lt (slice_cmp nat_cmp x.name y.name) ≡ true → is_lt (slice_cmp nat_cmp y.name z.name) ≡ true → is_lt (slice_cmp nat_cmp x.name z.name) ≡ true
less_again x y z first second =
    let total = nat_list_cmp_total in
    ap is_lt (total.trans x.name y.name z.name (less_is (slice_cmp nat_cmp x.name y.name) first) (less_is (slice_cmp nat_cmp y.name z.name) second))

abbrev pub Rise : List NamedTable → Type 0
Rise tables = rises (λ (a b : NamedTable). slice_cmp nat_cmp a.name b.name) tables ≡ true

abbrev pub Lies : NamedTable → NamedTable → Type 0
Lies x y = is_called y.name x ≡ false

abbrev pub Finds : List NamedTable → NamedTable → Type 0
Finds tables y = table_in tables y.name ≡ Some y.table

without_second : (x y : NamedTable) (tables : List NamedTable) → Rise (x ∷ y ∷ tables) → Rise (x ∷ tables)
without_second x y [] r = refl
without_second x y (z ∷ tables) r =
    let after = (and_parts (is_lt (slice_cmp nat_cmp x.name y.name)) (rises (λ (a b : NamedTable). slice_cmp nat_cmp a.name b.name) (y ∷ z ∷ tables)) r).1 in
    and_from _ _ (less_again x y z ((and_parts (is_lt (slice_cmp nat_cmp x.name y.name)) (rises (λ (a b : NamedTable). slice_cmp nat_cmp a.name b.name) (y ∷ z ∷ tables)) r).0)
    ((and_parts (is_lt (slice_cmp nat_cmp y.name z.name)) (rises (λ (a b : NamedTable). slice_cmp nat_cmp a.name b.name) (z ∷ tables)) after).0))
    ((and_parts (is_lt (slice_cmp nat_cmp y.name z.name)) (rises (λ (a b : NamedTable). slice_cmp nat_cmp a.name b.name) (z ∷ tables)) after).1)

pub others_apart : (x : NamedTable) (tables : List NamedTable) → Rise (x ∷ tables) → AllByRecursion (Lies x) tables
others_apart x [] r = tt
others_apart x (y ∷ tables) r =
    (apart x y ((and_parts (is_lt (slice_cmp nat_cmp x.name y.name)) (rises (λ (a b : NamedTable). slice_cmp nat_cmp a.name b.name) (y ∷ tables)) r).0), others_apart x tables (without_second x y tables r))

found_behind : (x : NamedTable) (database tables : List NamedTable) → AllByRecursion (Lies x) tables → AllByRecursion (Finds database) tables → AllByRecursion (Finds (x ∷ database)) tables
found_behind x database [] lies finds = tt
found_behind x database (y ∷ tables) lies finds =
    (ap (λ b. option_map (λ (one : NamedTable). one.table) (cond b (Some x) (find (is_called y.name) database))) lies.0 ∙ finds.0, found_behind x database tables lies.1 finds.1)

pub rest_rises : (x : NamedTable) (tables : List NamedTable) → Rise (x ∷ tables) → Rise tables
rest_rises x [] r = refl
rest_rises x (y ∷ tables) r = (and_parts (is_lt (slice_cmp nat_cmp x.name y.name)) (rises (λ (a b : NamedTable). slice_cmp nat_cmp a.name b.name) (y ∷ tables)) r).1

pub each_found : (database : List NamedTable) → Rise database → AllByRecursion (Finds database) database
each_found [] r = tt
each_found (x ∷ database) r = (
  ap (λ b. option_map (λ (one : NamedTable). one.table) (cond b (Some x) (find (is_called x.name) database))) ((bytes_decides x.name x.name).1 refl),
  found_behind x database database (others_apart x database r) (each_found database (rest_rises x database r)),
)

-- all tables behind the first have names above its own
pub others_after : (x : NamedTable) (tables : List NamedTable) → Rise (x ∷ tables) → list_all (λ (y : NamedTable). is_lt (slice_cmp nat_cmp x.name y.name)) tables ≡ true
others_after x [] r = refl
others_after x (y ∷ tables) r =
    and_from _ _ ((and_parts (is_lt (slice_cmp nat_cmp x.name y.name)) (rises (λ (a b : NamedTable). slice_cmp nat_cmp a.name b.name) (y ∷ tables)) r).0) (others_after x tables (without_second x y tables r))
