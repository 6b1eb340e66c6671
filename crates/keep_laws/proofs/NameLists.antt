-- Names that constraints have: those given, and those made for the ones without.
use Rattle.std.proofs.Common.{◌≡◌, ◌<◌, ◌≤◌, refl, ◌∙◌, ℕ, zero, suc, ◌+◌, ◌^◌, Bool, true, false, not, ◌&&◌, leb, ltb, List, [], ◌∷◌, ◌++◌, filter, length, Option, Some, None, arith, bytes_eq}
use Rattle.std.specs.Cmp.Lexicographic.{bytes_decides}
use Rattle.std.specs.Fmt.{decimal}
use Rattle.std.specs.List.{list_all, list_any}
use Rattle.std.specs.Str.{IsAscii, IsUtf8}
use Rattle.std.proofs.lemmas.Bool.{and_parts, leb-true, lt-ltb, ltb-true, not-true, not_from_false, or_parts}
use Rattle.std.proofs.lemmas.Fmt.{decimal_injective, IsAscii-decimal}
use Rattle.std.proofs.lemmas.List.{append_cancel_left}
use Rattle.std.proofs.lemmas.Str.{IsUtf8-append, IsUtf8-from_ascii, IsUtf8-nil}
use Rattle.tuple_codec.proofs.ByteLemmas.{bytes_turned as eq_turned}
use Rattle.tuple_codec.specs.Texts.{is_utf8}
use Rattle.tuple_codec.proofs.Utf8Lemmas.{from_test, to_test}
use Rattle.schema_model.specs.Limits.{is_short_name}
use Rattle.schema_model.specs.Schemas.{are_distinct, is_name}
use Rattle.sql_ast.specs.declared.tables.Element.{Element}
use Rattle.sql_rules.specs.Constraints.{is_free, made_name, made_names, names_from, unnamed, word_of}
use Rattle.sql_rules.specs.Names.{in_given}
use Rattle.sql_rules.specs.declared.constraints.Sort.{Sort}
use Rattle.sql_rules.specs.declared.constraints.Sort.TheVariants as sort
use Rattle.plain_schemas.specs.Made.{name_for}
use Rattle.keep_laws.proofs.ListLemmas.{filter_all, filter_apart, filter_keep, first_all, first_apart}
use Rattle.plain_writes.proofs.RowOrderLemmas.{both_so, neither_so, two}

-- ---- the names that come out

abbrev pub named : List (List ℕ) → List (Option (List ℕ)) → List (List ℕ)
named made [] = []
named made (o ∷ os) = let one = name_for made o in one.0 ∷ named one.1 os

-- a name is among those given
abbrev pub has_given : List ℕ → List (Option (List ℕ)) → Bool
has_given name os = list_any (λ o. in_given (bytes_eq name) o) os

abbrev pub apart_given : List (Option (List ℕ)) → Bool
apart_given [] = true
apart_given (Some name ∷ os) = not (has_given name os) && apart_given os
apart_given (None ∷ os) = apart_given os

short_not : (name : List ℕ) → is_short_name name ≡ true → bytes_eq name [] ≡ false
short_not [] h = absurd (let one : 1 ≤ 0 = leb-true 1 0 (and_parts (leb 1 0) (leb 0 64) h).0 in omega (arith, one))
short_not (byte ∷ name) h = refl

not_among : (name : List ℕ) (made : List (List ℕ)) (os : List (Option (List ℕ))) → bytes_eq name [] ≡ false → list_any (bytes_eq name) made ≡ false → has_given name os ≡ false
    → list_any (bytes_eq name) (named made os) ≡ false
not_among name made [] some h g = refl
not_among name made (Some one ∷ os) some h g =
    let parts = or_parts (bytes_eq name one) (has_given name os) g in neither_so parts.0 (not_among name made os some h parts.1)
not_among name [] (None ∷ os) some h g = neither_so some (not_among name [] os some h g)
not_among name (first ∷ made) (None ∷ os) some h g =
    let parts = or_parts (bytes_eq name first) (list_any (bytes_eq name) made) h in neither_so parts.0 (not_among name made os some parts.1 g)

abbrev pub unlike : List (Option (List ℕ)) → List ℕ → Bool
unlike os name = not (has_given name os)

unlike_rest : (o : Option (List ℕ)) (os : List (Option (List ℕ))) (made : List (List ℕ)) → list_all (unlike (o ∷ os)) made ≡ true → list_all (unlike os) made ≡ true
unlike_rest o os [] h = refl
unlike_rest o os (name ∷ made) h =
    let parts = and_parts (unlike (o ∷ os) name) (list_all (unlike (o ∷ os)) made) h in
    let apart = or_parts (in_given (bytes_eq name) o) (has_given name os) (not-true _ parts.0) in
    both_so (not_from_false _ apart.1) (unlike_rest o os made parts.1)

none_made : (name : List ℕ) (os : List (Option (List ℕ))) (made : List (List ℕ)) → list_all (unlike (Some name ∷ os)) made ≡ true → list_any (bytes_eq name) made ≡ false
none_made name os [] h = refl
none_made name os (first ∷ made) h =
    let parts = and_parts (unlike (Some name ∷ os) first) (list_all (unlike (Some name ∷ os)) made) h in
    let apart = or_parts (bytes_eq first name) (has_given first os) (not-true _ parts.0) in
    neither_so (eq_turned name first ∙ apart.0) (none_made name os made parts.1)

-- names differ where those made and those given do, none of the one is one of the other, and none is empty
pub named_apart : (made : List (List ℕ)) (os : List (Option (List ℕ))) → are_distinct bytes_eq made ≡ true → apart_given os ≡ true → list_all (unlike os) made ≡ true
    → list_all is_short_name (named made os) ≡ true → are_distinct bytes_eq (named made os) ≡ true
named_apart made [] d a f s = refl
named_apart made (Some name ∷ os) d a f s =
    let apart = and_parts (unlike os name) (apart_given os) a in
    let short = and_parts (is_short_name name) (list_all is_short_name (named made os)) s in
    both_so (not_from_false _ (not_among name made os (short_not name short.0) (none_made name os made f) (not-true _ apart.0)))
    (named_apart made os d apart.1 (unlike_rest (Some name) os made f) short.1)
named_apart [] (None ∷ os) d a f s = absurd (let one : 1 ≤ 0 = leb-true 1 0 (and_parts (leb 1 0) (leb 0 64) (and_parts (is_short_name []) (list_all is_short_name (named [] os)) s).0).0 in omega (arith, one))
named_apart (first ∷ made) (None ∷ os) d a f s =
    let apart = and_parts (not (list_any (bytes_eq first) made)) (are_distinct bytes_eq made) d in
    let short = and_parts (is_short_name first) (list_all is_short_name (named made os)) s in
    let free = and_parts (unlike (None ∷ os) first) (list_all (unlike (None ∷ os)) made) f in
    both_so (not_from_false _ (not_among first made os (short_not first short.0) (not-true _ apart.0) (not-true _ free.0)))
    (named_apart made os apart.1 a (unlike_rest None os made free.1) short.1)

-- ---- they are names

abbrev pub given_utf8 : Option (List ℕ) → Bool
given_utf8 None = true
given_utf8 (Some name) = is_utf8 name

named_utf8 : (made : List (List ℕ)) (os : List (Option (List ℕ))) → list_all is_utf8 made ≡ true → list_all given_utf8 os ≡ true → list_all is_utf8 (named made os) ≡ true
named_utf8 made [] h g = refl
named_utf8 made (Some name ∷ os) h g = let parts = and_parts (is_utf8 name) (list_all given_utf8 os) g in both_so parts.0 (named_utf8 made os h parts.1)
named_utf8 [] (None ∷ os) h g = both_so (to_test [] IsUtf8-nil) (named_utf8 [] os h g)
named_utf8 (first ∷ made) (None ∷ os) h g = let parts = and_parts (is_utf8 first) (list_all is_utf8 made) h in both_so parts.0 (named_utf8 made os parts.1 g)

names_are : (names : List (List ℕ)) → list_all is_utf8 names ≡ true → list_all is_short_name names ≡ true → list_all is_name names ≡ true
names_are [] h s = refl
names_are (name ∷ names) h s =
    let text = and_parts (is_utf8 name) (list_all is_utf8 names) h in
    let short = and_parts (is_short_name name) (list_all is_short_name names) s in
    let few = leb-true (length name) 64 (and_parts (leb 1 (length name)) (leb (length name) 64) short.0).1 in
    both_so (both_so (lt-ltb (length name) 256 (omega (arith, few))) text.0) (names_are names text.1 short.1)

pub named_are : (made : List (List ℕ)) (os : List (Option (List ℕ))) → list_all is_utf8 made ≡ true → list_all given_utf8 os ≡ true → list_all is_short_name (named made os) ≡ true → list_all is_name (named made os) ≡ true
named_are made os h g s = names_are (named made os) (named_utf8 made os h g) s

-- ---- the names that are made

made_one : (table : List ℕ) (kind : Sort) (m n : ℕ) → m < 2 ^ 64 → n < 2 ^ 64 → made_name table kind m ≡ made_name table kind n → m ≡ n
made_one table kind m n p q e = decimal_injective m n p q (append_cancel_left (table ++ word_of kind) (decimal m) (decimal n) e)

made_unlike : (table : List ℕ) (kind : Sort) (m n : ℕ) → m < n → n < 2 ^ 64 → bytes_eq (made_name table kind m) (made_name table kind n) ≡ false
made_unlike table kind m n p q = two (bytes_eq (made_name table kind m) (made_name table kind n))
    (λ t. absurd (let same : m ≡ n = made_one table kind m n (omega arith) q ((bytes_decides (made_name table kind m) (made_name table kind n)).0 t) in omega (arith, same)))
    (λ t. t)

not_from : (table : List ℕ) (kind : Sort) (m n more : ℕ) → m < n → n + more < 2 ^ 64 → list_any (bytes_eq (made_name table kind m)) (names_from table kind n more) ≡ false
not_from table kind m n zero p q = refl
not_from table kind m n (suc more) p q = neither_so (made_unlike table kind m n p (omega arith)) (not_from table kind m (n + 1) more (omega arith) (omega arith))

from_apart : (table : List ℕ) (kind : Sort) (n more : ℕ) → n + more < 2 ^ 64 → are_distinct bytes_eq (names_from table kind n more) ≡ true
from_apart table kind n zero q = refl
from_apart table kind n (suc more) q = both_so (not_from_false _ (not_from table kind n (n + 1) more (omega arith) (omega arith))) (from_apart table kind (n + 1) more (omega arith))

ascii : (bytes : List ℕ) → list_all (λ byte. ltb byte 128) bytes ≡ true → IsAscii bytes
ascii [] h i = omega arith
ascii (byte ∷ bytes) h zero = ltb-true byte 128 (and_parts (ltb byte 128) (list_all (λ byte. ltb byte 128) bytes) h).0
ascii (byte ∷ bytes) h (suc i) = ascii bytes (and_parts (ltb byte 128) (list_all (λ byte. ltb byte 128) bytes) h).1 i

word_text : (kind : Sort) → IsUtf8 (word_of kind)
word_text sort.Unique = IsUtf8-from_ascii (word_of sort.Unique) (ascii (word_of sort.Unique) refl)
word_text sort.Check = IsUtf8-from_ascii (word_of sort.Check) (ascii (word_of sort.Check) refl)
word_text sort.ForeignKey = IsUtf8-from_ascii (word_of sort.ForeignKey) (ascii (word_of sort.ForeignKey) refl)

made_utf8 : (table : List ℕ) (kind : Sort) (n : ℕ) → is_utf8 table ≡ true → n < 2 ^ 64 → is_utf8 (made_name table kind n) ≡ true
made_utf8 table kind n h q =
    to_test (made_name table kind n) (IsUtf8-append (table ++ word_of kind) (decimal n) (IsUtf8-append table (word_of kind) (from_test table h) (word_text kind)) (IsUtf8-from_ascii (decimal n) (IsAscii-decimal n q)))

from_utf8 : (table : List ℕ) (kind : Sort) (n more : ℕ) → is_utf8 table ≡ true → n + more < 2 ^ 64 → list_all is_utf8 (names_from table kind n more) ≡ true
from_utf8 table kind n zero h q = refl
from_utf8 table kind n (suc more) h q = both_so (made_utf8 table kind n h (omega arith)) (from_utf8 table kind (n + 1) more h (omega arith))

-- of so many elements at most that their numbers can be told apart
pub record AreMade (elements : List Element) (made : List (List ℕ)) : Type 0 where
  pub apart : are_distinct bytes_eq made ≡ true
  pub free : list_all (is_free elements) made ≡ true
  pub utf8 : list_all is_utf8 made ≡ true

pub made_are : (table : List ℕ) (elements : List Element) (kind : Sort) → is_utf8 table ≡ true → unnamed kind elements + length elements < 2 ^ 32 → AreMade elements (made_names table elements kind)
made_are table elements kind text few =
    let most = unnamed kind elements + length elements in
    let all = names_from table kind 1 most in
    let low : 1 + most < 2 ^ 64 = omega arith in
    record {
      apart = first_apart bytes_eq (unnamed kind elements) (filter (is_free elements) all) (filter_apart (is_free elements) bytes_eq all (from_apart table kind 1 most low));
      free = first_all (is_free elements) (unnamed kind elements) (filter (is_free elements) all) (filter_keep (is_free elements) all);
      utf8 = first_all is_utf8 (unnamed kind elements) (filter (is_free elements) all) (filter_all (is_free elements) is_utf8 all (from_utf8 table kind 1 most text low));
    }
