-- What names a branch or a commit in a call has the form of a branch's name.
use Rattle.std.proofs.Common.{◌≡◌, ◌≢◌, refl, ◌∙◌, sym, ap, ℕ, Bool, true, false, not, ◌&&◌, ◌||◌, ◌==◌, nat_le, List, [], ◌∷◌, length, Some, None, if◌then◌else◌}
use Rattle.std.specs.List.{list_all}
use Rattle.std.proofs.lemmas.Bool.{and_parts, and_from as both_true}
use Rattle.tuple_codec.proofs.Lists.{all_weaker}
use Rattle.sql_procedures.specs.Arguments as call
use Rattle.sql_procedures.specs.Arguments.{begins_with_minus, is_point}
use Rattle.table_root.specs.Names.{begins_well, is_branch_name, is_name_byte, name_of}

four : (w x y z : Bool) → ((w || x) || y) || z ≡ (w || (x || (y || z)))
four true x y z = refl
four false true y z = refl
four false false true z = refl
four false false false z = refl

shuffled : (a b c w x y z : Bool) → (((((a || b) || c) || w) || x) || y) || z ≡ (((c || b) || a) || (w || (x || (y || z))))
shuffled true true true w x y z = refl
shuffled true true false w x y z = refl
shuffled true false true w x y z = refl
shuffled true false false w x y z = refl
shuffled false true true w x y z = refl
shuffled false true false w x y z = refl
shuffled false false true w x y z = refl
shuffled false false false w x y z = four w x y z

same_byte : (byte : ℕ) → call.is_name_byte byte ≡ is_name_byte byte
same_byte byte =
    shuffled (nat_le 97 byte && nat_le byte 122) (nat_le 65 byte && nat_le byte 90) (nat_le 48 byte && nat_le byte 57) (byte == 95) (byte == 45) (byte == 46) (byte == 47)

begins : (bytes : List ℕ) → nat_le 1 (length bytes) ≡ true → not (begins_with_minus bytes) ≡ true → begins_well bytes ≡ true
begins [] some plain = absurd (cc)
begins (byte ∷ bytes) some plain = plain

pub point_is_name : (bytes : List ℕ) → is_point bytes ≡ true → is_branch_name bytes ≡ true
point_is_name bytes is =
    let some = nat_le 1 (length bytes) in
    let few = nat_le (length bytes) 64 in
    let all = list_all call.is_name_byte bytes in
    let first = and_parts ((some && few) && all) (not (begins_with_minus bytes)) is in
    let second = and_parts (some && few) all first.0 in
    let third = and_parts some few second.0 in
    both_true (begins_well bytes) (few && list_all is_name_byte bytes) (begins bytes third.0 first.1)
    (both_true few (list_all is_name_byte bytes) third.1
    (all_weaker call.is_name_byte is_name_byte (λ byte so. sym (same_byte byte) ∙ so) bytes second.1))

-- so it is read as one
pub point_is_read : (bytes : List ℕ) → is_point bytes ≡ true → name_of bytes ≡ Some bytes
point_is_read bytes is = ap (λ (test : Bool). if test then Some bytes else None) (point_is_name bytes is)

pub point_is_there : (bytes : List ℕ) → is_point bytes ≡ true → name_of bytes ≢ None
point_is_there bytes is none = let same : Some bytes ≡ None = sym (point_is_read bytes is) ∙ none in absurd (cc)
