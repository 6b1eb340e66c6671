-- When violations differ.
use Rattle.std.proofs.Common.{◌≡◌, ◌∙◌, false, nat_cmp, bytes_eq}
use Rattle.std.specs.Cmp.Lexicographic.{slice_cmp}
use Rattle.std.specs.Ordering.{is_eq, ordering_then}
use Rattle.std.proofs.lemmas.Map.Text.{is_eq-slice_cmp}
use Rattle.tuple_codec.specs.Rows.{key_cmp}
use Rattle.schema_model.specs.PlainTables.{Violation, violation_cmp}
use Rattle.tuple_codec.proofs.Orderings.{then_right, then_left}

pub names_apart : (a b : Violation) → bytes_eq a.constraint b.constraint ≡ false → is_eq (violation_cmp a b) ≡ false
names_apart a b apart =
    then_right (nat_cmp a.kind b.kind) (ordering_then (slice_cmp nat_cmp a.constraint b.constraint) (key_cmp a.key b.key))
    (then_left (slice_cmp nat_cmp a.constraint b.constraint) (key_cmp a.key b.key) (is_eq-slice_cmp a.constraint b.constraint ∙ apart))
