-- The order of keys.
use Rattle.std.proofs.Common.{◌≡◌, ℕ, false, List, sym, ap, ◌∙◌}
use Rattle.std.specs.Prelude.{bytes_eq}
use Rattle.std.specs.Ordering.{is_eq, ordering_reverse}
use Rattle.std.specs.declared.cmp.Ordering.TheVariants.{Less, Equal, Greater}
use Rattle.std.specs.FinMap.{nat_cmp-IsAntisymmetric, slice_cmp-IsAntisymmetric}
use Rattle.std.proofs.lemmas.Cmp.{nat_list_cmp_total}
use Rattle.std.proofs.lemmas.Map.Text.{is_eq-slice_cmp}
use Rattle.tuple_codec.specs.Edits.{order}

pub less_trans : (a b c : List ℕ) → order a b ≡ Less → order b c ≡ Less → order a c ≡ Less
less_trans a b c = nat_list_cmp_total.trans a b c

-- the other way round
pub turned : (a b : List ℕ) → order a b ≡ Greater → order b a ≡ Less
turned a b e = nat_list_cmp_total.antisymm b a ∙ ap ordering_reverse e

pub greater : (a b : List ℕ) → order a b ≡ Less → order b a ≡ Greater
greater a b e = nat_list_cmp_total.antisymm b a ∙ ap ordering_reverse e

pub same_key : (a b : List ℕ) → order a b ≡ Equal → a ≡ b
same_key a b e = slice_cmp-IsAntisymmetric nat_cmp-IsAntisymmetric a b e

-- keys that one orders apart are not equal
pub apart : (a b : List ℕ) → order a b ≡ Less → bytes_eq b a ≡ false
apart a b e = sym (is_eq-slice_cmp b a) ∙ ap is_eq (greater a b e)

pub unlike : (a b : List ℕ) → order a b ≡ Less → bytes_eq a b ≡ false
unlike a b e = sym (is_eq-slice_cmp a b) ∙ ap is_eq e
