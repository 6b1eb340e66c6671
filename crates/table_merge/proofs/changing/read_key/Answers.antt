use Rattle.std.proofs.Common.{◌≡◌, ℕ, true, List, [], ◌++◌, ap, sym, ◌∙◌, subst}
use Rattle.tuple_codec.specs.KeyBytes.{key_bytes}
use Rattle.tuple_codec.specs.Limits.{are_types}
use Rattle.tuple_codec.specs.Rows.{fits_all}
use Rattle.tuple_codec.specs.Spellings.{Decodes}
use Rattle.tuple_codec.specs.declared.values.SqlType.{SqlType}
use Rattle.schema_model.proofs.FitLemmas.{key_types_fit}
use Rattle.table_merge.proofs.changing.read_key.Goals as goal

pub returns : goal.returns
returns c = λ cells is.
    let types = c.as_slice.ensures.value ∙ c.in_ok-types.ensures in
    let good = subst (λ (l : List SqlType). are_types l ≡ true) (sym types) (key_types_fit c.args.schema.now c.requires.schema) in
    let fit = subst (λ (l : List SqlType). fits_all l cells ≡ true) (sym types) is.fits in
    let read = subst (Decodes key_bytes c.as_slice.result.now c.args.bytes.now) c.in-Some.is c.in_ok-cells.ensures in
    (c.keys_are_one_spelling.ensures c.as_slice.result.now c.in-Some.cells cells [] [] good read.0 fit (ap (λ (l : List ℕ). l ++ []) (read.1 ∙ sym is.bytes))).0
