use Rattle.std.proofs.Common.{◌≡◌, ◌∙◌, List, true, sym, subst}
use Rattle.tuple_codec.specs.Limits.{are_types}
use Rattle.tuple_codec.specs.Rows.{fits_all}
use Rattle.tuple_codec.specs.declared.values.SqlType.{SqlType}
use Rattle.violation_lists.proofs.SeekLemmas.{types_fit}
use Rattle.sql_select.proofs.KeyLemmas.{places_of, types_of}
use Rattle.sql_select.proofs.entries.index_bytes.Goals as goal

pub types_at-requires : goal.types_at-requires
types_at-requires c = places_of c.args.schema.now c.args.index.now.columns c.as_slice.result.now c.as_slice.ensures c.requires.places

pub encode_key-requires-clause-types : goal.encode_key-requires-clause-types
encode_key-requires-clause-types c =
    subst (λ (l : List SqlType). are_types l ≡ true) (types_of c.args.schema.now c.args.index.now.columns c.as_slice.result.now c.as_slice.ensures ∙ sym (c.as_slice-2.ensures.value ∙ c.in_ok-types.ensures))
    (types_fit c.args.schema.now c.args.index.now.columns c.requires.schema)

pub encode_key-requires-clause-fit : goal.encode_key-requires-clause-fit
encode_key-requires-clause-fit c =
    subst (λ (l : List SqlType). fits_all l c.args.cells.now ≡ true) (types_of c.args.schema.now c.args.index.now.columns c.as_slice.result.now c.as_slice.ensures ∙ sym (c.as_slice-2.ensures.value ∙ c.in_ok-types.ensures)) c.requires.fits
