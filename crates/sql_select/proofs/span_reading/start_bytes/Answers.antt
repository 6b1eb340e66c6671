use Rattle.std.proofs.Common.{◌≡◌, List, true, sym, ap, ◌∙◌, subst, length, take}
use Rattle.std.specs.List.{flat_map, slice_get}
use Rattle.tuple_codec.specs.Limits.{are_types}
use Rattle.tuple_codec.specs.Rows.{Cells, fits_all}
use Rattle.tuple_codec.specs.declared.values.SqlType.{SqlType}
use Rattle.schema_model.specs.PlainTables.{key_types, kinds}
use Rattle.schema_model.proofs.FitLemmas.{form_of, key_types_fit}
use Rattle.sql_select.specs.Spans.{start_of}
use Rattle.sql_select.proofs.KeyLemmas.{places_of}
use Rattle.sql_select.proofs.SpanLemmas.{take_types}
use Rattle.sql_select.proofs.span_reading.start_bytes.Goals as goal

pub types_at-requires : goal.types_at-requires
types_at-requires c = places_of c.args.schema.now c.args.schema.now.key c.as_slice.result.now c.as_slice.ensures (form_of c.args.schema.now c.requires.schema).places

pub encode_key-requires-clause-types : goal.encode_key-requires-clause-types
encode_key-requires-clause-types c =
    subst (λ (l : List SqlType). are_types l ≡ true) (sym (c.first_types.ensures ∙ ap (λ l. take (length c.as_slice-3.result.now) l) (c.as_slice-2.ensures.value ∙ c.in_ok-types.ensures ∙ ap (flat_map (λ place. kinds (slice_get c.args.schema.now.columns place))) c.as_slice.ensures)))
    (take_types (key_types c.args.schema.now) (length c.as_slice-3.result.now) (key_types_fit c.args.schema.now c.requires.schema))

pub encode_key-requires-clause-fit : goal.encode_key-requires-clause-fit
encode_key-requires-clause-fit c =
    let cells = c.as_slice-3.ensures ∙ c.in_ok-cells.ensures in
    subst (λ (l : List SqlType). fits_all l c.in_ok-cells.cells ≡ true)
    (sym (c.first_types.ensures ∙ ap (λ l. take (length c.as_slice-3.result.now) l) (c.as_slice-2.ensures.value ∙ c.in_ok-types.ensures ∙ ap (flat_map (λ place. kinds (slice_get c.args.schema.now.columns place))) c.as_slice.ensures) ∙ ap (λ (l : Cells). take (length l) (key_types c.args.schema.now)) cells))
    (subst (λ (l : Cells). fits_all (take (length (start_of c.args.span.now)) (key_types c.args.schema.now)) l ≡ true) (sym c.in_ok-cells.ensures) c.requires.span)
