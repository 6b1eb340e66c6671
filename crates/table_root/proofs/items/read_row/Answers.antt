use Rattle.std.proofs.Common.{◌≡◌, List, true, ap, sym, ◌∙◌, subst, length}
use Rattle.std.proofs.lemmas.Result.{IfOk-weaker}
use Rattle.tuple_codec.specs.Limits.{are_types}
use Rattle.tuple_codec.specs.Rows.{fits_all}
use Rattle.tuple_codec.specs.declared.values.SqlType.{SqlType}
use Rattle.schema_model.specs.PlainTables.{primary_key, unkeyed_from}
use Rattle.table_root.specs.Places.{joined_from}
use Rattle.schema_model.proofs.FitLemmas.{body_fits, body_types_fit, key_types_fit, primary_key_fits, row_length}
use Rattle.table_root.proofs.PlaceLemmas.{joined_at}
use Rattle.table_root.proofs.items.read_row.Goals as goal

pub read_key-requires-clause-types : goal.read_key-requires-clause-types
read_key-requires-clause-types c =
    subst (λ (l : List SqlType). are_types l ≡ true) (sym (c.as_slice.ensures.value ∙ c.requires.key_types)) (key_types_fit c.args.schema.now c.requires.schema)

pub read_key-requires-clause-cells : goal.read_key-requires-clause-cells
read_key-requires-clause-cells c =
    let schema = c.args.schema.now in
    let row = c.requires.row.0 in
    let is = c.requires.row.1 in (
      primary_key schema row,
      subst (λ (l : List SqlType). fits_all l (primary_key schema row) ≡ true) (sym (c.as_slice.ensures.value ∙ c.requires.key_types)) (primary_key_fits schema row c.requires.schema is.fits),
      is.key,
    )

pub read_body-requires-clause-types : goal.read_body-requires-clause-types
read_body-requires-clause-types c =
    subst (λ (l : List SqlType). are_types l ≡ true) (sym (c.as_slice-2.ensures.value ∙ c.requires.body_types)) (body_types_fit c.args.schema.now c.requires.schema)

pub read_body-requires-clause-cells : goal.read_body-requires-clause-cells
read_body-requires-clause-cells c =
    let schema = c.args.schema.now in
    let row = c.requires.row.0 in
    let is = c.requires.row.1 in (
      unkeyed_from schema.key 0 row,
      subst (λ (l : List SqlType). fits_all l (unkeyed_from schema.key 0 row) ≡ true) (sym (c.as_slice-2.ensures.value ∙ c.requires.body_types)) (body_fits schema row is.fits),
      is.value,
    )

pub returns : goal.returns
returns c = λ row is.
    let schema = c.args.schema.now in
    let key = c.in_ok-cells.ensures (primary_key schema row)
    (subst (λ (l : List SqlType). fits_all l (primary_key schema row) ≡ true) (sym (c.as_slice.ensures.value ∙ c.requires.key_types)) (primary_key_fits schema row c.requires.schema is.fits)) is.key in
    let rest = c.in_ok-others.ensures (unkeyed_from schema.key 0 row)
    (subst (λ (l : List SqlType). fits_all l (unkeyed_from schema.key 0 row) ≡ true) (sym (c.as_slice-2.ensures.value ∙ c.requires.body_types)) (body_fits schema row is.fits)) is.value in
    let whole = joined_at schema.key c.as_slice-3.result.now row c.as_slice-5.result.now c.in_ok-others.others (length c.as_slice-4.result.now) c.as_slice-3.ensures (c.as_slice-5.ensures ∙ key)
    (ap (λ l. length l) c.as_slice-4.ensures ∙ sym (row_length schema row is.fits)) rest in
    IfOk-weaker c.joined.result (λ read. read ≡ joined_from c.as_slice-3.result.now c.as_slice-5.result.now 0 (length c.as_slice-4.result.now) c.in_ok-others.others) (λ read. read ≡ row) (λ read e. e ∙ whole) c.joined.ensures
