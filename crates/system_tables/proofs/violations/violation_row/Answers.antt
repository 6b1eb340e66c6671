use Rattle.std.proofs.Common.{◌≡◌, ◌∙◌, ◌∷◌, ◌++◌, [], List, ap, sym, subst, true}
use Rattle.std.proofs.lemmas.Result.{IfOk-weaker}
use Rattle.plain_sessions.specs.SystemTables as plain
use Rattle.tuple_codec.specs.KeyBytes.{key_bytes}
use Rattle.tuple_codec.specs.Limits.{are_types}
use Rattle.tuple_codec.specs.Rows.{Cells}
use Rattle.tuple_codec.specs.declared.values.SqlType.{SqlType}
use Rattle.tuple_codec.specs.declared.values.Value.{Value}
use Rattle.tuple_codec.specs.declared.values.Value.TheVariants as cell
use Rattle.system_tables.specs.Entries.{IsListedKey}
use Rattle.system_tables.proofs.ViolationLemmas.{kind_is, listed_key, row_is, shown_is, types_fit}
use Rattle.system_tables.proofs.violations.violation_row.Goals as goal

pub name_before-requires-clause-types : goal.name_before-requires-clause-types
name_before-requires-clause-types c =
    subst (λ (types : List SqlType). are_types types ≡ true) (sym c.requires.types) (types_fit c.args.schema.now c.requires.schema)

pub name_before-requires-clause-key : goal.name_before-requires-clause-key
name_before-requires-clause-key c =
    let violation = c.requires.listed.0 in (
      violation.constraint,
      violation.key,
      subst (λ (types : List SqlType). IsListedKey types c.args.rest.now violation.constraint violation.key) (sym c.requires.types)
          (listed_key c.args.schema.now c.args.kind c.args.rest.now c.args.value.now violation c.requires.listed.1),
    )

pub behind-requires : goal.behind-requires
behind-requires c =
    let violation = c.requires.listed.0 in
    let key = listed_key c.args.schema.now c.args.kind c.args.rest.now c.args.value.now violation c.requires.listed.1 in
    let named = c.in_ok-name.ensures violation.constraint violation.key
    (subst (λ (types : List SqlType). IsListedKey types c.args.rest.now violation.constraint violation.key) (sym c.requires.types) key) in
    (violation.key, ap (λ (name : Value). key_bytes (name ∷ violation.key)) named ∙ key.are)

pub row_of-requires-clause-row : goal.row_of-requires-clause-row
row_of-requires-clause-row c =
    let violation = c.requires.listed.0 in
    let listed = c.requires.listed.1 in
    let key = listed_key c.args.schema.now c.args.kind c.args.rest.now c.args.value.now violation listed in
    let named = c.in_ok-name.ensures violation.constraint violation.key
    (subst (λ (types : List SqlType). IsListedKey types c.args.rest.now violation.constraint violation.key) (sym c.requires.types) key) in (
      violation.row,
      row_is c.same_cells_are_one.ensures.cells c.args.schema.now c.args.kind c.args.rest.now c.args.value.now violation listed c.behind.result.now
          (c.behind.ensures violation.key (ap (λ (name : Value). key_bytes (name ∷ violation.key)) named ∙ key.are)),
    )

pub returns : goal.returns
returns c = λ violation listed.
    let key = listed_key c.args.schema.now c.args.kind c.args.rest.now c.args.value.now violation listed in
    let named = c.in_ok-name.ensures violation.constraint violation.key
    (subst (λ (types : List SqlType). IsListedKey types c.args.rest.now violation.constraint violation.key) (sym c.requires.types) key) in
    let row = c.in_ok-cells.ensures violation.row (row_is c.same_cells_are_one.ensures.cells c.args.schema.now c.args.kind c.args.rest.now c.args.value.now violation listed c.behind.result.now
    (c.behind.ensures violation.key (ap (λ (name : Value). key_bytes (name ∷ violation.key)) named ∙ key.are))) in
    IfOk-weaker c.shown_row.result (λ (made : Cells). made ≡ cell.Text (plain.kind_text c.args.kind) ∷ (c.as_slice.result.now ++ c.in_ok-name.name ∷ [])) (λ (made : Cells). made ≡ plain.violation_row violation)
    (λ made is. is ∙ shown_is violation c.args.kind c.in_ok-name.name c.as_slice.result.now (kind_is c.args.schema.now c.args.kind c.args.rest.now c.args.value.now violation listed) named
    (c.as_slice.ensures ∙ row)) c.shown_row.ensures
