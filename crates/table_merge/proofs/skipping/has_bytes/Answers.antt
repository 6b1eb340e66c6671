use Rattle.std.proofs.Common.{◌∙◌, sym}
use Rattle.std.proofs.lemmas.Slice.Eq.{bytes_eq-Decides}
use Rattle.table_merge.proofs.skipping.has_bytes.Goals as goal

pub returns : goal.returns
returns c = λ other valid e same.
    let own = c.as_slice.ensures ∙ c.in_ok-own.ensures in
    let met = (bytes_eq-Decides c.as_slice.result.now c.args.bytes.now).0 (sym c.eq.ensures ∙ same) in
    c.law_of_schemas.ensures c.args.schema.now other c.requires.is valid (sym own ∙ met ∙ e)
