use Rattle.std.proofs.Common.{ℕ, List, [], ◌∷◌, ◌++◌, ap, sym, ◌∙◌, subst, ◌≡◌}
use Rattle.std.proofs.lemmas.Result.{IfOk-weaker}
use Rattle.tuple_codec.specs.KeyBytes.{key_bytes}
use Rattle.tuple_codec.specs.Rows.{Cells, cell_at}
use Rattle.tuple_codec.specs.Spellings.{Decodes}
use Rattle.tuple_codec.specs.declared.values.Value.{Value}
use Rattle.tuple_codec.specs.declared.values.Value.TheVariants as cell
use Rattle.system_tables.proofs.violations.name_before.Goals as goal

pub returns : goal.returns
returns c = λ name key of.
    let read = subst (Decodes key_bytes c.args.types.now c.args.bytes.now) c.in-Some.is c.in_ok-cells.ensures in
    let same = (c.keys_are_one_spelling.ensures c.args.types.now c.in-Some.cells (cell.Text name ∷ key) [] [] c.requires.types read.0 of.fits
    (ap (λ (l : List ℕ). l ++ []) (read.1 ∙ sym of.are))).0 in
    IfOk-weaker c.cell_at.result (λ (value : Value). value ≡ cell_at c.as_slice.result.now 0) (λ (value : Value). value ≡ cell.Text name)
    (λ value is. is ∙ ap (λ (cells : Cells). cell_at cells 0) (c.as_slice.ensures ∙ same)) c.cell_at.ensures
