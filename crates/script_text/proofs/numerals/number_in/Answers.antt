use Rattle.std.proofs.Common.{rules, ◌≡◌, ◌∙◌, true}
use Rattle.script_text.specs.Numerals.{is_numeral}
use Rattle.script_text.proofs.NumeralLemmas.{parsed}
use Rattle.script_text.proofs.numerals.number_in.Goals as goal

pub returns-then-is_number : goal.returns-then-is_number
returns-then-is_number c =
    let numeral : is_numeral c.args.text.now ≡ true = search rules in
    c.ok.ensures.value ∙ parsed c.args.text.now _ c.parse.ensures.value.0 numeral
