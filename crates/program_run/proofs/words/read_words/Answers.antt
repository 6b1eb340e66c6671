use Rattle.std.proofs.Common.{refl, sym, ◌∙◌, ap, codes, List, [], None, if◌then◌else◌, ◌≡◌}
use Rattle.clap.specs.Kinds.{Kinds}
use Rattle.clap.specs.Walk.{is_empty}
use Rattle.clap.specs.Words.{App, Row, Text, fault_of, first_value, found_of, is_simple, is_simple_and_free, matches_of, rows_of}
use Rattle.clap.specs.declared.parser.matches.Found.{Found}
use Rattle.clap.proofs.WalkLemmas.{first_value-rows}
use Rattle.program_run.specs.Words.{form, form_in, form_named, line, spelled}
use Rattle.program_run.proofs.words.read_words.Goals as goal

-- what the values are named by is what the rows are
by_rows : (found : Found) → form_named (first_value found (codes "mode")) (first_value found (codes "epoch")) (first_value found (codes "seed")) ≡ form_in (rows_of found)
by_rows found =
    rw (first_value-rows found (codes "mode"), first_value-rows found (codes "epoch"), first_value-rows found (codes "seed")) refl

is_form : (words : List Text) (rows : List Row) → fault_of line words ≡ [] → rows ≡ matches_of line words → form_in rows ≡ form words
is_form words rows taken same =
    ap form_in same ∙ sym (ap (λ (kinds : Kinds). if is_empty kinds then form_in (matches_of line words) else None) taken)

pub returns-in-Ok : goal.returns-in-Ok
returns-in-Ok c =
    let words = spelled c.args.words.now in
    let same = c.in_ok-command.ensures in
    let taken : fault_of line words ≡ [] = ap (λ (a : App). fault_of a words) (sym same) ∙ c.in-Ok.ensures.kinds (ap is_simple_and_free same ∙ refl) in
    let rows : rows_of (found_of c.in-Ok.matches) ≡ matches_of line words = (c.in-Ok.ensures.matches (ap is_simple same ∙ refl)).0 ∙ ap (λ (a : App). matches_of a words) same in
    c.form_in.ensures ∙ by_rows (found_of c.in-Ok.matches) ∙ is_form words _ taken rows
