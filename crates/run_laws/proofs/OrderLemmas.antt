-- An order grows by the moments of the next line.
use Rattle.std.proofs.Common.{◌≡◌, refl, ◌∙◌, ap, ℕ, zero, suc, ◌+◌, ◌-◌, ◌*◌, ◌<◌, ◌≤◌, Bool, true, false, ◌&&◌, ◌==◌, nat_lt, nat_le, List, [], ◌∷◌, ◌++◌, length, take, Some, slice_get, arith, if◌then◌else◌}
use Rattle.std.specs.List.{list_all}
use Rattle.std.proofs.lemmas.List.{length-append, length-take}
use Rattle.std.proofs.lemmas.Option.{slice_get_within}
use Rattle.std.proofs.lemmas.Bool.Decides.{nat_tests}
use Rattle.std.proofs.lemmas.Bool.{and_parts as both, and_from as join}
use Rattle.tuple_codec.proofs.Lists.{all_append, all_weaker}
use Rattle.tuple_codec.proofs.Truths.{if_true}
use Rattle.script_text.specs.declared.scripts.Line.{Line}
use Rattle.script_text.specs.declared.scripts.Moment.{Moment}
use Rattle.script_text.specs.declared.scripts.Script.{Script}
use Rattle.run_laws.specs.Orders.{IsOrderTo, count_of, is_behind, is_within, line_of, never_falls}
use Rattle.run_laws.proofs.ListLemmas.{if_false}

-- the line of a session's next statement
pub line_found : (lines : List Line) (count at number : ℕ) (line : Line) → slice_get lines count ≡ Some line → number ≡ count_of line.session (take count lines) + 1
    → line_of at lines line.session number ≡ at + count
line_found [] count at number line h is = absurd (cc)
line_found (first ∷ lines) zero at number line h is =
    let same : first ≡ line = cc in
    let own : (first.session == line.session) ≡ true = let e : first.session ≡ line.session = ap (λ l. l.session) same in grind (arith, nat_tests) in
    let one : (number == 1) ≡ true = grind (arith, nat_tests) in
    let whole : at ≡ at + 0 = omega arith in
    if_true (first.session == line.session) (if number == 1 then at else line_of (at + 1) lines line.session (number - 1)) (line_of (at + 1) lines line.session number) own
    ∙ if_true (number == 1) at (line_of (at + 1) lines line.session (number - 1)) one ∙ whole
line_found (first ∷ lines) (suc count) at number line h is =
    let shift : at + 1 + count ≡ at + suc count = omega arith in
    elim (first.session == line.session) as (λ test. (first.session == line.session) ≡ test
    → (if test then (if number == 1 then at else line_of (at + 1) lines line.session (number - 1)) else line_of (at + 1) lines line.session number) ≡ at + suc count) [
      | true ↦ λ test.
          let many : number ≡ suc (count_of line.session (take count lines)) + 1
          = is ∙ ap (λ n. n + 1) (if_true (first.session == line.session) (suc (count_of line.session (take count lines))) (count_of line.session (take count lines)) test) in
          let not_one : (number == 1) ≡ false = grind (arith, nat_tests) in
          let fewer : number - 1 ≡ count_of line.session (take count lines) + 1 = omega arith in
          if_false (number == 1) at (line_of (at + 1) lines line.session (number - 1)) not_one ∙ line_found lines count (at + 1) (number - 1) line h fewer ∙ shift
      | false ↦ λ test.
          let same_number : number ≡ count_of line.session (take count lines) + 1
          = is ∙ ap (λ n. n + 1) (if_false (first.session == line.session) (suc (count_of line.session (take count lines))) (count_of line.session (take count lines)) test) in
          line_found lines count (at + 1) number line h same_number ∙ shift
    ] refl

-- moments that are all of this line
abbrev is_at : List Line → ℕ → Moment → Bool
is_at lines at moment = line_of 0 lines moment.session moment.statement == at

rises_again : (lines : List Line) (at : ℕ) (moments : List Moment) (least : ℕ) → list_all (is_at lines at) moments ≡ true → least ≤ at → never_falls least lines moments ≡ true
rises_again lines at [] least level up = refl
rises_again lines at (moment ∷ moments) least level up =
    let parts = both (is_at lines at moment) (list_all (is_at lines at) moments) level in
    let here : (line_of 0 lines moment.session moment.statement == at) ≡ true = parts.0 in
    let test : nat_le least (line_of 0 lines moment.session moment.statement) ≡ true = grind (arith, nat_tests) in
    let below : line_of 0 lines moment.session moment.statement ≤ at = grind (arith, nat_tests) in
    join (nat_le least (line_of 0 lines moment.session moment.statement)) (never_falls (line_of 0 lines moment.session moment.statement) lines moments) test
    (rises_again lines at moments (line_of 0 lines moment.session moment.statement) parts.1 below)

rises_next : (lines : List Line) (at : ℕ) (moments : List Moment) → list_all (is_at lines at) moments ≡ true → (order : List Moment) (least : ℕ) → least ≤ at
    → never_falls least lines order ≡ true → list_all (is_behind lines at) order ≡ true → never_falls least lines (order ++ moments) ≡ true
rises_next lines at moments level [] least up rises behind = rises_again lines at moments least level up
rises_next lines at moments level (first ∷ order) least up rises behind =
    let parts = both (nat_le least (line_of 0 lines first.session first.statement)) (never_falls (line_of 0 lines first.session first.statement) lines order) rises in
    let sides = both (is_behind lines at first) (list_all (is_behind lines at) order) behind in
    let test : nat_lt (line_of 0 lines first.session first.statement) at ≡ true = sides.0 in
    let below : line_of 0 lines first.session first.statement ≤ at = grind (arith, nat_tests) in
    join (nat_le least (line_of 0 lines first.session first.statement)) (never_falls (line_of 0 lines first.session first.statement) lines (order ++ moments)) parts.0
    (rises_next lines at moments level order (line_of 0 lines first.session first.statement) below parts.1 sides.1)

pub count_fits : (place : ℕ) (lines : List Line) → count_of place lines ≤ length lines
count_fits place [] = omega arith
count_fits place (line ∷ lines) =
    elim (line.session == place) as (λ test. (if test then suc (count_of place lines) else count_of place lines) ≤ length (line ∷ lines)) [
      | true ↦ let rest : count_of place lines ≤ length lines = count_fits place lines in omega arith
      | false ↦ let rest : count_of place lines ≤ length lines = count_fits place lines in omega arith
    ]

-- a moment of a session's statement
abbrev pub is_of : ℕ → ℕ → Moment → Bool
is_of place number moment = moment.session == place && moment.statement == number

moment_is : (place number : ℕ) (moment : Moment) → is_of place number moment ≡ true → (moment.session ≡ place) × (moment.statement ≡ number)
moment_is place number moment h =
    let parts = both (moment.session == place) (moment.statement == number) h in
    let first : (moment.session == place) ≡ true = parts.0 in
    let second : (moment.statement == number) ≡ true = parts.1 in
    (grind (arith, nat_tests), grind (arith, nat_tests))

pub order_first : (script : Script) → IsOrderTo script 0 []
order_first script = record { rises = refl; behind = refl; within = refl; short = omega arith }

pub order_next : (script : Script) (count : ℕ) (order moments : List Moment) (line : Line) (number : ℕ) → slice_get script.lines count ≡ Some line → line.session < length script.names
    → number ≡ count_of line.session (take count script.lines) + 1 → list_all (is_of line.session number) moments ≡ true → length moments ≤ 2
    → IsOrderTo script count order → IsOrderTo script (count + 1) (order ++ moments)
order_next script count order moments line number at session is own few before =
    let place : line_of 0 script.lines line.session number ≡ count = line_found script.lines count 0 number line at is ∙ omega arith in
    let there : count < length script.lines = slice_get_within script.lines count line at in
    let fit : count_of line.session (take count script.lines) ≤ length (take count script.lines) = count_fits line.session (take count script.lines) in
    let number_fits : number ≤ length script.lines = omega (arith, length-take count script.lines) in
    let in_names : nat_lt line.session (length script.names) ≡ true = grind (arith, nat_tests) in
    let in_lines : nat_le number (length script.lines) ≡ true = grind (arith, nat_tests) in
    let at_line : (moment : Moment) → is_of line.session number moment ≡ true → line_of 0 script.lines moment.session moment.statement ≡ count
    = λ moment h. let is_it = moment_is line.session number moment h in
    ap (λ s. line_of 0 script.lines s moment.statement) is_it.0 ∙ ap (line_of 0 script.lines line.session) is_it.1 ∙ place in
    record {
      rises = rises_next script.lines count moments
          (all_weaker (is_of line.session number) (is_at script.lines count) (λ moment h. let e : line_of 0 script.lines moment.session moment.statement ≡ count = at_line moment h in grind (arith, nat_tests)) moments own)
          order 0 (omega arith) before.rises before.behind;
      behind = all_append (is_behind script.lines (count + 1)) order moments
          (all_weaker (is_behind script.lines count) (is_behind script.lines (count + 1)) (λ moment below. grind (arith, nat_tests)) order before.behind)
          (all_weaker (is_of line.session number) (is_behind script.lines (count + 1)) (λ moment h. let e : line_of 0 script.lines moment.session moment.statement ≡ count = at_line moment h in grind (arith, nat_tests)) moments own);
      within = all_append (is_within script) order moments before.within
          (all_weaker (is_of line.session number) (is_within script)
          (λ moment h. let is_it = moment_is line.session number moment h in
          join (nat_lt moment.session (length script.names)) (nat_le moment.statement (length script.lines))
          (ap (λ s. nat_lt s (length script.names)) is_it.0 ∙ in_names) (ap (λ n. nat_le n (length script.lines)) is_it.1 ∙ in_lines)) moments own);
      short = let old : length order ≤ 2 * count = before.short in omega (arith, length-append order moments);
    }
