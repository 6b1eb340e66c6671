-- How many lines each session has.
use Rattle.std.proofs.Common.{◌≡◌, ◌≢◌, refl, sym, ◌∙◌, ap, subst, ℕ, zero, suc, ◌+◌, ◌<◌, ◌≤◌, ◌==◌, true, false, List, [], ◌∷◌, ◌++◌, length, take, Some, slice_get, arith, if◌then◌else◌}
use Rattle.std.specs.Prelude.{sum}
use Rattle.std.proofs.lemmas.List.{length-append}
use Rattle.std.proofs.lemmas.List.Sums.{sum_by-append}
use Rattle.std.proofs.lemmas.Bool.Decides.{nat_tests}
use Rattle.tuple_codec.proofs.Lists.{take_at_get}
use Rattle.tuple_codec.proofs.Truths.{if_true}
use Rattle.script_text.specs.declared.scripts.Line.{Line}
use Rattle.run_laws.specs.Orders.{count_of}
use Rattle.run_laws.proofs.ListLemmas.{get_behind, get_front, if_false}
use Rattle.script_run.specs.Opening.{counts}

pub sum_cons : (x : ℕ) (xs : List ℕ) → sum (x ∷ xs) ≡ x + sum xs
sum_cons x xs =
    let one : 0 + x ≡ x = omega arith in
    sum_by-append (λ (n : ℕ). n) (x ∷ []) xs ∙ ap (λ n. n + sum xs) one

pub as_many : (sessions : ℕ) (lines : List Line) → length (counts sessions lines) ≡ sessions
as_many zero lines = refl
as_many (suc sessions) lines =
    let rest : length (counts sessions lines) ≡ sessions = as_many sessions lines in
    omega (arith, length-append (counts sessions lines) (count_of sessions lines ∷ []))

pub count_at : (sessions : ℕ) (lines : List Line) (place : ℕ) → place < sessions → slice_get (counts sessions lines) place ≡ Some (count_of place lines)
count_at zero lines place h = absurd (omega arith)
count_at (suc sessions) lines place h =
    elim (place == sessions) as (λ test. (place == sessions) ≡ test → slice_get (counts (suc sessions) lines) place ≡ Some (count_of place lines)) [
      | true ↦ λ test.
          let same : place ≡ sessions = grind (arith, nat_tests) in
          let last : place ≡ length (counts sessions lines) = same ∙ sym (as_many sessions lines) in
          ap (slice_get (counts sessions lines ++ count_of sessions lines ∷ [])) last ∙ get_behind (counts sessions lines) (count_of sessions lines)
          ∙ ap (λ n. Some (count_of n lines)) (sym same)
      | false ↦ λ test.
          let less : place < sessions = grind (arith, nat_tests) in
          get_front (counts sessions lines) (count_of sessions lines ∷ []) place (subst (λ n. place < n) (sym (as_many sessions lines)) less)
          ∙ count_at sessions lines place less
    ] refl

count_more : (place : ℕ) (lines more : List Line) → count_of place (lines ++ more) ≡ count_of place lines + count_of place more
count_more place [] more = omega arith
count_more place (line ∷ lines) more =
    let rest : count_of place (lines ++ more) ≡ count_of place lines + count_of place more = count_more place lines more in
    elim (line.session == place) as (λ test. (if test then suc (count_of place (lines ++ more)) else count_of place (lines ++ more)) ≡ (if test then suc (count_of place lines) else count_of place lines) + count_of place more) [
      | true ↦ omega (arith, rest)
      | false ↦ rest
    ]

-- the lines before one of a session's are fewer
pub count_rises : (lines : List Line) (count : ℕ) (line : Line) → slice_get lines count ≡ Some line → count_of line.session (take count lines) < count_of line.session lines
count_rises [] count line h = absurd (cc)
count_rises (first ∷ lines) zero line h =
    let same : first ≡ line = cc in
    let session : first.session ≡ line.session = ap (λ (l : Line). l.session) same in
    let test : (first.session == line.session) ≡ true = grind (arith, nat_tests) in
    let own : count_of line.session (first ∷ lines) ≡ suc (count_of line.session lines) = if_true (first.session == line.session) (suc (count_of line.session lines)) (count_of line.session lines) test in
    omega arith
count_rises (first ∷ lines) (suc count) line h =
    let rest : count_of line.session (take count lines) < count_of line.session lines = count_rises lines count line h in
    elim (first.session == line.session) as (λ test. (if test then suc (count_of line.session (take count lines)) else count_of line.session (take count lines)) < (if test then suc (count_of line.session lines) else count_of line.session lines)) [
      | true ↦ omega arith
      | false ↦ rest
    ]

-- and with it they are one more, and of another session's as many
pub count_own : (lines : List Line) (count : ℕ) (line : Line) → slice_get lines count ≡ Some line → count_of line.session (take (count + 1) lines) ≡ count_of line.session (take count lines) + 1
count_own lines count line there =
    let test : (line.session == line.session) ≡ true = grind (arith, nat_tests) in
    let one : count_of line.session (line ∷ []) ≡ 1 = if_true (line.session == line.session) 1 0 test in
    ap (count_of line.session) (take_at_get lines count line there) ∙ count_more line.session (take count lines) (line ∷ []) ∙ ap (λ n. count_of line.session (take count lines) + n) one

pub count_other : (lines : List Line) (count place : ℕ) (line : Line) → slice_get lines count ≡ Some line → line.session ≢ place → count_of place (take (count + 1) lines) ≡ count_of place (take count lines)
count_other lines count place line there apart =
    let test : (line.session == place) ≡ false = grind (arith, nat_tests) in
    let none : count_of place (line ∷ []) ≡ 0 = if_false (line.session == place) 1 0 test in
    let same : count_of place (take count lines) + 0 ≡ count_of place (take count lines) = omega arith in
    ap (count_of place) (take_at_get lines count line there) ∙ count_more place (take count lines) (line ∷ []) ∙ ap (λ n. count_of place (take count lines) + n) none ∙ same
