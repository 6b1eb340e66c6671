-- Draws in the code's arithmetic, and what every workload has.
use Rattle.std.proofs.Common.{◌≡◌, refl, ◌∙◌, ap, ℕ, zero, suc, ◌+◌, ◌*◌, ◌/◌, ◌%◌, ◌<◌, ◌≤◌, ◌==◌, Bool, true, false, nat_lt, if◌then◌else◌, List, [], ◌∷◌, ◌++◌, length, map, add_assoc, arith, length-append}
use Rattle.std.specs.Prelude.{codes}
use Rattle.std.specs.List.{list_all, IsDistinct}
use Rattle.std.specs.Str.{bytes_eq}
use Rattle.std.proofs.lemmas.List.{length-map, length_push}
use Rattle.std.proofs.lemmas.List.Folds.{list_all-append}
use Rattle.std.proofs.lemmas.Bool.Decides.{nat_tests}
use Rattle.std.proofs.lemmas.Bool.{and_from as join}
use Rattle.script_text.specs.Input.{most_statements}
use Rattle.script_text.specs.Shown.{is_shown_name}
use Rattle.script_text.specs.declared.scripts.Line.{Line}
use Rattle.workload.specs.declared.draws.Drawn.{Drawn}
use Rattle.workload.specs.declared.steps.LoadStep.{LoadStep}
use Rattle.workload.specs.declared.steps.LoadStep.TheVariants.{Begins, Commits, Makes}
use Rattle.workload.specs.Workload.{all_lines, drawn, each, first_key, line, names, next, nothing_drawn, statements, steps_of, text_of, with_batch, with_begin, with_insert, with_inserts, with_session, with_step, with_update, with_updates}

wrapped_sum : (a b : ℕ) → (a % 18446744073709551616 + b) % 18446744073709551616 ≡ (a + b) % 18446744073709551616
wrapped_sum a b = omega arith

-- wrapping a product and then the sum is wrapping once
pub next_there : (x : ℕ) → (x * 6364136223846793005 % 18446744073709551616 + 1442695040888963407) % 18446744073709551616 ≡ next x
unfolding next
next_there x = wrapped_sum (x * 6364136223846793005) 1442695040888963407

pub drawn_there : (x y : ℕ) → x ≡ y → x / 4294967296 ≡ drawn y
unfolding drawn
drawn_there x y e = ap (λ n. n / 4294967296) e

-- no step yet, and one step more
pub none_yet : {A : Type 0} (step : ℕ → A → A) (first now : A) → now ≡ first → now ≡ each 0 step first
unfolding each
none_yet step first now e = e

pub one_more : {A : Type 0} (count : ℕ) (step : ℕ → A → A) (first now later : A) → now ≡ each count step first → later ≡ step count now → later ≡ each (count + 1) step first
unfolding each
one_more count step first now later so_far stepped =
    let next_one : suc count ≡ count + 1 = omega arith in
    stepped ∙ ap (step count) so_far ∙ ap (λ n. each n step first) next_one

-- ---- what every workload has

pub names_shown : list_all is_shown_name names ≡ true
names_shown = refl

pub names_distinct : IsDistinct bytes_eq names
unfolding IsDistinct
names_distinct = (
  (refl, (refl, (refl, (refl, (refl, (refl, (refl, tt))))))),
  (
    (refl, (refl, (refl, (refl, (refl, (refl, tt)))))),
    (
      (refl, (refl, (refl, (refl, (refl, tt))))),
      (
        (refl, (refl, (refl, (refl, tt)))),
        (
          (refl, (refl, (refl, tt))),
          (
            (refl, (refl, tt)),
            (
              (refl, tt),
              (tt, tt),
            ),
          ),
        ),
      ),
    ),
  ),
)

-- what holds at first and outlives each step holds at the end
pub each_keeps : {A : Type 0} (P : A → Type 0) (count : ℕ) (step : ℕ → A → A) (first : A) → P first → ((n : ℕ) (a : A) → n < count → P a → P (step n a)) → P (each count step first)
unfolding each
each_keeps P zero step first holds keeps = holds
each_keeps P (suc count) step first holds keeps =
    keeps count (each count step first) (omega arith) (each_keeps P count step first holds (λ n a below. keeps n a (omega arith)))

-- the sum of what the first steps add
unfoldable total : (ℕ → ℕ) → ℕ → ℕ
total more zero = 0
total more (suc count) = total more count + more count

each_counts : {A : Type 0} (size : A → ℕ) (more : ℕ → ℕ) (count : ℕ) (step : ℕ → A → A) (first : A) → ((n : ℕ) (a : A) → size (step n a) ≡ size a + more n) → size (each count step first) ≡ size first + total more count
unfolding each total
each_counts size more zero step first adds = omega arith
each_counts size more (suc count) step first adds =
    let here : size (step count (each count step first)) ≡ size (each count step first) + more count = adds count (each count step first) in
    let before : size (each count step first) ≡ size first + total more count = each_counts size more count step first adds in
    omega arith

-- how many steps were drawn
count_in : Drawn → ℕ
count_in so_far = length so_far.steps

one_counted : (steps : List LoadStep) (step : LoadStep) → length (steps ++ step ∷ []) ≡ length steps + 1
one_counted steps step = length_push steps step

-- one, or two in the first batch
opening : ℕ → ℕ
opening batch = if batch == 0 then 2 else 1

begin_counted : (batch : ℕ) (so_far : Drawn) → count_in (with_begin batch so_far) ≡ count_in so_far + opening batch
unfolding count_in opening
begin_counted batch so_far =
    elim (batch == 0) as (λ first. length (if first then with_step Makes (with_step Begins so_far) else with_step Begins so_far).steps ≡ length so_far.steps + (if first then 2 else 1)) [
      | true ↦
          let one : length (so_far.steps ++ Begins ∷ []) ≡ length so_far.steps + 1 = one_counted so_far.steps Begins in
          one_counted (so_far.steps ++ Begins ∷ []) Makes ∙ ap (λ n. n + 1) one ∙ add_assoc (length so_far.steps) 1 1
      | false ↦ one_counted so_far.steps Begins
    ]

inserts_counted : (first : ℕ) (so_far : Drawn) → count_in (with_inserts first so_far) ≡ count_in so_far + 50
unfolding count_in total
inserts_counted first so_far = each_counts count_in (λ row. 1) 50 (λ row. with_insert (first + row)) so_far (λ row d. one_counted d.steps _)

updates_counted : (first : ℕ) (so_far : Drawn) → count_in (with_updates first so_far) ≡ count_in so_far + 10
unfolding count_in total
updates_counted first so_far = each_counts count_in (λ turn. 1) 10 (λ turn. with_update first) so_far (λ turn d. one_counted d.steps _)

batch_counted : (session batch : ℕ) (so_far : Drawn) → count_in (with_batch session batch so_far) ≡ count_in so_far + (61 + opening batch)
unfolding count_in
batch_counted session batch so_far =
    let first : ℕ = first_key session batch in
    let begun : Drawn = with_begin batch so_far in
    let filled : Drawn = with_inserts first begun in
    let changed : Drawn = with_updates first filled in
    let a : count_in begun ≡ count_in so_far + opening batch = begin_counted batch so_far in
    let b : count_in filled ≡ count_in begun + 50 = inserts_counted first begun in
    let d : count_in changed ≡ count_in filled + 10 = updates_counted first filled in
    let e : count_in (with_step Commits changed) ≡ count_in changed + 1 = one_counted changed.steps Commits in
    omega arith

step_count : (seed session : ℕ) → length (steps_of seed session) ≡ 621
unfolding steps_of count_in total opening
step_count seed session = each_counts count_in (λ batch. 61 + opening batch) 10 (with_batch session) (nothing_drawn seed session) (batch_counted session)

-- each session has 621 statements
pub statement_count : (seed session : ℕ) → length (statements seed session) ≡ 621
statement_count seed session = length-map (steps_of seed session) text_of ∙ step_count seed session

session_lines : (seed session : ℕ) (lines : List Line) → length (with_session seed session lines) ≡ length lines + 621
session_lines seed session lines =
    length-append lines (map (line session) (statements seed session))
    ∙ ap (λ n. length lines + n) (length-map (statements seed session) (line session) ∙ statement_count seed session)

pub line_count : (seed : ℕ) → length (all_lines seed) ≡ 4968
unfolding total
line_count seed = each_counts length (λ session. 621) 8 (with_session seed) [] (session_lines seed)

-- each line is one of the eight sessions'
abbrev is_within : Line → Bool
is_within line = nat_lt line.session 8

own_lines : (session : ℕ) (texts : List (List ℕ)) → nat_lt session 8 ≡ true → list_all is_within (map (line session) texts) ≡ true
own_lines session [] below = refl
own_lines session (text ∷ texts) below = join (nat_lt session 8) (list_all is_within (map (line session) texts)) below (own_lines session texts below)

pub lines_within : (seed : ℕ) → list_all (λ line. nat_lt line.session 8) (all_lines seed) ≡ true
lines_within seed =
    each_keeps (λ lines. list_all is_within lines ≡ true) 8 (with_session seed) [] refl
    (λ session lines below so_far.
    let test : nat_lt session 8 ≡ true = grind (arith, nat_tests) in
    list_all-append is_within lines (map (line session) (statements seed session))
    ∙ join (list_all is_within lines) (list_all is_within (map (line session) (statements seed session))) so_far (own_lines session (statements seed session) test))

-- each session says something, and there are no more lines than a script may have
pub lines_enough : (seed : ℕ) → length names ≤ length (all_lines seed)
lines_enough seed = let count : length (all_lines seed) ≡ 4968 = line_count seed in omega arith

pub lines_few : (seed : ℕ) → length (all_lines seed) ≤ most_statements
lines_few seed = let count : length (all_lines seed) ≡ 4968 = line_count seed in omega arith
