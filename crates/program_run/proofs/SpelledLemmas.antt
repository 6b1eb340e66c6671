-- Each statement of a workload is one that a script may have.
use Rattle.std.proofs.Common.{◌≡◌, refl, ℕ, zero, suc, ◌+◌, ◌*◌, ◌%◌, ◌<◌, ◌≤◌, ◌^◌, ◌==◌, Bool, true, false, if◌then◌else◌, nat_le, nat_lt, List, [], ◌∷◌, ◌++◌, length, map, codes, arith}
use Rattle.std.specs.Fmt.{decimal}
use Rattle.std.specs.List.{list_all}
use Rattle.std.specs.Str.{IsAscii, IsUtf8}
use Rattle.std.proofs.lemmas.Bool.{and_parts as both, and_from as join, le-leb, leb-true, ltb-true}
use Rattle.std.proofs.lemmas.Fmt.{IsAscii-decimal, length-decimal-le}
use Rattle.std.proofs.lemmas.List.{length-append}
use Rattle.std.proofs.lemmas.Str.{IsUtf8-append, IsUtf8-from_ascii}
use Rattle.tuple_codec.specs.Texts.{is_utf8}
use Rattle.tuple_codec.proofs.Lists.{all_append}
use Rattle.tuple_codec.proofs.Utf8Lemmas.{to_test}
use Rattle.script_text.specs.Input.{most_statement_bytes}
use Rattle.script_text.specs.declared.scripts.Line.{Line}
use Rattle.script_run.specs.Scripts.{has_statement, is_statement_text}
use Rattle.workload.specs.declared.draws.Drawn.{Drawn}
use Rattle.workload.specs.declared.steps.LoadStep.{LoadStep}
use Rattle.workload.specs.declared.steps.LoadStep.TheVariants.{Begins, Commits, Inserts, Makes, Updates}
use Rattle.workload.specs.Workload.{all_lines, create_text, drawn, first_key, insert_text, line, next, nothing_drawn, statements, steps_of, text_of, update_text, with_batch, with_begin, with_insert, with_inserts, with_session, with_step, with_update, with_updates}
use Rattle.workload.proofs.WorkloadLemmas.{each_keeps}

-- ---- texts

record IsShort (most : ℕ) (text : List ℕ) : Type 0 where
  utf8 : IsUtf8 text
  short : length text ≤ most

both_short : (few many : ℕ) (text more : List ℕ) → IsShort few text → IsShort many more → IsShort (few + many) (text ++ more)
both_short few many text more one other = record {
  utf8 = IsUtf8-append text more one.utf8 other.utf8;
  short = let first = one.short in let second = other.short in omega (arith, length-append text more, first, second);
}

ascii : (bytes : List ℕ) → list_all (λ byte. nat_lt byte 128) bytes ≡ true → IsAscii bytes
ascii [] h i = omega arith
ascii (byte ∷ bytes) h zero = ltb-true byte 128 (both (nat_lt byte 128) (list_all (λ byte. nat_lt byte 128) bytes) h).0
ascii (byte ∷ bytes) h (suc i) = ascii bytes (both (nat_lt byte 128) (list_all (λ byte. nat_lt byte 128) bytes) h).1 i

words : (text : List ℕ) → list_all (λ byte. nat_lt byte 128) text ≡ true → nat_le (length text) 80 ≡ true → IsShort 80 text
words text letters few = record { utf8 = IsUtf8-from_ascii text (ascii text letters); short = leb-true (length text) 80 few }

number : (n : ℕ) → n < 10 ^ 8 → IsShort 8 (decimal n)
number n small = record { utf8 = IsUtf8-from_ascii (decimal n) (IsAscii-decimal n (omega (arith, small))); short = length-decimal-le 8 n (omega arith) small (omega (arith, small)) }

spelled : (most : ℕ) (text : List ℕ) → most ≤ 65536 → IsShort most text → is_statement_text text ≡ true
spelled most text few is =
    join (is_utf8 text) (nat_le (length text) most_statement_bytes) (to_test text is.utf8) (le-leb (length text) most_statement_bytes (let short = is.short in omega (arith, few, short)))

insert_spelled : (key value : ℕ) → key < 10 ^ 8 → value < 1000 → is_statement_text (insert_text key value) ≡ true
insert_spelled key value small low =
    let first : List ℕ = codes "INSERT INTO load_rows VALUES (" in
    spelled 256 (insert_text key value) (omega arith)
    (both_short 176 80 (first ++ decimal key ++ codes "," ++ decimal value) (codes ")")
    (both_short 168 8 (first ++ decimal key ++ codes ",") (decimal value)
    (both_short 88 80 (first ++ decimal key) (codes ",")
    (both_short 80 8 first (decimal key) (words first refl refl) (number key small))
    (words (codes ",") refl refl)) (number value (omega (arith, low))))
    (words (codes ")") refl refl))

update_spelled : (key value : ℕ) → key < 10 ^ 8 → value < 1000 → is_statement_text (update_text key value) ≡ true
update_spelled key value small low =
    let first : List ℕ = codes "UPDATE load_rows SET v = " in
    let middle : List ℕ = codes " WHERE id = " in
    spelled 176 (update_text key value) (omega arith)
    (both_short 168 8 (first ++ decimal value ++ middle) (decimal key)
    (both_short 88 80 (first ++ decimal value) middle
    (both_short 80 8 first (decimal value) (words first refl refl) (number value (omega (arith, low))))
    (words middle refl refl)) (number key small))

word_spelled : (text : List ℕ) → list_all (λ byte. nat_lt byte 128) text ≡ true → nat_le (length text) 80 ≡ true → is_statement_text text ≡ true
word_spelled text letters few = spelled 80 text (omega arith) (words text letters few)

-- ---- what a session says

abbrev is_spelled : LoadStep → Bool
is_spelled step = is_statement_text (text_of step)

abbrev AreSpelled : Drawn → Type 0
AreSpelled so_far = list_all is_spelled so_far.steps ≡ true

one_more : (so_far : Drawn) (step : LoadStep) → is_spelled step ≡ true → AreSpelled so_far → list_all is_spelled (so_far.steps ++ step ∷ []) ≡ true
one_more so_far step is before = all_append is_spelled so_far.steps (step ∷ []) before (join (is_spelled step) true is refl)

begin_kept : (batch : ℕ) (so_far : Drawn) → AreSpelled so_far → AreSpelled (with_begin batch so_far)
begin_kept batch so_far before =
    let begun : AreSpelled (with_step Begins so_far) = one_more so_far Begins (word_spelled (codes "BEGIN") refl refl) before in
    elim (batch == 0) as (λ first. AreSpelled (if first then with_step Makes (with_step Begins so_far) else with_step Begins so_far)) [
      | true ↦ one_more (with_step Begins so_far) Makes (word_spelled create_text refl refl) begun
      | false ↦ begun
    ]

module _ (first : ℕ) (low : first < 10 ^ 7) where
  inserts_kept : (so_far : Drawn) → AreSpelled so_far → AreSpelled (with_inserts first so_far)
  inserts_kept so_far before =
      each_keeps AreSpelled 50 (λ row. with_insert (first + row)) so_far before (λ row d below so.
      one_more d (Inserts (record { key = first + row; value = drawn (next d.x) % 1000 })) (insert_spelled (first + row) (drawn (next d.x) % 1000) (omega (arith, low, below)) (omega arith)) so)

  updates_kept : (so_far : Drawn) → AreSpelled so_far → AreSpelled (with_updates first so_far)
  updates_kept so_far before =
      each_keeps AreSpelled 10 (λ turn. with_update first) so_far before (λ turn d below so.
      one_more d (Updates (record { key = first + drawn (next d.x) % 50; value = drawn (next (next d.x)) % 1000 }))
      (update_spelled (first + drawn (next d.x) % 50) (drawn (next (next d.x)) % 1000) (omega (arith, low)) (omega arith)) so)

batch_kept : (session batch : ℕ) → session < 8 → batch < 10 → (so_far : Drawn) → AreSpelled so_far → AreSpelled (with_batch session batch so_far)
batch_kept session batch few short so_far before =
    let first : ℕ = first_key session batch in
    let low : first < 10 ^ 7 = omega (arith, few, short) in
    let begun : Drawn = with_begin batch so_far in
    let changed : Drawn = with_updates first (with_inserts first begun) in
    one_more changed Commits (word_spelled (codes "COMMIT") refl refl)
    (updates_kept first low (with_inserts first begun) (inserts_kept first low begun (begin_kept batch so_far before)))

session_spelled : (seed session : ℕ) → session < 8 → list_all is_spelled (steps_of seed session) ≡ true
unfolding steps_of
session_spelled seed session few = each_keeps AreSpelled 10 (with_batch session) (nothing_drawn seed session) refl (λ batch d short so. batch_kept session batch few short d so)

own_lines : (session : ℕ) (steps : List LoadStep) → list_all is_spelled steps ≡ true → list_all has_statement (map (line session) (map text_of steps)) ≡ true
own_lines session [] all = refl
own_lines session (step ∷ steps) all =
    let parts = both (is_spelled step) (list_all is_spelled steps) all in
    join (is_spelled step) (list_all has_statement (map (line session) (map text_of steps))) parts.0 (own_lines session steps parts.1)

pub lines_spelled : (seed : ℕ) → list_all has_statement (all_lines seed) ≡ true
lines_spelled seed =
    each_keeps (λ (lines : List Line). list_all has_statement lines ≡ true) 8 (with_session seed) [] refl (λ session lines few so_far.
    all_append has_statement lines (map (line session) (statements seed session)) so_far (own_lines session (steps_of seed session) (session_spelled seed session few)))
