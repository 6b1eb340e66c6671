-- Every script that is read is sound, and has an order where one is asked.
use Rattle.std.proofs.Common.{◌≡◌, ◌≢◌, refl, sym, ◌∙◌, ap, subst, ℕ, suc, ◌+◌, ◌<◌, ◌≤◌, true, false, ◌==◌, ◌&&◌, not, is_none, nat_lt, nat_le, List, [], ◌∷◌, ◌++◌, length, drop, Bool, Option, Some, None, Ok, Err, arith, if◌then◌else◌, cond}
use Rattle.std.specs.Prelude.{unwrap_or, codes, nat_eq, take_while}
use Rattle.std.specs.Str.{bytes_eq}
use Rattle.std.specs.Option.{option_map, option_map_or}
use Rattle.std.specs.List.{AllByRecursion, IsDistinct, list_all, position_or_len, starts_with}
use Rattle.std.proofs.lemmas.List.{length_push}
use Rattle.std.proofs.lemmas.List.Sums.{take_while-cons}
use Rattle.std.proofs.lemmas.Bool.Decides.{nat_tests}
use Rattle.std.proofs.lemmas.Bool.{and_parts as both, and_from as join}
use Rattle.tuple_codec.proofs.Lists.{all_weaker, all_append}
use Rattle.tuple_codec.specs.Texts.{is_utf8}
use Rattle.script_text.specs.Input.{SpokenLine, add_line, add_statement, and_then, bad, is_name, is_name_byte, is_one_too_many, is_skipped, items_of, lines_of, most_bytes, most_statement_bytes, most_statements, no_script, ordered_by, ordered_from, parts_after, parts_of, script, script_from, script_in, statement_in, with_statement}
use Rattle.script_text.specs.Shown.{is_shown_name}
use Rattle.script_text.specs.declared.scripts.Line.{Line}
use Rattle.script_text.specs.declared.scripts.OrderItem.{OrderItem}
use Rattle.script_text.specs.declared.scripts.Script.{Script}
use Rattle.script_run.specs.Scripts.{IsSoundScript, has_statement, is_line_within, is_statement_text}
use Rattle.script_run.proofs.StatementLemmas.{text_said}

name_bytes : (bytes : List ℕ) → list_all is_name_byte (take_while is_name_byte bytes) ≡ true
name_bytes [] = refl
name_bytes (byte ∷ bytes) =
    ap (list_all is_name_byte) (take_while-cons is_name_byte byte bytes)
    ∙ elim (is_name_byte byte) as (λ test. is_name_byte byte ≡ test → list_all is_name_byte (cond test (byte ∷ take_while is_name_byte bytes) []) ≡ true) [
      | true ↦ λ test. join (is_name_byte byte) (list_all is_name_byte (take_while is_name_byte bytes)) test (name_bytes bytes)
      | false ↦ λ test. refl
    ] refl

-- the parts of a line have a name that may be shown
named_after : (name rest : List ℕ) (parts : SpokenLine) → list_all is_name_byte name ≡ true → parts_after name rest ≡ Some parts → is_shown_name parts.name ≡ true
named_after name rest parts letters h =
    elim (is_name name && starts_with nat_eq rest (codes " ")) as (λ test. (is_name name && starts_with nat_eq rest (codes " ")) ≡ test
    → (if test then option_map (λ statement. record { name = name; statement = statement }) (statement_in rest) else None) ≡ Some parts → is_shown_name parts.name ≡ true) [
      | true ↦ λ test found.
          elim (statement_in rest) as (λ o. option_map (λ statement. record { name = name; statement = statement }) o ≡ Some parts → is_shown_name parts.name ≡ true) [
            | None ↦ λ e. absurd (cc)
            | Some statement ↦ λ e.
                let made : record { name = name; statement = statement } ≡ parts = cc in
                ap (λ (p : SpokenLine). is_shown_name p.name) (sym made)
                ∙ join (is_name name) (list_all is_name_byte name) (both (is_name name) (starts_with nat_eq rest (codes " ")) test).0 letters
          ] found
      | false ↦ λ test found. absurd (cc)
    ] refl h

named : (line : List ℕ) (parts : SpokenLine) → parts_of line ≡ Some parts → is_shown_name parts.name ≡ true
named [] parts h = absurd (cc)
named (byte ∷ bytes) parts h =
    elim (byte == 64) as (λ test. (if test then parts_after (take_while is_name_byte bytes) (drop (length (take_while is_name_byte bytes)) bytes) else None) ≡ Some parts → is_shown_name parts.name ≡ true) [
      | true ↦ λ found. named_after (take_while is_name_byte bytes) (drop (length (take_while is_name_byte bytes)) bytes) parts (name_bytes bytes) found
      | false ↦ λ found. absurd (cc)
    ] h

-- a name that is nowhere among names is none of them
apart_from : (name : List ℕ) (names : List (List ℕ)) → nat_lt (position_or_len (λ other. bytes_eq other name) names) (length names) ≡ false → AllByRecursion (λ other. bytes_eq other name ≡ false) names
apart_from name [] h = tt
apart_from name (first ∷ names) h =
    elim (bytes_eq first name) as (λ test. bytes_eq first name ≡ test → nat_lt (cond (not test) (1 + position_or_len (λ other. bytes_eq other name) names) 0) (suc (length names)) ≡ false
    → AllByRecursion (λ other. bytes_eq other name ≡ false) (first ∷ names)) [
      | true ↦ λ test found. absurd (let zeroth : nat_lt 0 (suc (length names)) ≡ true = grind (arith, nat_tests) in let differ : true ≡ false = sym zeroth ∙ found in cc)
      | false ↦ λ test found.
          let rest : nat_lt (position_or_len (λ other. bytes_eq other name) names) (length names) ≡ false = grind (arith, nat_tests) in
          (test, apart_from name names rest)
    ] refl h

all_push : {X : Type 0} (P : X → Type 0) (xs : List X) (x : X) → AllByRecursion P xs → P x → AllByRecursion P (xs ++ x ∷ [])
all_push P [] x h p = (p, tt)
all_push P (y ∷ xs) x h p = (h.0, all_push P xs x h.1 p)

distinct_push : (names : List (List ℕ)) (name : List ℕ) → IsDistinct bytes_eq names → AllByRecursion (λ other. bytes_eq other name ≡ false) names → IsDistinct bytes_eq (names ++ name ∷ [])
unfolding IsDistinct
distinct_push [] name h apart = (tt, tt)
distinct_push (first ∷ names) name h apart =
    (all_push (λ other. bytes_eq first other ≡ false) names name h.0 apart.0, distinct_push names name h.1 apart.1)

within_more : (read next : Script) → length read.names ≤ length next.names → (line : Line) → is_line_within read line ≡ true → is_line_within next line ≡ true
within_more read next more line h = let test : nat_lt line.session (length read.names) ≡ true = h in grind (arith, nat_tests)

statement_sound : (read : Script) (parts : SpokenLine) → is_shown_name parts.name ≡ true → is_statement_text parts.statement ≡ true → nat_le most_statements (length read.lines) ≡ false
    → IsSoundScript read → IsSoundScript (with_statement read parts)
statement_sound read parts name spelled room sound =
    let place : ℕ = position_or_len (λ other. bytes_eq other parts.name) read.names in
    let few : length read.lines + 1 ≤ 20000 = grind (arith, nat_tests) in
    elim (nat_lt place (length read.names)) as (λ test. nat_lt place (length read.names) ≡ test → IsSoundScript (record {
      names = (if is_none (cond test (Some place) None) then read.names ++ parts.name ∷ [] else read.names);
      lines = read.lines ++ (record { session = unwrap_or (cond test (Some place) None) (length read.names); statement = parts.statement }) ∷ [];
      order = read.order;
    })) [
      | true ↦ λ test. record {
        names = sound.names;
        distinct = sound.distinct;
        sessions = all_append (is_line_within read) read.lines ((record { session = place; statement = parts.statement }) ∷ []) sound.sessions
            (join (nat_lt place (length read.names)) true test refl);
        statements = all_append has_statement read.lines ((record { session = place; statement = parts.statement }) ∷ []) sound.statements
            (join (is_statement_text parts.statement) true spelled refl);
        spoken = let spoken = sound.spoken in omega (arith, spoken, length_push read.lines (let line : Line = record { session = place; statement = parts.statement } in line));
        few = omega (arith, length_push read.lines (let line : Line = record { session = place; statement = parts.statement } in line));
      }
      | false ↦ λ test.
          let next : Script = record {
            names = read.names ++ parts.name ∷ [];
            lines = read.lines ++ (record { session = length read.names; statement = parts.statement }) ∷ [];
            order = read.order;
          } in
          let more : length read.names ≤ length (read.names ++ parts.name ∷ []) = omega (arith, length_push read.names parts.name) in
          let last : nat_lt (length read.names) (length (read.names ++ parts.name ∷ [])) ≡ true
          = let below : length read.names < length (read.names ++ parts.name ∷ []) = omega (arith, length_push read.names parts.name) in grind (arith, nat_tests) in
          record {
            names = all_append is_shown_name read.names (parts.name ∷ []) sound.names (join (is_shown_name parts.name) true name refl);
            distinct = distinct_push read.names parts.name sound.distinct (apart_from parts.name read.names test);
            sessions = all_append (is_line_within next) read.lines ((record { session = length read.names; statement = parts.statement }) ∷ [])
                (all_weaker (is_line_within read) (is_line_within next) (within_more read next more) read.lines sound.sessions)
                (join (nat_lt (length read.names) (length (read.names ++ parts.name ∷ []))) true last refl);
            statements = all_append has_statement read.lines ((record { session = length read.names; statement = parts.statement }) ∷ []) sound.statements
                (join (is_statement_text parts.statement) true spelled refl);
            spoken = let spoken = sound.spoken in
                omega (arith, spoken, length_push read.names parts.name, length_push read.lines (let line : Line = record { session = length read.names; statement = parts.statement } in line));
            few = omega (arith, length_push read.lines (let line : Line = record { session = length read.names; statement = parts.statement } in line));
          }
    ] refl

no_longer : (bytes : ℕ) → nat_lt most_statement_bytes bytes ≡ false → nat_le bytes most_statement_bytes ≡ true
no_longer bytes short = grind (arith, nat_tests)

-- a sound script with more statements and the same order
abbrev IsGrown : Script → Script → Type 0
IsGrown read next = IsSoundScript next × (next.order ≡ read.order)

added : (number : ℕ) (read : Script) (parts : SpokenLine) (next : Script) → is_shown_name parts.name ≡ true → is_utf8 parts.statement ≡ true → IsSoundScript read
    → add_statement number read parts ≡ Ok next → IsGrown read next
added number read parts next name text sound h =
    elim (nat_lt most_statement_bytes (length parts.statement)) as (λ long. nat_lt most_statement_bytes (length parts.statement) ≡ long → (if long then bad number 4 else (
    if is_one_too_many read.names parts.name then bad number 5 else (
    if nat_le most_statements (length read.lines) then bad number 6 else
    Ok (with_statement read parts)))) ≡ Ok next → IsGrown read next) [
      | true ↦ λ long e. absurd (cc)
      | false ↦ λ short. elim (is_one_too_many read.names parts.name) as (λ test. (if test then bad number 5 else (
          if nat_le most_statements (length read.lines) then bad number 6 else
          Ok (with_statement read parts))) ≡ Ok next → IsGrown read next) [
            | true ↦ λ e. absurd (cc)
            | false ↦ λ e. elim (nat_le most_statements (length read.lines)) as (λ test. nat_le most_statements (length read.lines) ≡ test → (if test then bad number 6 else Ok (with_statement read parts)) ≡ Ok next → IsGrown read next) [
              | true ↦ λ room f. absurd (cc)
              | false ↦ λ room f. let made : with_statement read parts ≡ next = cc in subst (λ (s : Script). IsGrown read s) made (
                statement_sound read parts name
                    (join (is_utf8 parts.statement) (nat_le (length parts.statement) most_statement_bytes) text (no_longer (length parts.statement) short)) room sound,
                refl,
              )
            ] refl e
          ]
    ] refl h

line_added : (number : ℕ) (read : Script) (line : List ℕ) (next : Script) → IsSoundScript read → add_line number read line ≡ Ok next → IsGrown read next
line_added number read line next sound h =
    elim (is_utf8 line) as (λ text. is_utf8 line ≡ text
    → (if not text then bad number 2 else (if is_skipped line then Ok read else option_map_or (add_statement number read) (parts_of line) (bad number 3))) ≡ Ok next → IsGrown read next) [
      | false ↦ λ other e. absurd (cc)
      | true ↦ λ text. elim (is_skipped line) as (λ test. (if test then Ok read else option_map_or (add_statement number read) (parts_of line) (bad number 3)) ≡ Ok next → IsGrown read next) [
        | true ↦ λ e. let same : read ≡ next = cc in subst (λ (s : Script). IsGrown read s) same (sound, refl)
        | false ↦ λ e. elim (parts_of line) as (λ found. parts_of line ≡ found → option_map_or (add_statement number read) found (bad number 3) ≡ Ok next → IsGrown read next) [
          | None ↦ λ _ f. absurd (cc)
          | Some parts ↦ λ found f. added number read parts next (named line parts found) (text_said line parts text found) sound f
        ] refl e
      ]
    ] refl h

read_from : (number : ℕ) (read : Script) (lines : List (List ℕ)) (next : Script) → IsSoundScript read → script_from number read lines ≡ Ok next → IsGrown read next
read_from number read [] next sound h = let same : read ≡ next = cc in subst (λ (s : Script). IsGrown read s) same (sound, refl)
read_from number read (line ∷ lines) next sound h =
    elim (add_line number read line) as (λ r. add_line number read line ≡ r → and_then (λ more. script_from (number + 1) more lines) r ≡ Ok next → IsGrown read next) [
      | Ok more ↦ λ one rest.
          let first = line_added number read line more sound one in
          let last = read_from (number + 1) more lines next first.0 rest in
          (last.0, last.1 ∙ first.1)
      | Err fault ↦ λ one rest. absurd (cc)
    ] refl h

empty_sound : (order : Option (List OrderItem)) → IsSoundScript (record { names = []; lines = []; order = order })
unfolding IsDistinct
empty_sound order = record { names = refl; distinct = tt; sessions = refl; statements = refl; spoken = omega arith; few = omega arith }

ordered_read : (number : ℕ) (lines : List (List ℕ)) (read : Script) → ordered_from number lines ≡ Ok read → IsSoundScript read × (read.order ≢ None)
ordered_read number [] read h = absurd (cc)
ordered_read number (line ∷ lines) read h =
    elim (not (is_utf8 line)) as (λ test. (if test then bad number 2 else (
    if is_skipped line then ordered_from (number + 1) lines else
    option_map_or (λ items. script_from (number + 1) (ordered_by items) lines) (items_of line) (bad number 7))) ≡ Ok read → IsSoundScript read × (read.order ≢ None)) [
      | true ↦ λ e. absurd (cc)
      | false ↦ elim (is_skipped line) as (λ test. (if test then ordered_from (number + 1) lines else
          option_map_or (λ items. script_from (number + 1) (ordered_by items) lines) (items_of line) (bad number 7)) ≡ Ok read → IsSoundScript read × (read.order ≢ None)) [
            | true ↦ λ e. ordered_read (number + 1) lines read e
            | false ↦ λ e. elim (items_of line) as (λ found. option_map_or (λ items. script_from (number + 1) (ordered_by items) lines) found (bad number 7) ≡ Ok read
                → IsSoundScript read × (read.order ≢ None)) [
                  | None ↦ λ f. absurd (cc)
                  | Some items ↦ λ f.
                      let grown = read_from (number + 1) (ordered_by items) lines read (empty_sound (Some items)) f in
                      (grown.0, λ lacks. let differ : Some items ≡ None = sym grown.1 ∙ lacks in absurd (cc))
                ] e
          ]
    ] h

in_lines : (bytes : List ℕ) (with_order : Bool) (read : Script) → script bytes with_order ≡ Ok read → script_in with_order (lines_of bytes) ≡ Ok read
in_lines bytes with_order read h =
    elim (nat_lt most_bytes (length bytes)) as (λ test. (if test then bad 0 1 else script_in with_order (lines_of bytes)) ≡ Ok read → script_in with_order (lines_of bytes) ≡ Ok read) [
      | true ↦ λ e. absurd (cc)
      | false ↦ λ e. e
    ] h

pub script_sound : (bytes : List ℕ) (with_order : Bool) (read : Script) → script bytes with_order ≡ Ok read → IsSoundScript read
script_sound bytes true read h = (ordered_read 1 (lines_of bytes) read (in_lines bytes true read h)).0
script_sound bytes false read h = (read_from 1 no_script (lines_of bytes) read (empty_sound None) (in_lines bytes false read h)).0

pub script_ordered : (bytes : List ℕ) (with_order : Bool) (read : Script) → with_order ≡ true → script bytes with_order ≡ Ok read → read.order ≢ None
script_ordered bytes true read chosen h = (ordered_read 1 (lines_of bytes) read (in_lines bytes true read h)).1
script_ordered bytes false read chosen h = absurd (cc)
