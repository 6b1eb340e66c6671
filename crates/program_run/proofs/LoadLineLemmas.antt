-- The lines of a workload's run tell one order and the same refusals alone, where a statement was refused.
use Rattle.std.proofs.Common.{◌≡◌, ◌≢◌, refl, sym, ap, ap₂, subst, ◌∙◌, ℕ, ℤ, zero, suc, ◌+◌, ◌/◌, ◌%◌, ◌==◌, ◌^◌, true, false, not, List, [], ◌∷◌, ◌++◌, codes, drop, length, decimal, append_assoc, Option, Some, None, nat_lt, slice_index, slice_index_or, arith, flat_map, if◌then◌else◌, of_z, to_z, w64}
use Rattle.std.specs.Fmt.{digits, digits_onto, digit_glyph}
use Rattle.std.specs.List.{IsDistinct, find, list_all}
use Rattle.std.specs.Option.{option_map_or}
use Rattle.std.specs.Str.{bytes_eq}
use Rattle.std.proofs.lemmas.Bool.{and_from, and_parts, cond_both, cond-false, false≢true, ne_eqb}
use Rattle.std.proofs.lemmas.Int.{to_z-of_z}
use Rattle.std.proofs.lemmas.List.{append_cancel_left}
use Rattle.tuple_codec.proofs.Lists.{all_append, all_weaker}
use Rattle.tuple_codec.specs.AddressTexts.{address_text, letter, letters, forty_bits}
use Rattle.script_text.specs.Collisions.{AllTellTruly}
use Rattle.script_text.specs.Input.{is_name_byte}
use Rattle.script_text.specs.Output.{all_refused, moment_text, newline, session_lines}
use Rattle.script_text.specs.Shown.{HasOneReading, HasOneStop, IsShown, IsShownStop, is_one_line, is_shown_moment, is_shown_name, is_shown_reply}
use Rattle.script_text.specs.declared.outputs.BranchLine.{BranchLine}
use Rattle.script_text.specs.declared.outputs.RunText.{RunText}
use Rattle.script_text.specs.declared.outputs.StopText.{StopText}
use Rattle.script_text.specs.declared.replies.Reply.{Reply}
use Rattle.script_text.specs.declared.scripts.Moment.{Moment}
use Rattle.plain_sessions.specs.StateLimits.{is_date}
use Rattle.program_run.specs.Loading.{IsLoaded, is_main, load_text, refusals_in, trouble, trouble_of, working_in}
use Rattle.program_run.specs.Loads.{IsLoadAnswer, IsSameLoad, IsShownLoad}
use Rattle.program_run.specs.declared.words.LoadRun.{LoadRun}
use Rattle.program_run.proofs.EpochLemmas.{date_fits}
use Rattle.program_run.proofs.FewLemmas.{shown_load}

-- ---- what stands on one line

ended : (byte : ℕ) (x y : List ℕ) → not (byte == 10) ≡ true → 10 ∷ x ≡ byte ∷ y → ⊥
ended byte x y differs e = false≢true (ap (λ (n : ℕ). not (n == 10)) (ap (λ (line : List ℕ). slice_index line 0) e) ∙ differs)

-- two lines that end are the same, and so is what follows
line_part : (a b x y : List ℕ) → is_one_line a ≡ true → is_one_line b ≡ true → a ++ (10 ∷ x) ≡ b ++ (10 ∷ y) → (a ≡ b) × (x ≡ y)
line_part [] [] x y all each e = (refl, ap (drop 1) e)
line_part [] (other ∷ b) x y all each e = absurd (ended other x (b ++ (10 ∷ y)) (and_parts _ _ each).0 e)
line_part (byte ∷ a) [] x y all each e = absurd (ended byte y (a ++ (10 ∷ x)) (and_parts _ _ all).0 (sym e))
line_part (byte ∷ a) (other ∷ b) x y all each e =
    let more = line_part a b x y (and_parts _ _ all).1 (and_parts _ _ each).1 (ap (drop 1) e) in
    (ap₂ ◌∷◌ (ap (λ (line : List ℕ). slice_index line 0) e) more.0, more.1)

line_append : (a b : List ℕ) → is_one_line a ≡ true → is_one_line b ≡ true → is_one_line (a ++ b) ≡ true
line_append = all_append (λ byte. not (byte == 10))

glyph_in_line : (n : ℕ) → not (digit_glyph false (n % 10) == 10) ≡ true
glyph_in_line n =
    cond_both (nat_lt (n % 10) 10) (48 + n % 10) (87 + n % 10) (λ byte. not (byte == 10) ≡ true)
    (λ e. ap not (ne_eqb (48 + n % 10) 10 (λ same. omega arith))) (λ e. ap not (ne_eqb (87 + n % 10) 10 (λ same. omega arith)))

digits_in_line : (k n : ℕ) (acc : List ℕ) → is_one_line acc ≡ true → is_one_line (digits_onto k 10 false n acc) ≡ true
digits_in_line zero n acc all = all
digits_in_line (suc k) n acc all =
    let more : is_one_line (digit_glyph false (n % 10) ∷ acc) ≡ true = and_from _ _ (glyph_in_line n) all in
    cond_both (n / 10 == 0) _ _ (λ x. is_one_line x ≡ true) (λ e. more) (λ e. digits_in_line k (n / 10) (digit_glyph false (n % 10) ∷ acc) more)

decimal_in_line : (n : ℕ) → is_one_line (decimal n) ≡ true
unfolding digits
decimal_in_line n = digits_in_line 64 n [] refl

letter_in_line : (bits : ℕ) → not (letter bits == 10) ≡ true
unfolding letter
letter_in_line bits =
    cond_both (nat_lt bits 10) (48 + bits) (87 + bits) (λ byte. not (byte == 10) ≡ true)
    (λ e. ap not (ne_eqb (48 + bits) 10 (λ same. omega arith))) (λ e. ap not (ne_eqb (87 + bits) 10 (λ same. omega arith)))

letters_in_line : (k n : ℕ) → is_one_line (letters k n) ≡ true
letters_in_line zero n = refl
letters_in_line (suc k) n = and_from _ _ (letter_in_line (n / 32 ^ k % 32)) (letters_in_line k n)

address_in_line : (bytes : List ℕ) → is_one_line (address_text bytes) ≡ true
address_in_line [] = refl
address_in_line (a ∷ []) = refl
address_in_line (a ∷ b ∷ []) = refl
address_in_line (a ∷ b ∷ c ∷ []) = refl
address_in_line (a ∷ b ∷ c ∷ d ∷ []) = refl
address_in_line (a ∷ b ∷ c ∷ d ∷ e ∷ rest) = line_append (letters 8 (forty_bits a b c d e)) (address_text rest) (letters_in_line 8 (forty_bits a b c d e)) (address_in_line rest)

working_in_line : (found : Option BranchLine) → is_one_line (option_map_or (λ (line : BranchLine). address_text line.rec.working.0) found []) ≡ true
working_in_line None = refl
working_in_line (Some line) = address_in_line line.rec.working.0

name_byte_in_line : (byte : ℕ) → is_name_byte byte ≡ true → not (byte == 10) ≡ true
name_byte_in_line byte passes = ap not (ne_eqb byte 10 (λ e. false≢true (ap is_name_byte (sym e) ∙ passes)))

name_in_line : (names : List (List ℕ)) (place : ℕ) → list_all is_shown_name names ≡ true → is_one_line (slice_index_or names place []) ≡ true
name_in_line [] place all = refl
name_in_line (name ∷ names) zero all = all_weaker is_name_byte (λ byte. not (byte == 10)) name_byte_in_line name (and_parts _ _ (and_parts _ _ all).0).1
name_in_line (name ∷ names) (suc place) all = name_in_line names place (and_parts _ _ all).1

moments_in_line : (names : List (List ℕ)) (order : List Moment) → list_all is_shown_name names ≡ true → is_one_line (flat_map (moment_text names) order) ≡ true
moments_in_line names [] all = refl
moments_in_line names (moment ∷ order) all =
    let name : List ℕ = slice_index_or names moment.session [] in
    line_append (moment_text names moment) (flat_map (moment_text names) order)
    (line_append ((codes " " ++ name) ++ codes "/") (decimal moment.statement)
    (line_append (codes " " ++ name) (codes "/") (name_in_line names moment.session all) refl) (decimal_in_line moment.statement))
    (moments_in_line names order all)

-- ---- the lines before the last two

grouped : (front refused a rows b working c rest : List ℕ) → ((((((front ++ refused) ++ a) ++ rows) ++ b) ++ working) ++ c) ++ rest ≡ front ++ (refused ++ (a ++ (rows ++ (b ++ (working ++ (c ++ rest))))))
grouped front refused a rows b working c rest = simp append_assoc

abbrev front : ℕ → List ℕ
front seed = codes "load " ++ decimal seed ++ codes "\nsessions 8\nstatements 4968\nrefused "

abbrev behind_refused : RunText → ℕ → List ℕ
behind_refused run rows = codes "rows " ++ (decimal rows ++ (codes "\nworking " ++ (working_in run.branches ++ (newline ++ trouble_of (refusals_in run.replies) run))))

load_more : (seed : ℕ) (run : RunText) (rows : ℕ) → load_text seed run rows ≡ front seed ++ (decimal (refusals_in run.replies) ++ (10 ∷ behind_refused run rows))
load_more seed run rows =
    grouped (front seed) (decimal (refusals_in run.replies)) (codes "\nrows ") (decimal rows) (codes "\nworking ") (working_in run.branches) newline (trouble_of (refusals_in run.replies) run)

-- two runs of the same lines have the same last two
trouble_part : (seed : ℕ) (a b : RunText) (rows count : ℕ) → load_text seed a rows ≡ load_text seed b count → trouble_of (refusals_in a.replies) a ≡ trouble_of (refusals_in b.replies) b
trouble_part seed a b rows count e =
    let after = append_cancel_left (front seed) _ _ (sym (load_more seed a rows) ∙ e ∙ load_more seed b count) in
    let refused = line_part (decimal (refusals_in a.replies)) (decimal (refusals_in b.replies)) (behind_refused a rows) (behind_refused b count) (decimal_in_line (refusals_in a.replies)) (decimal_in_line (refusals_in b.replies)) after in
    let counted = line_part (decimal rows) (decimal count) (codes "working " ++ (working_in a.branches ++ (newline ++ trouble_of (refusals_in a.replies) a)))
    (codes "working " ++ (working_in b.branches ++ (newline ++ trouble_of (refusals_in b.replies) b))) (decimal_in_line rows) (decimal_in_line count) (append_cancel_left (codes "rows ") _ _ refused.1) in
    (line_part (working_in a.branches) (working_in b.branches) (trouble_of (refusals_in a.replies) a) (trouble_of (refusals_in b.replies) b)
    (working_in_line (find is_main a.branches)) (working_in_line (find is_main b.branches)) (append_cancel_left (codes "working ") _ _ counted.1)).1

nothing : (byte : ℕ) (x : List ℕ) → byte ∷ x ≡ [] → ⊥
nothing byte x e = cc

both_told : (a b : RunText) (refusals : ℕ) → trouble a ≡ trouble_of refusals b → trouble a ≡ trouble b
both_told a b refusals = elim (refusals == 0) as (λ test. trouble a ≡ (if test then [] else trouble b) → trouble a ≡ trouble b) [
  | true ↦ λ e. absurd (nothing 111 _ e)
  | false ↦ λ e. e
]

-- ---- the last two lines

lines_more : (word moments end other refused last : List ℕ) → ((((word ++ moments) ++ end) ++ other) ++ refused) ++ last ≡ word ++ (moments ++ (end ++ (other ++ (refused ++ last))))
lines_more word moments end other refused last = simp append_assoc

record SameLines (names others : List (List ℕ)) (a b : List Moment) (replies answers : List (List Reply)) : Type 0 where
  moments : flat_map (moment_text names) a ≡ flat_map (moment_text others) b
  refused : all_refused names replies ++ newline ≡ all_refused others answers ++ newline

same_lines : (a b : RunText) → list_all is_shown_name a.names ≡ true → list_all is_shown_name b.names ≡ true → trouble a ≡ trouble b → SameLines a.names b.names a.order b.order a.replies b.replies
same_lines a b all each e =
    let after = append_cancel_left (codes "order") _ _
    (sym (lines_more (codes "order") (flat_map (moment_text a.names) a.order) newline (codes "refused") (all_refused a.names a.replies) newline)
    ∙ e ∙ lines_more (codes "order") (flat_map (moment_text b.names) b.order) newline (codes "refused") (all_refused b.names b.replies) newline) in
    let lines = line_part (flat_map (moment_text a.names) a.order) (flat_map (moment_text b.names) b.order) (codes "refused" ++ (all_refused a.names a.replies ++ newline)) (codes "refused" ++ (all_refused b.names b.replies ++ newline))
    (moments_in_line a.names a.order all) (moments_in_line b.names b.order each) after in
    record { moments = lines.0; refused = append_cancel_left (codes "refused") _ _ lines.1 }

-- ---- the order: that of a run that answers nothing

silent : List (List ℕ) → List (List Reply)
silent [] = []
silent (name ∷ names) = [] ∷ silent names

as_many : (names : List (List ℕ)) → length (silent names) ≡ length names
unfolding silent
as_many [] = refl
as_many (name ∷ names) = ap suc (as_many names)

all_silent : (names : List (List ℕ)) → list_all (list_all is_shown_reply) (silent names) ≡ true
unfolding silent
all_silent [] = refl
all_silent (name ∷ names) = all_silent names

abbrev ordered : List (List ℕ) → List Moment → RunText
ordered names order = record { names = names; replies = silent names; order = order; branches = [] }

is_ordered : (names : List (List ℕ)) (order : List Moment) → list_all is_shown_name names ≡ true → IsDistinct bytes_eq names → list_all (is_shown_moment (length names)) order ≡ true → IsShown (ordered names order)
is_ordered names order all distinct moments = record { names = all; distinct = distinct; lists = as_many names; replies = all_silent names; moments = moments }

one_order : HasOneReading → (names : List (List ℕ)) (a b : List Moment) → list_all is_shown_name names ≡ true → IsDistinct bytes_eq names → list_all (is_shown_moment (length names)) a ≡ true → list_all (is_shown_moment (length names)) b ≡ true
    → flat_map (moment_text names) a ≡ flat_map (moment_text names) b → a ≡ b
one_order one names a b all distinct moments others e =
    (one (ordered names a) (ordered names b) (is_ordered names a all distinct moments) (is_ordered names b all distinct others)
    (ap (λ (line : List ℕ). (session_lines names (silent names) ++ ((codes "order" ++ line) ++ newline)) ++ []) e)).order

-- ---- the refusals: those of a stop before the first item

abbrev stopped : RunText → StopText
stopped run = record { item = 0; names = run.names; replies = run.replies }

is_stopped : (run : RunText) → IsShownLoad run → IsShownStop (stopped run)
is_stopped run shown = record {
  item = omega arith;
  names = shown.is_shown.names;
  distinct = shown.is_shown.distinct;
  lists = shown.is_shown.lists;
  replies = shown.is_shown.replies;
  few = shown.few;
}

-- ---- both

load_alone : HasOneReading → HasOneStop → (seed : ℕ) (run : RunText) (rows : ℕ) (written : List ℕ) → IsShownLoad run → written ≡ load_text seed run rows → refusals_in run.replies ≢ 0
    → (other : RunText) (count : ℕ) → IsShownLoad other → other.names ≡ run.names → load_text seed other count ≡ written → IsSameLoad run other
load_alone one stop seed run rows written shown prints some other count other_shown names same =
    let told : trouble_of (refusals_in run.replies) run ≡ trouble run = cond-false (refusals_in run.replies == 0) [] (trouble run) (ne_eqb (refusals_in run.replies) 0 some) in
    let lines = same_lines run other shown.is_shown.names other_shown.is_shown.names
    (both_told run other (refusals_in other.replies) (sym told ∙ trouble_part seed run other rows count (sym prints ∙ sym same))) in
    let others : list_all (is_shown_moment (length run.names)) other.order ≡ true = ap (λ (list : List (List ℕ)). list_all (is_shown_moment (length list)) other.order) (sym names) ∙ other_shown.is_shown.moments in
    let moments : flat_map (moment_text run.names) run.order ≡ flat_map (moment_text run.names) other.order = lines.moments ∙ ap (λ (list : List (List ℕ)). flat_map (moment_text list) other.order) names in
    let item : List ℕ = ((codes "order item " ++ decimal 0) ++ newline) ++ codes "refused" in
    record {
      order = one_order one run.names run.order other.order shown.is_shown.names shown.is_shown.distinct shown.is_shown.moments others moments;
      shortages = (stop (stopped run) (stopped other) (is_stopped run shown) (is_stopped other other_shown) (sym names)
          (append_assoc item (all_refused run.names run.replies) newline ∙ ap (λ (line : List ℕ). item ++ line) lines.refused ∙ sym (append_assoc item (all_refused other.names other.replies) newline))).shortages;
    }

-- ---- an answer

pub load_answer : (address : List ℕ → List ℕ) (asked : LoadRun) (seed : ℕ) (run : RunText) (rows : ℕ) → HasOneReading → HasOneStop → is_date asked.epoch ≡ true → seed ≡ asked.seed
    → IsLoaded address asked.seed (to_z w64 (of_z w64 asked.epoch)) run rows → AllTellTruly address run.replies → IsShown run → IsLoadAnswer address asked (load_text seed run rows)
load_answer address asked seed run rows one stop date seeds loads truly shown =
    let there : IsLoaded address asked.seed asked.epoch run rows
    = subst (λ (epoch : ℤ). IsLoaded address asked.seed epoch run rows) (to_z-of_z w64 asked.epoch (date_fits asked.epoch date)) loads in
    let prints : load_text seed run rows ≡ load_text asked.seed run rows = ap (λ (s : ℕ). load_text s run rows) seeds in
    let shown_here : IsShownLoad run = shown_load address asked.seed asked.epoch run rows there shown in
    record {
      run = run;
      rows = rows;
      loads = there;
      truly = truly;
      shown = shown_here;
      prints = prints;
      alone = load_alone one stop asked.seed run rows (load_text seed run rows) shown_here prints;
    }
