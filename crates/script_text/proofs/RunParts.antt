-- A run is read back session by session, each with its replies, and then moment by moment.
use Rattle.std.proofs.Common.{◌≡◌, refl, sym, ap, ap₂, ◌∙◌, ℕ, suc, zero, ◌+◌, ◌-◌, ◌<◌, ◌^◌, ◌==◌, true, List, [], ◌∷◌, ◌++◌, codes, length, map, not, decimal, append_assoc, Option, Some, None, slice_get, drop, slice_index, slice_index_or, nat_lt, arith, ltb-true, ⊎_elim}
use Rattle.std.specs.Option.{option_and_then, option_map}
use Rattle.std.specs.List.{list_all, flat_map, IsDistinct}
use Rattle.std.specs.Str.{bytes_eq}
use Rattle.std.proofs.lemmas.Bool.{and_parts, cases_order, false≢true, ne_eqb}
use Rattle.std.proofs.lemmas.List.{append_cancel_left}
use Rattle.std.proofs.lemmas.Map.Keys.{apart_from_distinct}
use Rattle.std.proofs.lemmas.Option.{slice_get-map}
use Rattle.tuple_codec.proofs.ByteLemmas.{bytes_same as bytes_eq_same}
use Rattle.script_text.specs.declared.outputs.RunText.{RunText}
use Rattle.script_text.specs.declared.replies.Reply.{Reply}
use Rattle.script_text.specs.declared.scripts.Moment.{Moment}
use Rattle.script_text.specs.Input.{is_name_byte}
use Rattle.script_text.specs.Output.{Shortage, branch_line, moment_text, newline, order_line, reply_lines, reply_text, session_lines, shortage, shortages_in, text}
use Rattle.script_text.specs.Shown.{HasOneReading, is_shown_moment, is_shown_name, is_shown_reply, reply_texts}
use Rattle.script_text.proofs.TextParts.{Stops, until, is_digit, no_digit, all_weaker}
use Rattle.script_text.proofs.ReplyParts.{line_part, number_part, reply_part}

pub record SameReplies (a b : List Reply) : Type 0 where
  pub texts : map reply_text a ≡ map reply_text b
  pub wants : map shortage a ≡ map shortage b

pub record ReadReplies (a b : List Reply) (x y : List ℕ) : Type 0 where
  pub same : SameReplies a b
  pub rest : x ≡ y

abbrev reply_lines_end : ℕ → Reply → List Reply → List ℕ → List ℕ
reply_lines_end number reply replies x = 32 ∷ (reply_text reply ++ (10 ∷ (reply_lines (number + 1) replies ++ x)))

reply_lines_more : (number : ℕ) (reply : Reply) (replies : List Reply) (x : List ℕ) → reply_lines number (reply ∷ replies) ++ x ≡ decimal number ++ reply_lines_end number reply replies x
reply_lines_more number reply replies x = simp append_assoc

replies_part : (number : ℕ) (a b : List Reply) (x y : List ℕ) → list_all is_shown_reply a ≡ true → list_all is_shown_reply b ≡ true → Stops is_digit x → Stops is_digit y
    → reply_lines number a ++ x ≡ reply_lines number b ++ y → ReadReplies a b x y
replies_part number [] [] x y all each ends stops e = record { same = record { texts = refl; wants = refl }; rest = e }
replies_part number [] (other ∷ b) x y all each ends stops e = no_digit number (reply_lines_end number other b y) x ends (sym (e ∙ reply_lines_more number other b y))
replies_part number (reply ∷ a) [] x y all each ends stops e = no_digit number (reply_lines_end number reply a x) y stops (sym (reply_lines_more number reply a x) ∙ e)
replies_part number (reply ∷ a) (other ∷ b) x y all each ends stops e =
    let after = append_cancel_left (decimal number) (reply_lines_end number reply a x) (reply_lines_end number other b y) (sym (reply_lines_more number reply a x) ∙ e ∙ reply_lines_more number other b y) in
    let first = reply_part reply other (reply_lines (number + 1) a ++ x) (reply_lines (number + 1) b ++ y) (and_parts _ _ all).0 (and_parts _ _ each).0 (ap (drop 1) after) in
    let more = replies_part (number + 1) a b x y (and_parts _ _ all).1 (and_parts _ _ each).1 ends stops first.rest in
    record { same = record { texts = ap₂ ◌∷◌ first.same.text more.same.texts; wants = ap₂ ◌∷◌ first.same.want more.same.wants }; rest = more.rest }

abbrev pub wants_in : List (List Reply) → List (List (Option Shortage))
wants_in replies = map (λ session. map shortage session) replies

pub record ReadSessions (names others : List (List ℕ)) (a b : List (List Reply)) (x y : List ℕ) : Type 0 where
  pub sessions : names ≡ others
  pub texts : reply_texts a ≡ reply_texts b
  pub wants : wants_in a ≡ wants_in b
  pub rest : x ≡ y

abbrev session_end : List ℕ → List (List ℕ) → List Reply → List (List Reply) → List ℕ → List ℕ
session_end name names replies more x = name ++ (10 ∷ (reply_lines 1 replies ++ (session_lines names more ++ x)))

session_more : (name : List ℕ) (names : List (List ℕ)) (replies : List Reply) (more : List (List Reply)) (x : List ℕ)
    → session_lines (name ∷ names) (replies ∷ more) ++ x ≡ codes "session " ++ session_end name names replies more x
session_more name names replies more x = simp append_assoc

after_replies : (names : List (List ℕ)) (more : List (List Reply)) (x : List ℕ) → Stops is_digit (session_lines names more ++ (111 ∷ x))
after_replies [] more x = record { byte = 111; rest = x; is = refl; stops = refl }
after_replies (name ∷ names) [] x = record { byte = 111; rest = x; is = refl; stops = refl }
after_replies (name ∷ names) (replies ∷ more) x =
    record { byte = 115; rest = codes "ession " ++ session_end name names replies more (111 ∷ x); is = session_more name names replies more (111 ∷ x); stops = refl }

two_bytes : ◌≡◌ {A = ℕ} 115 111 → ⊥
two_bytes e = omega arith

no_session : (x y : List ℕ) → 115 ∷ x ≡ 111 ∷ y → ⊥
no_session x y e = two_bytes (ap (λ text. slice_index text 0) e)

name_byte_in_line : (byte : ℕ) → is_name_byte byte ≡ true → not (byte == 10) ≡ true
name_byte_in_line byte passes = ap not (ne_eqb byte 10 (λ e. false≢true (ap is_name_byte (sym e) ∙ passes)))

name_in_line : (name : List ℕ) → is_shown_name name ≡ true → list_all (λ byte. not (byte == 10)) name ≡ true
name_in_line name shown = all_weaker is_name_byte (λ byte. not (byte == 10)) name_byte_in_line name (and_parts _ _ shown).1

-- what follows the sessions begins with an `o`
sessions_part : (names : List (List ℕ)) (a : List (List Reply)) (others : List (List ℕ)) (b : List (List Reply)) (x y : List ℕ) → length a ≡ length names → length b ≡ length others
    → list_all is_shown_name names ≡ true → list_all is_shown_name others ≡ true → list_all (list_all is_shown_reply) a ≡ true → list_all (list_all is_shown_reply) b ≡ true
    → session_lines names a ++ (111 ∷ x) ≡ session_lines others b ++ (111 ∷ y) → ReadSessions names others a b (111 ∷ x) (111 ∷ y)
sessions_part [] [] [] [] x y lengths sizes all each shown printed e = record { sessions = refl; texts = refl; wants = refl; rest = e }
sessions_part (name ∷ names) (replies ∷ a) (other ∷ others) (answers ∷ b) x y lengths sizes all each shown printed e =
    let fewer : length a ≡ length names = omega arith in
    let less : length b ≡ length others = omega arith in
    let after = append_cancel_left (codes "session ") (session_end name names replies a (111 ∷ x)) (session_end other others answers b (111 ∷ y))
    (sym (session_more name names replies a (111 ∷ x)) ∙ e ∙ session_more other others answers b (111 ∷ y)) in
    let first = line_part name other (reply_lines 1 replies ++ (session_lines names a ++ (111 ∷ x))) (reply_lines 1 answers ++ (session_lines others b ++ (111 ∷ y)))
    (name_in_line name (and_parts _ _ all).0) (name_in_line other (and_parts _ _ each).0) after in
    let second = replies_part 1 replies answers (session_lines names a ++ (111 ∷ x)) (session_lines others b ++ (111 ∷ y))
    (and_parts _ _ shown).0 (and_parts _ _ printed).0 (after_replies names a x) (after_replies others b y) first.1 in
    let more = sessions_part names a others b x y fewer less (and_parts _ _ all).1 (and_parts _ _ each).1 (and_parts _ _ shown).1 (and_parts _ _ printed).1 second.rest in
    record {
      sessions = ap₂ ◌∷◌ first.0 more.sessions;
      texts = ap₂ ◌∷◌ second.same.texts more.texts;
      wants = ap₂ ◌∷◌ second.same.wants more.wants;
      rest = more.rest;
    }
sessions_part [] [] (other ∷ others) (answers ∷ b) x y lengths sizes all each shown printed e = absurd (no_session (codes "ession " ++ session_end other others answers b (111 ∷ y)) x (sym (e ∙ session_more other others answers b (111 ∷ y))))
sessions_part (name ∷ names) (replies ∷ a) [] [] x y lengths sizes all each shown printed e = absurd (no_session (codes "ession " ++ session_end name names replies a (111 ∷ x)) y (sym (session_more name names replies a (111 ∷ x)) ∙ e))
sessions_part [] (replies ∷ a) others b x y lengths sizes all each shown printed e = absurd (omega arith)
sessions_part (name ∷ names) [] others b x y lengths sizes all each shown printed e = absurd (omega arith)
sessions_part names a [] (answers ∷ b) x y lengths sizes all each shown printed e = absurd (omega arith)
sessions_part names a (other ∷ others) [] x y lengths sizes all each shown printed e = absurd (omega arith)

-- a moment's place among names that are distinct
name_at : (names : List (List ℕ)) (place : ℕ) → list_all is_shown_name names ≡ true → list_all is_name_byte (slice_index_or names place []) ≡ true
name_at [] place all = refl
name_at (name ∷ names) zero all = (and_parts _ _ (and_parts _ _ all).0).1
name_at (name ∷ names) (suc place) all = name_at names place (and_parts _ _ all).1

not_apart : (names : List (List ℕ)) (i j : ℕ) → IsDistinct bytes_eq names → i < j → j < length names → slice_index_or names i [] ≡ slice_index_or names j [] → ⊥
not_apart names i j distinct before within same =
    false≢true (sym (apart_from_distinct bytes_eq names i j [] distinct before within) ∙ bytes_eq_same (slice_index_or names i []) (slice_index_or names j []) same)

same_place : (names : List (List ℕ)) (i j : ℕ) → IsDistinct bytes_eq names → i < length names → j < length names → slice_index_or names i [] ≡ slice_index_or names j [] → i ≡ j
same_place names i j distinct low small same =
    ⊎_elim (λ equal. equal)
    (⊎_elim (λ before. absurd (not_apart names i j distinct before small same)) (λ after. absurd (not_apart names j i distinct after low (sym same))))
    (cases_order i j)

abbrev moment_end : List (List ℕ) → Moment → List Moment → List ℕ → List ℕ
moment_end names moment order x = decimal moment.statement ++ (flat_map (moment_text names) order ++ x)

moment_more : (names : List (List ℕ)) (moment : Moment) (order : List Moment) (x : List ℕ)
    → flat_map (moment_text names) (moment ∷ order) ++ x ≡ 32 ∷ (slice_index_or names moment.session [] ++ (47 ∷ moment_end names moment order x))
moment_more names moment order x = simp append_assoc

pub at_slash : (x : List ℕ) → Stops is_name_byte (47 ∷ x)
at_slash x = record { byte = 47; rest = x; is = refl; stops = refl }

after_moment : (names : List (List ℕ)) (order : List Moment) (x : List ℕ) → Stops is_digit (flat_map (moment_text names) order ++ (10 ∷ x))
after_moment names [] x = record { byte = 10; rest = x; is = refl; stops = refl }
after_moment names (moment ∷ order) x = record { byte = 32; rest = slice_index_or names moment.session [] ++ (47 ∷ moment_end names moment order (10 ∷ x)); is = moment_more names moment order (10 ∷ x); stops = refl }

same_moment : (a b : Moment) → a.session ≡ b.session → a.statement ≡ b.statement → a ≡ b
same_moment a b p q = λ i. record { session = p i; statement = q i }

blank_bytes : ◌≡◌ {A = ℕ} 10 32 → ⊥
blank_bytes e = omega arith

no_moment : (x y : List ℕ) → 10 ∷ x ≡ 32 ∷ y → ⊥
no_moment x y e = blank_bytes (ap (λ text. slice_index text 0) e)

statement_in_range : (moment : Moment) → nat_lt moment.statement (2 ^ 32) ≡ true → moment.statement < 2 ^ 64
statement_in_range moment low = let small : moment.statement < 2 ^ 32 = ltb-true _ _ low in omega arith

-- two lines of moments, of sessions with the same names, are the same, and so is what follows
order_part : (names : List (List ℕ)) (a b : List Moment) (x y : List ℕ) → list_all is_shown_name names ≡ true → IsDistinct bytes_eq names
    → list_all (is_shown_moment (length names)) a ≡ true → list_all (is_shown_moment (length names)) b ≡ true
    → flat_map (moment_text names) a ++ (10 ∷ x) ≡ flat_map (moment_text names) b ++ (10 ∷ y) → (a ≡ b) × (x ≡ y)
order_part names [] [] x y all distinct shown printed e = (refl, ap (drop 1) e)
order_part names [] (other ∷ b) x y all distinct shown printed e = absurd (no_moment _ _ (e ∙ moment_more names other b (10 ∷ y)))
order_part names (moment ∷ a) [] x y all distinct shown printed e = absurd (no_moment _ _ (sym e ∙ moment_more names moment a (10 ∷ x)))
order_part names (moment ∷ a) (other ∷ b) x y all distinct shown printed e =
    let after = ap (drop 1) (sym (moment_more names moment a (10 ∷ x)) ∙ e ∙ moment_more names other b (10 ∷ y)) in
    let left = and_parts _ _ (and_parts _ _ shown).0 in
    let right = and_parts _ _ (and_parts _ _ printed).0 in
    let first = until is_name_byte (slice_index_or names moment.session []) (slice_index_or names other.session []) (47 ∷ moment_end names moment a (10 ∷ x)) (47 ∷ moment_end names other b (10 ∷ y))
    (name_at names moment.session all) (name_at names other.session all) (at_slash _) (at_slash _) after in
    let second = number_part moment.statement other.statement (flat_map (moment_text names) a ++ (10 ∷ x)) (flat_map (moment_text names) b ++ (10 ∷ y))
    (statement_in_range moment left.1) (statement_in_range other right.1) (after_moment names a x) (after_moment names b y) (ap (drop 1) first.1) in
    let place = same_place names moment.session other.session distinct (ltb-true _ _ left.0) (ltb-true _ _ right.0) first.0 in
    let more = order_part names a b x y all distinct (and_parts _ _ shown).1 (and_parts _ _ printed).1 second.1 in
    (ap₂ ◌∷◌ (same_moment moment other place second.0) more.0, more.1)

-- refusals for want of memory or for a collision, from what the replies tell
wants_at : (replies : List (List Reply)) (session : ℕ) → slice_index_or (wants_in replies) session [] ≡ map shortage (slice_index_or replies session [])
wants_at [] session = refl
wants_at (session ∷ replies) zero = refl
wants_at (session ∷ replies) (suc place) = wants_at replies place

abbrev kept : Option (Option Shortage) → Option Shortage
kept None = None
kept (Some want) = want

kept_want : (reply : Option Reply) → kept (option_map shortage reply) ≡ option_and_then shortage reply
kept_want None = refl
kept_want (Some reply) = refl

shortages_told : (replies : List (List Reply)) (session statement : ℕ) → shortages_in replies session statement ≡ kept (slice_get (slice_index_or (wants_in replies) session []) (statement - 1))
shortages_told replies session statement =
    let place = statement - 1 in
    sym (ap (λ wants. kept (slice_get wants place)) (wants_at replies session) ∙ ap kept (slice_get-map shortage (slice_index_or replies session []) place) ∙ kept_want (slice_get (slice_index_or replies session []) place))

same_shortages : (a b : List (List Reply)) → wants_in a ≡ wants_in b → (session statement : ℕ) → shortages_in a session statement ≡ shortages_in b session statement
same_shortages a b same session statement =
    shortages_told a session statement ∙ ap (λ wants. kept (slice_get (slice_index_or wants session []) (statement - 1))) same ∙ sym (shortages_told b session statement)

order_more : (names : List (List ℕ)) (order : List Moment) (x : List ℕ) → order_line names order ++ x ≡ codes "order" ++ (flat_map (moment_text names) order ++ (10 ∷ x))
order_more names order x = simp append_assoc

abbrev order_end : List (List ℕ) → List Moment → List ℕ → List ℕ
order_end names order x = (codes "rder" ++ flat_map (moment_text names) order ++ newline) ++ x

-- the sessions, the order line, and what follows it
text_more : (run : RunText) → text run ≡ session_lines run.names run.replies ++ (111 ∷ order_end run.names run.order (flat_map branch_line run.branches))
text_more run = append_assoc (session_lines run.names run.replies) (order_line run.names run.order) (flat_map branch_line run.branches)

-- one run alone has its text
pub one_reading : HasOneReading
one_reading a b left right e =
    let x = flat_map branch_line a.branches in
    let y = flat_map branch_line b.branches in
    let read = sessions_part a.names a.replies b.names b.replies (order_end a.names a.order x) (order_end b.names b.order y) left.lists right.lists left.names right.names left.replies right.replies
    (sym (text_more a) ∙ e ∙ text_more b) in
    let lines : order_line a.names a.order ++ x ≡ order_line a.names b.order ++ y = read.rest ∙ ap (λ names. order_line names b.order ++ y) (sym read.sessions) in
    let after = append_cancel_left (codes "order") (flat_map (moment_text a.names) a.order ++ (10 ∷ x)) (flat_map (moment_text a.names) b.order ++ (10 ∷ y))
    (sym (order_more a.names a.order x) ∙ lines ∙ order_more a.names b.order y) in
    let moments : list_all (is_shown_moment (length a.names)) b.order ≡ true = ap (λ names. list_all (is_shown_moment (length names)) b.order) read.sessions ∙ right.moments in
    record {
      names = read.sessions;
      replies = read.texts;
      shortages = same_shortages a.replies b.replies read.wants;
      order = (order_part a.names a.order b.order x y left.names left.distinct left.moments moments after).0;
    }
