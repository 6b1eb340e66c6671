-- Where an order can't be followed is read back: its item, and the statements that no rule of SQL refused.
use Rattle.std.proofs.Common.{◌≡◌, refl, sym, ap, ap₂, subst, ◌∙◌, ℕ, suc, zero, ◌+◌, ◌-◌, ◌<◌, ◌^◌, ◌==◌, ◌&&◌, Bool, true, false, List, [], ◌∷◌, ◌++◌, codes, length, map, not, decimal, append_assoc, Option, Some, None, drop, slice_get, slice_index, slice_index_or, nat_lt, arith, ltb-true}
use Rattle.std.specs.Option.{option_and_then}
use Rattle.std.specs.List.{AllByRecursion, list_all, IsDistinct}
use Rattle.std.specs.Str.{bytes_eq}
use Rattle.std.proofs.lemmas.Bool.{and_from, and_parts, cond_both, false≢true, ne_eqb}
use Rattle.std.proofs.lemmas.List.{append_cancel_left, length-map}
use Rattle.tuple_codec.proofs.ByteLemmas.{bytes_same as bytes_eq_same}
use Rattle.hex.specs.Hex.{encode_lower}
use Rattle.chunk_store.specs.declared.faults.Clash.{Clash}
use Rattle.tuple_codec.specs.AddressTexts.{address_text, letter}
use Rattle.script_text.specs.declared.outputs.StopText.{StopText}
use Rattle.script_text.specs.declared.replies.Reply.{Reply}
use Rattle.script_text.specs.declared.replies.Reply.TheVariants.{Done, Count, Rows, Refused, Syntax, Collided}
use Rattle.script_text.specs.Input.{is_name_byte}
use Rattle.script_text.specs.Output.{AfterStart, AtOnce, Clashes, Shortage, all_refused, refused_text, refused_texts, shortage, shortage_of, shortage_text, stop_text}
use Rattle.script_text.specs.Shown.{HasOneStop, IsShownStop, are_bytes, is_shown_name, is_shown_reply, is_whole_address}
use Rattle.script_text.proofs.ByteLemmas.{all_hex, all_letters, one_address, one_hex}
use Rattle.script_text.proofs.ClashLemmas.{IsShownClash, same_clash, shown_clash}
use Rattle.script_text.proofs.TextParts.{Stops, all_append, is_digit, until}
use Rattle.script_text.proofs.ReplyParts.{number_part}
use Rattle.script_text.proofs.RunParts.{at_slash, wants_in}

-- ---- what a statement met

abbrev is_whole_shortage : Shortage → Bool
is_whole_shortage AtOnce = true
is_whole_shortage AfterStart = true
is_whole_shortage (Clashes clash) = is_whole_address clash.address.0 && are_bytes clash.first && are_bytes clash.second

abbrev is_whole : Option Shortage → Bool
is_whole None = true
is_whole (Some short) = is_whole_shortage short

number_whole : (number : ℕ) → is_whole (shortage_of number) ≡ true
number_whole number = cond_both (number == 1) _ _ (λ want. is_whole want ≡ true) (λ e. refl) (λ e. cond_both (number == 2) _ _ (λ want. is_whole want ≡ true) (λ e. refl) (λ e. refl))

reply_whole : (reply : Reply) → is_shown_reply reply ≡ true → is_whole (shortage reply) ≡ true
reply_whole Done shown = refl
reply_whole (Count rows) shown = refl
reply_whole (Rows answer) shown = refl
reply_whole (Refused number) shown = number_whole number
reply_whole (Syntax at) shown = refl
reply_whole (Collided clash) shown = shown

-- a byte of what stands between two spaces, and of what stands between two colons there
abbrev is_in_entry : ℕ → Bool
is_in_entry byte = not (byte == 32) && not (byte == 10)

abbrev is_in_part : ℕ → Bool
is_in_part byte = not (byte == 58)

letter_is_not : (bits other : ℕ) → (other < 48) → not (letter bits == other) ≡ true
unfolding letter
letter_is_not bits other low = cond_both (nat_lt bits 10) (48 + bits) (87 + bits) (λ byte. not (byte == other) ≡ true) (λ e. ap not (ne_eqb (48 + bits) other (λ same. omega arith))) (λ e. ap not (ne_eqb (87 + bits) other (λ same. omega arith)))

letter_in_entry : (bits : ℕ) → is_in_entry (letter bits) ≡ true
letter_in_entry bits = and_from _ _ (letter_is_not bits 32 (omega arith)) (letter_is_not bits 10 (omega arith))

letter_in_part : (bits : ℕ) → is_in_part (letter bits) ≡ true
unfolding letter
letter_in_part bits = cond_both (nat_lt bits 10) (48 + bits) (87 + bits) (λ byte. is_in_part byte ≡ true) (λ e. let low : bits < 10 = ltb-true bits 10 e in ap not (ne_eqb (48 + bits) 58 (λ same. omega arith))) (λ e. ap not (ne_eqb (87 + bits) 58 (λ same. omega arith)))

clash_more : (clash : Clash) → shortage_text (Clashes clash) ≡ 51 ∷ 58 ∷ (address_text clash.address.0 ++ (58 ∷ (encode_lower clash.first ++ (58 ∷ encode_lower clash.second))))
clash_more clash = simp append_assoc

at_colon : (x : List ℕ) → Stops is_in_part (58 ∷ x)
at_colon x = record { byte = 58; rest = x; is = refl; stops = refl }

one_clash : (a b : Clash) → IsShownClash a → IsShownClash b → shortage_text (Clashes a) ≡ shortage_text (Clashes b) → a ≡ b
one_clash a b left right e =
    let after = ap (drop 2) (sym (clash_more a) ∙ e ∙ clash_more b) in
    let addresses = until is_in_part (address_text a.address.0) (address_text b.address.0) (58 ∷ (encode_lower a.first ++ (58 ∷ encode_lower a.second))) (58 ∷ (encode_lower b.first ++ (58 ∷ encode_lower b.second)))
    (all_letters is_in_part letter_in_part a.address.0) (all_letters is_in_part letter_in_part b.address.0) (at_colon _) (at_colon _) after in
    let firsts = until is_in_part (encode_lower a.first) (encode_lower b.first) (58 ∷ encode_lower a.second) (58 ∷ encode_lower b.second)
    (all_hex is_in_part a.first refl refl) (all_hex is_in_part b.first refl refl) (at_colon _) (at_colon _) (ap (drop 1) addresses.1) in
    same_clash a b (one_address a.address.0 b.address.0 left.address right.address addresses.0) (one_hex a.first b.first left.first right.first firsts.0)
    (one_hex a.second b.second left.second right.second (ap (drop 1) firsts.1))

clash_in_entry : (clash : Clash) → list_all is_in_entry (shortage_text (Clashes clash)) ≡ true
clash_in_entry clash =
    let second = all_hex is_in_entry clash.second refl refl in
    let first = all_append is_in_entry (encode_lower clash.first) (58 ∷ encode_lower clash.second) (all_hex is_in_entry clash.first refl refl) second in
    ap (list_all is_in_entry) (clash_more clash)
    ∙ all_append is_in_entry (address_text clash.address.0) (58 ∷ (encode_lower clash.first ++ (58 ∷ encode_lower clash.second))) (all_letters is_in_entry letter_in_entry clash.address.0) first

in_entry : (short : Shortage) → list_all is_in_entry (shortage_text short) ≡ true
in_entry AtOnce = refl
in_entry AfterStart = refl
in_entry (Clashes clash) = clash_in_entry clash

-- the three kinds differ in their first byte
apart : (m n : ℕ) (x y : List ℕ) {P : Type 0} → (m ≡ n → ⊥) → m ∷ x ≡ n ∷ y → P
apart m n x y differ e = absurd (differ (ap (λ text. slice_index text 0) e))

one_shortage : (a b : Shortage) → is_whole_shortage a ≡ true → is_whole_shortage b ≡ true → shortage_text a ≡ shortage_text b → a ≡ b
one_shortage AtOnce AtOnce left right e = refl
one_shortage AfterStart AfterStart left right e = refl
one_shortage (Clashes a) (Clashes b) left right e = ap Clashes (one_clash a b (shown_clash a left) (shown_clash b right) e)
one_shortage AtOnce AfterStart left right e = apart 49 50 _ _ (λ same. omega arith) e
one_shortage AfterStart AtOnce left right e = apart 50 49 _ _ (λ same. omega arith) e
one_shortage AtOnce (Clashes b) left right e = apart 49 51 _ _ (λ same. omega arith) (e ∙ clash_more b)
one_shortage AfterStart (Clashes b) left right e = apart 50 51 _ _ (λ same. omega arith) (e ∙ clash_more b)
one_shortage (Clashes a) AtOnce left right e = apart 51 49 _ _ (λ same. omega arith) (sym (clash_more a) ∙ e)
one_shortage (Clashes a) AfterStart left right e = apart 51 50 _ _ (λ same. omega arith) (sym (clash_more a) ∙ e)

-- ---- the statements of a session

abbrev told : List ℕ → ℕ → List (Option Shortage) → List ℕ
told name number [] = []
told name number (want ∷ wants) = refused_text name number want ++ told name (number + 1) wants

told_is : (name : List ℕ) (number : ℕ) (replies : List Reply) → refused_texts name number replies ≡ told name number (map shortage replies)
told_is name number [] = refl
told_is name number (reply ∷ replies) = ap (λ rest. refused_text name number (shortage reply) ++ rest) (told_is name (number + 1) replies)

abbrev entry : List ℕ → ℕ → List ℕ → List ℕ
entry name number rest = 32 ∷ (name ++ (47 ∷ (decimal number ++ (58 ∷ rest))))

told_more : (name : List ℕ) (number : ℕ) (short : Shortage) (wants : List (Option Shortage)) (x : List ℕ)
    → told name number (Some short ∷ wants) ++ x ≡ entry name number (shortage_text short ++ (told name (number + 1) wants ++ x))
told_more name number short wants x = simp append_assoc

entry_ends : (name : List ℕ) (number : ℕ) (rest : List ℕ) → Stops is_in_entry (entry name number rest)
entry_ends name number rest = record { byte = 32; rest = name ++ (47 ∷ (decimal number ++ (58 ∷ rest))); is = refl; stops = refl }

told_ends : (name : List ℕ) (number : ℕ) (wants : List (Option Shortage)) (x : List ℕ) → Stops is_in_entry x → Stops is_in_entry (told name number wants ++ x)
told_ends name number [] x ends = ends
told_ends name number (None ∷ wants) x ends = told_ends name (number + 1) wants x ends
told_ends name number (Some short ∷ wants) x ends = subst (Stops is_in_entry) (sym (told_more name number short wants x)) (entry_ends name number _)

-- no statement of the session comes next
abbrev IsPast : List ℕ → List ℕ → Type 0
IsPast name x = (rest : List ℕ) → x ≡ 32 ∷ (name ++ (47 ∷ rest)) → ⊥

numbers_end : (x : List ℕ) → Stops is_digit (58 ∷ x)
numbers_end x = record { byte = 58; rest = x; is = refl; stops = refl }

-- of two entries of one session the numbers are the same, and so is what follows
same_entry : (name : List ℕ) (m n : ℕ) (x y : List ℕ) → m < 2 ^ 64 → n < 2 ^ 64 → entry name m x ≡ entry name n y → (m ≡ n) × (x ≡ y)
same_entry name m n x y low small e =
    let after = append_cancel_left name (47 ∷ (decimal m ++ (58 ∷ x))) (47 ∷ (decimal n ++ (58 ∷ y))) (ap (drop 1) e) in
    let parts = number_part m n (58 ∷ x) (58 ∷ y) low small (numbers_end x) (numbers_end y) (ap (drop 1) after) in
    (parts.0, ap (drop 1) parts.1)

-- an entry can't stand where only later ones do
later : (name : List ℕ) (number next : ℕ) (wants : List (Option Shortage)) (x rest : List ℕ) → number < next → next + length wants < 2 ^ 64 → IsPast name x
    → told name next wants ++ x ≡ entry name number rest → ⊥
later name number next [] x rest before few past e = past (decimal number ++ (58 ∷ rest)) e
later name number next (None ∷ wants) x rest before few past e = later name number (next + 1) wants x rest (omega arith) (omega arith) past e
later name number next (Some short ∷ wants) x rest before few past e =
    let same = same_entry name next number _ rest (omega arith) (omega arith) (sym (told_more name next short wants x) ∙ e) in
    omega (arith, same.0)

abbrev want_at : List (Option Shortage) → ℕ → Option Shortage
want_at [] place = None
want_at (want ∷ wants) zero = want
want_at (want ∷ wants) (suc place) = want_at wants place

record ReadWants (a b : List (Option Shortage)) (x y : List ℕ) : Type 0 where
  same : (place : ℕ) → want_at a place ≡ want_at b place
  rest : x ≡ y

same_more : (want other : Option Shortage) (a b : List (Option Shortage)) → want ≡ other → ((place : ℕ) → want_at a place ≡ want_at b place) → (place : ℕ) → want_at (want ∷ a) place ≡ want_at (other ∷ b) place
same_more want other a b first more zero = first
same_more want other a b first more (suc place) = more place

none_more : (b : List (Option Shortage)) → ((place : ℕ) → None ≡ want_at b place) → (place : ℕ) → None ≡ want_at (None ∷ b) place
none_more b more zero = refl
none_more b more (suc place) = more place

-- a session of which nothing is told
nothing_told : (name : List ℕ) (number : ℕ) (b : List (Option Shortage)) (x y : List ℕ) → IsPast name x → x ≡ told name number b ++ y → ((place : ℕ) → None ≡ want_at b place) × (x ≡ y)
nothing_told name number [] x y past e = (λ place. refl, e)
nothing_told name number (None ∷ b) x y past e = let more = nothing_told name (number + 1) b x y past e in (none_more b more.0, more.1)
nothing_told name number (Some short ∷ b) x y past e = absurd (past _ (e ∙ told_more name number short b y))

wants_part : (name : List ℕ) (number : ℕ) (a b : List (Option Shortage)) (x y : List ℕ) → number + length a < 2 ^ 64 → number + length b < 2 ^ 64
    → list_all is_whole a ≡ true → list_all is_whole b ≡ true → IsPast name x → IsPast name y → Stops is_in_entry x → Stops is_in_entry y
    → told name number a ++ x ≡ told name number b ++ y → ReadWants a b x y
wants_part name number [] b x y low small all each past over ends stops e = let more = nothing_told name number b x y past e in record { same = more.0; rest = more.1 }
wants_part name number (want ∷ a) [] x y low small all each past over ends stops e =
    let more = nothing_told name number (want ∷ a) y x over (sym e) in record { same = λ place. sym (more.0 place); rest = sym more.1 }
wants_part name number (None ∷ a) (None ∷ b) x y low small all each past over ends stops e =
    let more = wants_part name (number + 1) a b x y (omega arith) (omega arith) all each past over ends stops e in
    record { same = same_more None None a b refl more.same; rest = more.rest }
wants_part name number (None ∷ a) (Some other ∷ b) x y low small all each past over ends stops e =
    absurd (later name number (number + 1) a x _ (omega arith) (omega arith) past (e ∙ told_more name number other b y))
wants_part name number (Some short ∷ a) (None ∷ b) x y low small all each past over ends stops e =
    absurd (later name number (number + 1) b y _ (omega arith) (omega arith) over (sym e ∙ told_more name number short a x))
wants_part name number (Some short ∷ a) (Some other ∷ b) x y low small all each past over ends stops e =
    let after = same_entry name number number _ _ (omega arith) (omega arith) (sym (told_more name number short a x) ∙ e ∙ told_more name number other b y) in
    let texts = until is_in_entry (shortage_text short) (shortage_text other) (told name (number + 1) a ++ x) (told name (number + 1) b ++ y) (in_entry short) (in_entry other)
    (told_ends name (number + 1) a x ends) (told_ends name (number + 1) b y stops) after.1 in
    let more = wants_part name (number + 1) a b x y (omega arith) (omega arith) (and_parts _ _ all).1 (and_parts _ _ each).1 past over ends stops texts.1 in
    record { same = same_more (Some short) (Some other) a b (ap Some (one_shortage short other (and_parts _ _ all).0 (and_parts _ _ each).0 texts.0)) more.same; rest = more.rest }

-- ---- all sessions

abbrev all_told : List (List ℕ) → List (List (Option Shortage)) → List ℕ
all_told [] wants = []
all_told names [] = []
all_told (name ∷ names) (wants ∷ more) = told name 1 wants ++ all_told names more

all_told_is : (names : List (List ℕ)) (replies : List (List Reply)) → all_refused names replies ≡ all_told names (wants_in replies)
all_told_is [] replies = refl
all_told_is (name ∷ names) [] = refl
all_told_is (name ∷ names) (replies ∷ more) = ap₂ ◌++◌ (told_is name 1 replies) (all_told_is names more)

all_told_ends : (names : List (List ℕ)) (wants : List (List (Option Shortage))) (x : List ℕ) → Stops is_in_entry (all_told names wants ++ (10 ∷ x))
all_told_ends [] wants x = record { byte = 10; rest = x; is = refl; stops = refl }
all_told_ends (name ∷ names) [] x = record { byte = 10; rest = x; is = refl; stops = refl }
all_told_ends (name ∷ names) (wants ∷ more) x =
    subst (Stops is_in_entry) (sym (append_assoc (told name 1 wants) (all_told names more) (10 ∷ x))) (told_ends name 1 wants (all_told names more ++ (10 ∷ x)) (all_told_ends names more x))

-- another session's statements are none of this one's
others_past : (name other : List ℕ) (number : ℕ) (wants : List (Option Shortage)) (x : List ℕ) → list_all is_name_byte name ≡ true → list_all is_name_byte other ≡ true → (other ≡ name → ⊥)
    → IsPast name x → IsPast name (told other number wants ++ x)
others_past name other number [] x all each differ past rest e = past rest e
others_past name other number (None ∷ wants) x all each differ past rest e = others_past name other (number + 1) wants x all each differ past rest e
others_past name other number (Some short ∷ wants) x all each differ past rest e =
    differ (until is_name_byte other name _ (47 ∷ rest) each all (at_slash _) (at_slash rest) (ap (drop 1) (sym (told_more other number short wants x) ∙ e))).0

abbrev IsOther : List ℕ → List ℕ → Type 0
IsOther name other = bytes_eq name other ≡ false

differs : (name other : List ℕ) → IsOther name other → other ≡ name → ⊥
differs name other apart same = false≢true (sym apart ∙ bytes_eq_same name other (sym same))

line_past : (name x : List ℕ) → IsPast name (10 ∷ x)
line_past name x rest e = apart 10 32 _ _ (λ same. omega arith) e

all_past : (name : List ℕ) (names : List (List ℕ)) (wants : List (List (Option Shortage))) (x : List ℕ) → list_all is_name_byte name ≡ true → list_all is_shown_name names ≡ true
    → AllByRecursion (IsOther name) names → IsPast name (all_told names wants ++ (10 ∷ x))
all_past name [] wants x all each others rest e = line_past name x rest e
all_past name (other ∷ names) [] x all each others rest e = line_past name x rest e
all_past name (other ∷ names) (wants ∷ more) x all each others rest e =
    others_past name other 1 wants (all_told names more ++ (10 ∷ x)) all (and_parts _ _ (and_parts _ _ each).0).1 (differs name other others.0) (all_past name names more x all (and_parts _ _ each).1 others.1) rest
    (sym (append_assoc (told other 1 wants) (all_told names more) (10 ∷ x)) ∙ e)

record AreTold (names : List (List ℕ)) (wants : List (List (Option Shortage))) : Type 0 where
  lists : length wants ≡ length names
  whole : list_all (list_all is_whole) wants ≡ true
  few : list_all (λ session. nat_lt (length session) (2 ^ 32)) wants ≡ true

abbrev kept_at : List (List (Option Shortage)) → ℕ → ℕ → Option Shortage
kept_at [] session place = None
kept_at (wants ∷ more) zero place = want_at wants place
kept_at (wants ∷ more) (suc session) place = kept_at more session place

all_more : (first other : List (Option Shortage)) (a b : List (List (Option Shortage))) → ((place : ℕ) → want_at first place ≡ want_at other place) → ((session place : ℕ) → kept_at a session place ≡ kept_at b session place)
    → (session place : ℕ) → kept_at (first ∷ a) session place ≡ kept_at (other ∷ b) session place
all_more first other a b same more zero place = same place
all_more first other a b same more (suc session) place = more session place

distinct_parts : (name : List ℕ) (names : List (List ℕ)) → IsDistinct bytes_eq (name ∷ names) → AllByRecursion (IsOther name) names × IsDistinct bytes_eq names
unfolding IsDistinct
distinct_parts name names distinct = distinct

name_letters : (name : List ℕ) → is_shown_name name ≡ true → list_all is_name_byte name ≡ true
name_letters name shown = (and_parts _ _ shown).1

all_part : (names : List (List ℕ)) (a b : List (List (Option Shortage))) (x y : List ℕ) → list_all is_shown_name names ≡ true → IsDistinct bytes_eq names → AreTold names a → AreTold names b
    → all_told names a ++ (10 ∷ x) ≡ all_told names b ++ (10 ∷ y) → (session place : ℕ) → kept_at a session place ≡ kept_at b session place
all_part [] [] [] x y all distinct left right e = λ session place. refl
all_part [] (wants ∷ a) b x y all distinct left right e = λ session place. let none = left.lists in absurd (omega (arith, none))
all_part [] [] (wants ∷ b) x y all distinct left right e = λ session place. let none = right.lists in absurd (omega (arith, none))
all_part (name ∷ names) [] b x y all distinct left right e = λ session place. let none = left.lists in absurd (omega (arith, none))
all_part (name ∷ names) (wants ∷ a) [] x y all distinct left right e = λ session place. let none = right.lists in absurd (omega (arith, none))
all_part (name ∷ names) (wants ∷ a) (others ∷ b) x y all distinct left right e =
    let low : length wants < 2 ^ 32 = ltb-true _ _ (and_parts _ _ left.few).0 in
    let small : length others < 2 ^ 32 = ltb-true _ _ (and_parts _ _ right.few).0 in
    let counts = left.lists in
    let sizes = right.lists in
    let fewer : length a ≡ length names = omega arith in
    let less : length b ≡ length names = omega arith in
    let letters = name_letters name (and_parts _ _ all).0 in
    let apart_names = distinct_parts name names distinct in
    let first = wants_part name 1 wants others (all_told names a ++ (10 ∷ x)) (all_told names b ++ (10 ∷ y)) (omega arith) (omega arith) (and_parts _ _ left.whole).0 (and_parts _ _ right.whole).0
    (all_past name names a x letters (and_parts _ _ all).1 apart_names.0) (all_past name names b y letters (and_parts _ _ all).1 apart_names.0) (all_told_ends names a x) (all_told_ends names b y)
    (sym (append_assoc (told name 1 wants) (all_told names a) (10 ∷ x)) ∙ e ∙ append_assoc (told name 1 others) (all_told names b) (10 ∷ y)) in
    let more = all_part names a b x y (and_parts _ _ all).1 apart_names.1
    (record { lists = fewer; whole = (and_parts _ _ left.whole).1; few = (and_parts _ _ left.few).1 })
    (record { lists = less; whole = (and_parts _ _ right.whole).1; few = (and_parts _ _ right.few).1 }) first.rest in
    all_more wants others a b first.same more

-- ---- from replies

replies_whole : (replies : List Reply) → list_all is_shown_reply replies ≡ true → list_all is_whole (map shortage replies) ≡ true
replies_whole [] shown = refl
replies_whole (reply ∷ replies) shown = and_from _ _ (reply_whole reply (and_parts _ _ shown).0) (replies_whole replies (and_parts _ _ shown).1)

all_whole : (replies : List (List Reply)) → list_all (list_all is_shown_reply) replies ≡ true → list_all (list_all is_whole) (wants_in replies) ≡ true
all_whole [] shown = refl
all_whole (session ∷ replies) shown = and_from _ _ (replies_whole session (and_parts _ _ shown).0) (all_whole replies (and_parts _ _ shown).1)

all_few : (replies : List (List Reply)) → list_all (λ session. nat_lt (length session) (2 ^ 32)) replies ≡ true → list_all (λ session. nat_lt (length session) (2 ^ 32)) (wants_in replies) ≡ true
all_few [] few = refl
all_few (session ∷ replies) few = and_from _ _ (ap (λ count. nat_lt count (2 ^ 32)) (length-map session shortage) ∙ (and_parts _ _ few).0) (all_few replies (and_parts _ _ few).1)

are_told : (stop : StopText) → IsShownStop stop → AreTold stop.names (wants_in stop.replies)
are_told stop shown = record {
  lists = length-map stop.replies (λ session. map shortage session) ∙ shown.lists;
  whole = all_whole stop.replies shown.replies;
  few = all_few stop.replies shown.few;
}

want_told : (replies : List Reply) (place : ℕ) → option_and_then shortage (slice_get replies place) ≡ want_at (map shortage replies) place
want_told [] place = refl
want_told (reply ∷ replies) zero = refl
want_told (reply ∷ replies) (suc place) = want_told replies place

shortages_kept : (replies : List (List Reply)) (session place : ℕ) → option_and_then shortage (slice_get (slice_index_or replies session []) place) ≡ kept_at (wants_in replies) session place
shortages_kept [] session place = refl
shortages_kept (first ∷ replies) zero place = want_told first place
shortages_kept (first ∷ replies) (suc session) place = shortages_kept replies session place

stop_more : (stop : StopText) → stop_text stop ≡ codes "order item " ++ (decimal stop.item ++ (10 ∷ (codes "refused" ++ (all_refused stop.names stop.replies ++ (10 ∷ [])))))
stop_more stop = simp append_assoc

number_ends : (x : List ℕ) → Stops is_digit (10 ∷ x)
number_ends x = record { byte = 10; rest = x; is = refl; stops = refl }

-- one item and the same shortages have a text
pub one_stop : HasOneStop
one_stop a b left right names e =
    let after = append_cancel_left (codes "order item ") _ _ (sym (stop_more a) ∙ e ∙ stop_more b) in
    let items = number_part a.item b.item (10 ∷ (codes "refused" ++ (all_refused a.names a.replies ++ (10 ∷ [])))) (10 ∷ (codes "refused" ++ (all_refused b.names b.replies ++ (10 ∷ []))))
    left.item right.item (number_ends _) (number_ends _) after in
    let rest : all_refused a.names a.replies ++ (10 ∷ []) ≡ all_refused b.names b.replies ++ (10 ∷ []) = append_cancel_left (codes "refused") _ _ (ap (drop 1) items.1) in
    let lines : all_told a.names (wants_in a.replies) ++ (10 ∷ []) ≡ all_told a.names (wants_in b.replies) ++ (10 ∷ []) =
    ap (λ x. x ++ (10 ∷ [])) (sym (all_told_is a.names a.replies)) ∙ rest ∙ ap (λ x. x ++ (10 ∷ [])) (all_told_is b.names b.replies)
    ∙ ap (λ x. all_told x (wants_in b.replies) ++ (10 ∷ [])) (sym names) in
    let same = all_part a.names (wants_in a.replies) (wants_in b.replies) [] [] left.names left.distinct (are_told a left) (subst (λ x. AreTold x (wants_in b.replies)) (sym names) (are_told b right)) lines in
    record {
      item = items.0;
      shortages = λ session statement. shortages_kept a.replies session (statement - 1) ∙ same session (statement - 1) ∙ sym (shortages_kept b.replies session (statement - 1));
    }
