-- Tokens that are read are slices of their text.
use Rattle.std.proofs.Common.{◌≡◌, refl, sym, ◌∙◌, ap, subst, ℕ, ◌+◌, ◌-◌, ◌<◌, ◌≤◌, Bool, true, false, List, [], ◌∷◌, ◌++◌, length, IsTrue, Option, Some, None, Result, Ok, Err, arith, if◌then◌else◌}
use Rattle.std.proofs.Common.{below_more, append_assoc, ◌==◌}
use Rattle.std.proofs.Math.Seq.{get_or-append_seam}
use Rattle.std.proofs.lemmas.List.{length-append}
use Rattle.sql_ast.specs.Words.{double_sign, keyword_of, single_sign}
use Rattle.std.specs.Prelude.{IfOk, IfSome, ◌||◌, is_some, nat_le, slice_index}
use Rattle.std.specs.Option.{option_map}
use Rattle.sql_ast.specs.Bytes.{hex_value, is_blank, is_digit, is_word_byte, is_word_start}
use Rattle.sql_ast.specs.Slices.{IsBlankFrom, AreSlices}
use Rattle.sql_ast.specs.Tokens.{after_keyword, after_sign, and_then, begun, closed, end_decimal, end_point, end_whole, ended, first_place, gone_on, first_byte, most_whole, next_place, on, nothing_read, opened, step, taken, tokens, tokens_from, with_point}
use Rattle.sql_ast.specs.declared.faults.Refusal.{Refusal}
use Rattle.sql_ast.specs.declared.lexer.Reading.{Reading}
use Rattle.sql_ast.specs.declared.places.Last.{Last}
use Rattle.sql_ast.specs.declared.places.Last.TheVariants.{Operand}
use Rattle.sql_ast.specs.declared.signs.Sign.{Sign}
use Rattle.sql_ast.specs.declared.signs.Sign.TheVariants as sign
use Rattle.sql_ast.specs.declared.tokens.TokenKind.TheVariants as kind
use Rattle.sql_ast.specs.declared.places.LexerState.{LexerState}
use Rattle.sql_ast.specs.declared.places.LexerState.TheVariants.{Between, InWord, AfterX, InWhole, AtPoint, InDecimal, InString, AfterQuote, AfterSlash, HexEven, HexOdd, AfterBytes, NameStart, InName, AfterName, AfterSign, AfterHalf}
use Rattle.sql_ast.specs.declared.tokens.Token.{Token}
use Rattle.sql_ast.specs.declared.tokens.TokenKind.{TokenKind}

nothing_blank : (text : List ℕ) (at : ℕ) → IsBlankFrom text at at
nothing_blank text at k from to = absurd (omega arith)

with_token : (text : List ℕ) (from : ℕ) (ts : List Token) (token : Token) → AreSlices text from ts token.start → token.start < token.end
    → AreSlices text from (ts ++ token ∷ []) token.end
with_token text from [] token (within, blank) some = (within, blank, some, (omega arith, nothing_blank text token.end))
with_token text from (t ∷ ts) token (within, blank, filled, rest) some = (within, blank, filled, with_token text t.end ts token rest some)

blank_more : (text : List ℕ) (from at : ℕ) → IsBlankFrom text from at → IsTrue (is_blank (slice_index text at)) → IsBlankFrom text from (at + 1)
blank_more text from at blank here k low high =
    below_more (λ k. from ≤ k → IsTrue (is_blank (slice_index text k))) at (λ k below within. blank k within below) (λ within. here) k high low

with_blank : (text : List ℕ) (from : ℕ) (ts : List Token) (at : ℕ) → IsTrue (is_blank (slice_index text at)) → AreSlices text from ts at → AreSlices text from ts (at + 1)
with_blank text from [] at here (within, blank) = (omega arith, blank_more text from at blank here)
with_blank text from (t ∷ ts) at here (within, blank, filled, rest) = (within, blank, filled, with_blank text t.end ts at here rest)

-- where a token is open, what is closed goes up to its start, which is before `at`
abbrev Standing : LexerState → List ℕ → ℕ → Reading → Type 0
Standing Between text at r = AreSlices text 0 r.done at
Standing AtPoint text at r = AreSlices text 0 r.done r.start × (r.start + 1 < at)
Standing place text at r = AreSlices text 0 r.done r.start × (r.start < at)

and_then_ok : {X Y : Type 0} (P : X → Type 0) (Q : Y → Type 0) (o : Result X Refusal) (f : X → Result Y Refusal) → IfOk o P → ((x : X) → P x → IfOk (f x) Q) → IfOk (and_then o f) Q
and_then_ok P Q (Ok x) f p q = q x p
and_then_ok P Q (Err e) f p q = tt

if_ok : {X : Type 0} (P : X → Type 0) (test : Bool) (o : Result X Refusal) (e : Refusal) → IfOk o P → IfOk (if test then o else Err e) P
if_ok P true o e p = p
if_ok P false o e p = tt

closed_slices : (text : List ℕ) (kind : TokenKind) (at : ℕ) (last : Last) (r : Reading) → AreSlices text 0 r.done r.start → r.start < at
    → AreSlices text 0 (closed kind at last r).done at
closed_slices text kind at last r before some = with_token text 0 r.done (record { kind = kind; start = r.start; end = at }) before some

-- what an end leaves: nothing is open, and the tokens go up to `at`
abbrev Ends : List ℕ → ℕ → Reading → Type 0
Ends text at r = (r.place ≡ Between) × AreSlices text 0 r.done at

closed_ends : (text : List ℕ) (kind : TokenKind) (at : ℕ) (last : Last) (r : Reading) → AreSlices text 0 r.done r.start → r.start < at → Ends text at (closed kind at last r)
closed_ends text kind at last r before some = (refl, closed_slices text kind at last r before some)

whole_ends : (text : List ℕ) (at : ℕ) (r : Reading) → AreSlices text 0 r.done r.start → r.start < at → IfOk (end_whole at r) (Ends text at)
whole_ends text at r before some = if_ok (Ends text at) (nat_le r.value (most_whole r.last)) (Ok (closed kind.Whole at Operand r)) _ (closed_ends text kind.Whole at Operand r before some)

decimal_ends : (text : List ℕ) (at : ℕ) (r : Reading) → AreSlices text 0 r.done r.start → r.start < at → IfOk (end_decimal at r) (Ends text at)
decimal_ends text at r before some = if_ok (Ends text at) (nat_le r.digits 18) (Ok (closed kind.Decimal at Operand r)) _ (closed_ends text kind.Decimal at Operand r before some)

point_ends : (text : List ℕ) (at : ℕ) (r : Reading) → AreSlices text 0 r.done r.start → r.start + 1 < at → IfOk (end_point at r) (Ends text at)
point_ends text at r before some =
    and_then_ok (Ends text (at - 1)) (Ends text at) (end_whole (at - 1) r) (λ next. Ok (with_point at next))
    (whole_ends text (at - 1) r before (omega arith))
    (λ next ends. closed_ends text kind.Sign at (after_sign sign.Point next.last) (record next { start = at - 1 }) ends.1 (omega arith))

ends : (place : LexerState) (text : List ℕ) (at : ℕ) (r : Reading) → r.place ≡ place → Standing place text at r → IfOk (ended place at r) (Ends text at)
ends Between text at r is before = (is, before)
ends InWord text at r is (before, some) = closed_ends text kind.Word at (after_keyword (keyword_of r.held)) r before some
ends AfterX text at r is (before, some) = closed_ends text kind.Word at (after_keyword (keyword_of r.held)) r before some
ends InWhole text at r is (before, some) = whole_ends text at r before some
ends AtPoint text at r is (before, some) = point_ends text at r before some
ends InDecimal text at r is (before, some) = decimal_ends text at r before some
ends (InString quote) text at r is stands = tt
ends (AfterQuote quote) text at r is (before, some) = closed_ends text kind.Text at Operand r before some
ends (AfterSlash quote) text at r is stands = tt
ends HexEven text at r is stands = tt
ends HexOdd text at r is stands = tt
ends AfterBytes text at r is (before, some) = closed_ends text kind.Bytes at Operand r before some
ends NameStart text at r is stands = tt
ends InName text at r is stands = tt
ends AfterName text at r is (before, some) = closed_ends text kind.Quoted at Operand r before some
ends (AfterSign mark) text at r is (before, some) = closed_ends text kind.Sign at (after_sign mark r.last) r before some
ends (AfterHalf first) text at r is stands = tt

-- a byte at `at` may be taken into a token at this place
abbrev IsReady : List ℕ → ℕ → Reading → LexerState → Type 0
IsReady text at r Between = ⊥
IsReady text at r AtPoint = AreSlices text 0 r.done r.start × (r.start < at)
IsReady text at r place = AreSlices text 0 r.done r.start × (r.start ≤ at)

abbrev Stands : List ℕ → ℕ → Reading → Type 0
Stands text at r = Standing r.place text at r

taken_stands : (place : LexerState) (text : List ℕ) (at byte : ℕ) (r : Reading) → IsReady text at r place → Stands text (at + 1) (taken place byte r)
taken_stands Between text at byte r ready = absurd ready
taken_stands place text at byte r (before, some) = (before, omega arith)

either : (P : LexerState → Type 0) (test other : Bool) (a b : LexerState) → P a → P b → IfSome (if test then Some a else on other b) P
either P true other a b first second = first
either P false true a b first second = second
either P false false a b first second = tt

if_place : (P : LexerState → Type 0) (test : Bool) (a b : LexerState) → P a → P b → P (if test then a else b)
if_place P true a b first second = first
if_place P false a b first second = second

on_some : (P : LexerState → Type 0) (test : Bool) (place : LexerState) → P place → IfSome (on test place) P
on_some P true place holds = holds
on_some P false place holds = tt

map_some : {X Y : Type 0} (f : X → Y) (P : Y → Type 0) (o : Option X) → ((x : X) → P (f x)) → IfSome (option_map f o) P
map_some f P None holds = tt
map_some f P (Some x) holds = holds x

first_by : (text : List ℕ) (at : ℕ) (r : Reading) → AreSlices text 0 r.done r.start → r.start ≤ at → (x word digit quote back half : Bool) (byte : ℕ) (mark : Option Sign)
    → IfSome (if x then Some AfterX else (if word then Some InWord else (if digit then Some InWhole else (if quote then Some (InString byte) else (if back then Some NameStart else
    (if half then Some (AfterHalf byte) else option_map (λ sign. AfterSign sign) mark)))))) (IsReady text at r)
first_by text at r before some true word digit quote back half byte mark = (before, some)
first_by text at r before some false true digit quote back half byte mark = (before, some)
first_by text at r before some false false true quote back half byte mark = (before, some)
first_by text at r before some false false false true back half byte mark = (before, some)
first_by text at r before some false false false false true half byte mark = (before, some)
first_by text at r before some false false false false false true byte mark = (before, some)
first_by text at r before some false false false false false false byte None = tt
first_by text at r before some false false false false false false byte (Some mark) = (before, some)

first_ready : (text : List ℕ) (at byte : ℕ) (r : Reading) → AreSlices text 0 r.done r.start → r.start ≤ at → IfSome (first_place byte) (IsReady text at r)
first_ready text at byte r before some =
    first_by text at r before some (byte == 120 || byte == 88) (is_word_start byte) (is_digit byte) (byte == 39 || byte == 34) (byte == 96) (byte == 33 || byte == 64) byte (single_sign byte)

next_ready : (place : LexerState) (text : List ℕ) (at byte : ℕ) (r : Reading) → Standing place text at r → IfSome (next_place place byte) (IsReady text at r)
next_ready Between text at byte r stands = tt
next_ready InWord text at byte r (before, some) =
    let P : LexerState → Type 0 = IsReady text at r in
    let ready : AreSlices text 0 r.done r.start × (r.start ≤ at) = (before, omega arith) in
    on_some P (is_word_byte byte) InWord ready
next_ready AfterX text at byte r (before, some) =
    let P : LexerState → Type 0 = IsReady text at r in
    let ready : AreSlices text 0 r.done r.start × (r.start ≤ at) = (before, omega arith) in
    either P (byte == 39) (is_word_byte byte) HexEven InWord ready ready
next_ready InWhole text at byte r (before, some) =
    let P : LexerState → Type 0 = IsReady text at r in
    let ready : AreSlices text 0 r.done r.start × (r.start ≤ at) = (before, omega arith) in
    either P (byte == 46) (is_digit byte) AtPoint InWhole (before, some) ready
next_ready AtPoint text at byte r (before, some) =
    let P : LexerState → Type 0 = IsReady text at r in
    let ready : AreSlices text 0 r.done r.start × (r.start ≤ at) = (before, omega arith) in
    on_some P (is_digit byte) InDecimal ready
next_ready InDecimal text at byte r (before, some) =
    let P : LexerState → Type 0 = IsReady text at r in
    let ready : AreSlices text 0 r.done r.start × (r.start ≤ at) = (before, omega arith) in
    on_some P (is_digit byte) InDecimal ready
next_ready (InString quote) text at byte r (before, some) =
    let P : LexerState → Type 0 = IsReady text at r in
    let ready : AreSlices text 0 r.done r.start × (r.start ≤ at) = (before, omega arith) in
    if_place P (byte == quote) (AfterQuote quote) (if byte == 92 then AfterSlash quote else InString quote) ready (if_place P (byte == 92) (AfterSlash quote) (InString quote) ready ready)
next_ready (AfterQuote quote) text at byte r (before, some) =
    let P : LexerState → Type 0 = IsReady text at r in
    let ready : AreSlices text 0 r.done r.start × (r.start ≤ at) = (before, omega arith) in
    on_some P (byte == quote) (InString quote) ready
next_ready (AfterSlash quote) text at byte r (before, some) =
    let P : LexerState → Type 0 = IsReady text at r in
    let ready : AreSlices text 0 r.done r.start × (r.start ≤ at) = (before, omega arith) in
    ready
next_ready HexEven text at byte r (before, some) =
    let P : LexerState → Type 0 = IsReady text at r in
    let ready : AreSlices text 0 r.done r.start × (r.start ≤ at) = (before, omega arith) in
    either P (byte == 39) (is_some (hex_value byte)) AfterBytes HexOdd ready ready
next_ready HexOdd text at byte r (before, some) =
    let P : LexerState → Type 0 = IsReady text at r in
    let ready : AreSlices text 0 r.done r.start × (r.start ≤ at) = (before, omega arith) in
    on_some P (is_some (hex_value byte)) HexEven ready
next_ready NameStart text at byte r (before, some) =
    let P : LexerState → Type 0 = IsReady text at r in
    let ready : AreSlices text 0 r.done r.start × (r.start ≤ at) = (before, omega arith) in
    on_some P (is_word_start byte) InName ready
next_ready InName text at byte r (before, some) =
    let P : LexerState → Type 0 = IsReady text at r in
    let ready : AreSlices text 0 r.done r.start × (r.start ≤ at) = (before, omega arith) in
    either P (byte == 96) (is_word_byte byte) AfterName InName ready ready
next_ready (AfterSign mark) text at byte r (before, some) =
    let P : LexerState → Type 0 = IsReady text at r in
    let ready : AreSlices text 0 r.done r.start × (r.start ≤ at) = (before, omega arith) in
    map_some (λ sign. AfterSign sign) P (double_sign (first_byte mark) byte) (λ sign. ready)
next_ready (AfterHalf first) text at byte r (before, some) =
    let P : LexerState → Type 0 = IsReady text at r in
    let ready : AreSlices text 0 r.done r.start × (r.start ≤ at) = (before, omega arith) in
    map_some (λ sign. AfterSign sign) P (double_sign first byte) (λ sign. ready)
next_ready AfterBytes text at byte r stands = tt
next_ready AfterName text at byte r stands = tt

opened_stands : (first : Option LexerState) (text : List ℕ) (at byte : ℕ) (r : Reading) → IfSome first (IsReady text at (record r { start = at })) → IfOk (opened first at byte r) (Stands text (at + 1))
opened_stands None text at byte r ready = tt
opened_stands (Some place) text at byte r ready = taken_stands place text at byte (record r { start = at }) ready

begun_by : (test : Bool) (text : List ℕ) (at byte : ℕ) (r : Reading) → is_blank byte ≡ test → slice_index text at ≡ byte → Ends text at r
    → IfOk (if test then Ok r else opened (first_place byte) at byte r) (Stands text (at + 1))
begun_by true text at byte r blank here (is, before) =
    let stands : Standing Between text (at + 1) r = with_blank text 0 r.done at (ap is_blank here ∙ blank) before in
    subst (λ (place : LexerState). Standing place text (at + 1) r) (sym is) stands
begun_by false text at byte r blank here (is, before) = opened_stands (first_place byte) text at byte r (first_ready text at byte (record r { start = at }) before (omega arith))

begun_stands : (text : List ℕ) (at byte : ℕ) → slice_index text at ≡ byte → (r : Reading) → Ends text at r → IfOk (begun at byte r) (Stands text (at + 1))
begun_stands text at byte here r ends = begun_by (is_blank byte) text at byte r refl here ends

gone_on_stands : (next : Option LexerState) (text : List ℕ) (at byte : ℕ) (r : Reading) → slice_index text at ≡ byte → Stands text at r → IfSome next (IsReady text at r)
    → IfOk (gone_on next at byte r) (Stands text (at + 1))
gone_on_stands None text at byte r here stands ready =
    and_then_ok (Ends text at) (Stands text (at + 1)) (ended r.place at r) (begun at byte) (ends r.place text at r refl stands) (begun_stands text at byte here)
gone_on_stands (Some place) text at byte r here stands ready = taken_stands place text at byte r ready

step_stands : (text : List ℕ) (at byte : ℕ) (r : Reading) → slice_index text at ≡ byte → Stands text at r → IfOk (step at byte r) (Stands text (at + 1))
step_stands text at byte r here stands = gone_on_stands (next_place r.place byte) text at byte r here stands (next_ready r.place text at byte r stands)

from_slices : (bytes text front : List ℕ) (at : ℕ) (r : Reading) → text ≡ front ++ bytes → at ≡ length front → Stands text at r
    → IfOk (tokens_from at bytes r) (λ ts. AreSlices text 0 ts (length text))
from_slices [] text front at r is behind stands =
    let all : at ≡ length text = omega (arith, ap length is, length-append front []) in
    and_then_ok (Ends text at) (λ ts. AreSlices text 0 ts (length text)) (ended r.place at r) (λ last. Ok last.done) (ends r.place text at r refl stands)
    (λ last ended. subst (λ (n : ℕ). AreSlices text 0 last.done n) all ended.1)
from_slices (byte ∷ bytes) text front at r is behind stands =
    let here : slice_index text at ≡ byte = ap (λ t. slice_index t at) is ∙ ap (λ n. slice_index (front ++ byte ∷ bytes) n) behind ∙ get_or-append_seam front byte bytes 0 in
    and_then_ok (Stands text (at + 1)) (λ ts. AreSlices text 0 ts (length text)) (step at byte r) (tokens_from (at + 1) bytes) (step_stands text at byte r here stands)
    (λ next after. from_slices bytes text (front ++ byte ∷ []) (at + 1) next (is ∙ sym (append_assoc front (byte ∷ []) bytes)) (omega (arith, length-append front (byte ∷ []))) after)

-- what is read of a text is slices of it
pub tokens_slices : (text : List ℕ) → IfOk (tokens text) (λ ts. AreSlices text 0 ts (length text))
tokens_slices text = from_slices text text [] 0 nothing_read refl refl (omega arith, nothing_blank text 0)
