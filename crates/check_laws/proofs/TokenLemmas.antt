-- Each token of a text is the longest from its start, and in range: by the bytes, with what is known of the open token.
use mathlib.Core.List.{reverse_aux}
use Rattle.std.proofs.Common.{inl, inr, flat_map, ◌≡◌, ◌∙◌, ◌+◌, ◌-◌, ◌^◌, ◌<◌, ◌≤◌, sym, ap, refl, subst, ℕ, zero, suc, Bool, true, false, not, min, map, take, drop, ◌&&◌, List, [], ◌∷◌, ◌++◌, length, is_some, IfSome, Option, Some, None, Result, Ok, Err, arith, if◌then◌else◌}
use Rattle.std.specs.Prelude.{nat_le}
use Rattle.std.proofs.Math.Seq.{drop-append_seam, take-append_seam, take-append-add, take-append-le}
use Rattle.std.proofs.lemmas.Bool.{and_parts, false≢true, le-leb, leb-true}
use Rattle.std.specs.List.{list_all}
use Rattle.std.proofs.lemmas.Bool.Decides.{leb_tells}
use Rattle.std.proofs.lemmas.List.{append_assoc, append-nil, length-append}
use Rattle.sql_ast.specs.Bytes.{is_blank, is_digit, lower}
use Rattle.sql_ast.specs.Tokens.{after_keyword, after_sign, and_then, begun, closed, end_decimal, end_point, end_whole, ended, first_place, gone_on, large, most_whole, next_place, nothing_read, opened, step, taken, tokens, tokens_from, with_point}
use Rattle.sql_ast.specs.Values.{slice}
use Rattle.sql_ast.specs.Words.{keyword_of, sign_of}
use Rattle.sql_ast.specs.declared.faults.Refusal.{Refusal}
use Rattle.sql_ast.specs.declared.lexer.Reading.{Reading}
use Rattle.sql_ast.specs.declared.places.Last.{Last}
use Rattle.sql_ast.specs.declared.places.Last.TheVariants.{Operand, UnaryMinus, Other}
use Rattle.sql_ast.specs.declared.places.LexerState.{LexerState}
use Rattle.sql_ast.specs.declared.places.LexerState.TheVariants as place
use Rattle.sql_ast.specs.declared.signs.Sign.{Sign}
use Rattle.sql_ast.specs.declared.signs.Sign.TheVariants as sign
use Rattle.sql_ast.specs.declared.tokens.Token.{Token}
use Rattle.sql_ast.specs.declared.tokens.TokenKind.{TokenKind}
use Rattle.sql_ast.specs.declared.tokens.TokenKind.TheVariants as kind
use Rattle.sql_ast.specs.declared.words.Keyword.{Keyword}
use Rattle.sql_ast.specs.declared.words.Keyword.TheVariants as key
use Rattle.sql_laws.specs.Written.{is_word}
use Rattle.sql_laws.proofs.Lexing.{sliced, token_at}
use Rattle.sql_laws.proofs.TokenPieces.{IsSigned}
use Rattle.check_laws.specs.LongestTokens.{AreLongest, HasLarge, IsOpen, IsOpenBytes, IsOpenString, HasNoSpelling, IsBad, IsInRange, IsRefusedFor, IsLongest, IsSpelling, RefusalsFollow, TokensFollow, is_behind_operand, is_behind_unary, is_close, is_minus, is_operand_word, is_whole, is_x, may_end, number, part_bytes, spells_minus}
use Rattle.check_laws.proofs.SpelledTokens.{digit_opens, even_quiet, goes, half_quiet, is_token, nowhere, odd_quiet, quote_blank, quoted_quiet, spelled, start_quiet, string_opens, whole_goes, x_blank, x_opens}
use Rattle.check_laws.proofs.TokenPlaces.{Counted, Held, IsFresh, first_held, next_held, parts_text, word_start}

-- tokens, the nearest first, before others

abbrev onto : List Token → List Token → List Token
onto [] near = near
onto (token ∷ ts) near = onto ts (token ∷ near)

onto_more : (ts near : List Token) (token : Token) → onto (ts ++ token ∷ []) near ≡ token ∷ onto ts near
onto_more [] near token = refl
onto_more (first ∷ ts) near token = onto_more ts (first ∷ near) token

onto_is : (ts near : List Token) → onto ts near ≡ reverse_aux ts near
onto_is [] near = refl
onto_is (token ∷ ts) near = onto_is ts (token ∷ near)

with_token : (text : List ℕ) (near ts : List Token) (token : Token) → AreLongest text near ts → IsLongest text token
    → IsInRange (is_behind_unary text (onto ts near)) token.kind (slice text token) → AreLongest text near (ts ++ token ∷ [])
with_token text near [] token all longest range = (longest, range, tt)
with_token text near (first ∷ ts) token (first_longest, first_range, rest) longest range = (first_longest, first_range, with_token text (first ∷ near) ts token rest longest range)

-- what the reader still knows of the last token

abbrev last_by : Bool → Bool → Last
last_by true unary = Operand
last_by false true = UnaryMinus
last_by false false = Other

abbrev last_of : List ℕ → List Token → Last
last_of text near = last_by (is_behind_operand text near) (is_behind_unary text near)

word_last : (word : Option Keyword) → after_keyword word ≡ last_by (is_operand_word word) false
word_last None = refl
word_last (Some key.True) = refl
word_last (Some key.False) = refl
word_last (Some key.Null) = refl
word_last (Some word) = refl

sign_last : (s : Sign) (operand unary : Bool) → after_sign s (last_by operand unary) ≡ last_by (is_close (Some s)) (is_minus (Some s) && not operand)
sign_last sign.CloseParenthesis operand unary = refl
sign_last sign.Minus true unary = refl
sign_last sign.Minus false true = refl
sign_last sign.Minus false false = refl
sign_last s operand unary = refl

-- bounds of whole numbers

abbrev most_of : Bool → ℕ
most_of unary = if unary then 2 ^ 63 else 2 ^ 63 - 1

most_is : (operand unary : Bool) → (operand ≡ true → unary ≡ false) → most_of unary ≡ most_whole (last_by operand unary)
most_is true true apart = absurd (false≢true (sym (apart refl)))
most_is true false apart = refl
most_is false true apart = refl
most_is false false apart = refl

in_range : (n : ℕ) (unary : Bool) → nat_le (min n (2 ^ 63 + 1)) (most_of unary) ≡ true → n ≤ most_of unary
in_range n true low = omega (arith, leb-true (min n (2 ^ 63 + 1)) (2 ^ 63) low)
in_range n false low = omega (arith, leb-true (min n (2 ^ 63 + 1)) (2 ^ 63 - 1) low)

reached : (n : ℕ) (unary : Bool) → n ≤ most_of unary → nat_le (min n (2 ^ 63 + 1)) (most_of unary) ≡ true
reached n true low = le-leb (min n (2 ^ 63 + 1)) (2 ^ 63) (omega (arith, low))
reached n false low = le-leb (min n (2 ^ 63 + 1)) (2 ^ 63 - 1) (omega (arith, low))

-- no minus ends an operand
close_apart : (o : Option Sign) → is_close o ≡ true → is_minus o ≡ false
close_apart (Some sign.Minus) close = absurd (false≢true close)
close_apart other close = refl

end_apart : (k : TokenKind) (bytes : List ℕ) → may_end k bytes ≡ true → spells_minus k bytes ≡ false
end_apart kind.Sign bytes ends = close_apart (sign_of bytes) ends
end_apart other bytes ends = refl

operand_first : (text : List ℕ) (near : List Token) → is_behind_operand text near ≡ true → is_behind_unary text near ≡ false
operand_first text [] operand = refl
operand_first text (last ∷ before) operand = ap (λ b. b && not (is_behind_operand text before)) (end_apart last.kind (slice text last) operand)

-- the tokens that are done, and what is known of the last

abbrev Done : List ℕ → Reading → Type 0
Done text r = AreLongest text [] r.done × (r.last ≡ last_of text (onto r.done []))

abbrev Idle : List ℕ → Reading → Type 0
Idle text r = IsFresh r × Done text r

abbrev Ends : List ℕ → Reading → Type 0
Ends text r = (r.place ≡ place.Between) × Idle text r

-- these bytes lead to this place
abbrev Walks : List ℕ → LexerState → Type 0
Walks s p = (more : List ℕ) → is_token (s ++ more) ≡ goes (Some p) more

-- the token at this place doesn't go on with these bytes
abbrev Halts : LexerState → List ℕ → Type 0
Halts p [] = Unit {0}
Halts p (byte ∷ bytes) = next_place p byte ≡ None

-- no more bytes are a token
abbrev Silent : List ℕ → List ℕ → Type 0
Silent s bytes = (n : ℕ) → 0 < n → n ≤ length bytes → is_token (s ++ take n bytes) ≡ false

-- and all of them have an end
abbrev Stops : List ℕ → List ℕ → Type 0
Stops s bytes = Silent s bytes × (IsOpen (s ++ bytes) → ⊥)

walks_first : (byte : ℕ) (p : LexerState) → first_place byte ≡ Some p → Walks (byte ∷ []) p
walks_first byte p is more = ap (λ o. goes o more) is

walks_next : (s : List ℕ) (p : LexerState) (byte : ℕ) (q : LexerState) → Walks s p → next_place p byte ≡ Some q → Walks (s ++ byte ∷ []) q
walks_next s p byte q walks next more = ap is_token (append_assoc s (byte ∷ []) more) ∙ walks (byte ∷ more) ∙ ap (λ o. goes o more) next

silent : (s : List ℕ) (p : LexerState) (bytes : List ℕ) → Walks s p → Halts p bytes → Silent s bytes
silent s p [] walks halts n some fits = absurd (omega arith)
silent s p (byte ∷ bytes) walks halts zero some fits = absurd (omega arith)
silent s p (byte ∷ bytes) walks halts (suc n) some fits = walks (byte ∷ take n bytes) ∙ ap (λ o. goes o (take n bytes)) halts ∙ nowhere (take n bytes)

no_string : (s : List ℕ) (p : LexerState) (bytes : List ℕ) → Walks s p → Halts p bytes → is_token s ≡ true → IsOpenString (s ++ bytes) → ⊥
no_string s p [] walks halts is opens = false≢true (sym (string_opens (s ++ []) opens).0 ∙ ap is_token (append-nil s) ∙ is)
no_string s p (byte ∷ bytes) walks halts is opens =
    let closed_ = (string_opens (s ++ byte ∷ bytes) opens).1 in
    let none : is_token ((s ++ byte ∷ bytes) ++ closed_.0) ≡ false =
    ap is_token (append_assoc s (byte ∷ bytes) closed_.0) ∙ walks (byte ∷ bytes ++ closed_.0) ∙ ap (λ o. goes o (bytes ++ closed_.0)) halts ∙ nowhere (bytes ++ closed_.0) in
    false≢true (sym none ∙ closed_.1)

no_bytes : (k : TokenKind) (s : List ℕ) (p : LexerState) (bytes : List ℕ) → Walks s p → Halts p bytes → IsSpelling k s → IsOpenBytes (s ++ bytes) → ⊥
no_bytes k [] p bytes walks halts is opens = false≢true (spelled k [] is)
no_bytes k (first ∷ []) p [] walks halts is (mark, rest, x, are, none) = absurd (cc)
no_bytes k (first ∷ []) p (byte ∷ bytes) walks halts is (mark, rest, x, are, none) =
    let same : first ≡ mark = cc in
    let quote : byte ≡ 39 = cc in
    let dead_ : is_token (first ∷ 39 ∷ 39 ∷ []) ≡ false =
    walks (39 ∷ 39 ∷ []) ∙ ap (λ b. goes (next_place p b) (39 ∷ [])) (sym quote) ∙ ap (λ o. goes o (39 ∷ [])) halts ∙ nowhere (39 ∷ []) in
    false≢true (sym dead_ ∙ x_opens first (ap is_x same ∙ x))
no_bytes k (first ∷ second ∷ s) p bytes walks halts is (mark, rest, x, are, none) =
    let all = first ∷ second ∷ s in
    let fits : length all ≤ length (all ++ bytes) = omega (arith, length-append all bytes) in
    none (length all) k (omega arith) fits (subst (λ b. IsSpelling k b) (sym (take-append_seam all bytes)) is)

stops : (k : TokenKind) (s : List ℕ) (p : LexerState) (bytes : List ℕ) → Walks s p → Halts p bytes → IsSpelling k s → Stops s bytes
stops k s p bytes walks halts is = (silent s p bytes walks halts, not_open) where
  not_open : IsOpen (s ++ bytes) → ⊥
  not_open (inl opens) = no_string s p bytes walks halts (spelled k s is) opens
  not_open (inr opens) = no_bytes k s p bytes walks halts is opens

-- behind a whole literal's point stands no digit
dead : (n : ℕ) (bytes : List ℕ) → Halts place.AtPoint bytes → goes (Some place.AtPoint) (take n bytes) ≡ false
dead zero [] halts = refl
dead zero (byte ∷ bytes) halts = refl
dead (suc n) [] halts = refl
dead (suc n) (byte ∷ bytes) halts = ap (λ o. goes o (take n bytes)) halts ∙ nowhere (take n bytes)

point_silent : (whole bytes : List ℕ) → Walks whole place.InWhole → Halts place.AtPoint bytes → Silent whole (46 ∷ bytes)
point_silent whole bytes walks halts zero some fits = absurd (omega arith)
point_silent whole bytes walks halts (suc n) some fits = walks (46 ∷ take n bytes) ∙ dead n bytes halts

whole_opens : (whole more : List ℕ) → is_whole whole ≡ true → IsOpen (whole ++ more) → ⊥
whole_opens [] more is opens = false≢true is
whole_opens (first ∷ rest) more is opens = digit_opens first (rest ++ more) (and_parts (is_digit first) (list_all is_digit rest) is).0 opens

point_stops : (whole bytes : List ℕ) → Walks whole place.InWhole → Halts place.AtPoint bytes → is_whole whole ≡ true → Stops whole (46 ∷ bytes)
point_stops whole bytes walks halts is = (point_silent whole bytes walks halts, whole_opens whole (46 ∷ bytes) is)

sign_halts : (bytes : List ℕ) → Halts (place.AfterSign sign.Point) bytes
sign_halts [] = tt
sign_halts (byte ∷ bytes) = refl

-- a step leaves this, or a refusal that has its reason in the text
abbrev Gives : {X : Type 0} → List ℕ → (X → Type 0) → Result X Refusal → Type 0
Gives text P (Ok x) = P x
Gives text P (Err refusal) = IsRefusedFor text refusal

-- how a token is closed
module _ (before s bytes : List ℕ) where
  abbrev whole_text : List ℕ
  whole_text = (before ++ s) ++ bytes

  abbrev end_at : ℕ
  end_at = length (before ++ s)

  longer : (end : ℕ) → end_at ≤ end → drop (length before) (take end whole_text) ≡ s ++ take (end - end_at) bytes
  longer end later =
      let same : end ≡ end_at + (end - end_at) = omega (arith, later) in
      ap (λ e. drop (length before) (take e whole_text)) same ∙ ap (drop (length before)) (take-append-add (before ++ s) bytes (end - end_at))
      ∙ ap (drop (length before)) (append_assoc before s (take (end - end_at) bytes)) ∙ drop-append_seam before (s ++ take (end - end_at) bytes)

  longest : (k : TokenKind) → IsSpelling k s → Stops s bytes → IsLongest whole_text (token_at k (length before) end_at)
  longest k is stop = (
    subst (λ b. IsSpelling k b) (sym (sliced before s bytes k)) is,
    λ end other later fits spells.
        let low : end_at ≤ end = omega (arith, later) in
        let some : 0 < end - end_at = omega (arith, later) in
        let few : end - end_at ≤ length bytes = omega (arith, fits, length-append (before ++ s) bytes) in
        let also : IsSpelling other (s ++ take (end - end_at) bytes) = subst (λ b. IsSpelling other b) (longer end low) spells in
        false≢true (sym (stop.0 (end - end_at) some few) ∙ spelled other (s ++ take (end - end_at) bytes) also),
    λ opens. stop.1 (subst (λ b. IsOpen b) (ap (drop (length before)) (append_assoc before s bytes) ∙ drop-append_seam before (s ++ bytes)) opens),
  )

  closes : (k : TokenKind) (last : Last) (r : Reading) → r.start ≡ length before → Done whole_text r → IsSpelling k s → Stops s bytes
      → IsInRange (is_behind_unary whole_text (onto r.done [])) k s
      → last ≡ last_by (may_end k s) (spells_minus k s && not (is_behind_operand whole_text (onto r.done [])))
      → Ends whole_text (closed k end_at last r)
  closes k last r starts done is stop range leads =
      let token : Token = token_at k r.start end_at in
      let near = onto r.done [] in
      let same : slice whole_text token ≡ s = ap (λ n. slice whole_text (token_at k n end_at)) starts ∙ sliced before s bytes k in
      let long : IsLongest whole_text token = subst (λ n. IsLongest whole_text (token_at k n end_at)) (sym starts) (longest k is stop) in
      let ranged : IsInRange (is_behind_unary whole_text near) k (slice whole_text token) = subst (λ b. IsInRange (is_behind_unary whole_text near) k b) (sym same) range in
      let leads_on : last ≡ last_of whole_text (onto (r.done ++ token ∷ []) []) =
      leads ∙ ap (λ b. last_by (may_end k b) (spells_minus k b && not (is_behind_operand whole_text near))) (sym same) ∙ ap (last_of whole_text) (sym (onto_more r.done [] token)) in
      (refl, ((refl, refl, refl), (with_token whole_text [] r.done token done.0 long ranged, leads_on)))

  module _ (r : Reading) (starts : r.start ≡ length before) (done : Done whole_text r) (ran : tokens before ≡ Ok r.done) where
    word_ends : is_word s ≡ true → r.held ≡ map lower s → Stops s bytes → Ends whole_text (closed kind.Word end_at (after_keyword (keyword_of r.held)) r)
    word_ends is held stop =
        closes kind.Word (after_keyword (keyword_of r.held)) r starts done is stop tt (ap (λ h. after_keyword (keyword_of h)) held ∙ word_last (keyword_of (map lower s)))

    sign_ends : (mark : Sign) → IsSigned mark s → Stops s bytes → Ends whole_text (closed kind.Sign end_at (after_sign mark r.last) r)
    sign_ends mark signed stop =
        let operand = is_behind_operand whole_text (onto r.done []) in
        closes kind.Sign (after_sign mark r.last) r starts done (ap is_some signed.spells) stop tt
        (ap (after_sign mark) done.1 ∙ sign_last mark operand (is_behind_unary whole_text (onto r.done [])) ∙ ap (λ o. last_by (is_close o) (is_minus o && not operand)) (sym signed.spells))

    -- the bytes from the open token's start are none
    is_bad : (byte : ℕ) (rest : List ℕ) → s ≡ byte ∷ rest → is_blank byte ≡ false → IsBad (s ++ bytes) → IsRefusedFor whole_text (record { number = 1064; at = r.start })
    is_bad byte rest are apart bads =
        let front : take r.start whole_text ≡ before =
        ap (λ n. take n whole_text) starts ∙ ap (take (length before)) (append_assoc before s bytes) ∙ take-append_seam before (s ++ bytes) in
        let behind : drop r.start whole_text ≡ s ++ bytes =
        ap (λ n. drop n whole_text) starts ∙ ap (drop (length before)) (append_assoc before s bytes) ∙ drop-append_seam before (s ++ bytes) in
        inr (refl, (r.done, byte, rest ++ bytes, ap tokens front ∙ ran, done.0, behind ∙ ap (λ b. b ++ bytes) are, apart, subst (λ b. IsBad b) (sym behind) bads))

    -- the open token is a number that is out of range
    has_large : (k : TokenKind) → IsSpelling k s → Stops s bytes → (IsInRange (is_behind_unary whole_text (onto r.done [])) k s → ⊥) → HasLarge whole_text
    has_large k is stop out =
        let token : Token = token_at k (length before) end_at in
        let front : take (length before) whole_text ≡ before = ap (take (length before)) (append_assoc before s bytes) ∙ take-append_seam before (s ++ bytes) in (
          r.done,
          token,
          ap tokens front ∙ ran,
          done.0,
          longest k is stop,
          λ range.
              let near : IsInRange (is_behind_unary whole_text (onto r.done [])) k (slice whole_text token) =
              subst (λ l. IsInRange (is_behind_unary whole_text l) k (slice whole_text token)) (sym (onto_is r.done [])) range in
              out (subst (λ b. IsInRange (is_behind_unary whole_text (onto r.done [])) k b) (sliced before s bytes k) near),
        )

    whole_ends : Counted s r → Stops s bytes → Gives whole_text (Ends whole_text) (end_whole end_at r)
    whole_ends counted stop =
        let near = onto r.done [] in
        let bound : most_of (is_behind_unary whole_text near) ≡ most_whole (last_of whole_text near) = most_is (is_behind_operand whole_text near) (is_behind_unary whole_text near) (operand_first whole_text near) in
        elim (nat_le r.value (most_whole r.last)) as (λ b. nat_le r.value (most_whole r.last) ≡ b → Gives whole_text (Ends whole_text) (if b then Ok (closed kind.Whole end_at Operand r) else large)) [
          | true ↦ λ low.
              let known : nat_le (min (number s) (2 ^ 63 + 1)) (most_whole (last_of whole_text near)) ≡ true =
              ap (λ n. nat_le n (most_whole (last_of whole_text near))) (sym counted.1) ∙ ap (λ l. nat_le r.value (most_whole l)) (sym done.1) ∙ low in
              closes kind.Whole Operand r starts done counted.0 stop (in_range (number s) (is_behind_unary whole_text near) (ap (nat_le (min (number s) (2 ^ 63 + 1))) bound ∙ known)) refl
          | false ↦ λ high.
              let known : nat_le (min (number s) (2 ^ 63 + 1)) (most_of (is_behind_unary whole_text near)) ≡ false =
              ap (nat_le (min (number s) (2 ^ 63 + 1))) bound ∙ ap (λ n. nat_le n (most_whole (last_of whole_text near))) (sym counted.1) ∙ ap (λ l. nat_le r.value (most_whole l)) (sym done.1) ∙ high in
              inl (refl, refl, has_large kind.Whole counted.0 stop (λ range. false≢true (sym known ∙ reached (number s) (is_behind_unary whole_text near) range)))
        ] refl

    few_digits : (many count : ℕ) → count ≡ min (many - 1) 19 → nat_le count 18 ≡ true → many ≤ 18 + 1
    few_digits many count is low = omega (arith, is, leb-true count 18 low)

    decimal_ends : IsSpelling kind.Decimal s → r.digits ≡ min (length s - 1) 19 → Stops s bytes → Gives whole_text (Ends whole_text) (end_decimal end_at r)
    decimal_ends is digits stop =
        elim (nat_le r.digits 18) as (λ b. nat_le r.digits 18 ≡ b → Gives whole_text (Ends whole_text) (if b then Ok (closed kind.Decimal end_at Operand r) else large)) [
          | true ↦ λ low. closes kind.Decimal Operand r starts done is stop (few_digits (length s) r.digits digits low) refl
          | false ↦ λ high. inl (refl, refl, has_large kind.Decimal is stop (λ range. false≢true (sym high ∙ le-leb r.digits 18 (omega (arith, digits, range)))))
        ] refl

and_then_gives : {X Y : Type 0} (text : List ℕ) (P : X → Type 0) (Q : Y → Type 0) (o : Result X Refusal) (f : X → Result Y Refusal) → Gives text P o
    → ((x : X) → o ≡ Ok x → P x → Gives text Q (f x)) → Gives text Q (and_then o f)
and_then_gives text P Q (Ok x) f p q = q x refl p
and_then_gives text P Q (Err e) f p q = p

-- a whole number and a point
module _ (before whole bytes : List ℕ) (r : Reading) where
  abbrev point_front : List ℕ
  point_front = (before ++ whole) ++ 46 ∷ []

  point_ends : r.start ≡ length before → Counted whole r → Halts place.AtPoint bytes → Done (point_front ++ bytes) r → tokens before ≡ Ok r.done
      → Gives (point_front ++ bytes) (Ends (point_front ++ bytes)) (end_point (length point_front) r)
  point_ends starts counted halts done ran =
      let text = point_front ++ bytes in
      let middle : length point_front - 1 ≡ length (before ++ whole) = omega (arith, length-append (before ++ whole) (46 ∷ [])) in
      let same : (before ++ whole) ++ 46 ∷ bytes ≡ text = sym (append_assoc (before ++ whole) (46 ∷ []) bytes) in
      let walks : Walks whole place.InWhole = λ more. whole_goes whole more counted.0 in
      let first : Gives text (Ends text) (end_whole (length (before ++ whole)) r) =
      subst (λ t. Done t r → Gives t (Ends t) (end_whole (length (before ++ whole)) r)) same
      (λ d. whole_ends before whole (46 ∷ bytes) r starts d ran counted (point_stops whole bytes walks halts counted.0)) done in
      and_then_gives text (Ends text) (Ends text) (end_whole (length point_front - 1) r) (λ next. Ok (with_point (length point_front) next))
      (subst (λ n. Gives text (Ends text) (end_whole n r)) (sym middle) first)
      (λ next made ends.
      let moved : Reading = record next { start = length point_front - 1 } in
      let near = onto next.done [] in
      closes (before ++ whole) (46 ∷ []) bytes kind.Sign (after_sign sign.Point next.last) moved middle ends.1.1 refl
      (stops kind.Sign (46 ∷ []) (place.AfterSign sign.Point) bytes (walks_first 46 (place.AfterSign sign.Point) refl) (sign_halts bytes) refl) tt refl)

-- no front of an open token's bytes is a spelling, and it doesn't go on
quiet : (few : ℕ) (s bytes : List ℕ) → ((n : ℕ) → few < n → is_token (take n s) ≡ false) → Silent s bytes → HasNoSpelling few (s ++ bytes)
quiet few s bytes own stop n k more fits is =
    elim (leb_tells n (length s)) as (λ b. ⊥) [
      | inl tells ↦ false≢true (sym (own n more) ∙ ap is_token (sym (take-append-le n s bytes tells.1)) ∙ spelled k (take n (s ++ bytes)) is)
      | inr tells ↦
          let same : n ≡ length s + (n - length s) = omega (arith, tells.1) in
          let some : 0 < n - length s = omega (arith, tells.1) in
          let few_more : n - length s ≤ length bytes = omega (arith, fits, length-append s bytes) in
          let cut : take n (s ++ bytes) ≡ s ++ take (n - length s) bytes = ap (λ m. take m (s ++ bytes)) same ∙ take-append-add s bytes (n - length s) in
          false≢true (sym (stop (n - length s) some few_more) ∙ ap is_token (sym cut) ∙ spelled k (take n (s ++ bytes)) is)
    ]

-- a string goes on with every byte
string_end : (quote : ℕ) (bytes : List ℕ) → Halts (place.InString quote) bytes → bytes ≡ []
string_end quote [] halts = refl
string_end quote (byte ∷ bytes) halts = absurd (cc)

slash_end : (quote : ℕ) (bytes : List ℕ) → Halts (place.AfterSlash quote) bytes → bytes ≡ []
slash_end quote [] halts = refl
slash_end quote (byte ∷ bytes) halts = absurd (cc)

ends_at : (p : LexerState) (before s bytes : List ℕ) (r : Reading) → r.start ≡ length before → Held p s r → Walks s p → Halts p bytes → tokens before ≡ Ok r.done → Done ((before ++ s) ++ bytes) r
    → Gives ((before ++ s) ++ bytes) (Ends ((before ++ s) ++ bytes)) (ended p (length (before ++ s)) r)
ends_at place.Between before s bytes r starts held walks halts ran done = absurd held
ends_at place.InWord before s bytes r starts (is, held) walks halts ran done = word_ends before s bytes r starts done ran is held (stops kind.Word s place.InWord bytes walks halts is)
ends_at place.AfterX before s bytes r starts (mark, is, are, held) walks halts ran done =
    word_ends before s bytes r starts done ran (ap is_word are ∙ word_start mark is) held (stops kind.Word s place.AfterX bytes walks halts (ap is_word are ∙ word_start mark is))
ends_at place.InWhole before s bytes r starts counted walks halts ran done = whole_ends before s bytes r starts done ran counted (stops kind.Whole s place.InWhole bytes walks halts counted.0)
ends_at place.AtPoint before s bytes r starts (whole, are, counted) walks halts ran done =
    let same : point_front before whole bytes r ≡ before ++ s = append_assoc before whole (46 ∷ []) ∙ ap (λ b. before ++ b) (sym are) in
    subst (λ f. Done (f ++ bytes) r → Gives (f ++ bytes) (Ends (f ++ bytes)) (end_point (length f) r)) same (λ d. point_ends before whole bytes r starts counted halts d ran) done
ends_at place.InDecimal before s bytes r starts (whole, fraction, front, behind, are, digits) walks halts ran done =
    decimal_ends before s bytes r starts done ran (whole, fraction, front, behind, are) digits (stops kind.Decimal s place.InDecimal bytes walks halts (whole, fraction, front, behind, are))
ends_at (place.InString quote) before s bytes r starts (parts, has, are) walks halts ran done =
    let all : s ++ bytes ≡ parts_text quote parts = ap (λ b. s ++ b) (string_end quote bytes halts) ∙ append-nil s ∙ are in
    is_bad before s bytes r starts done ran quote (flat_map (part_bytes quote) parts) are (quote_blank quote has.0) (inr (inl (quote, parts, has.0, has.1, inl all)))
ends_at (place.AfterQuote quote) before s bytes r starts (parts, has, are) walks halts ran done =
    closes before s bytes kind.Text Operand r starts done (quote, parts, has.0, has.1, are) (stops kind.Text s (place.AfterQuote quote) bytes walks halts (quote, parts, has.0, has.1, are)) tt refl
ends_at (place.AfterSlash quote) before s bytes r starts (parts, has, are) walks halts ran done =
    let all : s ++ bytes ≡ parts_text quote parts ++ 92 ∷ [] = ap (λ b. s ++ b) (slash_end quote bytes halts) ∙ append-nil s ∙ are in
    is_bad before s bytes r starts done ran quote (flat_map (part_bytes quote) parts ++ 92 ∷ []) are (quote_blank quote has.0) (inr (inl (quote, parts, has.0, has.1, inr all)))
ends_at place.HexEven before s bytes r starts (mark, digits, has, are) walks halts ran done =
    let own : (n : ℕ) → 1 < n → is_token (take n s) ≡ false = λ n many. ap (λ b. is_token (take n b)) are ∙ even_quiet mark digits has.0 has.1 n many in
    is_bad before s bytes r starts done ran mark (39 ∷ digits) are (x_blank mark has.0)
    (inr (inr (mark, digits ++ bytes, has.0, ap (λ b. b ++ bytes) are, quiet 1 s bytes own (silent s place.HexEven bytes walks halts))))
ends_at place.HexOdd before s bytes r starts (mark, digits, high, has, hex, are) walks halts ran done =
    let own : (n : ℕ) → 1 < n → is_token (take n s) ≡ false = λ n many. ap (λ b. is_token (take n b)) are ∙ odd_quiet mark digits high has.0 has.1 hex n many in
    is_bad before s bytes r starts done ran mark (39 ∷ digits ++ high ∷ []) are (x_blank mark has.0)
    (inr (inr (mark, (digits ++ high ∷ []) ++ bytes, has.0, ap (λ b. b ++ bytes) are, quiet 1 s bytes own (silent s place.HexOdd bytes walks halts))))
ends_at place.AfterBytes before s bytes r starts held walks halts ran done = closes before s bytes kind.Bytes Operand r starts done held (stops kind.Bytes s place.AfterBytes bytes walks halts held) tt refl
ends_at place.NameStart before s bytes r starts are walks halts ran done =
    is_bad before s bytes r starts done ran 96 [] are refl
    (inl (quiet 0 s bytes (λ n some. ap (λ b. is_token (take n b)) are ∙ start_quiet n some) (silent s place.NameStart bytes walks halts)))
ends_at place.InName before s bytes r starts (name, is, are) walks halts ran done =
    is_bad before s bytes r starts done ran 96 name are refl
    (inl (quiet 0 s bytes (λ n some. ap (λ b. is_token (take n b)) are ∙ quoted_quiet name is n some) (silent s place.InName bytes walks halts)))
ends_at place.AfterName before s bytes r starts held walks halts ran done = closes before s bytes kind.Quoted Operand r starts done held (stops kind.Quoted s place.AfterName bytes walks halts held) tt refl
ends_at (place.AfterSign mark) before s bytes r starts signed walks halts ran done = sign_ends before s bytes r starts done ran mark signed (stops kind.Sign s (place.AfterSign mark) bytes walks halts (ap is_some signed.spells))
ends_at (place.AfterHalf first) before s bytes r starts (are, half) walks halts ran done =
    let known = half_quiet first half in
    is_bad before s bytes r starts done ran first [] are known.0
    (inl (quiet 0 s bytes (λ n some. ap (λ b. is_token (take n b)) are ∙ known.1 n some) (silent s (place.AfterHalf first) bytes walks halts)))

-- where a token is open, its bytes end what was read, and the tokens that are done are those of what stands before it
abbrev Opened : LexerState → List ℕ → List ℕ → Reading → Type 0
Opened p text front r =
    (before : List ℕ) × (s : List ℕ) × (front ≡ before ++ s) × (r.start ≡ length before) × Held p s r × Walks s p × (tokens before ≡ Ok r.done) × Done text r

abbrev Standing : LexerState → List ℕ → List ℕ → Reading → Type 0
Standing place.Between text front r = Idle text r
Standing p text front r = Opened p text front r

abbrev Stands : List ℕ → List ℕ → Reading → Type 0
Stands text front r = Standing r.place text front r

-- whatever follows, it goes on from here
abbrev Ran : List ℕ → Reading → Type 0
Ran front r = (more : List ℕ) → tokens (front ++ more) ≡ tokens_from (length front) more r

open_ends : (p : LexerState) (text front bytes : List ℕ) (at : ℕ) (r : Reading) → text ≡ front ++ bytes → at ≡ length front → Halts p bytes → Opened p text front r
    → Gives text (Ends text) (ended p at r)
open_ends p text front bytes at r is behind halts (before, s, are, starts, held, walks, ran, done) =
    let whole : (before ++ s) ++ bytes ≡ text = ap (λ f. f ++ bytes) (sym are) ∙ sym is in
    let end : length (before ++ s) ≡ at = ap length (sym are) ∙ sym behind in
    subst (λ n. Gives text (Ends text) (ended p n r)) end
    (subst (λ t. Done t r → Gives t (Ends t) (ended p (length (before ++ s)) r)) whole (ends_at p before s bytes r starts held walks halts ran) done)

ends : (p : LexerState) (text front bytes : List ℕ) (at : ℕ) (r : Reading) → r.place ≡ p → text ≡ front ++ bytes → at ≡ length front → Halts p bytes → Standing p text front r
    → Gives text (Ends text) (ended p at r)
ends place.Between text front bytes at r here is behind halts idle = (here, idle)
ends p text front bytes at r here is behind halts stands = open_ends p text front bytes at r is behind halts stands

taken_stands : (q : LexerState) (text before s : List ℕ) (front : List ℕ) (byte : ℕ) (r : Reading) → front ≡ before ++ s → r.start ≡ length before → Held q s (taken q byte r) → Walks s q
    → tokens before ≡ Ok r.done → Done text r → Stands text front (taken q byte r)
taken_stands place.Between text before s front byte r are starts held walks ran done = absurd held
taken_stands q text before s front byte r are starts held walks ran done = (before, s, are, starts, held, walks, ran, done)

open_next : (p q : LexerState) (text front : List ℕ) (byte : ℕ) (r : Reading) → next_place p byte ≡ Some q → Opened p text front r → Stands text (front ++ byte ∷ []) (taken q byte r)
open_next p q text front byte r next (before, s, are, starts, held, walks, ran, done) =
    let now : Held q (s ++ byte ∷ []) (taken q byte r) = subst (λ o. IfSome o (λ n. Held n (s ++ byte ∷ []) (taken n byte r))) next (next_held s r byte p held) in
    taken_stands q text before (s ++ byte ∷ []) (front ++ byte ∷ []) byte r (ap (λ f. f ++ byte ∷ []) are ∙ append_assoc before s (byte ∷ [])) starts now (walks_next s p byte q walks next) ran done

next_stands : (p q : LexerState) (text front : List ℕ) (byte : ℕ) (r : Reading) → next_place p byte ≡ Some q → Standing p text front r → Stands text (front ++ byte ∷ []) (taken q byte r)
next_stands place.Between q text front byte r next idle = absurd (cc)
next_stands p q text front byte r next stands = open_next p q text front byte r next stands

no_token : (byte : ℕ) (bytes : List ℕ) → first_place byte ≡ None → HasNoSpelling 0 (byte ∷ bytes)
no_token byte bytes first zero k some fits is = omega (arith, some)
no_token byte bytes first (suc n) k some fits is =
    false≢true (sym (nowhere (take n bytes)) ∙ ap (λ p. goes p (take n bytes)) (sym first) ∙ spelled k (byte ∷ take n bytes) is)

opened_stands : (o : Option LexerState) (text front bytes : List ℕ) (at byte : ℕ) (r : Reading) → first_place byte ≡ o → is_blank byte ≡ false → text ≡ front ++ byte ∷ bytes → at ≡ length front
    → tokens front ≡ Ok r.done → Idle text r → Gives text (Stands text (front ++ byte ∷ [])) (opened o at byte r)
opened_stands None text front bytes at byte r first apart is behind ran idle =
    let before : take at text ≡ front = ap (λ n. take n text) behind ∙ ap (take (length front)) is ∙ take-append_seam front (byte ∷ bytes) in
    let after : drop at text ≡ byte ∷ bytes = ap (λ n. drop n text) behind ∙ ap (drop (length front)) is ∙ drop-append_seam front (byte ∷ bytes) in
    inr (refl, (r.done, byte, bytes, ap tokens before ∙ ran, idle.1.0, after, apart, subst (λ b. IsBad b) (sym after) (inl (no_token byte bytes first))))
opened_stands (Some q) text front bytes at byte r first apart is behind ran idle =
    let moved : Reading = record r { start = at } in
    let now : Held q (byte ∷ []) (taken q byte moved) = subst (λ o. IfSome o (λ n. Held n (byte ∷ []) (taken n byte moved))) first (first_held byte moved idle.0) in
    taken_stands q text front (byte ∷ []) (front ++ byte ∷ []) byte moved refl behind now (walks_first byte q first) ran idle.1

begun_by : (test : Bool) (text front bytes : List ℕ) (at byte : ℕ) (r : Reading) → is_blank byte ≡ test → text ≡ front ++ byte ∷ bytes → at ≡ length front → tokens front ≡ Ok r.done → Ends text r
    → Gives text (Stands text (front ++ byte ∷ [])) (if test then Ok r else opened (first_place byte) at byte r)
begun_by true text front bytes at byte r blank is behind ran (here, idle) = subst (λ (p : LexerState). Standing p text (front ++ byte ∷ []) r) (sym here) idle
begun_by false text front bytes at byte r blank is behind ran (here, idle) = opened_stands (first_place byte) text front bytes at byte r refl blank is behind ran idle

-- what is done when the open token ends is the tokens of what was read
front_tokens : (front : List ℕ) (at : ℕ) (r after : Reading) → at ≡ length front → Ran front r → ended r.place at r ≡ Ok after → tokens front ≡ Ok after.done
front_tokens front at r after behind ran made =
    ap tokens (sym (append-nil front)) ∙ ran [] ∙ ap (λ n. and_then (ended r.place n r) (λ last. Ok last.done)) (sym behind)
    ∙ ap (λ (o : Result Reading Refusal). and_then o (λ last. Ok last.done)) made

gone_on_stands : (next : Option LexerState) (text front bytes : List ℕ) (at byte : ℕ) (r : Reading) → next_place r.place byte ≡ next → text ≡ front ++ byte ∷ bytes → at ≡ length front → Ran front r
    → Stands text front r → Gives text (Stands text (front ++ byte ∷ [])) (gone_on next at byte r)
gone_on_stands None text front bytes at byte r next is behind ran stands =
    and_then_gives text (Ends text) (Stands text (front ++ byte ∷ [])) (ended r.place at r) (begun at byte) (ends r.place text front (byte ∷ bytes) at r refl is behind next stands)
    (λ after made done. begun_by (is_blank byte) text front bytes at byte after refl is behind (front_tokens front at r after behind ran made) done)
gone_on_stands (Some q) text front bytes at byte r next is behind ran stands = next_stands r.place q text front byte r next stands

step_ran : (front : List ℕ) (at byte : ℕ) (r next : Reading) → at ≡ length front → Ran front r → step at byte r ≡ Ok next → Ran (front ++ byte ∷ []) next
step_ran front at byte r next behind ran made more =
    let far : at + 1 ≡ length (front ++ byte ∷ []) = omega (arith, behind, length-append front (byte ∷ [])) in
    ap tokens (append_assoc front (byte ∷ []) more) ∙ ran (byte ∷ more) ∙ ap (λ n. tokens_from n (byte ∷ more) r) (sym behind)
    ∙ ap (λ (o : Result Reading Refusal). and_then o (tokens_from (at + 1) more)) made ∙ ap (λ n. tokens_from n more next) far

from_longest : (bytes text front : List ℕ) (at : ℕ) (r : Reading) → text ≡ front ++ bytes → at ≡ length front → Ran front r → Stands text front r
    → Gives text (AreLongest text []) (tokens_from at bytes r)
from_longest [] text front at r is behind ran stands =
    and_then_gives text (Ends text) (AreLongest text []) (ended r.place at r) (λ last. Ok last.done) (ends r.place text front [] at r refl is behind tt stands) (λ last made done. done.1.1.0)
from_longest (byte ∷ bytes) text front at r is behind ran stands =
    and_then_gives text (Stands text (front ++ byte ∷ [])) (AreLongest text []) (step at byte r) (tokens_from (at + 1) bytes)
    (gone_on_stands (next_place r.place byte) text front bytes at byte r refl is behind ran stands)
    (λ next made after.
    from_longest bytes text (front ++ byte ∷ []) (at + 1) next (is ∙ sym (append_assoc front (byte ∷ []) bytes)) (omega (arith, behind, length-append front (byte ∷ [])))
    (step_ran front at byte r next behind ran made) after)

all_longest : (text : List ℕ) → Gives text (AreLongest text []) (tokens text)
all_longest text = from_longest text text [] 0 nothing_read refl refl (λ more. refl) ((refl, refl, refl), (tt, refl))

pub tokens_follow : TokensFollow
tokens_follow text ts are = subst (λ (o : Result (List Token) Refusal). Gives text (AreLongest text []) o) are (all_longest text)

pub refusals_follow : RefusalsFollow
refusals_follow text refusal is = subst (λ (o : Result (List Token) Refusal). Gives text (AreLongest text []) o) is (all_longest text)
