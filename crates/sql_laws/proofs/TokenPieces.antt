-- What is known of the pieces of closed tokens, and of an open token's bytes and places.
use Rattle.std.proofs.Common.{◌≡◌, ◌≤◌, ◌<◌, ◌+◌, ◌-◌, ◌*◌, ◌^◌, ◌∙◌, ◌⊎◌, inl, inr, sym, ap, refl, subst, ℕ, suc, true, false, Bool, ◌==◌, ◌&&◌, not, min, List, [], ◌∷◌, ◌++◌, length, drop, take, Option, Some, None, unwrap_or, codes, arith, if◌then◌else◌}
use Rattle.std.specs.Prelude.{nat_le, nat_lt}
use Rattle.std.specs.List.{list_all}
use Rattle.std.proofs.lemmas.Bool.{and_from, and_parts, eqb-true, false≢true, le-leb, leb-true, lt-ltb}
use Rattle.std.proofs.Math.Nat.{mul-le-mul_right, pow-suc}
use Rattle.std.proofs.Math.Seq.{take-append_seam}
use Rattle.std.proofs.lemmas.Bool.Decides.{leb_tells}
use Rattle.std.proofs.lemmas.List.{length-append, map-append}
use Rattle.std.proofs.lemmas.List.Folds.{list_all-append}
use Rattle.std.specs.Str.{IsUtf8}
use Rattle.sql_ast.specs.Bytes.{is_digit, is_upper, is_word_byte, is_word_start, lower}
use Rattle.sql_ast.specs.Tokens.{after_keyword, first_byte, most_whole, on}
use Rattle.sql_ast.specs.Words.{double_sign, keyword_of, sign_of, single_sign}
use Rattle.sql_ast.specs.declared.lexer.Reading.{Reading}
use Rattle.sql_ast.specs.declared.places.Last.{Last}
use Rattle.sql_ast.specs.declared.places.Last.TheVariants.{Operand, Other, UnaryMinus}
use Rattle.sql_ast.specs.declared.places.LexerState.{LexerState}
use Rattle.sql_ast.specs.declared.places.LexerState.TheVariants as place
use Rattle.sql_ast.specs.declared.signs.Sign.{Sign}
use Rattle.sql_ast.specs.declared.signs.Sign.TheVariants as sign
use Rattle.sql_ast.specs.declared.tokens.Token.{Token}
use Rattle.sql_ast.specs.declared.words.Keyword.{Keyword}
use Rattle.sql_ast.specs.declared.pieces.Piece.{Piece}
use Rattle.sql_ast.specs.Values as values
use Rattle.sql_ast.specs.Values.{hex_bytes, hex_digit, lowered, number_from, piece_of, pieces_of, value}
use Rattle.sql_laws.specs.Written.{after_piece, are_given, is_given, is_name, is_word}
use Rattle.sql_laws.proofs.Lexing.{between}
use Rattle.sql_laws.proofs.Numbers.{capped, capped_plain, counted, number_capped, plain}

-- what stands behind some pieces
abbrev ends : Last → List Piece → Last
ends last [] = last
ends last (t ∷ ts) = ends (after_piece t last) ts

added : (last : Last) (ps : List Piece) (p : Piece) → are_given last ps ≡ true → is_given (ends last ps) p ≡ true → are_given last (ps ++ p ∷ []) ≡ true
added last [] p given is = and_from (is_given last p) true is refl
added last (q ∷ ps) p given is =
    let parts = and_parts (is_given last q) (are_given (after_piece q last) ps) given in
    and_from (is_given last q) (are_given (after_piece q last) (ps ++ p ∷ [])) parts.0 (added (after_piece q last) ps p parts.1 is)

ends_added : (last : Last) (ps : List Piece) (p : Piece) → ends last (ps ++ p ∷ []) ≡ after_piece p (ends last ps)
ends_added last [] p = refl
ends_added last (q ∷ ps) p = ends_added (after_piece q last) ps p

-- the tokens that are closed
pub record Given (text : List ℕ) (last : Last) (done : List Token) : Type 0 where
  pub given : are_given Other (pieces_of text done) ≡ true
  pub behind : ends Other (pieces_of text done) ≡ last
  pub utf8 : IsUtf8 text

pub one_more : (text : List ℕ) (last next : Last) (done : List Token) (token : Token) (p : Piece) → Given text last done → piece_of text token ≡ p → is_given last p ≡ true → after_piece p last ≡ next
    → Given text next (done ++ token ∷ [])
one_more text last next done token p g said is leads =
    let pieces : pieces_of text (done ++ token ∷ []) ≡ pieces_of text done ++ p ∷ [] = map-append (piece_of text) done (token ∷ []) ∙ ap (λ q. pieces_of text done ++ q ∷ []) said in
    record {
      given = ap (are_given Other) pieces ∙ added Other (pieces_of text done) p g.given (ap (λ l. is_given l p) g.behind ∙ is);
      behind = ap (ends Other) pieces ∙ ends_added Other (pieces_of text done) p ∙ ap (after_piece p) g.behind ∙ leads;
      utf8 = g.utf8;
    }

-- words

lower_start : (byte : ℕ) → is_word_start byte ≡ true → is_word_start (lower byte) ≡ true
lower_start byte start =
    elim (is_upper byte) as (λ b. is_upper byte ≡ b → is_word_start (if b then byte + 32 else byte) ≡ true) [
      | true ↦ λ upper.
          let parts = and_parts (nat_le 65 byte) (nat_le byte 90) upper in
          let from = leb-true 65 byte parts.0 in
          let to = leb-true byte 90 parts.1 in
          let low : nat_le 97 (byte + 32) ≡ true = le-leb 97 (byte + 32) (omega arith) in
          let high : nat_le (byte + 32) 122 ≡ true = le-leb (byte + 32) 122 (omega arith) in
          let not_upper : nat_le (byte + 32) 90 ≡ false = elim (nat_le (byte + 32) 90) as (λ b. nat_le (byte + 32) 90 ≡ b → b ≡ false) [ true ↦ λ e. absurd (omega (arith, leb-true (byte + 32) 90 e)) | false ↦ λ e. refl ] refl in
          let some : nat_le 65 (byte + 32) ≡ true = le-leb 65 (byte + 32) (omega arith) in
          rw (some, not_upper, low, high) refl
      | false ↦ λ other. start
    ] refl

not_false : (b : Bool) → b ≡ false → not b ≡ true
not_false true is = absurd (cc)
not_false false is = refl

upper_false : (byte : ℕ) → is_word_start byte ≡ false → is_upper byte ≡ false
upper_false byte other =
    elim (is_upper byte) as (λ b. is_upper byte ≡ b → b ≡ false) [
      | true ↦ λ upper. let start : is_word_start byte ≡ true = rw upper refl in absurd (false≢true (sym other ∙ start))
      | false ↦ λ e. refl
    ] refl

lower_word : (byte : ℕ) → is_word_byte byte ≡ true → is_word_byte (lower byte) ≡ true
lower_word byte word =
    elim (is_word_start byte) as (λ b. is_word_start byte ≡ b → is_word_byte (lower byte) ≡ true) [
      | true ↦ λ start. rw (lower_start byte start) refl
      | false ↦ λ other. let same : lower byte ≡ byte = rw (upper_false byte other) refl in ap is_word_byte same ∙ word
    ] refl

lower_small : (byte : ℕ) → not (is_upper (lower byte)) ≡ true
lower_small byte =
    elim (is_upper byte) as (λ b. is_upper byte ≡ b → not (is_upper (if b then byte + 32 else byte)) ≡ true) [
      | true ↦ λ upper.
          let parts = and_parts (nat_le 65 byte) (nat_le byte 90) upper in
          let from = leb-true 65 byte parts.0 in
          let not_upper : nat_le (byte + 32) 90 ≡ false = elim (nat_le (byte + 32) 90) as (λ b. nat_le (byte + 32) 90 ≡ b → b ≡ false) [ true ↦ λ e. absurd (omega (arith, leb-true (byte + 32) 90 e)) | false ↦ λ e. refl ] refl in
          let some : nat_le 65 (byte + 32) ≡ true = le-leb 65 (byte + 32) (omega arith) in
          rw (some, not_upper) refl
      | false ↦ λ other. not_false (is_upper byte) other
    ] refl

lowered_words : (bytes : List ℕ) → list_all is_word_byte bytes ≡ true → list_all is_word_byte (lowered bytes) ≡ true
lowered_words [] all = refl
lowered_words (byte ∷ bytes) all =
    let parts = and_parts (is_word_byte byte) (list_all is_word_byte bytes) all in
    and_from (is_word_byte (lower byte)) (list_all is_word_byte (lowered bytes)) (lower_word byte parts.0) (lowered_words bytes parts.1)

lowered_small : (bytes : List ℕ) → list_all (λ byte. not (is_upper byte)) (lowered bytes) ≡ true
lowered_small [] = refl
lowered_small (byte ∷ bytes) = and_from (not (is_upper (lower byte))) (list_all (λ b. not (is_upper b)) (lowered bytes)) (lower_small byte) (lowered_small bytes)

pub lowered_name : (bytes : List ℕ) → is_word bytes ≡ true → is_name (lowered bytes) ≡ true
lowered_name [] word = absurd (cc)
lowered_name (first ∷ bytes) word =
    let parts = and_parts (is_word_start first) (list_all is_word_byte bytes) word in
    and_from (is_word (lowered (first ∷ bytes))) (list_all (λ b. not (is_upper b)) (lowered (first ∷ bytes)))
    (and_from (is_word_start (lower first)) (list_all is_word_byte (lowered bytes)) (lower_start first parts.0) (lowered_words bytes parts.1)) (lowered_small (first ∷ bytes))

word_by_given : (last : Last) (o : Option Keyword) (name : List ℕ) → is_name name ≡ true → (is_given last (values.word_by o name) ≡ true) × (after_piece (values.word_by o name) last ≡ after_keyword o)
word_by_given last (Some w) name is = (refl, refl)
word_by_given last None name is = (is, refl)

pub word_given : (last : Last) (bytes : List ℕ) → is_word bytes ≡ true → (is_given last (values.word bytes) ≡ true) × (after_piece (values.word bytes) last ≡ after_keyword (keyword_of (lowered bytes)))
word_given last bytes word = word_by_given last (keyword_of (lowered bytes)) (lowered bytes) (lowered_name bytes word)

pub between_quotes : (bytes : List ℕ) → values.between (96 ∷ (bytes ++ 96 ∷ [])) ≡ bytes
between_quotes bytes =
    let many : length (96 ∷ (bytes ++ 96 ∷ [])) - 1 ≡ length (96 ∷ bytes) = omega (arith, length-append bytes (96 ∷ [])) in
    ap (λ n. drop 1 (take n ((96 ∷ bytes) ++ 96 ∷ []))) many ∙ ap (drop 1) (take-append_seam (96 ∷ bytes) (96 ∷ []))

-- byte strings

hex_low : (byte : ℕ) → hex_digit byte < 16
hex_low byte =
    elim (is_digit byte) as (λ b. is_digit byte ≡ b → hex_digit byte < 16) [
      | true ↦ λ e. let parts = and_parts (nat_le 48 byte) (nat_le byte 57) e in let to = leb-true byte 57 parts.1 in let is : hex_digit byte ≡ byte - 48 = rw e refl in omega arith
      | false ↦ λ e. elim (nat_le 97 byte && nat_le byte 102) as (λ b. (nat_le 97 byte && nat_le byte 102) ≡ b → hex_digit byte < 16) [
        | true ↦ λ f. let parts = and_parts (nat_le 97 byte) (nat_le byte 102) f in let to = leb-true byte 102 parts.1 in let is : hex_digit byte ≡ byte - 87 = rw (e, f) refl in omega arith
        | false ↦ λ f. elim (nat_le 65 byte && nat_le byte 70) as (λ b. (nat_le 65 byte && nat_le byte 70) ≡ b → hex_digit byte < 16) [
          | true ↦ λ g. let parts = and_parts (nat_le 65 byte) (nat_le byte 70) g in let to = leb-true byte 70 parts.1 in let is : hex_digit byte ≡ byte - 55 = rw (e, f, g) refl in omega arith
          | false ↦ λ g. let is : hex_digit byte ≡ 0 = rw (e, f, g) refl in omega arith
        ] refl
      ] refl
    ] refl

pub hex_given : (bytes : List ℕ) → list_all (λ byte. nat_lt byte 256) (hex_bytes bytes) ≡ true
hex_given (high ∷ low ∷ bytes) =
    let one = hex_low high in
    let two = hex_low low in
    and_from (nat_lt (16 * hex_digit high + hex_digit low) 256) (list_all (λ byte. nat_lt byte 256) (hex_bytes bytes)) (lt-ltb (16 * hex_digit high + hex_digit low) 256 (omega arith)) (hex_given bytes)
hex_given (byte ∷ []) = refl
hex_given [] = refl

-- numbers

at_most : (most : ℕ) (digits : List ℕ) → capped most most digits ≡ most
at_most most [] = refl
at_most most (digit ∷ digits) = let top : min (10 * most + (digit - 48)) most ≡ most = omega arith in ap (λ n. capped most n digits) top ∙ at_most most digits

capped_or : (most value : ℕ) (digits : List ℕ) → (capped most value digits ≡ plain value digits) ⊎ (capped most value digits ≡ most)
capped_or most value [] = inl refl
capped_or most value (digit ∷ digits) =
    let next = 10 * value + (digit - 48) in
    elim (leb_tells next most) as (λ b. (capped most (min next most) digits ≡ plain next digits) ⊎ (capped most (min next most) digits ≡ most)) [
      | inl tells ↦
          let same : min next most ≡ next = omega (arith, tells.1) in
          subst (λ n. (capped most n digits ≡ plain next digits) ⊎ (capped most n digits ≡ most)) (sym same) (capped_or most next digits)
      | inr tells ↦
          let top : min next most ≡ most = omega (arith, tells.1) in
          inr (ap (λ n. capped most n digits) top ∙ at_most most digits)
    ]

counted_top : (digits : List ℕ) → counted 19 digits ≡ 19
counted_top [] = refl
counted_top (digit ∷ digits) = counted_top digits

pub counted_or : (count : ℕ) (digits : List ℕ) → (counted count digits ≡ count + length digits) ⊎ (19 ≤ counted count digits)
counted_or count [] = inl (omega arith)
counted_or count (digit ∷ digits) =
    elim (leb_tells (count + 1) 19) as (λ b. (counted (min (count + 1) 19) digits ≡ count + length (digit ∷ digits)) ⊎ (19 ≤ counted (min (count + 1) 19) digits)) [
      | inl tells ↦
          let same : min (count + 1) 19 ≡ count + 1 = omega (arith, tells.1) in
          let more : count + 1 + length digits ≡ count + length (digit ∷ digits) = omega arith in
          subst (λ n. (counted n digits ≡ count + length (digit ∷ digits)) ⊎ (19 ≤ counted n digits)) (sym same)
          (elim (counted_or (count + 1) digits) as (λ b. (counted (count + 1) digits ≡ count + length (digit ∷ digits)) ⊎ (19 ≤ counted (count + 1) digits)) [ inl e ↦ inl (e ∙ more) | inr e ↦ inr e ])
      | inr tells ↦
          let top : min (count + 1) 19 ≡ 19 = omega (arith, tells.1) in
          let all = ap (λ n. counted n digits) top ∙ counted_top digits in
          inr (omega (arith, all))
    ]

most_low : (last : Last) → most_whole last ≤ 2 ^ 63
most_low Operand = omega arith
most_low UnaryMinus = omega arith
most_low Other = omega arith

pub whole_given : (last : Last) (digits : List ℕ) → nat_le (capped (2 ^ 63 + 1) 0 digits) (most_whole last) ≡ true → nat_le (number_from 0 digits) (most_whole last) ≡ true
whole_given last digits low =
    let most = most_low last in
    let small = leb-true (capped (2 ^ 63 + 1) 0 digits) (most_whole last) low in
    elim (capped_or (2 ^ 63 + 1) 0 digits) as (λ b. nat_le (number_from 0 digits) (most_whole last) ≡ true) [
      | inl same ↦
          let number : number_from 0 digits ≡ capped (2 ^ 63 + 1) 0 digits = number_capped 0 digits ∙ capped_plain (2 ^ 64 - 1) 0 digits (omega (arith, same)) ∙ sym same in
          ap (λ n. nat_le n (most_whole last)) number ∙ low
      | inr top ↦ absurd (omega (arith, top))
    ]

pub plain_low : (value : ℕ) (digits : List ℕ) → list_all is_digit digits ≡ true → plain value digits < (value + 1) * 10 ^ length digits
plain_low value [] all = omega arith
plain_low value (digit ∷ digits) all =
    let parts = and_parts (is_digit digit) (list_all is_digit digits) all in
    let small = leb-true digit 57 (and_parts (nat_le 48 digit) (nat_le digit 57) parts.0).1 in
    let next = 10 * value + (digit - 48) in
    let power = 10 ^ length digits in
    let others : plain next digits < (next + 1) * power = plain_low next digits parts.1 in
    let up : 10 ^ suc (length digits) ≡ power * 10 = pow-suc 10 (length digits) in
    let more : next + 1 ≤ (value + 1) * 10 = omega arith in
    let wide : (next + 1) * power ≤ (value + 1) * 10 * power = mul-le-mul_right power more in
    let same : (value + 1) * 10 * power ≡ (value + 1) * (power * 10) = grind arith in
    let total : (value + 1) * 10 ^ suc (length digits) ≡ (value + 1) * (power * 10) = ap (λ n. (value + 1) * n) up in
    omega (arith, others, wide, same, total)

-- the open token, by its place: what is known of its bytes, and of what is noted of them

pub record IsDigits (bytes : List ℕ) : Type 0 where
  pub all : list_all is_digit bytes ≡ true
  pub some : 1 ≤ length bytes

pub record IsWhole (bytes : List ℕ) (number count : ℕ) : Type 0 where
  pub digits : IsDigits bytes
  pub number_is : number ≡ capped (2 ^ 63 + 1) 0 bytes
  pub count_is : count ≡ counted 0 bytes

pub record IsPointed (bytes : List ℕ) (count : ℕ) : Type 0 where
  pub front : List ℕ
  pub behind : List ℕ
  pub bytes_are : bytes ≡ front ++ codes "." ++ behind
  pub front_digits : IsDigits front
  pub behind_digits : IsDigits behind
  pub count_is : count ≡ counted (counted 0 front) behind

pub record IsSigned (s : Sign) (bytes : List ℕ) : Type 0 where
  pub spells : sign_of bytes ≡ Some s
  pub goes_on : (byte : ℕ) (other : Sign) → double_sign (first_byte s) byte ≡ Some other → sign_of (bytes ++ byte ∷ []) ≡ Some other

abbrev pub IsWordRead : List ℕ → List ℕ → Type 0
IsWordRead bytes held = (is_word bytes ≡ true) × (lowered bytes ≡ held)

pub record IsOpened (quote : ℕ) (bytes : List ℕ) : Type 0 where
  pub body : List ℕ
  pub bytes_are : bytes ≡ quote ∷ body
  pub low : quote < 128

pub record IsClosed (quote : ℕ) (bytes : List ℕ) : Type 0 where
  pub body : List ℕ
  pub bytes_are : bytes ≡ quote ∷ (body ++ quote ∷ [])
  pub low : quote < 128

abbrev pub OpenAs : LexerState → List ℕ → List ℕ → ℕ → ℕ → Type 0
OpenAs place.Between bytes held number count = ⊥
OpenAs place.InWord bytes held number count = IsWordRead bytes held
OpenAs place.AfterX bytes held number count = IsWordRead bytes held
OpenAs place.InWhole bytes held number count = IsWhole bytes number count
OpenAs place.AtPoint bytes held number count = (front : List ℕ) × ((bytes ≡ front ++ codes ".") × IsWhole front number count)
OpenAs place.InDecimal bytes held number count = IsPointed bytes count
OpenAs place.NameStart bytes held number count = bytes ≡ 96 ∷ []
OpenAs place.InName bytes held number count = (name : List ℕ) × ((bytes ≡ 96 ∷ name) × (is_word name ≡ true))
OpenAs place.AfterName bytes held number count = (name : List ℕ) × ((bytes ≡ 96 ∷ (name ++ 96 ∷ [])) × (is_word name ≡ true))
OpenAs (place.InString quote) bytes held number count = IsOpened quote bytes
OpenAs (place.AfterSlash quote) bytes held number count = IsOpened quote bytes
OpenAs (place.AfterQuote quote) bytes held number count = IsClosed quote bytes
OpenAs (place.AfterSign s) bytes held number count = IsSigned s bytes
OpenAs (place.AfterHalf first) bytes held number count = bytes ≡ first ∷ []
OpenAs place bytes held number count = Unit {0}

abbrev pub reading_at : LexerState → ℕ → List ℕ → ℕ → ℕ → Last → List Token → Reading
reading_at place start held number count last done = record { place = place; start = start; held = held; value = number; digits = count; last = last; done = done }

pub record Open (place : LexerState) (bytes : List ℕ) (start : ℕ) (last : Last) (done : List Token) (reading : Reading) : Type 0 where
  pub held : List ℕ
  pub number : ℕ
  pub count : ℕ
  pub is : reading ≡ reading_at place start held number count last done
  pub as_ : OpenAs place bytes held number count

-- places that are given by tests

pub some_place : (p q : LexerState) → Path (Option LexerState) (Some p) (Some q) → p ≡ q
some_place p q e = ap (λ o. unwrap_or o p) e

pub on_place : (test : Bool) (p q : LexerState) → on test p ≡ Some q → (test ≡ true) × (p ≡ q)
on_place true p q e = (refl, some_place p q e)
on_place false p q e = absurd (cc)

pub word_more : (bytes : List ℕ) (byte : ℕ) → is_word bytes ≡ true → is_word_byte byte ≡ true → is_word (bytes ++ byte ∷ []) ≡ true
word_more [] byte word more = absurd (cc)
word_more (first ∷ bytes) byte word more =
    let parts = and_parts (is_word_start first) (list_all is_word_byte bytes) word in
    and_from (is_word_start first) (list_all is_word_byte (bytes ++ byte ∷ [])) parts.0 (list_all-append is_word_byte bytes (byte ∷ []) ∙ rw (parts.1, more) refl)

pub digits_more : (bytes : List ℕ) (byte : ℕ) → list_all is_digit bytes ≡ true → is_digit byte ≡ true → list_all is_digit (bytes ++ byte ∷ []) ≡ true
digits_more bytes byte all more = list_all-append is_digit bytes (byte ∷ []) ∙ rw (all, more) refl

pub capped_more : (most number : ℕ) (bytes : List ℕ) (byte : ℕ) → capped most number (bytes ++ byte ∷ []) ≡ min (10 * capped most number bytes + (byte - 48)) most
capped_more most number [] byte = refl
capped_more most number (first ∷ bytes) byte = capped_more most (min (10 * number + (first - 48)) most) bytes byte

pub counted_more : (count : ℕ) (bytes : List ℕ) (byte : ℕ) → counted count (bytes ++ byte ∷ []) ≡ min (counted count bytes + 1) 19
counted_more count [] byte = refl
counted_more count (first ∷ bytes) byte = counted_more (min (count + 1) 19) bytes byte

-- signs of one byte and of two

skip_if : (test : Bool) (s t : Sign) (rest : Option Sign) → (s ≡ t → ⊥) → Path (Option Sign) (if test then Some s else rest) (Some t) → rest ≡ Some t
skip_if true s t rest other e = absurd (other (ap (λ o. unwrap_or o s) e))
skip_if false s t rest other e = e

is_less : (byte : ℕ) → single_sign byte ≡ Some sign.Less → byte ≡ 60
is_less byte e =
    let a = skip_if (byte == 40) sign.OpenParenthesis sign.Less _ (λ x. cc) e in
    let b = skip_if (byte == 41) sign.CloseParenthesis sign.Less _ (λ x. cc) a in
    let c = skip_if (byte == 44) sign.Comma sign.Less _ (λ x. cc) b in
    let d = skip_if (byte == 46) sign.Point sign.Less _ (λ x. cc) c in
    let f = skip_if (byte == 59) sign.Semicolon sign.Less _ (λ x. cc) d in
    let g = skip_if (byte == 42) sign.Star sign.Less _ (λ x. cc) f in
    let h = skip_if (byte == 43) sign.Plus sign.Less _ (λ x. cc) g in
    let i = skip_if (byte == 45) sign.Minus sign.Less _ (λ x. cc) h in
    let j = skip_if (byte == 61) sign.Equal sign.Less _ (λ x. cc) i in
    elim (byte == 60) as (λ t. (byte == 60) ≡ t → Path (Option Sign) (if t then Some sign.Less else (if byte == 62 then Some sign.Greater else None)) (Some sign.Less) → byte ≡ 60) [
      | true ↦ λ is k. eqb-true byte 60 is
      | false ↦ λ is k. let l = skip_if (byte == 62) sign.Greater sign.Less None (λ x. cc) k in absurd (cc)
    ] refl j

is_greater : (byte : ℕ) → single_sign byte ≡ Some sign.Greater → byte ≡ 62
is_greater byte e =
    let a = skip_if (byte == 40) sign.OpenParenthesis sign.Greater _ (λ x. cc) e in
    let b = skip_if (byte == 41) sign.CloseParenthesis sign.Greater _ (λ x. cc) a in
    let c = skip_if (byte == 44) sign.Comma sign.Greater _ (λ x. cc) b in
    let d = skip_if (byte == 46) sign.Point sign.Greater _ (λ x. cc) c in
    let f = skip_if (byte == 59) sign.Semicolon sign.Greater _ (λ x. cc) d in
    let g = skip_if (byte == 42) sign.Star sign.Greater _ (λ x. cc) f in
    let h = skip_if (byte == 43) sign.Plus sign.Greater _ (λ x. cc) g in
    let i = skip_if (byte == 45) sign.Minus sign.Greater _ (λ x. cc) h in
    let j = skip_if (byte == 61) sign.Equal sign.Greater _ (λ x. cc) i in
    let k = skip_if (byte == 60) sign.Less sign.Greater _ (λ x. cc) j in
    elim (byte == 62) as (λ t. (byte == 62) ≡ t → Path (Option Sign) (if t then Some sign.Greater else None) (Some sign.Greater) → byte ≡ 62) [
      | true ↦ λ is l. eqb-true byte 62 is
      | false ↦ λ is l. absurd (cc)
    ] refl k

not_double : (first second : ℕ) (s : Sign) → (sign.NotEqual ≡ s → ⊥) → (sign.AtMost ≡ s → ⊥) → (sign.AtLeast ≡ s → ⊥) → (sign.AtAt ≡ s → ⊥) → double_sign first second ≡ Some s → ⊥
not_double first second s a b c d e =
    let f = skip_if (first == 60 && second == 62) sign.NotEqual s _ a e in
    let g = skip_if (first == 33 && second == 61) sign.NotEqual s _ a f in
    let h = skip_if (first == 60 && second == 61) sign.AtMost s _ b g in
    let i = skip_if (first == 62 && second == 61) sign.AtLeast s _ c h in
    let j = skip_if (first == 64 && second == 64) sign.AtAt s None d i in
    absurd (cc)

none_doubled : (byte : ℕ) (s : Sign) → double_sign 0 byte ≡ Some s → ⊥
none_doubled byte s e = cc

pub signed_first : (byte : ℕ) (s : Sign) → single_sign byte ≡ Some s → IsSigned s (byte ∷ [])
signed_first byte sign.Less e = record { spells = e; goes_on = λ b other d. ap (λ n. double_sign n b) (is_less byte e) ∙ d }
signed_first byte sign.Greater e = record { spells = e; goes_on = λ b other d. ap (λ n. double_sign n b) (is_greater byte e) ∙ d }
signed_first byte s e = record { spells = e; goes_on = λ b other d. absurd (none_doubled b other d) }

pub signed_second : (first second : ℕ) (s : Sign) (bytes : List ℕ) → double_sign first second ≡ Some s → sign_of bytes ≡ Some s → IsSigned s bytes
signed_second first second sign.Less bytes e spells = absurd (not_double first second sign.Less (λ x. cc) (λ x. cc) (λ x. cc) (λ x. cc) e)
signed_second first second sign.Greater bytes e spells = absurd (not_double first second sign.Greater (λ x. cc) (λ x. cc) (λ x. cc) (λ x. cc) e)
signed_second first second s bytes e spells = record { spells = spells; goes_on = λ b other d. absurd (none_doubled b other d) }
