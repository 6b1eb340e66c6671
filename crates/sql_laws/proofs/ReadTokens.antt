-- The pieces of a text's tokens are given: a reading between two tokens and within one, and at the end.
use Rattle.std.proofs.Common.{◌≡◌, ◌≤◌, ◌<◌, ◌+◌, ◌-◌, ◌^◌, ◌∙◌, ◌⊎◌, inl, inr, sym, ap, refl, subst, ℕ, true, false, ◌&&◌, List, [], ◌∷◌, ◌++◌, length, drop, Some, None, unwrap_or, Result, Ok, Err, codes, arith, if◌then◌else◌}
use Rattle.std.specs.Prelude.{nat_le, nat_lt}
use Rattle.std.proofs.lemmas.Bool.{and_from, le-leb, leb-true, lt-ltb}
use Rattle.std.proofs.Math.Nat.{mul-le-mul_right, pow-le-pow_right}
use Rattle.std.proofs.lemmas.List.{append_assoc, length-append}
use Rattle.std.specs.Str.{IsUtf8}
use Rattle.tuple_codec.specs.Texts.{is_utf8}
use Rattle.tuple_codec.proofs.Utf8Lemmas.{from_test, to_test}
use Rattle.sql_laws.proofs.StringTexts.{string_of}
use Rattle.sql_ast.specs.Bytes.{is_blank}
use Rattle.std.proofs.lemmas.Nat.{pow-add}
use Rattle.sql_laws.proofs.Decimals.{pointed_value}
use Rattle.sql_ast.specs.Tokens.{after_keyword, after_sign, and_then, begun, closed, ended, large, with_point, first_place, gone_on, most_whole, next_place, opened, step, taken, tokens, tokens_from}
use Rattle.sql_ast.specs.Words.{keyword_of}
use Rattle.sql_ast.specs.declared.faults.Refusal.{Refusal}
use Rattle.sql_ast.specs.declared.lexer.Reading.{Reading}
use Rattle.sql_ast.specs.declared.places.Last.{Last}
use Rattle.sql_ast.specs.declared.places.Last.TheVariants.{Operand, Other}
use Rattle.sql_ast.specs.declared.places.LexerState.{LexerState}
use Rattle.sql_ast.specs.declared.places.LexerState.TheVariants as place
use Rattle.sql_ast.specs.declared.signs.Sign.{Sign}
use Rattle.sql_ast.specs.declared.signs.Sign.TheVariants as sign
use Rattle.sql_ast.specs.declared.tokens.Token.{Token}
use Rattle.sql_ast.specs.declared.tokens.TokenKind.{TokenKind}
use Rattle.sql_ast.specs.declared.tokens.TokenKind.TheVariants as kind
use Rattle.sql_ast.specs.declared.pieces.Piece.{Piece}
use Rattle.sql_ast.specs.declared.pieces.Piece.TheVariants as piece
use Rattle.sql_ast.specs.Values as values
use Rattle.sql_ast.specs.Values.{hex_bytes, lowered, number_from, pieces_of, slice, value}
use Rattle.sql_laws.specs.Written.{after_piece, are_given, is_given}
use Rattle.sql_laws.proofs.Lexing.{between, sliced, token_at}
use Rattle.sql_laws.proofs.Numbers.{capped, counted, plain}
use Rattle.sql_laws.proofs.TokenPieces.{Given, one_more, lowered_name, word_given, between_quotes, hex_given, counted_or, whole_given, plain_low, IsWhole, IsPointed, IsSigned, IsWordRead, IsClosed, OpenAs, reading_at, Open}
use Rattle.sql_laws.proofs.OpenTokens.{first_opens, next_opens}

-- a reading between two tokens
record Idle (text : List ℕ) (reading : Reading) : Type 0 where
  start : ℕ
  last : Last
  done : List Token
  is : reading ≡ between start last done
  tokens_given : Given text last done

abbrev EndsWell : List ℕ → Result Reading Refusal → Type 0
EndsWell text (Ok reading) = Idle text reading
EndsWell text (Err refusal) = Unit {0}

module _ (before bytes rest : List ℕ) where
  abbrev whole : List ℕ
  whole = (before ++ bytes) ++ rest

  abbrev at : ℕ
  at = length (before ++ bytes)

  closed_well : (kind_ : TokenKind) (p : Piece) (last next : Last) (done : List Token) → Given whole last done → value kind_ bytes ≡ p → is_given last p ≡ true → after_piece p last ≡ next
      → Idle whole (between (length before) next (done ++ token_at kind_ (length before) at ∷ []))
  closed_well kind_ p last next done given said is leads = record {
    start = length before;
    last = next;
    done = done ++ token_at kind_ (length before) at ∷ [];
    is = refl;
    tokens_given = one_more whole last next done (token_at kind_ (length before) at) p given (ap (value kind_) (sliced before bytes rest kind_) ∙ said) is leads;
  }

  decimal_well : (last : Last) (count : ℕ) (done : List Token) → IsPointed bytes count → nat_le count 18 ≡ true → Given whole last done
      → Idle whole (between (length before) Operand (done ++ token_at kind.Decimal (length before) at ∷ []))
  decimal_well last count done as_ low given =
      let front = as_.front in
      let behind = as_.behind in
      let number = plain (plain 0 front) behind in
      let most : counted (counted 0 front) behind ≤ 18 = subst (λ n. n ≤ 18) as_.count_is (leb-true count 18 low) in
      let front_many : length front ≤ counted 0 front = elim (counted_or 0 front) as (λ b. length front ≤ counted 0 front) [
        | inl same ↦ omega (arith, same)
        | inr high ↦ absurd (elim (counted_or (counted 0 front) behind) as (λ b. ⊥) [ inl same ↦ omega (arith, same, high) | inr higher ↦ omega (arith, higher) ])
      ] in
      let few : length front + length behind ≤ 18 = elim (counted_or (counted 0 front) behind) as (λ b. length front + length behind ≤ 18) [ inl same ↦ omega (arith, same, front_many) | inr high ↦ absurd (omega (arith, high)) ] in
      let front_low = plain_low 0 front as_.front_digits.all in
      let behind_low = plain_low (plain 0 front) behind as_.behind_digits.all in
      let front_power : plain 0 front + 1 ≤ 10 ^ length front = omega (arith, front_low) in
      let product = mul-le-mul_right (10 ^ length behind) front_power in
      let powers = pow-add 10 (length front) (length behind) in
      let top : 10 ^ (length front + length behind) ≤ 10 ^ 18 = pow-le-pow_right (omega arith) few in
      let small : number < 10 ^ 18 = omega (arith, behind_low, product, powers, top) in
      let fits : length behind ≤ 17 = omega (arith, as_.front_digits.some, few) in
      closed_well kind.Decimal (piece.Decimal number (length behind)) last Operand done given
      (ap (value kind.Decimal) as_.bytes_are ∙ pointed_value front behind as_.front_digits.all as_.behind_digits.all as_.front_digits.some as_.behind_digits.some few number refl (omega (arith, small)))
      (and_from (nat_le 1 (length behind)) (nat_le (length behind) 17 && nat_lt number (10 ^ 18)) (le-leb 1 (length behind) as_.behind_digits.some)
      (and_from (nat_le (length behind) 17) (nat_lt number (10 ^ 18)) (le-leb (length behind) 17 fits) (lt-ltb number (10 ^ 18) small))) refl

  sign_well : (s : Sign) (last : Last) (done : List Token) → IsSigned s bytes → Given whole last done
      → Idle whole (between (length before) (after_sign s last) (done ++ token_at kind.Sign (length before) at ∷ []))
  sign_well s last done as_ given =
      closed_well kind.Sign (piece.Sign s) last (after_sign s last) done given (ap (λ o. piece.Sign (unwrap_or o sign.Semicolon)) as_.spells) refl refl

  word_well : (held : List ℕ) (last : Last) (done : List Token) → IsWordRead bytes held → Given whole last done
      → Idle whole (between (length before) (after_keyword (keyword_of held)) (done ++ token_at kind.Word (length before) at ∷ []))
  word_well held last done as_ given =
      let word = word_given last bytes as_.0 in
      closed_well kind.Word (values.word bytes) last (after_keyword (keyword_of held)) done given refl word.0 (word.1 ∙ ap (λ h. after_keyword (keyword_of h)) as_.1)

-- a whole number, and the point behind it
module _ (before front rest : List ℕ) (number count : ℕ) (last : Last) (done : List Token) where
  abbrev all_text : List ℕ
  all_text = (before ++ (front ++ codes ".")) ++ rest

  abbrev point_end : ℕ
  point_end = length (before ++ (front ++ codes "."))

  point_well : IsWhole front number count → Given all_text last done → nat_le number (most_whole last) ≡ true → (start : ℕ) → start ≡ length before → (middle : ℕ) → middle ≡ length (before ++ front)
      → Idle all_text (between middle Other ((done ++ token_at kind.Whole start middle ∷ []) ++ token_at kind.Sign middle point_end ∷ []))
  point_well as_ given low start starts middle middles =
      let split : (before ++ front) ++ codes "." ++ rest ≡ all_text = ap (λ t. t ++ rest) (append_assoc before front (codes ".")) in
      let whole_split : (before ++ front) ++ (codes "." ++ rest) ≡ all_text = sym (append_assoc (before ++ front) (codes ".") rest) ∙ split in
      let first_slice : slice all_text (token_at kind.Whole start middle) ≡ front =
      ap (λ t. slice t (token_at kind.Whole start middle)) (sym whole_split) ∙ ap (λ n. slice ((before ++ front) ++ (codes "." ++ rest)) (token_at kind.Whole n middle)) starts
      ∙ ap (λ n. slice ((before ++ front) ++ (codes "." ++ rest)) (token_at kind.Whole (length before) n)) middles ∙ sliced before front (codes "." ++ rest) kind.Whole in
      let ends_at : point_end ≡ length (before ++ front ++ codes ".") = sym (ap length (append_assoc before front (codes "."))) in
      let second_slice : slice all_text (token_at kind.Sign middle point_end) ≡ codes "." =
      ap (λ t. slice t (token_at kind.Sign middle point_end)) (sym split) ∙ ap (λ n. slice ((before ++ front) ++ codes "." ++ rest) (token_at kind.Sign n point_end)) middles
      ∙ ap (λ n. slice ((before ++ front) ++ codes "." ++ rest) (token_at kind.Sign (length (before ++ front)) n)) ends_at ∙ sliced (before ++ front) (codes ".") rest kind.Sign in
      let small : nat_le (capped (2 ^ 63 + 1) 0 front) (most_whole last) ≡ true = ap (λ n. nat_le n (most_whole last)) (sym as_.number_is) ∙ low in
      let one = one_more all_text last Operand done (token_at kind.Whole start middle) (piece.Whole (number_from 0 front)) given (ap (value kind.Whole) first_slice) (whole_given last front small) refl in
      record {
        start = middle;
        last = Other;
        done = (done ++ token_at kind.Whole start middle ∷ []) ++ token_at kind.Sign middle point_end ∷ [];
        is = refl;
        tokens_given = one_more all_text Operand Other (done ++ token_at kind.Whole start middle ∷ []) (token_at kind.Sign middle point_end) (piece.Sign sign.Point) one (ap (value kind.Sign) second_slice) refl refl;
      }

  point_ends : IsWhole front number count → Given all_text last done → (held : List ℕ) → EndsWell all_text (ended place.AtPoint point_end (reading_at place.AtPoint (length before) held number count last done))
  point_ends as_ given held =
      let middle : point_end - 1 ≡ length (before ++ front) = omega (arith, length-append before (front ++ codes "."), length-append front (codes "."), length-append before front) in
      elim (nat_le number (most_whole last)) as (λ b. nat_le number (most_whole last) ≡ b → EndsWell all_text (and_then (if b then Ok (closed kind.Whole (point_end - 1) Operand (reading_at place.AtPoint (length before) held number count last done)) else large) (λ next. Ok (with_point point_end next)))) [
        | true ↦ λ low. point_well as_ given low (length before) refl (point_end - 1) middle
        | false ↦ λ no. tt
      ] refl

-- how a token ends
module _ (before bytes rest held : List ℕ) (number count : ℕ) (last : Last) (done : List Token) (given : Given (whole before bytes rest) last done) where
  abbrev Ends : LexerState → Type 0
  Ends p = EndsWell (whole before bytes rest) (ended p (at before bytes rest) (reading_at p (length before) held number count last done))

  string_given : {quote : ℕ} → IsClosed quote bytes → is_utf8 (values.string bytes) ≡ true
  string_given {quote} as_ =
      let Goal = λ (b : List ℕ). IsUtf8 (whole before b rest) → is_utf8 (values.string b) ≡ true in
      subst Goal (sym as_.bytes_are) (λ utf8. to_test (values.string (quote ∷ (as_.body ++ quote ∷ []))) (string_of before as_.body rest quote as_.low utf8)) given.utf8

  ends_well : (p : LexerState) → OpenAs p bytes held number count → Ends p
  ends_well place.Between as_ = absurd as_
  ends_well place.InWord as_ = word_well before bytes rest held last done as_ given
  ends_well place.AfterX as_ = word_well before bytes rest held last done as_ given
  ends_well place.InWhole as_ =
      elim (nat_le number (most_whole last)) as (λ b. nat_le number (most_whole last) ≡ b → EndsWell (whole before bytes rest) (if b then Ok (closed kind.Whole (at before bytes rest) Operand (reading_at place.InWhole (length before) held number count last done)) else large)) [
        | true ↦ λ low. closed_well before bytes rest kind.Whole (piece.Whole (number_from 0 bytes)) last Operand done given refl (whole_given last bytes (ap (λ n. nat_le n (most_whole last)) (sym as_.number_is) ∙ low)) refl
        | false ↦ λ no. tt
      ] refl
  ends_well place.AtPoint as_ =
      let At = λ (b : List ℕ). EndsWell (whole before b rest) (ended place.AtPoint (at before b rest) (reading_at place.AtPoint (length before) held number count last done)) in
      subst At (sym as_.1.0) (point_ends before as_.0 rest number count last done as_.1.1 (subst (λ b. Given (whole before b rest) last done) as_.1.0 given) held)
  ends_well place.InDecimal as_ =
      elim (nat_le count 18) as (λ b. nat_le count 18 ≡ b → EndsWell (whole before bytes rest) (if b then Ok (closed kind.Decimal (at before bytes rest) Operand (reading_at place.InDecimal (length before) held number count last done)) else large)) [
        | true ↦ λ low. decimal_well before bytes rest last count done as_ low given
        | false ↦ λ no. tt
      ] refl
  ends_well (place.InString quote) as_ = tt
  ends_well (place.AfterQuote quote) as_ = closed_well before bytes rest kind.Text (piece.Text (values.string bytes)) last Operand done given refl (string_given as_) refl
  ends_well (place.AfterSlash quote) as_ = tt
  ends_well place.HexEven as_ = tt
  ends_well place.HexOdd as_ = tt
  ends_well place.AfterBytes as_ = closed_well before bytes rest kind.Bytes (piece.Bytes (hex_bytes (drop 2 bytes))) last Operand done given refl (hex_given (drop 2 bytes)) refl
  ends_well place.NameStart as_ = tt
  ends_well place.InName as_ = tt
  ends_well place.AfterName as_ =
      closed_well before bytes rest kind.Quoted (piece.Quoted (lowered as_.0)) last Operand done given (ap values.quoted as_.1.0 ∙ ap (λ n. piece.Quoted (lowered n)) (between_quotes as_.0)) (lowered_name as_.0 as_.1.1) refl
  ends_well (place.AfterSign s) as_ = sign_well before bytes rest s last done as_ given
  ends_well (place.AfterHalf first) as_ = tt

-- a reading within a token
record Busy (front rest : List ℕ) (reading : Reading) : Type 0 where
  place : LexerState
  before : List ℕ
  bytes : List ℕ
  last : Last
  done : List Token
  open_ : Open place bytes (length before) last done reading
  split : front ≡ before ++ bytes
  tokens_given : Given (front ++ rest) last done

abbrev State : List ℕ → List ℕ → Reading → Type 0
State front rest reading = Idle (front ++ rest) reading ⊎ Busy front rest reading

-- however it stands, it ends well
finished : (front rest : List ℕ) (reading : Reading) → State front rest reading → EndsWell (front ++ rest) (ended reading.place (length front) reading)
finished front rest reading (inl idle) = subst (λ r. EndsWell (front ++ rest) (ended r.place (length front) r)) (sym idle.is) (record { start = idle.start; last = idle.last; done = idle.done; is = refl; tokens_given = idle.tokens_given })
finished front rest reading (inr busy) =
    let o = busy.open_ in
    let Goal = λ (f : List ℕ) (r : Reading). EndsWell (f ++ rest) (ended r.place (length f) r) in
    subst (λ r. Goal front r) (sym o.is)
    (subst (λ f. Goal f (reading_at busy.place (length busy.before) o.held o.number o.count busy.last busy.done)) (sym busy.split)
    (ends_well busy.before busy.bytes rest o.held o.number o.count busy.last busy.done (subst (λ f. Given (f ++ rest) busy.last busy.done) busy.split busy.tokens_given) busy.place o.as_))

abbrev StepsWell : List ℕ → List ℕ → Result Reading Refusal → Type 0
StepsWell front rest (Ok reading) = State front rest reading
StepsWell front rest (Err refusal) = Unit {0}

moved : (front rest : List ℕ) (byte : ℕ) → front ++ (byte ∷ rest) ≡ (front ++ byte ∷ []) ++ rest
moved front rest byte = sym (append_assoc front (byte ∷ []) rest)

-- a byte between two tokens
begins_well : (front rest : List ℕ) (byte : ℕ) (reading : Reading) → Idle (front ++ (byte ∷ rest)) reading → StepsWell (front ++ byte ∷ []) rest (begun (length front) byte reading)
begins_well front rest byte reading idle =
    let given = subst (λ t. Given t idle.last idle.done) (moved front rest byte) idle.tokens_given in
    let r = between idle.start idle.last idle.done in
    subst (λ z. StepsWell (front ++ byte ∷ []) rest (begun (length front) byte z)) (sym idle.is)
    (elim (is_blank byte) as (λ b. StepsWell (front ++ byte ∷ []) rest (if b then Ok r else opened (first_place byte) (length front) byte r)) [
      | true ↦ inl (record { start = idle.start; last = idle.last; done = idle.done; is = refl; tokens_given = given })
      | false ↦ elim (first_place byte) as (λ o. first_place byte ≡ o → StepsWell (front ++ byte ∷ []) rest (opened o (length front) byte r)) [
        | None ↦ λ is. tt
        | Some p ↦ λ is. inr (record {
          place = p;
          before = front;
          bytes = byte ∷ [];
          last = idle.last;
          done = idle.done;
          open_ = first_opens (length front) idle.last idle.done byte p is;
          split = refl;
          tokens_given = given;
        })
      ] refl
    ])

then_begins : (front rest : List ℕ) (byte : ℕ) (o : Result Reading Refusal) → EndsWell (front ++ (byte ∷ rest)) o → StepsWell (front ++ byte ∷ []) rest (and_then o (begun (length front) byte))
then_begins front rest byte (Ok reading) idle = begins_well front rest byte reading idle
then_begins front rest byte (Err refusal) idle = tt

steps_well : (front rest : List ℕ) (byte : ℕ) (reading : Reading) → State front (byte ∷ rest) reading → StepsWell (front ++ byte ∷ []) rest (step (length front) byte reading)
steps_well front rest byte reading state =
    elim (next_place reading.place byte) as (λ o. next_place reading.place byte ≡ o → StepsWell (front ++ byte ∷ []) rest (gone_on o (length front) byte reading)) [
      | None ↦ λ is. then_begins front rest byte (ended reading.place (length front) reading) (finished front (byte ∷ rest) reading state)
      | Some q ↦ λ is. elim state as (λ s. StepsWell (front ++ byte ∷ []) rest (Ok (taken q byte reading))) [
        | inl idle ↦ let none = ap (λ (r : Reading). next_place r.place byte) idle.is in absurd (cc)
        | inr busy ↦
            let o = busy.open_ in
            let next : next_place busy.place byte ≡ Some q = sym (ap (λ (r : Reading). next_place r.place byte) o.is) ∙ is in
            let opens = next_opens busy.bytes (length busy.before) o.held o.number o.count busy.last busy.done byte busy.place q o.as_ next in
            inr (record {
              place = q;
              before = busy.before;
              bytes = busy.bytes ++ byte ∷ [];
              last = busy.last;
              done = busy.done;
              open_ = subst (λ r. Open q (busy.bytes ++ byte ∷ []) (length busy.before) busy.last busy.done (taken q byte r)) (sym o.is) opens;
              split = ap (λ f. f ++ byte ∷ []) busy.split ∙ append_assoc busy.before busy.bytes (byte ∷ []);
              tokens_given = subst (λ t. Given t busy.last busy.done) (moved front rest byte) busy.tokens_given;
            })
      ]
    ] refl

-- all tokens
ends_given : (text : List ℕ) (o : Result Reading Refusal) (found : List Token) → EndsWell text o → and_then o (λ (r : Reading). Ok r.done) ≡ Ok found → are_given Other (pieces_of text found) ≡ true
ends_given text (Ok reading) found idle e =
    let done_is : reading.done ≡ found = cc in
    let same : reading.done ≡ idle.done = ap (λ (r : Reading). r.done) idle.is in
    ap (λ d. are_given Other (pieces_of text d)) (sym done_is ∙ same) ∙ idle.tokens_given.given
ends_given text (Err refusal) found idle e = absurd (cc)

after_step : (front rest : List ℕ) (found : List Token) (o : Result Reading Refusal) (go_on : Reading → Result (List Token) Refusal) → StepsWell front rest o
    → ((reading : Reading) → State front rest reading → go_on reading ≡ Ok found → are_given Other (pieces_of (front ++ rest) found) ≡ true)
    → and_then o go_on ≡ Ok found → are_given Other (pieces_of (front ++ rest) found) ≡ true
after_step front rest found (Ok reading) go_on state runs e = runs reading state e
after_step front rest found (Err refusal) go_on state runs e = absurd (cc)

runs_well : (rest front : List ℕ) (found : List Token) (reading : Reading) → State front rest reading → tokens_from (length front) rest reading ≡ Ok found → are_given Other (pieces_of (front ++ rest) found) ≡ true
runs_well [] front found reading state e = ends_given (front ++ []) (ended reading.place (length front) reading) found (finished front [] reading state) e
runs_well (byte ∷ rest) front found reading state e =
    let here : length front + 1 ≡ length (front ++ byte ∷ []) = sym (length-append front (byte ∷ [])) in
    ap (λ t. are_given Other (pieces_of t found)) (moved front rest byte)
    ∙ after_step (front ++ byte ∷ []) rest found (step (length front) byte reading) (tokens_from (length front + 1) rest) (steps_well front rest byte reading state)
    (λ next well f. runs_well rest (front ++ byte ∷ []) found next well (ap (λ n. tokens_from n rest next) (sym here) ∙ f)) e

pub tokens_are_given : (text : List ℕ) (found : List Token) → is_utf8 text ≡ true → tokens text ≡ Ok found → are_given Other (pieces_of text found) ≡ true
tokens_are_given text found utf8 e =
    runs_well text [] found (between 0 Other []) (inl (record { start = 0; last = Other; done = []; is = refl; tokens_given = record { given = refl; behind = refl; utf8 = from_test text utf8 } })) e
