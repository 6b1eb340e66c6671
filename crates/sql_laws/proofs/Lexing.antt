-- Tokens of a text that is put together: each part gives its pieces, whatever stands before it, where what follows ends it.
use Rattle.std.proofs.Common.{◌≡◌, ◌+◌, ◌∙◌, sym, ap, refl, subst, ℕ, false, List, [], ◌∷◌, ◌++◌, length, drop, None, Some, Ok}
use Rattle.std.proofs.Math.Seq.{drop-append_seam, take-append_seam}
use Rattle.std.proofs.lemmas.List.{append_assoc, append-nil, length-append, map-append}
use Rattle.sql_ast.specs.Bytes.{is_blank}
use Rattle.sql_ast.specs.Tokens.{and_then, begun, ended, first_place, gone_on, next_place, taken, tokens_from}
use Rattle.sql_ast.specs.declared.lexer.Reading.{Reading}
use Rattle.sql_ast.specs.declared.places.Last.{Last}
use Rattle.sql_ast.specs.declared.places.LexerState.{LexerState}
use Rattle.sql_ast.specs.declared.places.LexerState.TheVariants as place
use Rattle.sql_ast.specs.declared.tokens.Token.{Token}
use Rattle.sql_ast.specs.declared.tokens.TokenKind.{TokenKind}
use Rattle.sql_ast.specs.declared.pieces.Piece.{Piece}
use Rattle.sql_ast.specs.Values.{canonical_piece_of, canonical_pieces_of, canonical_value, slice}

-- no token is open
abbrev pub between : ℕ → Last → List Token → Reading
between start last done = record { place = place.Between; start = start; held = []; value = 0; digits = 0; last = last; done = done }

-- a token that stands at this place doesn't go on with these bytes
abbrev pub Stops : LexerState → List ℕ → Type 0
Stops place [] = Unit {0}
Stops place (byte ∷ bytes) = next_place place byte ≡ None

pub closes : (at : ℕ) (rest : List ℕ) (reading : Reading) (start : ℕ) (last : Last) (done : List Token) → ended reading.place at reading ≡ Ok (between start last done)
    → Stops reading.place rest → tokens_from at rest reading ≡ tokens_from at rest (between start last done)
closes at [] reading start last done end stops = ap (λ s. and_then s (λ read. Ok read.done)) end
closes at (byte ∷ bytes) reading start last done end stops =
    ap (λ p. and_then (gone_on p at byte reading) (tokens_from (at + 1) bytes)) stops
    ∙ ap (λ s. and_then (and_then s (begun at byte)) (tokens_from (at + 1) bytes)) end

pub opens : (at byte : ℕ) (rest : List ℕ) (place : LexerState) (start : ℕ) (last : Last) (done : List Token) → is_blank byte ≡ false → first_place byte ≡ Some place
    → tokens_from at (byte ∷ rest) (between start last done) ≡ tokens_from (at + 1) rest (taken place byte (between at last done))
opens at byte rest place start last done some first = rw (some, first) refl

pub goes : (at byte : ℕ) (rest : List ℕ) (place : LexerState) (reading : Reading) → next_place reading.place byte ≡ Some place
    → tokens_from at (byte ∷ rest) reading ≡ tokens_from (at + 1) rest (taken place byte reading)
goes at byte rest place reading next = ap (λ p. and_then (gone_on p at byte reading) (tokens_from (at + 1) rest)) next

-- what a part of a text gives
pub record Lexed (front s rest : List ℕ) (start : ℕ) (last : Last) (done : List Token) (ps : List Piece) : Type 0 where
  pub start_after : ℕ
  pub last_after : Last
  pub new : List Token
  pub runs : tokens_from (length front) (s ++ rest) (between start last done) ≡ tokens_from (length (front ++ s)) rest (between start_after last_after (done ++ new))
  pub pieces : canonical_pieces_of ((front ++ s) ++ rest) new ≡ ps

-- behind such a token, and before such bytes, a part of a text gives these pieces
abbrev pub Lexes : (Last → Type 0) → (List ℕ → Type 0) → List ℕ → List Piece → Type 0
Lexes Before After s ps =
    (front rest : List ℕ) (start : ℕ) (last : Last) (done : List Token) → Before last → After rest → Lexed front s rest start last done ps

abbrev pub Any : {A : Type 0} → A → Type 0
Any x = Unit {0}

pub same_pieces : (Before : Last → Type 0) (After : List ℕ → Type 0) (s : List ℕ) (ps qs : List Piece) → ps ≡ qs → Lexes Before After s ps → Lexes Before After s qs
same_pieces Before After s ps qs is lexes = subst (λ rs. Lexes Before After s rs) is lexes

pub same_text : (Before : Last → Type 0) (After : List ℕ → Type 0) (s t : List ℕ) (ps : List Piece) → s ≡ t → Lexes Before After s ps → Lexes Before After t ps
same_text Before After s t ps is lexes = subst (λ u. Lexes Before After u ps) is lexes

pub nothing : Lexes Any Any [] []
nothing front rest start last done before after = record {
  start_after = start;
  last_after = last;
  new = [];
  runs = ap (λ f. tokens_from (length f) rest (between start last done)) (sym (append-nil front)) ∙ ap (λ d. tokens_from (length (front ++ [])) rest (between start last d)) (sym (append-nil done));
  pieces = refl;
}

-- the same, and behind it such a token
abbrev pub LexesTo : (Last → Type 0) → (List ℕ → Type 0) → (Last → Type 0) → List ℕ → List Piece → Type 0
LexesTo Before After To s ps =
    (front rest : List ℕ) (start : ℕ) (last : Last) (done : List Token) → Before last → After rest → (lexed : Lexed front s rest start last done ps) × To lexed.last_after

pub joined_to : (Before Middle_last : Last → Type 0) (Middle After : List ℕ → Type 0) (s t : List ℕ) (ps qs : List Piece) → LexesTo Before Middle Middle_last s ps → Lexes Middle_last After t qs
    → ((rest : List ℕ) → After rest → Middle (t ++ rest)) → Lexes Before After (s ++ t) (ps ++ qs)
joined_to Before Middle_last Middle After s t ps qs one two fits front rest start last done before after =
    let at_first = one front (t ++ rest) start last done before (fits rest after) in
    let first = at_first.0 in
    let second = two (front ++ s) rest first.start_after first.last_after (done ++ first.new) at_first.1 after in
    let whole : ((front ++ s) ++ t) ++ rest ≡ (front ++ (s ++ t)) ++ rest = ap (λ f. f ++ rest) (append_assoc front s t) in
    let split : (front ++ s) ++ (t ++ rest) ≡ (front ++ (s ++ t)) ++ rest = sym (append_assoc (front ++ s) t rest) ∙ whole in
    record {
      start_after = second.start_after;
      last_after = second.last_after;
      new = first.new ++ second.new;
      runs = ap (λ u. tokens_from (length front) u (between start last done)) (append_assoc s t rest)
          ∙ first.runs ∙ second.runs
          ∙ ap (λ f. tokens_from (length f) rest (between second.start_after second.last_after ((done ++ first.new) ++ second.new))) (append_assoc front s t)
          ∙ ap (λ d. tokens_from (length (front ++ (s ++ t))) rest (between second.start_after second.last_after d)) (append_assoc done first.new second.new);
      pieces = map-append (canonical_piece_of ((front ++ (s ++ t)) ++ rest)) first.new second.new
          ∙ ap (λ rs. rs ++ canonical_pieces_of ((front ++ (s ++ t)) ++ rest) second.new) (ap (λ u. canonical_pieces_of u first.new) (sym split) ∙ first.pieces)
          ∙ ap (λ rs. ps ++ rs) (ap (λ u. canonical_pieces_of u second.new) (sym whole) ∙ second.pieces);
    }

pub joined : (Before : Last → Type 0) (Middle After : List ℕ → Type 0) (s t : List ℕ) (ps qs : List Piece) → Lexes Before Middle s ps → Lexes Any After t qs
    → ((rest : List ℕ) → After rest → Middle (t ++ rest)) → Lexes Before After (s ++ t) (ps ++ qs)
joined Before Middle After s t ps qs one two fits =
    joined_to Before Any Middle After s t ps qs (λ front rest start last done before after. (one front rest start last done before after, tt)) two fits

-- what is read behind any token and before any bytes
pub anywhere : (Before : Last → Type 0) (After : List ℕ → Type 0) (s : List ℕ) (ps : List Piece) → Lexes Any Any s ps → Lexes Before After s ps
anywhere Before After s ps lexes front rest start last done before after = lexes front rest start last done tt tt

-- a token that has just these bytes
abbrev pub token_at : TokenKind → ℕ → ℕ → Token
token_at kind start end = record { kind = kind; start = start; end = end }

abbrev pub Closes : TokenKind → List ℕ → ℕ → List ℕ → ℕ → Last → List Token → Type 0
Closes kind s at rest start last done =
    (after : Last) × (tokens_from at (s ++ rest) (between start last done) ≡ tokens_from (at + length s) rest (between at after (done ++ token_at kind at (at + length s) ∷ [])))

pub sliced : (front s rest : List ℕ) (kind : TokenKind) → slice ((front ++ s) ++ rest) (token_at kind (length front) (length (front ++ s))) ≡ s
sliced front s rest kind = ap (drop (length front)) (take-append_seam (front ++ s) rest) ∙ drop-append_seam front s

pub one_token_to : (Before : Last → Type 0) (After : List ℕ → Type 0) (To : Last → Type 0) (kind : TokenKind) (s : List ℕ)
    → ((at : ℕ) (rest : List ℕ) (start : ℕ) (last : Last) (done : List Token) → Before last → After rest → (closed : Closes kind s at rest start last done) × To closed.0)
    → LexesTo Before After To s (canonical_value kind s ∷ [])
one_token_to Before After To kind s reads front rest start last done before after =
    let reading = reads (length front) rest start last done before after in
    let read = reading.0 in
    let end : length front + length s ≡ length (front ++ s) = sym (length-append front s) in (
      record {
        start_after = length front;
        last_after = read.0;
        new = token_at kind (length front) (length (front ++ s)) ∷ [];
        runs = read.1 ∙ ap (λ n. tokens_from n rest (between (length front) read.0 (done ++ token_at kind (length front) n ∷ []))) end;
        pieces = ap (λ bytes. canonical_value kind bytes ∷ []) (sliced front s rest kind);
      },
      reading.1,
    )

pub one_token : (Before : Last → Type 0) (After : List ℕ → Type 0) (kind : TokenKind) (s : List ℕ)
    → ((at : ℕ) (rest : List ℕ) (start : ℕ) (last : Last) (done : List Token) → Before last → After rest → Closes kind s at rest start last done)
    → Lexes Before After s (canonical_value kind s ∷ [])
one_token Before After kind s reads front rest start last done before after =
    (one_token_to Before After Any kind s (λ at more from read found b a. (reads at more from read found b a, tt)) front rest start last done before after).0
