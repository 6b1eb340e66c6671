-- The pieces of the workload's texts, whatever numbers stand in them.
use Rattle.std.proofs.Common.{◌≡◌, ◌<◌, ◌^◌, ◌-◌, ◌∙◌, sym, ap, refl, cond, ℕ, Bool, true, false, not, List, [], ◌∷◌, ◌++◌, codes, Option, Some, None, Ok, arith}
use Rattle.std.specs.Prelude.{is_some}
use Rattle.std.specs.Fmt.{decimal}
use Rattle.std.specs.List.{list_all}
use Rattle.std.specs.Str.{bytes_eq}
use Rattle.std.proofs.lemmas.Bool.{and_parts, le-leb}
use Rattle.std.proofs.lemmas.List.{append-nil}
use Rattle.sql_ast.specs.Tokens.{tokens}
use Rattle.sql_ast.specs.Words.{keyword_of}
use Rattle.sql_ast.specs.declared.places.Last.TheVariants.{Other}
use Rattle.sql_ast.specs.declared.signs.Sign.TheVariants as sign
use Rattle.sql_ast.specs.declared.tokens.Token.{Token}
use Rattle.sql_ast.specs.declared.tokens.TokenKind.{TokenKind}
use Rattle.sql_ast.specs.declared.tokens.TokenKind.TheVariants as kind
use Rattle.sql_ast.specs.declared.words.Keyword.{Keyword}
use Rattle.sql_ast.specs.declared.words.Keyword.TheVariants as word
use Rattle.sql_ast.specs.declared.pieces.Piece.{Piece}
use Rattle.sql_ast.specs.declared.pieces.Piece.TheVariants as piece
use Rattle.sql_ast.specs.Values.{canonical_piece_of, canonical_pieces_of, canonical_value, canonical_word, lowered, pieces_of, value, word_by}
use Rattle.sql_ast.specs.Values as values
use Rattle.sql_laws.specs.Spelling.{key, mark}
use Rattle.sql_laws.specs.Written.{is_word}
use Rattle.sql_laws.proofs.Lexing.{Any, Lexes, joined, same_pieces}
use Rattle.sql_laws.proofs.Marks.{AfterExpr}
use Rattle.sql_laws.proofs.Numbers.{whole_lexes}
use Rattle.sql_laws.proofs.Words.{AfterWord, blank, close, comma, equal, open_, word_lexes}
use Rattle.workload.specs.Workload.{insert_text, update_text}

-- ---- a canonical text without reserved words in lower case has the same pieces in any text

abbrev is_plain : Piece → Bool
is_plain (piece.Word name) = not (is_some (keyword_of name))
is_plain _ = true

plain_word : (found : Option Keyword) (name : List ℕ) → not (is_some found) ≡ true → word_by found name ≡ piece.Word name
plain_word None name plain = refl
plain_word (Some reserved) name plain = absurd (cc)

plain_canonical : (bytes : List ℕ) → is_plain (canonical_word bytes) ≡ true → values.word bytes ≡ canonical_word bytes
plain_canonical bytes =
    elim (bytes_eq (lowered bytes) bytes) as (λ (same : Bool). is_plain (cond same (piece.Word (lowered bytes)) (values.word bytes)) ≡ true → values.word bytes ≡ cond same (piece.Word (lowered bytes)) (values.word bytes)) [
      | true ↦ λ plain. plain_word (keyword_of (lowered bytes)) (lowered bytes) plain
      | false ↦ λ plain. refl
    ]

plain_value : (k : TokenKind) (bytes : List ℕ) → is_plain (canonical_value k bytes) ≡ true → value k bytes ≡ canonical_value k bytes
plain_value kind.Word bytes plain = plain_canonical bytes plain
plain_value kind.Quoted bytes plain = refl
plain_value kind.Text bytes plain = refl
plain_value kind.Bytes bytes plain = refl
plain_value kind.Whole bytes plain = refl
plain_value kind.Decimal bytes plain = refl
plain_value kind.Sign bytes plain = refl

plain_pieces : (text : List ℕ) (found : List Token) → list_all is_plain (canonical_pieces_of text found) ≡ true → pieces_of text found ≡ canonical_pieces_of text found
plain_pieces text [] plain = refl
plain_pieces text (token ∷ more) plain =
    let parts = and_parts (is_plain (canonical_piece_of text token)) (list_all is_plain (canonical_pieces_of text more)) plain in
    ap (λ p. p ∷ pieces_of text more) (plain_value token.kind (values.slice text token) parts.0) ∙ ap (λ ps. canonical_piece_of text token ∷ ps) (plain_pieces text more parts.1)

-- ---- texts and their pieces

pub record HasPieces (text : List ℕ) (pieces : List Piece) : Type 0 where
  pub found : List Token
  pub tokens_are : tokens text ≡ Ok found
  pub pieces_are : pieces_of text found ≡ pieces

has_pieces : (text : List ℕ) (ps : List Piece) → Lexes Any AfterExpr text ps → list_all is_plain ps ≡ true → HasPieces text ps
has_pieces text ps lexes plain =
    let lexed = lexes [] [] 0 Other [] tt tt in
    let whole : text ++ [] ≡ text = append-nil text in
    let canonical : canonical_pieces_of text lexed.new ≡ ps = ap (λ s. canonical_pieces_of s lexed.new) (sym whole) ∙ lexed.pieces in
    record {
      found = lexed.new;
      tokens_are = ap tokens (sym whole) ∙ lexed.runs;
      pieces_are = plain_pieces text lexed.new (ap (list_all is_plain) canonical ∙ plain) ∙ canonical;
    }

-- a word and a space, and what follows
worded : (After : List ℕ → Type 0) (w s : List ℕ) (p : Piece) (ps : List Piece) → is_word w ≡ true → canonical_word w ≡ p → Lexes Any After s ps → Lexes Any After (w ++ codes " " ++ s) (p ∷ ps)
worded After w s p ps is said lexes =
    joined Any Any After (w ++ codes " ") s (p ∷ []) ps
    (same_pieces Any Any (w ++ codes " ") (canonical_word w ∷ []) (p ∷ []) (ap (λ q. q ∷ []) said)
    (joined Any AfterWord Any w (codes " ") (canonical_word w ∷ []) [] (word_lexes w is) blank (λ rest after. record { other = refl; quote = refl })))
    lexes (λ rest after. tt)

spaced : (After : List ℕ → Type 0) (s : List ℕ) (ps : List Piece) → Lexes Any After s ps → Lexes Any After (codes " " ++ s) ps
spaced After s ps lexes = joined Any Any After (codes " ") s [] ps blank lexes (λ rest after. tt)

whole : (n : ℕ) → n < 2 ^ 63 → Lexes Any AfterExpr (decimal n) (piece.Whole n ∷ [])
whole n low front rest start last done before after = whole_lexes false n (le-leb n (2 ^ 63 - 1) (omega arith)) front rest start last done tt after

-- ---- INSERT

abbrev pub insert_pieces : ℕ → ℕ → List Piece
insert_pieces k v =
    key word.Insert ∷ key word.Into ∷ piece.Word (codes "load_rows") ∷ key word.Values ∷ mark sign.OpenParenthesis ∷ piece.Whole k ∷ mark sign.Comma ∷ piece.Whole v ∷ mark sign.CloseParenthesis ∷ []

insert_front : (k : ℕ) → k < 2 ^ 63 → Lexes Any AfterExpr (codes "INSERT INTO load_rows VALUES (" ++ decimal k)
    (key word.Insert ∷ key word.Into ∷ piece.Word (codes "load_rows") ∷ key word.Values ∷ mark sign.OpenParenthesis ∷ piece.Whole k ∷ [])
insert_front k low =
    let in_parenthesis = joined Any Any AfterExpr (codes "(") (decimal k) (mark sign.OpenParenthesis ∷ []) (piece.Whole k ∷ []) open_ (whole k low) (λ rest after. tt) in
    let from_values = worded AfterExpr (codes "VALUES") (codes "(" ++ decimal k) (key word.Values) (mark sign.OpenParenthesis ∷ piece.Whole k ∷ []) refl refl in_parenthesis in
    let from_name =
    worded AfterExpr (codes "load_rows") (codes "VALUES (" ++ decimal k) (piece.Word (codes "load_rows")) (key word.Values ∷ mark sign.OpenParenthesis ∷ piece.Whole k ∷ []) refl refl from_values in
    let from_into =
    worded AfterExpr (codes "INTO") (codes "load_rows VALUES (" ++ decimal k) (key word.Into) (piece.Word (codes "load_rows") ∷ key word.Values ∷ mark sign.OpenParenthesis ∷ piece.Whole k ∷ []) refl refl from_name in
    worded AfterExpr (codes "INSERT") (codes "INTO load_rows VALUES (" ++ decimal k) (key word.Insert)
    (key word.Into ∷ piece.Word (codes "load_rows") ∷ key word.Values ∷ mark sign.OpenParenthesis ∷ piece.Whole k ∷ []) refl refl from_into

insert_lexes : (k v : ℕ) → k < 2 ^ 63 → v < 2 ^ 63 → Lexes Any Any (insert_text k v) (insert_pieces k v)
insert_lexes k v low_k low_v =
    let front = codes "INSERT INTO load_rows VALUES (" ++ decimal k in
    let ps = key word.Insert ∷ key word.Into ∷ piece.Word (codes "load_rows") ∷ key word.Values ∷ mark sign.OpenParenthesis ∷ piece.Whole k ∷ [] in
    let to_comma = joined Any AfterExpr Any front (codes ",") ps (mark sign.Comma ∷ []) (insert_front k low_k) comma (λ rest after. refl) in
    let to_value = joined Any Any AfterExpr (front ++ codes ",") (decimal v) (ps ++ mark sign.Comma ∷ []) (piece.Whole v ∷ []) to_comma (whole v low_v) (λ rest after. tt) in
    joined Any AfterExpr Any (front ++ codes "," ++ decimal v) (codes ")") (ps ++ (mark sign.Comma ∷ piece.Whole v ∷ [])) (mark sign.CloseParenthesis ∷ []) to_value close (λ rest after. refl)

pub insert_has : (k v : ℕ) → k < 2 ^ 63 → v < 2 ^ 63 → HasPieces (insert_text k v) (insert_pieces k v)
insert_has k v low_k low_v = has_pieces (insert_text k v) (insert_pieces k v) (λ front rest start last done before after. insert_lexes k v low_k low_v front rest start last done tt tt) refl

-- ---- UPDATE

abbrev pub update_pieces : ℕ → ℕ → List Piece
update_pieces k v =
    key word.Update ∷ piece.Word (codes "load_rows") ∷ key word.Set ∷ piece.Word (codes "v") ∷ mark sign.Equal ∷ piece.Whole v ∷ key word.Where ∷ piece.Word (codes "id") ∷ mark sign.Equal ∷ piece.Whole k ∷ []

update_front : (v : ℕ) → v < 2 ^ 63 → Lexes Any AfterExpr (codes "UPDATE load_rows SET v = " ++ decimal v)
    (key word.Update ∷ piece.Word (codes "load_rows") ∷ key word.Set ∷ piece.Word (codes "v") ∷ mark sign.Equal ∷ piece.Whole v ∷ [])
update_front v low =
    let from_value = spaced AfterExpr (decimal v) (piece.Whole v ∷ []) (whole v low) in
    let from_sign = joined Any Any AfterExpr (codes "=") (codes " " ++ decimal v) (mark sign.Equal ∷ []) (piece.Whole v ∷ []) equal from_value (λ rest after. tt) in
    let from_column = worded AfterExpr (codes "v") (codes "= " ++ decimal v) (piece.Word (codes "v")) (mark sign.Equal ∷ piece.Whole v ∷ []) refl refl from_sign in
    let from_set = worded AfterExpr (codes "SET") (codes "v = " ++ decimal v) (key word.Set) (piece.Word (codes "v") ∷ mark sign.Equal ∷ piece.Whole v ∷ []) refl refl from_column in
    let from_name =
    worded AfterExpr (codes "load_rows") (codes "SET v = " ++ decimal v) (piece.Word (codes "load_rows")) (key word.Set ∷ piece.Word (codes "v") ∷ mark sign.Equal ∷ piece.Whole v ∷ []) refl refl from_set in
    worded AfterExpr (codes "UPDATE") (codes "load_rows SET v = " ++ decimal v) (key word.Update)
    (piece.Word (codes "load_rows") ∷ key word.Set ∷ piece.Word (codes "v") ∷ mark sign.Equal ∷ piece.Whole v ∷ []) refl refl from_name

where_lexes : Lexes Any Any (codes " WHERE id = ") (key word.Where ∷ piece.Word (codes "id") ∷ mark sign.Equal ∷ [])
where_lexes =
    let from_sign = joined Any Any Any (codes "=") (codes " ") (mark sign.Equal ∷ []) [] equal blank (λ rest after. tt) in
    let from_column = worded Any (codes "id") (codes "= ") (piece.Word (codes "id")) (mark sign.Equal ∷ []) refl refl from_sign in
    let from_where = worded Any (codes "WHERE") (codes "id = ") (key word.Where) (piece.Word (codes "id") ∷ mark sign.Equal ∷ []) refl refl from_column in
    spaced Any (codes "WHERE id = ") (key word.Where ∷ piece.Word (codes "id") ∷ mark sign.Equal ∷ []) from_where

update_lexes : (k v : ℕ) → k < 2 ^ 63 → v < 2 ^ 63 → Lexes Any AfterExpr (update_text k v) (update_pieces k v)
update_lexes k v low_k low_v =
    let front = codes "UPDATE load_rows SET v = " ++ decimal v in
    let ps = key word.Update ∷ piece.Word (codes "load_rows") ∷ key word.Set ∷ piece.Word (codes "v") ∷ mark sign.Equal ∷ piece.Whole v ∷ [] in
    let qs = key word.Where ∷ piece.Word (codes "id") ∷ mark sign.Equal ∷ [] in
    let to_where = joined Any AfterExpr Any front (codes " WHERE id = ") ps qs (update_front v low_v) where_lexes (λ rest after. refl) in
    joined Any Any AfterExpr (front ++ codes " WHERE id = ") (decimal k) (ps ++ qs) (piece.Whole k ∷ []) to_where (whole k low_k) (λ rest after. tt)

pub update_has : (k v : ℕ) → k < 2 ^ 63 → v < 2 ^ 63 → HasPieces (update_text k v) (update_pieces k v)
update_has k v low_k low_v = has_pieces (update_text k v) (update_pieces k v) (update_lexes k v low_k low_v) refl
