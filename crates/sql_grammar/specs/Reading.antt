-- Readers, and the steps that every rule is made of.
use Rattle.std.specs.Prelude.{◌≡◌, ℕ, zero, suc, Bool, true, false, if◌then◌else◌, List, [], ◌∷◌, ◌++◌, length, drop, Option, Some, None, Result, Ok, Err}
use Rattle.sql_ast.specs.declared.expressions.Literal.{Literal}
use Rattle.sql_ast.specs.declared.signs.Sign.{Sign}
use Rattle.sql_ast.specs.declared.signs.Sign.TheVariants as sign
use Rattle.sql_ast.specs.declared.words.Keyword.{Keyword}
use Rattle.sql_ast.specs.declared.pieces.Piece.{Piece}
use Rattle.sql_grammar.specs.declared.stops.Stop.{Stop}
use Rattle.sql_grammar.specs.declared.stops.Stop.TheVariants.{Memory, At}
use Rattle.sql_grammar.specs.Pieces.{is_sign, is_keyword, is_word, is_named, name_of, whole_of, string_of, literal_of}

-- what was read and the pieces after it, or how many pieces are left where no rule goes on
abbrev pub Outcome : Type 0 → Type 0
Outcome A = Result (A × List Piece) ℕ

abbrev pub Reader : Type 0 → Type 0
Reader A = List Piece → Outcome A

abbrev pub and_then : {A B : Type 0} → Outcome A → (A → Reader B) → Outcome B
and_then (Ok read) next = next read.0 read.1
and_then (Err left) next = Err left

infixl 10 ◌>>=◌
abbrev pub ◌>>=◌ : {A B : Type 0} → Reader A → (A → Reader B) → Reader B
first >>= next = λ ts. and_then (first ts) next

infixl 10 ◌>>◌
abbrev pub ◌>>◌ : {A B : Type 0} → Reader A → Reader B → Reader B
first >> next = first >>= (λ _. next)

abbrev pub pure : {A : Type 0} → A → Reader A
pure x = λ ts. Ok (x, ts)

infixr 11 ◌<$>◌
abbrev pub ◌<$>◌ : {A B : Type 0} → (A → B) → Reader A → Reader B
f <$> reader = reader >>= (λ x. pure (f x))

-- no rule goes on here
abbrev pub stop : {A : Type 0} → Reader A
stop = λ ts. Err (length ts)

-- the next piece, whatever it is
abbrev pub skip : Reader (Unit {0})
skip = λ ts. Ok (tt, drop 1 ts)

-- whether the next piece passes a test
abbrev pub begins : (Piece → Bool) → List Piece → Bool
begins test [] = false
begins test (t ∷ ts) = test t

unfoldable pub sees : Sign → List Piece → Bool
sees sign = begins (is_sign sign)

unfoldable pub sees_keyword : Keyword → List Piece → Bool
sees_keyword word = begins (is_keyword word)

unfoldable pub sees_word : List ℕ → List Piece → Bool
sees_word word = begins (is_word word)

unfoldable pub sees_name : List Piece → Bool
sees_name = begins is_named

-- takes a sign or a word, if it comes next
abbrev pub eat : Sign → Reader Bool
eat sign = λ ts. if sees sign ts then Ok (true, drop 1 ts) else Ok (false, ts)

abbrev pub eat_keyword : Keyword → Reader Bool
eat_keyword word = λ ts. if sees_keyword word ts then Ok (true, drop 1 ts) else Ok (false, ts)

abbrev pub eat_word : List ℕ → Reader Bool
eat_word word = λ ts. if sees_word word ts then Ok (true, drop 1 ts) else Ok (false, ts)

abbrev pub expect : Sign → Reader (Unit {0})
expect sign = λ ts. if sees sign ts then Ok (tt, drop 1 ts) else Err (length ts)

abbrev pub expect_keyword : Keyword → Reader (Unit {0})
expect_keyword word = λ ts. if sees_keyword word ts then Ok (tt, drop 1 ts) else Err (length ts)

abbrev pub expect_word : List ℕ → Reader (Unit {0})
expect_word word = λ ts. if sees_word word ts then Ok (tt, drop 1 ts) else Err (length ts)

-- the next piece, as what a view takes it for
abbrev pub seen : {A : Type 0} → (Piece → Option A) → List Piece → Option A
seen view [] = None
seen view (t ∷ ts) = view t

abbrev pub taken : {A : Type 0} → Option A → Reader A
taken (Some x) = skip >> pure x
taken None = stop

abbrev pub one : {A : Type 0} → (Piece → Option A) → Reader A
one view = λ ts. taken (seen view ts) ts

unfoldable pub name : Reader (List ℕ)
name = one name_of

-- a name, if one comes next
unfoldable pub optional_name : Reader (Option (List ℕ))
optional_name = λ ts. if sees_name ts then (Some <$> name) ts else Ok (None, ts)

unfoldable pub whole : Reader ℕ
whole = one whole_of

unfoldable pub string : Reader (List ℕ)
string = one string_of

unfoldable pub literal : Reader Literal
literal = one literal_of

-- what leads to an item, and the item; None where nothing leads to one
abbrev pub behind : {A : Type 0} → Reader Bool → Reader A → Reader (Option A)
behind lead item = do
  goes_on ← lead
  if goes_on then Some <$> item else pure None

-- Each turn of a chain takes a piece, so the count of pieces is enough.
abbrev pub turns : List Piece → ℕ
turns ts = length ts

-- `go_on` reads the links after this one
abbrev pub linked : {A : Type 0} → (List A → Reader (List A)) → List A → Option A → Reader (List A)
linked go_on found (Some next) = go_on (found ++ next ∷ [])
linked go_on found None = pure found

unfoldable pub chain_from : {A : Type 0} → Reader (Option A) → ℕ → List A → Reader (List A)
chain_from link zero found = pure found
chain_from link (suc n) found = link >>= linked (chain_from link n) found

-- {link}
unfoldable pub chain : {A : Type 0} → Reader (Option A) → Reader (List A)
chain link = λ ts. chain_from link (turns ts) [] ts

abbrev pub comma : {A : Type 0} → Reader A → Reader (Option A)
comma item = behind (eat sign.Comma) item

-- item {, item}
unfoldable pub list : {A : Type 0} → Reader A → Reader (List A)
list item = do
  first ← item
  (λ ts. chain_from (comma item) (turns ts) (first ∷ []) ts)

-- what a function that reads ensures: the reader's outcome, or no memory
abbrev pub Reads : {A : Type 0} → Outcome A → Result A Stop → List Piece → Type 0
Reads outcome (Ok x) new = outcome ≡ Ok (x, new)
Reads outcome (Err Memory) new = Unit {0}
Reads outcome (Err (At left)) new = outcome ≡ Err left
