-- The canonical text of each expression that a text can give has the expression's pieces.
use Rattle.std.proofs.Common.{◌≡◌, ◌+◌, ◌^◌, ◌∙◌, sym, ap, refl, ℕ, Bool, true, false, ◌&&◌, not, List, [], ◌∷◌, ◌++◌, map, codes, if◌then◌else◌}
use Rattle.std.specs.Prelude.{nat_le, nat_lt}
use Rattle.std.specs.List.{AllByRecursion, list_all}
use Rattle.std.specs.Str.{bytes_eq}
use Rattle.std.proofs.lemmas.Bool.{and_parts, leb-true, ltb-true}
use Rattle.std.proofs.lemmas.Slice.Eq.{bytes_eq-Decides}
use Rattle.sql_ast.specs.Bytes.{is_upper, lower}
use Rattle.sql_ast.specs.declared.expressions.Expr.{Expr, fold-roll-Expr, roll-Expr}
use Rattle.sql_ast.specs.declared.expressions.Expr.TheOpen.{Expr-F}
use Rattle.sql_ast.specs.declared.expressions.Literal.{Literal}
use Rattle.sql_ast.specs.declared.expressions.Literal.TheVariants as literal
use Rattle.sql_ast.specs.declared.expressions.Term.{Term}
use Rattle.sql_ast.specs.declared.places.Last.{Last}
use Rattle.sql_ast.specs.declared.signs.Sign.TheVariants as sign
use Rattle.sql_ast.specs.declared.words.Keyword.TheVariants as word
use Rattle.sql_ast.specs.declared.pieces.Piece.{Piece}
use Rattle.sql_ast.specs.declared.pieces.Piece.TheVariants as piece
use Rattle.sql_ast.specs.Values.{canonical_word, lowered}
use Rattle.sql_text.specs.Canon.{literal_text, step, text}
use Rattle.sql_text.specs.Canon as canon
use Rattle.sql_text.proofs.Grouping.{chain_is_grouped, sum_is_grouped}
use Rattle.sql_laws.specs.Spelling.{key, led, literal_piece, mark, operands}
use Rattle.sql_laws.specs.Canonical.{canonical, canonical_at, contained, ranged}
use Rattle.sql_laws.specs.Written.{all_plain, is_literal, is_name, is_word, is_written_behind, written_at}
use Rattle.sql_laws.proofs.Decimals.{decimal_lexes}
use Rattle.sql_laws.proofs.Forms.{IsText, and_lexes, call_lexes, compare_lexes, factors_lexes, in_lexes, is_not_null_lexes, is_null_lexes, minus_lexes, not_around, not_lexes, or_lexes, ranged_lexes, sum_lexes}
use Rattle.sql_laws.proofs.Layers.{Parts, by_layers}
use Rattle.sql_laws.proofs.Lexing.{Any, Lexes, anywhere, joined, same_pieces, same_text}
use Rattle.sql_laws.proofs.Marks.{AfterExpr}
use Rattle.sql_laws.proofs.Numbers.{Behind, whole_lexes}
use Rattle.sql_laws.proofs.Strings.{bytes_lex, string_lexes}
use Rattle.sql_laws.proofs.Words.{AfterWord, at_at, call_open, close, end_of_word, point, star, word_lexes}

-- with less before it, and less behind it
eased : (Before : Last → Type 0) (Middle After : List ℕ → Type 0) (s : List ℕ) (ps : List Piece) → Lexes Any Middle s ps → ((rest : List ℕ) → After rest → Middle rest) → Lexes Before After s ps
eased Before Middle After s ps lexes fits front rest start last done before after = lexes front rest start last done tt (fits rest after)

-- names

lowered_name : (bytes : List ℕ) → list_all (λ byte. not (is_upper byte)) bytes ≡ true → lowered bytes ≡ bytes
lowered_name [] low = refl
lowered_name (byte ∷ bytes) low =
    let parts = and_parts (not (is_upper byte)) (list_all (λ b. not (is_upper b)) bytes) low in
    let small : lower byte ≡ byte = elim (is_upper byte) as (λ b. not b ≡ true → (if b then byte + 32 else byte) ≡ byte) [ true ↦ λ e. absurd (cc) | false ↦ λ e. refl ] parts.0 in
    ap (λ b. b ∷ lowered bytes) small ∙ ap (λ bs. byte ∷ bs) (lowered_name bytes parts.1)

name_piece : (n : List ℕ) → lowered n ≡ n → canonical_word n ≡ piece.Word n
name_piece n low =
    let same : bytes_eq (lowered n) n ≡ true = (bytes_eq-Decides (lowered n) n).1 low in
    rw same (ap (λ m. piece.Word m) low)

name_lexes : (n : List ℕ) → is_name n ≡ true → Lexes Any AfterWord n (piece.Word n ∷ [])
name_lexes n is =
    let parts = and_parts (is_word n) (list_all (λ b. not (is_upper b)) n) is in
    same_pieces Any AfterWord n (canonical_word n ∷ []) (piece.Word n ∷ []) (ap (λ p. p ∷ []) (name_piece n (lowered_name n parts.1))) (word_lexes n parts.0)

name_text : (n : List ℕ) → is_name n ≡ true → IsText n (piece.Word n ∷ [])
name_text n is = eased Any AfterWord AfterExpr n (piece.Word n ∷ []) (name_lexes n is) end_of_word

qualified_text : (source n : List ℕ) → is_name source ≡ true → is_name n ≡ true → IsText (source ++ codes "." ++ n) (piece.Word source ∷ mark sign.Point ∷ piece.Word n ∷ [])
qualified_text source n one two =
    joined Any Any AfterExpr (source ++ codes ".") n (piece.Word source ∷ mark sign.Point ∷ []) (piece.Word n ∷ [])
    (joined Any AfterWord Any source (codes ".") (piece.Word source ∷ []) (mark sign.Point ∷ []) (name_lexes source one) point (λ rest after. record { other = refl; quote = refl }))
    (name_text n two) (λ rest after. tt)

variable_text : (n : List ℕ) → is_name n ≡ true → IsText (codes "@@" ++ n) (mark sign.AtAt ∷ piece.Word n ∷ [])
variable_text n is = joined Any Any AfterExpr (codes "@@") n (mark sign.AtAt ∷ []) (piece.Word n ∷ []) at_at (name_text n is) (λ rest after. tt)

-- literals

keyword_text : (w : List ℕ) (p : Piece) → is_word w ≡ true → canonical_word w ≡ p → IsText w (p ∷ [])
keyword_text w p is said =
    same_pieces Any AfterExpr w (canonical_word w ∷ []) (p ∷ []) (ap (λ q. q ∷ []) said) (eased Any AfterWord AfterExpr w (canonical_word w ∷ []) (word_lexes w is) end_of_word)

anywhere_behind : (minus : Bool) (s : List ℕ) (ps : List Piece) → IsText s ps → Lexes (Behind minus) AfterExpr s ps
anywhere_behind minus s ps is = eased (Behind minus) AfterExpr AfterExpr s ps is (λ rest after. after)

literal_lexes : (minus : Bool) (x : Literal) → is_literal minus x ≡ true → Lexes (Behind minus) AfterExpr (literal_text x) (literal_piece x ∷ [])
literal_lexes minus (literal.Whole value) is = whole_lexes minus value is
literal_lexes minus (literal.Decimal value places) is =
    let parts = and_parts (nat_le 1 places) (nat_le places 17 && nat_lt value (10 ^ 18)) is in
    let others = and_parts (nat_le places 17) (nat_lt value (10 ^ 18)) parts.1 in
    anywhere_behind minus _ (piece.Decimal value places ∷ []) (decimal_lexes value places (leb-true 1 places parts.0) (leb-true places 17 others.0) (ltb-true value (10 ^ 18) others.1))
literal_lexes minus (literal.Text value) is = anywhere_behind minus _ (piece.Text value ∷ []) (string_lexes value)
literal_lexes minus (literal.Bytes value) is = anywhere_behind minus _ (piece.Bytes value ∷ []) (bytes_lex value is)
literal_lexes minus (literal.Bool true) is = anywhere_behind minus (codes "TRUE") (key word.True ∷ []) (keyword_text (codes "TRUE") (key word.True) refl refl)
literal_lexes minus (literal.Bool false) is = anywhere_behind minus (codes "FALSE") (key word.False ∷ []) (keyword_text (codes "FALSE") (key word.False) refl refl)
literal_lexes minus literal.Null is = anywhere_behind minus (codes "NULL") (key word.Null ∷ []) (keyword_text (codes "NULL") (key word.Null) refl refl)

-- calls

count_open : Lexes Any Any (codes "COUNT(") (piece.Word (codes "count") ∷ mark sign.OpenParenthesis ∷ [])
count_open = call_open (codes "COUNT") (codes "count") refl refl

count_all_text : IsText (codes "COUNT(*)") (led (piece.Word (codes "count")) (mark sign.Star ∷ []))
count_all_text =
    anywhere Any AfterExpr (codes "COUNT(*)") (led (piece.Word (codes "count")) (mark sign.Star ∷ []))
    (joined Any Any Any (codes "COUNT(") (codes "*)") (piece.Word (codes "count") ∷ mark sign.OpenParenthesis ∷ []) (mark sign.Star ∷ mark sign.CloseParenthesis ∷ []) count_open
    (joined Any Any Any (codes "*") (codes ")") (mark sign.Star ∷ []) (mark sign.CloseParenthesis ∷ []) star close (λ rest after. tt)) (λ rest after. tt))

branch_text : IsText (codes "active_branch()") (led (piece.Word (codes "active_branch")) [])
branch_text =
    anywhere Any AfterExpr (codes "active_branch()") (led (piece.Word (codes "active_branch")) [])
    (joined Any Any Any (codes "active_branch(") (codes ")") (piece.Word (codes "active_branch") ∷ mark sign.OpenParenthesis ∷ []) (mark sign.CloseParenthesis ∷ [])
    (call_open (codes "active_branch") (codes "active_branch") refl refl) close (λ rest after. tt))

-- every expression

abbrev HasText : Expr → Type 0
HasText x = IsText (text x) (canonical x)

abbrev IfWritten : Expr → Type 0
IfWritten x = (minus : Bool) → is_written_behind x minus ≡ true → Lexes (Behind minus) AfterExpr (text x) (canonical x)

all_texts : (xs : List Expr) → AllByRecursion IfWritten xs → all_plain (map is_written_behind xs) ≡ true → AllByRecursion HasText xs
all_texts [] all written = tt
all_texts (x ∷ xs) all written =
    let parts = and_parts (is_written_behind x false) (all_plain (map is_written_behind xs)) written in
    (all.0 false parts.0, all_texts xs all.1 parts.1)

terms_texts : (xs : List (Term × Expr)) → AllByRecursion (λ (x : Term × Expr). IfWritten x.1) xs → all_plain (operands (map (λ (x : Term × Expr). (x.0, is_written_behind x.1)) xs)) ≡ true
    → AllByRecursion (λ (x : Term × Expr). HasText x.1) xs
terms_texts [] all written = tt
terms_texts (x ∷ xs) all written =
    let parts = and_parts (is_written_behind x.1 false) (all_plain (operands (map (λ (y : Term × Expr). (y.0, is_written_behind y.1)) xs))) written in
    (all.0 false parts.0, terms_texts xs all.1 parts.1)

rolled : (y : Expr-F Expr) (minus : Bool) (s : List ℕ) (ps : List Piece) → text (roll-Expr y) ≡ s → canonical (roll-Expr y) ≡ ps → IsText s ps → Lexes (Behind minus) AfterExpr (text (roll-Expr y)) (canonical (roll-Expr y))
rolled y minus s ps said pieces is =
    same_pieces (Behind minus) AfterExpr (text (roll-Expr y)) ps (canonical (roll-Expr y)) (sym pieces)
    (same_text (Behind minus) AfterExpr s (text (roll-Expr y)) ps (sym said) (anywhere_behind minus s ps is))

node_written : (y : Expr-F Expr) → Parts IfWritten y → IfWritten (roll-Expr y)
unfolding canonical is_written_behind
node_written (Expr-F.Or a xs) parts minus written =
    let w : (is_written_behind a false && all_plain (map is_written_behind xs)) ≡ true = sym (ap (λ (f : Bool → Bool). f minus) (fold-roll-Expr (Bool → Bool) written_at (Expr-F.Or a xs))) ∙ written in
    let each = and_parts (is_written_behind a false) (all_plain (map is_written_behind xs)) w in
    rolled (Expr-F.Or a xs) minus _ _ (fold-roll-Expr (List ℕ) step (Expr-F.Or a xs) ∙ chain_is_grouped (codes " OR ") (text a) (map text xs)) (fold-roll-Expr (List Piece) canonical_at (Expr-F.Or a xs))
    (or_lexes Expr text canonical (text a) (canonical a) (parts.0 false each.0) xs (all_texts xs parts.1 each.1))
node_written (Expr-F.And a xs) parts minus written =
    let w : (is_written_behind a false && all_plain (map is_written_behind xs)) ≡ true = sym (ap (λ (f : Bool → Bool). f minus) (fold-roll-Expr (Bool → Bool) written_at (Expr-F.And a xs))) ∙ written in
    let each = and_parts (is_written_behind a false) (all_plain (map is_written_behind xs)) w in
    rolled (Expr-F.And a xs) minus _ _ (fold-roll-Expr (List ℕ) step (Expr-F.And a xs) ∙ chain_is_grouped (codes " AND ") (text a) (map text xs)) (fold-roll-Expr (List Piece) canonical_at (Expr-F.And a xs))
    (and_lexes Expr text canonical (text a) (canonical a) (parts.0 false each.0) xs (all_texts xs parts.1 each.1))
node_written (Expr-F.Not a) parts minus written =
    let w : is_written_behind a false ≡ true = sym (ap (λ (f : Bool → Bool). f minus) (fold-roll-Expr (Bool → Bool) written_at (Expr-F.Not a))) ∙ written in
    rolled (Expr-F.Not a) minus _ _ (fold-roll-Expr (List ℕ) step (Expr-F.Not a)) (fold-roll-Expr (List Piece) canonical_at (Expr-F.Not a)) (not_lexes (text a) (canonical a) (parts false w))
node_written (Expr-F.Compare a operator b) parts minus written =
    let w : (is_written_behind a false && is_written_behind b false) ≡ true = sym (ap (λ (f : Bool → Bool). f minus) (fold-roll-Expr (Bool → Bool) written_at (Expr-F.Compare a operator b))) ∙ written in
    let each = and_parts (is_written_behind a false) (is_written_behind b false) w in
    rolled (Expr-F.Compare a operator b) minus _ _ (fold-roll-Expr (List ℕ) step (Expr-F.Compare a operator b)) (fold-roll-Expr (List Piece) canonical_at (Expr-F.Compare a operator b))
    (compare_lexes operator (text a) (text b) (canonical a) (canonical b) (parts.0 false each.0) (parts.1 false each.1))
node_written (Expr-F.IsNull a) parts minus written =
    let w : is_written_behind a false ≡ true = sym (ap (λ (f : Bool → Bool). f minus) (fold-roll-Expr (Bool → Bool) written_at (Expr-F.IsNull a))) ∙ written in
    rolled (Expr-F.IsNull a) minus _ _ (fold-roll-Expr (List ℕ) step (Expr-F.IsNull a)) (fold-roll-Expr (List Piece) canonical_at (Expr-F.IsNull a)) (is_null_lexes (text a) (canonical a) (parts false w))
node_written (Expr-F.IsNotNull a) parts minus written =
    let w : is_written_behind a false ≡ true = sym (ap (λ (f : Bool → Bool). f minus) (fold-roll-Expr (Bool → Bool) written_at (Expr-F.IsNotNull a))) ∙ written in
    rolled (Expr-F.IsNotNull a) minus _ _ (fold-roll-Expr (List ℕ) step (Expr-F.IsNotNull a)) (fold-roll-Expr (List Piece) canonical_at (Expr-F.IsNotNull a)) (is_not_null_lexes (text a) (canonical a) (parts false w))
node_written (Expr-F.In a xs) parts minus written =
    let w : (is_written_behind a false && all_plain (map is_written_behind xs)) ≡ true = sym (ap (λ (f : Bool → Bool). f minus) (fold-roll-Expr (Bool → Bool) written_at (Expr-F.In a xs))) ∙ written in
    let each = and_parts (is_written_behind a false) (all_plain (map is_written_behind xs)) w in
    rolled (Expr-F.In a xs) minus _ _ (fold-roll-Expr (List ℕ) step (Expr-F.In a xs)) (fold-roll-Expr (List Piece) canonical_at (Expr-F.In a xs))
    (in_lexes Expr text canonical (text a) (canonical a) (parts.0 false each.0) xs (all_texts xs parts.1 each.1))
node_written (Expr-F.NotIn a xs) parts minus written =
    let w : (is_written_behind a false && all_plain (map is_written_behind xs)) ≡ true = sym (ap (λ (f : Bool → Bool). f minus) (fold-roll-Expr (Bool → Bool) written_at (Expr-F.NotIn a xs))) ∙ written in
    let each = and_parts (is_written_behind a false) (all_plain (map is_written_behind xs)) w in
    rolled (Expr-F.NotIn a xs) minus _ _ (fold-roll-Expr (List ℕ) step (Expr-F.NotIn a xs)) (fold-roll-Expr (List Piece) canonical_at (Expr-F.NotIn a xs))
    (not_around (codes "(") (canon.contained (text a) (map text xs)) (codes "))") (contained (canonical a) (map canonical xs))
    (in_lexes Expr text canonical (text a) (canonical a) (parts.0 false each.0) xs (all_texts xs parts.1 each.1)))
node_written (Expr-F.Between a low high) parts minus written =
    let w : (is_written_behind a false && (is_written_behind low false && is_written_behind high false)) ≡ true =
    sym (ap (λ (f : Bool → Bool). f minus) (fold-roll-Expr (Bool → Bool) written_at (Expr-F.Between a low high))) ∙ written in
    let each = and_parts (is_written_behind a false) (is_written_behind low false && is_written_behind high false) w in
    let ends = and_parts (is_written_behind low false) (is_written_behind high false) each.1 in
    rolled (Expr-F.Between a low high) minus _ _ (fold-roll-Expr (List ℕ) step (Expr-F.Between a low high)) (fold-roll-Expr (List Piece) canonical_at (Expr-F.Between a low high))
    (ranged_lexes (text a) (text low) (text high) (canonical a) (canonical low) (canonical high) (parts.0 false each.0) (parts.1 false ends.0) (parts.2 false ends.1))
node_written (Expr-F.NotBetween a low high) parts minus written =
    let w : (is_written_behind a false && (is_written_behind low false && is_written_behind high false)) ≡ true =
    sym (ap (λ (f : Bool → Bool). f minus) (fold-roll-Expr (Bool → Bool) written_at (Expr-F.NotBetween a low high))) ∙ written in
    let each = and_parts (is_written_behind a false) (is_written_behind low false && is_written_behind high false) w in
    let ends = and_parts (is_written_behind low false) (is_written_behind high false) each.1 in
    rolled (Expr-F.NotBetween a low high) minus _ _ (fold-roll-Expr (List ℕ) step (Expr-F.NotBetween a low high)) (fold-roll-Expr (List Piece) canonical_at (Expr-F.NotBetween a low high))
    (not_around (codes "((") (canon.ranged (text a) (text low) (text high)) (codes "))") (ranged (canonical a) (canonical low) (canonical high))
    (ranged_lexes (text a) (text low) (text high) (canonical a) (canonical low) (canonical high) (parts.0 false each.0) (parts.1 false ends.0) (parts.2 false ends.1)))
node_written (Expr-F.Terms a xs) parts minus written =
    let w : (is_written_behind a false && all_plain (operands (map (λ (x : Term × Expr). (x.0, is_written_behind x.1)) xs))) ≡ true =
    sym (ap (λ (f : Bool → Bool). f minus) (fold-roll-Expr (Bool → Bool) written_at (Expr-F.Terms a xs))) ∙ written in
    let each = and_parts (is_written_behind a false) (all_plain (operands (map (λ (x : Term × Expr). (x.0, is_written_behind x.1)) xs))) w in
    rolled (Expr-F.Terms a xs) minus _ _ (fold-roll-Expr (List ℕ) step (Expr-F.Terms a xs) ∙ sum_is_grouped (text a) (map (λ (x : Term × Expr). let y : Term × List ℕ = (x.0, text x.1) in y) xs))
    (fold-roll-Expr (List Piece) canonical_at (Expr-F.Terms a xs))
    (sum_lexes Expr text canonical (text a) (canonical a) (parts.0 false each.0) xs (terms_texts xs parts.1 each.1))
node_written (Expr-F.Factors a xs) parts minus written =
    let w : (is_written_behind a false && all_plain (map is_written_behind xs)) ≡ true = sym (ap (λ (f : Bool → Bool). f minus) (fold-roll-Expr (Bool → Bool) written_at (Expr-F.Factors a xs))) ∙ written in
    let each = and_parts (is_written_behind a false) (all_plain (map is_written_behind xs)) w in
    rolled (Expr-F.Factors a xs) minus _ _ (fold-roll-Expr (List ℕ) step (Expr-F.Factors a xs) ∙ chain_is_grouped (codes " * ") (text a) (map text xs)) (fold-roll-Expr (List Piece) canonical_at (Expr-F.Factors a xs))
    (factors_lexes Expr text canonical (text a) (canonical a) (parts.0 false each.0) xs (all_texts xs parts.1 each.1))
node_written (Expr-F.Negate a) parts minus written =
    let w : is_written_behind a true ≡ true = sym (ap (λ (f : Bool → Bool). f minus) (fold-roll-Expr (Bool → Bool) written_at (Expr-F.Negate a))) ∙ written in
    rolled (Expr-F.Negate a) minus _ _ (fold-roll-Expr (List ℕ) step (Expr-F.Negate a)) (fold-roll-Expr (List Piece) canonical_at (Expr-F.Negate a)) (minus_lexes (text a) (canonical a) (parts true w))
node_written (Expr-F.Literal x) parts minus written =
    let w : is_literal minus x ≡ true = sym (ap (λ (f : Bool → Bool). f minus) (fold-roll-Expr (Bool → Bool) written_at (Expr-F.Literal x))) ∙ written in
    same_pieces (Behind minus) AfterExpr _ (literal_piece x ∷ []) _ (sym (fold-roll-Expr (List Piece) canonical_at (Expr-F.Literal x)))
    (same_text (Behind minus) AfterExpr (literal_text x) _ (literal_piece x ∷ []) (sym (fold-roll-Expr (List ℕ) step (Expr-F.Literal x))) (literal_lexes minus x w))
node_written (Expr-F.Name n) parts minus written =
    let w : is_name n ≡ true = sym (ap (λ (f : Bool → Bool). f minus) (fold-roll-Expr (Bool → Bool) written_at (Expr-F.Name n))) ∙ written in
    rolled (Expr-F.Name n) minus _ _ (fold-roll-Expr (List ℕ) step (Expr-F.Name n)) (fold-roll-Expr (List Piece) canonical_at (Expr-F.Name n)) (name_text n w)
node_written (Expr-F.Qualified source n) parts minus written =
    let w : (is_name source && is_name n) ≡ true = sym (ap (λ (f : Bool → Bool). f minus) (fold-roll-Expr (Bool → Bool) written_at (Expr-F.Qualified source n))) ∙ written in
    let each = and_parts (is_name source) (is_name n) w in
    rolled (Expr-F.Qualified source n) minus _ _ (fold-roll-Expr (List ℕ) step (Expr-F.Qualified source n)) (fold-roll-Expr (List Piece) canonical_at (Expr-F.Qualified source n)) (qualified_text source n each.0 each.1)
node_written Expr-F.CountAll parts minus written =
    rolled Expr-F.CountAll minus _ _ (fold-roll-Expr (List ℕ) step Expr-F.CountAll) (fold-roll-Expr (List Piece) canonical_at Expr-F.CountAll) count_all_text
node_written (Expr-F.Count a) parts minus written =
    let w : is_written_behind a false ≡ true = sym (ap (λ (f : Bool → Bool). f minus) (fold-roll-Expr (Bool → Bool) written_at (Expr-F.Count a))) ∙ written in
    rolled (Expr-F.Count a) minus _ _ (fold-roll-Expr (List ℕ) step (Expr-F.Count a)) (fold-roll-Expr (List Piece) canonical_at (Expr-F.Count a))
    (call_lexes (codes "COUNT(") (codes "count") count_open (text a) (canonical a) (parts false w))
node_written (Expr-F.Sum a) parts minus written =
    let w : is_written_behind a false ≡ true = sym (ap (λ (f : Bool → Bool). f minus) (fold-roll-Expr (Bool → Bool) written_at (Expr-F.Sum a))) ∙ written in
    rolled (Expr-F.Sum a) minus _ _ (fold-roll-Expr (List ℕ) step (Expr-F.Sum a)) (fold-roll-Expr (List Piece) canonical_at (Expr-F.Sum a))
    (call_lexes (codes "SUM(") (codes "sum") (call_open (codes "SUM") (codes "sum") refl refl) (text a) (canonical a) (parts false w))
node_written (Expr-F.Min a) parts minus written =
    let w : is_written_behind a false ≡ true = sym (ap (λ (f : Bool → Bool). f minus) (fold-roll-Expr (Bool → Bool) written_at (Expr-F.Min a))) ∙ written in
    rolled (Expr-F.Min a) minus _ _ (fold-roll-Expr (List ℕ) step (Expr-F.Min a)) (fold-roll-Expr (List Piece) canonical_at (Expr-F.Min a))
    (call_lexes (codes "MIN(") (codes "min") (call_open (codes "MIN") (codes "min") refl refl) (text a) (canonical a) (parts false w))
node_written (Expr-F.Max a) parts minus written =
    let w : is_written_behind a false ≡ true = sym (ap (λ (f : Bool → Bool). f minus) (fold-roll-Expr (Bool → Bool) written_at (Expr-F.Max a))) ∙ written in
    rolled (Expr-F.Max a) minus _ _ (fold-roll-Expr (List ℕ) step (Expr-F.Max a)) (fold-roll-Expr (List Piece) canonical_at (Expr-F.Max a))
    (call_lexes (codes "MAX(") (codes "max") (call_open (codes "MAX") (codes "max") refl refl) (text a) (canonical a) (parts false w))
node_written Expr-F.ActiveBranch parts minus written =
    rolled Expr-F.ActiveBranch minus _ _ (fold-roll-Expr (List ℕ) step Expr-F.ActiveBranch) (fold-roll-Expr (List Piece) canonical_at Expr-F.ActiveBranch) branch_text
node_written (Expr-F.Variable n) parts minus written =
    let w : is_name n ≡ true = sym (ap (λ (f : Bool → Bool). f minus) (fold-roll-Expr (Bool → Bool) written_at (Expr-F.Variable n))) ∙ written in
    rolled (Expr-F.Variable n) minus _ _ (fold-roll-Expr (List ℕ) step (Expr-F.Variable n)) (fold-roll-Expr (List Piece) canonical_at (Expr-F.Variable n)) (variable_text n w)

pub text_lexes : (x : Expr) → IfWritten x
text_lexes = by_layers IfWritten node_written
