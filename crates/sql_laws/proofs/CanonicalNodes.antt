-- Nodes without parts, and calls.
use Rattle.std.proofs.Common.{◌≡◌, ◌≤◌, ◌+◌, ◌∙◌, ap, refl, ℕ, zero, suc, true, false, List, [], ◌∷◌, ◌++◌, Some, None, Ok, codes, arith}
use Rattle.std.proofs.lemmas.List.{append_assoc}
use Rattle.sql_ast.specs.declared.expressions.Comparison.{Comparison}
use Rattle.sql_ast.specs.declared.expressions.Comparison.TheVariants as operator
use Rattle.sql_ast.specs.declared.expressions.Expr.{Expr}
use Rattle.sql_ast.specs.declared.expressions.Expr.TheVariants as e
use Rattle.sql_ast.specs.declared.expressions.Literal.{Literal}
use Rattle.sql_ast.specs.declared.expressions.Literal.TheVariants as literal
use Rattle.sql_ast.specs.declared.expressions.Term.{Term}
use Rattle.sql_ast.specs.declared.expressions.Term.TheVariants as term
use Rattle.sql_ast.specs.declared.signs.Sign.TheVariants as sign
use Rattle.sql_ast.specs.declared.pieces.Piece.{Piece}
use Rattle.sql_ast.specs.declared.pieces.Piece.TheVariants as piece
use Rattle.sql_grammar.specs.Pieces.{function_of, literal_of, same_keyword, same_sign}
use Rattle.sql_grammar.specs.Reading.{Reader, name, sees, sees_keyword}
use Rattle.sql_grammar.specs.Expressions.{atom, atom_by, branch, call, called, column, count, expression, literal_ahead, other_atom, plain_atom}
use Rattle.sql_laws.specs.Spelling.{comparison_sign, enclosed, led, literal_piece, mark, term_sign}
use Rattle.sql_laws.proofs.Counts.{behind, comparison_other, led_in, literal_other, none}
use Rattle.sql_laws.proofs.Rungs.{not_called}
use Rattle.sql_laws.proofs.Operations.{Begins}
use Rattle.sql_laws.proofs.Readings.{Between, Follows, Says, begins_word, closed, ends_close, follows_close, whole}

-- where no parenthesis follows, nothing is called
uncalled : (t : Piece) (rest : List Piece) → sees sign.OpenParenthesis rest ≡ false → called (t ∷ rest) ≡ None
unfolding called sees
uncalled t [] none = refl
uncalled t (u ∷ us) none = rw none refl

plain_reads : (inner : Reader Expr) (x : Expr) (t : Piece) (ts rest : List Piece) → called (t ∷ ts) ≡ None → plain_atom inner (t ∷ ts) ≡ Ok (x, rest) → atom inner (t ∷ ts) ≡ Ok (x, rest)
unfolding atom
plain_reads inner x t ts rest none is = ap (λ f. atom_by inner f (t ∷ ts)) none ∙ is

literal_reads : (inner : Reader Expr) (x : Literal) (rest : List Piece) → function_of (literal_piece x) ≡ None → literal_of (literal_piece x) ≡ Some x
    → atom inner (literal_piece x ∷ rest) ≡ Ok (e.Literal x, rest)
unfolding plain_atom literal_ahead
literal_reads inner x rest none is = plain_reads inner (e.Literal x) (literal_piece x) rest rest (not_called (literal_piece x) rest none) (rw is refl)

literal_says_by : (x : Literal) → function_of (literal_piece x) ≡ None → literal_of (literal_piece x) ≡ Some x → ((rest : List Piece) → Begins (literal_piece x ∷ rest))
    → Says 0 (literal_piece x ∷ []) (e.Literal x)
literal_says_by x nameless is begins =
    record { reads = λ depth rest few follows. literal_reads (expression depth) x rest nameless is; begins = begins; balanced = behind (literal_piece x) [] 0 (literal_other x) none }

pub literal_says : (x : Literal) → Says 0 (literal_piece x ∷ []) (e.Literal x)
unfolding sees sees_keyword same_keyword
literal_says (literal.Whole value) = literal_says_by (literal.Whole value) refl refl (λ rest. record { other = refl; positive = refl; some = refl })
literal_says (literal.Decimal value places) = literal_says_by (literal.Decimal value places) refl refl (λ rest. record { other = refl; positive = refl; some = refl })
literal_says (literal.Text value) = literal_says_by (literal.Text value) refl refl (λ rest. record { other = refl; positive = refl; some = refl })
literal_says (literal.Bytes value) = literal_says_by (literal.Bytes value) refl refl (λ rest. record { other = refl; positive = refl; some = refl })
literal_says (literal.Bool true) = literal_says_by (literal.Bool true) refl refl (λ rest. record { other = refl; positive = refl; some = refl })
literal_says (literal.Bool false) = literal_says_by (literal.Bool false) refl refl (λ rest. record { other = refl; positive = refl; some = refl })
literal_says literal.Null = literal_says_by literal.Null refl refl (λ rest. record { other = refl; positive = refl; some = refl })

name_reads : (inner : Reader Expr) (n : List ℕ) (rest : List Piece) → Follows rest → plain_atom inner (piece.Word n ∷ rest) ≡ Ok (e.Name n, rest)
unfolding plain_atom literal_ahead other_atom column name sees same_sign
name_reads inner n rest follows = rw follows.point refl

pub name_says : (n : List ℕ) → Says 0 (piece.Word n ∷ []) (e.Name n)
name_says n = record {
  reads = λ depth rest few follows. plain_reads (expression depth) (e.Name n) (piece.Word n) rest rest (uncalled (piece.Word n) rest follows.call) (name_reads (expression depth) n rest follows);
  begins = begins_word n;
  balanced = behind (piece.Word n) [] 0 (λ k. refl) none;
}

qualified_reads : (inner : Reader Expr) (source n : List ℕ) (rest : List Piece) → atom inner (piece.Word source ∷ mark sign.Point ∷ piece.Word n ∷ rest) ≡ Ok (e.Qualified source n, rest)
unfolding atom called plain_atom literal_ahead other_atom column name sees same_sign
qualified_reads inner source n rest = refl

pub qualified_says : (source n : List ℕ) → Says 0 (piece.Word source ∷ mark sign.Point ∷ piece.Word n ∷ []) (e.Qualified source n)
qualified_says source n = record {
  reads = λ depth rest few follows. qualified_reads (expression depth) source n rest;
  begins = λ rest. begins_word source (mark sign.Point ∷ piece.Word n ∷ rest);
  balanced =
      behind (piece.Word source) (mark sign.Point ∷ piece.Word n ∷ []) 0 (λ k. refl) (behind (mark sign.Point) (piece.Word n ∷ []) 0 (λ k. refl) (behind (piece.Word n) [] 0 (λ k. refl) none));
}

variable_reads : (inner : Reader Expr) (n : List ℕ) (rest : List Piece) → plain_atom inner (mark sign.AtAt ∷ piece.Word n ∷ rest) ≡ Ok (e.Variable n, rest)
unfolding plain_atom literal_ahead other_atom name sees same_sign
variable_reads inner n rest = refl

begins_variable : (ts : List Piece) → Begins (mark sign.AtAt ∷ ts)
unfolding sees sees_keyword same_sign
begins_variable ts = record { other = refl; positive = refl; some = refl }

pub variable_says : (n : List ℕ) → Says 0 (mark sign.AtAt ∷ piece.Word n ∷ []) (e.Variable n)
variable_says n = record {
  reads = λ depth rest few follows.
      plain_reads (expression depth) (e.Variable n) (mark sign.AtAt) (piece.Word n ∷ rest) rest (not_called (mark sign.AtAt) (piece.Word n ∷ rest) refl) (variable_reads (expression depth) n rest);
  begins = λ rest. begins_variable (piece.Word n ∷ rest);
  balanced = behind (mark sign.AtAt) (piece.Word n ∷ []) 0 (λ k. refl) (behind (piece.Word n) [] 0 (λ k. refl) none);
}

count_all_reads : (inner : Reader Expr) (rest : List Piece) → atom inner (led (piece.Word (codes "count")) (mark sign.Star ∷ []) ++ rest) ≡ Ok (e.CountAll, rest)
unfolding atom called call count sees same_sign
count_all_reads inner rest = refl

pub count_all_says : Says 1 (led (piece.Word (codes "count")) (mark sign.Star ∷ [])) e.CountAll
count_all_says = record {
  reads = λ depth rest few follows. count_all_reads (expression depth) rest;
  begins = λ rest. begins_word (codes "count") (enclosed (mark sign.Star ∷ []) ++ rest);
  balanced = led_in (piece.Word (codes "count")) (mark sign.Star ∷ []) 0 (λ k. refl) (behind (mark sign.Star) [] 0 (λ k. refl) none);
}

branch_reads : (inner : Reader Expr) (rest : List Piece) → atom inner (led (piece.Word (codes "active_branch")) [] ++ rest) ≡ Ok (e.ActiveBranch, rest)
unfolding atom called call branch sees same_sign
branch_reads inner rest = refl

pub branch_says : Says 1 (led (piece.Word (codes "active_branch")) []) e.ActiveBranch
branch_says = record {
  reads = λ depth rest few follows. branch_reads (expression depth) rest;
  begins = λ rest. begins_word (codes "active_branch") (enclosed [] ++ rest);
  balanced = led_in (piece.Word (codes "active_branch")) [] 0 (λ k. refl) none;
}

-- a call of a function that takes an expression
abbrev ReadsCall : List ℕ → (Expr → Expr) → Type 0
ReadsCall function node =
    (inner : Reader Expr) (x : Expr) (ps rest : List Piece) → Begins (ps ++ mark sign.CloseParenthesis ∷ rest)
    → inner (ps ++ mark sign.CloseParenthesis ∷ rest) ≡ Ok (x, mark sign.CloseParenthesis ∷ rest) → atom inner (led (piece.Word function) ps ++ rest) ≡ Ok (node x, rest)

call_reads : (function : List ℕ) (node : Expr → Expr) → ReadsCall function node → (k : ℕ) (ps : List Piece) (x : Expr) → Says k ps x → (depth : ℕ) (rest : List Piece) → k + 1 ≤ depth
    → atom (expression depth) (led (piece.Word function) ps ++ rest) ≡ Ok (node x, rest)
call_reads function node reads k ps x said zero rest few = absurd (omega arith)
call_reads function node reads k ps x said (suc depth) rest few =
    reads (expression (suc depth)) x ps rest (said.begins (mark sign.CloseParenthesis ∷ rest))
    (whole k ps x said depth (mark sign.CloseParenthesis ∷ rest) (omega arith) (ends_close rest) (follows_close rest))

call_says : (function : List ℕ) (node : Expr → Expr) → ReadsCall function node → (k : ℕ) (ps : List Piece) (x : Expr) → Says k ps x
    → Says (k + 1) (led (piece.Word function) ps) (node x)
call_says function node reads k ps x said = record {
  reads = λ depth rest few follows. call_reads function node reads k ps x said depth rest few;
  begins = λ rest. begins_word function (enclosed ps ++ rest);
  balanced = led_in (piece.Word function) ps k (λ n. refl) said.balanced;
}

count_reads : ReadsCall (codes "count") (λ x. e.Count x)
unfolding atom called call count same_sign
count_reads inner x ps rest begins is =
    let other : sees sign.Star ((ps ++ mark sign.CloseParenthesis ∷ []) ++ rest) ≡ false =
    ap (sees sign.Star) (append_assoc ps (mark sign.CloseParenthesis ∷ []) rest) ∙ begins.some in
    rw (other, closed inner x ps rest is) refl

sum_reads : ReadsCall (codes "sum") (λ x. e.Sum x)
unfolding atom called call same_sign
sum_reads inner x ps rest begins is = rw (closed inner x ps rest is) refl

min_reads : ReadsCall (codes "min") (λ x. e.Min x)
unfolding atom called call same_sign
min_reads inner x ps rest begins is = rw (closed inner x ps rest is) refl

max_reads : ReadsCall (codes "max") (λ x. e.Max x)
unfolding atom called call same_sign
max_reads inner x ps rest begins is = rw (closed inner x ps rest is) refl

module _ (k : ℕ) (ps : List Piece) (x : Expr) (said : Says k ps x) where
  pub count_says : Says (k + 1) (led (piece.Word (codes "count")) ps) (e.Count x)
  count_says = call_says (codes "count") (λ y. e.Count y) count_reads k ps x said

  pub sum_says : Says (k + 1) (led (piece.Word (codes "sum")) ps) (e.Sum x)
  sum_says = call_says (codes "sum") (λ y. e.Sum y) sum_reads k ps x said

  pub min_says : Says (k + 1) (led (piece.Word (codes "min")) ps) (e.Min x)
  min_says = call_says (codes "min") (λ y. e.Min y) min_reads k ps x said

  pub max_says : Says (k + 1) (led (piece.Word (codes "max")) ps) (e.Max x)
  max_says = call_says (codes "max") (λ y. e.Max y) max_reads k ps x said

-- signs between two atoms
pub between_comparison : (o : Comparison) → Between (mark (comparison_sign o))
unfolding sees same_sign
between_comparison operator.Equal = record { follows = λ us. record { point = refl; call = refl }; other = comparison_other operator.Equal }
between_comparison operator.NotEqual = record { follows = λ us. record { point = refl; call = refl }; other = comparison_other operator.NotEqual }
between_comparison operator.Less = record { follows = λ us. record { point = refl; call = refl }; other = comparison_other operator.Less }
between_comparison operator.AtMost = record { follows = λ us. record { point = refl; call = refl }; other = comparison_other operator.AtMost }
between_comparison operator.Greater = record { follows = λ us. record { point = refl; call = refl }; other = comparison_other operator.Greater }
between_comparison operator.AtLeast = record { follows = λ us. record { point = refl; call = refl }; other = comparison_other operator.AtLeast }

pub between_terms : (t : Term) → Between (mark (term_sign t))
unfolding sees same_sign
between_terms term.Plus = record { follows = λ us. record { point = refl; call = refl }; other = λ n. refl }
between_terms term.Minus = record { follows = λ us. record { point = refl; call = refl }; other = λ n. refl }

pub between_factors : Between (mark sign.Star)
unfolding sees same_sign
between_factors = record { follows = λ us. record { point = refl; call = refl }; other = λ n. refl }
