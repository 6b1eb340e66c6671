-- Pieces that are read as an atom, from the pieces of the parts.
use Rattle.std.proofs.Common.{◌≡◌, ◌≤◌, ◌+◌, ◌∙◌, sym, ap, refl, ℕ, zero, suc, false, max, List, [], ◌∷◌, ◌++◌, length, map, Some, Ok, arith}
use Rattle.std.specs.List.{AllByRecursion}
use Rattle.std.proofs.lemmas.List.{append_assoc, append-nil, length-append}
use Rattle.sql_ast.specs.declared.expressions.Expr.{Expr}
use Rattle.sql_ast.specs.declared.expressions.Expr.TheVariants as e
use Rattle.sql_ast.specs.declared.signs.Sign.TheVariants as sign
use Rattle.sql_ast.specs.declared.words.Keyword.{Keyword}
use Rattle.sql_ast.specs.declared.words.Keyword.TheVariants as word
use Rattle.sql_ast.specs.declared.pieces.Piece.{Piece}
use Rattle.sql_ast.specs.declared.pieces.Piece.TheVariants as piece
use Rattle.sql_grammar.specs.Pieces.{same_sign, same_keyword}
use Rattle.sql_grammar.specs.Reading.{Reader, and_then, chain_from, comma, linked, list, sees, sees_keyword}
use Rattle.sql_grammar.specs.Expressions as grammar
use Rattle.sql_grammar.specs.Expressions.{atom, atom_by, disjunction, expression, literal_ahead, listed, null_test, other_atom, plain_atom, tested, term_ahead, test_ahead}
use Rattle.sql_laws.specs.Spelling.{each, enclosed, key, mark, separated}
use Rattle.sql_laws.proofs.Chains.{chain_ends}
use Rattle.sql_laws.proofs.Counts.{Balanced, IsOther, behind, in_parentheses, joined, none}
use Rattle.sql_laws.proofs.Ends.{EndsAll, ends_all}
use Rattle.sql_laws.proofs.Lists.{all_from}
use Rattle.sql_laws.proofs.Rungs.{not_called}
use Rattle.sql_laws.proofs.Wholes.{whole_of_atom}
use Rattle.sql_laws.specs.Canonical.{contained, operation}
use Rattle.sql_laws.proofs.Operations.{Begins, ReadsBefore, ReadsPair, test_of_atom}

abbrev pub close : Piece
close = mark sign.CloseParenthesis

-- an atom doesn't go on with these
pub record Follows (ts : List Piece) : Type 0 where
  pub point : sees sign.Point ts ≡ false
  pub call : sees sign.OpenParenthesis ts ≡ false

-- pieces in which so many parentheses are open at most are read as an atom
pub record Says (k : ℕ) (ps : List Piece) (x : Expr) : Type 0 where
  pub reads : (depth : ℕ) (rest : List Piece) → k ≤ depth → Follows rest → atom (expression depth) (ps ++ rest) ≡ Ok (x, rest)
  pub begins : (rest : List Piece) → Begins (ps ++ rest)
  pub balanced : Balanced ps k

-- behind a piece that stands between two atoms
pub record Between (t : Piece) : Type 0 where
  pub follows : (us : List Piece) → Follows (t ∷ us)
  pub other : IsOther t

pub ends_close : (rest : List Piece) → EndsAll (close ∷ rest)
ends_close rest = ends_all (close ∷ rest) refl

pub follows_close : (rest : List Piece) → Follows (close ∷ rest)
unfolding sees same_sign
follows_close rest = record { point = refl; call = refl }

begins_opening : (ts : List Piece) → Begins (mark sign.OpenParenthesis ∷ ts)
unfolding sees sees_keyword same_sign
begins_opening ts = record { other = refl; positive = refl; some = refl }

pub begins_word : (name : List ℕ) (ts : List Piece) → Begins (piece.Word name ∷ ts)
unfolding sees sees_keyword
begins_word name ts = record { other = refl; positive = refl; some = refl }

one_deeper : (depth : ℕ) (ts : List Piece) → expression (suc depth) ts ≡ disjunction (expression depth) ts
unfolding expression
one_deeper depth ts = refl

-- a whole expression that is an atom
pub whole : (k : ℕ) (ps : List Piece) (x : Expr) → Says k ps x → (depth : ℕ) (rest : List Piece) → k ≤ depth → EndsAll rest → Follows rest
    → expression (suc depth) (ps ++ rest) ≡ Ok (x, rest)
whole k ps x said depth rest few ends follows =
    let begins = said.begins rest in
    one_deeper depth (ps ++ rest)
    ∙ whole_of_atom (expression depth) rest ends x (ps ++ rest) begins.positive begins.other (said.reads depth rest few follows)

-- behind an opening parenthesis
pub closed : (inner : Reader Expr) (x : Expr) (ps rest : List Piece) → inner (ps ++ close ∷ rest) ≡ Ok (x, close ∷ rest)
    → grammar.enclosed inner ((ps ++ close ∷ []) ++ rest) ≡ Ok (x, rest)
unfolding grammar.enclosed sees same_sign
closed inner x ps rest read = rw (append_assoc ps (close ∷ []) rest, read) refl

-- what is read between two parentheses
abbrev pub ReadsInside : ℕ → List Piece → Expr → Type 0
ReadsInside k ps x = (depth : ℕ) (rest : List Piece) → k ≤ depth → EndsAll (close ∷ rest) → Follows (close ∷ rest) → disjunction (expression depth) (ps ++ close ∷ rest) ≡ Ok (x, close ∷ rest)

enclosed_atom : (inner : Reader Expr) (x : Expr) (ps rest : List Piece) → inner (ps ++ close ∷ rest) ≡ Ok (x, close ∷ rest) → atom inner (enclosed ps ++ rest) ≡ Ok (x, rest)
unfolding atom plain_atom literal_ahead other_atom sees same_sign
enclosed_atom inner x ps rest read =
    ap (λ f. atom_by inner f (enclosed ps ++ rest)) (not_called (mark sign.OpenParenthesis) ((ps ++ close ∷ []) ++ rest) refl) ∙ closed inner x ps rest read

enclosed_reads : (k : ℕ) (ps : List Piece) (x : Expr) → ReadsInside k ps x → (depth : ℕ) (rest : List Piece) → k + 1 ≤ depth
    → atom (expression depth) (enclosed ps ++ rest) ≡ Ok (x, rest)
enclosed_reads k ps x read zero rest few = absurd (omega arith)
enclosed_reads k ps x read (suc depth) rest few =
    enclosed_atom (expression (suc depth)) x ps rest (one_deeper depth (ps ++ close ∷ rest) ∙ read depth rest (omega arith) (ends_close rest) (follows_close rest))

enclosed_says : (k : ℕ) (ps : List Piece) (x : Expr) → Balanced ps k → ReadsInside k ps x → Says (k + 1) (enclosed ps) x
enclosed_says k ps x balanced read =
    record { reads = λ depth rest few follows. enclosed_reads k ps x read depth rest few; begins = λ rest. begins_opening ((ps ++ close ∷ []) ++ rest); balanced = in_parentheses ps k balanced }

-- `(a op b)`
pub pair_says : (t : Piece) (node : Expr → Expr → Expr) → Between t → ReadsPair t node → (k l : ℕ) (a b : List Piece) (x y : Expr) → Says k a x → Says l b y
    → Says (max k l + 1) (operation t a b) (node x y)
pair_says t node between pair k l a b x y one two =
    enclosed_says (max k l) (a ++ t ∷ b) (node x y) (joined a (t ∷ b) k l one.balanced (behind t b l between.other two.balanced)) (λ depth rest few ends follows.
    ap (disjunction (expression depth)) (append_assoc a (t ∷ b) (close ∷ rest))
    ∙ pair (expression depth) x y (a ++ t ∷ (b ++ close ∷ rest)) (b ++ close ∷ rest) (close ∷ rest) (one.begins (t ∷ (b ++ close ∷ rest))) (two.begins (close ∷ rest)) ends
    (one.reads depth (t ∷ (b ++ close ∷ rest)) (omega arith) (between.follows (b ++ close ∷ rest))) (two.reads depth (close ∷ rest) (omega arith) follows))

-- `(op a)`
pub before_says : (t : Piece) (node : Expr → Expr) → IsOther t → ReadsBefore t node → (k : ℕ) (a : List Piece) (x : Expr) → Says k a x
    → Says (k + 1) (enclosed (t ∷ a)) (node x)
before_says t node other before k a x one =
    enclosed_says k (t ∷ a) (node x) (behind t a k other one.balanced) (λ depth rest few ends follows.
    before (expression depth) x (a ++ close ∷ rest) (close ∷ rest) (one.begins (close ∷ rest)) ends (one.reads depth (close ∷ rest) few follows))

follows_keyword : (w : Keyword) (us : List Piece) → Follows (key w ∷ us)
unfolding sees
follows_keyword w us = record { point = refl; call = refl }

pub between_keyword : (w : Keyword) → Between (key w)
between_keyword w = record { follows = follows_keyword w; other = λ n. refl }

-- `(a` and what is tested of it
test_says : (w : Keyword) (s : List Piece) (l : ℕ) (x y : Expr) → Balanced s l
    → ((depth : ℕ) (rest : List Piece) → l ≤ depth → tested (expression depth) x (key w ∷ (s ++ close ∷ rest)) ≡ Ok (y, close ∷ rest))
    → (k : ℕ) (a : List Piece) → Says k a x → Says (max k l + 1) (operation (key w) a s) y
unfolding sees term_ahead
test_says w s l x y balanced test k a one =
    enclosed_says (max k l) (a ++ key w ∷ s) y (joined a (key w ∷ s) k l one.balanced (behind (key w) s l (λ n. refl) balanced)) (λ depth rest few ends follows.
    ap (disjunction (expression depth)) (append_assoc a (key w ∷ s) (close ∷ rest))
    ∙ test_of_atom (expression depth) x y (a ++ key w ∷ (s ++ close ∷ rest)) (key w ∷ (s ++ close ∷ rest)) (close ∷ rest) (one.begins (key w ∷ (s ++ close ∷ rest))) ends refl refl
    (one.reads depth (key w ∷ (s ++ close ∷ rest)) (omega arith) (follows_keyword w (s ++ close ∷ rest))) (test depth rest (omega arith)))

null_tested : (depth : ℕ) (x : Expr) (rest : List Piece) → tested (expression depth) x (key word.Is ∷ key word.Null ∷ rest) ≡ Ok (e.IsNull x, rest)
unfolding tested null_test test_ahead sees_keyword same_keyword
null_tested depth x rest = refl

not_null_tested : (depth : ℕ) (x : Expr) (rest : List Piece) → tested (expression depth) x (key word.Is ∷ key word.Not ∷ key word.Null ∷ rest) ≡ Ok (e.IsNotNull x, rest)
unfolding tested null_test test_ahead sees_keyword same_keyword
not_null_tested depth x rest = refl

one_key : (w : Keyword) → Balanced (key w ∷ []) 0
one_key w = behind (key w) [] 0 (λ n. refl) none

pub is_null_says : (k : ℕ) (a : List Piece) (x : Expr) → Says k a x → Says (max k 0 + 1) (enclosed (a ++ key word.Is ∷ key word.Null ∷ [])) (e.IsNull x)
is_null_says k a x one =
    test_says word.Is (key word.Null ∷ []) 0 x (e.IsNull x) (one_key word.Null) (λ depth rest few. null_tested depth x (close ∷ rest)) k a one

pub is_not_null_says : (k : ℕ) (a : List Piece) (x : Expr) → Says k a x → Says (max k 0 + 1) (enclosed (a ++ key word.Is ∷ key word.Not ∷ key word.Null ∷ [])) (e.IsNotNull x)
is_not_null_says k a x one =
    test_says word.Is (key word.Not ∷ key word.Null ∷ []) 0 x (e.IsNotNull x) (behind (key word.Not) (key word.Null ∷ []) 0 (λ n. refl) (one_key word.Null))
    (λ depth rest few. not_null_tested depth x (close ∷ rest)) k a one

-- Lists: pieces `f x` for each x, read as `g x`.
module _ (A : Type 0) (f : A → List Piece) (g : A → Expr) where
  abbrev pub Said : A → Type 0
  Said x = (k : ℕ) × Says k (f x) (g x)

  -- an element of a list
  abbrev IsItem : ℕ → A → Type 0
  IsItem k x = (depth : ℕ) (rest : List Piece) → k ≤ depth → EndsAll rest → Follows rest → expression (suc depth) (f x ++ rest) ≡ Ok (g x, rest)

  abbrev behind_comma : List Piece → List Piece
  behind_comma ps = mark sign.Comma ∷ ps

  item_of : (x : A) (k m : ℕ) → k ≤ m → Says k (f x) (g x) → IsItem m x
  item_of x k m low said depth rest few = whole k (f x) (g x) said depth rest (omega arith)

  wider : (k m : ℕ) → k ≤ m → (xs : List A) → AllByRecursion (IsItem k) xs → AllByRecursion (IsItem m) xs
  wider k m low = all_from A (IsItem k) (IsItem m) (λ y item depth rest few. item depth rest (omega arith))

  items : (xs : List A) → AllByRecursion Said xs → (m : ℕ) × (AllByRecursion (IsItem m) xs × Balanced (each behind_comma (map f xs)) m)
  items [] all = (0, (tt, none))
  items (x ∷ xs) all =
      let others = items xs all.1 in
      let k = all.0.0 in
      let m = others.0 in (
        max k m,
        (
          (item_of x k (max k m) (omega arith) all.0.1, wider m (max k m) (omega arith) xs others.1.0),
          joined (behind_comma (f x)) (each behind_comma (map f xs)) k m (behind (mark sign.Comma) (f x) k (λ n. refl) all.0.1.balanced) others.1.1,
        ),
      )

  module _ (m depth : ℕ) (few : m ≤ depth) (rest : List Piece) where
    abbrev after : List A → List Piece
    after xs = each behind_comma (map f xs) ++ close ∷ rest

    ends_items : (xs : List A) → EndsAll (after xs)
    ends_items [] = ends_close rest
    ends_items (x ∷ xs) = ends_all (mark sign.Comma ∷ ((f x ++ each behind_comma (map f xs)) ++ close ∷ rest)) refl

    follows_items : (xs : List A) → Follows (after xs)
    unfolding sees same_sign
    follows_items [] = follows_close rest
    follows_items (x ∷ xs) = record { point = refl; call = refl }

    items_read : (xs : List A) → AllByRecursion (IsItem m) xs → (n : ℕ) (found : List Expr) → length xs ≤ n
        → chain_from (comma (expression (suc depth))) n found (after xs) ≡ Ok (found ++ map g xs, close ∷ rest)
    unfolding chain_from sees same_sign
    items_read [] all n found enough = chain_ends Expr (comma (expression (suc depth))) (close ∷ rest) n found refl ∙ ap (λ l. Ok (l, close ∷ rest)) (sym (append-nil found))
    items_read (x ∷ xs) all zero found enough = absurd (omega arith)
    items_read (x ∷ xs) all (suc n) found enough =
        let link : comma (expression (suc depth)) (mark sign.Comma ∷ (f x ++ after xs)) ≡ Ok (Some (g x), after xs) = rw (all.0 depth (after xs) few (ends_items xs) (follows_items xs)) refl in
        ap (λ ts. chain_from (comma (expression (suc depth))) (suc n) found (mark sign.Comma ∷ ts)) (append_assoc (f x) (each behind_comma (map f xs)) (close ∷ rest))
        ∙ ap (λ o. and_then o (linked (chain_from (comma (expression (suc depth))) n) found)) link
        ∙ items_read xs all.1 n (found ++ g x ∷ []) (omega arith)
        ∙ ap (λ l. Ok (l, close ∷ rest)) (append_assoc found (g x ∷ []) (map g xs))

    items_long : (xs : List A) → length xs ≤ length (after xs)
    items_long [] = omega arith
    items_long (x ∷ xs) =
        omega (arith, items_long xs, length-append (behind_comma (f x)) (each behind_comma (map f xs)), length-append (behind_comma (f x) ++ each behind_comma (map f xs)) (close ∷ rest), length-append (each behind_comma (map f xs)) (close ∷ rest))

    list_read : (x : A) (xs : List A) → AllByRecursion (IsItem m) (x ∷ xs)
        → list (expression (suc depth)) (separated (map f (x ∷ xs)) ++ close ∷ rest) ≡ Ok (map g (x ∷ xs), close ∷ rest)
    unfolding list
    list_read x xs all =
        ap (list (expression (suc depth))) (append_assoc (f x) (each behind_comma (map f xs)) (close ∷ rest))
        ∙ rw (all.0 depth (after xs) few (ends_items xs) (follows_items xs)) (items_read xs all.1 (length (after xs)) (g x ∷ []) (items_long xs))

    list_in_parentheses : (x : A) (xs : List A) → AllByRecursion (IsItem m) (x ∷ xs)
        → listed (expression (suc depth)) (enclosed (separated (map f (x ∷ xs))) ++ rest) ≡ Ok (map g (x ∷ xs), rest)
    unfolding listed sees same_sign
    list_in_parentheses x xs all = rw (append_assoc (separated (map f (x ∷ xs))) (close ∷ []) rest, list_read x xs all) refl

  in_tested : (m : ℕ) (a : Expr) (x : A) (xs : List A) → AllByRecursion (IsItem m) (x ∷ xs) → (depth : ℕ) (rest : List Piece) → m + 1 ≤ depth
      → tested (expression depth) a (key word.In ∷ (enclosed (separated (map f (x ∷ xs))) ++ rest)) ≡ Ok (e.In a (map g (x ∷ xs)), rest)
  unfolding tested test_ahead
  in_tested m a x xs all zero rest few = absurd (omega arith)
  in_tested m a x xs all (suc depth) rest few = rw (list_in_parentheses m depth (omega arith) rest x xs all) refl

  -- `(a IN (b, c))`
  pub in_says : (k : ℕ) (ps : List Piece) (a : Expr) (x : A) (xs : List A) → Says k ps a → AllByRecursion Said (x ∷ xs)
      → (l : ℕ) × Says l (contained ps (map f (x ∷ xs))) (e.In a (map g (x ∷ xs)))
  in_says k ps a x xs one all =
      let others = items xs all.1 in
      let first = all.0 in
      let m = max first.0 others.0 in
      let spelling = separated (map f (x ∷ xs)) in
      let balanced : Balanced spelling m = joined (f x) (each behind_comma (map f xs)) first.0 others.0 first.1.balanced others.1.1 in
      let read : AllByRecursion (IsItem m) (x ∷ xs) = (item_of x first.0 m (omega arith) first.1, wider others.0 m (omega arith) xs others.1.0) in (
        max k (m + 1) + 1,
        test_says word.In (enclosed spelling) (m + 1) a (e.In a (map g (x ∷ xs))) (in_parentheses spelling m balanced)
            (λ depth rest few. in_tested m a x xs read depth (close ∷ rest) few) k ps one,
      )
