-- An expression that is bound over a scope is bound, with its kind, over each other in which its names mean columns of the same kinds.
use Rattle.std.proofs.Common.{◌≡◌, refl, sym, ap, ◌∙◌, subst, ℕ, Bool, true, false, cond, fold, List, [], ◌∷◌, ◌++◌, map, Option, Some, None, Ok, Err}
use Rattle.std.specs.List.{AllByRecursion}
use Rattle.sql_ast.specs.declared.expressions.Comparison.{Comparison}
use Rattle.sql_ast.specs.declared.expressions.Expr.{Expr, fold-roll-Expr, roll-Expr}
use Rattle.sql_ast.specs.declared.expressions.Expr.TheOpen.{Expr-F}
use Rattle.sql_ast.specs.declared.expressions.Term.{Term}
use Rattle.sql_values.specs.Kinds.{are_comparable, is_bool, negative_kind, product_kind, sum_kind}
use Rattle.sql_values.specs.declared.kinds.Kind.{Kind}
use Rattle.sql_laws.specs.Spelling.{operands}
use Rattle.sql_laws.proofs.Layers.{Parts, by_layers}
use Rattle.expr_eval.specs.Binding.{Outcome, and_node, and_then, bound, bound_between, bound_chain, bound_column, bound_compare, bound_in, bound_is_not_null, bound_is_null, bound_literal, bound_negate, bound_not, bound_sum, compared_kind, extended, factors_node, high_end, in_node, lengthened, logic_kind, longer_if, longer_sum, longer_sum_if, low_end, minus_of, opened_chain, opened_sum, or_node, step, terms_node, truth_if, two, typed}
use Rattle.expr_eval.specs.Scopes.{place_named, place_qualified}
use Rattle.expr_eval.specs.declared.bound.BoundExpr.{BoundExpr}
use Rattle.expr_eval.specs.declared.bound.BoundNode.{BoundNode, out-BoundNode}
use Rattle.expr_eval.specs.declared.bound.BoundNode.TheVariants as node
use Rattle.expr_eval.specs.declared.bound.Chain.{Chain}
use Rattle.expr_eval.specs.declared.bound.Ends.{Ends}
use Rattle.expr_eval.specs.declared.bound.Sum.{Sum}
use Rattle.expr_eval.specs.declared.scopes.ScopeColumn.{ScopeColumn}
use Rattle.check_laws.specs.Meant.{is_condition}
use Rattle.check_laws.specs.Named.{joined, named_at, names_of}

-- where the first isn't refused, neither is the second, and it has the same kind
abbrev pub Follows : {A : Type 0} → (A → Kind) → Outcome A → Outcome A → Type 0
Follows kind_of (Ok a) (Ok b) = kind_of a ≡ kind_of b
Follows kind_of (Ok a) (Err n) = ⊥
Follows kind_of (Err m) other = Unit {0}

pub then_follows : {A B : Type 0} (k : A → Kind) (l : B → Kind) (f g : A → Outcome B) → ((a b : A) → k a ≡ k b → Follows l (f a) (g b)) → (o p : Outcome A) → Follows k o p
    → Follows l (and_then o f) (and_then p g)
then_follows k l f g h (Ok a) (Ok b) e = h a b e
then_follows k l f g h (Ok a) (Err n) e = absurd e
then_follows k l f g h (Err m) p e = tt

abbrev kind_in : BoundExpr → Kind
kind_in b = b.kind

abbrev chain_in : Chain → Kind
chain_in chain = chain.kind

abbrev sum_in : Sum → Kind
sum_in sum = sum.kind

abbrev ends_in : Ends → Kind
ends_in ends = ends.kind

abbrev pub Follow : Outcome BoundExpr → Outcome BoundExpr → Type 0
Follow o p = Follows kind_in o p

itself : (o : Outcome BoundExpr) → Follow o o
itself (Ok a) = refl
itself (Err m) = tt

truths : (fit : Bool) (a b : BoundNode) → Follow (truth_if fit a) (truth_if fit b)
truths true a b = refl
truths false a b = tt

typed_follow : (k : Option Kind) (a b : BoundNode) → Follow (typed k a) (typed k b)
typed_follow (Some k) a b = refl
typed_follow None a b = tt

not_follow : (a b : BoundExpr) → a.kind ≡ b.kind → Follow (bound_not a) (bound_not b)
not_follow a b e = subst (λ k. Follow (truth_if (is_bool a.kind) (node.Not a.node)) (truth_if (is_bool k) (node.Not b.node))) e (truths (is_bool a.kind) (node.Not a.node) (node.Not b.node))

negate_follow : (a b : BoundExpr) → a.kind ≡ b.kind → Follow (bound_negate a) (bound_negate b)
negate_follow a b e =
    let left = minus_of (out-BoundNode a.node) a.node in
    let right = minus_of (out-BoundNode b.node) b.node in
    subst (λ k. Follow (typed (negative_kind a.kind) left) (typed (negative_kind k) right)) e (typed_follow (negative_kind a.kind) left right)

compare_follow : (op : Comparison) (a b c d : BoundExpr) → a.kind ≡ b.kind → c.kind ≡ d.kind → Follow (bound_compare op a c) (bound_compare op b d)
compare_follow op a b c d e f =
    subst (λ k. Follow (bound_compare op a c) (truth_if (are_comparable k d.kind) (node.Compare b.node op d.node))) e
    (subst (λ k. Follow (bound_compare op a c) (truth_if (are_comparable a.kind k) (node.Compare b.node op d.node))) f
    (truths (are_comparable a.kind c.kind) (node.Compare a.node op c.node) (node.Compare b.node op d.node)))

two_follow : {A B C : Type 0} (k : A → Kind) (l : B → Kind) (m : C → Kind) (f g : A → B → Outcome C) → ((a b : A) (c d : B) → k a ≡ k b → l c ≡ l d → Follows m (f a c) (g b d))
    → (o p : Outcome A) (q r : Outcome B) → Follows k o p → Follows l q r → Follows m (two f o q) (two g p r)
two_follow k l m f g h o p q r e i =
    then_follows k m (λ x. and_then q (f x)) (λ x. and_then r (g x)) (λ a b same. then_follows l m (f a) (g b) (λ c d alike. h a b c d same alike) q r i) o p e

-- ---- chains

longer_follow : (k : Option Kind) (a b : Chain) (x y : BoundNode) → Follows chain_in (longer_if k a x) (longer_if k b y)
longer_follow (Some k) a b x y = refl
longer_follow None a b x y = tt

extended_follow : (meet : Kind → Kind → Option Kind) (a b : Chain) (c d : BoundExpr) → a.kind ≡ b.kind → c.kind ≡ d.kind → Follows chain_in (extended meet a c) (extended meet b d)
extended_follow meet a b c d e f =
    subst (λ k. Follows chain_in (extended meet a c) (longer_if (meet k d.kind) b d.node)) e
    (subst (λ k. Follows chain_in (extended meet a c) (longer_if (meet a.kind k) b d.node)) f (longer_follow (meet a.kind c.kind) a b c.node d.node))

module _ (scope other : List ScopeColumn) where
  abbrev pub Moves : Expr → Type 0
  Moves x = Follow (bound scope x) (bound other x)

  fold_follow : (meet : Kind → Kind → Option Kind) (xs : List Expr) (o p : Outcome Chain) → AllByRecursion Moves xs → Follows chain_in o p
      → Follows chain_in (fold (two (extended meet)) o (map (bound scope) xs)) (fold (two (extended meet)) p (map (bound other) xs))
  fold_follow meet [] o p all e = e
  fold_follow meet (x ∷ xs) o p all e =
      fold_follow meet xs (two (extended meet) o (bound scope x)) (two (extended meet) p (bound other x)) all.1
      (two_follow chain_in kind_in chain_in (extended meet) (extended meet) (λ a b c d. extended_follow meet a b c d) o p (bound scope x) (bound other x) e all.0)

  chain_follow : (meet : Kind → Kind → Option Kind) (made : Chain → Outcome BoundExpr) → ((a b : Chain) → a.kind ≡ b.kind → Follow (made a) (made b)) → (a : Expr) (xs : List Expr) → Moves a → AllByRecursion Moves xs
      → Follow (and_then (and_then (bound scope a) (bound_chain meet (map (bound scope) xs))) made) (and_then (and_then (bound other a) (bound_chain meet (map (bound other) xs))) made)
  chain_follow meet made follow a xs first rest =
      then_follows chain_in kind_in made made follow (and_then (bound scope a) (bound_chain meet (map (bound scope) xs))) (and_then (bound other a) (bound_chain meet (map (bound other) xs)))
      (then_follows kind_in chain_in (bound_chain meet (map (bound scope) xs)) (bound_chain meet (map (bound other) xs))
      (λ b c e. fold_follow meet xs (Ok (opened_chain b)) (Ok (opened_chain c)) rest e) (bound scope a) (bound other a) first)

  in_follow : (a : Expr) (xs : List Expr) → Moves a → AllByRecursion Moves xs → Follow (and_then (bound scope a) (bound_in (map (bound scope) xs))) (and_then (bound other a) (bound_in (map (bound other) xs)))
  in_follow a xs first rest =
      then_follows kind_in kind_in (bound_in (map (bound scope) xs)) (bound_in (map (bound other) xs)) (λ b c e.
      then_follows chain_in kind_in in_node in_node (λ x y same. refl) (bound_chain compared_kind (map (bound scope) xs) b) (bound_chain compared_kind (map (bound other) xs) c)
      (fold_follow compared_kind xs (Ok (opened_chain b)) (Ok (opened_chain c)) rest e)) (bound scope a) (bound other a) first

  -- ---- sums

  abbrev MovesTerm : Term × Expr → Type 0
  MovesTerm x = Moves x.1

  longer_sum_follow : (k : Option Kind) (a b : Sum) (x y : Term × BoundNode) → Follows sum_in (longer_sum_if k a x) (longer_sum_if k b y)
  longer_sum_follow (Some k) a b x y = refl
  longer_sum_follow None a b x y = tt

  term_follow : (term : Term) (a b : Sum) (c d : BoundExpr) → a.kind ≡ b.kind → c.kind ≡ d.kind → Follows sum_in (longer_sum term a c) (longer_sum term b d)
  term_follow term a b c d e f =
      subst (λ k. Follows sum_in (longer_sum term a c) (longer_sum_if (sum_kind k d.kind) b (term, d.node))) e
      (subst (λ k. Follows sum_in (longer_sum term a c) (longer_sum_if (sum_kind a.kind k) b (term, d.node))) f (longer_sum_follow (sum_kind a.kind c.kind) a b (term, c.node) (term, d.node)))

  sum_follow : (xs : List (Term × Expr)) (o p : Outcome Sum) → AllByRecursion MovesTerm xs → Follows sum_in o p
      → Follows sum_in (fold lengthened o (map (λ (x : Term × Expr). (x.0, bound scope x.1)) xs)) (fold lengthened p (map (λ (x : Term × Expr). (x.0, bound other x.1)) xs))
  sum_follow [] o p all e = e
  sum_follow (x ∷ xs) o p all e =
      sum_follow xs (two (longer_sum x.0) o (bound scope x.1)) (two (longer_sum x.0) p (bound other x.1)) all.1
      (two_follow sum_in kind_in sum_in (longer_sum x.0) (longer_sum x.0) (λ a b c d. term_follow x.0 a b c d) o p (bound scope x.1) (bound other x.1) e all.0)

  -- ---- BETWEEN

  ends_follow : (fit : Bool) (a b : Ends) → a.kind ≡ b.kind → let first : Outcome Ends = cond fit (Ok a) (Err 9001) in let second : Outcome Ends = cond fit (Ok b) (Err 9001) in Follows ends_in first second
  ends_follow true a b e = e
  ends_follow false a b e = tt

  low_follow : (a b c d : BoundExpr) → a.kind ≡ b.kind → c.kind ≡ d.kind → Follows ends_in (low_end a c) (low_end b d)
  low_follow a b c d e f =
      let made : BoundExpr → BoundExpr → Ends = λ v l. record { kind = v.kind; value = v.node; low = l.node } in
      let refused : Outcome Ends = Err 9001 in
      subst (λ k. Follows ends_in (low_end a c) (cond (are_comparable k d.kind) (Ok (made b d)) refused)) e
      (subst (λ k. Follows ends_in (low_end a c) (cond (are_comparable a.kind k) (Ok (made b d)) refused)) f (ends_follow (are_comparable a.kind c.kind) (made a c) (made b d) e))

  high_follow : (a b : Ends) (c d : BoundExpr) → a.kind ≡ b.kind → c.kind ≡ d.kind → Follow (high_end a c) (high_end b d)
  high_follow a b c d e f =
      subst (λ k. Follow (high_end a c) (truth_if (are_comparable k d.kind) (node.Between b.value b.low d.node))) e
      (subst (λ k. Follow (high_end a c) (truth_if (are_comparable a.kind k) (node.Between b.value b.low d.node))) f
      (truths (are_comparable a.kind c.kind) (node.Between a.value a.low c.node) (node.Between b.value b.low d.node)))

  between_follow : (a low high : Expr) → Moves a → Moves low → Moves high
      → Follow (and_then (bound scope a) (bound_between (bound scope low) (bound scope high))) (and_then (bound other a) (bound_between (bound other low) (bound other high)))
  between_follow a low high first second third =
      then_follows kind_in kind_in (bound_between (bound scope low) (bound scope high)) (bound_between (bound other low) (bound other high)) (λ b c e.
      then_follows ends_in kind_in (λ ends. and_then (bound scope high) (high_end ends)) (λ ends. and_then (bound other high) (high_end ends)) (λ x y same.
      then_follows kind_in kind_in (high_end x) (high_end y) (λ v w alike. high_follow x y v w same alike) (bound scope high) (bound other high) third)
      (and_then (bound scope low) (low_end b)) (and_then (bound other low) (low_end c))
      (then_follows kind_in ends_in (low_end b) (low_end c) (λ v w alike. low_follow b c v w e alike) (bound scope low) (bound other low) second)) (bound scope a) (bound other a) first

  -- ---- names

  -- a name means a column of the same kind in the other scope, wherever it means one
  pub record MovesName (name : List ℕ) : Type 0 where
    pub alone : Follow (bound_column scope (place_named name scope)) (bound_column other (place_named name other))
    pub behind : (source : List ℕ) → Follow (bound_column scope (place_qualified source name scope)) (bound_column other (place_qualified source name other))

  abbrev pub MoveNames : List (List ℕ) → Type 0
  MoveNames names = AllByRecursion MovesName names

  front : (xs ys : List (List ℕ)) → MoveNames (xs ++ ys) → MoveNames xs
  front [] ys h = tt
  front (x ∷ xs) ys h = (h.0, front xs ys h.1)

  rest : (xs ys : List (List ℕ)) → MoveNames (xs ++ ys) → MoveNames ys
  rest [] ys h = h
  rest (x ∷ xs) ys h = rest xs ys h.1

  abbrev IfNames : Expr → Type 0
  IfNames x = MoveNames (names_of x) → Moves x

  all_move : (xs : List Expr) → AllByRecursion IfNames xs → MoveNames (joined (map names_of xs)) → AllByRecursion Moves xs
  all_move [] all h = tt
  all_move (x ∷ xs) all h = (all.0 (front (names_of x) (joined (map names_of xs)) h), all_move xs all.1 (rest (names_of x) (joined (map names_of xs)) h))

  terms_move : (xs : List (Term × Expr)) → AllByRecursion (λ (x : Term × Expr). IfNames x.1) xs → MoveNames (joined (operands (map (λ (x : Term × Expr). (x.0, names_of x.1)) xs))) → AllByRecursion MovesTerm xs
  terms_move [] all h = tt
  terms_move (x ∷ xs) all h =
      let more = joined (operands (map (λ (x : Term × Expr). (x.0, names_of x.1)) xs)) in
      (all.0 (front (names_of x.1) more h), terms_move xs all.1 (rest (names_of x.1) more h))

  -- from the node as it is bound
  moved : (y : Expr-F Expr) (o p : Outcome BoundExpr) → bound scope (roll-Expr y) ≡ o → bound other (roll-Expr y) ≡ p → Follow o p → Moves (roll-Expr y)
  moved y o p o_is p_is h = subst (λ q. Follow q (bound other (roll-Expr y))) (sym o_is) (subst (λ q. Follow o q) (sym p_is) h)

  said : (y : Expr-F Expr) (names : List (List ℕ)) → names_of (roll-Expr y) ≡ names → MoveNames (names_of (roll-Expr y)) → MoveNames names
  said y names is h = subst MoveNames is h

  node_moves : (y : Expr-F Expr) → Parts IfNames y → IfNames (roll-Expr y)
  node_moves (Expr-F.Or a xs) parts h =
      let y = Expr-F.Or a xs in
      let n = said y _ (fold-roll-Expr (List (List ℕ)) named_at y) h in
      moved y _ _ (fold-roll-Expr (Outcome BoundExpr) (step scope) y) (fold-roll-Expr (Outcome BoundExpr) (step other) y)
      (chain_follow logic_kind or_node (λ b c e. e) a xs (parts.0 (front (names_of a) (joined (map names_of xs)) n)) (all_move xs parts.1 (rest (names_of a) (joined (map names_of xs)) n)))
  node_moves (Expr-F.And a xs) parts h =
      let y = Expr-F.And a xs in
      let n = said y _ (fold-roll-Expr (List (List ℕ)) named_at y) h in
      moved y _ _ (fold-roll-Expr (Outcome BoundExpr) (step scope) y) (fold-roll-Expr (Outcome BoundExpr) (step other) y)
      (chain_follow logic_kind and_node (λ b c e. e) a xs (parts.0 (front (names_of a) (joined (map names_of xs)) n)) (all_move xs parts.1 (rest (names_of a) (joined (map names_of xs)) n)))
  node_moves (Expr-F.Factors a xs) parts h =
      let y = Expr-F.Factors a xs in
      let n = said y _ (fold-roll-Expr (List (List ℕ)) named_at y) h in
      moved y _ _ (fold-roll-Expr (Outcome BoundExpr) (step scope) y) (fold-roll-Expr (Outcome BoundExpr) (step other) y)
      (chain_follow product_kind factors_node (λ b c e. e) a xs (parts.0 (front (names_of a) (joined (map names_of xs)) n)) (all_move xs parts.1 (rest (names_of a) (joined (map names_of xs)) n)))
  node_moves (Expr-F.In a xs) parts h =
      let y = Expr-F.In a xs in
      let n = said y _ (fold-roll-Expr (List (List ℕ)) named_at y) h in
      moved y _ _ (fold-roll-Expr (Outcome BoundExpr) (step scope) y) (fold-roll-Expr (Outcome BoundExpr) (step other) y)
      (in_follow a xs (parts.0 (front (names_of a) (joined (map names_of xs)) n)) (all_move xs parts.1 (rest (names_of a) (joined (map names_of xs)) n)))
  node_moves (Expr-F.NotIn a xs) parts h =
      let y = Expr-F.NotIn a xs in
      let n = said y _ (fold-roll-Expr (List (List ℕ)) named_at y) h in
      moved y _ _ (fold-roll-Expr (Outcome BoundExpr) (step scope) y) (fold-roll-Expr (Outcome BoundExpr) (step other) y)
      (then_follows kind_in kind_in bound_not bound_not not_follow (and_then (bound scope a) (bound_in (map (bound scope) xs))) (and_then (bound other a) (bound_in (map (bound other) xs)))
      (in_follow a xs (parts.0 (front (names_of a) (joined (map names_of xs)) n)) (all_move xs parts.1 (rest (names_of a) (joined (map names_of xs)) n))))
  node_moves (Expr-F.Terms a xs) parts h =
      let y = Expr-F.Terms a xs in
      let n = said y _ (fold-roll-Expr (List (List ℕ)) named_at y) h in
      let more = joined (operands (map (λ (x : Term × Expr). (x.0, names_of x.1)) xs)) in
      let all = terms_move xs parts.1 (rest (names_of a) more n) in
      let left = map (λ (x : Term × Expr). (x.0, bound scope x.1)) xs in
      let right = map (λ (x : Term × Expr). (x.0, bound other x.1)) xs in
      moved y _ _ (fold-roll-Expr (Outcome BoundExpr) (step scope) y) (fold-roll-Expr (Outcome BoundExpr) (step other) y)
      (then_follows sum_in kind_in terms_node terms_node (λ b c e. e) (and_then (bound scope a) (bound_sum left)) (and_then (bound other a) (bound_sum right))
      (then_follows kind_in sum_in (bound_sum left) (bound_sum right) (λ b c e. sum_follow xs (Ok (opened_sum b)) (Ok (opened_sum c)) all e) (bound scope a) (bound other a) (parts.0 (front (names_of a) more n))))
  node_moves (Expr-F.Not a) parts h =
      let y = Expr-F.Not a in
      moved y _ _ (fold-roll-Expr (Outcome BoundExpr) (step scope) y) (fold-roll-Expr (Outcome BoundExpr) (step other) y)
      (then_follows kind_in kind_in bound_not bound_not not_follow (bound scope a) (bound other a) (parts (said y _ (fold-roll-Expr (List (List ℕ)) named_at y) h)))
  node_moves (Expr-F.Negate a) parts h =
      let y = Expr-F.Negate a in
      moved y _ _ (fold-roll-Expr (Outcome BoundExpr) (step scope) y) (fold-roll-Expr (Outcome BoundExpr) (step other) y)
      (then_follows kind_in kind_in bound_negate bound_negate negate_follow (bound scope a) (bound other a) (parts (said y _ (fold-roll-Expr (List (List ℕ)) named_at y) h)))
  node_moves (Expr-F.IsNull a) parts h =
      let y = Expr-F.IsNull a in
      moved y _ _ (fold-roll-Expr (Outcome BoundExpr) (step scope) y) (fold-roll-Expr (Outcome BoundExpr) (step other) y)
      (then_follows kind_in kind_in bound_is_null bound_is_null (λ b c e. refl) (bound scope a) (bound other a) (parts (said y _ (fold-roll-Expr (List (List ℕ)) named_at y) h)))
  node_moves (Expr-F.IsNotNull a) parts h =
      let y = Expr-F.IsNotNull a in
      moved y _ _ (fold-roll-Expr (Outcome BoundExpr) (step scope) y) (fold-roll-Expr (Outcome BoundExpr) (step other) y)
      (then_follows kind_in kind_in bound_is_not_null bound_is_not_null (λ b c e. refl) (bound scope a) (bound other a) (parts (said y _ (fold-roll-Expr (List (List ℕ)) named_at y) h)))
  node_moves (Expr-F.Compare a op b) parts h =
      let y = Expr-F.Compare a op b in
      let n = said y _ (fold-roll-Expr (List (List ℕ)) named_at y) h in
      moved y _ _ (fold-roll-Expr (Outcome BoundExpr) (step scope) y) (fold-roll-Expr (Outcome BoundExpr) (step other) y)
      (two_follow kind_in kind_in kind_in (bound_compare op) (bound_compare op) (compare_follow op) (bound scope a) (bound other a) (bound scope b) (bound other b)
      (parts.0 (front (names_of a) (names_of b) n)) (parts.1 (rest (names_of a) (names_of b) n)))
  node_moves (Expr-F.Between a low high) parts h =
      let y = Expr-F.Between a low high in
      let n = said y _ (fold-roll-Expr (List (List ℕ)) named_at y) h in
      let more = front (names_of a ++ names_of low ++ names_of a) (names_of high) n in
      let first = front (names_of a ++ names_of low) (names_of a) more in
      moved y _ _ (fold-roll-Expr (Outcome BoundExpr) (step scope) y) (fold-roll-Expr (Outcome BoundExpr) (step other) y)
      (between_follow a low high (parts.0 (front (names_of a) (names_of low) first)) (parts.1 (rest (names_of a) (names_of low) first)) (parts.2 (rest (names_of a ++ names_of low ++ names_of a) (names_of high) n)))
  node_moves (Expr-F.NotBetween a low high) parts h =
      let y = Expr-F.NotBetween a low high in
      let n = said y _ (fold-roll-Expr (List (List ℕ)) named_at y) h in
      let more = front (names_of a ++ names_of low ++ names_of a) (names_of high) n in
      let first = front (names_of a ++ names_of low) (names_of a) more in
      moved y _ _ (fold-roll-Expr (Outcome BoundExpr) (step scope) y) (fold-roll-Expr (Outcome BoundExpr) (step other) y)
      (then_follows kind_in kind_in bound_not bound_not not_follow (and_then (bound scope a) (bound_between (bound scope low) (bound scope high))) (and_then (bound other a) (bound_between (bound other low) (bound other high)))
      (between_follow a low high (parts.0 (front (names_of a) (names_of low) first)) (parts.1 (rest (names_of a) (names_of low) first)) (parts.2 (rest (names_of a ++ names_of low ++ names_of a) (names_of high) n))))
  node_moves (Expr-F.Name name) parts h =
      let y = Expr-F.Name name in
      let n = said y _ (fold-roll-Expr (List (List ℕ)) named_at y) h in
      let one = n.0 in
      moved y _ _ (fold-roll-Expr (Outcome BoundExpr) (step scope) y) (fold-roll-Expr (Outcome BoundExpr) (step other) y) one.alone
  node_moves (Expr-F.Qualified source name) parts h =
      let y = Expr-F.Qualified source name in
      let n = said y _ (fold-roll-Expr (List (List ℕ)) named_at y) h in
      let one = n.0 in
      moved y _ _ (fold-roll-Expr (Outcome BoundExpr) (step scope) y) (fold-roll-Expr (Outcome BoundExpr) (step other) y) (one.behind source)
  node_moves (Expr-F.Literal given) parts h =
      let y = Expr-F.Literal given in
      moved y _ _ (fold-roll-Expr (Outcome BoundExpr) (step scope) y) (fold-roll-Expr (Outcome BoundExpr) (step other) y) (itself (bound_literal given))
  node_moves Expr-F.CountAll parts h = moved Expr-F.CountAll (Err 9013) _ (fold-roll-Expr (Outcome BoundExpr) (step scope) Expr-F.CountAll) refl tt
  node_moves (Expr-F.Count a) parts h = moved (Expr-F.Count a) (Err 9013) _ (fold-roll-Expr (Outcome BoundExpr) (step scope) (Expr-F.Count a)) refl tt
  node_moves (Expr-F.Sum a) parts h = moved (Expr-F.Sum a) (Err 9013) _ (fold-roll-Expr (Outcome BoundExpr) (step scope) (Expr-F.Sum a)) refl tt
  node_moves (Expr-F.Min a) parts h = moved (Expr-F.Min a) (Err 9013) _ (fold-roll-Expr (Outcome BoundExpr) (step scope) (Expr-F.Min a)) refl tt
  node_moves (Expr-F.Max a) parts h = moved (Expr-F.Max a) (Err 9013) _ (fold-roll-Expr (Outcome BoundExpr) (step scope) (Expr-F.Max a)) refl tt
  node_moves Expr-F.ActiveBranch parts h = moved Expr-F.ActiveBranch (Err 9013) _ (fold-roll-Expr (Outcome BoundExpr) (step scope) Expr-F.ActiveBranch) refl tt
  node_moves (Expr-F.Variable name) parts h = moved (Expr-F.Variable name) (Err 9013) _ (fold-roll-Expr (Outcome BoundExpr) (step scope) (Expr-F.Variable name)) refl tt

  pub moves : (x : Expr) → MoveNames (names_of x) → Moves x
  moves x h = by_layers IfNames node_moves x h

condition_follows : (o p : Outcome BoundExpr) → Follow o p → is_condition o ≡ true → is_condition p ≡ true
condition_follows (Ok a) (Ok b) e is = sym (ap is_bool e) ∙ is
condition_follows (Ok a) (Err n) e is = absurd e
condition_follows (Err m) p e is = cc

pub condition_moves : (scope other : List ScopeColumn) (x : Expr) → MoveNames scope other (names_of x) → is_condition (bound scope x) ≡ true → is_condition (bound other x) ≡ true
condition_moves scope other x h is = condition_follows (bound scope x) (bound other x) (moves scope other x h) is
