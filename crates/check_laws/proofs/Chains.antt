-- A chain of operands against its operations of two, from the left.
use Rattle.std.proofs.Common.{◌≡◌, ◌∙◌, sym, ap, refl, subst, List, [], ◌∷◌, ◌++◌, map, fold, Option, None, Some, Ok, Err}
use Rattle.std.specs.List.{AllByRecursion}
use Rattle.std.proofs.lemmas.List.{map_push}
use Rattle.std.proofs.lemmas.List.Folds.{fold_stays}
use Rattle.std.proofs.lemmas.List.Sums.{fold_push}
use Rattle.sql_ast.specs.declared.expressions.Expr.{Expr}
use Rattle.tuple_codec.specs.Rows.{Cells}
use Rattle.sql_values.specs.declared.kinds.Kind.{Kind}
use Rattle.sql_values.specs.declared.kinds.Kind.TheVariants as kind
use Rattle.sql_values.specs.Worths.{Worth}
use Rattle.expr_eval.specs.declared.bound.BoundExpr.{BoundExpr}
use Rattle.expr_eval.specs.declared.bound.Chain.{Chain}
use Rattle.expr_eval.specs.declared.bound.BoundNode.{BoundNode}
use Rattle.expr_eval.specs.declared.bound.BoundNode.TheVariants as n
use Rattle.expr_eval.specs.declared.bound.BoundNode.TheVariants.{outs-And, outs-Factors, outs-In, outs-Or}
use Rattle.expr_eval.specs.declared.scopes.ScopeColumn.{ScopeColumn}
use Rattle.expr_eval.specs.Binding.{Outcome, and_then, bound, bound_chain, bound_in, compared_kind, extended, in_node, logic_kind, longer_if, opened_chain}
use Rattle.expr_eval.specs.Binding as binding
use Rattle.expr_eval.specs.Valuing.{Worthy, among, chained, one, two, worth}
use Rattle.expr_eval.proofs.WorthNodes.{worth_in}
use Rattle.sql_laws.specs.Canonical.{grouped, paired}
use Rattle.check_laws.proofs.Nodes.{Alike, IsPlain, IsPlainIfBound, plain, same}

abbrev pub IsKept : List ScopeColumn → Expr → Type 0
IsKept scope x = Alike (bound scope (paired x)) (bound scope x)

pub plain_and : (a : BoundNode) (xs : List BoundNode) → IsPlain (n.And a xs)
plain_and a xs = plain _ (n.And a xs) (outs-And a xs) refl

pub plain_or : (a : BoundNode) (xs : List BoundNode) → IsPlain (n.Or a xs)
plain_or a xs = plain _ (n.Or a xs) (outs-Or a xs) refl

pub plain_factors : (a : BoundNode) (xs : List BoundNode) → IsPlain (n.Factors a xs)
plain_factors a xs = plain _ (n.Factors a xs) (outs-Factors a xs) refl

module _ (meet : Kind → Kind → Option Kind) (f : Worth → Worth → Worthy) (join : BoundNode → List BoundNode → BoundNode)
    (join_worth : (row : Cells) (a : BoundNode) (xs : List BoundNode) → worth row (join a xs) ≡ chained f (worth row a) (map (worth row) xs)) (join_plain : (a : BoundNode) (xs : List BoundNode) → IsPlain (join a xs)) where
  abbrev pub made : Chain → Outcome BoundExpr
  made chain = Ok (record { kind = chain.kind; node = join chain.first chain.rest })

  -- an operation of two
  abbrev pub pair : Outcome BoundExpr → Outcome BoundExpr → Outcome BoundExpr
  pair o q = and_then (and_then o (bound_chain meet (q ∷ []))) made

  abbrev ChainIs : Outcome Chain → Outcome BoundExpr → Type 0
  ChainIs (Ok c) (Ok b) = (c.kind ≡ b.kind) × ((row : Cells) → chained f (worth row c.first) (map (worth row) c.rest) ≡ worth row b.node)
  ChainIs (Err m) (Err k) = m ≡ k
  ChainIs (Ok c) (Err k) = ⊥
  ChainIs (Err k) (Ok b) = ⊥

  longer_is : (k : Option Kind) (c : Chain) (b q p : BoundExpr) → ((row : Cells) → chained f (worth row c.first) (map (worth row) c.rest) ≡ worth row b.node)
      → ((row : Cells) → worth row q.node ≡ worth row p.node) → ChainIs (longer_if k c p.node) (and_then (longer_if k (opened_chain b) q.node) made)
  longer_is (Some k) c b q p w v = (
    refl,
    λ row. ap (fold (two f) (worth row c.first)) (map_push (worth row) c.rest p.node)
        ∙ fold_push (two f) (worth row c.first) (map (worth row) c.rest) (worth row p.node)
        ∙ ap (λ x. two f x (worth row p.node)) (w row)
        ∙ ap (λ x. two f (worth row b.node) x) (sym (v row))
        ∙ sym (join_worth row b.node (q.node ∷ [])),
  )
  longer_is None c b q p w v = refl

  longer_is_plain : (k : Option Kind) (b q : BoundExpr) → IsPlainIfBound (and_then (longer_if k (opened_chain b) q.node) made)
  longer_is_plain (Some k) b q = join_plain b.node (q.node ∷ [])
  longer_is_plain None b q = tt

  pair_plain : (o q : Outcome BoundExpr) → IsPlainIfBound (pair o q)
  pair_plain (Ok b) (Ok q) = longer_is_plain (meet b.kind q.kind) b q
  pair_plain (Ok b) (Err k) = tt
  pair_plain (Err k) q = tt

  -- one more operand
  one_more : (c : Outcome Chain) (o q p : Outcome BoundExpr) → ChainIs c o → Alike q p → ChainIs (binding.two (extended meet) c p) (pair o q)
  one_more (Ok c) (Ok b) (Ok q) (Ok p) r a =
      subst (λ k. ChainIs (longer_if k c p.node) (and_then (longer_if (meet b.kind q.kind) (opened_chain b) q.node) made))
      (ap (λ k. meet k q.kind) (sym r.0) ∙ ap (λ k. meet c.kind k) a.0)
      (longer_is (meet b.kind q.kind) c b q p r.1 a.1)
  one_more (Ok c) (Ok b) (Err m) (Err k) r a = sym a
  one_more (Err m) (Err k) q p r a = r
  one_more (Ok c) (Ok b) (Ok q) (Err k) r a = absurd a
  one_more (Ok c) (Ok b) (Err k) (Ok p) r a = absurd a
  one_more (Ok c) (Err k) q p r a = absurd r
  one_more (Err k) (Ok b) q p r a = absurd r

  opened : (o p : Outcome BoundExpr) → Alike o p → ChainIs (and_then p (λ a. Ok (opened_chain a))) o
  opened (Ok a) (Ok b) h = (sym h.0, λ row. sym (h.1 row))
  opened (Err m) (Err k) h = sym h
  opened (Ok a) (Err k) h = absurd h
  opened (Err k) (Ok b) h = absurd h

  from_first : (o : Outcome BoundExpr) (rest : List (Outcome BoundExpr)) → and_then o (bound_chain meet rest) ≡ fold (binding.two (extended meet)) (and_then o (λ a. Ok (opened_chain a))) rest
  from_first (Ok a) rest = refl
  from_first (Err k) rest = sym (fold_stays (binding.two (extended meet)) (Err k) (λ x. refl) rest)

  closed : (c : Outcome Chain) (o : Outcome BoundExpr) → ChainIs c o → IsPlainIfBound o → Alike o (and_then c made)
  closed (Ok c) (Ok b) r p =
      same b (record { kind = c.kind; node = join c.first c.rest }) (sym r.0) (λ row. sym (r.1 row) ∙ sym (join_worth row c.first c.rest)) p (join_plain c.first c.rest)
  closed (Err m) (Err k) r p = sym r
  closed (Ok c) (Err k) r p = absurd r
  closed (Err k) (Ok b) r p = absurd r

  module _ (scope : List ScopeColumn) (operation : Expr → Expr → Expr) (bound_pair : (x y : Expr) → bound scope (operation x y) ≡ pair (bound scope x) (bound scope y)) where
    grouped_is : (c : Outcome Chain) (p : Expr) (xs : List Expr) → ChainIs c (bound scope p) → AllByRecursion (IsKept scope) xs
        → ChainIs (fold (binding.two (extended meet)) c (map (bound scope) xs)) (bound scope (grouped operation p (map paired xs)))
    grouped_is c p [] r all = r
    grouped_is c p (x ∷ xs) r all =
        grouped_is (binding.two (extended meet) c (bound scope x)) (operation p (paired x)) xs
        (subst (λ o. ChainIs (binding.two (extended meet) c (bound scope x)) o) (sym (bound_pair p (paired x))) (one_more c (bound scope p) (bound scope (paired x)) (bound scope x) r all.0)) all.1

    grouped_plain : (p : Expr) (xs : List Expr) → IsPlainIfBound (bound scope p) → IsPlainIfBound (bound scope (grouped operation p xs))
    grouped_plain p [] h = h
    grouped_plain p (x ∷ xs) h = grouped_plain (operation p x) xs (subst IsPlainIfBound (sym (bound_pair p x)) (pair_plain (bound scope p) (bound scope x)))

    pub chain_kept : (a x : Expr) (xs : List Expr) → IsKept scope a → AllByRecursion (IsKept scope) (x ∷ xs)
        → Alike (bound scope (grouped operation (paired a) (map paired (x ∷ xs)))) (and_then (and_then (bound scope a) (bound_chain meet (map (bound scope) (x ∷ xs)))) made)
    chain_kept a x xs first others =
        subst (λ c. Alike (bound scope (grouped operation (paired a) (map paired (x ∷ xs)))) (and_then c made)) (sym (from_first (bound scope a) (map (bound scope) (x ∷ xs))))
        (closed (fold (binding.two (extended meet)) (and_then (bound scope a) (λ z. Ok (opened_chain z))) (map (bound scope) (x ∷ xs))) (bound scope (grouped operation (paired a) (map paired (x ∷ xs))))
        (grouped_is (and_then (bound scope a) (λ z. Ok (opened_chain z))) (paired a) (x ∷ xs) (opened (bound scope (paired a)) (bound scope a) first) others)
        (grouped_plain (operation (paired a) (paired x)) (map paired xs) (subst IsPlainIfBound (sym (bound_pair (paired a) (paired x))) (pair_plain (bound scope (paired a)) (bound scope (paired x))))))

-- the list of an IN stays as it is
abbrev ElementsAlike : Outcome Chain → Outcome Chain → Type 0
ElementsAlike (Ok c) (Ok d) = (c.kind ≡ d.kind) × ((row : Cells) → worth row c.first ≡ worth row d.first) × ((row : Cells) → map (worth row) c.rest ≡ map (worth row) d.rest)
ElementsAlike (Err m) (Err k) = m ≡ k
ElementsAlike (Ok c) (Err k) = ⊥
ElementsAlike (Err k) (Ok d) = ⊥

longer_alike : (k : Option Kind) (c d : Chain) (a b : BoundNode) → ((row : Cells) → worth row c.first ≡ worth row d.first) → ((row : Cells) → map (worth row) c.rest ≡ map (worth row) d.rest)
    → ((row : Cells) → worth row a ≡ worth row b) → ElementsAlike (longer_if k c a) (longer_if k d b)
longer_alike (Some k) c d a b first rest w =
    (refl, first, λ row. map_push (worth row) c.rest a ∙ ap (λ ws. ws ++ worth row a ∷ []) (rest row) ∙ ap (λ z. map (worth row) d.rest ++ z ∷ []) (w row) ∙ sym (map_push (worth row) d.rest b))
longer_alike None c d a b first rest w = refl

element_alike : (c d : Outcome Chain) (o p : Outcome BoundExpr) → ElementsAlike c d → Alike o p → ElementsAlike (binding.two (extended compared_kind) c o) (binding.two (extended compared_kind) d p)
element_alike (Ok c) (Ok d) (Ok a) (Ok b) r h =
    subst (λ k. ElementsAlike (longer_if (compared_kind c.kind a.kind) c a.node) (longer_if k d b.node)) (ap (λ k. compared_kind k a.kind) r.0 ∙ ap (λ k. compared_kind d.kind k) h.0)
    (longer_alike (compared_kind c.kind a.kind) c d a.node b.node r.1 r.2 h.1)
element_alike (Ok c) (Ok d) (Err m) (Err k) r h = h
element_alike (Err m) (Err k) o p r h = r
element_alike (Ok c) (Ok d) (Ok a) (Err k) r h = absurd h
element_alike (Ok c) (Ok d) (Err k) (Ok b) r h = absurd h
element_alike (Ok c) (Err k) o p r h = absurd r
element_alike (Err k) (Ok d) o p r h = absurd r

elements_alike : (scope : List ScopeColumn) (c d : Outcome Chain) (xs : List Expr) → ElementsAlike c d → AllByRecursion (IsKept scope) xs
    → ElementsAlike (fold (binding.two (extended compared_kind)) c (map (bound scope) (map paired xs))) (fold (binding.two (extended compared_kind)) d (map (bound scope) xs))
elements_alike scope c d [] r all = r
elements_alike scope c d (x ∷ xs) r all =
    elements_alike scope (binding.two (extended compared_kind) c (bound scope (paired x))) (binding.two (extended compared_kind) d (bound scope x)) xs
    (element_alike c d (bound scope (paired x)) (bound scope x) r all.0) all.1

in_alike : (c d : Outcome Chain) → ElementsAlike c d → Alike (and_then c in_node) (and_then d in_node)
in_alike (Ok c) (Ok d) r =
    same (record { kind = kind.Bool; node = n.In c.first c.rest }) (record { kind = kind.Bool; node = n.In d.first d.rest }) refl
    (λ row. worth_in row c.first c.rest ∙ ap (λ ws. one (among ws) (worth row c.first)) (r.2 row) ∙ ap (λ w. one (among (map (worth row) d.rest)) w) (r.1 row) ∙ sym (worth_in row d.first d.rest))
    (plain _ (n.In c.first c.rest) (outs-In c.first c.rest) refl) (plain _ (n.In d.first d.rest) (outs-In d.first d.rest) refl)
in_alike (Err m) (Err k) r = r
in_alike (Ok c) (Err k) r = absurd r
in_alike (Err k) (Ok d) r = absurd r

pub in_kept : (scope : List ScopeColumn) (o p : Outcome BoundExpr) (xs : List Expr) → Alike o p → AllByRecursion (IsKept scope) xs
    → Alike (and_then o (bound_in (map (bound scope) (map paired xs)))) (and_then p (bound_in (map (bound scope) xs)))
in_kept scope (Ok a) (Ok b) xs h all =
    in_alike (bound_chain compared_kind (map (bound scope) (map paired xs)) a) (bound_chain compared_kind (map (bound scope) xs) b)
    (elements_alike scope (Ok (opened_chain a)) (Ok (opened_chain b)) xs (h.0, h.1, λ row. refl) all)
in_kept scope (Err m) (Err k) xs h all = h
in_kept scope (Ok a) (Err k) xs h all = absurd h
in_kept scope (Err k) (Ok b) xs h all = absurd h
