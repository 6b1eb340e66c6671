-- A sum against its operations of two, from the left.
use Rattle.std.proofs.Common.{◌≡◌, ◌∙◌, sym, ap, refl, subst, List, [], ◌∷◌, map, fold, Option, None, Some, Ok, Err}
use Rattle.std.specs.List.{AllByRecursion}
use Rattle.std.proofs.lemmas.List.{map_push}
use Rattle.std.proofs.lemmas.List.Folds.{fold_stays}
use Rattle.std.proofs.lemmas.List.Sums.{fold_push}
use Rattle.sql_ast.specs.declared.expressions.Expr.{Expr}
use Rattle.sql_ast.specs.declared.expressions.Term.{Term}
use Rattle.sql_ast.proofs.ListNodes.{fold_terms}
use Rattle.tuple_codec.specs.Rows.{Cells}
use Rattle.sql_values.specs.declared.kinds.Kind.{Kind}
use Rattle.sql_values.specs.Kinds.{sum_kind}
use Rattle.expr_eval.specs.declared.bound.BoundExpr.{BoundExpr}
use Rattle.expr_eval.specs.declared.bound.BoundNode.{BoundNode}
use Rattle.expr_eval.specs.declared.bound.BoundNode.TheVariants as n
use Rattle.expr_eval.specs.declared.bound.BoundNode.TheVariants.{outs-Terms}
use Rattle.expr_eval.specs.declared.bound.Sum.{Sum}
use Rattle.expr_eval.specs.declared.scopes.ScopeColumn.{ScopeColumn}
use Rattle.expr_eval.specs.Binding.{Outcome, and_then, bound, bound_sum, lengthened, longer_sum_if, opened_sum, step, terms_node}
use Rattle.expr_eval.specs.Valuing.{Worthy, added, counted, total, two, worth}
use Rattle.expr_eval.proofs.WorthNodes.{worth_terms}
use Rattle.sql_laws.specs.Canonical.{grouped, paired, sum}
use Rattle.check_laws.proofs.Chains.{IsKept}
use Rattle.check_laws.proofs.Nodes.{Alike, IsPlain, IsPlainIfBound, plain, same}

abbrev pub paired_term : Term × Expr → Term × Expr
paired_term y = (y.0, paired y.1)

abbrev bound_term : List ScopeColumn → Term × Expr → Term × Outcome BoundExpr
bound_term scope y = (y.0, bound scope y.1)

abbrev worth_term : Cells → Term × BoundNode → Term × Worthy
worth_term row y = (y.0, worth row y.1)

abbrev pair : Outcome BoundExpr → Term × Outcome BoundExpr → Outcome BoundExpr
pair o q = and_then (and_then o (bound_sum (q ∷ []))) terms_node

plain_terms : (a : BoundNode) (xs : List (Term × BoundNode)) → IsPlain (n.Terms a xs)
plain_terms a xs = plain _ (n.Terms a xs) (outs-Terms a xs) refl

abbrev SumIs : Outcome Sum → Outcome BoundExpr → Type 0
SumIs (Ok c) (Ok b) = (c.kind ≡ b.kind) × ((row : Cells) → total (worth row c.first) (map (worth_term row) c.rest) ≡ worth row b.node)
SumIs (Err m) (Err k) = m ≡ k
SumIs (Ok c) (Err k) = ⊥
SumIs (Err k) (Ok b) = ⊥

longer_is : (k : Option Kind) (t : Term) (c : Sum) (b q p : BoundExpr) → ((row : Cells) → total (worth row c.first) (map (worth_term row) c.rest) ≡ worth row b.node)
    → ((row : Cells) → worth row q.node ≡ worth row p.node) → SumIs (longer_sum_if k c (t, p.node)) (and_then (longer_sum_if k (opened_sum b) (t, q.node)) terms_node)
longer_is (Some k) t c b q p w v = (
  refl,
  λ row. ap (fold counted (worth row c.first)) (map_push (worth_term row) c.rest (t, p.node))
      ∙ fold_push counted (worth row c.first) (map (worth_term row) c.rest) (t, worth row p.node)
      ∙ ap (λ x. two (added t) x (worth row p.node)) (w row)
      ∙ ap (λ x. two (added t) (worth row b.node) x) (sym (v row))
      ∙ sym (worth_terms row b.node ((t, q.node) ∷ [])),
)
longer_is None t c b q p w v = refl

longer_is_plain : (k : Option Kind) (t : Term) (b q : BoundExpr) → IsPlainIfBound (and_then (longer_sum_if k (opened_sum b) (t, q.node)) terms_node)
longer_is_plain (Some k) t b q = plain_terms b.node ((t, q.node) ∷ [])
longer_is_plain None t b q = tt

pair_plain : (o : Outcome BoundExpr) (t : Term) (q : Outcome BoundExpr) → IsPlainIfBound (pair o (t, q))
pair_plain (Ok b) t (Ok q) = longer_is_plain (sum_kind b.kind q.kind) t b q
pair_plain (Ok b) t (Err k) = tt
pair_plain (Err k) t q = tt

one_more : (t : Term) (c : Outcome Sum) (o q p : Outcome BoundExpr) → SumIs c o → Alike q p → SumIs (lengthened c (t, p)) (pair o (t, q))
one_more t (Ok c) (Ok b) (Ok q) (Ok p) r a =
    subst (λ k. SumIs (longer_sum_if k c (t, p.node)) (and_then (longer_sum_if (sum_kind b.kind q.kind) (opened_sum b) (t, q.node)) terms_node))
    (ap (λ k. sum_kind k q.kind) (sym r.0) ∙ ap (λ k. sum_kind c.kind k) a.0)
    (longer_is (sum_kind b.kind q.kind) t c b q p r.1 a.1)
one_more t (Ok c) (Ok b) (Err m) (Err k) r a = sym a
one_more t (Err m) (Err k) q p r a = r
one_more t (Ok c) (Ok b) (Ok q) (Err k) r a = absurd a
one_more t (Ok c) (Ok b) (Err k) (Ok p) r a = absurd a
one_more t (Ok c) (Err k) q p r a = absurd r
one_more t (Err k) (Ok b) q p r a = absurd r

opened : (o p : Outcome BoundExpr) → Alike o p → SumIs (and_then p (λ a. Ok (opened_sum a))) o
opened (Ok a) (Ok b) h = (sym h.0, λ row. sym (h.1 row))
opened (Err m) (Err k) h = sym h
opened (Ok a) (Err k) h = absurd h
opened (Err k) (Ok b) h = absurd h

from_first : (o : Outcome BoundExpr) (rest : List (Term × Outcome BoundExpr)) → and_then o (bound_sum rest) ≡ fold lengthened (and_then o (λ a. Ok (opened_sum a))) rest
from_first (Ok a) rest = refl
from_first (Err k) rest = sym (fold_stays lengthened (Err k) (λ x. refl) rest)

closed : (c : Outcome Sum) (o : Outcome BoundExpr) → SumIs c o → IsPlainIfBound o → Alike o (and_then c terms_node)
closed (Ok c) (Ok b) r p =
    same b (record { kind = c.kind; node = n.Terms c.first c.rest }) (sym r.0) (λ row. sym (r.1 row) ∙ sym (worth_terms row c.first c.rest)) p (plain_terms c.first c.rest)
closed (Err m) (Err k) r p = sym r
closed (Ok c) (Err k) r p = absurd r
closed (Err k) (Ok b) r p = absurd r

bound_pair : (scope : List ScopeColumn) (x : Expr) (y : Term × Expr) → bound scope (sum x y) ≡ pair (bound scope x) (y.0, bound scope y.1)
bound_pair scope x y = fold_terms (step scope) x (y ∷ [])

grouped_is : (scope : List ScopeColumn) (c : Outcome Sum) (p : Expr) (xs : List (Term × Expr)) → SumIs c (bound scope p) → AllByRecursion (λ (x : Term × Expr). IsKept scope x.1) xs
    → SumIs (fold lengthened c (map (bound_term scope) xs)) (bound scope (grouped sum p (map paired_term xs)))
grouped_is scope c p [] r all = r
grouped_is scope c p (x ∷ xs) r all =
    grouped_is scope (lengthened c (bound_term scope x)) (sum p (paired_term x)) xs
    (subst (λ o. SumIs (lengthened c (bound_term scope x)) o) (sym (bound_pair scope p (paired_term x))) (one_more x.0 c (bound scope p) (bound scope (paired x.1)) (bound scope x.1) r all.0)) all.1

grouped_plain : (scope : List ScopeColumn) (p : Expr) (xs : List (Term × Expr)) → IsPlainIfBound (bound scope p) → IsPlainIfBound (bound scope (grouped sum p xs))
grouped_plain scope p [] h = h
grouped_plain scope p (x ∷ xs) h = grouped_plain scope (sum p x) xs (subst IsPlainIfBound (sym (bound_pair scope p x)) (pair_plain (bound scope p) x.0 (bound scope x.1)))

pub sum_kept : (scope : List ScopeColumn) (a : Expr) (x : Term × Expr) (xs : List (Term × Expr)) → IsKept scope a → AllByRecursion (λ (y : Term × Expr). IsKept scope y.1) (x ∷ xs)
    → Alike (bound scope (grouped sum (paired a) (map paired_term (x ∷ xs)))) (and_then (and_then (bound scope a) (bound_sum (map (bound_term scope) (x ∷ xs)))) terms_node)
sum_kept scope a x xs first others =
    subst (λ c. Alike (bound scope (grouped sum (paired a) (map paired_term (x ∷ xs)))) (and_then c terms_node)) (sym (from_first (bound scope a) (map (bound_term scope) (x ∷ xs))))
    (closed (fold lengthened (and_then (bound scope a) (λ z. Ok (opened_sum z))) (map (bound_term scope) (x ∷ xs))) (bound scope (grouped sum (paired a) (map paired_term (x ∷ xs))))
    (grouped_is scope (and_then (bound scope a) (λ z. Ok (opened_sum z))) (paired a) (x ∷ xs) (opened (bound scope (paired a)) (bound scope a) first) others)
    (grouped_plain scope (sum (paired a) (paired_term x)) (map paired_term xs) (subst IsPlainIfBound (sym (bound_pair scope (paired a) (paired_term x))) (pair_plain (bound scope (paired a)) x.0 (bound scope (paired x.1))))))
