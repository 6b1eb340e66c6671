-- The kind of what is bound, from its parts.
use Rattle.std.proofs.Common.{◌≡◌, ◌∙◌, sym, ap, refl, subst, ◌^◌, ◌-◌, ◌==◌, ◌&&◌, ℕ, pos, negsuc, Bool, true, false, cond, List, [], ◌∷◌, ◌++◌, map, fold, Option, None, Some, Ok, Err, not}
use Rattle.std.specs.Prelude.{nat_lt, slice_get}
use Rattle.std.specs.List.{AllByRecursion}
use Rattle.std.specs.Option.{option_map, option_map_or}
use Rattle.std.proofs.lemmas.Bool.{and_from, and_parts, eq-eqb}
use Rattle.std.proofs.lemmas.List.{map_push}
use Rattle.std.proofs.lemmas.List.Sums.{fold_push}
use Rattle.sql_ast.specs.declared.expressions.Comparison.{Comparison}
use Rattle.sql_ast.specs.declared.expressions.Expr.{Expr, fold-roll-Expr, roll-Expr}
use Rattle.sql_ast.specs.declared.expressions.Expr.TheOpen.{Expr-F}
use Rattle.sql_ast.specs.declared.expressions.Literal.{Literal}
use Rattle.sql_ast.specs.declared.expressions.Literal.TheVariants as literal
use Rattle.sql_ast.specs.declared.expressions.Term.{Term}
use Rattle.sql_ast.specs.declared.expressions.Term.TheVariants as term
use Rattle.tuple_codec.specs.Rows.{Cells}
use Rattle.tuple_codec.specs.declared.values.Value.{Value}
use Rattle.tuple_codec.specs.declared.values.Value.TheVariants as cell
use Rattle.sql_values.specs.declared.kinds.Kind.{Kind}
use Rattle.sql_values.specs.declared.kinds.Kind.TheVariants as kind
use Rattle.sql_values.specs.Kinds.{are_comparable, decimal, is_bool, is_counted, kind_of, product_kind, sum_kind}
use Rattle.sql_values.specs.Logic.{Truth3}
use Rattle.sql_values.specs.Numbers.{negated, times}
use Rattle.sql_values.specs.Worths.{Worth, is_unknown, of_truth, worth_of}
use Rattle.expr_eval.specs.Binding.{Outcome, and_then, bound, bound_between, bound_chain, bound_column, bound_compare, bound_in, bound_is_not_null, bound_is_null, bound_literal, bound_negate, bound_not, bound_sum, column_at, column_typed, decimal_node, decimal_typed, extended, lengthened, logic_kind, longer_if, longer_sum_if, opened_chain, opened_sum, terms_node, truth_if, typed, whole_node}
use Rattle.expr_eval.specs.Binding as binding
use Rattle.expr_eval.specs.Scopes.{place_named, place_qualified}
use Rattle.expr_eval.specs.Valuing.{Worthy, added, among, between, chained, conjunction, counted, disjunction, one, total, two, worth}
use Rattle.expr_eval.specs.declared.bound.BoundExpr.{BoundExpr}
use Rattle.expr_eval.specs.declared.bound.Chain.{Chain}
use Rattle.expr_eval.specs.declared.bound.Ends.{Ends}
use Rattle.expr_eval.specs.declared.bound.Sum.{Sum}
use Rattle.expr_eval.specs.declared.bound.BoundNode.{BoundNode, out-BoundNode}
use Rattle.expr_eval.specs.declared.bound.BoundNode.TheOpen.{BoundNode-F}
use Rattle.expr_eval.specs.declared.bound.BoundNode.TheVariants as n
use Rattle.expr_eval.specs.declared.bound.BoundNode.TheVariants.{outs-And, outs-Between, outs-Column, outs-Compare, outs-Constant, outs-Factors, outs-In, outs-IsNotNull, outs-IsNull, outs-MinusOnly, outs-Negate, outs-Not, outs-Or, outs-OutOfRange, outs-Terms, rolls-Between, rolls-Column, rolls-Compare, rolls-Constant, rolls-IsNotNull, rolls-IsNull, rolls-MinusOnly, rolls-Negate, rolls-Not, rolls-OutOfRange}
use Rattle.expr_eval.specs.declared.scopes.ScopeColumn.{ScopeColumn}
use Rattle.expr_eval.proofs.WorthNodes.{worth_and, worth_between, worth_column, worth_compare, worth_constant, worth_factors, worth_in, worth_is_not_null, worth_is_null, worth_minus_only, worth_negate, worth_not, worth_or, worth_out_of_range, worth_terms}
use Rattle.sql_laws.specs.Spelling.{operands}
use Rattle.sql_laws.specs.Written.{all_plain, is_literal, is_written, is_written_behind, written_at}
use Rattle.sql_laws.proofs.Layers.{Parts, by_layers}
use Rattle.check_laws.specs.Kinds.{HaveColumnKinds, has_kind}
use Rattle.check_laws.specs.KindLaws.{WorthsHaveKinds}
use Rattle.check_laws.proofs.Operations as ops
use Rattle.check_laws.proofs.Operations.{IsOf, decimal_is, negated_of, plus_of, times_of, truth_of, unknown_of, whole_of}

module _ (row : Cells) where
  -- what it is worth has its kind; and the literal that only a minus brings into range is whole
  pub record Kinded (b : BoundExpr) : Type 0 where
    pub worth_is : IsOf b.kind (worth row b.node)
    pub whole_is : out-BoundNode b.node ≡ BoundNode-F.MinusOnly → b.kind ≡ kind.Int

  abbrev pub HasKind : Outcome BoundExpr → Type 0
  HasKind (Ok b) = Kinded b
  HasKind (Err number) = Unit {0}

  abbrev NotMinusOnly : BoundNode → Type 0
  NotMinusOnly node = out-BoundNode node ≡ BoundNode-F.MinusOnly → ⊥

  kinded : (k : Kind) (node : BoundNode) (w : Worthy) → worth row node ≡ w → IsOf k w → NotMinusOnly node → Kinded (record { kind = k; node = node })
  kinded k node w is of not_ = record { worth_is = subst (IsOf k) (sym is) of; whole_is = λ e. absurd (not_ e) }

  truths : (fit : Bool) (node : BoundNode) (w : Worthy) → worth row node ≡ w → IsOf kind.Bool w → NotMinusOnly node → HasKind (truth_if fit node)
  truths true node w is of not_ = kinded kind.Bool node w is of not_
  truths false node w is of not_ = tt

  -- operations that give truth values, whatever their operands are
  one_truth : (f : Worth → Truth3) (a : Worthy) → IsOf kind.Bool (one (λ x. Some (of_truth (f x))) a)
  one_truth f (Some x) = truth_of (f x)
  one_truth f None = tt

  two_truths : (f : Worth → Worth → Truth3) (a b : Worthy) → IsOf kind.Bool (two (λ x y. Some (of_truth (f x y))) a b)
  two_truths f (Some x) (Some y) = truth_of (f x y)
  two_truths f (Some x) None = tt
  two_truths f None b = tt

  not_kinded : (o : Outcome BoundExpr) → HasKind o → HasKind (and_then o bound_not)
  not_kinded (Ok b) has = truths (is_bool b.kind) (n.Not b.node) _ (worth_not row b.node) (one_truth _ (worth row b.node)) (λ e. let f = sym (outs-Not b.node) ∙ e in absurd (cc))
  not_kinded (Err m) has = tt

  -- sums
  abbrev worth_term : Term × BoundNode → Term × Worthy
  worth_term y = (y.0, worth row y.1)

  abbrev SumOf : Outcome Sum → Type 0
  SumOf (Ok s) = IsOf s.kind (total (worth row s.first) (map worth_term s.rest))
  SumOf (Err m) = Unit {0}

  added_of : (t : Term) (j k l : Kind) (a b : Worthy) → IsOf j a → IsOf k b → sum_kind j k ≡ Some l → IsOf l (two (added t) a b)
  added_of term.Plus j k l (Some a) (Some b) one_ two_ is = plus_of j k l a b one_ two_ is
  added_of term.Minus j k l (Some a) (Some b) one_ two_ is = ops.minus_of j k l a b one_ two_ is
  added_of t j k l (Some a) None one_ two_ is = tt
  added_of t j k l None b one_ two_ is = tt

  longer_of : (o : Option Kind) (t : Term) (s : Sum) (b : BoundExpr) → sum_kind s.kind b.kind ≡ o → SumOf (Ok s) → Kinded b → SumOf (longer_sum_if o s (t, b.node))
  longer_of (Some k) t s b is so_far has =
      let w : total (worth row s.first) (map worth_term (s.rest ++ (t, b.node) ∷ [])) ≡ two (added t) (total (worth row s.first) (map worth_term s.rest)) (worth row b.node) =
      ap (fold counted (worth row s.first)) (map_push worth_term s.rest (t, b.node)) ∙ fold_push counted (worth row s.first) (map worth_term s.rest) (t, worth row b.node) in
      subst (IsOf k) (sym w) (added_of t s.kind b.kind k (total (worth row s.first) (map worth_term s.rest)) (worth row b.node) so_far has.worth_is is)
  longer_of None t s b is so_far has = tt

  lengthened_of : (s : Outcome Sum) (t : Term) (o : Outcome BoundExpr) → SumOf s → HasKind o → SumOf (lengthened s (t, o))
  lengthened_of (Ok s) t (Ok b) so_far has = longer_of (sum_kind s.kind b.kind) t s b refl so_far has
  lengthened_of (Ok s) t (Err m) so_far has = tt
  lengthened_of (Err m) t o so_far has = tt

  sum_of : (xs : List (Term × Outcome BoundExpr)) (s : Outcome Sum) → SumOf s → AllByRecursion (λ (x : Term × Outcome BoundExpr). HasKind x.1) xs → SumOf (fold lengthened s xs)
  sum_of [] s so_far all = so_far
  sum_of (x ∷ xs) s so_far all = sum_of xs (lengthened s x) (lengthened_of s x.0 x.1 so_far all.0) all.1

  terms_of : (s : Outcome Sum) → SumOf s → HasKind (and_then s terms_node)
  terms_of (Ok s) so_far = kinded s.kind (n.Terms s.first s.rest) _ (worth_terms row s.first s.rest) so_far (λ e. let f = sym (outs-Terms s.first s.rest) ∙ e in absurd (cc))
  terms_of (Err m) so_far = tt

  pub terms_kinded : (o : Outcome BoundExpr) (xs : List (Term × Outcome BoundExpr)) → HasKind o → AllByRecursion (λ (x : Term × Outcome BoundExpr). HasKind x.1) xs
      → HasKind (and_then (and_then o (bound_sum xs)) terms_node)
  terms_kinded (Ok b) xs has all = terms_of (fold lengthened (Ok (opened_sum b)) xs) (sum_of xs (Ok (opened_sum b)) has.worth_is all)
  terms_kinded (Err m) xs has all = tt

  -- chains
  module _ (meet : Kind → Kind → Option Kind) (f : Worth → Worth → Worthy) (meets : (j k l : Kind) (a b : Worth) → has_kind j a ≡ true → has_kind k b ≡ true → meet j k ≡ Some l → IsOf l (f a b)) where
    ChainOf : Outcome Chain → Type 0
    ChainOf (Ok c) = IsOf c.kind (chained f (worth row c.first) (map (worth row) c.rest))
    ChainOf (Err m) = Unit {0}

    joined_of : (j k l : Kind) (a b : Worthy) → IsOf j a → IsOf k b → meet j k ≡ Some l → IsOf l (two f a b)
    joined_of j k l (Some a) (Some b) one_ two_ is = meets j k l a b one_ two_ is
    joined_of j k l (Some a) None one_ two_ is = tt
    joined_of j k l None b one_ two_ is = tt

    longer_chain_of : (o : Option Kind) (c : Chain) (b : BoundExpr) → meet c.kind b.kind ≡ o → ChainOf (Ok c) → Kinded b → ChainOf (longer_if o c b.node)
    unfolding ChainOf
    longer_chain_of (Some k) c b is so_far has =
        let w : chained f (worth row c.first) (map (worth row) (c.rest ++ b.node ∷ [])) ≡ two f (chained f (worth row c.first) (map (worth row) c.rest)) (worth row b.node) =
        ap (fold (two f) (worth row c.first)) (map_push (worth row) c.rest b.node) ∙ fold_push (two f) (worth row c.first) (map (worth row) c.rest) (worth row b.node) in
        subst (IsOf k) (sym w) (joined_of c.kind b.kind k (chained f (worth row c.first) (map (worth row) c.rest)) (worth row b.node) so_far has.worth_is is)
    longer_chain_of None c b is so_far has = tt

    extended_of : (c : Outcome Chain) (o : Outcome BoundExpr) → ChainOf c → HasKind o → ChainOf (binding.two (extended meet) c o)
    unfolding ChainOf
    extended_of (Ok c) (Ok b) so_far has = longer_chain_of (meet c.kind b.kind) c b refl so_far has
    extended_of (Ok c) (Err m) so_far has = tt
    extended_of (Err m) o so_far has = tt

    chain_of : (xs : List (Outcome BoundExpr)) (c : Outcome Chain) → ChainOf c → AllByRecursion HasKind xs → ChainOf (fold (binding.two (extended meet)) c xs)
    chain_of [] c so_far all = so_far
    chain_of (x ∷ xs) c so_far all = chain_of xs (binding.two (extended meet) c x) (extended_of c x so_far all.0) all.1

    module _ (node : BoundNode → List BoundNode → BoundNode) (worth_of_node : (a : BoundNode) (xs : List BoundNode) → worth row (node a xs) ≡ chained f (worth row a) (map (worth row) xs)) (not_ : (a : BoundNode) (xs : List BoundNode) → NotMinusOnly (node a xs)) where
      pub closed_chain : Chain → Outcome BoundExpr
      closed_chain c = Ok (record { kind = c.kind; node = node c.first c.rest })

      closed_of : (c : Outcome Chain) → ChainOf c → HasKind (and_then c closed_chain)
      unfolding ChainOf closed_chain
      closed_of (Ok c) so_far = kinded c.kind (node c.first c.rest) _ (worth_of_node c.first c.rest) so_far (not_ c.first c.rest)
      closed_of (Err m) so_far = tt

      pub chain_kinded : (o : Outcome BoundExpr) (xs : List (Outcome BoundExpr)) → HasKind o → AllByRecursion HasKind xs → HasKind (and_then (and_then o (bound_chain meet xs)) closed_chain)
      unfolding ChainOf
      chain_kinded (Ok b) xs has all = closed_of (fold (binding.two (extended meet)) (Ok (opened_chain b)) xs) (chain_of xs (Ok (opened_chain b)) has.worth_is all)
      chain_kinded (Err m) xs has all = tt

  logic_is : (j k l : Kind) → logic_kind j k ≡ Some l → l ≡ kind.Bool
  logic_is j k l e =
      elim (is_bool j && is_bool k) as (λ b. Path (Option Kind) (cond b (Some kind.Bool) None) (Some l) → l ≡ kind.Bool) [ true ↦ λ g. let same : kind.Bool ≡ l = cc in sym same | false ↦ λ g. absurd (cc) ] e

  or_meets : (j k l : Kind) (a b : Worth) → has_kind j a ≡ true → has_kind k b ≡ true → logic_kind j k ≡ Some l → IsOf l (disjunction a b)
  or_meets j k l a b one_ two_ is = subst (λ i. IsOf i (disjunction a b)) (sym (logic_is j k l is)) (truth_of _)

  and_meets : (j k l : Kind) (a b : Worth) → has_kind j a ≡ true → has_kind k b ≡ true → logic_kind j k ≡ Some l → IsOf l (conjunction a b)
  and_meets j k l a b one_ two_ is = subst (λ i. IsOf i (conjunction a b)) (sym (logic_is j k l is)) (truth_of _)

  pub or_kinded : (o : Outcome BoundExpr) (xs : List (Outcome BoundExpr)) → HasKind o → AllByRecursion HasKind xs → HasKind (and_then (and_then o (bound_chain logic_kind xs)) binding.or_node)
  unfolding closed_chain
  or_kinded = chain_kinded logic_kind disjunction or_meets n.Or (worth_or row) (λ a xs e. let f = sym (outs-Or a xs) ∙ e in absurd (cc))

  pub and_kinded : (o : Outcome BoundExpr) (xs : List (Outcome BoundExpr)) → HasKind o → AllByRecursion HasKind xs → HasKind (and_then (and_then o (bound_chain logic_kind xs)) binding.and_node)
  unfolding closed_chain
  and_kinded = chain_kinded logic_kind conjunction and_meets n.And (worth_and row) (λ a xs e. let f = sym (outs-And a xs) ∙ e in absurd (cc))

  pub factors_kinded : (o : Outcome BoundExpr) (xs : List (Outcome BoundExpr)) → HasKind o → AllByRecursion HasKind xs → HasKind (and_then (and_then o (bound_chain product_kind xs)) binding.factors_node)
  unfolding closed_chain
  factors_kinded = chain_kinded product_kind times times_of n.Factors (worth_factors row) (λ a xs e. let f = sym (outs-Factors a xs) ∙ e in absurd (cc))

  -- a unary minus
  constant_plain : (k : Kind) (v : Value) → NotMinusOnly (n.Constant k v)
  constant_plain k v e = let f = sym (outs-Constant k v) ∙ e in absurd (cc)

  one_negated : (k : Kind) (a : Worthy) → is_counted k ≡ true → IsOf k a → IsOf k (one negated a)
  one_negated k (Some a) counted_ is = negated_of k a counted_ is
  one_negated k None counted_ is = tt

  behind_minus : (b : BoundExpr) (y : BoundNode-F BoundNode) → is_counted b.kind ≡ true → (y ≡ BoundNode-F.MinusOnly → b.kind ≡ kind.Int) → Kinded b → Kinded (record { kind = b.kind; node = binding.minus_of y b.node })
  behind_minus b BoundNode-F.MinusOnly counted_ whole_ has =
      kinded b.kind (n.Constant kind.Int (cell.Int (negsuc (2 ^ 63 - 1)))) _ (worth_constant row kind.Int (cell.Int (negsuc (2 ^ 63 - 1))))
      (subst (λ k. IsOf k (Some (worth_of kind.Int (cell.Int (negsuc (2 ^ 63 - 1)))))) (sym (whole_ refl)) refl) (constant_plain kind.Int (cell.Int (negsuc (2 ^ 63 - 1))))
  behind_minus b y counted_ whole_ has =
      kinded b.kind (n.Negate b.node) _ (worth_negate row b.node) (one_negated b.kind (worth row b.node) counted_ has.worth_is) (λ e. let f = sym (outs-Negate b.node) ∙ e in absurd (cc))

  negate_kinded : (o : Outcome BoundExpr) → HasKind o → HasKind (and_then o bound_negate)
  negate_kinded (Ok b) has =
      elim (is_counted b.kind) as (λ c. is_counted b.kind ≡ c → HasKind (typed (cond c (Some b.kind) None) (binding.minus_of (out-BoundNode b.node) b.node))) [
        | true ↦ λ is. behind_minus b (out-BoundNode b.node) is has.whole_is has
        | false ↦ λ is. tt
      ] refl
  negate_kinded (Err m) has = tt

  -- the other truth values
  compare_kinded : (p : Comparison) (o q : Outcome BoundExpr) → HasKind (binding.two (bound_compare p) o q)
  compare_kinded p (Ok a) (Ok b) =
      truths (are_comparable a.kind b.kind) (n.Compare a.node p b.node) _ (worth_compare row a.node p b.node) (two_truths _ (worth row a.node) (worth row b.node)) (λ e. let f = sym (outs-Compare a.node p b.node) ∙ e in absurd (cc))
  compare_kinded p (Ok a) (Err m) = tt
  compare_kinded p (Err m) q = tt

  is_null_kinded : (o : Outcome BoundExpr) → HasKind (and_then o bound_is_null)
  is_null_kinded (Ok b) =
      kinded kind.Bool (n.IsNull b.node) _ (worth_is_null row b.node) (one_truth (λ x. Some (is_unknown x)) (worth row b.node)) (λ e. let f = sym (outs-IsNull b.node) ∙ e in absurd (cc))
  is_null_kinded (Err m) = tt

  is_not_null_kinded : (o : Outcome BoundExpr) → HasKind (and_then o bound_is_not_null)
  is_not_null_kinded (Ok b) =
      kinded kind.Bool (n.IsNotNull b.node) _ (worth_is_not_null row b.node) (one_truth (λ x. Some (not (is_unknown x))) (worth row b.node)) (λ e. let f = sym (outs-IsNotNull b.node) ∙ e in absurd (cc))
  is_not_null_kinded (Err m) = tt

  among_truth : (o : Option Truth3) → IsOf kind.Bool (option_map of_truth o)
  among_truth (Some t) = truth_of t
  among_truth None = tt

  one_among : (xs : List Worthy) (a : Worthy) → IsOf kind.Bool (one (among xs) a)
  one_among xs (Some a) = among_truth _
  one_among xs None = tt

  in_node_kinded : (c : Outcome Chain) → HasKind (and_then c binding.in_node)
  in_node_kinded (Ok c) = kinded kind.Bool (n.In c.first c.rest) _ (worth_in row c.first c.rest) (one_among (map (worth row) c.rest) (worth row c.first)) (λ e. let f = sym (outs-In c.first c.rest) ∙ e in absurd (cc))
  in_node_kinded (Err m) = tt

  in_kinded : (o : Outcome BoundExpr) (xs : List (Outcome BoundExpr)) → HasKind (and_then o (bound_in xs))
  in_kinded (Ok b) xs = in_node_kinded _
  in_kinded (Err m) xs = tt

  between_truth : (a low high : Worthy) → IsOf kind.Bool (between a low high)
  between_truth (Some a) (Some low) (Some high) = truth_of _
  between_truth (Some a) (Some low) None = tt
  between_truth (Some a) None high = tt
  between_truth None low high = tt

  between_kinded : (o low high : Outcome BoundExpr) → HasKind (and_then o (bound_between low high))
  between_kinded (Ok a) (Ok low) (Ok high) =
      elim (are_comparable a.kind low.kind) as (λ c. HasKind (and_then {A = Ends} (cond c (Ok (record { kind = a.kind; value = a.node; low = low.node })) binding.mismatch) (λ ends. binding.high_end ends high))) [
        | true ↦ truths (are_comparable a.kind high.kind) (n.Between a.node low.node high.node) _ (worth_between row a.node low.node high.node) (between_truth (worth row a.node) (worth row low.node) (worth row high.node))
            (λ e. let f = sym (outs-Between a.node low.node high.node) ∙ e in absurd (cc))
        | false ↦ tt
      ]
  between_kinded (Ok a) (Ok low) (Err m) =
      elim (are_comparable a.kind low.kind) as (λ c. HasKind (and_then {A = Ends} (cond c (Ok (record { kind = a.kind; value = a.node; low = low.node })) binding.mismatch) (λ ends. Err m))) [ true ↦ tt | false ↦ tt ]
  between_kinded (Ok a) (Err m) high = tt
  between_kinded (Err m) low high = tt

  -- literals
  out_of_range_kinded : (k : Kind) → Kinded (record { kind = k; node = n.OutOfRange })
  out_of_range_kinded k = kinded k n.OutOfRange None (worth_out_of_range row) tt (λ e. let f = sym outs-OutOfRange ∙ e in absurd (cc))

  constant_kinded : (k : Kind) (v : Value) → has_kind k (worth_of k v) ≡ true → Kinded (record { kind = k; node = n.Constant k v })
  constant_kinded k v is = kinded k (n.Constant k v) (Some (worth_of k v)) (worth_constant row k v) is (constant_plain k v)

  whole_kinded : (m : ℕ) → Kinded (record { kind = kind.Int; node = whole_node m })
  whole_kinded m =
      elim (nat_lt m (2 ^ 63)) as (λ b. nat_lt m (2 ^ 63) ≡ b → Kinded (record { kind = kind.Int; node = cond b (n.Constant kind.Int (cell.Int (pos m))) (cond (m == 2 ^ 63) n.MinusOnly n.OutOfRange) })) [
        | true ↦ λ is. constant_kinded kind.Int (cell.Int (pos m)) is
        | false ↦ λ is. elim (m == 2 ^ 63) as (λ b. Kinded (record { kind = kind.Int; node = cond b n.MinusOnly n.OutOfRange })) [
          | true ↦ record { worth_is = subst (IsOf kind.Int) (sym (worth_minus_only row)) tt; whole_is = λ e. refl }
          | false ↦ out_of_range_kinded kind.Int
        ]
      ] refl

  decimal_kinded : (scale m : ℕ) → Kinded (record { kind = kind.Decimal scale; node = decimal_node (kind.Decimal scale) m })
  decimal_kinded scale m =
      elim (nat_lt m (10 ^ 18)) as (λ b. nat_lt m (10 ^ 18) ≡ b → Kinded (record { kind = kind.Decimal scale; node = cond b (n.Constant (kind.Decimal scale) (cell.Decimal (pos m))) n.OutOfRange })) [
        | true ↦ λ is. constant_kinded (kind.Decimal scale) (cell.Decimal (pos m)) (and_from (scale == scale) (nat_lt m (10 ^ 18)) (eq-eqb scale scale refl) is)
        | false ↦ λ is. out_of_range_kinded (kind.Decimal scale)
      ] refl

  decimal_typed_kinded : (scale m : ℕ) (o : Option Kind) → decimal scale ≡ o → HasKind (decimal_typed o m)
  decimal_typed_kinded scale m (Some k) is = subst (λ l. Kinded (record { kind = l; node = decimal_node l m })) (sym (decimal_is scale k is)) (decimal_kinded scale m)
  decimal_typed_kinded scale m None is = tt

  literal_kinded : (minus : Bool) (given : Literal) → is_literal minus given ≡ true → HasKind (bound_literal given)
  literal_kinded minus (literal.Whole m) is = whole_kinded m
  literal_kinded minus (literal.Decimal m scale) is = decimal_typed_kinded scale m (decimal scale) refl
  literal_kinded minus (literal.Text text) is = constant_kinded kind.Text (cell.Text text) is
  literal_kinded minus (literal.Bytes bytes) is = constant_kinded kind.Bytes (cell.Bytes bytes) refl
  literal_kinded minus (literal.Bool b) is = constant_kinded kind.Bool (cell.Bool b) refl
  literal_kinded minus literal.Null is = constant_kinded kind.Null cell.Null refl

  -- columns
  module _ (scope : List ScopeColumn) (kinds_are : HaveColumnKinds scope row) where
    typed_column : (place : ℕ) (column : ScopeColumn) (o : Option Kind) → slice_get scope place ≡ Some column → kind_of column.kind ≡ o → HasKind (column_typed o place)
    typed_column place column (Some k) at is = kinded k (n.Column k place) _ (worth_column row k place) (kinds_are place column k at is) (λ e. let f = sym (outs-Column k place) ∙ e in absurd (cc))
    typed_column place column None at is = tt

    found_column : (place : ℕ) (o : Option ScopeColumn) → slice_get scope place ≡ o → HasKind (option_map_or (λ (column : ScopeColumn). column_typed (kind_of column.kind) place) o (Err 1054))
    found_column place (Some column) at = typed_column place column (kind_of column.kind) at refl
    found_column place None at = tt

    column_kinded : (o : Option ℕ) → HasKind (bound_column scope o)
    column_kinded (Some place) = found_column place (slice_get scope place) refl
    column_kinded None = tt

    -- every expression
    abbrev IsKinded : Expr → Type 0
    IsKinded x = HasKind (bound scope x)

    abbrev IfWritten : Expr → Type 0
    IfWritten x = (minus : Bool) → is_written_behind x minus ≡ true → IsKinded x

    all_kinded : (xs : List Expr) → AllByRecursion IfWritten xs → all_plain (map is_written_behind xs) ≡ true → AllByRecursion HasKind (map (bound scope) xs)
    all_kinded [] all written = tt
    all_kinded (x ∷ xs) all written =
        let parts = and_parts (is_written_behind x false) (all_plain (map is_written_behind xs)) written in
        (all.0 false parts.0, all_kinded xs all.1 parts.1)

    terms_all : (xs : List (Term × Expr)) → AllByRecursion (λ (x : Term × Expr). IfWritten x.1) xs → all_plain (operands (map (λ (x : Term × Expr). (x.0, is_written_behind x.1)) xs)) ≡ true
        → AllByRecursion (λ (x : Term × Outcome BoundExpr). HasKind x.1) (map (λ (x : Term × Expr). (x.0, bound scope x.1)) xs)
    terms_all [] all written = tt
    terms_all (x ∷ xs) all written =
        let parts = and_parts (is_written_behind x.1 false) (all_plain (operands (map (λ (y : Term × Expr). (y.0, is_written_behind y.1)) xs))) written in
        (all.0 false parts.0, terms_all xs all.1 parts.1)

    rolled : (y : Expr-F Expr) (o : Outcome BoundExpr) → bound scope (roll-Expr y) ≡ o → HasKind o → IsKinded (roll-Expr y)
    rolled y o is has = subst HasKind (sym is) has

    node_kinded : (y : Expr-F Expr) → Parts IfWritten y → IfWritten (roll-Expr y)
    unfolding is_written_behind
    node_kinded (Expr-F.Or a xs) parts minus written =
        let w : (is_written_behind a false && all_plain (map is_written_behind xs)) ≡ true = sym (ap (λ (f : Bool → Bool). f minus) (fold-roll-Expr (Bool → Bool) written_at (Expr-F.Or a xs))) ∙ written in
        let each = and_parts (is_written_behind a false) (all_plain (map is_written_behind xs)) w in
        rolled _ _ (fold-roll-Expr (Outcome BoundExpr) (binding.step scope) (Expr-F.Or a xs)) (or_kinded (bound scope a) (map (bound scope) xs) (parts.0 false each.0) (all_kinded xs parts.1 each.1))
    node_kinded (Expr-F.And a xs) parts minus written =
        let w : (is_written_behind a false && all_plain (map is_written_behind xs)) ≡ true = sym (ap (λ (f : Bool → Bool). f minus) (fold-roll-Expr (Bool → Bool) written_at (Expr-F.And a xs))) ∙ written in
        let each = and_parts (is_written_behind a false) (all_plain (map is_written_behind xs)) w in
        rolled _ _ (fold-roll-Expr (Outcome BoundExpr) (binding.step scope) (Expr-F.And a xs)) (and_kinded (bound scope a) (map (bound scope) xs) (parts.0 false each.0) (all_kinded xs parts.1 each.1))
    node_kinded (Expr-F.Factors a xs) parts minus written =
        let w : (is_written_behind a false && all_plain (map is_written_behind xs)) ≡ true = sym (ap (λ (f : Bool → Bool). f minus) (fold-roll-Expr (Bool → Bool) written_at (Expr-F.Factors a xs))) ∙ written in
        let each = and_parts (is_written_behind a false) (all_plain (map is_written_behind xs)) w in
        rolled _ _ (fold-roll-Expr (Outcome BoundExpr) (binding.step scope) (Expr-F.Factors a xs)) (factors_kinded (bound scope a) (map (bound scope) xs) (parts.0 false each.0) (all_kinded xs parts.1 each.1))
    node_kinded (Expr-F.Terms a xs) parts minus written =
        let w : (is_written_behind a false && all_plain (operands (map (λ (x : Term × Expr). (x.0, is_written_behind x.1)) xs))) ≡ true = sym (ap (λ (f : Bool → Bool). f minus) (fold-roll-Expr (Bool → Bool) written_at (Expr-F.Terms a xs))) ∙ written in
        let each = and_parts (is_written_behind a false) (all_plain (operands (map (λ (x : Term × Expr). (x.0, is_written_behind x.1)) xs))) w in
        rolled _ _ (fold-roll-Expr (Outcome BoundExpr) (binding.step scope) (Expr-F.Terms a xs)) (terms_kinded (bound scope a) (map (λ (x : Term × Expr). (x.0, bound scope x.1)) xs) (parts.0 false each.0) (terms_all xs parts.1 each.1))
    node_kinded (Expr-F.Not a) parts minus written =
        let w : is_written_behind a false ≡ true = sym (ap (λ (f : Bool → Bool). f minus) (fold-roll-Expr (Bool → Bool) written_at (Expr-F.Not a))) ∙ written in
        rolled _ _ (fold-roll-Expr (Outcome BoundExpr) (binding.step scope) (Expr-F.Not a)) (not_kinded (bound scope a) (parts false w))
    node_kinded (Expr-F.Negate a) parts minus written =
        let w : is_written_behind a true ≡ true = sym (ap (λ (f : Bool → Bool). f minus) (fold-roll-Expr (Bool → Bool) written_at (Expr-F.Negate a))) ∙ written in
        rolled _ _ (fold-roll-Expr (Outcome BoundExpr) (binding.step scope) (Expr-F.Negate a)) (negate_kinded (bound scope a) (parts true w))
    node_kinded (Expr-F.Literal given) parts minus written =
        let w : is_literal minus given ≡ true = sym (ap (λ (f : Bool → Bool). f minus) (fold-roll-Expr (Bool → Bool) written_at (Expr-F.Literal given))) ∙ written in
        rolled _ _ (fold-roll-Expr (Outcome BoundExpr) (binding.step scope) (Expr-F.Literal given)) (literal_kinded minus given w)
    node_kinded (Expr-F.Compare a p b) parts minus written =
        rolled _ _ (fold-roll-Expr (Outcome BoundExpr) (binding.step scope) (Expr-F.Compare a p b)) (compare_kinded p (bound scope a) (bound scope b))
    node_kinded (Expr-F.IsNull a) parts minus written =
        rolled _ _ (fold-roll-Expr (Outcome BoundExpr) (binding.step scope) (Expr-F.IsNull a)) (is_null_kinded (bound scope a))
    node_kinded (Expr-F.IsNotNull a) parts minus written =
        rolled _ _ (fold-roll-Expr (Outcome BoundExpr) (binding.step scope) (Expr-F.IsNotNull a)) (is_not_null_kinded (bound scope a))
    node_kinded (Expr-F.In a xs) parts minus written =
        rolled _ _ (fold-roll-Expr (Outcome BoundExpr) (binding.step scope) (Expr-F.In a xs)) (in_kinded (bound scope a) (map (bound scope) xs))
    node_kinded (Expr-F.NotIn a xs) parts minus written =
        rolled _ _ (fold-roll-Expr (Outcome BoundExpr) (binding.step scope) (Expr-F.NotIn a xs)) (not_kinded (and_then (bound scope a) (bound_in (map (bound scope) xs))) (in_kinded (bound scope a) (map (bound scope) xs)))
    node_kinded (Expr-F.Between a low high) parts minus written =
        rolled _ _ (fold-roll-Expr (Outcome BoundExpr) (binding.step scope) (Expr-F.Between a low high)) (between_kinded (bound scope a) (bound scope low) (bound scope high))
    node_kinded (Expr-F.NotBetween a low high) parts minus written =
        rolled _ _ (fold-roll-Expr (Outcome BoundExpr) (binding.step scope) (Expr-F.NotBetween a low high)) (not_kinded (and_then (bound scope a) (bound_between (bound scope low) (bound scope high))) (between_kinded (bound scope a) (bound scope low) (bound scope high)))
    node_kinded (Expr-F.Name name) parts minus written =
        rolled _ _ (fold-roll-Expr (Outcome BoundExpr) (binding.step scope) (Expr-F.Name name)) (column_kinded (place_named name scope))
    node_kinded (Expr-F.Qualified source name) parts minus written =
        rolled _ _ (fold-roll-Expr (Outcome BoundExpr) (binding.step scope) (Expr-F.Qualified source name)) (column_kinded (place_qualified source name scope))
    node_kinded y parts minus written = rolled y (Err 9013) (fold-roll-Expr (Outcome BoundExpr) (binding.step scope) y) tt

    pub every_kinded : (x : Expr) → is_written x ≡ true → IsKinded x
    every_kinded x written = by_layers IfWritten node_kinded x false written

pub worths_have_kinds : WorthsHaveKinds
worths_have_kinds scope row x b w kinds_are written is worth_is =
    let has : Kinded row b = subst (HasKind row) is (every_kinded row scope kinds_are x written) in
    subst (IsOf b.kind) worth_is has.worth_is
