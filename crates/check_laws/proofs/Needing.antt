-- A CHECK says nothing without a column just where its text names this column.
use Rattle.std.proofs.Common.{◌≡◌, refl, sym, ap, ◌∙◌, subst, ℕ, zero, suc, Bool, true, false, true≢false, cond, not, ◌||◌, ◌==◌, fold, List, [], ◌∷◌, ◌++◌, map, is_some, slice_get, Option, Some, None, Ok, Err, bytes_eq}
use Rattle.std.specs.Prelude.{IfOk}
use Rattle.std.specs.Cmp.Lexicographic.{bytes_decides}
use Rattle.std.specs.List.{AllByRecursion, list_any, position, remove}
use Rattle.std.proofs.lemmas.Bool.{and_parts, not-true, or_parts, or_right}
use Rattle.sql_ast.specs.declared.expressions.Expr.{Expr, fold-roll-Expr, roll-Expr}
use Rattle.sql_ast.specs.declared.expressions.Expr.TheOpen.{Expr-F}
use Rattle.sql_ast.specs.declared.expressions.Term.{Term}
use Rattle.sql_values.specs.Kinds.{product_kind}
use Rattle.sql_values.specs.declared.kinds.Kind.{Kind}
use Rattle.sql_laws.specs.Spelling.{operands}
use Rattle.sql_laws.proofs.Layers.{Parts, by_layers}
use Rattle.expr_eval.specs.Binding.{Outcome, and_node, and_then, bound, bound_between, bound_chain, bound_column, bound_compare, bound_in, bound_is_not_null, bound_is_null, bound_literal, bound_negate, bound_not, bound_sum, compared_kind, extended, factors_node, high_end, in_node, lengthened, logic_kind, longer_sum, low_end, opened_chain, opened_sum, or_node, step, terms_node, two}
use Rattle.expr_eval.specs.Scopes.{is_named, is_qualified, only}
use Rattle.expr_eval.specs.declared.bound.BoundExpr.{BoundExpr}
use Rattle.expr_eval.specs.declared.bound.Chain.{Chain}
use Rattle.expr_eval.specs.declared.bound.Sum.{Sum}
use Rattle.expr_eval.specs.declared.scopes.ScopeColumn.{ScopeColumn}
use Rattle.schema_model.specs.Schemas.{is_schema}
use Rattle.schema_model.specs.declared.schemas.CheckDef.{CheckDef}
use Rattle.schema_model.specs.declared.schemas.Column.{Column}
use Rattle.schema_model.specs.declared.schemas.Schema.{Schema}
use Rattle.schema_merge.specs.Names.{names_in}
use Rattle.plain_schemas.specs.Altered.{check_needs, without_column}
use Rattle.plain_writes.specs.CheckTexts.{checks}
use Rattle.plain_writes.specs.Violations.{own_scope}
use Rattle.plain_writes.proofs.RowOrderLemmas as order
use Rattle.keep_laws.proofs.ListLemmas as lists
use Rattle.keep_laws.proofs.ListLemmas.{no_count}
use Rattle.keep_laws.proofs.SchemaParts.{parts_so}
use Rattle.check_laws.specs.Meant.{IsMeantCheck, is_condition}
use Rattle.check_laws.specs.Named.{joined, named_at, names_of}
use Rattle.check_laws.proofs.Altering.{judged_condition, with_binding}
use Rattle.check_laws.proofs.Following.{MoveNames, condition_moves}
use Rattle.check_laws.proofs.Meaning.{check_meant}
use Rattle.check_laws.proofs.NamesIn.{names_are}
use Rattle.check_laws.proofs.Scopes.{are_apart, column_named, name_moves, scope_of}

-- ---- what an outcome that isn't refused tells

abbrev Tells : {A : Type 0} → Outcome A → Type 0 → Type 0
Tells o P = IfOk o (λ x. P)

map_tells : {A : Type 0} (P Q : Type 0) (o : Outcome A) → (P → Q) → Tells o P → Tells o Q
map_tells P Q (Ok x) f p = f p
map_tells P Q (Err n) f p = tt

-- by its first step, by its second, and by both
held : {A : Type 0} (P : Type 0) (o : Outcome A) → P → Tells o P
held P (Ok x) p = p
held P (Err n) p = tt

first_tells : {A B : Type 0} (P : Type 0) (o : Outcome A) (f : A → Outcome B) → Tells o P → Tells (and_then o f) P
first_tells P (Ok x) f p = held P (f x) p
first_tells P (Err n) f p = tt

both_tell : {A B : Type 0} (P Q : Type 0) (o : Outcome A) (f : A → Outcome B) → Tells o P → ((x : A) → Tells (f x) Q) → Tells (and_then o f) (P × Q)
both_tell P Q (Ok x) f p q = map_tells Q (P × Q) (f x) (λ one. (p, one)) (q x)
both_tell P Q (Err n) f p q = tt

two_tell : {A B C : Type 0} (P Q : Type 0) (f : A → B → Outcome C) (o : Outcome A) (q : Outcome B) → Tells o P → Tells q Q → Tells (two f o q) (P × Q)
two_tell P Q f o q p r = both_tell P Q o (λ x. and_then q (f x)) p (λ x. first_tells Q q (f x) r)

-- ---- where an expression is bound, its names are of columns that are there

module _ (scope : List ScopeColumn) where
  abbrev pub AreThere : List (List ℕ) → Type 0
  AreThere names = AllByRecursion (λ (name : List ℕ). list_any (is_named name) scope ≡ true) names

  join : (xs ys : List (List ℕ)) → AreThere xs → AreThere ys → AreThere (xs ++ ys)
  join [] ys p q = q
  join (x ∷ xs) ys p q = (p.0, join xs ys p.1 q)

  abbrev IfBound : Expr → Type 0
  IfBound x = Tells (bound scope x) (AreThere (names_of x))

  placed : (y : Expr-F Expr) (o : Outcome BoundExpr) (names : List (List ℕ)) → bound scope (roll-Expr y) ≡ o → names_of (roll-Expr y) ≡ names → Tells o (AreThere names) → IfBound (roll-Expr y)
  placed y o names o_is names_are h = subst (λ q. Tells q (AreThere (names_of (roll-Expr y)))) (sym o_is) (subst (λ n. Tells o (AreThere n)) (sym names_are) h)

  abbrev some_of : List Expr → List (List ℕ)
  some_of xs = joined (map names_of xs)

  abbrev terms_of : List (Term × Expr) → List (List ℕ)
  terms_of xs = joined (operands (map (λ (x : Term × Expr). (x.0, names_of x.1)) xs))

  fold_tells : (meet : Kind → Kind → Option Kind) (P : Type 0) (xs : List Expr) (o : Outcome Chain) → AllByRecursion IfBound xs → Tells o P
      → Tells (fold (two (extended meet)) o (map (bound scope) xs)) (P × AreThere (some_of xs))
  fold_tells meet P [] o all p = map_tells P (P × Unit {0}) o (λ one. (one, tt)) p
  fold_tells meet P (x ∷ xs) o all p =
      let N = AreThere (names_of x) in
      let M = AreThere (some_of xs) in
      map_tells ((P × N) × M) (P × AreThere (names_of x ++ some_of xs)) (fold (two (extended meet)) (two (extended meet) o (bound scope x)) (map (bound scope) xs))
      (λ told. let front = told.0 in (front.0, join (names_of x) (some_of xs) front.1 told.1))
      (fold_tells meet (P × N) xs (two (extended meet) o (bound scope x)) all.1 (two_tell P N (extended meet) o (bound scope x) p all.0))

  chain_tells : (meet : Kind → Kind → Option Kind) (a : Expr) (xs : List Expr) → IfBound a → AllByRecursion IfBound xs
      → Tells (and_then (bound scope a) (bound_chain meet (map (bound scope) xs))) (AreThere (names_of a ++ some_of xs))
  chain_tells meet a xs first rest =
      let N = AreThere (names_of a) in
      let M = AreThere (some_of xs) in
      map_tells (N × M) (AreThere (names_of a ++ some_of xs)) (and_then (bound scope a) (bound_chain meet (map (bound scope) xs))) (λ told. join (names_of a) (some_of xs) told.0 told.1)
      (both_tell N M (bound scope a) (bound_chain meet (map (bound scope) xs)) first (λ b.
      map_tells (Unit {0} × M) M (bound_chain meet (map (bound scope) xs) b) (λ told. told.1) (fold_tells meet (Unit {0}) xs (Ok (opened_chain b)) rest tt)))

  in_tells : (a : Expr) (xs : List Expr) → IfBound a → AllByRecursion IfBound xs → Tells (and_then (bound scope a) (bound_in (map (bound scope) xs))) (AreThere (names_of a ++ some_of xs))
  in_tells a xs first rest =
      let N = AreThere (names_of a) in
      let M = AreThere (some_of xs) in
      map_tells (N × M) (AreThere (names_of a ++ some_of xs)) (and_then (bound scope a) (bound_in (map (bound scope) xs))) (λ told. join (names_of a) (some_of xs) told.0 told.1)
      (both_tell N M (bound scope a) (bound_in (map (bound scope) xs)) first (λ b.
      first_tells M (bound_chain compared_kind (map (bound scope) xs) b) in_node
      (map_tells (Unit {0} × M) M (bound_chain compared_kind (map (bound scope) xs) b) (λ told. told.1) (fold_tells compared_kind (Unit {0}) xs (Ok (opened_chain b)) rest tt))))

  sum_tells : (P : Type 0) (xs : List (Term × Expr)) (o : Outcome Sum) → AllByRecursion (λ (x : Term × Expr). IfBound x.1) xs → Tells o P
      → Tells (fold lengthened o (map (λ (x : Term × Expr). (x.0, bound scope x.1)) xs)) (P × AreThere (terms_of xs))
  sum_tells P [] o all p = map_tells P (P × Unit {0}) o (λ one. (one, tt)) p
  sum_tells P (x ∷ xs) o all p =
      let N = AreThere (names_of x.1) in
      let M = AreThere (terms_of xs) in
      map_tells ((P × N) × M) (P × AreThere (names_of x.1 ++ terms_of xs)) (fold lengthened (two (longer_sum x.0) o (bound scope x.1)) (map (λ (x : Term × Expr). (x.0, bound scope x.1)) xs))
      (λ told. let front = told.0 in (front.0, join (names_of x.1) (terms_of xs) front.1 told.1))
      (sum_tells (P × N) xs (two (longer_sum x.0) o (bound scope x.1)) all.1 (two_tell P N (longer_sum x.0) o (bound scope x.1) p all.0))

  between_tells : (a low high : Expr) → IfBound a → IfBound low → IfBound high
      → Tells (and_then (bound scope a) (bound_between (bound scope low) (bound scope high))) (AreThere (names_of a ++ names_of low ++ names_of a ++ names_of high))
  between_tells a low high first second third =
      let A = AreThere (names_of a) in
      let L = AreThere (names_of low) in
      let H = AreThere (names_of high) in
      map_tells (A × (L × H)) (AreThere (names_of a ++ names_of low ++ names_of a ++ names_of high)) (and_then (bound scope a) (bound_between (bound scope low) (bound scope high)))
      (λ told. let ends = told.1 in
      join (names_of a ++ names_of low ++ names_of a) (names_of high) (join (names_of a ++ names_of low) (names_of a) (join (names_of a) (names_of low) told.0 ends.0) told.0) ends.1)
      (both_tell A (L × H) (bound scope a) (bound_between (bound scope low) (bound scope high)) first (λ b.
      both_tell L H (and_then (bound scope low) (low_end b)) (λ ends. and_then (bound scope high) (high_end ends)) (first_tells L (bound scope low) (low_end b) second) (λ ends.
      first_tells H (bound scope high) (high_end ends) third)))

  any_more : (p q : ScopeColumn → Bool) → ((c : ScopeColumn) → p c ≡ true → q c ≡ true) → (columns : List ScopeColumn) → list_any p columns ≡ true → list_any q columns ≡ true
  any_more p q h [] e = e
  any_more p q h (c ∷ columns) e = order.two (p c)
      (λ t. ap (λ b. b || list_any q columns) (h c t))
      (λ t. or_right (q c) (list_any q columns) (any_more p q h columns (sym (ap (λ b. b || list_any p columns) t) ∙ e)))

  -- none where no column is meant
  only_tells : (p : ScopeColumn → Bool) (name : List ℕ) → ((c : ScopeColumn) → p c ≡ true → is_named name c ≡ true) → Tells (bound_column scope (only p scope)) (AreThere (name ∷ []))
  only_tells p name h = order.two (list_any p scope)
      (λ t. held (AreThere (name ∷ [])) (bound_column scope (only p scope)) (any_more p (is_named name) h scope t, tt))
      (λ t. subst (λ (o : Option ℕ). Tells (bound_column scope o) (AreThere (name ∷ []))) (sym (ap (λ n. cond (n == 1) (position p scope) None) (no_count p scope t))) tt)

  node_tells : (y : Expr-F Expr) → Parts IfBound y → IfBound (roll-Expr y)
  node_tells (Expr-F.Or a xs) parts =
      let y = Expr-F.Or a xs in
      placed y _ _ (fold-roll-Expr (Outcome BoundExpr) (step scope) y) (fold-roll-Expr (List (List ℕ)) named_at y)
      (first_tells (AreThere (names_of a ++ some_of xs)) (and_then (bound scope a) (bound_chain logic_kind (map (bound scope) xs))) or_node (chain_tells logic_kind a xs parts.0 parts.1))
  node_tells (Expr-F.And a xs) parts =
      let y = Expr-F.And a xs in
      placed y _ _ (fold-roll-Expr (Outcome BoundExpr) (step scope) y) (fold-roll-Expr (List (List ℕ)) named_at y)
      (first_tells (AreThere (names_of a ++ some_of xs)) (and_then (bound scope a) (bound_chain logic_kind (map (bound scope) xs))) and_node (chain_tells logic_kind a xs parts.0 parts.1))
  node_tells (Expr-F.Factors a xs) parts =
      let y = Expr-F.Factors a xs in
      placed y _ _ (fold-roll-Expr (Outcome BoundExpr) (step scope) y) (fold-roll-Expr (List (List ℕ)) named_at y)
      (first_tells (AreThere (names_of a ++ some_of xs)) (and_then (bound scope a) (bound_chain product_kind (map (bound scope) xs))) factors_node (chain_tells product_kind a xs parts.0 parts.1))
  node_tells (Expr-F.In a xs) parts =
      let y = Expr-F.In a xs in
      placed y _ _ (fold-roll-Expr (Outcome BoundExpr) (step scope) y) (fold-roll-Expr (List (List ℕ)) named_at y) (in_tells a xs parts.0 parts.1)
  node_tells (Expr-F.NotIn a xs) parts =
      let y = Expr-F.NotIn a xs in
      placed y _ _ (fold-roll-Expr (Outcome BoundExpr) (step scope) y) (fold-roll-Expr (List (List ℕ)) named_at y)
      (first_tells (AreThere (names_of a ++ some_of xs)) (and_then (bound scope a) (bound_in (map (bound scope) xs))) bound_not (in_tells a xs parts.0 parts.1))
  node_tells (Expr-F.Terms a xs) parts =
      let y = Expr-F.Terms a xs in
      let N = AreThere (names_of a) in
      let M = AreThere (terms_of xs) in
      let terms = map (λ (x : Term × Expr). (x.0, bound scope x.1)) xs in
      placed y _ _ (fold-roll-Expr (Outcome BoundExpr) (step scope) y) (fold-roll-Expr (List (List ℕ)) named_at y)
      (first_tells (AreThere (names_of a ++ terms_of xs)) (and_then (bound scope a) (bound_sum terms)) terms_node
      (map_tells (N × M) (AreThere (names_of a ++ terms_of xs)) (and_then (bound scope a) (bound_sum terms)) (λ told. join (names_of a) (terms_of xs) told.0 told.1)
      (both_tell N M (bound scope a) (bound_sum terms) parts.0 (λ b. map_tells (Unit {0} × M) M (bound_sum terms b) (λ told. told.1) (sum_tells (Unit {0}) xs (Ok (opened_sum b)) parts.1 tt)))))
  node_tells (Expr-F.Not a) parts =
      let y = Expr-F.Not a in
      placed y _ _ (fold-roll-Expr (Outcome BoundExpr) (step scope) y) (fold-roll-Expr (List (List ℕ)) named_at y) (first_tells (AreThere (names_of a)) (bound scope a) bound_not parts)
  node_tells (Expr-F.Negate a) parts =
      let y = Expr-F.Negate a in
      placed y _ _ (fold-roll-Expr (Outcome BoundExpr) (step scope) y) (fold-roll-Expr (List (List ℕ)) named_at y) (first_tells (AreThere (names_of a)) (bound scope a) bound_negate parts)
  node_tells (Expr-F.IsNull a) parts =
      let y = Expr-F.IsNull a in
      placed y _ _ (fold-roll-Expr (Outcome BoundExpr) (step scope) y) (fold-roll-Expr (List (List ℕ)) named_at y) (first_tells (AreThere (names_of a)) (bound scope a) bound_is_null parts)
  node_tells (Expr-F.IsNotNull a) parts =
      let y = Expr-F.IsNotNull a in
      placed y _ _ (fold-roll-Expr (Outcome BoundExpr) (step scope) y) (fold-roll-Expr (List (List ℕ)) named_at y) (first_tells (AreThere (names_of a)) (bound scope a) bound_is_not_null parts)
  node_tells (Expr-F.Compare a op b) parts =
      let y = Expr-F.Compare a op b in
      let N = AreThere (names_of a) in
      let M = AreThere (names_of b) in
      placed y _ _ (fold-roll-Expr (Outcome BoundExpr) (step scope) y) (fold-roll-Expr (List (List ℕ)) named_at y)
      (map_tells (N × M) (AreThere (names_of a ++ names_of b)) (two (bound_compare op) (bound scope a) (bound scope b)) (λ told. join (names_of a) (names_of b) told.0 told.1)
      (two_tell N M (bound_compare op) (bound scope a) (bound scope b) parts.0 parts.1))
  node_tells (Expr-F.Between a low high) parts =
      let y = Expr-F.Between a low high in
      placed y _ _ (fold-roll-Expr (Outcome BoundExpr) (step scope) y) (fold-roll-Expr (List (List ℕ)) named_at y) (between_tells a low high parts.0 parts.1 parts.2)
  node_tells (Expr-F.NotBetween a low high) parts =
      let y = Expr-F.NotBetween a low high in
      placed y _ _ (fold-roll-Expr (Outcome BoundExpr) (step scope) y) (fold-roll-Expr (List (List ℕ)) named_at y)
      (first_tells (AreThere (names_of a ++ names_of low ++ names_of a ++ names_of high)) (and_then (bound scope a) (bound_between (bound scope low) (bound scope high))) bound_not
      (between_tells a low high parts.0 parts.1 parts.2))
  node_tells (Expr-F.Name name) parts =
      let y = Expr-F.Name name in
      placed y _ _ (fold-roll-Expr (Outcome BoundExpr) (step scope) y) (fold-roll-Expr (List (List ℕ)) named_at y) (only_tells (is_named name) name (λ c t. t))
  node_tells (Expr-F.Qualified source name) parts =
      let y = Expr-F.Qualified source name in
      placed y _ _ (fold-roll-Expr (Outcome BoundExpr) (step scope) y) (fold-roll-Expr (List (List ℕ)) named_at y)
      (only_tells (is_qualified source name) name (λ c t. (and_parts (bytes_eq c.source source) (bytes_eq c.name name) t).1))
  node_tells (Expr-F.Literal given) parts =
      let y = Expr-F.Literal given in
      placed y _ _ (fold-roll-Expr (Outcome BoundExpr) (step scope) y) (fold-roll-Expr (List (List ℕ)) named_at y) (held (Unit {0}) (bound_literal given) tt)
  node_tells Expr-F.CountAll parts = placed Expr-F.CountAll (Err 9013) _ (fold-roll-Expr (Outcome BoundExpr) (step scope) Expr-F.CountAll) refl tt
  node_tells (Expr-F.Count a) parts = placed (Expr-F.Count a) (Err 9013) _ (fold-roll-Expr (Outcome BoundExpr) (step scope) (Expr-F.Count a)) refl tt
  node_tells (Expr-F.Sum a) parts = placed (Expr-F.Sum a) (Err 9013) _ (fold-roll-Expr (Outcome BoundExpr) (step scope) (Expr-F.Sum a)) refl tt
  node_tells (Expr-F.Min a) parts = placed (Expr-F.Min a) (Err 9013) _ (fold-roll-Expr (Outcome BoundExpr) (step scope) (Expr-F.Min a)) refl tt
  node_tells (Expr-F.Max a) parts = placed (Expr-F.Max a) (Err 9013) _ (fold-roll-Expr (Outcome BoundExpr) (step scope) (Expr-F.Max a)) refl tt
  node_tells Expr-F.ActiveBranch parts = placed Expr-F.ActiveBranch (Err 9013) _ (fold-roll-Expr (Outcome BoundExpr) (step scope) Expr-F.ActiveBranch) refl tt
  node_tells (Expr-F.Variable name) parts = placed (Expr-F.Variable name) (Err 9013) _ (fold-roll-Expr (Outcome BoundExpr) (step scope) (Expr-F.Variable name)) refl tt

  bound_there : (x : Expr) → is_condition (bound scope x) ≡ true → AreThere (names_of x)
  bound_there x h = by (bound scope x) h (by_layers IfBound node_tells x)
    where
      by : (o : Outcome BoundExpr) → is_condition o ≡ true → Tells o (AreThere (names_of x)) → AreThere (names_of x)
      by (Ok b) h told = told
      by (Err n) h told = absurd (true≢false (sym h))

-- ---- without a column

turned : (a b : List ℕ) → bytes_eq a b ≡ false → bytes_eq b a ≡ false
turned a b h = order.two (bytes_eq b a) (λ t. absurd (true≢false (sym ((bytes_decides a b).1 (sym ((bytes_decides b a).0 t))) ∙ h))) (λ t. t)

none_at : {A : Type 0} (p : A → Bool) (xs : List A) (place : ℕ) (x : A) → list_any p xs ≡ false → slice_get xs place ≡ Some x → p x ≡ false
none_at p [] place x h e = cc
none_at p (y ∷ xs) zero x h e = let same : y ≡ x = cc in ap p (sym same) ∙ (or_parts (p y) (list_any p xs) h).0
none_at p (y ∷ xs) (suc place) x h e = none_at p xs place x (or_parts (p y) (list_any p xs) h).1 e

module _ (table : List ℕ) where
  behind_unnamed : (column : Column) (columns : List Column) → list_any (λ (other : Column). bytes_eq column.name other.name) columns ≡ false → list_any (is_named column.name) (scope_of table columns) ≡ false
  behind_unnamed column [] h = refl
  behind_unnamed column (other ∷ columns) h =
      let parts = or_parts (bytes_eq column.name other.name) (list_any (λ (other : Column). bytes_eq column.name other.name) columns) h in
      ap (λ b. b || list_any (is_named column.name) (scope_of table columns)) (turned column.name other.name parts.0) ∙ behind_unnamed column columns parts.1

  -- its name is no other's
  removed_unnamed : (columns : List Column) (place : ℕ) (column : Column) → are_apart columns ≡ true → slice_get columns place ≡ Some column
      → list_any (is_named column.name) (scope_of table (remove columns place)) ≡ false
  removed_unnamed [] place column h e = cc
  removed_unnamed (one ∷ columns) zero column h e =
      let same : one ≡ column = cc in
      let parts = and_parts (not (list_any (λ (other : Column). bytes_eq one.name other.name) columns)) (are_apart columns) h in
      subst (λ (c : Column). list_any (is_named c.name) (scope_of table columns) ≡ false) same (behind_unnamed one columns (not-true _ parts.0))
  removed_unnamed (one ∷ columns) (suc place) column h e =
      let parts = and_parts (not (list_any (λ (other : Column). bytes_eq one.name other.name) columns)) (are_apart columns) h in
      ap (λ b. b || list_any (is_named column.name) (scope_of table (remove columns place))) (none_at (λ (other : Column). bytes_eq one.name other.name) columns place column (not-true _ parts.0) e)
      ∙ removed_unnamed columns place column parts.1 e

  -- each other column is found as before
  others_stay : (columns : List Column) (place : ℕ) (column : Column) (name : List ℕ) (c : Column) → slice_get columns place ≡ Some column → bytes_eq column.name name ≡ false → column_named name columns ≡ Some c
      → column_named name (remove columns place) ≡ Some c
  others_stay [] place column name c e apart h = cc
  others_stay (one ∷ columns) zero column name c e apart h =
      let same : one ≡ column = cc in
      sym (ap (λ b. cond b (Some one) (column_named name columns)) (ap (λ (c : Column). bytes_eq c.name name) same ∙ apart)) ∙ h
  others_stay (one ∷ columns) (suc place) column name c e apart h = order.two (bytes_eq one.name name)
      (λ t. ap (λ b. cond b (Some one) (column_named name (remove columns place))) t ∙ sym (ap (λ b. cond b (Some one) (column_named name columns)) t) ∙ h)
      (λ t. ap (λ b. cond b (Some one) (column_named name (remove columns place))) t
      ∙ others_stay columns place column name c e apart (sym (ap (λ b. cond b (Some one) (column_named name columns)) t) ∙ h))

  removed_apart : (columns : List Column) (place : ℕ) → are_apart columns ≡ true → are_apart (remove columns place) ≡ true
  removed_apart columns place h = lists.removed_apart (λ (a b : Column). bytes_eq a.name b.name) columns place h

  names_stay : (columns : List Column) (place : ℕ) (column : Column) → are_apart columns ≡ true → slice_get columns place ≡ Some column → (names : List (List ℕ)) → list_any (bytes_eq column.name) names ≡ false
      → MoveNames (scope_of table columns) (scope_of table (remove columns place)) names
  names_stay columns place column h e [] none = tt
  names_stay columns place column h e (name ∷ names) none =
      let parts = or_parts (bytes_eq column.name name) (list_any (bytes_eq column.name) names) none in (
        name_moves table name columns (remove columns place) (removed_apart columns place h) (λ c found. (c, others_stay columns place column name c e parts.0 found, refl)),
        names_stay columns place column h e names parts.1,
      )

-- a name that is said is there
said_there : (scope : List ScopeColumn) (name : List ℕ) (names : List (List ℕ)) → list_any (bytes_eq name) names ≡ true → AreThere scope names → list_any (is_named name) scope ≡ true
said_there scope name [] h there = absurd (true≢false (sym h))
said_there scope name (one ∷ names) h there = order.two (bytes_eq name one)
    (λ t. ap (λ n. list_any (is_named n) scope) ((bytes_decides name one).0 t) ∙ there.0)
    (λ t. said_there scope name names (sym (ap (λ b. b || list_any (bytes_eq name) names) t) ∙ h) there.1)

pub needs_where_named : (name : List ℕ) (schema : Schema) (place : ℕ) (column : Column) (check : CheckDef) → is_schema schema ≡ true → slice_get schema.columns place ≡ Some column
    → IsMeantCheck name schema check → check_needs checks name (without_column schema place) check ≡ list_any (bytes_eq column.name) (names_in check.text)
needs_where_named name schema place column check is at it =
    let parts = parts_so schema is in
    let without = without_column schema place in
    let names : names_in check.text ≡ names_of it.expr = ap names_in (sym it.text_is) ∙ names_are it.expr it.sound in
    let read = is_some (checks name without check.text) in
    order.two (list_any (bytes_eq column.name) (names_of it.expr))
    (λ t.
    let none = removed_unnamed name schema.columns place column parts.apart at in
    order.two read
    (λ r.
    let there = bound_there (own_scope name without) it.expr (judged_condition name schema without check it r) in
    absurd (true≢false (sym (said_there (own_scope name without) column.name (names_of it.expr) t there) ∙ none)))
    (λ r. ap not r ∙ sym (ap (list_any (bytes_eq column.name)) names ∙ t)))
    (λ f.
    let moved = condition_moves (own_scope name schema) (own_scope name without) it.expr (names_stay name schema.columns place column parts.apart at (names_of it.expr) f) it.binds in
    let meant = check_meant name without check (with_binding name schema without check it moved) in
    ap (λ o. not (is_some o)) meant.1 ∙ sym (ap (list_any (bytes_eq column.name)) names ∙ f))
