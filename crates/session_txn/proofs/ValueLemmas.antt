-- Expressions with the session's values in their places.
use Rattle.std.proofs.Common.{◌≡◌, refl, sym, ◌∙◌, ap, subst, inl, inr, Some, ℕ, ◌<◌, Bool, true, false, if◌then◌else◌, List, [], ◌∷◌, map, Option, Result, Ok, Err, IfOk}
use Rattle.std.specs.List.{AllByRecursion}
use Rattle.std.proofs.lemmas.Bool.{or_parts as neither}
use Rattle.sql_ast.specs.declared.expressions.Expr.{Expr, fold-roll-Expr, out-Expr, roll-Expr}
use Rattle.sql_ast.specs.declared.expressions.Expr.TheOpen.{Expr-F}
use Rattle.sql_ast.specs.declared.expressions.Expr.TheVariants as e
use Rattle.sql_ast.specs.declared.expressions.Expr.TheVariants.{outs-In, outs-NotIn, outs-Or, outs-And, outs-Factors, rolls-In, rolls-NotIn, rolls-Or, rolls-And, rolls-Factors, rolls-Terms}
use Rattle.sql_ast.specs.declared.expressions.Term.{Term}
use Rattle.sql_ast.specs.declared.selects.NamedExpr.{NamedExpr}
use Rattle.sql_ast.specs.declared.selects.Select.{Select}
use Rattle.sql_ast.specs.declared.selects.Select.TheVariants as select
use Rattle.sql_ast.proofs.expressions.Expr.TheLaws.{the_size}
use Rattle.sql_ast.proofs.ListNodes.{fold_in, fold_not_in, fold_or, fold_and, fold_factors, fold_terms}
use Rattle.sql_text.specs.Features.{any_of, has, step}
use Rattle.sql_text.specs.declared.features.Feature.TheVariants as feature
use Rattle.sql_text.proofs.ListParts.{Listed}
use Rattle.sql_text.proofs.PartDepths.{chain_deep, contained_deep, deepest}
use Rattle.sql_laws.proofs.Layers.{Parts, by_layers}
use Rattle.plain_sql.specs.Plans.{shown_name}
use Rattle.plain_sessions.specs.Sessions as plain
use Rattle.plain_sessions.specs.Sessions.{Variables, new_session}
use Rattle.plain_sessions.specs.Statements.{item_with_values, select_with_values, with_value, with_values}
use Rattle.session_state.specs.Standing.{SessionStands}
use Rattle.session_state.specs.declared.sessions.Session.{Session}
use Rattle.session_txn.specs.Values.{AreValuesOf, asked_of, kept_name, with_list}
use Rattle.session_txn.specs.declared.values.Values.{Values}

pub made_so : {A E : Type 0} (result : Result A E) (x y : A) → x ≡ y → IfOk result (λ made. made ≡ x) → IfOk result (λ made. made ≡ y)
made_so result x y is ok = subst (λ z. IfOk result (λ made. made ≡ z)) is ok

-- ---- nodes with a list

pub listed_deep : (x a : Expr) (xs : List Expr) → Listed x a xs → deepest a xs < the_size x
listed_deep x a xs (inl is) = chain_deep x a xs (inl is)
listed_deep x a xs (inr (inl is)) = chain_deep x a xs (inr (inl is))
listed_deep x a xs (inr (inr (inl is))) = contained_deep x a xs (inl is)
listed_deep x a xs (inr (inr (inr (inl is)))) = contained_deep x a xs (inr is)
listed_deep x a xs (inr (inr (inr (inr is)))) = chain_deep x a xs (inr (inr is))

module _ (p : plain.Session) where
  pub terms_so : (x a b : Expr) (xs ys : List (Term × Expr)) → x ≡ e.Terms a xs → b ≡ with_values p a → ys ≡ map (λ (t : Term × Expr). (t.0, with_values p t.1)) xs
      → e.Terms b ys ≡ with_values p x
  terms_so x a b xs ys is first rest =
      ap (λ (z : Expr). e.Terms z ys) first ∙ ap (e.Terms (with_values p a)) rest
      ∙ sym (ap (with_values p) is ∙ fold_terms (with_value p) a xs ∙ rolls-Terms (with_values p a) (map (λ (t : Term × Expr). (t.0, with_values p t.1)) xs))

  pub listed_so : (x a b : Expr) (xs ys : List Expr) → Listed x a xs → b ≡ with_values p a → ys ≡ map (with_values p) xs → with_list (out-Expr x) b ys ≡ with_values p x
  listed_so x a b xs ys (inl is) first rest =
      ap (λ (z : Expr). with_list (out-Expr z) b ys) is ∙ ap (λ (y : Expr-F Expr). with_list y b ys) (outs-Or a xs)
      ∙ ap (λ (z : Expr). e.Or z ys) first ∙ ap (e.Or (with_values p a)) rest
      ∙ sym (ap (with_values p) is ∙ fold_or (with_value p) a xs ∙ rolls-Or (with_values p a) (map (with_values p) xs))
  listed_so x a b xs ys (inr (inl is)) first rest =
      ap (λ (z : Expr). with_list (out-Expr z) b ys) is ∙ ap (λ (y : Expr-F Expr). with_list y b ys) (outs-And a xs)
      ∙ ap (λ (z : Expr). e.And z ys) first ∙ ap (e.And (with_values p a)) rest
      ∙ sym (ap (with_values p) is ∙ fold_and (with_value p) a xs ∙ rolls-And (with_values p a) (map (with_values p) xs))
  listed_so x a b xs ys (inr (inr (inl is))) first rest =
      ap (λ (z : Expr). with_list (out-Expr z) b ys) is ∙ ap (λ (y : Expr-F Expr). with_list y b ys) (outs-In a xs)
      ∙ ap (λ (z : Expr). e.In z ys) first ∙ ap (e.In (with_values p a)) rest
      ∙ sym (ap (with_values p) is ∙ fold_in (with_value p) a xs ∙ rolls-In (with_values p a) (map (with_values p) xs))
  listed_so x a b xs ys (inr (inr (inr (inl is)))) first rest =
      ap (λ (z : Expr). with_list (out-Expr z) b ys) is ∙ ap (λ (y : Expr-F Expr). with_list y b ys) (outs-NotIn a xs)
      ∙ ap (λ (z : Expr). e.NotIn z ys) first ∙ ap (e.NotIn (with_values p a)) rest
      ∙ sym (ap (with_values p) is ∙ fold_not_in (with_value p) a xs ∙ rolls-NotIn (with_values p a) (map (with_values p) xs))
  listed_so x a b xs ys (inr (inr (inr (inr is)))) first rest =
      ap (λ (z : Expr). with_list (out-Expr z) b ys) is ∙ ap (λ (y : Expr-F Expr). with_list y b ys) (outs-Factors a xs)
      ∙ ap (λ (z : Expr). e.Factors z ys) first ∙ ap (e.Factors (with_values p a)) rest
      ∙ sym (ap (with_values p) is ∙ fold_factors (with_value p) a xs ∙ rolls-Factors (with_values p a) (map (with_values p) xs))

-- ---- what asks for no value stays as it is

abbrev asks : Expr → Bool
asks x = has feature.SessionWord x

abbrev IsKept : plain.Session → Expr → Type 0
IsKept p x = asks x ≡ false → with_values p x ≡ x

-- the only part asks for none
alone : (a : Bool) → any_of (a ∷ []) ≡ false → a ≡ false
alone true h = absurd (cc)
alone false h = refl

first_two : (a b : Bool) → any_of (a ∷ b ∷ []) ≡ false → (a ≡ false) × (b ≡ false)
first_two a b h = let none = neither a (any_of (b ∷ [])) h in (none.0, alone b none.1)

first_three : (a b c : Bool) → any_of (a ∷ b ∷ c ∷ []) ≡ false → (a ≡ false) × (b ≡ false) × (c ≡ false)
first_three a b c h =
    let none = neither a (any_of (b ∷ c ∷ [])) h in
    let more = first_two b c none.1 in (none.0, more.0, more.1)

module _ (p : plain.Session) where
  all_kept : (xs : List Expr) → AllByRecursion (IsKept p) xs → any_of (map asks xs) ≡ false → map (with_values p) xs ≡ xs
  all_kept [] below h = refl
  all_kept (x ∷ xs) below h =
      let none = neither (asks x) (any_of (map asks xs)) h in
      ap (λ (z : Expr). z ∷ map (with_values p) xs) (below.0 none.0) ∙ ap (λ (zs : List Expr). x ∷ zs) (all_kept xs below.1 none.1)

  terms_kept : (xs : List (Term × Expr)) → AllByRecursion (λ (t : Term × Expr). IsKept p t.1) xs
      → any_of (map (λ (t : Term × Bool). t.1) (map (λ (t : Term × Expr). (t.0, asks t.1)) xs)) ≡ false → map (λ (t : Term × Expr). (t.0, with_values p t.1)) xs ≡ xs
  terms_kept [] below h = refl
  terms_kept (x ∷ xs) below h =
      let none = neither (asks x.1) (any_of (map (λ (t : Term × Bool). t.1) (map (λ (t : Term × Expr). (t.0, asks t.1)) xs))) h in
      ap (λ (z : Expr). (x.0, z) ∷ map (λ (t : Term × Expr). (t.0, with_values p t.1)) xs) (below.0 none.0) ∙ ap (λ (zs : List (Term × Expr)). x ∷ zs) (terms_kept xs below.1 none.1)

  node_kept : (y : Expr-F Expr) → Parts (IsKept p) y → IsKept p (roll-Expr y)
  node_kept (Expr-F.Or a xs) below = λ h.
      let none = neither (asks a) (any_of (map asks xs)) (sym (fold-roll-Expr Bool (step feature.SessionWord) (Expr-F.Or a xs)) ∙ h) in
      fold-roll-Expr Expr (with_value p) (Expr-F.Or a xs)
      ∙ ap (λ (z : Expr). roll-Expr (Expr-F.Or z (map (with_values p) xs))) (below.0 none.0) ∙ ap (λ (zs : List Expr). roll-Expr (Expr-F.Or a zs)) (all_kept xs below.1 none.1)
  node_kept (Expr-F.And a xs) below = λ h.
      let none = neither (asks a) (any_of (map asks xs)) (sym (fold-roll-Expr Bool (step feature.SessionWord) (Expr-F.And a xs)) ∙ h) in
      fold-roll-Expr Expr (with_value p) (Expr-F.And a xs)
      ∙ ap (λ (z : Expr). roll-Expr (Expr-F.And z (map (with_values p) xs))) (below.0 none.0) ∙ ap (λ (zs : List Expr). roll-Expr (Expr-F.And a zs)) (all_kept xs below.1 none.1)
  node_kept (Expr-F.Not a) below = λ h.
      let none = alone (asks a) (sym (fold-roll-Expr Bool (step feature.SessionWord) (Expr-F.Not a)) ∙ h) in
      fold-roll-Expr Expr (with_value p) (Expr-F.Not a) ∙ ap (λ (z : Expr). roll-Expr (Expr-F.Not z)) (below none)
  node_kept (Expr-F.Compare a o b) below = λ h.
      let none = first_two (asks a) (asks b) (sym (fold-roll-Expr Bool (step feature.SessionWord) (Expr-F.Compare a o b)) ∙ h) in
      fold-roll-Expr Expr (with_value p) (Expr-F.Compare a o b)
      ∙ ap (λ (z : Expr). roll-Expr (Expr-F.Compare z o (with_values p b))) (below.0 none.0) ∙ ap (λ (z : Expr). roll-Expr (Expr-F.Compare a o z)) (below.1 none.1)
  node_kept (Expr-F.IsNull a) below = λ h.
      let none = alone (asks a) (sym (fold-roll-Expr Bool (step feature.SessionWord) (Expr-F.IsNull a)) ∙ h) in
      fold-roll-Expr Expr (with_value p) (Expr-F.IsNull a) ∙ ap (λ (z : Expr). roll-Expr (Expr-F.IsNull z)) (below none)
  node_kept (Expr-F.IsNotNull a) below = λ h.
      let none = alone (asks a) (sym (fold-roll-Expr Bool (step feature.SessionWord) (Expr-F.IsNotNull a)) ∙ h) in
      fold-roll-Expr Expr (with_value p) (Expr-F.IsNotNull a) ∙ ap (λ (z : Expr). roll-Expr (Expr-F.IsNotNull z)) (below none)
  node_kept (Expr-F.In a xs) below = λ h.
      let none = neither (asks a) (any_of (map asks xs)) (sym (fold-roll-Expr Bool (step feature.SessionWord) (Expr-F.In a xs)) ∙ h) in
      fold-roll-Expr Expr (with_value p) (Expr-F.In a xs)
      ∙ ap (λ (z : Expr). roll-Expr (Expr-F.In z (map (with_values p) xs))) (below.0 none.0) ∙ ap (λ (zs : List Expr). roll-Expr (Expr-F.In a zs)) (all_kept xs below.1 none.1)
  node_kept (Expr-F.NotIn a xs) below = λ h.
      let none = neither (asks a) (any_of (map asks xs)) (sym (fold-roll-Expr Bool (step feature.SessionWord) (Expr-F.NotIn a xs)) ∙ h) in
      fold-roll-Expr Expr (with_value p) (Expr-F.NotIn a xs)
      ∙ ap (λ (z : Expr). roll-Expr (Expr-F.NotIn z (map (with_values p) xs))) (below.0 none.0) ∙ ap (λ (zs : List Expr). roll-Expr (Expr-F.NotIn a zs)) (all_kept xs below.1 none.1)
  node_kept (Expr-F.Between a low high) below = λ h.
      let none = first_three (asks a) (asks low) (asks high) (sym (fold-roll-Expr Bool (step feature.SessionWord) (Expr-F.Between a low high)) ∙ h) in
      fold-roll-Expr Expr (with_value p) (Expr-F.Between a low high)
      ∙ ap (λ (z : Expr). roll-Expr (Expr-F.Between z (with_values p low) (with_values p high))) (below.0 none.0)
      ∙ ap (λ (z : Expr). roll-Expr (Expr-F.Between a z (with_values p high))) (below.1 none.1) ∙ ap (λ (z : Expr). roll-Expr (Expr-F.Between a low z)) (below.2 none.2)
  node_kept (Expr-F.NotBetween a low high) below = λ h.
      let none = first_three (asks a) (asks low) (asks high) (sym (fold-roll-Expr Bool (step feature.SessionWord) (Expr-F.NotBetween a low high)) ∙ h) in
      fold-roll-Expr Expr (with_value p) (Expr-F.NotBetween a low high)
      ∙ ap (λ (z : Expr). roll-Expr (Expr-F.NotBetween z (with_values p low) (with_values p high))) (below.0 none.0)
      ∙ ap (λ (z : Expr). roll-Expr (Expr-F.NotBetween a z (with_values p high))) (below.1 none.1) ∙ ap (λ (z : Expr). roll-Expr (Expr-F.NotBetween a low z)) (below.2 none.2)
  node_kept (Expr-F.Terms a xs) below = λ h.
      let none = neither (asks a) (any_of (map (λ (t : Term × Bool). t.1) (map (λ (t : Term × Expr). (t.0, asks t.1)) xs))) (sym (fold-roll-Expr Bool (step feature.SessionWord) (Expr-F.Terms a xs)) ∙ h) in
      fold-roll-Expr Expr (with_value p) (Expr-F.Terms a xs)
      ∙ ap (λ (z : Expr). roll-Expr (Expr-F.Terms z (map (λ (t : Term × Expr). (t.0, with_values p t.1)) xs))) (below.0 none.0)
      ∙ ap (λ (zs : List (Term × Expr)). roll-Expr (Expr-F.Terms a zs)) (terms_kept xs below.1 none.1)
  node_kept (Expr-F.Factors a xs) below = λ h.
      let none = neither (asks a) (any_of (map asks xs)) (sym (fold-roll-Expr Bool (step feature.SessionWord) (Expr-F.Factors a xs)) ∙ h) in
      fold-roll-Expr Expr (with_value p) (Expr-F.Factors a xs)
      ∙ ap (λ (z : Expr). roll-Expr (Expr-F.Factors z (map (with_values p) xs))) (below.0 none.0) ∙ ap (λ (zs : List Expr). roll-Expr (Expr-F.Factors a zs)) (all_kept xs below.1 none.1)
  node_kept (Expr-F.Negate a) below = λ h.
      let none = alone (asks a) (sym (fold-roll-Expr Bool (step feature.SessionWord) (Expr-F.Negate a)) ∙ h) in
      fold-roll-Expr Expr (with_value p) (Expr-F.Negate a) ∙ ap (λ (z : Expr). roll-Expr (Expr-F.Negate z)) (below none)
  node_kept (Expr-F.Literal x) below = λ h. fold-roll-Expr Expr (with_value p) (Expr-F.Literal x)
  node_kept (Expr-F.Name name) below = λ h. fold-roll-Expr Expr (with_value p) (Expr-F.Name name)
  node_kept (Expr-F.Qualified source name) below = λ h. fold-roll-Expr Expr (with_value p) (Expr-F.Qualified source name)
  node_kept Expr-F.CountAll below = λ h. fold-roll-Expr Expr (with_value p) Expr-F.CountAll
  node_kept (Expr-F.Count a) below = λ h.
      let none = alone (asks a) (sym (fold-roll-Expr Bool (step feature.SessionWord) (Expr-F.Count a)) ∙ h) in
      fold-roll-Expr Expr (with_value p) (Expr-F.Count a) ∙ ap (λ (z : Expr). roll-Expr (Expr-F.Count z)) (below none)
  node_kept (Expr-F.Sum a) below = λ h.
      let none = alone (asks a) (sym (fold-roll-Expr Bool (step feature.SessionWord) (Expr-F.Sum a)) ∙ h) in
      fold-roll-Expr Expr (with_value p) (Expr-F.Sum a) ∙ ap (λ (z : Expr). roll-Expr (Expr-F.Sum z)) (below none)
  node_kept (Expr-F.Min a) below = λ h.
      let none = alone (asks a) (sym (fold-roll-Expr Bool (step feature.SessionWord) (Expr-F.Min a)) ∙ h) in
      fold-roll-Expr Expr (with_value p) (Expr-F.Min a) ∙ ap (λ (z : Expr). roll-Expr (Expr-F.Min z)) (below none)
  node_kept (Expr-F.Max a) below = λ h.
      let none = alone (asks a) (sym (fold-roll-Expr Bool (step feature.SessionWord) (Expr-F.Max a)) ∙ h) in
      fold-roll-Expr Expr (with_value p) (Expr-F.Max a) ∙ ap (λ (z : Expr). roll-Expr (Expr-F.Max z)) (below none)
  node_kept Expr-F.ActiveBranch below = λ h.
      let told : true ≡ false = sym (fold-roll-Expr Bool (step feature.SessionWord) Expr-F.ActiveBranch) ∙ h in absurd (cc)
  node_kept (Expr-F.Variable name) below = λ h.
      let told : true ≡ false = sym (fold-roll-Expr Bool (step feature.SessionWord) (Expr-F.Variable name)) ∙ h in absurd (cc)

  kept : (x : Expr) → asks x ≡ false → with_values p x ≡ x
  kept = by_layers (IsKept p) node_kept

  -- ---- items

  either : (named : NamedExpr) (b : Bool) → b ≡ asks named.expr → (b ≡ false → with_values p named.expr ≡ named.expr)
      → record { expr = with_values p named.expr; name = if b then Some (shown_name named.name named.expr) else named.name }
      ≡ (if b then record { expr = with_values p named.expr; name = Some (shown_name named.name named.expr) } else named)
  either named true is same = refl
  either named false is same = ap (λ (x : Expr). let item : NamedExpr = record { expr = x; name = named.name } in item) (same refl)

  pub item_so : (named : NamedExpr) (x : Expr) (name : Option (List ℕ)) → x ≡ with_values p named.expr → name ≡ kept_name named
      → (let item : NamedExpr = record { expr = x; name = name } in item) ≡ item_with_values p named
  item_so named x name filled called =
      ap (λ (y : Expr). let item : NamedExpr = record { expr = y; name = name } in item) filled
      ∙ ap (λ (n : Option (List ℕ)). let item : NamedExpr = record { expr = with_values p named.expr; name = n } in item) called
      ∙ either named (asks named.expr) refl (kept named.expr)

-- ---- a session's values

abbrev with_these : Variables → List ℕ → Select → Select
with_these variables branch one = select_with_values (record (new_session 0 []) { branch = branch; variables = variables }) one

these : (p : plain.Session) (one : Select) → with_these p.variables p.branch one ≡ select_with_values p one
these p (select.From query) = refl
these p (select.Alone list) = refl

pub values_so : {D : Type 0} (address : List ℕ → List ℕ) (session : Session D) (values : Values) (p : plain.Session) → SessionStands address session p
    → values.autocommit ≡ session.autocommit → values.allow ≡ session.allow → values.force ≡ session.force → values.branch ≡ session.branch → AreValuesOf p values
values_so address session values p stands autocommit allow force branch one =
    ap (λ (on : Bool). with_these (record { autocommit = on; allow = values.allow; force = values.force }) values.branch one) (autocommit ∙ stands.autocommit)
    ∙ ap (λ (on : Bool). with_these (record { autocommit = p.variables.autocommit; allow = on; force = values.force }) values.branch one) (allow ∙ stands.allow)
    ∙ ap (λ (on : Bool). with_these (record { autocommit = p.variables.autocommit; allow = p.variables.allow; force = on }) values.branch one) (force ∙ stands.force)
    ∙ ap (λ (name : List ℕ). with_these p.variables name one) (branch ∙ stands.branch)
    ∙ these p one

-- a SELECT with the values in their places is the one with the session's
pub made_for : {D E : Type 0} (address : List ℕ → List ℕ) (session : Session D) (values : Values) (list : List NamedExpr) (result : Result Select E)
    → ((p : plain.Session) → SessionStands address session p → AreValuesOf p values) → IfOk result (λ made. made ≡ select_with_values (asked_of values) (select.Alone list))
    → IfOk result (λ made. (p : plain.Session) → SessionStands address session p → made ≡ select_with_values p (select.Alone list))
made_for address session values list (Ok made) same is = λ p stands. is ∙ same p stands (select.Alone list)
made_for address session values list (Err fault) same is = tt
