-- A SELECT reads only what it names.
use Rattle.std.proofs.Common.{◌≡◌, refl, sym, ap, ◌∙◌, ℕ, Bool, true, false, cond, ◌||◌, List, [], ◌∷◌, ◌++◌, map, filter, Some, Ok, bytes_eq}
use Rattle.std.specs.List.{find, list_any}
use Rattle.std.specs.Cmp.Lexicographic.{bytes_decides}
use Rattle.tuple_codec.proofs.Truths.{or_late, two}
use Rattle.tuple_codec.proofs.ByteLemmas.{bytes_itself as same_first}
use Rattle.schema_model.specs.PlainTables as plain
use Rattle.schema_model.specs.PlainTables.{PlainDatabase}
use Rattle.sql_ast.specs.declared.selects.FromClause.{FromClause}
use Rattle.sql_ast.specs.declared.selects.Join.{Join}
use Rattle.sql_ast.specs.declared.selects.TableSource.{TableSource}
use Rattle.expr_eval.specs.Binding.{Outcome, and_then}
use Rattle.plain_sql.specs.Lists.{each, or_refuse}
use Rattle.plain_sql.specs.Plans.{is_known_as, query_on, read_as, source_read, sources_of}
use Rattle.sql_text.specs.SelectNames.{source_name}
use Rattle.plain_sql.specs.declared.sources.Known.{Known}
use Rattle.plain_sql.specs.declared.sources.Read.{Read}
use Rattle.sql_select.specs.Sources.{ReadsSuffice, is_read, known, known_read, known_system, known_table}
use Rattle.sql_select.specs.declared.sources.NamedAnswer.{NamedAnswer}

-- ---- what is passed over has another name

module _ {A : Type 0} (name_of : A → List ℕ) (as_known : A → Known) (same : (x : A) → (as_known x).name ≡ name_of x) where
  -- of a name that is read, the first is the first of those that are read; more follow
  found_in : (from : FromClause) (name : List ℕ) → is_read from name ≡ true → (xs : List A) (kept more : List Known)
      → find (is_known_as name) kept ≡ find (is_known_as name) more
      → find (is_known_as name) (map as_known (filter (λ x. is_read from (name_of x)) xs) ++ kept) ≡ find (is_known_as name) (map as_known xs ++ more)
  found_in from name read [] kept more rest = rest
  found_in from name read (x ∷ xs) kept more rest = two (is_known_as name (as_known x))
      (λ t. let called : is_read from (name_of x) ≡ true = ap (is_read from) (sym (same x) ∙ (bytes_decides (as_known x).name name).0 t) ∙ read in
      ap (λ b. find (is_known_as name) (map as_known (cond b (x ∷ filter (λ y. is_read from (name_of y)) xs) (filter (λ y. is_read from (name_of y)) xs)) ++ kept)) called
      ∙ ap (λ b. cond b (Some (as_known x)) (find (is_known_as name) (map as_known (filter (λ y. is_read from (name_of y)) xs) ++ kept))) t
      ∙ sym (ap (λ b. cond b (Some (as_known x)) (find (is_known_as name) (map as_known xs ++ more))) t))
      (λ t. two (is_read from (name_of x))
      (λ r. ap (λ b. find (is_known_as name) (map as_known (cond b (x ∷ filter (λ y. is_read from (name_of y)) xs) (filter (λ y. is_read from (name_of y)) xs)) ++ kept)) r
      ∙ ap (λ b. cond b (Some (as_known x)) (find (is_known_as name) (map as_known (filter (λ y. is_read from (name_of y)) xs) ++ kept))) t
      ∙ found_in from name read xs kept more rest
      ∙ sym (ap (λ b. cond b (Some (as_known x)) (find (is_known_as name) (map as_known xs ++ more))) t))
      (λ r. ap (λ b. find (is_known_as name) (map as_known (cond b (x ∷ filter (λ y. is_read from (name_of y)) xs) (filter (λ y. is_read from (name_of y)) xs)) ++ kept)) r
      ∙ found_in from name read xs kept more rest
      ∙ sym (ap (λ b. cond b (Some (as_known x)) (find (is_known_as name) (map as_known xs ++ more))) t)))

append_none : {A : Type 0} (xs : List A) → xs ++ [] ≡ xs
append_none [] = refl
append_none (x ∷ xs) = ap (λ l. x ∷ l) (append_none xs)

found_alike : (from : FromClause) (database : PlainDatabase) (system : List NamedAnswer) (name : List ℕ) → is_read from name ≡ true
    → find (is_known_as name) (known_read from database system) ≡ find (is_known_as name) (known database system)
found_alike from database system name read =
    found_in (λ (named : plain.NamedTable). named.name) known_table (λ named. refl) from name read database
    (map known_system (filter (λ named. is_read from named.name) system)) (map known_system system)
    (ap (find (is_known_as name)) (sym (append_none (map known_system (filter (λ (named : NamedAnswer). is_read from named.name) system))))
    ∙ found_in (λ (named : NamedAnswer). named.name) known_system (λ named. refl) from name read system [] [] refl
    ∙ ap (find (is_known_as name)) (append_none (map known_system system)))

-- ---- each source is read

read_alike : (from : FromClause) (database : PlainDatabase) (system : List NamedAnswer) (source : TableSource) → is_read from source.table ≡ true
    → source_read (known_read from database system) source ≡ source_read (known database system) source
unfolding source_read
read_alike from database system source read =
    ap (λ found. and_then (or_refuse 1146 found) (λ found. Ok (read_as (source_name source) found))) (found_alike from database system source.table read)

-- a join of the list
any_join : (joins more : List Join) (join : Join) → list_any (λ (other : Join). bytes_eq join.source.table other.source.table) (joins ++ join ∷ more) ≡ true
any_join [] more join = ap (λ b. b || list_any (λ (other : Join). bytes_eq join.source.table other.source.table) more) (same_first join.source.table)
any_join (other ∷ joins) more join = or_right (bytes_eq join.source.table other.source.table) (any_join joins more join)
  where
    or_right : (a : Bool) {b : Bool} → b ≡ true → (a || b) ≡ true
    or_right true h = refl
    or_right false h = h

each_alike : (f g : TableSource → Outcome Read) (x : TableSource) (xs : List TableSource) → f x ≡ g x → each f xs ≡ each g xs → each f (x ∷ xs) ≡ each g (x ∷ xs)
each_alike f g x xs p q = λ i. and_then (p i) (λ y. and_then (q i) (λ ys. Ok (y ∷ ys)))

joins_alike : (from : FromClause) (database : PlainDatabase) (system : List NamedAnswer) (before joins : List Join) → before ++ joins ≡ from.joins
    → each (source_read (known_read from database system)) (map (λ (join : Join). join.source) joins) ≡ each (source_read (known database system)) (map (λ (join : Join). join.source) joins)
joins_alike from database system before [] all = refl
joins_alike from database system before (join ∷ joins) all =
    each_alike (source_read (known_read from database system)) (source_read (known database system)) join.source (map (λ (join : Join). join.source) joins)
    (read_alike from database system join.source
    (or_late (bytes_eq join.source.table from.first.table) (ap (list_any (λ (other : Join). bytes_eq join.source.table other.source.table)) (sym all) ∙ any_join before joins join)))
    (joins_alike from database system (before ++ join ∷ []) joins (shifted before join joins ∙ all))
  where
    shifted : (before : List Join) (join : Join) (joins : List Join) → (before ++ join ∷ []) ++ joins ≡ before ++ join ∷ joins
    shifted [] join joins = refl
    shifted (x ∷ before) join joins = ap (λ l. x ∷ l) (shifted before join joins)

sources_alike : (from : FromClause) (database : PlainDatabase) (system : List NamedAnswer)
    → each (source_read (known_read from database system)) (sources_of from) ≡ each (source_read (known database system)) (sources_of from)
sources_alike from database system =
    each_alike (source_read (known_read from database system)) (source_read (known database system)) from.first (map (λ (join : Join). join.source) from.joins)
    (read_alike from database system from.first (ap (λ b. b || list_any (λ (join : Join). bytes_eq from.first.table join.source.table) from.joins) (same_first from.first.table)))
    (joins_alike from database system [] from.joins refl)

pub reads_suffice : ReadsSuffice
reads_suffice database system query = ap (λ sources. and_then sources (λ sources. query_on sources query)) (sources_alike query.from database system)
