-- Databases side by side: pairs joined, and that what they tell is the refusal.
use Rattle.std.proofs.Common.{append-nil, ◌≡◌, ◌≤◌, ◌<◌, ◌-◌, refl, sym, ap, ◌∙◌, subst, arith, ℕ, suc, Bool, true, false, cond, ◌&&◌, ◌||◌, not, List, [], ◌∷◌, ◌++◌, find, bytes_eq, length, take, drop, slice_index_or, Option, Some, None}
use Rattle.std.specs.List.{AllByRecursion, list_any}
use Rattle.std.specs.Option.{option_map, option_map_or}
use Rattle.std.proofs.lemmas.Bool.{or_left as or_true}
use Rattle.tuple_codec.proofs.Arithmetic.{none_long, one_less}
use Rattle.tuple_codec.proofs.Lists.{take_whole as take_all}
use Rattle.tuple_codec.specs.Rows.{Cells, key_of, same_cells}
use Rattle.tuple_codec.specs.declared.addresses.Address.{Address}
use Rattle.schema_model.specs.declared.schemas.CheckDef.{CheckDef}
use Rattle.schema_model.specs.declared.schemas.ForeignKey.{ForeignKey}
use Rattle.schema_model.specs.declared.schemas.Schema.{Schema}
use Rattle.schema_model.specs.PlainTables.{IsDatabase, NamedTable, PlainDatabase, PlainTable}
use Rattle.chunk_store.specs.Chunks.{Chunks}
use Rattle.plain_writes.specs.Violations.{Checks, breaks_check, first_violation, is_called, is_whole, keys_of_parent, parent_keys, table_in}
use Rattle.schema_model.specs.Schemas.{is_schema}
use Rattle.table_root.specs.Standing.{AreThere, IsTableOf, named_tables}
use Rattle.table_root.specs.declared.records.StoredTable.{StoredTable}
use Rattle.table_root.specs.declared.records.TableEntry as entries
use Rattle.table_root.specs.Rows.{AreRowsAt}
use Rattle.constraint_scan.specs.Changed.{ChangesTell, has_just, is_failed, is_missed, is_missed_row, is_orphan, is_orphan_by, is_repeated, repeats_by, some_changed, some_deserted}
use Rattle.constraint_scan.specs.Pairs.{ArePairs, HasRoot, IsPair, come_of, deserts, some_come, some_deserts, told_by_pairs}
use Rattle.violation_lists.specs.Scanning.{skeleton}
use Rattle.constraint_scan.specs.declared.pairing.Pair.{Pair}
use Rattle.constraint_scan.proofs.LostLemmas.{keys_alike}
use Rattle.constraint_scan.proofs.MemberLemmas.{any_filtered}
use Rattle.violation_lists.proofs.NameLemmas.{Finds, each_found}

-- what the first of some pairs and the others are of
pub record PairParts (address : List ℕ → List ℕ) (chunks : Chunks) (before after : PlainDatabase) (first : Pair) (rest : List Pair) : Type 0 where
  pub old : NamedTable
  pub olds : PlainDatabase
  pub new : NamedTable
  pub news : PlainDatabase
  pub before_is : before ≡ old ∷ olds
  pub after_is : after ≡ new ∷ news
  pub is : IsPair address chunks first old new
  pub are : ArePairs address chunks rest olds news

module _ (address : List ℕ → List ℕ) (chunks : Chunks) where
  pub pair_parts : (pairs : List Pair) (before after : PlainDatabase) (first : Pair) → ArePairs address chunks pairs before after → first ≡ slice_index_or pairs 0 first → 1 ≤ length pairs
      → PairParts address chunks before after first (take (length pairs - 1) (drop 1 pairs))
  pair_parts [] before after first are is long = absurd (none_long (length {A = Pair} []) long refl)
  pair_parts (pair ∷ pairs) [] after first are is long = absurd are
  pair_parts (pair ∷ pairs) (b ∷ before) [] first are is long = absurd are
  pair_parts (pair ∷ pairs) (b ∷ before) (a ∷ after) first are is long = record {
    old = b;
    olds = before;
    new = a;
    news = after;
    before_is = refl;
    after_is = refl;
    is = subst (λ (p : Pair). IsPair address chunks p b a) (sym is) are.0;
    are = subst (λ (l : List Pair). ArePairs address chunks l before after) (sym (ap (λ n. take n pairs) (one_less (length pairs)) ∙ take_all pairs)) are.1;
  }

  -- no pairs are of no tables
  pub no_pairs : (pairs : List Pair) (before after : PlainDatabase) → ArePairs address chunks pairs before after → length pairs ≡ 0 → (before ≡ []) × (after ≡ [])
  no_pairs [] [] [] are none = (refl, refl)
  no_pairs [] [] (a ∷ after) are none = absurd are
  no_pairs [] (b ∷ before) after are none = absurd are
  no_pairs (pair ∷ pairs) before after are none = absurd (no_suc (length pairs) none)
    where
      no_suc : (n : ℕ) → suc n ≡ 0 → ⊥
      no_suc n e = omega arith

  -- pairs behind others
  pub pairs_joined : (pairs more : List Pair) (done made before after : PlainDatabase) → ArePairs address chunks pairs done made → ArePairs address chunks more before after
      → ArePairs address chunks (pairs ++ more) (done ++ before) (made ++ after)
  pairs_joined [] more [] [] before after are also = also
  pairs_joined [] more [] (a ∷ made) before after are also = absurd are
  pairs_joined [] more (b ∷ done) made before after are also = absurd are
  pairs_joined (pair ∷ pairs) more [] made before after are also = absurd are
  pairs_joined (pair ∷ pairs) more (b ∷ done) [] before after are also = absurd are
  pairs_joined (pair ∷ pairs) more (b ∷ done) (a ∷ made) before after are also = (are.0, pairs_joined pairs more done made before after are.1 also)

  -- none behind others
  pub none_joined : (pairs : List Pair) (done made before after : PlainDatabase) → ArePairs address chunks pairs done made → before ≡ [] → after ≡ [] → ArePairs address chunks pairs (done ++ before) (made ++ after)
  none_joined pairs done made before after are none nothing =
      subst (λ (d : PlainDatabase). ArePairs address chunks pairs d (made ++ after)) (sym (append-nil done) ∙ ap (λ (d : PlainDatabase). done ++ d) (sym none))
      (subst (ArePairs address chunks pairs done) (sym (append-nil made) ∙ ap (λ (d : PlainDatabase). made ++ d) (sym nothing)) are)

  -- no entries name no tables
  pub no_tables : (database : PlainDatabase) (tables : List entries.TableEntry) → AreThere address chunks database tables → length tables ≡ 0 → database ≡ []
  no_tables [] tables there none = refl
  no_tables (named ∷ others) tables there none = absurd (no_less (length (named_tables address others)) (sym (ap length there.listed) ∙ none))
    where
      no_less : (n : ℕ) → suc n ≡ 0 → ⊥
      no_less n e = omega arith

  -- they have the same names and schemas
  pub skeletons : (pairs : List Pair) (before after : PlainDatabase) → ArePairs address chunks pairs before after → skeleton before ≡ skeleton after
  skeletons [] [] [] are = refl
  skeletons [] [] (a ∷ after) are = absurd are
  skeletons [] (b ∷ before) after are = absurd are
  skeletons (pair ∷ pairs) [] after are = absurd are
  skeletons (pair ∷ pairs) (b ∷ before) [] are = absurd are
  skeletons (pair ∷ pairs) (b ∷ before) (a ∷ after) are =
      let one = are.0 in
      λ i. record { name = one.old_name i; table = record { schema = one.schema i; rows = []; conflicts = []; violations = [] } } ∷ skeletons pairs before after are.1 i

  -- ---- rows that came are those that changed

  module _ (old : PlainDatabase) (breaks : NamedTable → Cells → Bool) where
    table_come : (pair : Pair) (b a : NamedTable) → IsPair address chunks pair b a → Finds old b
        → list_any (breaks a) (come_of b.table.rows a.table.rows) ≡ list_any (λ row. not (has_just old a.name row) && breaks a row) a.table.rows
    table_come pair b a is finds =
        any_filtered (breaks a) (λ row. not (list_any (same_cells row) b.table.rows)) a.table.rows
        ∙ ap (λ (o : Option PlainTable). list_any (λ row. not (option_map_or (λ (table : PlainTable). list_any (same_cells row) table.rows) o false) && breaks a row) a.table.rows)
        (sym (sym (ap (table_in old) is.old_name) ∙ finds))

    pub come_changed : (pairs : List Pair) (before after : PlainDatabase) → ArePairs address chunks pairs before after → AllByRecursion (Finds old) before
        → some_come breaks before after ≡ some_changed old breaks after
    come_changed [] [] [] are finds = refl
    come_changed [] [] (a ∷ after) are finds = absurd are
    come_changed [] (b ∷ before) after are finds = absurd are
    come_changed (pair ∷ pairs) [] after are finds = absurd are
    come_changed (pair ∷ pairs) (b ∷ before) [] are finds = absurd are
    come_changed (pair ∷ pairs) (b ∷ before) (a ∷ after) are finds = λ i. table_come pair b a are.0 finds.0 i || come_changed pairs before after are.1 finds.1 i

  -- ---- and parent rows that came back to front those that went

  module _ (new : PlainDatabase) (child : PlainTable) (foreign : ForeignKey) where
    abbrev gone : PlainDatabase → PlainTable → Cells → Bool
    gone tables parent row = not (has_just tables foreign.parent row) && is_missed_row new child foreign parent row

    here : (pair : Pair) (b a : NamedTable) (after : PlainDatabase) → IsPair address chunks pair b a → bytes_eq a.name foreign.parent ≡ true
        → list_any (is_missed_row new child foreign a.table) (come_of a.table.rows b.table.rows) ≡ list_any (gone (a ∷ after) b.table) b.table.rows
    here pair b a after is named =
        any_filtered (is_missed_row new child foreign a.table) (λ row. not (list_any (same_cells row) a.table.rows)) b.table.rows
        ∙ (λ i. list_any (λ row. not (option_map_or (λ (table : PlainTable). list_any (same_cells row) table.rows) (there i) false)
        && list_any (is_missed new child foreign) (keys_alike child.schema foreign a.table b.table row (sym is.schema) i)) b.table.rows)
      where
        there : Some a.table ≡ table_in (a ∷ after) foreign.parent
        there = sym (ap (λ t. option_map (λ (n : NamedTable). n.table) (cond t (Some a) (find (is_called foreign.parent) after))) named)

    pub deserts_told : (pairs : List Pair) (before after : PlainDatabase) → ArePairs address chunks pairs before after
        → deserts new child foreign before after ≡ option_map_or (λ parent. list_any (gone after parent) parent.rows) (table_in before foreign.parent) false
    deserts_told [] [] [] are = refl
    deserts_told [] [] (a ∷ after) are = absurd are
    deserts_told [] (b ∷ before) after are = absurd are
    deserts_told (pair ∷ pairs) [] after are = absurd are
    deserts_told (pair ∷ pairs) (b ∷ before) [] are = absurd are
    deserts_told (pair ∷ pairs) (b ∷ before) (a ∷ after) are =
        let is = are.0 in
        by_test (bytes_eq a.name foreign.parent) refl is (deserts_told pairs before after are.1)
        ∙ ap (λ n. option_map_or (λ (parent : PlainTable). list_any (gone (a ∷ after) parent) parent.rows) (option_map (λ (n : NamedTable). n.table) (cond (bytes_eq n foreign.parent) (Some b) (find (is_called foreign.parent) before))) false)
        (sym is.old_name)
      where
        by_test : (t : Bool) → bytes_eq a.name foreign.parent ≡ t → IsPair address chunks pair b a
            → deserts new child foreign before after ≡ option_map_or (λ (parent : PlainTable). list_any (gone after parent) parent.rows) (table_in before foreign.parent) false
            → cond t (list_any (is_missed_row new child foreign a.table) (come_of a.table.rows b.table.rows)) (deserts new child foreign before after)
            ≡ option_map_or (λ (parent : PlainTable). list_any (gone (a ∷ after) parent) parent.rows) (option_map (λ (n : NamedTable). n.table) (cond t (Some b) (find (is_called foreign.parent) before))) false
        by_test true e is more = here pair b a after is e
        by_test false e is more =
            more
            ∙ ap (λ (o : Option PlainTable). option_map_or (λ (parent : PlainTable). list_any (λ row. not (option_map_or (λ (table : PlainTable). list_any (same_cells row) table.rows) o false)
            && is_missed_row new child foreign parent row) parent.rows) (table_in before foreign.parent) false)
            (sym (ap (λ t. option_map (λ (n : NamedTable). n.table) (cond t (Some a) (find (is_called foreign.parent) after))) e))

  -- ---- together

  pub pairs_tell : ChangesTell → (checks : Checks) (pairs : List Pair) (old new : PlainDatabase) → ArePairs address chunks pairs old new → IsDatabase old → IsDatabase new
      → first_violation checks old new ≡ told_by_pairs checks old new
  pairs_tell tell checks pairs old new are was is =
      tell.changes checks old new (record { old_is = was; new_is = is; same = skeletons pairs old new are })
      ∙ (λ i. cond (sym (came is_repeated) i) (Some 1062) (cond (sym (came (is_failed checks)) i) (Some 3819) (cond (sym (came (is_orphan new)) i) (Some 1452) (cond (sym went i) (Some 1451) None))))
    where
      came : (breaks : NamedTable → Cells → Bool) → some_come breaks old new ≡ some_changed old breaks new
      came breaks = come_changed old breaks pairs old new are (each_found old was.rise)

      went : some_deserts old new new ≡ some_deserted old new
      went = λ i. list_any (λ (named : NamedTable). list_any (λ foreign. deserts_told new named.table foreign pairs old new are i) named.table.schema.foreign) new

-- ---- the rows of a table's value

module _ (address : List ℕ → List ℕ) (chunks : Chunks) (table : StoredTable) (contents : PlainTable) (stands : IsTableOf address chunks table contents) where
  pub schema_at : table.schema ≡ contents.schema
  schema_at = ap (λ (t : StoredTable). t.schema) stands.value

  pub valid_at : is_schema table.schema ≡ true
  valid_at = let is = stands.is_table in ap is_schema schema_at ∙ is.schema

  pub rows_at : AreRowsAt address chunks table.rows.0 table.schema contents.rows
  rows_at =
      let is = stands.is_table in
      let trees = stands.trees in
      subst (λ (t : StoredTable). AreRowsAt address chunks t.rows.0 t.schema contents.rows) (sym stands.value) (record { fit = is.rows; tree = trees.rows })

  -- the root of its rows, by the schema that it has
  pub root_of : (schema : Schema) → table.schema ≡ schema → HasRoot address chunks table.rows.0 schema contents
  root_of schema same = record {
    same = sym schema_at ∙ same;
    rows = subst (λ (s : Schema). AreRowsAt address chunks table.rows.0 s contents.rows) same rows_at;
  }

-- ---- a parent among tables

module _ (schema : Schema) (foreign : ForeignKey) (a : NamedTable) (after : PlainDatabase) where
  pub parent_here : bytes_eq a.name foreign.parent ≡ true → parent_keys (a ∷ after) schema foreign ≡ keys_of_parent schema foreign a.table
  parent_here e = ap (λ t. option_map_or (keys_of_parent schema foreign) (option_map (λ (n : NamedTable). n.table) (cond t (Some a) (find (is_called foreign.parent) after))) []) e

  pub parent_past : bytes_eq a.name foreign.parent ≡ false → parent_keys (a ∷ after) schema foreign ≡ parent_keys after schema foreign
  parent_past e = ap (λ t. option_map_or (keys_of_parent schema foreign) (option_map (λ (n : NamedTable). n.table) (cond t (Some a) (find (is_called foreign.parent) after))) []) e

-- ---- what functions over pairs find

or_false : (a b : Bool) → a ≡ false → (a || b) ≡ b
or_false a b e = ap (λ t. t || b) e

module _ (address : List ℕ → List ℕ) (chunks : Chunks) where
  module _ (breaks : NamedTable → Cells → Bool) (old new : PlainDatabase) (first : Pair) (rest : List Pair) (parts : PairParts address chunks old new first rest) where
    pub first_so : list_any (breaks parts.new) (come_of parts.old.table.rows parts.new.table.rows) ≡ true → some_come breaks old new ≡ true
    first_so e =
        (λ i. some_come breaks (parts.before_is i) (parts.after_is i))
        ∙ or_true (list_any (breaks parts.new) (come_of parts.old.table.rows parts.new.table.rows)) (some_come breaks parts.olds parts.news) e

    pub first_not : list_any (breaks parts.new) (come_of parts.old.table.rows parts.new.table.rows) ≡ false → some_come breaks old new ≡ some_come breaks parts.olds parts.news
    first_not e =
        (λ i. some_come breaks (parts.before_is i) (parts.after_is i))
        ∙ or_false (list_any (breaks parts.new) (come_of parts.old.table.rows parts.new.table.rows)) (some_come breaks parts.olds parts.news) e

  pub none_come : (breaks : NamedTable → Cells → Bool) (pairs : List Pair) (old new : PlainDatabase) → ArePairs address chunks pairs old new → length pairs ≡ 0 → some_come breaks old new ≡ false
  none_come breaks pairs old new are none = let both = no_pairs address chunks pairs old new are none in λ i. some_come breaks (both.0 i) (both.1 i)

  module _ (pair : Pair) (b a : NamedTable) (is : IsPair address chunks pair b a) where
    schema_is : pair.new.schema ≡ a.table.schema
    schema_is = schema_at address chunks pair.new a.table is.new

    pub orphan_come : (after : PlainDatabase) (rows : List Cells) → rows ≡ pair.come
        → list_any (λ row. list_any (is_orphan_by after pair.new.schema row) pair.new.schema.foreign) rows ≡ list_any (is_orphan after a) (come_of b.table.rows a.table.rows)
    orphan_come after rows same =
        let whole = same ∙ is.come in
        λ i. list_any (λ row. list_any (is_orphan_by after (schema_is i) row) (schema_is i).foreign) (whole i)

    module _ (rows : List Cells) (rows_are : rows ≡ pair.come) where
      pub repeated_come : list_any (λ row. list_any (repeats_by a.table row) a.table.schema.indexes) rows ≡ list_any (is_repeated a) (come_of b.table.rows a.table.rows)
      repeated_come = ap (list_any (is_repeated a)) (rows_are ∙ is.come)

      pub failed_come : (checks : Checks) (name : List ℕ) → name ≡ pair.name
          → list_any (λ row. list_any (λ (check : CheckDef). breaks_check (checks name pair.new.schema check.text) row) pair.new.schema.checks) rows ≡ list_any (is_failed checks a) (come_of b.table.rows a.table.rows)
      failed_come checks name called =
          λ i. list_any (λ row. list_any (λ (check : CheckDef). breaks_check (checks ((called ∙ is.name) i) (schema_is i) check.text) row) (schema_is i).checks) ((rows_are ∙ is.come) i)

-- ---- the first of a list, and the others

pub none_below : {A : Type 0} (xs : List A) → length xs < 1 → length xs ≡ 0
none_below xs few = omega arith

-- a list by its first item and those behind it
pub by_first : {A : Type 0} (xs : List A) (first : A) → first ≡ slice_index_or xs 0 first → 1 ≤ length xs → xs ≡ first ∷ take (length xs - 1) (drop 1 xs)
by_first {A = A} [] first is long = absurd (none_long (length {A = A} []) long refl)
by_first (x ∷ xs) first is long = λ i. sym is i ∷ sym (ap (λ n. take n xs) (one_less (length xs)) ∙ take_all xs) i

module _ (address : List ℕ → List ℕ) (chunks : Chunks) (foreign : ForeignKey) (old new : PlainDatabase) (first : Pair) (rest : List Pair) (parts : PairParts address chunks old new first rest) where
  name_is : (t : Bool) → bytes_eq first.name foreign.parent ≡ t → bytes_eq parts.new.name foreign.parent ≡ t
  name_is t e = ap (λ n. bytes_eq n foreign.parent) (sym parts.is.name) ∙ e

  module _ (after : PlainDatabase) (contents : PlainTable) where
    pub deserts_first : bytes_eq first.name foreign.parent ≡ true
        → deserts after contents foreign old new ≡ list_any (is_missed_row after contents foreign parts.new.table) (come_of parts.new.table.rows parts.old.table.rows)
    deserts_first e =
        (λ i. deserts after contents foreign (parts.before_is i) (parts.after_is i))
        ∙ ap (λ t. cond t (list_any (is_missed_row after contents foreign parts.new.table) (come_of parts.new.table.rows parts.old.table.rows)) (deserts after contents foreign parts.olds parts.news)) (name_is true e)

    pub deserts_rest : bytes_eq first.name foreign.parent ≡ false → deserts after contents foreign old new ≡ deserts after contents foreign parts.olds parts.news
    deserts_rest e =
        (λ i. deserts after contents foreign (parts.before_is i) (parts.after_is i))
        ∙ ap (λ t. cond t (list_any (is_missed_row after contents foreign parts.new.table) (come_of parts.new.table.rows parts.old.table.rows)) (deserts after contents foreign parts.olds parts.news)) (name_is false e)

  module _ (q : Cells → Bool) (schema : Schema) where
    pub leads_first : bytes_eq first.name foreign.parent ≡ true → list_any q (parent_keys new schema foreign) ≡ list_any q (keys_of_parent schema foreign parts.new.table)
    leads_first e = ap (λ (d : PlainDatabase). list_any q (parent_keys d schema foreign)) parts.after_is ∙ ap (list_any q) (parent_here schema foreign parts.new parts.news (name_is true e))

    pub leads_rest : bytes_eq first.name foreign.parent ≡ false → list_any q (parent_keys new schema foreign) ≡ list_any q (parent_keys parts.news schema foreign)
    leads_rest e = ap (λ (d : PlainDatabase). list_any q (parent_keys d schema foreign)) parts.after_is ∙ ap (list_any q) (parent_past schema foreign parts.new parts.news (name_is false e))

-- a name that was compared by its bytes
pub named_so : (name parent bytes : List ℕ) (found t : Bool) → bytes ≡ parent → found ≡ bytes_eq name bytes → found ≡ t → bytes_eq name parent ≡ t
named_so name parent bytes found t same told is = ap (bytes_eq name) (sym same) ∙ sym told ∙ is

-- the rows that a pair's table had, by the schema that it has
pub old_rows_at : (address : List ℕ → List ℕ) (chunks : Chunks) (pair : Pair) (b a : NamedTable) → IsPair address chunks pair b a → AreRowsAt address chunks pair.old.0 pair.new.schema b.table.rows
old_rows_at address chunks pair b a is = subst (λ (s : Schema). AreRowsAt address chunks pair.old.0 s b.table.rows) (sym (schema_at address chunks pair.new a.table is.new)) is.old

-- ---- a row's key, and where it leads

module _ (after : PlainDatabase) (schema : Schema) (foreign : ForeignKey) (row key : Cells) (is : key ≡ key_of foreign.columns row) where
  pub orphan_told : (found : Bool) → is_whole key ≡ true → found ≡ list_any (same_cells key) (parent_keys after schema foreign) → not found ≡ is_orphan_by after schema row foreign
  orphan_told found whole told =
      ap not told ∙ (λ i. sym (ap is_whole (sym is) ∙ whole) i && not (list_any (same_cells (is i)) (parent_keys after schema foreign)))

  pub orphan_not : is_whole key ≡ false → false ≡ is_orphan_by after schema row foreign
  orphan_not part = λ i. sym (ap is_whole (sym is) ∙ part) i && not (list_any (same_cells (key_of foreign.columns row)) (parent_keys after schema foreign))

-- ---- a pair as it is made

pub is_paired : (address : List ℕ → List ℕ) (chunks : Chunks) (pair : Pair) (before after : NamedTable) (called : List ℕ) (root : Address) (table : StoredTable) → called ≡ after.name → before.name ≡ after.name
    → HasRoot address chunks root.0 table.schema before.table → IsTableOf address chunks table after.table
    → pair ≡ record { name = called; old = root; new = table; come = come_of before.table.rows after.table.rows } → IsPair address chunks pair before after
is_paired address chunks pair before after called root table name old_name has stands is =
    let now = schema_at address chunks table after.table stands in
    subst (λ (p : Pair). IsPair address chunks p before after) (sym is) (record {
      name = name;
      old_name = old_name;
      schema = has.same ∙ now;
      old = subst (λ (s : Schema). AreRowsAt address chunks root.0 s before.table.rows) now has.rows;
      new = stands;
      come = refl;
    })
