-- What becomes of one name, and of the first of several.
use Rattle.std.proofs.Common.{◌≡◌, ◌≤◌, ◌+◌, refl, sym, ap, ◌∙◌, subst, ℕ, true, false, Bool, List, [], ◌∷◌, length, Option, Some, None, Result, Ok, Err, arith}
use Rattle.tuple_codec.specs.declared.addresses.Address.{Address}
use Rattle.schema_model.specs.Limits.{is_table_within_limits}
use Rattle.schema_model.specs.PlainTables.{PlainTable}
use Rattle.chunk_store.specs.Chunks.{Chunks}
use Rattle.table_root.specs.declared.records.StoredTable.{StoredTable}
use Rattle.schema_merge.specs.RootMerge.{MergedDatabase, MergedTable, SchemaConflict, merged, step, unmerged}
use Rattle.table_merge.specs.Merging.{IsFaultOf, IsMergedTable, PlainSides, merged_contents}
use Rattle.table_merge.specs.declared.faults.MergeFault.{MergeFault}
use Rattle.table_merge.specs.declared.faults.MergeFault.TheVariants as fault
use Rattle.root_merge.specs.Choosing.{LeadsTo}
use Rattle.root_merge.specs.Kept.{AreKeptSides, IsKeptPerhaps}
use Rattle.root_merge.specs.Merging.{AllMerge, IsBecome, IsLimitFault, IsSchemaFault, IsTableMade, of_table, part_in}
use Rattle.root_merge.specs.Names.{LeadTo, Wanted, together}
use Rattle.root_merge.specs.declared.choosing.Choice.{Choice}
use Rattle.root_merge.specs.declared.choosing.Choice.TheVariants as choice
use Rattle.root_merge.specs.declared.names.Named.{Named}
use Rattle.root_merge.specs.declared.tables.Became.{Became}
use Rattle.root_merge.proofs.MergedLemmas.{few_rows, merged_new, rows_in, table_passes}

-- ---- a merge of rows

-- what comes of rows, as it is counted
pub record ComesOf (contents : PlainSides) (all : MergedTable) : Type 0 where
  pub table : PlainTable
  pub is : merged_contents contents ≡ Ok table
  pub all_is : all ≡ of_table table

pub comes_of : (contents : PlainSides) (all : MergedTable) → merged (merged_contents contents) ≡ Ok all → ComesOf contents all
comes_of contents all e = by (merged_contents contents) refl e where
  by : (r : Result PlainTable (List ℕ)) → merged_contents contents ≡ r → merged r ≡ Ok all → ComesOf contents all
  by (Ok table) is same = record { table = table; is = is; all_is = cc }
  by (Err part) is same = absurd cc

ok_same : {A : Type 0} (wanted : Result A (List ℕ)) (x y : A) → wanted ≡ Ok x → wanted ≡ Ok y → x ≡ y
ok_same wanted x y one two = cc

-- a table merged as it was to be has no violations
pub made_of : (address : List ℕ → List ℕ) (chunks : Chunks) (table : StoredTable) (contents : PlainSides) (made : PlainTable) → merged_contents contents ≡ Ok made
    → IsMergedTable address chunks table (merged_contents contents) → IsTableMade address chunks table made
made_of address chunks table contents made is merge =
    subst (λ (t : PlainTable). IsTableMade address chunks table t) (ok_same (merged_contents contents) merge.contents made merge.is is)
    (record { stands = merge.stands; limits = merge.limits; settled = (merged_new contents merge.contents merge.is).1 })

pub fault_limit : (contents : PlainSides) (table : PlainTable) (why : MergeFault) → merged_contents contents ≡ Ok table → IsFaultOf (merged_contents contents) why
    → IsLimitFault (is_table_within_limits table) why
fault_limit contents table fault.Memory is of = tt
fault_limit contents table (fault.Collision clash) is of = tt
fault_limit contents table fault.Limit is of =
    subst (λ (t : PlainTable). is_table_within_limits t ≡ false) (ok_same (merged_contents contents) of.contents table of.is is) (table_passes of.contents of.limits)
fault_limit contents table (fault.Schema name part) is of = clash (merged_contents contents) is of.1 where
  clash : (wanted : Result PlainTable (List ℕ)) → wanted ≡ Ok table → wanted ≡ Err part → ⊥
  clash wanted one two = cc

base_rows : (address : List ℕ → List ℕ) (chunks : Chunks) (k : Option Address) (base : Option PlainTable) → IsKeptPerhaps address chunks k base → rows_in base ≤ 10000000
base_rows address chunks None None kept = omega arith
base_rows address chunks (Some k) (Some table) kept = few_rows table kept.within
base_rows address chunks None (Some table) kept = absurd kept
base_rows address chunks (Some k) None kept = absurd kept

pub conflicts_bound : (address : List ℕ → List ℕ) (chunks : Chunks) (base : Option Address) (ours theirs : Address) (contents : PlainSides) (table : PlainTable)
    → AreKeptSides address chunks base ours theirs contents → merged_contents contents ≡ Ok table → length table.conflicts ≤ 30000000
conflicts_bound address chunks base ours theirs contents table kept is =
    let all = (merged_new contents table is).0 in
    let b = base_rows address chunks base contents.base kept.base_side in
    let o = few_rows contents.ours kept.our_side.within in
    let t = few_rows contents.theirs kept.their_side.within in
    omega (arith, all, b, o, t)

-- ---- one name

-- rows whose merge comes to this
pub record AreRowsFor (address : List ℕ → List ℕ) (chunks : Chunks) (base : Option Address) (ours theirs : Address) (all : MergedTable) : Type 0 where
  pub contents : PlainSides
  pub table : PlainTable
  pub kept : AreKeptSides address chunks base ours theirs contents
  pub is : merged_contents contents ≡ Ok table
  pub all_is : all ≡ of_table table

pub rows_for : (address : List ℕ → List ℕ) (chunks : Chunks) (base : Option Address) (ours theirs : Address) (made : Choice) (wanted : Result MergedTable (List ℕ)) (all : MergedTable)
    → made ≡ choice.Rows base ours theirs → LeadsTo address chunks made wanted → wanted ≡ Ok all → AreRowsFor address chunks base ours theirs all
rows_for address chunks base ours theirs made wanted all chosen leads is =
    let own : LeadsTo address chunks (choice.Rows base ours theirs) wanted = subst (λ (c : Choice). LeadsTo address chunks c wanted) chosen leads in
    let comes = comes_of own.0 all (sym own.2 ∙ is) in
    record { contents = own.0; table = comes.table; kept = own.1; is = comes.is; all_is = comes.all_is }

pub whole_for : (address : List ℕ → List ℕ) (chunks : Chunks) (whole : Option Address) (made : Choice) (wanted : Result MergedTable (List ℕ)) (all : MergedTable)
    → made ≡ choice.Whole whole → LeadsTo address chunks made wanted → wanted ≡ Ok all → IsBecome address chunks (record { table = whole; conflicts = 0 }) all
whole_for address chunks whole made wanted all chosen leads is =
    let own : LeadsTo address chunks (choice.Whole whole) wanted = subst (λ (c : Choice). LeadsTo address chunks c wanted) chosen leads in
    let same = ok_same wanted (unmerged own.0) all own.2 is in
    subst (λ (m : MergedTable). IsBecome address chunks (record { table = whole; conflicts = 0 }) m) same (record { table = own.1; conflicts = refl })

pub nothing_for : (address : List ℕ → List ℕ) (chunks : Chunks) (made : Choice) (wanted : Result MergedTable (List ℕ)) (all : MergedTable)
    → made ≡ choice.Nothing → LeadsTo address chunks made wanted → wanted ≡ Ok all → ⊥
nothing_for address chunks made wanted all chosen leads is =
    let own : wanted ≡ Err [] = subst (λ (c : Choice). LeadsTo address chunks c wanted) chosen leads in
    clash wanted own is where
      clash : (wanted : Result MergedTable (List ℕ)) → wanted ≡ Err [] → wanted ≡ Ok all → ⊥
      clash wanted one two = cc

-- ---- the first of several

pub record AreLed (address : List ℕ → List ℕ) (chunks : Chunks) (named : Named) (names : List Named) (wanted : List Wanted) : Type 0 where
  pub first : Wanted
  pub more : List Wanted
  pub is : wanted ≡ first ∷ more
  pub name : named.name ≡ first.name
  pub leads : LeadsTo address chunks named.choice first.table
  pub rest : LeadTo address chunks names more

pub led : (address : List ℕ → List ℕ) (chunks : Chunks) (named : Named) (names all : List Named) (wanted : List Wanted) → all ≡ named ∷ names → LeadTo address chunks all wanted
    → AreLed address chunks named names wanted
led address chunks named names all wanted is lead = by wanted (subst (λ (list : List Named). LeadTo address chunks list wanted) is lead) where
  by : (wanted : List Wanted) → LeadTo address chunks (named ∷ names) wanted → AreLed address chunks named names wanted
  by [] l = absurd l
  by (w ∷ more) l = record { first = w; more = more; is = refl; name = l.0; leads = l.1; rest = l.2 }

pub led_none : (address : List ℕ → List ℕ) (chunks : Chunks) (all : List Named) (wanted : List Wanted) → all ≡ [] → LeadTo address chunks all wanted → wanted ≡ []
led_none address chunks all wanted is lead = by wanted (subst (λ (list : List Named). LeadTo address chunks list wanted) is lead) where
  by : (wanted : List Wanted) → LeadTo address chunks [] wanted → wanted ≡ []
  by [] l = refl
  by (w ∷ more) l = absurd l

-- ---- schemas of several

pub none_merge : (wanted : List Wanted) → wanted ≡ [] → AllMerge (together wanted)
none_merge wanted is = (record { database = []; conflicts = 0 }, ap together is)

pub part_first : (wanted : List Wanted) (first : Wanted) (more : List Wanted) (name part : List ℕ) → wanted ≡ first ∷ more → name ≡ first.name → Some part ≡ part_in first.table
    → together wanted ≡ Err (record { table = name; part = part })
part_first wanted first more name part is named told =
    ap together is ∙ (by first.table refl told) where
      by : (r : Result MergedTable (List ℕ)) → first.table ≡ r → Some part ≡ part_in r → step first.name r (together more) ≡ Err (record { table = name; part = part })
      by (Ok m) e t = absurd cc
      by (Err p) e t = cc

-- the first merges, and so all do where the others do
pub first_merges : (wanted : List Wanted) (first : Wanted) (more : List Wanted) → wanted ≡ first ∷ more → None ≡ part_in first.table → AllMerge (together more) → AllMerge (together wanted)
first_merges wanted first more is told rest = subst (λ (list : List Wanted). AllMerge (together list)) (sym is) (by first.table told (together more) rest) where
  by : (r : Result MergedTable (List ℕ)) → None ≡ part_in r → (others : Result MergedDatabase SchemaConflict) → AllMerge others → AllMerge (step first.name r others)
  by (Err p) t others all = absurd cc
  by (Ok one) t (Ok m) all = (_, refl)
  by (Ok one) t (Err conflict) all = absurd cc

pub later_fault : (wanted : List Wanted) (first : Wanted) (more : List Wanted) (why : MergeFault) → wanted ≡ first ∷ more → None ≡ part_in first.table → IsSchemaFault (together more) why
    → IsSchemaFault (together wanted) why
later_fault wanted first more why is told of = subst (λ (list : List Wanted). IsSchemaFault (together list) why) (sym is) (by why of) where
  past : (r : Result MergedTable (List ℕ)) (table part : List ℕ) → None ≡ part_in r → together more ≡ Err (record { table = table; part = part })
      → step first.name r (together more) ≡ Err (record { table = table; part = part })
  past (Err p) table part t e = absurd cc
  past (Ok one) table part t e = ap (step first.name (Ok one)) e

  by : (why : MergeFault) → IsSchemaFault (together more) why → IsSchemaFault (step first.name first.table (together more)) why
  by fault.Memory o = tt
  by (fault.Collision clash) o = absurd o
  by fault.Limit o = absurd o
  by (fault.Schema table part) o = past first.table table part told o
