-- Whole databases: what all names come to, step by step, and what is answered.
use Rattle.std.proofs.Common.{◌≡◌, ◌≤◌, ◌<◌, ◌^◌, ◌+◌, ◌-◌, ◌*◌, refl, sym, ap, ◌∙◌, subst, ℕ, suc, true, false, Bool, List, [], ◌∷◌, ◌++◌, length, take, drop, map, Option, Some, None, Result, Ok, Err, arith}
use Rattle.tuple_codec.proofs.Lists.{none_below}
use Rattle.tuple_codec.specs.declared.addresses.Address.{Address}
use Rattle.schema_model.specs.Limits.{is_database_within_limits}
use Rattle.schema_model.specs.PlainTables.{PlainDatabase, PlainTable}
use Rattle.chunk_store.specs.Chunks.{Chunks, Extends}
use Rattle.table_root.specs.Standing.{TablesStand, named_tables}
use Rattle.table_root.specs.declared.records.TableEntry.{TableEntry}
use Rattle.table_root.proofs.ListingLemmas.{made_count}
use Rattle.schema_merge.specs.RootMerge.{MergedDatabase, MergedTable, SchemaConflict, root3, with_table}
use Rattle.table_merge.specs.Merging.{IsMergeReason}
use Rattle.table_merge.specs.declared.faults.MergeFault.{MergeFault}
use Rattle.table_merge.specs.declared.faults.MergeFault.TheVariants as fault
use Rattle.root_merge.specs.Choosing.{LeadsTo}
use Rattle.root_merge.specs.Kept.{AreKept, IsKeptPerhaps}
use Rattle.root_merge.specs.Merging.{AllMerge, AreMade, AreRoots, CanMerge, HaveTableNames, IsFaultOf, IsLimitFault, IsMadeOf, IsMergedDatabase, IsSchemaFault, are_within, is_within_perhaps}
use Rattle.root_merge.specs.Names.{LeadTo, Wanted, all_wanted, listed_as, together}
use Rattle.root_merge.specs.declared.merging.Merged.{Merged}
use Rattle.root_merge.specs.declared.names.Named.{Named}
use Rattle.root_merge.proofs.ChoiceLemmas.{led, led_none}
use Rattle.root_merge.proofs.KeptLemmas.{by_first, kept_named}
use Rattle.root_merge.proofs.MadeLemmas.{all_made, first_passes, later_passes, lead_later, made_joined, made_later, made_one, table_first}
use Rattle.root_merge.proofs.MergedLemmas.{database_passes, merged_named, step_parts, too_many}
use Rattle.root_merge.proofs.NameLemmas.{root_together}

-- ---- faults

limit_weaker : (a b : Bool) (why : MergeFault) → (a ≡ false → b ≡ false) → IsLimitFault a why → IsLimitFault b why
limit_weaker a b fault.Memory so of = tt
limit_weaker a b (fault.Collision clash) so of = tt
limit_weaker a b fault.Limit so of = so of
limit_weaker a b (fault.Schema table part) so of = absurd of

pub schema_fault : (b o t : PlainDatabase) (why : MergeFault) → IsSchemaFault (together (all_wanted b o t)) why → IsFaultOf (root3 b o t) why
schema_fault b o t fault.Memory of = tt
schema_fault b o t (fault.Collision clash) of = absurd of
schema_fault b o t fault.Limit of = absurd of
schema_fault b o t (fault.Schema table part) of = root_together b o t ∙ of

pub schema_reason : (address : List ℕ → List ℕ) (chunks : Chunks) (wanted : Result MergedDatabase SchemaConflict) (why : MergeFault) → IsSchemaFault wanted why → IsMergeReason address chunks why
schema_reason address chunks wanted fault.Memory of = tt
schema_reason address chunks wanted (fault.Collision clash) of = absurd of
schema_reason address chunks wanted fault.Limit of = absurd of
schema_reason address chunks wanted (fault.Schema table part) of = tt

pub limit_fault : (b o t : PlainDatabase) (merged : MergedDatabase) (why : MergeFault) → together (all_wanted b o t) ≡ Ok merged → IsLimitFault (is_database_within_limits merged.database) why
    → IsFaultOf (root3 b o t) why
limit_fault b o t merged fault.Memory comes of = tt
limit_fault b o t merged (fault.Collision clash) comes of = tt
limit_fault b o t merged fault.Limit comes of = record { merged = merged; is = root_together b o t ∙ comes; limits = of }
limit_fault b o t merged (fault.Schema table part) comes of = absurd of

-- ---- the first name

-- the first of several names that lead to what their tables come to, and the others
pub record IsStep (address : List ℕ → List ℕ) (chunks : Chunks) (named : Named) (names : List Named) (wanted : List Wanted) (merged : MergedDatabase) : Type 0 where
  pub table : Result MergedTable (List ℕ)
  pub one : MergedTable
  pub more : List Wanted
  pub others : MergedDatabase
  pub leads : LeadsTo address chunks named.choice table
  pub table_is : table ≡ Ok one
  pub rest : LeadTo address chunks names more
  pub more_is : together more ≡ Ok others
  pub merged_is : merged ≡ record { database = with_table named.name one.table others.database; conflicts = one.conflicts + others.conflicts }

pub first_step : (address : List ℕ → List ℕ) (chunks : Chunks) (names : List Named) (first : Named) (wanted : List Wanted) (merged : MergedDatabase) → names ≡ first ∷ take (length names - 1) (drop 1 names)
    → LeadTo address chunks names wanted → together wanted ≡ Ok merged → IsStep address chunks first (take (length names - 1) (drop 1 names)) wanted merged
first_step address chunks names first wanted merged is lead comes =
    let l = led address chunks first (take (length names - 1) (drop 1 names)) names wanted is lead in
    let parts = step_parts l.first.name l.first.table (together l.more) merged (sym (ap together l.is) ∙ comes) in
    record {
      table = l.first.table;
      one = parts.one;
      more = l.more;
      others = parts.others;
      leads = l.leads;
      table_is = parts.table_is;
      rest = l.rest;
      more_is = parts.more_is;
      merged_is = parts.merged_is ∙ ap (λ (name : List ℕ). record { database = with_table name parts.one.table parts.others.database; conflicts = parts.one.conflicts + parts.others.conflicts }) (sym l.name);
    }

pub first_fault : (address : List ℕ → List ℕ) (chunks : Chunks) (first : Named) (names : List Named) (wanted : List Wanted) (merged : MergedDatabase) (why : MergeFault) (step : IsStep address chunks first names wanted merged)
    → IsLimitFault (is_within_perhaps step.one.table) why → IsLimitFault (are_within merged.database) why
first_fault address chunks first names wanted merged why step of =
    subst (λ (m : MergedDatabase). IsLimitFault (are_within m.database) why) (sym step.merged_is)
    (limit_weaker (is_within_perhaps step.one.table) (are_within (with_table first.name step.one.table step.others.database)) why (first_passes first.name step.one.table step.others.database) of)

pub later_limit : (address : List ℕ → List ℕ) (chunks : Chunks) (first : Named) (names : List Named) (wanted : List Wanted) (merged : MergedDatabase) (why : MergeFault) (step : IsStep address chunks first names wanted merged)
    → IsLimitFault (are_within step.others.database) why → IsLimitFault (are_within merged.database) why
later_limit address chunks first names wanted merged why step of =
    subst (λ (m : MergedDatabase). IsLimitFault (are_within m.database) why) (sym step.merged_is)
    (limit_weaker (are_within step.others.database) (are_within (with_table first.name step.one.table step.others.database)) why (later_passes first.name step.one.table step.others.database) of)

-- the first table joins those that were made
pub made_first : (address : List ℕ → List ℕ) (old new : Chunks) → Extends old new → TablesStand → (made now : List TableEntry) (done : PlainDatabase) (first : Named) (names : List Named) (wanted : List Wanted) (merged : MergedDatabase)
    (step : IsStep address old first names wanted merged) (k : Option Address) → AreMade address old made done → IsKeptPerhaps address new k step.one.table → now ≡ made ++ listed_as first.name k
    → AreMade address new now (done ++ with_table first.name step.one.table [])
made_first address old new more laws made now done first names wanted merged step k are kept is =
    subst (λ (list : List TableEntry). AreMade address new list (done ++ with_table first.name step.one.table [])) (sym is)
    (made_joined address new made (listed_as first.name k) done (with_table first.name step.one.table []) (made_later address old new more laws made done are) (made_one address new first.name k step.one.table kept))

pub database_is : (address : List ℕ → List ℕ) (chunks : Chunks) (first : Named) (names : List Named) (wanted : List Wanted) (merged : MergedDatabase) (step : IsStep address chunks first names wanted merged) (done : PlainDatabase)
    → (done ++ with_table first.name step.one.table []) ++ step.others.database ≡ done ++ merged.database
database_is address chunks first names wanted merged step done =
    table_first first.name step.one.table done step.others.database ∙ ap (λ (m : MergedDatabase). done ++ m.database) (sym step.merged_is)

pub count_is : (address : List ℕ → List ℕ) (chunks : Chunks) (first : Named) (names : List Named) (wanted : List Wanted) (merged : MergedDatabase) (step : IsStep address chunks first names wanted merged) (one more : ℕ)
    → one ≡ step.one.conflicts → more ≡ step.others.conflicts → one + more ≡ merged.conflicts
count_is address chunks first names wanted merged step one more first_is more_is =
    (λ i. first_is i + more_is i) ∙ ap (λ (m : MergedDatabase). m.conflicts) (sym step.merged_is)

-- ---- no name

pub none_step : (address : List ℕ → List ℕ) (chunks : Chunks) (names : List Named) (wanted : List Wanted) (merged : MergedDatabase) → length names < 1 → LeadTo address chunks names wanted → together wanted ≡ Ok merged
    → merged ≡ record { database = []; conflicts = 0 }
none_step address chunks names wanted merged few lead comes =
    same (sym comes ∙ ap together (led_none address chunks names wanted (none_below names few) lead)) where
      same : ◌≡◌ {A = Result MergedDatabase SchemaConflict} (Ok merged) (Ok (record { database = []; conflicts = 0 })) → merged ≡ record { database = []; conflicts = 0 }
      same e = cc

-- ---- the whole

pub nothing_made : (address : List ℕ → List ℕ) (chunks : Chunks) → AreMade address chunks [] []
nothing_made address chunks = record { there = record { stand = tt; listed = refl }; within = refl }

pub whole_kept : (address : List ℕ → List ℕ) (chunks : Chunks) (tables : List TableEntry) (merged : MergedDatabase) → AreMade address chunks tables merged.database → HaveTableNames merged.database → length tables ≤ 256
    → AreKept address chunks tables merged.database
whole_kept address chunks tables merged are named few =
    all_made address chunks tables merged.database are named
    (subst (λ (n : ℕ). n ≤ 256) (ap (λ (list : List TableEntry). length list) are.there.listed ∙ made_count address merged.database) few)

pub whole_passes : (address : List ℕ → List ℕ) (chunks : Chunks) (tables : List TableEntry) (merged : MergedDatabase) → AreMade address chunks tables merged.database → 256 < length tables
    → is_database_within_limits merged.database ≡ false
whole_passes address chunks tables merged are many =
    too_many merged.database (subst (λ (n : ℕ). 256 < n) (ap (λ (list : List TableEntry). length list) are.there.listed ∙ made_count address merged.database) many)

pub tables_pass : (merged : MergedDatabase) (why : MergeFault) → IsLimitFault (are_within merged.database) why → IsLimitFault (is_database_within_limits merged.database) why
tables_pass merged why of = limit_weaker (are_within merged.database) (is_database_within_limits merged.database) why (database_passes merged.database) of

pub can_merge : (address : List ℕ → List ℕ) (chunks : Chunks) (base ours theirs : Address) (b o t : PlainDatabase) (names : List Named) (merged : MergedDatabase) → AreRoots address chunks base ours theirs b o t
    → LeadTo address chunks names (all_wanted b o t) → together (all_wanted b o t) ≡ Ok merged → CanMerge address chunks names (all_wanted b o t) merged
can_merge address chunks base ours theirs b o t names merged roots lead comes = record {
  lead = lead;
  comes = comes;
  named = merged_named b o t merged roots.base_root.stands.is_database roots.our_root.stands.is_database roots.their_root.stands.is_database
      (kept_named b roots.base_root.within) (kept_named o roots.our_root.within) (kept_named t roots.their_root.within) comes;
}

pub is_merged : (address : List ℕ → List ℕ) (chunks : Chunks) (result : Merged) (b o t : PlainDatabase) (merged : MergedDatabase) → together (all_wanted b o t) ≡ Ok merged → IsMadeOf address chunks result merged
    → IsMergedDatabase address chunks result (root3 b o t)
is_merged address chunks result b o t merged comes made = record { merged = merged; is = root_together b o t ∙ comes; made = made }
