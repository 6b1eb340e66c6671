-- What is done for all names is what the definition does.
use Rattle.std.proofs.Common.{◌≡◌, ◌≤◌, ◌+◌, refl, sym, ap, ◌∙◌, subst, ℕ, true, false, Bool, List, [], ◌∷◌, length, map, Option, Some, None, Result, Ok, Err, suc, arith}
use Rattle.std.specs.Ordering.{match_ordering}
use Rattle.std.specs.declared.cmp.Ordering.{Ordering}
use Rattle.std.specs.declared.cmp.Ordering.TheVariants.{Less, Equal, Greater}
use Rattle.std.proofs.lemmas.List.{length-map}
use Rattle.tuple_codec.specs.Edits.{order}
use Rattle.tuple_codec.specs.Rows.{AreTold}
use Rattle.schema_model.specs.PlainTables as plain
use Rattle.schema_model.specs.PlainTables.{PlainDatabase}
use Rattle.schema_model.specs.Sameness.{is_same_table}
use Rattle.chunk_store.specs.Chunks.{Chunks}
use Rattle.table_root.specs.Standing.{TablesStand, named_tables}
use Rattle.table_root.specs.declared.records.TableEntry.{TableEntry}
use Rattle.schema_merge.specs.KeyByKey.{all_keys, key_among, keys_with}
use Rattle.schema_merge.specs.RootMerge.{names_of, over_names, root3, step, table_in}
use Rattle.root_merge.specs.Choosing.{address_in}
use Rattle.root_merge.specs.Kept.{AreKept}
use Rattle.root_merge.specs.Names.{LeadTo, all_chosen, all_wanted, chosen_for, names_in, together, wanted_for}
use Rattle.root_merge.proofs.ChoosingLemmas.{chosen_leads}
use Rattle.root_merge.proofs.KeptLemmas.{kept_found}

over_together : (base ours theirs : PlainDatabase) (names : List (List ℕ)) → over_names base ours theirs names ≡ together (map (wanted_for base ours theirs) names)
over_together base ours theirs [] = refl
over_together base ours theirs (name ∷ names) = ap (step name (wanted_for base ours theirs name).table) (over_together base ours theirs names)

pub root_together : (base ours theirs : PlainDatabase) → root3 base ours theirs ≡ together (all_wanted base ours theirs)
unfolding root3
root_together base ours theirs = over_together base ours theirs (all_keys order (names_of base) (names_of ours) (names_of theirs))

names_same : (address : List ℕ → List ℕ) (database : PlainDatabase) → names_in (named_tables address database) ≡ names_of database
names_same address [] = refl
names_same address (named ∷ database) = ap (λ names. named.name ∷ names) (names_same address database)

pub kept_names : (address : List ℕ → List ℕ) (chunks : Chunks) (tables : List TableEntry) (database : PlainDatabase) → AreKept address chunks tables database → names_in tables ≡ names_of database
kept_names address chunks tables database kept = ap names_in kept.there.listed ∙ names_same address database

names_lead : (address : List ℕ → List ℕ) (chunks : Chunks) → TablesStand → AreTold is_same_table → (base ours theirs : List TableEntry) (b o t : PlainDatabase)
    → AreKept address chunks base b → AreKept address chunks ours o → AreKept address chunks theirs t → (names : List (List ℕ))
    → LeadTo address chunks (map (chosen_for base ours theirs) names) (map (wanted_for b o t) names)
names_lead address chunks laws told base ours theirs b o t kb ko kt [] = tt
names_lead address chunks laws told base ours theirs b o t kb ko kt (name ∷ names) = (
  refl,
  chosen_leads address chunks laws told (address_in name base) (address_in name ours) (address_in name theirs) (table_in name b) (table_in name o) (table_in name t)
      (kept_found address chunks name base b kb) (kept_found address chunks name ours o ko) (kept_found address chunks name theirs t kt),
  names_lead address chunks laws told base ours theirs b o t kb ko kt names,
)

pub all_lead : (address : List ℕ → List ℕ) (chunks : Chunks) → TablesStand → AreTold is_same_table → (base ours theirs : List TableEntry) (b o t : PlainDatabase)
    → AreKept address chunks base b → AreKept address chunks ours o → AreKept address chunks theirs t → LeadTo address chunks (all_chosen base ours theirs) (all_wanted b o t)
all_lead address chunks laws told base ours theirs b o t kb ko kt =
    subst (λ (names : List (List ℕ)). LeadTo address chunks (map (chosen_for base ours theirs) (all_keys order names (names_in ours) (names_in theirs))) (all_wanted b o t))
    (sym (kept_names address chunks base b kb))
    (subst (λ (names : List (List ℕ)). LeadTo address chunks (map (chosen_for base ours theirs) (all_keys order (names_of b) names (names_in theirs))) (all_wanted b o t))
    (sym (kept_names address chunks ours o ko))
    (subst (λ (names : List (List ℕ)). LeadTo address chunks (map (chosen_for base ours theirs) (all_keys order (names_of b) (names_of o) names)) (all_wanted b o t))
    (sym (kept_names address chunks theirs t kt))
    (names_lead address chunks laws told base ours theirs b o t kb ko kt (all_keys order (names_of b) (names_of o) (names_of t)))))

-- ---- how many

among_few : {K : Type 0} (order : K → K → Ordering) (key : K) (rest : List K → List K) (n : ℕ) → ((others : List K) → length (rest others) ≤ n + length others) → (others : List K)
    → length (key_among order key rest others) ≤ suc n + length others
among_few order key rest n few [] = let more = few [] in omega (arith, more)
among_few order key rest n few (other ∷ others) =
    by (order other key) (among_few order key rest n few others) (few others) (few (other ∷ others)) where
      by : (o : Ordering) → length (key_among order key rest others) ≤ suc n + length others → length (rest others) ≤ n + length others
          → length (rest (other ∷ others)) ≤ n + suc (length others)
          → length (match_ordering o (other ∷ key_among order key rest others) (key ∷ rest others) (key ∷ rest (other ∷ others))) ≤ suc n + suc (length others)
      by Less one two three = omega (arith, one)
      by Equal one two three = omega (arith, two)
      by Greater one two three = omega (arith, three)

with_few : {K : Type 0} (order : K → K → Ordering) (keys others : List K) → length (keys_with order keys others) ≤ length keys + length others
with_few order [] others = omega arith
with_few order (key ∷ keys) others = among_few order key (keys_with order keys) (length keys) (with_few order keys) others

-- three lists have no more keys together than each by itself
pub all_few : {K : Type 0} (order : K → K → Ordering) (base ours theirs : List K) → length (all_keys order base ours theirs) ≤ length base + (length ours + length theirs)
all_few order base ours theirs =
    let one = with_few order base (keys_with order ours theirs) in
    let two = with_few order ours theirs in
    omega (arith, one, two)

pub chosen_few : (base ours theirs : List TableEntry) → length base ≤ 256 → length ours ≤ 256 → length theirs ≤ 256 → length (all_chosen base ours theirs) ≤ 768
chosen_few base ours theirs one two three =
    let names = all_keys order (names_in base) (names_in ours) (names_in theirs) in
    let all = all_few order (names_in base) (names_in ours) (names_in theirs) in
    let count = length-map names (chosen_for base ours theirs) in
    let b = length-map base (λ (named : TableEntry). named.name) in
    let o = length-map ours (λ (named : TableEntry). named.name) in
    let t = length-map theirs (λ (named : TableEntry). named.name) in
    omega (arith, one, two, three, all, count, b, o, t)
