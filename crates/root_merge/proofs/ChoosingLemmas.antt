-- A choice by addresses is the choice by contents.
use Rattle.std.proofs.Common.{◌≡◌, refl, sym, ap, ◌∙◌, subst, ℕ, true, false, Bool, List, bytes_eq, Option, Some, None}
use Rattle.std.specs.Prelude.{if◌then◌else◌}
use Rattle.std.specs.Cmp.Lexicographic.{bytes_decides}
use Rattle.tuple_codec.proofs.Truths.{alike_truths as same_truth}
use Rattle.tuple_codec.specs.Rows.{AreTold}
use Rattle.tuple_codec.specs.RowRule.{same_option}
use Rattle.tuple_codec.specs.declared.addresses.Address.{Address}
use Rattle.schema_model.specs.PlainTables.{PlainTable}
use Rattle.schema_model.specs.Sameness.{is_same_table}
use Rattle.chunk_store.specs.Chunks.{Chunks}
use Rattle.table_root.specs.Standing.{TablesStand}
use Rattle.schema_merge.specs.RootMerge.{by_rows, either_table, or_by_rows}
use Rattle.root_merge.specs.Choosing.{LeadsTo, chosen, or_rows_of, rows_of, same_address}
use Rattle.root_merge.specs.Kept.{IsKeptPerhaps}

pub same_told : (address : List ℕ → List ℕ) (chunks : Chunks) → TablesStand → AreTold is_same_table → (k l : Option Address) (table other : Option PlainTable)
    → IsKeptPerhaps address chunks k table → IsKeptPerhaps address chunks l other → same_option same_address k l ≡ same_option is_same_table table other
same_told address chunks laws told None None None None one two = refl
same_told address chunks laws told None (Some l) None (Some other) one two = refl
same_told address chunks laws told (Some k) None (Some table) None one two = refl
same_told address chunks laws told (Some k) (Some l) (Some table) (Some other) one two =
    let exactly = laws.exactly address chunks k.0 l.0 table other one.stands two.stands in
    same_truth (bytes_eq k.0 l.0) (is_same_table table other) (λ e. (told table other).1 (exactly.0 ((bytes_decides k.0 l.0).0 e))) (λ e. (bytes_decides k.0 l.0).1 (exactly.1 ((told table other).0 e)))
same_told address chunks laws told None l (Some table) other one two = absurd one
same_told address chunks laws told (Some k) l None other one two = absurd one
same_told address chunks laws told None None None (Some other) one two = absurd two
same_told address chunks laws told None (Some l) None None one two = absurd two
same_told address chunks laws told (Some k) None (Some table) (Some other) one two = absurd two
same_told address chunks laws told (Some k) (Some l) (Some table) None one two = absurd two

-- where no whole table decides
rows_lead : (address : List ℕ → List ℕ) (chunks : Chunks) (kb ko kt : Option Address) (base ours theirs : Option PlainTable)
    → IsKeptPerhaps address chunks kb base → IsKeptPerhaps address chunks ko ours → IsKeptPerhaps address chunks kt theirs
    → LeadsTo address chunks (rows_of kb ko kt) (by_rows base ours theirs)
rows_lead address chunks kb (Some ko) (Some kt) base (Some ours) (Some theirs) b o t = (
  record { base = base; ours = ours; theirs = theirs },
  record { base_side = b; our_side = o; their_side = t },
  refl,
)
rows_lead address chunks kb None kt base None theirs b o t = refl
rows_lead address chunks kb (Some ko) None base (Some ours) None b o t = refl
rows_lead address chunks kb None kt base (Some ours) theirs b o t = absurd o
rows_lead address chunks kb (Some ko) kt base None theirs b o t = absurd o
rows_lead address chunks kb (Some ko) None base (Some ours) (Some theirs) b o t = absurd t
rows_lead address chunks kb (Some ko) (Some kt) base (Some ours) None b o t = absurd t

abbrev picked : {A : Type 0} → Bool → Bool → Bool → A → A → Option A
picked one two three ours theirs = if one then Some ours else (if two then Some theirs else (if three then Some ours else None))

any_lead : (address : List ℕ → List ℕ) (chunks : Chunks) (one two three : Bool) (kb ko kt : Option Address) (base ours theirs : Option PlainTable)
    → IsKeptPerhaps address chunks kb base → IsKeptPerhaps address chunks ko ours → IsKeptPerhaps address chunks kt theirs
    → LeadsTo address chunks (or_rows_of (picked one two three ko kt) kb ko kt) (or_by_rows (picked one two three ours theirs) base ours theirs)
any_lead address chunks true two three kb ko kt base ours theirs b o t = (ours, o, refl)
any_lead address chunks false true three kb ko kt base ours theirs b o t = (theirs, t, refl)
any_lead address chunks false false true kb ko kt base ours theirs b o t = (ours, o, refl)
any_lead address chunks false false false kb ko kt base ours theirs b o t = rows_lead address chunks kb ko kt base ours theirs b o t

pub chosen_leads : (address : List ℕ → List ℕ) (chunks : Chunks) → TablesStand → AreTold is_same_table → (kb ko kt : Option Address) (base ours theirs : Option PlainTable)
    → IsKeptPerhaps address chunks kb base → IsKeptPerhaps address chunks ko ours → IsKeptPerhaps address chunks kt theirs
    → LeadsTo address chunks (chosen kb ko kt) (either_table base ours theirs)
chosen_leads address chunks laws told kb ko kt base ours theirs b o t =
    subst (λ (x : Bool). LeadsTo address chunks (or_rows_of (picked x (same_option same_address ko kb) (same_option same_address ko kt) ko kt) kb ko kt) (either_table base ours theirs))
    (sym (same_told address chunks laws told kt kb theirs base t b))
    (subst (λ (x : Bool). LeadsTo address chunks (or_rows_of (picked (same_option is_same_table theirs base) x (same_option same_address ko kt) ko kt) kb ko kt) (either_table base ours theirs))
    (sym (same_told address chunks laws told ko kb ours base o b))
    (subst (λ (x : Bool). LeadsTo address chunks (or_rows_of (picked (same_option is_same_table theirs base) (same_option is_same_table ours base) x ko kt) kb ko kt) (either_table base ours theirs))
    (sym (same_told address chunks laws told ko kt ours theirs o t))
    (any_lead address chunks (same_option is_same_table theirs base) (same_option is_same_table ours base) (same_option is_same_table ours theirs) kb ko kt base ours theirs b o t)))
