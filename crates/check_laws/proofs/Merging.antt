-- Merged schemas: the columns that a CHECK names have the definitions of the side that it is taken from.
use Rattle.std.proofs.Common.{◌≡◌, refl, sym, ap, ◌∙◌, subst, ℕ, true, false, true≢false, List, [], ◌∷◌, Option, Some, None, Result, Ok, Err, bytes_eq, cond}
use Rattle.std.specs.List.{AllByRecursion, list_all}
use Rattle.std.specs.Option.{option_map_or}
use Rattle.std.proofs.lemmas.Bool.{and_parts}
use Rattle.schema_model.specs.Sameness.{SamenessIsEquality, is_same_column}
use Rattle.schema_model.specs.declared.schemas.CheckDef.{CheckDef}
use Rattle.schema_model.specs.declared.schemas.Column.{Column}
use Rattle.schema_model.specs.declared.schemas.Schema.{Schema}
use Rattle.schema_merge.specs.Merging.{merged_by, part3, schema3, step}
use Rattle.schema_merge.specs.Names.{names_in}
use Rattle.schema_merge.specs.Parts.{find, keeps, of_checks, sides}
use Rattle.table_merge.specs.Laws.{AreSchemas}
use Rattle.table_merge.proofs.MergedLemmas.{merged_is}
use Rattle.table_merge.proofs.PartLemmas.{came}
use Rattle.table_merge.proofs.SchemaLemmas.{by_side, if_so_some, made_of}
use Rattle.plain_writes.proofs.RowOrderLemmas.{two}
use Rattle.check_laws.specs.Meant.{IsMeantCheck, IsMeantTable}
use Rattle.check_laws.specs.Named.{names_of}
use Rattle.check_laws.proofs.Altering.{with_binding}
use Rattle.check_laws.proofs.Following.{MoveNames, condition_moves}
use Rattle.check_laws.proofs.NamesIn.{names_are}
use Rattle.check_laws.proofs.Scopes.{are_apart, column_named, name_moves, scope_of}

-- ---- parts that were merged

parts_or : {P : Type 0} → List P → Result (List P) (List ℕ) → List P
parts_or d (Err name) = d
parts_or d (Ok parts) = parts

abbrev okay : {P : Type 0} → List P → Result (List P) (List ℕ)
okay parts = Ok parts

ok_is : {P : Type 0} (x y : List P) → okay x ≡ okay y → x ≡ y
unfolding parts_or
ok_is x y e = ap (parts_or x) e

module _ {P : Type 0} (Q : P → Type 0) (part_of : List ℕ → Option (Option P)) (each : (name : List ℕ) (part : P) → part_of name ≡ Some (Some part) → Q part) where
  by_step : (name : List ℕ) (o : Option (Option P)) (r : Result (List P) (List ℕ)) (parts : List P) → part_of name ≡ o → ((more : List P) → r ≡ Ok more → AllByRecursion Q more) → step name o r ≡ Ok parts → AllByRecursion Q parts
  by_step name None r parts is later e = cc
  by_step name (Some None) r parts is later e = later parts e
  by_step name (Some (Some part)) (Ok more) parts is later e = subst (AllByRecursion Q) (ok_is (part ∷ more) parts e) (each name part is, later more refl)
  by_step name (Some (Some part)) (Err other) parts is later e = cc

  merged_have : (names : List (List ℕ)) (parts : List P) → merged_by part_of names ≡ Ok parts → AllByRecursion Q parts
  merged_have [] parts e = subst (AllByRecursion Q) (ok_is [] parts e) tt
  merged_have (name ∷ names) parts e = by_step name (part_of name) (merged_by part_of names) parts refl (λ more h. merged_have names more h) e

found_have : {P : Type 0} (called : P → List ℕ) (Q : P → Type 0) (name : List ℕ) (parts : List P) (part : P) → AllByRecursion Q parts → find called name parts ≡ Some part → Q part
found_have called Q name [] part all e = cc
found_have called Q name (one ∷ parts) part all e = two (bytes_eq (called one) name)
    (λ t. let same : Some one ≡ Some part = sym (ap (λ b. cond b (Some one) (find called name parts)) t) ∙ e in let is : one ≡ part = cc in subst Q is all.0)
    (λ t. found_have called Q name parts part all.1 (sym (ap (λ b. cond b (Some one) (find called name parts)) t) ∙ e))

-- ---- names whose columns are kept

keeps_so : SamenessIsEquality → (o p : Option Column) (c : Column) → option_map_or (λ (part : Column). option_map_or (is_same_column part) p false) o false ≡ true → p ≡ Some c → (d : Column) × (o ≡ Some d) × (d.kind ≡ c.kind)
keeps_so told None p c h e = absurd (true≢false (sym h))
keeps_so told (Some d) None c h e = absurd (true≢false (sym h))
keeps_so told (Some d) (Some b) c h e =
    let same : b ≡ c = cc in
    (d, refl, ap (λ (x : Column). x.kind) ((told.columns d b).0 h ∙ same))

names_move : SamenessIsEquality → (table : List ℕ) (columns : List Column) (side : Schema) (names : List (List ℕ)) → are_apart columns ≡ true → list_all (keeps columns side) names ≡ true
    → MoveNames (scope_of table side.columns) (scope_of table columns) names
names_move told table columns side [] apart h = tt
names_move told table columns side (name ∷ names) apart h =
    let parts = and_parts (keeps columns side name) (list_all (keeps columns side) names) h in (
      name_moves table name side.columns columns apart (λ c found. keeps_so told (column_named name columns) (column_named name side.columns) c parts.0 found),
      names_move told table columns side names apart parts.1,
    )

check_moves : SamenessIsEquality → (name : List ℕ) (side merged : Schema) (check : CheckDef) → are_apart merged.columns ≡ true → IsMeantCheck name side check → list_all (keeps merged.columns side) (names_in check.text) ≡ true
    → IsMeantCheck name merged check
check_moves told name side merged check apart it h =
    let said : names_in check.text ≡ names_of it.expr = ap names_in (sym it.text_is) ∙ names_are it.expr it.sound in
    let kept : list_all (keeps merged.columns side) (names_of it.expr) ≡ true = sym (ap (list_all (keeps merged.columns side)) said) ∙ h in
    with_binding name side merged check it
    (condition_moves (scope_of name side.columns) (scope_of name merged.columns) it.expr (names_move told name merged.columns side (names_of it.expr) apart kept) it.binds)

-- ---- the whole

pub merged_meant : SamenessIsEquality → (name : List ℕ) (base : Option Schema) (ours theirs merged : Schema) → AreSchemas base ours theirs → IsMeantTable name ours → IsMeantTable name theirs → schema3 base ours theirs ≡ Ok merged
    → IsMeantTable name merged
merged_meant told name base ours theirs merged are own other e =
    let made = made_of base ours theirs merged e in
    let all = sides base ours theirs in
    let is = merged_is told.columns base ours theirs merged are e in
    let columns_is : made.columns ≡ merged.columns = ap (λ (s : Schema). s.columns) made.is in
    let checks_is : made.checks ≡ merged.checks = ap (λ (s : Schema). s.checks) made.is in
    subst (AllByRecursion (IsMeantCheck name merged)) checks_is
    (merged_have (IsMeantCheck name merged) (part3 (λ (part : CheckDef). part.name) of_checks all made.columns) (λ part_name part h.
    let c = came (λ (part : CheckDef). part.name) of_checks all made.columns part_name part h in
    let old = found_have (λ (part : CheckDef). part.name) (IsMeantCheck name c.side) part_name c.side.checks c.old
    (by_side (λ (s : Schema). AllByRecursion (IsMeantCheck name s) s.checks) all c.side c.is_side own other) c.there in
    let moved = if_so_some (list_all (keeps made.columns c.side) (names_in c.old.text)) c.old part c.moved in
    let kept = subst (λ (columns : List Column). list_all (keeps columns c.side) (names_in c.old.text) ≡ true) columns_is moved.0 in
    subst (IsMeantCheck name merged) moved.1 (check_moves told name c.side merged c.old is.apart old kept)) _ made.checks made.checks_are)
