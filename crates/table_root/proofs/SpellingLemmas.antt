-- What is read has the bytes that it was read from, so reading answers what is there.
use Rattle.std.proofs.Common.{◌≡◌, ℕ, ◌^◌, ◌<◌, Bool, true, false, cond, eqb, List, [], ◌∷◌, ◌++◌, get_or, length, Option, Some, None, Err, refl, sym, ap, subst, ◌∙◌, append_assoc, append-nil, arith, inl, inr, ◌⊎◌}
use Rattle.std.specs.Prelude.{◌&&◌}
use Rattle.std.specs.List.{flat_map}
use Rattle.std.specs.Option.{option_map}
use Rattle.std.specs.Int.{w16, w32, from_be_bytes, to_be_bytes}
use Rattle.std.proofs.lemmas.Bool.{and_parts, eqb-true, lt-ltb}
use Rattle.std.proofs.lemmas.List.{nil_from_length}
use Rattle.std.proofs.lemmas.List.Folds.{flat_map-map}
use Rattle.std.proofs.lemmas.Nat.{be_bytes_2, be_bytes_4}
use Rattle.tuple_codec.proofs.Options.{chosen_some, mapped, some_is}
use Rattle.tuple_codec.proofs.NumberLemmas.{AreBytes}
use Rattle.tuple_codec.proofs.TextLemmas.{AreBytes-rest}
use Rattle.tuple_codec.specs.Fields.{bytes_at, short_at}
use Rattle.tuple_codec.specs.Fronts.{Gives}
use Rattle.tuple_codec.specs.declared.addresses.Address.{Address}
use Rattle.tuple_codec.specs.declared.records.BranchRecord.{BranchRecord}
use Rattle.tuple_codec.specs.declared.unread.Unread.{Unread}
use Rattle.tuple_codec.specs.declared.unread.Unread.TheVariants.{Memory, Malformed}
use Rattle.schema_model.specs.Reading.{◌>>=◌, address_at, items_at}
use Rattle.schema_model.specs.SchemaBytes.{schema_bytes}
use Rattle.schema_model.specs.Schemas.{is_schema}
use Rattle.schema_model.specs.Spellings as spelled
use Rattle.schema_model.specs.Spellings.{ReadsSchema}
use Rattle.schema_model.specs.WrittenForms.{merging_bytes}
use Rattle.schema_model.specs.declared.schemas.Schema.{Schema}
use Rattle.schema_model.proofs.PartLemmas.{AreBytes-front, Takes, Takes-then, address_takes, bind_some, bytes_takes, items_take, nothing, short_reader, takes}
use Rattle.table_root.specs.Branches.{IsBranchIn, is_address_or_none}
use Rattle.table_root.specs.Databases.{IsDatabaseIn, fits_name, has_address, named_bytes, names_rise}
use Rattle.table_root.specs.Finds.{Finds}
use Rattle.table_root.specs.Reading.{after_kind, alone, as_four, as_two, branch_of, database_of, four_at, if_database, merging_at, named_at, schema_text, table_of, two_at}
use Rattle.table_root.specs.Spellings.{Reads}
use Rattle.table_root.specs.Tables.{HasRoots, IsTableIn, is_address}
use Rattle.table_root.specs.declared.records.StoredTable.{StoredTable}
use Rattle.table_root.specs.declared.records.TableEntry.{TableEntry}
use Rattle.table_root.proofs.FormLemmas.{after_conflicts, after_count, after_head, after_indexes, after_merging, after_name, after_rows, after_staged, after_working, as_commit, branch_again, database_again, database_is, is_named, made, made_branch, made_named, named_reader, roots_bytes}
use Rattle.table_root.proofs.ReadLemmas.{roots_are, text_is, text_there}
use Rattle.table_root.proofs.TakenLemmas.{address_long, address_reader, all_pass, alone_is, kind_takes, reads}

-- where nothing is there, nothing is read
none_reads : {A : Type 0} (Is : A → Type 0) → ((thing : A) → Is thing → ⊥) → Reads Is None
none_reads Is none = λ thing. (λ e. absurd (nothing thing e), λ is. absurd (none thing is))

-- ---- numbers

four_below : (bytes : List ℕ) → AreBytes bytes → from_be_bytes w32 bytes < 2 ^ 32
four_below bytes fits = omega (arith, fits 0, fits 1, fits 2, fits 3)

two_below : (bytes : List ℕ) → AreBytes bytes → from_be_bytes w16 bytes < 2 ^ 16
two_below bytes fits = omega (arith, fits 0, fits 1)

four_takes : (bytes : List ℕ) (x : ℕ × List ℕ) → AreBytes bytes → four_at bytes ≡ Some x → Takes bytes (to_be_bytes w32 x.0) x.1 × (x.0 < 2 ^ 32)
four_takes bytes x fit e =
    let m = mapped (bytes_at 4 bytes) as_four x e in
    let t = bytes_takes 4 bytes m.0 m.1 in
    let small = AreBytes-front m.0.0 m.0.1 bytes fit t.0 in
    let back : to_be_bytes w32 (from_be_bytes w32 m.0.0) ≡ m.0.0 = be_bytes_4 m.0.0 _ t.1 small refl in
    subst (λ (y : ℕ × List ℕ). Takes bytes (to_be_bytes w32 y.0) y.1 × (y.0 < 2 ^ 32)) m.2
    (takes bytes (to_be_bytes w32 (from_be_bytes w32 m.0.0)) m.0.1 fit (t.0 ∙ ap (λ (l : List ℕ). l ++ m.0.1) (sym back)), four_below m.0.0 small)

two_takes : (bytes : List ℕ) (x : ℕ × List ℕ) → AreBytes bytes → two_at bytes ≡ Some x → Takes bytes (to_be_bytes w16 x.0) x.1 × (x.0 < 2 ^ 16)
two_takes bytes x fit e =
    let m = mapped (bytes_at 2 bytes) as_two x e in
    let t = bytes_takes 2 bytes m.0 m.1 in
    let small = AreBytes-front m.0.0 m.0.1 bytes fit t.0 in
    let back : to_be_bytes w16 (from_be_bytes w16 m.0.0) ≡ m.0.0 = be_bytes_2 m.0.0 _ t.1 small refl in
    subst (λ (y : ℕ × List ℕ). Takes bytes (to_be_bytes w16 y.0) y.1 × (y.0 < 2 ^ 16)) m.2
    (takes bytes (to_be_bytes w16 (from_be_bytes w16 m.0.0)) m.0.1 fit (t.0 ∙ ap (λ (l : List ℕ). l ++ m.0.1) (sym back)), two_below m.0.0 small)

-- ---- tables

text_takes : (bytes : List ℕ) (x : List ℕ × List ℕ) → AreBytes bytes → schema_text bytes ≡ Some x
    → Takes bytes (3 ∷ (to_be_bytes w32 (length x.0) ++ x.0)) x.1 × (length x.0 < 2 ^ 32)
unfolding schema_text
text_takes bytes x fit e =
    let a = bind_some (after_kind 3 bytes) (λ rest. four_at rest >>= λ size. bytes_at size.0 size.1) x e in
    let b = bind_some (four_at a.0) (λ size. bytes_at size.0 size.1) x a.2 in
    let kind = takes bytes (3 ∷ []) a.0 fit (kind_takes 3 bytes a.0 a.1) in
    let number = four_takes a.0 b.0 kind.rest_fits b.1 in
    let t = bytes_takes b.0.0 b.0.1 x b.2 in
    let text = takes b.0.1 x.0 x.1 number.0.rest_fits t.0 in
    let more = Takes-then a.0 (to_be_bytes w32 b.0.0) b.0.1 x.0 x.1 number.0 text in
    let all = Takes-then bytes (3 ∷ []) a.0 (to_be_bytes w32 b.0.0 ++ x.0) x.1 kind more in
    subst (λ (n : ℕ). Takes bytes (3 ∷ (to_be_bytes w32 n ++ x.0)) x.1 × (n < 2 ^ 32)) (sym t.1) (all, number.1)

-- the table that was read of a schema and the bytes of roots
record AreRootsOf (s : Schema) (roots : List ℕ) (t : StoredTable) : Type 0 where
  schema : t.schema ≡ s
  count : length t.indexes ≡ length s.indexes
  has : HasRoots t
  bytes : roots ≡ roots_bytes t

roots_take : (s : Schema) (roots : List ℕ) (t : StoredTable) → AreBytes roots → table_of s roots ≡ Some t → AreRootsOf s roots t
unfolding table_of
roots_take s roots t fit e =
    let a = bind_some (address_at roots) (after_rows s) t e in
    let b = bind_some (items_at address_at (length s.indexes) a.0.1) (after_indexes s a.0.0) t a.2 in
    let c = bind_some (address_at b.0.1) (after_conflicts s a.0.0 b.0.0) t b.2 in
    let d = bind_some (address_at c.0.1) (λ violations. alone (made s a.0.0 b.0.0 c.0.0 violations.0, violations.1)) t c.2 in
    let end = alone_is (made s a.0.0 b.0.0 c.0.0 d.0.0, d.0.1) t d.2 in
    let first = address_takes roots a.0 fit a.1 in
    let second = items_take (λ (x : Address). x.0) is_address address_at address_reader (length s.indexes) a.0.1 b.0 first.rest_fits b.1 in
    let third = address_takes b.0.1 c.0 second.0.rest_fits c.1 in
    let fourth = address_takes c.0.1 d.0 third.rest_fits d.1 in
    let indexes = flat_map (λ (x : Address). x.0) b.0.0 in
    let last = c.0.0.0 ++ d.0.0.0 in
    let two = Takes-then b.0.1 c.0.0.0 c.0.1 d.0.0.0 d.0.1 third fourth in
    let three = Takes-then a.0.1 indexes b.0.1 last d.0.1 second.0 two in
    let all = Takes-then roots a.0.0.0 a.0.1 (indexes ++ last) d.0.1 first three in
    let text = a.0.0.0 ++ (indexes ++ last) in
    subst (AreRootsOf s roots) end.1 (record {
      schema = refl;
      count = second.1;
      has = record {
        rows = address_long roots a.0 fit a.1;
        indexes = all_pass (λ (x : Address). x.0) is_address address_at address_reader is_address address_long (length s.indexes) a.0.1 b.0 first.rest_fits b.1;
        conflicts = address_long b.0.1 c.0 second.0.rest_fits c.1;
        violations = address_long c.0.1 d.0 third.rest_fits d.1;
      };
      bytes = all.parts ∙ ap (λ (l : List ℕ). text ++ l) end.0 ∙ append-nil text
          ∙ ap (λ (l : List ℕ). a.0.0.0 ++ (l ++ last)) (sym (flat_map-map (λ (x : List ℕ). x) (λ (x : Address). x.0) b.0.0));
    })

module _ (bytes text roots : List ℕ) (schema : Schema) (fit : AreBytes bytes) (read : schema_text bytes ≡ Some (text, roots)) (is : ReadsSchema text (Some schema)) where
  table_there : (table : StoredTable) → table_of schema roots ≡ Some table → IsTableIn bytes table
  table_there table e =
      let t = text_takes bytes (text, roots) fit read in
      let r = roots_take schema roots table t.0.rest_fits e in
      let same : schema_bytes table.schema ≡ text = ap schema_bytes r.schema ∙ is.1 in
      let whole : bytes ≡ 3 ∷ (to_be_bytes w32 (length text) ++ (text ++ roots)) =
      t.0.parts ∙ ap (λ (l : List ℕ). 3 ∷ l) (append_assoc (to_be_bytes w32 (length text)) text roots) in (
        record {
          schema = subst (λ (s : Schema). is_schema s ≡ true) (sym r.schema) is.0;
          size = subst (λ (l : List ℕ). length l < 2 ^ 32) (sym same) t.1;
          count = r.count ∙ ap (λ (s : Schema). length s.indexes) (sym r.schema);
          roots = r.has;
        },
        ap (λ (l : List ℕ). 3 ∷ (to_be_bytes w32 (length l) ++ (l ++ roots_bytes table))) same
            ∙ ap (λ (l : List ℕ). 3 ∷ (to_be_bytes w32 (length text) ++ (text ++ l))) (sym r.bytes) ∙ sym whole,
      )

  pub table_reads : spelled.HasOneSpelling → Reads (IsTableIn bytes) (table_of schema roots)
  table_reads one =
      reads (IsTableIn bytes) (table_of schema roots) table_there (λ table held.
      let parts = text_is table bytes text roots held.0 (sym held.1) read in
      roots_are one table schema text roots held.0 parts.0 parts.1 is.0 is.1)

pub no_text : (bytes : List ℕ) → schema_text bytes ≡ None → Reads (IsTableIn bytes) None
no_text bytes e =
    none_reads (IsTableIn bytes) (λ table held. nothing (schema_bytes table.schema, roots_bytes table) (sym e ∙ text_there table bytes held.0 (sym held.1)))

-- the same of code that finds no schema's bytes
pub no_text_found : {A : Type 0} (bytes : List ℕ) (view : A → List ℕ × List ℕ) (e : Unread) → Gives view (Err e) (schema_text bytes) → Finds (IsTableIn bytes) (Err e)
no_text_found bytes view Memory gives = tt
no_text_found bytes view Malformed gives = no_text bytes gives

pub no_schema : (bytes text roots : List ℕ) → schema_text bytes ≡ Some (text, roots) → ReadsSchema text None → Reads (IsTableIn bytes) None
no_schema bytes text roots read none =
    none_reads (IsTableIn bytes) (λ table held. none table.schema held.0.schema (sym (text_is table bytes text roots held.0 (sym held.1) read).0))

-- ---- databases

name_fits : (bytes : List ℕ) (x : TableEntry × List ℕ) → AreBytes bytes → named_at bytes ≡ Some x → fits_name x.0 ≡ true
name_fits bytes x fit e =
    let t = named_reader.takes bytes x fit e in
    let first : get_or bytes 0 0 ≡ length x.0.name = ap (λ (l : List ℕ). get_or l 0 0) t.parts in
    lt-ltb (length x.0.name) 256 (subst (λ (n : ℕ). n < 256) first (fit 0))

address_fits : (bytes : List ℕ) (x : TableEntry × List ℕ) → AreBytes bytes → named_at bytes ≡ Some x → has_address x.0 ≡ true
unfolding named_at
address_fits bytes x fit e =
    let b = bind_some (short_at bytes) after_name x e in
    let m = bind_some (address_at b.0.1) (made_named b.0.0) x b.2 in
    let s = (short_reader (λ (name : List ℕ). true)).takes bytes b.0 fit b.1 in
    subst (λ (y : TableEntry × List ℕ). has_address y.0 ≡ true) (some_is _ x m.2) (address_long b.0.1 m.0 s.rest_fits m.1)

if_database_is : (x : List TableEntry × List ℕ) (tables : List TableEntry) → if_database x ≡ Some tables → (x.1 ≡ []) × (names_rise x.0 ≡ true) × (x.0 ≡ tables)
if_database_is x tables e =
    let g = chosen_some (eqb (length x.1) 0 && names_rise x.0) x.0 tables e in
    let both = and_parts (eqb (length x.1) 0) (names_rise x.0) g.0 in
    (nil_from_length x.1 (eqb-true _ _ both.0), both.1, g.1)

database_there : (bytes : List ℕ) (tables : List TableEntry) → AreBytes bytes → database_of bytes ≡ Some tables → IsDatabaseIn bytes tables
unfolding database_of
database_there bytes tables fit e =
    let a = bind_some (after_kind 4 bytes) (λ rest. two_at rest >>= after_count) tables e in
    let b = bind_some (two_at a.0) after_count tables a.2 in
    let c = bind_some (items_at named_at b.0.0 b.0.1) if_database tables b.2 in
    let end = if_database_is c.0 tables c.2 in
    let kind = takes bytes (4 ∷ []) a.0 fit (kind_takes 4 bytes a.0 a.1) in
    let number = two_takes a.0 b.0 kind.rest_fits b.1 in
    let items = items_take named_bytes is_named named_at named_reader b.0.0 b.0.1 c.0 number.0.rest_fits c.1 in
    let names = all_pass named_bytes is_named named_at named_reader fits_name name_fits b.0.0 b.0.1 c.0 number.0.rest_fits c.1 in
    let addresses = all_pass named_bytes is_named named_at named_reader has_address address_fits b.0.0 b.0.1 c.0 number.0.rest_fits c.1 in
    let text = flat_map named_bytes c.0.0 in
    let more = Takes-then a.0 (to_be_bytes w16 b.0.0) b.0.1 text c.0.1 number.0 items.0 in
    let all = Takes-then bytes (4 ∷ []) a.0 (to_be_bytes w16 b.0.0 ++ text) c.0.1 kind more in
    let whole : bytes ≡ 4 ∷ (to_be_bytes w16 b.0.0 ++ text) =
    all.parts ∙ ap (λ (l : List ℕ). (4 ∷ (to_be_bytes w16 b.0.0 ++ text)) ++ l) end.0 ∙ append-nil (4 ∷ (to_be_bytes w16 b.0.0 ++ text)) in
    subst (IsDatabaseIn bytes) end.2 (
      record { few = subst (λ (n : ℕ). n < 2 ^ 16) (sym items.1) number.1; names = names; addresses = addresses; rise = end.1 },
      database_is c.0.0 ∙ ap (λ (n : ℕ). 4 ∷ (to_be_bytes w16 n ++ text)) items.1 ∙ sym whole,
    )

pub database_reads : (bytes : List ℕ) → AreBytes bytes → Reads (IsDatabaseIn bytes) (database_of bytes)
database_reads bytes fit =
    reads (IsDatabaseIn bytes) (database_of bytes) (λ tables e. database_there bytes tables fit e) (λ tables held. ap database_of (sym held.1) ∙ database_again tables held.0)

-- ---- branch records

pick : {A : Type 0} (b : Bool) (x y : Option A) (z : A) → cond b x y ≡ Some z → ((b ≡ true) × (x ≡ Some z)) ⊎ ((b ≡ false) × (y ≡ Some z))
pick true x y z e = inl (refl, e)
pick false x y z e = inr (refl, e)

-- a merge that was read, or that there is none
IsMerge : List ℕ → Option Address × List ℕ → Type 0
IsMerge bytes x = Takes bytes (merging_bytes x.0) x.1 × (is_address_or_none x.0 ≡ true)

merging_takes : (bytes : List ℕ) (x : Option Address × List ℕ) → AreBytes bytes → merging_at bytes ≡ Some x → IsMerge bytes x
unfolding IsMerge
merging_takes [] x fit e = absurd cc
merging_takes (flag ∷ rest) x fit e =
    elim (pick (eqb flag 0) (Some (None, rest)) _ x e) [
      | inl h ↦ subst (IsMerge (flag ∷ rest)) (some_is (None, rest) x h.1) (takes (flag ∷ rest) (0 ∷ []) rest fit (ap (λ (n : ℕ). n ∷ rest) (eqb-true flag 0 h.0)), refl)
      | inr h ↦ elim (pick (eqb flag 1) (option_map as_commit (address_at rest)) None x h.1) [
        | inl k ↦ (
            let m = mapped (address_at rest) as_commit x k.1 in
            let small = AreBytes-rest flag rest fit in
            let t = address_takes rest m.0 small m.1 in
            let one = takes (flag ∷ rest) (1 ∷ []) rest fit (ap (λ (n : ℕ). n ∷ rest) (eqb-true flag 1 k.0)) in
            subst (IsMerge (flag ∷ rest)) m.2 (Takes-then (flag ∷ rest) (1 ∷ []) rest m.0.0.0 m.0.1 one t, address_long rest m.0 small m.1))
        | inr k ↦ absurd (nothing x k.1)
      ]
    ]

branch_there : (bytes : List ℕ) (branch : BranchRecord) → AreBytes bytes → branch_of bytes ≡ Some branch → IsBranchIn bytes branch
unfolding branch_of IsMerge
branch_there bytes branch fit e =
    let a = bind_some (after_kind 6 bytes) (λ rest. address_at rest >>= after_head) branch e in
    let b = bind_some (address_at a.0) after_head branch a.2 in
    let c = bind_some (address_at b.0.1) (after_working b.0.0) branch b.2 in
    let d = bind_some (address_at c.0.1) (after_staged b.0.0 c.0.0) branch c.2 in
    let m = bind_some (merging_at d.0.1) (after_merging b.0.0 c.0.0 d.0.0) branch d.2 in
    let end = alone_is (made_branch b.0.0 c.0.0 d.0.0 m.0.0, m.0.1) branch m.2 in
    let kind = takes bytes (6 ∷ []) a.0 fit (kind_takes 6 bytes a.0 a.1) in
    let head = address_takes a.0 b.0 kind.rest_fits b.1 in
    let working = address_takes b.0.1 c.0 head.rest_fits c.1 in
    let staged = address_takes c.0.1 d.0 working.rest_fits d.1 in
    let merging = merging_takes d.0.1 m.0 staged.rest_fits m.1 in
    let third = merging_bytes m.0.0 in
    let second = d.0.0.0 ++ third in
    let first = c.0.0.0 ++ second in
    let three = Takes-then c.0.1 d.0.0.0 d.0.1 third m.0.1 staged merging.0 in
    let two = Takes-then b.0.1 c.0.0.0 c.0.1 second m.0.1 working three in
    let one = Takes-then a.0 b.0.0.0 b.0.1 first m.0.1 head two in
    let all = Takes-then bytes (6 ∷ []) a.0 (b.0.0.0 ++ first) m.0.1 kind one in
    let whole : bytes ≡ 6 ∷ (b.0.0.0 ++ first) =
    all.parts ∙ ap (λ (l : List ℕ). (6 ∷ (b.0.0.0 ++ first)) ++ l) end.0 ∙ append-nil (6 ∷ (b.0.0.0 ++ first)) in
    subst (IsBranchIn bytes) end.1 (
      record {
        head = address_long a.0 b.0 kind.rest_fits b.1;
        working = address_long b.0.1 c.0 head.rest_fits c.1;
        staged = address_long c.0.1 d.0 working.rest_fits d.1;
        merging = merging.1;
      },
      sym whole,
    )

pub branch_reads : (bytes : List ℕ) → AreBytes bytes → Reads (IsBranchIn bytes) (branch_of bytes)
branch_reads bytes fit =
    reads (IsBranchIn bytes) (branch_of bytes) (λ branch e. branch_there bytes branch fit e) (λ branch held. ap branch_of (sym held.1) ∙ branch_again branch held.0)
