-- Columns, indexes, checks, foreign keys and whole schemas: read as they are written.
use Rattle.std.proofs.Common.{◌≡◌, ℕ, Bool, true, false, cond, eqb, ltb, List, [], ◌∷◌, ◌++◌, length, Option, Some, None, refl, sym, ap, subst, ◌∙◌, append_assoc, append-nil}
use Rattle.std.specs.Prelude.{is_some, ◌&&◌}
use Rattle.std.specs.List.{flat_map, list_all}
use Rattle.std.proofs.lemmas.Bool.{and_parts, eqb-true}
use Rattle.std.proofs.lemmas.List.{nil_from_length}
use Rattle.tuple_codec.proofs.Options.{some_is}
use Rattle.tuple_codec.specs.Fields.{short, short_at}
use Rattle.tuple_codec.specs.KeyBytes.{bit}
use Rattle.tuple_codec.specs.Limits.{is_type}
use Rattle.tuple_codec.specs.RowBytes.{length_prefixed}
use Rattle.tuple_codec.specs.Fronts.{length_prefixed_at}
use Rattle.tuple_codec.specs.declared.values.SqlType.{SqlType}
use Rattle.tuple_codec.specs.declared.values.Value.{Value}
use Rattle.tuple_codec.proofs.NumberLemmas.{AreBytes}
use Rattle.tuple_codec.proofs.TextLemmas.{counted_again, counted_takes}
use Rattle.schema_model.specs.declared.schemas.Column.{Column}
use Rattle.schema_model.specs.declared.schemas.IndexDef.{IndexDef}
use Rattle.schema_model.specs.declared.schemas.CheckDef.{CheckDef}
use Rattle.schema_model.specs.declared.schemas.ForeignKey.{ForeignKey}
use Rattle.schema_model.specs.declared.schemas.Schema.{Schema}
use Rattle.schema_model.specs.SchemaBytes.{check_bytes, column_bytes, default_bytes, flags, foreign_bytes, index_bytes, listed, schema_bytes, type_bytes}
use Rattle.schema_model.specs.Schemas.{are_checks, are_columns, are_foreign, are_indexes, default_fits, is_check, is_column, is_foreign, is_index, is_key, is_name, is_schema}
use Rattle.schema_model.specs.Reading.{◌>>=◌, bool_of, byte_at, check_at, column_at, default_at, flags_of, foreign_at, if_schema, index_at, items_at, list_at, schema_at, schema_of, type_at}
use Rattle.schema_model.specs.Spellings.{HasOneSpelling, ReadsSchema}
use Rattle.schema_model.proofs.PartLemmas.{IsReader, Takes, Takes-then, bind_some, bool_again, bool_means, byte_again, byte_takes, flags_again, flags_mean, items_again, items_take, list_reader, nothing, short_again, short_reader, type_again, type_reader}
use Rattle.schema_model.proofs.ValueLemmas.{default_again, default_takes}

-- ---- columns

abbrev after_flags : List ℕ → SqlType → (Bool × Bool) × List ℕ → Option (Column × List ℕ)
after_flags name type flag = default_at flag.0.1 type flag.1 >>= λ default. Some (record { name = name; kind = type; not_null = flag.0.0; default = default.0 }, default.1)

abbrev after_type : List ℕ → SqlType × List ℕ → Option (Column × List ℕ)
after_type name type = byte_at flags_of type.1 >>= after_flags name type.0

abbrev after_name : List ℕ × List ℕ → Option (Column × List ℕ)
after_name name = type_at name.1 >>= after_type name.0

column_takes : (bytes : List ℕ) (x : Column × List ℕ) → AreBytes bytes → column_at bytes ≡ Some x → Takes bytes (column_bytes x.0) x.1
unfolding column_at
column_takes bytes x fit e =
    let a = bind_some (short_at bytes) after_name x e in
    let b = bind_some (type_at a.0.1) (after_type a.0.0) x a.2 in
    let c = bind_some (byte_at flags_of b.0.1) (after_flags a.0.0 b.0.0) x b.2 in
    let d = bind_some (default_at c.0.0.1 b.0.0 c.0.1) (λ default. Some (record { name = a.0.0; kind = b.0.0; not_null = c.0.0.0; default = default.0 }, default.1)) x c.2 in
    let first = (short_reader is_name).takes bytes a.0 fit a.1 in
    let second = type_reader.takes a.0.1 b.0 first.rest_fits b.1 in
    let third = byte_takes flags_of (λ f. flags f.0 f.1) flags_mean b.0.1 c.0 second.rest_fits c.1 in
    let fourth = default_takes c.0.0.1 b.0.0 c.0.1 d.0 third.rest_fits d.1 in
    let flag : Takes b.0.1 (flags c.0.0.0 (is_some d.0.0) ∷ []) c.0.1 = subst (λ (f : Bool). Takes b.0.1 (flags c.0.0.0 f ∷ []) c.0.1) (sym fourth.1) third in
    let tail = Takes-then b.0.1 (flags c.0.0.0 (is_some d.0.0) ∷ []) c.0.1 (default_bytes d.0.0) d.0.1 flag fourth.0 in
    let more = Takes-then a.0.1 (type_bytes b.0.0) b.0.1 (flags c.0.0.0 (is_some d.0.0) ∷ default_bytes d.0.0) d.0.1 second tail in
    let all = Takes-then bytes (short a.0.0) a.0.1 (type_bytes b.0.0 ++ flags c.0.0.0 (is_some d.0.0) ∷ default_bytes d.0.0) d.0.1 first more in
    let made : Column × List ℕ = (record { name = a.0.0; kind = b.0.0; not_null = c.0.0.0; default = d.0.0 }, d.0.1) in
    subst (λ (y : Column × List ℕ). Takes bytes (column_bytes y.0) y.1) (some_is made x d.2) all

column_again : (column : Column) (rest : List ℕ) → is_column column ≡ true → column_at (column_bytes column ++ rest) ≡ Some (column, rest)
unfolding column_at
column_again column rest h =
    let p = and_parts (is_name column.name && is_type column.kind) (default_fits column.kind column.default) h in
    let t = (and_parts (is_name column.name) (is_type column.kind) p.0).1 in
    let has = is_some column.default in
    let back = default_bytes column.default ++ rest in
    let split : column_bytes column ++ rest ≡ short column.name ++ (type_bytes column.kind ++ (flags column.not_null has ∷ back)) = simp append_assoc in
    ap (λ (l : List ℕ). short_at l >>= after_name) split
    ∙ ap (λ (o : Option (List ℕ × List ℕ)). o >>= after_name) (short_again column.name (type_bytes column.kind ++ (flags column.not_null has ∷ back)))
    ∙ ap (λ (o : Option (SqlType × List ℕ)). o >>= after_type column.name) (type_again column.kind (flags column.not_null has ∷ back) t)
    ∙ ap (λ (o : Option ((Bool × Bool) × List ℕ)). o >>= after_flags column.name column.kind) (byte_again flags_of (flags column.not_null has) (column.not_null, has) back (flags_again column.not_null has))
    ∙ ap (λ (o : Option (Option Value × List ℕ)). o >>= λ default. Some (record { name = column.name; kind = column.kind; not_null = column.not_null; default = default.0 }, default.1))
    (default_again column.default column.kind rest t p.1)

column_reader : IsReader column_bytes is_column column_at
column_reader = record { takes = column_takes; again = column_again }

-- ---- indexes

abbrev after_unique : List ℕ → Bool × List ℕ → Option (IndexDef × List ℕ)
after_unique name unique = short_at unique.1 >>= λ columns. Some (record { name = name; unique = unique.0; columns = columns.0 }, columns.1)

abbrev after_index_name : List ℕ × List ℕ → Option (IndexDef × List ℕ)
after_index_name name = byte_at bool_of name.1 >>= after_unique name.0

index_takes : (bytes : List ℕ) (x : IndexDef × List ℕ) → AreBytes bytes → index_at bytes ≡ Some x → Takes bytes (index_bytes x.0) x.1
unfolding index_at
index_takes bytes x fit e =
    let a = bind_some (short_at bytes) after_index_name x e in
    let b = bind_some (byte_at bool_of a.0.1) (after_unique a.0.0) x a.2 in
    let c = bind_some (short_at b.0.1) (λ columns. Some (record { name = a.0.0; unique = b.0.0; columns = columns.0 }, columns.1)) x b.2 in
    let first = (short_reader is_name).takes bytes a.0 fit a.1 in
    let second = byte_takes bool_of bit bool_means a.0.1 b.0 first.rest_fits b.1 in
    let third = (short_reader is_name).takes b.0.1 c.0 second.rest_fits c.1 in
    let tail = Takes-then a.0.1 (bit b.0.0 ∷ []) b.0.1 (short c.0.0) c.0.1 second third in
    let all = Takes-then bytes (short a.0.0) a.0.1 (bit b.0.0 ∷ short c.0.0) c.0.1 first tail in
    let made : IndexDef × List ℕ = (record { name = a.0.0; unique = b.0.0; columns = c.0.0 }, c.0.1) in
    subst (λ (y : IndexDef × List ℕ). Takes bytes (index_bytes y.0) y.1) (some_is made x c.2) all

index_again : (index : IndexDef) (rest : List ℕ) → index_at (index_bytes index ++ rest) ≡ Some (index, rest)
unfolding index_at
index_again index rest =
    let split : index_bytes index ++ rest ≡ short index.name ++ (bit index.unique ∷ (short index.columns ++ rest)) = simp append_assoc in
    ap (λ (l : List ℕ). short_at l >>= after_index_name) split
    ∙ ap (λ (o : Option (List ℕ × List ℕ)). o >>= after_index_name) (short_again index.name (bit index.unique ∷ (short index.columns ++ rest)))
    ∙ ap (λ (o : Option (Bool × List ℕ)). o >>= after_unique index.name) (byte_again bool_of (bit index.unique) index.unique (short index.columns ++ rest) (bool_again index.unique))
    ∙ ap (λ (o : Option (List ℕ × List ℕ)). o >>= λ columns. Some (record { name = index.name; unique = index.unique; columns = columns.0 }, columns.1)) (short_again index.columns rest)

index_reader : (columns : ℕ) → IsReader index_bytes (is_index columns) index_at
index_reader columns = record { takes = index_takes; again = λ index rest h. index_again index rest }

-- ---- checks

abbrev after_check_name : List ℕ × List ℕ → Option (CheckDef × List ℕ)
after_check_name name = length_prefixed_at name.1 >>= λ text. Some (record { name = name.0; text = text.0 }, text.1)

check_takes : (bytes : List ℕ) (x : CheckDef × List ℕ) → AreBytes bytes → check_at bytes ≡ Some x → Takes bytes (check_bytes x.0) x.1
unfolding check_at
check_takes bytes x fit e =
    let a = bind_some (short_at bytes) after_check_name x e in
    let b = bind_some (length_prefixed_at a.0.1) (λ text. Some (record { name = a.0.0; text = text.0 }, text.1)) x a.2 in
    let first = (short_reader is_name).takes bytes a.0 fit a.1 in
    let c = counted_takes a.0.1 b.0.0 b.0.1 first.rest_fits b.1 in
    let second : Takes a.0.1 (length_prefixed b.0.0) b.0.1 = record { parts = c.0; rest_fits = c.1 } in
    let all = Takes-then bytes (short a.0.0) a.0.1 (length_prefixed b.0.0) b.0.1 first second in
    let made : CheckDef × List ℕ = (record { name = a.0.0; text = b.0.0 }, b.0.1) in
    subst (λ (y : CheckDef × List ℕ). Takes bytes (check_bytes y.0) y.1) (some_is made x b.2) all

check_again : (check : CheckDef) (rest : List ℕ) → check_at (check_bytes check ++ rest) ≡ Some (check, rest)
unfolding check_at
check_again check rest =
    let split : check_bytes check ++ rest ≡ short check.name ++ (length_prefixed check.text ++ rest) = simp append_assoc in
    ap (λ (l : List ℕ). short_at l >>= after_check_name) split
    ∙ ap (λ (o : Option (List ℕ × List ℕ)). o >>= after_check_name) (short_again check.name (length_prefixed check.text ++ rest))
    ∙ ap (λ (o : Option (List ℕ × List ℕ)). o >>= λ text. Some (record { name = check.name; text = text.0 }, text.1)) (counted_again check.text rest)

check_reader : IsReader check_bytes is_check check_at
check_reader = record { takes = check_takes; again = λ check rest h. check_again check rest }

-- ---- foreign keys

abbrev after_parent : List ℕ → List ℕ → List ℕ × List ℕ → Option (ForeignKey × List ℕ)
after_parent name columns parent =
    items_at short_at (length columns) parent.1 >>= λ others. Some (record { name = name; columns = columns; parent = parent.0; parent_columns = others.0 }, others.1)

abbrev after_positions : List ℕ → List ℕ × List ℕ → Option (ForeignKey × List ℕ)
after_positions name columns = short_at columns.1 >>= after_parent name columns.0

abbrev after_foreign_name : List ℕ × List ℕ → Option (ForeignKey × List ℕ)
after_foreign_name name = short_at name.1 >>= after_positions name.0

foreign_takes : (bytes : List ℕ) (x : ForeignKey × List ℕ) → AreBytes bytes → foreign_at bytes ≡ Some x → Takes bytes (foreign_bytes x.0) x.1
unfolding foreign_at
foreign_takes bytes x fit e =
    let a = bind_some (short_at bytes) after_foreign_name x e in
    let b = bind_some (short_at a.0.1) (after_positions a.0.0) x a.2 in
    let c = bind_some (short_at b.0.1) (after_parent a.0.0 b.0.0) x b.2 in
    let d = bind_some (items_at short_at (length b.0.0) c.0.1) (λ others. Some (record { name = a.0.0; columns = b.0.0; parent = c.0.0; parent_columns = others.0 }, others.1)) x c.2 in
    let first = (short_reader is_name).takes bytes a.0 fit a.1 in
    let second = (short_reader is_name).takes a.0.1 b.0 first.rest_fits b.1 in
    let third = (short_reader is_name).takes b.0.1 c.0 second.rest_fits c.1 in
    let fourth = items_take short is_name short_at (short_reader is_name) (length b.0.0) c.0.1 d.0 third.rest_fits d.1 in
    let tail = Takes-then b.0.1 (short c.0.0) c.0.1 (flat_map short d.0.0) d.0.1 third fourth.0 in
    let more = Takes-then a.0.1 (short b.0.0) b.0.1 (short c.0.0 ++ flat_map short d.0.0) d.0.1 second tail in
    let all = Takes-then bytes (short a.0.0) a.0.1 (short b.0.0 ++ (short c.0.0 ++ flat_map short d.0.0)) d.0.1 first more in
    let made : ForeignKey × List ℕ = (record { name = a.0.0; columns = b.0.0; parent = c.0.0; parent_columns = d.0.0 }, d.0.1) in
    subst (λ (y : ForeignKey × List ℕ). Takes bytes (foreign_bytes y.0) y.1) (some_is made x d.2) all

-- the parent's columns are names, as many as the columns
foreign_parts : (columns : ℕ) (foreign : ForeignKey) → is_foreign columns foreign ≡ true → (list_all is_name foreign.parent_columns ≡ true) × (length foreign.columns ≡ length foreign.parent_columns)
foreign_parts columns foreign h =
    let p = and_parts _ (eqb (length foreign.columns) (length foreign.parent_columns)) h in
    let q = and_parts _ (list_all is_name foreign.parent_columns) p.0 in
    (q.1, eqb-true _ _ p.1)

foreign_again : (columns : ℕ) (foreign : ForeignKey) (rest : List ℕ) → is_foreign columns foreign ≡ true → foreign_at (foreign_bytes foreign ++ rest) ≡ Some (foreign, rest)
unfolding foreign_at
foreign_again columns foreign rest h =
    let p = foreign_parts columns foreign h in
    let others = flat_map short foreign.parent_columns ++ rest in
    let split : foreign_bytes foreign ++ rest ≡ short foreign.name ++ (short foreign.columns ++ (short foreign.parent ++ others)) = simp append_assoc in
    ap (λ (l : List ℕ). short_at l >>= after_foreign_name) split
    ∙ ap (λ (o : Option (List ℕ × List ℕ)). o >>= after_foreign_name) (short_again foreign.name (short foreign.columns ++ (short foreign.parent ++ others)))
    ∙ ap (λ (o : Option (List ℕ × List ℕ)). o >>= after_positions foreign.name) (short_again foreign.columns (short foreign.parent ++ others))
    ∙ ap (λ (o : Option (List ℕ × List ℕ)). o >>= after_parent foreign.name foreign.columns) (short_again foreign.parent others)
    ∙ ap (λ (o : Option (List (List ℕ) × List ℕ)). o >>= λ more. Some (record { name = foreign.name; columns = foreign.columns; parent = foreign.parent; parent_columns = more.0 }, more.1))
    (ap (λ (n : ℕ). items_at short_at n others) p.1 ∙ items_again short is_name short_at (short_reader is_name) foreign.parent_columns rest p.0)

foreign_reader : (columns : ℕ) → IsReader foreign_bytes (is_foreign columns) foreign_at
foreign_reader columns = record { takes = foreign_takes; again = foreign_again columns }

-- ---- schemas

abbrev after_checks : List Column → List ℕ → List IndexDef → List CheckDef × List ℕ → Option (Schema × List ℕ)
after_checks columns key indexes checks =
    list_at foreign_at checks.1 >>= λ foreign. Some (record { columns = columns; key = key; indexes = indexes; checks = checks.0; foreign = foreign.0 }, foreign.1)

abbrev after_indexes : List Column → List ℕ → List IndexDef × List ℕ → Option (Schema × List ℕ)
after_indexes columns key indexes = list_at check_at indexes.1 >>= after_checks columns key indexes.0

abbrev after_key : List Column → List ℕ × List ℕ → Option (Schema × List ℕ)
after_key columns key = list_at index_at key.1 >>= after_indexes columns key.0

abbrev after_columns : List Column × List ℕ → Option (Schema × List ℕ)
after_columns columns = short_at columns.1 >>= after_key columns.0

schema_takes : (bytes : List ℕ) (x : Schema × List ℕ) → AreBytes bytes → schema_at bytes ≡ Some x → bytes ≡ schema_bytes x.0 ++ x.1
unfolding schema_at
schema_takes bytes x fit e =
    let columns = list_reader column_bytes is_column column_at column_reader in
    let indexes = list_reader index_bytes (is_index 0) index_at (index_reader 0) in
    let checks = list_reader check_bytes is_check check_at check_reader in
    let foreign = list_reader foreign_bytes (is_foreign 0) foreign_at (foreign_reader 0) in
    let a = bind_some (list_at column_at bytes) after_columns x e in
    let b = bind_some (short_at a.0.1) (after_key a.0.0) x a.2 in
    let c = bind_some (list_at index_at b.0.1) (after_indexes a.0.0 b.0.0) x b.2 in
    let d = bind_some (list_at check_at c.0.1) (after_checks a.0.0 b.0.0 c.0.0) x c.2 in
    let f = bind_some (list_at foreign_at d.0.1) (λ more. Some (record { columns = a.0.0; key = b.0.0; indexes = c.0.0; checks = d.0.0; foreign = more.0 }, more.1)) x d.2 in
    let first = columns.takes bytes a.0 fit a.1 in
    let second = (short_reader is_name).takes a.0.1 b.0 first.rest_fits b.1 in
    let third = indexes.takes b.0.1 c.0 second.rest_fits c.1 in
    let fourth = checks.takes c.0.1 d.0 third.rest_fits d.1 in
    let fifth = foreign.takes d.0.1 f.0 fourth.rest_fits f.1 in
    let tail = Takes-then c.0.1 (listed check_bytes d.0.0) d.0.1 (listed foreign_bytes f.0.0) f.0.1 fourth fifth in
    let more = Takes-then b.0.1 (listed index_bytes c.0.0) c.0.1 (listed check_bytes d.0.0 ++ listed foreign_bytes f.0.0) f.0.1 third tail in
    let most = Takes-then a.0.1 (short b.0.0) b.0.1 (listed index_bytes c.0.0 ++ (listed check_bytes d.0.0 ++ listed foreign_bytes f.0.0)) f.0.1 second more in
    let all = Takes-then bytes (listed column_bytes a.0.0) a.0.1 (short b.0.0 ++ (listed index_bytes c.0.0 ++ (listed check_bytes d.0.0 ++ listed foreign_bytes f.0.0))) f.0.1 first most in
    let made : Schema × List ℕ = (record { columns = a.0.0; key = b.0.0; indexes = c.0.0; checks = d.0.0; foreign = f.0.0 }, f.0.1) in
    subst (λ (y : Schema × List ℕ). bytes ≡ schema_bytes y.0 ++ y.1) (some_is made x f.2) all.parts

-- the rules on the lists of a schema
pub record HasParts (s : Schema) : Type 0 where
  pub columns : list_all is_column s.columns ≡ true
  pub indexes : list_all (is_index (length s.columns)) s.indexes ≡ true
  pub checks : list_all is_check s.checks ≡ true
  pub foreign : list_all (is_foreign (length s.columns)) s.foreign ≡ true
  pub few_columns : ltb (length s.columns) 256 ≡ true
  pub few_positions : ltb (length s.key) 256 ≡ true
  pub few_indexes : ltb (length s.indexes) 256 ≡ true
  pub few_checks : ltb (length s.checks) 256 ≡ true
  pub few_foreign : ltb (length s.foreign) 256 ≡ true

-- the first two of three facts
front_two : (a b c : Bool) → (a && b && c) ≡ true → (a ≡ true) × (b ≡ true)
front_two a b c h = let p = and_parts (a && b) c h in and_parts a b p.0

pub parts_of : (s : Schema) → is_schema s ≡ true → HasParts s
parts_of s h =
    let n = length s.columns in
    let a = and_parts _ (are_foreign n s.foreign) h in
    let b = and_parts _ (are_checks s.checks) a.0 in
    let c = and_parts _ (are_indexes n s.indexes) b.0 in
    let d = and_parts (are_columns s.columns) (is_key s.columns s.key) c.0 in
    let columns = front_two _ (list_all is_column s.columns) _ d.0 in
    let indexes = front_two _ (list_all (is_index n) s.indexes) _ c.1 in
    let checks = front_two _ (list_all is_check s.checks) _ b.1 in
    let foreign = front_two _ (list_all (is_foreign n) s.foreign) _ a.1 in
    let key = and_parts _ _ d.1 in
    let key2 = and_parts _ _ key.0 in
    let key3 = front_two _ _ _ key2.0 in
    record {
      columns = columns.1;
      indexes = indexes.1;
      checks = checks.1;
      foreign = foreign.1;
      few_columns = columns.0;
      few_positions = key3.0;
      few_indexes = indexes.0;
      few_checks = checks.0;
      few_foreign = foreign.0;
    }

schema_again : (s : Schema) → is_schema s ≡ true → schema_at (schema_bytes s) ≡ Some (s, [])
unfolding schema_at
schema_again s h =
    let p = parts_of s h in
    let n = length s.columns in
    let columns = list_reader column_bytes is_column column_at column_reader in
    let indexes = list_reader index_bytes (is_index n) index_at (index_reader n) in
    let checks = list_reader check_bytes is_check check_at check_reader in
    let foreign = list_reader foreign_bytes (is_foreign n) foreign_at (foreign_reader n) in
    let fifth = listed foreign_bytes s.foreign in
    let fourth = listed check_bytes s.checks ++ fifth in
    let third = listed index_bytes s.indexes ++ fourth in
    ap (λ (o : Option (List Column × List ℕ)). o >>= after_columns) (columns.again s.columns (short s.key ++ third) p.columns)
    ∙ ap (λ (o : Option (List ℕ × List ℕ)). o >>= after_key s.columns) (short_again s.key third)
    ∙ ap (λ (o : Option (List IndexDef × List ℕ)). o >>= after_indexes s.columns s.key) (indexes.again s.indexes fourth p.indexes)
    ∙ ap (λ (o : Option (List CheckDef × List ℕ)). o >>= after_checks s.columns s.key s.indexes) (checks.again s.checks fifth p.checks)
    ∙ ap (λ (o : Option (List ForeignKey × List ℕ)). o >>= λ more. Some (record { columns = s.columns; key = s.key; indexes = s.indexes; checks = s.checks; foreign = more.0 }, more.1))
    (ap (list_at foreign_at) (sym (append-nil fifth)) ∙ foreign.again s.foreign [] p.foreign)

-- ---- what reading answers

found_again : (s : Schema) → is_schema s ≡ true → schema_of (schema_bytes s) ≡ Some s
found_again s h =
    ap (λ (o : Option (Schema × List ℕ)). o >>= if_schema) (schema_again s h) ∙ ap (λ (b : Bool). cond b (Some s) None) h

kept : (b : Bool) (x y : Schema) → cond b (Some x) None ≡ Some y → (b ≡ true) × (x ≡ y)
kept true x y e = (refl, some_is x y e)
kept false x y e = absurd cc

pub is_read : (bytes : List ℕ) (s : Schema) → AreBytes bytes → schema_of bytes ≡ Some s → ReadsSchema bytes (Some s)
is_read bytes s fit e =
    let b = bind_some (schema_at bytes) if_schema s e in
    let k = kept _ b.0.0 s b.2 in
    let both = and_parts (eqb (length b.0.1) 0) (is_schema b.0.0) k.0 in
    let empty : b.0.1 ≡ [] = nil_from_length b.0.1 (eqb-true _ _ both.0) in
    let all : bytes ≡ schema_bytes b.0.0 = schema_takes bytes b.0 fit b.1 ∙ ap (λ (r : List ℕ). schema_bytes b.0.0 ++ r) empty ∙ append-nil (schema_bytes b.0.0) in
    subst (λ (y : Schema). (is_schema y ≡ true) × (schema_bytes y ≡ bytes)) k.1 (both.1, sym all)

pub is_none : (bytes : List ℕ) → schema_of bytes ≡ None → ReadsSchema bytes None
is_none bytes e s h same = nothing s (sym e ∙ ap schema_of (sym same) ∙ found_again s h)

pub one_spelling : HasOneSpelling
one_spelling a b ha hb same = some_is a b (sym (found_again a ha) ∙ ap schema_of same ∙ found_again b hb)
