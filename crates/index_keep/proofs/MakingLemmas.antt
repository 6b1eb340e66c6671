-- Indexes are made and edited one after another.
use Rattle.std.proofs.Common.{◌≡◌, ◌≤◌, ◌-◌, ◌∙◌, ℕ, true, List, [], ◌∷◌, ◌++◌, length, take, drop, get_or, sym, ap, subst, arith}
use Rattle.std.specs.List.{list_all}
use Rattle.std.proofs.lemmas.Bool.{and_parts}
use Rattle.std.proofs.lemmas.List.{drop_more, take_rest}
use Rattle.tuple_codec.specs.Rows.{Cells}
use Rattle.tuple_codec.specs.declared.addresses.Address.{Address}
use Rattle.schema_model.specs.PlainTables.{index_items}
use Rattle.schema_model.specs.Limits.{is_short_in}
use Rattle.schema_model.specs.Schemas.{is_index}
use Rattle.schema_model.specs.declared.schemas.IndexDef.{IndexDef}
use Rattle.schema_model.specs.declared.schemas.Schema.{Schema}
use Rattle.chunk_store.specs.Chunks.{Chunks, Extends}
use Rattle.chunk_store.specs.Drafts.{Drafting, Grows, chunks_of}
use Rattle.chunk_store.specs.Kinds.{is_node}
use Rattle.chunk_store.specs.Standing.{IsTree}
use Rattle.chunk_store.proofs.FollowLemmas.{drafts_follow}
use Rattle.chunk_store.proofs.GrowthLemmas.{drafts_grow}
use Rattle.index_keep.specs.Keeping.{table_of_rows}
use Rattle.index_keep.specs.Steps.{CanEditIndex, CanEditIndexes, StandAt}
use Rattle.index_keep.specs.declared.changes.RowChange.{RowChange}
use Rattle.index_keep.proofs.TableLemmas.{stand_later}

-- what a draft has, it has later
pub grown : (old new : Drafting) → Grows is_node old new → Extends (chunks_of old.chunks) (chunks_of new.chunks)
grown old new grows = drafts_follow.longer_extends old.chunks new.chunks (drafts_grow.is_longer is_node old new grows)

module _ (address : List ℕ → List ℕ) (chunks : Chunks) (schema : Schema) (index : IndexDef) (indexes : List IndexDef) (k : Address) (roots : List Address) (changes : List RowChange)
    (rows others : List Cells) (keys : List (List ℕ)) (can : CanEditIndexes address chunks schema (index ∷ indexes) (k ∷ roots) changes rows others keys) where
  abbrev in_parts : (is_index (length schema.columns) index ≡ true) × (list_all (is_index (length schema.columns)) indexes ≡ true)
  in_parts = and_parts (is_index (length schema.columns) index) (list_all (is_index (length schema.columns)) indexes) can.indexes_in

  abbrev short_parts : (list_all (λ row. is_short_in row index) others ≡ true) × (list_all (λ index. list_all (λ row. is_short_in row index) others) indexes ≡ true)
  short_parts = and_parts (list_all (λ row. is_short_in row index) others) (list_all (λ index. list_all (λ row. is_short_in row index) others) indexes) can.short

  pub first_can : CanEditIndex address chunks k.0 schema index changes rows others keys
  first_can = record { tree = can.stand.0; index_in = in_parts.0; short = short_parts.0; others_of = can.others_of; changed = can.changed; changes_are = can.changes_are }

  pub others_can : (later : Chunks) → Extends chunks later → CanEditIndexes address later schema indexes roots changes rows others keys
  others_can later more = record {
    stand = stand_later address chunks later more schema rows indexes roots can.stand.1;
    indexes_in = in_parts.1;
    short = short_parts.1;
    others_of = can.others_of;
    changed = can.changed;
    changes_are = can.changes_are;
  }

-- one root more
pub stand_more : (address : List ℕ → List ℕ) (chunks : Chunks) (schema : Schema) (rows : List Cells) (index : IndexDef) (k : Address)
    → IsTree address chunks k.0 (index_items (table_of_rows schema rows) index) → (done : List IndexDef) (roots : List Address) → StandAt address chunks schema rows done roots
    → StandAt address chunks schema rows (done ++ index ∷ []) (roots ++ k ∷ [])
stand_more address chunks schema rows index k tree [] [] all = (tree, tt)
stand_more address chunks schema rows index k tree [] (r ∷ roots) all = absurd all
stand_more address chunks schema rows index k tree (i ∷ done) [] all = absurd all
stand_more address chunks schema rows index k tree (i ∷ done) (r ∷ roots) all = (all.0, stand_more address chunks schema rows index k tree done roots all.1)

-- lists by their first and the others, as a pattern names them
abbrev pub the_others : {A : Type 0} → List A → List A
the_others xs = take (length xs - 1) (drop 1 xs)

first_and_others : {A : Type 0} (xs : List A) (d : A) → 1 ≤ length xs → xs ≡ get_or xs 0 d ∷ the_others xs
first_and_others xs d some = drop_more xs 0 d (omega (arith, some)) ∙ ap (λ l. get_or xs 0 d ∷ l) (sym (take_rest xs 1))

pub by_first : {A : Type 0} (xs : List A) (first : A) → 1 ≤ length xs → first ≡ get_or xs 0 first → xs ≡ first ∷ the_others xs
by_first xs first some is = first_and_others xs first some ∙ ap (λ x. x ∷ the_others xs) (sym is)

pub can_by_first : (address : List ℕ → List ℕ) (chunks : Chunks) (schema : Schema) (indexes : List IndexDef) (index : IndexDef) (roots : List Address) (d : Address) (changes : List RowChange)
    (rows others : List Cells) (keys : List (List ℕ)) → 1 ≤ length indexes → index ≡ get_or indexes 0 index → 1 ≤ length roots
    → CanEditIndexes address chunks schema indexes roots changes rows others keys
    → CanEditIndexes address chunks schema (index ∷ the_others indexes) (get_or roots 0 d ∷ the_others roots) changes rows others keys
can_by_first address chunks schema indexes index roots d changes rows others keys some is some_roots can =
    subst (λ (l : List IndexDef). CanEditIndexes address chunks schema l (get_or roots 0 d ∷ the_others roots) changes rows others keys) (by_first indexes index some is)
    (subst (λ (l : List Address). CanEditIndexes address chunks schema indexes l changes rows others keys) (first_and_others roots d some_roots) can)
