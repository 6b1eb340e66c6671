-- An index's entries after rows change: who asks for an entry asks for one row.
use Rattle.std.proofs.Common.{◌≡◌, ℕ, suc, Bool, true, false, List, [], ◌∷◌, ◌++◌, length, map, Option, None, Some, refl, sym, ap, ◌∙◌}
use Rattle.std.specs.Prelude.{bytes_eq, if◌then◌else◌, ◌||◌}
use Rattle.std.specs.List.{AllByRecursion, flat_map, list_all, list_any}
use Rattle.std.specs.Option.{option_map}
use Rattle.std.specs.Ordering.{is_lt}
use Rattle.std.specs.declared.cmp.Ordering.{Ordering}
use Rattle.std.specs.declared.cmp.Ordering.TheVariants.{Less, Equal, Greater}
use Rattle.std.proofs.lemmas.Bool.{and_parts}
use Rattle.tuple_codec.proofs.ByteLemmas.{same_bytes as eq_key, bytes_itself as itself}
use Rattle.tuple_codec.specs.Edits.{EditsRiseAfter, edited, order, value_at}
use Rattle.tuple_codec.specs.Nodes.{Item, Rise, RiseAfter, is_after, leaf_item}
use Rattle.tuple_codec.specs.declared.edits.Edit.{Edit}
use Rattle.schema_model.specs.PlainTables.{placed, sorted}
use Rattle.tuple_codec.specs.ByKey.{AreLeafRows, edit_at, over}
use Rattle.tuple_codec.proofs.KeyOrders.{same_key, turned, unlike as not_back}
use Rattle.tuple_codec.proofs.Rising.{edited_all, edited_rise}
use Rattle.tuple_codec.proofs.EditedValues.{edited_value, same_rows}
use Rattle.index_keep.specs.Entries.{entry_edits, found, put_entry, remove_entry}
use Rattle.index_keep.specs.Steps.{AreApart, AreOnce}
use Rattle.index_keep.proofs.FoundLemmas.{Apart, found_fits, found_name}

-- ---- items put at their places

-- nothing stands under the keys
abbrev pub AreBare : List Item → Type 0
AreBare items = AllByRecursion (λ item. item.body ≡ []) items

swap : (b c : Bool) (one two : List ℕ) (rest : Option (List ℕ)) → one ≡ two
    → (if b then Some one else (if c then Some two else rest)) ≡ (if c then Some two else (if b then Some one else rest))
swap true true one two rest e = ap (λ x. Some x) e
swap true false one two rest e = refl
swap false true one two rest e = refl
swap false false one two rest e = refl

value_placed : (key : List ℕ) (item : Item) (items : List Item) → item.body ≡ [] → AreBare items → value_at key (placed item items) ≡ value_at key (item ∷ items)
value_placed key item [] is bare = refl
value_placed key item (other ∷ items) is bare =
    elim (is_lt (order item.key other.key)) as (λ b. value_at key (if b then item ∷ other ∷ items else other ∷ placed item items) ≡ value_at key (item ∷ other ∷ items)) [
      | true ↦ refl
      | false ↦ ap (λ v. if bytes_eq other.key key then Some other.body else v) (value_placed key item items is bare.1)
          ∙ swap (bytes_eq other.key key) (bytes_eq item.key key) other.body item.body (value_at key items) (bare.0 ∙ sym is)
    ]

all_placed : (P : Item → Type 0) (item : Item) (items : List Item) → P item → AllByRecursion P items → AllByRecursion P (placed item items)
all_placed P item [] is all = (is, tt)
all_placed P item (other ∷ items) is all =
    elim (is_lt (order item.key other.key)) as (λ b. AllByRecursion P (if b then item ∷ other ∷ items else other ∷ placed item items)) [
      | true ↦ (is, all)
      | false ↦ (all.0, all_placed P item items is all.1)
    ]

pub all_sorted : (P : Item → Type 0) (items : List Item) → AllByRecursion P items → AllByRecursion P (sorted items)
all_sorted P [] all = tt
all_sorted P (item ∷ items) all = all_placed P item (sorted items) all.0 (all_sorted P items all.1)

length_placed : (item : Item) (items : List Item) → length (placed item items) ≡ suc (length items)
length_placed item [] = refl
length_placed item (other ∷ items) =
    elim (is_lt (order item.key other.key)) as (λ b. length (if b then item ∷ other ∷ items else other ∷ placed item items) ≡ suc (suc (length items))) [
      | true ↦ refl
      | false ↦ ap (λ (n : ℕ). suc n) (length_placed item items)
    ]

pub length_sorted : (items : List Item) → length (sorted items) ≡ length items
length_sorted [] = refl
length_sorted (item ∷ items) = length_placed item (sorted items) ∙ ap (λ (n : ℕ). suc n) (length_sorted items)

value_sorted : (key : List ℕ) (items : List Item) → AreBare items → value_at key (sorted items) ≡ value_at key items
value_sorted key [] bare = refl
value_sorted key (item ∷ items) bare =
    value_placed key item (sorted items) bare.0 (all_sorted (λ item. item.body ≡ []) items bare.1)
    ∙ ap (λ v. if bytes_eq item.key key then Some item.body else v) (value_sorted key items bare.1)

rise_placed : (before : Option (List ℕ)) (item : Item) (items : List Item) → is_after before item.key ≡ true → RiseAfter before items → value_at item.key items ≡ None
    → RiseAfter before (placed item items)
rise_placed before item [] after rise none = (after, tt)
rise_placed before item (other ∷ items) after rise none =
    by (λ less gone. rise_placed (Some other.key) item items less rise.1 gone) (order item.key other.key) refl where
      by : (is_lt (order other.key item.key) ≡ true → value_at item.key items ≡ None → RiseAfter (Some other.key) (placed item items)) → (o : Ordering) → order item.key other.key ≡ o → RiseAfter before (if is_lt o then item ∷ other ∷ items else other ∷ placed item items)
      by more Less e = (after, (ap is_lt e, rise.1))
      by more Equal e =
          let here : value_at item.key (other ∷ items) ≡ Some other.body =
          ap (λ k. if bytes_eq k item.key then Some other.body else value_at item.key items) (sym (same_key item.key other.key e))
          ∙ ap (λ b. if b then Some other.body else value_at item.key items) (itself item.key) in
          absurd (cc (sym none ∙ here))
      by more Greater e =
          let less = turned item.key other.key e in
          (rise.0, more (ap is_lt less) (sym (ap (λ b. if b then Some other.body else value_at item.key items) (not_back other.key item.key less)) ∙ none))

-- nothing, but there
abbrev nothing : Option (List ℕ)
nothing = Some []

-- ---- entries and their owners

module _ {A : Type 0} (row_key entry_key : A → List ℕ) (fits : A → Bool)
    (one : (a b : A) → fits a ≡ true → fits b ≡ true → entry_key a ≡ entry_key b → row_key a ≡ row_key b) where
  abbrev pub entries : List A → List Item
  entries rows = map (λ row. leaf_item (entry_key row) []) rows

  -- a row with this entry has this key
  abbrev Owned : List ℕ → List ℕ → List A → Type 0
  Owned entry key rows = AllByRecursion (λ row. entry_key row ≡ entry → row_key row ≡ key) rows

  owned_by : (row : A) → fits row ≡ true → (entry : List ℕ) → entry_key row ≡ entry → (rows : List A) → list_all fits rows ≡ true → Owned entry (row_key row) rows
  owned_by row is entry at [] all = tt
  owned_by row is entry at (other ∷ rows) all =
      let parts = and_parts (fits other) (list_all fits rows) all in
      ((λ e. one other row parts.0 is (e ∙ sym at)), owned_by row is entry at rows parts.1)

  owned_none : (entry key : List ℕ) (rows : List A) → found entry_key entry rows ≡ None → Owned entry key rows
  owned_none entry key [] none = tt
  owned_none entry key (row ∷ rows) none = by (owned_none entry key rows) (bytes_eq (entry_key row) entry) refl none where
    by : (found entry_key entry rows ≡ None → Owned entry key rows) → (b : Bool) → bytes_eq (entry_key row) entry ≡ b → (if b then Some row else found entry_key entry rows) ≡ None → Owned entry key (row ∷ rows)
    by more true is e = absurd (cc)
    by more false is e = ((λ same. absurd (cc (sym is ∙ ap (λ k. bytes_eq k entry) same ∙ itself entry))), more e)

  record Owner (entry : List ℕ) (rows others : List A) : Type 0 where
    key : List ℕ
    of_rows : Owned entry key rows
    of_others : Owned entry key others

  owner : (entry : List ℕ) (rows others : List A) → list_all fits rows ≡ true → list_all fits others ≡ true → Owner entry rows others
  owner entry rows others fit fit_too = by (found entry_key entry rows) refl (found entry_key entry others) refl where
    by : (o : Option A) → found entry_key entry rows ≡ o → (n : Option A) → found entry_key entry others ≡ n → Owner entry rows others
    by (Some row) e n f =
        let is = found_fits entry_key fits entry rows row fit e in
        let at = found_name entry_key entry rows row e in
        record { key = row_key row; of_rows = owned_by row is entry at rows fit; of_others = owned_by row is entry at others fit_too }
    by None e (Some row) f =
        let is = found_fits entry_key fits entry others row fit_too f in
        let at = found_name entry_key entry others row f in
        record { key = row_key row; of_rows = owned_by row is entry at rows fit; of_others = owned_by row is entry at others fit_too }
    by None e None f = record { key = []; of_rows = owned_none entry [] rows e; of_others = owned_none entry [] others f }

  -- what stands at an entry where this row is
  abbrev mark : List ℕ → Option A → Option (List ℕ)
  mark entry None = None
  mark entry (Some row) = if bytes_eq (entry_key row) entry then nothing else None

  mark_off : (entry : List ℕ) (row : A) → mark entry (Some row) ≡ None → bytes_eq (entry_key row) entry ≡ false
  mark_off entry row e = by (bytes_eq (entry_key row) entry) e where
    by : (b : Bool) → (if b then nothing else None) ≡ None → b ≡ false
    by true e = absurd (cc)
    by false e = refl

  value_entries : (entry key : List ℕ) (rows : List A) → Apart row_key rows → Owned entry key rows → value_at entry (entries rows) ≡ mark entry (found row_key key rows)
  value_entries entry key [] apart owned = refl
  value_entries entry key (row ∷ rows) apart owned =
      by (value_entries entry key rows apart.1 owned.1) (bytes_eq (entry_key row) entry) refl (bytes_eq (row_key row) key) refl where
        by : value_at entry (entries rows) ≡ mark entry (found row_key key rows) → (b : Bool) → bytes_eq (entry_key row) entry ≡ b → (c : Bool) → bytes_eq (row_key row) key ≡ c
            → (if b then nothing else value_at entry (entries rows)) ≡ mark entry (if c then Some row else found row_key key rows)
        by more true e true f = sym (ap (λ t. if t then nothing else None) e)
        by more true e false f =
            let same = owned.0 (eq_key (entry_key row) entry e) in
            absurd (cc (sym f ∙ ap (λ k. bytes_eq k key) same ∙ itself key))
        by more false e true f =
            let same = eq_key (row_key row) key f in
            more
            ∙ ap (mark entry) (ap (λ k. found row_key k rows) (sym same) ∙ apart.0)
            ∙ sym (ap (λ t. if t then nothing else None) e)
        by more false e false f = more

  bare : (rows : List A) → AreBare (entries rows)
  bare [] = tt
  bare (row ∷ rows) = (refl, bare rows)

  pub leaves : (rows : List A) → AreLeafRows (entries rows)
  leaves [] = tt
  leaves (row ∷ rows) = (refl, leaves rows)

  value_index : (entry key : List ℕ) (rows : List A) → Apart row_key rows → Owned entry key rows → value_at entry (sorted (entries rows)) ≡ mark entry (found row_key key rows)
  value_index entry key rows apart owned = value_sorted entry (entries rows) (bare rows) ∙ value_entries entry key rows apart owned

  pub rise_index : (rows : List A) → list_all fits rows ≡ true → Apart row_key rows → Rise (sorted (entries rows))
  rise_index [] all apart = tt
  rise_index (row ∷ rows) all apart =
      let parts = and_parts (fits row) (list_all fits rows) all in
      rise_placed None (leaf_item (entry_key row) []) (sorted (entries rows)) refl (rise_index rows parts.1 apart.1)
      (value_index (entry_key row) (row_key row) rows apart.1 (owned_by row parts.0 (entry_key row) refl rows parts.1) ∙ ap (mark (entry_key row)) apart.0)

  -- ---- what becomes of one row

  abbrev change_edits : Option A → Option A → List Edit
  change_edits old new = entry_edits (option_map entry_key old) (option_map entry_key new)

  put_off : (b : Bool) (value : Option (List ℕ)) (rest : Option (Option (List ℕ))) → b ≡ false → (if b then Some value else rest) ≡ rest
  put_off true value rest e = absurd (cc)
  put_off false value rest e = refl

  none_here : (entry : List ℕ) (old new : Option A) → mark entry old ≡ None → mark entry new ≡ None → edit_at entry (change_edits old new) ≡ None
  none_here entry None None p q = refl
  none_here entry None (Some b) p q = put_off (bytes_eq (entry_key b) entry) (Some []) None (mark_off entry b q)
  none_here entry (Some a) None p q = put_off (bytes_eq (entry_key a) entry) None None (mark_off entry a p)
  none_here entry (Some a) (Some b) p q =
      elim (bytes_eq (entry_key a) (entry_key b)) as (λ t. edit_at entry (if t then [] else put_entry (entry_key b) ∷ remove_entry (entry_key a) ∷ []) ≡ None) [
        | true ↦ refl
        | false ↦ put_off (bytes_eq (entry_key b) entry) (Some []) (edit_at entry (remove_entry (entry_key a) ∷ [])) (mark_off entry b q)
            ∙ put_off (bytes_eq (entry_key a) entry) None None (mark_off entry a p)
      ]

  put_over : (u : Bool) → over (if u then Some nothing else None) None ≡ (if u then nothing else None)
  put_over true = refl
  put_over false = refl

  gone_over : (t : Bool) → over (if t then Some None else None) (if t then nothing else None) ≡ None
  gone_over true = refl
  gone_over false = refl

  both_over : (u t : Bool) → over (if u then Some nothing else (if t then Some None else None)) (if t then nothing else None) ≡ (if u then nothing else None)
  both_over true true = refl
  both_over true false = refl
  both_over false true = refl
  both_over false false = refl

  made : (entry : List ℕ) (old new : Option A) → over (edit_at entry (change_edits old new)) (mark entry old) ≡ mark entry new
  made entry None None = refl
  made entry None (Some b) = put_over (bytes_eq (entry_key b) entry)
  made entry (Some a) None = gone_over (bytes_eq (entry_key a) entry)
  made entry (Some a) (Some b) = by (bytes_eq (entry_key a) (entry_key b)) refl where
    by : (t : Bool) → bytes_eq (entry_key a) (entry_key b) ≡ t
        → over (edit_at entry (if t then [] else put_entry (entry_key b) ∷ remove_entry (entry_key a) ∷ [])) (mark entry (Some a)) ≡ mark entry (Some b)
    by true e = ap (λ k. if bytes_eq k entry then nothing else None) (eq_key (entry_key a) (entry_key b) e)
    by false e = both_over (bytes_eq (entry_key b) entry) (bytes_eq (entry_key a) entry)

  -- ---- what becomes of the rows at keys

  module _ (rows others : List A) (rows_fit : list_all fits rows ≡ true) (others_fit : list_all fits others ≡ true) where
    abbrev pub edits_for : List ℕ → List Edit
    edits_for key = change_edits (found row_key key rows) (found row_key key others)

    abbrev pub all_edits : List (List ℕ) → List Edit
    all_edits keys = flat_map edits_for keys

    abbrev has : List ℕ → List (List ℕ) → Bool
    has key keys = list_any (λ other. bytes_eq other key) keys

    first : {B : Type 0} → Option B → Option B → Option B
    first None rest = rest
    first (Some x) rest = Some x

    edit_append : (entry : List ℕ) (xs ys : List Edit) → edit_at entry (xs ++ ys) ≡ first (edit_at entry xs) (edit_at entry ys)
    unfolding first
    edit_append entry [] ys = refl
    edit_append entry (x ∷ xs) ys = by (bytes_eq x.key entry) (edit_append entry xs ys) where
      by : (b : Bool) → edit_at entry (xs ++ ys) ≡ first (edit_at entry xs) (edit_at entry ys)
          → (if b then Some x.value else edit_at entry (xs ++ ys)) ≡ first (if b then Some x.value else edit_at entry xs) (edit_at entry ys)
      by true e = refl
      by false e = e

    owned_found : (entry key other : List ℕ) (some : List A) → Owned entry key some → (a : A) → found row_key other some ≡ Some a → entry_key a ≡ entry → row_key a ≡ key
    owned_found entry key other [] owned a e = absurd (cc)
    owned_found entry key other (x ∷ xs) owned a e = by (owned_found entry key other xs owned.1 a) (bytes_eq (row_key x) other) e where
      by : (found row_key other xs ≡ Some a → entry_key a ≡ entry → row_key a ≡ key) → (b : Bool) → (if b then Some x else found row_key other xs) ≡ Some a → entry_key a ≡ entry → row_key a ≡ key
      by more true f at = let same : x ≡ a = cc in ap row_key (sym same) ∙ owned.0 (ap entry_key same ∙ at)
      by more false f at = more f at

    other_none : (entry key other : List ℕ) (some : List A) → Owned entry key some → bytes_eq other key ≡ false → mark entry (found row_key other some) ≡ None
    other_none entry key other some owned not_same = by (found row_key other some) refl where
      by : (o : Option A) → found row_key other some ≡ o → mark entry o ≡ None
      by None e = refl
      by (Some a) e = at (bytes_eq (entry_key a) entry) refl where
        at : (b : Bool) → bytes_eq (entry_key a) entry ≡ b → (if b then nothing else None) ≡ None
        at false is = refl
        at true is =
            let key_is = owned_found entry key other some owned a e (eq_key (entry_key a) entry is) in
            let other_is = found_name row_key other some a e in
            absurd (cc (sym not_same ∙ ap (λ k. bytes_eq k key) (sym other_is ∙ key_is) ∙ itself key))

    again : {B : Type 0} (x : Option B) (h : Bool) → first x (if h then x else None) ≡ x
    unfolding first
    again None true = refl
    again None false = refl
    again (Some x) h = refl

    edits_found : (entry key : List ℕ) → Owned entry key rows → Owned entry key others → (keys : List (List ℕ))
        → edit_at entry (all_edits keys) ≡ (if has key keys then edit_at entry (edits_for key) else None)
    unfolding first
    edits_found entry key old new [] = refl
    edits_found entry key old new (other ∷ keys) =
        edit_append entry (edits_for other) (all_edits keys) ∙ ap (first (edit_at entry (edits_for other))) (edits_found entry key old new keys) ∙ by (bytes_eq other key) refl where
          by : (b : Bool) → bytes_eq other key ≡ b
              → first (edit_at entry (edits_for other)) (if has key keys then edit_at entry (edits_for key) else None) ≡ (if b || has key keys then edit_at entry (edits_for key) else None)
          by true e = ap (λ k. first (edit_at entry (edits_for k)) (if has key keys then edit_at entry (edits_for key) else None)) (eq_key other key e) ∙ again (edit_at entry (edits_for key)) (has key keys)
          by false e =
              ap (λ x. first x (if has key keys then edit_at entry (edits_for key) else None))
              (none_here entry (found row_key other rows) (found row_key other others) (other_none entry key other rows old e) (other_none entry key other others new e))

    apart_join : (old new : Option A) (rest : List Edit) → ((a : A) → old ≡ Some a → edit_at (entry_key a) rest ≡ None) → ((a : A) → new ≡ Some a → edit_at (entry_key a) rest ≡ None)
        → AreApart rest → AreApart (change_edits old new ++ rest)
    apart_join None None rest p q all = all
    apart_join None (Some b) rest p q all = (q b refl, all)
    apart_join (Some a) None rest p q all = (p a refl, all)
    apart_join (Some a) (Some b) rest p q all = by (bytes_eq (entry_key a) (entry_key b)) refl where
      by : (t : Bool) → bytes_eq (entry_key a) (entry_key b) ≡ t → AreApart ((if t then [] else put_entry (entry_key b) ∷ remove_entry (entry_key a) ∷ []) ++ rest)
      by true e = all
      by false e = (ap (λ t. if t then Some None else edit_at (entry_key b) rest) e ∙ q b refl, (p a refl, all))

    pub edits_apart : (keys : List (List ℕ)) → AreOnce keys → AreApart (all_edits keys)
    edits_apart [] once = tt
    edits_apart (key ∷ keys) once =
        apart_join (found row_key key rows) (found row_key key others) (all_edits keys) (λ a e. none rows rows_fit a e) (λ a e. none others others_fit a e) (edits_apart keys once.1) where
          none : (some : List A) → list_all fits some ≡ true → (a : A) → found row_key key some ≡ Some a → edit_at (entry_key a) (all_edits keys) ≡ None
          none some fit a e =
              let is = found_fits row_key fits key some a fit e in
              let at = found_name row_key key some a e in
              edits_found (entry_key a) (row_key a) (owned_by a is (entry_key a) refl rows rows_fit) (owned_by a is (entry_key a) refl others others_fit) keys
              ∙ ap (λ b. if b then edit_at (entry_key a) (edits_for (row_key a)) else None) (ap (λ k. has k keys) at ∙ once.0)

    -- the index's list after the edits is that of the other rows
    pub index_edited : Apart row_key rows → Apart row_key others → (keys : List (List ℕ)) → ((key : List ℕ) → has key keys ≡ false → found row_key key rows ≡ found row_key key others)
        → (edits : List Edit) → EditsRiseAfter None edits → ((entry : List ℕ) → edit_at entry edits ≡ edit_at entry (all_edits keys))
        → edited (sorted (entries rows)) edits ≡ sorted (entries others)
    index_edited rows_apart others_apart keys same edits rise at =
        same_rows (edited (sorted (entries rows)) edits) (sorted (entries others)) None
        (edited_rise (sorted (entries rows)) None edits (rise_index rows rows_fit rows_apart) rise)
        (rise_index others others_fit others_apart)
        (edited_all (λ row. row.rows ≡ 1) (λ k v. refl) (sorted (entries rows)) (all_sorted (λ row. row.rows ≡ 1) (entries rows) (leaves rows)) edits)
        (all_sorted (λ row. row.rows ≡ 1) (entries others) (leaves others))
        value where
          value : (entry : List ℕ) → value_at entry (edited (sorted (entries rows)) edits) ≡ value_at entry (sorted (entries others))
          value entry =
              let own = owner entry rows others rows_fit others_fit in
              edited_value entry (sorted (entries rows)) None edits (rise_index rows rows_fit rows_apart) rise
              ∙ ap (λ e. over e (value_at entry (sorted (entries rows)))) (at entry ∙ edits_found entry own.key own.of_rows own.of_others keys)
              ∙ ap (λ v. over (if has own.key keys then edit_at entry (edits_for own.key) else None) v) (value_index entry own.key rows rows_apart own.of_rows)
              ∙ by (has own.key keys) refl
              ∙ sym (value_index entry own.key others others_apart own.of_others) where
                by : (b : Bool) → has (owner entry rows others rows_fit others_fit).key keys ≡ b
                    → over (if b then edit_at entry (edits_for (owner entry rows others rows_fit others_fit).key) else None) (mark entry (found row_key (owner entry rows others rows_fit others_fit).key rows))
                    ≡ mark entry (found row_key (owner entry rows others rows_fit others_fit).key others)
                by true e = let key = (owner entry rows others rows_fit others_fit).key in made entry (found row_key key rows) (found row_key key others)
                by false e = ap (mark entry) (same (owner entry rows others rows_fit others_fit).key e)
