-- The system tables that a SELECT names, one after another.
use Rattle.std.proofs.Common.{◌≡◌, refl, ◌∙◌, ap, sym, ℕ, Bool, true, false, cond, List, [], ◌∷◌, ◌++◌, map, bytes_eq, append_assoc, append-nil}
use Rattle.std.specs.Prelude.{OnOk, Result, Ok, Err, Option, Some, ◌||◌}
use Rattle.std.specs.List.{find, list_all, list_any}
use Rattle.std.specs.Cmp.Lexicographic.{bytes_decides}
use Rattle.std.proofs.lemmas.Bool.{and_from, and_parts, or_parts as neither, or_from as of_neither}
use Rattle.tuple_codec.proofs.Truths.{two}
use Rattle.plain_sessions.specs.SystemTables.{conflicts, conflicts_of, constraint_violations, violations_of}
use Rattle.schema_model.specs.PlainTables.{NamedTable, PlainDatabase}
use Rattle.sql_ast.specs.declared.selects.Join.{Join}
use Rattle.expr_eval.specs.Binding.{Outcome, and_then}
use Rattle.plain_sql.specs.Lists.{or_refuse}
use Rattle.plain_sql.specs.Plans.{is_known_as}
use Rattle.plain_sql.specs.declared.sources.Known.{Known}
use Rattle.tuple_codec.specs.declared.answers.Answer.{Answer}
use Rattle.sql_ast.specs.declared.selects.FromClause.{FromClause}
use Rattle.sql_select.specs.Sources.{is_read}
use Rattle.sql_select.specs.declared.sources.NamedAnswer.{NamedAnswer}
use Rattle.system_tables.specs.Entries.{front_of, list_shown}
use Rattle.system_tables.specs.Known.{answer_of, as_named, entry_tables_of, first_answer, named_read}
use Rattle.system_tables.specs.Naming.{is_entry_name, reads_entries, source_of}
use Rattle.system_tables.specs.declared.entries.Listed.{Listed}
use Rattle.system_tables.specs.declared.entries.Listed.TheVariants as listed

one_before : (b : Bool) (x : NamedAnswer) (xs ys : List NamedAnswer) → cond b (x ∷ (xs ++ ys)) (xs ++ ys) ≡ cond b (x ∷ xs) xs ++ ys
one_before true x xs ys = refl
one_before false x xs ys = refl

pub read_append : (from : FromClause) (xs ys : List Known) → named_read from (xs ++ ys) ≡ named_read from xs ++ named_read from ys
read_append from [] ys = refl
read_append from (x ∷ xs) ys =
    ap (λ (read : List NamedAnswer). cond (is_read from x.name) (as_named x ∷ read) read) (read_append from xs ys)
    ∙ one_before (is_read from x.name) (as_named x) (named_read from xs) (named_read from ys)

pub one_after : (from : FromClause) (xs : List Known) (y : Known) (old new : List NamedAnswer) → old ≡ named_read from xs → new ≡ old ++ named_read from (y ∷ [])
    → new ≡ named_read from (xs ++ y ∷ [])
one_after from xs y old new before is =
    is ∙ ap (λ (read : List NamedAnswer). read ++ named_read from (y ∷ [])) before ∙ sym (read_append from xs (y ∷ []))

-- ---- one by its name

abbrev read_if : Bool → Known → List NamedAnswer
read_if b known = cond b (as_named known ∷ []) []

list_called : (which : Listed) (named : NamedTable) → (list_shown which named).name ≡ front_of which ++ named.name
list_called listed.Conflicts named = refl
list_called listed.Violations named = refl

-- it is there where it is named, and nothing is where it isn't
pub named_there : (from : FromClause) (known : Known) (name : List ℕ) → known.name ≡ name → is_read from name ≡ true → as_named known ∷ [] ≡ named_read from (known ∷ [])
named_there from known name called read = ap (λ (b : Bool). read_if b known) (sym read ∙ ap (is_read from) (sym called))

pub unnamed_left : (from : FromClause) (known : Known) (name : List ℕ) → known.name ≡ name → is_read from name ≡ false → (old : List NamedAnswer) → old ≡ old ++ named_read from (known ∷ [])
unnamed_left from known name called read old = sym (append-nil old) ∙ ap (λ (b : Bool). old ++ read_if b known) (sym read ∙ ap (is_read from) (sym called))

pub list_named : (which : Listed) (named : NamedTable) (name : List ℕ) → name ≡ front_of which ++ named.name → (list_shown which named).name ≡ name
list_named which named name is = list_called which named ∙ sym is

-- one table's list, and those of the others
pub list_more : (from : FromClause) (which : Listed) (old mid new : List NamedAnswer) (called : List ℕ) (named : NamedTable) (others database : PlainDatabase) → database ≡ named ∷ others → called ≡ named.name
    → mid ≡ old ++ named_read from (list_shown which (record { name = called; table = named.table }) ∷ []) → new ≡ mid ++ named_read from (map (list_shown which) others)
    → new ≡ old ++ named_read from (map (list_shown which) database)
list_more from which old mid new called named others database both is first more =
    more
    ∙ ap (λ (l : List NamedAnswer). l ++ named_read from (map (list_shown which) others)) first
    ∙ append_assoc old (named_read from (list_shown which (record { name = called; table = named.table }) ∷ [])) (named_read from (map (list_shown which) others))
    ∙ ap (λ (name : List ℕ). old ++ (named_read from (list_shown which (record { name = name; table = named.table }) ∷ []) ++ named_read from (map (list_shown which) others))) is
    ∙ ap (λ (l : List NamedAnswer). old ++ l) (sym (read_append from (list_shown which named ∷ []) (map (list_shown which) others)))
    ∙ ap (λ (d : PlainDatabase). old ++ named_read from (map (list_shown which) d)) (sym both)

-- some more of them behind others
pub more_read : (from : FromClause) (xs ys : List Known) (first mid new : List NamedAnswer) → mid ≡ first ++ named_read from xs → new ≡ mid ++ named_read from ys → new ≡ first ++ named_read from (xs ++ ys)
more_read from xs ys first mid new before is =
    is
    ∙ ap (λ (l : List NamedAnswer). l ++ named_read from ys) before
    ∙ append_assoc first (named_read from xs) (named_read from ys)
    ∙ ap (λ (l : List NamedAnswer). first ++ l) (sym (read_append from xs ys))

pub on_ok_more : {T E : Type 0} (result : Result T E) (from : FromClause) (xs ys : List Known) (first mid new : List NamedAnswer) → mid ≡ first ++ named_read from xs
    → OnOk result (new ≡ mid ++ named_read from ys) → OnOk result (new ≡ first ++ named_read from (xs ++ ys))
on_ok_more (Ok x) from xs ys first mid new before is = more_read from xs ys first mid new before is
on_ok_more (Err e) from xs ys first mid new before is = is

-- ---- where no table of entries is named

abbrev are_entries : List Known → Bool
are_entries ks = list_all (λ k. is_entry_name k.name) ks

entries_more : (xs ys : List Known) → are_entries xs ≡ true → are_entries ys ≡ true → are_entries (xs ++ ys) ≡ true
entries_more [] ys h g = g
entries_more (x ∷ xs) ys h g = let all = and_parts (is_entry_name x.name) (are_entries xs) h in and_from (is_entry_name x.name) (are_entries (xs ++ ys)) all.0 (entries_more xs ys all.1 g)

conflicts_are : (database : PlainDatabase) → are_entries (map conflicts_of database) ≡ true
conflicts_are [] = refl
conflicts_are (named ∷ database) = conflicts_are database

violations_are : (database : PlainDatabase) → are_entries (map violations_of database) ≡ true
violations_are [] = refl
violations_are (named ∷ database) = violations_are database

entries_are : (database : PlainDatabase) → are_entries (entry_tables_of database) ≡ true
entries_are database =
    let first = conflicts database ∷ constraint_violations database ∷ [] in
    entries_more (first ++ map conflicts_of database) (map violations_of database) (entries_more first (map conflicts_of database) refl (conflicts_are database)) (violations_are database)

apart : (name table : List ℕ) → is_entry_name name ≡ true → is_entry_name table ≡ false → bytes_eq name table ≡ false
apart name table h g = two (bytes_eq name table) (λ same. let is : name ≡ table = (bytes_decides name table).0 same in let called : true ≡ false = sym h ∙ ap is_entry_name is ∙ g in absurd (cc)) (λ other. other)

apart_joins : (name : List ℕ) (joins : List Join) → is_entry_name name ≡ true → list_any (λ join. is_entry_name join.source.table) joins ≡ false
    → list_any (λ join. bytes_eq name join.source.table) joins ≡ false
apart_joins name [] h g = refl
apart_joins name (join ∷ joins) h g =
    let none = neither (is_entry_name join.source.table) (list_any (λ (join : Join). is_entry_name join.source.table) joins) g in
    of_neither (bytes_eq name join.source.table) (list_any (λ (join : Join). bytes_eq name join.source.table) joins) (apart name join.source.table h none.0) (apart_joins name joins h none.1)

unread : (from : FromClause) (name : List ℕ) → reads_entries from ≡ false → is_entry_name name ≡ true → is_read from name ≡ false
unread from name h g =
    let none = neither (is_entry_name from.first.table) (list_any (λ (join : Join). is_entry_name join.source.table) from.joins) h in
    of_neither (bytes_eq name from.first.table) (list_any (λ (join : Join). bytes_eq name join.source.table) from.joins) (apart name from.first.table g none.0)
    (apart_joins name from.joins g none.1)

all_unread : (from : FromClause) (ks : List Known) → reads_entries from ≡ false → are_entries ks ≡ true → named_read from ks ≡ []
all_unread from [] h g = refl
all_unread from (k ∷ ks) h g =
    let all = and_parts (is_entry_name k.name) (are_entries ks) g in
    let rest = named_read from ks in
    ap (λ (b : Bool). cond b (as_named k ∷ rest) rest) (unread from k.name h all.0) ∙ all_unread from ks h all.1

pub none_added : (from : FromClause) (database : PlainDatabase) (old new : List NamedAnswer) → reads_entries from ≡ false → new ≡ old → new ≡ old ++ named_read from (entry_tables_of database)
none_added from database old new none is =
    is ∙ sym (append-nil old) ∙ ap (λ (l : List NamedAnswer). old ++ l) (sym (all_unread from (entry_tables_of database) none (entries_are database)))

-- ---- the table of a name

abbrev answered : Option Known → Outcome Answer
answered found = and_then (or_refuse 1146 found) (λ known. Ok (answer_of known))

one_more : (b : Bool) (x : Known) (read : List NamedAnswer) (found : Option Known) → first_answer read ≡ answered found
    → first_answer (cond (b || false) (as_named x ∷ read) read) ≡ answered (cond b (Some x) found)
one_more true x read found is = refl
one_more false x read found is = is

pub first_read : (name : List ℕ) (tables : List Known) → first_answer (named_read (source_of name) tables) ≡ answered (find (is_known_as name) tables)
first_read name [] = refl
first_read name (x ∷ xs) = one_more (bytes_eq x.name name) x (named_read (source_of name) xs) (find (is_known_as name) xs) (first_read name xs)
