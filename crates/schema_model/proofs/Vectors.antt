-- Schemas, tables and records whose bytes are known.
use Rattle.std.proofs.Common.{◌≡◌, ℕ, zero, suc, true, false, ltb, pos, List, [], ◌∷◌, ◌++◌, length, replicate, Option, Some, None, refl, arith}
use Rattle.std.specs.Prelude.{if◌then◌else◌, bytes_eq}
use Rattle.std.specs.List.{list_all}
use Rattle.std.specs.Str.{IsAscii}
use Rattle.std.specs.Str.Lossy.{utf8_valid_len}
use Rattle.std.proofs.lemmas.Bool.{and_parts, ltb-true}
use Rattle.std.proofs.lemmas.Str.{IsUtf8-from_ascii, utf8_valid_len-IsUtf8}
use Rattle.tuple_codec.specs.declared.addresses.Address.{Address}
use Rattle.tuple_codec.specs.declared.records.BranchRecord.{BranchRecord}
use Rattle.tuple_codec.specs.declared.values.SqlType.TheVariants as kind
use Rattle.tuple_codec.specs.declared.values.Value.{Value}
use Rattle.tuple_codec.specs.declared.values.Value.TheVariants as cell
use Rattle.tuple_codec.specs.Nodes.{leaf_item}
use Rattle.tuple_codec.specs.Trees.{name}
use Rattle.schema_model.specs.declared.schemas.Schema.{Schema}
use Rattle.schema_model.specs.SchemaBytes.{schema_bytes}
use Rattle.schema_model.specs.Schemas.{is_schema}
use Rattle.schema_model.specs.Limits.{is_conflict_within_limits, is_row_within_limits, is_within_limits}
use Rattle.schema_model.specs.PlainTables.{Conflict, PlainTable, Violation, conflict_items, index_items, is_conflict, is_violation, row_items, violation_items}
use Rattle.schema_model.specs.Sameness.{is_same_database, is_same_table}
use Rattle.schema_model.specs.PlainCommits.{Commits, PlainCommit, ancestors, base, plain_commit_bytes}
use Rattle.schema_model.specs.WrittenForms.{branch_bytes, database_bytes, table_bytes}

-- ASCII is text
ascii : (bytes : List ℕ) → list_all (λ b. ltb b 128) bytes ≡ true → IsAscii bytes
ascii [] h i = omega arith
ascii (b ∷ bytes) h zero = ltb-true b 128 (and_parts (ltb b 128) (list_all (λ c. ltb c 128) bytes) h).0
ascii (b ∷ bytes) h (suc i) = ascii bytes (and_parts (ltb b 128) (list_all (λ c. ltb c 128) bytes) h).1 i

is_text : (bytes : List ℕ) → list_all (λ b. ltb b 128) bytes ≡ true → utf8_valid_len bytes ≡ length bytes
is_text bytes h = utf8_valid_len-IsUtf8 bytes (IsUtf8-from_ascii bytes (ascii bytes h))

-- two columns, id and name
id_and_name : Schema
id_and_name = record {
  columns = record { name = 105 ∷ 100 ∷ []; kind = kind.BigInt; not_null = true; default = None }
      ∷ record { name = 110 ∷ 97 ∷ 109 ∷ 101 ∷ []; kind = kind.Varchar 20; not_null = false; default = None } ∷ [];
  key = 0 ∷ [];
  indexes = [];
  checks = [];
  foreign = [];
}

spelled : schema_bytes id_and_name ≡ 2 ∷ 2 ∷ 105 ∷ 100 ∷ 1 ∷ 1 ∷ 4 ∷ 110 ∷ 97 ∷ 109 ∷ 101 ∷ 4 ∷ 0 ∷ 20 ∷ 0 ∷ 1 ∷ 0 ∷ 0 ∷ 0 ∷ 0 ∷ []
unfolding id_and_name
spelled = refl

allowed : is_schema id_and_name ≡ true
unfolding id_and_name
allowed = rw (is_text (105 ∷ 100 ∷ []) refl, is_text (110 ∷ 97 ∷ 109 ∷ 101 ∷ []) refl) refl

within : is_within_limits id_and_name ≡ true
unfolding id_and_name
within = refl

-- a default, an index, a check and a foreign key
whole : Schema
whole = record {
  columns = record { name = 97 ∷ []; kind = kind.Decimal 6 2; not_null = true; default = Some (cell.Decimal (pos 235)) }
      ∷ record { name = 98 ∷ []; kind = kind.Varchar 9; not_null = false; default = None } ∷ [];
  key = 0 ∷ [];
  indexes = record { name = 117 ∷ []; unique = true; columns = 1 ∷ 0 ∷ [] } ∷ [];
  checks = record { name = 99 ∷ []; text = 40 ∷ 97 ∷ 41 ∷ [] } ∷ [];
  foreign = record { name = 102 ∷ []; columns = 1 ∷ []; parent = 112 ∷ []; parent_columns = (120 ∷ []) ∷ [] } ∷ [];
}

whole_spelled : schema_bytes whole ≡ 2 ∷ 1 ∷ 97 ∷ 6 ∷ 6 ∷ 2 ∷ 3 ∷ 1 ∷ 0 ∷ 0 ∷ 0 ∷ 0 ∷ 0 ∷ 0 ∷ 0 ∷ 235 ∷ 1 ∷ 98 ∷ 4 ∷ 0 ∷ 9 ∷ 0 ∷ 1 ∷ 0 ∷ 1 ∷ 1 ∷ 117 ∷ 1 ∷ 2 ∷ 1 ∷ 0
    ∷ 1 ∷ 1 ∷ 99 ∷ 0 ∷ 3 ∷ 40 ∷ 97 ∷ 41 ∷ 1 ∷ 1 ∷ 102 ∷ 1 ∷ 1 ∷ 1 ∷ 112 ∷ 1 ∷ 120 ∷ []
unfolding whole
whole_spelled = refl

whole_allowed : is_schema whole ≡ true
unfolding whole
whole_allowed =
    rw (
      is_text (97 ∷ []) refl,
      is_text (98 ∷ []) refl,
      is_text (117 ∷ []) refl,
      is_text (99 ∷ []) refl,
      is_text (40 ∷ 97 ∷ 41 ∷ []) refl,
      is_text (102 ∷ []) refl,
      is_text (112 ∷ []) refl,
      is_text (120 ∷ []) refl,
    ) refl

-- a key column that may be NULL, a name twice, a position past the columns, a position twice, no position
keyed_by : List ℕ → Schema
keyed_by key = record id_and_name { key = key }

nullable_key : is_schema (keyed_by (1 ∷ [])) ≡ false
unfolding keyed_by id_and_name
nullable_key = rw (is_text (105 ∷ 100 ∷ []) refl, is_text (110 ∷ 97 ∷ 109 ∷ 101 ∷ []) refl) refl

position_past : is_schema (keyed_by (2 ∷ [])) ≡ false
unfolding keyed_by id_and_name
position_past = rw (is_text (105 ∷ 100 ∷ []) refl, is_text (110 ∷ 97 ∷ 109 ∷ 101 ∷ []) refl) refl

position_twice : is_schema (keyed_by (0 ∷ 0 ∷ [])) ≡ false
unfolding keyed_by id_and_name
position_twice = rw (is_text (105 ∷ 100 ∷ []) refl, is_text (110 ∷ 97 ∷ 109 ∷ 101 ∷ []) refl) refl

no_position : is_schema (keyed_by []) ≡ false
unfolding keyed_by id_and_name
no_position = rw (is_text (105 ∷ 100 ∷ []) refl, is_text (110 ∷ 97 ∷ 109 ∷ 101 ∷ []) refl) refl

-- an address of twenty bytes for all strings
zeros : List ℕ → List ℕ
zeros bytes = replicate 20 0

empty_database : database_bytes zeros [] ≡ 4 ∷ 0 ∷ 0 ∷ []
empty_database = refl

table_of : Schema → List (List Value) → PlainTable
table_of schema rows = record { schema = schema; rows = rows; conflicts = []; violations = [] }

empty_table : length (table_bytes zeros (table_of id_and_name [])) ≡ 85
unfolding table_of id_and_name zeros name
empty_table = refl

blank : Address
blank = record { 0 = replicate 20 0 }

branch : Option Address → BranchRecord
branch merging = record { head = blank; working = blank; staged = blank; merging = merging }

plain_branch : length (branch_bytes (branch None)) ≡ 62
unfolding branch blank
plain_branch = refl

merging_branch : length (branch_bytes (branch (Some blank))) ≡ 82
unfolding branch blank
merging_branch = refl

-- the row (1, 'a'), the conflict of an absent row, (1, 'a') and (1, 'b'), and the violation of index u by (1, NULL)
one_a : List Value
one_a = cell.Int (pos 1) ∷ cell.Text (97 ∷ []) ∷ []

one_key : List ℕ
one_key = 1 ∷ 128 ∷ 0 ∷ 0 ∷ 0 ∷ 0 ∷ 0 ∷ 0 ∷ 1 ∷ []

one_row : row_items (table_of id_and_name (one_a ∷ [])) ≡ leaf_item one_key (1 ∷ 0 ∷ 1 ∷ 97 ∷ []) ∷ []
unfolding table_of id_and_name one_a one_key
one_row = refl

one_conflict : conflict_items
    (record {
      schema = id_and_name;
      rows = [];
      violations = [];
      conflicts = record { key = cell.Int (pos 1) ∷ []; base = None; ours = Some one_a; theirs = Some (cell.Int (pos 1) ∷ cell.Text (98 ∷ []) ∷ []) } ∷ [];
    })
    ≡ leaf_item one_key (0 ∷ 1 ∷ 0 ∷ 4 ∷ 1 ∷ 0 ∷ 1 ∷ 97 ∷ 1 ∷ 0 ∷ 4 ∷ 1 ∷ 0 ∷ 1 ∷ 98 ∷ []) ∷ []
unfolding id_and_name one_a one_key
one_conflict = refl

one_violation : violation_items
    (record {
      schema = id_and_name;
      rows = [];
      conflicts = [];
      violations = record { kind = 2; constraint = 117 ∷ []; key = cell.Int (pos 1) ∷ []; row = cell.Int (pos 1) ∷ cell.Null ∷ [] } ∷ [];
    })
    ≡ leaf_item (2 ∷ 1 ∷ 117 ∷ 0 ∷ 0 ∷ one_key) (0 ∷ []) ∷ []
unfolding id_and_name one_key
one_violation = refl

-- by rising key, NULL first
index_rises : index_items (table_of id_and_name (one_a ∷ (cell.Int (pos 2) ∷ cell.Null ∷ []) ∷ [])) (record { name = 117 ∷ []; unique = true; columns = 1 ∷ [] })
    ≡ leaf_item (0 ∷ 1 ∷ 128 ∷ 0 ∷ 0 ∷ 0 ∷ 0 ∷ 0 ∷ 0 ∷ 2 ∷ []) [] ∷ leaf_item (1 ∷ 97 ∷ 0 ∷ 0 ∷ one_key) [] ∷ []
unfolding table_of id_and_name one_a one_key
index_rises = refl

-- ---- the rows of a conflict have its key, and so has a violation's row

three : ℕ → List Value → Conflict
three n theirs = record { key = cell.Int (pos 1) ∷ []; base = None; ours = Some (cell.Int (pos n) ∷ cell.Null ∷ []); theirs = Some theirs }

of_the_key : is_conflict id_and_name (three 1 (cell.Int (pos 1) ∷ cell.Null ∷ [])) ≡ true
unfolding three id_and_name
of_the_key = refl

of_another_key : is_conflict id_and_name (three 2 (cell.Int (pos 1) ∷ cell.Null ∷ [])) ≡ false
unfolding three id_and_name
of_another_key = refl

theirs_of_another_key : is_conflict id_and_name (three 1 (cell.Int (pos 3) ∷ cell.Null ∷ [])) ≡ false
unfolding three id_and_name
theirs_of_another_key = refl

broken : ℕ → Violation
broken n = record { kind = 2; constraint = 117 ∷ []; key = cell.Int (pos 1) ∷ []; row = cell.Int (pos n) ∷ cell.Null ∷ [] }

row_of_the_key : is_violation id_and_name (broken 1) ≡ true
unfolding broken id_and_name
row_of_the_key = rw (is_text (117 ∷ []) refl) refl

row_of_another_key : is_violation id_and_name (broken 2) ≡ false
unfolding broken id_and_name
row_of_another_key = rw (is_text (117 ∷ []) refl) refl

-- ---- limits: 1,024 bytes of key are a flag, 1,021 bytes of text and two zeros; 8,192 of a row are a flag, a length and 8,189 bytes

keyed_text : ℕ → List Value
keyed_text n = cell.Text (replicate n 97) ∷ cell.Null ∷ []

text_key : Schema
text_key = record id_and_name { columns = record { name = 105 ∷ []; kind = kind.Varchar 2000; not_null = true; default = None } ∷ record { name = 110 ∷ []; kind = kind.Varchar 2000; not_null = false; default = None } ∷ [] }

longest_key : is_row_within_limits text_key (keyed_text 1021) ≡ true
unfolding text_key id_and_name keyed_text
longest_key = refl

longer_key : is_row_within_limits text_key (keyed_text 1022) ≡ false
unfolding text_key id_and_name keyed_text
longer_key = refl

-- the same as an index's own columns
indexed : Schema
indexed = record id_and_name { indexes = record { name = 117 ∷ []; unique = false; columns = 1 ∷ [] } ∷ [] }

texts : ℕ → List Value
texts n = cell.Int (pos 1) ∷ cell.Text (replicate n 97) ∷ []

longest_index : is_row_within_limits indexed (texts 1021) ≡ true
unfolding indexed id_and_name texts
longest_index = refl

longer_index : is_row_within_limits indexed (texts 1022) ≡ false
unfolding indexed id_and_name texts
longer_index = refl

longest_row : is_row_within_limits id_and_name (texts 8189) ≡ true
unfolding id_and_name texts
longest_row = refl

longer_row : is_row_within_limits id_and_name (texts 8190) ≡ false
unfolding id_and_name texts
longer_row = refl

longer_side : is_conflict_within_limits id_and_name (record { key = cell.Int (pos 1) ∷ []; base = None; ours = None; theirs = Some (texts 8190) }) ≡ false
unfolding id_and_name texts
longer_side = refl

-- ---- the same contents

one_name : List ℕ
one_name = 116 ∷ []

two_rows : List Value → PlainTable
two_rows row = table_of id_and_name (one_a ∷ row ∷ [])

same_rows : is_same_table (two_rows (cell.Int (pos 2) ∷ cell.Null ∷ [])) (two_rows (cell.Int (pos 2) ∷ cell.Null ∷ [])) ≡ true
unfolding two_rows table_of id_and_name one_a
same_rows = refl

other_rows : is_same_table (two_rows (cell.Int (pos 2) ∷ cell.Null ∷ [])) (two_rows (cell.Int (pos 2) ∷ cell.Text [] ∷ [])) ≡ false
unfolding two_rows table_of id_and_name one_a
other_rows = refl

no_tables : is_same_database [] (record { name = one_name; table = table_of id_and_name [] } ∷ []) ≡ false
unfolding is_same_database table_of id_and_name one_name
no_tables = refl

-- ---- commits: h, then a and b on h, then c on a and b

commit_on : List (List ℕ) → ℕ → PlainCommit
commit_on parents height = record { database = []; parents = parents; height = height; date = pos 7; committer = 119 ∷ []; message = 109 ∷ 109 ∷ [] }

h : List ℕ
h = 1 ∷ []

a : List ℕ
a = 2 ∷ []

b : List ℕ
b = 3 ∷ []

c : List ℕ
c = 4 ∷ []

four : Commits
four k =
    if bytes_eq k h then Some (commit_on [] 1)
    else (if bytes_eq k a then Some (commit_on (h ∷ []) 2)
    else (if bytes_eq k b then Some (commit_on (h ∷ []) 2)
    else (if bytes_eq k c then Some (commit_on (a ∷ b ∷ []) 3) else None)))

-- the addresses of the empty database and of two parents are zeros
written_commit : plain_commit_bytes zeros (commit_on (replicate 20 0 ∷ []) 2)
    ≡ 5 ∷ (replicate 20 0 ++ 1 ∷ (replicate 20 0 ++ 0 ∷ 0 ∷ 0 ∷ 0 ∷ 0 ∷ 0 ∷ 0 ∷ 2 ∷ 0 ∷ 0 ∷ 0 ∷ 0 ∷ 0 ∷ 0 ∷ 0 ∷ 7 ∷ 0 ∷ 1 ∷ 119 ∷ 0 ∷ 2 ∷ 109 ∷ 109 ∷ []))
unfolding commit_on zeros
written_commit = refl

-- each once, height falling, and then by address
ancestors_of_c : ancestors four c ≡ c ∷ a ∷ b ∷ h ∷ []
unfolding four commit_on h a b c
ancestors_of_c = refl

base_of_a_and_b : base four a b ≡ Some h
unfolding four commit_on h a b c
base_of_a_and_b = refl

base_of_c_and_b : base four c b ≡ Some b
unfolding four commit_on h a b c
base_of_c_and_b = refl

base_of_c_and_c : base four c c ≡ Some c
unfolding four commit_on h a b c
base_of_c_and_c = refl

-- c and d on a and b: of these two the base is the one of the least address
five : Commits
five k = if bytes_eq k (5 ∷ []) then Some (commit_on (b ∷ a ∷ []) 3) else four k

base_by_address : base five c (5 ∷ []) ≡ Some a
unfolding five four commit_on h a b c
base_by_address = refl
