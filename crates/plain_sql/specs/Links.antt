-- A test may compare a column of a source with one before it: which rows of the source it passes over.
use Rattle.std.specs.Prelude.{◌≡◌, ◌<◌, ◌⊎◌, ℕ, ◌+◌, ◌++◌, ◌&&◌, Bool, true, false, not, List, [], ◌∷◌, Option, None, Some, Ok, length, map, filter, nat_eq, nat_lt, if◌then◌else◌}
use Rattle.std.specs.List.{All, AllZip, Contains, list_all}
use Rattle.std.specs.Option.{IfSome}
use Rattle.std.specs.Ordering.{on}
use Rattle.std.specs.declared.cmp.Ordering.{Ordering}
use Rattle.tuple_codec.specs.Rows.{Cells, cell_at, same_value, value_cmp}
use Rattle.tuple_codec.specs.declared.values.Value.{Value}
use Rattle.tuple_codec.specs.declared.values.Value.TheVariants as cell
use Rattle.sql_values.specs.Kinds.{is_bool, is_int}
use Rattle.sql_values.specs.Worths.{scale_of}
use Rattle.sql_values.specs.declared.kinds.Kind.{Kind}
use Rattle.sql_values.specs.declared.kinds.Kind.TheVariants as kind
use Rattle.expr_eval.specs.declared.bound.BoundNode.{BoundNode}
use Rattle.expr_eval.specs.declared.bound.BoundNode.TheVariants as node
use Rattle.expr_eval.specs.declared.bound.BoundExpr.{BoundExpr}
use Rattle.expr_eval.specs.Valuing.{worth}
use Rattle.plain_sql.specs.Answers.{Meaning, is_null, kept_row}
use Rattle.plain_sql.specs.Lists.{in_order}
use Rattle.plain_sql.specs.Passing.{IsCalm, IsMissed, IsPassedOver}
use Rattle.plain_sql.specs.declared.linking.Link.{Link}
use Rattle.plain_sql.specs.declared.lookups.Lookup.{Lookup}
use Rattle.plain_sql.specs.declared.sources.Read.{Read}

abbrev pub is_text : Kind → Bool
is_text kind.Text = true
is_text kind = false

abbrev pub is_bytes : Kind → Bool
is_bytes kind.Bytes = true
is_bytes kind = false

abbrev pub is_decimal : Kind → Bool
is_decimal (kind.Decimal scale) = true
is_decimal kind = false

-- a cell of this kind, or NULL; two of them are equal exactly where they are the same cell
abbrev pub suits : Kind → Value → Bool
suits kind cell.Null = true
suits kind (cell.Int n) = is_int kind
suits kind (cell.Bool b) = is_bool kind
suits kind (cell.Text text) = is_text kind
suits kind (cell.Bytes bytes) = is_bytes kind
suits kind (cell.Decimal n) = is_decimal kind

-- they are equal, and not NULL
abbrev pub meets : Value → Value → Bool
meets a b = not (is_null a) && same_value a b

-- the cell at this place meets this one
abbrev pub has_cell : ℕ → Value → Cells → Bool
has_cell place key more = meets key (cell_at more place)

-- a cell of this kind, or NULL, stands at this place
abbrev pub suits_at : Kind → ℕ → Cells → Bool
suits_at kind place more = nat_lt place (length more) && suits kind (cell_at more place)

-- the order of rows by their cells at a place
abbrev pub cell_cmp : ℕ → Cells → Cells → Ordering
cell_cmp place = on (λ row. cell_at row place) value_cmp

-- cells of the link's kind that don't meet
pub record Misses (link : Link) (width : ℕ) (row more : Cells) : Type 0 where
  pub wide : length row ≡ width
  pub earlier : suits link.kind (cell_at row link.earlier) ≡ true
  pub later : suits_at link.kind link.place more ≡ true
  pub apart : has_cell link.place (cell_at row link.earlier) more ≡ false

-- of two columns one stands before the source, whose columns begin at the width, and one behind there
abbrev pub AreApart : ℕ → Link → ℕ → ℕ → Type 0
AreApart width link near far = (near ≡ link.earlier) × (near < width) × (far ≡ width + link.place)

abbrev pub AreEnds : ℕ → Link → ℕ → ℕ → Type 0
AreEnds width link a b = AreApart width link a b ⊎ AreApart width link b a

abbrev pub AreColumns : ℕ → Link → BoundNode → BoundNode → Type 0
AreColumns width link a b = (k : Kind) × (p : ℕ) × (l : Kind) × (q : ℕ) × (a ≡ node.Column k p) × (b ≡ node.Column l q) × (scale_of k ≡ scale_of l) × AreEnds width link p q

-- the part isn't true where the cells don't meet
abbrev pub NeedsLink : ℕ → Link → BoundNode → Type 0
NeedsLink width link part = (row more behind : Cells) → Misses link width row more → IsMissed (worth (row ++ more ++ behind) part)

abbrev pub AreCalm : BoundNode → List BoundNode → Type 0
AreCalm first rest = IsCalm first × All IsCalm rest

abbrev pub OneNeedsLink : ℕ → Link → BoundNode → List BoundNode → Type 0
OneNeedsLink width link first rest = NeedsLink width link first ⊎ ((part : BoundNode) × Contains rest part × NeedsLink width link part)

abbrev pub PassesOver : ℕ → Link → BoundExpr → Type 0
PassesOver width link test = (row more behind : Cells) → Misses link width row more → IsPassedOver test (row ++ more ++ behind)

-- nothing is kept, and nothing refused, where the cells don't meet, whatever stands behind
abbrev pub Skips : List Meaning → ℕ → Link → Type 0
Skips tests width link = (row more behind : Cells) → Misses link width row more → kept_row tests (row ++ more ++ behind) ≡ Ok []

-- a source's rows in the order of their cells, each of which is of the link's kind
pub record Sorts (link : Link) (width : ℕ) (rows : List Cells) (lookup : Lookup) : Type 0 where
  pub link_is : lookup.link ≡ link
  pub width_is : lookup.width ≡ width
  pub rows_are : lookup.rows ≡ in_order (cell_cmp link.place) rows
  pub alike : list_all (suits_at link.kind link.place) rows ≡ true

pub record ServesLookup (tests : List Meaning) (rows : List Cells) (lookup : Lookup) : Type 0 where
  pub skips : Skips tests lookup.width lookup.link
  pub rows_are : lookup.rows ≡ in_order (cell_cmp lookup.link.place) rows
  pub alike : list_all (suits_at lookup.link.kind lookup.link.place) rows ≡ true

-- each lookup that there is serves its source
abbrev pub AreServed : List Meaning → List Read → List (Option Lookup) → Type 0
AreServed tests sources lookups = AllZip (λ source lookup. IfSome lookup (ServesLookup tests source.rows)) sources lookups

-- ---- which rows of a source are tried behind a row

abbrev pub HasOrder : List Cells → Lookup → Type 0
HasOrder rows lookup = lookup.rows ≡ in_order (cell_cmp lookup.link.place) rows

abbrev pub tried_with : List Cells → Lookup → Value → List Cells
tried_with rows lookup key = if suits lookup.link.kind key then filter (has_cell lookup.link.place key) rows else rows

abbrev pub tried_by : List Cells → Lookup → Cells → List Cells
tried_by rows lookup row = if nat_eq (length row) lookup.width then tried_with rows lookup (cell_at row lookup.link.earlier) else rows

abbrev pub tried : List Cells → Option Lookup → Cells → List Cells
tried rows (Some lookup) row = tried_by rows lookup row
tried rows None row = rows
