-- Orders of moments against the lines of a script.
use Rattle.std.specs.Prelude.{◌≡◌, ℕ, suc, ◌+◌, ◌-◌, ◌*◌, ◌≤◌, ◌==◌, Bool, true, ◌&&◌, List, [], ◌∷◌, length, map, nat_lt, nat_le, unwrap_or, Option, None, Some, if◌then◌else◌}
use Rattle.std.specs.List.{list_all}
use Rattle.script_text.specs.declared.scripts.Line.{Line}
use Rattle.script_text.specs.Input.{place_of}
use Rattle.script_text.specs.declared.scripts.Moment.{Moment}
use Rattle.script_text.specs.declared.scripts.OrderItem.{OrderItem}
use Rattle.script_text.specs.declared.scripts.Script.{Script}

-- the line of a session's statement by its number, counted from `at`
abbrev pub line_of : ℕ → List Line → ℕ → ℕ → ℕ
line_of at [] session statement = at
line_of at (line ∷ lines) session statement =
    if line.session == session
    then (if statement == 1 then at else line_of (at + 1) lines session (statement - 1))
    else line_of (at + 1) lines session statement

-- the lines of an order's moments never fall from one to the next
abbrev pub never_falls : ℕ → List Line → List Moment → Bool
never_falls least lines [] = true
never_falls least lines (moment ∷ order) = let at = line_of 0 lines moment.session moment.statement in nat_le least at && never_falls at lines order

-- the statements are run one after another, as the script has them
abbrev pub IsTextOrder : Script → List Moment → Type 0
IsTextOrder script order = never_falls 0 script.lines order ≡ true

-- how many of the lines are a session's
abbrev pub count_of : ℕ → List Line → ℕ
count_of place [] = 0
count_of place (line ∷ lines) = if line.session == place then suc (count_of place lines) else count_of place lines

-- a moment of one of the first lines
abbrev pub is_behind : List Line → ℕ → Moment → Bool
is_behind lines count moment = nat_lt (line_of 0 lines moment.session moment.statement) count

-- a moment of one of the script's sessions, at a number that it may have
abbrev pub is_within : Script → Moment → Bool
is_within script moment = nat_lt moment.session (length script.names) && nat_le moment.statement (length script.lines)

-- an order of the moments of the first lines alone, in the script's order
pub record IsOrderTo (script : Script) (count : ℕ) (order : List Moment) : Type 0 where
  pub rises : IsTextOrder script order
  pub behind : list_all (is_behind script.lines count) order ≡ true
  pub within : list_all (is_within script) order ≡ true
  -- at most a start and a decision a line
  pub short : length order ≤ 2 * count

-- ---- a given order

-- the moment that an item asks for; one that names no session of the script asks for a moment of a session that isn't there
abbrev pub asked_moment : List (List ℕ) → OrderItem → Moment
asked_moment names item = record { session = unwrap_or (place_of names item.name) (length names); statement = item.statement }

abbrev pub asked_moments : List (List ℕ) → Option (List OrderItem) → List Moment
asked_moments names None = []
asked_moments names (Some items) = map (asked_moment names) items

-- the moments for which the script's order line asks
abbrev pub asked_order : Script → List Moment
asked_order script = asked_moments script.names script.order

abbrev pub IsGivenOrder : Script → List Moment → Type 0
IsGivenOrder script order = order ≡ asked_order script
