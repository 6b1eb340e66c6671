-- What the threads at a gate agree on: the entries made by those who left it marked, in one order.
use Rattle.std.specs.Prelude.{◌≡◌, ℕ, ◌+◌, List, [], ◌∷◌, ◌++◌, length, if◌then◌else◌, ◌==◌, nat_lt}
use Rattle.std.specs.List.{filter, fold, AllByRecursion}

-- how a value is written down: a list of lists of numbers
abbrev pub Spelling : Type 0
Spelling = List (List ℕ)

-- which seat left the value marked, with which note, and the spelling of the value that it left
pub record Entry : Type 0 where
  pub seat : ℕ
  pub note : ℕ
  pub left : Spelling

abbrev pub entry : ℕ → ℕ → Spelling → Entry
entry seat note left = record { seat = seat; note = note; left = left }

-- the entries of one seat, in their order
abbrev pub entries_of : ℕ → List Entry → List Entry
entries_of seat log = filter (λ e. e.seat == seat) log

abbrev pub StartsWith : List Entry → List Entry → Type 0
StartsWith log seen = (rest : List Entry) × (log ≡ seen ++ rest)

abbrev pub longer : List Entry → List Entry → List Entry
longer xs ys = if nat_lt (length xs) (length ys) then ys else xs

abbrev pub shorter : List Entry → List Entry → List Entry
shorter xs ys = if nat_lt (length xs) (length ys) then xs else ys

-- what is kept of a seat that was joined into another
pub record Past : Type 0 where
  pub opened : Spelling
  pub number : ℕ
  pub seen : List Entry
  pub made : List Entry

-- what a seat knows: the spelling of the value with which the gate was opened, its own number, the beginning of the history that it has seen, the entries that it has made, the seats that were joined into it, and how many were given out (0 where it doesn't know)
pub record View : Type 0 where
  pub opened : Spelling
  pub number : ℕ
  pub seen : List Entry
  pub made : List Entry
  pub joined : List Past
  pub given : ℕ

-- a seat that has made nothing yet
abbrev pub new_view : Spelling → ℕ → List Entry → ℕ → View
new_view opened number seen given = record { opened = opened; number = number; seen = seen; made = []; joined = []; given = given }

-- the first seat of a gate
abbrev pub first_view : Spelling → View
first_view opened = new_view opened 0 [] 1

-- the seat that gives another out
abbrev pub parted : View → View
parted v = record v { given = v.given + 1 }

-- the seat given out has the next number, and has seen as much
abbrev pub newcomer : View → View
newcomer v = new_view v.opened v.given v.seen 0

abbrev pub past_of : View → Past
past_of v = record { opened = v.opened; number = v.number; seen = v.seen; made = v.made }

-- v takes w in: it has seen what either had seen, and keeps the entries of w and of each seat that w kept
abbrev pub joined_with : View → View → View
joined_with v w = record v { seen = longer v.seen w.seen; joined = v.joined ++ (past_of w ∷ w.joined); given = v.given + w.given }

-- v after it took these in, one after another
abbrev pub gathered : View → List View → View
gathered v ws = fold joined_with v ws

abbrev pub having_seen : List Entry → View → View
having_seen log v = record v { seen = log }

-- the seat has made one entry more, at the end of what it has seen
abbrev pub with_entry : Entry → View → View
with_entry e v = record v { seen = v.seen ++ e ∷ []; made = v.made ++ e ∷ [] }

-- whoever was joined in knew the same spelling of the value with which the gate was opened
abbrev pub OneOpening : View → Type 0
OneOpening v = AllByRecursion (λ p. p.opened ≡ v.opened) v.joined

-- its entries, in what the seat has seen, are those that it made
abbrev pub HasMade : View → Type 0
HasMade v = entries_of v.number v.seen ≡ v.made
