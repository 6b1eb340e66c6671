-- The workload: a script that a seed alone decides, of eight sessions that each write rows of their own into one table. What a session does is drawn as a
-- list of steps, and what it says are their texts.
use Rattle.std.specs.Prelude.{ℕ, suc, zero, ◌+◌, ◌*◌, ◌/◌, ◌%◌, ◌^◌, ◌==◌, if◌then◌else◌, List, [], ◌∷◌, ◌++◌, codes, map, None}
use Rattle.std.specs.Fmt.{decimal}
use Rattle.script_text.specs.declared.scripts.Line.{Line}
use Rattle.script_text.specs.declared.scripts.Script.{Script}
use Rattle.workload.specs.declared.draws.Drawn.{Drawn}
use Rattle.workload.specs.declared.steps.LoadStep.{LoadStep}
use Rattle.workload.specs.declared.steps.LoadStep.TheVariants.{Begins, Commits, Inserts, Makes, Updates}

-- what follows x, and the number that is drawn there
unfoldable pub next : ℕ → ℕ
next x = (x * 6364136223846793005 + 1442695040888963407) % 2 ^ 64

unfoldable pub drawn : ℕ → ℕ
drawn x = x / 2 ^ 32

-- step 0, then step 1, and so on to step count - 1
unfoldable pub each : {A : Type 0} → ℕ → (ℕ → A → A) → A → A
each zero step a = a
each (suc count) step a = step count (each count step a)

-- ---- the text of a step

abbrev pub create_text : List ℕ
create_text = codes "CREATE TABLE IF NOT EXISTS load_rows (id BIGINT PRIMARY KEY, v BIGINT)"

abbrev pub insert_text : ℕ → ℕ → List ℕ
insert_text key value = codes "INSERT INTO load_rows VALUES (" ++ decimal key ++ codes "," ++ decimal value ++ codes ")"

abbrev pub update_text : ℕ → ℕ → List ℕ
update_text key value = codes "UPDATE load_rows SET v = " ++ decimal value ++ codes " WHERE id = " ++ decimal key

abbrev pub text_of : LoadStep → List ℕ
text_of Begins = codes "BEGIN"
text_of Makes = create_text
text_of (Inserts pair) = insert_text pair.key pair.value
text_of (Updates pair) = update_text pair.key pair.value
text_of Commits = codes "COMMIT"

-- ---- what a session does, step by step, with the x that it draws from

-- one step more
abbrev pub with_step : LoadStep → Drawn → Drawn
with_step step so_far = record so_far { steps = so_far.steps ++ step ∷ [] }

-- a row of this key, whose value is drawn
abbrev pub with_insert : ℕ → Drawn → Drawn
with_insert key so_far =
    let x = next so_far.x in
    record { steps = so_far.steps ++ Inserts (record { key = key; value = drawn x % 1000 }) ∷ []; x = x }

-- a new value for one of the fifty rows from this key on: the row is drawn first, then the value
abbrev pub with_update : ℕ → Drawn → Drawn
with_update first so_far =
    let row = next so_far.x in
    let x = next row in
    record { steps = so_far.steps ++ Updates (record { key = first + drawn row % 50; value = drawn x % 1000 }) ∷ []; x = x }

-- the first batch makes the table
abbrev pub with_begin : ℕ → Drawn → Drawn
with_begin batch so_far = if batch == 0 then with_step Makes (with_step Begins so_far) else with_step Begins so_far

-- the key of the first of the fifty rows that a session writes in a batch
abbrev pub first_key : ℕ → ℕ → ℕ
first_key session batch = 1000000 * session + 1000 * batch

-- a row of each of the fifty keys, then ten changes of them
abbrev pub with_inserts : ℕ → Drawn → Drawn
with_inserts first so_far = each 50 (λ row. with_insert (first + row)) so_far

abbrev pub with_updates : ℕ → Drawn → Drawn
with_updates first so_far = each 10 (λ turn. with_update first) so_far

-- a transaction
abbrev pub with_batch : ℕ → ℕ → Drawn → Drawn
with_batch session batch so_far =
    let first = first_key session batch in
    with_step Commits (with_updates first (with_inserts first (with_begin batch so_far)))

-- the sessions start from seeds of their own
abbrev pub nothing_drawn : ℕ → ℕ → Drawn
nothing_drawn seed session = record { steps = []; x = (seed + session) % 2 ^ 64 }

-- ten batches
abbrev pub drawn_of : ℕ → ℕ → Drawn
drawn_of seed session = each 10 (with_batch session) (nothing_drawn seed session)

unfoldable pub steps_of : ℕ → ℕ → List LoadStep
steps_of seed session = (drawn_of seed session).steps

-- ---- the script

-- what a session says
abbrev pub statements : ℕ → ℕ → List (List ℕ)
statements seed session = map text_of (steps_of seed session)

-- `w0` to `w7`
abbrev pub name : ℕ → List ℕ
name digit = codes "w" ++ digit ∷ []

abbrev pub names : List (List ℕ)
names = map name (codes "01234567")

abbrev pub line : ℕ → List ℕ → Line
line session statement = record { session = session; statement = statement }

-- the lines of one session behind those of the sessions before it
abbrev pub with_session : ℕ → ℕ → List Line → List Line
with_session seed session lines = lines ++ map (line session) (statements seed session)

abbrev pub all_lines : ℕ → List Line
all_lines seed = each 8 (with_session seed) []

abbrev pub workload : ℕ → Script
workload seed = record { names = names; lines = all_lines seed; order = None }
