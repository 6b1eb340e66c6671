-- The workload's lines as batches of statements.
use Rattle.std.proofs.Common.{◌≡◌, ◌≢◌, ℕ, zero, suc, ◌+◌, ◌*◌, ◌<◌, ◌≤◌, Bool, true, false, List, [], ◌∷◌, ◌++◌, refl, sym, ap, ◌∙◌, map, arith, le_of_eq, le_refl}
use Rattle.std.proofs.lemmas.List.{append-nil}
use Rattle.std.specs.List.{AllByRecursion, flat_map}
use Rattle.std.proofs.lemmas.Grind.{flat_map-append}
use Rattle.plain_sessions.specs.Commands.{command}
use Rattle.plain_sessions.specs.Runs.{commands_of}
use Rattle.workload.specs.declared.steps.LoadStep.TheVariants.{Commits, Inserts, Updates}
use Rattle.workload.specs.declared.steps.LoadStep.{LoadStep}
use Rattle.workload.specs.declared.steps.Pair.{Pair}
use Rattle.workload.specs.Workload.{all_lines, steps_of, text_of}
use Rattle.load_laws.specs.Batches.{AreBatches, Batch, IsOwn, after_all, changes_of, opening_steps, rows_of, steps_in}
use Rattle.load_laws.specs.Loaded.{all_steps, inserted, last_rows, written}
use Rattle.load_laws.specs.Parts.{IsSmallStep, ScriptsAreBatches, StepsAreRead}
use Rattle.load_laws.specs.Steps.{command_of}
use Rattle.load_laws.specs.Tables.{IsSmall}
use Rattle.load_laws.proofs.ScriptBatches.{IsWithin, Stand, Within, batches_of, batches_stand, below_there, from_there, steps_are, writes_in, writes_of}
use Rattle.load_laws.proofs.ScriptEach.{all_mapped, all_of_both, all_parts, all_so, has_some, map_where}
use Rattle.load_laws.proofs.ScriptSteps.{asked}
use Rattle.load_laws.proofs.ScriptValues.{Below, From, beside, lasting}

-- ---- what the steps of a session write and insert

gathered_twice : {A B : Type 0} (f : A → List LoadStep) (g : A → List B) (h : LoadStep → List B) → ((a : A) → flat_map h (f a) ≡ g a) → (xs : List A) → flat_map h (flat_map f xs) ≡ flat_map g xs
gathered_twice f g h same [] = refl
gathered_twice f g h same (x ∷ xs) =
    flat_map-append h (f x) (flat_map f xs) ∙ ap (λ ys. ys ++ flat_map h (flat_map f xs)) (same x) ∙ ap (λ ys. g x ++ ys) (gathered_twice f g h same xs)

four_parts : (h : LoadStep → List Pair) (o r c e : List LoadStep) → flat_map h (o ++ r ++ c ++ e) ≡ flat_map h o ++ flat_map h r ++ flat_map h c ++ flat_map h e
four_parts h o r c e =
    flat_map-append h (o ++ r ++ c) e ∙ ap (λ xs. xs ++ flat_map h e) (flat_map-append h (o ++ r) c ∙ ap (λ xs. xs ++ flat_map h c) (flat_map-append h o r))

rows_written : (rows : List Pair) → flat_map written (map Inserts rows) ≡ rows
rows_written [] = refl
rows_written (row ∷ rows) = ap (λ rs. row ∷ rs) (rows_written rows)

changes_written : (changes : List Pair) → flat_map written (map Updates changes) ≡ changes
changes_written [] = refl
changes_written (change ∷ changes) = ap (λ rs. change ∷ rs) (changes_written changes)

rows_inserted : (rows : List Pair) → flat_map inserted (map Inserts rows) ≡ rows
rows_inserted [] = refl
rows_inserted (row ∷ rows) = ap (λ rs. row ∷ rs) (rows_inserted rows)

none_inserted : (changes : List Pair) → flat_map inserted (map Updates changes) ≡ []
none_inserted [] = refl
none_inserted (change ∷ changes) = none_inserted changes

opening_written : (makes : Bool) → flat_map written (opening_steps makes) ≡ []
opening_written true = refl
opening_written false = refl

opening_inserted : (makes : Bool) → flat_map inserted (opening_steps makes) ≡ []
opening_inserted true = refl
opening_inserted false = refl

batch_written : (batch : Batch) → flat_map written (steps_in batch) ≡ writes_in batch
batch_written batch =
    four_parts written (opening_steps batch.makes) (map Inserts batch.rows) (map Updates batch.changes) (Commits ∷ [])
    ∙ append-nil (flat_map written (opening_steps batch.makes) ++ flat_map written (map Inserts batch.rows) ++ flat_map written (map Updates batch.changes))
    ∙ ap (λ xs. xs ++ flat_map written (map Inserts batch.rows) ++ flat_map written (map Updates batch.changes)) (opening_written batch.makes)
    ∙ ap (λ xs. xs ++ flat_map written (map Updates batch.changes)) (rows_written batch.rows)
    ∙ ap (λ xs. batch.rows ++ xs) (changes_written batch.changes)

batch_inserted : (batch : Batch) → flat_map inserted (steps_in batch) ≡ batch.rows
batch_inserted batch =
    four_parts inserted (opening_steps batch.makes) (map Inserts batch.rows) (map Updates batch.changes) (Commits ∷ [])
    ∙ append-nil (flat_map inserted (opening_steps batch.makes) ++ flat_map inserted (map Inserts batch.rows) ++ flat_map inserted (map Updates batch.changes))
    ∙ ap (λ xs. xs ++ flat_map inserted (map Inserts batch.rows) ++ flat_map inserted (map Updates batch.changes)) (opening_inserted batch.makes)
    ∙ ap (λ xs. flat_map inserted (map Inserts batch.rows) ++ xs) (none_inserted batch.changes)
    ∙ append-nil (flat_map inserted (map Inserts batch.rows))
    ∙ rows_inserted batch.rows

session_written : (seed session : ℕ) → flat_map written (steps_of seed session) ≡ writes_of (batches_of seed session)
session_written seed session = ap (flat_map written) (steps_are seed session) ∙ gathered_twice steps_in writes_in written batch_written (batches_of seed session)

pub session_inserted : (seed session : ℕ) → flat_map inserted (steps_of seed session) ≡ rows_of (batches_of seed session)
session_inserted seed session =
    ap (flat_map inserted) (steps_are seed session) ∙ gathered_twice steps_in (λ (batch : Batch). batch.rows) inserted batch_inserted (batches_of seed session)

-- ---- sessions beside one another

-- so many numbers from this one on
abbrev counted : ℕ → ℕ → List ℕ
counted low zero = []
counted low (suc count) = low ∷ counted (suc low) count

module _ (writes rows : ℕ → List Pair)
    (writes_from : (place : ℕ) → From (1000000 * place) (writes place)) (writes_below : (place : ℕ) → Below (1000000 * suc place) (writes place))
    (rows_from : (place : ℕ) → From (1000000 * place) (rows place)) (rows_below : (place : ℕ) → Below (1000000 * suc place) (rows place)) where
  all_from : (each_from : ℕ → List Pair) → ((place : ℕ) → From (1000000 * place) (each_from place)) → (low count at : ℕ) → at ≤ low → From (1000000 * at) (flat_map each_from (counted low count))
  all_from each_from from low zero at up = tt
  all_from each_from from low (suc count) at up =
      all_of_both (λ (pair : Pair). 1000000 * at ≤ pair.key) (each_from low) (flat_map each_from (counted (suc low) count))
      (all_so (λ (pair : Pair). 1000000 * low ≤ pair.key) (λ (pair : Pair). 1000000 * at ≤ pair.key) (each_from low) (λ pair h. omega arith) (from low))
      (all_from each_from from (suc low) count at (omega arith))

  sessions_leave : (low count : ℕ) → flat_map (λ place. lasting (writes place) (rows place)) (counted low count) ≡ lasting (flat_map writes (counted low count)) (flat_map rows (counted low count))
  sessions_leave low zero = refl
  sessions_leave low (suc count) =
      ap (λ rs. lasting (writes low) (rows low) ++ rs) (sessions_leave (suc low) count)
      ∙ beside (1000000 * suc low) (writes low) (rows low) (flat_map writes (counted (suc low) count)) (flat_map rows (counted (suc low) count)) (writes_below low) (rows_below low)
      (all_from writes writes_from (suc low) count (suc low) (le_refl (suc low))) (all_from rows rows_from (suc low) count (suc low) (le_refl (suc low)))

-- ---- the law

session_below : (place : ℕ) (pairs : List Pair) → Within (1000000 * place) (1000000 * place + 1000 * 10) pairs → Below (1000000 * suc place) pairs
session_below place pairs all =
    all_so (λ (pair : Pair). pair.key < 1000000 * place + 1000 * 10) (λ (pair : Pair). pair.key < 1000000 * suc place) pairs (λ pair h. omega arith)
    (below_there (1000000 * place) (1000000 * place + 1000 * 10) pairs all)

batches_leave : (seed : ℕ) (places : List ℕ) → flat_map (λ place. after_all (batches_of seed place) []) places ≡ flat_map (λ place. lasting (writes_of (batches_of seed place)) (rows_of (batches_of seed place))) places
batches_leave seed [] = refl
batches_leave seed (place ∷ places) =
    let stand : Stand place 10 (batches_of seed place) = batches_stand seed place in
    ap (λ rs. rs ++ flat_map (λ other. after_all (batches_of seed other) []) places) stand.leave
    ∙ ap (λ rs. lasting (writes_of (batches_of seed place)) (rows_of (batches_of seed place)) ++ rs) (batches_leave seed places)

all_leave : (seed : ℕ) → flat_map (λ place. after_all (batches_of seed place) []) (0 ∷ 1 ∷ 2 ∷ 3 ∷ 4 ∷ 5 ∷ 6 ∷ 7 ∷ []) ≡ last_rows (all_steps seed)
all_leave seed =
    let places : List ℕ = counted 0 8 in
    let writes : ℕ → List Pair = λ place. writes_of (batches_of seed place) in
    let rows : ℕ → List Pair = λ place. rows_of (batches_of seed place) in
    batches_leave seed places
    ∙ sessions_leave writes rows
    (λ place. from_there (1000000 * place) (1000000 * place + 1000 * 10) (writes place) (batches_stand seed place).writes) (λ place. session_below place (writes place) (batches_stand seed place).writes)
    (λ place. from_there (1000000 * place) (1000000 * place + 1000 * 10) (rows place) (batches_stand seed place).rows) (λ place. session_below place (rows place) (batches_stand seed place).rows)
    0 8
    ∙ ap (λ ws. lasting ws (flat_map rows places)) (sym (gathered_twice (steps_of seed) writes written (session_written seed) places))
    ∙ ap (λ rs. lasting (flat_map written (flat_map (steps_of seed) places)) rs) (sym (gathered_twice (steps_of seed) rows inserted (session_inserted seed) places))

within_small : (place : ℕ) → place < 8 → (pairs : List Pair) → Within (1000000 * place) (1000000 * place + 1000 * 10) pairs → AllByRecursion IsSmall pairs
within_small place below pairs all =
    all_so (IsWithin (1000000 * place) (1000000 * place + 1000 * 10)) IsSmall pairs (λ pair h. record { key_small = small pair.key h.to; value_small = h.small }) all
  where
    small : (key : ℕ) → key < 1000000 * place + 1000 * 10 → key < 10000000
    small key h = omega arith

within_own : (place : ℕ) (pairs : List Pair) → Within (1000000 * place) (1000000 * place + 1000 * 10) pairs → AllByRecursion (IsOwn place) pairs
within_own place pairs all =
    all_so (IsWithin (1000000 * place) (1000000 * place + 1000 * 10)) (IsOwn place) pairs (λ pair h. record { from = h.from; to = own pair.key h.to }) all
  where
    own : (key : ℕ) → key < 1000000 * place + 1000 * 10 → key < 1000000 * place + 1000000
    own key h = omega arith

are_batches : (seed place : ℕ) → place < 8 → AreBatches place (batches_of seed place)
are_batches seed place below =
    let stand : Stand place 10 (batches_of seed place) = batches_stand seed place in
    record {
      rising = stand.rising;
      small = within_small place below (rows_of (batches_of seed place)) stand.rows;
      small_changes = within_small place below (changes_of (batches_of seed place)) stand.changes;
      own = within_own place (rows_of (batches_of seed place)) stand.rows;
      own_changes = within_own place (changes_of (batches_of seed place)) stand.changes;
      few = le_of_eq stand.many;
      begin = stand.begin;
      full = stand.full;
    }

-- steps that are read as they are written
opening_small : (makes : Bool) → AllByRecursion IsSmallStep (opening_steps makes)
opening_small true = (tt, (tt, tt))
opening_small false = (tt, tt)

steps_small : (batches : List Batch) → AllByRecursion IsSmall (rows_of batches) → AllByRecursion IsSmall (changes_of batches) → AllByRecursion IsSmallStep (flat_map steps_in batches)
steps_small [] rows changes = tt
steps_small (batch ∷ batches) rows changes =
    let of_rows = all_parts IsSmall batch.rows (rows_of batches) rows in
    let of_changes = all_parts IsSmall batch.changes (changes_of batches) changes in
    let opening : List LoadStep = opening_steps batch.makes in
    let inserts : List LoadStep = map Inserts batch.rows in
    let updates : List LoadStep = map Updates batch.changes in
    let one = all_of_both IsSmallStep opening inserts (opening_small batch.makes) (all_mapped IsSmallStep Inserts batch.rows of_rows.0) in
    let two = all_of_both IsSmallStep (opening ++ inserts) updates one (all_mapped IsSmallStep Updates batch.changes of_changes.0) in
    let three = all_of_both IsSmallStep (opening ++ inserts ++ updates) (Commits ∷ []) two (tt, tt) in
    all_of_both IsSmallStep (steps_in batch) (flat_map steps_in batches) three (steps_small batches of_rows.1 of_changes.1)

asks_batches : StepsAreRead → (seed place : ℕ) → place < 8 → commands_of command place (all_lines seed) ≡ map command_of (flat_map steps_in (batches_of seed place))
asks_batches reading seed place below =
    let are : AreBatches place (batches_of seed place) = are_batches seed place below in
    asked command seed place below
    ∙ ap (map (λ step. command (text_of step))) (steps_are seed place)
    ∙ map_where IsSmallStep (λ step. command (text_of step)) command_of (flat_map steps_in (batches_of seed place)) reading (steps_small (batches_of seed place) are.small are.small_changes)

some_batch : (seed : ℕ) → batches_of seed 0 ≢ []
some_batch seed = has_some 9 (batches_of seed 0) (batches_stand seed 0).number

pub scripts_are_batches : StepsAreRead → ScriptsAreBatches
scripts_are_batches reading seed =
    record { batches = batches_of seed; are = record { asks = asks_batches reading seed; keep = are_batches seed; some = some_batch seed; leave = all_leave seed } }
