-- A session's batches, as it draws them: the steps are theirs, and what they keep.
use Rattle.std.proofs.Common.{◌≡◌, ◌≢◌, ℕ, suc, ◌+◌, ◌*◌, ◌%◌, ◌^◌, ◌<◌, ◌≤◌, ◌==◌, true, false, if◌then◌else◌, List, [], ◌∷◌, ◌++◌, refl, sym, ap, ◌∙◌, subst, map, length, length-append, arith, append_assoc, add-one, le_refl, le_trans}
use Rattle.std.specs.List.{AllByRecursion, flat_map}
use Rattle.std.proofs.lemmas.List.{append-nil, length_push, map-append}
use Rattle.std.proofs.lemmas.Grind.{flat_map-append}
use Rattle.workload.specs.declared.draws.Drawn.{Drawn}
use Rattle.workload.specs.declared.steps.LoadStep.TheVariants.{Begins, Commits, Inserts, Makes, Updates}
use Rattle.workload.specs.declared.steps.LoadStep.{LoadStep}
use Rattle.workload.specs.declared.steps.Pair.{Pair}
use Rattle.workload.specs.Workload.{drawn, each, first_key, next, steps_of, with_batch, with_begin, with_insert, with_inserts, with_step, with_update, with_updates}
use Rattle.load_laws.specs.Batches.{Batch, BeginsByMaking, after, after_all, changes_of, opening_steps, rows_of, steps_in}
use Rattle.load_laws.specs.Tables.{PairsRise}
use Rattle.load_laws.proofs.ScriptEach.{all_of_both, all_so, each_follows, each_holds, has_some}
use Rattle.load_laws.proofs.ScriptValues.{Below, From, lasting, written_on}

-- ---- what is drawn

-- the pairs so far, and the x that the next number is drawn from
pub record Filled : Type 0 where
  pub pairs : List Pair
  pub x : ℕ

abbrev pub row_drawn : ℕ → Filled → Filled
row_drawn key so_far =
    let x = next so_far.x in
    record { pairs = so_far.pairs ++ record { key = key; value = drawn x % 1000 } ∷ []; x = x }

abbrev pub change_drawn : ℕ → Filled → Filled
change_drawn first so_far =
    let row = next so_far.x in
    let x = next row in
    record { pairs = so_far.pairs ++ record { key = first + drawn row % 50; value = drawn x % 1000 } ∷ []; x = x }

abbrev pub no_pairs : ℕ → Filled
no_pairs x = record { pairs = []; x = x }

abbrev pub rows_drawn : ℕ → ℕ → Filled
rows_drawn first x = each 50 (λ row. row_drawn (first + row)) (no_pairs x)

abbrev pub changes_drawn : ℕ → ℕ → Filled
changes_drawn first x = each 10 (λ turn. change_drawn first) (no_pairs x)

pub record Batched : Type 0 where
  pub batches : List Batch
  pub x : ℕ

-- the batch of this number, drawn from x on
abbrev pub batch_drawn : ℕ → ℕ → ℕ → Batch
batch_drawn session batch x =
    let first = first_key session batch in
    let rows = rows_drawn first x in
    record { makes = batch == 0; rows = rows.pairs; changes = (changes_drawn first rows.x).pairs }

abbrev pub x_behind : ℕ → ℕ → ℕ → ℕ
x_behind session batch x = let first = first_key session batch in (changes_drawn first (rows_drawn first x).x).x

abbrev pub one_drawn : ℕ → ℕ → Batched → Batched
one_drawn session batch so_far =
    record { batches = so_far.batches ++ batch_drawn session batch so_far.x ∷ []; x = x_behind session batch so_far.x }

abbrev pub no_batches : ℕ → ℕ → Batched
no_batches seed session = record { batches = []; x = (seed + session) % 2 ^ 64 }

pub batches_of : ℕ → ℕ → List Batch
batches_of seed session = (each 10 (one_drawn session) (no_batches seed session)).batches

-- ---- the steps are those of the batches

pub flat_push : {A B : Type 0} (f : A → List B) (xs : List A) (x : A) → flat_map f (xs ++ x ∷ []) ≡ flat_map f xs ++ f x
flat_push f xs x = flat_map-append f xs (x ∷ []) ∙ ap (λ ys. flat_map f xs ++ ys) (append-nil (f x))

-- steps behind others
abbrev behind : (Pair → LoadStep) → List LoadStep → Filled → Drawn
behind f before filled = record { steps = before ++ map f filled.pairs; x = filled.x }

pushed : (f : Pair → LoadStep) (before : List LoadStep) (pairs : List Pair) (pair : Pair) → before ++ map f pairs ++ f pair ∷ [] ≡ before ++ map f (pairs ++ pair ∷ [])
pushed f before pairs pair = append_assoc before (map f pairs) (f pair ∷ []) ∙ ap (λ s. before ++ s) (sym (map-append f pairs (pair ∷ [])))

none_behind : (f : Pair → LoadStep) (d : Drawn) → d ≡ behind f d.steps (no_pairs d.x)
none_behind f d = ap (λ s. record { steps = s; x = d.x }) (sym (append-nil d.steps))

rows_are : (first : ℕ) (d : Drawn) → with_inserts first d ≡ behind Inserts d.steps (rows_drawn first d.x)
rows_are first d =
    ap (λ e. with_inserts first e) (none_behind Inserts d)
    ∙ each_follows (behind Inserts d.steps) 50 (λ row. with_insert (first + row)) (λ row. row_drawn (first + row)) (no_pairs d.x)
    (λ row f. ap (λ s. record { steps = s; x = next f.x }) (pushed Inserts d.steps f.pairs (record { key = first + row; value = drawn (next f.x) % 1000 })))

changes_are : (first : ℕ) (d : Drawn) → with_updates first d ≡ behind Updates d.steps (changes_drawn first d.x)
changes_are first d =
    ap (λ e. with_updates first e) (none_behind Updates d)
    ∙ each_follows (behind Updates d.steps) 10 (λ turn. with_update first) (λ turn. change_drawn first) (no_pairs d.x)
    (λ turn f. ap (λ s. record { steps = s; x = next (next f.x) }) (pushed Updates d.steps f.pairs (record { key = first + drawn (next f.x) % 50; value = drawn (next (next f.x)) % 1000 })))

opening_is : (batch : ℕ) (d : Drawn) → with_begin batch d ≡ record { steps = d.steps ++ opening_steps (batch == 0); x = d.x }
opening_is batch d =
    elim (batch == 0) as (λ first. ◌≡◌ {A = Drawn} (if first then with_step Makes (with_step Begins d) else with_step Begins d) (record { steps = d.steps ++ opening_steps first; x = d.x })) [
      | true ↦ ap (λ s. record { steps = s; x = d.x }) (append_assoc d.steps (Begins ∷ []) (Makes ∷ []))
      | false ↦ refl
    ]

regroup : (s o r c e : List LoadStep) → s ++ o ++ r ++ c ++ e ≡ s ++ (o ++ r ++ c ++ e)
regroup s o r c e = simp append_assoc

abbrev laid : Batched → Drawn
laid b = record { steps = flat_map steps_in b.batches; x = b.x }

batch_is : (session batch : ℕ) (b : Batched) → with_batch session batch (laid b) ≡ laid (one_drawn session batch b)
batch_is session batch b =
    let first : ℕ = first_key session batch in
    let before : List LoadStep = flat_map steps_in b.batches in
    let opening : List LoadStep = opening_steps (batch == 0) in
    let rows : Filled = rows_drawn first b.x in
    let changes : Filled = changes_drawn first rows.x in
    ap (λ d. with_step Commits (with_updates first (with_inserts first d))) (opening_is batch (laid b))
    ∙ ap (λ d. with_step Commits (with_updates first d)) (rows_are first (record { steps = before ++ opening; x = b.x }))
    ∙ ap (λ d. with_step Commits d) (changes_are first (record { steps = before ++ opening ++ map Inserts rows.pairs; x = rows.x }))
    ∙ ap (λ s. record { steps = s; x = changes.x }) (
    regroup before opening (map Inserts rows.pairs) (map Updates changes.pairs) (Commits ∷ [])
    ∙ sym (flat_push steps_in b.batches (batch_drawn session batch b.x))
    )

pub steps_are : (seed session : ℕ) → steps_of seed session ≡ flat_map steps_in (batches_of seed session)
unfolding steps_of batches_of
steps_are seed session = ap (λ (d : Drawn). d.steps) (each_follows laid 10 (with_batch session) (one_drawn session) (no_batches seed session) (batch_is session))

-- ---- the pairs of a batch

pub record IsWithin (low high : ℕ) (pair : Pair) : Type 0 where
  pub from : low ≤ pair.key
  pub to : pair.key < high
  pub small : pair.value < 1000

abbrev pub Within : ℕ → ℕ → List Pair → Type 0
Within low high pairs = AllByRecursion (IsWithin low high) pairs

pub wider : (low high lower higher : ℕ) (pairs : List Pair) → lower ≤ low → high ≤ higher → Within low high pairs → Within lower higher pairs
wider low high lower higher pairs down up all =
    all_so (IsWithin low high) (IsWithin lower higher) pairs (λ pair h. record { from = le_trans down h.from; to = le_trans h.to up; small = h.small }) all

pub from_there : (low high : ℕ) (pairs : List Pair) → Within low high pairs → From low pairs
from_there low high pairs all = all_so (IsWithin low high) (λ (pair : Pair). low ≤ pair.key) pairs (λ pair h. h.from) all

pub below_there : (low high : ℕ) (pairs : List Pair) → Within low high pairs → Below high pairs
below_there low high pairs all = all_so (IsWithin low high) (λ (pair : Pair). pair.key < high) pairs (λ pair h. h.to) all

rising_both : (at : ℕ) (xs ys : List Pair) → PairsRise xs → PairsRise ys → Below at xs → From at ys → PairsRise (xs ++ ys)
rising_both at [] ys one two below from = two
rising_both at (x ∷ xs) ys one two below from = (
  all_of_both (λ (later : Pair). x.key < later.key) xs ys one.0 (all_so (λ (y : Pair). at ≤ y.key) (λ (y : Pair). x.key < y.key) ys (λ y h. le_trans below.0 h) from),
  rising_both at xs ys one.1 two below.1 from,
)

value_small : (n : ℕ) → n % 1000 < 1000
value_small n = omega arith

-- the first rows of a batch
record RowsStand (first count : ℕ) (pairs : List Pair) : Type 0 where
  rising : PairsRise pairs
  within : Within first (first + count) pairs
  many : length pairs ≡ count

row_stands : (first count : ℕ) (f : Filled) → RowsStand first count f.pairs → RowsStand first (suc count) (row_drawn (first + count) f).pairs
row_stands first count f so_far =
    let pair : Pair = record { key = first + count; value = drawn (next f.x) % 1000 } in
    let few : length (f.pairs ++ pair ∷ []) ≡ length f.pairs + 1 = length_push f.pairs pair in
    record {
      rising = rising_both (first + count) f.pairs (pair ∷ []) so_far.rising (tt, tt) (below_there first (first + count) f.pairs so_far.within) (le_refl (first + count), tt);
      within =
          all_of_both (IsWithin first (first + suc count)) f.pairs (pair ∷ []) (wider first (first + count) first (first + suc count) f.pairs (le_refl first) (omega arith) so_far.within)
          (record { from = omega arith; to = omega arith; small = value_small (drawn (next f.x)) }, tt);
      many = few ∙ ap (λ n. n + 1) so_far.many ∙ add-one count;
    }

rows_stand : (first x : ℕ) → RowsStand first 50 (rows_drawn first x).pairs
rows_stand first x =
    each_holds (λ count f. RowsStand first count f.pairs) 50 (λ row. row_drawn (first + row)) (no_pairs x) (record { rising = tt; within = tt; many = refl }) (row_stands first)

change_stands : (first turn : ℕ) (f : Filled) → Within first (first + 50) f.pairs → Within first (first + 50) (change_drawn first f).pairs
change_stands first turn f so_far =
    let row : ℕ = drawn (next f.x) in
    all_of_both (IsWithin first (first + 50)) f.pairs (record { key = first + row % 50; value = drawn (next (next f.x)) % 1000 } ∷ []) so_far
    (record { from = omega arith; to = omega arith; small = value_small (drawn (next (next f.x))) }, tt)

changes_stand : (first x : ℕ) → Within first (first + 50) (changes_drawn first x).pairs
changes_stand first x = each_holds (λ turn f. Within first (first + 50) f.pairs) 10 (λ turn. change_drawn first) (no_pairs x) tt (change_stands first)

-- ---- the batches of a session

-- what a batch writes
abbrev pub writes_in : Batch → List Pair
writes_in batch = batch.rows ++ batch.changes

abbrev pub writes_of : List Batch → List Pair
writes_of batches = flat_map writes_in batches

pub record Stand (session count : ℕ) (batches : List Batch) : Type 0 where
  pub rising : PairsRise (rows_of batches)
  pub rows : Within (1000000 * session) (1000000 * session + 1000 * count) (rows_of batches)
  pub changes : Within (1000000 * session) (1000000 * session + 1000 * count) (changes_of batches)
  pub writes : Within (1000000 * session) (1000000 * session + 1000 * count) (writes_of batches)
  pub many : length (rows_of batches) ≡ 50 * count
  pub number : length batches ≡ count
  pub begin : BeginsByMaking batches
  pub full : AllByRecursion (λ (batch : Batch). batch.rows ≢ []) batches
  pub leave : after_all batches [] ≡ lasting (writes_of batches) (rows_of batches)

after_push : (batches : List Batch) (batch : Batch) (pairs : List Pair) → after_all (batches ++ batch ∷ []) pairs ≡ after batch (after_all batches pairs)
after_push [] batch pairs = refl
after_push (other ∷ batches) batch pairs = after_push batches batch (after other pairs)

begin_push : (count : ℕ) (batches : List Batch) (batch : Batch) → length batches ≡ count → batch.makes ≡ (count == 0) → BeginsByMaking batches → BeginsByMaking (batches ++ batch ∷ [])
begin_push count [] batch many makes begin = makes ∙ ap (λ n. n == 0) (sym many)
begin_push count (other ∷ batches) batch many makes begin = begin

one_stands : (session count : ℕ) (b : Batched) → Stand session count b.batches → Stand session (suc count) (one_drawn session count b).batches
one_stands session count b so_far =
    let low : ℕ = 1000000 * session in
    let first : ℕ = first_key session count in
    let high : ℕ = 1000000 * session + 1000 * suc count in
    let batch : Batch = batch_drawn session count b.x in
    let rows : RowsStand first 50 batch.rows = rows_stand first b.x in
    let changes : Within first (first + 50) batch.changes = changes_stand first (rows_drawn first b.x).x in
    let rows_in : Within low high batch.rows = wider first (first + 50) low high batch.rows (omega arith) (omega arith) rows.within in
    let changes_in : Within low high batch.changes = wider first (first + 50) low high batch.changes (omega arith) (omega arith) changes in
    let rows_push : rows_of (b.batches ++ batch ∷ []) ≡ rows_of b.batches ++ batch.rows = flat_push (λ (one : Batch). one.rows) b.batches batch in
    let changes_push : changes_of (b.batches ++ batch ∷ []) ≡ changes_of b.batches ++ batch.changes = flat_push (λ (one : Batch). one.changes) b.batches batch in
    let writes_push : writes_of (b.batches ++ batch ∷ []) ≡ writes_of b.batches ++ (batch.rows ++ batch.changes) = flat_push writes_in b.batches batch in
    let more : (pairs : List Pair) → Within low first pairs → Within low high pairs = λ pairs h. wider low first low high pairs (le_refl low) (omega arith) h in
    record {
      rising = subst PairsRise (sym rows_push) (rising_both first (rows_of b.batches) batch.rows so_far.rising rows.rising (below_there low first (rows_of b.batches) so_far.rows) (from_there first (first + 50) batch.rows rows.within));
      rows = subst (Within low high) (sym rows_push) (all_of_both (IsWithin low high) (rows_of b.batches) batch.rows (more (rows_of b.batches) so_far.rows) rows_in);
      changes = subst (Within low high) (sym changes_push) (all_of_both (IsWithin low high) (changes_of b.batches) batch.changes (more (changes_of b.batches) so_far.changes) changes_in);
      writes = subst (Within low high) (sym writes_push) (
          all_of_both (IsWithin low high) (writes_of b.batches) (batch.rows ++ batch.changes) (more (writes_of b.batches) so_far.writes)
          (all_of_both (IsWithin low high) batch.rows batch.changes rows_in changes_in)
          );
      many =
          let both : length (rows_of b.batches ++ batch.rows) ≡ length (rows_of b.batches) + length batch.rows = length-append (rows_of b.batches) batch.rows in
          let before : length (rows_of b.batches) ≡ 50 * count = so_far.many in
          let own : length batch.rows ≡ 50 = rows.many in
          ap length rows_push ∙ both ∙ omega arith;
      number = length_push b.batches batch ∙ ap (λ n. n + 1) so_far.number ∙ add-one count;
      begin = begin_push count b.batches batch so_far.number refl so_far.begin;
      full = all_of_both (λ (one : Batch). one.rows ≢ []) b.batches (batch ∷ []) so_far.full (has_some 49 batch.rows rows.many, tt);
      leave =
          after_push b.batches batch []
          ∙ ap (after batch) so_far.leave
          ∙ written_on first (writes_of b.batches) (rows_of b.batches) batch.rows batch.changes
          (below_there low first (writes_of b.batches) so_far.writes) (below_there low first (rows_of b.batches) so_far.rows) (from_there first (first + 50) batch.rows rows.within) rows.rising
          ∙ ap (λ ws. lasting ws (rows_of b.batches ++ batch.rows)) (sym writes_push)
          ∙ ap (λ rs. lasting (writes_of (b.batches ++ batch ∷ [])) rs) (sym rows_push);
    }

pub batches_stand : (seed session : ℕ) → Stand session 10 (batches_of seed session)
unfolding batches_of
batches_stand seed session =
    each_holds (λ count b. Stand session count b.batches) 10 (one_drawn session) (no_batches seed session)
    (record { rising = tt; rows = tt; changes = tt; writes = tt; many = refl; number = refl; begin = tt; full = tt; leave = refl }) (one_stands session)
