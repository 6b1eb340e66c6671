-- A session's way through a batch: from its BEGIN on to its COMMIT.
use Rattle.std.proofs.Common.{◌≡◌, ◌≢◌, refl, sym, ◌∙◌, ap, subst, ℕ, ◌+◌, ◌<◌, Bool, true, false, not, List, [], ◌∷◌, ◌++◌, length, map, Option, Some, None, Ok, inl, inr, ◌⊎◌, arith, codes, if◌then◌else◌, append_assoc, append-nil}
use Rattle.std.specs.List.{AllByRecursion, flat_map, list_all}
use Rattle.std.specs.Option.{option_map, option_map_or}
use Rattle.std.proofs.lemmas.List.{length-append, length-map}
use Rattle.tuple_codec.proofs.Lists.{all_append}
use Rattle.tuple_codec.proofs.Truths.{if_true}
use Rattle.script_text.specs.declared.replies.Reply.{Reply}
use Rattle.schema_model.specs.PlainCommits.{Commits}
use Rattle.sql_ast.specs.declared.statements.Write.TheVariants as write
use Rattle.expr_eval.specs.Binding.{Outcome}
use Rattle.plain_sessions.specs.Merging.{Answers, Worked}
use Rattle.plain_sessions.specs.Moments.{if_answered, past}
use Rattle.plain_sessions.specs.Records.{BranchState}
use Rattle.plain_sessions.specs.Replies.{counted, done}
use Rattle.plain_sessions.specs.Runs.{Runner, advance, nothing_refused}
use Rattle.plain_sessions.specs.Sessions.{Before, Head, Said, Session, Transaction, first_variables, is_changed, over, with_own}
use Rattle.plain_sessions.specs.Statements.{worked}
use Rattle.plain_sessions.specs.declared.commands.Command.{Command}
use Rattle.plain_sessions.specs.declared.commands.Command.TheVariants.{Begin, CommitAll, Data}
use Rattle.plain_sessions.specs.declared.commands.Work.{Work}
use Rattle.plain_sessions.specs.declared.commands.Work.TheVariants.{Change}
use Rattle.workload.specs.declared.steps.LoadStep.TheVariants.{Commits as Committing, Inserts, Makes, Updates}
use Rattle.workload.specs.declared.steps.LoadStep.{LoadStep}
use Rattle.workload.specs.declared.steps.Pair.{Pair}
use Rattle.load_laws.specs.Batches.{Batch, IsOwn, after_all, all_changed, changes_of, opening_steps, rows_of, steps_in}
use Rattle.load_laws.specs.Laws.{is_answered}
use Rattle.load_laws.specs.Parts.{RowsAreChanged, RowsAreInserted, TablesAreMade}
use Rattle.load_laws.specs.Steps.{command_of, create, insert, update}
use Rattle.load_laws.specs.Tables.{IsSmall, changed, changed_one, changes, rows_in, working}
use Rattle.load_laws.proofs.RunningMeeting.{state_differs}
use Rattle.load_laws.proofs.RunningRows.{AreBlocks, IsBlock, all_behind, below_next, block_front, block_stays, blocks_with, changed_block, changed_whole, free_whole, more_rows, put_whole, room_whole, whole, whole_rows, whole_same, with_block}

-- ---- what a session is on its way

abbrev pub standing : List ℕ → ℕ → ℕ → Option Transaction → Session
standing name number statement transaction =
    record { name = name; number = number; branch = codes "main"; variables = first_variables; statement = statement; place = Before; transaction = transaction }

-- a transaction since this start, with these rows of its own
abbrev pub begun_with : List ℕ → Option (List Pair) → List Head → Commits → Option (List Pair) → Transaction
begun_with head started heads commits own = record { start = working head started; heads = heads; commits = commits; own = working head own }

abbrev pub todo_of : List Batch → List Command
todo_of left = map command_of (flat_map steps_in left)

-- what the batches left keep
pub record Later (place : ℕ) (left : List Batch) : Type 0 where
  pub small : AllByRecursion IsSmall (changes_of left)
  pub own : AllByRecursion (IsOwn place) (changes_of left)
  pub full : AllByRecursion (λ (batch : Batch). batch.rows ≢ []) left

-- before a BEGIN, or at the end
pub record Rests (batches : List Batch) (found : Option (List Pair)) (block : List Pair) (place : ℕ) (runner : Runner) : Type 0 where
  pub name : List ℕ
  pub number : ℕ
  pub statement : ℕ
  pub replies : List Reply
  pub left : List Batch
  pub is : runner ≡ record { session = standing name number statement None; replies = replies; todo = todo_of left }
  pub answered : list_all is_answered replies ≡ true
  pub fits : IsBlock place (block ++ rows_of left)
  pub later : Later place left
  pub leads : after_all left block ≡ after_all batches []
  pub ready : (left ≡ batches) ⊎ (found ≢ None)

-- before a COMMIT: the rows now are those at the start, and more
pub record Waits (batches : List Batch) (head : List ℕ) (found : Option (List Pair)) (block : List Pair) (place : ℕ) (runner : Runner) : Type 0 where
  pub name : List ℕ
  pub number : ℕ
  pub statement : ℕ
  pub replies : List Reply
  pub left : List Batch
  pub now : List Pair
  pub started : Option (List Pair)
  pub blocks : ℕ → List Pair
  pub heads : List Head
  pub commits : Commits
  pub is : runner ≡ record {
    session = standing name number statement (Some (begun_with head started heads commits (Some (whole (with_block place now blocks) 0 8))));
    replies = replies;
    todo = CommitAll ∷ todo_of left;
  }
  pub answered : list_all is_answered replies ≡ true
  pub fits : IsBlock place (now ++ rows_of left)
  pub later : Later place left
  pub leads : after_all left now ≡ after_all batches []
  pub starts : rows_in started ≡ whole blocks 0 8
  pub are : AreBlocks blocks
  pub same : blocks place ≡ block
  pub stays : started ≢ None → found ≢ None

-- ---- a batch's statements

abbrev pub made_steps : Bool → List LoadStep
made_steps makes = if makes then Makes ∷ [] else []

abbrev pub change_steps : List Pair → List Batch → List LoadStep
change_steps changes left = map Updates changes ++ Committing ∷ flat_map steps_in left

abbrev pub row_steps : List Pair → List Pair → List Batch → List LoadStep
row_steps rows changes left = map Inserts rows ++ change_steps changes left

regrouped : {X : Type 0} (a b c d : List X) (x : X) → (a ++ b ++ c ++ x ∷ []) ++ d ≡ a ++ (b ++ (c ++ x ∷ d))
regrouped a b c d x = append_assoc (a ++ b ++ c) (x ∷ []) d ∙ append_assoc (a ++ b) c (x ∷ d) ∙ append_assoc a b (c ++ x ∷ d)

begin_first : (makes : Bool) (more : List LoadStep) → map command_of (opening_steps makes ++ more) ≡ Begin ∷ map command_of (made_steps makes ++ more)
begin_first true more = refl
begin_first false more = refl

pub batch_first : (batch : Batch) (left : List Batch) → todo_of (batch ∷ left) ≡ Begin ∷ map command_of (made_steps batch.makes ++ row_steps batch.rows batch.changes left)
batch_first batch left =
    ap (map command_of) (regrouped (opening_steps batch.makes) (map Inserts batch.rows) (map Updates batch.changes) (flat_map steps_in left) Committing)
    ∙ begin_first batch.makes (row_steps batch.rows batch.changes left)

-- ---- statements alone

pub rest_stays : (place : ℕ) (name : List ℕ) (number statement : ℕ) (replies : List Reply) (left : List Batch)
    → advance (nothing_refused place) (todo_of left) replies (standing name number statement None) ≡ record { session = standing name number statement None; replies = replies; todo = todo_of left }
rest_stays place name number statement replies [] = refl
rest_stays place name number statement replies (batch ∷ left) =
    ap (λ todo. advance (nothing_refused place) todo replies (standing name number statement None)) (batch_first batch left)
    ∙ ap (λ todo. record { session = standing name number statement None; replies = replies; todo = todo }) (sym (batch_first batch left))

work_goes : (place : ℕ) (work : Work) (todo : List Command) (replies : List Reply) (name : List ℕ) (number statement : ℕ) (t : Transaction) (reply : Reply) (own : BranchState)
    → worked (standing name number statement (Some t)) t work ≡ Ok (Answers reply own)
    → advance (nothing_refused place) (Data work ∷ todo) replies (standing name number statement (Some t))
    ≡ advance (nothing_refused place) todo (replies ++ reply ∷ []) (standing name number (statement + 1) (Some (with_own own t)))
work_goes place work todo replies name number statement t reply own is =
    ap (λ (o : Outcome Worked). option_map_or (λ (said : Said). advance (nothing_refused place) todo (replies ++ said.1 ∷ []) said.0)
    (option_map (past statement) (if_answered (standing name number statement (Some t)) t o))
    (record { session = standing name number statement (Some t); replies = replies; todo = Data work ∷ todo })) is

commit_waits : (place : ℕ) (todo : List Command) (replies : List Reply) (name : List ℕ) (number statement : ℕ) (t : Transaction) → is_changed (standing name number statement (Some t)) ≡ true
    → advance (nothing_refused place) (CommitAll ∷ todo) replies (standing name number statement (Some t)) ≡ record { session = standing name number statement (Some t); replies = replies; todo = CommitAll ∷ todo }
commit_waits place todo replies name number statement t moved =
    let session : Session = standing name number statement (Some t) in
    ap (λ (o : Option Said). option_map_or (λ (said : Said). advance (nothing_refused place) todo (replies ++ said.1 ∷ []) said.0)
    (option_map (past statement) o) (record { session = session; replies = replies; todo = CommitAll ∷ todo }))
    (if_true (is_changed session) None (Some (over session, done)) moved)

-- ---- a start

pub some_in : (found : Option (List Pair)) → found ≢ None → found ≡ Some (rows_in found)
some_in None there = absurd (there refl)
some_in (Some rows) there = refl

longer_by : (xs ys : List Pair) → ys ≢ [] → length xs < length (xs ++ ys)
longer_by xs [] full = absurd (full refl)
longer_by xs (y ∷ ys) full = omega (arith, length-append xs (y ∷ ys))

-- ---- through a batch

module _ (made : TablesAreMade) (inserted : RowsAreInserted) (rewritten : RowsAreChanged) (batches : List Batch) (place : ℕ) (within : place < 8) (head : List ℕ) (found : Option (List Pair)) (block : List Pair)
    (name : List ℕ) (number : ℕ) (left : List Batch) (later : Later place left) (started : Option (List Pair)) (blocks : ℕ → List Pair) (heads : List Head) (commits : Commits)
    (starts : rows_in started ≡ whole blocks 0 8) (are : AreBlocks blocks) (same : blocks place ≡ block) (stays : started ≢ None → found ≢ None) where
  abbrev on_its_way : ℕ → Option (List Pair) → Session
  on_its_way statement own = standing name number statement (Some (begun_with head started heads commits own))

  abbrev wrote : List Pair → Option (List Pair)
  wrote now = Some (whole (with_block place now blocks) 0 8)

  at_commit : (now : List Pair) (statement : ℕ) (replies : List Reply) → list_all is_answered replies ≡ true → IsBlock place (now ++ rows_of left) → after_all left now ≡ after_all batches []
      → length block < length now
      → Waits batches head found block place (advance (nothing_refused place) (CommitAll ∷ todo_of left) replies (on_its_way statement (wrote now)))
  at_commit now statement replies answered fits leads more =
      let longer : length (whole blocks 0 8) < length (whole (with_block place now blocks) 0 8) = more_rows place now blocks within (subst (λ b. length b < length now) (sym same) more) in
      let most : length (rows_in started) < length (whole (with_block place now blocks) 0 8) = subst (λ rows. length rows < length (whole (with_block place now blocks) 0 8)) (sym starts) longer in
      record {
        name = name;
        number = number;
        statement = statement;
        replies = replies;
        left = left;
        now = now;
        started = started;
        blocks = blocks;
        heads = heads;
        commits = commits;
        is = commit_waits place (todo_of left) replies name number statement (begun_with head started heads commits (wrote now)) (ap not (state_differs head (whole (with_block place now blocks) 0 8) started most));
        answered = answered;
        fits = fits;
        later = later;
        leads = leads;
        starts = starts;
        are = are;
        same = same;
        stays = stays;
      }

  through_changes : (news : List Pair) (now : List Pair) (statement : ℕ) (replies : List Reply) → list_all is_answered replies ≡ true
      → AllByRecursion IsSmall news → AllByRecursion (IsOwn place) news → IsBlock place (now ++ rows_of left) → after_all left (all_changed news now) ≡ after_all batches [] → length block < length now
      → Waits batches head found block place (advance (nothing_refused place) (map command_of (change_steps news left)) replies (on_its_way statement (wrote now)))
  through_changes [] now statement replies answered small own fits leads more = at_commit now statement replies answered fits leads more
  through_changes (new ∷ news) now statement replies answered small own fits leads more =
      let rows : List Pair = whole (with_block place now blocks) 0 8 in
      let reply : Reply = counted (changes new rows) in
      let whole_are = whole_rows (with_block place now blocks) (blocks_with place now blocks (block_front place now (rows_of left) fits) are) in
      let does = rewritten (on_its_way statement (wrote now)) (begun_with head started heads commits (wrote now)) head new rows refl whole_are small.0
      ∙ ap (λ others. Ok (Answers reply (working head (Some others)))) (changed_whole place new now blocks own.0 are) in
      subst (Waits batches head found block place)
      (sym (work_goes place (Change (write.Update (update new))) (map command_of (change_steps news left)) replies name number statement (begun_with head started heads commits (wrote now)) reply (working head (wrote (changed new now))) does))
      (through_changes news (changed new now) (statement + 1) (replies ++ reply ∷ []) (all_append is_answered replies (reply ∷ []) answered refl)
      small.1 own.1 (changed_block place new now (rows_of left) small.0 own.0 fits) leads (subst (λ n. length block < n) (sym (length-map now (changed_one new))) more))

  through_rows : (rows news : List Pair) (now : List Pair) (statement : ℕ) (replies : List Reply) → list_all is_answered replies ≡ true
      → AllByRecursion IsSmall news → AllByRecursion (IsOwn place) news → IsBlock place (now ++ (rows ++ rows_of left)) → after_all left (all_changed news (now ++ rows)) ≡ after_all batches []
      → length block < length (now ++ rows)
      → Waits batches head found block place (advance (nothing_refused place) (map command_of (row_steps rows news left)) replies (on_its_way statement (wrote now)))
  through_rows [] news now statement replies answered small own fits leads more =
      through_changes news now statement replies answered small own fits
      (subst (λ all. after_all left (all_changed news all) ≡ after_all batches []) (append-nil now) leads) (subst (λ all. length block < length all) (append-nil now) more)
  through_rows (pair ∷ rows) news now statement replies answered small own fits leads more =
      let rest : List Pair = rows ++ rows_of left in
      let table : List Pair = whole (with_block place now blocks) 0 8 in
      let regroup : (now ++ pair ∷ []) ++ rows ≡ now ++ pair ∷ rows = append_assoc now (pair ∷ []) rows in
      let fits_more : IsBlock place ((now ++ pair ∷ []) ++ rest) = subst (IsBlock place) (sym (append_assoc now (pair ∷ []) rest)) fits in
      let below = below_next place now rest pair fits in
      let pair_own = (all_behind (IsOwn place) now (pair ∷ rest) fits.own).0 in
      let pair_small = (all_behind IsSmall now (pair ∷ rest) fits.small).0 in
      let whole_are = whole_rows (with_block place now blocks) (blocks_with place now blocks (block_front place now (pair ∷ rest) fits) are) in
      let does = inserted (on_its_way statement (wrote now)) (begun_with head started heads commits (wrote now)) head pair table refl whole_are pair_small
      (free_whole place pair now blocks pair_own below are) (room_whole place pair now blocks pair_own below are within (block_front place (now ++ pair ∷ []) rest fits_more))
      ∙ ap (λ others. Ok (Answers (counted 1) (working head (Some others)))) (put_whole place pair now blocks pair_own below are within) in
      subst (Waits batches head found block place)
      (sym (work_goes place (Change (write.Insert (insert pair))) (map command_of (row_steps rows news left)) replies name number statement (begun_with head started heads commits (wrote now)) (counted 1) (working head (wrote (now ++ pair ∷ []))) does))
      (through_rows rows news (now ++ pair ∷ []) (statement + 1) (replies ++ counted 1 ∷ []) (all_append is_answered replies (counted 1 ∷ []) answered refl)
      small own fits_more (subst (λ all. after_all left (all_changed news all) ≡ after_all batches []) (sym regroup) leads) (subst (λ all. length block < length all) (sym regroup) more))

  -- the table that is there, with the session's rows in it
  as_started : whole (with_block place block blocks) 0 8 ≡ rows_in started
  as_started = whole_same (with_block place block blocks) blocks 0 8 (λ p up. block_stays place block blocks same p) ∙ sym starts

  pub through_making : (makes : Bool) (rows news : List Pair) (statement : ℕ) (replies : List Reply) → (makes ≡ true) ⊎ (started ≢ None) → list_all is_answered replies ≡ true
      → AllByRecursion IsSmall news → AllByRecursion (IsOwn place) news → IsBlock place (block ++ (rows ++ rows_of left)) → after_all left (all_changed news (block ++ rows)) ≡ after_all batches [] → rows ≢ []
      → Waits batches head found block place (advance (nothing_refused place) (map command_of (made_steps makes ++ row_steps rows news left)) replies (on_its_way statement started))
  through_making true rows news statement replies ready answered small own fits leads full =
      let does = made (on_its_way statement started) (begun_with head started heads commits started) head started refl
      ∙ ap (λ others. Ok (Answers done (working head (Some others)))) (sym as_started) in
      subst (Waits batches head found block place)
      (sym (work_goes place (Change (write.Create create)) (map command_of (row_steps rows news left)) replies name number statement (begun_with head started heads commits started) done (working head (wrote block)) does))
      (through_rows rows news block (statement + 1) (replies ++ done ∷ []) (all_append is_answered replies (done ∷ []) answered refl) small own fits leads (longer_by block rows full))
  through_making false rows news statement replies ready answered small own fits leads full =
      let there : started ≢ None = by ready in
      let is : started ≡ wrote block = some_in started there ∙ ap (λ others. Some others) (sym as_started) in
      subst (λ now. Waits batches head found block place (advance (nothing_refused place) (map command_of (row_steps rows news left)) replies (on_its_way statement now))) (sym is)
      (through_rows rows news block statement replies answered small own fits leads (longer_by block rows full)) where
        by : (false ≡ true) ⊎ (started ≢ None) → started ≢ None
        by (inl never) = absurd (cc)
        by (inr there) = there
