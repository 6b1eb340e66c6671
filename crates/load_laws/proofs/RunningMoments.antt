-- The moments of the workload: each BEGIN and each COMMIT, and what the session comes to behind it.
use Rattle.std.proofs.Common.{◌≡◌, ◌≢◌, refl, sym, ◌∙◌, ap, subst, ℕ, ℤ, ◌+◌, ◌<◌, true, false, ◌==◌, ◌&&◌, List, [], ◌∷◌, ◌++◌, map, Option, Some, None, Ok, inl, inr, ◌⊎◌, codes, if◌then◌else◌}
use Rattle.std.specs.List.{list_all}
use Rattle.std.specs.Option.{option_and_then, option_map}
use Rattle.tuple_codec.proofs.Lists.{all_append}
use Rattle.script_text.specs.declared.replies.Reply.{Reply}
use Rattle.expr_eval.specs.Binding.{Outcome, and_then}
use Rattle.plain_sessions.specs.CommitRule.{decide}
use Rattle.plain_sessions.specs.Moments.{After, Past, moment_at, past_moment, ruled, settled, without_commit}
use Rattle.plain_sessions.specs.Records.{Branch, BranchState, Shared, state_of, with_branch}
use Rattle.plain_sessions.specs.Replies.{done}
use Rattle.plain_sessions.specs.Runs.{Runner, advance, needs_moment, nothing_refused, step_of, went_on}
use Rattle.plain_sessions.specs.Sessions.{Session, Transaction, first_variables, head_of, over, started_at, within}
use Rattle.plain_sessions.specs.declared.commands.Command.{Command}
use Rattle.plain_sessions.specs.declared.commands.Command.TheVariants.{Begin, CommitAll}
use Rattle.workload.specs.declared.steps.Pair.{Pair}
use Rattle.load_laws.specs.Batches.{Batch, BeginsByMaking, IsOwn, after_all, changes_of, rows_of}
use Rattle.load_laws.specs.Laws.{is_answered}
use Rattle.load_laws.specs.Parts.{RowsAreChanged, RowsAreInserted, RowsMeet, TablesAreMade}
use Rattle.load_laws.specs.Steps.{command_of}
use Rattle.load_laws.specs.Tables.{IsSmall, rows_in, working}
use Rattle.load_laws.proofs.RunningMeeting.{they_meet}
use Rattle.load_laws.proofs.RunningRows.{AreBlocks, IsBlock, all_behind, all_front, block_elsewhere, block_front, block_here, blocks_with, whole, with_block}
use Rattle.load_laws.proofs.RunningSessions.{Later, Rests, Waits, batch_first, begun_with, made_steps, rest_stays, row_steps, standing, through_making, todo_of}
use Rattle.tuple_codec.proofs.Options.{some_is}

abbrev pub main_at : BranchState → List Branch
main_at state = record { name = codes "main"; state = state } ∷ []

main_found : (branches : List Branch) (state : BranchState) → branches ≡ main_at state → state_of branches (codes "main") ≡ Some state
main_found branches state is = ap (λ found. state_of found (codes "main")) is

-- ---- what each moment does

module _ (address : List ℕ → List ℕ) (epoch : ℤ) (shared : Shared) (name : List ℕ) (number statement : ℕ) where
  abbrev begun_on : Option BranchState → Option (Shared × After)
  begun_on found =
      option_map (past_moment statement) (option_map (λ (t : Transaction). (shared, Past (within (standing name number statement None) t, done))) (option_map (started_at shared) found))

  begin_goes : (state : BranchState) → shared.branches ≡ main_at state
      → moment_at address epoch None shared (standing name number statement None) Begin ≡ Some (shared, Past (standing name number (statement + 1) (Some (started_at shared state)), done))
  begin_goes state is = ap begun_on (main_found shared.branches state is)

  module _ (t : Transaction) where
    abbrev settled_on : Option BranchState → Option (Shared × After)
    settled_on found =
        option_map (past_moment statement) (option_and_then (λ (present : BranchState).
        settled address shared (standing name number statement (Some t)) (over (standing name number statement (Some t))) (ruled (standing name number statement (Some t)) t present done)) found)

    abbrev settled_by : Outcome BranchState → Option (Shared × After)
    settled_by ruling =
        option_map (past_moment statement) (settled address shared (standing name number statement (Some t)) (over (standing name number statement (Some t)))
        (and_then ruling (λ state. Ok (without_commit done state))))

    abbrev left_with : BranchState → List Branch → Option (Shared × After)
    left_with state branches =
        Some (record { branches = with_branch (codes "main") state branches; commits = shared.commits; places = shared.places }, Past (standing name number (statement + 1) None, done))

    commit_goes : (state result : BranchState) → shared.branches ≡ main_at state → decide t.start state t.own first_variables ≡ Ok result
        → moment_at address epoch None shared (standing name number statement (Some t)) CommitAll
        ≡ Some (record { branches = main_at result; commits = shared.commits; places = shared.places }, Past (standing name number (statement + 1) None, done))
    commit_goes state result is decides = ap settled_on (main_found shared.branches state is) ∙ ap settled_by decides ∙ ap (left_with result) is

-- ---- one step

step_is : (address : List ℕ → List ℕ) (epoch : ℤ) (place number : ℕ) (shared : Shared) (session : Session) (replies : List Reply) (command : Command) (todo : List Command) (after : Shared × After) (next : Shared × Runner)
    → moment_at address epoch None shared session command ≡ Some after → step_of address epoch (nothing_refused place) number shared session replies (command ∷ todo) ≡ Some next
    → (after.0, went_on (nothing_refused place) session command todo replies after.1) ≡ next
step_is address epoch place number shared session replies command todo after next goes =
    elim (session.statement == number && needs_moment None session command) as (λ test. (if test then option_map (λ (made : Shared × After). (made.0, went_on (nothing_refused place) session command todo replies made.1)) (moment_at address epoch None shared session command) else None) ≡ Some next
    → (after.0, went_on (nothing_refused place) session command todo replies after.1) ≡ next) [
      | true ↦ λ h. some_is (after.0, went_on (nothing_refused place) session command todo replies after.1) next
          (sym (ap (option_map (λ (made : Shared × After). (made.0, went_on (nothing_refused place) session command todo replies made.1))) goes) ∙ h)
      | false ↦ λ h. absurd (cc)
    ]

-- ---- what a step leaves

abbrev pub Goes : List Batch → List ℕ → Option (List Pair) → List Pair → ℕ → Runner → Type 0
Goes batches head found block place runner = Rests batches found block place runner ⊎ Waits batches head found block place runner

pub record Moved (batches : List Batch) (head : List ℕ) (found : Option (List Pair)) (blocks : ℕ → List Pair) (place : ℕ) (next : Shared × Runner) : Type 0 where
  pub left : Option (List Pair)
  pub left_blocks : ℕ → List Pair
  pub branches : next.0.branches ≡ main_at (working head left)
  pub rows : rows_in left ≡ whole left_blocks 0 8
  pub are : AreBlocks left_blocks
  pub others : (p : ℕ) → p ≢ place → left_blocks p ≡ blocks p
  pub stays : found ≢ None → left ≢ None
  pub goes : Goes batches head left (left_blocks place) place next.1

-- another session's table is there, so is its own
pub still_goes : (batches : List Batch) (head : List ℕ) (found left : Option (List Pair)) (block : List Pair) (place : ℕ) (runner : Runner) → (found ≢ None → left ≢ None)
    → Goes batches head found block place runner → Goes batches head left block place runner
still_goes batches head found left block place runner stays (inl r) = inl (record {
  name = r.name;
  number = r.number;
  statement = r.statement;
  replies = r.replies;
  left = r.left;
  is = r.is;
  answered = r.answered;
  fits = r.fits;
  later = r.later;
  leads = r.leads;
  ready = by r.ready;
}) where
  by : (r.left ≡ batches) ⊎ (found ≢ None) → (r.left ≡ batches) ⊎ (left ≢ None)
  by (inl same) = inl same
  by (inr there) = inr (stays there)
still_goes batches head found left block place runner stays (inr w) = inr (record {
  name = w.name;
  number = w.number;
  statement = w.statement;
  replies = w.replies;
  left = w.left;
  now = w.now;
  started = w.started;
  blocks = w.blocks;
  heads = w.heads;
  commits = w.commits;
  is = w.is;
  answered = w.answered;
  fits = w.fits;
  later = w.later;
  leads = w.leads;
  starts = w.starts;
  are = w.are;
  same = w.same;
  stays = λ there. stays (w.stays there);
})

-- ---- BEGIN and COMMIT

module _ (made : TablesAreMade) (inserted : RowsAreInserted) (rewritten : RowsAreChanged) (meets : RowsMeet) (address : List ℕ → List ℕ) (epoch : ℤ)
    (batches : List Batch) (place : ℕ) (inside : place < 8) (begins : BeginsByMaking batches) (head : List ℕ) (found : Option (List Pair)) (blocks : ℕ → List Pair) (shared : Shared)
    (at_main : shared.branches ≡ main_at (working head found)) (rows_are : rows_in found ≡ whole blocks 0 8) (are : AreBlocks blocks) where
  makes_first : (batch : Batch) (left : List Batch) → (batch ∷ left ≡ batches) ⊎ (found ≢ None) → (batch.makes ≡ true) ⊎ (found ≢ None)
  makes_first batch left (inl same) = inl (subst BeginsByMaking (sym same) begins)
  makes_first batch left (inr there) = inr there

  begin_moves : (number : ℕ) (next : Shared × Runner) (name : List ℕ) (place_number statement : ℕ) (replies : List Reply) (left : List Batch)
      → list_all is_answered replies ≡ true → IsBlock place (blocks place ++ rows_of left) → Later place left → after_all left (blocks place) ≡ after_all batches [] → (left ≡ batches) ⊎ (found ≢ None)
      → step_of address epoch (nothing_refused place) number shared (standing name place_number statement None) replies (todo_of left) ≡ Some next → Moved batches head found blocks place next
  begin_moves number next name place_number statement replies [] answered fits later leads ready h = absurd (cc)
  begin_moves number next name place_number statement replies (batch ∷ left) answered fits later leads ready h =
      let todo : List Command = map command_of (made_steps batch.makes ++ row_steps batch.rows batch.changes left) in
      let t : Transaction = started_at shared (working head found) in
      let is = step_is address epoch place number shared (standing name place_number statement None) replies Begin todo
      (shared, Past (standing name place_number (statement + 1) (Some t), done)) next
      (begin_goes address epoch shared name place_number statement (working head found) at_main)
      (sym (ap (λ more. step_of address epoch (nothing_refused place) number shared (standing name place_number statement None) replies more) (batch_first batch left)) ∙ h) in
      let rest : Later place left = record {
        small = all_behind IsSmall batch.changes (changes_of left) later.small;
        own = all_behind (IsOwn place) batch.changes (changes_of left) later.own;
        full = later.full.1;
      } in
      subst (Moved batches head found blocks place) is (record {
        left = found;
        left_blocks = blocks;
        branches = at_main;
        rows = rows_are;
        are = are;
        others = λ p apart. refl;
        stays = λ there. there;
        goes = inr (through_making made inserted rewritten batches place inside head found (blocks place) name place_number left rest found blocks (map head_of shared.branches) shared.commits
            rows_are are refl (λ there. there) batch.makes batch.rows batch.changes (statement + 1) (replies ++ done ∷ []) (makes_first batch left ready) (all_append is_answered replies (done ∷ []) answered refl)
            (all_front IsSmall batch.changes (changes_of left) later.small) (all_front (IsOwn place) batch.changes (changes_of left) later.own) fits leads later.full.0);
      })

  commit_moves : (number : ℕ) (next : Shared × Runner) (runner : Runner) (w : Waits batches head found (blocks place) place runner)
      → step_of address epoch (nothing_refused place) number shared (standing w.name w.number w.statement (Some (begun_with head w.started w.heads w.commits (Some (whole (with_block place w.now w.blocks) 0 8)))))
      w.replies (CommitAll ∷ todo_of w.left) ≡ Some next
      → Moved batches head found blocks place next
  commit_moves number next runner w h =
      let t : Transaction = begun_with head w.started w.heads w.commits (Some (whole (with_block place w.now w.blocks) 0 8)) in
      let result : List Pair = whole (with_block place w.now blocks) 0 8 in
      let last : Shared = record { branches = main_at (working head (Some result)); commits = shared.commits; places = shared.places } in
      let is_block : IsBlock place w.now = block_front place w.now (rows_of w.left) w.fits in
      let decides = meets head w.started found (whole (with_block place w.now w.blocks) 0 8) result first_variables
      (they_meet place w.now w.blocks blocks w.are are is_block (sym w.same) w.started found w.starts rows_are w.stays) in
      let is = step_is address epoch place number shared (standing w.name w.number w.statement (Some t)) w.replies CommitAll (todo_of w.left)
      (last, Past (standing w.name w.number (w.statement + 1) None, done)) next
      (commit_goes address epoch shared w.name w.number w.statement t (working head found) (working head (Some result)) at_main decides) h in
      let rests : (block : List Pair) → w.now ≡ block
      → Rests batches (Some result) block place (advance (nothing_refused place) (todo_of w.left) (w.replies ++ done ∷ []) (standing w.name w.number (w.statement + 1) None))
      = λ block same. subst (λ b. Rests batches (Some result) b place (advance (nothing_refused place) (todo_of w.left) (w.replies ++ done ∷ []) (standing w.name w.number (w.statement + 1) None))) same (record {
        name = w.name;
        number = w.number;
        statement = w.statement + 1;
        replies = w.replies ++ done ∷ [];
        left = w.left;
        is = rest_stays place w.name w.number (w.statement + 1) (w.replies ++ done ∷ []) w.left;
        answered = all_append is_answered w.replies (done ∷ []) w.answered refl;
        fits = w.fits;
        later = w.later;
        leads = w.leads;
        ready = inr (λ never. absurd (cc));
      }) in
      subst (Moved batches head found blocks place) is (record {
        left = Some result;
        left_blocks = with_block place w.now blocks;
        branches = refl;
        rows = refl;
        are = blocks_with place w.now blocks is_block are;
        others = λ p apart. block_elsewhere place p w.now blocks apart;
        stays = λ there never. absurd (cc);
        goes = inl (rests (with_block place w.now blocks place) (sym (block_here place w.now blocks)));
      })

  pub moves : (number : ℕ) (next : Shared × Runner) (runner : Runner) → Goes batches head found (blocks place) place runner
      → step_of address epoch (nothing_refused place) number shared runner.session runner.replies runner.todo ≡ Some next → Moved batches head found blocks place next
  moves number next runner (inl r) h =
      begin_moves number next r.name r.number r.statement r.replies r.left r.answered r.fits r.later r.leads r.ready
      (sym (ap (λ (one : Runner). step_of address epoch (nothing_refused place) number shared one.session one.replies one.todo) r.is) ∙ h)
  moves number next runner (inr w) h =
      commit_moves number next runner w (sym (ap (λ (one : Runner). step_of address epoch (nothing_refused place) number shared one.session one.replies one.todo) w.is) ∙ h)
