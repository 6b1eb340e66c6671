-- Steps on the list of branches, as the plain machine makes them.
use Rattle.std.proofs.Common.{◌≡◌, ◌≢◌, refl, sym, ap, ◌∙◌, subst, ℕ, zero, suc, ◌≤◌, ◌<◌, Bool, true, false, cond, not, ◌&&◌, ◌||◌, nat_le, List, [], ◌∷◌, filter, length, set, find, is_some, Option, Some, None, Ok, Err, option_map, arith}
use Rattle.std.specs.Prelude.{bytes_eq}
use Rattle.std.specs.List.{list_all, list_any}
use Rattle.std.specs.Ordering.{is_lt, is_eq, nat_cmp}
use Rattle.std.specs.Cmp.{IsTotalOrder}
use Rattle.std.specs.Cmp.Lexicographic.{bytes_decides, slice_cmp}
use Rattle.std.proofs.lemmas.Bool.{leb-false, leb-true}
use Rattle.std.proofs.lemmas.Cmp.{nat_list_cmp_total, on_total}
use Rattle.std.proofs.lemmas.Map.Text.{is_eq-slice_cmp}
use Rattle.tuple_codec.proofs.Lists.{filter_few as fewer_few}
use Rattle.tuple_codec.proofs.ByteLemmas.{bytes_turned as same_test}
use Rattle.tuple_codec.specs.declared.records.BranchRecord.{BranchRecord}
use Rattle.schema_model.specs.Limits.{most_branches}
use Rattle.schema_model.specs.PlainCommits.{Commits, is_known}
use Rattle.schema_model.specs.PlainTables.{rises}
use Rattle.chunk_store.specs.Chunks.{Chunk, chunk_bytes}
use Rattle.script_text.specs.declared.outputs.BranchLine.{BranchLine}
use Rattle.expr_eval.specs.Binding.{Outcome, and_then}
use Rattle.plain_sql.specs.Lists.{has, in_order, or_refuse, placed, unless}
use Rattle.plain_writes.proofs.InsertionLemmas.{both_so, clash, left_not, left_so, neither_so, placed_any, placed_length, placed_past, placed_rises, placed_stop, right_not, right_so, two}
use Rattle.plain_sessions.specs.Branching.{checkout_step, commit_named, create_branch, delete_branch, is_branch_there, is_checked_out, made_at, or_commit, placed_on, point_in, resolved}
use Rattle.plain_sessions.specs.Records.{Branch, BranchState, Shared, branch_cmp, clean_at, is_branch, root_of, state_of, with_branch, without_branch}
use Rattle.plain_sessions.specs.Sessions.{Head, Session, heads_in}
use Rattle.sql_procedures.specs.declared.requests.CheckoutRequest.TheVariants as checkout
use Rattle.table_root.specs.Names.{is_branch_name}
use Rattle.session_state.specs.Changes.{BranchStands, Paired, Parts, StateStands, lines_rise}
use Rattle.session_state.specs.Records.{RecordStands}
use Rattle.shared_db.specs.Shared.{is_line_of, record_at}
use Rattle.shared_db.specs.Stepping.{Ends, IsCleanAt, head_or_named, line_cmp, making, number_of, removing, without_line}
use Rattle.shared_db.specs.declared.changes.BranchReply.{BranchReply}
use Rattle.shared_db.specs.declared.changes.BranchReply.TheVariants as reply
use Rattle.shared_db.proofs.RiseLemmas.{fewer_rise, found_any, put_first}

line_total : IsTotalOrder line_cmp
line_total = on_total (λ (line : BranchLine). line.name) nat_list_cmp_total

branch_total : IsTotalOrder branch_cmp
branch_total = on_total (λ (branch : Branch). branch.name) nat_list_cmp_total

-- ---- lines, and the branches for which they stand

module _ (address : List ℕ → List ℕ) (chunks : List Chunk) (commits : Commits) where
  abbrev Stands : BranchLine → Branch → Type 0
  Stands line branch = BranchStands address chunks commits line branch

  abbrev Stand : List BranchLine → List Branch → Type 0
  Stand lines branches = Paired (BranchStands address chunks commits) lines branches

  pub as_many : (lines : List BranchLine) (branches : List Branch) → Stand lines branches → length lines ≡ length branches
  as_many [] [] stand = refl
  as_many [] (b ∷ branches) stand = absurd stand
  as_many (x ∷ lines) [] stand = absurd stand
  as_many (x ∷ lines) (b ∷ branches) stand = ap suc (as_many lines branches stand.1)

  pub there_in_both : (name : List ℕ) (lines : List BranchLine) (branches : List Branch) → Stand lines branches → list_any (is_line_of name) lines ≡ list_any (is_branch name) branches
  there_in_both name [] [] stand = refl
  there_in_both name [] (b ∷ branches) stand = absurd stand
  there_in_both name (x ∷ lines) [] stand = absurd stand
  there_in_both name (x ∷ lines) (b ∷ branches) stand = λ i. bytes_eq (stand.0.name i) name || there_in_both name lines branches stand.1 i

  pub commit_in_both : (name : List ℕ) (lines : List BranchLine) (branches : List Branch) → Stand lines branches
      → head_or_named commits name (record_at name lines) ≡ resolved (heads_in branches) commits name
  commit_in_both name [] [] stand = refl
  commit_in_both name [] (b ∷ branches) stand = absurd stand
  commit_in_both name (x ∷ lines) [] stand = absurd stand
  commit_in_both name (x ∷ lines) (b ∷ branches) stand =
      by (bytes_eq x.name name) (commit_in_both name lines branches stand.1)
      ∙ ap (λ n. or_commit commits name (cond (bytes_eq n name) (Some (record { name = b.name; commit = b.state.head })) (find (λ (head : Head). bytes_eq head.name name) (heads_in branches)))) stand.0.name
    where
      by : (t : Bool) → head_or_named commits name (record_at name lines) ≡ resolved (heads_in branches) commits name
          → head_or_named commits name (option_map (λ (line : BranchLine). line.rec) (cond t (Some x) (find (is_line_of name) lines)))
          ≡ or_commit commits name (cond t (Some (record { name = b.name; commit = b.state.head })) (find (λ (head : Head). bytes_eq head.name name) (heads_in branches)))
      by true rest = ap Some stand.0.stands.head
      by false rest = rest

  branches_rise : (lines : List BranchLine) (branches : List Branch) → Stand lines branches → lines_rise lines ≡ rises branch_cmp branches
  branches_rise [] [] stand = refl
  branches_rise [] (b ∷ branches) stand = absurd stand
  branches_rise (x ∷ lines) [] stand = absurd stand
  branches_rise (x ∷ []) (b ∷ []) stand = refl
  branches_rise (x ∷ []) (b ∷ c ∷ branches) stand = absurd stand.1
  branches_rise (x ∷ y ∷ lines) (b ∷ []) stand = absurd stand.1
  branches_rise (x ∷ y ∷ lines) (b ∷ c ∷ branches) stand =
      λ i. is_lt (slice_cmp nat_cmp (stand.0.name i) (stand.1.0.name i)) && branches_rise (y ∷ lines) (c ∷ branches) stand.1 i

  put_in_both : (line : BranchLine) (branch : Branch) (lines : List BranchLine) (branches : List Branch) → Stands line branch → Stand lines branches
      → Stand (placed line_cmp lines line) (placed branch_cmp branches branch)
  put_in_both line branch [] [] new stand = (new, tt)
  put_in_both line branch [] (b ∷ branches) new stand = absurd stand
  put_in_both line branch (x ∷ lines) [] new stand = absurd stand
  put_in_both line branch (x ∷ lines) (b ∷ branches) new stand =
      let same : is_lt (line_cmp line x) ≡ is_lt (branch_cmp branch b) = λ i. is_lt (slice_cmp nat_cmp (new.name i) (stand.0.name i)) in
      two (is_lt (line_cmp line x))
      (λ e. subst (λ l. Stand l (placed branch_cmp (b ∷ branches) branch)) (sym (placed_stop line_cmp line x lines e))
      (subst (λ l. Stand (line ∷ x ∷ lines) l) (sym (placed_stop branch_cmp branch b branches (sym same ∙ e))) (new, stand)))
      (λ e. subst (λ l. Stand l (placed branch_cmp (b ∷ branches) branch)) (sym (placed_past line_cmp line x lines e))
      (subst (λ l. Stand (x ∷ placed line_cmp lines line) l) (sym (placed_past branch_cmp branch b branches (sym same ∙ e))) (stand.0, put_in_both line branch lines branches new stand.1)))

  left_out_of_both : (name : List ℕ) (lines : List BranchLine) (branches : List Branch) → Stand lines branches → Stand (without_line name lines) (without_branch name branches)
  left_out_of_both name [] [] stand = tt
  left_out_of_both name [] (b ∷ branches) stand = absurd stand
  left_out_of_both name (x ∷ lines) [] stand = absurd stand
  left_out_of_both name (x ∷ lines) (b ∷ branches) stand =
      subst (λ n. Stand (without_line name (x ∷ lines)) (cond (not (bytes_eq n name)) (b ∷ without_branch name branches) (without_branch name branches))) stand.0.name
      (by (bytes_eq x.name name) (left_out_of_both name lines branches stand.1))
    where
      by : (t : Bool) → Stand (without_line name lines) (without_branch name branches)
          → Stand (cond (not t) (x ∷ without_line name lines) (without_line name lines)) (cond (not t) (b ∷ without_branch name branches) (without_branch name branches))
      by true rest = rest
      by false rest = (stand.0, rest)

-- ---- a name that is new

none_tied : (line : BranchLine) (lines : List BranchLine) → list_any (is_line_of line.name) lines ≡ false → has line_cmp lines line ≡ false
none_tied line [] e = refl
none_tied line (x ∷ lines) e = two (bytes_eq x.name line.name || list_any (is_line_of line.name) lines)
    (λ t. clash t e)
    (λ t. neither_so (is_eq-slice_cmp line.name x.name ∙ same_test line.name x.name ∙ left_not (bytes_eq x.name line.name) (list_any (is_line_of line.name) lines) e)
    (none_tied line lines (right_not (bytes_eq x.name line.name) (list_any (is_line_of line.name) lines) e)))

none_tied_branch : (branch : Branch) (branches : List Branch) → list_any (is_branch branch.name) branches ≡ false → has branch_cmp branches branch ≡ false
none_tied_branch branch [] e = refl
none_tied_branch branch (x ∷ branches) e =
    neither_so (is_eq-slice_cmp branch.name x.name ∙ same_test branch.name x.name ∙ left_not (bytes_eq x.name branch.name) (list_any (is_branch branch.name) branches) e)
    (none_tied_branch branch branches (right_not (bytes_eq x.name branch.name) (list_any (is_branch branch.name) branches) e))

none_without : (name : List ℕ) (branches : List Branch) → list_any (is_branch name) branches ≡ false → without_branch name branches ≡ branches
none_without name [] e = refl
none_without name (x ∷ branches) e =
    ap (λ b. cond (not b) (x ∷ without_branch name branches) (without_branch name branches)) (left_not (bytes_eq x.name name) (list_any (is_branch name) branches) e)
    ∙ ap (λ l. x ∷ l) (none_without name branches (right_not (bytes_eq x.name name) (list_any (is_branch name) branches) e))

put_new : (name : List ℕ) (state : BranchState) (branches : List Branch) → rises branch_cmp branches ≡ true → list_any (is_branch name) branches ≡ false
    → with_branch name state branches ≡ placed branch_cmp branches (record { name = name; state = state })
put_new name state branches rise new =
    let branch : Branch = record { name = name; state = state } in
    ap (λ l. in_order branch_cmp (branch ∷ l)) (none_without name branches new)
    ∙ put_first branch_cmp branch_total branch branches rise (none_tied_branch branch branches new)

-- ---- tests of each place

abbrev pub Implies : (List ℕ → Bool) → (List ℕ → Bool) → List (List ℕ) → Type 0
Implies p q [] = Unit {0}
Implies p q (x ∷ xs) = (p x ≡ true → q x ≡ true) × Implies p q xs

all_by : (p q : List ℕ → Bool) (xs : List (List ℕ)) → ((x : List ℕ) → p x ≡ true → q x ≡ true) → list_all p xs ≡ true → list_all q xs ≡ true
all_by p q [] so all = refl
all_by p q (x ∷ xs) so all = both_so (so x (left_so (p x) (list_all p xs) all)) (all_by p q xs so (right_so (p x) (list_all p xs) all))

all_set : (p : List ℕ → Bool) (x : List ℕ) (xs : List (List ℕ)) (at : ℕ) → p x ≡ true → list_all p xs ≡ true → list_all p (set xs at x) ≡ true
all_set p x [] at here all = refl
all_set p x (y ∷ xs) zero here all = both_so here (right_so (p y) (list_all p xs) all)
all_set p x (y ∷ xs) (suc at) here all = both_so (left_so (p y) (list_all p xs) all) (all_set p x xs at here (right_so (p y) (list_all p xs) all))

-- all but one are still there
all_others : (name : List ℕ) (p q : List ℕ → Bool) (xs : List (List ℕ)) → ((x : List ℕ) → bytes_eq name x ≡ false → p x ≡ true → q x ≡ true) → list_any (bytes_eq name) xs ≡ false
    → list_all p xs ≡ true → list_all q xs ≡ true
all_others name p q [] so none all = refl
all_others name p q (x ∷ xs) so none all =
    both_so (so x (left_not (bytes_eq name x) (list_any (bytes_eq name) xs) none) (left_so (p x) (list_all p xs) all))
    (all_others name p q xs so (right_not (bytes_eq name x) (list_any (bytes_eq name) xs) none) (right_so (p x) (list_all p xs) all))

there_is : (branches : List Branch) (name : List ℕ) → is_some (state_of branches name) ≡ list_any (is_branch name) branches
there_is branches name = some_mapped (find (is_branch name) branches) ∙ found_any (is_branch name) branches where
  some_mapped : (o : Option Branch) → is_some (option_map (λ (branch : Branch). branch.state) o) ≡ is_some o
  some_mapped None = refl
  some_mapped (Some branch) = refl

line_there_is : (lines : List BranchLine) (name : List ℕ) → is_some (record_at name lines) ≡ list_any (is_line_of name) lines
line_there_is lines name = some_mapped (find (is_line_of name) lines) ∙ found_any (is_line_of name) lines where
  some_mapped : (o : Option BranchLine) → is_some (option_map (λ (line : BranchLine). line.rec) o) ≡ is_some o
  some_mapped None = refl
  some_mapped (Some line) = refl

still_any : (name other : List ℕ) (branches : List Branch) → bytes_eq name other ≡ false → list_any (is_branch other) branches ≡ true → list_any (is_branch other) (without_branch name branches) ≡ true
still_any name other [] apart there = there
still_any name other (x ∷ branches) apart there = two (bytes_eq x.name name)
    (λ e. ap (λ b. list_any (is_branch other) (cond (not b) (x ∷ without_branch name branches) (without_branch name branches))) e
    ∙ still_any name other branches apart (sym (ap (λ b. b || list_any (is_branch other) branches) (ap (λ n. bytes_eq n other) ((bytes_decides x.name name).0 e) ∙ apart)) ∙ there))
    (λ e. ap (λ b. list_any (is_branch other) (cond (not b) (x ∷ without_branch name branches) (without_branch name branches))) e
    ∙ by (bytes_eq x.name other) (still_any name other branches apart) there)
  where
    by : (t : Bool) → (list_any (is_branch other) branches ≡ true → list_any (is_branch other) (without_branch name branches) ≡ true)
        → (t || list_any (is_branch other) branches) ≡ true → (t || list_any (is_branch other) (without_branch name branches)) ≡ true
    by true rest there = refl
    by false rest there = rest there

-- ---- states

pub restated : (address : List ℕ → List ℕ) (old new : Parts) (shared : Shared) → StateStands address old shared → new.branches ≡ old.branches → new.places ≡ old.places → new.chunks ≡ old.chunks
    → StateStands address new shared
restated address old new shared s branches places chunks =
    subst (λ parts. StateStands address parts shared)
    (λ i. record { branches = sym branches i; places = sym places i; numbers = new.numbers; moments = new.moments; chunks = sym chunks i })
    (record { branches = s.branches; rise = s.rise; few = s.few; places = s.places; placed = s.placed; commits = s.commits; named = s.named; single = s.single })

module _ (address : List ℕ → List ℕ) (old : Parts) (shared : Shared) (stands : StateStands address old shared) where
  pub there_same : (name : List ℕ) → is_some (record_at name old.branches) ≡ is_branch_there shared name
  there_same name =
      line_there_is old.branches name ∙ there_in_both address old.chunks shared.commits name old.branches shared.branches stands.branches ∙ sym (there_is shared.branches name)

  count_same : length old.branches ≡ length shared.branches
  count_same = as_many address old.chunks shared.commits old.branches shared.branches stands.branches

  -- ---- made

  abbrev state_at : List ℕ → BranchState
  state_at k = clean_at k (root_of shared.commits k)

  abbrev made : List ℕ → List ℕ → Shared
  made name k = record shared { branches = with_branch name (state_at k) shared.branches }

  module _ (name k : List ℕ) (rec : BranchRecord) (form : is_branch_name name ≡ true) (at : RecordStands address (chunk_bytes old.chunks) shared.commits rec (state_at k)) where
    abbrev line : BranchLine
    line = record { name = name; rec = rec }

    abbrev branch : Branch
    branch = record { name = name; state = state_at k }

    module _ (new : is_some (record_at name old.branches) ≡ false) (few : nat_le most_branches (length old.branches) ≡ false) where
      new_line : list_any (is_line_of name) old.branches ≡ false
      new_line = sym (line_there_is old.branches name) ∙ new

      new_branch : list_any (is_branch name) shared.branches ≡ false
      new_branch = sym (there_in_both address old.chunks shared.commits name old.branches shared.branches stands.branches) ∙ new_line

      put : with_branch name (state_at k) shared.branches ≡ placed branch_cmp shared.branches branch
      put = put_new name (state_at k) shared.branches (sym (branches_rise address old.chunks shared.commits old.branches shared.branches stands.branches) ∙ stands.rise) new_branch

      still_there : (n : List ℕ) → is_branch_there shared n ≡ true → is_branch_there (made name k) n ≡ true
      still_there n there =
          there_is (with_branch name (state_at k) shared.branches) n ∙ ap (list_any (is_branch n)) put ∙ placed_any branch_cmp (is_branch n) branch shared.branches
          ∙ ap (λ b. is_branch n branch || b) (sym (there_is shared.branches n) ∙ there) ∙ or_true (is_branch n branch)
        where
          or_true : (b : Bool) → (b || true) ≡ true
          or_true true = refl
          or_true false = refl

      made_stands : (after : Parts) → after.branches ≡ placed line_cmp old.branches line → after.places ≡ old.places → after.chunks ≡ old.chunks → StateStands address after (made name k)
      made_stands after branches places chunks =
          restated address (record old { branches = placed line_cmp old.branches line }) after (made name k) (record {
            branches = subst (λ l. Paired (BranchStands address old.chunks shared.commits) (placed line_cmp old.branches line) l) (sym put)
                (put_in_both address old.chunks shared.commits line branch old.branches shared.branches (record { name = refl; form = form; stands = at }) stands.branches);
            rise = placed_rises line_cmp line_total line old.branches stands.rise (none_tied line old.branches new_line);
            few = subst (λ n. n ≤ most_branches) (sym (placed_length line_cmp line old.branches)) (let less = leb-false most_branches (length old.branches) few in omega (arith, less));
            places = stands.places;
            placed = all_by (is_branch_there shared) (is_branch_there (made name k)) shared.places still_there stands.placed;
            commits = stands.commits;
            named = stands.named;
            single = stands.single;
          }) branches places chunks

    abbrev late : Outcome Shared
    late = unless (nat_le most_branches (length shared.branches)) 9010 (Ok (made name k))

    make_ends : (answer : BranchReply) (after : Parts) → answer ≡ making name old.branches → (answer ≡ reply.Done → after.branches ≡ placed line_cmp old.branches line)
        → after.places ≡ old.places → after.chunks ≡ old.chunks → Ends address (made_at shared name k) answer after
    make_ends answer after is done places chunks = two (is_some (record_at name old.branches))
        (λ e. subst (λ b. Ends address (unless b 9005 late) answer after) (sym (sym (there_same name) ∙ e))
        (ap number_of (is ∙ ap (λ b. cond b reply.Exists (cond (nat_le most_branches (length old.branches)) reply.Full reply.Done)) e)))
        (λ e. subst (λ b. Ends address (unless b 9005 late) answer after) (sym (sym (there_same name) ∙ e))
        (subst (λ n. Ends address (unless (nat_le most_branches n) 9010 (Ok (made name k))) answer after) count_same
        (two (nat_le most_branches (length old.branches))
        (λ f. subst (λ b. Ends address (unless b 9010 (Ok (made name k))) answer after) (sym f)
        (ap number_of (is ∙ ap (λ b. cond b reply.Exists (cond (nat_le most_branches (length old.branches)) reply.Full reply.Done)) e ∙ ap (λ b. cond b reply.Full reply.Done) f)))
        (λ f.
        let well : answer ≡ reply.Done = is ∙ ap (λ b. cond b reply.Exists (cond (nat_le most_branches (length old.branches)) reply.Full reply.Done)) e ∙ ap (λ b. cond b reply.Full reply.Done) f in
        subst (λ b. Ends address (unless b 9010 (Ok (made name k))) answer after) (sym f) (well, made_stands e f after (done well) places chunks)))))

  pub made_at_point : (name : List ℕ) (point : Option (List ℕ)) (rec : BranchRecord) (answer : BranchReply) (after : Parts) → is_branch_name name ≡ true
      → IsCleanAt address (chunk_bytes old.chunks) shared.commits point (Some rec) → answer ≡ making name old.branches
      → (answer ≡ reply.Done → after.branches ≡ placed line_cmp old.branches (record { name = name; rec = rec })) → after.places ≡ old.places → after.chunks ≡ old.chunks
      → Ends address (and_then (or_refuse 9004 point) (made_at shared name)) answer after
  made_at_point name (Some k) rec answer after form at is done places chunks = make_ends name k rec form at answer after is done places chunks
  made_at_point name None rec answer after form at is done places chunks = absurd at

  pub no_point : (name : List ℕ) (point : Option (List ℕ)) (after : Parts) → IsCleanAt address (chunk_bytes old.chunks) shared.commits point None
      → Ends address (and_then (or_refuse 9004 point) (made_at shared name)) reply.NoSuch after
  no_point name (Some k) after at = absurd at
  no_point name None after at = refl

  -- ---- removed

  abbrev removed : List ℕ → Shared
  removed name = record shared { branches = without_branch name shared.branches }

  module _ (name : List ℕ) (free : list_any (bytes_eq name) old.places ≡ false) where
    others_there : (n : List ℕ) → bytes_eq name n ≡ false → is_branch_there shared n ≡ true → is_branch_there (removed name) n ≡ true
    others_there n apart there = there_is (without_branch name shared.branches) n ∙ still_any name n shared.branches apart (sym (there_is shared.branches n) ∙ there)

    removed_stands : (after : Parts) → after.branches ≡ without_line name old.branches → after.places ≡ old.places → after.chunks ≡ old.chunks → StateStands address after (removed name)
    removed_stands after branches places chunks =
        restated address (record old { branches = without_line name old.branches }) after (removed name) (record {
          branches = left_out_of_both address old.chunks shared.commits name old.branches shared.branches stands.branches;
          rise = fewer_rise line_cmp line_total (λ line. not (is_line_of name line)) old.branches stands.rise;
          few = (let fewer = fewer_few (λ line. not (is_line_of name line)) old.branches in omega (arith, fewer, stands.few));
          places = stands.places;
          placed = all_others name (is_branch_there shared) (is_branch_there (removed name)) shared.places others_there (sym (ap (list_any (bytes_eq name)) stands.places) ∙ free) stands.placed;
          commits = stands.commits;
          named = stands.named;
          single = stands.single;
        }) branches places chunks

  abbrev if_free : List ℕ → Outcome Shared
  if_free name = unless (is_checked_out shared name) 9014 (Ok (removed name))

  pub remove_ends : (name : List ℕ) (answer : BranchReply) (after : Parts) → answer ≡ removing name old.branches old.places → (answer ≡ reply.Done → after.branches ≡ without_line name old.branches)
      → after.places ≡ old.places → after.chunks ≡ old.chunks → Ends address (delete_branch shared name) answer after
  remove_ends name answer after is done places chunks = two (is_some (record_at name old.branches))
      (λ e. subst (λ b. Ends address (unless (not b) 9004 (if_free name)) answer after) (sym (sym (there_same name) ∙ e))
      (subst (λ l. Ends address (unless (list_any (bytes_eq name) l) 9014 (Ok (removed name))) answer after) stands.places
      (two (list_any (bytes_eq name) old.places)
      (λ f. subst (λ b. Ends address (unless b 9014 (Ok (removed name))) answer after) (sym f) (ap number_of (found e ∙ ap (λ b. cond b reply.CheckedOut reply.Done) f)))
      (λ f. let well : answer ≡ reply.Done = found e ∙ ap (λ b. cond b reply.CheckedOut reply.Done) f in
      subst (λ b. Ends address (unless b 9014 (Ok (removed name))) answer after) (sym f) (well, removed_stands name f after (done well) places chunks)))))
      (λ e. subst (λ b. Ends address (unless (not b) 9004 (if_free name)) answer after) (sym (sym (there_same name) ∙ e))
      (ap number_of (is ∙ ap (λ b. cond (not b) reply.NoSuch (cond (list_any (bytes_eq name) old.places) reply.CheckedOut reply.Done)) e)))
    where
      found : is_some (record_at name old.branches) ≡ true → answer ≡ cond (list_any (bytes_eq name) old.places) reply.CheckedOut reply.Done
      found e = is ∙ ap (λ b. cond (not b) reply.NoSuch (cond (list_any (bytes_eq name) old.places) reply.CheckedOut reply.Done)) e

  -- ---- checked out

  module _ (number : ℕ) (session : Session) (same : session.number ≡ number) (name : List ℕ) where
    pub moved_stands : (after : Parts) → is_some (record_at name old.branches) ≡ true → after.branches ≡ old.branches → after.places ≡ set old.places number name → after.chunks ≡ old.chunks
        → StateStands address after (placed_on session name shared)
    moved_stands after there branches places chunks =
        restated address (record old { places = set shared.places session.number name }) after (placed_on session name shared) (record {
          branches = stands.branches;
          rise = stands.rise;
          few = stands.few;
          places = refl;
          placed = all_set (is_branch_there shared) name shared.places session.number (sym (there_same name) ∙ there) stands.placed;
          commits = stands.commits;
          named = stands.named;
          single = stands.single;
        }) branches (places ∙ (λ i. set (stands.places i) (sym same i) name)) chunks

    pub check_out_ends : (answer : BranchReply) (after : Parts) → answer ≡ cond (is_some (record_at name old.branches)) reply.Done reply.NoSuch
        → (answer ≡ reply.Done → after.places ≡ set old.places number name) → after.branches ≡ old.branches → after.chunks ≡ old.chunks
        → Ends address (checkout_step shared session (checkout.Existing name)) answer after
    check_out_ends answer after is done branches chunks = two (is_some (record_at name old.branches))
        (λ e. let well : answer ≡ reply.Done = is ∙ ap (λ b. cond b reply.Done reply.NoSuch) e in
        subst (λ b. Ends address (unless (not b) 9004 (Ok (placed_on session name shared))) answer after) (sym (sym (there_same name) ∙ e))
        (well, moved_stands after e branches (done well) chunks))
        (λ e. subst (λ b. Ends address (unless (not b) 9004 (Ok (placed_on session name shared))) answer after) (sym (sym (there_same name) ∙ e))
        (ap number_of (is ∙ ap (λ b. cond b reply.Done reply.NoSuch) e)))

pub ends_restated : (address : List ℕ → List ℕ) (outcome : Outcome Shared) (answer : BranchReply) (old new : Parts) → Ends address outcome answer old → new.branches ≡ old.branches → new.places ≡ old.places
    → new.chunks ≡ old.chunks → Ends address outcome answer new
ends_restated address (Ok left) answer old new ends branches places chunks = (ends.0, restated address old new left ends.1 branches places chunks)
ends_restated address (Err number) answer old new ends branches places chunks = ends

-- what follows a branch made
pub then_moved : (address : List ℕ → List ℕ) (number : ℕ) (session : Session) → session.number ≡ number → (name : List ℕ) (outcome : Outcome Shared) (answer : BranchReply) (middle after : Parts)
    → Ends address outcome answer middle → (answer ≡ reply.Done → is_some (record_at name middle.branches) ≡ true) → after.branches ≡ middle.branches
    → (answer ≡ reply.Done → after.places ≡ set middle.places number name) → after.chunks ≡ middle.chunks
    → Ends address (and_then outcome (λ made. Ok (placed_on session name made))) answer after
then_moved address number session same name (Ok left) answer middle after ends there branches places chunks =
    (ends.0, moved_stands address middle left ends.1 number session same name after (there ends.0) branches (places ends.0) chunks)
then_moved address number session same name (Err refusal) answer middle after ends there branches places chunks = ends

pub there_when_put : (name : List ℕ) (rec : BranchRecord) (lines after : List BranchLine) → after ≡ placed line_cmp lines (record { name = name; rec = rec }) → is_some (record_at name after) ≡ true
there_when_put name rec lines after is =
    line_there_is after name ∙ ap (list_any (is_line_of name)) is ∙ placed_any line_cmp (is_line_of name) (record { name = name; rec = rec }) lines
    ∙ ap (λ b. b || list_any (is_line_of name) lines) ((bytes_decides name name).1 refl)

-- ---- lists after a step, done or not

pub either_list : (P : List BranchLine → Type 0) (answer : BranchReply) (new kept after : List BranchLine) → (answer ≡ reply.Done → after ≡ new) → (answer ≢ reply.Done → after ≡ kept)
    → (answer ≡ reply.Done → P new) → P kept → P after
either_list P reply.Done new kept after done same well rest = subst P (sym (done refl)) (well refl)
either_list P reply.NoSuch new kept after done same well rest = subst P (sym (same (λ e. absurd (cc)))) rest
either_list P reply.Exists new kept after done same well rest = subst P (sym (same (λ e. absurd (cc)))) rest
either_list P reply.Full new kept after done same well rest = subst P (sym (same (λ e. absurd (cc)))) rest
either_list P reply.CheckedOut new kept after done same well rest = subst P (sym (same (λ e. absurd (cc)))) rest

abbrev Rises : List BranchLine → Type 0
Rises lines = lines_rise lines ≡ true

pub fewer_lines_rise : (name : List ℕ) (lines after : List BranchLine) (answer : BranchReply) → (answer ≡ reply.Done → after ≡ without_line name lines) → (answer ≢ reply.Done → after ≡ lines)
    → lines_rise lines ≡ true → lines_rise after ≡ true
fewer_lines_rise name lines after answer done same rise =
    either_list Rises answer (without_line name lines) lines after done same (λ e. fewer_rise line_cmp line_total (λ line. not (is_line_of name line)) lines rise) rise

new_when_made : (name : List ℕ) (lines : List BranchLine) → making name lines ≡ reply.Done → is_some (record_at name lines) ≡ false
new_when_made name lines e = two (is_some (record_at name lines))
    (λ t. let bad : ◌≡◌ {A = BranchReply} reply.Exists reply.Done = sym (ap (λ b. cond b reply.Exists (cond (nat_le most_branches (length lines)) reply.Full reply.Done)) t) ∙ e in absurd (cc))
    (λ t. t)

pub more_lines_rise : (name : List ℕ) (rec : BranchRecord) (lines after : List BranchLine) (answer : BranchReply) → answer ≡ making name lines
    → (answer ≡ reply.Done → after ≡ placed line_cmp lines (record { name = name; rec = rec })) → (answer ≢ reply.Done → after ≡ lines) → lines_rise lines ≡ true → lines_rise after ≡ true
more_lines_rise name rec lines after answer is done same rise =
    let line : BranchLine = record { name = name; rec = rec } in
    either_list Rises answer (placed line_cmp lines line) lines after done same
    (λ e. placed_rises line_cmp line_total line lines rise (none_tied line lines (sym (line_there_is lines name) ∙ new_when_made name lines (sym is ∙ e)))) rise
