-- Where no statement was refused, the plain machine's law of the workload tells the rows and the address.
use Rattle.std.proofs.Common.{◌≡◌, refl, sym, ap, ◌∙◌, subst, ℕ, ℤ, zero, suc, ◌+◌, ◌-◌, Bool, true, false, cond, not, List, [], ◌∷◌, length, map, sum, filter, find, Option, None, Some, arith}
use Rattle.std.specs.List.{AllByRecursion, list_all, list_any}
use Rattle.std.specs.Prelude.{bytes_eq, codes, slice_get, slice_index_or}
use Rattle.std.specs.Option.{option_and_then, option_map, option_map_or}
use Rattle.std.proofs.lemmas.Bool.{and_parts as both}
use Rattle.tuple_codec.proofs.Options.{none_so, some_is}
use Rattle.tuple_codec.proofs.Truths.{left_not, right_not}
use Rattle.tuple_codec.specs.AddressTexts.{address_text}
use Rattle.schema_model.specs.PlainTables.{NamedTable, PlainDatabase}
use Rattle.schema_model.specs.WrittenForms.{database_address}
use Rattle.script_text.specs.Output.{Shortage, shortage, shortages_in}
use Rattle.script_text.specs.declared.outputs.BranchLine.{BranchLine}
use Rattle.script_text.specs.declared.outputs.RunText.{RunText}
use Rattle.script_text.specs.declared.replies.Reply.{Reply}
use Rattle.script_text.specs.declared.replies.Reply.TheVariants as print
use Rattle.script_text.specs.declared.scripts.Moment.{Moment}
use Rattle.plain_sessions.specs.Commands.{command}
use Rattle.plain_sessions.specs.Output.{shown, shown_branch}
use Rattle.plain_sessions.specs.Records.{Branch, BranchState, Shared, is_branch, state_of}
use Rattle.plain_sessions.specs.Replies.{is_refusal}
use Rattle.plain_sessions.specs.Runs.{Runner, Shortages, State, nothing_refused, plain_run}
use Rattle.workload.specs.Workload.{workload}
use Rattle.load_laws.specs.Laws.{IsLoadedState, LoadEnds, TableIsFull, is_answered}
use Rattle.load_laws.specs.Loaded.{loaded}
use Rattle.script_run.proofs.CountLemmas.{sum_cons}
use Rattle.program_run.specs.Loading.{IsFull, is_main, is_short, load_rows_in, refusals_in, rows_in, some_are_short, working_in}

-- ---- no reply is a refusal, so none tells a want of memory or a collision

none_left : (a b : ℕ) → a + b ≡ 0 → (a ≡ 0) × (b ≡ 0)
none_left a b none = (omega arith, omega arith)

none_together : {a b : ℕ} → a ≡ 0 → b ≡ 0 → a + b ≡ 0
none_together here others = omega arith

answered_none : (reply : Reply) → is_refusal reply ≡ false → shortage reply ≡ None
answered_none print.Done is = refl
answered_none (print.Count rows) is = refl
answered_none (print.Rows answer) is = refl
answered_none (print.Refused number) is = absurd (cc)
answered_none (print.Syntax place) is = refl
answered_none (print.Collided clash) is = absurd (cc)

-- of one session
none_among : (replies : List Reply) → length (filter is_refusal replies) ≡ 0 → (place : ℕ) → option_and_then shortage (slice_get replies place) ≡ None
none_among [] none place = refl
none_among (reply ∷ replies) none place = by_test (is_refusal reply) refl none place (none_among replies)
  where
    by_test : (test : Bool) → is_refusal reply ≡ test → length (cond test (reply ∷ filter is_refusal replies) (filter is_refusal replies)) ≡ 0 → (place : ℕ)
        → (length (filter is_refusal replies) ≡ 0 → (later : ℕ) → option_and_then shortage (slice_get replies later) ≡ None)
        → option_and_then shortage (slice_get (reply ∷ replies) place) ≡ None
    by_test true is none place others = absurd (cc)
    by_test false is none zero others = answered_none reply is
    by_test false is none (suc place) others = others none place

-- of the first session, and of the others
none_apart : (here : List Reply) (replies : List (List Reply)) → refusals_in (here ∷ replies) ≡ 0 → (length (filter is_refusal here) ≡ 0) × (refusals_in replies ≡ 0)
none_apart here replies none =
    none_left (length (filter is_refusal here)) (refusals_in replies)
    (sym (sum_cons (length (filter is_refusal here)) (map (λ (one : List Reply). length (filter is_refusal one)) replies)) ∙ none)

none_of : (replies : List (List Reply)) → refusals_in replies ≡ 0 → (session : ℕ) → length (filter is_refusal (slice_index_or replies session [])) ≡ 0
none_of [] none session = refl
none_of (here ∷ replies) none zero = (none_apart here replies none).0
none_of (here ∷ replies) none (suc session) = none_of replies (none_apart here replies none).1 session

none_short : (replies : List (List Reply)) → refusals_in replies ≡ 0 → shortages_in replies ≡ nothing_refused
none_short replies none i session statement = none_among (slice_index_or replies session []) (none_of replies none session) (statement - 1) i

-- ---- none tells a want of memory or a collision, so no reply is a refusal

quiet_at : (replies : List Reply) → list_any is_short replies ≡ false → (place : ℕ) → option_and_then shortage (slice_get replies place) ≡ None
quiet_at [] quiet place = refl
quiet_at (reply ∷ replies) quiet zero = none_so (shortage reply) (left_not (is_short reply) (list_any is_short replies) quiet)
quiet_at (reply ∷ replies) quiet (suc place) = quiet_at replies (right_not (is_short reply) (list_any is_short replies) quiet) place

quiet_in : (replies : List (List Reply)) → some_are_short replies ≡ false → (session : ℕ) → list_any is_short (slice_index_or replies session []) ≡ false
quiet_in [] quiet session = refl
quiet_in (here ∷ replies) quiet zero = left_not (list_any is_short here) (some_are_short replies) quiet
quiet_in (here ∷ replies) quiet (suc session) = quiet_in replies (right_not (list_any is_short here) (some_are_short replies) quiet) session

quiet_short : (replies : List (List Reply)) → some_are_short replies ≡ false → shortages_in replies ≡ nothing_refused
quiet_short replies quiet i session statement = quiet_at (slice_index_or replies session []) (quiet_in replies quiet session) (statement - 1) i

all_answered : (replies : List Reply) → list_all is_answered replies ≡ true → length (filter is_refusal replies) ≡ 0
all_answered [] all = refl
all_answered (reply ∷ replies) all =
    let parts = both (is_answered reply) (list_all is_answered replies) all in
    by_test (is_refusal reply) parts.0 (all_answered replies parts.1)
  where
    by_test : (test : Bool) → not test ≡ true → length (filter is_refusal replies) ≡ 0 → length (cond test (reply ∷ filter is_refusal replies) (filter is_refusal replies)) ≡ 0
    by_test true is others = absurd (cc)
    by_test false is others = others

none_refused : (runners : List Runner) → AllByRecursion (λ (runner : Runner). list_all is_answered runner.replies ≡ true) runners
    → refusals_in (map (λ (runner : Runner). runner.replies) runners) ≡ 0
none_refused [] all = refl
none_refused (runner ∷ runners) all =
    let here : length (filter is_refusal runner.replies) ≡ 0 = all_answered runner.replies all.0 in
    let others : refusals_in (map (λ (one : Runner). one.replies) runners) ≡ 0 = none_refused runners all.1 in
    sum_cons (length (filter is_refusal runner.replies)) (map (λ (session : List Reply). length (filter is_refusal session)) (map (λ (one : Runner). one.replies) runners))
    ∙ none_together here others

-- ---- what the state at the end shows

module _ (seed : ℕ) where
  abbrev last : NamedTable
  last = record { name = codes "load_rows"; table = loaded seed }

  abbrev database_in : Option BranchState → Option PlainDatabase
  database_in found = option_map (λ (state : BranchState). state.working) found

  all_rows : TableIsFull → (found : Option BranchState) → database_in found ≡ Some (last ∷ []) → option_map_or (λ (state : BranchState). load_rows_in state.working) found 0 ≡ 4000
  all_rows full None is = absurd (cc)
  all_rows full (Some state) is = ap load_rows_in (some_is state.working (last ∷ []) is) ∙ full seed

  -- the line of a branch is found where the branch is
  line_found : (address : List ℕ → List ℕ) (branches : List Branch)
      → find is_main (map (shown_branch address) branches) ≡ option_map (shown_branch address) (find (is_branch (codes "main")) branches)
  line_found address [] = refl
  line_found address (branch ∷ branches) = by_test (is_branch (codes "main") branch) (line_found address branches)
    where
      by_test : (test : Bool) → find is_main (map (shown_branch address) branches) ≡ option_map (shown_branch address) (find (is_branch (codes "main")) branches)
          → cond test (Some (shown_branch address branch)) (find is_main (map (shown_branch address) branches))
          ≡ option_map (shown_branch address) (cond test (Some branch) (find (is_branch (codes "main")) branches))
      by_test true others = refl
      by_test false others = others

  works_at : (address : List ℕ → List ℕ) (found : Option Branch) → database_in (option_map (λ (branch : Branch). branch.state) found) ≡ Some (last ∷ [])
      → option_map_or (λ (line : BranchLine). address_text line.rec.working.0) (option_map (shown_branch address) found) [] ≡ address_text (database_address address (last ∷ []))
  works_at address None is = absurd (cc)
  works_at address (Some branch) is = ap (λ (database : PlainDatabase). address_text (database_address address database)) (some_is branch.state.working (last ∷ []) is)

-- ---- the run

module _ (ends : LoadEnds) (address : List ℕ → List ℕ) (epoch : ℤ) (seed : ℕ) (run : RunText) (state : State)
    (ran : plain_run command address (workload seed) run.order (shortages_in run.replies) epoch ≡ Some state) (shows : shown address (workload seed) run.order state ≡ run) where
  ends_loaded : shortages_in run.replies ≡ nothing_refused → IsLoadedState seed state
  ends_loaded none =
      ends address epoch seed run.order state (subst (λ (answers : Shortages). plain_run command address (workload seed) run.order answers epoch ≡ Some state) none ran)

  pub refused_by_cause : some_are_short run.replies ≡ false → refusals_in run.replies ≡ 0
  refused_by_cause quiet =
      ap (λ (r : RunText). refusals_in r.replies) (sym shows) ∙ none_refused state.runners (ends_loaded (quiet_short run.replies quiet)).answered

  pub all_is_there : TableIsFull → (rows : ℕ) → rows ≡ rows_in state.shared → refusals_in run.replies ≡ 0 → IsFull address seed run rows
  all_is_there full rows counted none =
      let over : IsLoadedState seed state = ends_loaded (none_short run.replies none) in
      record {
        rows_are = counted ∙ all_rows seed full (state_of state.shared.branches (codes "main")) over.table;
        works =
            ap (λ (r : RunText). working_in r.branches) (sym shows)
            ∙ ap (λ (line : Option BranchLine). option_map_or (λ (l : BranchLine). address_text l.rec.working.0) line []) (line_found seed address state.shared.branches)
            ∙ works_at seed address (find (is_branch (codes "main")) state.shared.branches) over.table;
      }
