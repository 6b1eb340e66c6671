-- One session's own way through its turns.
use Rattle.std.proofs.Common.{◌≡◌, ◌≢◌, refl, sym, ◌∙◌, ap, subst, ℕ, ℤ, ◌+◌, true, false, List, [], ◌∷◌, ◌++◌, length, Option, Some, None}
use Rattle.script_text.specs.Output.{Shortage, AtOnce, shortage}
use Rattle.script_text.specs.declared.replies.Reply.{Reply}
use Rattle.plain_sessions.specs.Records.{Shared}
use Rattle.plain_sessions.specs.Sessions.{Place, Said, Session, Transaction, is_before_statement}
use Rattle.plain_sessions.specs.declared.commands.Command.{Command}
use Rattle.plain_sessions.specs.declared.commands.Command.TheVariants.{Data}
use Rattle.plain_sessions.specs.declared.commands.Work.{Work}
use Rattle.plain_sessions.specs.Moments.{Past, Still, alone, moment_at}
use Rattle.plain_sessions.specs.Runs.{Runner, advance, awaiting, step_of}
use Rattle.run_laws.specs.Replaying.{AgreesWith, dropped, reply_of, seen}
use Rattle.run_laws.specs.Histories.{GoesTold, ToldTurn, Way}
use Rattle.run_laws.proofs.SeenLemmas.{seen_before}
use Rattle.run_laws.proofs.SessionLemmas.{Comes, agrees_unstarted, decision_back, decision_waits, dropped_back, dropped_stays, local_stays, moment_comes, moment_needed, moment_waits, start_back, start_comes, start_is_waited, start_needed}
use Rattle.run_laws.proofs.Steps.{behind_waits, step_of_waiting}

goes_on_told : {Words : Type 0} (Stands : Words → Shared → Type 0) (address : List ℕ → List ℕ) (epoch : ℤ) (answers : ℕ → Option Shortage) (runner next last : Runner) (told more : List (ToldTurn Words))
    → GoesTold Stands address epoch answers runner told next → GoesTold Stands address epoch answers next more last → GoesTold Stands address epoch answers runner (told ++ more) last
goes_on_told Stands address epoch answers runner next last [] more first second =
    subst (λ r. GoesTold Stands address epoch answers r more last) (sym first) second
goes_on_told Stands address epoch answers runner next last (one ∷ told) more (found, left, q, a, b, c, first) second =
    (found, left, q, a, b, c, goes_on_told Stands address epoch answers q next last told more first second)

module _ {Words : Type 0} (Stands : Words → Shared → Type 0) (address : List ℕ → List ℕ) (epoch : ℤ) (first : Session) (all : List Command) where
  pub way_first : is_before_statement first.place ≡ true → Way Stands address epoch first all [] (record { session = first; replies = []; todo = all })
  way_first before answers agrees = sym (seen_before answers first [] all before)

  -- without a moment, where the machine's view stays
  way_still : (told : List (ToldTurn Words)) (runner next : Runner) → ((answers : ℕ → Option Shortage) → AgreesWith answers next → AgreesWith answers runner)
      → ((answers : ℕ → Option Shortage) → AgreesWith answers next → seen answers runner ≡ seen answers next)
      → Way Stands address epoch first all told runner → Way Stands address epoch first all told next
  way_still told runner next back stays way answers agrees =
      subst (λ (r : Runner). GoesTold Stands address epoch answers (advance answers all [] first) told r) (stays answers agrees) (way answers (back answers agrees))

  -- with one moment of a session that waits for it
  way_turn : (told : List (ToldTurn Words)) (before behind : Words) (found left : Shared) (session : Session) (replies : List Reply) (command : Command) (todo : List Command) (next : Runner)
      → Stands before found → Stands behind left
      → ((answers : ℕ → Option Shortage) → AgreesWith answers next → AgreesWith answers (record { session = session; replies = replies; todo = command ∷ todo }))
      → ((answers : ℕ → Option Shortage) → AgreesWith answers next → seen answers (record { session = session; replies = replies; todo = command ∷ todo }) ≡ record { session = session; replies = replies; todo = command ∷ todo })
      → ((answers : ℕ → Option Shortage) → AgreesWith answers next → alone (answers session.statement) session command ≡ None)
      → ((answers : ℕ → Option Shortage) → AgreesWith answers next → Comes address epoch answers found session replies command todo left next)
      → Way Stands address epoch first all told (record { session = session; replies = replies; todo = command ∷ todo })
      → Way Stands address epoch first all (told ++ record { statement = session.statement; found = before; left = behind } ∷ []) next
  way_turn told before behind found left session replies command todo next found_stands left_stands back waits needs comes way answers agrees =
      let runner : Runner = record { session = session; replies = replies; todo = command ∷ todo } in
      let came = comes answers agrees in
      goes_on_told Stands address epoch answers (advance answers all [] first) (seen answers runner) (seen answers next) told (record { statement = session.statement; found = before; left = behind } ∷ [])
      (way answers (back answers agrees)) (
        found,
        left,
        seen answers next,
        found_stands,
        left_stands,
        ap (λ (r : Runner). step_of address epoch answers session.statement found r.session r.replies r.todo) (waits answers agrees)
            ∙ (step_of_waiting address epoch answers session.statement found session replies command todo (left, came.0) refl (needs answers agrees) came.1
            ∙ ap (λ (r : Runner). Some (left, r)) came.2),
        refl,
      )

  -- a statement without a moment
  pub way_local : (told : List (ToldTurn Words)) (session : Session) (replies : List Reply) (command : Command) (todo : List Command) (said : Said)
      → session.statement ≡ length replies + 1 → is_before_statement session.place ≡ true → alone (shortage said.1) session command ≡ Some said
      → Way Stands address epoch first all told (record { session = session; replies = replies; todo = command ∷ todo })
      → Way Stands address epoch first all told (record { session = said.0; replies = replies ++ said.1 ∷ []; todo = todo })
  way_local told session replies command todo said number before is =
      way_still told (record { session = session; replies = replies; todo = command ∷ todo }) (record { session = said.0; replies = replies ++ said.1 ∷ []; todo = todo })
      (λ answers agrees. agrees_unstarted answers session said.0 replies said.1 command todo before agrees)
      (λ answers agrees. local_stays answers session replies command todo said number before is agrees)

  -- an answer 2 or 3 in place of the decision
  pub way_dropped : (told : List (ToldTurn Words)) (session : Session) (replies : List Reply) (command : Command) (todo : List Command) (short : Shortage)
      → session.statement ≡ length replies + 1 → is_before_statement session.place ≡ false → short ≢ AtOnce
      → Way Stands address epoch first all told (record { session = session; replies = replies; todo = command ∷ todo })
      → Way Stands address epoch first all told (record { session = dropped session; replies = replies ++ reply_of short ∷ []; todo = todo })
  way_dropped told session replies command todo short number between other =
      way_still told (record { session = session; replies = replies; todo = command ∷ todo }) (record { session = dropped session; replies = replies ++ reply_of short ∷ []; todo = todo })
      (λ answers agrees. dropped_back answers session replies command todo short number other agrees)
      (λ answers agrees. dropped_stays answers session replies command todo short number between agrees)

  module _ (told : List (ToldTurn Words)) (before behind : Words) where
    -- a statement that is answered at one moment
    pub way_moment : (found left : Shared) (session : Session) (replies : List Reply) (command : Command) (todo : List Command) (said : Said) → Stands before found → Stands behind left
        → session.statement ≡ length replies + 1 → is_before_statement session.place ≡ true → alone (shortage said.1) session command ≡ None
        → moment_at address epoch (shortage said.1) found session command ≡ Some (left, Past said)
        → Way Stands address epoch first all told (record { session = session; replies = replies; todo = command ∷ todo })
        → Way Stands address epoch first all (told ++ record { statement = session.statement; found = before; left = behind } ∷ []) (record { session = said.0; replies = replies ++ said.1 ∷ []; todo = todo })
    way_moment found left session replies command todo said found_stands left_stands number unstarted waits is =
        way_turn told before behind found left session replies command todo (record { session = said.0; replies = replies ++ said.1 ∷ []; todo = todo }) found_stands left_stands
        (λ answers agrees. agrees_unstarted answers session said.0 replies said.1 command todo unstarted agrees)
        (λ answers agrees. moment_waits answers session replies command todo said number unstarted waits agrees)
        (λ answers agrees. moment_needed answers session replies command todo said number waits agrees)
        (λ answers agrees. moment_comes answers session replies command todo address epoch found left said number is agrees)

    -- the start of a database statement whose decision is to come
    pub way_start : (found : Shared) (session : Session) (replies : List Reply) (work : Work) (todo : List Command) (transaction : Transaction) (place : Place) → Stands before found → Stands behind found
        → is_before_statement session.place ≡ true → session.transaction ≡ None
        → moment_at address epoch None found session (Data work) ≡ Some (found, Still transaction place) → is_before_statement place ≡ false
        → Way Stands address epoch first all told (record { session = session; replies = replies; todo = Data work ∷ todo })
        → Way Stands address epoch first all (told ++ record { statement = session.statement; found = before; left = behind } ∷ []) (record { session = awaiting session transaction place; replies = replies; todo = Data work ∷ todo })
    way_start found session replies work todo transaction place found_stands left_stands unstarted none is between =
        way_turn told before behind found found session replies (Data work) todo (record { session = awaiting session transaction place; replies = replies; todo = Data work ∷ todo }) found_stands left_stands
        (λ answers agrees. start_back answers session replies work todo transaction place unstarted agrees)
        (λ answers agrees. start_is_waited answers session replies work todo transaction place unstarted none between agrees)
        (λ answers agrees. start_needed answers session replies work todo transaction place none between agrees)
        (λ answers agrees. start_comes answers session replies work todo transaction place address epoch found unstarted none is between agrees)

    -- the decision behind a start
    pub way_decision : (found left : Shared) (session : Session) (replies : List Reply) (command : Command) (todo : List Command) (said : Said) → Stands before found → Stands behind left
        → session.statement ≡ length replies + 1 → is_before_statement session.place ≡ false → shortage said.1 ≡ None
        → moment_at address epoch None found session command ≡ Some (left, Past said)
        → Way Stands address epoch first all told (record { session = session; replies = replies; todo = command ∷ todo })
        → Way Stands address epoch first all (told ++ record { statement = session.statement; found = before; left = behind } ∷ []) (record { session = said.0; replies = replies ++ said.1 ∷ []; todo = todo })
    way_decision found left session replies command todo said found_stands left_stands number between well is =
        way_turn told before behind found left session replies command todo (record { session = said.0; replies = replies ++ said.1 ∷ []; todo = todo }) found_stands left_stands
        (λ answers agrees. decision_back answers session replies command todo said number well agrees)
        (λ answers agrees. decision_waits answers session replies command todo said number between well agrees)
        (λ answers agrees. behind_waits (answers session.statement) session command between)
        (λ answers agrees. moment_comes answers session replies command todo address epoch found left said number
        (subst (λ answer. moment_at address epoch answer found session command ≡ Some (left, Past said)) (sym well) is) agrees)
