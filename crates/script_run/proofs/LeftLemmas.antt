-- How many moments are left to one session along a given order, and how it goes further on.
use Rattle.std.proofs.Common.{◌≡◌, ◌≢◌, refl, sym, ◌∙◌, ap, subst, ℕ, ℤ, ◌+◌, ◌-◌, ◌<◌, ◌≤◌, ◌==◌, Bool, true, false, ◌&&◌, not, List, [], ◌∷◌, ◌++◌, length, arith, if◌then◌else◌}
use Rattle.std.proofs.lemmas.List.{length-append}
use Rattle.std.proofs.lemmas.Bool.Decides.{nat_tests}
use Rattle.tuple_codec.proofs.Truths.{if_true}
use Rattle.script_text.specs.declared.replies.Reply.{Reply}
use Rattle.plain_sessions.specs.Records.{Shared}
use Rattle.plain_sessions.specs.Runs.{Runner}
use Rattle.plain_sessions.specs.declared.commands.Command.{Command}
use Rattle.run_laws.proofs.ListLemmas.{if_false}
use Rattle.session_state.specs.Changes.{Parts}
use Rattle.serving.specs.Steps.{number_at}
use Rattle.serving.specs.declared.meeting.Pending.{Pending}
use Rattle.script_run.specs.Following as going
use Rattle.script_run.specs.Following.{IsFurther, IsLed, IsPlayer, is_free, is_next_at, is_settled, moments_left, starts_made}
use Rattle.script_run.specs.declared.players.Player.{Player}
use Rattle.script_run.specs.declared.players.Stage.{Stage}
use Rattle.script_run.specs.declared.players.Stage.TheVariants as stage
use Rattle.script_run.proofs.GoingLemmas.{joined, grows, few_starts, as_many, number_is_at, waits}

-- ---- how many moments are left

module _ {D : Type 0} (player next : Player D) where
  -- a statement was answered
  pub fewer_left : (reply : Reply) → length player.replies.items < length player.texts → next.replies.items ≡ player.replies.items ++ reply ∷ [] → next.texts ≡ player.texts → next.stage ≡ stage.Free
      → moments_left next + 1 ≤ moments_left player
  fewer_left reply more pushed texts free =
      let longer : length next.replies.items ≡ length player.replies.items + 1 = ap length pushed ∙ length-append player.replies.items (reply ∷ []) in
      let all : length next.texts ≡ length player.texts = ap length texts in
      let none : starts_made next.stage ≡ 0 = ap starts_made free in
      omega (arith, more, few_starts player.stage)

  -- it waits now for a moment
  pub as_many_left : (asked : Command) → is_free player.stage ≡ true → next.replies ≡ player.replies → next.texts ≡ player.texts → next.stage ≡ stage.Waits asked → moments_left next ≤ moments_left player
  as_many_left asked free replies texts stage_is =
      let same : length next.replies.items ≡ length player.replies.items = ap (λ rs. length rs.items) replies in
      let all : length next.texts ≡ length player.texts = ap length texts in
      let none : starts_made next.stage ≡ 0 = ap starts_made stage_is in
      let none_before : starts_made player.stage ≡ 0 = by player.stage free in
      omega arith where
        by : (s : Stage) → is_free s ≡ true → starts_made s ≡ 0
        by stage.Free free = refl
        by (stage.Waits asked) free = refl
        by (stage.Between asked wanted) free = absurd (cc)

  -- its start was made, and its decision is to come
  pub one_less : (asked : Command) (wanted : Pending) → length player.replies.items < length player.texts → starts_made player.stage ≡ 0 → next.replies ≡ player.replies → next.texts ≡ player.texts
      → next.stage ≡ stage.Between asked wanted → moments_left next + 1 ≤ moments_left player
  one_less asked wanted more none replies texts stage_is =
      let same : length next.replies.items ≡ length player.replies.items = ap (λ rs. length rs.items) replies in
      let all : length next.texts ≡ length player.texts = ap length texts in
      let one : starts_made next.stage ≡ 1 = ap starts_made stage_is in
      omega (arith, more, none)

-- ---- further, and further on

module _ {D : Type 0} {address : List ℕ → List ℕ} {parts : Parts} {shared : Shared} {place : ℕ} {runner : Runner} where
  pub still : (player : Player D) → IsPlayer address parts shared place runner player → IsFurther address parts shared place runner player
  still player is = record { next = runner; goes = going.Stays runner; is = is }

  pub further_on : (middle last : Player D) → IsFurther address parts shared place runner middle
      → ((next : Runner) → IsPlayer address parts shared place next middle → IsFurther address parts shared place next last) → IsFurther address parts shared place runner last
  further_on middle last one more =
      let two = more one.next one.is in
      record { next = two.next; goes = joined runner one.next two.next one.goes two.goes; is = two.is }

  -- a statement that it has answered isn't the one that it needs a moment for
  pub is_past : (statement : ℕ) (middle last : Player D) → IsPlayer address parts shared place runner middle → statement ≤ length middle.replies.items → IsFurther address parts shared place runner last
      → is_next_at statement last ≡ false
  is_past statement middle last is answered further =
      let said : length middle.replies.items ≡ length runner.replies = as_many is in
      let more : length runner.replies ≤ length further.next.replies = grows runner further.next further.goes in
      let counted : further.next.session.statement ≡ length further.next.replies + 1 = further.is.counted in
      let number : number_at last.session.position ≡ further.next.session.statement = number_is_at further.is in
      let apart : number_at last.session.position ≢ statement = λ same. absurd (omega arith) in
      never (is_free last.stage) (number_at last.session.position == statement) (grind (arith, nat_tests)) where
        never : (free same : Bool) → same ≡ false → (not free && same) ≡ false
        never true same h = refl
        never false same h = h

-- whether it was led or not, it stands for a session of the machine
pub stands_after : {D : Type 0} {address : List ℕ → List ℕ} {epoch : ℤ} {old new : Parts} {shared : Shared} {place : ℕ} {runner : Runner} {player : Player D} (made : Bool)
    → (made ≡ true → IsLed address epoch place runner shared old new player) → (made ≡ false → IsFurther address old shared place runner player)
    → (parts : Parts) × (there : Shared) × (at : ℕ) × (next : Runner) × IsPlayer address parts there at next player
stands_after {new = new} {place = place} true led missed = let one = led refl in (new, one.left, place, one.next, one.is)
stands_after {old = old} {shared = shared} {place = place} false led missed = let one = missed refl in (old, shared, place, one.next, one.is)

-- ---- whether it has gone on

module _ {D : Type 0} (player : Player D) where
  pub settled_waiting : is_free player.stage ≡ false → is_settled player ≡ true
  settled_waiting waiting = if_false (is_free player.stage) (length player.replies.items == length player.texts) true waiting

  pub settled_at_end : length player.replies.items ≡ length player.texts → is_settled player ≡ true
  settled_at_end over = by (is_free player.stage) (length player.replies.items == length player.texts) (grind (arith, nat_tests)) where
    by : (free same : Bool) → same ≡ true → (if free then same else true) ≡ true
    by true same h = h
    by false same h = refl

  pub unsettled : {X : Type 0} → is_free player.stage ≡ true → length player.replies.items < length player.texts → is_settled player ≡ true → X
  unsettled free more settled =
      let same : (length player.replies.items == length player.texts) ≡ true
      = sym (if_true (is_free player.stage) (length player.replies.items == length player.texts) true free) ∙ settled in
      let over : length player.replies.items ≡ length player.texts = grind (arith, nat_tests) in
      absurd (omega (arith, more))

  pub at_less : (at : ℕ) (texts : List (List ℕ)) → texts ≡ player.texts → at < length texts → at < length player.texts
  at_less at texts same less = subst (λ (all : List (List ℕ)). at < length all) same less

  pub said_less : (at : ℕ) (texts : List (List ℕ)) → at ≡ length player.replies.items → texts ≡ player.texts → at < length texts → length player.replies.items < length player.texts
  said_less at texts there same less = subst (λ n. n < length player.texts) there (at_less at texts same less)
