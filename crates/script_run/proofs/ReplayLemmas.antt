-- A run along a given order where it ends.
use Rattle.std.proofs.Common.{◌≡◌, ◌≢◌, refl, sym, ◌∙◌, ap, subst, ℕ, ℤ, zero, suc, ◌+◌, ◌<◌, ◌≤◌, ◌^◌, ◌==◌, Bool, true, false, not, ◌&&◌, List, [], ◌∷◌, ◌++◌, drop, length, map, nat_lt, take, Option, None, Some, slice_get, arith, if◌then◌else◌}
use Rattle.std.specs.List.{AllByRecursion, list_all}
use Rattle.std.specs.Option.{option_map_or}
use Rattle.std.proofs.lemmas.Bool.Decides.{nat_tests}
use Rattle.std.proofs.lemmas.List.{length-map}
use Rattle.std.proofs.lemmas.Option.{slice_get_within}
use Rattle.std.proofs.lemmas.Bool.{and_parts as both, and_from as join}
use Rattle.tuple_codec.proofs.Lists.{all_weaker, all_at, there_at}
use Rattle.chunk_store.specs.Drafts.{chunks_of}
use Rattle.script_text.specs.Collisions.{AllTellTruly, TellsTruly}
use Rattle.script_text.specs.Output.{shortages_in}
use Rattle.script_text.specs.Shown.{IsPrintable, IsShown, IsShownStop, is_printable_moment, is_printable_reply, is_shown_moment, is_shown_reply}
use Rattle.script_text.specs.declared.outputs.BranchLine.{BranchLine}
use Rattle.script_text.specs.declared.outputs.RunText.{RunText}
use Rattle.script_text.specs.declared.outputs.StopText.{StopText}
use Rattle.script_text.specs.declared.replies.Reply.{Reply}
use Rattle.script_text.specs.declared.scripts.Moment.{Moment}
use Rattle.script_text.specs.declared.scripts.Script.{Script}
use Rattle.plain_sessions.specs.Commands.{command}
use Rattle.plain_sessions.specs.Records.{Shared}
use Rattle.plain_sessions.specs.Runs.{Runner, has_none_left, is_over}
use Rattle.plain_sessions.specs.Sessions as plain
use Rattle.plain_sessions.specs.Sessions.{is_before_statement}
use Rattle.plain_sessions.specs.declared.commands.Command.{Command}
use Rattle.run_laws.specs.Laws.{OrdersAreFollowed, shown_of}
use Rattle.run_laws.specs.Orders.{asked_order}
use Rattle.run_laws.specs.Replaying.{AreWaiting, CantGoOn, IsStopped, IsWaiting, WaitsAt, all_replies, is_at, is_next}
use Rattle.run_laws.specs.Stops.{IsStoppedAt}
use Rattle.session_state.specs.Changes.{Parts}
use Rattle.serving.specs.Serving.{is_sound_reply}
use Rattle.serving.specs.Steps.{number_at}
use Rattle.serving.specs.declared.meeting.Pending.TheVariants as pending
use Rattle.serving.proofs.AnswerLemmas.{same_number as number_is}
use Rattle.script_run.specs.Following.{AreAlong, CantFollow, IsPlayer, IsPlayingAt, IsReplayed, StandsAt, is_free, is_next_at, is_settled, is_through}
use Rattle.script_run.specs.Scripts.{IsSoundScript}
use Rattle.script_run.specs.declared.players.Player.{Player}
use Rattle.script_run.specs.declared.players.Playing.{Playing}
use Rattle.script_run.specs.declared.players.Stage.{Stage}
use Rattle.script_run.specs.declared.players.Stage.TheVariants as stage
use Rattle.script_run.proofs.EndLemmas.{branches_are, printable_reply, shown_reply}
use Rattle.script_run.proofs.GoingLemmas.{started_at as awaits_after}

-- ---- one session

none_dropped : (texts : List (List ℕ)) (count : ℕ) → count ≡ length texts → map command (drop count texts) ≡ []
none_dropped [] zero h = refl
none_dropped [] (suc count) h = refl
none_dropped (text ∷ texts) zero h = absurd (omega arith)
none_dropped (text ∷ texts) (suc count) h = let rest : count ≡ length texts = omega arith in none_dropped texts count rest

pub as_many_test : (a b : ℕ) → a ≡ b → (a == b) ≡ true
as_many_test a b same = grind (arith, nat_tests)

pub as_many_by : (a b : ℕ) → (a == b) ≡ true → a ≡ b
as_many_by a b test = grind (arith, nat_tests)

not_as_many : (a b : ℕ) → a ≢ b → (a == b) ≡ false
not_as_many a b apart = grind (arith, nat_tests)

one_more : (a b : ℕ) → (a == b) ≡ (suc a == suc b)
one_more a b =
    elim (a == b) as (λ test. (a == b) ≡ test → test ≡ (suc a == suc b)) [
      | true ↦ λ test. sym (as_many_test (suc a) (suc b) (ap suc (as_many_by a b test)))
      | false ↦ λ test.
          let apart : a ≢ b = grind (arith, nat_tests) in
          sym (not_as_many (suc a) (suc b) (λ same. let less : a ≡ b = omega arith in apart less))
    ] refl

left_told : (texts : List (List ℕ)) (count : ℕ) → count ≤ length texts → has_none_left (map command (drop count texts)) ≡ (count == length texts)
left_told [] zero h = refl
left_told [] (suc count) h = absurd (omega arith)
left_told (text ∷ texts) zero h = sym (not_as_many 0 (length (text ∷ texts)) (λ same. absurd (omega arith)))
left_told (text ∷ texts) (suc count) h = let rest : count ≤ length texts = omega arith in left_told texts count rest ∙ one_more count (length texts)

module _ {D : Type 0} (address : List ℕ → List ℕ) (parts : Parts) (shared : Shared) (place : ℕ) (runner : Runner) (player : Player D) where
  abbrev Waits : Bool → List Command → Type 0
  Waits before todo = WaitsAt runner.session before todo

  waits_by : (s : Stage) → StandsAt address player parts runner shared s → (is_free s ≡ true → runner.todo ≡ []) → Waits (is_before_statement runner.session.place) runner.todo
  waits_by stage.Free is nothing =
      subst (λ (todo : List Command). Waits (is_before_statement runner.session.place) todo) (sym (nothing refl)) (ap is_before_statement is.before)
  waits_by (stage.Waits asked) is nothing =
      let before : is_before_statement runner.session.place ≡ true = ap is_before_statement is.0.before in
      subst (λ (todo : List Command). Waits (is_before_statement runner.session.place) todo) (sym is.3.1)
      (subst (λ (b : Bool). Waits b (asked ∷ is.3.0)) (sym before) is.1)
  waits_by (stage.Between asked wanted) is nothing =
      let behind : is_before_statement runner.session.place ≡ false = awaits_after address (chunks_of player.session.draft.chunks) wanted runner.session is.0.transaction is.0.work is.0.awaits in
      subst (λ (todo : List Command). Waits (is_before_statement runner.session.place) todo) (sym is.2.1)
      (subst (λ (b : Bool). Waits b (asked ∷ is.2.0)) (sym behind) tt)

  settled_by : (s : Stage) → (if is_free s then length player.replies.items == length player.texts else true) ≡ true → is_free s ≡ true → is_through player ≡ true
  settled_by stage.Free settled free = settled
  settled_by (stage.Waits asked) settled free = absurd (cc)
  settled_by (stage.Between asked wanted) settled free = absurd (cc)

  said_all : IsPlayer address parts shared place runner player → is_through player ≡ (length runner.replies == length player.texts)
  said_all is = ap (λ (replies : List Reply). length replies == length player.texts) is.said

  pub over_is : IsPlayer address parts shared place runner player → is_over runner ≡ is_through player
  over_is is = ap has_none_left is.todo ∙ left_told player.texts (length runner.replies) is.within ∙ sym (said_all is)

  none_left : IsPlayer address parts shared place runner player → is_settled player ≡ true → is_free player.stage ≡ true → runner.todo ≡ []
  none_left is settled free = is.todo ∙ none_dropped player.texts (length runner.replies) (as_many_by (length runner.replies) (length player.texts) (sym (said_all is) ∙ settled_by player.stage settled free))

  pub is_waiting : IsPlayer address parts shared place runner player → is_settled player ≡ true → IsWaiting runner
  is_waiting is settled = record {
    numbered = is.counted;
    waits = waits_by player.stage is.stands (none_left is settled);
  }

  -- it doesn't need its next moment at this statement
  no_moment : (moment : Moment) (s : Stage) → StandsAt address player parts runner shared s → (is_free s ≡ true → runner.todo ≡ [])
      → (not (is_free s) && number_at player.session.position == moment.statement) ≡ false → is_at moment runner ≡ false
  no_moment moment stage.Free is nothing other = ap (λ (todo : List Command). not (has_none_left todo) && runner.session.statement == moment.statement) (nothing refl)
  no_moment moment (stage.Waits asked) is nothing other =
      let number : number_at player.session.position ≡ runner.session.statement
      = number_is player.session.position runner.session.statement runner.session.place is.0.session_stands.position in
      ap (λ (todo : List Command). not (has_none_left todo) && runner.session.statement == moment.statement) is.3.1 ∙ ap (λ n. true && n == moment.statement) (sym number) ∙ other
  no_moment moment (stage.Between asked wanted) is nothing other =
      let number : number_at player.session.position ≡ runner.session.statement
      = number_is player.session.position runner.session.statement runner.session.place is.0.here.session_stands.position in
      ap (λ (todo : List Command). not (has_none_left todo) && runner.session.statement == moment.statement) is.2.1 ∙ ap (λ n. true && n == moment.statement) (sym number) ∙ other

  pub not_at : (moment : Moment) → IsPlayer address parts shared place runner player → is_settled player ≡ true → is_next_at moment.statement player ≡ false → is_at moment runner ≡ false
  not_at moment is settled other = no_moment moment player.stage is.stands (none_left is settled) other

-- ---- all sessions

over_all : {D : Type 0} (runners : List Runner) (players : List (Player D)) → length players ≡ length runners
    → ((place : ℕ) (runner : Runner) (player : Player D) → slice_get runners place ≡ Some runner → slice_get players place ≡ Some player → is_over runner ≡ is_through player)
    → list_all is_over runners ≡ list_all is_through players
over_all [] [] many each = refl
over_all [] (player ∷ players) many each = absurd (omega arith)
over_all (runner ∷ runners) [] many each = absurd (omega arith)
over_all (runner ∷ runners) (player ∷ players) many each =
    let rest : length players ≡ length runners = omega arith in
    ap (λ (first : Bool). first && list_all is_over runners) (each 0 runner player refl refl)
    ∙ ap (λ (more : Bool). is_through player && more) (over_all runners players rest (λ place other one h g. each (suc place) other one h g))

said_by : {D : Type 0} (players : List (Player D)) (runners : List Runner) → length players ≡ length runners
    → ((place : ℕ) (runner : Runner) (player : Player D) → slice_get runners place ≡ Some runner → slice_get players place ≡ Some player → player.replies.items ≡ runner.replies)
    → map (λ (player : Player D). player.replies.items) players ≡ all_replies runners
said_by [] [] many each = refl
said_by [] (runner ∷ runners) many each = absurd (omega arith)
said_by (player ∷ players) [] many each = absurd (omega arith)
said_by (player ∷ players) (runner ∷ runners) many each =
    let rest : length players ≡ length runners = omega arith in
    ap (λ (first : List Reply). first ∷ map (λ (other : Player _). other.replies.items) players) (each 0 runner player refl refl)
    ∙ ap (λ (more : List (List Reply)). runner.replies ∷ more) (said_by players runners rest (λ place other one h g. each (suc place) other one h g))

-- what is true of each session's replies is true of all
all_truly : (address : List ℕ → List ℕ) (runners : List Runner) → ((place : ℕ) (runner : Runner) → slice_get runners place ≡ Some runner → AllByRecursion (TellsTruly address) runner.replies)
    → AllTellTruly address (all_replies runners)
all_truly address [] each = tt
all_truly address (runner ∷ runners) each = (each 0 runner refl, all_truly address runners (λ place other h. each (suc place) other h))

all_sound : (runners : List Runner) → ((place : ℕ) (runner : Runner) → slice_get runners place ≡ Some runner → list_all is_sound_reply runner.replies ≡ true)
    → list_all (list_all is_sound_reply) (all_replies runners) ≡ true
all_sound [] each = refl
all_sound (runner ∷ runners) each =
    join (list_all is_sound_reply runner.replies) (list_all (list_all is_sound_reply) (all_replies runners)) (each 0 runner refl) (all_sound runners (λ place other h. each (suc place) other h))

-- no session has more replies than 32 bits count
all_few : (runners : List Runner) → ((place : ℕ) (runner : Runner) → slice_get runners place ≡ Some runner → length runner.replies < 2 ^ 32)
    → list_all (λ (session : List Reply). nat_lt (length session) (2 ^ 32)) (all_replies runners) ≡ true
all_few [] each = refl
all_few (runner ∷ runners) each =
    let below : length runner.replies < 2 ^ 32 = each 0 runner refl in
    let first : nat_lt (length runner.replies) (2 ^ 32) ≡ true = grind (arith, nat_tests) in
    join (nat_lt (length runner.replies) (2 ^ 32)) (list_all (λ (session : List Reply). nat_lt (length session) (2 ^ 32)) (all_replies runners)) first
    (all_few runners (λ place other h. each (suc place) other h))

option_cases : {X : Type 0} (P : Option X → Type 0) (found : Option X) → (found ≡ None → P None) → ((x : X) → found ≡ Some x → P (Some x)) → P found
option_cases P None none some = none refl
option_cases P (Some x) none some = some x refl

module _ {D : Type 0} (address : List ℕ → List ℕ) (script : Script) (moments : List Moment) (parts : Parts) (players : List (Player D)) (now : AreAlong address script moments parts players) where
  player_at : (place : ℕ) (runner : Runner) → slice_get now.runners place ≡ Some runner
      → (player : Player D) × (slice_get players place ≡ Some player) × IsPlayer address parts now.shared place runner player
  player_at place runner there =
      let one = there_at players place (subst (λ n. place < n) (sym now.players.lists) (slice_get_within now.runners place runner there)) in
      (one.0, one.1, now.players.each place runner one.0 there one.1)

  pub replies_are : map (λ (player : Player D). player.replies.items) players ≡ all_replies now.runners
  replies_are = said_by players now.runners now.players.lists (λ place runner player h g. (now.players.each place runner player h g).said)

  pub are_truly : AllTellTruly address (all_replies now.runners)
  are_truly = all_truly address now.runners (λ place runner h. (player_at place runner h).2.truly)

  pub are_waiting : list_all is_settled players ≡ true → AreWaiting now.runners
  are_waiting settled place runner there =
      let one = player_at place runner there in
      is_waiting address parts now.shared place runner one.0 one.2 (all_at is_settled players place one.0 one.1 settled)

  pub are_over : list_all is_over now.runners ≡ list_all is_through players
  are_over = over_all now.runners players now.players.lists (λ place runner player h g.
      over_is address parts now.shared place runner player (now.players.each place runner player h g))

  pub none_next : (moment : Moment) → CantFollow moment players → is_next now.runners moment ≡ false
  none_next moment cant =
      option_cases (λ (found : Option Runner). option_map_or (is_at moment) found false ≡ false) (slice_get now.runners moment.session) (λ none. refl) (λ runner there.
      let one = player_at moment.session runner there in
      let past = cant one.0 one.1 in
      not_at address parts now.shared moment.session runner one.0 moment one.2 past.0 past.1)

  -- ---- the whole order was followed

  abbrev shows : List (List Reply) → List Moment → List BranchLine → RunText
  shows replies order branches = record { names = script.names; replies = replies; order = order; branches = branches }

  pub shown_is : (replies : List (List Reply)) (order : List Moment) (branches : List BranchLine)
      → replies ≡ map (λ (player : Player D). player.replies.items) players → order ≡ parts.moments → branches ≡ parts.branches
      → record { names = script.names; replies = replies; order = order; branches = branches } ≡ shown_of address script moments now.shared now.runners
  shown_is replies order branches said in_order lines =
      ap (λ (rs : List (List Reply)). shows rs order branches) (said ∙ replies_are)
      ∙ ap (λ (o : List Moment). shows (all_replies now.runners) o branches) (in_order ∙ now.made)
      ∙ ap (λ (bs : List BranchLine). shows (all_replies now.runners) moments bs)
      (lines ∙ branches_are address parts.chunks now.shared.commits parts.branches now.shared.branches now.stands.branches)

  sound_replies : list_all (list_all is_sound_reply) (all_replies now.runners) ≡ true
  sound_replies = all_sound now.runners (λ place runner h. (player_at place runner h).2.sound)

  as_many_replies : length (all_replies now.runners) ≡ length script.names
  as_many_replies = length-map now.runners (λ (runner : Runner). runner.replies) ∙ now.all

  pub are_printable : IsPrintable (shown_of address script moments now.shared now.runners)
  are_printable = record {
    lists = as_many_replies;
    replies = all_weaker (list_all is_sound_reply) (list_all is_printable_reply) (λ replies h. all_weaker is_sound_reply is_printable_reply printable_reply replies h) (all_replies now.runners) sound_replies;
    moments = all_weaker (is_shown_moment (length script.names)) (is_printable_moment (length script.names))
        (λ moment h. (both (is_printable_moment (length script.names) moment) _ h).0) moments now.within;
  }

  pub are_shown : IsSoundScript script → IsShown (shown_of address script moments now.shared now.runners)
  are_shown sound = record {
    names = sound.names;
    distinct = sound.distinct;
    lists = as_many_replies;
    replies = all_weaker (list_all is_sound_reply) (list_all is_shown_reply) (λ replies h. all_weaker is_sound_reply is_shown_reply shown_reply replies h) (all_replies now.runners) sound_replies;
    moments = now.within;
  }

  few_replies : list_all (λ (session : List Reply). nat_lt (length session) (2 ^ 32)) (all_replies now.runners) ≡ true
  few_replies = all_few now.runners (λ place runner h.
      let one = (player_at place runner h).2 in
      let within = one.within in
      let few = one.few in
      omega (arith, within, few))

  pub is_shown_stop : (item : ℕ) → item < 2 ^ 64 → IsSoundScript script → IsShownStop (record { item = item; names = script.names; replies = all_replies now.runners })
  is_shown_stop item fits sound = record {
    item = fits;
    names = sound.names;
    distinct = sound.distinct;
    lists = as_many_replies;
    replies = all_weaker (list_all is_sound_reply) (list_all is_shown_reply) (λ replies h. all_weaker is_sound_reply is_shown_reply shown_reply replies h) (all_replies now.runners) sound_replies;
    few = few_replies;
  }

abbrev along_of : {D : Type 0} {address : List ℕ → List ℕ} {epoch : ℤ} {script : Script} {moments : List Moment} {playing : Playing D} → IsPlayingAt address epoch script moments playing
    → AreAlong address script moments playing.lone.db.parts playing.players.items
along_of now = record { shared = now.shared; runners = now.runners; made = now.made; all = now.all; within = now.within; stands = now.stands; players = now.players }

pub is_replayed : {D : Type 0} (address : List ℕ → List ℕ) (epoch : ℤ) (script : Script) (playing : Playing D) (replies : List (List Reply)) (order : List Moment) (branches : List BranchLine)
    → OrdersAreFollowed → IsSoundScript script → IsPlayingAt address epoch script (asked_order script) playing
    → list_all is_settled playing.players.items ≡ true → list_all is_through playing.players.items ≡ true
    → replies ≡ map (λ (player : Player D). player.replies.items) playing.players.items → order ≡ playing.lone.db.parts.moments → branches ≡ playing.lone.db.parts.branches
    → IsReplayed address epoch script (record { names = script.names; replies = replies; order = order; branches = branches })
is_replayed address epoch script playing replies order branches laws sound now settled through said in_order lines =
    subst (λ (run : RunText). IsReplayed address epoch script run) (sym (shown_is address script (asked_order script) playing.lone.db.parts playing.players.items (along_of now) replies order branches said in_order lines)) (record {
      plain = laws.plain command address epoch script (asked_order script) now.shared now.runners (are_waiting address script (asked_order script) playing.lone.db.parts playing.players.items (along_of now) settled)
          (are_over address script (asked_order script) playing.lone.db.parts playing.players.items (along_of now) ∙ through) now.along;
      truly = are_truly address script (asked_order script) playing.lone.db.parts playing.players.items (along_of now);
      order = refl;
      printable = are_printable address script (asked_order script) playing.lone.db.parts playing.players.items (along_of now);
      shown = are_shown address script (asked_order script) playing.lone.db.parts playing.players.items (along_of now) sound;
    })

-- ---- an item can't be followed, or a moment is left

behind_last : {X : Type 0} (xs : List X) (i : ℕ) → i ≤ length xs → slice_get xs i ≡ None → i ≡ length xs
behind_last [] zero h none = refl
behind_last [] (suc i) h none = absurd (omega arith)
behind_last (x ∷ xs) zero h none = absurd (cc)
behind_last (x ∷ xs) (suc i) h none = let rest : i ≤ length xs = omega arith in ap suc (behind_last xs i rest none)

pub is_stopped : {D : Type 0} (address : List ℕ → List ℕ) (epoch : ℤ) (script : Script) (playing : Playing D) (count item : ℕ) (replies : List (List Reply))
    → OrdersAreFollowed → IsSoundScript script → item < 2 ^ 64 → IsPlayingAt address epoch script (take count (asked_order script)) playing → count ≤ length (asked_order script)
    → list_all is_settled playing.players.items ≡ true
    → ((moment : Moment) → slice_get (asked_order script) count ≡ Some moment → CantFollow moment playing.players.items)
    → (count ≡ length (asked_order script) → list_all is_through playing.players.items ≡ false)
    → replies ≡ map (λ (player : Player D). player.replies.items) playing.players.items → item ≡ count + 1
    → IsStoppedAt address epoch script (record { item = item; names = script.names; replies = replies })
is_stopped address epoch script playing count item replies laws sound fits now within settled cant left said numbered =
    let order : List Moment = asked_order script in
    let same : all_replies now.runners ≡ replies = sym (said ∙ replies_are address script (take count order) playing.lone.db.parts playing.players.items (along_of now)) in
    let stopped : (stop : IsStopped command address epoch script order count (shortages_in replies)) × (all_replies stop.state.runners ≡ replies)
    = subst (λ (rs : List (List Reply)). (stop : IsStopped command address epoch script order count (shortages_in rs)) × (all_replies stop.state.runners ≡ rs)) same
    (laws.stopped command address epoch script order count now.shared now.runners (are_waiting address script (take count order) playing.lone.db.parts playing.players.items (along_of now) settled) now.along within
    (option_cases (λ (found : Option Moment). CantGoOn address epoch (shortages_in (all_replies now.runners)) (record { shared = now.shared; runners = now.runners }) found) (slice_get order count)
    (λ none. are_over address script (take count order) playing.lone.db.parts playing.players.items (along_of now) ∙ left (behind_last order count within none))
    (λ moment there. laws.refused address epoch (shortages_in (all_replies now.runners)) now.shared now.runners moment
    (none_next address script (take count order) playing.lone.db.parts playing.players.items (along_of now) moment (cant moment there))))) in
    record {
      count = count;
      item = numbered;
      stopped = stopped.0;
      said = sym stopped.1;
      names = refl;
      shown = subst (λ (rs : List (List Reply)). IsShownStop (record { item = item; names = script.names; replies = rs })) same
          (is_shown_stop address script (take count order) playing.lone.db.parts playing.players.items (along_of now) item fits sound);
      truly = subst (λ (rs : List (List Reply)). AllTellTruly address rs) same (are_truly address script (take count order) playing.lone.db.parts playing.players.items (along_of now));
    }

-- ---- whole or not

take_whole : {X : Type 0} (xs : List X) (count : ℕ) → count ≡ length xs → take count xs ≡ xs
take_whole [] zero h = refl
take_whole [] (suc count) h = refl
take_whole (x ∷ xs) zero h = absurd (omega arith)
take_whole (x ∷ xs) (suc count) h = let rest : count ≡ length xs = omega arith in ap (λ (more : List _). x ∷ more) (take_whole xs count rest)

pub all_followed : {D : Type 0} (address : List ℕ → List ℕ) (epoch : ℤ) (script : Script) (count : ℕ) (playing : Playing D) → count ≡ length (asked_order script)
    → IsPlayingAt address epoch script (take count (asked_order script)) playing → IsPlayingAt address epoch script (asked_order script) playing
all_followed address epoch script count playing same now =
    subst (λ (moments : List Moment). IsPlayingAt address epoch script moments playing) (take_whole (asked_order script) count same) now
