-- Sessions before their first statements, each with its lines' texts.
use Rattle.std.proofs.Common.{◌≡◌, ◌≢◌, refl, sym, ◌∙◌, ap, subst, ℕ, ℤ, zero, suc, ◌+◌, ◌-◌, ◌*◌, ◌<◌, ◌≤◌, ◌^◌, ◌==◌, true, false, List, [], ◌∷◌, ◌++◌, codes, drop, length, map, Some, slice_get, vec_capacity, arith, if◌then◌else◌}
use Rattle.std.specs.Prelude.{slice_index_or}
use Rattle.std.specs.List.{list_all}
use Rattle.std.specs.Option.{option_map}
use Rattle.std.proofs.lemmas.Bool.{and_parts as both, and_from as join}
use Rattle.std.proofs.lemmas.Option.{get_or_from_slice_get, same_Some, slice_get-map, slice_get_within}
use Rattle.std.proofs.lemmas.List.{length-append}
use Rattle.std.proofs.lemmas.Bool.Decides.{nat_tests}
use Rattle.tuple_codec.proofs.Lists.{there_at}
use Rattle.script_text.specs.declared.replies.Reply.{Reply}
use Rattle.script_text.specs.declared.scripts.Line.{Line}
use Rattle.script_text.specs.declared.scripts.Script.{Script}
use Rattle.plain_sessions.specs.Commands.{command}
use Rattle.plain_sessions.specs.Records.{opening}
use Rattle.plain_sessions.specs.Runs.{Runner, commands_of}
use Rattle.plain_sessions.specs.Sessions.{new_session}
use Rattle.plain_sessions.specs.declared.commands.Command.{Command}
use Rattle.run_laws.specs.Laws.{OrdersAreFollowed}
use Rattle.run_laws.specs.Orders.{count_of}
use Rattle.run_laws.specs.Replaying.{first_runners}
use Rattle.run_laws.proofs.ListLemmas.{get_behind, get_front}
use Rattle.run_laws.proofs.OrderLemmas.{count_fits as count_most}
use Rattle.session_state.specs.Changes.{Parts, StateStands}
use Rattle.shared_history.specs.Meeting.{moments_by}
use Rattle.script_run.specs.Following.{ArePlayers, IsPlayer, IsPlayingAt, StandsAt, moments_left, starts_made, texts_of}
use Rattle.script_run.specs.Opening.{AreNewPlayers, IsNew, IsNewPlayer, counts}
use Rattle.script_run.specs.Scripts.{IsSoundScript, has_statement, is_statement_text}
use Rattle.script_run.specs.Seats.{IsAtRest, room_at}
use Rattle.script_run.specs.declared.players.Player.{Player}
use Rattle.script_run.specs.declared.players.Playing.{Playing}
use Rattle.script_run.specs.declared.players.Stage.{Stage}
use Rattle.script_run.specs.declared.players.Stage.TheVariants as stage
use Rattle.script_run.specs.declared.running.Speaker.{Speaker}
use Rattle.script_run.proofs.CountLemmas.{as_many, count_at}
use Rattle.script_run.proofs.OpenLemmas.{no_chunks}

-- ---- texts

pub texts_counted : (place : ℕ) (lines : List Line) → length (texts_of place lines) ≡ count_of place lines
texts_counted place [] = refl
texts_counted place (line ∷ lines) =
    elim (line.session == place) as (λ test. length (if test then line.statement ∷ texts_of place lines else texts_of place lines) ≡ (if test then suc (count_of place lines) else count_of place lines)) [
      | true ↦ ap suc (texts_counted place lines)
      | false ↦ texts_counted place lines
    ]

texts_asked : (place : ℕ) (lines : List Line) → map command (texts_of place lines) ≡ commands_of command place lines
texts_asked place [] = refl
texts_asked place (line ∷ lines) =
    elim (line.session == place) as (λ test. map command (if test then line.statement ∷ texts_of place lines else texts_of place lines)
    ≡ (if test then command line.statement ∷ commands_of command place lines else commands_of command place lines)) [
      | true ↦ ap (λ (more : List Command). command line.statement ∷ more) (texts_asked place lines)
      | false ↦ texts_asked place lines
    ]

texts_spelled : (place : ℕ) (lines : List Line) → list_all has_statement lines ≡ true → list_all is_statement_text (texts_of place lines) ≡ true
texts_spelled place [] all = refl
texts_spelled place (line ∷ lines) all =
    let parts = both (has_statement line) (list_all has_statement lines) all in
    elim (line.session == place) as (λ test. list_all is_statement_text (if test then line.statement ∷ texts_of place lines else texts_of place lines) ≡ true) [
      | true ↦ join (has_statement line) (list_all is_statement_text (texts_of place lines)) parts.0 (texts_spelled place lines parts.1)
      | false ↦ texts_spelled place lines parts.1
    ]

-- ---- one more session, at the place behind the others

abbrev pub Each : {D : Type 0} → (List ℕ → List ℕ) → List (List ℕ) → List Line → List ℕ → List (Player D) → Type 0
Each address names lines statements players = (place count : ℕ) (one : Player _) (other : List ℕ) → slice_get players place ≡ Some one → slice_get names place ≡ Some other
    → slice_get statements place ≡ Some count → IsNewPlayer address place other lines count one

pub each_all : {D : Type 0} (address : List ℕ → List ℕ) (names : List (List ℕ)) (lines : List Line) (statements : List ℕ) (all players : List (Player D)) → all ≡ players
    → Each address names lines statements players → Each address names lines statements all
each_all address names lines statements all players same each = subst (λ (xs : List (Player _)). Each address names lines statements xs) (sym same) each

pub player_new : {D : Type 0} (address : List ℕ → List ℕ) (place : ℕ) (name : List ℕ) (lines : List Line) (statements : ℕ) (speaker : Speaker D) (texts : List (List ℕ))
    → IsNew address place name statements speaker → texts ≡ texts_of place lines
    → IsNewPlayer address place name lines statements (record { session = speaker.session; replies = speaker.replies; texts = texts; stage = stage.Free })
player_new address place name lines statements speaker texts new are = record {
  stands = new.stands;
  base = new.base;
  pages = new.pages;
  silent = new.silent;
  room = new.room;
  texts = are;
  free = refl;
}

module _ {D : Type 0} (address : List ℕ → List ℕ) (names : List (List ℕ)) (lines : List Line) (statements : List ℕ) (players : List (Player D)) (at default : ℕ) (name : List ℕ) (player : Player D) where
  pub each_behind : length players ≡ at → Each address names lines statements players → name ≡ slice_index_or names at name
      → IsNewPlayer address at name lines (slice_index_or statements at default) player → Each address names lines statements (players ++ player ∷ [])
  each_behind many each is_name new place count one other found named counted =
      elim (place == at) as (λ test. (place == at) ≡ test → IsNewPlayer address place other lines count one) [
        | true ↦ λ test.
            let same : at ≡ place = grind (arith, nat_tests) in
            let is_one : player ≡ one = same_Some _ _ (sym (get_behind players player) ∙ ap (slice_get (players ++ player ∷ [])) (many ∙ same) ∙ found) in
            let is_other : name ≡ other = is_name ∙ get_or_from_slice_get names at other name (ap (slice_get names) same ∙ named) in
            let is_count : slice_index_or statements at default ≡ count = get_or_from_slice_get statements at count default (ap (slice_get statements) same ∙ counted) in
            subst (λ (o : Player D). IsNewPlayer address place other lines count o) is_one
            (subst (λ n. IsNewPlayer address place other lines n player) is_count
            (subst (λ (o : List ℕ). IsNewPlayer address place o lines (slice_index_or statements at default) player) is_other
            (subst (λ n. IsNewPlayer address n name lines (slice_index_or statements at default) player) same new)))
        | false ↦ λ test.
            let apart : place ≢ at = grind (arith, nat_tests) in
            let within : place < length (players ++ player ∷ []) = slice_get_within (players ++ player ∷ []) place one found in
            let less : place < length players = omega (arith, length-append players (player ∷ [])) in
            each place count one other (sym (get_front players (player ∷ []) place less) ∙ found) named counted
      ] refl

-- ---- the first sessions of the machine

as_many_first : (script : Script) (place : ℕ) (names : List (List ℕ)) → length (first_runners command script place names) ≡ length names
as_many_first script place [] = refl
as_many_first script place (name ∷ names) = ap suc (as_many_first script (place + 1) names)

abbrev pub first_at : Script → ℕ → List ℕ → Runner
first_at script place name = record { session = new_session place name; replies = []; todo = commands_of command place script.lines }

found_first : (script : Script) (place : ℕ) (names : List (List ℕ)) (at : ℕ) (name : List ℕ) → slice_get names at ≡ Some name
    → slice_get (first_runners command script place names) at ≡ Some (first_at script (place + at) name)
found_first script place [] at name h = absurd (cc)
found_first script place (first ∷ names) zero name h =
    let same : first ≡ name = cc in
    let none : place ≡ place + 0 = omega arith in
    ap (λ (n : List ℕ). Some (first_at script place n)) same ∙ ap (λ n. Some (first_at script n name)) none
found_first script place (first ∷ names) (suc at) name h =
    let more : place + 1 + at ≡ place + suc at = omega arith in
    found_first script (place + 1) names at name h ∙ ap (λ n. Some (first_at script n name)) more

-- ---- room

pub new_left : {D : Type 0} (address : List ℕ → List ℕ) (place : ℕ) (name : List ℕ) (lines : List Line) (player : Player D)
    → IsNewPlayer address place name lines (count_of place lines) player → moments_left player ≡ 2 * count_of place lines
new_left address place name lines player new =
    let texts : length player.texts ≡ count_of place lines = ap length new.texts ∙ texts_counted place lines in
    let silent : length player.replies.items ≡ 0 = ap length new.silent in
    let free : starts_made player.stage ≡ 0 = ap starts_made new.free in
    let all : 2 * (length player.texts - length player.replies.items) - starts_made player.stage ≡ 2 * count_of place lines = omega arith in
    all

module _ {D : Type 0} (address : List ℕ → List ℕ) (epoch : ℤ) (script : Script) (parts : Parts) (players : List (Player D)) (statements : List ℕ) where
  pub new_is : (place : ℕ) (name : List ℕ) (player : Player D) → IsSoundScript script → StateStands address parts (opening address epoch script.names)
      → slice_get script.names place ≡ Some name → IsNewPlayer address place name script.lines (count_of place script.lines) player
      → IsPlayer address parts (opening address epoch script.names) place (first_at script place name) player
  new_is place name player sound stands there new =
      let texts : length player.texts ≡ count_of place script.lines = ap length new.texts ∙ texts_counted place script.lines in
      let most : count_of place script.lines ≤ length script.lines = count_most place script.lines in
      let small : length script.lines ≤ 20000 = sound.few in
      record {
        stands = subst (λ (s : Stage). StandsAt address player parts (first_at script place name) (opening address epoch script.names) s) (sym new.free) (record {
          session_stands = new.stands;
          before = refl;
          state_stands = stands;
          placed = slice_get-map (λ (other : List ℕ). codes "main") script.names place ∙ ap (option_map (λ (other : List ℕ). codes "main")) there;
          later = no_chunks player.session.draft.chunks.base parts.chunks new.base;
        });
        number = refl;
        said = new.silent;
        counted = refl;
        todo = sym (ap (map command) new.texts ∙ texts_asked place script.lines);
        within = omega arith;
        few = omega arith;
        spelled = subst (λ (all : List (List ℕ)). list_all is_statement_text all ≡ true) (sym new.texts) (texts_spelled place script.lines sound.statements);
        room = subst (λ n. n ≤ vec_capacity player.replies) (sym texts) new.room;
        sound = refl;
        truly = tt;
      }

  pub at_count : statements ≡ counts (length script.names) script.lines → (place : ℕ) → place < length script.names → slice_get statements place ≡ Some (count_of place script.lines)
  at_count are place below = ap (λ (ns : List ℕ). slice_get ns place) are ∙ count_at (length script.names) script.lines place below

  pub new_at : statements ≡ counts (length script.names) script.lines → AreNewPlayers address script.names script.lines statements players
      → (place : ℕ) (name : List ℕ) (player : Player D) → slice_get script.names place ≡ Some name → slice_get players place ≡ Some player
      → IsNewPlayer address place name script.lines (count_of place script.lines) player
  new_at are new place name player named found =
      new.each place (count_of place script.lines) player name found named (at_count are place (slice_get_within script.names place name named))

  pub players_are : IsSoundScript script → statements ≡ counts (length script.names) script.lines → StateStands address parts (opening address epoch script.names)
      → AreNewPlayers address script.names script.lines statements players
      → ArePlayers address parts (opening address epoch script.names) (first_runners command script 0 script.names) players
  players_are sound are stands new = record {
    lists = new.lists ∙ sym (as_many_first script 0 script.names);
    each = λ place runner player there found.
        let below : place < length script.names = subst (λ n. place < n) new.lists (slice_get_within players place player found) in
        let named = there_at script.names place below in
        let none : 0 + place ≡ place = omega arith in
        let same : first_at script place named.0 ≡ runner
        = same_Some _ _ (ap (λ n. Some (first_at script n named.0)) (sym none) ∙ sym (found_first script 0 script.names place named.0 named.1) ∙ there) in
        subst (λ (r : Runner). IsPlayer address parts (opening address epoch script.names) place r player) same
        (new_is place named.0 player sound stands named.1 (new_at are new place named.0 player named.1 found));
  }

  -- for the moments of all its statements
  pub new_room : statements ≡ counts (length script.names) script.lines → AreNewPlayers address script.names script.lines statements players → parts.moments ≡ [] → parts.numbers ≡ statements
      → (place : ℕ) (player : Player D) → slice_get players place ≡ Some player → moments_left player ≤ room_at parts place
  new_room are new none numbers place player found =
      let below : place < length script.names = subst (λ n. place < n) new.lists (slice_get_within players place player found) in
      let named = there_at script.names place below in
      let left : moments_left player ≡ 2 * count_of place script.lines = new_left address place named.0 script.lines player (new_at are new place named.0 player named.1 found) in
      let counted : slice_index_or parts.numbers place 0 ≡ count_of place script.lines
      = get_or_from_slice_get parts.numbers place (count_of place script.lines) 0 (ap (λ (ns : List ℕ). slice_get ns place) numbers ∙ at_count are place below) in
      let made : moments_by place parts.moments ≡ 0 = ap (moments_by place) none in
      let room : moments_left player ≤ 2 * slice_index_or parts.numbers place 0 - moments_by place parts.moments = omega (arith, left, counted, made) in
      room

pub play_opened : {D : Type 0} (address : List ℕ → List ℕ) (epoch : ℤ) (script : Script) (playing : Playing D) (statements : List ℕ) → OrdersAreFollowed → IsSoundScript script
    → statements ≡ counts (length script.names) script.lines
    → ((names : List (List ℕ)) → length names ≡ length statements → StateStands address playing.lone.db.parts (opening address epoch names))
    → playing.lone.db.parts.moments ≡ [] → playing.lone.db.parts.numbers ≡ statements → IsAtRest address playing.lone
    → AreNewPlayers address script.names script.lines statements playing.players.items
    → IsPlayingAt address epoch script [] playing
play_opened address epoch script playing statements laws sound are opens none numbers rest new =
    let many : length script.names ≡ length statements = sym (ap length are ∙ as_many (length script.names) script.lines) in
    let stands = opens script.names many in
    record {
      shared = opening address epoch script.names;
      runners = first_runners command script 0 script.names;
      along = laws.first command address epoch script;
      made = none;
      all = as_many_first script 0 script.names;
      within = refl;
      stands = stands;
      players = players_are address epoch script playing.lone.db.parts playing.players.items statements sound are stands new;
      rest = rest;
      room = new_room address epoch script playing.lone.db.parts playing.players.items statements are new none numbers;
    }
