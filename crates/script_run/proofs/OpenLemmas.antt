-- A run before its first line.
use Rattle.std.proofs.Common.{◌≡◌, ◌≢◌, refl, sym, ◌∙◌, ap, subst, ℕ, ℤ, zero, suc, ◌+◌, ◌*◌, ◌<◌, ◌≤◌, ◌==◌, true, false, List, [], ◌∷◌, ◌++◌, codes, length, Some, slice_get, arith}
use Rattle.std.specs.Prelude.{slice_index_or}
use Rattle.std.specs.Option.{option_map}
use Rattle.std.proofs.lemmas.Option.{get_or_from_slice_get, same_Some, slice_get-map, slice_get_within}
use Rattle.std.proofs.lemmas.List.{length-append}
use Rattle.std.proofs.lemmas.Bool.Decides.{nat_tests}
use Rattle.tuple_codec.proofs.Lists.{there_at}
use Rattle.chunk_store.specs.Chunks.{Chunk, Lists}
use Rattle.script_text.specs.declared.replies.Reply.{Reply}
use Rattle.script_text.specs.declared.scripts.Moment.{Moment}
use Rattle.script_text.specs.declared.scripts.Script.{Script}
use Rattle.plain_sessions.specs.Commands.{command}
use Rattle.plain_sessions.specs.Records.{opening}
use Rattle.plain_sessions.specs.Sessions as plain
use Rattle.plain_sessions.specs.Sessions.{new_session}
use Rattle.run_laws.specs.Laws.{LinesAreRun}
use Rattle.run_laws.specs.Lines.{IsRunTo, new_spoken}
use Rattle.run_laws.specs.Orders.{count_of}
use Rattle.run_laws.proofs.ListLemmas.{get_behind, get_front}
use Rattle.run_laws.proofs.RunLemmas.{as_many as as_many_new}
use Rattle.session_state.specs.Changes.{Parts, StateStands}
use Rattle.shared_history.specs.Meeting.{moments_by}
use Rattle.script_run.specs.Opening.{AreNew, IsNew, counts}
use Rattle.script_run.specs.Running.{AreSpeakers, IsRunningAt, IsSpeaker}
use Rattle.script_run.specs.Seats.{IsAtRest}
use Rattle.script_run.specs.declared.running.Running.{Running}
use Rattle.script_run.specs.declared.running.Speaker.{Speaker}
use Rattle.script_run.proofs.CountLemmas.{as_many, count_at}

new_at : (place : ℕ) (names : List (List ℕ)) (at : ℕ) (name : List ℕ) → slice_get names at ≡ Some name → slice_get (new_spoken place names) at ≡ Some (new_session (place + at) name, [])
new_at place [] at name h = absurd (cc)
new_at place (first ∷ names) zero name h =
    let same : first ≡ name = cc in
    let none : place ≡ place + 0 = omega arith in
    ap (λ (n : List ℕ). Some (new_session place n, [])) same ∙ ap (λ n. Some (new_session n name, [])) none
new_at place (first ∷ names) (suc at) name h =
    let more : place + 1 + at ≡ place + suc at = omega arith in
    new_at (place + 1) names at name h ∙ ap (λ n. Some (new_session n name, [])) more

pub no_chunks : (own chunks : List Chunk) → own ≡ [] → Lists own chunks
no_chunks own chunks none = subst (λ (cs : List Chunk). Lists cs chunks) (sym none) (λ k bytes listed. absurd listed)

abbrev pub Each : {D : Type 0} → (List ℕ → List ℕ) → List (List ℕ) → List ℕ → List (Speaker D) → Type 0
Each address names statements speakers = (place count : ℕ) (one : Speaker _) (other : List ℕ) → slice_get speakers place ≡ Some one → slice_get names place ≡ Some other
    → slice_get statements place ≡ Some count → IsNew address place other count one

pub each_all : {D : Type 0} (address : List ℕ → List ℕ) (names : List (List ℕ)) (statements : List ℕ) (all speakers : List (Speaker D)) → all ≡ speakers → Each address names statements speakers
    → Each address names statements all
each_all address names statements all speakers same each = subst (λ (xs : List (Speaker _)). Each address names statements xs) (sym same) each

-- one more session, at the place behind the others
module _ {D : Type 0} (address : List ℕ → List ℕ) (names : List (List ℕ)) (statements : List ℕ) (speakers : List (Speaker D)) (at default : ℕ) (name : List ℕ) (speaker : Speaker D) where
  pub each_behind : length speakers ≡ at → Each address names statements speakers → name ≡ slice_index_or names at name
      → IsNew address at name (slice_index_or statements at default) speaker → Each address names statements (speakers ++ speaker ∷ [])
  each_behind many each is_name new place count one other found named counted =
      elim (place == at) as (λ test. (place == at) ≡ test → IsNew address place other count one) [
        | true ↦ λ test.
            let same : at ≡ place = grind (arith, nat_tests) in
            let is_one : speaker ≡ one = same_Some _ _ (sym (get_behind speakers speaker) ∙ ap (slice_get (speakers ++ speaker ∷ [])) (many ∙ same) ∙ found) in
            let is_other : name ≡ other = is_name ∙ get_or_from_slice_get names at other name (ap (slice_get names) same ∙ named) in
            let is_count : slice_index_or statements at default ≡ count = get_or_from_slice_get statements at count default (ap (slice_get statements) same ∙ counted) in
            subst (λ (o : Speaker D). IsNew address place other count o) is_one
            (subst (λ n. IsNew address place other n speaker) is_count
            (subst (λ (o : List ℕ). IsNew address place o (slice_index_or statements at default) speaker) is_other
            (subst (λ n. IsNew address n name (slice_index_or statements at default) speaker) same new)))
        | false ↦ λ test.
            let apart : place ≢ at = grind (arith, nat_tests) in
            let within : place < length (speakers ++ speaker ∷ []) = slice_get_within (speakers ++ speaker ∷ []) place one found in
            let less : place < length speakers = omega (arith, length-append speakers (speaker ∷ [])) in
            each place count one other (sym (get_front speakers (speaker ∷ []) place less) ∙ found) named counted
      ] refl

module _ {D : Type 0} (address : List ℕ → List ℕ) (epoch : ℤ) (script : Script) (parts : Parts) (speakers : List (Speaker D)) (statements : List ℕ) where
  new_is : (place : ℕ) (name : List ℕ) (speaker : Speaker D) → statements ≡ counts (length script.names) script.lines → StateStands address parts (opening address epoch script.names)
      → slice_get script.names place ≡ Some name → IsNew address place name (count_of place script.lines) speaker
      → IsSpeaker address script.lines parts (opening address epoch script.names) place (new_session place name) [] speaker
  new_is place name speaker are stands there new = record {
    before = record {
      session_stands = new.stands;
      before = refl;
      state_stands = stands;
      placed = slice_get-map (λ (other : List ℕ). codes "main") script.names place ∙ ap (option_map (λ (other : List ℕ). codes "main")) there;
      later = no_chunks speaker.session.draft.chunks.base parts.chunks new.base;
    };
    number = refl;
    said = new.silent;
    sound = refl;
    truly = tt;
    room = new.room;
  }

  pub speakers_are : statements ≡ counts (length script.names) script.lines → StateStands address parts (opening address epoch script.names) → AreNew address script.names statements speakers
      → AreSpeakers address script.lines parts (opening address epoch script.names) (new_spoken 0 script.names) speakers
  speakers_are are stands new = record {
    lists = new.lists ∙ sym (as_many_new 0 script.names);
    each = λ place p replies speaker there found.
        let below : place < length script.names = subst (λ n. place < n) new.lists (slice_get_within speakers place speaker found) in
        let named = there_at script.names place below in
        let none : 0 + place ≡ place = omega arith in
        let pair : ◌≡◌ {A = plain.Session × List Reply} (new_session place named.0, []) (p, replies)
        = same_Some _ _ (ap (λ n. Some (new_session n named.0, [])) (sym none) ∙ sym (new_at 0 script.names place named.0 named.1) ∙ there) in
        let counted : slice_get statements place ≡ Some (count_of place script.lines) = ap (λ (ns : List ℕ). slice_get ns place) are ∙ count_at (length script.names) script.lines place below in
        subst (λ (pr : plain.Session × List Reply). IsSpeaker address script.lines parts (opening address epoch script.names) place pr.0 pr.1 speaker) pair
        (new_is place named.0 speaker are stands named.1 (new.each place (count_of place script.lines) speaker named.0 found named.1 counted));
  }

pub run_opened : {D : Type 0} (address : List ℕ → List ℕ) (epoch : ℤ) (script : Script) (running : Running D) (statements : List ℕ) → LinesAreRun
    → statements ≡ counts (length script.names) script.lines
    → ((names : List (List ℕ)) → length names ≡ length statements → StateStands address running.lone.db.parts (opening address epoch names))
    → running.lone.db.parts.moments ≡ [] → running.lone.db.parts.numbers ≡ statements → IsAtRest address running.lone
    → AreNew address script.names statements running.speakers.items
    → IsRunningAt address epoch script 0 running
run_opened address epoch script running statements laws are opens none numbers rest new =
    let many : length script.names ≡ length statements = sym (ap length are ∙ as_many (length script.names) script.lines) in
    let stands = opens script.names many in
    record {
      shared = opening address epoch script.names;
      spoken = new_spoken 0 script.names;
      run = subst (λ (o : List Moment). IsRunTo command address epoch script 0 o (opening address epoch script.names) (new_spoken 0 script.names)) (sym none)
          (laws.first command address epoch script);
      stands = stands;
      speakers = speakers_are address epoch script running.lone.db.parts running.speakers.items statements are stands new;
      rest = rest;
      numbers = numbers ∙ are;
      few = λ place. let made : moments_by place running.lone.db.parts.moments ≡ 0 = ap (moments_by place) none in omega (arith, made);
    }
