-- A run at its end.
use Rattle.std.proofs.Common.{◌≡◌, refl, sym, ◌∙◌, ap, subst, ℕ, ℤ, suc, ◌<◌, ◌≤◌, ◌^◌, true, nat_lt, nat_le, List, [], ◌∷◌, length, map, Option, None, Some, option_map, slice_get, arith}
use Rattle.std.specs.List.{AllByRecursion, list_all}
use Rattle.std.proofs.lemmas.List.{length-map}
use Rattle.std.proofs.lemmas.Option.{slice_get_within}
use Rattle.std.proofs.lemmas.Bool.Decides.{nat_tests}
use Rattle.std.proofs.lemmas.Bool.{and_parts as both, and_from as join}
use Rattle.tuple_codec.proofs.Lists.{all_weaker, there_at}
use Rattle.tuple_codec.specs.declared.addresses.Address.{Address}
use Rattle.chunk_store.specs.Chunks.{Chunk}
use Rattle.schema_model.specs.PlainCommits.{Commits}
use Rattle.schema_model.specs.WrittenForms.{database_address}
use Rattle.script_text.specs.Collisions.{AllTellTruly, TellsTruly}
use Rattle.script_text.specs.Shown.{IsPrintable, IsShown, is_printable_moment, is_printable_reply, is_shown_moment, is_shown_reply}
use Rattle.script_text.specs.declared.outputs.BranchLine.{BranchLine}
use Rattle.script_text.specs.declared.outputs.RunText.{RunText}
use Rattle.script_text.specs.declared.replies.Reply.{Reply}
use Rattle.script_text.specs.declared.scripts.Moment.{Moment}
use Rattle.script_text.specs.declared.scripts.Script.{Script}
use Rattle.plain_sessions.specs.Commands.{command}
use Rattle.plain_sessions.specs.Output.{IsPlainRun, as_address, shown_branch}
use Rattle.plain_sessions.specs.Records.{Branch}
use Rattle.plain_sessions.specs.Sessions as plain
use Rattle.run_laws.specs.Laws.{LinesAreRun, shown_by}
use Rattle.run_laws.specs.Lines.{Spoken, replies_of}
use Rattle.run_laws.specs.Orders.{IsTextOrder, is_within}
use Rattle.session_state.specs.Changes.{BranchStands, Paired}
use Rattle.serving.specs.Serving.{is_sound_reply}
use Rattle.script_run.specs.Running.{IsRunningAt, IsSpeaker}
use Rattle.script_run.specs.Scripts.{IsSoundScript}
use Rattle.script_run.specs.declared.running.Running.{Running}
use Rattle.script_run.specs.declared.running.Speaker.{Speaker}

-- ---- branches

merging_is : (k : Option Address) (merging : Option (List ℕ)) → option_map (λ (a : Address). a.0) k ≡ merging → k ≡ option_map as_address merging
merging_is None None same = refl
merging_is None (Some m) same = absurd (cc)
merging_is (Some a) None same = absurd (cc)
merging_is (Some a) (Some m) same = let inner : a.0 ≡ m = cc in ap (λ (bytes : List ℕ). Some (as_address bytes)) inner

module _ (address : List ℕ → List ℕ) (chunks : List Chunk) (commits : Commits) where
  branch_is : (line : BranchLine) (branch : Branch) → BranchStands address chunks commits line branch → line ≡ shown_branch address branch
  branch_is line branch stands =
      let head : line.rec.head ≡ as_address branch.state.head = ap as_address stands.stands.head in
      let working : line.rec.working ≡ as_address (database_address address branch.state.working) = ap as_address (sym stands.stands.working.stands.named) in
      let staged : line.rec.staged ≡ as_address (database_address address branch.state.staged) = ap as_address (sym stands.stands.staged.stands.named) in
      let merging : line.rec.merging ≡ option_map as_address branch.state.merging = merging_is line.rec.merging branch.state.merging stands.stands.merging in
      let made : List ℕ → Address → Address → Address → Option Address → BranchLine
      = λ name h w s m. record { name = name; rec = record { head = h; working = w; staged = s; merging = m } } in
      ap (λ (name : List ℕ). made name line.rec.head line.rec.working line.rec.staged line.rec.merging) stands.name
      ∙ ap (λ (h : Address). made branch.name h line.rec.working line.rec.staged line.rec.merging) head
      ∙ ap (λ (w : Address). made branch.name (as_address branch.state.head) w line.rec.staged line.rec.merging) working
      ∙ ap (λ (s : Address). made branch.name (as_address branch.state.head) (as_address (database_address address branch.state.working)) s line.rec.merging) staged
      ∙ ap (λ (m : Option Address). made branch.name (as_address branch.state.head) (as_address (database_address address branch.state.working)) (as_address (database_address address branch.state.staged)) m) merging

  pub branches_are : (lines : List BranchLine) (branches : List Branch) → Paired (BranchStands address chunks commits) lines branches → lines ≡ map (shown_branch address) branches
  branches_are [] [] stand = refl
  branches_are [] (branch ∷ branches) stand = absurd stand
  branches_are (line ∷ lines) [] stand = absurd stand
  branches_are (line ∷ lines) (branch ∷ branches) stand =
      ap (λ (more : List BranchLine). line ∷ more) (branches_are lines branches stand.1) ∙ ap (λ (first : BranchLine). first ∷ map (shown_branch address) branches) (branch_is line branch stand.0)

-- ---- replies

-- what is true of each session's replies is true of all
module _ (P : List Reply → Type 0) where
  pub all_of : (spoken : Spoken) → ((place : ℕ) (p : plain.Session) (replies : List Reply) → slice_get spoken place ≡ Some (p, replies) → P replies) → AllByRecursion P (replies_of spoken)
  all_of [] each = tt
  all_of (one ∷ spoken) each = (each 0 one.0 one.1 refl, all_of spoken (λ place p replies h. each (suc place) p replies h))

all_sound : (spoken : Spoken) → ((place : ℕ) (p : plain.Session) (replies : List Reply) → slice_get spoken place ≡ Some (p, replies) → list_all is_sound_reply replies ≡ true)
    → list_all (list_all is_sound_reply) (replies_of spoken) ≡ true
all_sound [] each = refl
all_sound (one ∷ spoken) each =
    join (list_all is_sound_reply one.1) (list_all (list_all is_sound_reply) (replies_of spoken)) (each 0 one.0 one.1 refl) (all_sound spoken (λ place p replies h. each (suc place) p replies h))

said_by : {D : Type 0} (speakers : List (Speaker D)) (spoken : Spoken) → length speakers ≡ length spoken
    → ((place : ℕ) (p : plain.Session) (replies : List Reply) (speaker : Speaker D) → slice_get spoken place ≡ Some (p, replies) → slice_get speakers place ≡ Some speaker → speaker.replies.items ≡ replies)
    → map (λ (speaker : Speaker D). speaker.replies.items) speakers ≡ replies_of spoken
said_by [] [] many each = refl
said_by [] (one ∷ spoken) many each = absurd (omega arith)
said_by (speaker ∷ speakers) [] many each = absurd (omega arith)
said_by (speaker ∷ speakers) (one ∷ spoken) many each =
    let rest : length speakers ≡ length spoken = omega arith in
    ap (λ (first : List Reply). first ∷ map (λ (other : Speaker _). other.replies.items) speakers) (each 0 one.0 one.1 speaker refl refl)
    ∙ ap (λ (more : List (List Reply)). one.1 ∷ more) (said_by speakers spoken rest (λ place p replies other h g. each (suc place) p replies other h g))

pub printable_reply : (reply : Reply) → is_sound_reply reply ≡ true → is_printable_reply reply ≡ true
printable_reply reply h = (both (is_printable_reply reply) (is_shown_reply reply) h).0

pub shown_reply : (reply : Reply) → is_sound_reply reply ≡ true → is_shown_reply reply ≡ true
shown_reply reply h = (both (is_printable_reply reply) (is_shown_reply reply) h).1

module _ {D : Type 0} (address : List ℕ → List ℕ) (epoch : ℤ) (script : Script) (running : Running D) (ended : IsRunningAt address epoch script (length script.lines) running) where
  -- what is shown of the run, as the machine shows it
  pub replies_are : map (λ (speaker : Speaker D). speaker.replies.items) running.speakers.items ≡ replies_of ended.spoken
  replies_are = said_by running.speakers.items ended.spoken ended.speakers.lists (λ place p replies speaker h g. (ended.speakers.each place p replies speaker h g).said)

  abbrev shows : List (List Reply) → List Moment → List BranchLine → RunText
  shows replies order branches = record { names = script.names; replies = replies; order = order; branches = branches }

  pub shown_is : (replies : List (List Reply)) (order : List Moment) (branches : List BranchLine)
      → replies ≡ map (λ (speaker : Speaker D). speaker.replies.items) running.speakers.items → order ≡ running.lone.db.parts.moments → branches ≡ running.lone.db.parts.branches
      → record { names = script.names; replies = replies; order = order; branches = branches } ≡ shown_by address script running.lone.db.parts.moments ended.shared ended.spoken
  shown_is replies order branches said in_order lines =
      ap (λ (rs : List (List Reply)). shows rs order branches) (said ∙ replies_are)
      ∙ ap (λ (o : List Moment). shows (replies_of ended.spoken) o branches) in_order
      ∙ ap (λ (bs : List BranchLine). shows (replies_of ended.spoken) running.lone.db.parts.moments bs)
      (lines ∙ branches_are address running.lone.db.parts.chunks ended.shared.commits running.lone.db.parts.branches ended.shared.branches ended.stands.branches)

  pub is_plain : LinesAreRun → IsPlainRun command address epoch script (shown_by address script running.lone.db.parts.moments ended.shared ended.spoken)
  is_plain laws = laws.plain command address epoch script running.lone.db.parts.moments ended.shared ended.spoken ended.run

  -- the session at a place has its speaker
  speaker_at : (place : ℕ) (p : plain.Session) (replies : List Reply) → slice_get ended.spoken place ≡ Some (p, replies)
      → (speaker : Speaker D) × IsSpeaker address script.lines running.lone.db.parts ended.shared place p replies speaker
  speaker_at place p replies h =
      let one = there_at running.speakers.items place (subst (λ n. place < n) (sym ended.speakers.lists) (slice_get_within ended.spoken place (p, replies) h)) in
      (one.0, ended.speakers.each place p replies one.0 h one.1)

  pub is_truly : AllTellTruly address (replies_of ended.spoken)
  is_truly = all_of (λ (replies : List Reply). AllByRecursion (TellsTruly address) replies) ended.spoken (λ place p replies h. (speaker_at place p replies h).1.truly)

  pub is_in_order : IsTextOrder script running.lone.db.parts.moments
  is_in_order = ended.run.order_to.rises

  sound_replies : list_all (list_all is_sound_reply) (replies_of ended.spoken) ≡ true
  sound_replies = all_sound ended.spoken (λ place p replies h. (speaker_at place p replies h).1.sound)

  as_many_replies : length (replies_of ended.spoken) ≡ length script.names
  as_many_replies = length-map ended.spoken (λ (one : plain.Session × List Reply). one.1) ∙ ended.run.lists

  pub is_printable : IsPrintable (shown_by address script running.lone.db.parts.moments ended.shared ended.spoken)
  is_printable = record {
    lists = as_many_replies;
    replies = all_weaker (list_all is_sound_reply) (list_all is_printable_reply) (λ replies h. all_weaker is_sound_reply is_printable_reply printable_reply replies h) (replies_of ended.spoken) sound_replies;
    moments = all_weaker (is_within script) (is_printable_moment (length script.names)) (λ moment h. (both (nat_lt moment.session (length script.names)) (nat_le moment.statement (length script.lines)) h).0)
        running.lone.db.parts.moments ended.run.order_to.within;
  }

  pub is_shown : IsSoundScript script → IsShown (shown_by address script running.lone.db.parts.moments ended.shared ended.spoken)
  is_shown sound = record {
    names = sound.names;
    distinct = sound.distinct;
    lists = as_many_replies;
    replies = all_weaker (list_all is_sound_reply) (list_all is_shown_reply) (λ replies h. all_weaker is_sound_reply is_shown_reply shown_reply replies h) (replies_of ended.spoken) sound_replies;
    moments = all_weaker (is_within script) (is_shown_moment (length script.names)) (λ moment h.
        let parts = both (nat_lt moment.session (length script.names)) (nat_le moment.statement (length script.lines)) h in
        let up : nat_le moment.statement (length script.lines) ≡ true = parts.1 in
        let few : length script.lines ≤ 20000 = sound.few in
        let fits : moment.statement ≤ length script.lines = grind (arith, nat_tests) in
        let less : moment.statement < 2 ^ 32 = omega arith in
        let test : nat_lt moment.statement (2 ^ 32) ≡ true = grind (arith, nat_tests) in
        join (nat_lt moment.session (length script.names)) (nat_lt moment.statement (2 ^ 32)) parts.0 test) running.lone.db.parts.moments ended.run.order_to.within;
  }
