-- The sessions of a run, when one of them has answered a statement.
use Rattle.std.proofs.Common.{◌≡◌, ◌≢◌, refl, sym, ◌∙◌, ap, subst, ℕ, ℤ, zero, suc, ◌+◌, ◌≤◌, ◌==◌, true, false, List, [], ◌∷◌, ◌++◌, Some, slice_get, slice_set, vec_capacity, arith}
use Rattle.std.specs.List.{AllByRecursion}
use Rattle.std.proofs.lemmas.List.{length-set}
use Rattle.std.proofs.lemmas.Bool.Decides.{nat_tests}
use Rattle.std.proofs.lemmas.Option.{same_Some}
use Rattle.std.proofs.lemmas.Bool.{and_parts as both, and_from as join}
use Rattle.tuple_codec.proofs.Lists.{all_append}
use Rattle.script_text.specs.Collisions.{TellsTruly}
use Rattle.script_text.specs.declared.replies.Reply.{Reply}
use Rattle.script_text.specs.declared.scripts.Line.{Line}
use Rattle.plain_sessions.specs.Records.{Shared}
use Rattle.plain_sessions.specs.Sessions as plain
use Rattle.plain_sessions.specs.declared.commands.Command.{Command}
use Rattle.run_laws.specs.Lines.{Spoken, answered_at}
use Rattle.run_laws.specs.Orders.{count_of}
use Rattle.run_laws.proofs.ListLemmas.{get_put, get_put_other}
use Rattle.session_state.specs.Changes.{Parts}
use Rattle.serving.specs.Serving.{is_sound_reply}
use Rattle.script_run.specs.Running.{AreSpeakers, IsSpeaker, Speaks}
use Rattle.script_run.specs.declared.running.Speaker.{Speaker}

pub truly_behind : (address : List ℕ → List ℕ) (replies : List Reply) (reply : Reply) → AllByRecursion (TellsTruly address) replies → TellsTruly address reply
    → AllByRecursion (TellsTruly address) (replies ++ reply ∷ [])
truly_behind address [] reply all one = (one, tt)
truly_behind address (first ∷ replies) reply all one = (all.0, truly_behind address replies reply all.1 one)

module _ {D : Type 0} (address : List ℕ → List ℕ) (epoch : ℤ) (lines : List Line) (old new : Parts) (shared : Shared) (spoken : Spoken) (speakers : List (Speaker D))
    (place : ℕ) (p : plain.Session) (replies : List Reply) (speaker next : Speaker D) (asked : Command) where
  -- the session that has answered
  its_own : IsSpeaker address lines old shared place p replies speaker → (speaks : Speaks address epoch p asked shared old new speaker next) → vec_capacity next.replies ≡ vec_capacity speaker.replies
      → IsSpeaker address lines new speaks.serves.last place speaks.serves.after (replies ++ speaks.reply ∷ []) next
  its_own is speaks kept = record {
    before = speaks.serves.next;
    number = speaks.serves.number ∙ is.number;
    said = speaks.said ∙ ap (λ (rs : List Reply). rs ++ speaks.reply ∷ []) is.said;
    sound = all_append is_sound_reply replies (speaks.reply ∷ []) is.sound (join (is_sound_reply speaks.reply) true speaks.sound refl);
    truly = truly_behind address replies speaks.reply is.truly speaks.truly;
    room = subst (λ n. count_of place lines ≤ n) (sym kept) is.room;
  }

  -- another one
  another : (speaks : Speaks address epoch p asked shared old new speaker next) → p.number ≡ place
      → (other : ℕ) (q : plain.Session) (said : List Reply) (one : Speaker D) → other ≢ place → IsSpeaker address lines old shared other q said one
      → IsSpeaker address lines new speaks.serves.last other q said one
  another speaks own other q said one apart is = record {
    before = record {
      session_stands = is.before.session_stands;
      before = is.before.before;
      state_stands = speaks.serves.next.state_stands;
      placed = speaks.serves.others q.number (λ same. apart (sym is.number ∙ same ∙ own)) ∙ is.before.placed;
      later = λ k bytes listed. speaks.serves.grown k bytes (is.before.later k bytes listed);
    };
    number = is.number;
    said = is.said;
    sound = is.sound;
    truly = is.truly;
    room = is.room;
  }

  pub speakers_next : AreSpeakers address lines old shared spoken speakers → slice_get spoken place ≡ Some (p, replies) → slice_get speakers place ≡ Some speaker
      → (speaks : Speaks address epoch p asked shared old new speaker next) → vec_capacity next.replies ≡ vec_capacity speaker.replies
      → AreSpeakers address lines new speaks.serves.last (answered_at place (speaks.serves.after, speaks.reply) replies spoken) (slice_set speakers place next)
  speakers_next all there at speaks kept = record {
    lists = length-set speakers place next ∙ all.lists ∙ sym (length-set spoken place (speaks.serves.after, replies ++ speaks.reply ∷ []));
    each = λ other q said one q_there one_at.
        elim (other == place) as (λ test. (other == place) ≡ test → IsSpeaker address lines new speaks.serves.last other q said one) [
          | true ↦ λ test.
              let same : place ≡ other = grind (arith, nat_tests) in
              let pair : ◌≡◌ {A = plain.Session × List Reply} (speaks.serves.after, replies ++ speaks.reply ∷ []) (q, said)
              = same_Some _ _ (sym (get_put spoken place (p, replies) (speaks.serves.after, replies ++ speaks.reply ∷ []) there)
              ∙ ap (slice_get (answered_at place (speaks.serves.after, speaks.reply) replies spoken)) same ∙ q_there) in
              let is_one : next ≡ one = same_Some _ _ (sym (get_put speakers place speaker next at) ∙ ap (slice_get (slice_set speakers place next)) same ∙ one_at) in
              subst (λ (o : Speaker D). IsSpeaker address lines new speaks.serves.last other q said o) is_one
              (subst (λ (pr : plain.Session × List Reply). IsSpeaker address lines new speaks.serves.last other pr.0 pr.1 next) pair
              (subst (λ n. IsSpeaker address lines new speaks.serves.last n speaks.serves.after (replies ++ speaks.reply ∷ []) next) same
              (its_own (all.each place p replies speaker there at) speaks kept)))
          | false ↦ λ test.
              let apart : other ≢ place = grind (arith, nat_tests) in
              another speaks (all.each place p replies speaker there at).number other q said one apart
              (all.each other q said one (sym (get_put_other spoken place other (speaks.serves.after, replies ++ speaks.reply ∷ []) apart) ∙ q_there)
              (sym (get_put_other speakers place other next apart) ∙ one_at))
        ] refl;
  }
