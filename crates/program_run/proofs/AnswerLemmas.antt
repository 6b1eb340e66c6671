-- What a script comes to where a step of the answer failed, and that a text tells one run or one stop alone.
use Rattle.std.proofs.Common.{◌≡◌, ℕ, ℤ, List, Ok, Err, refl, subst, sym, ◌∙◌}
use Rattle.chunk_store.specs.declared.faults.PutFault.{PutFault}
use Rattle.chunk_store.specs.declared.faults.PutFault.TheVariants as put
use Rattle.script_text.specs.Output.{stop_text, text}
use Rattle.script_text.specs.Shown.{HasOneReading, HasOneStop, IsSameShown, IsSameStop, IsShown, IsShownStop}
use Rattle.script_text.specs.declared.outputs.RunText.{RunText}
use Rattle.script_text.specs.declared.outputs.StopText.{StopText}
use Rattle.script_text.specs.declared.scripts.Script.{Script}
use Rattle.std.specs.Io.KnownBytes.{Appends}
use Rattle.std.specs.Prelude.{Option, Some, length, ◌<◌}
use Rattle.wire_io.specs.Moves.{AppendsFront}
use Rattle.run_laws.specs.Stops.{IsStoppedAt}
use Rattle.script_run.specs.Following.{ReplaysAs}
use Rattle.script_run.specs.declared.following.Replayed.{Replayed}
use Rattle.script_run.specs.declared.following.Replayed.TheVariants as replayed
use Rattle.shared_db.specs.Opening.{IsOpeningFault}
use Rattle.program_run.specs.Answers.{of_put}
use Rattle.program_run.specs.Stops.{AnswersPart, Comes, ComesOf, Stop, StopsAt, WritesStop}
use Rattle.program_run.specs.declared.answering.NoAnswer.{NoAnswer}
use Rattle.program_run.specs.declared.answering.NoAnswer.TheVariants as fault
use Rattle.program_run.specs.declared.words.MomentOrder.TheVariants.{Given}
use Rattle.program_run.specs.declared.words.ScriptRun.{ScriptRun}

pub comes_put : (address : List ℕ → List ℕ) (asked : ScriptRun) (read : Script) (fault : PutFault) → IsOpeningFault address asked.epoch fault → ComesOf address asked read (Err (of_put fault))
comes_put address asked read put.Memory opens = tt
comes_put address asked read (put.Collision clash) opens = opens

-- a text shows one run alone
pub alone_by : HasOneReading → (run other : RunText) (written : List ℕ) → IsShown run → written ≡ text run → IsShown other → text other ≡ written → IsSameShown run other
alone_by one run other written shown prints other_shown same = one run other shown other_shown (sym prints ∙ sym same)

-- and one stop alone
pub stop_alone_by : HasOneStop → (address : List ℕ → List ℕ) (epoch : ℤ) (read : Script) (stop other : StopText) → IsStoppedAt address epoch read stop → IsShownStop other → other.names ≡ read.names
    → stop_text other ≡ stop_text stop → IsSameStop stop other
stop_alone_by one address epoch read stop other stops shown names same = one stop other stops.shown shown (stops.names ∙ sym names) (sym same)

-- a run that was led along its order
pub run_comes : (address : List ℕ → List ℕ) (epoch date : ℤ) (read : Script) (replay : Replayed) (run : RunText) (written : List ℕ) → HasOneReading → date ≡ epoch
    → replay ≡ replayed.Run run → ReplaysAs address date read replay → written ≡ text run
    → ComesOf address (record { order = Given; epoch = epoch }) read (Ok written)
run_comes address epoch date read replay run written one same is came prints =
    let there = subst (λ (e : ℤ). ReplaysAs address e read (replayed.Run run)) same (subst (λ (r : Replayed). ReplaysAs address date read r) is came) in
    record {
      script = read;
      run = run;
      reads = refl;
      runs = there.plain;
      truly = there.truly;
      ordered = there.order;
      shown = there.shown;
      prints = prints;
      alone = λ other shown same. alone_by one run other written there.shown prints shown same;
    }

-- and one that stopped
pub stop_comes : (address : List ℕ → List ℕ) (epoch date : ℤ) (read : Script) (replay : Replayed) (stop : StopText) (written : List ℕ) → HasOneStop → date ≡ epoch
    → replay ≡ replayed.Stop stop → ReplaysAs address date read replay → written ≡ stop_text stop
    → ComesOf address (record { order = Given; epoch = epoch }) read (Err (fault.Stopped written))
stop_comes address epoch date read replay stop written one same is came prints =
    let there = subst (λ (e : ℤ). ReplaysAs address e read (replayed.Stop stop)) same (subst (λ (r : Replayed). ReplaysAs address date read r) is came) in
    (refl, (stop, there, λ other shown names alike. stop_alone_by one address epoch read stop other there shown names alike, prints))

stopped_at : (address : List ℕ → List ℕ) (asked : ScriptRun) (bytes : List ℕ) (why : NoAnswer) (written : List ℕ) → why ≡ fault.Stopped written
    → Comes address asked bytes (Err why) → StopsAt address asked bytes written
stopped_at address asked bytes why written is came = subst (λ (f : NoAnswer). Comes address asked bytes (Err f)) is came

-- the text of a stop was appended, or a part of it
pub stop_written : (address : List ℕ → List ℕ) (asked : ScriptRun) (bytes : List ℕ) (why : NoAnswer) (written lent : List ℕ) (old new : Option (List ℕ)) → why ≡ fault.Stopped written
    → Comes address asked bytes (Err why) → lent ≡ written → Appends old new lent → WritesStop address asked (Some bytes) old new
stop_written address asked bytes why written lent old new is came same writes =
    let there = stopped_at address asked bytes why written is came in
    record {
      in_order = there.in_order;
      script = there.read;
      reads = there.reads;
      stop = there.stop;
      stops = there.stops;
      alone = there.alone;
      writes = subst (λ (text : List ℕ). Appends old new text) (same ∙ there.is) writes;
    }

pub stop_part : (address : List ℕ → List ℕ) (asked : ScriptRun) (bytes : List ℕ) (why : NoAnswer) (written lent : List ℕ) (old new : Option (List ℕ)) (room : ℕ) → why ≡ fault.Stopped written
    → Comes address asked bytes (Err why) → lent ≡ written → room < length lent → AppendsFront old new lent → AnswersPart address asked bytes old new room
stop_part address asked bytes why written lent old new room is came same wider writes = record {
  written = lent;
  wanted = Stop (subst (λ (text : List ℕ). StopsAt address asked bytes text) (sym same) (stopped_at address asked bytes why written is came));
  wider = wider;
  writes = writes;
}
