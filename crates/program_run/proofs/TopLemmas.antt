-- From the bytes that were read to the whole input.
use Rattle.std.proofs.Common.{◌≡◌, ◌≢◌, inl, inr, refl, sym, ◌∙◌, ap, subst, ℕ, ◌<◌, ◌≤◌, Bool, true, false, nat_lt, List, [], ◌++◌, length, Option, Some, None, Result, Ok, Err, arith}
use Rattle.std.specs.Io.KnownBytes.{Appends, Consumes, IsAtEnd}
use Rattle.std.proofs.lemmas.List.{append-nil, length-append}
use Rattle.std.proofs.lemmas.Bool.Decides.{nat_tests}
use Rattle.tuple_codec.proofs.Truths.{if_true}
use Rattle.script_text.specs.Input.{bad, lines_of, most_bytes, script, script_in}
use Rattle.script_text.specs.declared.faults.BadScript.{BadScript}
use Rattle.script_text.specs.declared.scripts.Script.{Script}
use Rattle.script_text.specs.Lines.{fault_line}
use Rattle.program_run.specs.Headline.{HasScript, WritesAnswer}
use Rattle.program_run.specs.Stops.{Answer, Answers, AnswersAll, AnswersPart, Collides, Collision, FallsShort, Fault, Faults, IsToWrite, IsTold, IsWanted, Stop, Stops, StopsThere, WritesCollision, WritesFault, WritesStop}
use Rattle.program_run.specs.Words.{is_given}
use Rattle.program_run.specs.declared.words.ScriptRun.{ScriptRun}
use Rattle.script_text.specs.declared.status.Status.{Status}
use Rattle.script_text.specs.declared.status.Status.TheVariants as status

-- the bytes that were read, of those that a source had left: all of them, or more than a script may have
pub record IsRead (told left : Option (List ℕ)) (bytes : List ℕ) : Type 0 where
  pub consumed : Consumes told left bytes
  pub ended : length bytes ≤ 16777216 → IsAtEnd left

too_long : (bytes : List ℕ) (with_order : Bool) → 16777216 < length bytes → script bytes with_order ≡ bad 0 1
too_long bytes with_order long =
    let test : nat_lt most_bytes (length bytes) ≡ true = grind (arith, nat_tests) in
    if_true (nat_lt most_bytes (length bytes)) (bad 0 1) (script_in with_order (lines_of bytes)) test

same_script : (with_order : Bool) (input bytes rest : List ℕ) → input ≡ bytes ++ rest → (length bytes ≤ 16777216 → rest ≡ []) → script input with_order ≡ script bytes with_order
same_script with_order input bytes rest split ended =
    elim (nat_lt 16777216 (length bytes)) as (λ test. nat_lt 16777216 (length bytes) ≡ test → script input with_order ≡ script bytes with_order) [
      | true ↦ λ test.
          let long : 16777216 < length bytes = grind (arith, nat_tests) in
          let longer : 16777216 < length input = omega (arith, ap length split, length-append bytes rest) in
          too_long input with_order longer ∙ sym (too_long bytes with_order long)
      | false ↦ λ test.
          let short : length bytes ≤ 16777216 = grind (arith, nat_tests) in
          ap (λ text. script text with_order) (split ∙ ap (λ more. bytes ++ more) (ended short) ∙ append-nil bytes)
    ] refl

pub whole_script : (with_order : Bool) (told left : Option (List ℕ)) (bytes : List ℕ) → IsRead told left bytes → HasScript told with_order (script bytes with_order)
whole_script with_order None left bytes read = tt
whole_script with_order (Some input) None bytes read = absurd read.consumed
whole_script with_order (Some input) (Some rest) bytes read = same_script with_order input bytes rest read.consumed read.ended

-- where the bytes make a script, the whole input was read
ended : (with_order : Bool) (told left : Option (List ℕ)) (bytes : List ℕ) (read : Script) → IsRead told left bytes → script bytes with_order ≡ Ok read → IsAtEnd left
ended with_order told left bytes read taken is =
    elim (nat_lt 16777216 (length bytes)) as (λ test. nat_lt 16777216 (length bytes) ≡ test → IsAtEnd left) [
      | true ↦ λ test.
          let long : 16777216 < length bytes = grind (arith, nat_tests) in
          let differ : bad 0 1 ≡ Ok read = sym (too_long bytes with_order long) ∙ is in
          absurd (cc)
      | false ↦ λ test. let short : length bytes ≤ 16777216 = grind (arith, nat_tests) in taken.ended short
    ] refl

pub answers_whole : (address : List ℕ → List ℕ) (asked : ScriptRun) (told left old new : Option (List ℕ)) (bytes : List ℕ) → IsRead told left bytes → AnswersAll address asked bytes old new → WritesAnswer address asked told left old new
answers_whole address asked told left old new bytes read all = record {
  read = script bytes (is_given asked.order);
  script = whole_script (is_given asked.order) told left bytes read;
  ended = ended (is_given asked.order) told left bytes all.answers.script read all.answers.reads;
  written = all.written;
  answers = all.answers;
  writes = all.writes;
}

pub told_fault : (with_order : Bool) (told left : Option (List ℕ)) (bytes : List ℕ) (fault : BadScript) → IsRead told left bytes → script bytes with_order ≡ Err fault → HasScript told with_order (Err fault)
told_fault with_order told left bytes fault read is = subst (λ (r : Result Script BadScript). HasScript told with_order r) is (whole_script with_order told left bytes read)

pub faults_whole : (asked : ScriptRun) (told left old new : Option (List ℕ)) (bytes : List ℕ) → IsRead told left bytes
    → (fault : BadScript) × (script bytes (is_given asked.order) ≡ Err fault) × Appends old new (fault_line fault) → WritesFault asked told old new
faults_whole asked told left old new bytes read wrote = record { bad = wrote.0; breaks = told_fault (is_given asked.order) told left bytes wrote.0 read wrote.1; writes = wrote.2 }

told_script : (with_order : Bool) (told left : Option (List ℕ)) (bytes : List ℕ) (read : Script) → IsRead told left bytes → script bytes with_order ≡ Ok read → HasScript told with_order (Ok read)
told_script with_order told left bytes read taken is = subst (λ (r : Result Script BadScript). HasScript told with_order r) is (whole_script with_order told left bytes taken)

pub stops_whole : (address : List ℕ → List ℕ) (asked : ScriptRun) (told left old new : Option (List ℕ)) (bytes : List ℕ) → IsRead told left bytes → WritesStop address asked (Some bytes) old new → WritesStop address asked told old new
stops_whole address asked told left old new bytes read wrote = record {
  in_order = wrote.in_order;
  script = wrote.script;
  reads = told_script (is_given asked.order) told left bytes wrote.script read wrote.reads;
  stop = wrote.stop;
  stops = wrote.stops;
  alone = wrote.alone;
  writes = wrote.writes;
}

pub collides_whole : (address : List ℕ → List ℕ) (asked : ScriptRun) (told left old new : Option (List ℕ)) (bytes : List ℕ) → IsRead told left bytes → WritesCollision address asked (Some bytes) old new → WritesCollision address asked told old new
collides_whole address asked told left old new bytes read wrote = record {
  script = wrote.script;
  reads = told_script (is_given asked.order) told left bytes wrote.script read wrote.reads;
  clash = wrote.clash;
  opens = wrote.opens;
  writes = wrote.writes;
}

wanted_whole : (address : List ℕ → List ℕ) (asked : ScriptRun) (told left : Option (List ℕ)) (bytes written : List ℕ) → IsRead told left bytes
    → IsWanted address asked bytes written → IsToWrite address asked told written
wanted_whole address asked told left bytes written read (Answer answer) = Answers (script bytes (is_given asked.order)) (whole_script (is_given asked.order) told left bytes read) answer
wanted_whole address asked told left bytes written read (Fault bad is line) = Faults bad (told_fault (is_given asked.order) told left bytes bad read is) line
wanted_whole address asked told left bytes written read (Stop stops) = Stops stops.read stops.stop (told_script (is_given asked.order) told left bytes stops.read read stops.reads) stops.stops stops.is
wanted_whole address asked told left bytes written read (Collision said clash is opens line) = Collides said clash (told_script (is_given asked.order) told left bytes said read is) opens line

pub falls_whole : (address : List ℕ → List ℕ) (asked : ScriptRun) (told left old new : Option (List ℕ)) (bytes : List ℕ) (room : ℕ) → IsRead told left bytes
    → AnswersPart address asked bytes old new room → FallsShort address asked told old new room
falls_whole address asked told left old new bytes room read part = record {
  written = part.written;
  wanted = wanted_whole address asked told left bytes part.written read part.wanted;
  wider = part.wider;
  writes = part.writes;
}

-- the fault of a told input is that of the bytes that were read
told_of : (with_order : Bool) (told left : Option (List ℕ)) (bytes : List ℕ) (fault : BadScript) → IsRead told left bytes → IsTold told with_order fault → script bytes with_order ≡ Err fault
told_of with_order None left bytes fault read is = absurd is
told_of with_order (Some input) left bytes fault read is = sym (whole_script with_order (Some input) left bytes read) ∙ is

stops_by : (result : Status) → result ≢ status.Done → result ≢ status.Order → result ≢ status.Collision → result ≢ status.Usage → StopsThere result
stops_by status.Done done order collision usage = absurd (done refl)
stops_by status.Usage done order collision usage = absurd (usage refl)
stops_by status.Order done order collision usage = absurd (order refl)
stops_by status.Collision done order collision usage = absurd (collision refl)
stops_by status.Script done order collision usage = inl refl
stops_by status.Read done order collision usage = inr (inl refl)
stops_by status.Write done order collision usage = inr (inr (inl refl))
stops_by status.Memory done order collision usage = inr (inr (inr refl))

pub stops_told : (with_order : Bool) (told left : Option (List ℕ)) (bytes : List ℕ) (result : Status) → IsRead told left bytes
    → ((fault : BadScript) → script bytes with_order ≡ Err fault → (result ≢ status.Done) × (result ≢ status.Order) × (result ≢ status.Collision)) → result ≢ status.Usage
    → (fault : BadScript) → IsTold told with_order fault → StopsThere result
stops_told with_order told left bytes result read apart usage fault is =
    let others = apart fault (told_of with_order told left bytes fault read is) in
    stops_by result others.0 others.1 others.2 usage
