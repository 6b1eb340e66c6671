-- A session's lines are the texts of its own steps.
use Rattle.std.proofs.Common.{◌≡◌, ℕ, zero, suc, ◌<◌, ◌≤◌, ◌==◌, Bool, true, false, if◌then◌else◌, List, [], ◌∷◌, ◌++◌, refl, ap, ◌∙◌, map, arith, le_of_eq}
use Rattle.std.proofs.lemmas.List.{append-nil}
use Rattle.std.proofs.lemmas.Simd.{map-map}
use Rattle.std.proofs.lemmas.Bool.Decides.{eqb_tells}
use Rattle.script_text.specs.declared.scripts.Line.{Line}
use Rattle.plain_sessions.specs.declared.commands.Command.{Command}
use Rattle.plain_sessions.specs.Runs.{commands_of}
use Rattle.workload.specs.Workload.{all_lines, each, line, statements, steps_of, text_of, with_session}

module _ (reads : List ℕ → Command) (place : ℕ) where
  commands_append : (lines more : List Line) → commands_of reads place (lines ++ more) ≡ commands_of reads place lines ++ commands_of reads place more
  commands_append [] more = refl
  commands_append (l ∷ lines) more = by (l.session == place) (commands_append lines more) where
    by : (b : Bool) → commands_of reads place (lines ++ more) ≡ commands_of reads place lines ++ commands_of reads place more
        → (if b then reads l.statement ∷ commands_of reads place (lines ++ more) else commands_of reads place (lines ++ more))
        ≡ (if b then reads l.statement ∷ commands_of reads place lines else commands_of reads place lines) ++ commands_of reads place more
    by true e = ap (λ xs. reads l.statement ∷ xs) e
    by false e = e

  commands_own : (session : ℕ) (texts : List (List ℕ)) → (session == place) ≡ true → commands_of reads place (map (line session) texts) ≡ map reads texts
  commands_own session [] is = refl
  commands_own session (text ∷ texts) is = rw is (ap (λ xs. reads text ∷ xs) (commands_own session texts is))

  commands_other : (session : ℕ) (texts : List (List ℕ)) → (session == place) ≡ false → commands_of reads place (map (line session) texts) ≡ []
  commands_other session [] is = refl
  commands_other session (text ∷ texts) is = rw is (commands_other session texts is)

  commands_none : (seed count : ℕ) → count ≤ place → commands_of reads place (each count (with_session seed) []) ≡ []
  unfolding each
  commands_none seed zero below = refl
  commands_none seed (suc count) below =
      let apart : (count == place) ≡ false = grind (arith, eqb_tells) in
      commands_append (each count (with_session seed) []) (map (line count) (statements seed count))
      ∙ ap (λ xs. xs ++ commands_of reads place (map (line count) (statements seed count))) (commands_none seed count (omega arith))
      ∙ commands_other count (statements seed count) apart

  pub commands_picked : (seed count : ℕ) → place < count → commands_of reads place (each count (with_session seed) []) ≡ map reads (statements seed place)
  unfolding each
  commands_picked seed zero below = absurd (omega arith)
  commands_picked seed (suc count) below =
      commands_append (each count (with_session seed) []) (map (line count) (statements seed count)) ∙ by (count == place) refl (commands_picked seed count) where
        by : (b : Bool) → (count == place) ≡ b
            → (place < count → commands_of reads place (each count (with_session seed) []) ≡ map reads (statements seed place))
            → commands_of reads place (each count (with_session seed) []) ++ commands_of reads place (map (line count) (statements seed count)) ≡ map reads (statements seed place)
        by true e before =
            let same : count ≡ place = grind (arith, eqb_tells) in
            let one : commands_of reads place (map (line count) (statements seed count)) ≡ map reads (statements seed place) =
            commands_own count (statements seed count) e ∙ ap (λ n. map reads (statements seed n)) same in
            let none : commands_of reads place (each count (with_session seed) []) ≡ [] = commands_none seed count (le_of_eq same) in
            ap (λ xs. xs ++ commands_of reads place (map (line count) (statements seed count))) none ∙ one
        by false e before =
            let apart : place < count = grind (arith, eqb_tells) in
            ap (λ xs. commands_of reads place (each count (with_session seed) []) ++ xs) (commands_other count (statements seed count) e)
            ∙ append-nil (commands_of reads place (each count (with_session seed) []))
            ∙ before apart

-- what a session's lines ask
pub asked : (reads : List ℕ → Command) (seed place : ℕ) → place < 8 → commands_of reads place (all_lines seed) ≡ map (λ step. reads (text_of step)) (steps_of seed place)
asked reads seed place below =
    commands_picked reads place seed 8 below ∙ map-map reads text_of (steps_of seed place)
