-- How many rows the workload's table has in the end.
use Rattle.std.proofs.Common.{◌≡◌, ap, ◌∙◌, ℕ, ◌+◌, ◌*◌, refl, List, [], ◌∷◌, ◌++◌, length, arith, length-append}
use Rattle.std.specs.List.{flat_map}
use Rattle.std.proofs.lemmas.Grind.{flat_map-append}
use Rattle.std.proofs.lemmas.List.{length-map}
use Rattle.workload.specs.Workload.{steps_of}
use Rattle.load_laws.specs.Loaded.{all_steps, inserted, last_rows, loaded}
use Rattle.load_laws.proofs.ScriptBatches.{batches_stand}
use Rattle.load_laws.proofs.ScriptLemmas.{session_inserted}

of_session : (seed session : ℕ) → length (flat_map inserted (steps_of seed session)) ≡ 500
of_session seed session = ap length (session_inserted seed session) ∙ (batches_stand seed session).many

of_sessions : (seed : ℕ) (sessions : List ℕ) → length (flat_map inserted (flat_map (steps_of seed) sessions)) ≡ 500 * length sessions
of_sessions seed [] = refl
of_sessions seed (session ∷ sessions) =
    let here : length (flat_map inserted (steps_of seed session)) ≡ 500 = of_session seed session in
    let others : length (flat_map inserted (flat_map (steps_of seed) sessions)) ≡ 500 * length sessions = of_sessions seed sessions in
    let parts : length (flat_map inserted (steps_of seed session) ++ flat_map inserted (flat_map (steps_of seed) sessions)) ≡ length (flat_map inserted (steps_of seed session)) + length (flat_map inserted (flat_map (steps_of seed) sessions))
    = length-append (flat_map inserted (steps_of seed session)) (flat_map inserted (flat_map (steps_of seed) sessions)) in
    ap length (flat_map-append inserted (steps_of seed session) (flat_map (steps_of seed) sessions)) ∙ parts ∙ omega arith

pub table_is_full : (seed : ℕ) → length (loaded seed).rows ≡ 4000
unfolding loaded
table_is_full seed = length-map (last_rows (all_steps seed)) _ ∙ length-map (flat_map inserted (all_steps seed)) _ ∙ of_sessions seed (0 ∷ 1 ∷ 2 ∷ 3 ∷ 4 ∷ 5 ∷ 6 ∷ 7 ∷ [])
