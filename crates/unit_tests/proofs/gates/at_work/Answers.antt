use Rattle.std.proofs.Common.{◌≡◌, ◌≢◌, ℕ, ◌+◌, ◌<◌, ◌==◌, false, length, get_or, map, List, [], ◌∷◌, ◌++◌, None, refl, sym, ap, ◌∙◌, subst, arith}
use Rattle.std.specs.List.{filter, range_with_len, AllByRecursion}
use Rattle.std.proofs.lemmas.List.{length-map, get_or-map}
use Rattle.seat_gate.specs.History.{Spelling, Entry, View, newcomer, gathered, entries_of, HasMade}
use Rattle.seat_gate.specs.Words.{seat_view, shown, IsWhole}
use Rattle.seat_gate.specs.Working.{AreAllGivenOut, giving_out, view_in, views_of}
use Rattle.seat_gate.specs.declared.entry.Entry.{Entry as Shown}
use Rattle.seat_gate.specs.declared.workers.Worker.{Worker}
use Rattle.unit_tests.specs.declared.gates.Listed.{Listed}
use Rattle.unit_tests.specs.declared.gates.Task.{Task}
use Rattle.seat_gate.proofs.Gathering.{gathered_number, gathered_made, all_gathered, whole_each, whole_known, shown_entries}
use Rattle.seat_gate.proofs.WorkerLemmas.{all_given_out}
use Rattle.unit_tests.proofs.gates.at_work.Goals as goal

abbrev nothing : Task
nothing = record { number = 0; is_short = false }

abbrev nobody : Worker Task
nobody = record { seat = None; work = nothing }

pub work_all-workers-requires-clause-seated : goal.work_all-workers-requires-clause-seated
work_all-workers-requires-clause-seated g c κs within k d lt =
    let are = c.in_ok-ready.ensures.new in
    let many = are.many in
    (are.each k nothing d (omega (arith, many))).seated

pub work_all-workers-requires-clause-numbered : goal.work_all-workers-requires-clause-numbered
work_all-workers-requires-clause-numbered g c κs within k d lt =
    let are = c.in_ok-ready.ensures.new in
    let many = are.many in
    let works_many = c.in_ok-works.ensures.many in
    let inside : k < length c.in_ok-works.works.items = omega (arith, many) in
    let is = are.each k nothing d inside in
    let next : 1 + k ≡ k + 1 = omega arith in
    ap (λ (v : View). v.number) is.view ∙ (ap (λ (v : View). v.given + k) c.in_ok-gate.ensures.seat ∙ (next
    ∙ sym (ap (λ (t : Task). t.number) is.work ∙ c.in_ok-works.ensures.numbers k nothing (omega (arith, inside, works_many)))))

pub work_all-workers-requires-clause-own : goal.work_all-workers-requires-clause-own
work_all-workers-requires-clause-own g c κs within k d lt =
    let are = c.in_ok-ready.ensures.new in
    let many = are.many in
    let is = are.each k nothing d (omega (arith, many)) in
    subst HasMade (sym (is.view ∙ ap (λ (v : View). newcomer (giving_out k v)) c.in_ok-gate.ensures.seat)) refl

pub close_all-list-requires-clause-all : goal.close_all-list-requires-clause-all
close_all-list-requires-clause-all g c =
    subst (λ (ws : List (Worker Task)). AreAllGivenOut (seat_view c.seat_workers.new.first) (views_of ws)) (sym c.deref_mut.ensures.value)
    (all_given_out _ _ _ _ _ _ _ c.in_ok-gate.ensures.seat c.in_ok-ready.ensures.first c.in_ok-ready.ensures.new c.work_all-workers.ensures.many c.work_all-workers.ensures.keeps)

abbrev Fit : Listed → Spelling → List Entry → Type 0
Fit list opened log = list.entries.items ≡ map shown log

module _ (first : View) (ws : List View) (all : AreAllGivenOut first ws) (none : first.made ≡ []) (list : Listed) (log : List Entry) (whole : IsWhole Fit list (gathered first ws) log) where
  of_each : (k : ℕ) → k < length ws → filter (λ (e : Shown). e.seat == k + 1) list.entries.items ≡ map shown (get_or ws k first).made
  of_each k lt =
      ap (filter (λ (e : Shown). e.seat == k + 1)) whole.fit
      ∙ (shown_entries (k + 1) log
      ∙ (ap (λ j. map shown (entries_of j log)) (sym (all.numbers k first lt))
      ∙ ap (map shown) (whole_each Fit list first ws log whole k first lt).1))

  known : AllByRecursion (λ (e : Shown). (e.seat ≢ 0) × (e.seat < length ws + 1)) list.entries.items
  known = subst (AllByRecursion (λ (e : Shown). (e.seat ≢ 0) × (e.seat < length ws + 1))) (sym whole.fit)
      (of_shown log (whole_known Fit list (gathered first ws) log whole (gathered_number first ws ∙ all.number) (gathered_made first ws ∙ none)))
    where
      of_shown : (log : List Entry) → AllByRecursion (λ (e : Entry). (e.seat ≢ 0) × (e.seat < (gathered first ws).given)) log → AllByRecursion (λ (e : Shown). (e.seat ≢ 0) × (e.seat < length ws + 1)) (map shown log)
      of_shown [] h = tt
      of_shown (e ∷ log) h = ((h.0.0, let lt : e.seat < (gathered first ws).given = h.0.1 in let is : (gathered first ws).given ≡ length ws + 1 = (all_gathered first ws all).0 in omega arith), of_shown log h.1)

pub returns-clause-each : goal.returns-clause-each
returns-clause-each g c k lt =
    let works = c.in_ok-works.works.items in
    let ready = c.in_ok-ready.ready.items in
    let new = c.work_all-workers.result.items in
    let start = seat_view c.seat_workers.new.first in
    let are = c.in_ok-ready.ensures.new in
    let all = all_given_out _ _ _ _ _ _ _ c.in_ok-gate.ensures.seat c.in_ok-ready.ensures.first are c.work_all-workers.ensures.many c.work_all-workers.ensures.keeps in
    let none : start.made ≡ [] = ap (λ (v : View). v.made) c.in_ok-ready.ensures.first ∙ ap (λ (v : View). v.made) c.in_ok-gate.ensures.seat in
    let log = c.close_all-list.ensures.whole.0 in
    let whole = subst (λ (ws : List (Worker Task)). IsWhole Fit c.close_all-list.result (gathered start (views_of ws)) log) c.deref_mut.ensures.value c.close_all-list.ensures.whole.1 in
    let many : length new ≡ c.args.count = c.work_all-workers.ensures.many ∙ (are.many ∙ c.in_ok-works.ensures.many) in
    let wide : length (views_of new) ≡ length new = length-map new (λ (w : Worker Task). view_in w.seat) in
    let works_many : length works ≡ c.args.count = c.in_ok-works.ensures.many in
    let ready_many : length ready ≡ length works = are.many in
    let short : (get_or new k nobody).work.is_short ≡ false =
    subst (λ (ws : List (Worker Task)). (j : ℕ) (d : Worker Task) → j < length ws → (get_or ws j d).work.is_short ≡ false) c.deref.ensures.value (c.if-not-is_done.ensures refl) k nobody (omega (arith, many)) in
    let was = are.each k nothing nobody (omega (arith, works_many)) in
    let turns : ℕ → List Shown = λ n. map (λ (note : ℕ). record { seat = n; note = note }) (range_with_len 0 c.args.turns) in
    of_each start (views_of new) all none c.close_all-list.result log whole k (omega (arith, wide, many))
    ∙ (ap (λ (v : View). map shown v.made) (get_or-map (λ (w : Worker Task). view_in w.seat) new k nobody start (omega (arith, many)))
    ∙ (c.work_all-workers.ensures.made k nobody (omega (arith, ready_many, works_many)) short
    ∙ (λ i. map shown (was.view i).made ++ turns ((ap (λ (t : Task). t.number) was.work ∙ c.in_ok-works.ensures.numbers k nothing lt) i))))

pub returns-clause-known : goal.returns-clause-known
returns-clause-known g c =
    let works = c.in_ok-works.works.items in
    let new = c.work_all-workers.result.items in
    let start = seat_view c.seat_workers.new.first in
    let are = c.in_ok-ready.ensures.new in
    let all = all_given_out _ _ _ _ _ _ _ c.in_ok-gate.ensures.seat c.in_ok-ready.ensures.first are c.work_all-workers.ensures.many c.work_all-workers.ensures.keeps in
    let none : start.made ≡ [] = ap (λ (v : View). v.made) c.in_ok-ready.ensures.first ∙ ap (λ (v : View). v.made) c.in_ok-gate.ensures.seat in
    let log = c.close_all-list.ensures.whole.0 in
    let whole = subst (λ (ws : List (Worker Task)). IsWhole Fit c.close_all-list.result (gathered start (views_of ws)) log) c.deref_mut.ensures.value c.close_all-list.ensures.whole.1 in
    let many : length (views_of new) ≡ c.args.count = length-map new (λ (w : Worker Task). view_in w.seat) ∙ (c.work_all-workers.ensures.many ∙ (are.many ∙ c.in_ok-works.ensures.many)) in
    subst (λ n. AllByRecursion (λ (e : Shown). (e.seat ≢ 0) × (e.seat < n + 1)) c.close_all-list.result.entries.items) many (known start (views_of new) all none c.close_all-list.result log whole)
