-- Workers get their seats one after another, and give them back.
use Rattle.std.proofs.Common.{◌≡◌, ℕ, ◌+◌, ◌<◌, ◌≤◌, ◌⊎◌, inl, inr, length, get_or, take, List, [], ◌∷◌, ◌++◌, refl, sym, ap, ◌∙◌, subst, arith, length-append}
use Rattle.std.proofs.lemmas.List.{length-map, get_or-map, map-append, take_more, get_or_append_left}
use Rattle.std.proofs.lemmas.Bool.Decides.{leb_tells}
use Rattle.std.proofs.Math.Seq.{get_or-append_seam}
use Rattle.seat_gate.specs.History.{Spelling, View, first_view, parted, newcomer, joined_with, gathered}
use Rattle.seat_gate.specs.Words.{GateId}
use Rattle.seat_gate.specs.Working.{IsNewcomer, AreNewcomers, KeepsPlace, AreAllGivenOut, giving_out, view_in, views_of, works_of}
use Rattle.seat_gate.specs.declared.workers.Worker.{Worker}

module _ {W : Type 0} where
  pub same_many : (now old : List (Worker W)) → works_of now ≡ works_of old → length now ≡ length old
  same_many now old same = sym (length-map now (λ (w : Worker W). w.work)) ∙ (ap length same ∙ length-map old (λ (w : Worker W). w.work))

  pub gathered_more : (v : View) (ws : List (Worker W)) (k : ℕ) (d : Worker W) → k < length ws
      → joined_with (gathered v (views_of (take k ws))) (view_in (get_or ws k d).seat) ≡ gathered v (views_of (take (k + 1) ws))
  gathered_more v ws k d lt =
      sym (ap (λ l. gathered v (views_of l)) (take_more ws k d lt)
      ∙ (ap (gathered v) (map-append (λ (w : Worker W). view_in w.seat) (take k ws) (get_or ws k d ∷ []))
      ∙ behind v (views_of (take k ws)) (view_in (get_or ws k d).seat)))
    where
      behind : (v : View) (ws : List View) (w : View) → gathered v (ws ++ w ∷ []) ≡ joined_with (gathered v ws) w
      behind v [] w = refl
      behind v (x ∷ ws) w = behind (joined_with v x) ws w

  -- one worker more
  pub newcomers_more : (id : GateId) (first : View) (works : List W) (ws : List (Worker W)) (work : W) (w : Worker W)
      → AreNewcomers id first works ws → IsNewcomer id (giving_out (length works) first) work w → AreNewcomers id first (works ++ work ∷ []) (ws ++ w ∷ [])
  newcomers_more id first works ws work w are is = record {
    many = length-append ws (w ∷ []) ∙ (ap (λ n. n + 1) are.many ∙ sym (length-append works (work ∷ [])));
    each = λ k d e lt. by_place k d e (nat_cases k lt);
  }
    where
      nat_cases : (k : ℕ) → k < length (works ++ work ∷ []) → (k < length works) ⊎ (k ≡ length works)
      nat_cases k lt =
          let long : length (works ++ work ∷ []) ≡ length works + 1 = length-append works (work ∷ []) in
          elim (leb_tells (length works) k) as (λ b. (k < length works) ⊎ (k ≡ length works)) [
            | inl tells ↦ let le : length works ≤ k = tells.1 in inr (omega (arith, long))
            | inr tells ↦ inl tells.1
          ]

      by_place : (k : ℕ) (d : W) (e : Worker W) → (k < length works) ⊎ (k ≡ length works) → IsNewcomer id (giving_out k first) (get_or (works ++ work ∷ []) k d) (get_or (ws ++ w ∷ []) k e)
      by_place k d e (inl lt) = subst (λ (z : W × Worker W). IsNewcomer id (giving_out k first) z.0 z.1)
          (λ i. (sym (get_or_append_left works (work ∷ []) d k lt) i, sym (get_or_append_left ws (w ∷ []) e k (let m = are.many in omega (arith, m))) i)) (are.each k d e lt)
      by_place k d e (inr same) = subst (λ j. IsNewcomer id (giving_out j first) (get_or (works ++ work ∷ []) j d) (get_or (ws ++ w ∷ []) j e)) (sym same)
          (subst (λ (z : W × Worker W). IsNewcomer id (giving_out (length works) first) z.0 z.1)
          (λ i. (sym (get_or-append_seam works work [] d) i, sym (ap (λ j. get_or (ws ++ w ∷ []) j e) (sym are.many) ∙ get_or-append_seam ws w [] e) i)) is)

pub giving_more : (n : ℕ) (v : View) → parted (giving_out n v) ≡ giving_out (n + 1) v
giving_more n v = let same : v.given + n + 1 ≡ v.given + (n + 1) = omega arith in ap (λ k. record v { given = k }) same

pub keeps_on : (u v w : View) → KeepsPlace u v → KeepsPlace v w → KeepsPlace u w
keeps_on u v w a b = record { opened = b.opened ∙ a.opened; number = b.number ∙ a.number; joined = b.joined ∙ a.joined; given = b.given ∙ a.given }

-- an element of a list that isn't empty
some_of : {X : Type 0} (xs : List X) (k : ℕ) → k < length xs → X
some_of [] k lt = absurd (omega arith)
some_of (x ∷ xs) k lt = x

-- once each has done its work, these are all seats that the first seat of a gate gave out
module _ {W : Type 0} where
  pub all_given_out : (id : GateId) (opened : Spelling) (first start : View) (works : List W) (old new : List (Worker W)) → first ≡ first_view opened → start ≡ giving_out (length works) first
      → AreNewcomers id first works old → length new ≡ length old
      → ((k : ℕ) (d : Worker W) → k < length old → KeepsPlace (view_in (get_or old k d).seat) (view_in (get_or new k d).seat)) → AreAllGivenOut start (views_of new)
  all_given_out id opened first start works old new as_first as_start are same keeps = record {
    number = ap (λ (v : View). v.number) as_start ∙ ap (λ (v : View). v.number) as_first;
    counted =
        let m = are.many in
        let n = length-map new (λ (w : Worker W). view_in w.seat) in
        let given : start.given ≡ 1 + length works = ap (λ (v : View). v.given) as_start ∙ ap (λ (v : View). v.given + length works) as_first in
        omega (arith, same, m, n);
    numbers = λ k d lt. ap (λ (v : View). v.number) (at k d lt) ∙ ((kept k lt).number ∙ (ap (λ (v : View). v.number) (was k lt) ∙ (let next : 1 + k ≡ k + 1 = omega arith in next)));
    givens = λ k d lt. ap (λ (v : View). v.given) (at k d lt) ∙ ((kept k lt).given ∙ ap (λ (v : View). v.given) (was k lt));
  }
    where
      inside : (k : ℕ) → k < length (views_of new) → k < length old
      inside k lt = let n = length-map new (λ (w : Worker W). view_in w.seat) in omega (arith, same, n)

      one : (k : ℕ) → k < length (views_of new) → Worker W
      one k lt = some_of old k (inside k lt)

      at : (k : ℕ) (d : View) (lt : k < length (views_of new)) → get_or (views_of new) k d ≡ view_in (get_or new k (one k lt)).seat
      at k d lt = get_or-map (λ (w : Worker W). view_in w.seat) new k (one k lt) d (let i = inside k lt in omega (arith, same, i))

      kept : (k : ℕ) (lt : k < length (views_of new)) → KeepsPlace (view_in (get_or old k (one k lt)).seat) (view_in (get_or new k (one k lt)).seat)
      kept k lt = keeps k (one k lt) (inside k lt)

      was : (k : ℕ) (lt : k < length (views_of new)) → view_in (get_or old k (one k lt)).seat ≡ newcomer (giving_out k (first_view opened))
      was k lt =
          let m = are.many in
          let i = inside k lt in
          let lt_works : k < length works = omega (arith, m, i) in
          (are.each k (some_of works k lt_works) (one k lt) lt_works).view ∙ ap (λ (v : View). newcomer (giving_out k v)) as_first
