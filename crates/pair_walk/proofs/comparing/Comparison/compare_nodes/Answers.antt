use Rattle.std.proofs.Common.{◌≡◌, ◌∷◌, ℕ, List, suc, drop, ap, sym, ◌∙◌, subst}
use Rattle.std.specs.Str.{bytes_eq}
use Rattle.std.proofs.lemmas.Map.Lookups.{exact_unsigned}
use Rattle.std.proofs.lemmas.Slice.Eq.{bytes_eq-Decides}
use Rattle.pair_walk.specs.Counts.{counted}
use Rattle.pair_walk.specs.Heads.{descended}
use Rattle.pair_walk.specs.Turns.{Compared, IsTurn}
use Rattle.pair_walk.proofs.Arms.{arm_new_higher, arm_old_higher, arm_shared, higher_apart, lower_apart}
use Rattle.pair_walk.proofs.TurnLemmas.{turn_both_opened}
use Rattle.pair_walk.proofs.comparing.Comparison.compare_nodes.Goals as goal

pub returns-in-Less : goal.returns-in-Less
returns-in-Less g c =
    subst (IsTurn c.args.self.now) (sym c.open_new.ensures)
    (arm_new_higher c.args.self.now (suc c.args.old.0) c.args.new.0 c.requires.old.0 c.requires.new.0 c.requires.old.2 c.requires.new.2 (lower_apart c.args.old.0 c.args.new.0 c.in-Less.ensures))

pub returns-in-Greater : goal.returns-in-Greater
returns-in-Greater g c =
    subst (IsTurn c.args.self.now) (sym c.open_old.ensures)
    (arm_old_higher c.args.self.now c.args.old.0 (suc c.args.new.0) c.requires.old.0 c.requires.new.0 c.requires.old.2 c.requires.new.2 (higher_apart c.args.old.0 c.args.new.0 c.in-Greater.ensures))

pub returns-in-Equal : goal.returns-in-Equal
returns-in-Equal g c =
    let level : c.args.old.0 ≡ c.args.new.0 = exact_unsigned c.args.old.0 c.args.new.0 (sym c.in-Equal.ensures) in
    let second : c.args.self.now.new_walk.front ≡ (suc c.args.old.0, c.requires.new.0) ∷ drop 1 c.args.self.now.new_walk.front =
    subst (λ (n : ℕ). c.args.self.now.new_walk.front ≡ (suc n, c.requires.new.0) ∷ drop 1 c.args.self.now.new_walk.front) (sym level) c.requires.new.2 in
    subst (IsTurn c.args.self.now) (sym c.skip_both.ensures)
    (arm_shared c.args.self.now c.args.old.0 c.requires.old.0 c.requires.new.0 c.requires.parts c.requires.old.2 second
    (c.requires.old.1 ∙ (bytes_eq-Decides c.args.old.1.0 c.args.new.1.0).0 (sym c.eq.ensures ∙ c.if-eq.true) ∙ sym c.requires.new.1))

pub returns-in-Equal-2 : goal.returns-in-Equal-2
returns-in-Equal-2 g c =
    let level : c.args.old.0 ≡ c.args.new.0 = exact_unsigned c.args.old.0 c.args.new.0 (sym c.in-Equal-2.ensures) in
    let second : c.args.self.now.new_walk.front ≡ (suc c.args.old.0, c.requires.new.0) ∷ drop 1 c.args.self.now.new_walk.front =
    subst (λ (n : ℕ). c.args.self.now.new_walk.front ≡ (suc n, c.requires.new.0) ∷ drop 1 c.args.self.now.new_walk.front) (sym level) c.requires.new.2 in
    let both = c.open_new-in-Equal-2.ensures
    ∙ ap (λ (s : Compared). record { old_walk = s.old_walk; new_walk = descended s.new_walk; found = s.found; reads = counted s.reads 1 }) c.open_old-in-Equal-2.ensures in
    subst (IsTurn c.args.self.now) (sym both)
    (turn_both_opened c.args.self.now c.args.old.0 c.requires.old.0 c.requires.new.0 c.requires.parts c.requires.old.2 second
    (ap (λ (a : List ℕ). bytes_eq a c.requires.new.0.body) c.requires.old.1 ∙ ap (bytes_eq c.args.old.1.0) c.requires.new.1 ∙ sym c.eq.ensures ∙ c.if-eq.false))
