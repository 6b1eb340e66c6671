use Rattle.std.proofs.Common.{◌∙◌, ℕ, ℤ, inl, inr, ap, subst, arith, w64}
use Rattle.std.proofs.lemmas.Int.{to_z-of_z}
use Rattle.serving.specs.Serving.{Passes}
use Rattle.script_run.specs.Following.{IsLed, is_next_at, is_settled}
use Rattle.script_run.proofs.LeftLemmas.{further_on, is_past, stands_after}
use Rattle.script_run.proofs.going.follow.Goals as goal

pub lead_at-made-requires-clause-player : goal.lead_at-made-requires-clause-player
lead_at-made-requires-clause-player g c κs within =
    let p = c.requires.player in
    let first = c.go_on.ensures.goes c.args.lone.now.db.parts p.0 p.1 p.2 p.3 in
    (p.0, p.1, first.next, first.is, omega (arith, c.go_on.ensures.left, p.4))

pub go_on-requires-2-after_bounds : goal.go_on-requires-2-after_bounds
go_on-requires-2-after_bounds g c κs within =
    let p = c.requires.player in
    let first = c.go_on.ensures.goes c.args.lone.now.db.parts p.0 p.1 p.2 p.3 in
    stands_after c.lead_at-made.result (λ made. (c.lead_at-made.ensures.led made p.0 p.1 first.next first.is).1) (λ missed. c.lead_at-made.ensures.missed missed p.0 p.1 first.next first.is)

pub returns-clause-made : goal.returns-clause-made
returns-clause-made g c = λ made shared place runner is.
    let first = c.go_on.ensures.goes c.args.lone.now.db.parts shared place runner is in
    let there = c.lead_at-made.ensures.led made shared place first.next first.is in
    let led = subst (λ (e : ℤ). IsLed g.D.Digester.address e place first.next shared c.args.lone.now.db.parts c.lead_at-made.new.lone.db.parts c.lead_at-made.new.player) (to_z-of_z w64 c.args.epoch c.ranges.epoch) there.1 in
    let last = c.go_on-2.ensures.goes c.lead_at-made.new.lone.db.parts led.left place led.next led.is in
    record {
      here = first.next;
      comes = first.goes;
      at = there.0;
      left = led.left;
      next = led.next;
      turns = led.turns;
      last = last.next;
      goes = last.goes;
      is = last.is;
      state_stands = led.state_stands;
      passes = subst (λ (n : ℕ). Passes place n shared led.left c.args.lone.now.db.parts c.lead_at-made.new.lone.db.parts) there.0 led.passes;
    }

pub returns-clause-missed : goal.returns-clause-missed
returns-clause-missed g c = λ missed shared place runner is.
    let first = c.go_on.ensures.goes c.args.lone.now.db.parts shared place runner is in
    further_on c.go_on.new.player _ first (λ middle there.
    further_on c.lead_at-made.new.player _ (c.lead_at-made.ensures.missed missed shared place middle there) (λ next here. c.go_on-2.ensures.goes c.args.lone.now.db.parts shared place next here))

pub returns-clause-past : goal.returns-clause-past
returns-clause-past g c = λ missed.
    let p = c.requires.player in
    let first = c.go_on.ensures.goes c.args.lone.now.db.parts p.0 p.1 p.2 p.3 in
    let led = c.lead_at-made.ensures.missed missed p.0 p.1 first.next first.is in
    elim (c.lead_at-made.ensures.past missed) [
      | inl same ↦
          let still = c.go_on-2.ensures.same (ap is_settled same.0 ∙ c.go_on.ensures.settled) in
          ap (is_next_at c.args.statement) (still ∙ same.0) ∙ same.1
      | inr answered ↦ is_past c.args.statement c.lead_at-made.new.player c.go_on-2.new.player led.is answered (c.go_on-2.ensures.goes c.args.lone.now.db.parts p.0 p.1 led.next led.is)
    ]

pub returns-clause-left : goal.returns-clause-left
returns-clause-left g c = omega (arith, c.go_on.ensures.left, c.lead_at-made.ensures.left, c.go_on-2.ensures.left)

pub returns-clause-one_less : goal.returns-clause-one_less
returns-clause-one_less g c = λ made. let less = c.lead_at-made.ensures.one_less made in omega (arith, c.go_on.ensures.left, less, c.go_on-2.ensures.left)
