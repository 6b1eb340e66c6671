use Rattle.std.proofs.Common.{◌≡◌, ◌∙◌, ◌+◌, ◌<◌, ◌++◌, ◌∷◌, [], refl, sym, ap, subst, List, ℕ, ℤ, take, None, Some, w64}
use Rattle.std.proofs.lemmas.Int.{to_z-of_z}
use Rattle.std.proofs.lemmas.Option.{same_Some}
use Rattle.tuple_codec.proofs.Lists.{take_at_get}
use Rattle.script_text.specs.Input.{place_of}
use Rattle.script_text.specs.declared.scripts.Moment.{Moment}
use Rattle.run_laws.specs.Orders.{asked_order}
use Rattle.script_run.specs.Following.{CantFollow, IsPlayingAt}
use Rattle.script_run.proofs.FollowLemmas.{asked_at, cant_name, item_at, name_within}
use Rattle.script_run.proofs.LineLemmas.{found_at}
use Rattle.script_run.proofs.following.follow_item.Goals as goal

pub follow_at-requires-clause-there : goal.follow_at-requires-clause-there
follow_at-requires-clause-there g c κs within =
    let script = c.args.script.now in
    let item = c.index-items_in-at.result in
    let found : place_of script.names item.name ≡ Some c.in-Some.place
    = sym (c.find_name.ensures ∙ ap (λ (names : List (List ℕ)). place_of names c.as_slice-2.result.now) c.as_slice.ensures ∙ ap (place_of script.names) c.as_slice-2.ensures) ∙ c.in-Some.is in
    subst (λ n. c.in-Some.place < n) (sym (c.requires.before.players.lists ∙ c.requires.before.all)) (name_within script.names item.name c.in-Some.place found)

pub follow_at-requires-clause-playing : goal.follow_at-requires-clause-playing
follow_at-requires-clause-playing g c κs within = (
  c.args.script.now,
  take c.args.at (asked_order c.args.script.now),
  subst (λ (e : ℤ). IsPlayingAt g.D.Digester.address e c.args.script.now (take c.args.at (asked_order c.args.script.now)) c.args.playing.now) (sym (to_z-of_z w64 c.args.epoch c.ranges.epoch)) c.requires.before,
)

pub returns-in-Some-clause-made : goal.returns-in-Some-clause-made
returns-in-Some-clause-made g c made =
    let script = c.args.script.now in
    let item = c.index-items_in-at.result in
    let found : place_of script.names item.name ≡ Some c.in-Some.place
    = sym (c.find_name.ensures ∙ ap (λ (names : List (List ℕ)). place_of names c.as_slice-2.result.now) c.as_slice.ensures ∙ ap (place_of script.names) c.as_slice-2.ensures) ∙ c.in-Some.is in
    let order = asked_order script in
    let below = subst (λ n. c.args.at < n) c.items_in.ensures.lists c.requires.there in
    let there = asked_at script c.items_in.result.now c.items_in.result.now c.args.at item c.items_in.ensures.asked refl
    (found_at c.items_in.result.now c.items_in.result.now c.args.at item refl below c.index-items_in-at.is) in
    subst (λ (moments : List Moment). IsPlayingAt g.D.Digester.address c.args.epoch script moments c.follow_at.new.playing)
    (ap (λ (moment : Moment). take c.args.at order ++ moment ∷ []) (item_at script.names item c.in-Some.place found) ∙ sym (take_at_get order c.args.at _ there))
    (subst (λ (e : ℤ). IsPlayingAt g.D.Digester.address e script (take c.args.at order ++ record { session = c.in-Some.place; statement = item.statement } ∷ []) c.follow_at.new.playing)
    (to_z-of_z w64 c.args.epoch c.ranges.epoch)
    (c.follow_at.ensures.made made script (take c.args.at order)
    (subst (λ (e : ℤ). IsPlayingAt g.D.Digester.address e script (take c.args.at order) c.args.playing.now) (sym (to_z-of_z w64 c.args.epoch c.ranges.epoch)) c.requires.before)))

pub returns-in-Some-clause-missed : goal.returns-in-Some-clause-missed
returns-in-Some-clause-missed g c missed =
    let script = c.args.script.now in
    let order = asked_order script in
    subst (λ (e : ℤ). IsPlayingAt g.D.Digester.address e script (take c.args.at order) c.follow_at.new.playing) (to_z-of_z w64 c.args.epoch c.ranges.epoch)
    (c.follow_at.ensures.missed missed script (take c.args.at order)
    (subst (λ (e : ℤ). IsPlayingAt g.D.Digester.address e script (take c.args.at order) c.args.playing.now) (sym (to_z-of_z w64 c.args.epoch c.ranges.epoch)) c.requires.before))

pub returns-in-Some-clause-past : goal.returns-in-Some-clause-past
returns-in-Some-clause-past g c missed moment asked =
    let script = c.args.script.now in
    let item = c.index-items_in-at.result in
    let found : place_of script.names item.name ≡ Some c.in-Some.place
    = sym (c.find_name.ensures ∙ ap (λ (names : List (List ℕ)). place_of names c.as_slice-2.result.now) c.as_slice.ensures ∙ ap (place_of script.names) c.as_slice-2.ensures) ∙ c.in-Some.is in
    let order = asked_order script in
    let below = subst (λ n. c.args.at < n) c.items_in.ensures.lists c.requires.there in
    let there = asked_at script c.items_in.result.now c.items_in.result.now c.args.at item c.items_in.ensures.asked refl
    (found_at c.items_in.result.now c.items_in.result.now c.args.at item refl below c.index-items_in-at.is) in
    subst (λ (m : Moment). CantFollow m c.follow_at.new.playing.players.items) (item_at script.names item c.in-Some.place found ∙ same_Some _ _ (sym there ∙ asked))
    (c.follow_at.ensures.past missed)

pub returns-in-None-clause-past : goal.returns-in-None-clause-past
returns-in-None-clause-past g c missed moment asked =
    let script = c.args.script.now in
    let item = c.index-items_in-at.result in
    let found : place_of script.names item.name ≡ None
    = sym (c.find_name.ensures ∙ ap (λ (names : List (List ℕ)). place_of names c.as_slice-2.result.now) c.as_slice.ensures ∙ ap (place_of script.names) c.as_slice-2.ensures) ∙ c.in-None.is in
    let order = asked_order script in
    let below = subst (λ n. c.args.at < n) c.items_in.ensures.lists c.requires.there in
    let there = asked_at script c.items_in.result.now c.items_in.result.now c.args.at item c.items_in.ensures.asked refl
    (found_at c.items_in.result.now c.items_in.result.now c.args.at item refl below c.index-items_in-at.is) in
    subst (λ (m : Moment). CantFollow m c.args.playing.now.players.items) (same_Some _ _ (sym there ∙ asked))
    (cant_name script.names item c.args.playing.now.players.items (c.requires.before.players.lists ∙ c.requires.before.all) found)
