-- A run in which nothing is refused, and an order that is none of a script's.
use Rattle.std.proofs.Common.{◌≡◌, refl, sym, ◌∙◌, ap, subst, ℕ, ℤ, zero, suc, ◌+◌, ◌-◌, ◌<◌, ◌≤◌, Bool, true, false, ◌&&◌, List, [], ◌∷◌, length, map, nat_lt, take, get_or, Option, None, Some, Result, Ok, Err, IfErr, slice_get, arith, if◌then◌else◌}
use Rattle.std.specs.Prelude.{◌++◌, IsErr, codes, is_none, slice_index_or, unwrap_or}
use Rattle.std.specs.Fmt.{decimal}
use Rattle.std.specs.Result.{IsErrAnd}
use Rattle.std.specs.List.{AllByRecursion, IsDistinct, list_all}
use Rattle.std.specs.Option.{option_and_then, option_map}
use Rattle.std.specs.Str.{bytes_eq}
use Rattle.std.proofs.lemmas.Bool.Decides.{nat_tests}
use Rattle.std.proofs.lemmas.Bool.{and_parts as both}
use Rattle.std.proofs.lemmas.List.{append-nil, length-set}
use Rattle.std.proofs.lemmas.List.Sums.{position_or_len_is}
use Rattle.std.proofs.lemmas.Map.Keys.{apart_from_distinct}
use Rattle.std.proofs.lemmas.Option.{slice_get_within}
use Rattle.tuple_codec.proofs.ByteLemmas.{bytes_same}
use Rattle.tuple_codec.proofs.Truths.{if_true}
use Rattle.chunk_store.specs.declared.faults.PutFault.{PutFault}
use Rattle.script_text.specs.Collisions.{AllTellTruly}
use Rattle.script_text.specs.Input.{place_of}
use Rattle.script_text.specs.Output.{Shortage, all_refused, newline, refused_text, refused_texts, shortage, shortages_in, stop_text, text}
use Rattle.script_text.specs.Shown.{is_printable_moment}
use Rattle.script_text.specs.declared.outputs.RunText.{RunText}
use Rattle.script_text.specs.declared.outputs.StopText.{StopText}
use Rattle.script_text.specs.declared.replies.Reply.{Reply}
use Rattle.script_text.specs.declared.scripts.Moment.{Moment}
use Rattle.script_text.specs.declared.scripts.Script.{Script}
use Rattle.plain_sessions.specs.Commands.{command}
use Rattle.plain_sessions.specs.Output.{IsPlainRun, shown}
use Rattle.plain_sessions.specs.Runs.{Runner, Shortages, State, is_over, nothing_refused, opened, plain_run, put_runner, step, step_of, steps_along}
use Rattle.plain_sessions.specs.Records.{Shared}
use Rattle.run_laws.proofs.HistoryLemmas.{as_many_runners}
use Rattle.run_laws.specs.Orders.{IsTextOrder, asked_moment, asked_order}
use Rattle.run_laws.specs.Replaying.{CantGoOn, IsStopped}
use Rattle.run_laws.specs.Stops.{IsStoppedAt}
use Rattle.script_run.specs.Following.{IsReplayed, ReplaysAs}
use Rattle.script_run.specs.declared.following.Replayed.{Replayed}
use Rattle.script_run.specs.declared.following.Replayed.TheVariants as replayed
use Rattle.script_run.specs.Scripts.{IsSoundScript}
use Rattle.plain_run.specs.Asking.{asking, item_of}
use Rattle.plain_run.specs.Following.{FollowsAs, IsPlainStop, TellsInTextOrder, plain_stop_text}
use Rattle.plain_run.specs.Plain.{is_by_rule, plain_text}
use Rattle.plain_run.specs.declared.following.Followed.{Followed}
use Rattle.plain_run.specs.declared.following.Followed.TheVariants as followed

-- ---- faults

-- what is true of all is true of an item that a loop comes to
pub item_has : {A : Type 0} (P : A → Type 0) (xs : List A) (i : ℕ) (x : A) → i < length xs → x ≡ get_or xs i x → AllByRecursion P xs → P x
item_has P [] i x within is all = absurd (omega arith)
item_has P (y ∷ xs) zero x within is all = subst P (sym is) all.0
item_has P (y ∷ xs) (suc i) x within is all = let less : i < length xs = omega arith in item_has P xs i x less is all.1

-- what `?` hands on
pub same_fault : {T : Type 0} (P : PutFault → Type 0) (result : Result T PutFault) (why : PutFault) → P why → IsErr result × IsErrAnd result (λ fault. fault ≡ why) → IfErr result P
same_fault P (Ok x) why of h = absurd h.1
same_fault P (Err fault) why of h = subst P (sym h.1) of

-- ---- replies that tell of nothing

none_is : {X : Type 0} (found : Option X) → is_none found ≡ true → found ≡ None
none_is None h = refl
none_is (Some x) h = absurd (cc)

told_at : (replies : List Reply) (i : ℕ) → list_all is_by_rule replies ≡ true → option_and_then shortage (slice_get replies i) ≡ None
told_at [] i all = refl
told_at (reply ∷ replies) zero all = none_is (shortage reply) (both (is_by_rule reply) (list_all is_by_rule replies) all).0
told_at (reply ∷ replies) (suc i) all = told_at replies i (both (is_by_rule reply) (list_all is_by_rule replies) all).1

session_at : (lists : List (List Reply)) (i : ℕ) → list_all (list_all is_by_rule) lists ≡ true → list_all is_by_rule (slice_index_or lists i []) ≡ true
session_at [] i all = refl
session_at (replies ∷ lists) zero all = (both (list_all is_by_rule replies) (list_all (list_all is_by_rule) lists) all).0
session_at (replies ∷ lists) (suc i) all = session_at lists i (both (list_all is_by_rule replies) (list_all (list_all is_by_rule) lists) all).1

same_answers : (a b : Shortages) → ((session statement : ℕ) → a session statement ≡ b session statement) → a ≡ b
same_answers a b same = λ i session statement. same session statement i

nothing_told : (lists : List (List Reply)) → list_all (list_all is_by_rule) lists ≡ true → shortages_in lists ≡ nothing_refused
nothing_told lists all =
    same_answers (shortages_in lists) nothing_refused (λ session statement. told_at (slice_index_or lists session []) (statement - 1) (session_at lists session all))

-- ---- the lines of a stop before which nothing was refused

none_texts : (name : List ℕ) (number : ℕ) (replies : List Reply) → list_all is_by_rule replies ≡ true → refused_texts name number replies ≡ []
none_texts name number [] all = refl
none_texts name number (reply ∷ replies) all =
    let parts = both (is_by_rule reply) (list_all is_by_rule replies) all in
    ap (λ (found : Option Shortage). refused_text name number found ++ refused_texts name (number + 1) replies) (none_is (shortage reply) parts.0)
    ∙ none_texts name (number + 1) replies parts.1

none_refused : (names : List (List ℕ)) (lists : List (List Reply)) → list_all (list_all is_by_rule) lists ≡ true → all_refused names lists ≡ []
none_refused [] lists all = refl
none_refused (name ∷ names) [] all = refl
none_refused (name ∷ names) (replies ∷ lists) all =
    let parts = both (list_all is_by_rule replies) (list_all (list_all is_by_rule) lists) all in
    ap (λ (first : List ℕ). first ++ all_refused names lists) (none_texts name 1 replies parts.0) ∙ none_refused names lists parts.1

stop_lines : (stop : StopText) → list_all (list_all is_by_rule) stop.replies ≡ true → stop_text stop ≡ plain_stop_text stop.item
stop_lines stop ruled =
    let front : List ℕ = codes "order item " ++ decimal stop.item ++ newline ++ codes "refused" in
    ap (λ (told : List ℕ). front ++ told ++ newline) (none_refused stop.names stop.replies ruled) ∙ ap (λ (told : List ℕ). told ++ newline) (append-nil front)

-- ---- the order that is asked for

name_back : (names : List (List ℕ)) (place : ℕ) → IsDistinct bytes_eq names → place < length names → place_of names (slice_index_or names place []) ≡ Some place
name_back names place distinct within =
    let name : List ℕ = slice_index_or names place [] in
    let within_or : place ≤ length names = omega arith in
    let found = position_or_len_is (λ other. bytes_eq other name) names place [] within_or (λ k before. apart_from_distinct bytes_eq names k place [] distinct before within)
    (λ there. bytes_same name name refl) in
    let test : nat_lt place (length names) ≡ true = grind (arith, nat_tests) in
    ap (λ (at : ℕ). if nat_lt at (length names) then Some at else None) found ∙ if_true (nat_lt place (length names)) (Some place) None test

moment_back : (names : List (List ℕ)) (moment : Moment) → IsDistinct bytes_eq names → is_printable_moment (length names) moment ≡ true → asked_moment names (item_of names moment) ≡ moment
moment_back names moment distinct test =
    let within : moment.session < length names = grind (arith, nat_tests) in
    ap (λ (found : Option ℕ). record { session = unwrap_or found (length names); statement = moment.statement }) (name_back names moment.session distinct within)

order_back : (names : List (List ℕ)) (order : List Moment) → IsDistinct bytes_eq names → list_all (is_printable_moment (length names)) order ≡ true
    → map (asked_moment names) (map (item_of names) order) ≡ order
order_back names [] distinct all = refl
order_back names (moment ∷ order) distinct all =
    let parts = both (is_printable_moment (length names) moment) (list_all (is_printable_moment (length names)) order) all in
    ap (λ (first : Moment). first ∷ map (asked_moment names) (map (item_of names) order)) (moment_back names moment distinct parts.0)
    ∙ ap (λ (more : List Moment). moment ∷ more) (order_back names order distinct parts.1)

-- ---- where an order can't be followed the machine has no run

module _ (address : List ℕ → List ℕ) (epoch : ℤ) (answers : Shortages) where
  abbrev whole : State → Option State
  whole last = if list_all is_over last.runners then Some last else None

  -- behind a moment
  next_of : (found : Option State) (next : State → Option State) → ((state : State) → found ≡ Some state → next state ≡ None) → option_and_then next found ≡ None
  next_of None next none = refl
  next_of (Some state) next none = none state refl

  not_whole : (last : State) → list_all is_over last.runners ≡ false → whole last ≡ None
  not_whole last left = ap (λ (test : Bool). if test then Some last else None) left

  abbrev Comes : List Moment → State → State → Type 0
  Comes order state last = steps_along address epoch answers order state ≡ Some last

  cant_run : (order : List Moment) (count : ℕ) (state last : State) → count ≤ length order → Comes (take count order) state last → CantGoOn address epoch answers last (slice_get order count)
      → option_and_then whole (steps_along address epoch answers order state) ≡ None
  cant_run [] zero state last within comes cant =
      let same : last ≡ state = cc in
      not_whole state (subst (λ (s : State). list_all is_over s.runners ≡ false) same cant)
  cant_run [] (suc count) state last within comes cant = absurd (omega arith)
  cant_run (moment ∷ order) zero state last within comes cant =
      let same : last ≡ state = cc in
      let none : step address epoch answers moment state ≡ None = subst (λ (s : State). step address epoch answers moment s ≡ None) same cant in
      ap (λ (found : Option State). option_and_then whole (option_and_then (steps_along address epoch answers order) found)) none
  cant_run (moment ∷ order) (suc count) state last within comes cant =
      let rest : count ≤ length order = omega arith in
      elim (step address epoch answers moment state) as (λ found. option_and_then (steps_along address epoch answers (take count order)) found ≡ Some last
      → option_and_then whole (option_and_then (steps_along address epoch answers order) found) ≡ None) [
        | None ↦ λ gone. refl
        | Some next ↦ λ gone. cant_run order count next last rest gone cant
      ] comes

  -- a moment of no session
  put_after : (moment : Moment) (state next : State) (found : Option (Shared × Runner)) → option_map (put_runner moment.session state.runners) found ≡ Some next
      → length next.runners ≡ length state.runners
  put_after moment state next None is = absurd (cc)
  put_after moment state next (Some after) is =
      let same : put_runner moment.session state.runners after ≡ next = cc in
      ap (λ (s : State). length s.runners) (sym same) ∙ length-set state.runners moment.session after.1

  step_within : (moment : Moment) (state next : State) → step address epoch answers moment state ≡ Some next
      → (is_printable_moment (length state.runners) moment ≡ true) × (length next.runners ≡ length state.runners)
  step_within moment state next is =
      elim (slice_get state.runners moment.session) as (λ found. slice_get state.runners moment.session ≡ found
      → option_and_then (λ (runner : Runner). option_map (put_runner moment.session state.runners)
      (step_of address epoch (answers moment.session) moment.statement state.shared runner.session runner.replies runner.todo)) found ≡ Some next
      → (is_printable_moment (length state.runners) moment ≡ true) × (length next.runners ≡ length state.runners)) [
        | None ↦ λ there gone. absurd (cc)
        | Some runner ↦ λ there gone.
            let below : moment.session < length state.runners = slice_get_within state.runners moment.session runner there in
            let test : nat_lt moment.session (length state.runners) ≡ true = grind (arith, nat_tests) in
            (test, put_after moment state next (step_of address epoch (answers moment.session) moment.statement state.shared runner.session runner.replies runner.todo) gone)
      ] refl is

  none_of_others : (order : List Moment) (state : State) → list_all (is_printable_moment (length state.runners)) order ≡ false → steps_along address epoch answers order state ≡ None
  none_of_others [] state apart = absurd (cc)
  none_of_others (moment ∷ order) state apart =
      next_of (step address epoch answers moment state) (steps_along address epoch answers order) (λ next is.
      let here = step_within moment state next is in
      let later : list_all (is_printable_moment (length state.runners)) order ≡ false
      = ap (λ (test : Bool). test && list_all (is_printable_moment (length state.runners)) order) (sym here.0) ∙ apart in
      none_of_others order next (ap (λ (n : ℕ). list_all (is_printable_moment n) order) here.1 ∙ later))

-- ---- the machine's text

module _ (address : List ℕ → List ℕ) (epoch : ℤ) (script : Script) where
  abbrev text_in : List Moment → Option State → Option (List ℕ)
  text_in order found = option_map (λ (state : State). text (shown address script order state)) found

  abbrev run_with : List Moment → Shortages → Option State
  run_with order answers = plain_run command address script order answers epoch

  -- an order with a moment of no session
  others_unrun : (order : List Moment) → list_all (is_printable_moment (length script.names)) order ≡ false → run_with order nothing_refused ≡ None
  unfolding plain_run
  others_unrun order apart =
      let start : State = opened command address epoch nothing_refused script in
      let many : length start.runners ≡ length script.names = as_many_runners command nothing_refused script 0 script.names in
      ap (λ (found : Option State). option_and_then (λ (last : State). if list_all is_over last.runners then Some last else None) found)
      (none_of_others address epoch nothing_refused order start (ap (λ (n : ℕ). list_all (is_printable_moment n) order) many ∙ apart))

  others_untold : (order : List Moment) → list_all (is_printable_moment (length script.names)) order ≡ false → plain_text address epoch script order ≡ None
  others_untold order apart = ap (text_in order) (others_unrun order apart)

  shown_text : (order : List Moment) (found : Option State) (run : RunText) → option_map (shown address script order) found ≡ Some run → text_in order found ≡ Some (text run)
  shown_text order None run is = absurd (cc)
  shown_text order (Some state) run is = let same : shown address script order state ≡ run = cc in ap (λ (r : RunText). Some (text r)) same

  -- a run whose replies tell of nothing
  pub run_told : (run : RunText) → IsPlainRun command address epoch script run → list_all (list_all is_by_rule) run.replies ≡ true
      → plain_text address epoch script run.order ≡ Some (text run)
  run_told run plain ruled =
      let free : option_map (shown address script run.order) (run_with run.order nothing_refused) ≡ Some run
      = subst (λ (answers : Shortages). option_map (shown address script run.order) (run_with run.order answers) ≡ Some run) (nothing_told run.replies ruled) plain in
      shown_text run.order (run_with run.order nothing_refused) run free

  pub replay_told : (run : RunText) → IsReplayed address epoch script run → list_all (list_all is_by_rule) run.replies ≡ true
      → plain_text address epoch script (asked_order script) ≡ Some (text run)
  replay_told run replayed ruled =
      subst (λ (order : List Moment). plain_text address epoch script order ≡ Some (text run)) replayed.order (run_told run replayed.plain ruled)

  -- an order that can't be followed, or leaves a statement
  stopped_unrun : (order : List Moment) (count : ℕ) (answers : Shortages) → IsStopped command address epoch script order count answers → run_with order answers ≡ None
  unfolding plain_run
  stopped_unrun order count answers stopped =
      cant_run address epoch answers order count (opened command address epoch answers script) stopped.state stopped.within stopped.followed stopped.stopped

  pub stop_told : (stop : StopText) → IsStoppedAt address epoch script stop → list_all (list_all is_by_rule) stop.replies ≡ true → IsPlainStop address epoch script (stop_text stop)
  stop_told stop stops ruled =
      let there : IsStopped command address epoch script (asked_order script) stops.count nothing_refused
      = subst (λ (answers : Shortages). IsStopped command address epoch script (asked_order script) stops.count answers) (nothing_told stop.replies ruled) stops.stopped in
      record {
        count = stops.count;
        stopped = there;
        untold = ap (text_in (asked_order script)) (stopped_unrun (asked_order script) stops.count nothing_refused there);
        prints = stop_lines stop ruled ∙ ap plain_stop_text stops.item;
      }

-- ---- as the steps of the calls over a script's own order, and over that of its lines, tell it

module _ (address : List ℕ → List ℕ) (epoch date : ℤ) (script : Script) (seen : List (List Reply)) (same : date ≡ epoch) (ruled : list_all (list_all is_by_rule) seen ≡ true) where
  module _ (replay : Replayed) (replays : ReplaysAs address date script replay) where
    replays_then : ReplaysAs address epoch script replay
    replays_then = subst (λ (e : ℤ). ReplaysAs address e script replay) same replays

    pub went_run : (run : RunText) (written : List ℕ) → replay ≡ replayed.Run run → seen ≡ run.replies → written ≡ text run
        → plain_text address epoch script (asked_order script) ≡ Some written
    went_run run written is shows prints =
        replay_told address epoch script run (subst (λ (r : Replayed). ReplaysAs address epoch script r) is replays_then)
        (ap (λ (lists : List (List Reply)). list_all (list_all is_by_rule) lists) (sym shows) ∙ ruled)
        ∙ ap (λ (bytes : List ℕ). Some bytes) (sym prints)

    pub went_stop : (stop : StopText) (written : List ℕ) → replay ≡ replayed.Stop stop → seen ≡ stop.replies → written ≡ stop_text stop
        → IsPlainStop address epoch script written
    went_stop stop written is shows prints =
        subst (λ (bytes : List ℕ). IsPlainStop address epoch script bytes) (sym prints)
        (stop_told address epoch script stop (subst (λ (r : Replayed). ReplaysAs address epoch script r) is replays_then)
        (ap (λ (lists : List (List Reply)). list_all (list_all is_by_rule) lists) (sym shows) ∙ ruled))

  pub went_by_lines : (run : RunText) (written : List ℕ) → IsPlainRun command address date script run → IsTextOrder script run.order → seen ≡ run.replies → written ≡ text run
      → TellsInTextOrder address epoch script written
  went_by_lines run written plain order shows prints = (
    run.order,
    order,
    run_told address epoch script run (subst (λ (e : ℤ). IsPlainRun command address e script run) same plain)
        (ap (λ (lists : List (List Reply)). list_all (list_all is_by_rule) lists) (sym shows) ∙ ruled)
        ∙ ap (λ (bytes : List ℕ). Some bytes) (sym prints),
  )

-- ---- along an order that the script is made to ask for

module _ (address : List ℕ → List ℕ) (epoch : ℤ) (script : Script) (order : List Moment) where
  asked_back : IsSoundScript script → list_all (is_printable_moment (length script.names)) order ≡ true → asked_order (asking script order) ≡ order
  asked_back sound within = order_back script.names order sound.distinct within

  -- the script with this order in place of its own has the same texts
  asked_text : (moments : List Moment) → plain_text address epoch (asking script order) moments ≡ plain_text address epoch script moments
  unfolding plain_run
  asked_text moments = refl

  asked_told : IsSoundScript script → list_all (is_printable_moment (length script.names)) order ≡ true
      → plain_text address epoch (asking script order) (asked_order (asking script order)) ≡ plain_text address epoch script order
  asked_told sound within = asked_text (asked_order (asking script order)) ∙ ap (plain_text address epoch script) (asked_back sound within)

-- ---- as the steps of `plain_output` tell it

module _ (address : List ℕ → List ℕ) (epoch : ℤ) (script : Script) (order : List Moment) (names : List (List ℕ)) (told : Bool)
    (named : names ≡ script.names) (tested : told ≡ list_all (is_printable_moment (length names)) order) where
  tested_all : told ≡ list_all (is_printable_moment (length script.names)) order
  tested_all = tested ∙ ap (λ (all : List (List ℕ)). list_all (is_printable_moment (length all)) order) named

  pub told_none : told ≡ false → ◌≡◌ {A = Option (List ℕ)} None (plain_text address epoch script order)
  told_none apart = sym (others_untold address epoch script order (sym tested_all ∙ apart))

  module _ (date : ℤ) (went : Followed) (asked : Script) (sound : IsSoundScript script) (within : told ≡ true) (same : date ≡ epoch) (asks : asked ≡ asking script order) (follows : FollowsAs address date asked went) where
    came : FollowsAs address epoch (asking script order) went
    came = subst (λ (e : ℤ). FollowsAs address e (asking script order) went) same (subst (λ (s : Script). FollowsAs address date s went) asks follows)

    as_asked : plain_text address epoch (asking script order) (asked_order (asking script order)) ≡ plain_text address epoch script order
    as_asked = asked_told address epoch script order sound (sym tested_all ∙ within)

    pub told_text : (written : List ℕ) → went ≡ followed.Text written → ◌≡◌ {A = Option (List ℕ)} (Some written) (plain_text address epoch script order)
    told_text written is = sym (subst (λ (f : Followed). FollowsAs address epoch (asking script order) f) is came) ∙ as_asked

    pub told_stop : (written : List ℕ) → went ≡ followed.Stop written → ◌≡◌ {A = Option (List ℕ)} None (plain_text address epoch script order)
    told_stop written is = sym (subst (λ (f : Followed). FollowsAs address epoch (asking script order) f) is came).untold ∙ as_asked

-- ---- collisions that the real sessions' replies tell are collisions

pub truly_run : (address : List ℕ → List ℕ) (epoch : ℤ) (script : Script) (replay : Replayed) (run : RunText) → ReplaysAs address epoch script replay → replay ≡ replayed.Run run → AllTellTruly address run.replies
truly_run address epoch script replay run replays is = (subst (λ (r : Replayed). ReplaysAs address epoch script r) is replays).truly

pub truly_stop : (address : List ℕ → List ℕ) (epoch : ℤ) (script : Script) (replay : Replayed) (stop : StopText) → ReplaysAs address epoch script replay → replay ≡ replayed.Stop stop → AllTellTruly address stop.replies
truly_stop address epoch script replay stop replays is = (subst (λ (r : Replayed). ReplaysAs address epoch script r) is replays).truly
