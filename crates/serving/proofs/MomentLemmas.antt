-- What the machine does at a session's moments.
use Rattle.std.proofs.Common.{◌≡◌, refl, ◌∙◌, sym, ap, ℕ, ℤ, Bool, true, false, List, Option, Some, None, Ok, Err, option_map, if◌then◌else◌}
use Rattle.std.specs.Option.{option_and_then}
use Rattle.expr_eval.specs.Binding.{Outcome, and_then}
use Rattle.script_text.specs.Output.{Shortage}
use Rattle.script_text.specs.declared.replies.Reply.{Reply}
use Rattle.plain_sessions.specs.CommitRule.{decide}
use Rattle.plain_sessions.specs.Moments.{After, Past, Still, alone, alone_by, begin, begun, begun_after, decided, moment_at, moment_by, moment_in, moment_of, past, past_moment, ruled, settled, with_both, without_commit}
use Rattle.plain_sessions.specs.Records.{BranchState, Shared, state_of}
use Rattle.plain_sessions.specs.Replies.{done, refused}
use Rattle.plain_sessions.specs.Runs.{awaiting}
use Rattle.plain_sessions.specs.Sessions as plain
use Rattle.plain_sessions.specs.Sessions.{Before, Place, Said, Transaction, is_before_statement, is_changed, over, taken, within}
use Rattle.plain_sessions.specs.declared.commands.Command.{Command}
use Rattle.run_laws.specs.Turns.{InOneTurn, InTwoTurns}
use Rattle.serving.specs.Serving.{turn_at}
use Rattle.serving.specs.Steps.{ComesTo}

-- ---- one moment, and two

none_either : (test : Bool) (f : Said → Said) → option_map f (if test then None else None) ≡ None
none_either true f = refl
none_either false f = refl

waits_at : (answer : Option Shortage) (p : plain.Session) (asked : Command) → alone_by answer p asked ≡ None → alone answer p asked ≡ None
waits_at answer p asked is =
    ap (λ (said : Option Said). option_map (past p.statement) (if is_before_statement p.place then said else None)) is ∙ none_either (is_before_statement p.place) (past p.statement)

module _ (address : List ℕ → List ℕ) (epoch : ℤ) where
  moment_before : (answer : Option Shortage) (shared : Shared) (p : plain.Session) (asked : Command) → p.place ≡ Before
      → moment_at address epoch answer shared p asked ≡ option_map (past_moment p.statement) (moment_by address epoch answer shared p asked)
  moment_before answer shared p asked before =
      ap (λ (at : Place). option_map (past_moment p.statement) (moment_in address epoch answer shared p asked at)) before

  pub in_one_turn : (answer : Option Shortage) (found left : Shared) (p : plain.Session) (asked : Command) (said : Said) → p.place ≡ Before → alone_by answer p asked ≡ None
      → moment_by address epoch answer found p asked ≡ Some (left, Past said) → InOneTurn address epoch answer p asked (turn_at p found left) (past p.statement said)
  in_one_turn answer found left p asked said before waits is = record {
    waits = waits_at answer p asked waits;
    numbered = refl;
    answered = moment_before answer found p asked before ∙ ap (option_map (past_moment p.statement)) is;
  }

  pub in_two_turns : (shared left : Shared) (p : plain.Session) (asked : Command) (t : Transaction) (at : Place) (said : Said) → p.place ≡ Before → alone_by None p asked ≡ None
      → moment_of address epoch shared p asked ≡ Some (shared, Still t at)
      → moment_in address epoch None shared (awaiting p t at) asked at ≡ Some (left, Past said)
      → InTwoTurns address epoch None p asked (turn_at p shared shared) (turn_at p shared left) (past p.statement said)
  in_two_turns shared left p asked t at said before waits start decision = record {
    transaction = t;
    place = at;
    waits = waits_at None p asked waits;
    numbered = refl;
    numbered_again = refl;
    started = moment_before None shared p asked before ∙ ap (option_map (past_moment p.statement)) start;
    answered = ap (option_map (past_moment p.statement)) decision;
  }

  -- ---- decisions

  -- what is said where the verdict is known: this, or the refusal, with the transaction over
  abbrev pub verdict_said : plain.Session → plain.Session → Reply → Outcome BranchState → Said
  verdict_said p next good (Ok state) = (next, good)
  verdict_said p next good (Err number) = (over p, refused number)

  settled_by : (shared last : Shared) (p next : plain.Session) (reply good : Reply) (verdict : Outcome BranchState) → ComesTo shared p.branch verdict last reply
      → settled address shared p next (and_then verdict (λ state. Ok (without_commit good state))) ≡ Some (last, Past (verdict_said p next good verdict))
  settled_by shared last p next reply good (Ok state) comes = ap (λ (left : Shared). Some (left, Past (next, good))) (sym comes.0)
  settled_by shared last p next reply good (Err number) comes = ap (λ (left : Shared). Some (left, Past (over p, refused number))) (sym comes.0)

  pub both_at : (f : Transaction → BranchState → Option (Shared × After)) (shared : Shared) (p : plain.Session) (t : Transaction) (present : BranchState)
      → p.transaction ≡ Some t → state_of shared.branches p.branch ≡ Some present → with_both f shared p ≡ f t present
  both_at f shared p t present transaction there =
      ap (option_and_then (λ (o : Transaction). option_and_then (f o) (state_of shared.branches p.branch))) transaction ∙ ap (option_and_then (f t)) there

  pub decided_as : (shared last : Shared) (p next : plain.Session) (t : Transaction) (present : BranchState) (reply good : Reply) (verdict : Outcome BranchState)
      → p.transaction ≡ Some t → state_of shared.branches p.branch ≡ Some present → decide t.start present t.own p.variables ≡ verdict → ComesTo shared p.branch verdict last reply
      → decided address next good shared p ≡ Some (last, Past (verdict_said p next good verdict))
  decided_as shared last p next t present reply good verdict transaction there is comes =
      both_at (λ o now. settled address shared p next (ruled p o now good)) shared p t present transaction there
      ∙ ap (λ (v : Outcome BranchState). settled address shared p next (and_then v (λ state. Ok (without_commit good state)))) is
      ∙ settled_by shared last p next reply good verdict comes

  -- ---- BEGIN

  pub begun_at : (shared : Shared) (p : plain.Session) (t : Transaction) → is_changed p ≡ false → taken shared p ≡ Some t
      → begin address shared p ≡ Some (shared, Past (within p t, done))
  begun_at shared p t unchanged is =
      ap (λ (test : Bool). if test then with_both (λ o now. begun_after address shared p (ruled p o now done)) shared p else begun p shared) unchanged
      ∙ ap (option_map (λ (o : Transaction). (shared, Past (within p o, done)))) is

  -- where the decision is well it is begun on what that left, else nothing is begun
  abbrev pub BegunAfter : plain.Session → Shared → Outcome BranchState → Said → Type 0
  BegunAfter p last (Ok state) said = (t : Transaction) × (taken last p ≡ Some t) × (said ≡ (within p t, done))
  BegunAfter p last (Err number) said = said ≡ (over p, refused number)

  begun_by : (shared last : Shared) (p : plain.Session) (reply : Reply) (verdict : Outcome BranchState) (said : Said) → ComesTo shared p.branch verdict last reply → BegunAfter p last verdict said
      → begun_after address shared p (and_then verdict (λ state. Ok (without_commit done state))) ≡ Some (last, Past said)
  begun_by shared last p reply (Ok state) said comes after =
      ap (begun p) (sym comes.0) ∙ ap (option_map (λ (o : Transaction). (last, Past (within p o, done)))) after.1
      ∙ ap (λ (s : Said). Some (last, Past s)) (sym after.2)
  begun_by shared last p reply (Err number) said comes after = λ i. Some (sym comes.0 i, Past (sym after i))

  pub begun_anew : (shared last : Shared) (p : plain.Session) (t : Transaction) (present : BranchState) (reply : Reply) (verdict : Outcome BranchState) (said : Said) → is_changed p ≡ true
      → p.transaction ≡ Some t → state_of shared.branches p.branch ≡ Some present → decide t.start present t.own p.variables ≡ verdict
      → ComesTo shared p.branch verdict last reply → BegunAfter p last verdict said
      → begin address shared p ≡ Some (last, Past said)
  begun_anew shared last p t present reply verdict said changed transaction there is comes after =
      ap (λ (test : Bool). if test then with_both (λ o now. begun_after address shared p (ruled p o now done)) shared p else begun p shared) changed
      ∙ both_at (λ o now. begun_after address shared p (ruled p o now done)) shared p t present transaction there
      ∙ ap (λ (v : Outcome BranchState). begun_after address shared p (and_then v (λ state. Ok (without_commit done state)))) is
      ∙ begun_by shared last p reply verdict said comes after
