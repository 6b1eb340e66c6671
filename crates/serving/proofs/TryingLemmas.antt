-- The tries of a decision: what each call leaves, and what the tries come to one after another.
use Rattle.std.proofs.Common.{◌≡◌, ◌⊎◌, inl, inr, max, refl, sym, ◌∙◌, ap, subst, ℕ, ◌+◌, ◌-◌, ◌*◌, ◌<◌, ◌≤◌, ◌^◌, min, ◌||◌, true, false, Bool, List, [], ◌∷◌, ◌++◌, arith, Option, None, Some, Ok, Err, option_map, find, bytes_eq, slice_get, slice_index_or}
use Rattle.std.specs.Prelude.{Result}
use Rattle.std.specs.Arc.{arc_value}
use Rattle.std.specs.Option.{option_map_or}
use Rattle.std.specs.declared.alloc.AllocError.{AllocError}
use Rattle.chunk_store.specs.Chunks.{AreNamed, Chunk, Listed, Lists, chunk_bytes}
use Rattle.chunk_store.specs.Clashes.{IsClash}
use Rattle.chunk_store.specs.Laws.{ChunksFollow}
use Rattle.chunk_store.specs.Stores.{all_chunks}
use Rattle.chunk_store.specs.declared.faults.Clash.{Clash}
use Rattle.chunk_store.specs.declared.faults.PutFault.{PutFault}
use Rattle.expr_eval.specs.Binding.{Outcome}
use Rattle.schema_model.specs.PlainCommits.{Commits, is_known}
use Rattle.script_text.specs.Collisions.{IsCollision, IsFault}
use Rattle.script_text.specs.declared.replies.Reply.{Reply}
use Rattle.table_root.specs.declared.heads.Look.{Look}
use Rattle.plain_sessions.specs.Moments as plain_moments
use Rattle.plain_sessions.specs.Sessions as plain
use Rattle.session_state.specs.Changes.{ChangeStands, Parts}
use Rattle.session_state.specs.Laws.{StatesFollow}
use Rattle.session_state.specs.declared.sessions.Session.{Session}
use Rattle.shared_db.specs.Plans.{PlanIs, brought}
use Rattle.shared_db.specs.Settling.{sealed_in}
use Rattle.shared_db.specs.Shared.{IsSettled, record_at}
use Rattle.shared_db.specs.declared.changes.DecisionPlan.{DecisionPlan}
use Rattle.shared_db.specs.declared.changes.RecordChange.{RecordChange}
use Rattle.shared_db.specs.declared.changes.RecordChange.TheVariants as change
use Rattle.shared_db.specs.declared.changes.Settled.{Settled}
use Rattle.shared_db.specs.declared.changes.Settled.TheVariants as settled
use Rattle.shared_history.specs.Fitting.{HasCome}
use Rattle.shared_history.specs.Meeting.{Comes, Found, Holds, IsDone, IsFaulty, IsFitChange, IsLost, IsOn, IsUnmoved, Looks, MaySettle, Settles, ShowsNext, Tells, after_letting_go, moments_by, risen, room_of, turn_of, turned}
use Rattle.serving.specs.Deciding.{Asks, AttemptIs, DecidesFree, HasDecided, HasLost, HasPlanned, IfFaulty, IsIdle, IsNotLost, IsOneLost, IsRefused, IsSettledBy, IsUndecided, SettlesPlan, tried_by}
use Rattle.serving.specs.Meetings.{HasTurnedTo, HoldsAfterThree, IsWaiting, WaitsFree, losses_in}
use Rattle.serving.specs.Planning.{Deciding, HasLooked, IsPlanned}
use Rattle.serving.specs.declared.trying.Made.{Made}
use Rattle.serving.specs.declared.trying.Planned.{Planned}
use Rattle.serving.specs.declared.trying.Tried.{Tried}
use Rattle.serving.specs.declared.trying.Tried.TheVariants as tried
use Rattle.serving.proofs.StateLemmas.{looks_at}

-- ---- where only others acted

come_on : (session : ℕ) (a b c : Parts) → HasCome session a b → HasCome session b c → HasCome session a c
come_on session a b c first second = record {
  numbers = second.numbers ∙ first.numbers;
  place = second.place ∙ first.place;
  grown = λ k bytes listed. second.grown k bytes (first.grown k bytes listed);
}

-- what is found is seen
pub waits_on : (address : List ℕ → List ℕ) (old new : Tells) (found : Parts) → Found address old found → new.session ≡ old.session → new.statement ≡ old.statement → new.lone ≡ old.lone
    → new.made ≡ old.made → new.seen ≡ found → IsWaiting old new
waits_on address old new found is session statement lone made seen = record {
  session = session;
  statement = statement;
  lone = lone;
  made = made;
  come = subst (HasCome old.session old.seen) (sym seen) is.come;
  own = ap (λ (p : Parts). moments_by old.session p.moments) seen ∙ is.own;
  still = λ alone. seen ∙ is.still alone;
}

-- who was alone with the value is so still
abbrev pub Keeps : Tells → Tells → Type 0
Keeps a b = (a.held || a.lone) ≡ true → (b.held || b.lone) ≡ true

pub keeps_same : (a b : Tells) → b.held ≡ a.held → b.lone ≡ a.lone → Keeps a b
keeps_same a b held lone alone = (λ i. held i || lone i) ∙ alone

pub keeps_held : (a b : Tells) → b.held ≡ true → Keeps a b
keeps_held a b held alone = ap (λ h. h || b.lone) held

pub waits_join : (a b c : Tells) → Keeps a b → IsWaiting a b → IsWaiting b c → IsWaiting a c
waits_join a b c keeps first second = record {
  session = second.session ∙ first.session;
  statement = second.statement ∙ first.statement;
  lone = second.lone ∙ first.lone;
  made = second.made ∙ first.made;
  come = come_on a.session a.seen b.seen c.seen first.come (subst (λ n. HasCome n b.seen c.seen) first.session second.come);
  own = subst (λ n. moments_by n c.seen.moments ≡ moments_by n b.seen.moments) first.session second.own ∙ first.own;
  still = λ alone. second.still (keeps alone) ∙ first.still alone;
}

waits_none : (m : Tells) → IsWaiting m m
waits_none m = record {
  session = refl;
  statement = refl;
  lone = refl;
  made = refl;
  come = record { numbers = refl; place = refl; grown = λ k bytes listed. listed };
  own = refl;
  still = λ alone. refl;
}

-- the branch and the room are as they were
pub still_on : (branch : List ℕ) (old new : Tells) → IsWaiting old new → IsOn branch old → IsOn branch new
still_on branch old new waits on = subst (λ n. slice_get new.seen.places n ≡ Some branch) (sym waits.session) (waits.come.place ∙ on)

room_still : (old new : Tells) → IsWaiting old new → room_of new ≡ room_of old
room_still old new waits =
    ap (λ (n : ℕ). 2 * slice_index_or new.seen.numbers n 0 - moments_by n new.seen.moments) waits.session
    ∙ ap (λ (ns : List ℕ). 2 * slice_index_or ns old.session 0 - moments_by old.session new.seen.moments) waits.come.numbers
    ∙ ap (λ (n : ℕ). 2 * slice_index_or old.seen.numbers old.session 0 - n) waits.own

pub has_room : (old new : Tells) → IsWaiting old new → 0 < room_of old → 0 < room_of new
has_room old new waits room = subst (λ n. 0 < n) (sym (room_still old new waits)) room

pub still_lists : (chunks : List Chunk) (old new : Tells) → IsWaiting old new → Lists chunks old.seen.chunks → Lists chunks new.seen.chunks
still_lists chunks old new waits lists = λ k bytes listed. waits.come.grown k bytes (lists k bytes listed)

-- what is found behind a wait is found
pub found_on : (address : List ℕ → List ℕ) (old new : Tells) (found : Parts) → Keeps old new → IsWaiting old new → Found address new found → Found address old found
found_on address old new found keeps waits is = record {
  shared = is.shared;
  stands = is.stands;
  come = come_on old.session old.seen new.seen found waits.come (subst (λ n. HasCome n new.seen found) waits.session is.come);
  own = subst (λ n. moments_by n found.moments ≡ moments_by n new.seen.moments) waits.session is.own ∙ waits.own;
  still = λ alone. is.still (keeps alone) ∙ waits.still alone;
}

-- a moment behind a wait
turned_on : (found left : Parts) (a b c : Tells) → IsWaiting a b → HasTurnedTo found left b c → HasTurnedTo found left a c
turned_on found left a b c waits t = record {
  session = t.session ∙ waits.session;
  statement = t.statement ∙ waits.statement;
  lone = t.lone ∙ waits.lone;
  seen = t.seen;
  free = t.free;
  made = t.made ∙ ap (λ n. option_map (λ told. told ++ turn_of n found left ∷ []) b.made) waits.statement
      ∙ ap (λ turns. option_map (λ told. told ++ turn_of a.statement found left ∷ []) turns) waits.made;
}

-- ---- what each call leaves

pub looks_idle : (address : List ℕ → List ℕ) (name : List ℕ) (look : Look) (old new : Tells) → Looks address name look old new → IsIdle old new
looks_idle address name look old new l = record {
  waits = waits_on address old new l.found l.is (ap (λ (m : Tells). m.session) l.tells) (ap (λ (m : Tells). m.statement) l.tells) (ap (λ (m : Tells). m.lone) l.tells)
      (ap (λ (m : Tells). m.made) l.tells) (ap (λ (m : Tells). m.seen) l.tells);
  held = ap (λ (m : Tells). m.held) l.tells;
  lost = ap (λ (m : Tells). m.lost) l.tells;
  holds = ap (λ (m : Tells). m.holds) l.tells;
}

pub comes_idle : (address : List ℕ → List ℕ) (old new : Tells) → Comes address old new → IsIdle old new
comes_idle address old new l = record {
  waits = waits_on address old new l.found l.is (ap (λ (m : Tells). m.session) l.tells) (ap (λ (m : Tells). m.statement) l.tells) (ap (λ (m : Tells). m.lone) l.tells)
      (ap (λ (m : Tells). m.made) l.tells) (ap (λ (m : Tells). m.seen) l.tells);
  held = ap (λ (m : Tells). m.held) l.tells;
  lost = ap (λ (m : Tells). m.lost) l.tells;
  holds = ap (λ (m : Tells). m.holds) l.tells;
}

pub holds_waits : (address : List ℕ → List ℕ) (old new : Tells) → Holds address old new → IsWaiting old new
holds_waits address old new l =
    waits_on address old new l.found l.is (ap (λ (m : Tells). m.session) l.tells) (ap (λ (m : Tells). m.statement) l.tells) (ap (λ (m : Tells). m.lone) l.tells)
    (ap (λ (m : Tells). m.made) l.tells) (ap (λ (m : Tells). m.seen) l.tells)

loses_one : (address : List ℕ → List ℕ) (look : Look) (rec : _) (old new : Tells) → IsLost address look rec old new → IsOneLost old new
loses_one address look rec old new l = record {
  waits = waits_on address old new l.found l.is (ap (λ (m : Tells). m.session) l.tells) (ap (λ (m : Tells). m.statement) l.tells) (ap (λ (m : Tells). m.lone) l.tells)
      (ap (λ (m : Tells). m.made) l.tells) (ap (λ (m : Tells). m.seen) l.tells);
  held = ap (λ (m : Tells). m.held) l.tells;
  holds = ap (λ (m : Tells). m.holds) l.tells;
  lost = ap (λ (m : Tells). m.lost) l.tells;
}

refuses : (address : List ℕ → List ℕ) (Fault : List Chunk → Type 0) (old new : Tells) → IsFaulty address Fault old new → IsRefused old new
refuses address Fault old new l = record {
  waits = waits_on address old new l.found l.is (ap (λ (m : Tells). m.session) l.tells) (ap (λ (m : Tells). m.statement) l.tells) (ap (λ (m : Tells). m.lone) l.tells)
      (ap (λ (m : Tells). m.made) l.tells) (ap (λ (m : Tells). m.seen) l.tells);
  held = ap (λ (m : Tells). m.held) l.tells;
  holds = ap (λ (m : Tells). m.holds) l.tells;
  lost = ap (λ (m : Tells). m.lost) l.tells;
}

-- ---- what is looked at, and planned

-- the look shows a state
pub has_looked : {D : Type 0} → StatesFollow → (address : List ℕ → List ℕ) (session : Session D) (look : Look) (old new : Tells) → Looks address session.branch look old new
    → Lists session.draft.chunks.base old.seen.chunks → HasLooked address session look
has_looked follow address session look old new l known = record {
  seen = l.is.shared;
  is = looks_at address l.found l.is.shared look follow l.is.stands (subst (λ n. record_at n l.found.branches ≡ Some look.rec) (sym l.at.branch) l.at.there) l.at.heads l.at.chunks;
  branch = l.at.branch;
  later = λ k bytes listed. subst (λ (chunks : List Chunk). Listed chunks k bytes) (sym l.at.chunks) (l.is.come.grown k bytes (known k bytes listed));
}

sealed_as : {A : Type 0} (f : A → List Chunk) (sealed : Option A) → sealed_in (option_map f sealed) ≡ option_map_or f sealed []
sealed_as f None = refl
sealed_as f (Some sealed) = refl

pub brought_in : (plan : DecisionPlan) → sealed_in (option_map arc_value plan.sealed) ≡ brought plan
brought_in plan = sealed_as arc_value plan.sealed

-- what was planned may be settled
fit_by : (address : List ℕ → List ℕ) (look : Look) (commits : Commits) (plan : DecisionPlan) (outcome : Outcome plain_moments.Change) → PlanIs address look commits plan outcome
    → IsFitChange address look commits plan.change (sealed_in (option_map arc_value plan.sealed))
fit_by address look commits plan (Ok made) planned =
    subst (λ (c : RecordChange). IsFitChange address look commits c (sealed_in (option_map arc_value plan.sealed))) (sym planned.is)
    (made, subst (λ (cs : List Chunk). ChangeStands address (all_chunks look.store) cs commits planned.rec made) (sym (brought_in plan)) planned.stands)
fit_by address look commits plan (Err number) planned =
    subst (λ (c : RecordChange). IsFitChange address look commits c (sealed_in (option_map arc_value plan.sealed))) (sym planned.change)
    (subst (λ sealed. IsFitChange address look commits change.Nothing (sealed_in (option_map arc_value sealed))) (sym planned.sealed)
    (record { named = tt; known = λ k bytes held committed. absurd (cc) }))

pub may_settle : {D : Type 0} (address : List ℕ → List ℕ) (session : Session D) (look : Look) (plan : DecisionPlan) (p : plain.Session) (t : plain.Transaction) (deciding : Deciding)
    → IsPlanned address session look plan p t deciding → MaySettle address look plan.change (option_map arc_value plan.sealed)
may_settle address session look plan p t deciding planned =
    let seen = planned.decides.look_is in
    record {
      commits = planned.seen.commits;
      there = seen.commits;
      head = subst (λ (k : List ℕ). is_known planned.seen.commits k ≡ true) (sym seen.stands.head) seen.stands.head_known;
      fit = fit_by address look planned.seen.commits plan (deciding planned.seen.commits planned.present) planned.is;
    }

pub planned_on : (address : List ℕ → List ℕ) (Plans : Look → DecisionPlan → Type 0) (name : List ℕ) (planned : Planned) (old new : Tells) → Looks address name planned.look old new
    → MaySettle address planned.look planned.plan.change (option_map arc_value planned.plan.sealed) → Plans planned.look planned.plan → HasPlanned address Plans name planned old new
planned_on address Plans name planned old new l stands plans = record {
  idle = looks_idle address name planned.look old new l;
  branch = l.at.branch;
  there = subst (λ (p : Parts). record_at name p.branches ≡ Some planned.look.rec) (sym (ap (λ (m : Tells). m.seen) l.tells)) l.at.there;
  chunks = l.at.chunks ∙ ap (λ (p : Parts). p.chunks) (sym (ap (λ (m : Tells). m.seen) l.tells));
  looked = ap (λ (m : Tells). m.looked) l.tells;
  stands = stands;
  plans = plans;
}

-- ---- how a settle ends the try

module _ (address : List ℕ → List ℕ) (planned : Planned) (Next : RecordChange → Bool) (old new : Tells) where
  abbrev pub SettledBy : Result (Settled × Option Look) AllocError → Type 0
  SettledBy ended = Settles address planned.look planned.plan.change (option_map arc_value planned.plan.sealed) (Next planned.plan.change) old new ended

  pub settles_by : (ended : Result (Settled × Option Look) AllocError) → SettledBy ended → SettlesPlan address planned Next old new (tried_by ended planned.plan.reply)
  settles_by (Ok (settled.Done, shown)) s = record { reply = refl; done = s }
  settles_by (Ok (settled.Moved rec, shown)) s = loses_one address planned.look rec old new s.0
  settles_by (Ok (settled.Collision clash, shown)) s = refuses address _ old new s.0
  settles_by (Ok (settled.Memory, shown)) s = refuses address _ old new s.0
  settles_by (Err e) s = comes_idle address old new s.1

  named_in : (commits : Commits) (made : RecordChange) (sealed : List Chunk) → IsFitChange address planned.look commits made sealed → AreNamed address sealed
  named_in commits change.Nothing sealed fit = fit.named
  named_in commits (change.Record rec) sealed fit = fit.1.named

  -- what was met is a collision
  pub fault_by : ChunksFollow → MaySettle address planned.look planned.plan.change (option_map arc_value planned.plan.sealed) → (ended : Result (Settled × Option Look) AllocError) → SettledBy ended
      → IfFaulty (tried_by ended planned.plan.reply) (IsFault address)
  fault_by follow stands (Ok (settled.Done, shown)) s = tt
  fault_by follow stands (Ok (settled.Moved rec, shown)) s = tt
  fault_by follow stands (Ok (settled.Collision clash, shown)) s = record {
    first = follow.is_named address s.0.found.chunks clash.address.0 clash.first s.0.is.stands.named s.0.fault.is_held;
    second = follow.is_named address (sealed_in (option_map arc_value planned.plan.sealed)) clash.address.0 clash.second
        (named_in stands.commits planned.plan.change (sealed_in (option_map arc_value planned.plan.sealed)) stands.fit) s.0.fault.is_brought;
    differ = s.0.fault.differ;
  }
  fault_by follow stands (Ok (settled.Memory, shown)) s = tt
  fault_by follow stands (Err e) s = tt

pub not_lost : (ended : Result (Settled × Option Look) AllocError) (reply : Reply) → IsUnmoved ended → IsNotLost (tried_by ended reply)
not_lost (Ok (settled.Done, shown)) reply so = tt
not_lost (Ok (settled.Moved rec, shown)) reply so = so
not_lost (Ok (settled.Collision clash, shown)) reply so = tt
not_lost (Ok (settled.Memory, shown)) reply so = tt
not_lost (Err e) reply so = tt

-- ---- a try

module _ (address : List ℕ → List ℕ) (Plans : Look → DecisionPlan → Type 0) (name : List ℕ) (Next : RecordChange → Bool) (planned : Planned) (a b : Tells) (p : HasPlanned address Plans name planned a b) where
  keeps : Keeps a b
  keeps = keeps_same a b p.idle.held p.idle.waits.lone

  pub planned_branch : IsOn name a → IsOn planned.look.branch b
  planned_branch on = subst (λ n. IsOn n b) (sym p.branch) (still_on name a b p.idle.waits on)

  pub planned_given : Lists (all_chunks planned.look.store) b.seen.chunks
  planned_given = λ k bytes listed. subst (λ (chunks : List Chunk). Listed chunks k bytes) p.chunks listed

  pub planned_there : record_at planned.look.branch b.seen.branches ≡ Some planned.look.rec
  planned_there = subst (λ n. record_at n b.seen.branches ≡ Some planned.look.rec) (sym p.branch) p.there

  abbrev sealed : Option (List Chunk)
  sealed = option_map arc_value planned.plan.sealed

  decides : (c : Tells) (made : Made) → IsSettledBy address planned Next made b c → DecidesFree address Plans name Next made a c
  decides c made s = record {
    decided = record {
      found = s.done.found;
      is = found_on address a b s.done.found keeps p.idle.waits s.done.is;
      left = s.done.left;
      planned = planned;
      plans = p.plans;
      looked = ap (λ (x : Tells). x.looked) s.done.tells ∙ p.looked;
      branch = p.branch;
      listed = λ k bytes listed. s.done.is.come.grown k bytes (planned_given k bytes listed);
      there = subst (λ n. record_at n s.done.found.branches ≡ Some planned.look.rec) p.branch s.done.there;
      settled = subst (λ n. IsSettled n a.statement name planned.plan.change sealed s.done.found s.done.left) p.idle.waits.session
          (subst (λ n. IsSettled b.session n name planned.plan.change sealed s.done.found s.done.left) p.idle.waits.statement
          (subst (λ n. IsSettled b.session b.statement n planned.plan.change sealed s.done.found s.done.left) p.branch s.done.settled));
      stands = s.done.stands;
      shows = subst (λ n. ShowsNext (Next planned.plan.change) n s.done.left made.next) p.branch s.done.shows;
      reply = s.reply;
      turned = turned_on s.done.found s.done.left a b c p.idle.waits (record {
        session = ap (λ (x : Tells). x.session) s.done.tells;
        statement = ap (λ (x : Tells). x.statement) s.done.tells;
        lone = ap (λ (x : Tells). x.lone) s.done.tells;
        seen = ap (λ (x : Tells). x.seen) s.done.tells;
        free = ap (λ (x : Tells). x.held) s.done.tells;
        made = ap (λ (x : Tells). x.made) s.done.tells;
      });
    };
    holds = ap (λ (x : Tells). x.holds) s.done.tells ∙ p.idle.holds;
    lost = let same : c.lost ≡ a.lost = ap (λ (x : Tells). x.lost) s.done.tells ∙ p.idle.lost in omega (arith, same);
  }

  -- the look, the plan and the settle are a try
  pub attempted : (c : Tells) (result : Tried) → SettlesPlan address planned Next b c result → AttemptIs address Plans name Next a c result
  attempted c (tried.Made made) m = decides c made m
  attempted c tried.Lost m = record {
    waits = waits_join a b c keeps p.idle.waits m.waits;
    held = m.held ∙ p.idle.held;
    holds = m.holds ∙ p.idle.holds;
    lost = m.lost ∙ ap risen p.idle.lost;
  }
  attempted c (tried.Faulty fault) m = record {
    waits = waits_join a b c keeps p.idle.waits m.waits;
    held = m.held ∙ p.idle.held;
    lost = m.lost ∙ p.idle.lost;
    holds = m.holds ∙ p.idle.holds;
  }
  attempted c (tried.Refused fault) m = record {
    waits = waits_join a b c keeps p.idle.waits m.waits;
    held = m.held;
    holds = m.holds ∙ p.idle.holds;
    lost = m.lost ∙ p.idle.lost;
  }

-- ---- the tries

pub lost_none : (m : Tells) → HasLost 0 m m
lost_none m = record { waits = waits_none m; held = refl; holds = refl; lost = omega arith; more = omega arith }

pub lost_keeps : (n : ℕ) (a b : Tells) → HasLost n a b → Keeps a b
lost_keeps n a b lost = keeps_same a b lost.held lost.waits.lone

pub lost_one : (n : ℕ) (a b c : Tells) → HasLost n a b → IsOneLost b c → HasLost (n + 1) a c
lost_one n a b c lost one =
    let last : c.lost ≡ max b.lost (min (b.lost + 1) (2 ^ 64 - 1)) = one.lost in
    let before : min (a.lost + n) (2 ^ 64 - 1) ≤ b.lost = lost.lost in
    let more : a.lost ≤ b.lost = lost.more in
    record {
      waits = waits_join a b c (lost_keeps n a b lost) lost.waits one.waits;
      held = one.held ∙ lost.held;
      holds = one.holds ∙ lost.holds;
      lost = omega (arith, last, before);
      more = omega (arith, last, more);
    }

module _ (address : List ℕ → List ℕ) (Plans : Look → DecisionPlan → Type 0) (name : List ℕ) (Next : RecordChange → Bool) (made : Made) where
  -- a decision behind a wait
  pub decided_on : (a b c : Tells) → Keeps a b → IsWaiting a b → HasDecided address Plans name Next made b c → HasDecided address Plans name Next made a c
  decided_on a b c keeps waits d = record {
    found = d.found;
    is = found_on address a b d.found keeps waits d.is;
    left = d.left;
    planned = d.planned;
    plans = d.plans;
    looked = d.looked;
    branch = d.branch;
    listed = d.listed;
    there = d.there;
    settled = subst (λ n. IsSettled n a.statement name d.planned.plan.change (option_map arc_value d.planned.plan.sealed) d.found d.left) waits.session
        (subst (λ n. IsSettled b.session n name d.planned.plan.change (option_map arc_value d.planned.plan.sealed) d.found d.left) waits.statement d.settled);
    stands = d.stands;
    shows = d.shows;
    reply = d.reply;
    turned = turned_on d.found d.left a b c waits d.turned;
  }

  -- a try behind others that were lost
  pub decided_free : (n : ℕ) (a b c : Tells) → HasLost n a b → DecidesFree address Plans name Next made b c → DecidesFree address Plans name Next made a c
  decided_free n a b c lost is =
      let before : a.lost ≤ b.lost = lost.more in
      let after : b.lost ≤ c.lost = is.lost in
      record { decided = decided_on a b c (lost_keeps n a b lost) lost.waits is.decided; holds = is.holds ∙ lost.holds; lost = omega (arith, before, after) }

-- a fault behind tries that were lost
pub faulty_on : (n : ℕ) (a b c : Tells) → HasLost n a b → IsIdle b c → HasLost 0 a c
faulty_on n a b c lost is =
    let before : a.lost ≤ b.lost = lost.more in
    let same : c.lost ≡ b.lost = is.lost in
    record {
      waits = waits_join a b c (lost_keeps n a b lost) lost.waits is.waits;
      held = is.held ∙ lost.held;
      holds = is.holds ∙ lost.holds;
      lost = omega (arith, before, same);
      more = omega (arith, before, same);
    }

pub refused_on : (n : ℕ) (a b c : Tells) → a.held ≡ false → HasLost n a b → IsRefused b c → HasLost 0 a c
refused_on n a b c free lost is =
    let before : a.lost ≤ b.lost = lost.more in
    let same : c.lost ≡ b.lost = is.lost in
    record {
      waits = waits_join a b c (lost_keeps n a b lost) lost.waits is.waits;
      held = is.held ∙ sym free;
      holds = is.holds ∙ lost.holds;
      lost = omega (arith, before, same);
      more = omega (arith, before, same);
    }

-- ---- while it is held

-- the value let go
pub go_waits : (old new : Tells) → new ≡ after_letting_go old → IsWaiting old new
go_waits old new tells = subst (IsWaiting old) (sym tells) (record {
  session = refl;
  statement = refl;
  lone = refl;
  made = refl;
  come = record { numbers = refl; place = refl; grown = λ k bytes listed. listed };
  own = refl;
  still = λ alone. refl;
})

-- a decision while it is held
pub decided_held : (address : List ℕ → List ℕ) (Plans : Look → DecisionPlan → Type 0) (name : List ℕ) (Next : RecordChange → Bool) (made : Made) (a b c : Tells) → Holds address a b
    → DecidesFree address Plans name Next made b c → HasDecided address Plans name Next made a c
decided_held address Plans name Next made a b c h is =
    decided_on address Plans name Next made a b c (keeps_held a b (ap (λ (m : Tells). m.held) h.tells)) (holds_waits address a b h) is.decided

pub lost_held : (address : List ℕ → List ℕ) (a b c : Tells) → Holds address a b → b.lost ≤ c.lost → a.lost ≤ c.lost
lost_held address a b c h more = let same : b.lost ≡ a.lost = ap (λ (m : Tells). m.lost) h.tells in omega (arith, same, more)

-- a fault while it is held, which ends the hold or is let go
pub refused_held : (address : List ℕ → List ℕ) (a b c : Tells) → Holds address a b → IsRefused b c → IsUndecided a c
refused_held address a b c h is =
    let held : b.held ≡ true = ap (λ (m : Tells). m.held) h.tells in
    let first : b.lost ≡ a.lost = ap (λ (m : Tells). m.lost) h.tells in
    let second : c.lost ≡ b.lost = is.lost in
    record {
      free = record { waits = waits_join a b c (keeps_held a b held) (holds_waits address a b h) is.waits; free = is.held };
      lost = omega (arith, first, second);
    }

pub faulty_held : (address : List ℕ → List ℕ) (a b c d : Tells) → Holds address a b → IsIdle b c → d ≡ after_letting_go c → IsUndecided a d
faulty_held address a b c d h is tells =
    let held : b.held ≡ true = ap (λ (m : Tells). m.held) h.tells in
    let first : b.lost ≡ a.lost = ap (λ (m : Tells). m.lost) h.tells in
    let second : c.lost ≡ b.lost = is.lost in
    let third : d.lost ≡ c.lost = ap (λ (m : Tells). m.lost) tells in
    record {
      free = record {
        waits = waits_join a c d (keeps_held a c (is.held ∙ held)) (waits_join a b c (keeps_held a b held) (holds_waits address a b h) is.waits) (go_waits c d tells);
        free = ap (λ (m : Tells). m.held) tells;
      };
      lost = omega (arith, first, second, third);
    }

-- ---- both kinds of fault

module _ (result : Tried) (fault : PutFault) (is : (result ≡ tried.Faulty fault) ⊎ (result ≡ tried.Refused fault)) where
  pub fault_of : (P : PutFault → Type 0) → IfFaulty result P → P fault
  fault_of P faulty = by is faulty where
    by : (result ≡ tried.Faulty fault) ⊎ (result ≡ tried.Refused fault) → IfFaulty result P → P fault
    by (inl same) faulty = subst (λ (r : Tried). IfFaulty r P) same faulty
    by (inr same) faulty = subst (λ (r : Tried). IfFaulty r P) same faulty

  pub failed_on : (address : List ℕ → List ℕ) (Plans : Look → DecisionPlan → Type 0) (name : List ℕ) (Next : RecordChange → Bool) (n : ℕ) (a b c : Tells) → a.held ≡ false → HasLost n a b
      → AttemptIs address Plans name Next b c result → HasLost 0 a c
  failed_on address Plans name Next n a b c free lost attempt = by is attempt where
    by : (result ≡ tried.Faulty fault) ⊎ (result ≡ tried.Refused fault) → AttemptIs address Plans name Next b c result → HasLost 0 a c
    by (inl same) attempt = faulty_on n a b c lost (subst (AttemptIs address Plans name Next b c) same attempt)
    by (inr same) attempt = refused_on n a b c free lost (subst (AttemptIs address Plans name Next b c) same attempt)

-- ---- what the tries tell

pub free_holds : (address : List ℕ → List ℕ) (Plans : Look → DecisionPlan → Type 0) (name : List ℕ) (Next : RecordChange → Bool) (made : Made) (a b : Tells)
    → DecidesFree address Plans name Next made a b → HoldsAfterThree a b
free_holds address Plans name Next made a b is = record { held = λ other. absurd (other is.holds); lost = is.lost }

pub lost_holds : (n : ℕ) (a b : Tells) → HasLost n a b → HoldsAfterThree a b
lost_holds n a b is = record { held = λ other. absurd (other is.holds); lost = is.more }

pub three_hold : (a b c : Tells) → HasLost 3 a b → b.lost ≤ c.lost → HoldsAfterThree a c
three_hold a b c lost later =
    let before : min (a.lost + 3) (2 ^ 64 - 1) ≤ b.lost = lost.lost in
    let more : a.lost ≤ b.lost = lost.more in
    record { held = λ other. omega (arith, before, later); lost = omega (arith, more, later) }

pub lost_waits : (n : ℕ) (a b : Tells) → HasLost n a b → a.held ≡ false → WaitsFree a b
lost_waits n a b lost free = record { waits = lost.waits; free = lost.held ∙ free }

pub three_wait : (a b c : Tells) → HasLost 3 a b → IsUndecided b c → WaitsFree a c
three_wait a b c lost is = record { waits = waits_join a b c (lost_keeps 3 a b lost) lost.waits is.free.waits; free = is.free.free }
