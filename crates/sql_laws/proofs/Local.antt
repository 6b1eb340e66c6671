-- A reader goes by the pieces that it takes and the next one: two runs on pieces that begin alike go alike until both are past what they share.
use Rattle.std.proofs.Common.{◌≡◌, ◌≤◌, ◌<◌, ◌+◌, ◌∙◌, sym, ap, refl, subst, ℕ, zero, suc, true, false, Bool, cond, List, [], ◌∷◌, ◌++◌, length, drop, Option, Some, None, Ok, Err, ◌⊎◌, inl, inr, arith}
use Rattle.sql_ast.specs.declared.pieces.Piece.{Piece}
use Rattle.sql_grammar.specs.Reading.{Outcome, Reader, and_then, pure, stop, begins, behind as linked_behind, seen, taken, one, linked, chain, chain_from}

-- what is left of the shared pieces, where some of them are
abbrev pub Left : List Piece → List Piece → Type 0
Left shared left = (0 < length left) × (length left ≤ length shared)

-- how two runs end, on pieces that are shared and others behind them: alike before the end of those that are shared, or the first is past them
abbrev pub Alike : (A : Type 0) → List Piece → List Piece → List Piece → Outcome A → Outcome A → Type 0
Alike A shared behind other (Ok read) o =
    ((left : List Piece) × Left shared left × (read.1 ≡ left ++ behind) × (o ≡ Ok (read.0, left ++ other))) ⊎ (length read.1 ≤ length behind)
Alike A shared behind other (Err n) o =
    ((left : List Piece) × Left shared left × (n ≡ length (left ++ behind)) × (o ≡ Err (length (left ++ other)))) ⊎ (n ≤ length behind)

abbrev pub Local : (A : Type 0) → Reader A → Type 0
Local A reader = (shared behind other : List Piece) → Alike A shared behind other (reader (shared ++ behind)) (reader (shared ++ other))

-- nothing is shared, so the first run is past it
pub past : (A : Type 0) (shared before behind other more : List Piece) (o one_ two : Outcome A) → length before ≤ length behind → Alike A [] before more o one_ → Alike A shared behind other o two
past A shared before behind other more (Ok read) one_ two few (inl w) = absurd (omega arith)
past A shared before behind other more (Ok read) one_ two few (inr short) = inr (omega arith)
past A shared before behind other more (Err n) one_ two few (inl w) = absurd (omega arith)
past A shared before behind other more (Err n) one_ two few (inr short) = inr (omega arith)

pub wider : (A : Type 0) (shared less behind other : List Piece) (o two : Outcome A) → length less ≤ length shared → Alike A less behind other o two → Alike A shared behind other o two
wider A shared less behind other (Ok read) two few (inl w) = inl (w.0, (w.1.0, omega arith), w.2, w.3)
wider A shared less behind other (Ok read) two few (inr short) = inr short
wider A shared less behind other (Err n) two few (inl w) = inl (w.0, (w.1.0, omega arith), w.2, w.3)
wider A shared less behind other (Err n) two few (inr short) = inr short

after_alike : (A B : Type 0) (shared behind other : List Piece) (o two : Outcome A) (next : A → Reader B) → Alike A shared behind other o two → ((x : A) → Local B (next x))
    → Alike B shared behind other (and_then o next) (and_then two next)
after_alike A B shared behind other (Ok read) two next (inl w) goes =
    subst (λ ts. Alike B shared behind other (next read.0 ts) (and_then two next)) (sym w.2)
    (subst (λ v. Alike B shared behind other (next read.0 (w.0 ++ behind)) (and_then v next)) (sym w.3)
    (wider B shared w.0 behind other (next read.0 (w.0 ++ behind)) (next read.0 (w.0 ++ other)) w.1.1 (goes read.0 w.0 behind other)))
after_alike A B shared behind other (Ok read) two next (inr short) goes =
    past B shared read.1 behind other [] (next read.0 read.1) (next read.0 []) (and_then two next) short (goes read.0 [] read.1 [])
after_alike A B shared behind other (Err n) two next (inl w) goes = inl (w.0, w.1, w.2, ap (λ v. and_then v next) w.3)
after_alike A B shared behind other (Err n) two next (inr short) goes = inr short

pub after : (A B : Type 0) (first : Reader A) (next : A → Reader B) → Local A first → ((x : A) → Local B (next x)) → Local B (λ ts. and_then (first ts) next)
after A B first next local goes shared behind other =
    after_alike A B shared behind other (first (shared ++ behind)) (first (shared ++ other)) next (local shared behind other) goes

-- nothing is taken
pub stays : (A : Type 0) (x : A) → Local A (pure x)
stays A x [] behind other = inr (omega arith)
stays A x (t ∷ shared) behind other = inl (t ∷ shared, (omega arith, omega arith), refl, refl)

pub stops : (A : Type 0) → Local A stop
stops A [] behind other = inr (omega arith)
stops A (t ∷ shared) behind other = inl (t ∷ shared, (omega arith, omega arith), refl, refl)

pub shorter : (ts : List Piece) → length (drop 1 ts) ≤ length ts
shorter [] = omega arith
shorter (t ∷ ts) = omega arith

-- the next piece is taken
pub takes : (A : Type 0) (x : A) → Local A (λ ts. Ok (x, drop 1 ts))
takes A x [] behind other = inr (shorter behind)
takes A x (t ∷ []) behind other = inr (omega arith)
takes A x (t ∷ u ∷ shared) behind other = inl (u ∷ shared, (omega arith, omega arith), refl, refl)

-- a reader that is chosen by the next piece
pub ahead : (A X : Type 0) (view : List Piece → X) (reader : X → Reader A) → ((t : Piece) (ts us : List Piece) → view (t ∷ ts) ≡ view (t ∷ us)) → ((x : X) → Local A (reader x))
    → Local A (λ ts. reader (view ts) ts)
ahead A X view reader next local [] behind other =
    past A [] behind behind other other (reader (view behind) behind) (reader (view behind) other) (reader (view other) other) (omega arith) (local (view behind) [] behind other)
ahead A X view reader next local (t ∷ shared) behind other =
    subst (λ x. Alike A (t ∷ shared) behind other (reader (view (t ∷ shared ++ behind)) (t ∷ shared ++ behind)) (reader x (t ∷ shared ++ other))) (next t (shared ++ behind) (shared ++ other))
    (local (view (t ∷ shared ++ behind)) (t ∷ shared) behind other)

chosen : (A : Type 0) (b : Bool) (one_ two : Reader A) → Local A one_ → Local A two → Local A (cond b one_ two)
chosen A true one_ two first second = first
chosen A false one_ two first second = second

-- a piece is taken if it passes a test
pub eats : (A : Type 0) (test : Piece → Bool) (x y : A) → Local A (λ ts. cond (begins test ts) (Ok (x, drop 1 ts)) (Ok (y, ts)))
eats A test x y =
    ahead A Bool (begins test) (λ b ts. cond b (Ok (x, drop 1 ts)) (Ok (y, ts))) (λ t ts us. refl) (elim [ true ↦ takes A x | false ↦ stays A y ])

pub wants : (A : Type 0) (test : Piece → Bool) (x : A) → Local A (λ ts. cond (begins test ts) (Ok (x, drop 1 ts)) (Err (length ts)))
wants A test x =
    ahead A Bool (begins test) (λ b ts. cond b (Ok (x, drop 1 ts)) (Err (length ts))) (λ t ts us. refl) (elim [ true ↦ takes A x | false ↦ stops A ])

pub takes_seen : (A : Type 0) (x : Option A) → Local A (taken x)
takes_seen A (Some x) = takes A x
takes_seen A None = stops A

pub one_local : (A : Type 0) (view : Piece → Option A) → Local A (one view)
one_local A view = ahead A (Option A) (seen view) taken (λ t ts us. refl) (takes_seen A)

-- an outcome that leaves so many pieces at most
abbrev pub Short : (A : Type 0) → ℕ → Outcome A → Type 0
Short A n (Ok read) = length read.1 ≤ n
Short A n (Err k) = k ≤ n

short_alike : (A : Type 0) (ts more : List Piece) (o two : Outcome A) → Alike A [] ts more o two → Short A (length ts) o
short_alike A ts more (Ok read) two (inl w) = absurd (omega arith)
short_alike A ts more (Ok read) two (inr short) = short
short_alike A ts more (Err n) two (inl w) = absurd (omega arith)
short_alike A ts more (Err n) two (inr short) = short

-- no reader leaves more pieces than there were
pub short : (A : Type 0) (reader : Reader A) → Local A reader → (ts : List Piece) → Short A (length ts) (reader ts)
short A reader local ts = short_alike A ts [] (reader ts) (reader []) (local [] ts [])

pub alike_of_short : (A : Type 0) (shared behind other : List Piece) (o two : Outcome A) → Short A (length behind) o → Alike A shared behind other o two
alike_of_short A shared behind other (Ok read) two is = inr is
alike_of_short A shared behind other (Err n) two is = inr is

pub shorter_still : (A : Type 0) (m n : ℕ) (o : Outcome A) → m ≤ n → Short A m o → Short A n o
shorter_still A m n (Ok read) few is = omega arith
shorter_still A m n (Err k) few is = omega arith

-- a link takes a piece
abbrev pub TakesOne : (A : Type 0) → ℕ → Option A → List Piece → Type 0
TakesOne A n None ts = Unit {0}
TakesOne A n (Some x) ts = length ts < n

abbrev pub Takes : (A : Type 0) → ℕ → Outcome (Option A) → Type 0
Takes A n (Ok read) = TakesOne A n read.0 read.1
Takes A n (Err k) = Unit {0}

pub some_takes : (A B : Type 0) (f : A → B) (n : ℕ) (o : Outcome A) → Short A n o → Takes B (suc n) (and_then o (λ x. pure (Some (f x))))
some_takes A B f n (Ok read) short_ = omega arith
some_takes A B f n (Err k) short_ = tt

-- what leads to a link
abbrev pub lead_by : (Piece → Bool) → Reader Bool
lead_by test = λ ts. cond (begins test ts) (Ok (true, drop 1 ts)) (Ok (false, ts))

module _ (A : Type 0) (test : Piece → Bool) (item : Reader A) (local : Local A item) where
  pub link_local : Local (Option A) (linked_behind (lead_by test) item)
  link_local =
      after Bool (Option A) (lead_by test) _ (eats Bool test true false)
      (elim [ true ↦ after A (Option A) item _ local (λ x. stays (Option A) (Some x)) | false ↦ stays (Option A) None ])

  pub link_takes : (ts : List Piece) → Takes A (length ts) (linked_behind (lead_by test) item ts)
  link_takes [] = tt
  link_takes (t ∷ ts) =
      elim (test t) as (λ b. Takes A (suc (length ts)) (and_then (cond b (Ok (true, ts)) (Ok (false, t ∷ ts))) (λ goes_on. cond goes_on (λ us. and_then (item us) (λ x. pure (Some x))) (pure None)))) [
        | true ↦ some_takes A A (λ x. x) (length ts) (item ts) (short A item local ts)
        | false ↦ tt
      ]

-- two readers that answer alike
pub as_another : (A : Type 0) (one_ two : Reader A) → ((ts : List Piece) → one_ ts ≡ two ts) → Local A two → Local A one_
as_another A one_ two same local shared behind other =
    subst (λ o. Alike A shared behind other o (one_ (shared ++ other))) (sym (same (shared ++ behind)))
    (subst (λ o. Alike A shared behind other (two (shared ++ behind)) o) (sym (same (shared ++ other))) (local shared behind other))

-- a turn of a loop: what was read so far, with what a link gives, or as it is
abbrev pub turned : {S X : Type 0} → (S → Reader S) → (S → X → S) → S → Option X → Reader S
turned go_on add so_far (Some x) = go_on (add so_far x)
turned go_on add so_far None = pure so_far

-- a loop that has as many turns as there are pieces, of which each takes one
module _ (S X : Type 0) (from : ℕ → S → Reader S) (add : S → X → S) (link : Reader (Option X)) (ends : (s : S) (ts : List Piece) → from zero s ts ≡ Ok (s, ts))
    (turns_by : (n : ℕ) (s : S) (ts : List Piece) → from (suc n) s ts ≡ and_then (link ts) (turned (from n) add s)) (local : Local (Option X) link)
    (takes_one : (ts : List Piece) → Takes X (length ts) (link ts)) (nothing : link [] ≡ Ok (None, [])) where
  turns_local : (n : ℕ) (s : S) → Local S (from n s)
  turns_local zero s = as_another S (from zero s) (pure s) (ends s) (stays S s)
  turns_local (suc n) s =
      as_another S (from (suc n) s) (λ ts. and_then (link ts) (turned (from n) add s)) (turns_by n s)
      (after (Option X) S link (turned (from n) add s) local (elim [ None ↦ stays S s | Some x ↦ turns_local n (add s x) ]))

  past_end : (n : ℕ) (s : S) → from n s [] ≡ Ok (s, [])
  past_end zero s = ends s []
  past_end (suc n) s = turns_by n s [] ∙ ap (λ o. and_then o (turned (from n) add s)) nothing

  -- one count of turns does as well as another, where both are enough
  enough : (n m : ℕ) (s : S) (ts : List Piece) → length ts ≤ n → length ts ≤ m → from n s ts ≡ from m s ts
  enough n m s [] one_ two = past_end n s ∙ sym (past_end m s)
  enough zero m s (t ∷ ts) one_ two = absurd (omega arith)
  enough (suc n) zero s (t ∷ ts) one_ two = absurd (omega arith)
  enough (suc n) (suc m) s (t ∷ ts) one_ two =
      turns_by n s (t ∷ ts) ∙ go (link (t ∷ ts)) (takes_one (t ∷ ts)) (λ x us few. enough n m (add s x) us (omega arith) (omega arith)) ∙ sym (turns_by m s (t ∷ ts))
    where
      go : (o : Outcome (Option X)) → Takes X (suc (length ts)) o → ((x : X) (us : List Piece) → length us < suc (length ts) → from n (add s x) us ≡ from m (add s x) us)
          → and_then o (turned (from n) add s) ≡ and_then o (turned (from m) add s)
      go (Ok (None, us)) few same = refl
      go (Ok (Some x, us)) few same = same x us few
      go (Err k) few same = refl

  pub loop_local : (s : S) → Local S (λ ts. from (length ts) s ts)
  loop_local s shared behind other =
      let n = length (shared ++ behind) + length (shared ++ other) in
      let run = λ (ts : List Piece). from n s ts in
      subst (λ o. Alike S shared behind other o (from (length (shared ++ other)) s (shared ++ other))) (enough n (length (shared ++ behind)) s (shared ++ behind) (omega arith) (omega arith))
      (subst (λ o. Alike S shared behind other (run (shared ++ behind)) o) (enough n (length (shared ++ other)) s (shared ++ other) (omega arith) (omega arith)) (turns_local n s shared behind other))

module _ (A : Type 0) (link : Reader (Option A)) (local : Local (Option A) link) (takes_one : (ts : List Piece) → Takes A (length ts) (link ts)) (nothing : link [] ≡ Ok (None, [])) where
  linked_is : (n : ℕ) (found : List A) (o : Outcome (Option A)) → and_then o (linked (chain_from link n) found) ≡ and_then o (turned (chain_from link n) (λ xs x. xs ++ x ∷ []) found)
  linked_is n found (Ok (Some x, us)) = refl
  linked_is n found (Ok (None, us)) = refl
  linked_is n found (Err k) = refl

  pub chain_from_local : (found : List A) → Local (List A) (λ ts. chain_from link (length ts) found ts)
  unfolding chain_from
  chain_from_local = loop_local (List A) A (chain_from link) (λ xs x. xs ++ x ∷ []) link (λ found ts. refl) (λ n found ts. linked_is n found (link ts)) local takes_one nothing

  pub chain_local : Local (List A) (chain link)
  unfolding chain
  chain_local = chain_from_local []

-- a link that drops its first piece, where it reads anything
pub takes_of_short : (A : Type 0) (n : ℕ) (o : Outcome (Option A)) → Short (Option A) n o → Takes A (suc n) o
takes_of_short A n (Ok (Some x, us)) few = omega arith
takes_of_short A n (Ok (None, us)) few = tt
takes_of_short A n (Err k) few = tt

pub short_after : (A B : Type 0) (n : ℕ) (o : Outcome A) (next : A → Reader B) → Short A n o → ((x : A) → Local B (next x)) → Short B n (and_then o next)
short_after A B n (Ok read) next few goes = shorter_still B (length read.1) n (next read.0 read.1) few (short B (next read.0) (goes read.0) read.1)
short_after A B n (Err k) next few goes = few

-- A reader that is chosen by the next pieces, of which it takes as many as there may be in doubt.
-- Where the pieces that are shared leave doubt, both take all of them.
pub chosen_by : (A : Type 0) (test : List Piece → Bool) (one_ two : Reader A) (shared behind other : List Piece) → Local A one_ → Local A two
    → (test (shared ++ behind) ≡ test (shared ++ other)) ⊎ (Short A (length behind) (one_ (shared ++ behind)) × Short A (length behind) (two (shared ++ behind)))
    → Alike A shared behind other (cond (test (shared ++ behind)) (one_ (shared ++ behind)) (two (shared ++ behind))) (cond (test (shared ++ other)) (one_ (shared ++ other)) (two (shared ++ other)))
chosen_by A test one_ two shared behind other first second (inl same) =
    subst (λ b. Alike A shared behind other (cond (test (shared ++ behind)) (one_ (shared ++ behind)) (two (shared ++ behind))) (cond b (one_ (shared ++ other)) (two (shared ++ other)))) same
    (elim (test (shared ++ behind)) as (λ b. Alike A shared behind other (cond b (one_ (shared ++ behind)) (two (shared ++ behind))) (cond b (one_ (shared ++ other)) (two (shared ++ other)))) [
      | true ↦ first shared behind other
      | false ↦ second shared behind other
    ])
chosen_by A test one_ two shared behind other first second (inr few) =
    alike_of_short A shared behind other _ (cond (test (shared ++ other)) (one_ (shared ++ other)) (two (shared ++ other)))
    (elim (test (shared ++ behind)) as (λ b. Short A (length behind) (cond b (one_ (shared ++ behind)) (two (shared ++ behind)))) [ true ↦ few.0 | false ↦ few.1 ])
