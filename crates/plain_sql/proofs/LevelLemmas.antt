-- A stack of levels in place of loops within one another.
use Rattle.std.proofs.Common.{◌≡◌, ◌<◌, ◌≤◌, ◌==◌, ◌∙◌, refl, sym, ap, subst, true, ℕ, suc, ◌+◌, ◌-◌, ◌*◌, Bool, cond, List, [], ◌∷◌, ◌++◌, Ok, Err, Result, Option, None, Some, filter, length, take, drop, get_or, nat_eq, arith}
use Rattle.std.specs.List.{All}
use Rattle.std.specs.Option.{IfSome, MatchOption}
use Rattle.std.specs.Result.{IsErr, IsErrAnd}
use Rattle.std.proofs.lemmas.Bool.Decides.{nat_tests}
use Rattle.std.proofs.Math.Nat.{mul-le-mul_right}
use Rattle.std.proofs.lemmas.List.{append-nil}
use Rattle.std.proofs.lemmas.List.Elements.{All-nil, All-pop, All-push}
use Rattle.tuple_codec.proofs.Lists.{filter_few}
use Rattle.tuple_codec.proofs.Truths.{two}
use Rattle.tuple_codec.specs.Rows.{Cells, cell_at}
use Rattle.expr_eval.specs.Binding.{Outcome}
use Rattle.plain_sql.specs.Answers.{Meaning, kept_row}
use Rattle.plain_sql.specs.Gives.{Adds}
use Rattle.plain_sql.specs.Levels.{IsServed, Opens, left_of, rows_of, weight, work_of}
use Rattle.plain_sql.specs.Links.{AreServed, has_cell, suits, tried, tried_with}
use Rattle.plain_sql.specs.Lists.{all_of, behind}
use Rattle.plain_sql.specs.Nesting.{kept_from}
use Rattle.plain_sql.specs.declared.faults.Refused.{Refused}
use Rattle.plain_sql.specs.declared.faults.Refused.TheVariants.{Memory, By}
use Rattle.plain_sql.specs.declared.levels.Level.{Level}
use Rattle.plain_sql.specs.declared.lookups.Lookup.{Lookup}
use Rattle.plain_sql.specs.declared.sources.Read.{Read}
use Rattle.plain_sql.proofs.LookupLemmas.{served_first, tried_same}
use Rattle.plain_sql.proofs.NestedLemmas.{behind_assoc, behind_none, behind_nothing, first_of, nothing_behind}

-- what a stack of levels has left, the last first
abbrev pub left : List Meaning → List Level → Outcome (List Cells)
left tests [] = Ok []
left tests (level ∷ above) = behind (left tests above) (left_of tests level)

abbrev pub work : List Level → ℕ
work [] = 0
work (level ∷ above) = work above + work_of level

left_last : (tests : List Meaning) (below : List Level) (top : Level) → left tests (below ++ top ∷ []) ≡ behind (left_of tests top) (left tests below)
left_last tests [] top = behind_nothing (left_of tests top) ∙ sym (nothing_behind (left_of tests top))
left_last tests (level ∷ below) top = ap (λ o. behind o (left_of tests level)) (left_last tests below top) ∙ behind_assoc (left_of tests top) (left tests below) (left_of tests level)

work_last : (below : List Level) (top : Level) → work (below ++ top ∷ []) ≡ work_of top + work below
work_last [] top = omega arith
work_last (level ∷ below) top =
    let less = work_last below top in
    omega (arith, less)

-- what is kept of all is what is kept so far, and behind that what the stack has left
pub record Goes (tests : List Meaning) (whole : Outcome (List Cells)) (kept : List Cells) (levels : List Level) : Type 0 where
  pub served : All (IsServed tests) levels
  pub whole_is : whole ≡ behind (Ok kept) (left tests levels)

pub goes_first : (tests : List Meaning) (whole : Outcome (List Cells)) (kept : List Cells) (level : Level) → IsServed tests level → left_of tests level ≡ whole
    → Goes tests (behind (Ok kept) whole) kept (level ∷ [])
goes_first tests whole kept level served is = record {
  served = All-push (IsServed tests) [] level (All-nil (IsServed tests)) served;
  whole_is = ap (behind (Ok kept)) (sym is ∙ sym (behind_nothing (left_of tests level)));
}

pub served_last : (tests : List Meaning) (whole : Outcome (List Cells)) (kept : List Cells) (levels below : List Level) (level : Level) → Goes tests whole kept levels → levels ≡ below ++ level ∷ []
    → IsServed tests level
served_last tests whole kept levels below level goes is = (All-pop (IsServed tests) levels below (Some level) is goes.served).1

popped : (tests : List Meaning) (whole : Outcome (List Cells)) (kept : List Cells) (levels below : List Level) (level : Level) → Goes tests whole kept levels → levels ≡ below ++ level ∷ []
    → whole ≡ behind (behind (Ok kept) (left_of tests level)) (left tests below)
popped tests whole kept levels below level goes is =
    goes.whole_is ∙ ap (λ l. behind (Ok kept) (left tests l)) is ∙ ap (behind (Ok kept)) (left_last tests below level)
    ∙ sym (behind_assoc (Ok kept) (left_of tests level) (left tests below))

pub goes_on : (tests : List Meaning) (whole : Outcome (List Cells)) (kept more : List Cells) (levels below : List Level) (level : Level) → Goes tests whole kept levels → levels ≡ below ++ level ∷ []
    → behind (Ok kept) (left_of tests level) ≡ Ok more → Goes tests whole more below
goes_on tests whole kept more levels below level goes is adds = record {
  served = (All-pop (IsServed tests) levels below (Some level) is goes.served).0;
  whole_is = popped tests whole kept levels below level goes is ∙ ap (λ o. behind o (left tests below)) adds;
}

pub goes_over : (tests : List Meaning) (old : List Cells) (whole : Outcome (List Cells)) (kept after new : List Cells) (levels below : List Level) (level : Level)
    → Goes tests (behind (Ok old) whole) kept levels → levels ≡ below ++ level ∷ []
    → (cause : Refused) → Adds (Err cause) kept after (left_of tests level) → (result : Result (Unit {0}) Refused) → IsErr result × IsErrAnd result (λ found. found ≡ cause) → Adds result old new whole
goes_over tests old whole kept after new levels below level goes is cause adds (Ok done) e = absurd e.1
goes_over tests old whole kept after new levels below level goes is cause adds (Err found) e = subst (λ (one : Refused). Adds (Err one) old new whole) (sym e.1) (by cause adds)
  where
    by : (one : Refused) → Adds (Err one) kept after (left_of tests level) → Adds (Err one) old new whole
    by Memory refused = tt
    by (By number) refused = popped tests (behind (Ok old) whole) kept levels below level goes is ∙ ap (λ o. behind o (left tests below)) refused

-- none of the level's rows is left
pub goes_back : (tests : List Meaning) (whole : Outcome (List Cells)) (kept : List Cells) (levels below : List Level) (level : Level) → Goes tests whole kept levels → levels ≡ below ++ level ∷ []
    → level.rows.now ≡ [] → Goes tests whole kept below
goes_back tests whole kept levels below level goes is none =
    goes_on tests whole kept kept levels below level goes is
    (behind_none (λ more. kept_from tests (rows_of level.sources.now) (level.row ++ more)) level.rows.now kept none)

deeper : (tests : List Meaning) (whole : Outcome (List Cells)) (kept : List Cells) (levels below : List Level) (level next rest : Level) → Goes tests whole kept levels
    → levels ≡ below ++ level ∷ [] → Opens tests level next rest → Goes tests whole kept ((below ++ rest ∷ []) ++ next ∷ [])
deeper tests whole kept levels below level next rest goes is opens = record {
  served = All-push (IsServed tests) (below ++ rest ∷ []) next (All-push (IsServed tests) below rest (All-pop (IsServed tests) levels below (Some level) is goes.served).0 opens.served_rest) opens.served_next;
  whole_is =
      popped tests whole kept levels below level goes is
      ∙ ap (λ o. behind (behind (Ok kept) o) (left tests below)) opens.left
      ∙ behind_assoc (Ok kept) (behind (left_of tests next) (left_of tests rest)) (left tests below)
      ∙ ap (behind (Ok kept)) (behind_assoc (left_of tests next) (left_of tests rest) (left tests below)
      ∙ ap (behind (left_of tests next)) (sym (left_last tests below rest))
      ∙ sym (left_last tests (below ++ rest ∷ []) next));
}

pub goes_deeper : (tests : List Meaning) (whole : Outcome (List Cells)) (kept : List Cells) (levels below more all : List Level) (level next rest : Level) → Goes tests whole kept levels
    → levels ≡ below ++ level ∷ [] → more ≡ below ++ rest ∷ [] → all ≡ more ++ next ∷ [] → Opens tests level next rest → Goes tests whole kept all
goes_deeper tests whole kept levels below more all level next rest goes is one both opens =
    subst (Goes tests whole kept) (sym (both ∙ ap (λ l. l ++ next ∷ []) one)) (deeper tests whole kept levels below level next rest goes is opens)

pub goes_end : (tests : List Meaning) (whole : Outcome (List Cells)) (kept : List Cells) (levels : List Level) → Goes tests whole kept levels → levels ≡ [] → whole ≡ Ok kept
goes_end tests whole kept levels goes none = goes.whole_is ∙ ap (λ l. behind (Ok kept) (left tests l)) none ∙ ap Ok (append-nil kept)

-- each turn leaves less to do
pub less_back : (levels below : List Level) (level : Level) → levels ≡ below ++ level ∷ [] → work below < work levels
less_back levels below level is =
    let all : work levels ≡ work_of level + work below = ap work is ∙ work_last below level in
    omega (arith, all)

pub less_deeper : (levels below more all : List Level) (level next rest : Level) → levels ≡ below ++ level ∷ [] → more ≡ below ++ rest ∷ [] → all ≡ more ++ next ∷ []
    → work_of next + work_of rest < work_of level → work all < work levels
less_deeper levels below more all level next rest is one both less =
    let before : work levels ≡ work_of level + work below = ap work is ∙ work_last below level in
    let first : work more ≡ work_of rest + work below = ap work one ∙ work_last below rest in
    let after : work all ≡ work_of next + work more = ap work both ∙ work_last more next in
    omega (arith, before, first, after, less)

-- ---- what a level gives, from what its call says

abbrev pub OpensBoth : Level → Level × Level → Type 0
OpensBoth level both = (tests : List Meaning) → IsServed tests level → Opens tests level both.0 both.1

abbrev pub LessBoth : Level → Level × Level → Type 0
LessBoth level both = work_of both.0 + work_of both.1 < work_of level

pub opened_is : (level : Level) (both : Level × Level) (found : Option (Level × Level)) → found ≡ Some both → MatchOption found (level.rows.now ≡ []) (OpensBoth level)
    → (tests : List Meaning) → IsServed tests level → Opens tests level both.0 both.1
opened_is level both found is opens = subst (λ (o : Option (Level × Level)). MatchOption o (level.rows.now ≡ []) (OpensBoth level)) is opens

pub work_opened : (level : Level) (both : Level × Level) (found : Option (Level × Level)) → found ≡ Some both → IfSome found (LessBoth level) → work_of both.0 + work_of both.1 < work_of level
work_opened level both found is less = subst (λ (o : Option (Level × Level)). IfSome o (LessBoth level)) is less

-- ---- one level

empty_of : (xs : List Read) → (length xs == 0) ≡ true → xs ≡ []
empty_of [] e = refl
empty_of (x ∷ xs) e =
    let none : length (x ∷ xs) ≡ 0 = zero_is (length (x ∷ xs)) e in
    absurd (omega (arith, none))
  where
    zero_is : (n : ℕ) → (n == 0) ≡ true → n ≡ 0
    zero_is n z = grind (arith, nat_tests)

pub last_level : (tests : List Meaning) (level : Level) (row : Cells) → (length level.sources.now == 0) ≡ true → row ≡ level.row
    → all_of (λ more. kept_row tests (row ++ more)) level.rows.now ≡ left_of tests level
last_level tests level row none is =
    ap (λ r. all_of (λ more. kept_row tests (r ++ more)) level.rows.now) is
    ∙ ap (λ (l : List Read). all_of (λ more. kept_from tests (rows_of l) (level.row ++ more)) level.rows.now) (sym (empty_of level.sources.now none))

pub begins : (tests : List Meaning) (sources : List Read) (lookups : List (Option Lookup)) (first : Read) (lookup : Option Lookup) (row : Cells) (rows : List Cells)
    → 1 ≤ length sources → 1 ≤ length lookups → first ≡ get_or sources 0 first → lookup ≡ get_or lookups 0 lookup → rows ≡ tried first.rows lookup row → AreServed tests sources lookups
    → all_of (λ more. kept_from tests (rows_of (take (length sources - 1) (drop 1 sources))) (row ++ more)) rows ≡ kept_from tests (rows_of sources) row
begins tests sources lookups first lookup row rows some any is other are served =
    let rest = rows_of (take (length sources - 1) (drop 1 sources)) in
    ap (all_of (λ more. kept_from tests rest (row ++ more))) are
    ∙ tried_same tests rest first.rows lookup row (served_first tests sources lookups first lookup some any is other served)
    ∙ ap (λ (l : List Read). kept_from tests (rows_of l) row) (first_of sources first some is)

tried_few : (rows : List Cells) (lookup : Option Lookup) (row : Cells) → length (tried rows lookup row) ≤ length rows
tried_few rows None row = omega arith
tried_few rows (Some lookup) row =
    let key = cell_at row lookup.link.earlier in
    let found : length (cond (suits lookup.link.kind key) (filter (has_cell lookup.link.place key) rows) rows) ≤ length rows =
    by (suits lookup.link.kind key) (filter (has_cell lookup.link.place key) rows) (filter_few (has_cell lookup.link.place key) rows) in
    by (nat_eq (length row) lookup.width) (tried_with rows lookup key) found
  where
    by : (b : Bool) (some : List Cells) → length some ≤ length rows → length (cond b some rows) ≤ length rows
    by b some few = two b (λ e. subst (λ c. length (cond c some rows) ≤ length rows) (sym e) few) (λ e. subst (λ c. length (cond c some rows) ≤ length rows) (sym e) (omega arith))

pub less_first : (sources : List Read) (first : Read) (lookup : Option Lookup) (row : Cells) (rows : List Cells)
    → 1 ≤ length sources → first ≡ get_or sources 0 first → rows ≡ tried first.rows lookup row
    → suc (length rows * weight (rows_of (take (length sources - 1) (drop 1 sources)))) < weight (rows_of sources)
less_first sources first lookup row rows some is are =
    let rest = rows_of (take (length sources - 1) (drop 1 sources)) in
    let few : length rows ≤ length first.rows = subst (λ (l : List Cells). length l ≤ length first.rows) (sym are) (tried_few first.rows lookup row) in
    let less : length rows * weight rest ≤ length first.rows * weight rest = mul-le-mul_right (weight rest) few in
    let all : suc (suc (length first.rows * weight rest)) ≡ weight (rows_of sources) = ap (λ (l : List Read). weight (rows_of l)) (first_of sources first some is) in
    omega (arith, less, all)

pub none_left : (level : Level) (found : Option (Level × Level)) → found ≡ None → MatchOption found (level.rows.now ≡ []) (OpensBoth level) → level.rows.now ≡ []
none_left level found is opens = subst (λ (o : Option (Level × Level)). MatchOption o (level.rows.now ≡ []) (OpensBoth level)) is opens
