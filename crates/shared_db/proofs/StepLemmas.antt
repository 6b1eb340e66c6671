-- Branches in order of their names: one more, one less, and what stands for them.
use Rattle.std.proofs.Common.{◌≡◌, ◌≢◌, refl, sym, ap, ◌∙◌, subst, ℕ, zero, suc, ◌+◌, ◌<◌, ◌≤◌, Bool, true, false, cond, not, ◌&&◌, ◌||◌, List, [], ◌∷◌, ◌++◌, map, filter, length, take, drop, set, get_or, find, is_some, Option, Some, None, option_map, arith}
use Rattle.std.specs.Prelude.{bytes_eq}
use Rattle.std.specs.List.{insert}
use Rattle.std.specs.Ordering.{is_lt, nat_cmp}
use Rattle.std.specs.Cmp.Lexicographic.{bytes_decides, slice_cmp}
use Rattle.script_text.specs.declared.outputs.BranchLine.{BranchLine}
use Rattle.plain_sql.specs.Lists.{placed}
use Rattle.plain_writes.proofs.InsertionLemmas.{two, placed_past, placed_stop}
use Rattle.shared_db.specs.declared.branches.Member.{Member}
use Rattle.shared_db.specs.declared.branches.NamedBranch.{NamedBranch}
use Rattle.shared_db.specs.Members.{line_of, lines_of, numbers_of, places_of}
use Rattle.shared_db.specs.Shared.{is_line_of}
use Rattle.shared_db.specs.Stepping.{line_cmp, place_before, without_line}

-- ---- one line more

map_insert : (branches : List NamedBranch) (i : ℕ) (branch : NamedBranch) → lines_of (insert branches i branch) ≡ insert (lines_of branches) i (line_of branch)
map_insert branches zero branch = refl
map_insert [] (suc i) branch = refl
map_insert (x ∷ branches) (suc i) branch = ap (λ l. line_of x ∷ l) (map_insert branches i branch)

inserted : (line : BranchLine) (lines : List BranchLine) → insert lines (place_before line.name lines) line ≡ placed line_cmp lines line
inserted line [] = refl
inserted line (x ∷ lines) = two (is_lt (line_cmp line x))
    (λ e. ap (λ b. insert (x ∷ lines) (cond b 0 (suc (place_before line.name lines))) line) e ∙ sym (placed_stop line_cmp line x lines e))
    (λ e. ap (λ b. insert (x ∷ lines) (cond b 0 (suc (place_before line.name lines))) line) e ∙ ap (λ l. x ∷ l) (inserted line lines) ∙ sym (placed_past line_cmp line x lines e))

pub put_in_order : (branches : List NamedBranch) (branch : NamedBranch) → lines_of (insert branches (place_before branch.name (lines_of branches)) branch) ≡ placed line_cmp (lines_of branches) (line_of branch)
put_in_order branches branch = map_insert branches (place_before branch.name (lines_of branches)) branch ∙ inserted (line_of branch) (lines_of branches)

pub place_few : (name : List ℕ) (lines : List BranchLine) → place_before name lines ≤ length lines
place_few name [] = omega arith
place_few name (x ∷ lines) = two (is_lt (slice_cmp nat_cmp name x.name))
    (λ e. subst (λ b. cond b 0 (suc (place_before name lines)) ≤ suc (length lines)) (sym e) (omega arith))
    (λ e. subst (λ b. cond b 0 (suc (place_before name lines)) ≤ suc (length lines)) (sym e) (let few = place_few name lines in omega (arith, few)))

-- ---- one less

abbrev pub is_kept : List ℕ → NamedBranch → Bool
is_kept name branch = not (bytes_eq branch.name name)

pub filtered : (name : List ℕ) (branches : List NamedBranch) → lines_of (filter (is_kept name) branches) ≡ without_line name (lines_of branches)
filtered name [] = refl
filtered name (x ∷ branches) = by (bytes_eq x.name name) (filtered name branches) where
  by : (t : Bool) → lines_of (filter (is_kept name) branches) ≡ without_line name (lines_of branches)
      → lines_of (cond (not t) (x ∷ filter (is_kept name) branches) (filter (is_kept name) branches)) ≡ cond (not t) (line_of x ∷ without_line name (lines_of branches)) (without_line name (lines_of branches))
  by true rest = rest
  by false rest = ap (λ l. line_of x ∷ l) rest

-- ---- a session moved

pub moved_place : (members : List Member) (at : ℕ) (name : List ℕ) (statements : ℕ) → places_of (set members at (record { branch = name; statements = statements })) ≡ set (places_of members) at name
moved_place [] at name statements = refl
moved_place (x ∷ members) zero name statements = refl
moved_place (x ∷ members) (suc at) name statements = ap (λ l. x.branch ∷ l) (moved_place members at name statements)

kept_number : (members : List Member) (at : ℕ) (name : List ℕ) (d : Member) → numbers_of (set members at (record { branch = name; statements = (get_or members at d).statements })) ≡ numbers_of members
kept_number [] at name d = refl
kept_number (x ∷ members) zero name d = refl
kept_number (x ∷ members) (suc at) name d = ap (λ l. x.statements ∷ l) (kept_number members at name d)

pub number_kept : (members : List Member) (at : ℕ) (name : List ℕ) (member : Member) → member ≡ get_or members at member
    → numbers_of (set members at (record { branch = name; statements = member.statements })) ≡ numbers_of members
number_kept members at name member e =
    ap (λ (m : Member). numbers_of (set members at (record { branch = name; statements = m.statements }))) e ∙ kept_number members at name member
