-- The scan finds in a canonical text just the names of the expression.
use Rattle.std.proofs.Common.{◌≡◌, refl, sym, ap, ◌∙◌, subst, ℕ, zero, suc, Bool, true, false, ◌&&◌, List, [], ◌∷◌, ◌++◌, map, length, codes}
use Rattle.std.specs.List.{AllByRecursion}
use Rattle.std.proofs.lemmas.Bool.{and_parts}
use Rattle.std.proofs.lemmas.List.{append-nil, append_assoc}
use Rattle.sql_ast.specs.declared.expressions.Comparison.{Comparison}
use Rattle.sql_ast.specs.declared.expressions.Comparison.TheVariants.{Equal, NotEqual, Less, AtMost, Greater, AtLeast}
use Rattle.sql_ast.specs.declared.expressions.Expr.{Expr, fold-roll-Expr, roll-Expr}
use Rattle.sql_ast.specs.declared.expressions.Expr.TheOpen.{Expr-F}
use Rattle.sql_ast.specs.declared.expressions.Term.{Term}
use Rattle.sql_ast.specs.declared.expressions.Term.TheVariants.{Plus, Minus}
use Rattle.sql_text.specs.Canon as canon
use Rattle.sql_text.specs.Canon.{addends, comparison_word, listed, opened, step, term_word, text}
use Rattle.sql_laws.specs.Spelling.{is_tree, operands}
use Rattle.sql_laws.specs.Sound.{is_expr}
use Rattle.sql_laws.specs.Written.{all_plain, is_literal, is_name, is_written, is_written_behind, written_at}
use Rattle.sql_laws.proofs.Layers.{Parts, by_layers}
use Rattle.schema_merge.specs.Names.{names_in}
use Rattle.check_laws.specs.Named.{joined, named_at, names_of}
use Rattle.check_laws.proofs.Scanner.{names_by}
use Rattle.check_laws.proofs.Scanning.{Closed, Says, Stops, StopsIf, closed_says, ease, ends, gap_after, literal_says, name_says, name_word, pointed, says_says, seen}

-- a part between texts without names
wrapped : (front back a : List ℕ) (m : List (List ℕ)) → Closed front [] → Stops back → Closed back [] → Says a m → Closed (front ++ a ++ back) m
wrapped front back a m f stops b h = gap_after (front ++ a) back m (closed_says front a [] m f h) stops b

around : (front back a : List ℕ) (m : List (List ℕ)) → Closed front [] → Stops back → Closed back [] → Says a m → Says (front ++ a ++ back) m
around front back a m f stops b h = ease (front ++ a ++ back) m (wrapped front back a m f stops b h)

gap_says : (a g : List ℕ) (m : List (List ℕ)) → Says a m → Stops g → Closed g [] → Says (a ++ g) m
gap_says a g m h stops gap = ease (a ++ g) m (gap_after a g m h stops gap)

-- a text without names between two
between : (a g b : List ℕ) (m n : List (List ℕ)) → Says a m → Stops g → Closed g [] → Says b n → Says (a ++ g ++ b) (m ++ n)
between a g b m n h stops gap k = closed_says (a ++ g) b m n (gap_after a g m h stops gap) k

opens : (n : ℕ) → Closed (opened n) []
opens zero rest = refl
opens (suc n) rest = opens n rest

-- ---- chains and lists

abbrev AllSay : List Expr → Type 0
AllSay xs = AllByRecursion (λ x. Says (text x) (names_of x)) xs

module _ (word : List ℕ) (stops : Stops word) (gap : Closed word []) where
  operands_stop : (xs : List Expr) → StopsIf (canon.operands word (map text xs))
  operands_stop [] rest e = e
  operands_stop (x ∷ xs) rest e =
      let more = canon.operands word (map text xs) in
      ap ends (append_assoc (word ++ text x ++ codes ")") more rest ∙ append_assoc (word ++ text x) (codes ")") (more ++ rest) ∙ append_assoc word (text x) (codes ")" ++ (more ++ rest)))
      ∙ stops (text x ++ (codes ")" ++ (more ++ rest)))

  operands_say : (xs : List Expr) → AllSay xs → Says (canon.operands word (map text xs)) (joined (map names_of xs))
  operands_say [] all = λ rest e. refl
  operands_say (x ∷ xs) all =
      closed_says (word ++ text x ++ codes ")") (canon.operands word (map text xs)) (names_of x) (joined (map names_of xs))
      (wrapped word (codes ")") (text x) (names_of x) gap (λ rest. refl) (λ rest. refl) all.0) (operands_say xs all.1)

  chain_says : (a : Expr) (xs : List Expr) → Says (text a) (names_of a) → AllSay xs → Says (canon.chain word (text a) (map text xs)) (names_of a ++ joined (map names_of xs))
  chain_says a xs first all =
      says_says (opened (length (map text xs)) ++ text a) (canon.operands word (map text xs)) (names_of a) (joined (map names_of xs))
      (closed_says (opened (length (map text xs))) (text a) [] (names_of a) (opens (length (map text xs))) first) (operands_stop xs) (operands_say xs all)

listed_stop : (xs : List Expr) → StopsIf (listed (codes ", ") (map text xs))
listed_stop [] rest e = e
listed_stop (x ∷ xs) rest e = refl

listed_say : (xs : List Expr) → AllSay xs → Says (listed (codes ", ") (map text xs)) (joined (map names_of xs))
listed_say [] all = λ rest e. refl
listed_say (x ∷ xs) all =
    says_says (codes ", " ++ text x) (listed (codes ", ") (map text xs)) (names_of x) (joined (map names_of xs))
    (closed_says (codes ", ") (text x) [] (names_of x) (λ rest. refl) all.0) (listed_stop xs) (listed_say xs all.1)

first_listed : (xs : List Expr) → AllSay xs → Says (listed [] (map text xs)) (joined (map names_of xs))
first_listed [] all = λ rest e. refl
first_listed (x ∷ xs) all = says_says (text x) (listed (codes ", ") (map text xs)) (names_of x) (joined (map names_of xs)) all.0 (listed_stop xs) (listed_say xs all.1)

contained_says : (a : Expr) (xs : List Expr) → Says (text a) (names_of a) → AllSay xs → Says (canon.contained (text a) (map text xs)) (names_of a ++ joined (map names_of xs))
contained_says a xs first all =
    closed_says (text a ++ codes " IN (") (listed [] (map text xs)) (names_of a) (joined (map names_of xs)) (gap_after (text a) (codes " IN (") (names_of a) first (λ rest. refl) (λ rest. refl)) (first_listed xs all)

-- ---- sums

abbrev text_term : Term × Expr → Term × List ℕ
text_term x = (x.0, text x.1)

abbrev names_term : Term × Expr → Term × List (List ℕ)
names_term x = (x.0, names_of x.1)

term_stops : (term : Term) → Stops (term_word term)
term_stops Plus rest = refl
term_stops Minus rest = refl

term_closed : (term : Term) → Closed (term_word term) []
term_closed Plus rest = refl
term_closed Minus rest = refl

addends_stop : (xs : List (Term × Expr)) → StopsIf (addends (map text_term xs))
addends_stop [] rest e = e
addends_stop (x ∷ xs) rest e =
    let more = addends (map text_term xs) in
    let word = term_word x.0 in
    ap ends (append_assoc (word ++ text x.1 ++ codes ")") more rest ∙ append_assoc (word ++ text x.1) (codes ")") (more ++ rest) ∙ append_assoc word (text x.1) (codes ")" ++ (more ++ rest)))
    ∙ term_stops x.0 (text x.1 ++ (codes ")" ++ (more ++ rest)))

addends_say : (xs : List (Term × Expr)) → AllByRecursion (λ (x : Term × Expr). Says (text x.1) (names_of x.1)) xs → Says (addends (map text_term xs)) (joined (operands (map names_term xs)))
addends_say [] all = λ rest e. refl
addends_say (x ∷ xs) all =
    closed_says (term_word x.0 ++ text x.1 ++ codes ")") (addends (map text_term xs)) (names_of x.1) (joined (operands (map names_term xs)))
    (wrapped (term_word x.0) (codes ")") (text x.1) (names_of x.1) (term_closed x.0) (λ rest. refl) (λ rest. refl) all.0) (addends_say xs all.1)

sum_says : (a : Expr) (xs : List (Term × Expr)) → Says (text a) (names_of a) → AllByRecursion (λ (x : Term × Expr). Says (text x.1) (names_of x.1)) xs
    → Says (canon.sum_text (text a) (map text_term xs)) (names_of a ++ joined (operands (map names_term xs)))
sum_says a xs first all =
    let n = length (map text_term xs) in
    says_says (opened n ++ text a) (addends (map text_term xs)) (names_of a) (joined (operands (map names_term xs))) (closed_says (opened n) (text a) [] (names_of a) (opens n) first) (addends_stop xs) (addends_say xs all)

-- ---- the others

compare_stops : (op : Comparison) → Stops (comparison_word op)
compare_stops Equal rest = refl
compare_stops NotEqual rest = refl
compare_stops Less rest = refl
compare_stops AtMost rest = refl
compare_stops Greater rest = refl
compare_stops AtLeast rest = refl

compare_closed : (op : Comparison) → Closed (comparison_word op) []
compare_closed Equal rest = refl
compare_closed NotEqual rest = refl
compare_closed Less rest = refl
compare_closed AtMost rest = refl
compare_closed Greater rest = refl
compare_closed AtLeast rest = refl

ranged_says : (a low high : List ℕ) (m l h : List (List ℕ)) → Says a m → Says low l → Says high h → Says (canon.ranged a low high) (m ++ l ++ m ++ h)
ranged_says a low high m l h first second third =
    let one = between a (codes " >= ") low m l first (λ rest. refl) (λ rest. refl) second in
    let two = between (a ++ codes " >= " ++ low) (codes ") AND (") a (m ++ l) m one (λ rest. refl) (λ rest. refl) first in
    between (a ++ codes " >= " ++ low ++ codes ") AND (" ++ a) (codes " <= ") high (m ++ l ++ m) h two (λ rest. refl) (λ rest. refl) third

-- ---- every expression

abbrev IfWritten : Expr → Type 0
IfWritten x = (minus : Bool) → is_written_behind x minus ≡ true → Says (text x) (names_of x)

all_say : (xs : List Expr) → AllByRecursion IfWritten xs → all_plain (map is_written_behind xs) ≡ true → AllSay xs
all_say [] all written = tt
all_say (x ∷ xs) all written =
    let parts = and_parts (is_written_behind x false) (all_plain (map is_written_behind xs)) written in
    (all.0 false parts.0, all_say xs all.1 parts.1)

terms_say : (xs : List (Term × Expr)) → AllByRecursion (λ (x : Term × Expr). IfWritten x.1) xs → all_plain (operands (map (λ (x : Term × Expr). (x.0, is_written_behind x.1)) xs)) ≡ true
    → AllByRecursion (λ (x : Term × Expr). Says (text x.1) (names_of x.1)) xs
terms_say [] all written = tt
terms_say (x ∷ xs) all written =
    let parts = and_parts (is_written_behind x.1 false) (all_plain (operands (map (λ (y : Term × Expr). (y.0, is_written_behind y.1)) xs))) written in
    (all.0 false parts.0, terms_say xs all.1 parts.1)

rolled : (y : Expr-F Expr) (s : List ℕ) (m : List (List ℕ)) → text (roll-Expr y) ≡ s → names_of (roll-Expr y) ≡ m → Says s m → Says (text (roll-Expr y)) (names_of (roll-Expr y))
rolled y s m s_is m_is h = subst (λ t. Says t (names_of (roll-Expr y))) (sym s_is) (subst (Says s) (sym m_is) h)

node_says : (y : Expr-F Expr) → Parts IfWritten y → IfWritten (roll-Expr y)
unfolding is_written_behind
node_says (Expr-F.Or a xs) parts minus written =
    let w : (is_written_behind a false && all_plain (map is_written_behind xs)) ≡ true = sym (ap (λ (f : Bool → Bool). f minus) (fold-roll-Expr (Bool → Bool) written_at (Expr-F.Or a xs))) ∙ written in
    let each = and_parts (is_written_behind a false) (all_plain (map is_written_behind xs)) w in
    rolled (Expr-F.Or a xs) _ _ (fold-roll-Expr (List ℕ) step (Expr-F.Or a xs)) (fold-roll-Expr (List (List ℕ)) named_at (Expr-F.Or a xs))
    (chain_says (codes " OR ") (λ rest. refl) (λ rest. refl) a xs (parts.0 false each.0) (all_say xs parts.1 each.1))
node_says (Expr-F.And a xs) parts minus written =
    let w : (is_written_behind a false && all_plain (map is_written_behind xs)) ≡ true = sym (ap (λ (f : Bool → Bool). f minus) (fold-roll-Expr (Bool → Bool) written_at (Expr-F.And a xs))) ∙ written in
    let each = and_parts (is_written_behind a false) (all_plain (map is_written_behind xs)) w in
    rolled (Expr-F.And a xs) _ _ (fold-roll-Expr (List ℕ) step (Expr-F.And a xs)) (fold-roll-Expr (List (List ℕ)) named_at (Expr-F.And a xs))
    (chain_says (codes " AND ") (λ rest. refl) (λ rest. refl) a xs (parts.0 false each.0) (all_say xs parts.1 each.1))
node_says (Expr-F.Factors a xs) parts minus written =
    let w : (is_written_behind a false && all_plain (map is_written_behind xs)) ≡ true = sym (ap (λ (f : Bool → Bool). f minus) (fold-roll-Expr (Bool → Bool) written_at (Expr-F.Factors a xs))) ∙ written in
    let each = and_parts (is_written_behind a false) (all_plain (map is_written_behind xs)) w in
    rolled (Expr-F.Factors a xs) _ _ (fold-roll-Expr (List ℕ) step (Expr-F.Factors a xs)) (fold-roll-Expr (List (List ℕ)) named_at (Expr-F.Factors a xs))
    (chain_says (codes " * ") (λ rest. refl) (λ rest. refl) a xs (parts.0 false each.0) (all_say xs parts.1 each.1))
node_says (Expr-F.In a xs) parts minus written =
    let w : (is_written_behind a false && all_plain (map is_written_behind xs)) ≡ true = sym (ap (λ (f : Bool → Bool). f minus) (fold-roll-Expr (Bool → Bool) written_at (Expr-F.In a xs))) ∙ written in
    let each = and_parts (is_written_behind a false) (all_plain (map is_written_behind xs)) w in
    rolled (Expr-F.In a xs) _ _ (fold-roll-Expr (List ℕ) step (Expr-F.In a xs)) (fold-roll-Expr (List (List ℕ)) named_at (Expr-F.In a xs))
    ((around (codes "(") (codes "))") (canon.contained (text a) (map text xs)) (names_of a ++ joined (map names_of xs)) (λ rest. refl) (λ rest. refl) (λ rest. refl) (contained_says a xs (parts.0 false each.0) (all_say xs parts.1 each.1))))
node_says (Expr-F.NotIn a xs) parts minus written =
    let w : (is_written_behind a false && all_plain (map is_written_behind xs)) ≡ true = sym (ap (λ (f : Bool → Bool). f minus) (fold-roll-Expr (Bool → Bool) written_at (Expr-F.NotIn a xs))) ∙ written in
    let each = and_parts (is_written_behind a false) (all_plain (map is_written_behind xs)) w in
    rolled (Expr-F.NotIn a xs) _ _ (fold-roll-Expr (List ℕ) step (Expr-F.NotIn a xs)) (fold-roll-Expr (List (List ℕ)) named_at (Expr-F.NotIn a xs))
    ((around (codes "(NOT (") (codes ")))") (canon.contained (text a) (map text xs)) (names_of a ++ joined (map names_of xs)) (λ rest. refl) (λ rest. refl) (λ rest. refl) (contained_says a xs (parts.0 false each.0) (all_say xs parts.1 each.1))))
node_says (Expr-F.Terms a xs) parts minus written =
    let w : (is_written_behind a false && all_plain (operands (map (λ (x : Term × Expr). (x.0, is_written_behind x.1)) xs))) ≡ true = sym (ap (λ (f : Bool → Bool). f minus) (fold-roll-Expr (Bool → Bool) written_at (Expr-F.Terms a xs))) ∙ written in
    let each = and_parts (is_written_behind a false) (all_plain (operands (map (λ (x : Term × Expr). (x.0, is_written_behind x.1)) xs))) w in
    rolled (Expr-F.Terms a xs) _ _ (fold-roll-Expr (List ℕ) step (Expr-F.Terms a xs)) (fold-roll-Expr (List (List ℕ)) named_at (Expr-F.Terms a xs))
    (sum_says a xs (parts.0 false each.0) (terms_say xs parts.1 each.1))
node_says (Expr-F.Not a) parts minus written =
    let w : is_written_behind a false ≡ true = sym (ap (λ (f : Bool → Bool). f minus) (fold-roll-Expr (Bool → Bool) written_at (Expr-F.Not a))) ∙ written in
    rolled (Expr-F.Not a) _ _ (fold-roll-Expr (List ℕ) step (Expr-F.Not a)) (fold-roll-Expr (List (List ℕ)) named_at (Expr-F.Not a))
    ((around (codes "(NOT ") (codes ")") (text a) (names_of a) (λ rest. refl) (λ rest. refl) (λ rest. refl) (parts false w)))
node_says (Expr-F.IsNull a) parts minus written =
    let w : is_written_behind a false ≡ true = sym (ap (λ (f : Bool → Bool). f minus) (fold-roll-Expr (Bool → Bool) written_at (Expr-F.IsNull a))) ∙ written in
    rolled (Expr-F.IsNull a) _ _ (fold-roll-Expr (List ℕ) step (Expr-F.IsNull a)) (fold-roll-Expr (List (List ℕ)) named_at (Expr-F.IsNull a))
    ((around (codes "(") (codes " IS NULL)") (text a) (names_of a) (λ rest. refl) (λ rest. refl) (λ rest. refl) (parts false w)))
node_says (Expr-F.IsNotNull a) parts minus written =
    let w : is_written_behind a false ≡ true = sym (ap (λ (f : Bool → Bool). f minus) (fold-roll-Expr (Bool → Bool) written_at (Expr-F.IsNotNull a))) ∙ written in
    rolled (Expr-F.IsNotNull a) _ _ (fold-roll-Expr (List ℕ) step (Expr-F.IsNotNull a)) (fold-roll-Expr (List (List ℕ)) named_at (Expr-F.IsNotNull a))
    ((around (codes "(") (codes " IS NOT NULL)") (text a) (names_of a) (λ rest. refl) (λ rest. refl) (λ rest. refl) (parts false w)))
node_says (Expr-F.Negate a) parts minus written =
    let w : is_written_behind a true ≡ true = sym (ap (λ (f : Bool → Bool). f minus) (fold-roll-Expr (Bool → Bool) written_at (Expr-F.Negate a))) ∙ written in
    rolled (Expr-F.Negate a) _ _ (fold-roll-Expr (List ℕ) step (Expr-F.Negate a)) (fold-roll-Expr (List (List ℕ)) named_at (Expr-F.Negate a))
    ((around (codes "(- ") (codes ")") (text a) (names_of a) (λ rest. refl) (λ rest. refl) (λ rest. refl) (parts true w)))
node_says (Expr-F.Count a) parts minus written =
    let w : is_written_behind a false ≡ true = sym (ap (λ (f : Bool → Bool). f minus) (fold-roll-Expr (Bool → Bool) written_at (Expr-F.Count a))) ∙ written in
    rolled (Expr-F.Count a) _ _ (fold-roll-Expr (List ℕ) step (Expr-F.Count a)) (fold-roll-Expr (List (List ℕ)) named_at (Expr-F.Count a))
    ((around (codes "COUNT(") (codes ")") (text a) (names_of a) (λ rest. refl) (λ rest. refl) (λ rest. refl) (parts false w)))
node_says (Expr-F.Sum a) parts minus written =
    let w : is_written_behind a false ≡ true = sym (ap (λ (f : Bool → Bool). f minus) (fold-roll-Expr (Bool → Bool) written_at (Expr-F.Sum a))) ∙ written in
    rolled (Expr-F.Sum a) _ _ (fold-roll-Expr (List ℕ) step (Expr-F.Sum a)) (fold-roll-Expr (List (List ℕ)) named_at (Expr-F.Sum a))
    ((around (codes "SUM(") (codes ")") (text a) (names_of a) (λ rest. refl) (λ rest. refl) (λ rest. refl) (parts false w)))
node_says (Expr-F.Min a) parts minus written =
    let w : is_written_behind a false ≡ true = sym (ap (λ (f : Bool → Bool). f minus) (fold-roll-Expr (Bool → Bool) written_at (Expr-F.Min a))) ∙ written in
    rolled (Expr-F.Min a) _ _ (fold-roll-Expr (List ℕ) step (Expr-F.Min a)) (fold-roll-Expr (List (List ℕ)) named_at (Expr-F.Min a))
    ((around (codes "MIN(") (codes ")") (text a) (names_of a) (λ rest. refl) (λ rest. refl) (λ rest. refl) (parts false w)))
node_says (Expr-F.Max a) parts minus written =
    let w : is_written_behind a false ≡ true = sym (ap (λ (f : Bool → Bool). f minus) (fold-roll-Expr (Bool → Bool) written_at (Expr-F.Max a))) ∙ written in
    rolled (Expr-F.Max a) _ _ (fold-roll-Expr (List ℕ) step (Expr-F.Max a)) (fold-roll-Expr (List (List ℕ)) named_at (Expr-F.Max a))
    ((around (codes "MAX(") (codes ")") (text a) (names_of a) (λ rest. refl) (λ rest. refl) (λ rest. refl) (parts false w)))
node_says (Expr-F.Compare a op b) parts minus written =
    let w : (is_written_behind a false && is_written_behind b false) ≡ true = sym (ap (λ (f : Bool → Bool). f minus) (fold-roll-Expr (Bool → Bool) written_at (Expr-F.Compare a op b))) ∙ written in
    let each = and_parts (is_written_behind a false) (is_written_behind b false) w in
    rolled (Expr-F.Compare a op b) _ _ (fold-roll-Expr (List ℕ) step (Expr-F.Compare a op b)) (fold-roll-Expr (List (List ℕ)) named_at (Expr-F.Compare a op b))
    ((gap_says (codes "(" ++ text a ++ comparison_word op ++ text b) (codes ")") (names_of a ++ names_of b) (between (codes "(" ++ text a) (comparison_word op) (text b) (names_of a) (names_of b) (closed_says (codes "(") (text a) [] (names_of a) (λ rest. refl) (parts.0 false each.0)) (compare_stops op) (compare_closed op) (parts.1 false each.1)) (λ rest. refl) (λ rest. refl)))
node_says (Expr-F.Between a low high) parts minus written =
    let w : (is_written_behind a false && (is_written_behind low false && is_written_behind high false)) ≡ true = sym (ap (λ (f : Bool → Bool). f minus) (fold-roll-Expr (Bool → Bool) written_at (Expr-F.Between a low high))) ∙ written in
    let each = and_parts (is_written_behind a false) (is_written_behind low false && is_written_behind high false) w in
    let ends_ = and_parts (is_written_behind low false) (is_written_behind high false) each.1 in
    rolled (Expr-F.Between a low high) _ _ (fold-roll-Expr (List ℕ) step (Expr-F.Between a low high)) (fold-roll-Expr (List (List ℕ)) named_at (Expr-F.Between a low high))
    ((around (codes "((") (codes "))") (canon.ranged (text a) (text low) (text high)) (names_of a ++ names_of low ++ names_of a ++ names_of high) (λ rest. refl) (λ rest. refl) (λ rest. refl) (ranged_says (text a) (text low) (text high) (names_of a) (names_of low) (names_of high) (parts.0 false each.0) (parts.1 false ends_.0) (parts.2 false ends_.1))))
node_says (Expr-F.NotBetween a low high) parts minus written =
    let w : (is_written_behind a false && (is_written_behind low false && is_written_behind high false)) ≡ true = sym (ap (λ (f : Bool → Bool). f minus) (fold-roll-Expr (Bool → Bool) written_at (Expr-F.NotBetween a low high))) ∙ written in
    let each = and_parts (is_written_behind a false) (is_written_behind low false && is_written_behind high false) w in
    let ends_ = and_parts (is_written_behind low false) (is_written_behind high false) each.1 in
    rolled (Expr-F.NotBetween a low high) _ _ (fold-roll-Expr (List ℕ) step (Expr-F.NotBetween a low high)) (fold-roll-Expr (List (List ℕ)) named_at (Expr-F.NotBetween a low high))
    ((around (codes "(NOT ((") (codes ")))") (canon.ranged (text a) (text low) (text high)) (names_of a ++ names_of low ++ names_of a ++ names_of high) (λ rest. refl) (λ rest. refl) (λ rest. refl) (ranged_says (text a) (text low) (text high) (names_of a) (names_of low) (names_of high) (parts.0 false each.0) (parts.1 false ends_.0) (parts.2 false ends_.1))))
node_says (Expr-F.Literal x) parts minus written =
    let w : is_literal minus x ≡ true = sym (ap (λ (f : Bool → Bool). f minus) (fold-roll-Expr (Bool → Bool) written_at (Expr-F.Literal x))) ∙ written in
    rolled (Expr-F.Literal x) _ _ (fold-roll-Expr (List ℕ) step (Expr-F.Literal x)) (fold-roll-Expr (List (List ℕ)) named_at (Expr-F.Literal x))
    (literal_says minus x w)
node_says (Expr-F.Name name) parts minus written =
    let w : is_name name ≡ true = sym (ap (λ (f : Bool → Bool). f minus) (fold-roll-Expr (Bool → Bool) written_at (Expr-F.Name name))) ∙ written in
    rolled (Expr-F.Name name) _ _ (fold-roll-Expr (List ℕ) step (Expr-F.Name name)) (fold-roll-Expr (List (List ℕ)) named_at (Expr-F.Name name))
    (name_says name w)
node_says (Expr-F.Qualified source name) parts minus written =
    let w : (is_name source && is_name name) ≡ true = sym (ap (λ (f : Bool → Bool). f minus) (fold-roll-Expr (Bool → Bool) written_at (Expr-F.Qualified source name))) ∙ written in
    let each = and_parts (is_name source) (is_name name) w in
    rolled (Expr-F.Qualified source name) _ _ (fold-roll-Expr (List ℕ) step (Expr-F.Qualified source name)) (fold-roll-Expr (List (List ℕ)) named_at (Expr-F.Qualified source name))
    (closed_says (source ++ codes ".") name [] (name ∷ []) (pointed source (name_word source each.0)) (name_says name each.1))
node_says (Expr-F.Variable name) parts minus written =
    let w : is_name name ≡ true = sym (ap (λ (f : Bool → Bool). f minus) (fold-roll-Expr (Bool → Bool) written_at (Expr-F.Variable name))) ∙ written in
    rolled (Expr-F.Variable name) _ _ (fold-roll-Expr (List ℕ) step (Expr-F.Variable name)) (fold-roll-Expr (List (List ℕ)) named_at (Expr-F.Variable name))
    (closed_says (codes "@@") name [] (name ∷ []) (λ rest. refl) (name_says name w))
node_says Expr-F.CountAll parts minus written =
    rolled (Expr-F.CountAll) _ _ (fold-roll-Expr (List ℕ) step (Expr-F.CountAll)) (fold-roll-Expr (List (List ℕ)) named_at (Expr-F.CountAll))
    (ease (codes "COUNT(*)") [] (λ rest. refl))
node_says Expr-F.ActiveBranch parts minus written =
    rolled (Expr-F.ActiveBranch) _ _ (fold-roll-Expr (List ℕ) step (Expr-F.ActiveBranch)) (fold-roll-Expr (List (List ℕ)) named_at (Expr-F.ActiveBranch))
    (ease (codes "active_branch()") (codes "active_branch" ∷ []) (λ rest. refl))

pub says : (x : Expr) → is_written x ≡ true → Says (text x) (names_of x)
says x written = by_layers IfWritten node_says x false written

-- the names that the scan finds in the text of an expression that a text can give
pub names_are : (x : Expr) → is_expr x ≡ true → names_in (text x) ≡ names_of x
names_are x sound =
    names_by (text x) ∙ ap seen (sym (append-nil (text x))) ∙ says x (and_parts (is_tree x) (is_written x) sound).1 [] refl ∙ append-nil (names_of x)
