use Rattle.std.proofs.Common.{◌≡◌, ◌∙◌, sym, ap, ap₂, ℕ, ◌+◌, List, map, length, arith}
use Rattle.sql_ast.specs.declared.expressions.Expr.{Expr, out-Expr}
use Rattle.sql_ast.specs.declared.expressions.Term.{Term}
use Rattle.sql_ast.proofs.expressions.Expr.TheLaws.{the_size}
use Rattle.sql_text.specs.Canon.{chain, comparison_word, contained, operator, ranged, sum_text, text}
use Rattle.sql_text.specs.Sizes.{told}
use Rattle.sql_text.proofs.NodeLemmas.{text_chain, text_terms}
use Rattle.sql_text.proofs.PartDepths.{chain_deep, contained_deep, ranged_deep}
use Rattle.sql_text.proofs.SizeLemmas.{contained_long, long_chain, long_compare, long_contained, long_ranged, long_terms, ranged_long, told_so, wrapped_long}
use Rattle.sql_text.proofs.sizes.+sizes.Goals as goal
use denote.Param.Weighed.{most}

-- the parts are less deep than the node

pub text_size-chain_size-requires : goal.text_size-chain_size-requires
text_size-chain_size-requires t c =
    let shallow = chain_deep c.args.expr.now c.in-Or.a c.in-Or.list c.in-Or.is in
    let first = ap the_size c.get-in-Or.ensures in
    let lent = ap (λ (xs : List Expr). most the_size xs) c.as_slice-in-Or.ensures in
    omega (arith, c.decreases)

pub text_size-contained_size-requires : goal.text_size-contained_size-requires
text_size-contained_size-requires t c =
    let shallow = contained_deep c.args.expr.now c.in-In.a c.in-In.list c.in-In.is in
    let first = ap the_size c.get-in-In.ensures in
    let lent = ap (λ (xs : List Expr). most the_size xs) c.as_slice-in-In.ensures in
    omega (arith, c.decreases)

pub text_size-ranged_size-requires : goal.text_size-ranged_size-requires
text_size-ranged_size-requires t c =
    let shallow = ranged_deep c.args.expr.now c.in-Between.a c.in-Between.low c.in-Between.high c.in-Between.is in
    let value = ap the_size c.get-in-Between.ensures in
    let low = ap the_size c.get-in-Between-2.ensures in
    let high = ap the_size c.get-in-Between-3.ensures in
    omega (arith, c.decreases)

-- the size is that of the node's text

pub text_size-returns-in-Or : goal.text_size-returns-in-Or
text_size-returns-in-Or t c =
    told_so c.chain_size.result _ _
    (ap (λ (word : List ℕ). chain word (text c.get-in-Or.result.now) (map text c.as_slice-in-Or.result.now)) c.operator_of.ensures
    ∙ ap₂ (λ (x : Expr) (xs : List Expr). chain (operator (out-Expr c.args.expr.now)) (text x) (map text xs)) c.get-in-Or.ensures c.as_slice-in-Or.ensures
    ∙ sym (text_chain c.args.expr.now c.in-Or.a c.in-Or.list c.in-Or.is))
    c.chain_size.ensures

pub text_size-returns-in-Terms : goal.text_size-returns-in-Terms
text_size-returns-in-Terms t c =
    told_so c.terms_size.result _ _
    (ap₂ (λ (x : Expr) (xs : List (Term × Expr)). sum_text (text x) (map (λ term. (term.0, text term.1)) xs)) c.get.ensures c.as_slice.ensures
    ∙ sym (ap (λ (x : Expr). text x) c.in-Terms.is ∙ text_terms c.in-Terms.a c.in-Terms.list))
    c.terms_size.ensures

pub text_size-returns-in_ok-text_size-in-Not : goal.text_size-returns-in_ok-text_size-in-Not
text_size-returns-in_ok-text_size-in-Not t c =
    let node = wrapped_long c.args.expr.now c.in-Not.a c.in-Not.is in
    let got = ap (λ (x : Expr). length (text x)) c.get-in-Not.ensures in
    omega (arith, node, got, c.in_ok-text_size-in-Not.ensures, c.around-in-Not.ensures, c.sum-in-Not.ensures)

pub text_size-returns-in_ok-inside-in-In : goal.text_size-returns-in_ok-inside-in-In
text_size-returns-in_ok-inside-in-In t c =
    let node = contained_long c.args.expr.now c.in-In.a c.in-In.list c.in-In.is in
    let got = ap (λ (x : Expr). length (contained (text x) (map text c.as_slice-in-In.result.now))) c.get-in-In.ensures in
    let lent = ap (λ (xs : List Expr). length (contained (text c.in-In.a) (map text xs))) c.as_slice-in-In.ensures in
    omega (arith, node, got, lent, c.in_ok-inside-in-In.ensures, c.around-in-In.ensures, c.sum-in-In.ensures)

pub text_size-returns-in_ok-inside-in-Between : goal.text_size-returns-in_ok-inside-in-Between
text_size-returns-in_ok-inside-in-Between t c =
    let node = ranged_long c.args.expr.now c.in-Between.a c.in-Between.low c.in-Between.high c.in-Between.is in
    let got = ap (λ (x : Expr). length (ranged (text x) (text c.get-in-Between-2.result.now) (text c.get-in-Between-3.result.now))) c.get-in-Between.ensures in
    let low = ap (λ (x : Expr). length (ranged (text c.in-Between.a) (text x) (text c.get-in-Between-3.result.now))) c.get-in-Between-2.ensures in
    let high = ap (λ (x : Expr). length (ranged (text c.in-Between.a) (text c.in-Between.low) (text x))) c.get-in-Between-3.ensures in
    omega (arith, node, got, low, high, c.in_ok-inside-in-Between.ensures, c.around.ensures, c.sum-in-Between.ensures)

-- what stands inside has the size of its parts and of what stands between them

pub compare_size-returns : goal.compare_size-returns
compare_size-returns t c =
    let word = ap (λ (w : List ℕ). length w) c.word_of.ensures in
    let counted : c.sum-2.result ≡ told (length (text c.args.a.now) + length (text c.args.b.now) + (length (comparison_word c.args.op) + 2)) =
    omega (arith, word, c.in_ok-left.ensures, c.in_ok-right.ensures, c.sum.ensures, c.sum-2.ensures)
    in
    counted ∙ sym (ap told (long_compare (text c.args.a.now) (comparison_word c.args.op) (text c.args.b.now)))

pub ranged_size-returns : goal.ranged_size-returns
ranged_size-returns t c =
    let whole = long_ranged (text c.args.value.now) (text c.args.low.now) (text c.args.high.now) in
    omega (arith, whole, c.in_ok-value.ensures, c.in_ok-low.ensures, c.in_ok-high.ensures, c.sum.ensures, c.sum-2.ensures, c.sum-3.ensures, c.sum-4.ensures)

pub chain_size-loop-operand-init : goal.chain_size-loop-operand-init
chain_size-loop-operand-init t c =
    let whole = long_chain c.args.operator.now (text c.args.first.now) c.args.list.now in
    (omega (arith, whole, c.in_ok-text_size.ensures, c.sum-size.ensures), omega (arith, c.sum-size.ensures))

pub terms_size-loop-term-init : goal.terms_size-loop-term-init
terms_size-loop-term-init t c =
    let whole = long_terms (text c.args.first.now) c.args.list.now in
    (omega (arith, whole, c.in_ok-text_size.ensures, c.sum-size.ensures), omega (arith, c.sum-size.ensures))

pub contained_size-loop-element-init : goal.contained_size-loop-element-init
contained_size-loop-element-init t c =
    let whole = long_contained (text c.args.value.now) (map text c.args.list.now) in
    (omega (arith, whole, c.in_ok-text_size.ensures, c.sum-size.ensures), omega (arith, c.sum-size.ensures))
