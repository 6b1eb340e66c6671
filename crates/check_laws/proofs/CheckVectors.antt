-- A law without `is_tree` would be wrong: of a chain without others, which no text gives, 2^63 is not the literal right under a minus.
use Rattle.std.proofs.Common.{◌≡◌, ◌∙◌, sym, ap, ◌^◌, ◌-◌, negsuc, [], None, Some, Ok}
use Rattle.sql_ast.specs.declared.expressions.Expr.{Expr, fold-roll-Expr}
use Rattle.sql_ast.specs.declared.expressions.Expr.TheOpen.{Expr-F}
use Rattle.sql_ast.specs.declared.expressions.Expr.TheVariants as e
use Rattle.sql_ast.specs.declared.expressions.Expr.TheVariants.{rolls-Literal, rolls-Negate, rolls-Or}
use Rattle.sql_ast.specs.declared.expressions.Literal.TheVariants as literal
use Rattle.sql_ast.proofs.ListNodes.{fold_or}
use Rattle.tuple_codec.specs.declared.values.Value.TheVariants as cell
use Rattle.sql_values.specs.Numbers.{negated}
use Rattle.sql_values.specs.Worths.{cell_of}
use Rattle.std.specs.Option.{option_map}
use Rattle.sql_values.specs.declared.kinds.Kind.TheVariants as kind
use Rattle.expr_eval.specs.Binding.{and_then, bound, bound_chain, bound_negate, logic_kind, minus_of, or_node, step}
use Rattle.expr_eval.specs.Valuing.{one, value, worth}
use Rattle.expr_eval.specs.declared.bound.BoundNode.TheVariants as n
use Rattle.expr_eval.specs.declared.bound.BoundNode.TheVariants.{outs-MinusOnly, outs-Or, rolls-Constant, rolls-MinusOnly}
use Rattle.expr_eval.proofs.BoundNodes.{bound_of_literal, bound_of_negate}
use Rattle.expr_eval.proofs.WorthNodes.{worth_constant, worth_minus_only, worth_negate, worth_or}
use Rattle.sql_laws.specs.Canonical.{paired, paired_at}

abbrev great : Expr
great = e.Literal (literal.Whole (2 ^ 63))

-- minus an OR of 2^63 alone
abbrev alone : Expr
alone = e.Negate (e.Or great [])

as_it_is : bound [] alone ≡ Ok (record { kind = kind.Int; node = n.Negate (n.Or n.MinusOnly []) })
as_it_is =
    bound_of_negate [] (e.Or great [])
    ∙ ap (λ o. and_then o bound_negate) (fold_or (step []) great [] ∙ ap (λ o. and_then (and_then o (bound_chain logic_kind [])) or_node) (bound_of_literal [] (literal.Whole (2 ^ 63))))
    ∙ ap (λ y. Ok (record { kind = kind.Int; node = minus_of y (n.Or n.MinusOnly []) })) (outs-Or n.MinusOnly [])

out_of_range : worth [] (n.Negate (n.Or n.MinusOnly [])) ≡ None
out_of_range =
    worth_negate [] (n.Or n.MinusOnly [])
    ∙ ap (one negated) (worth_or [] n.MinusOnly [] ∙ worth_minus_only [])

paired_alone : paired alone ≡ e.Negate great
unfolding paired
paired_alone =
    ap (λ z. paired z) (sym (rolls-Negate (e.Or great []))) ∙ fold-roll-Expr Expr paired_at (Expr-F.Negate (e.Or great []))
    ∙ ap e.Negate (fold_or paired_at great [] ∙ ap (λ z. paired z) (sym (rolls-Literal (literal.Whole (2 ^ 63)))) ∙ fold-roll-Expr Expr paired_at (Expr-F.Literal (literal.Whole (2 ^ 63))))

read_back : bound [] (paired alone) ≡ Ok (record { kind = kind.Int; node = n.Constant kind.Int (cell.Int (negsuc (2 ^ 63 - 1))) })
read_back =
    ap (λ z. bound [] z) paired_alone ∙ bound_of_negate [] great ∙ ap (λ o. and_then o bound_negate) (bound_of_literal [] (literal.Whole (2 ^ 63)))
    ∙ ap (λ y. Ok (record { kind = kind.Int; node = minus_of y n.MinusOnly })) outs-MinusOnly

in_range : value [] (n.Constant kind.Int (cell.Int (negsuc (2 ^ 63 - 1)))) ≡ Some (cell.Int (negsuc (2 ^ 63 - 1)))
in_range = ap (option_map cell_of) (worth_constant [] kind.Int (cell.Int (negsuc (2 ^ 63 - 1))))
