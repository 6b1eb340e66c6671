-- The value of an expression has the kind that binding found.
use Rattle.std.proofs.Common.{◌≡◌, ◌∙◌, sym, ap, refl, true, None, Some}
use Rattle.std.specs.Option.{option_map}
use Rattle.tuple_codec.specs.declared.values.Value.{Value}
use Rattle.sql_values.specs.declared.kinds.Kind.{Kind}
use Rattle.sql_values.specs.Worths.{cell_of, worth_of}
use Rattle.expr_eval.specs.Valuing.{Worthy, worth}
use Rattle.check_laws.specs.Kinds.{has_kind}
use Rattle.check_laws.specs.KindLaws.{ValuesHaveKinds}
use Rattle.check_laws.proofs.Bound.{worths_have_kinds}
use Rattle.check_laws.proofs.Cells.{cell_back, columns_have_kinds}

value_kind : (k : Kind) (o : Worthy) (v : Value) → ((w : _) → o ≡ Some w → has_kind k w ≡ true) → option_map cell_of o ≡ Some v → has_kind k (worth_of k v) ≡ true
value_kind k (Some w) v has e =
    let is = has w refl in
    let same : cell_of w ≡ v = cc in
    ap (λ c. has_kind k (worth_of k c)) (sym same) ∙ ap (has_kind k) (cell_back k w is) ∙ is
value_kind k None v has e = absurd (cc)

pub values_have_kinds : ValuesHaveKinds
values_have_kinds scope row x b v fit written is e =
    value_kind b.kind (worth row b.node) v (λ w worth_is. worths_have_kinds scope row x b w (columns_have_kinds scope row fit.0 fit.1) written is worth_is) e
