-- What an operation answers on what its operands are worth.
use Rattle.std.proofs.Common.{◌≡◌, ◌∙◌, sym, ap, List, Option, None, Some}
use Rattle.std.specs.Option.{option_map}
use Rattle.tuple_codec.specs.Rows.{Cells}
use Rattle.sql_values.specs.Views.{seen}
use Rattle.sql_values.specs.Worths.{Worth}
use Rattle.sql_values.specs.declared.worths.Worth as borrowed
use Rattle.expr_eval.specs.declared.bound.BoundNode.{BoundNode}
use Rattle.expr_eval.specs.Valuing.{Worthy, two, worth}

-- a call that answers a worth, or none
pub known : (found : Option borrowed.Worth) (w : Worthy) (x : borrowed.Worth) → option_map seen found ≡ w → Some x ≡ found → w ≡ Some (seen x)
known found w x h is = sym h ∙ ap (λ o. option_map seen o) (sym is)

pub unknown : (found : Option borrowed.Worth) (w : Worthy) → option_map seen found ≡ w → None ≡ found → w ≡ None
unknown found w h is = sym h ∙ ap (λ o. option_map seen o) (sym is)

-- the worth so far and one more operand: both are known, the first is gone, or the last is
pub both : (f : Worth → Worth → Worthy) (before found : Option borrowed.Worth) (w : Worthy) (x y : borrowed.Worth)
    → Some x ≡ before → option_map seen found ≡ w → Some y ≡ found → two f (option_map seen before) w ≡ f (seen x) (seen y)
both f before found w x y before_is h found_is =
    ap (λ o. two f (option_map seen o) w) (sym before_is) ∙ ap (λ v. two f (Some (seen x)) v) (known found w y h found_is)

pub first_gone : (f : Worth → Worth → Worthy) (before : Option borrowed.Worth) (w : Worthy) → None ≡ before → two f (option_map seen before) w ≡ None
first_gone f before w is = ap (λ o. two f (option_map seen o) w) (sym is)

pub last_gone : (f : Worth → Worth → Worthy) (before found : Option borrowed.Worth) (w : Worthy) (x : borrowed.Worth)
    → Some x ≡ before → option_map seen found ≡ w → None ≡ found → two f (option_map seen before) w ≡ None
last_gone f before found w x before_is h found_is =
    ap (λ o. two f (option_map seen o) w) (sym before_is) ∙ ap (λ v. two f (Some (seen x)) v) (unknown found w h found_is)

-- an arm that hands its parts on
pub handed : {C : Type 0} (h : Worthy → List C → Worthy) (row : Cells) (whole : Worthy) (a got : BoundNode) (xs given : List C) (r : Worthy)
    → whole ≡ h (worth row a) xs → got ≡ a → given ≡ xs → r ≡ h (worth row got) given → r ≡ whole
handed h row whole a got xs given r is got_is given_is r_is =
    r_is ∙ ap (λ ys. h (worth row got) ys) given_is ∙ ap (λ y. h (worth row y) xs) got_is ∙ sym is
