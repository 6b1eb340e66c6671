use Rattle.std.proofs.Common.{◌∙◌, ◌-◌, sym, arith}
use Rattle.script_text.proofs.BlankLemmas.{blank_at, other_at}
use Rattle.script_text.proofs.blanks.trim_end.Goals as goal

pub returns-then-not-is_blank_byte : goal.returns-then-not-is_blank_byte
returns-then-not-is_blank_byte c =
    sym (other_at c.args.bytes.now c.back.end (c.back.end - 1) (omega arith) (omega arith) (sym c.is_blank_byte.ensures ∙ c.if-not-is_blank_byte.true)) ∙ c.back.invariant.same

pub back-preserved : goal.back-preserved
back-preserved c = record {
  within = omega arith;
  same = blank_at c.args.bytes.now c.back.end (c.back.end - 1) (omega arith) (omega arith) (sym c.is_blank_byte.ensures ∙ c.if-not-is_blank_byte.false) ∙ c.back.invariant.same;
}
