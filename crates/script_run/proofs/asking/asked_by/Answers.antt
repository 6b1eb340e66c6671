use Rattle.std.proofs.Common.{nat_le, length, arith}
use Rattle.std.proofs.lemmas.Bool.{and_parts as both, leb-true}
use Rattle.tuple_codec.specs.Texts.{is_utf8}
use Rattle.script_text.specs.Input.{most_statement_bytes}
use Rattle.script_run.proofs.asking.asked_by.Goals as goal

pub read_command-requires-clause-size : goal.read_command-requires-clause-size
read_command-requires-clause-size c =
    let few = leb-true (length c.args.text.now) most_statement_bytes (both (is_utf8 c.args.text.now) (nat_le (length c.args.text.now) most_statement_bytes) c.requires).1 in
    omega (arith, few)

pub read_command-requires-clause-utf8 : goal.read_command-requires-clause-utf8
read_command-requires-clause-utf8 c = (both (is_utf8 c.args.text.now) (nat_le (length c.args.text.now) most_statement_bytes) c.requires).0
