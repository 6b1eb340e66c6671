use Rattle.std.proofs.Common.{◌∙◌, ap}
use Rattle.tuple_codec.specs.Limits.{are_types}
use Rattle.violation_lists.proofs.SeekLemmas.{types_fit}
use Rattle.constraint_scan.proofs.cells.sought.Goals as goal

pub encode_key-requires-clause-types : goal.encode_key-requires-clause-types
encode_key-requires-clause-types c = ap are_types (c.as_slice-then-can_seek.ensures ∙ c.in_ok-types.ensures) ∙ types_fit c.args.schema.now c.args.places.now c.requires
