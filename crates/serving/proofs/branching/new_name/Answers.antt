use Rattle.std.specs.Option.{option_map_or}
use Rattle.std.proofs.Common.{true}
use Rattle.std.proofs.lemmas.Bool.{and_parts}
use Rattle.sql_procedures.specs.Arguments.{is_point}
use Rattle.serving.proofs.branching.new_name.Goals as goal

pub name_in-requires : goal.name_in-requires
name_in-requires c = (and_parts (is_point c.args.made.now.name) (option_map_or is_point c.args.made.now.point true) c.requires).0
