use Rattle.std.proofs.Common.{sym}
use Rattle.schema_model.proofs.PartLemmas.{bytes_takes}
use Rattle.commit_graph.proofs.parts.root_in.Goals as goal

pub from_slice-requires : goal.from_slice-requires
from_slice-requires c = (bytes_takes 20 c.in_ok-rest.rest.now (c.in_ok-root.root.now, c.in_ok-root.field-0-1.now) (sym c.in_ok-root.ensures)).1
