use Rattle.std.proofs.Common.{refl, None}
use Rattle.chunk_store.specs.Chunks.{chunk_bytes}
use Rattle.chunk_store.specs.Stores.{all_chunks}
use Rattle.shared_db.proofs.PointLemmas.{clean_stands}
use Rattle.shared_db.proofs.steps.clean_at.Goals as goal

pub root_of-root-requires : goal.root_of-root-requires
root_of-root-requires c = c.requires

pub returns : goal.returns
returns c = λ address commits there known. clean_stands address (chunk_bytes (all_chunks c.args.store.now)) commits there
    (record { head = c.args.commit; working = c.root_of-root.result; staged = c.root_of-root.result; merging = None }) known refl refl c.root_of-root.ensures
