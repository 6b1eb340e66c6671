use Rattle.std.proofs.Common.{List, subst}
use Rattle.std.specs.Arc.{arc_value}
use Rattle.chunk_store.specs.Chunks.{Chunk, chunk_bytes}
use Rattle.chunk_store.specs.Clashes.{IsCause}
use Rattle.shared_history.proofs.AheadLemmas.{clash_differs}
use Rattle.shared_history.proofs.SettleLemmas.{sealed_as}
use Rattle.shared_history.proofs.settling.show_next.Goals as goal

pub returns-clause-ahead : goal.returns-clause-ahead
returns-clause-ahead c = λ asked.
    let held = chunk_bytes c.args.db.now.parts.chunks in
    clash_differs held _ c.in-Err-Collision.field-0 _ c.in-Err-Collision.field-0-is
    (subst (λ (cs : List Chunk). IsCause held (chunk_bytes cs) c.in-Err-Collision.field-0) (sealed_as arc_value c.args.sealed.now) c.in-Err-Collision.ensures.fault)
