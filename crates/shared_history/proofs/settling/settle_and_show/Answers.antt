use Rattle.std.proofs.Common.{◌≡◌, subst, List}
use Rattle.std.specs.Arc.{arc_value}
use Rattle.std.specs.Option.{option_map}
use Rattle.chunk_store.specs.Chunks.{Chunk, chunk_bytes}
use Rattle.chunk_store.specs.Clashes.{Differ, IsClash}
use Rattle.shared_db.specs.Settling.{StateGoesOn}
use Rattle.shared_db.specs.Shared.{IfCollided}
use Rattle.shared_db.specs.declared.changes.Settled.TheVariants as settled
use Rattle.shared_history.proofs.SettleLemmas.{sealed_as, settled_with}
use Rattle.shared_history.proofs.settling.settle_and_show.Goals as goal

pub returns-clause-settled : goal.returns-clause-settled
returns-clause-settled c =
    let says = c.settle-settled.ensures in
    let how = c.settle-settled.result in
    let old = c.args.db.now in
    let new = c.settle-settled.new.self in
    let sealed = sealed_as arc_value c.args.sealed in
    settled_with c.args.session c.args.statement c.args.look.now c.args.change (option_map arc_value c.args.sealed) c.args.next old new how c.in_ok-ahead.ahead c.shown_by-shown.result
    c.in_ok-ahead.ensures.ahead c.shown_by-shown.ensures says.done
    (subst (λ (cs : List Chunk). how ≡ settled.Done → StateGoesOn c.args.look.now c.args.change cs old.parts new.parts) sealed says.stands) says.looked says.moved
    (subst (λ (cs : List Chunk). IfCollided how (IsClash (chunk_bytes old.parts.chunks) (chunk_bytes cs))) sealed says.collision)
    (subst (λ (cs : List Chunk). how ≡ settled.Memory → Differ (chunk_bytes old.parts.chunks) (chunk_bytes cs)) sealed says.memory) says.same says.kept
