use Rattle.std.proofs.Common.{◌∙◌, ap, sym, subst, map, List, Some}
use Rattle.std.specs.Arc.{arc_value}
use Rattle.std.specs.Option.{option_map}
use Rattle.chunk_store.specs.Chunks.{Chunk}
use Rattle.chunk_store.specs.Stores.{all_chunks}
use Rattle.shared_db.specs.Shared.{AreWith}
use Rattle.shared_history.specs.Showing.{head_after}
use Rattle.shared_history.proofs.AheadLemmas.{heads_ahead, record_ahead}
use Rattle.shared_history.proofs.settling.look_ahead.Goals as goal

pub returns-clause-look : goal.returns-clause-look
returns-clause-look c =
    let name = c.args.branch.now in
    let made = c.args.change in
    let seen = c.in_ok-seen.seen in
    let at = c.in_ok-seen.ensures in
    let lines = c.args.db.now.parts.branches in
    let store = c.append_some.new.store in
    record {
      branch = at.branch;
      there = record_ahead name made seen.rec lines at.there ∙ ap Some (sym c.record_after.ensures);
      heads = c.in_ok-heads.ensures ∙ ap (map (head_after name made)) at.heads ∙ heads_ahead name made lines;
      chunks = subst (λ (cs : List Chunk). AreWith cs (option_map arc_value c.args.sealed.now) (all_chunks store)) at.chunks c.in_ok-append_some.ensures.chunks;
      single = c.tell.ensures.single;
    }
