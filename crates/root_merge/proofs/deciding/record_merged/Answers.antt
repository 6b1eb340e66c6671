use Rattle.std.proofs.Common.{refl}
use Rattle.chunk_store.specs.Chunks.{Extends}
use Rattle.chunk_store.specs.Drafts.{chunks_of}
use Rattle.chunk_store.specs.Kinds.{is_data}
use Rattle.root_merge.proofs.StateLemmas.{root_later}
use Rattle.root_merge.proofs.deciding.record_merged.Goals as goal

pub returns-clause-stands : goal.returns-clause-stands
returns-clause-stands g c = λ w s working staged.
    let old = c.args.draft.now in
    let new = c.record_all.new.draft in
    let laws = c.laws_of_growth.ensures in
    let more : Extends (chunks_of old.chunks) (chunks_of new.chunks) = laws.drafts.longer_extends old.chunks new.chunks (laws.growth.is_longer is_data old new c.record_all.ensures.grows) in
    record {
      head = refl;
      working = c.in_ok-working.ensures.stands w working;
      staged = root_later g.D.Digester.address (chunks_of old.chunks) (chunks_of new.chunks) more laws.databases c.args.staged.now.0 s staged;
      merging = refl;
    }
