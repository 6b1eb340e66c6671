use Rattle.chunk_store.specs.Chunks.{Extends}
use Rattle.chunk_store.specs.Drafts.{chunks_of}
use Rattle.chunk_store.specs.Kinds.{is_data}
use Rattle.schema_merge.specs.RootMerge.{root3}
use Rattle.root_merge.proofs.DecideLemmas.{side_later, staged_roots, working_roots}
use Rattle.root_merge.proofs.SettlingLemmas.{settled_later}
use Rattle.root_merge.proofs.StateLemmas.{root_later, roots_later}
use Rattle.root_merge.proofs.deciding.merge_settled.Goals as goal

pub merge_side-requires-2-clause-base : goal.merge_side-requires-2-clause-base
merge_side-requires-2-clause-base g c κs within =
    let old = c.args.draft.now in
    let mid = c.merge_side.new.draft in
    let laws = c.laws_of_growth.ensures in
    let more : Extends (chunks_of old.chunks) (chunks_of mid.chunks) = laws.drafts.longer_extends old.chunks mid.chunks (laws.growth.is_longer is_data old mid c.merge_side.ensures.grows) in
    (c.requires.states.0.staged, root_later g.D.Digester.address (chunks_of old.chunks) (chunks_of mid.chunks) more laws.databases c.args.start.now.staged.0 c.requires.states.0.staged c.requires.states.3.start_stands.staged)

pub merge_side-requires-2-clause-ours : goal.merge_side-requires-2-clause-ours
merge_side-requires-2-clause-ours g c κs within =
    let old = c.args.draft.now in
    let mid = c.merge_side.new.draft in
    let laws = c.laws_of_growth.ensures in
    let more : Extends (chunks_of old.chunks) (chunks_of mid.chunks) = laws.drafts.longer_extends old.chunks mid.chunks (laws.growth.is_longer is_data old mid c.merge_side.ensures.grows) in
    (c.requires.states.1.staged, root_later g.D.Digester.address (chunks_of old.chunks) (chunks_of mid.chunks) more laws.databases c.args.present.now.staged.0 c.requires.states.1.staged c.requires.states.3.present_stands.staged)

pub merge_side-requires-2-clause-theirs : goal.merge_side-requires-2-clause-theirs
merge_side-requires-2-clause-theirs g c κs within =
    let old = c.args.draft.now in
    let mid = c.merge_side.new.draft in
    let laws = c.laws_of_growth.ensures in
    let more : Extends (chunks_of old.chunks) (chunks_of mid.chunks) = laws.drafts.longer_extends old.chunks mid.chunks (laws.growth.is_longer is_data old mid c.merge_side.ensures.grows) in
    (c.requires.states.2.staged, root_later g.D.Digester.address (chunks_of old.chunks) (chunks_of mid.chunks) more laws.databases c.args.own.now.staged.0 c.requires.states.2.staged c.requires.states.3.own_stands.staged)

pub both-requires-clause-both : goal.both-requires-clause-both
both-requires-clause-both g c κs within =
    let address = g.D.Digester.address in
    let old = c.args.draft.now in
    let mid = c.merge_side.new.draft in
    let new = c.merge_side-2.new.draft in
    let laws = c.laws_of_growth.ensures in
    let more : Extends (chunks_of old.chunks) (chunks_of mid.chunks) = laws.drafts.longer_extends old.chunks mid.chunks (laws.growth.is_longer is_data old mid c.merge_side.ensures.grows) in
    let next : Extends (chunks_of mid.chunks) (chunks_of new.chunks) = laws.drafts.longer_extends mid.chunks new.chunks (laws.growth.is_longer is_data mid new c.merge_side-2.ensures.grows) in
    let s = c.requires.states.0 in
    let p = c.requires.states.1 in
    let o = c.requires.states.2 in
    let states = c.requires.states.3 in
    let working = working_roots address (chunks_of old.chunks) c.args.start.now c.args.present.now c.args.own.now s p o states in
    let staged = roots_later address (chunks_of old.chunks) (chunks_of mid.chunks) more laws.databases c.args.start.now.staged c.args.present.now.staged c.args.own.now.staged s.staged p.staged o.staged
    (staged_roots address (chunks_of old.chunks) c.args.start.now c.args.present.now c.args.own.now s p o states) in (
      root3 s.working p.working o.working,
      root3 s.staged p.staged o.staged,
      record {
        working_is = side_later address (chunks_of mid.chunks) (chunks_of new.chunks) next laws.databases c.in_ok-working.working (root3 s.working p.working o.working) (c.in_ok-working.ensures.side s.working p.working o.working working);
        staged_is = c.in_ok-staged.ensures.side s.staged p.staged o.staged staged;
      },
    )

pub both-requires-clause-settled : goal.both-requires-clause-settled
both-requires-clause-settled g c κs within =
    let address = g.D.Digester.address in
    let old = c.args.draft.now in
    let mid = c.merge_side.new.draft in
    let new = c.merge_side-2.new.draft in
    let laws = c.laws_of_growth.ensures in
    let more : Extends (chunks_of old.chunks) (chunks_of mid.chunks) = laws.drafts.longer_extends old.chunks mid.chunks (laws.growth.is_longer is_data old mid c.merge_side.ensures.grows) in
    let next : Extends (chunks_of mid.chunks) (chunks_of new.chunks) = laws.drafts.longer_extends mid.chunks new.chunks (laws.growth.is_longer is_data mid new c.merge_side-2.ensures.grows) in
    settled_later address (chunks_of mid.chunks) (chunks_of new.chunks) next laws.tables laws.databases c.args.seen.now
    (settled_later address (chunks_of old.chunks) (chunks_of mid.chunks) more laws.tables laws.databases c.args.seen.now c.requires.settled)

pub returns-clause-is : goal.returns-clause-is
returns-clause-is g c = λ s p o states.
    let address = g.D.Digester.address in
    let old = c.args.draft.now in
    let mid = c.merge_side.new.draft in
    let new = c.merge_side-2.new.draft in
    let laws = c.laws_of_growth.ensures in
    let more : Extends (chunks_of old.chunks) (chunks_of mid.chunks) = laws.drafts.longer_extends old.chunks mid.chunks (laws.growth.is_longer is_data old mid c.merge_side.ensures.grows) in
    let next : Extends (chunks_of mid.chunks) (chunks_of new.chunks) = laws.drafts.longer_extends mid.chunks new.chunks (laws.growth.is_longer is_data mid new c.merge_side-2.ensures.grows) in
    let working = working_roots address (chunks_of old.chunks) c.args.start.now c.args.present.now c.args.own.now s p o states in
    let staged = roots_later address (chunks_of old.chunks) (chunks_of mid.chunks) more laws.databases c.args.start.now.staged c.args.present.now.staged c.args.own.now.staged s.staged p.staged o.staged
    (staged_roots address (chunks_of old.chunks) c.args.start.now c.args.present.now c.args.own.now s p o states) in
    c.both.ensures.is (root3 s.working p.working o.working) (root3 s.staged p.staged o.staged) p (record {
      working_is = side_later address (chunks_of mid.chunks) (chunks_of new.chunks) next laws.databases c.in_ok-working.working (root3 s.working p.working o.working) (c.in_ok-working.ensures.side s.working p.working o.working working);
      staged_is = c.in_ok-staged.ensures.side s.staged p.staged o.staged staged;
    }) states.present_stands.head
