use Rattle.chunk_store.specs.Chunks.{Extends}
use Rattle.chunk_store.specs.Drafts.{chunks_of}
use Rattle.chunk_store.specs.Kinds.{is_data, is_database}
use Rattle.branch_procs.specs.Committing.{staged_in}
use Rattle.session_plan.proofs.CommittingLemmas.{database_is_data}
use Rattle.root_merge.proofs.StateLemmas.{state_later}
use Rattle.branch_procs.proofs.committing.decided.Goals as goal

pub candidate-requires-clause-start : goal.candidate-requires-clause-start
candidate-requires-clause-start g c κs within =
    let (commits, s, p, o, can) = c.requires in
    let old = c.args.work.now in
    let new = c.staged_for.new.draft in
    let more : Extends (chunks_of old.chunks) (chunks_of new.chunks) = c.laws.ensures.drafts.longer_extends old.chunks new.chunks (c.laws.ensures.growth.is_longer is_database old new c.staged_for.ensures.grows) in
    (s, state_later g.D.Digester.address (chunks_of old.chunks) (chunks_of new.chunks) more c.laws.ensures.databases c.args.start.now s can.start_stands)

pub candidate-requires-clause-present : goal.candidate-requires-clause-present
candidate-requires-clause-present g c κs within =
    let (commits, s, p, o, can) = c.requires in
    let old = c.args.work.now in
    let new = c.staged_for.new.draft in
    let more : Extends (chunks_of old.chunks) (chunks_of new.chunks) = c.laws.ensures.drafts.longer_extends old.chunks new.chunks (c.laws.ensures.growth.is_longer is_database old new c.staged_for.ensures.grows) in
    (p, state_later g.D.Digester.address (chunks_of old.chunks) (chunks_of new.chunks) more c.laws.ensures.databases c.args.present.now p can.present_stands)

pub candidate-requires-clause-own : goal.candidate-requires-clause-own
candidate-requires-clause-own g c κs within =
    let (commits, s, p, o, can) = c.requires in (staged_in commits c.args.staging o, c.in_ok-own.ensures.stands commits o can.own_stands)

pub returns-in_err-made-clause-grows : goal.returns-in_err-made-clause-grows
returns-in_err-made-clause-grows g c =
    c.laws.ensures.growth.in_steps is_data c.args.work.now c.staged_for.new.draft c.candidate.new.draft
    (c.laws.ensures.growth.wider is_database is_data c.args.work.now c.staged_for.new.draft database_is_data c.staged_for.ensures.grows) c.candidate.ensures.grows

pub returns-clause-is : goal.returns-clause-is
returns-clause-is g c = λ commits s p o autocommit can.
    let old = c.args.work.now in
    let new = c.staged_for.new.draft in
    let more : Extends (chunks_of old.chunks) (chunks_of new.chunks) = c.laws.ensures.drafts.longer_extends old.chunks new.chunks (c.laws.ensures.growth.is_longer is_database old new c.staged_for.ensures.grows) in
    c.in_ok-made.ensures.is s p (staged_in commits c.args.staging o) autocommit (record {
      start_stands = state_later g.D.Digester.address (chunks_of old.chunks) (chunks_of new.chunks) more c.laws.ensures.databases c.args.start.now s can.start_stands;
      present_stands = state_later g.D.Digester.address (chunks_of old.chunks) (chunks_of new.chunks) more c.laws.ensures.databases c.args.present.now p can.present_stands;
      own_stands = c.in_ok-own.ensures.stands commits o can.own_stands;
    })

pub returns-clause-grows : goal.returns-clause-grows
returns-clause-grows g c =
    c.laws.ensures.growth.in_steps is_data c.args.work.now c.staged_for.new.draft c.candidate.new.draft
    (c.laws.ensures.growth.wider is_database is_data c.args.work.now c.staged_for.new.draft database_is_data c.staged_for.ensures.grows) c.candidate.ensures.grows
