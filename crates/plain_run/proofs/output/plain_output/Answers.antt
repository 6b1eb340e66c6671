use Rattle.std.proofs.Common.{of_z, to_z, w64}
use Rattle.std.proofs.lemmas.Int.{to_z-of_z}
use Rattle.chunk_store.specs.Digests.{cut_address}
use Rattle.plain_run.proofs.PlainLemmas.{told_none, told_stop, told_text}
use Rattle.plain_run.proofs.output.plain_output.Goals as goal

pub returns-then-not-are_of_sessions-clause-told : goal.returns-then-not-are_of_sessions-clause-told
returns-then-not-are_of_sessions-clause-told c =
    told_none cut_address c.args.epoch c.args.script.now c.args.order.now c.as_slice.result.now c.are_of_sessions.result c.as_slice.ensures c.are_of_sessions.ensures c.if-not-are_of_sessions.true

pub returns-in-Text-clause-told : goal.returns-in-Text-clause-told
returns-in-Text-clause-told c =
    told_text cut_address c.args.epoch c.args.script.now c.args.order.now c.as_slice.result.now c.are_of_sessions.result c.as_slice.ensures c.are_of_sessions.ensures
    (to_z w64 (of_z w64 c.args.epoch)) c.in_ok-text.field-0 c.in_ok-asked.asked c.requires.sound c.if-not-are_of_sessions.false (to_z-of_z w64 c.args.epoch c.ranges.epoch)
    c.in_ok-asked.ensures c.in_ok-text.ensures.follows c.in-Text.text c.in-Text.is

pub returns-clause-told : goal.returns-clause-told
returns-clause-told c =
    told_stop cut_address c.args.epoch c.args.script.now c.args.order.now c.as_slice.result.now c.are_of_sessions.result c.as_slice.ensures c.are_of_sessions.ensures
    (to_z w64 (of_z w64 c.args.epoch)) c.in_ok-text.field-0 c.in_ok-asked.asked c.requires.sound c.if-not-are_of_sessions.false (to_z-of_z w64 c.args.epoch c.ranges.epoch)
    c.in_ok-asked.ensures c.in_ok-text.ensures.follows c.in-Stop.field-0 c.in-Stop.is
