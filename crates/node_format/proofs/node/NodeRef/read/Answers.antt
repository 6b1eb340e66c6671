use Rattle.std.proofs.Common.{refl, sym, arith, inl, inr}
use Rattle.node_format.proofs.NodeLemmas.{fault_place, header_shorter, no_header, node_read, none_that_stops, none_without_header}
use Rattle.node_format.proofs.node.NodeRef.read.Goals as goal

pub returns-in-None-clause-malformed : goal.returns-in-None-clause-malformed
returns-in-None-clause-malformed c = none_without_header c.args.bytes.now (sym c.in-None.ensures)

pub returns-in-None-clause-place : goal.returns-in-None-clause-place
returns-in-None-clause-place c = inl (no_header c.args.bytes.now (sym c.in-None.ensures), refl)

pub scan-requires : goal.scan-requires
scan-requires c =
    let shorter = header_shorter c.args.bytes.now (c.in-Some.level, c.in-Some.count, c.in-Some.items.now) (λ i. omega (arith, c.type_inv.bytes i)) (sym c.in-Some.ensures) in
    omega (arith, shorter, c.requires)

pub invariant_of-result : goal.invariant_of-result
invariant_of-result c =
    let read = node_read c.args.bytes.now (c.in-Some.level, c.in-Some.count, c.in-Some.items.now) (λ i. omega (arith, c.type_inv.bytes i)) (sym c.in-Some.ensures) c.in-Ok.ensures.ok in
    record { node = read.0; many = read.2; marks = c.in-Ok.ensures.marks; step = c.in-Ok.ensures.step; room = c.in-Ok.ensures.room }

pub returns-in-Ok-clause-node : goal.returns-in-Ok-clause-node
returns-in-Ok-clause-node c =
    (node_read c.args.bytes.now (c.in-Some.level, c.in-Some.count, c.in-Some.items.now) (λ i. omega (arith, c.type_inv.bytes i)) (sym c.in-Some.ensures) c.in-Ok.ensures.ok).0

pub returns-in-Ok-clause-bytes : goal.returns-in-Ok-clause-bytes
returns-in-Ok-clause-bytes c =
    (node_read c.args.bytes.now (c.in-Some.level, c.in-Some.count, c.in-Some.items.now) (λ i. omega (arith, c.type_inv.bytes i)) (sym c.in-Some.ensures) c.in-Ok.ensures.ok).1

pub overflow_sub-result : goal.overflow_sub-result
overflow_sub-result c =
    let place = fault_place c.args.bytes.now c.in-Err.rest.now (c.in-Some.level, c.in-Some.count, c.in-Some.items.now) (λ i. omega (arith, c.type_inv.bytes i)) (sym c.in-Some.ensures) c.in-Err.ensures.err in
    omega (arith, place.0)

pub returns-in-Err-clause-malformed : goal.returns-in-Err-clause-malformed
returns-in-Err-clause-malformed c =
    none_that_stops c.args.bytes.now c.in-Err.rest.now (c.in-Some.level, c.in-Some.count, c.in-Some.items.now) (sym c.in-Some.ensures) c.in-Err.ensures.err

pub returns-in-Err-clause-place : goal.returns-in-Err-clause-place
returns-in-Err-clause-place c =
    inr (fault_place c.args.bytes.now c.in-Err.rest.now (c.in-Some.level, c.in-Some.count, c.in-Some.items.now) (λ i. omega (arith, c.type_inv.bytes i)) (sym c.in-Some.ensures) c.in-Err.ensures.err).1
