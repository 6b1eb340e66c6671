use Rattle.std.proofs.Common.{◌≡◌, ◌∙◌, ap, sym, subst}
use Rattle.std.proofs.lemmas.Slice.Eq.{bytes_eq-Decides}
use Rattle.chunk_store.specs.Drafts.{chunks_of}
use Rattle.table_root.specs.Standing.{IsDatabaseAt}
use Rattle.plain_writes.specs.Violations.{first_violation}
use Rattle.plain_writes.specs.CheckTexts.{checks}
use Rattle.violation_lists.specs.Scanning.{has_constraints}
use Rattle.constraint_scan.proofs.judging.first_violation_if.Goals as goal

pub returns-then-eq : goal.returns-then-eq
returns-then-eq g c = λ before after old_at new_at.
    let address = g.D.Digester.address in
    let chunks = chunks_of c.args.draft.now.chunks in
    let equal = (bytes_eq-Decides c.args.old.now.0 c.args.new.now.0).0 (sym c.eq.ensures ∙ c.if-eq.true) in
    let old_there = subst (λ k. IsDatabaseAt address chunks k before) equal old_at.stands in
    let one = c.law_of_databases.ensures.one address chunks c.args.new.now.0 before after old_there new_at.stands in
    sym (ap (λ database. first_violation checks database after) one ∙ c.law_of_refusals.ensures.same checks after)

pub returns-else-constrained : goal.returns-else-constrained
returns-else-constrained g c = λ before after old_at new_at.
    let address = g.D.Digester.address in
    let chunks = chunks_of c.args.draft.now.chunks in
    let at = c.requires.new.1 in
    let one = c.law_of_databases.ensures.one address chunks c.args.new.now.0 c.requires.new.0 after at.stands new_at.stands in
    let none = sym (c.requires.new.2 ∙ ap has_constraints one) ∙ c.if-constrained.false in
    sym (c.law_of_refusals.ensures.free checks before after none)
