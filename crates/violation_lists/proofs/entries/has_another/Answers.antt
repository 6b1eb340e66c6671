use Rattle.std.proofs.Common.{◌∙◌, ap, sym}
use Rattle.chunk_store.specs.Drafts.{chunks_of}
use Rattle.prolly_tree.specs.Walks.{scan_rest}
use Rattle.violation_lists.specs.Seeking.{begins_first, begins_other}
use Rattle.violation_lists.proofs.PrefixLemmas.{other_next, other_off, other_on, other_told}
use Rattle.violation_lists.proofs.TreeLemmas.{rises}
use Rattle.violation_lists.proofs.entries.has_another.Goals as goal

pub returns-in-None : goal.returns-in-None
returns-in-None g c = λ rows tree.
    let rise = rises g.D.Digester.address (chunks_of c.args.draft.now.chunks) c.args.root.now.0 rows tree in
    let p = c.args.prefix.now in
    let own = c.args.own.now in
    let told = other_told p own rows (scan_rest c.in_ok-scan.scan) rise (c.in_ok-scan.ensures rows tree) in
    sym (told ∙ ap (begins_other p own) c.in-None.ensures.gives.0)

pub returns-then-not-begins : goal.returns-then-not-begins
returns-then-not-begins g c = λ rows tree.
    let rise = rises g.D.Digester.address (chunks_of c.args.draft.now.chunks) c.args.root.now.0 rows tree in
    let p = c.args.prefix.now in
    let own = c.args.own.now in
    let told = other_told p own rows (scan_rest c.in_ok-scan.scan) rise (c.in_ok-scan.ensures rows tree) in
    let one = told ∙ ap (begins_other p own) c.in-Some.ensures.gives in
    sym (one ∙ other_off p own c.in-Some.key.now c.in-Some.field-0-1.now (scan_rest c.next.new.self) (sym c.begins.ensures ∙ c.if-not-begins.true))

pub returns-then-ne : goal.returns-then-ne
returns-then-ne g c = λ rows tree.
    let rise = rises g.D.Digester.address (chunks_of c.args.draft.now.chunks) c.args.root.now.0 rows tree in
    let p = c.args.prefix.now in
    let own = c.args.own.now in
    let told = other_told p own rows (scan_rest c.in_ok-scan.scan) rise (c.in_ok-scan.ensures rows tree) in
    let one = told ∙ ap (begins_other p own) c.in-Some.ensures.gives in
    sym (one ∙ other_on p own c.in-Some.key.now c.in-Some.field-0-1.now (scan_rest c.next.new.self) (sym c.begins.ensures ∙ c.if-not-begins.false) (sym c.ne.ensures ∙ c.if-ne.true))

pub returns-in-None-next : goal.returns-in-None-next
returns-in-None-next g c = λ rows tree.
    let rise = rises g.D.Digester.address (chunks_of c.args.draft.now.chunks) c.args.root.now.0 rows tree in
    let p = c.args.prefix.now in
    let own = c.args.own.now in
    let told = other_told p own rows (scan_rest c.in_ok-scan.scan) rise (c.in_ok-scan.ensures rows tree) in
    let one = told ∙ ap (begins_other p own) c.in-Some.ensures.gives in
    let next = one ∙ other_next p own c.in-Some.key.now c.in-Some.field-0-1.now (scan_rest c.next.new.self) (sym c.begins.ensures ∙ c.if-not-begins.false) (sym c.ne.ensures ∙ c.if-ne.false) in
    sym (next ∙ ap (begins_first p) c.in-None-next.ensures.gives.0)

pub returns : goal.returns
returns g c = λ rows tree.
    let rise = rises g.D.Digester.address (chunks_of c.args.draft.now.chunks) c.args.root.now.0 rows tree in
    let p = c.args.prefix.now in
    let own = c.args.own.now in
    let told = other_told p own rows (scan_rest c.in_ok-scan.scan) rise (c.in_ok-scan.ensures rows tree) in
    let one = told ∙ ap (begins_other p own) c.in-Some.ensures.gives in
    let next = one ∙ other_next p own c.in-Some.key.now c.in-Some.field-0-1.now (scan_rest c.next.new.self) (sym c.begins.ensures ∙ c.if-not-begins.false) (sym c.ne.ensures ∙ c.if-ne.false) in
    c.begins-in-Some-next.ensures ∙ sym (next ∙ ap (begins_first p) c.in-Some-next.ensures.gives)
