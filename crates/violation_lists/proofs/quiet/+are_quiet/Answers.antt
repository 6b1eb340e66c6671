use Rattle.std.proofs.Common.{◌≡◌, ◌∙◌, ◌&&◌, IfOk, ap, subst, sym}
use Rattle.chunk_store.specs.Drafts.{chunks_of}
use Rattle.tuple_codec.proofs.Lists.{none_below}
use Rattle.violation_lists.specs.Thinned.{are_quiet}
use Rattle.violation_lists.proofs.StandLemmas.{parts_of, there_none}
use Rattle.violation_lists.proofs.quiet.+are_quiet.Goals as goal

pub returns-in_default : goal.returns-in_default
returns-in_default g t c = λ database there.
    sym (ap are_quiet (there_none g.D.Digester.address (chunks_of c.args.draft.now.chunks) database c.args.entries.now (none_below c.args.entries.now c.in_default.len_below) there))

pub is_quiet_at-requires-after_bounds : goal.is_quiet_at-requires-after_bounds
is_quiet_at-requires-after_bounds g t c κs within =
    let parts = parts_of g.D.Digester.address (chunks_of c.args.draft.now.chunks) c.requires.0 c.args.entries.now c.first-item.result c.requires.1 c.first-item.is c.in-len1-up.len_at_least in
    let named = parts.named in
    (named.table, parts.at)

pub are_quiet-requires-after_bounds : goal.are_quiet-requires-after_bounds
are_quiet-requires-after_bounds g t c κs within =
    let parts = parts_of g.D.Digester.address (chunks_of c.args.draft.now.chunks) c.requires.0 c.args.entries.now c.first-item.result c.requires.1 c.first-item.is c.in-len1-up.len_at_least in
    (parts.others, parts.there)

pub returns-then-not-quiet : goal.returns-then-not-quiet
returns-then-not-quiet g t c = λ database there.
    let parts = parts_of g.D.Digester.address (chunks_of c.args.draft.now.chunks) database c.args.entries.now c.first-item.result there c.first-item.is c.in-len1-up.len_at_least in
    let named = parts.named in
    let first = sym c.if-not-quiet.true ∙ c.in_ok-quiet.ensures named.table parts.at in
    (λ i. first i && are_quiet parts.others) ∙ sym (ap are_quiet parts.both)

pub returns : goal.returns
returns g t c = λ database there.
    let parts = parts_of g.D.Digester.address (chunks_of c.args.draft.now.chunks) database c.args.entries.now c.first-item.result there c.first-item.is c.in-len1-up.len_at_least in
    let named = parts.named in
    let first = sym c.if-not-quiet.false ∙ c.in_ok-quiet.ensures named.table parts.at in
    subst (λ quiet. IfOk c.are_quiet.result (λ told. told ≡ quiet)) ((λ i. first i && are_quiet parts.others) ∙ sym (ap are_quiet parts.both)) (c.are_quiet.ensures parts.others parts.there)
