use Rattle.std.proofs.Common.{◌≡◌, ◌∙◌, None, sym, take, drop, length, ◌-◌}
use Rattle.std.proofs.lemmas.Result.{IfErr-weaker, on_ok_weaker}
use Rattle.tuple_codec.proofs.Lists.{none_below}
use Rattle.chunk_store.specs.Drafts.{chunks_of}
use Rattle.root_merge.specs.Merging.{IsSchemaFault, part_in}
use Rattle.root_merge.specs.Names.{together}
use Rattle.root_merge.proofs.ChoiceLemmas.{first_merges, later_fault, led, led_none, none_merge}
use Rattle.root_merge.proofs.KeptLemmas.{by_first}
use Rattle.root_merge.proofs.judging.+judge.Goals as goal

pub returns-in_default-clause-ok : goal.returns-in_default-clause-ok
returns-in_default-clause-ok g t c = λ wanted lead.
    none_merge wanted (led_none g.D.Digester.address (chunks_of c.args.draft.now.chunks) c.args.names.now wanted (none_below c.args.names.now c.in_default.len_below) lead)

pub part_of-requires-after_bounds : goal.part_of-requires-after_bounds
part_of-requires-after_bounds g t c κs within =
    let names = c.args.names.now in
    let l = led g.D.Digester.address (chunks_of c.args.draft.now.chunks) c.first-item.result (take (length names - 1) (drop 1 names)) names c.requires.0
    (by_first names c.first-item.result c.in-len1-up.len_at_least c.first-item.is) c.requires.1 in
    (l.first.table, l.leads)

pub judge-requires-after_bounds : goal.judge-requires-after_bounds
judge-requires-after_bounds g t c κs within =
    let names = c.args.names.now in
    let l = led g.D.Digester.address (chunks_of c.args.draft.now.chunks) c.first-item.result (take (length names - 1) (drop 1 names)) names c.requires.0
    (by_first names c.first-item.result c.in-len1-up.len_at_least c.first-item.is) c.requires.1 in
    (l.more, l.rest)

pub returns-in-None-clause-ok : goal.returns-in-None-clause-ok
returns-in-None-clause-ok g t c = λ wanted lead.
    let names = c.args.names.now in
    let l = led g.D.Digester.address (chunks_of c.args.draft.now.chunks) c.first-item.result (take (length names - 1) (drop 1 names)) names wanted
    (by_first names c.first-item.result c.in-len1-up.len_at_least c.first-item.is) lead in
    let told : None ≡ part_in l.first.table = sym c.in-None.is ∙ c.in_ok-part.ensures l.first.table l.leads in
    on_ok_weaker c.judge.result (λ rest. first_merges wanted l.first l.more l.is told rest) (c.judge.ensures.ok l.more l.rest)

pub returns-in-None-clause-fault : goal.returns-in-None-clause-fault
returns-in-None-clause-fault g t c = λ wanted lead.
    let names = c.args.names.now in
    let l = led g.D.Digester.address (chunks_of c.args.draft.now.chunks) c.first-item.result (take (length names - 1) (drop 1 names)) names wanted
    (by_first names c.first-item.result c.in-len1-up.len_at_least c.first-item.is) lead in
    let told : None ≡ part_in l.first.table = sym c.in-None.is ∙ c.in_ok-part.ensures l.first.table l.leads in
    IfErr-weaker c.judge.result (IsSchemaFault (together l.more)) (IsSchemaFault (together wanted)) (λ why of. later_fault wanted l.first l.more why l.is told of) (c.judge.ensures.fault l.more l.rest)
