use Rattle.std.proofs.Common.{◌∙◌, sym}
use Rattle.root_merge.proofs.MergedLemmas.{rows_pass, table_within}
use Rattle.root_merge.proofs.tables.keep_rows.Goals as goal

pub returns-then-not-short-clause-fault : goal.returns-then-not-short-clause-fault
returns-then-not-short-clause-fault g c = λ contents made.
    rows_pass contents (sym (c.in_ok-short.ensures contents made.stands) ∙ c.if-not-short.true)

pub keep_merged-requires-after_bounds : goal.keep_merged-requires-after_bounds
keep_merged-requires-after_bounds g c κs within =
    let contents = c.requires.0 in
    let made = c.requires.1 in (
      contents,
      record {
        stands = made.stands;
        within = table_within contents made.limits (sym (c.in_ok-short.ensures contents made.stands) ∙ c.if-not-short.false) made.settled;
      },
    )

pub returns-clause-made : goal.returns-clause-made
returns-clause-made g c = λ contents made.
    c.in_ok-became.ensures.made contents (record {
      stands = made.stands;
      within = table_within contents made.limits (sym (c.in_ok-short.ensures contents made.stands) ∙ c.if-not-short.false) made.settled;
    })
