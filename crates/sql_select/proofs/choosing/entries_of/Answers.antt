use Rattle.std.proofs.Common.{subst}
use Rattle.sql_select.specs.Choosing.{IsSeekOf, is_wanted}
use Rattle.sql_select.specs.Seeking.{Seeks}
use Rattle.sql_select.specs.declared.choosing.Seek.TheVariants as kind
use Rattle.sql_select.proofs.KeyLemmas.{same_seek}
use Rattle.sql_select.proofs.choosing.entries_of.Goals as goal

pub returns-in-Some-clause-seeks : goal.returns-in-Some-clause-seeks
returns-in-Some-clause-seeks c = λ seek e.
    subst (λ s. Seeks c.args.schema.now c.args.test.now (is_wanted c.args.schema.now s)) (same_seek (kind.Entries c.in-Some.entries) seek e) (c.in_ok-entries.ensures.seeks c.in-Some.entries c.in-Some.is)

pub returns-in-Some-clause-fits : goal.returns-in-Some-clause-fits
returns-in-Some-clause-fits c = λ seek e.
    subst (IsSeekOf c.args.schema.now) (same_seek (kind.Entries c.in-Some.entries) seek e) (c.in_ok-entries.ensures.fits c.in-Some.entries c.in-Some.is)
