use Rattle.std.proofs.Common.{◌∙◌, sym}
use Rattle.std.proofs.lemmas.Slice.Eq.{bytes_eq-Decides}
use Rattle.constraint_scan.proofs.pairing.paired.Goals as goal

pub returns-then-same : goal.returns-then-same
returns-then-same g c = λ before after old_is new_is.
    c.paired_tables.ensures before after ((bytes_eq-Decides c.args.old.now.name c.as_slice.result.now).0 (sym c.is-same.ensures ∙ c.if-same.true) ∙ c.as_slice.ensures) old_is new_is
