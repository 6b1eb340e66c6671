use Rattle.std.proofs.Common.{◌+◌, sym}
use Rattle.std.proofs.lemmas.List.{take_rest}
use Rattle.script_text.proofs.LineLemmas.{last_line, line_at}
use Rattle.script_text.proofs.reading.next_line.Goals as goal

pub returns-in-Some-clause-lines : goal.returns-in-Some-clause-lines
returns-in-Some-clause-lines c = rw (take_rest c.args.bytes.now (c.in-Some.end + 1), c.drop_return.ensures) (line_at c.args.bytes.now c.in-Some.end (sym c.in-Some.ensures.feed))

pub returns-in-None-clause-lines : goal.returns-in-None-clause-lines
returns-in-None-clause-lines c = last_line c.args.bytes.now (sym c.in-None.ensures.feed) c.requires
