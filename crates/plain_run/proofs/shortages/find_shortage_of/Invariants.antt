use Rattle.std.proofs.Common.{◌≡◌, take, true}
use Rattle.std.specs.List.{list_all}
use Rattle.plain_run.specs.Plain.{is_by_rule}
use Rattle.plain_run.proofs.shortages.find_shortage_of.Given as goal

abbrev pub invariant-loop-reply : goal.invariant-loop-reply
invariant-loop-reply l = list_all is_by_rule (take l.reply-index l.replies) ≡ true
