use Rattle.std.proofs.Common.{◌≡◌, take, true}
use Rattle.std.specs.List.{list_all}
use Rattle.plain_run.specs.Plain.{is_by_rule}
use Rattle.plain_run.proofs.shortages.find_shortage.Given as goal

abbrev pub invariant-loop-session : goal.invariant-loop-session
invariant-loop-session l = list_all (list_all is_by_rule) (take l.session-index l.replies) ≡ true
