use Rattle.std.proofs.Common.{◌≡◌, drop}
use Rattle.shared_db.specs.Members.{places_of}
use Rattle.shared_db.specs.Stepping.{is_used}
use Rattle.shared_db.proofs.steps.is_used.Given as goal

abbrev pub invariant-loop-member : goal.invariant-loop-member
invariant-loop-member l = is_used l.name (places_of (drop l.member-index l.members)) ≡ is_used l.name (places_of l.members)
