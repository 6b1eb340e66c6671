use Rattle.root_merge.specs.Settling.{IsSettledDatabase, IsSettledTable}
use Rattle.root_merge.proofs.SettlingLemmas.{none_seen}
use Rattle.root_merge.proofs.settling.Settled.new.Goals as goal

pub returns : goal.returns
returns c = λ address chunks. record {
  tables = none_seen c.new.result.items c.new.ensures.items (IsSettledTable address chunks);
  databases = none_seen c.new-2.result.items c.new-2.ensures.items (IsSettledDatabase address chunks);
}
