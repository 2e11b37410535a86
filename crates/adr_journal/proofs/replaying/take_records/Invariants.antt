use Rattle.std.proofs.Common.{◌-◌, length}
use Rattle.adr_journal.specs.Reached.{IsReached}
use Rattle.adr_journal.proofs.replaying.take_records.Given as goal

abbrev pub invariant-records : goal.invariant-records
invariant-records g l = record {
  reached : IsReached g.F.Form.head g.F.Form.area g.F.Form.following l.area.second l.area.place l.area.version l.area.first l.gate l.bytes l.state;
  formed : g.F.Form.is_formed l.state;
}

abbrev pub decreases-records : goal.decreases-records
decreases-records g l = length l.bytes - l.gate
