use Rattle.std.proofs.Common.{length, ◌-◌, ◌≤◌}
use Rattle.adr_file.specs.Known.{KeepsFile, StaysOpen}
use Rattle.adr_file.proofs.Filled.{IsFilled}
use Rattle.adr_file.proofs.calls.fill.Given as goal

abbrev pub invariant-parts : goal.invariant-parts
invariant-parts g l = record {
  bound : l.filled ≤ length l.into;
  read : IsFilled (g.F.Folder.file l.initial.folder) l.at l.into l.filled;
  keeps : KeepsFile g.F.Folder l.initial.folder l.folder;
  stays : StaysOpen g.F.Folder l.initial.folder l.folder;
}

abbrev pub decreases-parts : goal.decreases-parts
decreases-parts g l = length l.initial.into - l.filled
