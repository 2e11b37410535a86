use Rattle.std.proofs.Common.{◌≡◌, ◌++◌, take, drop}
use Rattle.std.specs.List.{flat_map}
use Rattle.adr_values.specs.Dated.{with_moments}
use Rattle.adr_values.proofs.Walks.{Agrees}
use Rattle.adr_wire.specs.Timed.{dated}
use Rattle.adr_wire.proofs.writer.Writer.write_dated.Given as goal

abbrev pub invariant-loop-cursor : goal.invariant-loop-cursor
invariant-loop-cursor l = record {
  written : l.self ≡ l.fn.self ++ flat_map dated (with_moments l.times (take l.cursor-index l.cursors));
  walked : Agrees l.moments l.times (drop l.cursor-index l.cursors);
}
