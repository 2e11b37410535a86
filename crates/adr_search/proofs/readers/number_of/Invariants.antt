use Rattle.std.proofs.Common.{◌≡◌, ◌≤◌, ◌*◌, ◌+◌, drop}
use Rattle.adr_token.specs.Numbers.{figures_from}
use Rattle.adr_search.proofs.readers.number_of.Given as goal

-- the figures so far make the number
abbrev pub invariant-loop-byte : goal.invariant-loop-byte
invariant-loop-byte l = record {
  same : figures_from l.hex l.number (drop l.byte-index l.word) ≡ figures_from l.hex 0 l.word;
  bound : l.number ≤ l.most * 16 + 16;
}
