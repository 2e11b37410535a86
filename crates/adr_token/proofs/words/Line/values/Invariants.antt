use Rattle.std.proofs.Common.{◌≡◌, ◌+◌, ◌-◌, ◌≤◌, length}
use Rattle.adr_token.specs.Values.{values_within}
use Rattle.adr_token.proofs.TextLemmas.{onto}
use Rattle.adr_token.proofs.words.Line.values.Given as goal

-- the values so far, and those that stand in the bytes that are left, are the values; each took a byte
abbrev pub invariant-values : goal.invariant-values
invariant-values l = record {
  fewer : length l.self + length l.values.items ≤ length l.fn.self;
  same : onto l.values.items (values_within (length l.fn.self - length l.values.items) l.self) ≡ values_within (length l.fn.self) l.fn.self;
}

-- the bytes that are left
abbrev pub decreases-values : goal.decreases-values
decreases-values l = length l.self
