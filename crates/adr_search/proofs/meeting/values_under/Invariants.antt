use Rattle.std.proofs.Common.{◌≡◌, drop}
use Rattle.adr_search.specs.Match.{under}
use Rattle.adr_search.proofs.meeting.values_under.Given as goal

-- the first is among those that are left
abbrev pub invariant-loop-number : goal.invariant-loop-number
invariant-loop-number l = under l.attr (drop l.number-index l.number-items) ≡ under l.attr l.number-items
