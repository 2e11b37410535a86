use Rattle.std.proofs.Common.{◌≡◌, take}
use Rattle.adr_values.specs.Times.{others}
use Rattle.adr_values.proofs.times.others.Given as goal

abbrev pub invariant-loop-moment : goal.invariant-loop-moment
invariant-loop-moment l = l.rest.items ≡ others (take l.moment-index l.moments) l.inv
