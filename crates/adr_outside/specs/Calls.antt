-- Calls of a network, by what they count.
use Rattle.std.specs.Prelude.{Result}
use Rattle.adr_io.specs.declared.Fault.{Fault}
use Rattle.adr_outside.specs.declared.net.Net.{Ghosts as NetGhosts}
use Rattle.adr_outside.specs.Counted.{IsCounted}

-- calls of its lines alone, up to the first that failed
abbrev pub CountsLine : {N T : Type 0} → NetGhosts N → N → N → Result T Fault → Type 0
CountsLine n old new result = IsCounted (n.lines old) (n.lines new) (n.doors old) (n.doors new) result
