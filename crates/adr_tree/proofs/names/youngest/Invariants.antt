use Rattle.std.proofs.Common.{◌≡◌, drop}
use Rattle.std.specs.Option.{option_copied}
use Rattle.adr_law_tree.specs.Breaker.{youngest}
use Rattle.adr_update.specs.Referents.{referents}
use Rattle.adr_tree.specs.Names.{youngest_with}
use Rattle.adr_tree.proofs.names.youngest.Given as goal

-- the best so far and those that are left give the youngest of all
abbrev pub invariant-loop-node : goal.invariant-loop-node
invariant-loop-node l = youngest_with (option_copied l.best) (referents (drop l.node-index l.nodes)) ≡ youngest (referents l.nodes)
