use Rattle.adr_shelves.proofs.ShelvedTrees.{none_yet}
use Rattle.adr_shelves.proofs.shelves.Shelves.new.Goals as goal

pub invariant_of-result : goal.invariant_of-result
invariant_of-result c = none_yet c.new.result.entries c.new-2.result.entries c.new.ensures.empty c.new-2.ensures.empty
