use Rattle.std.proofs.Common.{subst}
use Rattle.adr_shelves.specs.Shelves.{all_shelves}
use Rattle.adr_shelves.proofs.Entries.{AreSorted}
use Rattle.adr_shelves.proofs.Shelved.{sorted}
use Rattle.adr_shelves.proofs.shelves.Shelves.are_in_order.Goals as goal

pub returns : goal.returns
returns c = subst AreSorted c.self.view_is (sorted (all_shelves c.self.inside.objects.entries c.self.inside.links.entries) c.self.invariant)
