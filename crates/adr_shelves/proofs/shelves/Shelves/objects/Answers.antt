use Rattle.std.proofs.Common.{arith, ap}
use Rattle.adr_shelves.specs.Place.{is_of_class}
use Rattle.adr_shelves.specs.Shelves.{tally}
use Rattle.adr_shelves.proofs.ShelvedTrees.{classes_below}
use Rattle.adr_shelves.proofs.shelves.Shelves.objects.Goals as goal

pub returns : goal.returns
returns c = omega (arith, ap (tally is_of_class) c.self.view_is, classes_below c.self.inside.objects.entries c.self.inside.links.entries c.self.invariant, c.len.ensures.len)
