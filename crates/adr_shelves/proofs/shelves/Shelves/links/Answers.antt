use Rattle.std.proofs.Common.{arith, ap}
use Rattle.adr_shelves.specs.Place.{is_of_link}
use Rattle.adr_shelves.specs.Shelves.{tally}
use Rattle.adr_shelves.proofs.ShelvedTrees.{links_below}
use Rattle.adr_shelves.proofs.shelves.Shelves.links.Goals as goal

pub returns : goal.returns
returns c = omega (arith, ap (tally is_of_link) c.self.view_is, links_below c.self.inside.objects.entries c.self.inside.links.entries c.self.invariant, c.len.ensures.len)
