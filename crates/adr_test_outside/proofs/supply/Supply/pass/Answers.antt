use Rattle.std.proofs.lemmas.List.{drop-drop}
use Rattle.adr_test_outside.proofs.supply.Supply.pass.Goals as goal

pub returns : goal.returns
returns g c = rw (← c.self.view_is, drop-drop 1 c.self.inside.given c.self.inside.items.items, c.pass.ensures)
