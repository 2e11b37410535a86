use Rattle.std.proofs.Common.{◌≡◌, ◌∷◌, subst}
use Rattle.std.specs.Prelude.{IfOk}
use Rattle.adr_model.specs.Rings.{show_alike}
use Rattle.adr_run_world.proofs.world.World.show_alike.Goals as goal

pub returns : goal.returns
returns c = subst (λ w. IfOk c.show_alike.result (λ alike. alike ≡ show_alike w (c.args.first.now ∷ c.args.others.now))) c.self.view_is c.show_alike.ensures
