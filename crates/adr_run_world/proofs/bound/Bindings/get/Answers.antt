use Rattle.std.proofs.Common.{ap, ◌∙◌}
use Rattle.std.specs.Map.{lookup}
use Rattle.std.specs.Prelude.{string_bytes}
use Rattle.std.specs.Str.{bytes_eq}
use Rattle.adr_model.specs.World.{bound_at}
use Rattle.adr_run_world.proofs.Tables.{found}
use Rattle.adr_run_world.proofs.bound.Bindings.get.Goals as goal

pub returns : goal.returns
returns g c =
    c.get.ensures.value ∙ ap (λ n. lookup (λ k. bytes_eq n (string_bytes k)) c.self.inside.table.entries) c.as_str.ensures
    ∙ found c.self.inside.table.entries c.args.name.now ∙ ap (λ xs. bound_at xs c.args.name.now) c.self.view_is
