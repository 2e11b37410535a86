use Rattle.std.proofs.Common.{◌≡◌, List, subst}
use Rattle.std.specs.Prelude.{IfSome, slice_get}
use Rattle.std.specs.List.{find}
use Rattle.std.specs.Str.{bytes_eq}
use Rattle.adr_model.specs.Replica.{Replica}
use Rattle.adr_run_world.proofs.run.Run.place_of.Goals as goal

pub returns-clause-found : goal.returns-clause-found
returns-clause-found c =
    subst (λ (rs : List Replica). IfSome c.place_of.result (λ place. find (λ (r : Replica). bytes_eq r.name c.args.name.now) rs ≡ slice_get rs place)) c.as_slice.ensures.value c.place_of.ensures.found
