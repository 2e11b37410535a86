use Rattle.std.proofs.Common.{◌≡◌, drop}
use Rattle.std.specs.List.{find}
use Rattle.std.specs.Str.{bytes_eq}
use Rattle.adr_model.specs.Replica.{Replica}
use Rattle.adr_run_world.proofs.controller.place_of.Given as goal

-- nobody so far has the name
abbrev pub invariant-loop-place : goal.invariant-loop-place
invariant-loop-place l = find (λ (r : Replica). bytes_eq r.name l.name) (drop l.place l.controllers) ≡ find (λ (r : Replica). bytes_eq r.name l.name) l.controllers
