use Rattle.std.proofs.Common.{◌≡◌, ◌∷◌, drop, map}
use Rattle.std.specs.List.{list_all}
use Rattle.std.specs.Cmp.Lexicographic.{pointwise}
use Rattle.adr_model.specs.Rings.{same_entry, same_option, show_alike, told_of}
use Rattle.adr_model.specs.World.{shown}
use Rattle.adr_run_world.specs.Run.{world_of}
use Rattle.adr_run_world.proofs.run.Run.show_alike.Given as goal

-- those that are left tell
abbrev pub invariant-directories : goal.invariant-directories
invariant-directories l =
    show_alike (world_of l.self) (l.first ∷ l.others)
    ≡ list_all (same_option (pointwise same_entry) l.all) (map (told_of (world_of l.self) (shown (world_of l.self))) (drop l.place l.others))
