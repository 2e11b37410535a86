use Rattle.std.proofs.Common.{◌≡◌, ◌∷◌, drop, map}
use Rattle.std.specs.List.{list_all}
use Rattle.std.specs.Cmp.Lexicographic.{pointwise}
use Rattle.adr_model.specs.Rings.{same_cursor, same_option, told_of, vectors_alike}
use Rattle.adr_model.specs.Store.{State}
use Rattle.adr_run_world.specs.Run.{world_of}
use Rattle.adr_run_world.proofs.run.Run.vectors_alike.Given as goal

-- those that are left tell
abbrev pub invariant-vectors : goal.invariant-vectors
invariant-vectors l =
    vectors_alike (world_of l.self) (l.first ∷ l.others)
    ≡ list_all (same_option (pointwise same_cursor) l.all) (map (told_of (world_of l.self) (λ (s : State). s.store.vector)) (drop l.place l.others))
