use Rattle.std.proofs.Common.{◌≡◌, map, drop}
use Rattle.std.specs.List.{find}
use Rattle.std.specs.Str.{bytes_eq}
use Rattle.adr_checks.specs.View.{class_of}
use Rattle.adr_checks.proofs.table.TableData.class_named.Given as goal

-- the first is among those that are left
abbrev pub invariant-loop-class : goal.invariant-loop-class
invariant-loop-class l =
    find (λ c. bytes_eq c.name l.name) (map class_of (drop l.class-index l.class-items)) ≡ find (λ c. bytes_eq c.name l.name) (map class_of l.class-items)
