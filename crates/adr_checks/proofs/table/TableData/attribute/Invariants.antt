use Rattle.std.proofs.Common.{◌≡◌, ◌==◌, map, drop}
use Rattle.std.specs.List.{find}
use Rattle.adr_checks.specs.View.{attribute_of}
use Rattle.adr_checks.proofs.table.TableData.attribute.Given as goal

-- the first is among those that are left
abbrev pub invariant-loop-attribute : goal.invariant-loop-attribute
invariant-loop-attribute l =
    find (λ a. a.number == l.number) (map attribute_of (drop l.attribute-index l.attribute-items)) ≡ find (λ a. a.number == l.number) (map attribute_of l.attribute-items)
