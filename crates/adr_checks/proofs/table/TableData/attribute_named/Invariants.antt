use Rattle.std.proofs.Common.{◌≡◌, map, drop}
use Rattle.std.specs.List.{find}
use Rattle.std.specs.Str.{bytes_eq}
use Rattle.adr_checks.specs.View.{attribute_of}
use Rattle.adr_checks.proofs.table.TableData.attribute_named.Given as goal

-- the first is among those that are left
abbrev pub invariant-loop-attribute : goal.invariant-loop-attribute
invariant-loop-attribute l =
    find (λ a. bytes_eq a.name l.name) (map attribute_of (drop l.attribute-index l.attribute-items)) ≡ find (λ a. bytes_eq a.name l.name) (map attribute_of l.attribute-items)
