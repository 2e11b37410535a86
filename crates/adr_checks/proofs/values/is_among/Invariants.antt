use Rattle.std.proofs.Common.{◌≡◌, drop}
use Rattle.std.specs.List.{list_any}
use Rattle.adr_values.specs.Values.{same_value}
use Rattle.adr_checks.proofs.values.is_among.Given as goal

-- one of the values is the same exactly where one of those that are left is
abbrev pub invariant-loop-other : goal.invariant-loop-other
invariant-loop-other l =
    list_any (λ v. same_value v l.value) (drop l.other-index l.values) ≡ list_any (λ v. same_value v l.value) l.values
