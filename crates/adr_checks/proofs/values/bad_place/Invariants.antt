use Rattle.std.proofs.Common.{◌≡◌, ◌-◌, ◌≤◌, length}
use Rattle.std.specs.List.{find, range_with_len}
use Rattle.adr_values.specs.Places.{first_place}
use Rattle.adr_values.specs.Values.{is_bad_at}
use Rattle.adr_checks.proofs.values.bad_place.Given as goal

-- the first bad place is among those that are left, and the places do not pass the limit
abbrev pub invariant-loop-place : goal.invariant-loop-place
invariant-loop-place l =
    (find (is_bad_at l.syntax l.most l.values) (range_with_len l.place (length l.values - l.place)) ≡ first_place (is_bad_at l.syntax l.most l.values) (length l.values))
    × (l.place ≤ l.most)
