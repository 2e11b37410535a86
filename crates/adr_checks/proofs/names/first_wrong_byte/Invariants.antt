use Rattle.std.proofs.Common.{◌≡◌, ◌-◌, length}
use Rattle.std.specs.List.{find, range_with_len}
use Rattle.adr_values.specs.Names.{is_wrong_byte}
use Rattle.adr_values.specs.Places.{first_place}
use Rattle.adr_checks.proofs.names.first_wrong_byte.Given as goal

-- the first wrong place is among those that are left
abbrev pub invariant-loop-place : goal.invariant-loop-place
invariant-loop-place l =
    find (is_wrong_byte l.bytes) (range_with_len l.place (length l.bytes - l.place)) ≡ first_place (is_wrong_byte l.bytes) (length l.bytes)
