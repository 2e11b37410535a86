-- The first place that passes a test.
use Rattle.std.specs.Prelude.{ℕ, Bool, Option}
use Rattle.std.specs.List.{find, range_with_len}

-- the least place below n at which p holds
abbrev pub first_place : (ℕ → Bool) → ℕ → Option ℕ
first_place p n = find p (range_with_len 0 n)
