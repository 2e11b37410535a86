-- How many cursors are new.
use Rattle.std.specs.Prelude.{ℕ, ◌==◌, nat_lt, if◌then◌else◌}

-- one where a number is 0
abbrev pub at_zero : ℕ → ℕ
at_zero n = if n == 0 then 1 else 0

-- one where a number is raised from 0
abbrev pub new_at : ℕ → ℕ → ℕ
new_at from to = if nat_lt from to then at_zero from else 0
