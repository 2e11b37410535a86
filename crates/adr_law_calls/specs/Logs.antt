-- Units with no row behind a USN, and marks of a later moment.
use Rattle.std.specs.Prelude.{◌≤◌, ℕ, List}
use Rattle.adr_values.specs.declared.mark.Mark.{Mark}
use Rattle.adr_model.specs.Member.{Each}
use Rattle.adr_model.specs.Store.{Held}
use Rattle.adr_model.specs.LocalLog.{SameUnit}

-- no row of the unit is behind the USN
abbrev pub IsUnitWithin : List Held → Held → ℕ → Type 0
IsUnitWithin rows x usn = Each (λ y. SameUnit y x → y.local ≤ usn) rows

-- the same mark, of a later moment
abbrev pub at_moment : Mark → ℕ → Mark
at_moment m seen = record { obj = m.obj; prop = m.prop; seen = seen }
