-- What became of a row and of its unit after others were written.
use Rattle.std.specs.Prelude.{◌⊎◌, List}
use Rattle.adr_model.specs.Member.{Member}
use Rattle.adr_model.specs.Store.{Held}
use Rattle.adr_model.specs.LocalLog.{SameUnit}

-- one of the writes is of the row's unit, and stands
abbrev pub IsWrittenIn : List Held → Held → List Held → Type 0
IsWrittenIn writes x rows = (w : Held) × Member w writes × SameUnit w x × Member w rows

-- no row of its unit stands
abbrev pub IsUnitGone : Held → List Held → Type 0
IsUnitGone x rows = (y : Held) → Member y rows → SameUnit y x → ⊥

abbrev pub IsAccountedFor : List Held → Held → List Held → Type 0
IsAccountedFor writes x rows = Member x rows ⊎ (IsWrittenIn writes x rows ⊎ IsUnitGone x rows)
