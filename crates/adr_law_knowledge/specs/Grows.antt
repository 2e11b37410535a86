-- Steps of a store that lose nothing of what it has taken.
use Rattle.std.specs.Prelude.{◌⊎◌, List}
use Rattle.adr_values.specs.declared.stamp.Oid.{Oid}
use Rattle.adr_model.specs.Member.{Member, Each}
use Rattle.adr_model.specs.Update.{Update, ends}
use Rattle.adr_model.specs.Reflects.{AtMost, IsDeath, Knowledge, HoldsAtLeast, IsTombstoned, IsPurged, Reflects}

-- what stands for a row that was taken away: an end is held dead, where the row is no death itself, or was collected
abbrev pub IsOutlived : List Update → Knowledge → Update → Type 0
IsOutlived issued k r = (o : Oid) × Member o (ends r.key) × ((IsTombstoned k.rows o × (IsDeath r → ⊥)) ⊎ IsPurged issued k o)

-- each row is held or superseded or outlived, a dead object stays dead or is collected, and the vector never falls
pub record Grows (issued : List Update) (before after : Knowledge) : Type 0 where
  pub row : Each (λ r. HoldsAtLeast after.rows r ⊎ IsOutlived issued after r) before.rows
  pub tombstone : (o : Oid) → IsTombstoned before.rows o → IsTombstoned after.rows o ⊎ IsPurged issued after o
  pub purge : (o : Oid) → IsPurged issued before o → IsPurged issued after o
  pub vector : AtMost before.vector after.vector

-- what was taken stays taken
abbrev pub Keeps : List Update → Knowledge → Knowledge → Type 0
Keeps issued before after = (u : Update) → Reflects issued before u → Reflects issued after u
