-- What rows of one unit have to be so that all rows stay as the schema wants them behind them, whatever call puts them.
use Rattle.std.specs.Prelude.{◌≡◌, ◌⊎◌, ℕ, List, true}
use Rattle.adr_values.specs.declared.stamp.Unit.{Unit as Named}
use Rattle.adr_values.specs.declared.stamp.Unit.TheVariants.{Object, Link}
use Rattle.adr_values.specs.Table.{Table, kind_at, is_forward}
use Rattle.adr_model.specs.Member.{Each}
use Rattle.adr_model.specs.Update.{Update, LinkOf, ends}
use Rattle.adr_model.specs.Reflects.{Numbers, CoversBirth, HoldsObject, IsTombstoned}
use Rattle.adr_law_calls.specs.Forms.{MayChange, MayCome}

-- rows of one unit keep to the schema, and a link row has neither a dead end nor a lost one
abbrev pub KeepForms : Table → Numbers → List Update → Named → List Update → Type 0
KeepForms table vector before (Object o) us = (class : ℕ) × (MayChange table before o class us ⊎ MayCome table before o class us)
KeepForms table vector before (Link l) us =
    (is_forward (kind_at table l.attr) ≡ true) × Each (λ o. (IsTombstoned before o → ⊥) × (HoldsObject before o ⊎ (CoversBirth vector o → ⊥))) (ends (LinkOf l))
