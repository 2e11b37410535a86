-- Rows of an item that are taken, and deaths as calls write them.
use Rattle.std.specs.Prelude.{◌≡◌, ℕ, List, true}
use Rattle.adr_values.specs.declared.stamp.Unit.{Unit as Named}
use Rattle.adr_values.specs.Numbered.{numbered}
use Rattle.adr_values.specs.Vector.{Cursors, at}
use Rattle.adr_model.specs.Member.{Each}
use Rattle.adr_model.specs.Update.{Update}
use Rattle.adr_model.specs.Reflects.{IsDeath}
use Rattle.adr_model.specs.Store.{Held, updates_of}
use Rattle.adr_model.specs.Take.{is_reserved_row}
use Rattle.adr_law_calls.specs.Puts.{MayPut}
use Rattle.adr_law_calls.specs.KeepForms.{KeepForms}
use Rattle.adr_law_calls.specs.Follow.{MayFollow}

-- rows may be put, keep the forms, and may follow
pub record MayBeTaken (schema : ℕ) (vector : Cursors) (rows : List Held) (unit : Named) (us : List Update)
    : Type 0 where
  pub put : MayPut (updates_of rows) (at vector) unit us
  pub keeps : KeepForms (numbered schema) (at vector) (updates_of rows) unit us
  pub follows : MayFollow (numbered schema) vector rows (record { unit = unit; rows = us })

-- beside a death there are only class, name and deleted rows. Calls write so; a record that is read isn't asked for
-- it
abbrev pub AreBare : List Update → Type 0
AreBare us = Each (λ d. IsDeath d → Each (λ u. is_reserved_row u.key ≡ true) us) us
