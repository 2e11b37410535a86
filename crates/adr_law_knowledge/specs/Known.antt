-- What holds of a store that took its updates by replication, and the updates that it can be compared with.
use Rattle.std.specs.Prelude.{◌↔◌, List}
use Rattle.adr_model.specs.Member.{Member, Each}
use Rattle.adr_model.specs.Update.{Update}
use Rattle.adr_model.specs.Reflects.{Numbers, Covers, AtMost, Knowledge, Reflects}

-- of what was issued the two cover the same
abbrev pub CoverAlike : List Update → Numbers → Numbers → Type 0
CoverAlike issued V W = Each (λ u. Covers V u ↔ Covers W u) issued

-- what is held was issued, what is covered was taken, and nothing was collected beyond the vector
pub record IsSoundKnowledge (issued : List Update) (k : Knowledge) : Type 0 where
  pub known : Each (λ u. Member u issued) k.rows
  pub covered : Each (λ u. Covers k.vector u → Reflects issued k u) issued
  pub purged : AtMost k.purged k.vector

-- updates between what is held and what was issued: those that are covered are among them, and the store has taken each
pub record IsInView (issued : List Update) (k : Knowledge) (view : List Update) : Type 0 where
  pub held : Each (λ u. Member u view) k.rows
  pub within : Each (λ u. Member u issued) view
  pub covered : Each (λ u. Covers k.vector u → Member u view) issued
  pub taken : Each (λ u. Reflects issued k u) view
