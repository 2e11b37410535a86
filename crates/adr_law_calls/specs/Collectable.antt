-- Dead objects that may be collected, each with its death.
use Rattle.std.specs.Prelude.{◌≡◌, List}
use Rattle.adr_values.specs.declared.stamp.Oid.{Oid}
use Rattle.adr_model.specs.Member.{Member}
use Rattle.adr_model.specs.Update.{Update}
use Rattle.adr_model.specs.Reflects.{Numbers, Covers, CoversBirth, IsDeathOf}
use Rattle.adr_model.specs.Store.{Held}

-- a death that is held, and with the birth of its object covered
pub record IsCollectable (rows : List Held) (vector : Numbers) (dead : Oid × Update) : Type 0 where
  pub held : Held
  pub stands : Member held rows
  pub is_held : held.update ≡ dead.1
  pub dies : IsDeathOf dead.0 dead.1
  pub birth : CoversBirth vector dead.0
  pub death : Covers vector dead.1
