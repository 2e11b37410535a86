use Rattle.std.proofs.Common.{◌≡◌, ◌++◌, ℕ}
use Rattle.std.specs.Prelude.{map}
use Rattle.adr_model.specs.Update.{Update}
use Rattle.adr_model.specs.Store.{Held}
use Rattle.adr_update.proofs.item.Written.push_held.Given as goal

abbrev pub under : ℕ → Update → Held
under local u = record { update = u; local = local }

-- the rows so far are added
abbrev pub invariant-loop-update : goal.invariant-loop-update
invariant-loop-update l = l.rows.items ≡ l.fn.rows.items ++ map (under l.local) l.yielded
