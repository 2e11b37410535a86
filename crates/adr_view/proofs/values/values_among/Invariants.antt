use Rattle.std.proofs.Common.{◌≡◌, ◌++◌, drop}
use Rattle.adr_model.specs.Directory.{values_at}
use Rattle.adr_model.specs.Store.{updates_of}
use Rattle.adr_update.specs.Referents.{referents}
use Rattle.adr_view.proofs.values.values_among.Given as goal

-- with the values in the rows that are left they are all
abbrev pub invariant-loop-held : goal.invariant-loop-held
invariant-loop-held l = l.list.items ++ values_at (updates_of (referents (drop l.held-index l.rows))) l.object ≡ values_at (updates_of (referents l.rows)) l.object
