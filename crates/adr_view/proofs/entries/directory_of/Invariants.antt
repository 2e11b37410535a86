use Rattle.std.proofs.Common.{◌≡◌, ◌++◌, drop, map}
use Rattle.adr_model.specs.Directory.{entry_of}
use Rattle.adr_model.specs.Live.{live_rows}
use Rattle.adr_model.specs.Store.{updates_of}
use Rattle.adr_model.specs.Write.{nodes_held}
use Rattle.adr_update.specs.Referents.{referents}
use Rattle.adr_view.proofs.entries.directory_of.Given as goal

-- with the entries of the objects that are left they are all
abbrev pub invariant-loop-node : goal.invariant-loop-node
invariant-loop-node l =
    l.entries.items ++ map (entry_of (live_rows (updates_of l.rows)) (nodes_held (updates_of l.rows))) (referents (drop l.node-index l.nodes))
    ≡ map (entry_of (live_rows (updates_of l.rows)) (nodes_held (updates_of l.rows))) (referents l.nodes)
