use Rattle.std.proofs.Common.{◌≡◌, ◌++◌, drop}
use Rattle.std.specs.List.{flat_map}
use Rattle.adr_model.specs.Store.{Held, updates_of}
use Rattle.adr_model.specs.Write.{nodes_held}
use Rattle.adr_update.specs.Referents.{referents}
use Rattle.adr_view.specs.Ends.{forward_end}
use Rattle.adr_view.proofs.links.push_all_forward.Given as goal

-- with the ends in the rows that are left they are all
abbrev pub invariant-loop-held : goal.invariant-loop-held
invariant-loop-held l =
    l.ends.items ++ flat_map (λ (h : Held). forward_end (nodes_held (updates_of l.rows)) h.update.key h.update.said) (referents (drop l.held-index l.links))
    ≡ l.initial.ends.items ++ flat_map (λ (h : Held). forward_end (nodes_held (updates_of l.rows)) h.update.key h.update.said) (referents l.links)
