use Rattle.std.proofs.Common.{◌≡◌, [], drop, fold}
use Rattle.std.specs.List.{filter_map}
use Rattle.std.specs.BTreeSet.{insert_key}
use Rattle.adr_values.specs.Order.{identifier_order}
use Rattle.adr_model.specs.Directory.{of_attribute}
use Rattle.adr_view.proofs.links.guids_at.Given as goal

-- with the GUIDs of the ends that are left they are all
abbrev pub invariant-loop-own : goal.invariant-loop-own
invariant-loop-own l =
    fold (insert_key identifier_order) l.guids.keys (filter_map (of_attribute l.attr) (drop l.own-index l.ends)) ≡ fold (insert_key identifier_order) [] (filter_map (of_attribute l.attr) l.ends)
