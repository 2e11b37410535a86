use Rattle.std.proofs.Common.{◌≡◌, drop, fold}
use Rattle.std.specs.List.{filter_map}
use Rattle.std.specs.BTreeSet.{insert_key}
use Rattle.adr_values.specs.Order.{link_order}
use Rattle.adr_model.specs.Write.{link_revived}
use Rattle.adr_revival.proofs.links.insert_links.Given as goal

-- with those of the GUIDs that are left they are all
abbrev pub invariant-loop-guid : goal.invariant-loop-guid
invariant-loop-guid l =
    fold (insert_key link_order) l.links.keys (filter_map (link_revived l.state l.object l.class l.attr) (drop l.guid-index l.guid-items))
    ≡ fold (insert_key link_order) l.initial.links.keys (filter_map (link_revived l.state l.object l.class l.attr) l.guid-items)
