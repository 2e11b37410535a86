use Rattle.std.proofs.Common.{◌≡◌, drop, fold, flat_map}
use Rattle.std.specs.BTreeSet.{insert_key}
use Rattle.adr_values.specs.Order.{link_order}
use Rattle.adr_revival.specs.Found.{link_lists, links_of}
use Rattle.adr_revival.proofs.links.links_of.Given as goal

-- with those of the attributes that are left they are all
abbrev pub invariant-loop-attr : goal.invariant-loop-attr
invariant-loop-attr l =
    fold (insert_key link_order) l.links.keys (flat_map (link_lists l.state l.object l.shown.class) (drop l.attr-index l.attr-items))
    ≡ links_of l.state l.object l.shown.class l.attr-items
