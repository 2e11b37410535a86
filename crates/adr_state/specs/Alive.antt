-- Which live object a GUID has, birth by birth.
use Rattle.std.specs.Prelude.{List, Bool, false, Option, None, not, ◌&&◌, if◌then◌else◌}
use Rattle.std.specs.List.{list_any}
use Rattle.std.specs.Option.{option_and_then, option_map_or}
use Rattle.std.specs.Ordering.{is_lt, ordering_then}
use Rattle.adr_values.specs.Order.{birth_order, link_stamp_order}
use Rattle.adr_values.specs.declared.stamp.LinkStamp.{LinkStamp}
use Rattle.adr_values.specs.declared.stamp.Oid.{Oid}
use Rattle.adr_model.specs.Update.{Identifier, Update, is_death_of, same_identifier}
use Rattle.adr_model.specs.Live.{born}
use Rattle.adr_model.specs.Place.{Node, node_of}

-- whether the first object was born by the lesser stamp, or at equal stamps has the lesser birth
abbrev pub is_elder : LinkStamp → Oid → LinkStamp → Oid → Bool
is_elder stamp o other p = is_lt (ordering_then (link_stamp_order stamp other) (birth_order o.birth p.birth))

-- whether an update gives birth to another object of the GUID that has not died and is the younger one
abbrev pub beats : List Update → LinkStamp → Oid → Update → Bool
beats us stamp o v =
    option_map_or (λ p. same_identifier o.guid p.guid && (is_elder stamp o v.stamp p && not (list_any (is_death_of p) us))) (born v.key) false

-- whether an object that was born by this stamp is live
abbrev pub is_live : List Update → LinkStamp → Oid → Bool
is_live us stamp o = not (list_any (is_death_of o) us) && not (list_any (beats us stamp o) us)

-- the live object of the GUID to which an update gives birth
abbrev pub node_by : List Update → Identifier → Update → Option Node
node_by us guid u =
    option_and_then (λ o. if same_identifier o.guid guid && is_live us u.stamp o then node_of us u.key u.said else None) (born u.key)
