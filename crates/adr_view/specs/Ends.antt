-- What the links from an object and those to it show, where their other ends are live.
use Rattle.std.specs.Prelude.{ℕ, List, [], Bool, true, false}
use Rattle.std.specs.Option.{option_map_or}
use Rattle.adr_values.specs.declared.stamp.Oid.{Oid}
use Rattle.adr_model.specs.Update.{Identifier, Key, RowOf, LinkOf, Said, Holds, IsPresent, same_object}
use Rattle.adr_model.specs.Place.{Node, node_at}
use Rattle.adr_model.specs.Directory.{back_link, one_where}

-- whether the object is the live one of its GUID
abbrev pub is_live : List Node → Oid → Bool
is_live all o = option_map_or (λ n. same_object n.object o) (node_at all o.guid) false

-- what a link shows at the object that it is from
abbrev pub forward_end : List Node → Key → Said → List (ℕ × Identifier)
forward_end all (LinkOf l) (IsPresent true) = one_where (is_live all l.to) (l.attr, l.to.guid) []
forward_end all (LinkOf l) (IsPresent false) = []
forward_end all (LinkOf l) (Holds content) = []
forward_end all (RowOf o attr) said = []

-- what it shows at the object that it is to
abbrev pub back_end : List Node → Key → Said → List (ℕ × Identifier)
back_end all (LinkOf l) (IsPresent true) = one_where (is_live all l.from) (back_link l.attr, l.from.guid) []
back_end all (LinkOf l) (IsPresent false) = []
back_end all (LinkOf l) (Holds content) = []
back_end all (RowOf o attr) said = []
