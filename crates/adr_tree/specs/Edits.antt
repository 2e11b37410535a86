-- What edits make of the live objects.
use Rattle.std.specs.Prelude.{◌≡◌, List, [], ◌∷◌, Option, Some, None, IfSome, if◌then◌else◌}
use Rattle.adr_model.specs.Member.{Each}
use Rattle.adr_model.specs.Update.{Identifier, same_identifier}
use Rattle.adr_model.specs.Place.{Node}
use Rattle.adr_tree.specs.declared.edit.Edit.{Edit}

-- the live object of a GUID after edits, one after the other
abbrev pub edited : List Edit → Identifier → Option Node → Option Node
edited [] g node = node
edited (e ∷ es) g node = edited es g (if same_identifier e.guid g then e.node else node)

-- each node is that of its edit's GUID
abbrev pub AreOwn : List Edit → Type 0
AreOwn edits = Each (λ e. IfSome e.node (λ n. n.object.guid ≡ e.guid)) edits

-- the live object of a GUID after another one is put in, if there is one
abbrev pub put_at : Option Node → Identifier → Option Node → Option Node
put_at None g node = node
put_at (Some n) g node = if same_identifier n.object.guid g then Some n else node
