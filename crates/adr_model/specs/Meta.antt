-- What the rows of a GUID tell of themselves: how each object is held, and which write made each row (after MS-ADTS, msDS-ReplAttributeMetaData).
use Rattle.std.specs.Prelude.{ℕ, List, [], ◌∷◌, ◌++◌, ◌==◌, Option, Some, None, filter, flat_map, if◌then◌else◌, codes}
use Rattle.std.specs.Option.{option_map_or}
use Rattle.uuid.specs.Text.{hyphenated_text, lower}
use Rattle.adr_values.specs.declared.stamp.Oid.{Oid}
use Rattle.adr_values.specs.declared.stamp.LinkStamp.{LinkStamp}
use Rattle.adr_values.specs.declared.content.Content.TheVariants.{Class, Name, Dead as Death, Values}
use Rattle.adr_call.specs.declared.meta.Life.{Life}
use Rattle.adr_call.specs.declared.meta.Life.TheVariants.{Live, Hidden, Dead}
use Rattle.adr_call.specs.declared.meta.MetaLine.{MetaLine}
use Rattle.adr_call.specs.declared.meta.MetaLine.TheVariants as lines
use Rattle.adr_model.specs.Update.{Identifier, Key, RowOf, LinkOf, Said, Holds, IsPresent, class_attr, name_attr, same_object}
use Rattle.adr_model.specs.Place.{Node, node_at}
use Rattle.adr_model.specs.Shown.{shown_name}
use Rattle.adr_model.specs.Store.{Held, updates_of, row_held, holds_dead}
use Rattle.adr_model.specs.Write.{is_of_guid, nodes_held}

-- the name of a tombstone (the form is MS-ADTS's)
abbrev pub deleted_name : List ℕ → Identifier → List ℕ
deleted_name text guid = text ++ 10 ∷ codes "DEL:" ++ hyphenated_text lower guid

-- the text that a name row says
abbrev pub text_said : Said → List ℕ
text_said (Holds (Name text parent)) = text
text_said (Holds (Class class)) = []
text_said (Holds Death) = []
text_said (Holds (Values vs)) = []
text_said (IsPresent present) = []

-- the text of an object's name, as it was written
abbrev pub text_written : List Held → Oid → List ℕ
text_written rows o = option_map_or (λ h. text_said h.update.said) (row_held rows (RowOf o name_attr)) []

-- how an object that isn't dead is held, where this one is the live object of its GUID, and by which name
abbrev pub life_beside : List Node → Option Node → Oid → List ℕ → Life × List ℕ
life_beside all None o text = (Hidden, text)
life_beside all (Some n) o text = if same_object n.object o then (Live, shown_name all n) else (Hidden, text)

-- how an object is held, and its name: the one that it shows; else its text, which of a dead one is that of a tombstone
abbrev pub life_of : List Held → Oid → Life × List ℕ
life_of rows o =
    let all = nodes_held (updates_of rows) in
    if holds_dead rows o then (Dead, deleted_name (text_written rows o) o.guid)
    else life_beside all (node_at all o.guid) o (text_written rows o)

abbrev pub object_line : Oid → Life × List ℕ → MetaLine
object_line o life = lines.Object o.birth life.0 life.1

-- the line of a row; before that of the class row, which is an object's first, the object's line
abbrev pub row_lines : List Held → Key → LinkStamp → ℕ → List MetaLine
row_lines rows (RowOf o attr) stamp local =
    (if attr == class_attr then object_line o (life_of rows o) ∷ [] else []) ++ lines.Row attr stamp.stamp local ∷ []
row_lines rows (LinkOf l) stamp local = []

abbrev pub told : List Held → Held → List MetaLine
told rows h = row_lines rows h.update.key h.update.stamp h.local

-- what is told of the objects of a GUID, live or not, each with its rows
abbrev pub meta : List Held → Identifier → List MetaLine
meta rows guid = flat_map (told rows) (filter (λ h. is_of_guid guid h.update.key) rows)
