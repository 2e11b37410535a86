-- The refusals of a `modify` and of a `rename` in parts, which are looked at one after the other.
use Rattle.std.specs.Prelude.{ℕ, ◌+◌, List, [], ◌∷◌, ◌++◌, Option}
use Rattle.std.specs.Option.{option_map}
use Rattle.adr_values.specs.declared.stamp.Oid.{Oid}
use Rattle.adr_values.specs.Assignments.{Given}
use Rattle.adr_values.specs.Numbered.{numbered}
use Rattle.adr_values.specs.Table.{Table as Schema}
use Rattle.adr_values.specs.Rules.{modify_refusal as schema_modify_refusal, name_refusal as schema_name_refusal}
use Rattle.adr_call.specs.declared.refusal.WriteRefusal.{WriteRefusal}
use Rattle.adr_call.specs.declared.refusal.WriteRefusal.TheVariants.{Schema as BreaksSchema}
use Rattle.adr_model.specs.Place.{Node}
use Rattle.adr_values.specs.First.{first_of}
use Rattle.adr_model.specs.Store.{State, updates_of}
use Rattle.adr_model.specs.Update.{Identifier, RowOf}
use Rattle.adr_model.specs.Write.{class_of, live_refusals, loop_refusal, name_refusal, nodes_held, parent_refusal, superior_refusal, usn_refusal, version_refusal}
use Rattle.adr_origin.specs.NextRows.{versions_refusal}

-- of a live object that is given values
abbrev pub given_refusal : State → Identifier → List Given → Option WriteRefusal
given_refusal s guid values =
    let nodes = nodes_held (updates_of s.store.rows) in
    first_of (live_refusals s guid ++ option_map BreaksSchema (schema_modify_refusal (numbered s.store.schema) (class_of nodes guid) values) ∷ [])

-- of the rows of its attributes
abbrev pub rows_refusal : State → Oid → List Given → Option WriteRefusal
rows_refusal s o values = first_of (versions_refusal s.store.rows o values ∷ usn_refusal (s.store.usn + 1) ∷ [])

-- of a live object that is given a name
abbrev pub named_refusal : State → Identifier → List ℕ → Option WriteRefusal
named_refusal s guid text = first_of (live_refusals s guid ++ option_map BreaksSchema (schema_name_refusal text) ∷ [])

-- among the live objects, where it is to stand
abbrev pub moved_refusal : Schema → List Node → Identifier → Identifier → List ℕ → Option WriteRefusal
moved_refusal table nodes guid parent text =
    first_of (
    parent_refusal nodes parent
    ∷ loop_refusal nodes guid parent
    ∷ superior_refusal table nodes (class_of nodes guid) parent
    ∷ name_refusal nodes guid parent text
    ∷ []
    )

-- of one of its rows
abbrev pub row_refusal : State → Oid → ℕ → Option WriteRefusal
row_refusal s o attr = first_of (version_refusal s.store.rows (RowOf o attr) attr ∷ usn_refusal (s.store.usn + 1) ∷ [])
