-- The refusals of an `add` in three parts, which are looked at one after the other.
use Rattle.std.specs.Prelude.{ℕ, ◌+◌, ◌||◌, List, [], ◌∷◌, Option, length}
use Rattle.std.specs.Option.{option_map}
use Rattle.adr_values.specs.Assignments.{Given}
use Rattle.adr_values.specs.Numbered.{numbered}
use Rattle.adr_values.specs.Table.{Table as Schema}
use Rattle.adr_values.specs.Rules.{add_refusal as schema_add_refusal, name_refusal as schema_name_refusal}
use Rattle.adr_call.specs.declared.refusal.Table.TheVariants.{Objects}
use Rattle.adr_call.specs.declared.refusal.WriteRefusal.{WriteRefusal}
use Rattle.adr_call.specs.declared.refusal.WriteRefusal.TheVariants.{Schema as BreaksSchema, Quarantined, GuidThere, NameTaken}
use Rattle.adr_model.specs.Live.{objects_of}
use Rattle.adr_model.specs.Place.{Node, is_fixed}
use Rattle.adr_values.specs.First.{first_of}
use Rattle.adr_model.specs.Serve.{is_quarantined}
use Rattle.adr_model.specs.Shown.{name_holder}
use Rattle.adr_model.specs.Store.{State, updates_of}
use Rattle.adr_model.specs.Update.{Identifier}
use Rattle.adr_model.specs.Write.{cursor_refusal, full_refusal, holds_guid, object_limit, parent_refusal, superior_refusal, usn_refusal}
use Rattle.std.specs.Bool.{then_some}

-- wherever it is to stand
abbrev pub object_refusal : State → Identifier → ℕ → List ℕ → List Given → Option WriteRefusal
object_refusal s guid class text values =
    first_of (
    then_some (is_quarantined s.mode) Quarantined
    ∷ then_some (is_fixed guid || holds_guid (updates_of s.store.rows) guid) (GuidThere guid)
    ∷ option_map BreaksSchema (schema_add_refusal (numbered s.store.schema) class values)
    ∷ option_map BreaksSchema (schema_name_refusal text)
    ∷ []
    )

-- among the live objects, where it is to stand
abbrev pub place_refusal : Schema → List Node → ℕ → Identifier → List ℕ → Option WriteRefusal
place_refusal table nodes class parent text =
    first_of (
    parent_refusal nodes parent
    ∷ superior_refusal table nodes class parent
    ∷ option_map NameTaken (name_holder nodes parent text)
    ∷ []
    )

-- how much there is room for
abbrev pub room_refusal : State → Option WriteRefusal
room_refusal s =
    first_of (
    usn_refusal (s.store.usn + 1)
    ∷ full_refusal Objects object_limit (length (objects_of (updates_of s.store.rows)) + 1)
    ∷ cursor_refusal s
    ∷ []
    )
