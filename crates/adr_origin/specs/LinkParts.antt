-- The refusals of a link in three parts, which are looked at one after the other.
use Rattle.std.specs.Prelude.{ℕ, ◌+◌, List, [], ◌∷◌, Bool, not, Option, if◌then◌else◌}
use Rattle.std.specs.Option.{option_map}
use Rattle.adr_values.specs.declared.stamp.LinkKey.{LinkKey}
use Rattle.adr_values.specs.Numbered.{numbered}
use Rattle.adr_values.specs.Rules.{link_refusal as schema_link_refusal}
use Rattle.adr_call.specs.declared.refusal.WriteRefusal.{WriteRefusal}
use Rattle.adr_call.specs.declared.refusal.WriteRefusal.TheVariants.{Schema as BreaksSchema, Quarantined, LinkThere, LinkNotThere}
use Rattle.adr_model.specs.Place.{Node}
use Rattle.adr_values.specs.First.{first_of}
use Rattle.adr_model.specs.Serve.{is_quarantined}
use Rattle.adr_model.specs.Store.{Mode, State, updates_of}
use Rattle.adr_model.specs.Update.{Identifier, LinkOf}
use Rattle.adr_model.specs.Write.{class_of, fixed_refusal, is_linked, object_refusal, usn_refusal, version_refusal}
use Rattle.std.specs.Bool.{then_some}

-- whatever is held
abbrev pub start_refusal : Mode → Identifier → Identifier → Option WriteRefusal
start_refusal mode from to = first_of (then_some (is_quarantined mode) Quarantined ∷ fixed_refusal from ∷ fixed_refusal to ∷ [])

-- by the objects at its ends
abbrev pub ends_refusal : State → List Node → Identifier → ℕ → Identifier → Option WriteRefusal
ends_refusal s nodes from attr to =
    first_of (
    object_refusal (updates_of s.store.rows) nodes from
    ∷ option_map BreaksSchema (schema_link_refusal (numbered s.store.schema) (class_of nodes from) attr)
    ∷ object_refusal (updates_of s.store.rows) nodes to
    ∷ []
    )

-- a link that is already as it is to be
abbrev pub already_refusal : Bool → Bool → Option WriteRefusal
already_refusal present linked = if present then then_some linked LinkThere else then_some (not linked) LinkNotThere

-- by its own row
abbrev pub write_refusal : State → LinkKey → Bool → Option WriteRefusal
write_refusal s link present =
    first_of (
    already_refusal present (is_linked s.store.rows link)
    ∷ version_refusal s.store.rows (LinkOf link) link.attr
    ∷ usn_refusal (s.store.usn + 1)
    ∷ []
    )
