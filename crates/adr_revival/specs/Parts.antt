-- The refusals of a revival in parts, which are looked at one after the other.
use Rattle.std.specs.Prelude.{ℕ, ◌+◌, List, [], ◌∷◌, Option, is_none, is_some, length, nat_lt}
use Rattle.std.specs.Bool.{then_some}
use Rattle.std.specs.List.{list_any}
use Rattle.std.specs.Option.{option_map}
use Rattle.adr_values.specs.First.{first_of}
use Rattle.adr_values.specs.Numbered.{numbered}
use Rattle.adr_values.specs.Rules.{name_refusal as schema_name_refusal}
use Rattle.adr_call.specs.declared.refusal.Table.TheVariants.{Objects, Links}
use Rattle.adr_call.specs.declared.refusal.WriteRefusal.{WriteRefusal}
use Rattle.adr_call.specs.declared.refusal.WriteRefusal.TheVariants.{Schema as BreaksSchema, Quarantined, NameTaken, WouldLoop, SchemaMismatch, NotInImage, StillLive, BirthThere}
use Rattle.adr_model.specs.Live.{objects_of}
use Rattle.adr_model.specs.Place.{Node, node_at, upward}
use Rattle.adr_model.specs.Serve.{is_quarantined}
use Rattle.adr_model.specs.Shown.{name_holder}
use Rattle.adr_model.specs.Store.{Store, State, updates_of}
use Rattle.adr_model.specs.Update.{Identifier, same_identifier}
use Rattle.adr_model.specs.Write.{cursor_refusal, fixed_refusal, full_refusal, link_limit, links_in, names_object, new_object, nodes_held, object_limit, parent_refusal, shown_in, superior_refusal, usn_refusal}

-- whatever the image shows
abbrev pub start_refusal : State → ℕ → Identifier → Option WriteRefusal
start_refusal s schema guid =
    first_of (then_some (is_quarantined s.mode) Quarantined ∷ fixed_refusal guid ∷ then_some (nat_lt s.store.schema schema) (SchemaMismatch s.store.schema schema) ∷ [])

-- by what the image shows
abbrev pub found_refusal : State → Store → Identifier → Option WriteRefusal
found_refusal s image guid = first_of (start_refusal s image.schema guid ∷ then_some (is_none (shown_in image guid)) (NotInImage guid) ∷ [])

-- by what is held of the GUID
abbrev pub held_refusal : State → Identifier → Option WriteRefusal
held_refusal s guid =
    first_of (
    then_some (is_some (node_at (nodes_held (updates_of s.store.rows)) guid)) (StillLive guid)
    ∷ then_some (names_object s.store.rows (new_object s guid)) (BirthThere guid)
    ∷ []
    )

-- an object that is under a former child would come to stand under itself
abbrev pub loop_refusal : List Node → Identifier → Identifier → Option WriteRefusal
loop_refusal nodes guid parent = then_some (list_any (λ n. same_identifier n.parent guid) (upward nodes (length nodes) parent)) WouldLoop

-- by where it is to stand
abbrev pub place_refusal : State → ℕ → Identifier → Identifier → List ℕ → Option WriteRefusal
place_refusal s class guid parent text =
    let nodes = nodes_held (updates_of s.store.rows) in
    first_of (
    option_map BreaksSchema (schema_name_refusal text)
    ∷ parent_refusal nodes parent
    ∷ loop_refusal nodes guid parent
    ∷ superior_refusal (numbered s.store.schema) nodes class parent
    ∷ option_map NameTaken (name_holder nodes parent text)
    ∷ []
    )

-- how much there is room for, with so many links
abbrev pub room_refusal : State → ℕ → Option WriteRefusal
room_refusal s count =
    first_of (
    usn_refusal (s.store.usn + 1 + count)
    ∷ full_refusal Objects object_limit (length (objects_of (updates_of s.store.rows)) + 1)
    ∷ full_refusal Links link_limit (links_in s.store.rows + count)
    ∷ cursor_refusal s
    ∷ []
    )
