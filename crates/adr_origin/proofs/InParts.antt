-- The refusals of an `add` part by part.
use Rattle.std.proofs.Common.{◌≡◌, ℕ, ◌+◌, ◌||◌, List, [], ◌∷◌, Option, Some, None, Err, length, sym, ◌∙◌}
use Rattle.std.specs.Option.{option_map}
use Rattle.adr_values.specs.Assignments.{Given}
use Rattle.adr_values.specs.Numbered.{numbered}
use Rattle.adr_values.specs.Rules.{add_refusal as schema_add_refusal, name_refusal as schema_name_refusal}
use Rattle.adr_values.specs.declared.failure.Failure.{Failure}
use Rattle.adr_values.specs.declared.failure.Failure.TheVariants.{Refused, NoMemory}
use Rattle.adr_call.specs.declared.refusal.WriteRefusal.{WriteRefusal}
use Rattle.adr_call.specs.declared.refusal.Table.TheVariants.{Objects}
use Rattle.adr_call.specs.declared.refusal.WriteRefusal.TheVariants.{Schema as BreaksSchema, Quarantined, GuidThere, NameTaken}
use Rattle.adr_model.specs.Live.{objects_of}
use Rattle.adr_model.specs.Place.{is_fixed}
use Rattle.adr_values.specs.First.{first_of}
use Rattle.adr_model.specs.Serve.{is_quarantined}
use Rattle.adr_model.specs.Shown.{name_holder}
use Rattle.adr_model.specs.Store.{State, updates_of}
use Rattle.adr_model.specs.Update.{Identifier}
use Rattle.adr_model.specs.Write.{add_refusal, cursor_refusal, full_refusal, holds_guid, nodes_held, object_limit, parent_refusal, superior_refusal, usn_refusal}
use Rattle.std.specs.Bool.{then_some}
use Rattle.adr_origin.proofs.FirstOf.{in_three, first_of_three, second_of_three, third_of_three}
use Rattle.adr_origin.specs.Telling.{Tells}
use Rattle.adr_origin.specs.Parts.{object_refusal, place_refusal, room_refusal}

module _ (s : State) (guid : Identifier) (class : ℕ) (parent : Identifier) (text : List ℕ) (values : List Given) where
  abbrev object : Option WriteRefusal
  object = object_refusal s guid class text values

  abbrev place : Option WriteRefusal
  place = place_refusal (numbered s.store.schema) (nodes_held (updates_of s.store.rows)) class parent text

  abbrev refusal : Option WriteRefusal
  refusal = add_refusal s guid class parent text values

  add_in_parts : refusal ≡ first_of (object ∷ place ∷ room_refusal s ∷ [])
  add_in_parts =
      let nodes = nodes_held (updates_of s.store.rows) in
      in_three
      (then_some (is_quarantined s.mode) Quarantined
      ∷ then_some (is_fixed guid || holds_guid (updates_of s.store.rows) guid) (GuidThere guid)
      ∷ option_map BreaksSchema (schema_add_refusal (numbered s.store.schema) class values)
      ∷ option_map BreaksSchema (schema_name_refusal text)
      ∷ [])
      (parent_refusal nodes parent
      ∷ superior_refusal (numbered s.store.schema) nodes class parent
      ∷ option_map NameTaken (name_holder nodes parent text)
      ∷ [])
      (usn_refusal (s.store.usn + 1) ∷ full_refusal Objects object_limit (length (objects_of (updates_of s.store.rows)) + 1) ∷ cursor_refusal s ∷ [])

  -- what each part tells, where those before it pass
  pub object_told : (x : WriteRefusal) → Some x ≡ object → refusal ≡ Some x
  object_told x is = add_in_parts ∙ sym (first_of_three x _ _ _ is)

  module _ (passes : None ≡ object) where
    pub place_told : (x : Failure WriteRefusal) → Tells {T = Unit {0}} (Err x) place → Tells {T = Unit {0}} (Err x) refusal
    place_told (Refused x) is = add_in_parts ∙ sym (second_of_three x _ _ (room_refusal s) passes (sym is))
    place_told NoMemory told = tt

    pub room_told : (room : Option WriteRefusal) → place ≡ None → room ≡ room_refusal s → refusal ≡ room
    room_told room free told = add_in_parts ∙ sym (told ∙ third_of_three _ _ _ passes (sym free))
