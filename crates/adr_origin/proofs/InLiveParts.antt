-- The refusals of a `modify` and of a `rename` part by part.
use Rattle.std.proofs.Common.{◌≡◌, ℕ, ◌+◌, List, [], ◌∷◌, ◌++◌, Option, Some, None, Err, sym, ap, ◌∙◌}
use Rattle.std.specs.Option.{option_map}
use Rattle.adr_values.specs.declared.stamp.Oid.{Oid}
use Rattle.adr_values.specs.Assignments.{Given}
use Rattle.adr_values.specs.Numbered.{numbered}
use Rattle.adr_values.specs.Rules.{modify_refusal as schema_modify_refusal, name_refusal as schema_name_refusal}
use Rattle.adr_values.specs.declared.failure.Failure.{Failure}
use Rattle.adr_values.specs.declared.failure.Failure.TheVariants.{Refused, NoMemory}
use Rattle.adr_call.specs.declared.refusal.WriteRefusal.{WriteRefusal}
use Rattle.adr_call.specs.declared.refusal.WriteRefusal.TheVariants.{Schema as BreaksSchema}
use Rattle.adr_model.specs.Place.{Node}
use Rattle.adr_values.specs.First.{first_of}
use Rattle.adr_model.specs.Store.{State, updates_of}
use Rattle.adr_model.specs.Update.{Identifier, RowOf, name_attr}
use Rattle.adr_model.specs.Write.{class_of, live_refusals, loop_refusal, modify_refusal, name_refusal, nodes_held, object_of, parent_refusal, rename_refusal, superior_refusal, usn_refusal, version_refusal}
use Rattle.adr_origin.proofs.FirstOf.{alone, in_two}
use Rattle.adr_origin.specs.Telling.{Tells}
use Rattle.adr_origin.specs.NextRows.{versions_refusal}
use Rattle.adr_origin.specs.LiveParts.{given_refusal, moved_refusal, named_refusal, row_refusal, rows_refusal}

module _ {A : Type 0} where
  -- what the first part tells, and what the second one does
  pub first_told : (x : A) (o p : Option A) → Some x ≡ o → Some x ≡ first_of (o ∷ p ∷ [])
  first_told x o p is = ap (λ q. first_of (q ∷ p ∷ [])) is

  pub second_told : (o p : Option A) → None ≡ o → p ≡ first_of (o ∷ p ∷ [])
  second_told o p none = alone p ∙ ap (λ q. first_of (q ∷ p ∷ [])) none

module _ (s : State) (guid : Identifier) where
  abbrev nodes : List Node
  nodes = nodes_held (updates_of s.store.rows)

  pub modify_in_parts : (values : List Given) → modify_refusal s guid values ≡ first_of (given_refusal s guid values ∷ rows_refusal s (object_of nodes guid) values ∷ [])
  modify_in_parts values =
      in_two
      (live_refusals s guid ++ option_map BreaksSchema (schema_modify_refusal (numbered s.store.schema) (class_of nodes guid) values) ∷ [])
      (versions_refusal s.store.rows (object_of nodes guid) values ∷ usn_refusal (s.store.usn + 1) ∷ [])

  pub rename_in_parts : (parent : Identifier) (text : List ℕ)
      → rename_refusal s guid parent text ≡ first_of (named_refusal s guid text ∷ first_of (moved_refusal (numbered s.store.schema) nodes guid parent text ∷ row_refusal s (object_of nodes guid) name_attr ∷ []) ∷ [])
  rename_in_parts parent text = in_two (live_refusals s guid ++ schema ∷ []) (places ++ row) ∙ ap (λ o. first_of (named_refusal s guid text ∷ o ∷ [])) (in_two places row)
    where
      schema : Option WriteRefusal
      schema = option_map BreaksSchema (schema_name_refusal text)

      places : List (Option WriteRefusal)
      places =
          parent_refusal nodes parent
          ∷ loop_refusal nodes guid parent
          ∷ superior_refusal (numbered s.store.schema) nodes (class_of nodes guid) parent
          ∷ name_refusal nodes guid parent text
          ∷ []

      row : List (Option WriteRefusal)
      row = version_refusal s.store.rows (RowOf (object_of nodes guid) name_attr) name_attr ∷ usn_refusal (s.store.usn + 1) ∷ []

  module _ (parent : Identifier) (text : List ℕ) where
    abbrev refusal : Option WriteRefusal
    refusal = rename_refusal s guid parent text

    pub named_told : (x : WriteRefusal) → Some x ≡ named_refusal s guid text → refusal ≡ Some x
    named_told x is = rename_in_parts parent text ∙ sym (first_told x _ _ is)

    module _ (named : None ≡ named_refusal s guid text) where
      abbrev moved : Option WriteRefusal
      moved = moved_refusal (numbered s.store.schema) nodes guid parent text

      pub moved_told : (x : Failure WriteRefusal) → Tells {T = Unit {0}} (Err x) moved → Tells {T = Unit {0}} (Err x) refusal
      moved_told (Refused x) is = rename_in_parts parent text ∙ sym (first_told x _ (row_refusal s (object_of nodes guid) name_attr) (sym is) ∙ second_told _ _ named)
      moved_told NoMemory told = tt

      pub row_told : (o : Oid) (row : Option WriteRefusal) → o ≡ object_of nodes guid → moved ≡ None → row ≡ row_refusal s o name_attr → refusal ≡ row
      row_told o row is free told =
          sym
          (told
          ∙ (ap (λ (p : Oid). row_refusal s p name_attr) is
          ∙ (second_told _ _ (sym free) ∙ (second_told _ _ named ∙ sym (rename_in_parts parent text)))))
