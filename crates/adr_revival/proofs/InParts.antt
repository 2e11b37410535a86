-- The refusals of a revival part by part.
use Rattle.std.proofs.Common.{◌≡◌, ℕ, ◌+◌, List, [], ◌∷◌, ◌++◌, true, false, Option, Some, None, Err, length, refl, sym, ap, ◌∙◌, subst}
use Rattle.std.specs.Prelude.{is_none, is_some, nat_lt, unwrap_or}
use Rattle.std.specs.Bool.{then_some}
use Rattle.std.specs.Option.{option_map}
use Rattle.adr_values.specs.First.{first_of}
use Rattle.adr_values.specs.Numbered.{numbered}
use Rattle.adr_values.specs.Rules.{name_refusal as schema_name_refusal}
use Rattle.adr_values.specs.declared.failure.Failure.{Failure}
use Rattle.adr_values.specs.declared.failure.Failure.TheVariants.{Refused, NoMemory}
use Rattle.adr_call.specs.declared.directory.Entry.{Entry}
use Rattle.adr_call.specs.declared.refusal.Table.TheVariants.{Objects, Links}
use Rattle.adr_call.specs.declared.refusal.WriteRefusal.{WriteRefusal}
use Rattle.adr_call.specs.declared.refusal.WriteRefusal.TheVariants.{Schema as BreaksSchema, Quarantined, NameTaken, SchemaMismatch, NotInImage, StillLive, BirthThere}
use Rattle.adr_model.specs.Live.{objects_of}
use Rattle.adr_model.specs.Place.{Node, node_at}
use Rattle.adr_model.specs.Serve.{is_quarantined}
use Rattle.adr_model.specs.Shown.{name_holder}
use Rattle.adr_model.specs.Store.{Store, State, updates_of}
use Rattle.adr_model.specs.Update.{Identifier}
use Rattle.adr_model.specs.Write.{cursor_refusal, entry_in, fixed_refusal, full_refusal, link_limit, links_in, links_revived, names_object, new_object, nodes_held, object_limit, parent_refusal, revive_refusal, shown_in, superior_refusal, usn_refusal}
use Rattle.adr_origin.proofs.FirstOf.{alone, in_front, in_three}
use Rattle.adr_origin.specs.Telling.{Tells}
use Rattle.adr_revival.specs.Parts.{found_refusal, held_refusal, loop_refusal, place_refusal, room_refusal}

in_four : {A : Type 0} (xs ys zs ws : List (Option A)) → first_of (xs ++ (ys ++ (zs ++ ws))) ≡ first_of (first_of xs ∷ first_of ys ∷ first_of zs ∷ first_of ws ∷ [])
in_four [] ys zs ws = in_three ys zs ws
in_four (None ∷ xs) ys zs ws = in_four xs ys zs ws
in_four (Some x ∷ xs) ys zs ws = refl

-- what the first of some tells is told, whatever is behind it
first_tells : (o : Option WriteRefusal) (os : List (Option WriteRefusal)) (x : Failure WriteRefusal) → Tells {T = Unit {0}} (Err x) o → Tells {T = Unit {0}} (Err x) (first_of (o ∷ os))
first_tells o os (Refused x) is = ap (λ p. first_of (p ∷ os)) is
first_tells o os NoMemory told = tt

module _ (s : State) (image : Store) (guid parent : Identifier) (text : List ℕ) where
  abbrev nodes : List Node
  nodes = nodes_held (updates_of s.store.rows)

  abbrev found : Option WriteRefusal
  found = found_refusal s image guid

  abbrev held : Option WriteRefusal
  held = held_refusal s guid

  abbrev place : Option WriteRefusal
  place = place_refusal s (entry_in image guid).class guid parent text

  abbrev room : Option WriteRefusal
  room = room_refusal s (length (links_revived s image guid))

  abbrev refusal : Option WriteRefusal
  refusal = revive_refusal s image guid parent text

  abbrev starts : List (Option WriteRefusal)
  starts = then_some (is_quarantined s.mode) Quarantined ∷ fixed_refusal guid ∷ then_some (nat_lt s.store.schema image.schema) (SchemaMismatch s.store.schema image.schema) ∷ []

  abbrev entry : Option WriteRefusal
  entry = then_some (is_none (shown_in image guid)) (NotInImage guid)

  in_parts : refusal ≡ first_of (found ∷ held ∷ place ∷ room ∷ [])
  in_parts =
      in_four (starts ++ entry ∷ [])
      (then_some (is_some (node_at nodes guid)) (StillLive guid) ∷ then_some (names_object s.store.rows (new_object s guid)) (BirthThere guid) ∷ [])
      (option_map BreaksSchema (schema_name_refusal text)
      ∷ parent_refusal nodes parent
      ∷ loop_refusal nodes guid parent
      ∷ superior_refusal (numbered s.store.schema) nodes (entry_in image guid).class parent
      ∷ option_map NameTaken (name_holder nodes parent text)
      ∷ [])
      (usn_refusal (s.store.usn + 1 + length (links_revived s image guid))
      ∷ full_refusal Objects object_limit (length (objects_of (updates_of s.store.rows)) + 1)
      ∷ full_refusal Links link_limit (links_in s.store.rows + length (links_revived s image guid))
      ∷ cursor_refusal s
      ∷ [])
      ∙ ap (λ o. first_of (o ∷ held ∷ place ∷ room ∷ [])) (in_front starts (entry ∷ []))

  -- what each part tells, where those before it pass
  pub found_told : (x : Failure WriteRefusal) → Tells {T = Unit {0}} (Err x) found → Tells {T = Unit {0}} (Err x) refusal
  found_told x told = subst (Tells {T = Unit {0}} (Err x)) (sym in_parts) (first_tells found (held ∷ place ∷ room ∷ []) x told)

  module _ (is_found : found ≡ None) where
    behind_found : refusal ≡ first_of (held ∷ place ∷ room ∷ [])
    behind_found = in_parts ∙ ap (λ o. first_of (o ∷ held ∷ place ∷ room ∷ [])) is_found

    pub held_told : (x : Failure WriteRefusal) → Tells {T = Unit {0}} (Err x) held → Tells {T = Unit {0}} (Err x) refusal
    held_told x told = subst (Tells {T = Unit {0}} (Err x)) (sym behind_found) (first_tells held (place ∷ room ∷ []) x told)

    module _ (none_held : held ≡ None) where
      behind_held : refusal ≡ first_of (place ∷ room ∷ [])
      behind_held = behind_found ∙ ap (λ o. first_of (o ∷ place ∷ room ∷ [])) none_held

      pub place_told : (class : ℕ) → (entry_in image guid).class ≡ class → (x : Failure WriteRefusal) → Tells {T = Unit {0}} (Err x) (place_refusal s class guid parent text)
          → Tells {T = Unit {0}} (Err x) refusal
      place_told class is x told =
          subst (Tells {T = Unit {0}} (Err x)) (sym behind_held)
          (first_tells place (room ∷ []) x (subst (λ (k : ℕ). Tells {T = Unit {0}} (Err x) (place_refusal s k guid parent text)) (sym is) told))

      pub room_told : (class : ℕ) → (entry_in image guid).class ≡ class → place_refusal s class guid parent text ≡ None → (tested : Option WriteRefusal) (count : ℕ)
          → tested ≡ room_refusal s count → length (links_revived s image guid) ≡ count → refusal ≡ tested
      room_told class is placed tested count told same =
          behind_held
          ∙ (ap (λ o. first_of (o ∷ room ∷ [])) (ap (λ (k : ℕ). place_refusal s k guid parent text) is ∙ placed)
          ∙ (sym (alone room) ∙ (ap (room_refusal s) same ∙ sym told)))

-- the entry that is found is the one that is revived
pub found_entry : {B : Type 0} (f : Entry → B) (o : Option Entry) (d : Entry) (x : B) → option_map f o ≡ Some x → f (unwrap_or o d) ≡ x
found_entry f None d x is = absurd (cc)
found_entry f (Some e) d x is = cc

pub found_none : {B : Type 0} (f : Entry → B) (o : Option Entry) → option_map f o ≡ None → is_none o ≡ true
found_none f None is = refl
found_none f (Some e) is = absurd (cc)

pub found_some : {B : Type 0} (f : Entry → B) (o : Option Entry) (x : B) → option_map f o ≡ Some x → is_none o ≡ false
found_some f None x is = absurd (cc)
found_some f (Some e) x is = refl
