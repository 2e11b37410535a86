-- The refusals of a link part by part.
use Rattle.std.proofs.Common.{◌≡◌, ℕ, ◌+◌, Bool, [], ◌∷◌}
use Rattle.std.specs.Option.{option_map}
use Rattle.adr_values.specs.Numbered.{numbered}
use Rattle.adr_values.specs.Rules.{link_refusal as schema_link_refusal}
use Rattle.adr_call.specs.declared.refusal.WriteRefusal.TheVariants.{Schema as BreaksSchema, Quarantined}
use Rattle.adr_values.specs.First.{first_of}
use Rattle.adr_model.specs.Serve.{is_quarantined}
use Rattle.adr_model.specs.Store.{State, updates_of}
use Rattle.adr_model.specs.Update.{Identifier, LinkOf}
use Rattle.adr_model.specs.Write.{any_link_refusal, class_of, fixed_refusal, is_linked, link_of, nodes_held, object_refusal, usn_refusal, version_refusal}
use Rattle.std.specs.Bool.{then_some}
use Rattle.adr_origin.proofs.FirstOf.{in_three}
use Rattle.adr_origin.specs.LinkParts.{already_refusal, ends_refusal, start_refusal, write_refusal}

pub link_in_parts : (s : State) (from : Identifier) (attr : ℕ) (to : Identifier) (present : Bool)
    → any_link_refusal s from attr to (already_refusal present) ≡ first_of (start_refusal s.mode from to ∷ ends_refusal s (nodes_held (updates_of s.store.rows)) from attr to ∷ write_refusal s (link_of (nodes_held (updates_of s.store.rows)) from attr to) present ∷ [])
link_in_parts s from attr to present =
    let nodes = nodes_held (updates_of s.store.rows) in
    let link = link_of nodes from attr to in
    in_three
    (then_some (is_quarantined s.mode) Quarantined ∷ fixed_refusal from ∷ fixed_refusal to ∷ [])
    (object_refusal (updates_of s.store.rows) nodes from
    ∷ option_map BreaksSchema (schema_link_refusal (numbered s.store.schema) (class_of nodes from) attr)
    ∷ object_refusal (updates_of s.store.rows) nodes to
    ∷ [])
    (already_refusal present (is_linked s.store.rows link) ∷ version_refusal s.store.rows (LinkOf link) attr ∷ usn_refusal (s.store.usn + 1) ∷ [])
