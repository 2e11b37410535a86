-- A link that is added or removed is one of live objects, under the attribute of a forward link, with room for its row.
use Rattle.std.proofs.Common.{◌≡◌, ◌⊎◌, inl, inr, ℕ, ◌≤◌, ◌+◌, List, [], ◌∷◌, Bool, true, false, not, Option, Some, None, is_some, refl, sym, ap, ◌∙◌, subst, arith, if◌then◌else◌}
use Rattle.std.specs.Option.{option_map_or}
use Rattle.std.proofs.lemmas.Bool.{not-false}
use Rattle.adr_values.specs.declared.stamp.Oid.{Oid}
use Rattle.adr_values.specs.declared.stamp.LinkKey.{LinkKey}
use Rattle.adr_values.specs.declared.stamp.Unit.TheVariants.{Object, Link}
use Rattle.adr_values.specs.Table.{Table, kind_at, is_forward}
use Rattle.adr_values.specs.Numbered.{numbered}
use Rattle.adr_values.specs.Rules.{not_link_refusal, link_refusal as schema_link_refusal}
use Rattle.adr_values.proofs.ExactCalls.{neither, not_then}
use Rattle.adr_values.specs.Vector.{at}
use Rattle.adr_call.specs.declared.refusal.WriteRefusal.{WriteRefusal}
use Rattle.adr_call.specs.declared.refusal.Table.TheVariants.{Links}
use Rattle.adr_call.specs.declared.refusal.WriteRefusal.TheVariants.{Schema as BreaksSchema, LinkThere, LinkNotThere}
use Rattle.adr_model.specs.Member.{Each}
use Rattle.adr_model.specs.Update.{Identifier, LinkOf, IsPresent, Update, same_key, unit_of, ends}
use Rattle.adr_model.specs.Store.{Held, State, updates_of, row_held}
use Rattle.adr_model.specs.Formed.{IsFormed}
use Rattle.adr_model.specs.Write.{AddLink, RemoveLink, object_refusal, full_refusal, nodes_held, class_of, object_of, link_of, is_linked, says_present, links_in, link_limit, more_links, any_link_refusals, any_link_refusal, link_refusal, unlink_refusal, rows_written}
use Rattle.std.specs.Bool.{then_some}
use Rattle.adr_law_knowledge.proofs.Comparing.{keys_tell}
use Rattle.adr_law_calls.proofs.Rows.{updated}
use Rattle.adr_law_calls.specs.MayWrites.{IsHeldAlive, HoldsLink, MayWrite}
use Rattle.adr_law_knowledge.proofs.Refusing.{none_there, not_mapped}
use Rattle.adr_law_calls.proofs.Refusals.{is_so, not_full}
use Rattle.adr_model.proofs.Members.{found_member}
use Rattle.adr_law_calls.proofs.Nodes.{object_is_live}
use Rattle.adr_law_calls.proofs.Rising.{one_update}
use Rattle.adr_law_calls.proofs.Stamps.{written, one_may_be_put}
use Rattle.adr_law_calls.proofs.Saids.{live_is_held}

-- a link that the schema doesn't refuse is a forward one
pub is_forward_link : (t : Table) (class attr : ℕ) → schema_link_refusal t class attr ≡ None → is_forward (kind_at t attr) ≡ true
unfolding schema_link_refusal
is_forward_link t class attr none = not-false (is_forward (kind_at t attr)) (not_then _ _ (neither (not_link_refusal t attr) _ (neither _ _ none).1).0)

-- a row of the link is held
held_link : (rows : List Held) (l : LinkKey) (h : Held) → row_held rows (LinkOf l) ≡ Some h → HoldsLink (updates_of rows) l
held_link rows l h e = let t = found_member (λ (x : Held). same_key x.update.key (LinkOf l)) rows h e in
    (h.update, updated rows h t.0, keys_tell h.update.key (LinkOf l) t.1)

module _ (s : State) (formed : IsFormed s) (from : Identifier) (attr : ℕ) (to : Identifier) where
  abbrev rows : List Update
  rows = updates_of s.store.rows

  -- the link of the objects
  abbrev link : LinkKey
  link = link_of (nodes_held rows) from attr to

  live : (guid : Identifier) → object_refusal rows (nodes_held rows) guid ≡ None → IsHeldAlive rows (object_of (nodes_held rows) guid)
  live guid none = live_is_held rows _ _ (object_is_live (numbered s.store.schema) rows formed.store.rows (one_update s.store.rows formed.store.rising) guid none)

  module _ (wrong : Bool → Option WriteRefusal) (none : any_link_refusal s from attr to wrong ≡ None) where
    abbrev refusals : List (Option WriteRefusal)
    refusals = any_link_refusals s from attr to wrong

    from_live : IsHeldAlive rows (object_of (nodes_held rows) from)
    from_live = live from (none_there refusals none _ (inr (inr (inr (inl refl)))))

    to_live : IsHeldAlive rows (object_of (nodes_held rows) to)
    to_live = live to (none_there refusals none _ (inr (inr (inr (inr (inr (inl refl)))))))

    forward : is_forward (kind_at (numbered s.store.schema) attr) ≡ true
    forward = is_forward_link (numbered s.store.schema) (class_of (nodes_held rows) from) attr
        (not_mapped BreaksSchema _ (none_there refusals none _ (inr (inr (inr (inr (inl refl)))))))

    not_wrong : wrong (is_linked s.store.rows link) ≡ None
    not_wrong = none_there refusals none _ (inr (inr (inr (inr (inr (inr (inl refl)))))))

    ends_live : Each (IsHeldAlive rows) (ends (LinkOf link))
    ends_live o (inl e) = subst (IsHeldAlive rows) (sym e) from_live
    ends_live o (inr (inl e)) = subst (IsHeldAlive rows) (sym e) to_live
    ends_live o (inr (inr m)) = absurd m

    link_row : (now : ℕ) (present : Bool) → HoldsLink rows link ⊎ (links_in s.store.rows + 1 ≤ link_limit)
        → MayWrite s (Link link) (written s now (LinkOf link) (IsPresent present) ∷ [])
    link_row now present room = record {
      put = one_may_be_put s formed.store.rising now (LinkOf link) (IsPresent present) (at s.store.vector) (λ o e. absurd (no_object o e));
      fits = record { forward = forward; ends = ends_live; said = said; room = room };
    }
      where
        no_object : (o : Oid) → unit_of (LinkOf link) ≡ Object o → ⊥
        no_object o e = cc

        said : Each (λ u. (present : Bool) × (u.said ≡ IsPresent present)) (written s now (LinkOf link) (IsPresent present) ∷ [])
        said u (inl e) = (present, ap (λ (v : Update). v.said) e)
        said u (inr m) = absurd m

  pub may_add_link : (now : ℕ) → link_refusal s from attr to ≡ None → MayWrite s (rows_written s (AddLink from attr to) now).unit (rows_written s (AddLink from attr to) now).rows
  may_add_link now none = link_row linked any now true (room (row_held s.store.rows (LinkOf link)) refl)
    where
      linked : Bool → Option WriteRefusal
      linked b = then_some b LinkThere

      any : any_link_refusal s from attr to linked ≡ None
      any = none_there (any_link_refusal s from attr to linked ∷ full_refusal Links link_limit (links_in s.store.rows + more_links s from attr to) ∷ []) none _ (inl refl)

      full : links_in s.store.rows + more_links s from attr to ≤ link_limit
      full = not_full Links link_limit (links_in s.store.rows + more_links s from attr to)
          (none_there (any_link_refusal s from attr to linked ∷ full_refusal Links link_limit (links_in s.store.rows + more_links s from attr to) ∷ []) none _ (inr (inl refl)))

      room : (o : Option Held) → row_held s.store.rows (LinkOf link) ≡ o → HoldsLink rows link ⊎ (links_in s.store.rows + 1 ≤ link_limit)
      room (Some h) e = inl (held_link s.store.rows link h e)
      room None e = inr (omega (arith, full, ap {B = ℕ} (λ (o : Option Held). if is_some o then 0 else 1) e))

  pub may_remove_link : (now : ℕ) → unlink_refusal s from attr to ≡ None → MayWrite s (rows_written s (RemoveLink from attr to) now).unit (rows_written s (RemoveLink from attr to) now).rows
  may_remove_link now none = link_row wrong none now false (inl (by (row_held s.store.rows (LinkOf link)) refl there))
    where
      wrong : Bool → Option WriteRefusal
      wrong b = then_some (not b) LinkNotThere

      there : is_linked s.store.rows link ≡ true
      there = is_so (is_linked s.store.rows link) LinkNotThere (not_wrong wrong none)

      by : (o : Option Held) → row_held s.store.rows (LinkOf link) ≡ o → option_map_or (λ (h : Held). says_present h.update.said) (row_held s.store.rows (LinkOf link)) false ≡ true
          → HoldsLink rows link
      by (Some h) e linked = held_link s.store.rows link h e
      by None e linked = let f : false ≡ true = ap (λ (o : Option Held). option_map_or (λ (h : Held). says_present h.update.said) o false) (sym e) ∙ linked in absurd (cc)
