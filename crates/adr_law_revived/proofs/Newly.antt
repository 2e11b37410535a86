-- The object that is revived is the live one of its GUID.
use Rattle.std.proofs.Common.{◌≡◌, inl, inr, ◌⊎◌, true, false, ℕ, ◌+◌, List, [], Option, Some, None, is_some, refl, sym, ap, ◌∙◌, subst}
use Rattle.std.proofs.lemmas.Cmp.{nat_list_cmp_total}
use Rattle.adr_values.specs.Order.{identifier_order}
use Rattle.adr_values.specs.declared.stamp.Oid.{Oid}
use Rattle.adr_values.specs.declared.content.Content.TheVariants.{Name}
use Rattle.adr_call.specs.declared.refusal.WriteRefusal.TheVariants.{StillLive}
use Rattle.adr_model.specs.Member.{Member}
use Rattle.adr_model.specs.Update.{Identifier, Update, RowOf, class_attr, name_attr, deleted_attr, same_identifier}
use Rattle.adr_model.specs.Live.{standing, live, is_among, live_rows}
use Rattle.adr_model.specs.Place.{Node, nodes_of, node_at}
use Rattle.adr_model.specs.Store.{Held, Store, State, updates_of}
use Rattle.adr_model.specs.Change.{Written, Change, held_of, after}
use Rattle.adr_model.specs.Formed.{IsFormedStore, IsFormed}
use Rattle.adr_model.specs.Write.{Write, Revive, nodes_held, new_object, first_stamp, row, is_of_guid, entry_in, links_revived, revive_refusals, revive_refusal, rows_written, more_written, items_written, own_change, write_refusal}
use Rattle.adr_model.proofs.Members.{none_passes, found}
use Rattle.adr_law_knowledge.proofs.Refusing.{none_there, answered}
use Rattle.adr_law_knowledge.proofs.Standing.{of_standing, in_standing}
use Rattle.adr_law_knowledge.specs.Stands.{Stands}
use Rattle.adr_law_calls.proofs.Written.{held_from}
use Rattle.adr_law_calls.specs.Puts.{held_at}
use Rattle.adr_law_calls.proofs.Rows.{updated}
use Rattle.adr_law_calls.proofs.Rising.{one_update}
use Rattle.adr_law_calls.proofs.PutForms.{whence_update}
use Rattle.adr_law_calls.proofs.Refusals.{not_so}
use Rattle.adr_law_calls.proofs.InTurn.{first_by_itself}
use Rattle.adr_law_calls.proofs.Reviving.{absent, first, one, class_row, placed, of_new, still_alive, may_relink_all}
use Rattle.adr_law_tree.proofs.Fuel.{same_guid, itself}
use Rattle.adr_law_tree.proofs.InOrder.{order_law}
use Rattle.adr_law_tree.proofs.Rising.{one_of_each}
use Rattle.adr_law_tree.proofs.RisingRows.{rising_updates}
use Rattle.adr_law_tree.proofs.Edits.{untouched_law}
use Rattle.adr_law_revived.specs.Revived.{nodes_in, revived_node, OneObjectMore}
use Rattle.adr_law_revived.proofs.Behind.{held_first}
use Rattle.adr_law_revived.proofs.Living.{none_found, some_lives, node_there}
use Rattle.adr_law_revived.proofs.Revived.{of_links, others_stay}

module _ (s : State) (formed : IsFormed s) (image : Store) (guid parent : Identifier) (text : List ℕ) (given : IsFormedStore image) (none : revive_refusal s image guid parent text ≡ None) where
  abbrev held : List Update
  held = updates_of s.store.rows

  abbrev o : Oid
  o = new_object s guid

  pub not_live : node_at (nodes_held held) guid ≡ None
  not_live = by (node_at (nodes_held held) guid) refl (not_so (is_some (node_at (nodes_held held) guid)) (StillLive guid) (none_there (revive_refusals s image guid parent text) none _ (inr (inr (inr (inr (inl refl)))))))
    where
      by : (x : Option Node) → node_at (nodes_held held) guid ≡ x → is_some x ≡ false → x ≡ None
      by None e f = refl
      by (Some n) e f = absurd (cc)

  -- so none of the GUID stands
  none_stands : (p : Oid) → Member p (standing held) → same_identifier p.guid guid ≡ true → ⊥
  none_stands p m is = let t = some_lives held guid p m is in by t.0 t.1 t.2 t.3
    where
      by : (q : Oid) → Member q (standing held) → same_identifier q.guid guid ≡ true → is_among (live held) q ≡ true → ⊥
      by q stands mine among =
          let b = of_standing held q stands in
          let n = formed.store.rows.named q (b.birth, class_attr, b.born, b.is_birth) in
          none_found (λ (m : Node). same_identifier m.object.guid guid) (nodes_of (live_rows held)) _
          (node_there held (one_update s.store.rows formed.store.rising) q among n.of_class.0 n.of_name.0 n.class n.text n.parent n.of_class.1 n.of_class.2 n.of_class.3 n.of_name.1 n.of_name.2 n.of_name.3) mine not_live

  module _ (now : ℕ) where
    abbrev t : State
    t = one s formed image guid parent text given none now

    abbrev rows : List Update
    rows = updates_of t.store.rows

    abbrev new_rows : List Update
    new_rows = (first s formed image guid parent text given none now).rows

    abbrev class_is : Update
    class_is = class_row s formed image guid parent text given none now

    abbrev name_is : Update
    name_is = row o (first_stamp s now) name_attr (Name text parent)

    formed_then : IsFormed t
    formed_then = (may_relink_all s formed image guid parent text given none now).formed

    written_there : (u : Update) → Member u new_rows → Member u rows
    written_there u m = updated t.store.rows (held_at (s.store.usn + 1) u) ((placed s formed image guid parent text given none now).written u m)

    new_stands : Member o (standing rows)
    new_stands = in_standing rows o (record {
      birth = class_is;
      born = written_there class_is (inl refl);
      is_birth = refl;
      alive = λ d m dies. still_alive s formed image guid parent text given none now o (λ dead. absent s formed image guid parent text given none (dead.0, deleted_attr, dead.1, dead.2)) (d, m, dies);
    })

    -- the new object stands alone
    only_new : (p : Oid) → Member p (standing rows) → same_identifier p.guid guid ≡ true → p ≡ o
    only_new p m is = let b = of_standing rows p m in by b (whence_update (s.store.usn + 1) new_rows s.store.rows t.store.rows (placed s formed image guid parent text given none now) b.birth b.born)
      where
        by : (b : Stands rows p) → Member b.birth new_rows ⊎ Member b.birth held → p ≡ o
        by b (inl n) =
            let k = of_new s formed image guid parent text given none now b.birth n in
            let same : RowOf p class_attr ≡ RowOf o k.0 = sym b.is_birth ∙ k.1 in cc
        by b (inr n) = absurd (none_stands p (in_standing held p (record { birth = b.birth; born = n; is_birth = b.is_birth; alive = λ d k dies. b.alive d (held_first s formed image guid parent text given none now d k) dies })) is)

    new_lives : is_among (live rows) o ≡ true
    new_lives = let l = some_lives rows guid o new_stands (itself guid) in subst (λ q. is_among (live rows) q ≡ true) (only_new l.0 l.1 l.2) l.3

    abbrev node : Node
    node = revived_node s image guid parent text now

    node_is_there : Member node (nodes_of (live_rows rows))
    node_is_there = node_there rows (one_update t.store.rows formed_then.store.rising) o new_lives class_is name_is (entry_in image guid).class text parent
        (written_there class_is (inl refl)) refl refl (written_there name_is (inr (inl refl))) refl refl

    behind_first : node_at (nodes_in t) guid ≡ Some node
    behind_first = found (λ (m : Node). same_identifier m.object.guid guid) (nodes_of (live_rows rows)) node node_is_there (itself guid)
        (λ m n same. one_of_each identifier_order (λ (x : Node). x.object.guid) nat_list_cmp_total (nodes_of (live_rows rows)) (order_law rows (rising_updates t.store.rows formed_then.store.rising)) m n node node_is_there (same_guid m.object.guid guid same))

    abbrev what : Write
    what = Revive image guid parent text

    abbrev first_item : Written
    first_item = record { local = s.store.usn + 1; item = rows_written s what now }

    behind_all : node_at (nodes_in (after s (own_change s (items_written s what now)))) guid ≡ Some node
    behind_all =
        ap (λ (x : State). node_at (nodes_in x) guid) (first_by_itself s formed first_item (more_written s what now) refl)
        ∙ (untouched_law [] (held_of (more_written s what now)) t.store.rows formed_then.store.rising guid
        (none_passes (λ (h : Held). is_of_guid guid h.update.key) (held_of (more_written s what now))
        (λ h m. let w = held_from (more_written s what now) h m in of_links s now guid (s.store.usn + 2) (links_revived s image guid) w.0 w.1 h.update w.2))
        refl ∙ behind_first)

pub one_more : OneObjectMore
one_more s image guid parent text now c formed given e =
    let a = answered (write_refusal s (Revive image guid parent text)) (own_change s (items_written s (Revive image guid parent text) now)) c e in
    record {
      new = not_live s formed image guid parent text given a.0;
      here = subst (λ (d : Change). node_at (nodes_in (after s d)) guid ≡ Some (revived_node s image guid parent text now)) a.1 (behind_all s formed image guid parent text given a.0 now);
      other = others_stay s image guid parent text now c formed e;
    }
