-- What a node that is held is: an object with a class row of its class, and without a death.
use Rattle.std.proofs.Common.{◌≡◌, inl, inr, ℕ, zero, suc, List, [], ◌∷◌, true, false, Option, Some, None, is_none, not, refl, sym, ap, ◌∙◌, subst, arith}
use Rattle.std.specs.List.{list_all}
use Rattle.std.specs.Option.{option_map_or}
use Rattle.adr_values.specs.declared.stamp.Oid.{Oid}
use Rattle.adr_values.specs.Table.{Table}
use Rattle.adr_values.specs.declared.content.Content.TheVariants.{Class, Name, Values}
use Rattle.adr_model.specs.Member.{Member, Each}
use Rattle.adr_model.specs.Update.{Identifier, RowOf, Holds, Update, ends, class_attr, name_attr, same_object, same_identifier}
use Rattle.adr_model.specs.Winner.{winners}
use Rattle.adr_model.specs.Live.{standing, live, is_among, live_rows}
use Rattle.adr_model.specs.Place.{Node, root, node_of, node_at}
use Rattle.adr_model.specs.Reflects.{HoldsObject, IsTombstoned}
use Rattle.adr_model.specs.Formed.{AreFormedRows, IsNamed, IsObjectFormed}
use Rattle.adr_call.specs.declared.refusal.WriteRefusal.{WriteRefusal}
use Rattle.adr_call.specs.declared.refusal.WriteRefusal.TheVariants.{NoObject, Deleted}
use Rattle.adr_model.specs.Write.{holds_guid, nodes_held, object_refusal, object_of, class_of}
use Rattle.std.specs.Bool.{then_some}
use Rattle.adr_model.proofs.Nodes.{IsNodeOf, is_node_of}
use Rattle.adr_model.proofs.Members.{of_filter, found_member, of_filter_map, some_passes, each_passes}
use Rattle.adr_model.proofs.Keys.{objects_tell}
use Rattle.adr_law_knowledge.proofs.Standing.{of_standing}
use Rattle.adr_law_knowledge.proofs.Winners.{is_won, of_winners}
use Rattle.adr_law_calls.specs.MayWrites.{IsLive}
use Rattle.adr_law_knowledge.proofs.Refusing.{none_there}
use Rattle.adr_law_calls.proofs.Refusals.{not_so}

-- ---- live rows

pub of_live_rows : (rows : List Update) (u : Update) → Member u (live_rows rows) → Member u rows × Each (λ o. IsTombstoned rows o → ⊥) (ends u.key)
of_live_rows rows u m = ((is_won rows u.key (Some u) (of_winners rows u t.0)).0, alive)
  where
    t : Member u (winners rows) × (list_all (is_among (live rows)) (ends u.key) ≡ true)
    t = of_filter (λ (v : Update). list_all (is_among (live rows)) (ends v.key)) (winners rows) u m

    alive : Each (λ o. IsTombstoned rows o → ⊥) (ends u.key)
    alive o n dead =
        let p = some_passes (λ (q : Oid). same_object q o) (live rows) (each_passes (is_among (live rows)) (ends u.key) t.1 o n) in
        let stands = of_standing rows o (subst (λ q. Member q (standing rows)) (objects_tell p.0 o p.2) (of_filter _ (standing rows) p.0 p.1).0) in
        stands.alive dead.0 dead.1 dead.2

module _ (table : Table) (rows : List Update) (formed : AreFormedRows table rows) (one : Each (λ u. Each (λ v. u.key ≡ v.key → u ≡ v) rows) rows) where
  -- a row of a live object that says a class is its class row
  says_class : (o : Oid) (class : ℕ) (u : Update) → Member u rows → (IsTombstoned rows o → ⊥) → u.said ≡ Holds (Class class) → (attr : ℕ) → u.key ≡ RowOf o attr → u.key ≡ RowOf o class_attr
  says_class o class u m alive said zero is = absurd (formed.none o u m is)
  says_class o class u m alive said (suc zero) is = is
  says_class o class u m alive said (suc (suc zero)) is = absurd (named (formed.named o (u, name_attr, m, is)))
    where
      named : IsNamed rows o → ⊥
      named n =
          let same : u ≡ n.of_name.0 = one u m n.of_name.0 n.of_name.1 (is ∙ sym n.of_name.2) in
          let says : Holds (Class class) ≡ Holds (Name n.text n.parent) = sym said ∙ ap (λ (v : Update). v.said) same ∙ n.of_name.3 in
          cc
  says_class o class u m alive said (suc (suc (suc zero))) is = absurd (alive (u, m, is))
  says_class o class u m alive said (suc (suc (suc (suc k)))) is = absurd (by (formed.objects o held))
    where
      attr : ℕ
      attr = suc (suc (suc (suc k)))

      held : HoldsObject rows o
      held = (u, attr, m, is)

      by : IsObjectFormed table rows o → ⊥
      by (inl dead) = alive (dead.dead.0, dead.dead.1, dead.dead.2)
      by (inr (not_dead, keeps)) =
          let n = formed.named o held in
          let values = (keeps n.class n.of_class).allowed attr (omega arith) u m is in
          let says : Holds (Class class) ≡ Holds (Values values.0) = sym said ∙ values.1 in
          cc

  -- a live object, with its class, and that it is one of those that are live
  pub node_is_live : (n : Node) → Member n (nodes_held rows) → IsLive rows n.object n.class
  node_is_live n m =
      let u = of_filter_map (λ (v : Update). node_of (live_rows rows) v.key v.said) (live_rows rows) n m in
      by u.0 (of_live_rows rows u.0 u.1) (is_node_of (live_rows rows) u.0.key u.0.said n u.2)
    where
      by : (u : Update) → Member u rows × Each (λ o. IsTombstoned rows o → ⊥) (ends u.key) → IsNodeOf u.key u.said n → IsLive rows n.object n.class
      by u (m, alive) (attr, is, said) =
          record { of_class = (u, m, says_class n.object n.class u m not_dead said attr is, said); alive = not_dead }
        where
          not_dead : IsTombstoned rows n.object → ⊥
          not_dead = alive n.object (subst (λ k. Member n.object (ends k)) (sym is) (inl refl))

  pub live_node : (guid : Identifier) (n : Node) → node_at (nodes_held rows) guid ≡ Some n → IsLive rows n.object n.class
  live_node guid n e = node_is_live n (found_member (λ (p : Node). same_identifier p.object.guid guid) (nodes_held rows) n e).0

  -- an object that isn't refused is live, and of its class
  pub object_is_live : (guid : Identifier) → object_refusal rows (nodes_held rows) guid ≡ None → IsLive rows (object_of (nodes_held rows) guid) (class_of (nodes_held rows) guid)
  object_is_live guid none = by (node_at (nodes_held rows) guid) refl (not_so (is_none (node_at (nodes_held rows) guid)) (Deleted guid) (none_there refusals none not_live (inr (inl refl))))
    where
      not_live : Option WriteRefusal
      not_live = then_some (is_none (node_at (nodes_held rows) guid)) (Deleted guid)

      refusals : List (Option WriteRefusal)
      refusals = then_some (not (holds_guid rows guid)) (NoObject guid) ∷ not_live ∷ []

      none_given : Oid
      none_given = record { guid = guid; birth = record { inv = root; usn = 0 } }

      by : (o : Option Node) → node_at (nodes_held rows) guid ≡ o → is_none o ≡ false → IsLive rows (object_of (nodes_held rows) guid) (class_of (nodes_held rows) guid)
      by None is there = absurd (cc)
      by (Some n) is there = subst (λ (o : Option Node). IsLive rows (option_map_or (λ (m : Node). m.object) o none_given) (option_map_or (λ (m : Node). m.class) o 0)) (sym is) (live_node guid n is)
