-- Values that a spelled store shows are typed.
use Rattle.std.proofs.Common.{◌≡◌, List, Option, Some, None, unwrap_or, refl, sym, ap, subst}
use Rattle.adr_values.specs.declared.content.Value.{Value as Datum}
use Rattle.adr_values.specs.declared.content.Value.TheVariants.{Text, Number, Flag, Octets, Ref}
use Rattle.adr_values.specs.Assignments.{Given}
use Rattle.adr_values.specs.Numbered.{numbered}
use Rattle.adr_call.specs.declared.directory.Entry.{Entry}
use Rattle.adr_wire.specs.Ranges.{IsValue}
use Rattle.adr_model.specs.Member.{Each, Member}
use Rattle.adr_model.specs.Update.{Identifier, RowOf, Update, same_identifier}
use Rattle.adr_model.specs.Live.{live_rows}
use Rattle.adr_model.specs.Place.{Node}
use Rattle.adr_model.specs.Directory.{directory, entry_of}
use Rattle.adr_model.specs.Store.{Store, updates_of}
use Rattle.adr_model.specs.Formed.{IsFormedStore}
use Rattle.adr_model.specs.Write.{entry_in, no_entry, nodes_held, shown_in}
use Rattle.adr_model.proofs.Members.{found_member, mapped_member}
use Rattle.adr_law_calls.proofs.Rising.{one_update}
use Rattle.adr_law_calls.proofs.Rows.{held_as}
use Rattle.adr_law_calls.proofs.Shown.{IsShown, shown}
use Rattle.adr_image.specs.Stored.{IsSpelled, IsSpelledRow}
use Rattle.adr_image.proofs.Alone.{in_all}
use Rattle.adr_law_recorded.specs.Typed.{AreTypedValues, IsTypedValue}

value_typed : (v : Datum) → IsValue v → IsTypedValue v
value_typed (Text bytes) q = q.1
value_typed (Number n) q = q
value_typed (Flag b) q = tt
value_typed (Octets bytes) q = tt
value_typed (Ref guid) q = q

module _ (image : Store) (guid : Identifier) (formed : IsFormedStore image) (spelled : IsSpelled image) where
  abbrev rows : List Update
  rows = updates_of image.rows

  one : Each (λ u. Each (λ v. u.key ≡ v.key → u ≡ v) rows) rows
  one = one_update image.rows formed.rising

  of_node : (n : Node) (is : Member n (nodes_held rows)) (g : Given) → IsShown (numbered image.schema) rows formed.rows one n is g → Each IsTypedValue g.1
  of_node n is g by_row v m =
      let h = held_as image.rows by_row.row by_row.there in
      let here = subst (λ (u : Update). IsSpelledRow u.key u.said u.stamp) (sym h.2) (spelled.rows h.0 h.1) in
      let keyed = subst (λ k. IsSpelledRow k by_row.row.said by_row.row.stamp) by_row.key here in
      let said = subst (λ x. IsSpelledRow (RowOf n.object g.0) x by_row.row.stamp) by_row.said keyed in
      value_typed v (in_all IsValue g.1 said.2.4 v m)

  of_entry : (e : Entry) → Member e (directory rows) → AreTypedValues e.values
  of_entry e m =
      let n = mapped_member (entry_of (live_rows rows) (nodes_held rows)) (nodes_held rows) e m in
      subst (λ (x : Entry). AreTypedValues x.values) (sym n.2)
      (λ g k. of_node n.0 n.1 g (shown (numbered image.schema) rows formed.rows one n.0 n.1 g k))

  -- the values of an object of an image
  pub shown_typed : AreTypedValues (entry_in image guid).values
  shown_typed = by (shown_in image guid) refl
    where
      by : (o : Option Entry) → shown_in image guid ≡ o → AreTypedValues (entry_in image guid).values
      by None is = subst (λ (x : Entry). AreTypedValues x.values) (sym (ap (λ (o : Option Entry). unwrap_or o (no_entry guid)) is)) (λ g m. absurd m)
      by (Some e) is = subst (λ (x : Entry). AreTypedValues x.values) (sym (ap (λ (o : Option Entry). unwrap_or o (no_entry guid)) is))
          (of_entry e (found_member (λ (x : Entry). same_identifier x.guid guid) (directory rows) e is).0)
