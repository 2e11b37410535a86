-- What a client's write issues.
use Rattle.std.proofs.Common.{◌≡◌, true, false, inl, inr, ℕ, ◌+◌, ◌<◌, ◌≤◌, length, List, [], ◌∷◌, Ok, refl, sym, ap, subst, arith, map}
use Rattle.adr_values.specs.Assignments.{Given}
use Rattle.adr_values.specs.declared.content.Content.TheVariants.{Values, Name, Dead}
use Rattle.adr_values.specs.declared.stamp.Oid.{Oid}
use Rattle.adr_values.specs.declared.stamp.LinkKey.{LinkKey}
use Rattle.adr_model.specs.Member.{Member, Each}
use Rattle.adr_model.specs.Update.{Identifier, Key, RowOf, LinkOf, Said, Holds, IsPresent, Update, inv_of, usn_of, name_attr, deleted_attr}
use Rattle.adr_model.specs.Store.{Held, State, updates_of}
use Rattle.adr_model.specs.Change.{Written, Change, held_of, updates_written}
use Rattle.adr_model.specs.LocalLog.{Follows}
use Rattle.adr_model.specs.Write.{Write, AddObject, Modify, Rename, Delete, AddLink, RemoveLink, Revive, row, next_row, next_stamp, first_stamp, new_rows, new_object, object_of, link_of, nodes_held, entry_in, links_revived, new_links, link_row, more_written, rows_written, items_written, own_change, write_refusal, write}
use Rattle.adr_model.specs.Replica.{Book, ToWrite, issued_by}
use Rattle.adr_model.specs.Sound.{last_of}
use Rattle.adr_model.proofs.Members.{mapped_member, flat_member}
use Rattle.adr_law_knowledge.proofs.Refusing.{answered}
use Rattle.adr_law_calls.specs.Puts.{held_at}
use Rattle.adr_law_calls.specs.Later.{AreIssuedBy}

abbrev IsOwn : State → Update → Type 0
IsOwn s u = (inv_of u ≡ s.inv) × (usn_of u ≡ s.store.usn + 1)

each_made : {A B : Type 0} (P : B → Type 0) (f : A → B) (xs : List A) → ((x : A) → P (f x)) → Each P (map f xs)
each_made P f xs made y m = let t = mapped_member f xs y m in subst P (sym t.2) (made t.0)

one_is_own : (s : State) (now : ℕ) (key : Key) (said : Said) → Each (IsOwn s) (record { key = key; stamp = next_stamp s key now; said = said } ∷ [])
one_is_own s now key said u (inl e) = subst (IsOwn s) (sym e) (refl, refl)
one_is_own s now key said u (inr m) = absurd m

new_are_own : (s : State) (now : ℕ) (o : Oid) (class : ℕ) (parent : Identifier) (text : List ℕ) (values : List Given) → Each (IsOwn s) (new_rows o (first_stamp s now) class parent text values)
new_are_own s now o class parent text values u (inl e) = subst (IsOwn s) (sym e) (refl, refl)
new_are_own s now o class parent text values u (inr (inl e)) = subst (IsOwn s) (sym e) (refl, refl)
new_are_own s now o class parent text values u (inr (inr m)) = each_made (IsOwn s) (λ (g : Given). row o (first_stamp s now) g.0 (Values g.1)) values (λ g. (refl, refl)) u m

next_are_own : (s : State) (now : ℕ) (o : Oid) (values : List Given) → Each (IsOwn s) (map (λ (g : Given). next_row s now o g.0 (Values g.1)) values)
next_are_own s now o values = each_made (IsOwn s) (λ (g : Given). next_row s now o g.0 (Values g.1)) values (λ g. (refl, refl))

pub written_is_own : (s : State) (w : Write) (now : ℕ) → Each (IsOwn s) (rows_written s w now).rows
written_is_own s (AddObject guid class parent text values) now = new_are_own s now (new_object s guid) class parent text values
written_is_own s (Modify guid values) now = next_are_own s now (object_of (nodes_held (updates_of s.store.rows)) guid) values
written_is_own s (Rename guid parent text) now = one_is_own s now (RowOf (object_of (nodes_held (updates_of s.store.rows)) guid) name_attr) (Holds (Name text parent))
written_is_own s (Delete guid) now = one_is_own s now (RowOf (object_of (nodes_held (updates_of s.store.rows)) guid) deleted_attr) (Holds Dead)
written_is_own s (AddLink from attr to) now = one_is_own s now (LinkOf (link_of (nodes_held (updates_of s.store.rows)) from attr to)) (IsPresent true)
written_is_own s (RemoveLink from attr to) now = one_is_own s now (LinkOf (link_of (nodes_held (updates_of s.store.rows)) from attr to)) (IsPresent false)
written_is_own s (Revive image guid parent text) now = new_are_own s now (new_object s guid) (entry_in image guid).class parent text (entry_in image guid).values

-- each item has the controller's identifier and its own USN, one of those that the write takes

abbrev AreOwn : State → Written → Type 0
AreOwn s x = Each (λ u. (inv_of u ≡ s.inv) × (usn_of u ≡ x.local)) x.item.rows

links_are_own : (s : State) (now usn : ℕ) (ls : List LinkKey) → Each (AreOwn s) (new_links s now usn ls)
links_are_own s now usn [] x m = absurd m
links_are_own s now usn (l ∷ ls) x (inl e) = subst (AreOwn s) (sym e) own
  where
    own : AreOwn s (link_row s now usn l)
    own u (inl is) = subst (λ (v : Update). (inv_of v ≡ s.inv) × (usn_of v ≡ usn)) (sym is) (refl, refl)
    own u (inr none) = absurd none
links_are_own s now usn (l ∷ ls) x (inr m) = links_are_own s now (usn + 1) ls x m

links_take_usns : (s : State) (now usn : ℕ) (ls : List LinkKey) → Each (λ (x : Written). (usn ≤ x.local) × (x.local + 1 ≤ usn + length (new_links s now usn ls))) (new_links s now usn ls)
links_take_usns s now usn [] x m = absurd m
links_take_usns s now usn (l ∷ ls) x (inl e) = let local : x.local ≡ usn = ap (λ (y : Written). y.local) e in (omega (arith, local), omega (arith, local))
links_take_usns s now usn (l ∷ ls) x (inr m) = let t = links_take_usns s now (usn + 1) ls x m in (omega (arith, t.0), omega (arith, t.1))

more_so : (s : State) (w : Write) (now : ℕ) → Each (λ (x : Written). AreOwn s x × (s.store.usn + 2 ≤ x.local) × (x.local + 1 ≤ s.store.usn + 2 + length (more_written s w now))) (more_written s w now)
more_so s (AddObject guid class parent text values) now x m = absurd m
more_so s (Modify guid values) now x m = absurd m
more_so s (Rename guid parent text) now x m = absurd m
more_so s (Delete guid) now x m = absurd m
more_so s (AddLink from attr to) now x m = absurd m
more_so s (RemoveLink from attr to) now x m = absurd m
more_so s (Revive image guid parent text) now x m =
    let t = links_take_usns s now (s.store.usn + 2) (links_revived s image guid) x m in
    (links_are_own s now (s.store.usn + 2) (links_revived s image guid) x m, t.0, t.1)

more_are_own : (s : State) (w : Write) (now : ℕ) → Each (AreOwn s) (more_written s w now)
more_are_own s w now x m = (more_so s w now x m).0

more_take_usns : (s : State) (w : Write) (now : ℕ) → Each (λ (x : Written). (s.store.usn + 2 ≤ x.local) × (x.local + 1 ≤ s.store.usn + 2 + length (more_written s w now))) (more_written s w now)
more_take_usns s w now x m = let t = more_so s w now x m in (t.1, t.2)

pub items_are_own : (s : State) (w : Write) (now : ℕ) → Each (λ (x : Written). Each (λ u. (inv_of u ≡ s.inv) × (usn_of u ≡ x.local)) x.item.rows) (items_written s w now)
items_are_own s w now x (inl e) = subst (AreOwn s) (sym e) (written_is_own s w now)
items_are_own s w now x (inr m) = more_are_own s w now x m

pub items_take_usns : (s : State) (w : Write) (now : ℕ) → Each (λ (x : Written). (s.store.usn < x.local) × (x.local ≤ s.store.usn + length (items_written s w now))) (items_written s w now)
items_take_usns s w now x (inl e) = let local : x.local ≡ s.store.usn + 1 = ap (λ (y : Written). y.local) e in (omega (arith, local), omega (arith, local))
items_take_usns s w now x (inr m) = let t = more_take_usns s w now x m in (omega (arith, t.0), omega (arith, t.1))

-- a row that is written is of one of the writes
pub held_from : (ws : List Written) (x : Held) → Member x (held_of ws) → (w : Written) × Member w ws × Member x.update w.item.rows × (x.local ≡ w.local)
held_from ws x m =
    let w = flat_member (λ (w : Written). map (held_at w.local) w.item.rows) ws x m in
    let u = mapped_member (held_at w.0.local) w.0.item.rows x w.2 in
    (w.0, w.1, subst (λ (v : Update). Member v w.0.item.rows) (sym (ap (λ (y : Held). y.update) u.2)) u.1, ap (λ (y : Held). y.local) u.2)

module _ (book : Book) (s : State) (w : Write) (now : ℕ) (last : s.store.usn ≡ last_of book s.inv) where
  abbrev change : Change
  change = own_change s (items_written s w now)

  follows : Follows (last_of book s.inv) change
  follows = record {
    rises = omega (arith, last);
    above = λ x m. let h = held_from (items_written s w now) x m in omega (arith, (items_take_usns s w now h.0 h.1).0, h.3, last);
    within = λ x m. let h = held_from (items_written s w now) x m in omega (arith, (items_take_usns s w now h.0 h.1).1, h.3);
    idle = λ le. absurd (omega (arith, last, le));
  }

  own : AreIssuedBy book s.inv change (updates_written change)
  own u m =
      let x = flat_member (λ (w : Written). w.item.rows) (items_written s w now) u m in
      let p = items_are_own s w now x.0 x.1 u x.2 in
      let n = items_take_usns s w now x.0 x.1 in
      (p.0, omega (arith, p.1, n.0, last), omega (arith, p.1, n.1))

  pub write_may_follow : (c : Change) → write s w now ≡ Ok c → Follows (last_of book s.inv) c × AreIssuedBy book s.inv c (issued_by (ToWrite w now) c)
  write_may_follow c e = subst (λ (z : Change). Follows (last_of book s.inv) z × AreIssuedBy book s.inv z (issued_by (ToWrite w now) z)) (answered (write_refusal s w) change c e).1 (follows, own)
