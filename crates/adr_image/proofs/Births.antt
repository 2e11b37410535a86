-- Parts that are in range make a store whose class rows carry births, that has no attribute 0, and whose links have no dead end.
use Rattle.std.proofs.Common.{◌≡◌, ℕ, Bool, true, false, eqb, leb, List, [], ◌∷◌, map, refl, sym, ap, subst, ◌∙◌, inl, inr, ⊎_elim}
use Rattle.std.specs.Prelude.{not, ◌&&◌, ◌⊎◌, is_none, is_some, filter}
use Rattle.std.specs.List.{flat_map}
use Rattle.adr_values.specs.declared.stamp.Oid.{Oid}
use Rattle.adr_values.specs.declared.stamp.LinkKey.{LinkKey}
use Rattle.adr_values.specs.declared.stamp.Stamp.{Stamp}
use Rattle.adr_values.specs.declared.content.Content.{Content}
use Rattle.adr_values.specs.declared.content.Content.TheVariants.{Class, Name, Dead, Values}
use Rattle.adr_values.specs.Table.{Table, class_at}
use Rattle.adr_values.specs.Numbered.{numbered}
use Rattle.adr_values.specs.Rules.{row_refusal}
use Rattle.adr_wire.specs.Ranges.{IsContent}
use Rattle.adr_model.specs.Member.{Member, Each}
use Rattle.adr_model.specs.Update.{Key, RowOf, LinkOf, Update, same_object}
use Rattle.adr_model.specs.Store.{Held, updates_of}
use Rattle.adr_model.specs.Live.{is_among}
use Rattle.adr_model.specs.Reflects.{IsTombstoned}
use Rattle.adr_model.specs.Formed.{IsLinkFormed}
use Rattle.adr_model.specs.Take.{carries_birth, is_birth}
use Rattle.adr_model.proofs.Members.{member_of_either, mapped_member, member_mapped, flat_member, in_filter, one_passes}
use Rattle.adr_image.specs.declared.rows.Before.{Before}
use Rattle.adr_wire.specs.Gathering.{Along}
use Rattle.adr_image.specs.Image.{HeldRow, Rows, HeldLink, no_rows, with_held, is_dead, is_allowed, Earlier, no_objects, with_rows, with_link}
use Rattle.adr_image.specs.Whole.{Parts, dead_of, no_links}
use Rattle.adr_image.specs.Ranged.{IsHeldRow, IsObjectIn, IsLinkIn, AreParts}
use Rattle.adr_image.specs.Stored.{held_of, link_of, rows_of_object, rows_of, store_of}
use Rattle.adr_image.proofs.Names.{object_itself}

-- ---- where an update comes from

unfoldable pub FromObject : List Rows → Update → Type 0
FromObject os u = (o : Rows) × Member o os × (h : HeldRow) × Member h o.1 × (u ≡ (held_of o.0 h).update)

unfoldable pub FromLink : List HeldLink → Update → Type 0
FromLink ls u = (l : HeldLink) × Member l ls × (u ≡ (link_of l).update)

pub source : (os : List Rows) (ls : List HeldLink) → Each (λ u. FromObject os u ⊎ FromLink ls u) (updates_of (rows_of (os, ls)))
unfolding FromObject FromLink
source os ls u m =
    let h = mapped_member (λ (x : Held). x.update) (rows_of (os, ls)) u m in
    ⊎_elim
    (λ a.
    let o = flat_member rows_of_object os h.0 a in
    let r = mapped_member (held_of o.0.0) o.0.1 h.0 o.2 in
    inl (o.0, o.1, r.0, r.1, h.2 ∙ ap (λ (x : Held). x.update) r.2))
    (λ b. let l = mapped_member link_of ls h.0 b in inr (l.0, l.1, h.2 ∙ ap (λ (x : Held). x.update) l.2))
    (member_of_either (flat_map rows_of_object os) (map link_of ls) h.0 h.1)

-- ---- what holds of each element that was read

pub each_along : {S E : Type 0} (step : S → E → S) (P : S → E → Type 0) (known : S) (es : List E) → Along step P known es → Each (λ e. (k : S) × P k e) es
each_along step P known [] along e m = absurd m
each_along {S} step P known (x ∷ xs) along e (inl a) = subst (λ y. (k : S) × P k y) (sym a) (known, along.0)
each_along step P known (x ∷ xs) along e (inr m) = each_along step P (step known x) xs along.1 e m

-- ---- one row

abbrev pub key_name : Key → Oid → Oid
key_name (RowOf o attr) p = o
key_name (LinkOf l) p = p

abbrev pub key_attr : Key → ℕ
key_attr (RowOf o attr) = attr
key_attr (LinkOf l) = 0

abbrev pub key_link : Key → LinkKey → LinkKey
key_link (RowOf o attr) l = l
key_link (LinkOf l) m = l

both_false : (a b c : Bool) → a ≡ false → (c && a && b) ≡ true → ⊥
both_false true b c e h = cc
both_false false b true e h = cc
both_false false b false e h = cc

pub second : (a b : Bool) → (a && b) ≡ true → b ≡ true
second true b e = e
second false b e = absurd (cc)

no_zero : (table : Table) (o : Oid) (b : Before) (s : Stamp) (c : Content) → IsContent 0 c → is_allowed table o b (0, s, c) ≡ true → ⊥
no_zero table o b s (Class n) q e = let f = q.0 in cc
no_zero table o b s (Name t p) q e = let f = q.0 in cc
no_zero table o b s Dead q e = cc
no_zero table o b s (Values vs) q e = both_false (leb 1 0) (is_none (row_refusal table b.class 0 vs)) (not b.dead) refl e

birth : (table : Table) (o : Oid) (b : Before) (s : Stamp) (c : Content) → IsContent 1 c → is_allowed table o b (1, s, c) ≡ true → carries_birth o s ≡ true
birth table o b s (Class n) q e = second (is_some (class_at table n)) (carries_birth o s) e
birth table o b s (Name t p) q e = absurd (let f = q.0 in cc)
birth table o b s Dead q e = absurd (cc)
birth table o b s (Values vs) q e = absurd (let f = q.0 in cc)

module _ (p : Parts) (q : AreParts p) where
  abbrev table : Table
  table = numbered p.schema

  abbrev us : List Update
  us = updates_of (store_of p).rows

  pub of_object : (x : Rows) → Member x p.objects → (e : Earlier) × IsObjectIn p.usn table e x
  of_object x m = each_along with_rows (IsObjectIn p.usn table) no_objects p.objects q.objects.1 x m

  pub of_row : (x : Rows) → Member x p.objects → (h : HeldRow) → Member h x.1 → (b : Before) × IsHeldRow p.usn table x.0 b h
  of_row x m h n = each_along with_held (IsHeldRow p.usn table x.0) no_rows x.1 (of_object x m).1.0.1.1 h n

  pub none : (o : Oid) → Each (λ r. r.key ≡ RowOf o 0 → ⊥) us
  unfolding FromObject FromLink
  none o r m key = ⊎_elim (λ a.
      let row = of_row a.0 a.1 a.2 a.3 in
      let zero_attr : a.2.1.0 ≡ 0 = ap key_attr (sym (ap (λ (u : Update). u.key) a.4) ∙ key) in
      no_zero table a.0.0 row.0 a.2.1.1 a.2.1.2 (subst (λ (n : ℕ). IsContent n a.2.1.2) zero_attr row.1.0.1.0.1.1) (subst (λ (n : ℕ). is_allowed table a.0.0 row.0 (n, a.2.1.1, a.2.1.2) ≡ true) zero_attr row.1.1))
      (λ b. absurd (let k = sym (ap (λ (u : Update). u.key) b.2) ∙ key in cc)) (source p.objects p.links r m)

  pub births : (o : Oid) → Each (λ r. r.key ≡ RowOf o 1 → is_birth o r ≡ true) us
  unfolding FromObject FromLink
  births o r m key = ⊎_elim (λ a.
      let row = of_row a.0 a.1 a.2 a.3 in
      let k = sym (ap (λ (u : Update). u.key) a.4) ∙ key in
      let one : a.2.1.0 ≡ 1 = ap key_attr k in
      let name : a.0.0 ≡ o = ap (λ (j : Key). key_name j o) k in
      let good = birth table a.0.0 row.0 a.2.1.1 a.2.1.2 (subst (λ (n : ℕ). IsContent n a.2.1.2) one row.1.0.1.0.1.1) (subst (λ (n : ℕ). is_allowed table a.0.0 row.0 (n, a.2.1.1, a.2.1.2) ≡ true) one row.1.1) in
      ap (λ (u : Update). is_birth o u) a.4 ∙ ap (λ (n : Oid). carries_birth n a.2.1.1) (sym name) ∙ good)
      (λ b. absurd (let k = sym (ap (λ (u : Update). u.key) b.2) ∙ key in cc)) (source p.objects p.links r m)

  -- an object that is held dead is among the dead
  among : (o : Oid) → IsTombstoned us o → is_among (dead_of p.objects) o ≡ true
  unfolding FromObject FromLink
  among o t = ⊎_elim (λ a.
      let k = sym (ap (λ (u : Update). u.key) a.4) ∙ t.2 in
      let three : a.2.1.0 ≡ 3 = ap key_attr k in
      let name : a.0.0 ≡ o = ap (λ (j : Key). key_name j o) k in
      let dead : is_dead a.0 ≡ true = one_passes (λ (h : HeldRow). eqb h.1.0 3) a.0.1 a.2 a.3 (ap (λ (n : ℕ). eqb n 3) three) in
      one_passes (λ (x : Oid). same_object x o) (dead_of p.objects) a.0.0 (member_mapped (λ (x : Rows). x.0) (filter is_dead p.objects) a.0 (in_filter is_dead p.objects a.0 a.1 dead))
      (ap (λ (x : Oid). same_object x o) name ∙ object_itself o))
      (λ b. absurd (let k = sym (ap (λ (u : Update). u.key) b.2) ∙ t.2 in cc)) (source p.objects p.links t.0 t.1)

  alive : (o : Oid) → not (is_among (dead_of p.objects) o) ≡ true → IsTombstoned us o → ⊥
  alive o e t = let d = among o t in let n = ap not d in let c : false ≡ true = sym n ∙ e in cc

  pub links : (l : LinkKey) → Each (λ r. r.key ≡ LinkOf l → IsLinkFormed table us l) us
  unfolding FromObject FromLink
  links l r m key = ⊎_elim (λ a. absurd (let k = sym (ap (λ (u : Update). u.key) a.4) ∙ key in cc)) (λ b.
      let in_range = each_along with_link (IsLinkIn p.usn table (dead_of p.objects)) (no_links p.objects) p.links q.links.1 b.0 b.1 in
      let name : b.0.1.0 ≡ l = ap (λ (j : Key). key_link j l) (sym (ap (λ (u : Update). u.key) b.2) ∙ key) in
      let formed : IsLinkFormed table us b.0.1.0 = record {
        forward = in_range.1.0.1.0.1.0.1;
        from = alive b.0.1.0.from in_range.1.0.1.0.0.1;
        to = alive b.0.1.0.to (second _ (not (is_among (dead_of p.objects) b.0.1.0.to)) in_range.1.0.1.1);
      } in
      subst (λ (k : LinkKey). IsLinkFormed table us k) name formed) (source p.objects p.links r m)
