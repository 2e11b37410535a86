-- A formed and spelled store, taken apart, is in range: it has an image.
use Rattle.std.proofs.Common.{◌≡◌, ℕ, ◌<◌, ◌≤◌, ◌^◌, Bool, true, false, cond, eqb, leb, List, [], ◌∷◌, ◌++◌, length, map, fold, Option, Some, None, refl, sym, ap, subst, ◌∙◌, inl, inr, ⊎_elim, arith}
use Rattle.std.specs.Prelude.{not, ◌&&◌, ◌⊎◌, filter, unwrap_or}
use Rattle.std.specs.List.{flat_map, list_all, AllByRecursion, cons_option}
use Rattle.std.specs.List.Sorted.{IsStrictlySortedBy}
use Rattle.std.specs.Ordering.{is_eq}
use Rattle.std.specs.BTreeSet.{insert_key}
use Rattle.std.proofs.lemmas.Bool.{eqb-true, eq-eqb, le-leb, and_from, or_cases, both_ways}
use Rattle.std.proofs.lemmas.List.{length-map}
use Rattle.std.proofs.lemmas.Cmp.{tied_itself}
use Rattle.adr_values.specs.declared.stamp.Oid.{Oid}
use Rattle.adr_values.specs.declared.stamp.LinkKey.{LinkKey}
use Rattle.adr_values.specs.declared.stamp.Unit.{Unit as Named}
use Rattle.adr_values.specs.declared.stamp.Unit.TheVariants.{Object, Link}
use Rattle.adr_values.specs.Order.{identifier_order, object_order, link_order}
use Rattle.adr_values.specs.contracts.stamp.OidOrd.TheImpl.Laws.{total-law as objects_total}
use Rattle.adr_values.specs.contracts.stamp.LinkKeyOrd.TheImpl.Laws.{total-law as links_total}
use Rattle.adr_values.proofs.ExactOrders.{exact_objects}
use Rattle.adr_values.specs.Table.{Table, has, must_of}
use Rattle.adr_values.specs.Numbered.{numbered}
use Rattle.adr_wire.specs.Reading.{is_above}
use Rattle.adr_wire.specs.Ranges.{IsId, IsMark, InTurn}
use Rattle.adr_wire.specs.Gathering.{Along}
use Rattle.adr_model.specs.Member.{Member, Each}
use Rattle.adr_model.specs.Update.{Identifier, RowOf, Update, same_object}
use Rattle.adr_model.specs.Live.{is_among, objects_of}
use Rattle.adr_model.specs.LocalLog.{IsOrdered}
use Rattle.adr_model.specs.Reflects.{IsTombstoned}
use Rattle.adr_model.specs.Serve.{last_local}
use Rattle.adr_model.specs.Store.{Held, Store, updates_of}
use Rattle.adr_model.specs.Formed.{AreRising, AreAlone, AreFormedRows, IsFormedStore}
use Rattle.adr_model.specs.Take.{mark_limit}
use Rattle.adr_model.specs.Write.{object_limit, link_limit, links_in}
use Rattle.adr_model.proofs.Keys.{objects_tell}
use Rattle.adr_model.proofs.Members.{member_right, member_mapped, of_filter, some_passes, mapped_member}
use Rattle.adr_law_tree.proofs.Rising.{keys_that_rise}
use Rattle.adr_image.specs.Image.{HeldRow, Rows, HeldLink, Marked, has_attr, is_dead, last_of, told_by, Earlier, no_objects, with_rows, is_whole, Linked, with_link}
use Rattle.adr_image.specs.Whole.{dead_of, no_links}
use Rattle.adr_image.specs.Ranged.{IsObjectIn, IsLinkIn, IsMarked, IsCount, AreParts}
use Rattle.adr_image.specs.Stored.{held_of, link_of, rows_of_object, rows_of, apart, parts_in, IsSpelledRow, IsSpelled}
use Rattle.adr_image.proofs.Names.{object_itself}
use Rattle.adr_image.proofs.Parting.{joined_again}
use Rattle.adr_image.proofs.Formed.{names, links}
use Rattle.adr_image.proofs.Alone.{AllDiffer, Differ, last_of_object, last_of_link, all_links_differ, AllDifferLinks, DifferLinks}
use Rattle.adr_image.proofs.Limits.{births, later, no_births, links_are}
use Rattle.adr_image.proofs.Taking.{apart_tidy, unchain, each_rises, links_rise, names_in_turn, NextName, split}
use Rattle.adr_image.proofs.Fitting.{IsRight, IsObjectRight, names_rise, differ, some_row, is_held, name_in_range, object_right, birth_row, FirstRow}

not_true : (b : Bool) → (b ≡ true → ⊥) → b ≡ false
not_true true h = absurd (h refl)
not_true false h = refl

abbrev is_same : LinkKey → LinkKey → Bool
is_same k l = is_eq (link_order k l)

itself : (k : LinkKey) → is_same k k ≡ true
itself k = ap is_eq (tied_itself links_total k)

abbrev Within : {A : Type 0} → List A → List A → Type 0
Within xs ys = Each (λ x. Member x ys) xs

module _ (schema usn : ℕ) (os : List Rows) (ls : List HeldLink) (r : IsRight schema usn os ls) where
  abbrev table : Table
  table = numbered schema

  abbrev rows : List Held
  rows = rows_of (os, ls)

  abbrev us : List Update
  us = updates_of rows

  abbrev of_unit : Named → ℕ
  of_unit u = last_local rows u

  objects_last : Each (λ (o : Rows). of_unit (Object o.0) ≡ last_of o.1) os
  objects_last = last_of_object os ls (differ schema usn os ls r)

  links_in_order : IsStrictlySortedBy link_order (links ls)
  links_in_order = links_rise ls (each_rises os ls r.rising).1

  links_last : Each (λ (l : HeldLink). of_unit (Link l.1.0) ≡ l.0) ls
  links_last = last_of_link os ls (all_links_differ ls links_in_order)

  link_is_held : (l : HeldLink) → Member l ls → Member (link_of l) rows
  link_is_held l m = member_right (flat_map rows_of_object os) (map link_of ls) (link_of l) (member_mapped link_of ls l m)

  abbrev name_of : Named → Oid → Oid
  name_of (Object o) p = o
  name_of (Link l) p = p

  abbrev key_of : Named → LinkKey → LinkKey
  key_of (Object o) k = k
  key_of (Link l) k = l

  same_objects : (x : Rows) → Member x os → (y : Rows) → Member y os → last_of x.1 ≡ last_of y.1 → x.0 ≡ y.0
  same_objects x m y n e =
      let h = some_row schema usn os ls r x m in
      let g = some_row schema usn os ls r y n in
      let units : Object x.0 ≡ Object y.0 = r.alone (held_of x.0 h.0) (is_held schema usn os ls r x m h.0 h.1) (held_of y.0 g.0) (is_held schema usn os ls r y n g.0 g.1) (objects_last x m ∙ e ∙ sym (objects_last y n)) in
      ap (λ (u : Named). name_of u x.0) units

  other_units : (x : Rows) → Member x os → (l : HeldLink) → Member l ls → last_of x.1 ≡ l.0 → ⊥
  other_units x m l n e =
      let h = some_row schema usn os ls r x m in
      let units : Object x.0 ≡ Link l.1.0 = r.alone (held_of x.0 h.0) (is_held schema usn os ls r x m h.0 h.1) (link_of l) (link_is_held l n) (objects_last x m ∙ e ∙ sym (links_last l n)) in
      cc

  same_links : (l : HeldLink) → Member l ls → (k : HeldLink) → Member k ls → l.0 ≡ k.0 → l.1.0 ≡ k.1.0
  same_links l m k n e =
      let units : Link l.1.0 ≡ Link k.1.0 = r.alone (link_of l) (link_is_held l m) (link_of k) (link_is_held k n) (links_last l m ∙ e ∙ sym (links_last k n)) in
      ap (λ (u : Named). key_of u l.1.0) units

  -- ---- objects, one after the other

  -- the last local USNs so far are those of objects that are none of these
  abbrev Used : List ℕ → List Rows → Type 0
  Used used xs = (n : ℕ) → has used n ≡ true → (y : Rows) × Member y os × (last_of y.1 ≡ n) × AllByRecursion (λ (x : Rows). Differ y.0 x.0) xs

  more_used : (x : Rows) (xs : List Rows) (used : List ℕ) → Member x os → AllByRecursion (λ (y : Rows). Differ x.0 y.0) xs → Used used (x ∷ xs) → Used (last_of x.1 ∷ used) xs
  more_used x xs used m apart_from u n h = ⊎_elim (λ here. (x, m, eqb-true (last_of x.1) n here, apart_from)) (λ there. let w = u n there in (w.0, w.1, w.2, w.3.1)) (or_cases (eqb (last_of x.1) n) (has used n) h)

  free : (x : Rows) (xs : List Rows) (used : List ℕ) → Member x os → Used used (x ∷ xs) → has used (last_of x.1) ≡ false
  free x xs used m u = not_true (has used (last_of x.1)) (λ h.
      let w = u (last_of x.1) h in
      let same = same_objects w.0 w.1 x m w.2 in
      both_ways (same_object w.0.0 x.0) w.3.0.0 (ap (same_object w.0.0) (sym same) ∙ object_itself w.0.0))

  whole_object : (used : List ℕ) (x : Rows) → IsObjectRight schema usn os ls r x → has used (last_of x.1) ≡ false → is_whole table used x.1 ≡ true
  whole_object used x w unused =
      let full = cond (has_attr 3 x.1) true (list_all (λ attr. has_attr attr x.1) (must_of table (unwrap_or (told_by x.1).class 0))) in
      and_from (has_attr 1 x.1 && has_attr 2 x.1 && full) (not (has used (last_of x.1)))
      (and_from (has_attr 1 x.1 && has_attr 2 x.1) full (and_from (has_attr 1 x.1) (has_attr 2 x.1) w.classed w.named) w.whole) (ap not unused)

  objects_along : (e : Earlier) (xs : List Rows) → Within xs os → InTurn (λ (o : Rows). o.0) NextName e.last xs → AllDiffer xs → Used e.used xs → Along with_rows (IsObjectIn usn table) e xs
  objects_along e [] within turn d used = tt
  objects_along e (x ∷ xs) within turn d used =
      let m = within x (inl refl) in
      let w = object_right schema usn os ls r x m in (
        (((name_in_range schema usn os ls r x m, turn.0), w.rows), whole_object e.used x w (free x xs e.used m used)),
        objects_along (with_rows e x) xs (λ y i. within y (inr i)) turn.1 d.1 (more_used x xs e.used m d.0 used),
      )

  none_used : (xs : List Rows) → Used [] xs
  none_used xs n h = absurd (cc)

  all_objects : Along with_rows (IsObjectIn usn table) no_objects os
  all_objects = objects_along no_objects os (λ x m. m) (names_in_turn os ls r.tidy r.rising) (differ schema usn os ls r) (none_used os)

  -- ---- links, one after the other

  abbrev OfObject : ℕ → Type 0
  OfObject n = (y : Rows) × Member y os × (last_of y.1 ≡ n)

  abbrev OfLink : List HeldLink → ℕ → Type 0
  OfLink xs n = (k : HeldLink) × Member k ls × (k.0 ≡ n) × AllByRecursion (λ (l : HeldLink). DifferLinks k.1.0 l.1.0) xs

  abbrev Taken : List ℕ → List HeldLink → Type 0
  Taken used xs = (n : ℕ) → has used n ≡ true → OfObject n ⊎ OfLink xs n

  more_taken : (l : HeldLink) (xs : List HeldLink) (used : List ℕ) → Member l ls → AllByRecursion (λ (k : HeldLink). DifferLinks l.1.0 k.1.0) xs → Taken used (l ∷ xs) → Taken (l.0 ∷ used) xs
  more_taken l xs used m apart_from u n h = ⊎_elim (λ here. inr (l, m, eqb-true l.0 n here, apart_from)) (λ there. ⊎_elim (λ a. inl a) (λ b. inr (b.0, b.1, b.2, b.3.1)) (u n there)) (or_cases (eqb l.0 n) (has used n) h)

  free_link : (l : HeldLink) (xs : List HeldLink) (used : List ℕ) → Member l ls → Taken used (l ∷ xs) → has used l.0 ≡ false
  free_link l xs used m u = not_true (has used l.0) (λ h. ⊎_elim (λ a. other_units a.0 a.1 l m a.2) (λ b.
      let same = same_links b.0 b.1 l m b.2 in
      both_ways (is_same b.0.1.0 l.1.0) b.3.0.0 (ap (is_same b.0.1.0) (sym same) ∙ itself b.0.1.0)) (u l.0 h))

  after_objects : (e : Earlier) (xs : List Rows) → Within xs os → ((n : ℕ) → has e.used n ≡ true → OfObject n) → (n : ℕ) → has (fold with_rows e xs).used n ≡ true → OfObject n
  after_objects e [] within u n h = u n h
  after_objects e (x ∷ xs) within u n h =
      after_objects (with_rows e x) xs (λ y i. within y (inr i))
      (λ k g. ⊎_elim (λ here. (x, within x (inl refl), eqb-true (last_of x.1) k here)) (λ there. u k there) (or_cases (eqb (last_of x.1) k) (has e.used k) g)) n h

  first_taken : Taken (no_links os).used ls
  first_taken n h = inl (after_objects no_objects os (λ x m. m) (λ k g. absurd (cc)) n h)

  not_dead : (o : Oid) → (IsTombstoned us o → ⊥) → is_among (dead_of os) o ≡ false
  not_dead o alive = not_true (is_among (dead_of os) o) (λ h.
      let d = some_passes (λ (p : Oid). same_object p o) (dead_of os) h in
      let w = mapped_member (λ (x : Rows). x.0) (filter is_dead os) d.0 d.1 in
      let x = of_filter is_dead os w.0 w.1 in
      let row = some_passes (λ (y : HeldRow). eqb y.1.0 3) w.0.1 x.1 in
      let held = member_mapped (λ (y : Held). y.update) rows (held_of w.0.0 row.0) (is_held schema usn os ls r w.0 x.0 row.0 row.1) in
      let name : w.0.0 ≡ o = sym w.2 ∙ objects_tell d.0 o d.2 in
      alive ((held_of w.0.0 row.0).update, held, ap (RowOf w.0.0) (eqb-true row.0.1.0 3 row.2) ∙ ap (λ (p : Oid). RowOf p 3) name))

  links_along : (k : Linked) (xs : List HeldLink) → Within xs ls → InTurn (λ (l : HeldLink). l.1.0) (λ last l. is_above link_order last l.1.0 ≡ true) k.last xs → AllDifferLinks xs → Taken k.used xs → Along with_link (IsLinkIn usn table (dead_of os)) k xs
  links_along k [] within turn d used = tt
  links_along k (l ∷ xs) within turn d used =
      let m = within l (inl refl) in
      let held = link_is_held l m in
      let s = r.spelled (link_of l) held in
      let n = r.locals (link_of l) held in
      let fits = r.small in
      let f = r.rows.links l.1.0 (link_of l).update (member_mapped (λ (y : Held). y.update) rows (link_of l) held) refl in (
        (
          (
            (((n.0, omega (arith, n.1, fits)), le-leb l.0 usn n.1), ap not (free_link l xs k.used m used)),
            (((s.0, ap not (not_dead l.1.0.from f.from)), ((s.1, f.forward), s.2)), and_from (is_above link_order k.last l.1.0) (not (is_among (dead_of os) l.1.0.to)) turn.0 (ap not (not_dead l.1.0.to f.to))),
          ),
          (s.3, s.4),
        ),
        links_along (with_link k l) xs (λ y i. within y (inr i)) turn.1 d.1 (more_taken l xs k.used m d.0 used),
      )

  all_links : Along with_link (IsLinkIn usn table (dead_of os)) (no_links os) ls
  all_links = links_along (no_links os) ls (λ l m. m) (unchain link_order (λ (l : HeldLink). l.1.0) None ls links_in_order tt) (all_links_differ ls links_in_order) first_taken

  -- ---- counts

  all_births : (xs : List Rows) → Each FirstRow xs → births (rows_of (xs, ls)) ≡ names xs
  all_births [] first = no_births ls
  all_births (x ∷ xs) first =
      let c = first x (inl refl) in
      let rest = all_births xs (λ y m. first y (inr m)) in
      ap births (split x xs ls) ∙ ap (λ (hs : List HeldRow). births (map (held_of x.0) hs ++ rows_of (xs, ls))) c.first
      ∙ ap (λ (b : Bool). cons_option (cond b (Some x.0) None) (births (map (held_of x.0) c.rest ++ rows_of (xs, ls)))) (eq-eqb c.row.1.0 1 c.one)
      ∙ ap (λ (ps : List Oid). x.0 ∷ ps) (later x.0 c.rest (rows_of (xs, ls)) c.above ∙ rest)

  pub births_are : length (births rows) ≡ length os
  births_are = ap (λ (ps : List Oid). length ps) (all_births os (birth_row schema usn os ls r)) ∙ length-map os (λ (o : Rows). o.0)

  pub objects_are : length (objects_of us) ≡ length os
  objects_are =
      ap (λ (ps : List Oid). length (fold (insert_key object_order) [] ps)) (all_births os (birth_row schema usn os ls r))
      ∙ ap (λ (ps : List Oid). length ps) (keys_that_rise object_order objects_total exact_objects (names os) (names_rise schema usn os ls r)) ∙ length-map os (λ (o : Rows). o.0)

count_fits : (n most : ℕ) → n ≤ most → most < 2 ^ 32 → IsCount most n
count_fits n most le small = (omega (arith, le, small), le-leb n most le)

marked : (last : Option Identifier) (ks : List Marked) → InTurn (λ (k : Marked). k.0) (λ l k. is_above identifier_order l k.0 ≡ true) last ks
    → Each (λ (k : Marked). IsId k.0 × (IsId k.1.inv × IsMark k.1.mark)) ks → Each (λ (k : Marked). IsOrdered k.1.mark) ks → InTurn (λ (k : Marked). k.0) IsMarked last ks
marked last [] turn spelled ordered = tt
marked last (k ∷ ks) turn spelled ordered =
    let s = spelled k (inl refl) in
    let o = ordered k (inl refl) in (
      ((s.0, turn.0), (s.1.0, (s.1.1, and_from (leb k.1.mark.prop k.1.mark.obj) (leb k.1.mark.obj k.1.mark.seen) (le-leb k.1.mark.prop k.1.mark.obj o.prop) (le-leb k.1.mark.obj k.1.mark.seen o.obj)))),
      marked (Some k.0) ks turn.1 (λ x m. spelled x (inr m)) (λ x m. ordered x (inr m)),
    )

module _ (s : Store) (f : IsFormedStore s) (q : IsSpelled s) where
  abbrev pub os : List Rows
  os = (apart s.rows).0

  abbrev pub ls : List HeldLink
  ls = (apart s.rows).1

  pub same_rows : rows_of (os, ls) ≡ s.rows
  same_rows = joined_again s.rows f.rising q.rows

  right : IsRight s.schema s.usn os ls
  right = record {
    small = q.usn;
    tidy = apart_tidy s.rows;
    rising = subst AreRising (sym same_rows) f.rising;
    locals = subst (Each (λ (h : Held). (1 ≤ h.local) × (h.local ≤ s.usn))) (sym same_rows) f.locals;
    alone = subst AreAlone (sym same_rows) f.alone;
    rows = subst (λ (hs : List Held). AreFormedRows (numbered s.schema) (updates_of hs)) (sym same_rows) f.rows;
    spelled = subst (Each (λ (h : Held). IsSpelledRow h.update.key h.update.said h.update.stamp)) (sym same_rows) q.rows;
    classes = subst (Each _) (sym same_rows) q.classes;
  }

  pub births_counted : length (births s.rows) ≡ length os
  births_counted = ap (λ (hs : List Held). length (births hs)) (sym same_rows) ∙ births_are s.schema s.usn os ls right

  pub few_objects : length os ≤ object_limit
  few_objects = let a = objects_are s.schema s.usn os ls right in let b = ap (λ (hs : List Held). length (objects_of (updates_of hs))) same_rows in let c = f.limits.objects in omega (arith, a, b, c)

  pub few_links : length ls ≤ link_limit
  few_links = let a = links_are os ls in let b = ap links_in same_rows in let c = f.limits.links in omega (arith, a, b, c)

  pub in_range : AreParts (parts_in s)
  in_range = record {
    schema = q.schema;
    usn = q.usn;
    seen = record { cursors = (f.vector, q.vector); times = f.times; moments = q.times };
    purged = ((f.purged, q.purged), f.purged_within);
    marks = (count_fits (length s.marks) mark_limit f.limits.marks (omega arith), marked None s.marks (unchain identifier_order (λ (k : Marked). k.0) None s.marks q.partners tt) q.marks f.marks);
    objects = (count_fits (length os) object_limit few_objects (omega arith), all_objects s.schema s.usn os ls right);
    links = (count_fits (length ls) link_limit few_links (omega arith), all_links s.schema s.usn os ls right);
  }

  pub objects_counted : length (objects_of (updates_of s.rows)) ≡ length os
  objects_counted = ap (λ (hs : List Held). length (objects_of (updates_of hs))) (sym same_rows) ∙ objects_are s.schema s.usn os ls right
