-- Where the forms after a change are asked of what it touches alone, they hold of all.
use Rattle.std.proofs.Common.{◌≡◌, ◌⊎◌, inl, inr, ⊎_elim, ℕ, ◌≤◌, List, [], ◌∷◌, true, IsSome, refl, sym, ap, ◌∙◌, subst, map, arith}
use Rattle.adr_values.specs.declared.stamp.Oid.{Oid}
use Rattle.adr_values.specs.declared.stamp.LinkKey.{LinkKey}
use Rattle.adr_values.specs.declared.stamp.Unit.TheVariants.{Object, Link}
use Rattle.adr_values.specs.Numbered.{numbered}
use Rattle.adr_values.specs.Table.{Table, class_at, kind_at, is_forward}
use Rattle.adr_values.specs.declared.content.Content.TheVariants.{Class}
use Rattle.adr_values.specs.Vector.{IsVector, at, joined}
use Rattle.adr_values.proofs.Cursors.{IsRising, FromOne}
use Rattle.adr_values.proofs.Comparing.{everywhere_from_at_most, at_most_from_everywhere}
use Rattle.adr_values.proofs.Joining.{at-joined, raised_here, rising-raised, from_one-raised, rising-joined, from_one-joined}
use Rattle.adr_model.specs.Member.{Member, Each}
use Rattle.adr_model.specs.Update.{Key, Update, LinkOf, RowOf, Holds, unit_of, class_attr}
use Rattle.adr_model.specs.Reflects.{AtMost, HoldsObject}
use Rattle.adr_model.specs.Store.{Held, PartnerMark, State, updates_of}
use Rattle.adr_model.specs.Change.{Change, Written, held_of, rows_after, after}
use Rattle.adr_model.specs.Formed.{AreFormedRows, IsLinkFormed, IsFormedStore, IsFormed}
use Rattle.adr_model.specs.LocalLog.{IsOrdered}
use Rattle.adr_model.proofs.Members.{flat_member, mapped_member}
use Rattle.adr_law_knowledge.proofs.Fewer.{no_more_cursors}
use Rattle.adr_law_knowledge.proofs.Raised.{raised_up}
use Rattle.adr_law_calls.proofs.Leaving.{each_mark}
use Rattle.adr_law_calls.proofs.Units.{change_from}
use Rattle.adr_law_calls.specs.Puts.{held_at}
use Rattle.adr_law_calls.proofs.Rows.{updated, held_as}
use Rattle.adr_law_calls.proofs.Locals.{unit_or_not}
use Rattle.adr_law_calls.proofs.FormedSame.{named_same, object_same}
use Rattle.adr_law_knowledge.proofs.RisingHeld.{removals_rise}
use Rattle.adr_law_calls.proofs.Removing.{stood_before, update_stood, update_stands, removed_is_absent, row_of_tells, stay_alone}
use Rattle.adr_law_calls.proofs.RemovingSizes.{objects_fewer, links_fewer}
use Rattle.adr_model.specs.Spelled.{IsSaidOfKey}
use Rattle.adr_law_calls.specs.Follow.{AreWithinLimits, HasKnownClasses, CanFollow}
use Rattle.adr_model.specs.Sound.{AreClassesKnown}
use Rattle.adr_values.proofs.Moments.{times_join}
use Rattle.adr_law_calls.proofs.Still.{upgraded_follows}
use Rattle.adr_law_calls.specs.Touched.{AreTouchedInForm, IsInForm, CanFollowByTouched}
use Rattle.adr_law_calls.proofs.Passing.{IsUntouched, IsInOrder, ArePassed, all_pass}

-- an object is written to, or isn't
touched_or_not : (ws : List Written) (q : Oid)
    → ((w : Written) × Member w ws × (w.item.unit ≡ Object q)) ⊎ IsUntouched ws q
touched_or_not [] q = inr (λ w m. absurd m)
touched_or_not (w ∷ ws) q = by (unit_or_not w.item.unit (Object q)) (touched_or_not ws q)
  where
    by : (w.item.unit ≡ Object q) ⊎ (w.item.unit ≡ Object q → ⊥)
        → ((v : Written) × Member v ws × (v.item.unit ≡ Object q)) ⊎ IsUntouched ws q
        → ((v : Written) × Member v (w ∷ ws) × (v.item.unit ≡ Object q)) ⊎ IsUntouched (w ∷ ws) q
    by (inl e) rest = inl (w, inl refl, e)
    by (inr other) (inl (v, m, e)) = inl (v, inr m, e)
    by (inr other) (inr none) = inr
        (λ v m e. ⊎_elim (λ is. other (ap (λ (z : Written). z.item.unit) (sym is) ∙ e)) (λ n. none v n e) m)

module _ (s : State) (c : Change) (formed : IsFormed s) (known : HasKnownClasses s)
    (f : CanFollowByTouched s c) (same : c.schema ≡ s.store.schema) where
  abbrev table : Table
  table = numbered s.store.schema

  touched : AreTouchedInForm table (updates_of (after s c).store.rows) c
  touched = subst (λ n. AreTouchedInForm (numbered n) (updates_of (after s c).store.rows) c) same f.touched

  abbrev d : State
  d = after s c

  abbrev before : List Held
  before = s.store.rows

  abbrev written : List Held
  written = rows_after [] (held_of c.writes) before

  abbrev now : List Held
  now = d.store.rows

  starts : IsInOrder before s.store.usn
  starts = record {
    rising = formed.store.rising;
    alone = formed.store.alone;
    locals = formed.store.locals;
    live = λ r m l is. let k = formed.store.rows.links l r m is in (k.from, k.to);
  }

  passed : ArePassed before written c.writes c.usn
  passed = all_pass table s.store.vector c.writes before s.store.usn c.usn starts f.goes_on.rises f.goes_on.writes f.goes_on.locals

  stood : (r : Update) → Member r (updates_of now) → Member r (updates_of written)
  stood r m = update_stood c.removed written r m

  -- ---- objects

  module _ (q : Oid) (none : IsUntouched c.writes q) where
    back : (r : Update) (attr : ℕ) → r.key ≡ RowOf q attr → Member r (updates_of now)
        → Member r (updates_of before)
    back r attr is m = (passed.same q none).back r attr is (stood r m)

    to : HoldsObject (updates_of now) q → (r : Update) (attr : ℕ) → r.key ≡ RowOf q attr
        → Member r (updates_of before) → Member r (updates_of now)
    to held r attr is m = update_stands c.removed written r ((passed.same q none).to r attr is m)
        (λ p n row. removed_is_absent c.removed written p n (subst (HoldsObject (updates_of now)) (row_of_tells q p attr r.key is row) held))

    held_before : HoldsObject (updates_of now) q → HoldsObject (updates_of before) q
    held_before (r, attr, m, is) = (r, attr, back r attr is m, is)

    untouched_formed : IsInForm table (updates_of now) q
    untouched_formed = record {
      none = λ r m is. formed.store.rows.none q r (back r 0 is m) is;
      births = λ r m is. formed.store.rows.births q r (back r class_attr is m) is;
      classes = λ r m is class says. known r (back r class_attr is m) class says;
      named = λ h. named_same (updates_of before) (updates_of now) q (to h)
          (formed.store.rows.named q (held_before h));
      formed = λ h. object_same (updates_of before) (updates_of now) q (to h) back table
          (formed.store.rows.objects q (held_before h));
    }

  unit_formed : (q : Oid) → IsInForm table (updates_of now) q
  unit_formed q = ⊎_elim (λ t. touched.objects t.0 t.1 q t.2) (λ none. untouched_formed q none)
      (touched_or_not c.writes q)

  -- ---- links

  -- a row that is written is of the unit of its write
  of_write : (x : Held) → Member x (held_of c.writes)
      → (w : Written) × Member w c.writes × (unit_of x.update.key ≡ w.item.unit)
  of_write x m =
      let t = flat_member (λ (w : Written). map (held_at w.local) w.item.rows) c.writes x m in
      let u = mapped_member (held_at t.0.local) t.0.item.rows x t.2 in
      (t.0, t.1, ap (λ (h : Held). unit_of h.update.key) u.2 ∙ (passed.spelled t.0 t.1).of_unit u.0 u.1)

  forward : (r : Update) (l : LinkKey) → Member r (updates_of now) → r.key ≡ LinkOf l
      → is_forward (kind_at table l.attr) ≡ true
  forward r l m is = let h = held_as now r m in by h (change_from c.removed (held_of c.writes) before h.0 h.1)
    where
      by : (h : (h : Held) × Member h now × (r ≡ h.update))
          → Member h.0 (held_of c.writes) ⊎ Member h.0 before → is_forward (kind_at table l.attr) ≡ true
      by h (inl new) =
          let w = of_write h.0 new in
          let unit : w.0.item.unit ≡ Link l = sym w.2 ∙ ap (λ (u : Update). unit_of u.key) (sym h.2) ∙ ap unit_of is in
          touched.links w.0 w.1 l unit r m is
      by h (inr old) = (formed.store.rows.links l r (subst (λ u. Member u (updates_of before)) (sym h.2) (updated before h.0 old)) is).forward

  links : (l : LinkKey)
      → Each (λ r. r.key ≡ LinkOf l → IsLinkFormed table (updates_of now) l) (updates_of now)
  links l r m is =
      let live = passed.order.live r (stood r m) l is in
      record { forward = forward r l m is; from = λ t. live.0 (t.0, stood t.0 t.1, t.2); to = λ t. live.1 (t.0, stood t.0 t.1, t.2) }

  -- ---- classes

  -- a row that says a class stood before, or was written and is the class row of its object
  classes : AreClassesKnown table (updates_of now)
  classes r m class says = let h = held_as now r m in by h
      (change_from c.removed (held_of c.writes) before h.0 h.1)
    where
      of_key : (w : Written) → Member w c.writes → unit_of r.key ≡ w.item.unit → (k : Key) → r.key ≡ k
          → IsSaidOfKey k (Holds (Class class)) → IsSome (class_at table class)
      of_key w n unit (RowOf o attr) is of = (touched.objects w n o (sym unit ∙ ap unit_of is)).classes r m
          (is ∙ ap (λ a. RowOf o a) of) class says
      of_key w n unit (LinkOf l) is of = absurd of

      written_so : (x : Held) → r ≡ x.update → Member x (held_of c.writes) → IsSome (class_at table class)
      written_so x same new =
          let t = flat_member (λ (w : Written). map (held_at w.local) w.item.rows) c.writes x new in
          let u = mapped_member (held_at t.0.local) t.0.item.rows x t.2 in
          let e : r ≡ u.0 = same ∙ ap (λ (h : Held). h.update) u.2 in
          let form = passed.spelled t.0 t.1 in
          of_key t.0 t.1 (ap (λ (v : Update). unit_of v.key) e ∙ form.of_unit u.0 u.1) r.key refl
          (subst (IsSaidOfKey r.key) says (subst (λ (v : Update). IsSaidOfKey v.key v.said) (sym e) (form.says u.0 u.1)))

      by : (h : (h : Held) × Member h now × (r ≡ h.update))
          → Member h.0 (held_of c.writes) ⊎ Member h.0 before → IsSome (class_at table class)
      by h (inl new) = written_so h.0 h.2 new
      by h (inr old) = known r
          (subst (λ u. Member u (updates_of before)) (sym h.2) (updated before h.0 old)) class says

  rows : AreFormedRows table (updates_of now)
  rows = record {
    none = λ o. (unit_formed o).none;
    named = λ o. (unit_formed o).named;
    births = λ o. (unit_formed o).births;
    objects = λ o. (unit_formed o).formed;
    links = links;
  }

  -- ---- vectors

  vector : IsVector d.store.vector
  vector = record {
    rising = rising-raised (joined s.store.vector c.joined) s.inv c.usn
        (rising-joined c.joined s.store.vector formed.store.vector.rising);
    from_one = from_one-raised (joined s.store.vector c.joined) s.inv c.usn
        (from_one-joined c.joined s.store.vector formed.store.vector.from_one);
    few = f.cursors;
  }

  higher : AtMost (at s.store.vector) (at d.store.vector)
  higher i = omega
      (arith, at-joined c.joined s.store.vector i f.goes_on.joined.rising, raised_up (joined s.store.vector c.joined) s.inv c.usn i)

  carried : AtMost (at c.joined) (at d.store.vector)
  carried i = omega
      (arith, at-joined c.joined s.store.vector i f.goes_on.joined.rising, raised_up (joined s.store.vector c.joined) s.inv c.usn i)

  purged_within : AtMost (at d.store.purged) (at d.store.vector)
  purged_within i = omega
      (arith, at-joined c.purged s.store.purged i f.goes_on.purged.rising, everywhere_from_at_most s.store.purged s.store.vector formed.store.purged_within i, higher i, f.within i)

  purged : IsVector d.store.purged
  purged = record {
    rising = rise;
    from_one = one;
    few = omega
        (arith, f.cursors, no_more_cursors d.store.vector d.store.purged rise one vector.rising (λ i some. omega (arith, some, purged_within i)));
  }
    where
      rise : IsRising d.store.purged
      rise = rising-joined c.purged s.store.purged formed.store.purged.rising

      one : FromOne d.store.purged
      one = from_one-joined c.purged s.store.purged formed.store.purged.from_one

  few : AreWithinLimits written
  few = passed.few (formed.store.limits.objects, formed.store.limits.links)

  store : IsFormedStore d.store
  store = record {
    vector = vector;
    times = times_join s.store.vector c.joined d.store.vector s.store.times c.times higher carried formed.store.times f.goes_on.times;
    purged = purged;
    purged_within = at_most_from_everywhere d.store.purged d.store.vector purged.rising purged_within;
    marks = each_mark (λ (k : PartnerMark). IsOrdered k.mark) c.mark s.store.marks f.goes_on.mark formed.store.marks;
    rising = removals_rise c.removed written passed.order.rising;
    locals = λ h m. passed.order.locals h (stood_before c.removed written h m);
    alone = stay_alone c.removed written passed.order.alone;
    rows = subst (λ n. AreFormedRows (numbered n) (updates_of now)) (sym same) rows;
    limits = record {
      objects = omega (arith, objects_fewer c.removed written, few.0);
      links = omega (arith, links_fewer c.removed written passed.order.rising, few.1);
      marks = f.marks;
    };
  }

  own : at d.store.vector s.inv ≡ c.usn
  own =
      let here = raised_here (joined s.store.vector c.joined) s.inv c.usn in
      let both = at-joined c.joined s.store.vector s.inv f.goes_on.joined.rising in
      omega (arith, here, both, formed.own, f.goes_on.rises, f.own)

  follows : CanFollow s c
  follows = record {
    goes_on = f.goes_on;
    formed = record { store = store; own = own };
    classes = subst (λ n. AreClassesKnown (numbered n) (updates_of now)) (sym same) classes;
  }

pub touched_is_enough : (s : State) (c : Change) → IsFormed s → HasKnownClasses s → CanFollowByTouched s c
    → CanFollow s c
touched_is_enough s c formed known f = ⊎_elim (λ same. follows s c formed known f same)
    (λ is. subst (CanFollow s) (sym is) (upgraded_follows s formed known f.goes_on.normal)) f.goes_on.schema

pub touched_is_asked : (s : State) (c : Change) → IsFormed s → CanFollow s c → CanFollowByTouched s c
touched_is_asked s c formed f = record {
  goes_on = f.goes_on;
  touched = record {
    objects = λ w m o e. record { none = f.formed.store.rows.none o; births = f.formed.store.rows.births o; classes = λ r n is. f.classes r n; named = f.formed.store.rows.named o; formed = f.formed.store.rows.objects o };
    links = λ w m l e r n is. (f.formed.store.rows.links l r n is).forward;
  };
  own = own;
  within = λ i. omega
      (arith, at-joined c.purged s.store.purged i f.goes_on.purged.rising, everywhere_from_at_most (after s c).store.purged (after s c).store.vector f.formed.store.purged_within i);
  cursors = f.formed.store.vector.few;
  marks = f.formed.store.limits.marks;
}
  where
    own : at c.joined s.inv ≤ c.usn
    own =
        let here = raised_here (joined s.store.vector c.joined) s.inv c.usn in
        let both = at-joined c.joined s.store.vector s.inv f.goes_on.joined.rising in
        omega (arith, here, both, f.formed.own)
