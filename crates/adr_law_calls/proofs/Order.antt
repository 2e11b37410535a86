-- Rows stay in order where rows of one unit are put, and no two units come to share their last local USN.
use Rattle.std.proofs.Common.{◌≡◌, ◌⊎◌, inl, inr, ⊎_elim, ℕ, ◌≤◌, ◌<◌, List, [], ◌∷◌, Bool, true, false, refl, sym, ap, ◌∙◌, subst, arith, fold, if◌then◌else◌}
use Rattle.std.specs.Prelude.{nat_lt}
use Rattle.adr_values.specs.declared.stamp.Oid.{Oid}
use Rattle.adr_values.specs.declared.stamp.Unit.{Unit as Named}
use Rattle.adr_values.specs.declared.stamp.Unit.TheVariants.{Object}
use Rattle.adr_model.specs.Member.{Member, Each}
use Rattle.adr_model.specs.Update.{Key, RowOf, LinkOf, Update, same_object, unit_of, deleted_attr}
use Rattle.adr_model.specs.Reflects.{Numbers}
use Rattle.adr_model.specs.Store.{Held, updates_of}
use Rattle.adr_model.specs.Serve.{last_local}
use Rattle.adr_model.specs.Change.{goes_with, put, rows_after}
use Rattle.adr_model.specs.Formed.{AreRising, AreAlone}
use Rattle.adr_model.proofs.Members.{mapped_member}
use Rattle.adr_model.proofs.Keys.{objects_tell}
use Rattle.adr_law_calls.specs.Puts.{held_at, under, MayPut, IsReplaced, IsStripped, ArePut}
use Rattle.adr_law_calls.proofs.Locals.{unit_or_not, within_last, last_within, same_last}
use Rattle.adr_law_knowledge.proofs.RisingHeld.{removals_rise, put_rises}

pub puts_rise : (rows hs : List Held) → AreRising rows → AreRising (fold put rows hs)
puts_rise rows [] r = r
puts_rise rows (h ∷ hs) r = puts_rise (put rows h) hs (put_rises rows h r)

pub rows_rise : (removed : List Oid) (writes rows : List Held) → AreRising rows → AreRising (rows_after removed writes rows)
rows_rise removed writes rows r = removals_rise removed (fold put rows writes) (puts_rise rows writes r)

-- ---- last local USNs

-- what goes with an object and isn't of it is a link, and goes whole
pub goes_whole : (o : Oid) (k l : Key) → goes_with o k ≡ true → unit_of k ≡ unit_of l → (unit_of l ≡ Object o → ⊥) → goes_with o l ≡ true
goes_whole o (RowOf p a) (RowOf q b) g e other = by (same_object p o) refl g
  where
    by : (t : Bool) → same_object p o ≡ t → (if t then nat_lt deleted_attr a else false) ≡ true → goes_with o (RowOf q b) ≡ true
    by true is h = absurd (other (sym e ∙ ap Object (objects_tell p o is)))
    by false is h = cc
goes_whole o (RowOf p a) (LinkOf m) g e other = absurd (cc)
goes_whole o (LinkOf m) (RowOf p a) g e other = absurd (cc)
goes_whole o (LinkOf m) (LinkOf n) g e other = let same : m ≡ n = cc in subst (λ x. goes_with o (LinkOf x) ≡ true) same g

module _ (last usn : ℕ) (before after : List Held) (unit : Named) (us : List Update)
    (within : Each (λ x. x.local ≤ last) before) (new : last < usn) (of_unit : Each (λ u. unit_of u.key ≡ unit) us) (are : ArePut usn us before after) where
  put_unit : (x : Held) → Member x (under usn us) → unit_of x.update.key ≡ unit
  put_unit x m = let u = mapped_member (held_at usn) us x m in ap (λ (h : Held). unit_of h.update.key) u.2 ∙ of_unit u.0 u.1

  -- a row is put, or stood before
  whence : (x : Held) → Member x after → ((unit_of x.update.key ≡ unit) × (x.local ≡ usn)) ⊎ Member x before
  whence x m = ⊎_elim
      (λ n. let u = mapped_member (held_at usn) us x n in inl (ap (λ (h : Held). unit_of h.update.key) u.2 ∙ of_unit u.0 u.1, ap (λ (h : Held). h.local) u.2))
      (λ n. inr n)
      (are.from x m)

  -- the unit that is put comes last
  comes_last : (u : Update) → Member u us → last_local after unit ≡ usn
  comes_last u m = omega (
    arith,
    within_last unit after (held_at usn u) (are.written u m) (of_unit u m),
    last_within unit after usn (λ y n e. ⊎_elim (λ t. omega (arith, t.1)) (λ i. omega (arith, within y i, new)) (whence y n)),
  )

  -- another unit, of which a row stands, has the rows that it had
  other_stays : (h : Held) → Member h after → (unit_of h.update.key ≡ unit → ⊥) → last_local after (unit_of h.update.key) ≡ last_local before (unit_of h.update.key)
  other_stays h m other = same_last (unit_of h.update.key) after before
      (λ x n e. ⊎_elim (λ t. absurd (other (sym e ∙ t.0))) (λ i. i) (whence x n))
      (λ x n e. by x e (are.kept x n))
    where
      by : (x : Held) → unit_of x.update.key ≡ unit_of h.update.key → IsReplaced us x ⊎ (IsStripped us x ⊎ Member x after) → Member x after
      by x e (inl (u, n, same)) = absurd (other (sym e ∙ ap unit_of (sym same) ∙ of_unit u n))
      by x e (inr (inl (d, o, n, is, g))) =
          let goes : goes_with o h.update.key ≡ true = goes_whole o x.update.key h.update.key g e (λ same. other (same ∙ ap unit_of (sym is) ∙ of_unit d n)) in
          absurd (⊎_elim (λ i. other (put_unit h i)) (λ f. let stays : goes_with o h.update.key ≡ false = f in cc) (are.bare d n o is h m))
      by x e (inr (inr n)) = n

  -- where nothing is put all stays
  all_stays : us ≡ [] → (w : Named) → last_local after w ≡ last_local before w
  all_stays none w = same_last w after before (λ x n e. stood x (are.from x n)) (λ x n e. stands x (are.kept x n))
    where
      nothing : (u : Update) → Member u us → ⊥
      nothing u m = subst (λ (vs : List Update). Member u vs) none m

      stood : (x : Held) → Member x (under usn us) ⊎ Member x before → Member x before
      stood x (inl n) = let u = mapped_member (held_at usn) us x n in absurd (nothing u.0 u.1)
      stood x (inr n) = n

      stands : (x : Held) → IsReplaced us x ⊎ (IsStripped us x ⊎ Member x after) → Member x after
      stands x (inl t) = absurd (nothing t.0 t.1)
      stands x (inr (inl t)) = absurd (nothing t.0 t.2)
      stands x (inr (inr n)) = n

  -- a row that stands is of the unit that comes last, or stood before and its unit's last local USN stays
  abbrev Stands : Held → Type 0
  Stands h = ((unit_of h.update.key ≡ unit) × (last_local after (unit_of h.update.key) ≡ usn)) ⊎ (Member h before × (last_local after (unit_of h.update.key) ≡ last_local before (unit_of h.update.key)))

  how_it_stands : (h : Held) → Member h after → Stands h
  how_it_stands h m = by us refl
    where
      by : (vs : List Update) → us ≡ vs → Stands h
      by [] none = inr (⊎_elim (λ n. absurd (let u = mapped_member (held_at usn) us h n in subst (λ (ws : List Update). Member u.0 ws) none u.1)) (λ n. n) (are.from h m), all_stays none (unit_of h.update.key))
      by (v ∷ vs) some = on (unit_or_not (unit_of h.update.key) unit)
        where
          on : (unit_of h.update.key ≡ unit) ⊎ (unit_of h.update.key ≡ unit → ⊥) → Stands h
          on (inl e) = inl (e, ap (last_local after) e ∙ comes_last v (subst (λ (ws : List Update). Member v ws) (sym some) (inl refl)))
          on (inr other) = inr (⊎_elim (λ t. absurd (other t.0)) (λ n. n) (whence h m), other_stays h m other)

  pub stay_alone : AreAlone before → AreAlone after
  stay_alone alone h m g n e = by (how_it_stands h m) (how_it_stands g n)
    where
      old : (x : Held) → Member x before → last_local before (unit_of x.update.key) ≤ last
      old x i = last_within (unit_of x.update.key) before last (λ y j _. within y j)

      by : Stands h → Stands g → unit_of h.update.key ≡ unit_of g.update.key
      by (inl s) (inl t) = s.0 ∙ sym t.0
      by (inl s) (inr t) = absurd (omega (arith, s.1, t.1, e, old g t.0, new))
      by (inr s) (inl t) = absurd (omega (arith, s.1, t.1, e, old h s.0, new))
      by (inr s) (inr t) = alone h s.0 g t.0 (sym s.1 ∙ e ∙ t.1)

pub puts_stay_alone : (last usn : ℕ) (before after : List Held) (V : Numbers) (unit : Named) (us : List Update) → AreAlone before → Each (λ x. x.local ≤ last) before → last < usn
    → MayPut (updates_of before) V unit us → ArePut usn us before after → AreAlone after
puts_stay_alone last usn before after V unit us alone within new may are = stay_alone last usn before after unit us within new may.of_unit are alone

-- local USNs stay between one and the last one
pub puts_stay_within : (last usn : ℕ) (before after : List Held) (us : List Update) → Each (λ x. (1 ≤ x.local) × (x.local ≤ last)) before → last < usn → ArePut usn us before after
    → Each (λ x. (1 ≤ x.local) × (x.local ≤ usn)) after
puts_stay_within last usn before after us within new are x m = by (are.from x m)
  where
    by : Member x (under usn us) ⊎ Member x before → (1 ≤ x.local) × (x.local ≤ usn)
    by (inl n) = let is : x.local ≡ usn = ap (λ (h : Held). h.local) (mapped_member (held_at usn) us x n).2 in (omega (arith, is, new), omega (arith, is))
    by (inr n) = let old = within x n in (old.0, omega (arith, old.1, new))
