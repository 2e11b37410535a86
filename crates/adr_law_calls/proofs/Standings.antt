-- What stands of an object or of a link's ends, and which rows are left by a death.
use Rattle.std.proofs.Common.{◌≡◌, ◌⊎◌, inl, inr, ⊎_elim, List, Bool, true, false, cond, refl, sym, ap, subst, not, ◌||◌, ◌&&◌, filter}
use Rattle.std.proofs.lemmas.Bool.{eqb-true, eq-eqb, both_ways, and_parts, or_parts, not-true, cases_Bool, or_cases}
use Rattle.std.proofs.Common.{ℕ}
use Rattle.adr_values.specs.declared.stamp.Oid.{Oid}
use Rattle.adr_values.specs.Vector.{Cursors, at}
use Rattle.adr_model.specs.Member.{Member, Each}
use Rattle.adr_model.specs.Update.{Key, RowOf, LinkOf, Update, deleted_attr}
use Rattle.adr_model.specs.Reflects.{CoversBirth, IsDeath, HoldsObject, IsTombstoned}
use Rattle.adr_model.specs.Visible.{covers_birth}
use Rattle.adr_model.specs.Store.{Held, updates_of, holds_object, holds_dead}
use Rattle.adr_model.specs.Take.{is_of_attr, is_reserved_row, has_row, left_by_death, is_gone, is_lost_end, Presence, IsDead, IsHeld, IsGone, IsNew, presence_of}
use Rattle.adr_model.proofs.Members.{in_filter, of_filter, one_passes, some_passes}
use Rattle.adr_law_calls.proofs.Tests.{holds_where_tested, lacks_where_untested, dead_where_tested, alive_where_untested, covers_where_tested, misses_where_untested}

-- an object is held dead, or held, or gone, or new
module _ (vector : Cursors) (rows : List Held) (o : Oid) (P : Presence → Type 0) where
  pub each_presence : (IsTombstoned (updates_of rows) o → P IsDead)
      → ((IsTombstoned (updates_of rows) o → ⊥) → HoldsObject (updates_of rows) o → P IsHeld)
      → ((HoldsObject (updates_of rows) o → ⊥) → CoversBirth (at vector) o → P IsGone)
      → ((HoldsObject (updates_of rows) o → ⊥) → (CoversBirth (at vector) o → ⊥) → P IsNew)
      → P (presence_of vector rows o)
  each_presence where_dead where_held where_gone where_new = by (holds_dead rows o) refl
    where
      last : holds_object rows o ≡ false → (b : Bool) → covers_birth vector o ≡ b → P (cond b IsGone IsNew)
      last absent true is = where_gone (lacks_where_untested rows o absent) (covers_where_tested vector o is)
      last absent false is = where_new (lacks_where_untested rows o absent) (misses_where_untested vector o is)

      next : holds_dead rows o ≡ false → (b : Bool) → holds_object rows o ≡ b → P (cond b IsHeld (cond (covers_birth vector o) IsGone IsNew))
      next alive true is = where_held (alive_where_untested rows o alive) (holds_where_tested rows o is)
      next alive false is = last is (covers_birth vector o) refl

      by : (b : Bool) → holds_dead rows o ≡ b → P (cond b IsDead (cond (holds_object rows o) IsHeld (cond (covers_birth vector o) IsGone IsNew)))
      by true is = where_dead (dead_where_tested rows o is)
      by false is = next is (holds_object rows o) refl

-- an end that is lost is dead or gone, and another one is neither
abbrev pub IsLost : Cursors → List Held → Oid → Type 0
IsLost vector rows o = IsTombstoned (updates_of rows) o ⊎ ((HoldsObject (updates_of rows) o → ⊥) × CoversBirth (at vector) o)

abbrev pub IsThere : Cursors → List Held → Oid → Type 0
IsThere vector rows o = (IsTombstoned (updates_of rows) o → ⊥) × (HoldsObject (updates_of rows) o ⊎ (CoversBirth (at vector) o → ⊥))

pub lost_where_tested : (vector : Cursors) (rows : List Held) (o : Oid) → is_lost_end vector rows o ≡ true → IsLost vector rows o
lost_where_tested vector rows o h = by (cases_Bool (holds_dead rows o))
  where
    gone : (a b : Bool) → (a || b) ≡ true → a ≡ false → b ≡ true
    gone a b e f = ⊎_elim (λ t. absurd (both_ways a f t)) (λ t. t) (or_cases a b e)

    by : (holds_dead rows o ≡ true) ⊎ (holds_dead rows o ≡ false) → IsLost vector rows o
    by (inl is) = inl (dead_where_tested rows o is)
    by (inr is) = let t = and_parts (not (holds_object rows o)) (covers_birth vector o) (gone (holds_dead rows o) (is_gone vector rows o) h is) in
        inr (lacks_where_untested rows o (not-true (holds_object rows o) t.0), covers_where_tested vector o t.1)

pub there_where_untested : (vector : Cursors) (rows : List Held) (o : Oid) → is_lost_end vector rows o ≡ false → IsThere vector rows o
there_where_untested vector rows o h = (alive_where_untested rows o parts.0, by (holds_object rows o) refl parts.1)
  where
    parts : (holds_dead rows o ≡ false) × (is_gone vector rows o ≡ false)
    parts = or_parts (holds_dead rows o) (is_gone vector rows o) h

    by : (b : Bool) → holds_object rows o ≡ b → (not b && covers_birth vector o) ≡ false → HoldsObject (updates_of rows) o ⊎ (CoversBirth (at vector) o → ⊥)
    by true is e = inl (holds_where_tested rows o is)
    by false is e = inr (misses_where_untested vector o e)

pub held_or_not : (rows : List Held) (o : Oid) → HoldsObject (updates_of rows) o ⊎ (HoldsObject (updates_of rows) o → ⊥)
held_or_not rows o = by (cases_Bool (holds_object rows o))
  where
    by : (holds_object rows o ≡ true) ⊎ (holds_object rows o ≡ false) → HoldsObject (updates_of rows) o ⊎ (HoldsObject (updates_of rows) o → ⊥)
    by (inl is) = inl (holds_where_tested rows o is)
    by (inr is) = inr (lacks_where_untested rows o is)

-- ---- rows of an attribute

pub of_attr : (attr : ℕ) (k : Key) → is_of_attr attr k ≡ true → (o : Oid) × (k ≡ RowOf o attr)
of_attr attr (RowOf o a) h = (o, ap (λ n. RowOf o n) (eqb-true a attr h))
of_attr attr (LinkOf l) h = absurd (both_ways false refl h)

pub attr_itself : (o : Oid) (attr : ℕ) (k : Key) → k ≡ RowOf o attr → is_of_attr attr k ≡ true
attr_itself o attr k e = subst (λ j. is_of_attr attr j ≡ true) (sym e) (eq-eqb attr attr refl)

pub has_where_tested : (attr : ℕ) (us : List Update) → has_row attr us ≡ true → (u : Update) × Member u us × (is_of_attr attr u.key ≡ true)
has_where_tested attr us h = some_passes (λ (u : Update). is_of_attr attr u.key) us h

pub tested_where_has : (attr : ℕ) (us : List Update) (u : Update) → Member u us → is_of_attr attr u.key ≡ true → has_row attr us ≡ true
tested_where_has attr us u m is = one_passes (λ (v : Update). is_of_attr attr v.key) us u m is

pub is_death : (u : Update) → IsDeath u → is_of_attr deleted_attr u.key ≡ true
is_death u (o, e) = attr_itself o deleted_attr u.key e

pub deaths_are_reserved : (u : Update) → is_of_attr deleted_attr u.key ≡ true → is_reserved_row u.key ≡ true
deaths_are_reserved u is = let t = of_attr deleted_attr u.key is in ap is_reserved_row t.1

-- ---- what a death leaves

pub left_from : (us : List Update) (u : Update) → Member u (left_by_death us) → Member u us
left_from us u m = by (has_row deleted_attr us) m
  where
    by : (b : Bool) → Member u (cond b (filter (λ (v : Update). is_reserved_row v.key) us) us) → Member u us
    by true n = (of_filter (λ (v : Update). is_reserved_row v.key) us u n).0
    by false n = n

pub reserved_is_left : (us : List Update) (u : Update) → Member u us → is_reserved_row u.key ≡ true → Member u (left_by_death us)
reserved_is_left us u m is = by (has_row deleted_attr us)
  where
    by : (b : Bool) → Member u (cond b (filter (λ (v : Update). is_reserved_row v.key) us) us)
    by true = in_filter (λ (v : Update). is_reserved_row v.key) us u m is
    by false = m

-- beside a death only reserved rows are left
pub bare_beside_death : (us : List Update) → Each (λ d. IsDeath d → Each (λ u. is_reserved_row u.key ≡ true) (left_by_death us)) (left_by_death us)
bare_beside_death us d m death u n = by (has_row deleted_attr us) (tested_where_has deleted_attr us d (left_from us d m) (is_death d death)) n
  where
    by : (b : Bool) → b ≡ true → Member u (cond b (filter (λ (v : Update). is_reserved_row v.key) us) us) → is_reserved_row u.key ≡ true
    by true e k = (of_filter (λ (v : Update). is_reserved_row v.key) us u k).1
    by false e k = absurd (both_ways false refl e)

-- a row is left, or a death is and the row is none
pub left_or_dead : (us : List Update) (u : Update) → Member u us → Member u (left_by_death us) ⊎ ((d : Update) × Member d (left_by_death us) × (is_of_attr deleted_attr d.key ≡ true) × (IsDeath u → ⊥))
left_or_dead us u m = by (has_row deleted_attr us) refl (is_reserved_row u.key) refl
  where
    by : (b : Bool) → has_row deleted_attr us ≡ b → (c : Bool) → is_reserved_row u.key ≡ c → Member u (left_by_death us) ⊎ ((d : Update) × Member d (left_by_death us) × (is_of_attr deleted_attr d.key ≡ true) × (IsDeath u → ⊥))
    by b has true is = inl (reserved_is_left us u m is)
    by false has false is = inl (subst (λ c. Member u (cond c (filter (λ (v : Update). is_reserved_row v.key) us) us)) (sym has) m)
    by true has false is = let t = has_where_tested deleted_attr us has in
        inr (t.0, reserved_is_left us t.0 t.1 (deaths_are_reserved t.0 t.2), t.2, λ d. both_ways (is_reserved_row u.key) is (deaths_are_reserved u (is_death u d)))
