-- Hints of local USNs: their order, how they are kept, and the last one of a unit.
use Rattle.std.proofs.Common.{◌≡◌, ◌⊎◌, inl, inr, ⊎_elim, refl, sym, ap, ◌∙◌, subst, arith, ℕ, ◌<◌, ◌≤◌, List, [], ◌∷◌, Bool, true, false, cond, not, ◌&&◌, ◌||◌, Option, Some, None, filter, fold, max, eqb}
use Rattle.std.specs.List.{list_any}
use Rattle.std.specs.Option.{option_cmp}
use Rattle.std.specs.BTreeMap.{is_at}
use Rattle.std.specs.BTreeSet.{BTreeSet, contains}
use Rattle.std.specs.Ordering.{nat_cmp, is_eq, ordering_then}
use Rattle.std.specs.declared.cmp.Ordering.{Ordering}
use Rattle.std.specs.declared.cmp.Ordering.TheVariants.{Less, Equal, Greater}
use Rattle.std.proofs.lemmas.Bool.{cases_lt}
use Rattle.std.proofs.lemmas.Bool.Decides.{nat_tests}
use Rattle.std.proofs.lemmas.Map.Lookups.{CmpEqualImpliesEq, exact_pairs, exact_unsigned}
use Rattle.adr_values.specs.declared.stamp.Oid.{Oid}
use Rattle.adr_values.specs.declared.stamp.Unit.{Unit as Named}
use Rattle.adr_model.proofs.Members.{each_fails, of_filter, one_passes}
use Rattle.adr_model.specs.Member.{Member, Each}
use Rattle.adr_model.specs.Update.{same_unit, unit_of}
use Rattle.adr_model.specs.Store.{Held, is_row_of, with_row}
use Rattle.adr_model.specs.Change.{stripped, without_object, goes_with}
use Rattle.adr_model.specs.Serve.{last_local}
use Rattle.adr_law_knowledge.proofs.RisingHeld.{of_with_row}
use Rattle.adr_update.specs.Sought.{rows_of_unit}
use Rattle.adr_shelves.specs.declared.place.Place.{Place}
use Rattle.adr_table.specs.declared.slots.Slots.{Slots}
use Rattle.adr_table.specs.declared.locals.Local.{Local}
use Rattle.adr_shelves.specs.Place.{place_order}
use Rattle.adr_table.specs.Slots.{rows_seen}
use Rattle.adr_table.specs.Locals.{local_order, local_of, unit_place, AreLocated, above, greatest, is_last, is_number, is_of_seat, rows_of_seat}
use Rattle.adr_shelves.proofs.Places.{exact_options, exact_places}
use Rattle.adr_table.proofs.LocalsSeats.{rows_of, same_itself, seat_is, seat_tells, units_tell}

pub exact_locals : CmpEqualImpliesEq local_order
exact_locals a b h =
    ap (λ (p : ℕ × Option Place). let l : Local = record { usn = p.0; unit = p.1 } in l) (exact_pairs _ _ exact_unsigned (exact_options exact_places) (a.usn, a.unit) (b.usn, b.unit) h)

-- the hint of a unit and a number
abbrev pub local_at : Named → ℕ → Local
local_at u n = record { usn = n; unit = Some (unit_place u) }

-- ---- each row has its hint

-- what holds of each row that is seen holds of fewer
each_among : (old new : Slots) (P Q : Held → Type 0) → Each P (rows_seen old) → ((h : Held) → P h → Q h)
    → Each (λ h. Member h (rows_seen old)) (rows_seen new) → Each Q (rows_seen new)
each_among old new P Q each more among h m = more h (each h (among h m))

-- where the same rows are seen
pub each_same : (old new : Slots) (P Q : Held → Type 0) → Each P (rows_seen old) → ((h : Held) → P h → Q h) → rows_seen new ≡ rows_seen old → Each Q (rows_seen new)
each_same old new P Q each more same = each_among old new P Q each more (λ h m. subst (Member h) same m)

-- where rows went
each_fewer : (old new : Slots) (P : Held → Type 0) (keep : Held → Bool) → Each P (rows_seen old) → rows_seen new ≡ filter keep (rows_seen old) → Each P (rows_seen new)
each_fewer old new P keep each fewer = each_among old new P P each (λ h e. e) (λ h m. (of_filter keep (rows_seen old) h (subst (Member h) fewer m)).0)

-- where a row is written
pub each_written : (old new : Slots) (P : Held → Type 0) (row : Held) → Each P (rows_seen old) → P row → rows_seen new ≡ with_row (rows_seen old) row → Each P (rows_seen new)
each_written old new P row each own written h m =
    ⊎_elim (λ e. subst P (sym e) own) (λ n. each h n) (of_with_row (rows_seen old) row h (subst (Member h) written m))

-- where a death takes what goes with it
pub each_stripped : (old new : Slots) (P : Held → Type 0) (dead : Option Oid) → Each P (rows_seen old) → rows_seen new ≡ stripped dead (rows_seen old) → Each P (rows_seen new)
each_stripped old new P None each same = each_same old new P P each (λ h e. e) same
each_stripped old new P (Some o) each fewer = each_fewer old new P (λ h. not (goes_with o h.update.key)) each fewer

-- where an object is removed
pub each_without : (old new : Slots) (P : Held → Type 0) (object : Oid) → Each P (rows_seen old) → rows_seen new ≡ without_object (rows_seen old) object → Each P (rows_seen new)
each_without old new P object each fewer = each_fewer old new P (λ h. not (is_row_of object h.update.key)) each fewer

-- where a hint is dropped that no row has
pub located_but : (slots : Slots) (locals locals' : BTreeSet Local) (hint : Local) → AreLocated slots locals
    → list_any (λ h. is_at (local_order hint) (local_of h)) (rows_seen slots) ≡ false
    → ((b : Local) → contains local_order locals' b ≡ cond (is_at (local_order hint) b) false (contains local_order locals b)) → AreLocated slots locals'
located_but slots locals locals' hint located unneeded but h m =
    but (local_of h)
    ∙ ap (λ b. cond b false (contains local_order locals (local_of h))) (each_fails (λ h. is_at (local_order hint) (local_of h)) (rows_seen slots) unneeded h m)
    ∙ located h m

-- ---- the last local USN of a unit

abbrev pub holds_unit : List Held → Named → Bool
holds_unit rows u = list_any (λ h. same_unit (unit_of h.update.key) u) rows

zero_below : (n : ℕ) → max 0 n ≡ n
zero_below n = grind arith

module _ (u : Named) where
  abbrev step : ℕ → Held → ℕ
  step n h = cond (same_unit (unit_of h.update.key) u) (max n h.local) n

  from_some : (n : ℕ) (rows : List Held) → greatest (Some n) (rows_of_unit rows u) ≡ Some (fold step n rows)
  from_some n [] = refl
  from_some n (h ∷ hs) = by (same_unit (unit_of h.update.key) u) (λ m. from_some m hs)
    where
      by : (b : Bool) → ((m : ℕ) → greatest (Some m) (rows_of_unit hs u) ≡ Some (fold step m hs))
          → greatest (Some n) (cond b (h ∷ rows_of_unit hs u) (rows_of_unit hs u)) ≡ Some (fold step (cond b (max n h.local) n) hs)
      by true rest = rest (max n h.local)
      by false rest = rest n

  -- the greatest local USN of the rows of a unit is its last one
  pub greatest_is : (rows : List Held) → greatest None (rows_of_unit rows u) ≡ cond (holds_unit rows u) (Some (last_local rows u)) None
  greatest_is [] = refl
  greatest_is (h ∷ hs) = by (same_unit (unit_of h.update.key) u) (greatest_is hs)
    where
      by : (b : Bool) → greatest None (rows_of_unit hs u) ≡ cond (holds_unit hs u) (Some (last_local hs u)) None
          → greatest None (cond b (h ∷ rows_of_unit hs u) (rows_of_unit hs u)) ≡ cond (b || holds_unit hs u) (Some (fold step (cond b (max 0 h.local) 0) hs)) None
      by true rest = from_some h.local hs ∙ ap (λ n. Some (fold step n hs)) (sym (zero_below h.local))
      by false rest = rest

greater_one : (m n : ℕ) → (max m n ≡ m) ⊎ (max m n ≡ n)
greater_one m n = by (cases_lt m n)
  where
    by : (m < n) ⊎ (n ≤ m) → (max m n ≡ m) ⊎ (max m n ≡ n)
    by (inl lt) = inr (omega arith)
    by (inr le) = inl (omega arith)

-- the greatest number is that of a row, or was there before
greatest_found : (so_far : Option ℕ) (rows : List Held) (n : ℕ) → greatest so_far rows ≡ Some n → (so_far ≡ Some n) ⊎ ((h : Held) × Member h rows × (h.local ≡ n))
greatest_found so_far [] n is = inl is
greatest_found so_far (h ∷ hs) n is = by so_far (greatest_found (Some (above so_far h.local)) hs n is)
  where
    here : h.local ≡ n → (x : Held) × Member x (h ∷ hs) × (x.local ≡ n)
    here e = (h, inl refl, e)

    later : ((x : Held) × Member x hs × (x.local ≡ n)) → (x : Held) × Member x (h ∷ hs) × (x.local ≡ n)
    later t = (t.0, inr t.1, t.2)

    by : (o : Option ℕ) → (Some (above o h.local) ≡ Some n) ⊎ ((x : Held) × Member x hs × (x.local ≡ n)) → (o ≡ Some n) ⊎ ((x : Held) × Member x (h ∷ hs) × (x.local ≡ n))
    by None (inl e) = inr (here (cc))
    by None (inr t) = inr (later t)
    by (Some m) (inl e) = ⊎_elim (λ old. inl (ap Some (sym old) ∙ e)) (λ new. let same : max m h.local ≡ n = cc in inr (here (sym new ∙ same))) (greater_one m h.local)
    by (Some m) (inr t) = inr (later t)

-- where a unit has a row, some row of it has its last number
pub one_has_last : (rows : List Held) (u : Named) → holds_unit rows u ≡ true → (h : Held) × Member h rows × (unit_of h.update.key ≡ u) × (h.local ≡ last_local rows u)
one_has_last rows u held = by (greatest_found None (rows_of_unit rows u) (last_local rows u) (greatest_is u rows ∙ ap (λ b. cond b (Some (last_local rows u)) None) held))
  where
    by : (None ≡ Some (last_local rows u)) ⊎ ((h : Held) × Member h (rows_of_unit rows u) × (h.local ≡ last_local rows u))
        → (h : Held) × Member h rows × (unit_of h.update.key ≡ u) × (h.local ≡ last_local rows u)
    by (inl e) = cc
    by (inr t) = let of = of_filter (λ h. same_unit (unit_of h.update.key) u) rows t.0 t.1 in (t.0, of.0, units_tell (unit_of t.0.update.key) u of.1, t.2)

pub held_by : (rows : List Held) (h : Held) → Member h rows → holds_unit rows (unit_of h.update.key) ≡ true
held_by rows h m = one_passes (λ x. same_unit (unit_of x.update.key) (unit_of h.update.key)) rows h m (same_itself (unit_of h.update.key))

-- the hint of a unit's last number is there
pub last_hinted : (slots : Slots) (locals : BTreeSet Local) → AreLocated slots locals → (u : Named) → holds_unit (rows_seen slots) u ≡ true
    → contains local_order locals (local_at u (last_local (rows_seen slots) u)) ≡ true
last_hinted slots locals located u held =
    let t = one_has_last (rows_seen slots) u held in
    subst (λ n. contains local_order locals (local_at u n) ≡ true) t.3 (subst (λ v. contains local_order locals (local_at v t.0.local) ≡ true) t.2 (located t.0 t.1))

-- ---- hints of last numbers

pub same_number : (m n : ℕ) → eqb m n ≡ true → m ≡ n
same_number m n e = grind (arith, nat_tests)

pub itself : (n : ℕ) → eqb n n ≡ true
itself n = grind (arith, nat_tests)

pub unequal : (m n : ℕ) → (m ≡ n → ⊥) → eqb m n ≡ false
unequal m n other = grind (arith, nat_tests)

last_at : (rows : List Held) (u : Named) (n : ℕ) → is_last rows (local_at u n) ≡ is_number (cond (holds_unit rows u) (Some (last_local rows u)) None) n
last_at rows u n = ap (λ (hs : List Held). is_number (greatest None hs) n) (rows_of u rows) ∙ ap (λ o. is_number o n) (greatest_is u rows)

pub is_last_of : (rows : List Held) (u : Named) → holds_unit rows u ≡ true → is_last rows (local_at u (last_local rows u)) ≡ true
is_last_of rows u held = last_at rows u (last_local rows u) ∙ ap (λ b. is_number (cond b (Some (last_local rows u)) None) (last_local rows u)) held ∙ itself (last_local rows u)

-- a hint of a last number is that of a unit that is held
pub last_tells : (rows : List Held) (hint : Local) → is_last rows hint ≡ true → (u : Named) × (hint ≡ local_at u hint.usn) × (holds_unit rows u ≡ true) × (last_local rows u ≡ hint.usn)
last_tells rows hint is_it = by hint.unit refl is_it
  where
    at_unit : (u : Named) → hint ≡ local_at u hint.usn → (b : Bool) → holds_unit rows u ≡ b → is_number (cond b (Some (last_local rows u)) None) hint.usn ≡ true
        → (v : Named) × (hint ≡ local_at v hint.usn) × (holds_unit rows v ≡ true) × (last_local rows v ≡ hint.usn)
    at_unit u same true held e = (u, same, held, same_number (last_local rows u) hint.usn e)
    at_unit u same false held e = cc

    place : (p : Place) (o : Option ℕ) → hint.unit ≡ Some p → greatest None (rows_of_seat p rows) ≡ o → is_number o hint.usn ≡ true
        → (v : Named) × (hint ≡ local_at v hint.usn) × (holds_unit rows v ≡ true) × (last_local rows v ≡ hint.usn)
    place p None there is e = cc
    place p (Some m) there is e = found (greatest_found None (rows_of_seat p rows) m is)
      where
        found : (None ≡ Some m) ⊎ ((h : Held) × Member h (rows_of_seat p rows) × (h.local ≡ m)) → (v : Named) × (hint ≡ local_at v hint.usn) × (holds_unit rows v ≡ true) × (last_local rows v ≡ hint.usn)
        found (inl wrong) = cc
        found (inr t) =
            let own = (of_filter (is_of_seat p) rows t.0 t.1).1 in
            let u = unit_of t.0.update.key in
            let seat : p ≡ unit_place u = seat_tells p t.0 own in
            let same : hint ≡ local_at u hint.usn = ap (λ (o : Option Place). let l : Local = record { usn = hint.usn; unit = o } in l) (there ∙ ap Some seat) in
            at_unit u same (holds_unit rows u) refl (sym (last_at rows u hint.usn) ∙ ap (is_last rows) (sym same) ∙ is_it)

    by : (o : Option Place) → hint.unit ≡ o → is_last rows (record { usn = hint.usn; unit = o }) ≡ true → (u : Named) × (hint ≡ local_at u hint.usn) × (holds_unit rows u ≡ true) × (last_local rows u ≡ hint.usn)
    by None there e = cc
    by (Some p) there e = place p (greatest None (rows_of_seat p rows)) there refl e

-- ---- whether a row has a hint

abbrev pub needs : Local → Held → Bool
needs hint h = is_at (local_order hint) (local_of h)

never : (o : Ordering) → is_eq (ordering_then o Less) ≡ false
never Less = refl
never Equal = refl
never Greater = refl

-- a hint without a unit is that of no row
pub unneeded : (hint : Local) (rows : List Held) → hint.unit ≡ None → list_any (needs hint) rows ≡ false
unneeded hint [] bare = refl
unneeded hint (h ∷ hs) bare =
    ap (λ o. is_eq (ordering_then (nat_cmp hint.usn h.local) (option_cmp place_order o (Some (unit_place (unit_of h.update.key))))) || list_any (needs hint) hs) bare
    ∙ ap (λ b. b || list_any (needs hint) hs) (never (nat_cmp hint.usn h.local))
    ∙ unneeded hint hs bare

in_both : (o x : Ordering) → is_eq (ordering_then o x) ≡ (is_eq o && is_eq x)
in_both Less x = refl
in_both Equal x = refl
in_both Greater x = refl

tied_numbers : (m n : ℕ) → is_eq (nat_cmp m n) ≡ eqb n m
tied_numbers m n = grind (arith, nat_tests)

needs_both : (hint : Local) (p : Place) (h : Held) → hint.unit ≡ Some p → needs hint h ≡ (eqb h.local hint.usn && is_of_seat p h)
needs_both hint p h there =
    ap (λ o. is_eq (ordering_then (nat_cmp hint.usn h.local) (option_cmp place_order o (Some (unit_place (unit_of h.update.key)))))) there
    ∙ in_both (nat_cmp hint.usn h.local) (place_order p (unit_place (unit_of h.update.key)))
    ∙ ap (λ b. b && is_at (place_order p) (unit_place (unit_of h.update.key))) (tied_numbers hint.usn h.local)
    ∙ ap (λ q. eqb h.local hint.usn && is_at (place_order p) q) (sym (seat_is h.update.key))

-- a row of the hint's unit has the hint by its number alone, and a row of another unit never
abbrev pub has_number : ℕ → Held → Bool
has_number n h = eqb h.local n

pub needed_within : (hint : Local) (p : Place) (rows : List Held) → hint.unit ≡ Some p → list_any (has_number hint.usn) (rows_of_seat p rows) ≡ list_any (needs hint) rows
needed_within hint p [] there = refl
needed_within hint p (h ∷ hs) there = by (is_of_seat p h) refl (needed_within hint p hs there)
  where
    own : (a : Bool) → (a && true) ≡ a
    own true = refl
    own false = refl

    none : (a : Bool) → (a && false) ≡ false
    none true = refl
    none false = refl

    told : (b : Bool) → is_of_seat p h ≡ b → needs hint h ≡ (has_number hint.usn h && b)
    told b is = needs_both hint p h there ∙ ap (λ b. has_number hint.usn h && b) is

    by : (b : Bool) → is_of_seat p h ≡ b → list_any (has_number hint.usn) (rows_of_seat p hs) ≡ list_any (needs hint) hs
        → list_any (has_number hint.usn) (cond b (h ∷ rows_of_seat p hs) (rows_of_seat p hs)) ≡ (needs hint h || list_any (needs hint) hs)
    by true is rest =
        ap (λ b. has_number hint.usn h || b) rest ∙ ap (λ b. b || list_any (needs hint) hs) (sym (told true is ∙ own (has_number hint.usn h)))
    by false is rest = rest ∙ ap (λ b. b || list_any (needs hint) hs) (sym (told false is ∙ none (has_number hint.usn h)))

-- whether a row that is left of the hint's unit has its number is whether one of all has the hint
abbrev pub IsAny : Local → List Held → List Held → Type 0
IsAny hint all rows = list_any (has_number hint.usn) rows ≡ list_any (needs hint) all

-- the same of the greatest number so far and of what is left
abbrev pub IsGreatest : List Held → Option ℕ → List Held → Type 0
IsGreatest all so_far rows = greatest so_far rows ≡ greatest None all
