-- Where going up leads: in one step, in twice as many, and in more than there are entries.
use Rattle.std.proofs.Common.{◌≡◌, ◌⊎◌, inl, inr, ℕ, zero, suc, ◌+◌, ◌-◌, ◌*◌, ◌≤◌, ◌<◌, List, [], ◌∷◌, length, map, get_or, Bool, true, false, cond, Option, Some, None, refl, sym, ap, ◌∙◌, subst, arith}
use Rattle.std.specs.List.{AllByRecursion}
use Rattle.std.specs.List.Sorted.{IsStrictlySortedBy}
use Rattle.std.specs.Option.{option_map, option_map_or}
use Rattle.std.specs.Str.{bytes_eq}
use Rattle.std.specs.declared.cmp.Ordering.TheVariants.{Less}
use Rattle.std.proofs.lemmas.Bool.{cases_lt}
use Rattle.std.proofs.lemmas.List.{get_or-map, length-map}
use Rattle.adr_values.specs.Order.{identifier_order}
use Rattle.adr_call.specs.declared.directory.Entry.{Entry}
use Rattle.adr_search.specs.declared.ways.Way.{Way}
use Rattle.adr_search.specs.declared.ways.Way.TheVariants.{Ends, Leads}
use Rattle.adr_search.specs.Scopes.{AreRising, climbs, entry_at, lost_and_found, root}
use Rattle.adr_search.specs.Ways.{AreWays, DoesLead, IsWay, end_at, ends_inside, ends_or, further, guid_at, leads_to, place_in, way_of}
use Rattle.adr_search.proofs.Climbing.{bytes_same, from_root, further_steps, same_bytes}
use Rattle.adr_search.proofs.Placed.{differ}

abbrev guids : List Entry → List (List ℕ)
guids es = map (λ (e : Entry). e.guid) es

-- ---- each entry is the one that is found of its GUID

later : (e : Entry) (es xs : List Entry) → AllByRecursion (λ y. identifier_order e.guid y ≡ Less) (guids xs) → AllByRecursion (λ (x : Entry). entry_at es x.guid ≡ Some x) xs → AllByRecursion (λ (x : Entry). entry_at (e ∷ es) x.guid ≡ Some x) xs
later e es [] l f = tt
later e es (x ∷ xs) l f =
    let other : bytes_eq e.guid x.guid ≡ false = differ e.guid x.guid Less l.0 refl in
    (rw other f.0, later e es xs l.1 f.1)

own_places : (es : List Entry) → AreRising es → AllByRecursion (λ (x : Entry). entry_at es x.guid ≡ Some x) es
unfolding IsStrictlySortedBy
own_places [] s = tt
own_places (e ∷ es) s = (rw (bytes_same e.guid e.guid refl) refl, later e es es s.0 (own_places es s.1))

no_entry : (es : List Entry) (guid : List ℕ) → place_in (guids es) guid ≡ None → entry_at es guid ≡ None
no_entry [] guid h = refl
no_entry (e ∷ es) guid h = by (no_entry es guid) (bytes_eq e.guid guid) (place_in (guids es) guid) refl h
  where
    by : (place_in (guids es) guid ≡ None → entry_at es guid ≡ None) → (b : Bool) (o : Option ℕ) → place_in (guids es) guid ≡ o → cond b (Some 0) (option_map suc o) ≡ None → cond b (Some e) (entry_at es guid) ≡ None
    by rest true o is k = cc
    by rest false None is k = rest is
    by rest false (Some i) is k = cc

placed : (gs : List (List ℕ)) (guid : List ℕ) (i : ℕ) → place_in gs guid ≡ Some i → (i < length gs) × (get_or gs i [] ≡ guid)
placed [] guid i h = cc
placed (g ∷ gs) guid i h = by (placed gs guid) (bytes_eq g guid) (place_in gs guid) refl refl h
  where
    by : ((j : ℕ) → place_in gs guid ≡ Some j → (j < length gs) × (get_or gs j [] ≡ guid)) → (b : Bool) (o : Option ℕ) → bytes_eq g guid ≡ b → place_in gs guid ≡ o → cond b (Some 0) (option_map suc o) ≡ Some i
        → (i < suc (length gs)) × (get_or (g ∷ gs) i [] ≡ guid)
    by rest true o is at k = let first : 0 ≡ i = cc in subst (λ (j : ℕ). (j < suc (length gs)) × (get_or (g ∷ gs) j [] ≡ guid)) first (omega arith, same_bytes g guid is)
    by rest false None is at k = cc
    by rest false (Some j) is at k =
        let next : suc j ≡ i = cc in
        let there = rest j at in
        subst (λ (n : ℕ). (n < suc (length gs)) × (get_or (g ∷ gs) n [] ≡ guid)) next (omega (arith, there.0), there.1)

-- ---- one step

module _ (es : List Entry) (base : List ℕ) where
  abbrev EndSays : List ℕ → Option Bool → Type 0
  EndSays guid None = (bytes_eq guid base ≡ false) × (bytes_eq guid root ≡ false) × (bytes_eq guid lost_and_found ≡ false)
  EndSays guid (Some inside) = (n : ℕ) → climbs es base (suc n) guid ≡ inside

  end_says : (guid : List ℕ) → EndSays guid (end_at base guid)
  end_says guid = by (bytes_eq guid base) (bytes_eq guid root) (bytes_eq guid lost_and_found) refl refl refl
    where
      by : (b r l : Bool) → bytes_eq guid base ≡ b → bytes_eq guid root ≡ r → bytes_eq guid lost_and_found ≡ l → EndSays guid (cond b (Some true) (cond r (Some false) (cond l (Some (bytes_eq root base)) None)))
      by true r l i j k = λ n. rw i refl
      by false true l i j k = λ n. rw (i, j) refl
      by false false true i j k = λ n. rw (i, j, k) (from_root es base n)
      by false false false i j k = (i, j, k)

  abbrev onward_from : List ℕ → Option Entry → ℕ → Bool
  onward_from guid o n = option_map_or (climbs es base n) (option_map (λ (e : Entry). e.parent) o) false

  -- where it doesn't end, going up is by the entry
  step : (guid : List ℕ) (o : Option Entry) → EndSays guid None → entry_at es guid ≡ o → (n : ℕ) → climbs es base (suc n) guid ≡ onward_from guid o n
  step guid o (b, r, l) is n = rw (b, r, l, is) refl

  nowhere : (guid : List ℕ) → EndSays guid None → entry_at es guid ≡ None → (n : ℕ) → climbs es base n guid ≡ false
  nowhere guid on is zero = on.0
  nowhere guid on is (suc n) = step guid None on is n

  module _ (e : Entry) (own : entry_at es e.guid ≡ Some e) where
    led : (on : EndSays e.guid None) → (o : Option ℕ) → place_in (guids es) e.parent ≡ o → EndSays e.parent None → IsWay es base 1 e.guid (leads_to o)
    led on None at end = by
      where
        by : (n : ℕ) → 1 < n → climbs es base n e.guid ≡ false
        by zero lt = absurd (omega arith)
        by (suc n) lt = step e.guid (Some e) on own n ∙ nowhere e.parent end (no_entry es e.parent at) n
    led on (Some i) at end =
        let there = placed (guids es) e.parent i at in
        record {
          within = omega (arith, there.0, length-map es (λ (x : Entry). x.guid));
          onward = λ n. ap (λ (k : ℕ). climbs es base k e.guid) (one n) ∙ step e.guid (Some e) on own n ∙ sym (ap (climbs es base n) there.1);
          before = λ n lt. ap (λ (k : ℕ). climbs es base k e.guid) (none n lt) ∙ on.0;
        }
      where
        one : (n : ℕ) → 1 + n ≡ suc n
        one n = omega arith

        none : (n : ℕ) → n < 1 → n ≡ 0
        none n lt = omega arith

    by_parent : (on : EndSays e.guid None) → (o : Option Bool) → EndSays e.parent o → IsWay es base 1 e.guid (ends_or o (leads_to (place_in (guids es) e.parent)))
    by_parent on None end = led on (place_in (guids es) e.parent) refl end
    by_parent on (Some inside) end = by
      where
        by : (n : ℕ) → 1 < n → climbs es base n e.guid ≡ inside
        by zero lt = absurd (omega arith)
        by (suc zero) lt = absurd (omega arith)
        by (suc (suc n)) lt = step e.guid (Some e) on own (suc n) ∙ end n

    one_way : (o : Option Bool) → EndSays e.guid o → IsWay es base 1 e.guid (ends_or o (ends_or (end_at base e.parent) (leads_to (place_in (guids es) e.parent))))
    one_way None end = by_parent end (end_at base e.parent) (end_says e.parent)
    one_way (Some inside) end = by
      where
        by : (n : ℕ) → 1 < n → climbs es base n e.guid ≡ inside
        by zero lt = absurd (omega arith)
        by (suc n) lt = end n

    is_way : IsWay es base 1 e.guid (way_of (guids es) base e.guid e.parent)
    is_way = one_way (end_at base e.guid) (end_says e.guid)

  abbrev way_from : Entry → Way
  way_from e = way_of (guids es) base e.guid e.parent

  each_way : (xs : List Entry) → AllByRecursion (λ (x : Entry). entry_at es x.guid ≡ Some x) xs → (i : ℕ) → i < length xs → IsWay es base 1 (get_or (guids xs) i []) (get_or (map way_from xs) i (Ends false))
  each_way [] own i lt = absurd (omega arith)
  each_way (x ∷ xs) own zero lt = is_way x own.0
  each_way (x ∷ xs) own (suc i) lt = each_way xs own.1 i (omega arith)

  pub first_are : AreRising es → (gs : List (List ℕ)) (ways : List Way) → gs ≡ guids es → ways ≡ map (λ (e : Entry). way_of gs base e.guid e.parent) es → AreWays es base 1 ways
  first_are rising gs ways h k = subst (AreWays es base 1) (sym (k ∙ ap (λ (g : List (List ℕ)). map (λ (e : Entry). way_of g base e.guid e.parent) es) h)) (record {
    many = length-map es way_from;
    each = each_way es (own_places es rising);
  })

  -- ---- twice as many steps

  module _ (m : ℕ) (ways : List Way) (are : AreWays es base m ways) where
    behind : (n : ℕ) → m ≤ n → n ≡ m + (n - m)
    behind n le = omega arith

    onto : (guid : List ℕ) (i : ℕ) → DoesLead es base m guid i → (w : Way) → IsWay es base m (guid_at es i) w → IsWay es base (m + m) guid w
    onto guid i h (Ends inside) k = λ n lt. ap (λ (s : ℕ). climbs es base s guid) (behind n (omega arith)) ∙ h.onward (n - m) ∙ k (n - m) (omega arith)
    onto guid i h (Leads j) k = record {
      within = k.within;
      onward = λ n. ap (λ (s : ℕ). climbs es base s guid) (twice n) ∙ h.onward (m + n) ∙ k.onward n;
      before = λ n lt. early n lt (cases_lt n m);
    }
      where
        twice : (n : ℕ) → m + m + n ≡ m + (m + n)
        twice n = omega arith

        early : (n : ℕ) → n < m + m → (n < m) ⊎ (m ≤ n) → climbs es base n guid ≡ false
        early n lt (inl l) = h.before n l
        early n lt (inr le) = ap (λ (s : ℕ). climbs es base s guid) (behind n le) ∙ h.onward (n - m) ∙ k.before (n - m) (omega arith)

    further_is : (guid : List ℕ) (w : Way) → IsWay es base m guid w → IsWay es base (m + m) guid (further ways w)
    further_is guid (Ends inside) h = λ n lt. h n (omega arith)
    further_is guid (Leads i) h = onto guid i h (get_or ways i (Ends false)) (are.each i h.within)

    twice_are : AreWays es base (m + m) (map (further ways) ways)
    twice_are = record {
      many = length-map ways (further ways) ∙ are.many;
      each = λ i lt. subst (IsWay es base (m + m) (guid_at es i)) (sym (get_or-map (further ways) ways i (Ends false) (Ends false) (omega (arith, are.many)))) (further_is (guid_at es i) (get_or ways i (Ends false)) (are.each i lt));
    }

    pub doubled_are : (n : ℕ) (next : List Way) → n ≡ m * 2 → next ≡ map (further ways) ways → AreWays es base n next
    doubled_are n next h k = subst (AreWays es base n) (sym k) (subst (λ (s : ℕ). AreWays es base s (map (further ways) ways)) (omega arith) twice_are)

    -- ---- more steps than there are entries

    settled : suc (length es) < m → (guid : List ℕ) (w : Way) → IsWay es base m guid w → ends_inside w ≡ climbs es base (suc (length es)) guid
    settled lt guid (Ends inside) h = sym (h (suc m) (omega arith)) ∙ further_steps es base (suc m) guid (omega arith)
    settled lt guid (Leads i) h = sym (h.before (suc (length es)) lt)

    abbrev below : Entry → Bool
    below e = climbs es base (suc (length es)) e.guid

    marked : (xs : List Entry) (ws : List Way) → length ws ≡ length xs → ((i : ℕ) → i < length xs → ends_inside (get_or ws i (Ends false)) ≡ climbs es base (suc (length es)) (get_or (guids xs) i [])) → map ends_inside ws ≡ map below xs
    marked [] [] long h = refl
    marked [] (w ∷ ws) long h = cc
    marked (x ∷ xs) [] long h = cc
    marked (x ∷ xs) (w ∷ ws) long h =
        let first : ends_inside w ≡ below x = h 0 (omega arith) in
        let rest : map ends_inside ws ≡ map below xs = marked xs ws (omega arith) (λ i lt. h (suc i) (omega arith)) in
        ap (λ (b : Bool). b ∷ map ends_inside ws) first ∙ ap (λ (bs : List Bool). below x ∷ bs) rest

    pub marks_are : suc (length es) < m → map ends_inside ways ≡ map below es
    marks_are lt = marked es ways are.many (λ i l. settled lt (guid_at es i) (get_or ways i (Ends false)) (are.each i l))
