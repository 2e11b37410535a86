-- Units that are left by their last local USNs: the next number, the units under it, and those behind it.
use Rattle.std.proofs.Common.{◌≡◌, ◌≢◌, inl, inr, ◌==◌, ℕ, ◌+◌, ◌<◌, ◌≤◌, List, [], ◌∷◌, Bool, true, false, cond, Option, Some, None, refl, sym, ap, ◌∙◌, subst, filter_map, option_map, slice_get, arith}
use Rattle.std.specs.List.{cons_option, list_any}
use Rattle.std.specs.Ordering.{ordering_then}
use Rattle.std.specs.Prelude.{IfSome}
use Rattle.std.specs.declared.cmp.Ordering.TheVariants.{Less}
use Rattle.std.proofs.lemmas.Bool.{eq-eqb, eqb-true, ne_eqb}
use Rattle.std.proofs.lemmas.Cmp.{nat_cmp_total, tied_itself}
use Rattle.adr_values.specs.declared.stamp.Unit.{Unit as Named}
use Rattle.adr_values.specs.Order.{unit_order}
use Rattle.adr_values.proofs.Units.{units_total, exact_units}
use Rattle.adr_model.specs.Member.{Member, Each}
use Rattle.adr_model.specs.Update.{same_unit, unit_of}
use Rattle.adr_model.specs.Store.{Held}
use Rattle.adr_model.specs.Serve.{last_local, units_of}
use Rattle.adr_model.proofs.Members.{in_filter, in_filter_map, of_filter, of_filter_map}
use Rattle.adr_law_knowledge.specs.Rises.{Rises}
use Rattle.adr_law_knowledge.proofs.Lists.{filter_rises, not_both_ways, same_members_one_list}
use Rattle.adr_update.specs.Sought.{IsNextLocal, units_at}
use Rattle.adr_table.specs.Lasts.{AreLasts, IsLast, Last, last_order}
use Rattle.adr_table.proofs.Lasts.{number_upto}
use Rattle.adr_table.proofs.LocalsFound.{among_unit, unit_among}
use Rattle.adr_cycle.proofs.Choosing.{units_rise}

-- the unit, where its number is this
abbrev pub at_number : ℕ → Last → Option Named
at_number n e = cond (e.0 == n) (Some e.1) None

-- the units under a number
abbrev pub under : ℕ → List Last → List Named
under n es = filter_map (at_number n) es

abbrev pub first_number : List Last → Option ℕ
first_number es = option_map (λ (e : Last). e.0) (slice_get es 0)

-- units that are left, among them all behind a number, and none before it
pub record AreLeft (rows : List Held) (n : ℕ) (left : List Last) : Type 0 where
  pub rises : Rises last_order left
  pub own : Each (IsLast rows n) left
  pub all : (u : Named) → list_any (λ h. same_unit (unit_of h.update.key) u) rows ≡ true → n < last_local rows u → Member (last_local rows u, u) left

at_tells : (n : ℕ) (e : Last) (u : Named) → at_number n e ≡ Some u → e ≡ (n, u)
at_tells n e u is = by (e.0 == n) refl is
  where
    by : (b : Bool) → (e.0 == n) ≡ b → cond b (Some e.1) None ≡ Some u → e ≡ (n, u)
    by true same one = let number : e.0 ≡ n = eqb-true e.0 n same in let unit : e.1 ≡ u = cc in ap (λ m. (m, e.1)) number ∙ ap (λ v. (n, v)) unit
    by false same one = absurd (cc)

under_here : (n : ℕ) (u : Named) → at_number n (n, u) ≡ Some u
under_here n u = ap (λ b. cond b (Some u) None) (eq-eqb n n refl)

pub one_under : (n : ℕ) (u : Named) (es : List Last) → under n ((n, u) ∷ es) ≡ u ∷ under n es
one_under n u es = ap (λ o. cons_option o (under n es)) (under_here n u)

under_rises : (n : ℕ) (es : List Last) → Rises last_order es → Rises unit_order (under n es)
under_rises n [] r = r
under_rises n (e ∷ es) r = by (at_number n e) refl (under_rises n es r.1)
  where
    less : (u v : Named) → last_order (n, u) (n, v) ≡ Less → unit_order u v ≡ Less
    less u v is = ap (λ o. ordering_then o (unit_order u v)) (sym (tied_itself nat_cmp_total n)) ∙ is

    by : (o : Option Named) → at_number n e ≡ o → Rises unit_order (under n es) → Rises unit_order (cons_option o (under n es))
    by None is rest = rest
    by (Some u) is rest = (later, rest)
      where
        later : Each (λ v. unit_order u v ≡ Less) (under n es)
        later v m =
            let t = of_filter_map (at_number n) es v m in
            less u v (ap (λ f. last_order f (n, v)) (sym (at_tells n e u is)) ∙ ap (last_order e) (sym (at_tells n t.0 v t.2)) ∙ r.0 t.0 t.1)

module _ (rows : List Held) where
  -- the units under the first number are all of that number
  pub all_under : (n : ℕ) (left : List Last) → AreLasts rows n left → under n left ≡ units_at rows n
  all_under n left lasts =
      same_members_one_list unit_order (not_both_ways unit_order units_total exact_units) (under n left) (units_at rows n)
      (under_rises n left lasts.rises) (filter_rises unit_order (λ u. last_local rows u == n) (units_of rows) (units_rise rows)) to back
    where
      to : Each (λ u. Member u (units_at rows n)) (under n left)
      to u m =
          let t = of_filter_map (at_number n) left u m in
          let e = at_tells n t.0 u t.2 in
          let own = subst (IsLast rows n) e (lasts.own t.0 t.1) in
          in_filter (λ v. last_local rows v == n) (units_of rows) u (unit_among rows u own.held) (eq-eqb (last_local rows u) n own.number)

      back : Each (λ u. Member u (under n left)) (units_at rows n)
      back u m =
          let t = of_filter (λ v. last_local rows v == n) (units_of rows) u m in
          let number : last_local rows u ≡ n = eqb-true (last_local rows u) n t.1 in
          let there = lasts.all u (among_unit rows u t.0) (omega (arith, number)) in
          in_filter_map (at_number n) left (n, u) u (subst (λ k. Member (k, u) left) number there) (under_here n u)

  -- the first number that is left is the next one
  pub next_number : (p n : ℕ) (left : List Last) → AreLasts rows (p + 1) left → first_number left ≡ Some n → IsNextLocal rows p (Some n) × AreLasts rows n left
  next_number p n [] lasts is = absurd (cc)
  next_number p n (e ∷ es) lasts is = (
    (omega (arith, behind), λ u held more. least u (lasts.all u held (omega (arith, more)))),
    record {
      rises = lasts.rises;
      own = λ f m. let own = lasts.own f m in record { held = own.held; number = own.number; from = upto f m };
      all = λ u held from. lasts.all u held (omega (arith, from, behind));
    },
  )
    where
      number : e.0 ≡ n
      number = cc

      behind : p + 1 ≤ n
      behind = let own = lasts.own e (inl refl) in omega (arith, number, own.from)

      upto : (f : Last) → Member f (e ∷ es) → n ≤ f.0
      upto f (inl same) = let its : f.0 ≡ e.0 = ap (λ (g : Last). g.0) same in omega (arith, its, number)
      upto f (inr m) = let rest = number_upto e f (lasts.rises.0 f m) in omega (arith, rest, number)

      least : (u : Named) → Member (last_local rows u, u) (e ∷ es) → n ≤ last_local rows u
      least u m = upto (last_local rows u, u) m

  pub no_number : (p : ℕ) (left : List Last) → AreLasts rows (p + 1) left → first_number left ≡ None → IsNextLocal rows p None
  no_number p [] lasts is u held more = lasts.all u held (omega (arith, more))
  no_number p (e ∷ es) lasts is u held more = absurd (cc)

  pub left_begun : (n : ℕ) (left : List Last) → AreLasts rows n left → AreLeft rows n left
  left_begun n left lasts = record { rises = lasts.rises; own = lasts.own; all = λ u held more. lasts.all u held (omega (arith, more)) }

  pub left_passed : (n : ℕ) (u : Named) (es : List Last) → AreLeft rows n ((n, u) ∷ es) → AreLeft rows n es
  left_passed n u es left = record { rises = left.rises.1; own = λ f m. left.own f (inr m); all = λ v held more. by v more (left.all v held more) }
    where
      by : (v : Named) → n < last_local rows v → Member (last_local rows v, v) ((n, u) ∷ es) → Member (last_local rows v, v) es
      by v more (inl is) = let number : last_local rows v ≡ n = ap (λ (f : Last). f.0) is in absurd (omega (arith, number, more))
      by v more (inr m) = m

  -- at another number none is left under this one
  pub left_ended : (n : ℕ) (left : List Last) → AreLeft rows n left → IfSome (slice_get left 0) (λ (e : Last). e.0 ≢ n) → AreLasts rows (n + 1) left × (under n left ≡ [])
  left_ended n left are other = (
    record {
      rises = are.rises;
      own = λ f m. let own = are.own f m in let up = behind left are other f m in record { held = own.held; number = own.number; from = omega (arith, up) };
      all = λ u held from. are.all u held (omega (arith, from));
    },
    none left (λ f m. let up = behind left are other f m in omega (arith, up)),
  )
    where
      behind : (es : List Last) → AreLeft rows n es → IfSome (slice_get es 0) (λ (e : Last). e.0 ≢ n) → Each (λ f. n < f.0) es
      behind [] are other f m = absurd m
      behind (e ∷ es) are other f m = by f m
        where
          first : n < e.0
          first = let own = are.own e (inl refl) in omega (arith, own.from, other)

          by : (f : Last) → Member f (e ∷ es) → n < f.0
          by f (inl is) = let its : f.0 ≡ e.0 = ap (λ (g : Last). g.0) is in omega (arith, its, first)
          by f (inr m) = let rest = number_upto e f (are.rises.0 f m) in omega (arith, rest, first)

      none : (es : List Last) → Each (λ f. f.0 ≢ n) es → under n es ≡ []
      none [] each = refl
      none (e ∷ es) each = ap (λ b. cons_option (cond b (Some e.1) None) (under n es)) (ne_eqb e.0 n (each e (inl refl))) ∙ none es (λ f m. each f (inr m))
