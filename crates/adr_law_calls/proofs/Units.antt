-- What putting and removing rows does to the rows of a unit.
use Rattle.std.proofs.Common.{◌≡◌, ◌⊎◌, inl, inr, ⊎_elim, List, [], ◌∷◌, Bool, true, false, refl, sym, ap, ◌∙◌, subst, fold, filter, not}
use Rattle.adr_values.specs.declared.stamp.Oid.{Oid}
use Rattle.adr_values.specs.declared.stamp.Unit.TheVariants.{Object}
use Rattle.adr_model.specs.Member.{Member, Each}
use Rattle.adr_model.specs.Update.{Key, unit_of}
use Rattle.adr_model.specs.Reflects.{IsDeathOf}
use Rattle.adr_model.specs.Store.{Held, is_row_of}
use Rattle.adr_model.specs.Change.{goes_with, put, without_object, rows_after}
use Rattle.adr_model.specs.LocalLog.{SameUnit}
use Rattle.adr_law_calls.specs.Units.{IsUnitGone, IsAccountedFor}
use Rattle.adr_model.proofs.Members.{in_filter, of_filter}
use Rattle.adr_law_calls.proofs.Rows.{row_by_unit, put_itself, put_from, put_keeps, put_bare, puts_from}
use Rattle.adr_law_calls.proofs.Locals.{unit_or_not}
use Rattle.adr_law_calls.proofs.Order.{goes_whole}

-- filtering out what a test of the unit meets takes whole units
unit_filtered : (test : Held → Bool) (rows : List Held) (x : Held) → ((y : Held) → SameUnit y x → test y ≡ true) → IsUnitGone x (filter (λ h. not (test h)) rows)
unit_filtered test rows x all y m s = let t = of_filter (λ h. not (test h)) rows y m in let p : test y ≡ true = all y s in let n : not (test y) ≡ true = t.1 in let q : not true ≡ true = sym (ap not p) ∙ n in cc

abbrev Fares : Held → Key → List Held → Type 0
Fares x k rows = Member x rows ⊎ ((unit_of k ≡ unit_of x.update.key) ⊎ IsUnitGone x rows)

-- a row that a put replaces or strips is of its unit, or of one that is gone
put_fares : (rows : List Held) (h x : Held) → Member x rows → Fares x h.update.key (put rows h)
put_fares rows h x m = by (put_keeps rows h x m)
  where
    gone : (o : Oid) → IsDeathOf o h.update → goes_with o x.update.key ≡ true → (unit_of x.update.key ≡ Object o → ⊥) → IsUnitGone x (put rows h)
    gone o is g other y n s =
        let goes : goes_with o y.update.key ≡ true = goes_whole o x.update.key y.update.key g (sym s) (λ e. other (sym s ∙ e)) in
        let stays : goes_with o y.update.key ≡ false = put_bare rows h o is y n in
        cc

    stripped : (o : Oid) → IsDeathOf o h.update → goes_with o x.update.key ≡ true → (unit_of x.update.key ≡ Object o) ⊎ (unit_of x.update.key ≡ Object o → ⊥) → Fares x h.update.key (put rows h)
    stripped o is g (inl e) = inr (inl (ap unit_of is ∙ sym e))
    stripped o is g (inr other) = inr (inr (gone o is g other))

    by : (h.update.key ≡ x.update.key) ⊎ (((o : Oid) × IsDeathOf o h.update × (goes_with o x.update.key ≡ true)) ⊎ Member x (put rows h)) → Fares x h.update.key (put rows h)
    by (inl e) = inr (inl (ap unit_of e))
    by (inr (inl (o, is, g))) = stripped o is g (unit_or_not (unit_of x.update.key) (Object o))
    by (inr (inr i)) = inl i

-- a put keeps what was said of a row
put_accounts : (writes rows : List Held) (h x : Held) → Member h writes → IsAccountedFor writes x rows → IsAccountedFor writes x (put rows h)
put_accounts writes rows h x w (inl m) = by (put_fares rows h x m)
  where
    by : Fares x h.update.key (put rows h) → IsAccountedFor writes x (put rows h)
    by (inl i) = inl i
    by (inr (inl e)) = inr (inl (h, w, e, put_itself rows h))
    by (inr (inr g)) = inr (inr g)
put_accounts writes rows h x w (inr (inl (v, n, s, m))) = by (put_fares rows h v m)
  where
    by : Fares v h.update.key (put rows h) → IsAccountedFor writes x (put rows h)
    by (inl i) = inr (inl (v, n, s, i))
    by (inr (inl e)) = inr (inl (h, w, e ∙ s, put_itself rows h))
    by (inr (inr g)) = inr (inr (λ y i t. g y i (t ∙ sym s)))
put_accounts writes rows h x w (inr (inr g)) = by (unit_or_not (unit_of h.update.key) (unit_of x.update.key))
  where
    by : (SameUnit h x) ⊎ (SameUnit h x → ⊥) → IsAccountedFor writes x (put rows h)
    by (inl s) = inr (inl (h, w, s, put_itself rows h))
    by (inr other) = inr (inr (λ y i t. ⊎_elim (λ e. other (subst (λ (z : Held). SameUnit z x) e t)) (λ j. g y j t) (put_from rows h y i)))

puts_account : (writes hs rows : List Held) (x : Held) → Each (λ h. Member h writes) hs → IsAccountedFor writes x rows → IsAccountedFor writes x (fold put rows hs)
puts_account writes [] rows x all a = a
puts_account writes (h ∷ hs) rows x all a = puts_account writes hs (put rows h) x (λ y m. all y (inr m)) (put_accounts writes rows h x (all h (inl refl)) a)

-- ---- removals

without_fares : (rows : List Held) (o : Oid) (x : Held) → Member x rows → Member x (without_object rows o) ⊎ IsUnitGone x (without_object rows o)
without_fares rows o x m = by (is_row_of o x.update.key) refl
  where
    by : (b : Bool) → is_row_of o x.update.key ≡ b → Member x (without_object rows o) ⊎ IsUnitGone x (without_object rows o)
    by false is = inl (in_filter (λ h. not (is_row_of o h.update.key)) rows x m (ap not is))
    by true is = inr (unit_filtered (λ h. is_row_of o h.update.key) rows x (λ y s. row_by_unit o y.update.key x.update.key s ∙ is))

without_accounts : (writes rows : List Held) (o : Oid) (x : Held) → IsAccountedFor writes x rows → IsAccountedFor writes x (without_object rows o)
without_accounts writes rows o x (inl m) = ⊎_elim (λ i. inl i) (λ g. inr (inr g)) (without_fares rows o x m)
without_accounts writes rows o x (inr (inl (v, n, s, m))) = ⊎_elim (λ i. inr (inl (v, n, s, i))) (λ g. inr (inr (λ y i t. g y i (t ∙ sym s)))) (without_fares rows o v m)
without_accounts writes rows o x (inr (inr g)) = inr (inr (λ y i t. g y (of_filter (λ h. not (is_row_of o h.update.key)) rows y i).0 t))

removals_account : (writes : List Held) (os : List Oid) (rows : List Held) (x : Held) → IsAccountedFor writes x rows → IsAccountedFor writes x (fold without_object rows os)
removals_account writes [] rows x a = a
removals_account writes (o ∷ os) rows x a = removals_account writes os (without_object rows o) x (without_accounts writes rows o x a)

pub removals_from : (os : List Oid) (rows : List Held) (x : Held) → Member x (fold without_object rows os) → Member x rows
removals_from [] rows x m = m
removals_from (o ∷ os) rows x m = (of_filter (λ h. not (is_row_of o h.update.key)) rows x (removals_from os (without_object rows o) x m)).0

-- ---- a change

pub change_from : (removed : List Oid) (writes rows : List Held) (x : Held) → Member x (rows_after removed writes rows) → Member x writes ⊎ Member x rows
change_from removed writes rows x m = puts_from writes rows x (removals_from removed (fold put rows writes) x m)

pub change_accounts : (removed : List Oid) (writes rows : List Held) (x : Held) → Member x rows → IsAccountedFor writes x (rows_after removed writes rows)
change_accounts removed writes rows x m = removals_account writes removed (fold put rows writes) x (puts_account writes writes rows x (λ h w. w) (inl m))
