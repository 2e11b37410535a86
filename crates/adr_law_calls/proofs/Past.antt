-- Rows at or before a boundary stood already when the boundary was made.
use Rattle.std.proofs.Common.{◌≡◌, ◌⊎◌, inl, inr, ⊎_elim, ℕ, ◌≤◌, ◌<◌, List, [], ◌∷◌, true, false, refl, sym, ◌∙◌, subst, arith, nat_le}
use Rattle.std.proofs.lemmas.Bool.Decides.{leb_tells}
use Rattle.adr_model.specs.Member.{Member, Each}
use Rattle.adr_model.specs.Store.{Held}
use Rattle.adr_model.specs.Change.{Change, held_of, rows_after}
use Rattle.adr_model.specs.LocalLog.{LocalLog, where_made, after_changes, rows_at, IsBoundary, Rises, IsKept}
use Rattle.adr_law_calls.proofs.Units.{change_from}
use Rattle.adr_law_calls.proofs.Bounds.{rises_within, same_within, start_at, start_taken, start_from}

abbrev pub AreBoundaries : List Change → ℕ → Type 0
AreBoundaries cs m = Each (λ (c : Change). (c.usn ≤ m) ⊎ Each (λ (x : Held). m < x.local) (held_of c.writes)) cs

abbrev pub Tells : ℕ → ℕ → Type 0
Tells a b = ((nat_le a b ≡ true) × (a ≤ b)) ⊎ ((nat_le a b ≡ false) × (b < a))

abbrev pub after_change : Change → List Held → List Held
after_change c rows = rows_after c.removed (held_of c.writes) rows

module _ (n : ℕ) (old new : List Held) (m m' : ℕ) (same : n ≤ m → old ≡ new) (up : m ≤ m') where
  -- where the newest change is read at the boundary, both read everything
  pub both_read_all : (c : Change) (cs : List Change) → Rises n (c ∷ cs) → c.usn ≤ m → after_changes old cs m ≡ after_changes new cs m'
  both_read_all c cs r le = let b = rises_within n cs r.1 in same_within old new cs m m' (same (omega (arith, b.0, r.0.rises, le))) (λ d i. omega (arith, b.1 d i, r.0.rises, le)) up

  pub past_row_of : (cs : List Change) → Rises n cs → AreBoundaries cs m → Each (λ (x : Held). x.local ≤ m → Member x old) new
      → (x : Held) → Member x (after_changes new cs m') → x.local ≤ m → Member x (after_changes old cs m)
  past_row_of [] r boundaries start x i l = start x i l
  past_row_of (c ∷ cs) r boundaries start x i l = by (λ j. past_row_of cs r.1 (λ d k. boundaries d (inr k)) start x j l) (leb_tells c.usn m') (leb_tells c.usn m) (boundaries c (inl refl))
    where
      before : List Held
      before = after_changes old cs m

      later : List Held
      later = after_changes new cs m'

      by : (Member x later → Member x before) → Tells c.usn m' → Tells c.usn m → ((c.usn ≤ m) ⊎ Each (λ (y : Held). m < y.local) (held_of c.writes)) → Member x (where_made (nat_le c.usn m) c before)
      by rest (inr skip) (inl in_m) boundary = absurd (omega (arith, skip.1, in_m.1, up))
      by rest (inr skip) (inr out) boundary = subst (λ b. Member x (where_made b c before)) (sym out.0) (rest (subst (λ b. Member x (where_made b c later)) skip.0 i))
      by rest (inl taken) (inl in_m) boundary = subst (λ b. Member x (where_made b c before)) (sym in_m.0)
          (subst (λ (rows : List Held). Member x (after_change c rows)) (sym (both_read_all c cs r in_m.1)) (subst (λ b. Member x (where_made b c later)) taken.0 i))
      by rest (inl taken) (inr out) (inl le) = absurd (omega (arith, le, out.1))
      by rest (inl taken) (inr out) (inr each) = subst (λ b. Member x (where_made b c before)) (sym out.0)
          (⊎_elim (λ w. absurd (omega (arith, l, each x w))) rest (change_from c.removed (held_of c.writes) later x (subst (λ b. Member x (where_made b c later)) taken.0 i)))

-- the starts of two readings
pub starts_alike : (n : ℕ) (rows : List Held) (m m' : ℕ) → m ≤ m' → n ≤ m → start_at n rows m ≡ start_at n rows m'
starts_alike n rows m m' up le = start_taken n rows m le ∙ sym (start_taken n rows m' (omega (arith, le, up)))

pub past_row : (h : LocalLog) (m m' : ℕ) → IsKept h → IsBoundary h m → m ≤ m' → (x : Held) → Member x (rows_at h m') → x.local ≤ m → Member x (rows_at h m)
past_row h m m' kept boundary up x i l =
    past_row_of h.start_usn (start_at h.start_usn h.start_rows m) (start_at h.start_usn h.start_rows m') m m' (starts_alike h.start_usn h.start_rows m m' up) up h.changes kept.changes boundary.changes start x i l
  where
    start : Each (λ (y : Held). y.local ≤ m → Member y (start_at h.start_usn h.start_rows m)) (start_at h.start_usn h.start_rows m')
    start y j le = let s = start_from h.start_usn h.start_rows m' y j in
        ⊎_elim (λ in_m. subst (λ (rows : List Held). Member y rows) (sym (start_taken h.start_usn h.start_rows m in_m)) s.1) (λ each. absurd (omega (arith, le, each y s.1))) boundary.start
