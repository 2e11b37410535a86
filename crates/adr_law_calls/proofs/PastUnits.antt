-- A unit that stands later with no row behind a boundary had all its rows at the boundary, and has them still.
use Rattle.std.proofs.Common.{◌≡◌, ◌⊎◌, inl, inr, ⊎_elim, ℕ, ◌≤◌, ◌<◌, List, [], ◌∷◌, refl, sym, ◌∙◌, subst, arith, nat_le}
use Rattle.std.proofs.lemmas.Bool.Decides.{leb_tells}
use Rattle.adr_model.specs.Member.{Member, Each}
use Rattle.adr_model.specs.Store.{Held}
use Rattle.adr_model.specs.Change.{Change, held_of}
use Rattle.adr_model.specs.LocalLog.{LocalLog, where_made, after_changes, rows_at, IsBoundary, Rises, IsKept, SameUnit}
use Rattle.adr_law_calls.specs.Logs.{IsUnitWithin}
use Rattle.adr_law_calls.proofs.Units.{change_from, change_accounts}
use Rattle.adr_law_calls.proofs.Bounds.{start_at, start_taken, start_from}
use Rattle.adr_law_calls.proofs.Past.{AreBoundaries, Tells, after_change, both_read_all, starts_alike}

-- a change whose writes all lie behind the boundary took no row of a unit that stands after it with no row behind the boundary
unit_stays : (c : Change) (m : ℕ) (later : List Held) (x : Held) → Each (λ (w : Held). m < w.local) (held_of c.writes) → Member x (after_change c later) → IsUnitWithin (after_change c later) x m
    → (y : Held) → Member y later → SameUnit y x → Member y (after_change c later)
unit_stays c m later x each here all y i s = ⊎_elim (λ j. j) (λ rest. ⊎_elim
    (λ w. absurd (omega (arith, each w.0 w.1, all w.0 w.3 (w.2 ∙ s))))
    (λ gone. absurd (gone x here (sym s))) rest) (change_accounts c.removed (held_of c.writes) later y i)

module _ (n : ℕ) (old new : List Held) (m m' : ℕ) (same : n ≤ m → old ≡ new) (up : m ≤ m') where
  past_unit_of : (cs : List Change) → Rises n cs → AreBoundaries cs m → ((y : Held) → Member y old → Member y new)
      → (x : Held) → Member x (after_changes new cs m') → IsUnitWithin (after_changes new cs m') x m
      → (y : Held) → Member y (after_changes old cs m) → SameUnit y x → Member y (after_changes new cs m')
  past_unit_of [] r boundaries start x here within y i s = start y i
  past_unit_of (c ∷ cs) r boundaries start x here within y i s = by (past_unit_of cs r.1 (λ d k. boundaries d (inr k)) start x) (leb_tells c.usn m') (leb_tells c.usn m) (boundaries c (inl refl))
    where
      before : List Held
      before = after_changes old cs m

      later : List Held
      later = after_changes new cs m'

      Rest : Type 0
      Rest = Member x later → IsUnitWithin later x m → (z : Held) → Member z before → SameUnit z x → Member z later

      by : Rest → Tells c.usn m' → Tells c.usn m → ((c.usn ≤ m) ⊎ Each (λ (w : Held). m < w.local) (held_of c.writes)) → Member y (where_made (nat_le c.usn m') c later)
      by rest (inr skip) (inl in_m) boundary = absurd (omega (arith, skip.1, in_m.1, up))
      by rest (inr skip) (inr out) boundary = subst (λ b. Member y (where_made b c later)) (sym skip.0)
          (rest (subst (λ b. Member x (where_made b c later)) skip.0 here) (subst (λ b. IsUnitWithin (where_made b c later) x m) skip.0 within) y (subst (λ b. Member y (where_made b c before)) out.0 i) s)
      by rest (inl taken) (inl in_m) boundary = subst (λ b. Member y (where_made b c later)) (sym taken.0)
          (subst (λ (rows : List Held). Member y (after_change c rows)) (both_read_all n old new m m' same up c cs r in_m.1) (subst (λ b. Member y (where_made b c before)) in_m.0 i))
      by rest (inl taken) (inr out) (inl le) = absurd (omega (arith, le, out.1))
      by rest (inl taken) (inr out) (inr each) = subst (λ b. Member y (where_made b c later)) (sym taken.0)
          (stays y (rest x_before (λ z j t. all z (stays z j t) t) y (subst (λ b. Member y (where_made b c before)) out.0 i) s) s)
        where
          x_in : Member x (after_change c later)
          x_in = subst (λ b. Member x (where_made b c later)) taken.0 here

          all : IsUnitWithin (after_change c later) x m
          all = subst (λ b. IsUnitWithin (where_made b c later) x m) taken.0 within

          stays : (z : Held) → Member z later → SameUnit z x → Member z (after_change c later)
          stays = unit_stays c m later x each x_in all

          x_before : Member x later
          x_before = ⊎_elim (λ w. absurd (omega (arith, each x w, all x x_in refl))) (λ j. j) (change_from c.removed (held_of c.writes) later x x_in)

pub past_unit : (h : LocalLog) (m m' : ℕ) → IsKept h → IsBoundary h m → m ≤ m' → (x : Held) → Member x (rows_at h m') → IsUnitWithin (rows_at h m') x m
    → (y : Held) → Member y (rows_at h m) → SameUnit y x → Member y (rows_at h m')
past_unit h m m' kept boundary up x here within y i s =
    past_unit_of h.start_usn (start_at h.start_usn h.start_rows m) (start_at h.start_usn h.start_rows m') m m' (starts_alike h.start_usn h.start_rows m m' up) up h.changes kept.changes boundary.changes start x here within y i s
  where
    start : (z : Held) → Member z (start_at h.start_usn h.start_rows m) → Member z (start_at h.start_usn h.start_rows m')
    start z j = let t = start_from h.start_usn h.start_rows m z j in subst (λ (rows : List Held). Member z rows) (sym (start_taken h.start_usn h.start_rows m' (omega (arith, t.0, up)))) t.1
