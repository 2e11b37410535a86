-- USNs of a log that is well kept, and its rows when all of it is read.
use Rattle.std.proofs.Common.{◌≡◌, ◌⊎◌, inl, inr, ⊎_elim, ℕ, ◌≤◌, ◌<◌, List, [], ◌∷◌, true, false, refl, sym, ◌∙◌, subst, ap, arith, nat_le, if◌then◌else◌}
use Rattle.std.proofs.lemmas.Bool.{le-leb}
use Rattle.std.proofs.lemmas.Bool.Decides.{leb_tells}
use Rattle.adr_model.specs.Member.{Member, Each}
use Rattle.adr_model.specs.Store.{Held}
use Rattle.adr_model.specs.Change.{Change, held_of, rows_after}
use Rattle.adr_model.specs.LocalLog.{LocalLog, last_usn, where_made, after_changes, rows_at, IsBoundary, Rises, IsKept}
use Rattle.adr_law_calls.proofs.Units.{change_from}

abbrev pub newest : ℕ → List Change → ℕ
newest n [] = n
newest n (c ∷ cs) = c.usn

pub rises_within : (n : ℕ) (cs : List Change) → Rises n cs → (n ≤ newest n cs) × Each (λ (c : Change). c.usn ≤ newest n cs) cs
rises_within n [] r = (omega arith, λ c i. absurd i)
rises_within n (c ∷ cs) r = let b = rises_within n cs r.1 in (omega (arith, b.0, r.0.rises), λ d i. ⊎_elim (λ e. on d e) (λ j. omega (arith, b.1 d j, r.0.rises)) i)
  where
    on : (d : Change) → d ≡ c → d.usn ≤ c.usn
    on d e = subst (λ (x : Change). d.usn ≤ x.usn) e (omega arith)

-- what is made of rows by a change that is read, and by one that isn't
pub made : (c : Change) (usn : ℕ) (rows : List Held) → c.usn ≤ usn → where_made (nat_le c.usn usn) c rows ≡ rows_after c.removed (held_of c.writes) rows
made c usn rows le = ap (λ b. where_made b c rows) (le-leb c.usn usn le)

pub same_within : (old new : List Held) (cs : List Change) (m m' : ℕ) → old ≡ new → Each (λ (c : Change). c.usn ≤ m) cs → m ≤ m' → after_changes old cs m ≡ after_changes new cs m'
same_within old new [] m m' e all up = e
same_within old new (c ∷ cs) m m' e all up =
    made c m (after_changes old cs m) (all c (inl refl))
    ∙ (ap (λ (rows : List Held). rows_after c.removed (held_of c.writes) rows) (same_within old new cs m m' e (λ d i. all d (inr i)) up)
    ∙ sym (made c m' (after_changes new cs m') (omega (arith, all c (inl refl), up))))

-- the start of a log, as it is read up to a USN
abbrev pub start_at : ℕ → List Held → ℕ → List Held
start_at n rows usn = if nat_le n usn then rows else []

pub start_taken : (n : ℕ) (rows : List Held) (m : ℕ) → n ≤ m → start_at n rows m ≡ rows
start_taken n rows m le = ap (λ b. if b then rows else []) (le-leb n m le)

pub start_from : (n : ℕ) (rows : List Held) (m : ℕ) (x : Held) → Member x (start_at n rows m) → (n ≤ m) × Member x rows
start_from n rows m x i = by (leb_tells n m)
  where
    by : ((nat_le n m ≡ true) × (n ≤ m)) ⊎ ((nat_le n m ≡ false) × (m < n)) → (n ≤ m) × Member x rows
    by (inl taken) = (taken.1, subst (λ b. Member x (if b then rows else [])) taken.0 i)
    by (inr late) = absurd (subst (λ b. Member x (if b then rows else [])) late.0 i)

pub rows_when_all_is_read : (h : LocalLog) (usn : ℕ) → IsKept h → last_usn h ≤ usn → rows_at h usn ≡ rows_at h (last_usn h)
rows_when_all_is_read h usn kept le = sym (same_within _ _ h.changes (last_usn h) usn start bound.1 le)
  where
    bound : (h.start_usn ≤ last_usn h) × Each (λ (c : Change). c.usn ≤ last_usn h) h.changes
    bound = rises_within h.start_usn h.changes kept.changes

    start : start_at h.start_usn h.start_rows (last_usn h) ≡ start_at h.start_usn h.start_rows usn
    start = start_taken h.start_usn h.start_rows (last_usn h) bound.0 ∙ sym (start_taken h.start_usn h.start_rows usn (omega (arith, bound.0, le)))

pub boundary_when_all_is_read : (h : LocalLog) (usn : ℕ) → IsKept h → last_usn h ≤ usn → IsBoundary h usn
boundary_when_all_is_read h usn kept le = record { start = inl (omega (arith, bound.0, le)); changes = λ c i. inl (omega (arith, bound.1 c i, le)) }
  where
    bound : (h.start_usn ≤ last_usn h) × Each (λ (c : Change). c.usn ≤ last_usn h) h.changes
    bound = rises_within h.start_usn h.changes kept.changes

abbrev pub IsIn : ℕ → Held → Type 0
IsIn usn x = (1 ≤ x.local) × (x.local ≤ usn)

local_within : (start : List Held) (n : ℕ) (cs : List Change) (usn : ℕ) → Rises n cs → Each (IsIn usn) start → Each (IsIn usn) (after_changes start cs usn)
local_within start n [] usn r all x i = all x i
local_within start n (c ∷ cs) usn r all x i = by (leb_tells c.usn usn) (local_within start n cs usn r.1 all x)
  where
    rows : List Held
    rows = after_changes start cs usn

    by : ((nat_le c.usn usn ≡ true) × (c.usn ≤ usn)) ⊎ ((nat_le c.usn usn ≡ false) × (usn < c.usn)) → (Member x rows → IsIn usn x) → IsIn usn x
    by (inr skip) rest = rest (subst (λ b. Member x (where_made b c rows)) skip.0 i)
    by (inl taken) rest = ⊎_elim (λ w. (omega (arith, r.0.above x w), omega (arith, r.0.within x w, taken.1))) rest (change_from c.removed (held_of c.writes) rows x (subst (λ b. Member x (where_made b c rows)) taken.0 i))

pub rows_are_within : (h : LocalLog) (usn : ℕ) → IsKept h → Each (IsIn usn) (rows_at h usn)
rows_are_within h usn kept x i = local_within (start_at h.start_usn h.start_rows usn) h.start_usn h.changes usn kept.changes start x i
  where
    start : Each (IsIn usn) (start_at h.start_usn h.start_rows usn)
    start y j = let s = start_from h.start_usn h.start_rows usn y j in let l = kept.start y s.1 in (l.0, omega (arith, l.1, s.0))

pub nothing_at_0_is_split : (h : LocalLog) → IsKept h → IsBoundary h 0
nothing_at_0_is_split h kept = record { start = inr (λ x i. omega (arith, (kept.start x i).0)); changes = λ c i. inr (λ x w. above c i x w) }
  where
    above : (c : Change) → Member c h.changes → (x : Held) → Member x (held_of c.writes) → 0 < x.local
    above = each h.start_usn h.changes kept.changes
      where
        each : (n : ℕ) (cs : List Change) → Rises n cs → (c : Change) → Member c cs → (x : Held) → Member x (held_of c.writes) → 0 < x.local
        each n [] r c i x w = absurd i
        each n (d ∷ ds) r c (inl e) x w = let a = r.0.above x (subst (λ (z : Change). Member x (held_of z.writes)) e w) in omega (arith, a)
        each n (d ∷ ds) r c (inr i) x w = each n ds r.1 c i x w
