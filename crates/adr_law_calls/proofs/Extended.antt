-- A log with one more change.
use Rattle.std.proofs.Common.{◌≡◌, inl, inr, ⊎_elim, ℕ, ◌≤◌, ◌<◌, List, [], ◌∙◌, subst, ap, ap₂, arith, nat_le}
use Rattle.std.proofs.lemmas.Bool.Decides.{leb_tells}
use Rattle.adr_model.specs.Member.{Member, Each}
use Rattle.adr_model.specs.Store.{Held}
use Rattle.adr_model.specs.Change.{Change, Written, held_of, rows_after}
use Rattle.adr_values.specs.declared.stamp.Oid.{Oid}
use Rattle.adr_model.specs.LocalLog.{LocalLog, last_usn, where_made, rows_at, IsBoundary, Follows, IsKept}
use Rattle.adr_model.specs.Replica.{with_change}
use Rattle.adr_model.specs.LocalLog.{first_log}
use Rattle.adr_law_calls.proofs.Bounds.{made, rows_when_all_is_read}
use Rattle.adr_law_calls.proofs.Past.{Tells, after_change}

pub log_begins : (usn : ℕ) (rows : List Held) → Each (λ (x : Held). (1 ≤ x.local) × (x.local ≤ usn)) rows → IsKept (first_log usn rows)
log_begins usn rows all = record { start = all; changes = tt }

pub log_goes_on : (h : LocalLog) (c : Change) → IsKept h → Follows (last_usn h) c → IsKept (with_change h c)
log_goes_on h c kept next = record { start = kept.start; changes = (next, kept.changes) }

idle_change : (c : Change) (rows : List Held) → (c.writes ≡ []) × (c.removed ≡ []) → after_change c rows ≡ rows
idle_change c rows idle = ap₂ (λ (ws : List Written) (os : List Oid). rows_after os (held_of ws) rows) idle.0 idle.1

pub past_rows_stay : (h : LocalLog) (c : Change) (usn : ℕ) → Follows (last_usn h) c → usn ≤ last_usn h → rows_at (with_change h c) usn ≡ rows_at h usn
past_rows_stay h c usn next le = by (leb_tells c.usn usn)
  where
    rows : List Held
    rows = rows_at h usn

    by : Tells c.usn usn → where_made (nat_le c.usn usn) c rows ≡ rows
    by (inl taken) = ap (λ b. where_made b c rows) taken.0 ∙ idle_change c rows (next.idle (omega (arith, taken.1, le)))
    by (inr skip) = ap (λ b. where_made b c rows) skip.0

pub past_boundaries_stay : (h : LocalLog) (c : Change) (usn : ℕ) → Follows (last_usn h) c → usn ≤ last_usn h → IsBoundary h usn → IsBoundary (with_change h c) usn
past_boundaries_stay h c usn next le boundary = record { start = boundary.start; changes = λ d i. ⊎_elim (λ (e : d ≡ c). inr (λ x j. above x (subst (λ (z : Change). Member x (held_of z.writes)) e j))) (λ old. boundary.changes d old) i }
  where
    above : (x : Held) → Member x (held_of c.writes) → usn < x.local
    above x j = omega (arith, le, next.above x j)

pub rows_now : (h : LocalLog) (c : Change) → IsKept h → Follows (last_usn h) c → rows_at (with_change h c) c.usn ≡ after_change c (rows_at h (last_usn h))
rows_now h c kept next = made c c.usn (rows_at h c.usn) (omega arith) ∙ ap (after_change c) (rows_when_all_is_read h c.usn kept next.rises)
