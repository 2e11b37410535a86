-- What a mark says of a log moves on with the log.
use Rattle.std.proofs.Common.{inl, inr, ℕ, ◌≤◌, List, refl, arith}
use Rattle.adr_values.specs.declared.mark.Mark.{Mark}
use Rattle.adr_model.specs.Member.{Member}
use Rattle.adr_model.specs.Update.{Update}
use Rattle.adr_model.specs.Reflects.{Knowledge}
use Rattle.adr_model.specs.Store.{Held, no_mark}
use Rattle.adr_model.specs.LocalLog.{LocalLog, rows_at, IsBoundary, IsKept, IsOrdered, IsBelow, WatermarkHolds}
use Rattle.adr_law_calls.specs.Logs.{at_moment}
use Rattle.adr_law_calls.proofs.Bounds.{rows_are_within}
use Rattle.adr_law_calls.proofs.Past.{past_row}
use Rattle.adr_law_calls.proofs.PastUnits.{past_unit}

pub past_below : (h : LocalLog) (m : Mark) (later : ℕ) → IsKept h → IsBoundary h m.seen → IsOrdered m → m.seen ≤ later
    → (x : Held) → Member x (rows_at h later) → IsBelow (rows_at h later) m x → Member x (rows_at h m.seen) × IsBelow (rows_at h m.seen) m x
past_below h m later kept boundary o up x i (inl p) = (past_row h m.seen later kept boundary up x i (omega (arith, p, o.prop, o.obj)), inl p)
past_below h m later kept boundary o up x i (inr u) = (
  past_row h m.seen later kept boundary up x i (omega (arith, u x i refl, o.obj)),
  inr (λ y j s. u y (past_unit h m.seen later kept boundary up x i (λ z k t. omega (arith, u z k t, o.obj)) y j s) s),
)

pub mark_moves : (issued : List Update) (k : Knowledge) (h : LocalLog) (m : Mark) (later : ℕ) → IsKept h → IsBoundary h m.seen → IsOrdered m → m.seen ≤ later
    → WatermarkHolds issued k h m → WatermarkHolds issued k h (at_moment m later)
mark_moves issued k h m later kept boundary o up holds x i b = let past = past_below h m later kept boundary o up x i b in holds x past.0 past.1

pub no_mark_holds : (issued : List Update) (k : Knowledge) (h : LocalLog) → IsKept h → WatermarkHolds issued k h no_mark
no_mark_holds issued k h kept x i b = absurd (omega (arith, (rows_are_within h 0 kept x i).0, (rows_are_within h 0 kept x i).1))
