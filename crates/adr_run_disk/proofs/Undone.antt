-- Writes undone, the last one first.
use Rattle.std.proofs.Common.{◌≡◌, ℕ, ◌+◌, ◌-◌, ◌≤◌, ◌<◌, min, List, [], ◌∷◌, ◌++◌, length, take, drop, All, refl, sym, ◌∙◌, ap, arith, ⊎_elim, append_assoc, length-take, length-drop, take-append-drop}
use Rattle.std.proofs.lemmas.Bool.{cases_lt}
use Rattle.std.proofs.lemmas.List.{take-append-le, drop-append-le, take-take, take_at, take_all, drop_all, drop-drop}
use Rattle.std.proofs.lemmas.List.Elements.{All-head, All-tail}
use Rattle.adr_disk.specs.Disk.{put}
use Rattle.adr_disk.proofs.Bytes.{length-put, drop-put}
use Rattle.adr_run_disk.specs.Entries.{covered_by, without, without_all, IsUndoable}
use Rattle.adr_run_disk.specs.declared.platter.Entry.{Entry}

-- a part of a log stays as the log grows
pub same_part : (log new : List ℕ) (from n : ℕ) → from + n ≤ length log → take n (drop from (log ++ new)) ≡ take n (drop from log)
same_part log new from n within =
    ap (take n) (drop-append-le from log new (omega arith)) ∙ take-append-le n (drop from log) new (omega (arith, length-drop from log))

-- as more is covered, and a write more stands behind
pub without-covered : (covered more bytes : List ℕ) (room : ℕ) (es : List Entry) → All (IsUndoable (length covered) room) es → without_all (covered ++ more) es bytes ≡ without_all covered es bytes
without-covered covered more bytes room [] all = refl
without-covered covered more bytes room (e ∷ es) all =
    ap (λ (l : List ℕ). put (take e.before l) e.at (covered_by (covered ++ more) e)) (without-covered covered more bytes room es (All-tail (IsUndoable (length covered) room) e es all))
    ∙ ap (put (take e.before (without_all covered es bytes)) e.at) (same_part covered more e.covered_from e.covered_len (All-head (IsUndoable (length covered) room) e es all).in_covered)

pub without-push : (covered bytes : List ℕ) (es : List Entry) (e : Entry) → without_all covered (es ++ e ∷ []) bytes ≡ without_all covered es (without covered e bytes)
without-push covered bytes [] e = refl
without-push covered bytes (d ∷ es) e = ap (without covered d) (without-push covered bytes es e)

-- what a write wrote over, put back over it
module _ (s new : List ℕ) (at : ℕ) (within : at ≤ length s) where
  old : List ℕ
  old = take (length new) (drop at s)

  cut : List ℕ
  cut = take (length s) (put s at new)

  length-old : length old ≡ min (length new) (length s - at)
  unfolding old
  length-old = omega (arith, length-take (length new) (drop at s), length-drop at s)

  length-cut : length cut ≤ length s
  unfolding cut
  length-cut = omega (arith, length-take (length s) (put s at new))

  front : take at cut ≡ take at s
  unfolding cut
  front =
      take-take at (length s) (put s at new) within
      ∙ ap (take at) (append_assoc (take at s) new (drop (at + length new) s))
      ∙ take_at (take at s) (new ++ drop (at + length new) s) at (omega (arith, length-take at s))

  back_within : at + length new ≤ length s → drop (at + length old) cut ≡ drop (at + length new) s
  unfolding cut
  back_within fits =
      let all : length old ≡ length new = omega (arith, length-old) in
      ap (λ (n : ℕ). drop (at + n) cut) all
      ∙ ap (drop (at + length new)) (take_all (length s) (put s at new) (omega (arith, length-put s at new)))
      ∙ drop-put s at new within

  back_past : length s < at + length new → drop (at + length old) cut ≡ drop (at + length new) s
  back_past past = drop_all (at + length old) cut (omega (arith, length-old, length-cut)) ∙ sym (drop_all (at + length new) s (omega arith))

  back : drop (at + length old) cut ≡ drop (at + length new) s
  back = ⊎_elim back_past back_within (cases_lt (length s) (at + length new))

  whole : take at s ++ old ++ drop (at + length new) s ≡ s
  unfolding old
  whole =
      append_assoc (take at s) old (drop (at + length new) s)
      ∙ ap (λ (l : List ℕ). take at s ++ (old ++ l)) (sym (drop-drop (length new) at s))
      ∙ ap (λ (l : List ℕ). take at s ++ l) (take-append-drop (length new) (drop at s))
      ∙ take-append-drop at s

  pub put-covered : put (take (length s) (put s at new)) at (take (length new) (drop at s)) ≡ s
  unfolding old cut
  put-covered =
      ap (λ (l : List ℕ). l ++ old ++ drop (at + length old) cut) front
      ∙ ap (λ (l : List ℕ). take at s ++ old ++ l) back
      ∙ whole
