-- One write more, and the end of all.
use Rattle.std.proofs.Common.{◌≡◌, ℕ, ◌+◌, ◌≤◌, ◌<◌, ◌^◌, List, [], ◌∷◌, ◌++◌, length, take, drop, map, All, refl, sym, ◌∙◌, ap, arith, length-append, length-take, length-drop}
use Rattle.std.proofs.lemmas.List.{map_push, take_all, drop_at}
use Rattle.std.proofs.lemmas.List.Elements.{All-head, All-tail, All-same, All-push, All-weaker}
use Rattle.adr_disk.specs.Disk.{put}
use Rattle.adr_disk.specs.Memory.{Write, Surface, read_of, left_by, with_write}
use Rattle.adr_run_disk.specs.Entries.{write_of, covered_by, without, without_all, surface_at, IsInRange, IsUndoable}
use Rattle.adr_disk.specs.declared.memory.Crash.{Crash as HowToCrash}
use Rattle.adr_disk.specs.declared.memory.Crash.TheVariants.{Kept, Lost, Torn}
use Rattle.adr_disk.proofs.Bytes.{length-put}
use Rattle.adr_disk.proofs.Writes.{grows, length-over_torn}
use Rattle.adr_run_disk.proofs.Undone.{same_part, without-covered, without-push, put-covered}
use Rattle.adr_run_disk.specs.declared.platter.Entry.{Entry}

-- a surface as slices show it
pub surface-shown : (bytes' bytes log' log covered' covered : List ℕ) (es' es : List Entry) → bytes' ≡ bytes → log' ≡ log → covered' ≡ covered → es' ≡ es → surface_at bytes' log' covered' es' ≡ surface_at bytes log covered es
surface-shown bytes' bytes log' log covered' covered es' es is_bytes is_log is_covered is_es =
    ap (λ (l : List ℕ). surface_at l log' covered' es') is_bytes
    ∙ ap (λ (l : List ℕ). surface_at bytes l covered' es') is_log
    ∙ ap (λ (l : List ℕ). surface_at bytes log l es') is_covered
    ∙ ap (surface_at bytes log covered) is_es

-- bytes of earlier writes stay as the log grows
same_writes : (log new : List ℕ) (es : List Entry) → All (IsInRange (length log)) es → map (write_of (log ++ new)) es ≡ map (write_of log) es
same_writes log new [] all = refl
same_writes log new (e ∷ es) all =
    ap (λ (l : List ℕ). record { at = e.at; bytes = l } ∷ map (write_of (log ++ new)) es) (same_part log new e.from e.len (All-head (IsInRange (length log)) e es all).0)
    ∙ ap (λ (ws : List Write). write_of log e ∷ ws) (same_writes log new es (All-tail (IsInRange (length log)) e es all))

-- an entry for a write of these bytes, at the end of a log and of the covered bytes
pub record IsEntryFor (bytes log covered new : List ℕ) (e : Entry) : Type 0 where
  pub from : e.from ≡ length log
  pub len : e.len ≡ length new
  pub before : e.before ≡ length bytes
  pub covered_from : e.covered_from ≡ length covered
  pub covered_len : e.covered_len ≡ length (take (length new) (drop e.at bytes))

module _ (bytes log covered new : List ℕ) (e : Entry) (es : List Entry) (is : IsEntryFor bytes log covered new e) (in_range : All (IsInRange (length log)) es) (undoable : All (IsUndoable (length covered) (length bytes)) es) (within : e.at ≤ length bytes) where
  abbrev pub write : Write
  write = record { at = e.at; bytes = new }

  abbrev old : List ℕ
  old = take (length new) (drop e.at bytes)

  write_is : write_of (log ++ new) e ≡ write
  write_is =
      ap (λ (l : List ℕ). record { at = e.at; bytes = take e.len l }) (drop_at log new e.from (sym is.from))
      ∙ ap (λ (l : List ℕ). record { at = e.at; bytes = l }) (take_all e.len new (omega (arith, is.len)))

  written-added : map (write_of (log ++ new)) (es ++ e ∷ []) ≡ map (write_of log) es ++ write ∷ []
  written-added =
      map_push (write_of (log ++ new)) es e
      ∙ ap (λ (l : List Write). l ++ write_of (log ++ new) e ∷ []) (same_writes log new es in_range)
      ∙ ap (λ (w : Write). map (write_of log) es ++ w ∷ []) write_is

  covered_is : covered_by (covered ++ old) e ≡ old
  covered_is = ap (take e.covered_len) (drop_at covered old e.covered_from (sym is.covered_from)) ∙ take_all e.covered_len old (omega (arith, is.covered_len))

  undone : without (covered ++ old) e (put bytes e.at new) ≡ bytes
  undone =
      ap (put (take e.before (put bytes e.at new)) e.at) covered_is
      ∙ ap (λ (n : ℕ). put (take n (put bytes e.at new)) e.at old) is.before
      ∙ put-covered bytes new e.at within

  synced-added : without_all (covered ++ old) (es ++ e ∷ []) (put bytes e.at new) ≡ without_all covered es bytes
  synced-added =
      without-push (covered ++ old) (put bytes e.at new) es e
      ∙ ap (without_all (covered ++ old) es) undone
      ∙ without-covered covered old bytes (length bytes) es undoable

  pub surface-added : (bytes' log' covered' : List ℕ) (es' : List Entry) → bytes' ≡ put bytes e.at new → log' ≡ log ++ new → covered' ≡ covered ++ old → es' ≡ es ++ e ∷ []
      → surface_at bytes' log' covered' es' ≡ with_write (surface_at bytes log covered es) write
  surface-added bytes' log' covered' es' puts grows covers pushes =
      surface-shown bytes' (put bytes e.at new) log' (log ++ new) covered' (covered ++ old) es' (es ++ e ∷ []) puts grows covers pushes
      ∙ ap (λ (l : List ℕ). record { synced = l; written = map (write_of (log ++ new)) (es ++ e ∷ []) }) synced-added
      ∙ ap (λ (ws : List Write). record { synced = without_all covered es bytes; written = ws }) written-added

  pub in_range-added : (log' : List ℕ) (es' : List Entry) → log' ≡ log ++ new → es' ≡ es ++ e ∷ [] → e.at + length new < 2 ^ 64 → All (IsInRange (length log')) es'
  in_range-added log' es' grows pushes small =
      let longer : length log' ≡ length log + length new = ap length grows ∙ length-append log new in
      let wider : (d : Entry) → IsInRange (length log) d → IsInRange (length log') d = λ d range. (omega (arith, range.0, longer), range.1) in
      All-same (IsInRange (length log')) es' (es ++ e ∷ []) pushes
      (All-push (IsInRange (length log')) es e (All-weaker (IsInRange (length log)) (IsInRange (length log')) wider es in_range) (omega (arith, is.from, is.len, longer), omega (arith, is.len, small)))

  pub undoable-added : (bytes' covered' : List ℕ) (es' : List Entry) → bytes' ≡ put bytes e.at new → covered' ≡ covered ++ old → es' ≡ es ++ e ∷ [] → All (IsUndoable (length covered') (length bytes')) es'
  undoable-added bytes' covered' es' puts covers pushes =
      let more : length covered' ≡ length covered + length old = ap length covers ∙ length-append covered old in
      let longer : length bytes ≤ length bytes' = omega (arith, ap length puts, length-put bytes e.at new) in
      let wider : (d : Entry) → IsUndoable (length covered) (length bytes) d → IsUndoable (length covered') (length bytes') d =
      λ d can. record {
        in_covered = omega (arith, can.in_covered, more);
        no_longer = can.no_longer;
        in_room = omega (arith, can.in_room, longer);
      } in
      All-same (IsUndoable (length covered') (length bytes')) es' (es ++ e ∷ []) pushes
      (All-push (IsUndoable (length covered') (length bytes')) es e (All-weaker (IsUndoable (length covered) (length bytes)) (IsUndoable (length covered') (length bytes')) wider es undoable)
      (record {
        in_covered = omega (arith, is.covered_from, is.covered_len, more);
        no_longer = omega (arith, is.before, is.covered_len, within, length-take (length new) (drop e.at bytes), length-drop e.at bytes);
        in_room = omega (arith, is.before, longer);
      }))

-- what is left is no longer than what a read gave
pub length-left_by : (how : HowToCrash) (t : Surface) → length (left_by how t) ≤ length (read_of t)
length-left_by Kept t = omega arith
length-left_by Lost t = grows t.written t.synced
length-left_by Torn t = omega (arith, length-over_torn t.written t.synced t.synced refl)
