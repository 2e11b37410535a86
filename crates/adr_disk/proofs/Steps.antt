-- The end of the unsynced writes.
use Rattle.std.proofs.lemmas.Bool.Decides.{nat_tests}
use Rattle.std.proofs.Common.{if◌then◌else◌, ◌==◌, ◌≡◌, ℕ, ◌<◌, [], ◌∷◌, ◌++◌, length, refl, arith}
use Rattle.adr_disk.specs.Memory.{Held, left_by, all_synced, after_end}
use Rattle.adr_disk.specs.declared.memory.Crash.{Crash as HowToCrash}

not_zero : {X : Type 0} (n : ℕ) (x y : X) → 0 < n → (if n == 0 then x else y) ≡ y
not_zero n x y some = grind (arith, nat_tests)

pub after_end_none : (how : HowToCrash) (h : Held) → length h.surface.written ≡ 0 → after_end how h ≡ h
after_end_none how h none = rw none refl

pub after_end_some : (how : HowToCrash) (h : Held) → 0 < length h.surface.written → after_end how h ≡ record h { surface = all_synced (left_by how h.surface); past = h.past ++ h.surface ∷ [] }
after_end_some how h some = not_zero (length h.surface.written) h (record h { surface = all_synced (left_by how h.surface); past = h.past ++ h.surface ∷ [] }) some
