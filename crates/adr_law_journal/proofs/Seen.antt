-- The three things that a disk in memory may be left with, and what each call makes of them.
use Rattle.std.proofs.Common.{◌≡◌, ⊎_elim, ℕ, ◌≤◌, ◌<◌, List, [], ◌∷◌, length, map, refl, sym, ◌∙◌, ap, subst, arith}
use Rattle.std.proofs.lemmas.List.{map-append}
use Rattle.std.proofs.lemmas.Bool.{cases_lt}
use Rattle.adr_disk.specs.declared.memory.Crash.{Crash as HowToCrash}
use Rattle.adr_disk.specs.declared.memory.Crash.TheVariants.{Kept, Lost, Torn}
use Rattle.adr_disk.specs.Disk.{put}
use Rattle.adr_disk.specs.Memory.{Write, Surface, Held, over, read_of, left_by, torn_half, torn_write, all_synced, with_write, after_end}
use Rattle.adr_disk.proofs.Writes.{over-append}
use Rattle.adr_disk.proofs.Steps.{after_end_none, after_end_some}

-- what a crash leaves of a surface, by its kind
pub record Seen (s : Surface) (read lost torn : List ℕ) : Type 0 where
  pub is_read : read_of s ≡ read
  pub is_lost : s.synced ≡ lost
  pub is_torn : over s.synced (map torn_write s.written) ≡ torn

abbrev pub pick : HowToCrash → List ℕ → List ℕ → List ℕ → List ℕ
pick Kept read lost torn = read
pick Lost read lost torn = lost
pick Torn read lost torn = torn

pub Seen-same : (s t : Surface) (r l q : List ℕ) → t ≡ s → Seen s r l q → Seen t r l q
Seen-same s t r l q is seen = subst (λ (u : Surface). Seen u r l q) (sym is) seen

pub Seen-write : (s : Surface) (w : Write) (r l q : List ℕ) → Seen s r l q → Seen (with_write s w) (put r w.at w.bytes) l (put q w.at (torn_half w.bytes))
Seen-write s w r l q seen = record {
  is_read = over-append s.written (w ∷ []) s.synced ∙ ap (λ (b : List ℕ). put b w.at w.bytes) seen.is_read;
  is_lost = seen.is_lost;
  is_torn =
      ap (over s.synced) (map-append torn_write s.written (w ∷ []))
      ∙ over-append (map torn_write s.written) (torn_write w ∷ []) s.synced
      ∙ ap (λ (b : List ℕ). put b w.at (torn_half w.bytes)) seen.is_torn;
}

left_is : (how : HowToCrash) (s : Surface) (r l q : List ℕ) → Seen s r l q → left_by how s ≡ pick how r l q
left_is Kept s r l q seen = seen.is_read
left_is Lost s r l q seen = seen.is_lost
left_is Torn s r l q seen = seen.is_torn

nothing_written : (how : HowToCrash) (ws : List Write) (s : List ℕ) → length ws ≡ 0 → left_by how (record { synced = s; written = ws }) ≡ s
nothing_written Kept [] s none = refl
nothing_written Lost [] s none = refl
nothing_written Torn [] s none = refl
nothing_written how (w ∷ ws) s none = absurd (omega arith)

no_writes : (ws : List Write) → length ws ≡ 0 → ws ≡ []
no_writes [] none = refl
no_writes (w ∷ ws) none = absurd (omega arith)

ended_surface : (how : HowToCrash) (h : Held) → (after_end how h).surface ≡ all_synced (left_by how h.surface)
ended_surface how h = ⊎_elim
    (λ (some : 0 < length h.surface.written). ap (λ (g : Held). g.surface) (after_end_some how h some))
    (λ (none : length h.surface.written ≤ 0).
    ap (λ (g : Held). g.surface) (after_end_none how h (omega arith))
    ∙ (λ i. record { synced = sym (nothing_written how h.surface.written h.surface.synced (omega arith)) i; written = no_writes h.surface.written (omega arith) i }))
    (cases_lt 0 (length h.surface.written))

pub Seen-end : (how : HowToCrash) (h : Held) (r l q : List ℕ) → Seen h.surface r l q → Seen (after_end how h).surface (pick how r l q) (pick how r l q) (pick how r l q)
Seen-end how h r l q seen =
    let x = pick how r l q in
    Seen-same (all_synced x) (after_end how h).surface x x x (ended_surface how h ∙ ap all_synced (left_is how h.surface r l q seen)) (record { is_read = refl; is_lost = refl; is_torn = refl })
