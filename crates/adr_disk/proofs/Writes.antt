-- Writes one after another, and torn ones.
use Rattle.std.proofs.Common.{◌≡◌, ℕ, ◌≤◌, List, [], ◌∷◌, ◌++◌, length, map, refl, arith, length-append, length-take}
use Rattle.std.proofs.lemmas.List.{length-replicate}
use Rattle.adr_disk.specs.Disk.{put}
use Rattle.adr_disk.proofs.Bytes.{length-put}
use Rattle.adr_disk.specs.Memory.{Write, over, torn_half, torn_write}

pub over-append : (ws us : List Write) (s : List ℕ) → over s (ws ++ us) ≡ over (over s ws) us
over-append [] us s = refl
over-append (w ∷ ws) us s = over-append ws us (put s w.at w.bytes)

pub grows : (ws : List Write) (s : List ℕ) → length s ≤ length (over s ws)
grows [] s = omega arith
grows (w ∷ ws) s = omega (arith, length-put s w.at w.bytes, grows ws (put s w.at w.bytes))

pub length-torn_half : (x : List ℕ) → length (torn_half x) ≡ length x
length-torn_half x = simp (length-append, length-take, length-replicate) (omega arith)

pub length-over_torn : (ws : List Write) (s t : List ℕ) → length s ≡ length t → length (over s (map torn_write ws)) ≡ length (over t ws)
length-over_torn [] s t same = same
length-over_torn (w ∷ ws) s t same =
    length-over_torn ws (put s w.at (torn_half w.bytes)) (put t w.at w.bytes) (omega (arith, length-put s w.at (torn_half w.bytes), length-put t w.at w.bytes, length-torn_half w.bytes, same))
