-- Why a disk in memory is honest, and what its moments are.
use Rattle.std.specs.Prelude.{ℕ, ◌⊎◌, List, [], ◌∷◌, length, drop, refl}
use Rattle.std.proofs.Common.{inl, inr}
use Rattle.adr_disk.specs.Memory.{Write, Surface, over, MayLeave, IsImage, IsImageOfOne}
use Rattle.adr_disk.specs.Disk.{put}
use Rattle.adr_disk.proofs.Bytes.{Torn-put}

pub MayLeave-over : (ws : List Write) (bytes : List ℕ) → MayLeave bytes ws (over bytes ws)
MayLeave-over [] bytes = refl
MayLeave-over (w ∷ ws) bytes = (put bytes w.at w.bytes, Torn-put bytes w.at (length w.bytes) w.bytes refl, MayLeave-over ws (put bytes w.at w.bytes))

none_left : (ss : List Surface) (bytes : List ℕ) → IsImageOfOne (drop (length ss) ss) bytes → ⊥
none_left [] bytes had = had
none_left (s ∷ ss) bytes had = none_left ss bytes had

-- since the present moment there is no surface but this
pub only_present : (s : Surface) (past : List Surface) (bytes : List ℕ) → IsImage s bytes ⊎ IsImageOfOne (drop (length past) past) bytes → IsImage s bytes
only_present s past bytes (inl now) = now
only_present s past bytes (inr had) = absurd (none_left past bytes had)
