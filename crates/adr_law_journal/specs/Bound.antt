-- How long a file of a log becomes.
use Rattle.std.specs.Prelude.{◌≡◌, ◌⊎◌, ℕ, ◌+◌, ◌*◌, ◌≤◌, ◌<◌, max}
use Rattle.adr_model.specs.Lengths.{Log, first_area, image_bytes, record_bytes}

-- The file had so many bytes when it was first started, 0 where it was formatted; no image and no record is longer than these
pub record IsBounded (file image longest : ℕ) (l : Log) : Type 0 where
  pub starts : l.place + 6 ≤ l.first
  pub ends : l.first + 1 ≤ l.log_end
  pub images : image_bytes l ≤ image
  pub area : (l.log_end ≤ file) ⊎ (l.log_end ≤ l.place + 65543 + 2 * image + longest)
  pub low : l.place ≤ file + 65606 + 3 * image + longest

-- a record of so many bytes before which no checkpoint is due: it is the first, or all with it are at most 64 KiB longer than the image
abbrev pub IsUndue : Log → ℕ → Type 0
IsUndue l n = (record_bytes l ≡ 0) ⊎ (record_bytes l + n ≤ image_bytes l + 65536)

-- a new area with an image of so many bytes stands at this place: before the live one, or behind it, where it doesn't fit before
abbrev pub IsPlaced : Log → ℕ → ℕ → Type 0
IsPlaced l image place =
    ((place ≡ first_area) × (first_area + 7 + image ≤ l.place)) ⊎ ((place ≡ l.log_end) × (l.place < first_area + 7 + image))

abbrev pub RecordsStay : Type 0
RecordsStay =
    (file image longest n : ℕ) (l : Log) → IsBounded file image longest l → IsUndue l n
    → IsBounded file image (max longest n) (record l { log_end = l.log_end + n })

abbrev pub AreasStay : Type 0
AreasStay =
    (file image longest n place : ℕ) (l m : Log) → IsBounded file image longest l → IsPlaced l n place
    → m.place ≡ place → m.first ≡ place + 6 + n → m.log_end ≡ place + 7 + n → IsBounded file (max image n) longest m

-- a file that held so much, and then a log that ends there
abbrev pub FilesStay : Type 0
FilesStay =
    (file image longest : ℕ) (l : Log) → IsBounded file image longest l → l.log_end ≤ file + 5 * image + 2 * longest + 131200
