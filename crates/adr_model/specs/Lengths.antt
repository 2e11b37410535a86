-- How long images and changes are as bytes, and where the log on a controller's disk ends.
use Rattle.std.specs.Prelude.{ℕ, ◌+◌, ◌-◌, ◌*◌, [], Bool, false, not, ◌&&◌, ◌||◌, nat_lt, nat_le, length, fold, is_some, if◌then◌else◌}
use Rattle.adr_values.specs.Vector.{Cursors}
use Rattle.adr_model.specs.Update.{Key, RowOf, LinkOf}
use Rattle.adr_model.specs.Live.{objects_of}
use Rattle.adr_model.specs.Store.{Held, Store, State, empty_state, updates_of}
use Rattle.adr_model.specs.Change.{Written, Change}
use Rattle.adr_model.specs.Serve.{content_length, item_length, vector_length}

-- a row of an object has its local USN, its attribute and its stamp in 46 bytes; a link row has 135
abbrev pub row_length : Held → ℕ
row_length h = by h.update.key
  where
    by : Key → ℕ
    by (RowOf o attr) = 46 + content_length h.update.said
    by (LinkOf l) = 135

-- the length of a vector with its times in bytes: a count, and sixteen, eight and eight bytes for each cursor
abbrev pub timed_length : Cursors → ℕ
timed_length v = 4 + 32 * length v

-- the length of a store's image: a head and counts, two vectors, the first with its times, the marks, each object's name with a count, and the rows
abbrev pub image_length : Store → ℕ
image_length s =
    30 + timed_length s.vector + vector_length s.purged + 56 * length s.marks + 42 * length (objects_of (updates_of s.rows))
    + fold (λ n h. n + row_length h) 0 s.rows

-- the length of a change's record: a head with the number of the schema, and counts, a mark where there is one, two vectors, the first with its times, the removed objects, and the items
abbrev pub change_length : Change → ℕ
change_length c =
    22 + (if is_some c.mark then 56 else 0) + timed_length c.joined + vector_length c.purged + 40 * length c.removed
    + fold (λ n (w : Written). n + 8 + item_length w.item) 0 c.writes

-- ---- logs

-- where a log stands on a disk: whether the second slot selects its area, the area's place and version, the place of its first gate, and where the log ends, behind its closed gate
pub record Log : Type 0 where
  pub second : Bool
  pub place : ℕ
  pub version : ℕ
  pub first : ℕ
  pub log_end : ℕ

-- the version of the areas that are written
abbrev pub area_version : ℕ
area_version = 2

-- the most bytes of a log: 8 GiB; and images and records are shorter than this
abbrev pub log_limit : ℕ
log_limit = 8589934592

abbrev pub length_limit : ℕ
length_limit = 4294967296

-- areas stand behind a gate, a head of 38 bytes, the selector and two slots
abbrev pub first_area : ℕ
first_area = 56

-- an area without records: its version, a length and the image, and then a gate
abbrev pub area_at : Bool → ℕ → Store → Log
area_at second place s =
    record { second = second; place = place; version = area_version; first = place + 6 + image_length s; log_end = place + 7 + image_length s }

-- the log on a new disk
abbrev pub new_log : State → Log
new_log s = area_at false first_area s.store

-- where it ends there, whatever the identifiers of an empty controller are
abbrev pub first_log_end : ℕ
first_log_end = (new_log (empty_state [] [])).log_end

-- after a change: behind the record with its length, and the next gate
abbrev pub log_after : Log → Change → Log
log_after l c = record l { log_end = l.log_end + 5 + change_length c }

-- the bytes of a log's image and of its records
abbrev pub image_bytes : Log → ℕ
image_bytes l = l.first - (l.place + 6)

abbrev pub record_bytes : Log → ℕ
record_bytes l = l.log_end - (l.first + 1)

-- whether a checkpoint comes before a change: there are records, and with this one they would be 64 KiB longer than the image; or the area is of an earlier version
abbrev pub is_due : Log → Change → Bool
is_due l c = (nat_lt 0 (record_bytes l) && nat_lt (image_bytes l + 65536) (record_bytes l + 5 + change_length c)) || nat_lt l.version area_version

-- the log after a checkpoint: a new area in the other slot, before the live one where there is room, else behind it
abbrev pub checkpointed : Log → Store → Log
checkpointed l s = area_at (not l.second) (if nat_le (first_area + 7 + image_length s) l.place then first_area else l.log_end) s

-- the log that the record of a change is written to, and the log behind it
abbrev pub log_before : Log → Store → Change → Log
log_before l s c = if is_due l c then checkpointed l s else l

abbrev pub next_log : Log → Store → Change → Log
next_log l s c = log_after (log_before l s c) c

-- an area fits on a disk, and so does all that a commit writes
abbrev pub area_fits : Log → Store → Bool
area_fits l s = nat_le l.log_end log_limit && nat_lt (image_length s) length_limit

abbrev pub change_fits : Log → Store → Change → Bool
change_fits l s c =
    nat_le (next_log l s c).log_end log_limit && nat_lt (change_length c) length_limit && (not (is_due l c) || nat_lt (image_length s) length_limit)
