-- What the fields of a platter stand for.
use Rattle.std.specs.Prelude.{◌≡◌, ◌-◌, min, [], length, All, vec_len, vec_capacity}
use Rattle.adr_disk.specs.Memory.{Surface, Held, read_of}
use Rattle.adr_run_disk.specs.Entries.{surface_at, IsInRange, IsUndoable}
use Rattle.adr_run_disk.specs.declared.platter.Platter.TheInside.{Inside}

abbrev pub surface_of : Inside → Surface
surface_of a = surface_at a.bytes.items a.log.items a.covered.items a.entries.items

abbrev pub held_of : Inside → Held
held_of a = record {
  surface = surface_of a;
  past = a.past.surfaces;
  room_calls = vec_capacity a.entries - vec_len a.entries;
  room_bytes = min (vec_capacity a.log - vec_len a.log) (min (vec_capacity a.covered - vec_len a.covered) (vec_capacity a.bytes - vec_len a.bytes));
}

pub record IsWhole (a : Inside) : Type 0 where
  pub in_range : All (IsInRange (length a.log.items)) a.entries.items
  pub undoable : All (IsUndoable (length a.covered.items) (length a.bytes.items)) a.entries.items
  -- the writes give what a read gives, over the bytes with them undone
  pub bytes : a.bytes.items ≡ read_of (surface_of a)
  -- where nothing is unsynced, no bytes of writes are left
  pub idle : a.entries.items ≡ [] → (a.log.items ≡ []) × (a.covered.items ≡ [])
