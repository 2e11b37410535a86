-- What is told of connections that are kept as two lists of buffers.
use Rattle.std.specs.Prelude.{ℕ, ◌+◌, ◌≤◌, nat_lt, if◌then◌else◌, List, [], length, map, take, drop, slice_index_or, Vec}
use Rattle.std.specs.declared.alloc.Global.{Global}
use Rattle.adr_outside.specs.Traffic.{Traffic}

abbrev pub Buffers : Type 0
Buffers = List (Vec ℕ Global)

-- the bytes of each buffer
abbrev pub bytes_of : Buffers → List (List ℕ)
bytes_of buffers = map (λ v. v.items) buffers

-- those of one buffer
abbrev pub bytes_at : Buffers → ℕ → List ℕ
bytes_at buffers i = slice_index_or (bytes_of buffers) i []

-- What comes in each connection, what was sent in each that was opened, how many were hung up, and how many bytes of the
-- open one were received.
abbrev pub told_of : Buffers → Buffers → ℕ → ℕ → Traffic
told_of incoming sent hung received = record {
  waiting = drop (length sent) (bytes_of incoming);
  is_open = nat_lt hung (length sent);
  left = if nat_lt hung (length sent) then drop received (bytes_at incoming hung) else [];
  sent = bytes_at sent hung;
  done = take hung (bytes_of sent);
}

-- at most one is open, each that was opened is one of these, and no more is received than comes
pub record IsWhole (incoming sent : Buffers) (hung received : ℕ) : Type 0 where
  pub opened : length sent ≤ length incoming
  pub ended : hung ≤ length sent
  pub one_open : length sent ≤ hung + 1
  pub within : received ≤ length (bytes_at incoming hung)
