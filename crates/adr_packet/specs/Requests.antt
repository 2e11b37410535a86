-- A request as bytes. It has the same fields in both versions.
use Rattle.std.specs.Prelude.{◌≡◌, ℕ, ◌≤◌, true, List, [], ◌∷◌, ◌++◌, nat_le, Result}
use Rattle.adr_values.specs.Vector.{Cursors}
use Rattle.adr_values.specs.declared.mark.Mark.{Mark}
use Rattle.adr_wire.specs.declared.refusal.DecodeRefusal.{DecodeRefusal}
use Rattle.adr_wire.specs.Composites.{mark_at, mark, vector_at, vector}
use Rattle.adr_wire.specs.Fields.{u32_at, u32}
use Rattle.adr_wire.specs.Ranges.{IsCursors, IsId, IsMark, IsU32}
use Rattle.adr_wire.specs.Reading.{Reading, as_at, where_at, then_at}
use Rattle.adr_model.specs.Serve.{Request}
use Rattle.adr_wire.specs.Headed.{head, is_version, read_either}
use Rattle.adr_packet.specs.Parts.{Parties, parties_at, parties}

-- `ADRQ`
abbrev pub magic : List ℕ
magic = 65 ∷ 68 ∷ 82 ∷ 81 ∷ []

-- the parties, how far the source was read, the number of the asker's schema, how many items a reply has at most, and what the
-- asker has seen
abbrev pub Tuple : Type 0
Tuple = Parties × (Mark × (ℕ × (ℕ × Cursors)))

-- a number of at least 1
abbrev pub max_at : Reading ℕ
max_at = where_at (nat_le 1) u32_at

unfoldable pub tuple_at : Reading Tuple
tuple_at = then_at parties_at (λ _. then_at mark_at (λ _. then_at u32_at (λ _. then_at max_at (λ _. vector_at))))

abbrev pub request_of : ℕ → Tuple → Request
request_of version t =
    record {
      version = version;
      dest = t.0.0;
      source = t.0.1.0;
      inv = t.0.1.1;
      mark = t.1.0;
      schema = t.1.1.0;
      max = t.1.1.1.0;
      vector = t.1.1.1.1;
    }

unfoldable pub request_at : ℕ → Reading Request
request_at version = as_at (request_of version) tuple_at

-- what bytes say that are a request
abbrev pub decoded_request : List ℕ → Result Request DecodeRefusal
decoded_request bytes = read_either magic request_at bytes

-- ---- spelled

abbrev pub fields : Request → List ℕ
fields q = parties (q.dest, (q.source, q.inv)) ++ (mark q.mark ++ (u32 q.schema ++ (u32 q.max ++ vector q.vector)))

abbrev pub request_bytes : Request → List ℕ
request_bytes q = head magic q.version ++ fields q

-- a request of either version whose fields are in range
pub record IsRequest (q : Request) : Type 0 where
  pub version : is_version q.version ≡ true
  pub dest : IsId q.dest
  pub source : IsId q.source
  pub inv : IsId q.inv
  pub mark : IsMark q.mark
  pub schema : IsU32 q.schema
  pub some : 1 ≤ q.max
  pub max : IsU32 q.max
  pub vector : IsCursors q.vector
