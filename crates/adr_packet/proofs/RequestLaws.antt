-- A request is spelled in one way.
use Rattle.std.proofs.Common.{◌≡◌, ℕ, ◌≤◌, true, leb, List, ◌++◌, Ok, refl, sym, ap, subst, ◌∙◌}
use Rattle.std.proofs.lemmas.Bool.{le-leb, leb-true}
use Rattle.adr_wire.specs.Composites.{mark_at, mark, vector_at, vector}
use Rattle.adr_wire.specs.Fields.{u32_at, u32}
use Rattle.adr_wire.specs.Headed.{head, is_version}
use Rattle.adr_wire.specs.Ranges.{IsCursors, IsMark, IsU32}
use Rattle.adr_wire.specs.Spelling.{AreBytes, IsSpelling}
use Rattle.adr_wire.proofs.Combining.{made, in_range_too, passed, pair}
use Rattle.adr_wire.proofs.FieldLaws.{u32_spelled}
use Rattle.adr_wire.proofs.CompositeLaws.{mark_spelled}
use Rattle.adr_wire.proofs.VectorLaws.{vector_spelled}
use Rattle.adr_model.specs.Serve.{Request}
use Rattle.adr_packet.specs.Parts.{parties_at, parties, AreParties}
use Rattle.adr_packet.specs.Requests.{magic, Tuple, max_at, tuple_at, request_of, request_at, decoded_request, fields, request_bytes, IsRequest}
use Rattle.adr_wire.proofs.HeadedLaws.{again_of_two, only_of_two}
use Rattle.adr_packet.proofs.PartLaws.{parties_spelled}

abbrev IsMax : ℕ → Type 0
IsMax n = (1 ≤ n) × IsU32 n

max_spelled : IsSpelling IsMax u32 max_at
max_spelled =
    in_range_too (λ n. IsU32 n × (leb 1 n ≡ true)) u32 max_at (passed IsU32 u32 u32_at u32_spelled (leb 1)) IsMax
    (λ n h. (h.1, le-leb 1 n h.0)) (λ n h. (leb-true 1 n h.1, h.0))

abbrev AreTuple : Tuple → Type 0
AreTuple t = AreParties t.0 × (IsMark t.1.0 × (IsU32 t.1.1.0 × (IsMax t.1.1.1.0 × IsCursors t.1.1.1.1)))

abbrev tuple : Tuple → List ℕ
tuple t = parties t.0 ++ (mark t.1.0 ++ (u32 t.1.1.0 ++ (u32 t.1.1.1.0 ++ vector t.1.1.1.1)))

tuple_spelled : IsSpelling AreTuple tuple tuple_at
unfolding tuple_at
tuple_spelled =
    pair AreParties parties parties_at parties_spelled _ _ _
    (pair IsMark mark mark_at mark_spelled _ _ _
    (pair IsU32 u32 u32_at u32_spelled _ _ _
    (pair IsMax u32 max_at max_spelled IsCursors vector vector_at vector_spelled)))

-- a request of this version is what fields in range say
abbrev SaysSo : ℕ → Request → Type 0
SaysSo version q = (t : Tuple) × (q ≡ request_of version t) × AreTuple t

request_spelled : (version : ℕ) → IsSpelling (SaysSo version) fields (request_at version)
unfolding request_at
request_spelled version =
    made AreTuple tuple tuple_at tuple_spelled (request_of version) (SaysSo version) fields
    (λ q p. (p.0, p.1, p.2, ap fields p.1))
    (λ t p fits. ((t, refl, p), refl))

says_so : (q : Request) → IsRequest q → SaysSo q.version q
says_so q p = (
  ((q.dest, (q.source, q.inv)), (q.mark, (q.schema, (q.max, q.vector)))),
  refl,
  ((p.dest, (p.source, p.inv)), (p.mark, (p.schema, ((p.some, p.max), p.vector)))),
)

in_range : (version : ℕ) (t : Tuple) → is_version version ≡ true → AreTuple t → IsRequest (request_of version t)
in_range version t known p = record {
  version = known;
  dest = p.0.0;
  source = p.0.1.0;
  inv = p.0.1.1;
  mark = p.1.0;
  schema = p.1.1.0;
  some = p.1.1.1.0.0;
  max = p.1.1.1.0.1;
  vector = p.1.1.1.1;
}

pub request_again : (q : Request) → IsRequest q → decoded_request (request_bytes q) ≡ Ok q
request_again q p = again_of_two magic refl SaysSo (λ _. fields) request_at request_spelled q.version p.version q (says_so q p)

pub request_only : (bytes : List ℕ) (q : Request) → AreBytes bytes → decoded_request bytes ≡ Ok q → IsRequest q × (bytes ≡ request_bytes q)
request_only bytes q fits e =
    let m = only_of_two magic refl SaysSo (λ _. fields) request_at request_spelled bytes q fits e in
    let says = m.2 in (
      subst IsRequest (sym says.1) (in_range m.0 says.0 m.1 says.2),
      m.3 ∙ ap (λ (v : ℕ). head magic v ++ fields q) (sym (ap (λ (x : Request). x.version) says.1)),
    )
