-- A reply as bytes. The last one of version 2 tells times beside the source's vector.
use Rattle.std.specs.Prelude.{◌≡◌, ℕ, ◌<◌, ◌^◌, true, List, [], ◌∷◌, ◌++◌, All, length, Option, None, Some, Result}
use Rattle.std.specs.Option.{option_map}
use Rattle.adr_values.specs.Vector.{Cursors}
use Rattle.adr_wire.specs.declared.refusal.DecodeRefusal.{DecodeRefusal}
use Rattle.adr_wire.specs.Composites.{vector_at, vector}
use Rattle.adr_wire.specs.Fields.{u32_at, u32}
use Rattle.adr_wire.specs.Optional.{if_there_at, if_there, IsIfThere}
use Rattle.adr_wire.specs.Ranges.{IsCursors, IsId, IsOrderedMark, IsU32}
use Rattle.adr_wire.specs.Reading.{Reading, as_at, then_at}
use Rattle.adr_wire.specs.Timed.{Timed, timed_at, timed, IsTimed}
use Rattle.adr_model.specs.Change.{Item}
use Rattle.adr_model.specs.Serve.{Reply}
use Rattle.adr_image.specs.Changes.{AreShort}
use Rattle.adr_wire.specs.Headed.{head, is_version, read_either}
use Rattle.adr_packet.specs.Parts.{Parties, parties_at, parties, Reach, reach_at, reach, items_at, items, AreItems}

-- `ADRP`
abbrev pub magic : List ℕ
magic = 65 ∷ 68 ∷ 82 ∷ 80 ∷ []

-- the source's vector with its times, if nothing is left to send, and the items
abbrev pub Sent : Type 0
Sent = Option Timed × List Item

unfoldable pub sent_at : ℕ → Reading Sent
sent_at version = then_at (if_there_at (timed_at version)) (λ _. items_at)

abbrev pub sent : ℕ → Sent → List ℕ
sent version t = if_there (timed version) t.0 ++ items t.1

-- the parties, the reach, the number of the source's schema, what the asker had seen, and what is sent
abbrev pub Tuple : Type 0
Tuple = Parties × (Reach × (ℕ × (Cursors × Sent)))

unfoldable pub tuple_at : ℕ → Reading Tuple
tuple_at version = then_at parties_at (λ _. then_at reach_at (λ _. then_at u32_at (λ _. then_at vector_at (λ _. sent_at version))))

-- the vector of the last reply, and its times
abbrev pub last_of : Option Timed → Option Cursors
last_of told = option_map (λ (t : Timed). t.0) told

abbrev pub times_of : Option Timed → Cursors
times_of None = []
times_of (Some t) = t.1

abbrev pub reply_of : ℕ → Tuple → Reply
reply_of version t =
    record {
      version = version;
      dest = t.0.0;
      source = t.0.1.0;
      inv = t.0.1.1;
      from = t.1.0.0;
      to = t.1.0.1;
      schema = t.1.1.0;
      asked = t.1.1.1.0;
      last = last_of t.1.1.1.1.0;
      times = times_of t.1.1.1.1.0;
      items = t.1.1.1.1.1;
    }

unfoldable pub reply_at : ℕ → Reading Reply
reply_at version = as_at (reply_of version) (tuple_at version)

-- what bytes say that are a reply
abbrev pub decoded_reply : List ℕ → Result Reply DecodeRefusal
decoded_reply bytes = read_either magic reply_at bytes

-- ---- spelled

-- the source's vector with its times, if the reply is the last
abbrev pub told_in : Reply → Option Timed
told_in r = option_map (λ v. (v, r.times)) r.last

abbrev pub fields : Reply → List ℕ
fields r =
    parties (r.dest, (r.source, r.inv)) ++ (reach (r.from, r.to) ++ (u32 r.schema ++ (vector r.asked ++ sent r.version (told_in r, r.items))))

abbrev pub reply_bytes : Reply → List ℕ
reply_bytes r = head magic r.version ++ fields r

-- a reply of either version whose fields are in range; only the last one tells times, and only in version 2
pub record IsReply (r : Reply) : Type 0 where
  pub version : is_version r.version ≡ true
  pub dest : IsId r.dest
  pub source : IsId r.source
  pub inv : IsId r.inv
  pub from : IsOrderedMark r.from
  pub to : IsOrderedMark r.to
  pub schema : IsU32 r.schema
  pub asked : IsCursors r.asked
  pub told : IsIfThere (IsTimed r.version) (told_in r)
  pub untold : r.last ≡ None → r.times ≡ []
  pub items : AreItems r.items

-- a reply whose lists have a spelling
pub record IsShortReply (r : Reply) : Type 0 where
  pub few : length r.items < 2 ^ 32
  pub short : All (λ (i : Item). AreShort i.rows) r.items
