-- A reply is spelled in one way, and has a spelling that can be written.
use Rattle.std.proofs.Common.{◌≡◌, ℕ, zero, suc, true, List, [], ◌∷◌, ◌++◌, Option, Some, None, Ok, refl, sym, ap, subst, ◌∙◌, arith}
use Rattle.std.specs.Option.{option_map}
use Rattle.std.specs.Prelude.{All}
use Rattle.adr_wire.specs.Composites.{vector_at, vector}
use Rattle.adr_wire.specs.Fields.{u32_at, u32}
use Rattle.adr_wire.specs.Headed.{head, is_version}
use Rattle.adr_wire.specs.Optional.{if_there_at, if_there, IsIfThere}
use Rattle.adr_wire.specs.Ranges.{InTurn, IsCursors, IsU32}
use Rattle.adr_wire.specs.Spelling.{AreBytes, IsSpelling}
use Rattle.adr_wire.specs.Timed.{Timed, timed_at, timed, IsTimed}
use Rattle.adr_wire.proofs.Combining.{made, pair}
use Rattle.adr_wire.proofs.FieldLaws.{u32_spelled}
use Rattle.adr_wire.proofs.OptionalLaws.{if_there_spelled}
use Rattle.adr_wire.proofs.TimedLaws.{timed_spelled}
use Rattle.adr_wire.proofs.VectorLaws.{vector_spelled}
use Rattle.adr_values.specs.Vector.{Cursors}
use Rattle.adr_model.specs.Change.{Item}
use Rattle.adr_model.specs.Serve.{Reply}
use Rattle.adr_image.specs.Changes.{AreShort}
use Rattle.adr_image.proofs.Recorded.{piece_short}
use Rattle.adr_packet.specs.Parts.{parties_at, parties, AreParties, reach_at, reach, IsReach, one_item, items_at, items, IsItem, AreItems}
use Rattle.adr_packet.specs.Replies.{magic, Sent, sent_at, sent, Tuple, tuple_at, last_of, times_of, reply_of, reply_at, decoded_reply, told_in, fields, reply_bytes, IsReply, IsShortReply}
use Rattle.adr_wire.proofs.HeadedLaws.{again_of_two, only_of_two}
use Rattle.adr_packet.proofs.PartLaws.{parties_spelled, reach_spelled, items_spelled}

abbrev IsSent : ℕ → Sent → Type 0
IsSent version t = IsIfThere (IsTimed version) t.0 × AreItems t.1

sent_spelled : (version : ℕ) → IsSpelling (IsSent version) (sent version) (sent_at version)
unfolding sent_at
sent_spelled version =
    pair (IsIfThere (IsTimed version)) (if_there (timed version)) (if_there_at (timed_at version))
    (if_there_spelled (IsTimed version) (timed version) (timed_at version) (timed_spelled version))
    AreItems items items_at items_spelled

abbrev AreTuple : ℕ → Tuple → Type 0
AreTuple version t = AreParties t.0 × (IsReach t.1.0 × (IsU32 t.1.1.0 × (IsCursors t.1.1.1.0 × IsSent version t.1.1.1.1)))

abbrev tuple : ℕ → Tuple → List ℕ
tuple version t = parties t.0 ++ (reach t.1.0 ++ (u32 t.1.1.0 ++ (vector t.1.1.1.0 ++ sent version t.1.1.1.1)))

tuple_spelled : (version : ℕ) → IsSpelling (AreTuple version) (tuple version) (tuple_at version)
unfolding tuple_at
tuple_spelled version =
    pair AreParties parties parties_at parties_spelled _ _ _
    (pair IsReach reach reach_at reach_spelled _ _ _
    (pair IsU32 u32 u32_at u32_spelled _ _ _
    (pair IsCursors vector vector_at vector_spelled (IsSent version) (sent version) (sent_at version) (sent_spelled version))))

-- ---- what is told in the last reply, and of it

told_again : (told : Option Timed) → option_map (λ v. (v, times_of told)) (last_of told) ≡ told
told_again None = refl
told_again (Some t) = refl

times_again : (last : Option Cursors) (times : Cursors) → (last ≡ None → times ≡ []) → times ≡ times_of (option_map (λ v. (v, times)) last)
times_again None times none = none refl
times_again (Some v) times none = refl

last_again : (last : Option Cursors) (times : Cursors) → last ≡ last_of (option_map (λ v. (v, times)) last)
last_again None times = refl
last_again (Some v) times = refl

untold : (told : Option Timed) → last_of told ≡ None → times_of told ≡ []
untold None none = refl
untold (Some t) none = absurd (cc)

-- ---- the whole

-- a reply of this version is what fields in range say
abbrev SaysSo : ℕ → Reply → Type 0
SaysSo version r = (t : Tuple) × (r ≡ reply_of version t) × AreTuple version t

spelled_so : (version : ℕ) (t : Tuple) → fields (reply_of version t) ≡ tuple version t
spelled_so version t = ap (λ (told : Option Timed). tuple version (t.0, (t.1.0, (t.1.1.0, (t.1.1.1.0, (told, t.1.1.1.1.1)))))) (told_again t.1.1.1.1.0)

reply_spelled : (version : ℕ) → IsSpelling (SaysSo version) fields (reply_at version)
unfolding reply_at
reply_spelled version =
    made (AreTuple version) (tuple version) (tuple_at version) (tuple_spelled version) (reply_of version) (SaysSo version) fields
    (λ r p. (p.0, p.1, p.2, ap fields p.1 ∙ spelled_so version p.0))
    (λ t p fits. ((t, refl, p), spelled_so version t))

says_so : (r : Reply) → IsReply r → SaysSo r.version r
says_so r p = (
  ((r.dest, (r.source, r.inv)), ((r.from, r.to), (r.schema, (r.asked, (told_in r, r.items))))),
  (λ i. record r { last = last_again r.last r.times i; times = times_again r.last r.times p.untold i }),
  ((p.dest, (p.source, p.inv)), ((p.from, p.to), (p.schema, (p.asked, (p.told, p.items))))),
)

in_range : (version : ℕ) (t : Tuple) → is_version version ≡ true → AreTuple version t → IsReply (reply_of version t)
in_range version t known p = record {
  version = known;
  dest = p.0.0;
  source = p.0.1.0;
  inv = p.0.1.1;
  from = p.1.0.0;
  to = p.1.0.1;
  schema = p.1.1.0;
  asked = p.1.1.1.0;
  told = subst (IsIfThere (IsTimed version)) (sym (told_again t.1.1.1.1.0)) p.1.1.1.1.0;
  untold = untold t.1.1.1.1.0;
  items = p.1.1.1.1.1;
}

pub reply_again : (r : Reply) → IsReply r → decoded_reply (reply_bytes r) ≡ Ok r
reply_again r p = again_of_two magic refl SaysSo (λ _. fields) reply_at reply_spelled r.version p.version r (says_so r p)

pub reply_only : (bytes : List ℕ) (r : Reply) → AreBytes bytes → decoded_reply bytes ≡ Ok r → IsReply r × (bytes ≡ reply_bytes r)
reply_only bytes r fits e =
    let m = only_of_two magic refl SaysSo (λ _. fields) reply_at reply_spelled bytes r fits e in
    let says = m.2 in (
      subst IsReply (sym says.1) (in_range m.0 says.0 m.1 says.2),
      m.3 ∙ ap (λ (v : ℕ). head magic v ++ fields r) (sym (ap (λ (x : Reply). x.version) says.1)),
    )

-- ---- items are short enough for their counts

item_short : (i : Item) → IsItem i → AreShort i.rows
item_short i q = subst (λ (j : Item). AreShort j.rows) (sym q.says) (piece_short q.piece q.in_range)

items_short : (last : Option (Unit {0})) (is : List Item) → InTurn one_item (λ _. IsItem) last is → All (λ (i : Item). AreShort i.rows) is
items_short last [] turn k d lt = absurd (omega arith)
items_short last (i ∷ is) turn zero d lt = item_short i turn.0
items_short last (i ∷ is) turn (suc k) d lt = items_short _ is turn.1 k d (omega arith)

pub reply_short : (r : Reply) → IsReply r → IsShortReply r
reply_short r p = record { few = p.items.0; short = items_short _ r.items p.items.1 }
