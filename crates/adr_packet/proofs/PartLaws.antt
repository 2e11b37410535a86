-- What requests and replies are made of is spelled in one way.
use Rattle.std.proofs.Common.{refl, ap, ◌∙◌}
use Rattle.adr_wire.specs.Composites.{ordered_mark_at, mark}
use Rattle.adr_wire.specs.Fields.{id_at, id, u32_at, u32}
use Rattle.adr_wire.specs.Pieces.{piece_at, piece, IsPiece}
use Rattle.adr_wire.specs.Ranges.{IsId, IsOrderedMark, IsU32}
use Rattle.adr_wire.specs.Spelling.{IsSpelling}
use Rattle.adr_wire.proofs.Combining.{made, pair, counted}
use Rattle.adr_wire.proofs.FieldLaws.{id_spelled, u32_spelled}
use Rattle.adr_wire.proofs.CompositeLaws.{ordered_mark_spelled}
use Rattle.adr_wire.proofs.Pieces.{piece_spelled}
use Rattle.adr_model.specs.Change.{Item}
use Rattle.adr_image.specs.Changes.{item_of}
use Rattle.adr_image.proofs.Recorded.{piece_told}
use Rattle.adr_packet.specs.Parts.{parties_at, parties, AreParties, reach_at, reach, IsReach, item_at, item, IsItem, one_item, items_at, items, AreItems}

pub parties_spelled : IsSpelling AreParties parties parties_at
unfolding parties_at
parties_spelled = pair IsId id id_at id_spelled _ _ _ (pair IsId id id_at id_spelled IsId id id_at id_spelled)

pub reach_spelled : IsSpelling IsReach reach reach_at
unfolding reach_at
reach_spelled = pair IsOrderedMark mark ordered_mark_at ordered_mark_spelled IsOrderedMark mark ordered_mark_at ordered_mark_spelled

-- ---- items

pub item_spelled : IsSpelling IsItem item item_at
unfolding item_at
item_spelled =
    made IsPiece piece piece_at piece_spelled item_of IsItem item
    (λ i q. (q.piece, q.says, q.in_range, ap (λ (j : Item). item j) q.says ∙ piece_told q.piece))
    (λ p q fits. (record { piece = p; in_range = q; says = refl }, piece_told p))

pub items_spelled : IsSpelling AreItems items items_at
unfolding items_at
items_spelled = counted one_item (λ _. IsItem) item (λ _. item_at) (λ _. item_spelled) IsU32 u32 u32_at u32_spelled
