-- What an order calls equal is one value.
use Rattle.std.proofs.Common.{ℕ, List, ap}
use Rattle.std.proofs.lemmas.Map.Lookups.{CmpEqualImpliesEq, exact_pairs, exact_unsigned, exact_bytes}
use Rattle.adr_values.specs.declared.stamp.Stamp.{Stamp}
use Rattle.adr_values.specs.declared.stamp.LinkStamp.{LinkStamp}
use Rattle.adr_values.specs.declared.stamp.Birth.{Birth}
use Rattle.adr_values.specs.declared.stamp.Oid.{Oid}
use Rattle.adr_values.specs.declared.stamp.LinkKey.{LinkKey}
use Rattle.adr_values.specs.Order.{stamp_order, link_stamp_order, birth_order, object_order, link_order}

pub exact_stamps : CmpEqualImpliesEq stamp_order
exact_stamps a b h =
    ap (λ (p : ℕ × (ℕ × (List ℕ × ℕ))). let s : Stamp = record { version = p.0; time = p.1.0; inv = p.1.1.0; usn = p.1.1.1 } in s)
    (exact_pairs _ _ exact_unsigned (exact_pairs _ _ exact_unsigned (exact_pairs _ _ exact_bytes exact_unsigned))
    (a.version, (a.time, (a.inv, a.usn))) (b.version, (b.time, (b.inv, b.usn))) h)

pub exact_link_stamps : CmpEqualImpliesEq link_stamp_order
exact_link_stamps a b h =
    ap (λ (p : ℕ × Stamp). let s : LinkStamp = record { created = p.0; stamp = p.1 } in s)
    (exact_pairs _ _ exact_unsigned exact_stamps (a.created, a.stamp) (b.created, b.stamp) h)

pub exact_births : CmpEqualImpliesEq birth_order
exact_births a b h =
    ap (λ (p : List ℕ × ℕ). let s : Birth = record { inv = p.0; usn = p.1 } in s)
    (exact_pairs _ _ exact_bytes exact_unsigned (a.inv, a.usn) (b.inv, b.usn) h)

pub exact_objects : CmpEqualImpliesEq object_order
exact_objects a b h =
    ap (λ (p : List ℕ × Birth). let s : Oid = record { guid = p.0; birth = p.1 } in s)
    (exact_pairs _ _ exact_bytes exact_births (a.guid, a.birth) (b.guid, b.birth) h)

pub exact_links : CmpEqualImpliesEq link_order
exact_links a b h =
    ap (λ (p : Oid × (ℕ × Oid)). let s : LinkKey = record { from = p.0; attr = p.1.0; to = p.1.1 } in s)
    (exact_pairs _ _ exact_objects (exact_pairs _ _ exact_unsigned exact_objects)
    (a.from, (a.attr, a.to)) (b.from, (b.attr, b.to)) h)
