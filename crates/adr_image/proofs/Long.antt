-- How long the parts of an image are.
use Rattle.std.proofs.Common.{◌≡◌, ℕ, ◌*◌, Bool, List, [], ◌∷◌, ◌++◌, length, Option, Some, None, refl, arith}
use Rattle.std.specs.List.{flat_map, AllByRecursion}
use Rattle.std.proofs.lemmas.List.{length-append}
use Rattle.adr_values.specs.declared.stamp.Oid.{Oid}
use Rattle.adr_values.specs.Table.{Table}
use Rattle.adr_values.specs.Numbered.{numbered}
use Rattle.adr_wire.specs.Fields.{u16, u32, u64, flag}
use Rattle.adr_wire.specs.Composites.{oid, stamp, content, row, link, link_key, link_stamp}
use Rattle.adr_wire.specs.Ranges.{InTurn}
use Rattle.adr_law_lengths.proofs.Lengths.{content_long, oid_long, stamp_long, timed_long, vector_long}
use Rattle.adr_image.specs.declared.rows.Before.{Before}
use Rattle.adr_wire.specs.Gathering.{Along}
use Rattle.adr_image.specs.Image.{HeldRow, Rows, HeldLink, Marked, held_row, object, held_link, kept, no_rows, with_held, Earlier, no_objects, with_rows, Linked, with_link}
use Rattle.adr_image.specs.Whole.{Parts, image_of, dead_of, no_links}
use Rattle.adr_image.specs.Ranged.{IsHeldRow, IsObjectIn, IsLinkIn, IsMarked, AreParts}
use Rattle.adr_image.specs.Stored.{image_version}
use Rattle.adr_image.specs.Lengths.{total, held_length, object_length, parts_length}

flat_long : {E : Type 0} (s : E → List ℕ) (f : E → ℕ) (es : List E) → AllByRecursion (λ e. length (s e) ≡ f e) es → length (flat_map s es) ≡ total f es
flat_long s f [] all = refl
flat_long s f (e ∷ es) all = let rest = flat_long s f es all.1 in let first = all.0 in omega (arith, length-append (s e) (flat_map s es))

same_each : {E : Type 0} (n : ℕ) (es : List E) → total (λ (e : E). n) es ≡ n * length es
same_each n [] = omega arith
same_each n (e ∷ es) = let rest = same_each n es in grind (arith, rest)

along_all : {S E : Type 0} (step : S → E → S) (P : S → E → Type 0) (Q : E → Type 0) → ((known : S) (e : E) → P known e → Q e) → (known : S) (es : List E) → Along step P known es → AllByRecursion Q es
along_all step P Q to known [] along = tt
along_all step P Q to known (e ∷ es) along = (to known e along.0, along_all step P Q to (step known e) es along.1)

turn_all : {K E : Type 0} (key : E → K) (P : Option K → E → Type 0) (Q : E → Type 0) → ((last : Option K) (e : E) → P last e → Q e) → (last : Option K) (es : List E) → InTurn key P last es → AllByRecursion Q es
turn_all key P Q to last [] h = tt
turn_all key P Q to last (e ∷ es) h = (to last e h.0, turn_all key P Q to (Some (key e)) es h.1)

u16_long : (n : ℕ) → length (u16 n) ≡ 2
unfolding u16
u16_long n = omega arith

u64_long : (n : ℕ) → length (u64 n) ≡ 8
unfolding u64
u64_long n = omega arith

flag_long : (b : Bool) → length (flag b) ≡ 1
flag_long b = omega arith

pub kept_long : (last : Option (List ℕ)) (k : Marked) → IsMarked last k → length (kept k) ≡ 56
unfolding u64
kept_long last k q = simp length-append (omega arith)

module _ (usn : ℕ) (table : Table) where
  held_long : (o : Oid) (b : Before) (h : HeldRow) → IsHeldRow usn table o b h → length (held_row h) ≡ held_length h
  held_long o b h q =
      let c = content_long h.1.0 h.1.2 q.0.1.0.1.1 in
      let s = stamp_long h.1.1 q.0.1.0.1.0 in
      omega (arith, c, s, u64_long h.0, u16_long h.1.0, length-append (u64 h.0) (row h.1), length-append (u16 h.1.0) (stamp h.1.1 ++ content h.1.2), length-append (stamp h.1.1) (content h.1.2))

  object_long : (e : Earlier) (o : Rows) → IsObjectIn usn table e o → length (object o) ≡ object_length o
  object_long e o q =
      let rows = flat_long held_row held_length o.1 (along_all with_held (IsHeldRow usn table o.0) (λ h. length (held_row h) ≡ held_length h) (held_long o.0) no_rows o.1 q.0.1.1) in
      let name = oid_long o.0 q.0.0.0 in
      omega (arith, rows, name, u16_long (length o.1), length-append (oid o.0) (u16 (length o.1) ++ flat_map held_row o.1), length-append (u16 (length o.1)) (flat_map held_row o.1))

  link_long : (dead : List Oid) (k : Linked) (l : HeldLink) → IsLinkIn usn table dead k l → length (held_link l) ≡ 135
  link_long dead k l q =
      let a = oid_long l.1.0.from q.0.1.0.0.0 in
      let b = oid_long l.1.0.to q.0.1.0.1.1 in
      let s = stamp_long l.1.1.stamp q.1.1 in
      let key = length-append (oid l.1.0.from) (u16 l.1.0.attr ++ oid l.1.0.to) in
      let key2 = length-append (u16 l.1.0.attr) (oid l.1.0.to) in
      let st = length-append (u64 l.1.1.created) (stamp l.1.1.stamp) in
      let tail = length-append (link_stamp l.1.1) (flag l.1.2) in
      let all = length-append (link_key l.1.0) (link_stamp l.1.1 ++ flag l.1.2) in
      omega (arith, a, b, s, key, key2, st, tail, all, flag_long l.1.2, u64_long l.0, u64_long l.1.1.created, u16_long l.1.0.attr, length-append (u64 l.0) (link l.1))

pub image_long : (p : Parts) → AreParts p → length (image_of image_version p) ≡ parts_length p
unfolding u16 u32 u64
image_long p q =
    let v = timed_long (p.vector, p.times) (record { is = q.seen; none = λ one. absurd (cc) }) in
    let w = vector_long p.purged q.purged.0 in
    let ks = flat_long kept (λ _. 56) p.marks (turn_all (λ (k : Marked). k.0) IsMarked (λ k. length (kept k) ≡ 56) kept_long None p.marks q.marks.1) in
    let ks2 = same_each 56 p.marks in
    let os = flat_long object object_length p.objects (along_all with_rows (IsObjectIn p.usn (numbered p.schema)) (λ o. length (object o) ≡ object_length o) (object_long p.usn (numbered p.schema)) no_objects p.objects q.objects.1) in
    let ls = flat_long held_link (λ _. 135) p.links (along_all with_link (IsLinkIn p.usn (numbered p.schema) (dead_of p.objects)) (λ l. length (held_link l) ≡ 135) (link_long p.usn (numbered p.schema) (dead_of p.objects)) (no_links p.objects) p.links q.links.1) in
    let ls2 = same_each 135 p.links in
    simp length-append (omega (arith, v, w, ks, ks2, os, ls, ls2))
