-- The front of a log and an area are read field by field.
use Rattle.std.proofs.Common.{◌≡◌, ℕ, ◌+◌, ◌<◌, ◌≤◌, Bool, true, cond, eqb, List, [], ◌∷◌, length, drop, Result, Ok, Err, refl, sym, ap, subst, ◌∙◌, arith}
use Rattle.std.specs.Prelude.{IfErr, IfOk, OnOk}
use Rattle.std.proofs.lemmas.Bool.{eq-eqb, eqb-true, ne_eqb}
use Rattle.std.proofs.lemmas.List.{drop-drop, drop_at, get_or-drop, length-append, length-drop}
use Rattle.adr_values.specs.declared.failure.Failure.{Failure}
use Rattle.adr_values.specs.Vector.{Cursors, at, cursor_limit, raised}
use Rattle.adr_values.proofs.Placing.{raised_seen}
use Rattle.adr_wire.specs.declared.refusal.Malformed.{Malformed}
use Rattle.adr_wire.specs.Reading.{Names, Read, Reading, Refuses, Rest, Tells, TellsAs, ◌>>=◌, then_at}
use Rattle.adr_wire.specs.Ranges.{IsU16}
use Rattle.adr_wire.specs.Spelling.{AreBytes}
use Rattle.adr_wire.proofs.Combining.{from}
use Rattle.adr_wire.proofs.Loops.{names_refuses, refuses_is, refuses_then}
use Rattle.adr_model.specs.Collect.{woken}
use Rattle.adr_model.specs.Store.{Normal, State, Store}
use Rattle.adr_model.specs.Update.{Identifier}
use Rattle.adr_law_journal.specs.Areas.{Began}
use Rattle.adr_image.specs.Stored.{image_at}
use Rattle.adr_image.proofs.Steps.{then_ok}
use Rattle.adr_records.specs.Head.{area_at, began, framed_at, front_at, own_image_at, sized, sized_at, state_of}
use Rattle.adr_records.specs.HeadLaws.{Ids, IsOwn, front_read, is_own, own_spelled, sized_long, sized_spelled}

dropped_bytes : (bytes : List ℕ) (n : ℕ) → AreBytes bytes → AreBytes (drop n bytes)
dropped_bytes bytes n are i = subst (λ (b : ℕ). b < 256) (sym (get_or-drop n bytes i 0)) (are (n + i))

-- ---- whose log it is

pub no_front : (bytes : List ℕ) → eqb (length bytes) 0 ≡ true → front_at (from 1 (drop 1 bytes)) ≡ Err 1
unfolding front_at
no_front [] h = refl
no_front (b ∷ bs) h = absurd (let none = eqb-true (length (b ∷ bs)) 0 h in omega (arith, none))

front_is : (bytes : List ℕ) (o : Ids) (rest : Rest) → AreBytes bytes → front_at (from 1 (drop 1 bytes)) ≡ Ok (o, rest) → front_at (from 1 (drop 1 bytes)) ≡ Ok (o, from 39 (drop 39 bytes))
front_is bytes o rest are read =
    let is = (front_read (drop 1 bytes) o rest (dropped_bytes bytes 1 are) read).1 in
    read ∙ ap (λ (r : Rest). let x : Read Ids = Ok (o, r) in x) is ∙ ap (λ (l : List ℕ). let x : Read Ids = Ok (o, from 39 l) in x) (drop-drop 38 1 bytes)

pub front_said : {O : Type 0} (view : O → Ids) (r : Result O (Failure Malformed)) (bytes : List ℕ) (rest : Rest) → AreBytes bytes → TellsAs view r rest (front_at (from 1 (drop 1 bytes)))
    → IfOk r (λ o. front_at (from 1 (drop 1 bytes)) ≡ Ok (view o, from 39 (drop 39 bytes))) × IfErr r (λ e. Refuses e (front_at (from 1 (drop 1 bytes))))
front_said view (Ok o) bytes rest are told = (front_is bytes (view o) rest are told, tt)
front_said view (Err e) bytes rest are told = (tt, names_refuses e (front_at (from 1 (drop 1 bytes))) told)

-- ---- an area's version, and how many bytes its image has

module _ (bytes : List ℕ) (place : ℕ) (are : AreBytes bytes) where
  sized_is : (p : ℕ × ℕ) (rest : Rest) → place ≤ length bytes → sized_at (from place (drop place bytes)) ≡ Ok (p, rest) → (rest ≡ from (place + 6) (drop (place + 6) bytes)) × (place + 6 ≤ length bytes)
  sized_is p rest there read =
      let was = sized_spelled.only place (drop place bytes) p rest (dropped_bytes bytes place are) read in
      let long = sized_long p in
      let behind : rest.place ≡ place + 6 = omega (arith, was.moved, long) in
      let left : rest.bytes ≡ drop (place + 6) bytes = sym (drop_at (sized p) rest.bytes 6 long) ∙ ap (drop 6) (sym was.spelled_so) ∙ drop-drop 6 place bytes in (
        ap (λ (n : ℕ). from n rest.bytes) behind ∙ ap (λ (l : List ℕ). from (place + 6) l) left,
        omega (arith, there, length-drop place bytes, ap (λ (l : List ℕ). length l) was.spelled_so, length-append (sized p) rest.bytes, long),
      )

  pub sized_told : (r : Result (ℕ × ℕ) (Failure Malformed)) (rest : Rest) → place ≤ length bytes → Tells r rest (sized_at (from place (drop place bytes)))
      → Tells r (from (place + 6) (drop (place + 6) bytes)) (sized_at (from place (drop place bytes))) × OnOk r (place + 6 ≤ length bytes)
  sized_told (Ok p) rest there told =
      let is = sized_is p rest there told in
      (told ∙ ap (λ (z : Rest). let x : Read (ℕ × ℕ) = Ok (p, z) in x) is.0, is.1)
  sized_told (Err e) rest there told = (told, tt)

-- the version that was read has two bytes
pub sized_version : (bytes : List ℕ) (place : ℕ) (are : AreBytes bytes) (p : ℕ × ℕ) (rest : Rest) → sized_at (from place (drop place bytes)) ≡ Ok (p, rest) → IsU16 p.0
sized_version bytes place are p rest read = (sized_spelled.only place (drop place bytes) p rest (dropped_bytes bytes place are) read).in_range.0.0

-- ---- its image

module _ (version : ℕ) (inv : Identifier) (n : ℕ) (rest : Rest) where
  abbrev pub testing : Store × Rest → Read Store
  testing x = cond (is_own inv x.0) (Ok x) (Err rest.place)

  pub own_refused : (e : Failure Malformed) → Refuses e (framed_at (image_at version) n rest) → Refuses e (own_image_at version inv n rest)
  unfolding own_image_at
  own_refused e h = refuses_then e (framed_at (image_at version) n rest) testing h

  pub own_differs : (s : Store) (r : Rest) → framed_at (image_at version) n rest ≡ Ok (s, r) → (at s.vector inv ≡ s.usn → ⊥) → own_image_at version inv n rest ≡ Err rest.place
  unfolding own_image_at
  own_differs s r h other =
      ap (λ (z : Read Store). z >>= testing) h ∙ ap (λ (b : Bool). cond b (let v : Read Store = Ok (s, r) in v) (Err rest.place)) (ne_eqb (at s.vector inv) s.usn other)

  pub own_read : (s : Store) (r : Rest) → framed_at (image_at version) n rest ≡ Ok (s, r) → at s.vector inv ≡ s.usn → own_image_at version inv n rest ≡ Ok (s, r)
  unfolding own_image_at
  own_read s r h same =
      ap (λ (z : Read Store). z >>= testing) h ∙ ap (λ (b : Bool). cond b (let v : Read Store = Ok (s, r) in v) (Err rest.place)) (eq-eqb (at s.vector inv) s.usn same)

-- what is read is an image whose own cursor is its USN
pub own_image_is : (version : ℕ) → IsU16 version → (inv : Identifier) (n place : ℕ) (bytes : List ℕ) (s : Store) (rest : Rest) → AreBytes bytes → own_image_at version inv n (from place (drop place bytes)) ≡ Ok (s, rest) → IsOwn inv s
own_image_is version fits inv n place bytes s rest are read =
    let own = ((own_spelled version fits inv n).only place (drop place bytes) s rest (dropped_bytes bytes place are) read).in_range in
    (own.0.0.0, own.1)

own_raised : (inv : Identifier) (s : Store) → IsOwn inv s → raised s.vector inv s.usn ≡ s.vector
own_raised inv s own =
    let same = eqb-true (at s.vector inv) s.usn own.1 in
    sym (raised_seen s.vector inv s.usn (omega (arith, same)))

pub own_woken : (o : Ids) (s : Store) → IsOwn o.1 s → woken s o.0 o.1 ≡ state_of o s
own_woken o s own =
    ap (λ (v : Cursors). let t : State = record { dsa = o.0; inv = o.1; mode = Normal; store = record { schema = s.schema; usn = s.usn; rows = s.rows; vector = v; times = s.times; purged = s.purged; marks = s.marks } } in t)
    (own_raised o.1 s own)

pub own_fits : (inv : Identifier) (s : Store) → IsOwn inv s → cursor_limit < length (raised s.vector inv s.usn) → ⊥
own_fits inv s own many =
    let few = own.0.0.vector.few in
    let same = ap (λ (v : Cursors). length v) (own_raised inv s own) in
    omega (arith, few, same, many)

-- ---- the whole

-- ---- a field that is refused, and one behind it

then_first : {A B : Type 0} (e : Failure Malformed) (a : Reading A) (b : A → Reading B) (rest : Rest) → Refuses e (a rest) → Refuses e (then_at a b rest)
then_first e a b rest h = refuses_then e (a rest) (λ z. b z.0 z.1 >>= λ w. Ok ((z.0, w.0), w.1)) h

then_second : {A B : Type 0} (e : Failure Malformed) (a : Reading A) (b : A → Reading B) (rest mid : Rest) (x : A) → a rest ≡ Ok (x, mid) → Refuses e (b x mid) → Refuses e (then_at a b rest)
then_second {A} {B} e a b rest mid x p h =
    refuses_is e (b x mid >>= λ w. Ok ((x, w.0), w.1)) (then_at a b rest) (sym (ap (λ (r : Read A). r >>= λ z. b z.0 z.1 >>= λ w. Ok ((z.0, w.0), w.1)) p))
    (refuses_then e (b x mid) (λ w. Ok ((x, w.0), w.1)) h)

module _ (o : Ids) (r0 : Rest) where
  abbrev image_behind : ℕ × ℕ → Rest → Read Store
  image_behind p = own_image_at p.0 o.1 p.1

  abbrev as_began : ((ℕ × ℕ) × Store) × Rest → Read (Began State)
  as_began x = Ok (began x.0.0.0 (state_of o x.0.1), x.1)

  pub area_there : (r1 r2 : Rest) (p : ℕ × ℕ) (s : Store) → sized_at r0 ≡ Ok (p, r1) → own_image_at p.0 o.1 p.1 r1 ≡ Ok (s, r2) → area_at o r0 ≡ Ok (began p.0 (state_of o s), r2)
  unfolding area_at
  area_there r1 r2 p s a b = ap (λ (r : Read ((ℕ × ℕ) × Store)). r >>= as_began) (then_ok sized_at image_behind r0 r1 r2 p s a b)

  pub no_size : (e : Failure Malformed) → Names e (sized_at r0) → Refuses e (area_at o r0)
  unfolding area_at
  no_size e h = refuses_then e (then_at sized_at image_behind r0) as_began (then_first e sized_at image_behind r0 (names_refuses e (sized_at r0) h))

  pub no_image : (e : Failure Malformed) (r1 : Rest) (p : ℕ × ℕ) → sized_at r0 ≡ Ok (p, r1) → Refuses e (own_image_at p.0 o.1 p.1 r1) → Refuses e (area_at o r0)
  unfolding area_at
  no_image e r1 p a h = refuses_then e (then_at sized_at image_behind r0) as_began (then_second e sized_at image_behind r0 r1 p a h)
