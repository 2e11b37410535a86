-- The front of a log and an area are spelled in one way, and an area is as long as is counted.
use Rattle.std.proofs.Common.{◌≡◌, ℕ, ◌+◌, ◌≤◌, ◌<◌, Bool, true, false, cond, eqb, ltb, List, [], ◌++◌, length, take, drop, Ok, Err, refl, sym, ap, subst, ◌∙◌, arith, append-nil}
use Rattle.std.proofs.lemmas.Bool.{eq-eqb, eqb-true, le-ltb, ltb-false}
use Rattle.std.proofs.lemmas.List.{take_at, drop_at, take-append-drop, length-append, length-take, nil_from_length}
use Rattle.adr_values.specs.Vector.{at}
use Rattle.adr_wire.specs.Fields.{format_version_at, id_at, magic_at, u16_at, u32_at, u16, u32, id}
use Rattle.adr_wire.specs.Ranges.{IsId, IsU16, IsU32}
use Rattle.adr_wire.specs.Reading.{Rest, Read, Reading, ◌>>=◌, then_at, where_at}
use Rattle.adr_wire.specs.Spelling.{AreBytes, behind, Was, IsSpelling}
use Rattle.adr_wire.proofs.Combining.{as_they_are, bind_ok, both, from, guard_ok, made, ok_is, pair, passed, spelled_bytes}
use Rattle.adr_wire.proofs.FieldLaws.{format_version_spelled, id_spelled, magic_spelled, u16_spelled, u32_spelled}
use Rattle.adr_model.specs.Formed.{IsFormedStore}
use Rattle.adr_model.specs.Lengths.{image_length, length_limit, area_version}
use Rattle.adr_model.specs.Store.{Held, Mode, Normal, State, Store}
use Rattle.adr_model.specs.Update.{Identifier}
use Rattle.adr_model.proofs.Members.{mapped_member}
use Rattle.adr_law_calls.specs.Follow.{HasKnownClasses}
use Rattle.adr_law_journal.specs.Areas.{Began, IsHead, TellsArea, WasArea}
use Rattle.adr_image.specs.Stored.{IsSpelled, image, image_at, parts_in}
use Rattle.adr_wire.specs.Headed.{is_version}
use Rattle.adr_image.specs.Whole.{image_of}
use Rattle.adr_image.proofs.Counted.{store_long}
use Rattle.adr_image.proofs.Placed.{IsRight, image_spelled, of_two, version_fits}
use Rattle.adr_image.proofs.WholeLaws.{one_or_two}
use Rattle.adr_records.specs.Head.{area, area_at, area_of, began, framed_at, front, front_at, magic, own_image_at, sized, sized_at, state_of, within_at}
use Rattle.adr_records.specs.Logged.{IsLogged, MayBegin}

-- ---- what stands in so many bytes

taken_bytes : (n : ℕ) (bytes : List ℕ) → AreBytes bytes → AreBytes (take n bytes)
taken_bytes n bytes are =
    spelled_bytes {X = List ℕ} (λ b. Unit {0}) (λ b. b) 0 bytes (take n bytes) (from (length (take n bytes)) (drop n bytes))
    (record { in_range = tt; spelled_so = sym (take-append-drop n bytes); moved = omega arith }) are

module _ {A : Type 0} (P : A → Type 0) (s : A → List ℕ) (a : Reading A) (law : IsSpelling P s a) (n : ℕ) where
  abbrev Fits : A → Type 0
  Fits x = P x × (length (s x) ≡ n)

  within_again : (place : ℕ) (x : A) (bytes : List ℕ) → Fits x → within_at a n (from place (s x ++ bytes)) ≡ Ok (x, behind place (s x) [])
  unfolding within_at
  within_again place x bytes q =
      ap (λ (l : List ℕ). a (from place l) >>= λ z. cond (ltb 0 (length z.1.bytes)) (Err z.1.place) (Ok z)) (take_at (s x) bytes n q.1 ∙ sym (append-nil (s x)))
      ∙ ap (λ (r : Read A). r >>= λ z. cond (ltb 0 (length z.1.bytes)) (Err z.1.place) (Ok z)) (law.again place x [] q.0)

  framed_again : (place : ℕ) (x : A) (bytes : List ℕ) → Fits x → framed_at a n (from place (s x ++ bytes)) ≡ Ok (x, behind place (s x) bytes)
  unfolding framed_at
  framed_again place x bytes q =
      let all = s x ++ bytes in
      let long : ltb (length all) n ≡ false = le-ltb (length all) n (omega (arith, q.1, length-append (s x) bytes)) in
      ap (λ (r : Read A). r >>= λ z. cond (ltb (length all) n) (Err (place + length all)) (Ok (z.0, from (place + n) (drop n all)))) (within_again place x bytes q)
      ∙ ap (λ (b : Bool). cond b (Err (place + length all)) (Ok (x, from (place + n) (drop n all)))) long
      ∙ ap (λ (l : List ℕ). Ok (x, from (place + n) l)) (drop_at (s x) bytes n q.1)
      ∙ ap (λ (k : ℕ). Ok (x, from (place + k) bytes)) (sym q.1)

  -- what stands there fills the bytes that are there
  pub within_only : (place : ℕ) (bytes : List ℕ) (x : A) (rest : Rest) → AreBytes bytes → within_at a n (from place bytes) ≡ Ok (x, rest) → P x × (take n bytes ≡ s x)
  unfolding within_at
  within_only place bytes x rest are h =
      let one = bind_ok (a (from place (take n bytes))) (λ z. cond (ltb 0 (length z.1.bytes)) (Err z.1.place) (Ok z)) (x, rest) h in
      let g = guard_ok (ltb 0 (length one.0.1.bytes)) one.0.1.place one.0 (x, rest) one.2 in
      let was = law.only place (take n bytes) one.0.0 one.0.1 (taken_bytes n bytes are) one.1 in
      let none : one.0.1.bytes ≡ [] = nil_from_length one.0.1.bytes (omega (arith, ltb-false 0 (length one.0.1.bytes) g.0)) in
      subst (λ (p : A × Rest). P p.0 × (take n bytes ≡ s p.0)) g.1
      (was.in_range, was.spelled_so ∙ ap (λ (l : List ℕ). s one.0.0 ++ l) none ∙ append-nil (s one.0.0))

  framed_only : (place : ℕ) (bytes : List ℕ) (x : A) (rest : Rest) → AreBytes bytes → framed_at a n (from place bytes) ≡ Ok (x, rest) → Was Fits s place bytes x rest
  unfolding framed_at
  framed_only place bytes x rest are h =
      let one = bind_ok (within_at a n (from place bytes)) (λ z. cond (ltb (length bytes) n) (Err (place + length bytes)) (Ok (z.0, from (place + n) (drop n bytes)))) (x, rest) h in
      let g = guard_ok (ltb (length bytes) n) (place + length bytes) (one.0.0, from (place + n) (drop n bytes)) (x, rest) one.2 in
      let is = within_only place bytes one.0.0 one.0.1 are one.1 in
      let len : length (s one.0.0) ≡ n = omega (arith, ap (λ (l : List ℕ). length l) is.1, length-take n bytes, ltb-false (length bytes) n g.0) in
      let here : Was Fits s place bytes one.0.0 (from (place + n) (drop n bytes)) = record {
        in_range = (is.0, len);
        spelled_so = sym (take-append-drop n bytes) ∙ ap (λ (l : List ℕ). l ++ drop n bytes) is.1;
        moved = ap (λ (k : ℕ). place + k) (sym len);
      } in
      subst (λ (p : A × Rest). Was Fits s place bytes p.0 p.1) g.1 here

  framed : IsSpelling Fits s (framed_at a n)
  framed = record { again = framed_again; only = framed_only }

-- ---- whose log it is

abbrev pub Ids : Type 0
Ids = Identifier × Identifier

abbrev pub AreIds : Ids → Type 0
AreIds o = IsId o.0 × IsId o.1

abbrev ids : Ids → List ℕ
ids o = id o.0 ++ id o.1

abbrev ids_at : Reading Ids
ids_at = then_at id_at (λ _. id_at)

ids_spelled : IsSpelling AreIds ids ids_at
ids_spelled = pair IsId id id_at id_spelled IsId id id_at id_spelled

abbrev Whole : Type 0
Whole = List ℕ × (ℕ × Ids)

abbrev IsWhole : Whole → Type 0
IsWhole p = (p.0 ≡ magic) × ((p.1.0 ≡ 2) × AreIds p.1.1)

abbrev whole : Whole → List ℕ
whole p = p.0 ++ (u16 p.1.0 ++ ids p.1.1)

abbrev versioned_at : Reading (ℕ × Ids)
versioned_at = then_at (format_version_at 2) (λ _. ids_at)

abbrev whole_at : Reading Whole
whole_at = then_at (magic_at magic) (λ _. versioned_at)

whole_spelled : IsSpelling IsWhole whole whole_at
whole_spelled =
    pair (λ m. m ≡ magic) as_they_are (magic_at magic) (magic_spelled magic refl) (λ p. (p.0 ≡ 2) × AreIds p.1) (λ p. u16 p.0 ++ ids p.1) versioned_at
    (pair (λ v. v ≡ 2) u16 (format_version_at 2) (format_version_spelled 2 (omega arith)) AreIds ids ids_at ids_spelled)

pub front_spelled : IsSpelling AreIds front front_at
unfolding front_at
front_spelled =
    made IsWhole whole whole_at whole_spelled (λ p. p.1.1) AreIds front
    (λ o q. ((magic, (2, o)), refl, (refl, (refl, q)), refl))
    (λ p q fits. (
      q.1.1,
      ap (λ (m : List ℕ). m ++ (u16 2 ++ ids p.1.1)) (sym q.0) ∙ ap (λ (v : ℕ). p.0 ++ (u16 v ++ ids p.1.1)) (sym q.1.0),
    ))

pub front_long : (o : Ids) → AreIds o → length (front o) ≡ 38
unfolding u16
front_long o q = simp length-append (omega (arith, q.0, q.1))

pub front_told : (o : Ids) → AreIds o → IsHead front_at (front o) o
front_told o q = record { long = front_long o q; tells = λ rest. front_spelled.again 1 o rest q }

pub front_read : (bytes : List ℕ) (o : Ids) (rest : Rest) → AreBytes bytes → front_at (from 1 bytes) ≡ Ok (o, rest) → IsHead front_at (take 38 bytes) o × (rest ≡ from 39 (drop 38 bytes))
front_read bytes o rest are read =
    let was = front_spelled.only 1 bytes o rest are read in
    let long = front_long o was.in_range in
    let here : take 38 bytes ≡ front o = ap (take 38) was.spelled_so ∙ take_at (front o) rest.bytes 38 long in
    let left : rest.bytes ≡ drop 38 bytes = sym (drop_at (front o) rest.bytes 38 long) ∙ ap (drop 38) (sym was.spelled_so) in
    let place : rest.place ≡ 39 = omega (arith, was.moved, long) in (
      subst (λ (l : List ℕ). IsHead front_at l o) (sym here) (front_told o was.in_range),
      ap (λ (n : ℕ). from n rest.bytes) place ∙ ap (λ (l : List ℕ). from 39 l) left,
    )

-- identifiers that were read have sixteen bytes
module _ {A B : Type 0} (P : A → Type 0) (Q : B → Type 0) (a : Reading A) (b : A → Reading B) where
  gives_both : ((rest : Rest) (x : A) (r : Rest) → a rest ≡ Ok (x, r) → P x) → ((x : A) (rest : Rest) (y : B) (r : Rest) → b x rest ≡ Ok (y, r) → Q y)
      → (rest : Rest) (p : A × B) (r : Rest) → then_at a b rest ≡ Ok (p, r) → P p.0 × Q p.1
  gives_both f g rest p r e =
      let first = bind_ok (a rest) (λ u. b u.0 u.1 >>= λ v. Ok ((u.0, v.0), v.1)) (p, r) e in
      let second = bind_ok (b first.0.0 first.0.1) (λ v. Ok ((first.0.0, v.0), v.1)) (p, r) first.2 in
      subst (λ (z : (A × B) × Rest). P z.0.0 × Q z.0.1) (ok_is ((first.0.0, second.0.0), second.0.1) (p, r) second.2)
      (f rest first.0.0 first.0.1 first.1, g first.0.0 first.0.1 second.0.0 second.0.1 second.1)

id_read : (rest : Rest) (x : List ℕ) (r : Rest) → id_at rest ≡ Ok (x, r) → IsId x
unfolding id_at
id_read rest x r e =
    let g = guard_ok (ltb (length rest.bytes) 16) rest.place (take 16 rest.bytes, from (rest.place + 16) (drop 16 rest.bytes)) (x, r) e in
    let is = ap (λ (p : List ℕ × Rest). length p.0) g.1 in
    omega (arith, is, length-take 16 rest.bytes, ltb-false (length rest.bytes) 16 g.0)

ids_read : (rest : Rest) (o : Ids) (r : Rest) → front_at rest ≡ Ok (o, r) → AreIds o
unfolding front_at
ids_read rest o r e =
    let b = bind_ok (whole_at rest) (λ z. Ok (z.0.1.1, z.1)) (o, r) e in
    let all =
    gives_both (λ _. Unit {0}) (λ (p : ℕ × Ids). Unit {0} × AreIds p.1) (magic_at magic) (λ _. versioned_at) (λ _ _ _ _. tt)
    (λ _. gives_both (λ _. Unit {0}) AreIds (format_version_at 2) (λ _. ids_at) (λ _ _ _ _. tt) (λ _. gives_both IsId IsId id_at (λ _. id_at) id_read (λ _. id_read)))
    rest b.0.0 b.0.1 b.1 in
    subst (λ (z : Ids × Rest). AreIds z.0) (ok_is (b.0.0.1.1, b.0.1) (o, r) b.2) all.1.1

head_ids : (l : List ℕ) (o : Ids) → IsHead front_at l o → AreIds o
head_ids l o head = ids_read (from 1 (l ++ [])) o (behind 1 l []) (head.tells [])

-- ---- the image of an area

abbrev pub image_in : ℕ → Store → List ℕ
image_in version s = image_of version (parts_in s)

abbrev pub is_own : Identifier → Store → Bool
is_own inv s = eqb (at s.vector inv) s.usn

-- a store that a log of this database can begin with
abbrev pub IsOwn : Identifier → Store → Type 0
IsOwn inv s = (IsFormedStore s × IsSpelled s) × (is_own inv s ≡ true)

-- and whose image of a version has so many bytes
abbrev pub IsOwnOf : ℕ → Identifier → ℕ → Store → Type 0
IsOwnOf version inv n s = (IsRight version s × (length (image_in version s) ≡ n)) × (is_own inv s ≡ true)

pub own_spelled : (version : ℕ) → IsU16 version → (inv : Identifier) (n : ℕ) → IsSpelling (IsOwnOf version inv n) (image_in version) (own_image_at version inv n)
unfolding own_image_at
own_spelled version fits inv n =
    passed (λ s. IsRight version s × (length (image_in version s) ≡ n)) (image_in version) (framed_at (image_at version) n)
    (framed (IsRight version) (image_in version) (image_at version) (image_spelled version fits) n) (is_own inv)

pub classes_known : (s : State) → IsSpelled s.store → HasKnownClasses s
classes_known s q u m class said =
    let h = mapped_member (λ (h : Held). h.update) s.store.rows u m in
    q.classes h.0 h.1 class (ap (λ w. w.said) (sym h.2) ∙ said)

-- ---- the whole area

abbrev pub IsSized : ℕ × ℕ → Type 0
IsSized p = (IsU16 p.0 × (is_version p.0 ≡ true)) × IsU32 p.1

pub sized_spelled : IsSpelling IsSized sized sized_at
unfolding sized_at
sized_spelled = pair (λ v. IsU16 v × (is_version v ≡ true)) u16 (where_at is_version u16_at) (passed IsU16 u16 u16_at u16_spelled is_version) IsU32 u32 u32_at u32_spelled

pub sized_long : (p : ℕ × ℕ) → length (sized p) ≡ 6
unfolding u16 u32
sized_long p = simp length-append (omega arith)

-- what an area begins with in a log of these identifiers
pub record IsBegun (o : Ids) (b : Began State) : Type 0 where
  pub version : is_version b.version ≡ true
  pub owner : (b.state.dsa, b.state.inv) ≡ o
  pub normal : b.state.mode ≡ Normal
  pub own : IsOwnOf b.version o.1 (length (image_in b.version b.state.store)) b.state.store
  pub short : IsU32 (length (image_in b.version b.state.store))

abbrev area_in : Began State → List ℕ
area_in b = area_of b.version (image_in b.version b.state.store)

pub area_spelled : (o : Ids) → IsSpelling (IsBegun o) area_in (area_at o)
unfolding area_at
area_spelled o =
    made (λ (p : (ℕ × ℕ) × Store). IsSized p.0 × IsOwnOf p.0.0 o.1 p.0.1 p.1) (λ p. sized p.0 ++ image_in p.0.0 p.1) (then_at sized_at (λ p. own_image_at p.0 o.1 p.1))
    (both IsSized sized sized_at sized_spelled (λ p s. IsOwnOf p.0 o.1 p.1 s) (λ p s. image_in p.0 s) (λ p. own_image_at p.0 o.1 p.1) (λ p q. own_spelled p.0 q.0.0 o.1 p.1))
    (λ p. began p.0.0 (state_of o p.1)) (IsBegun o) area_in
    (λ b q. (
      ((b.version, length (image_in b.version b.state.store)), b.state.store),
      ap (λ (m : Mode). began b.version (record { dsa = b.state.dsa; inv = b.state.inv; mode = m; store = b.state.store })) q.normal
          ∙ ap (λ (p : Ids). began b.version (state_of p b.state.store)) q.owner,
      (((version_fits b.version q.version, q.version), q.short), q.own),
      refl,
    ))
    (λ p q fits. (
      record {
        version = q.0.0.1;
        owner = refl;
        normal = refl;
        own = ((q.1.0.0, refl), q.1.1);
        short = subst IsU32 (sym q.1.0.1) q.0.1;
      },
      ap (λ (n : ℕ). sized (p.0.0, n) ++ image_in p.0.0 p.1) q.1.0.1,
    ))

begins_begun : (s : State) → MayBegin s → image_length s.store < length_limit → IsBegun (s.dsa, s.inv) (began area_version s)
begins_begun s begins short = record {
  version = refl;
  owner = refl;
  normal = begins.normal;
  own = ((((begins.logged.formed.store, begins.logged.spelled), of_two (parts_in s.store)), refl), eq-eqb (at s.store.vector s.inv) s.store.usn begins.logged.formed.own);
  short = subst (λ (n : ℕ). n < 4294967296) (sym (store_long s.store begins.logged.formed.store begins.logged.spelled)) short;
}

begun_logged : (o : Ids) (b : Began State) → AreIds o → IsBegun o b → IsLogged b.state
begun_logged o b are q = record {
  dsa = subst (λ (p : Ids). IsId p.0) (sym q.owner) are.0;
  inv = subst (λ (p : Ids). IsId p.1) (sym q.owner) are.1;
  formed = record {
    store = q.own.0.0.0.0;
    own = eqb-true (at b.state.store.vector b.state.inv) b.state.store.usn (subst (λ (p : Ids). is_own p.1 b.state.store ≡ true) (sym q.owner) q.own.1);
  };
  spelled = q.own.0.0.0.1;
  classes = classes_known b.state q.own.0.0.0.1;
}

pub area_told : (place : ℕ) (s : State) → MayBegin s → image_length s.store < length_limit → TellsArea (area_at (s.dsa, s.inv)) place (area s) area_version s
area_told place s begins short rest = (area_spelled (s.dsa, s.inv)).again place (began area_version s) rest (begins_begun s begins short)

pub area_long : (s : State) → IsLogged s → length (area s) ≡ 6 + image_length s.store
area_long s logged =
    let front = sized_long (area_version, length (image s.store)) in
    omega (arith, length-append (sized (area_version, length (image s.store))) (image s.store), front, store_long s.store logged.formed.store logged.spelled)

pub area_read : (place : ℕ) (o : Ids) (bytes : List ℕ) (b : Began State) (rest : Rest) → AreBytes bytes → area_at o (from place bytes) ≡ Ok (b, rest) → WasArea (area_at o) place bytes b rest
area_read place o bytes b rest are read =
    let was = (area_spelled o).only place bytes b rest are read in
    record {
      read = area_in b;
      parts = was.spelled_so;
      moved = was.moved;
      tells = λ after. (area_spelled o).again place b after was.in_range;
    }

pub area_formed : (place : ℕ) (l : List ℕ) (o : Ids) (bytes : List ℕ) (b : Began State) (rest : Rest) → IsHead front_at l o → AreBytes bytes → area_at o (from place bytes) ≡ Ok (b, rest)
    → IsLogged b.state × ((b.state.dsa, b.state.inv) ≡ o) × (b.version ≤ area_version)
area_formed place l o bytes b rest head are read =
    let was = (area_spelled o).only place bytes b rest are read in
    (begun_logged o b (head_ids l o head) was.in_range, was.in_range.owner, one_or_two b.version was.in_range.version)
