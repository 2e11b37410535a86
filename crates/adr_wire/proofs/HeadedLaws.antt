-- A message of a version that is known is spelled in one way, if what stands behind the version is.
use Rattle.std.proofs.Common.{◌≡◌, ℕ, ◌+◌, Bool, true, false, cond, eqb, ◌||◌, List, [], ◌++◌, length, Option, Some, None, Result, Ok, Err, refl, sym, ap, subst, ◌∙◌, append-nil, arith}
use Rattle.std.proofs.lemmas.Bool.{eqb-true}
use Rattle.std.proofs.lemmas.List.{nil_from_length}
use Rattle.adr_values.specs.declared.failure.Failure.{Failure}
use Rattle.adr_values.specs.declared.failure.Failure.TheVariants.{Refused, NoMemory}
use Rattle.adr_wire.specs.declared.refusal.Malformed.{Malformed as Fault}
use Rattle.adr_wire.specs.declared.refusal.DecodeRefusal.{DecodeRefusal}
use Rattle.adr_wire.specs.declared.refusal.DecodeRefusal.TheVariants.{Malformed, WrongVersion}
use Rattle.adr_wire.specs.Fields.{format_version_at, magic_at, u16_at, u16}
use Rattle.adr_wire.specs.Ranges.{IsU16}
use Rattle.adr_wire.specs.Reading.{Names, Rest, Read, Reading, then_at}
use Rattle.adr_wire.specs.Spelling.{AreBytes, behind, IsSpelling}
use Rattle.adr_wire.proofs.Combining.{from, rest_bytes, made, pair, as_they_are}
use Rattle.adr_wire.proofs.FieldLaws.{format_version_spelled, magic_spelled, u16_spelled}
use Rattle.adr_wire.specs.Headed.{Forms, IsHeadRefused, IsRefusedSo, as_decoding, first_form, is_version, two_forms, head_at, head, headed_at, ended, of_form, versioned, read_message}

abbrev said : {X : Type 0} → X → Result X DecodeRefusal
said x = Ok x

abbrev given : {X : Type 0} → X → Rest → Read X
given x rest = Ok (x, rest)

said_is : {X : Type 0} (x y : X) → said x ≡ said y → x ≡ y
said_is x y e = cc

ended_ok : {X : Type 0} (r : Read X) (x : X) → ended r ≡ Ok x → (rest : Rest) × (r ≡ Ok (x, rest)) × (rest.bytes ≡ [])
ended_ok {X} (Ok y) x e = by (eqb (length y.1.bytes) 0) refl e
  where
    by : (b : Bool) → eqb (length y.1.bytes) 0 ≡ b → cond b (Ok y.0) (Err (Malformed y.1.place)) ≡ said x → (rest : Rest) × (given y.0 y.1 ≡ given x rest) × (rest.bytes ≡ [])
    by true t h = (y.1, ap (λ (z : X). given z y.1) (said_is y.0 x h), nil_from_length y.1.bytes (eqb-true (length y.1.bytes) 0 t))
    by false t h = absurd (cc)
ended_ok (Err place) x e = absurd (cc)

versioned_ok : {X : Type 0} (forms : Forms X) (r : Read ℕ) (x : X) → versioned forms r ≡ Ok x
    → (v : ℕ) × (rest : Rest) × (a : Reading X) × (r ≡ Ok (v, rest)) × (forms v ≡ Some a) × (ended (a rest) ≡ Ok x)
versioned_ok {X} forms (Ok v) x e = by (forms v.0) refl e
  where
    by : (f : Option (Reading X)) → forms v.0 ≡ f → of_form f v.0 v.1 ≡ said x
        → (n : ℕ) × (rest : Rest) × (a : Reading X) × (given v.0 v.1 ≡ given n rest) × (forms n ≡ Some a) × (ended (a rest) ≡ Ok x)
    by None k h = absurd (cc)
    by (Some a) k h = (v.0, v.1, a, refl, k, h)
versioned_ok forms (Err place) x e = absurd (cc)

head_spelled : (magic : List ℕ) → length magic ≡ 4 → IsSpelling IsU16 (head magic) (head_at magic)
unfolding head_at
head_spelled magic four =
    made (λ (p : List ℕ × ℕ). (p.0 ≡ magic) × IsU16 p.1) (λ p. p.0 ++ u16 p.1) (then_at (magic_at magic) (λ _. u16_at))
    (pair (λ m. m ≡ magic) as_they_are (magic_at magic) (magic_spelled magic four) IsU16 u16 u16_at u16_spelled)
    (λ p. p.1) IsU16 (head magic)
    (λ v q. ((magic, v), refl, (refl, q), refl))
    (λ p q fits. (q.1, ap (λ (m : List ℕ). m ++ u16 p.1) (sym q.0)))

-- what stands behind a magic and a version, in other bytes
pub headed_spelled : {X : Type 0} (magic : List ℕ) → length magic ≡ 4 → (version : ℕ) → IsU16 version → (P : X → Type 0) (s : X → List ℕ) (a : Reading X) → IsSpelling P s a
    → IsSpelling P (λ x. magic ++ (u16 version ++ s x)) (headed_at magic version a)
headed_spelled magic four version fits P s a law =
    made (λ p. (p.0 ≡ magic) × ((p.1.0 ≡ version) × P p.1.1)) (λ p. p.0 ++ (u16 p.1.0 ++ s p.1.1)) (then_at (magic_at magic) (λ _. then_at (format_version_at version) (λ _. a)))
    (pair (λ m. m ≡ magic) as_they_are (magic_at magic) (magic_spelled magic four) (λ p. (p.0 ≡ version) × P p.1) (λ p. u16 p.0 ++ s p.1) (then_at (format_version_at version) (λ _. a))
    (pair (λ v. v ≡ version) u16 (format_version_at version) (format_version_spelled version fits) P s a law))
    (λ p. p.1.1) P (λ x. magic ++ (u16 version ++ s x))
    (λ x q. ((magic, (version, x)), refl, (refl, (refl, q)), refl))
    (λ p q are. (
      q.1.1,
      ap (λ (m : List ℕ). m ++ (u16 version ++ s p.1.1)) (sym q.0) ∙ ap (λ (v : ℕ). p.0 ++ (u16 v ++ s p.1.1)) (sym q.1.0),
    ))

module _ {X : Type 0} (magic : List ℕ) (four : length magic ≡ 4) (forms : Forms X) (P : ℕ → X → Type 0) (s : ℕ → X → List ℕ)
    (laws : (v : ℕ) (a : Reading X) → forms v ≡ Some a → IsU16 v × IsSpelling (P v) (s v) a) where
  -- what is written is read again
  pub message_again : (v : ℕ) (a : Reading X) → forms v ≡ Some a → (x : X) → P v x → read_message magic forms (head magic v ++ s v x) ≡ Ok x
  message_again v a known x q =
      let l = laws v a known in
      ap (versioned forms) ((head_spelled magic four).again 0 v (s v x) l.0)
      ∙ ap (λ (f : Option (Reading X)). of_form f v (behind 0 (head magic v) (s v x))) known
      ∙ ap ended (ap (λ (bytes : List ℕ). a (from (0 + length (head magic v)) bytes)) (sym (append-nil (s v x))) ∙ l.1.again (0 + length (head magic v)) x [] q)

  -- what is read was written so
  pub message_only : (bytes : List ℕ) (x : X) → AreBytes bytes → read_message magic forms bytes ≡ Ok x
      → (v : ℕ) × (a : Reading X) × (forms v ≡ Some a) × P v x × (bytes ≡ head magic v ++ s v x)
  message_only bytes x fits e =
      let v = versioned_ok forms (head_at magic (from 0 bytes)) x e in
      let first = (head_spelled magic four).only 0 bytes v.0 v.1 fits v.3 in
      let d = ended_ok (v.2 v.1) x v.5 in
      let second = (laws v.0 v.2 v.4).1.only v.1.place v.1.bytes x d.0 (rest_bytes IsU16 (head magic) 0 bytes v.0 v.1 first fits) d.1 in (
        v.0,
        v.2,
        v.4,
        second.in_range,
        first.spelled_so ∙ ap (λ (w : List ℕ). head magic v.0 ++ w) (second.spelled_so ∙ ap (λ (w : List ℕ). s v.0 x ++ w) d.2 ∙ append-nil (s v.0 x)),
      )

-- ---- one version

known_first : {X : Type 0} (a b : Reading X) (v : ℕ) → first_form a v ≡ Some b → (v ≡ 1) × (a ≡ b)
known_first {X} a b v e = by (eqb v 1) refl e
  where
    by : (t : Bool) → eqb v 1 ≡ t → cond t (Some a) None ≡ Some b → (v ≡ 1) × (a ≡ b)
    by true is h = (eqb-true v 1 is, cc)
    by false is h = absurd (cc)

module _ {X : Type 0} (magic : List ℕ) (four : length magic ≡ 4) (P : X → Type 0) (s : X → List ℕ) (a : Reading X) (law : IsSpelling P s a) where
  laws_of : (v : ℕ) (b : Reading X) → first_form a v ≡ Some b → IsU16 v × IsSpelling P s b
  laws_of v b known =
      let k = known_first a b v known in
      let one = k.0 in
      (omega (arith, one), subst (λ (r : Reading X). IsSpelling P s r) k.1 law)

  pub first_again : (x : X) → P x → read_message magic (first_form a) (head magic 1 ++ s x) ≡ Ok x
  first_again x q = message_again magic four (first_form a) (λ _. P) (λ _. s) laws_of 1 a refl x q

  pub first_only : (bytes : List ℕ) (x : X) → AreBytes bytes → read_message magic (first_form a) bytes ≡ Ok x → P x × (bytes ≡ head magic 1 ++ s x)
  first_only bytes x fits e =
      let m = message_only magic four (first_form a) (λ _. P) (λ _. s) laws_of bytes x fits e in
      (m.3, m.4 ∙ ap (λ (v : ℕ). head magic v ++ s x) (known_first a m.1 m.0 m.2).0)

-- ---- two versions

small : (version : ℕ) → is_version version ≡ true → IsU16 version
small version known = by (eqb version 1) refl (eqb version 2) refl known
  where
    by : (a : Bool) → eqb version 1 ≡ a → (b : Bool) → eqb version 2 ≡ b → (a || b) ≡ true → IsU16 version
    by true one b two h = let e = eqb-true version 1 one in omega (arith, e)
    by false one true two h = let e = eqb-true version 2 two in omega (arith, e)
    by false one false two h = absurd (cc)

known_form : {X : Type 0} (a : ℕ → Reading X) (version : ℕ) (b : Reading X) → two_forms a version ≡ Some b → (is_version version ≡ true) × (a version ≡ b)
known_form {X} a version b e = by (is_version version) refl e
  where
    by : (t : Bool) → is_version version ≡ t → cond t (Some (a version)) None ≡ Some b → (is_version version ≡ true) × (a version ≡ b)
    by true is h = (is, cc)
    by false is h = absurd (cc)

form_known : {X : Type 0} (a : ℕ → Reading X) (version : ℕ) → is_version version ≡ true → two_forms a version ≡ Some (a version)
form_known a version known = rw known refl

module _ {X : Type 0} (magic : List ℕ) (four : length magic ≡ 4) (P : ℕ → X → Type 0) (s : ℕ → X → List ℕ) (a : ℕ → Reading X) (law : (v : ℕ) → IsSpelling (P v) (s v) (a v)) where
  either : (v : ℕ) (b : Reading X) → two_forms a v ≡ Some b → IsU16 v × IsSpelling (P v) (s v) b
  either v b e = let k = known_form a v b e in (small v k.0, subst (λ (r : Reading X). IsSpelling (P v) (s v) r) k.1 (law v))

  pub again_of_two : (v : ℕ) → is_version v ≡ true → (x : X) → P v x → read_message magic (two_forms a) (head magic v ++ s v x) ≡ Ok x
  again_of_two v known x q = message_again magic four (two_forms a) P s either v (a v) (form_known a v known) x q

  pub only_of_two : (bytes : List ℕ) (x : X) → AreBytes bytes → read_message magic (two_forms a) bytes ≡ Ok x → (v : ℕ) × (is_version v ≡ true) × P v x × (bytes ≡ head magic v ++ s v x)
  only_of_two bytes x fits e =
      let m = message_only magic four (two_forms a) P s either bytes x fits e in
      (m.0, (known_form a m.0 m.1 m.2).0, m.3, m.4)

-- ---- what a decoder makes of a head

pub head_malformed : (known : ℕ → Bool) (read : Read ℕ) (e : Failure Fault) → Names e read → IsHeadRefused known read (as_decoding e)
head_malformed known read (Refused fault) h = subst (λ (r : Read ℕ). IsHeadRefused known r (Refused (Malformed fault.place))) (sym h) refl
head_malformed known read NoMemory h = absurd h

pub head_unknown : (known : ℕ → Bool) (found : ℕ) (read : Read ℕ) (rest : Rest) → read ≡ Ok (found, rest) → known found ≡ false → IsHeadRefused known read (Refused (WrongVersion found))
head_unknown known found read rest h other = subst (λ (r : Read ℕ). IsHeadRefused known r (Refused (WrongVersion found))) (sym h) (other, refl)

refused_by : {X : Type 0} (forms : Forms X) (known : ℕ → Bool) → ((v : ℕ) → known v ≡ false → forms v ≡ None) → (read : Read ℕ) (why : Failure DecodeRefusal) → IsHeadRefused known read why → IsRefusedSo (versioned forms read) why
refused_by {X} forms known none (Ok v) why h = subst (IsRefusedSo (versioned forms (Ok v))) (sym h.1) (ap (λ (f : Option (Reading X)). of_form f v.0 v.1) (none v.0 h.0))
refused_by forms known none (Err place) why h = subst (IsRefusedSo (versioned forms (Err place))) (sym h) refl

module _ {X : Type 0} (a : Reading X) (read : Read ℕ) where
  -- behind the head of the first version
  pub behind_head : (rest : Rest) → read ≡ Ok (1, rest) → versioned (first_form a) read ≡ ended (a rest)
  behind_head rest h = ap (versioned (first_form a)) h

  pub before_head : (why : Failure DecodeRefusal) → IsHeadRefused (λ v. eqb v 1) read why → IsRefusedSo (versioned (first_form a) read) why
  before_head = refused_by (first_form a) (λ v. eqb v 1) (λ v other. ap (λ (b : Bool). cond b (Some a) None) other) read

module _ {X : Type 0} (a : ℕ → Reading X) (read : Read ℕ) where
  -- behind the head of either version
  pub behind_either : (v : ℕ) (rest : Rest) → read ≡ Ok (v, rest) → is_version v ≡ true → versioned (two_forms a) read ≡ ended (a v rest)
  behind_either v rest h known = ap (versioned (two_forms a)) h ∙ ap (λ (f : Option (Reading X)). of_form f v rest) (form_known a v known)

  pub before_either : (why : Failure DecodeRefusal) → IsHeadRefused is_version read why → IsRefusedSo (versioned (two_forms a) read) why
  before_either = refused_by (two_forms a) is_version (λ v other. ap (λ (b : Bool). cond b (Some (a v)) None) other) read
