-- What a log stands for.
use Rattle.std.proofs.Common.{◌≡◌, ℕ, suc, ◌+◌, ◌≤◌, ◌<◌, ◌^◌, List, [], ◌∷◌, ◌++◌, length, take, drop, Bool, true, false, Result, Some, Ok, refl, sym, ◌∙◌, ap, arith, append_assoc, length-append, length-drop, length-take, take-append-drop, if◌then◌else◌}
use Rattle.std.specs.Prelude.{nat_lt}
use Rattle.std.specs.Int.{w64, from_be_bytes}
use Rattle.std.proofs.lemmas.Bool.{le-ltb, lt-ltb}
use Rattle.std.proofs.lemmas.List.{drop-drop}
use Rattle.adr_wire.specs.Reading.{Rest, Read, Reading, ◌>>=◌, bytes_at, then_at}
use Rattle.adr_wire.specs.Spelling.{behind}
use Rattle.adr_wire.specs.Fields.{byte_of, u8_at, u64_at}
use Rattle.adr_law_journal.specs.Log.{Followed, Following, open_gate, with_length, found_from, behind_first}
use Rattle.adr_law_journal.proofs.Logs.{closed, passed, same_found}
use Rattle.adr_model.specs.Lengths.{Log, first_area}
use Rattle.adr_law_journal.specs.Areas.{Began, found, Started, selector_place, slots_at, with_log, found_in, selected, by_slots, start_of, IsHead, Reaches, window, IsArea, slot_of, is_second, IsAtRest}

pub no : {X : Type 0} (b : Bool) (x y : X) → b ≡ false → (if b then x else y) ≡ y
no true x y is = absurd (cc is)
no false x y is = refl

pub yes : {X : Type 0} (b : Bool) (x y : X) → b ≡ true → (if b then x else y) ≡ x
yes true x y is = refl
yes false x y is = absurd (cc is)

enough : (n : ℕ) (r : Rest) → n ≤ length r.bytes → bytes_at n r ≡ Ok (take n r.bytes, record { place = r.place + n; bytes = drop n r.bytes })
enough n r le = no (nat_lt (length r.bytes) n) _ _ (le-ltb (length r.bytes) n le)

pub u8_read : (r : Rest) → 1 ≤ length r.bytes → u8_at r ≡ Ok (byte_of (take 1 r.bytes), record { place = r.place + 1; bytes = drop 1 r.bytes })
unfolding u8_at
u8_read r le = ap (λ (x : Read (List ℕ)). x >>= λ y. Ok (byte_of y.0, y.1)) (enough 1 r le)

pub u64_read : (r : Rest) → 8 ≤ length r.bytes → u64_at r ≡ Ok (from_be_bytes w64 (take 8 r.bytes), record { place = r.place + 8; bytes = drop 8 r.bytes })
unfolding u64_at
u64_read r le = ap (λ (x : Read (List ℕ)). x >>= λ y. Ok (from_be_bytes w64 y.0, y.1)) (enough 8 r le)

both : {A B : Type 0} (a : Reading A) (b : A → Reading B) (r s t : Rest) (x : A) (y : B) → a r ≡ Ok (x, s) → b x s ≡ Ok (y, t) → then_at a b r ≡ Ok ((x, y), t)
both {A} {B} a b r s t x y first second =
    ap (λ (o : Read A). o >>= λ x. b x.0 x.1 >>= λ y. Ok ((x.0, y.0), y.1)) first
    ∙ ap (λ (o : Read B). o >>= λ y. Ok ((x, y.0), y.1)) second

pub slots_read : (r : Rest) → 17 ≤ length r.bytes
    → (t : Rest) × (slots_at r ≡ Ok ((byte_of (take 1 r.bytes), (from_be_bytes w64 (take 8 (drop 1 r.bytes)), from_be_bytes w64 (take 8 (drop 9 r.bytes)))), t))
slots_read r le =
    let s : Rest = record { place = r.place + 1; bytes = drop 1 r.bytes } in
    let t : Rest = record { place = s.place + 8; bytes = drop 8 s.bytes } in
    let u : Rest = record { place = t.place + 8; bytes = drop 8 t.bytes } in (
      u,
      both u8_at (λ selector. then_at u64_at (λ zero. u64_at)) r s u _ _ (u8_read r (omega (arith, le)))
          (both u64_at (λ zero. u64_at) s t u _ _ (u64_read s (omega (arith, le, length-drop 1 r.bytes)))
          (u64_read t (omega (arith, le, length-drop 1 r.bytes, length-drop 8 (drop 1 r.bytes))) ∙ ap (λ (l : List ℕ). let x : Read ℕ = Ok (from_be_bytes w64 (take 8 l), u) in x) (drop-drop 8 1 r.bytes))),
    )

module _ {S : Type 0} (area : Reading (Began S)) (following : ℕ → Following S) where
  -- an area that stands leads to its state
  pub area_stands : (s : S) (place version first log_end : ℕ) (second : Bool) (n : ℕ) (bytes : List ℕ) → length bytes ≤ n → IsArea area following s place version first log_end bytes
      → found_in area following n second (record { place = place; bytes = drop place bytes }) ≡ Ok (found s (record { second = second; place = place; version = version; first = first; log_end = log_end }))
  area_stands s place version first log_end second n bytes enough_n is =
      let opened = is.opened in
      let m = length opened + 1 in
      let rest : List ℕ = drop m (drop place bytes) in
      let whole : drop place bytes ≡ opened ++ is.gate ∷ rest =
      sym (take-append-drop m (drop place bytes)) ∙ ap (λ (l : List ℕ). l ++ rest) is.parts ∙ append_assoc opened (is.gate ∷ []) rest in
      let long : length opened + length (is.gate ∷ rest) ≤ n = omega (arith, enough_n, length-drop place bytes, ap length whole, length-append opened (is.gate ∷ rest)) in
      let go : Followed S → Started S = λ x. x >>= λ f. Ok (with_log second place version first f) in
      ap (λ (l : List ℕ). found_in area following n second (record { place = place; bytes = l })) whole
      ∙ is.reaches second (is.gate ∷ rest) n (suc (length rest)) long (omega arith)
      ∙ ap go (closed (following version) (length rest) s (place + length opened) is.gate rest is.closed ∙ ap (λ (e : ℕ). let x : Followed S = Ok (record { state = s; log_end = e }) in x) is.long)

  -- an area is some bytes long
  pub area_long : (s : S) (place version first log_end : ℕ) (bytes : List ℕ) → IsArea area following s place version first log_end bytes → (place < log_end) × (log_end ≤ length bytes)
  area_long s place version first log_end bytes is =
      let cut : length (window place (length is.opened + 1) bytes) ≡ length is.opened + 1 = ap length is.parts ∙ omega (arith, length-append is.opened (is.gate ∷ [])) in (
        omega (arith, is.long),
        omega (arith, is.long, cut, length-take (length is.opened + 1) (drop place bytes), length-drop place bytes),
      )

-- bytes that lead to a state lead with one record more to the state after it
pub reaches_more : {S : Type 0} (area : Reading (Began S)) (following : ℕ → Following S) (place version first : ℕ) (opened body : List ℕ) (s t : S) → Reaches area following place version first opened s → following version s body ≡ Some t → length body < 2 ^ 32
    → Reaches area following place version first (opened ++ open_gate ∷ with_length body) t
reaches_more {S} area following place version first opened body s t reaches follows fits = λ second behind n m le enough.
    let more = length (with_length body) + length behind in
    let at = place + length opened in
    let go : Followed S → Started S = λ x. x >>= λ f. Ok (with_log second place version first f) in
    ap (λ (l : List ℕ). found_in area following n second (record { place = place; bytes = l })) (append_assoc opened (open_gate ∷ with_length body) behind)
    ∙ reaches second (open_gate ∷ (with_length body ++ behind)) n (suc more) (omega (arith, le, length-append (with_length body) behind, length-append opened (open_gate ∷ with_length body))) (omega (arith, length-append (with_length body) behind))
    ∙ ap go (passed (following version) more s t at open_gate body behind refl follows fits
    ∙ same_found (following version) more m t (at + 1 + length (with_length body)) behind (omega arith) enough
    ∙ ap (λ (p : ℕ). found_from (following version) m t p behind) (omega (arith, length-append opened (open_gate ∷ with_length body))))

pub opened_first : {X : Type 0} (l : List ℕ) (go : List ℕ → Result X ℕ) → 1 ≤ length l → behind_first (open_gate ∷ l) go ≡ go l
opened_first [] go le = absurd (omega arith)
opened_first (b ∷ l) go le = refl

chosen : {X : Type 0} (b c : Bool) (x y : X) → b ≡ c → (if b then x else y) ≡ (if c then x else y)
chosen b c x y is = ap (λ (b : Bool). if b then x else y) is

pub place_of : (second : Bool) (bytes : List ℕ) → (if second then slot_of true bytes else slot_of false bytes) ≡ slot_of second bytes
place_of true bytes = refl
place_of false bytes = refl

module _ {H S : Type 0} (head : Reading H) (area : H → Reading (Began S)) (following : ℕ → Following S) (front : List ℕ) (h : H) (is_head : IsHead head front h) where
  -- a log at rest stands for its state
  pub at_rest_stands : (s : S) (log : Log) (bytes : List ℕ) → IsAtRest (area h) following front s log bytes → start_of head area following bytes ≡ Ok (found s log)
  at_rest_stands s log bytes is =
      let there = is.ready in
      let far = area_long (area h) following s log.place log.version log.first log.log_end bytes there.stands in
      let low = there.low in
      let long : 57 ≤ length bytes = omega (arith, low, far.0, far.1) in
      let rest : List ℕ = drop selector_place bytes in
      let whole : bytes ≡ open_gate ∷ (front ++ rest) = sym (take-append-drop selector_place bytes) ∙ ap (λ (l : List ℕ). l ++ rest) there.front_is in
      let r : Rest = behind 1 front rest in
      let slots = slots_read r (omega (arith, long, length-drop selector_place bytes)) in
      let zero_is : from_be_bytes w64 (take 8 (drop 1 rest)) ≡ slot_of false bytes = ap (λ (l : List ℕ). from_be_bytes w64 (take 8 l)) (drop-drop 1 selector_place bytes) in
      let one_is : from_be_bytes w64 (take 8 (drop 9 rest)) ≡ slot_of true bytes = ap (λ (l : List ℕ). from_be_bytes w64 (take 8 l)) (drop-drop 9 selector_place bytes) in
      let place_is : (if is_second bytes then from_be_bytes w64 (take 8 (drop 9 rest)) else from_be_bytes w64 (take 8 (drop 1 rest))) ≡ log.place =
      (λ i. if is_second bytes then one_is i else zero_is i) ∙ place_of (is_second bytes) bytes ∙ ap (λ (b : Bool). slot_of b bytes) is.selects ∙ there.named in
      let ends : Started S = Ok (found s log) in
      ap (start_of head area following) whole
      ∙ opened_first (front ++ rest) _ (omega (arith, length-append front rest, is_head.long))
      ∙ ap (λ (x : Read H). x >>= λ h. slots_at h.1 >>= λ s. by_slots (area h.0) following (open_gate ∷ (front ++ rest)) s.0) (is_head.tells rest)
      ∙ ap (λ (x : Read (ℕ × (ℕ × ℕ))). x >>= λ s. by_slots (area h) following (open_gate ∷ (front ++ rest)) s.0) slots.1
      ∙ ap (λ (l : List ℕ). by_slots (area h) following l (byte_of (take 1 rest), (from_be_bytes w64 (take 8 (drop 1 rest)), from_be_bytes w64 (take 8 (drop 9 rest))))) (sym whole)
      ∙ (λ i. selected (area h) following (is.selects i) (place_is i) bytes)
      ∙ no (nat_lt log.place first_area) _ _ (le-ltb log.place first_area low)
      ∙ yes (nat_lt log.place (length bytes)) _ _ (lt-ltb log.place (length bytes) (omega (arith, far.0, far.1)))
      ∙ area_stands (area h) following s log.place log.version log.first log.log_end log.second (length bytes) bytes (omega arith) there.stands
