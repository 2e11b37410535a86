-- What a crash leaves of the gate of a batch.
use Rattle.std.proofs.Common.{◌≡◌, ◌≢◌, ◌⊎◌, inl, inr, ℕ, ◌+◌, ◌≤◌, ◌<◌, Bool, List, [], ◌∷◌, ◌++◌, length, take, drop, get_or, refl, sym, ◌∙◌, ap, subst, arith, append_assoc, length-append, length-drop, take-append-drop, ◌==◌}
use Rattle.std.specs.Int.{w64, from_be_bytes}
use Rattle.std.proofs.lemmas.List.{drop-drop, drop_more, drop_at, take_at, take-take}
use Rattle.std.proofs.lemmas.Bool.{cases_eq}
use Rattle.adr_disk.specs.Disk.{put, Torn}
use Rattle.adr_disk.proofs.Bytes.{Torn-put}
use Rattle.adr_wire.specs.Reading.{Reading}
use Rattle.adr_wire.specs.Fields.{byte_of, u32}
use Rattle.adr_law_journal.specs.Log.{Following, open_gate, with_length, record_of}
use Rattle.adr_law_journal.proofs.Logs.{length_u32}
use Rattle.adr_model.specs.Lengths.{Log, first_area}
use Rattle.adr_law_journal.specs.Areas.{Began, selects_second, selector_place, slot_place, slot_of, IsHead, Reaches, window, IsArea, is_second, IsAtRest}
use Rattle.adr_law_journal.specs.Recording.{log_behind}
use Rattle.adr_law_journal.proofs.Windows.{torn_before, torn_behind, written}
use Rattle.adr_law_journal.proofs.Reading.{area_long}
use Rattle.adr_law_journal.proofs.Keeping.{slot_low}
use Rattle.adr_law_journal.proofs.Recording.{torn_record}
use Rattle.adr_law_journal.proofs.Starting.{rests_here, goes_on}
use Rattle.adr_law_group.specs.Batch.{Follows, IsStaged, batch_of, log_behind_all}

long_body : (body : List ℕ) → length (with_length body) ≡ 4 + length body
long_body body = omega (arith, length-append (u32 (length body)) body, length_u32 (length body))

long_record : (body : List ℕ) → length (record_of body) ≡ 5 + length body
long_record body = omega (arith, length-append (with_length body) (0 ∷ []), long_body body)

long_more : (body next : List ℕ) (more : List (List ℕ)) → length (batch_of body (next ∷ more)) ≡ 5 + length body + length (batch_of next more)
long_more body next more = omega (arith, length-append (with_length body) (open_gate ∷ batch_of next more), long_body body)

-- the log behind a batch ends so many bytes later
pub ends_behind : (log : Log) (body : List ℕ) (more : List (List ℕ)) → log_behind_all log (body ∷ more) ≡ record log { log_end = log.log_end + length (batch_of body more) }
ends_behind log body [] = let e : log.log_end + 5 + length body ≡ log.log_end + length (record_of body) = omega (arith, long_record body) in ap (λ (n : ℕ). record log { log_end = n }) e
ends_behind log body (next ∷ more) =
    let e : log.log_end + 5 + length body + length (batch_of next more) ≡ log.log_end + length (batch_of body (next ∷ more)) = omega (arith, long_more body next more) in
    ends_behind (log_behind log body) next more ∙ ap (λ (n : ℕ). record log { log_end = n }) e

module _ {H S : Type 0} (head : Reading H) (area : H → Reading (Began S)) (following : ℕ → Following S) (front : List ℕ) (h : H) (is_head : IsHead head front h)
    (bytes : List ℕ) (front_is : window 0 selector_place bytes ≡ open_gate ∷ front) (long : first_area ≤ length bytes) (second : Bool) (is : is_second bytes ≡ second) (place : ℕ) (named : slot_of second bytes ≡ place)
    (low : first_area ≤ place) (near : place < length bytes) (version first : ℕ) where
  abbrev RestsAt : S → ℕ → Type 0
  RestsAt s end = IsAtRest (area h) following front s (record { second = second; place = place; version = version; first = first; log_end = end }) bytes

  abbrev ReachesTo : ℕ → S → Type 0
  ReachesTo m s = Reaches (area h) following place version first (window place m bytes) s

  -- something stands there
  some : (m b : ℕ) (rest : List ℕ) → drop m bytes ≡ b ∷ rest → m < length bytes
  some m b rest there = let l : length (drop m bytes) ≡ length (b ∷ rest) = ap length there in omega (arith, l, length-drop m bytes)

  byte_there : (m b : ℕ) (rest : List ℕ) → drop m bytes ≡ b ∷ rest → get_or bytes m 0 ≡ b
  byte_there m b rest there = ap byte_of (sym (drop_more bytes m 0 (some m b rest there)) ∙ there)

  behind_there : (m b : ℕ) (rest : List ℕ) → drop m bytes ≡ b ∷ rest → drop (m + 1) bytes ≡ rest
  behind_there m b rest there = sym (drop-drop 1 m bytes) ∙ ap (drop 1) there

  -- behind an open gate, the records of a batch are passed one by one
  pub passed : (body : List ℕ) (more : List (List ℕ)) (rest : List ℕ) (m : ℕ) (s t : S) → ReachesTo m s → drop (place + m) bytes ≡ open_gate ∷ (batch_of body more ++ rest)
      → Follows (following version) s (body ∷ more) t → RestsAt t (place + m + 1 + length (batch_of body more))
  unfolding Follows
  passed body [] rest m s t reaches there f =
      let end : (t ≡ f.0) = f.3 in
      let all : drop (place + m + 1) bytes ≡ with_length body ++ (0 ∷ rest) = behind_there (place + m) open_gate (record_of body ++ rest) there ∙ append_assoc (with_length body) (0 ∷ []) rest in
      let more_here = some (place + m) open_gate (record_of body ++ rest) there in
      let on = goes_on head area following h front is_head bytes front_is long second is place named low near version first m s (omega (arith, more_here)) reaches more_here
      (byte_there (place + m) open_gate (record_of body ++ rest) there) body (0 ∷ rest) all f.2 f.0 f.1 in
      let n = m + 5 + length body in
      let last : drop (place + n) bytes ≡ 0 ∷ rest =
      ap (λ (p : ℕ). drop p bytes) (omega arith) ∙ sym (drop-drop (4 + length body) (place + m + 1) bytes) ∙ ap (drop (4 + length body)) all ∙ drop_at (with_length body) (0 ∷ rest) (4 + length body) (long_body body) in
      let more_last = some (place + n) 0 rest last in
      let shut = byte_there (place + n) 0 rest last in
      let rests : RestsAt f.0 (place + n + 1) = rests_here head area following h front is_head bytes front_is long second is place named low near version first n f.0 on.0 on.1 more_last (λ opens. absurd (omega (arith, sym shut ∙ opens))) in
      let e : place + n + 1 ≡ place + m + 1 + length (record_of body) = omega (arith, long_record body) in
      subst (λ (p : ℕ). RestsAt t p) e (subst (λ (u : S). RestsAt u (place + n + 1)) (sym end) rests)
  passed body (next ∷ more) rest m s t reaches there f =
      let behind_it : List ℕ = batch_of next more ++ rest in
      let all : drop (place + m + 1) bytes ≡ with_length body ++ (open_gate ∷ behind_it) =
      behind_there (place + m) open_gate (batch_of body (next ∷ more) ++ rest) there ∙ append_assoc (with_length body) (open_gate ∷ batch_of next more) rest in
      let more_here = some (place + m) open_gate (batch_of body (next ∷ more) ++ rest) there in
      let on = goes_on head area following h front is_head bytes front_is long second is place named low near version first m s (omega (arith, more_here)) reaches more_here
      (byte_there (place + m) open_gate (batch_of body (next ∷ more) ++ rest) there) body (open_gate ∷ behind_it) all f.2 f.0 f.1 in
      let n = m + 5 + length body in
      let last : drop (place + n) bytes ≡ open_gate ∷ behind_it =
      ap (λ (p : ℕ). drop p bytes) (omega arith) ∙ sym (drop-drop (4 + length body) (place + m + 1) bytes) ∙ ap (drop (4 + length body)) all ∙ drop_at (with_length body) (open_gate ∷ behind_it) (4 + length body) (long_body body) in
      let e : place + n + 1 + length (batch_of next more) ≡ place + m + 1 + length (batch_of body (next ∷ more)) = omega (arith, long_more body next more) in
      subst (λ (p : ℕ). RestsAt t p) e (passed next more rest n f.0 t on.1 last f.3)

module _ {H S : Type 0} (head : Reading H) (area : H → Reading (Began S)) (following : ℕ → Following S) (front : List ℕ) (h : H) (is_head : IsHead head front h) (s : S) (log : Log) (body : List ℕ) (more : List (List ℕ)) where
  abbrev Rests : S → Log → List ℕ → Type 0
  Rests s log bytes = IsAtRest (area h) following front s log bytes

  abbrev batch : List ℕ
  batch = batch_of body more

  -- the first write stages the batch
  pub staged : (there : List ℕ) → Rests s log there → IsStaged (area h) following front s log body more (put there log.log_end batch)
  staged there rests =
      let far = area_long (area h) following s log.place log.version log.first log.log_end there rests.ready.stands in
      record {
        rests = torn_record head area following front h is_head s log (length batch) there (put there log.log_end batch) rests (Torn-put there log.log_end (length batch) batch refl);
        there = written log.log_end batch there far.1;
      }

  module _ (t : S) (gate : ℕ) (is_gate : gate + 1 ≡ log.log_end) (there left : List ℕ) (st : IsStaged (area h) following front s log body more there) (follows : Follows (following log.version) s (body ∷ more) t) (torn : Torn gate 1 there left) where
    stands : IsArea (area h) following s log.place log.version log.first log.log_end there
    stands = st.rests.ready.stands

    gate_is : log.place + length stands.opened ≡ gate
    gate_is = omega (arith, stands.long, is_gate)

    far : (log.place < log.log_end) × (log.log_end ≤ length there)
    far = area_long (area h) following s log.place log.version log.first log.log_end there stands

    low : first_area ≤ log.place
    low = st.rests.ready.low

    within : gate ≤ length there
    within = omega (arith, far.1, is_gate)

    long_left : log.log_end ≤ length left
    long_left = omega (arith, far.1, torn.no_shorter)

    front_same : window 0 selector_place left ≡ open_gate ∷ front
    front_same = torn_before gate 1 there left torn 0 selector_place within (omega (arith, low, gate_is)) ∙ st.rests.ready.front_is

    selects : is_second left ≡ log.second
    selects = ap (λ (l : List ℕ). byte_of l == selects_second) (torn_before gate 1 there left torn selector_place 1 within (omega (arith, low, gate_is))) ∙ st.rests.selects

    named : from_be_bytes w64 (window (slot_place log.second) 8 left) ≡ log.place
    named =
        let slot = slot_low log.second in
        ap (from_be_bytes w64) (torn_before gate 1 there left torn (slot_place log.second) 8 within (omega (arith, low, gate_is, slot.1))) ∙ st.rests.ready.named

    opened_is : window log.place (length stands.opened) left ≡ stands.opened
    opened_is =
        torn_before gate 1 there left torn log.place (length stands.opened) within (omega (arith, gate_is))
        ∙ sym (take-take (length stands.opened) (length stands.opened + 1) (drop log.place there) (omega arith))
        ∙ ap (take (length stands.opened)) stands.parts ∙ take_at stands.opened (stands.gate ∷ []) (length stands.opened) refl

    reaches : Reaches (area h) following log.place log.version log.first (window log.place (length stands.opened) left) s
    reaches = subst (λ (l : List ℕ). Reaches (area h) following log.place log.version log.first l s) (sym opened_is) stands.reaches

    long : first_area ≤ length left
    long = omega (arith, low, far.0, long_left)

    near : log.place < length left
    near = omega (arith, far.0, long_left)

    more_left : log.place + length stands.opened < length left
    more_left = omega (arith, gate_is, is_gate, long_left)

    -- with a closed gate the log is as it was
    pub closed_gate : get_or left gate 0 ≢ open_gate → Rests s log left
    closed_gate shut =
        subst (λ (e : ℕ). Rests s (record log { log_end = e }) left) stands.long
        (rests_here head area following h front is_head left front_same long log.second selects log.place named low near log.version log.first (length stands.opened) s (omega (arith, more_left)) reaches more_left
        (subst (λ (p : ℕ). get_or left p 0 ≢ open_gate) (sym gate_is) shut))

    abbrev rest : List ℕ
    rest = drop (length batch) (drop log.log_end left)

    behind_gate : drop log.log_end left ≡ batch ++ rest
    behind_gate =
        sym (take-append-drop (length batch) (drop log.log_end left))
        ∙ ap (λ (l : List ℕ). l ++ rest) (torn_behind gate 1 there left torn log.log_end (length batch) 0 (omega (arith, is_gate)) ∙ st.there)

    -- with an open one it has all of the batch
    pub open_one : get_or left gate 0 ≡ open_gate → Rests t (log_behind_all log (body ∷ more)) left
    open_one opens =
        let at : log.place + length stands.opened ≡ gate = gate_is in
        let on : drop (log.place + length stands.opened) left ≡ open_gate ∷ (batch ++ rest) =
        ap (λ (p : ℕ). drop p left) at ∙ drop_more left gate 0 (omega (arith, is_gate, long_left)) ∙ (λ i. opens i ∷ (ap (λ (p : ℕ). drop p left) is_gate ∙ behind_gate) i) in
        let rests = passed head area following front h is_head left front_same long log.second selects log.place named low near log.version log.first body more rest (length stands.opened) s t reaches on follows in
        let e : log.place + length stands.opened + 1 + length batch ≡ log.log_end + length batch = omega (arith, stands.long) in
        subst (λ (m : Log). Rests t m left) (sym (ends_behind log body more)) (subst (λ (e : ℕ). Rests t (record log { log_end = e }) left) e rests)

    -- with any byte, all of it counts or nothing does
    pub torn_gate : Rests s log left ⊎ Rests t (log_behind_all log (body ∷ more)) left
    torn_gate = elim (cases_eq (get_or left gate 0) open_gate) [
      | inl opens ↦ inr (open_one opens)
      | inr shut ↦ inl (closed_gate shut)
    ]

  -- the second write opens the gate
  pub opened_up : (t : S) (gate : ℕ) → gate + 1 ≡ log.log_end → (there : List ℕ) → IsStaged (area h) following front s log body more there → Follows (following log.version) s (body ∷ more) t
      → Rests t (log_behind_all log (body ∷ more)) (put there gate (open_gate ∷ []))
  opened_up t gate is_gate there st follows =
      let far = area_long (area h) following s log.place log.version log.first log.log_end there st.rests.ready.stands in
      let left : List ℕ = put there gate (open_gate ∷ []) in
      let torn = Torn-put there gate 1 (open_gate ∷ []) refl in
      let is : window gate 1 left ≡ open_gate ∷ [] = written gate (open_gate ∷ []) there (omega (arith, far.1, is_gate)) in
      let more_left : gate < length left = omega (arith, far.1, is_gate, torn.no_shorter) in
      let byte : get_or left gate 0 ≡ open_gate = ap (λ (l : List ℕ). byte_of (take 1 l)) (sym (drop_more left gate 0 more_left)) ∙ ap byte_of is in
      open_one t gate is_gate there left st follows torn byte
