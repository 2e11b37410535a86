-- What a crash within a commit to an area leaves.
use Rattle.std.proofs.Common.{◌≡◌, ◌≢◌, ◌⊎◌, inl, inr, ℕ, ◌+◌, ◌≤◌, ◌<◌, ◌^◌, List, [], ◌∷◌, ◌++◌, length, take, drop, get_or, Some, refl, sym, ◌∙◌, ap, subst, arith, append_assoc, length-append, length-drop, length-take, take-append-drop, ◌==◌}
use Rattle.std.specs.Int.{w64, from_be_bytes}
use Rattle.std.proofs.lemmas.List.{drop-drop, drop_more, drop_at, take_at, take-take}
use Rattle.std.proofs.lemmas.Bool.{cases_eq}
use Rattle.adr_disk.specs.Disk.{put, Torn}
use Rattle.adr_disk.proofs.Bytes.{Torn-put}
use Rattle.adr_wire.specs.Reading.{Reading}
use Rattle.adr_wire.specs.Fields.{byte_of, u32}
use Rattle.adr_law_journal.specs.Log.{Following, open_gate, with_length, record_of}
use Rattle.adr_law_journal.proofs.Logs.{length_u32}
use Rattle.adr_model.specs.Lengths.{Log, first_area}
use Rattle.adr_law_journal.specs.Areas.{Began, selects_second, selector_place, slot_place, IsHead, Reaches, window, IsArea, is_second, IsAtRest}
use Rattle.adr_law_journal.specs.Recording.{IsStaged, log_behind}
use Rattle.adr_law_journal.proofs.Windows.{torn_before, torn_behind, written}
use Rattle.adr_law_journal.proofs.Reading.{area_long}
use Rattle.adr_law_journal.proofs.Keeping.{slot_low, torn_new_area}
use Rattle.adr_law_journal.proofs.Starting.{rests_here, goes_on}

module _ {H S : Type 0} (head : Reading H) (area : H → Reading (Began S)) (following : ℕ → Following S) (front : List ℕ) (h : H) (is_head : IsHead head front h) (s : S) (log : Log) where
  abbrev Rests : S → Log → List ℕ → Type 0
  Rests s log bytes = IsAtRest (area h) following front s log bytes

  -- whatever a crash within the first write leaves, the closed gate stands
  pub torn_record : (n : ℕ) (there left : List ℕ) → Rests s log there → Torn log.log_end n there left → Rests s log left
  torn_record n there left rests torn = torn_new_area head area following front h is_head s log log.log_end n there left rests (inl refl) torn

  -- the first write stages the record
  pub staged : (body there : List ℕ) → Rests s log there → IsStaged (area h) following front s log body (put there log.log_end (record_of body))
  staged body there rests =
      let far = area_long (area h) following s log.place log.version log.first log.log_end there rests.ready.stands in
      record {
        rests = torn_record (length (record_of body)) there (put there log.log_end (record_of body)) rests (Torn-put there log.log_end (length (record_of body)) (record_of body) refl);
        there = written log.log_end (record_of body) there far.1;
      }

  module _ (t : S) (gate : ℕ) (is_gate : gate + 1 ≡ log.log_end) (body there left : List ℕ) (st : IsStaged (area h) following front s log body there) (follows : following log.version s body ≡ Some t) (fits : length body < 2 ^ 32) (torn : Torn gate 1 there left) where
    stands : IsArea (area h) following s log.place log.version log.first log.log_end there
    stands = st.rests.ready.stands

    gate_is : log.place + length stands.opened ≡ gate
    gate_is = omega (arith, stands.long, is_gate)

    far : (log.place < log.log_end) × (log.log_end ≤ length there)
    far = area_long (area h) following s log.place log.version log.first log.log_end there stands

    low : first_area ≤ log.place
    low = st.rests.ready.low

    within : gate ≤ length there
    within = omega (arith, far.1, is_gate)

    long_there : log.log_end + length (record_of body) ≤ length there
    long_there =
        let cut : length (window log.log_end (length (record_of body)) there) ≡ length (record_of body) = ap length st.there in
        omega (arith, cut, far.1, length-take (length (record_of body)) (drop log.log_end there), length-drop log.log_end there)

    long_left : log.log_end + length (record_of body) ≤ length left
    long_left = omega (arith, long_there, torn.no_shorter)

    record_long : length (record_of body) ≡ 5 + length body
    record_long = omega (arith, length-append (with_length body) (0 ∷ []), length-append (u32 (length body)) body, length_u32 (length body))

    front_same : window 0 selector_place left ≡ open_gate ∷ front
    front_same = torn_before gate 1 there left torn 0 selector_place within (omega (arith, low, gate_is)) ∙ st.rests.ready.front_is

    selects : is_second left ≡ log.second
    selects = ap (λ (l : List ℕ). byte_of l == selects_second) (torn_before gate 1 there left torn selector_place 1 within (omega (arith, low, gate_is))) ∙ st.rests.selects

    named : from_be_bytes w64 (window (slot_place log.second) 8 left) ≡ log.place
    named =
        let slot = slot_low log.second in
        ap (from_be_bytes w64) (torn_before gate 1 there left torn (slot_place log.second) 8 within (omega (arith, low, gate_is, slot.1))) ∙ st.rests.ready.named

    opened_is : window log.place (length stands.opened) left ≡ stands.opened
    opened_is =
        torn_before gate 1 there left torn log.place (length stands.opened) within (omega (arith, gate_is))
        ∙ sym (take-take (length stands.opened) (length stands.opened + 1) (drop log.place there) (omega arith))
        ∙ ap (take (length stands.opened)) stands.parts ∙ take_at stands.opened (stands.gate ∷ []) (length stands.opened) refl

    reaches : Reaches (area h) following log.place log.version log.first (window log.place (length stands.opened) left) s
    reaches = subst (λ (l : List ℕ). Reaches (area h) following log.place log.version log.first l s) (sym opened_is) stands.reaches

    long : first_area ≤ length left
    long = omega (arith, low, far.0, long_left)

    near : log.place < length left
    near = omega (arith, far.0, long_left)

    more : log.place + length stands.opened < length left
    more = omega (arith, gate_is, is_gate, long_left, record_long)

    -- with a closed gate the log is as it was
    pub closed_gate : get_or left gate 0 ≢ open_gate → Rests s log left
    closed_gate shut =
        subst (λ (e : ℕ). Rests s (record log { log_end = e }) left) stands.long
        (rests_here head area following h front is_head left front_same long log.second selects log.place named low near log.version log.first (length stands.opened) s (omega (arith, more)) reaches more
        (subst (λ (p : ℕ). get_or left p 0 ≢ open_gate) (sym gate_is) shut))

    -- with an open one it has the record
    pub open_one : get_or left gate 0 ≡ open_gate → Rests t (log_behind log body) left
    open_one opens =
        let rest : List ℕ = drop (length (record_of body)) (drop log.log_end left) in
        let there_is : window log.log_end (length (record_of body)) left ≡ record_of body = torn_behind gate 1 there left torn log.log_end (length (record_of body)) 0 (omega (arith, is_gate)) ∙ st.there in
        let all : drop log.log_end left ≡ with_length body ++ (0 ∷ rest) =
        sym (take-append-drop (length (record_of body)) (drop log.log_end left)) ∙ ap (λ (l : List ℕ). l ++ rest) there_is ∙ append_assoc (with_length body) (0 ∷ []) rest in
        let at_gate : log.place + length stands.opened + 1 ≡ log.log_end = stands.long in
        let on = goes_on head area following h front is_head left front_same long log.second selects log.place named low near log.version log.first (length stands.opened) s (omega (arith, more)) reaches more
        (subst (λ (p : ℕ). get_or left p 0 ≡ open_gate) (sym gate_is) opens) body (0 ∷ rest) (ap (λ (p : ℕ). drop p left) at_gate ∙ all) fits t follows in
        let n = length stands.opened + 5 + length body in
        let more2 : log.place + n < length left = omega (arith, stands.long, long_left, record_long) in
        let long_with : length (with_length body) ≡ 4 + length body = omega (arith, length-append (u32 (length body)) body, length_u32 (length body)) in
        let behind : drop (log.place + n) left ≡ 0 ∷ rest =
        ap (λ (p : ℕ). drop p left) (omega (arith, stands.long)) ∙ sym (drop-drop (4 + length body) log.log_end left) ∙ ap (drop (4 + length body)) all ∙ drop_at (with_length body) (0 ∷ rest) (4 + length body) long_with in
        let last : get_or left (log.place + n) 0 ≡ 0 = ap byte_of (sym (drop_more left (log.place + n) 0 more2) ∙ behind) in
        subst (λ (e : ℕ). Rests t (record log { log_end = e }) left) (omega (arith, stands.long))
        (rests_here head area following h front is_head left front_same long log.second selects log.place named low near log.version log.first n t on.0 on.1 more2 (λ is. absurd (omega (arith, sym last ∙ is))))

    -- with any byte, the record counts or it doesn't
    pub torn_gate : Rests s log left ⊎ Rests t (log_behind log body) left
    torn_gate = elim (cases_eq (get_or left gate 0) open_gate) [
      | inl opens ↦ inr (open_one opens)
      | inr shut ↦ inl (closed_gate shut)
    ]

  -- the second write opens the gate
  pub opened_up : (t : S) (gate : ℕ) → gate + 1 ≡ log.log_end → (body there : List ℕ) → IsStaged (area h) following front s log body there → following log.version s body ≡ Some t → length body < 2 ^ 32
      → Rests t (log_behind log body) (put there gate (open_gate ∷ []))
  opened_up t gate is_gate body there st follows fits =
      let far = area_long (area h) following s log.place log.version log.first log.log_end there st.rests.ready.stands in
      let left : List ℕ = put there gate (open_gate ∷ []) in
      let torn = Torn-put there gate 1 (open_gate ∷ []) refl in
      let is : window gate 1 left ≡ open_gate ∷ [] = written gate (open_gate ∷ []) there (omega (arith, far.1, is_gate)) in
      let more : gate < length left = omega (arith, far.1, is_gate, torn.no_shorter) in
      let byte : get_or left gate 0 ≡ open_gate = ap (λ (l : List ℕ). byte_of (take 1 l)) (sym (drop_more left gate 0 more)) ∙ ap byte_of is in
      open_one t gate is_gate body there left st follows fits torn byte
