-- What a start has read, step by step, and damage that was found.
use Rattle.std.proofs.Common.{◌≡◌, ◌≢◌, ℕ, ◌+◌, ◌≤◌, ◌<◌, ◌^◌, List, [], ◌∷◌, ◌++◌, length, take, drop, get_or, Bool, Some, None, Err, refl, sym, ◌∙◌, ap, subst, arith, append_assoc, get_or-drop, length-drop, ◌==◌}
use Rattle.std.specs.Int.{w64, from_be_bytes}
use Rattle.std.proofs.lemmas.List.{drop_more}
use Rattle.adr_wire.specs.Fields.{byte_of, u32}
use Rattle.adr_wire.specs.Reading.{Rest, Reading}
use Rattle.adr_wire.specs.Spelling.{AreBytes, behind}
use Rattle.adr_wire.proofs.Combining.{rest_bytes, spelled_bytes}
use Rattle.adr_model.specs.Store.{State}
use Rattle.adr_model.specs.Lengths.{first_area}
use Rattle.adr_law_journal.specs.Log.{Following, open_gate, body_at, with_length}
use Rattle.adr_law_journal.specs.Areas.{Began, Reaches, Started, start_of, slots_at, selector_place, slot_place, selects_second, slot_of, is_second, window, IsHead, WasArea, IsAtRest}
use Rattle.adr_law_journal.specs.Begun.{IsNamed}
use Rattle.adr_law_journal.proofs.Starting.{short, shut, head_fails, selector_cut, first_slot_cut, second_slot_cut, slots_fail, too_low, too_far, area_fails, area_reached, ends_here, rests_here, no_body_here, stops_here, goes_on}
use Rattle.adr_journal.specs.Ended.{IsDamageOf}
use Rattle.adr_journal.specs.Kept.{ids_of}
use Rattle.adr_journal.specs.Reached.{IsOwned, IsReached, IsLog}
use Rattle.adr_journal.specs.declared.keeper.StartRefusal.{StartRefusal}
use Rattle.adr_journal.specs.declared.keeper.StartRefusal.TheVariants.{Damaged}

pub damage_at : (e : StartRefusal) (place : ℕ) (t : Started State) → e ≡ Damaged place → t ≡ Err place → IsDamageOf e (Some t)
damage_at e place t is damaged = subst (λ (e : StartRefusal). IsDamageOf e (Some t)) (sym is) damaged

-- ---- bytes of bytes

pub dropped_bytes : (bytes : List ℕ) (n : ℕ) → AreBytes bytes → AreBytes (drop n bytes)
dropped_bytes bytes n are i = subst (λ (b : ℕ). b < 256) (sym (get_or-drop n bytes i 0)) (are (n + i))

-- a body that stands behind its length is made of bytes
pub body_bytes : (bytes body : List ℕ) (n : ℕ) → AreBytes bytes → drop n bytes ≡ with_length body ++ drop (4 + length body) (drop n bytes) → AreBytes body
body_bytes bytes body n are is =
    let after = drop (4 + length body) (drop n bytes) in
    let behind : AreBytes (body ++ after) =
    rest_bytes {X = List ℕ} (λ b. Unit {0}) (λ b. u32 (length b)) 0 (drop n bytes) body (record { place = length (u32 (length body)); bytes = body ++ after })
    (record { in_range = tt; spelled_so = is ∙ append_assoc (u32 (length body)) body after; moved = omega arith }) (dropped_bytes bytes n are)
    in
    spelled_bytes {X = List ℕ} (λ b. Unit {0}) (λ b. b) 0 (body ++ after) body (record { place = length body; bytes = after })
    (record { in_range = tt; spelled_so = refl; moved = omega arith }) behind

-- ---- the selector and the slots

-- a byte is the whole of its window
pub one_byte : (bytes : List ℕ) (place : ℕ) → place < length bytes → byte_of (window place 1 bytes) ≡ get_or bytes place 0
one_byte bytes place lt = ap (λ (l : List ℕ). byte_of (take 1 l)) (drop_more bytes place 0 lt)

pub selects_so : (bytes : List ℕ) (second : Bool) → selector_place < length bytes → second ≡ (get_or bytes selector_place 0 == selects_second) → is_second bytes ≡ second
selects_so bytes second lt is = ap (λ (b : ℕ). b == selects_second) (one_byte bytes selector_place lt) ∙ sym is

pub slot_holds : (bytes : List ℕ) (second : Bool) (slot place : ℕ) → slot ≡ slot_place second → place ≡ from_be_bytes w64 (window slot 8 bytes) → slot_of second bytes ≡ place
slot_holds bytes second slot place is holds = ap (λ (n : ℕ). from_be_bytes w64 (window n 8 bytes)) (sym is) ∙ sym holds

module _ (head : Reading (List ℕ × List ℕ)) (area : List ℕ × List ℕ → Reading (Began State)) (following : ℕ → Following State) (bytes : List ℕ) where
  abbrev starts : Started State
  starts = start_of head area following bytes

  -- ---- the first gate, and the head

  pub short_at_0 : length bytes < 2 → starts ≡ Err 0
  short_at_0 lt = short head area following bytes lt

  pub wrong_at_0 : get_or bytes 0 0 ≢ open_gate → starts ≡ Err 0
  wrong_at_0 closed = by bytes closed
    where
      by : (bytes : List ℕ) → get_or bytes 0 0 ≢ open_gate → start_of head area following bytes ≡ Err 0
      by [] closed = refl
      by (gate ∷ rest) closed = shut head area following gate rest closed

  pub no_head : (place : ℕ) → 2 ≤ length bytes → get_or bytes 0 0 ≡ open_gate → head (record { place = 1; bytes = drop 1 bytes }) ≡ Err place → starts ≡ Err place
  no_head place long is fails =
      ap (start_of head area following) (drop_more bytes 0 0 (omega (arith, long)) ∙ ap (λ (g : ℕ). g ∷ drop 1 bytes) is)
      ∙ head_fails head area following (drop 1 bytes) place (omega (arith, long, length-drop 1 bytes)) fails

  pub owned : (o : List ℕ × List ℕ) → 2 ≤ length bytes → get_or bytes 0 0 ≡ open_gate → IsHead head (take 38 (drop 1 bytes)) o → IsOwned head o bytes
  owned o long is is_head = record {
    front = take 38 (drop 1 bytes);
    is_head = is_head;
    has_front = ap (take 39) (drop_more bytes 0 0 (omega (arith, long))) ∙ ap (λ (g : ℕ). g ∷ take 38 (drop 1 bytes)) is;
  }

  -- ---- the selected area

  module _ (o : List ℕ × List ℕ) (is_owned : IsOwned head o bytes) where
    abbrev front : List ℕ
    front = is_owned.front

    abbrev slots_rest : Rest
    slots_rest = behind 1 front (drop selector_place bytes)

    long_rest : length slots_rest.bytes + 0 ≡ length (drop selector_place bytes)
    long_rest = omega arith

    at_place : 1 + length front ≡ 39
    at_place = omega (arith, is_owned.is_head.long)

    slots_cut : (place : ℕ) → slots_at slots_rest ≡ Err place → starts ≡ Err place
    slots_cut place fails = slots_fail head area following o front is_owned.is_head bytes is_owned.has_front place fails

    pub ends_in_selector : length bytes < 40 → starts ≡ Err 39
    ends_in_selector lt = slots_cut (1 + length front) (selector_cut slots_rest (omega (arith, lt, length-drop selector_place bytes))) ∙ ap (λ (n : ℕ). let x : Started State = Err n in x) at_place

    pub ends_in_first : 40 ≤ length bytes → length bytes < 48 → starts ≡ Err 40
    ends_in_first le lt =
        slots_cut (1 + length front + 1) (first_slot_cut slots_rest (omega (arith, le, length-drop selector_place bytes)) (omega (arith, lt, length-drop selector_place bytes)))
        ∙ ap (λ (n : ℕ). let x : Started State = Err (n + 1) in x) at_place

    pub ends_in_second : 48 ≤ length bytes → length bytes < 56 → starts ≡ Err 48
    ends_in_second le lt =
        slots_cut (1 + length front + 1 + 8) (second_slot_cut slots_rest (omega (arith, le, length-drop selector_place bytes)) (omega (arith, lt, length-drop selector_place bytes)))
        ∙ ap (λ (n : ℕ). let x : Started State = Err (n + 1 + 8) in x) at_place

    module _ (long : first_area ≤ length bytes) (second : Bool) (is : is_second bytes ≡ second) where
      at_slot : (place : ℕ) → slot_of second bytes ≡ place → slot_of (is_second bytes) bytes ≡ place
      at_slot place named = ap (λ (b : Bool). slot_of b bytes) is ∙ named

      slot_is : (t : Started State) → t ≡ Err (slot_place (is_second bytes)) → t ≡ Err (slot_place second)
      slot_is t damaged = damaged ∙ ap (λ (b : Bool). let x : Started State = Err (slot_place b) in x) is

      at_slot_place : (slot : ℕ) (t : Started State) → slot ≡ slot_place second → t ≡ Err (slot_place second) → t ≡ Err slot
      at_slot_place slot t is damaged = damaged ∙ ap (λ (n : ℕ). let x : Started State = Err n in x) (sym is)

      pub named_low : (slot place : ℕ) → slot ≡ slot_place second → slot_of second bytes ≡ place → place < first_area → starts ≡ Err slot
      named_low slot place at named low = at_slot_place slot starts at (slot_is starts (too_low head area following o front is_owned.is_head bytes is_owned.has_front long (omega (arith, at_slot place named, low))))

      pub named_far : (slot place : ℕ) → slot ≡ slot_place second → slot_of second bytes ≡ place → first_area ≤ place → length bytes ≤ place → starts ≡ Err slot
      named_far slot place at named low far = at_slot_place slot starts at (slot_is starts (too_far head area following o front is_owned.is_head bytes is_owned.has_front long (omega (arith, at_slot place named, low)) (omega (arith, at_slot place named, far))))

    module _ (second : Bool) (place : ℕ) (is : IsNamed second place bytes) where
      pub no_area : (fault : ℕ) → area o (record { place = place; bytes = drop place bytes }) ≡ Err fault → starts ≡ Err fault
      no_area fault fails = area_fails head area following o front is_owned.is_head bytes is_owned.has_front is.long second is.selects place is.named is.low is.near fault fails

      pub begins : (began : Began State) (first : ℕ) → WasArea (area o) place (drop place bytes) began (record { place = first; bytes = drop first bytes }) → ids_of began.state ≡ o
          → IsReached head area following second place began.version first first bytes began.state
      begins began first was ids =
          let n = length was.read in
          let first_is : first ≡ place + n = was.moved in
          let near = is.near in
          let read = area_reached (area o) following bytes place n began (record { place = first; bytes = drop first bytes }) (omega (arith, near)) was was.moved in
          record {
            owned = subst (λ (o : List ℕ × List ℕ). IsOwned head o bytes) (sym ids) is_owned;
            named = is;
            past = n;
            gate_is = sym first_is;
            behind = omega arith;
            within = omega (arith, first_is, read.0);
            reaches = subst (λ (k : ℕ). Reaches (area (ids_of began.state)) following place began.version k (window place n bytes) began.state) (sym first_is)
                (subst (λ (o : List ℕ × List ℕ). Reaches (area o) following place began.version (place + n) (window place n bytes) began.state) (sym ids) read.1);
          }

  -- ---- records

  module _ (second : Bool) (place version first gate : ℕ) (s : State) (r : IsReached head area following second place version first gate bytes s) where
    abbrev is_gate : place + r.past ≡ gate
    is_gate = r.gate_is

    within : place + r.past ≤ length bytes
    within = omega (arith, r.gate_is, r.within)

    gate_damaged : (t : Started State) → t ≡ Err (place + r.past) → t ≡ Err gate
    gate_damaged t damaged = damaged ∙ ap (λ (n : ℕ). let x : Started State = Err n in x) is_gate

    pub ends : gate ≡ length bytes → starts ≡ Err gate
    ends at_end =
        gate_damaged starts (ends_here head area following (ids_of s) r.owned.front r.owned.is_head bytes r.owned.has_front r.named.long second r.named.selects place r.named.named r.named.low r.named.near version first r.past s within r.reaches
        (is_gate ∙ at_end))

    module _ (more : gate < length bytes) where
      near : place + r.past < length bytes
      near = omega (arith, r.gate_is, more)

      at_gate : (P : ℕ → Type 0) → P (get_or bytes gate 0) → P (get_or bytes (place + r.past) 0)
      at_gate P p = subst (λ (n : ℕ). P (get_or bytes n 0)) (sym is_gate) p

      pub rests : get_or bytes gate 0 ≢ open_gate → IsLog head area following bytes s (record { second = second; place = place; version = version; first = first; log_end = gate + 1 })
      rests closed = record {
        front = r.owned.front;
        is_head = r.owned.is_head;
        rests = subst (λ (n : ℕ). IsAtRest (area (ids_of s)) following r.owned.front s (record { second = second; place = place; version = version; first = first; log_end = n + 1 }) bytes) is_gate
            (rests_here head area following (ids_of s) r.owned.front r.owned.is_head bytes r.owned.has_front r.named.long second r.named.selects place r.named.named r.named.low r.named.near version first r.past s within r.reaches near
            (at_gate (λ (b : ℕ). b ≢ open_gate) closed));
      }

      module _ (opens : get_or bytes gate 0 ≡ open_gate) where
        opens_there : get_or bytes (place + r.past) 0 ≡ open_gate
        opens_there = at_gate (λ (b : ℕ). b ≡ open_gate) opens

        pub no_body : (fault : ℕ) → body_at (record { place = gate + 1; bytes = drop (gate + 1) bytes }) ≡ Err fault → starts ≡ Err gate
        no_body fault fails =
            gate_damaged starts (no_body_here head area following (ids_of s) r.owned.front r.owned.is_head bytes r.owned.has_front r.named.long second r.named.selects place r.named.named r.named.low r.named.near version first r.past s within r.reaches near
            fault opens_there (ap (λ (n : ℕ). body_at (record { place = n + 1; bytes = drop (n + 1) bytes })) is_gate ∙ fails))

        module _ (body : List ℕ) (there : drop (gate + 1) bytes ≡ with_length body ++ drop (4 + length body) (drop (gate + 1) bytes)) (fits : length body < 2 ^ 32) where
          abbrev rest : List ℕ
          rest = drop (4 + length body) (drop (gate + 1) bytes)

          stands : drop (place + r.past + 1) bytes ≡ with_length body ++ rest
          stands = ap (λ (n : ℕ). drop (n + 1) bytes) is_gate ∙ there

          pub stops : following version s body ≡ None → starts ≡ Err gate
          stops none =
              gate_damaged starts (stops_here head area following (ids_of s) r.owned.front r.owned.is_head bytes r.owned.has_front r.named.long second r.named.selects place r.named.named r.named.low r.named.near version first r.past s within r.reaches near
              body rest opens_there stands fits none)

          pub further : (t : State) → following version s body ≡ Some t → ids_of t ≡ ids_of s → IsReached head area following second place version first (gate + 5 + length body) bytes t
          further t follows ids =
              let on = goes_on head area following (ids_of s) r.owned.front r.owned.is_head bytes r.owned.has_front r.named.long second r.named.selects place r.named.named r.named.low r.named.near version first r.past s within r.reaches near
              opens_there body rest stands fits t follows in
              record {
                owned = subst (λ (o : List ℕ × List ℕ). IsOwned head o bytes) (sym ids) r.owned;
                named = r.named;
                past = r.past + 5 + length body;
                gate_is = omega (arith, r.gate_is);
                behind = omega (arith, r.behind);
                within = omega (arith, on.0, r.gate_is);
                reaches = subst (λ (o : List ℕ × List ℕ). Reaches (area o) following place version first (window place (r.past + 5 + length body) bytes) t) (sym ids) on.1;
              }
