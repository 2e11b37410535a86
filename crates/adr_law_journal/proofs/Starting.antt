-- How a start reads a log.
use Rattle.std.proofs.Common.{None, Option, ◌≡◌, ◌≢◌, ℕ, suc, ◌+◌, ◌≤◌, ◌<◌, ◌^◌, List, [], ◌∷◌, ◌++◌, length, take, drop, get_or, Bool, true, false, Some, Ok, Err, refl, sym, ◌∙◌, ap, subst, arith, append_assoc, length-append, length-drop, length-take, take-append-drop, if◌then◌else◌, ◌==◌}
use Rattle.std.specs.Prelude.{nat_lt}
use Rattle.std.specs.Int.{w64, from_be_bytes}
use Rattle.std.proofs.lemmas.Bool.{le-ltb, lt-ltb}
use Rattle.std.proofs.lemmas.Bool.Decides.{nat_tests}
use Rattle.std.proofs.lemmas.List.{drop-drop, drop_more, drop_all, take_at}
use Rattle.adr_wire.specs.Reading.{Rest, Read, Reading, ◌>>=◌, bytes_at, then_at}
use Rattle.adr_wire.specs.Spelling.{behind}
use Rattle.adr_wire.specs.Fields.{byte_of, u8_at, u64_at, u32}
use Rattle.adr_law_journal.specs.Log.{Followed, Following, open_gate, body_at, with_length, found_from, or_damaged, behind_gate}
use Rattle.adr_law_journal.proofs.Logs.{length_u32, body_again, open_it, none_left, no_body}
use Rattle.adr_model.specs.Lengths.{first_area}
use Rattle.adr_law_journal.specs.Areas.{Began, Started, selector_place, slot_place, slots_at, with_log, found_in, selected, by_slots, start_of, IsHead, Reaches, window, slot_of, is_second, IsAtRest, WasArea}
use Rattle.adr_law_journal.proofs.Keeping.{told_reaches}
use Rattle.adr_law_journal.proofs.Reading.{no, yes, u8_read, u64_read, slots_read, opened_first, place_of, reaches_more}

too_short : (n : ℕ) (r : Rest) → length r.bytes < n → bytes_at n r ≡ Err r.place
too_short n r lt = yes (nat_lt (length r.bytes) n) _ _ (lt-ltb (length r.bytes) n lt)

u8_cut : (r : Rest) → length r.bytes < 1 → u8_at r ≡ Err r.place
unfolding u8_at
u8_cut r lt = ap (λ (x : Read (List ℕ)). x >>= λ y. Ok (byte_of y.0, y.1)) (too_short 1 r lt)

u64_cut : (r : Rest) → length r.bytes < 8 → u64_at r ≡ Err r.place
unfolding u64_at
u64_cut r lt = ap (λ (x : Read (List ℕ)). x >>= λ y. Ok (from_be_bytes w64 y.0, y.1)) (too_short 8 r lt)

first_fails : {A B : Type 0} (a : Reading A) (b : A → Reading B) (r : Rest) (place : ℕ) → a r ≡ Err place → then_at a b r ≡ Err place
first_fails {A} {B} a b r place fails = ap (λ (o : Read A). o >>= λ x. b x.0 x.1 >>= λ y. Ok ((x.0, y.0), y.1)) fails

second_fails : {A B : Type 0} (a : Reading A) (b : A → Reading B) (r s : Rest) (x : A) (place : ℕ) → a r ≡ Ok (x, s) → b x s ≡ Err place → then_at a b r ≡ Err place
second_fails {A} {B} a b r s x place first fails =
    ap (λ (o : Read A). o >>= λ x. b x.0 x.1 >>= λ y. Ok ((x.0, y.0), y.1)) first ∙ ap (λ (o : Read B). o >>= λ y. Ok ((x, y.0), y.1)) fails

-- selector and slots that the bytes end within
pub selector_cut : (r : Rest) → length r.bytes < 1 → slots_at r ≡ Err r.place
selector_cut r lt = first_fails u8_at (λ selector. then_at u64_at (λ zero. u64_at)) r r.place (u8_cut r lt)

pub first_slot_cut : (r : Rest) → 1 ≤ length r.bytes → length r.bytes < 9 → slots_at r ≡ Err (r.place + 1)
first_slot_cut r le lt =
    let s : Rest = record { place = r.place + 1; bytes = drop 1 r.bytes } in
    second_fails u8_at (λ selector. then_at u64_at (λ zero. u64_at)) r s _ s.place (u8_read r le) (first_fails u64_at (λ zero. u64_at) s s.place (u64_cut s (omega (arith, le, lt, length-drop 1 r.bytes))))

pub second_slot_cut : (r : Rest) → 9 ≤ length r.bytes → length r.bytes < 17 → slots_at r ≡ Err (r.place + 1 + 8)
second_slot_cut r le lt =
    let s : Rest = record { place = r.place + 1; bytes = drop 1 r.bytes } in
    let t : Rest = record { place = s.place + 8; bytes = drop 8 s.bytes } in
    second_fails u8_at (λ selector. then_at u64_at (λ zero. u64_at)) r s _ t.place (u8_read r (omega (arith, le)))
    (second_fails u64_at (λ zero. u64_at) s t _ t.place (u64_read s (omega (arith, le, length-drop 1 r.bytes)))
    (u64_cut t (omega (arith, le, lt, length-drop 1 r.bytes, length-drop 8 (drop 1 r.bytes)))))

-- an area that was read leads to its state
pub area_reached : {S : Type 0} (area : Reading (Began S)) (following : ℕ → Following S) (bytes : List ℕ) (place n : ℕ) (began : Began S) (rest : Rest) → place ≤ length bytes → WasArea area place (drop place bytes) began rest → rest.place ≡ place + n
    → (place + n ≤ length bytes) × Reaches area following place began.version (place + n) (window place n bytes) began.state
area_reached {S} area following bytes place n began rest within was is =
    let long : length was.read ≡ n = omega (arith, is, was.moved) in
    let there : window place n bytes ≡ was.read = ap (take n) was.parts ∙ take_at was.read rest.bytes n long in (
      omega (arith, within, ap length was.parts, long, length-append was.read rest.bytes, length-drop place bytes),
      subst (λ (l : List ℕ). Reaches area following place began.version (place + n) l began.state) (sym there)
          (subst (λ (k : ℕ). Reaches area following place began.version (place + k) was.read began.state) long (told_reaches area following [] place was.read began.version began.state was.tells)),
    )

module _ {H S : Type 0} (head : Reading H) (area : H → Reading (Began S)) (following : ℕ → Following S) where
  pub short : (bytes : List ℕ) → length bytes < 2 → start_of head area following bytes ≡ Err 0
  short [] lt = refl
  short (g ∷ []) lt = refl
  short (g ∷ (b ∷ l)) lt = absurd (omega arith)

  pub shut : (gate : ℕ) (rest : List ℕ) → gate ≢ open_gate → start_of head area following (gate ∷ rest) ≡ Err 0
  shut gate [] closed = refl
  shut gate (b ∷ l) closed = no (gate == open_gate) _ _ (differs gate closed)
    where
      differs : (gate : ℕ) → gate ≢ open_gate → (gate == open_gate) ≡ false
      differs gate closed = grind (arith, nat_tests)

  pub head_fails : (rest : List ℕ) (place : ℕ) → 1 ≤ length rest → head (record { place = 1; bytes = rest }) ≡ Err place → start_of head area following (open_gate ∷ rest) ≡ Err place
  head_fails rest place some fails =
      opened_first rest _ some ∙ ap (λ (x : Read H). x >>= λ h. slots_at h.1 >>= λ s. by_slots (area h.0) following (open_gate ∷ rest) s.0) fails

  module _ (h : H) (front : List ℕ) (is_head : IsHead head front h) (bytes : List ℕ) (front_is : window 0 selector_place bytes ≡ open_gate ∷ front) where
    abbrev tail : List ℕ
    tail = drop selector_place bytes

    whole : bytes ≡ open_gate ∷ (front ++ tail)
    whole = sym (take-append-drop selector_place bytes) ∙ ap (λ (l : List ℕ). l ++ tail) front_is

    abbrev slots_rest : Rest
    slots_rest = behind 1 front tail

    to_slots : start_of head area following bytes ≡ (slots_at slots_rest >>= λ s. by_slots (area h) following bytes s.0)
    to_slots =
        ap (start_of head area following) whole
        ∙ opened_first (front ++ tail) _ (omega (arith, length-append front tail, is_head.long))
        ∙ ap (λ (x : Read H). x >>= λ h. slots_at h.1 >>= λ s. by_slots (area h.0) following (open_gate ∷ (front ++ tail)) s.0) (is_head.tells tail)
        ∙ ap (λ (l : List ℕ). slots_at slots_rest >>= λ s. by_slots (area h) following l s.0) (sym whole)

    -- the file ends within the selector or a slot
    pub slots_fail : (place : ℕ) → slots_at slots_rest ≡ Err place → start_of head area following bytes ≡ Err place
    slots_fail place fails = to_slots ∙ ap (λ (x : Read (ℕ × (ℕ × ℕ))). x >>= λ s. by_slots (area h) following bytes s.0) fails

    -- what the slots select
    pub to_area : first_area ≤ length bytes → start_of head area following bytes ≡ selected (area h) following (is_second bytes) (slot_of (is_second bytes) bytes) bytes
    to_area long =
        let slots = slots_read slots_rest (omega (arith, long, length-drop selector_place bytes)) in
        let zero_is : from_be_bytes w64 (take 8 (drop 1 tail)) ≡ slot_of false bytes = ap (λ (l : List ℕ). from_be_bytes w64 (take 8 l)) (drop-drop 1 selector_place bytes) in
        let one_is : from_be_bytes w64 (take 8 (drop 9 tail)) ≡ slot_of true bytes = ap (λ (l : List ℕ). from_be_bytes w64 (take 8 l)) (drop-drop 9 selector_place bytes) in
        to_slots
        ∙ ap (λ (x : Read (ℕ × (ℕ × ℕ))). x >>= λ s. by_slots (area h) following bytes s.0) slots.1
        ∙ (λ i. selected (area h) following (is_second bytes) (if is_second bytes then one_is i else zero_is i) bytes)
        ∙ ap (λ (p : ℕ). selected (area h) following (is_second bytes) p bytes) (place_of (is_second bytes) bytes)

    -- no area can stand there
    pub too_low : first_area ≤ length bytes → slot_of (is_second bytes) bytes < first_area → start_of head area following bytes ≡ Err (slot_place (is_second bytes))
    too_low long low = to_area long ∙ yes (nat_lt (slot_of (is_second bytes) bytes) first_area) _ _ (lt-ltb (slot_of (is_second bytes) bytes) first_area low)

    pub too_far : first_area ≤ length bytes → first_area ≤ slot_of (is_second bytes) bytes → length bytes ≤ slot_of (is_second bytes) bytes → start_of head area following bytes ≡ Err (slot_place (is_second bytes))
    too_far long low far =
        to_area long
        ∙ no (nat_lt (slot_of (is_second bytes) bytes) first_area) _ _ (le-ltb (slot_of (is_second bytes) bytes) first_area low)
        ∙ no (nat_lt (slot_of (is_second bytes) bytes) (length bytes)) _ _ (le-ltb (slot_of (is_second bytes) bytes) (length bytes) far)

    module _ (long : first_area ≤ length bytes) (second : Bool) (is : is_second bytes ≡ second) (place : ℕ) (named : slot_of second bytes ≡ place) (low : first_area ≤ place) (near : place < length bytes) where
      at_area : start_of head area following bytes ≡ found_in (area h) following (length bytes) second (record { place = place; bytes = drop place bytes })
      at_area =
          to_area long
          ∙ ap (λ (b : Bool). selected (area h) following b (slot_of b bytes) bytes) is
          ∙ ap (λ (p : ℕ). selected (area h) following second p bytes) named
          ∙ no (nat_lt place first_area) _ _ (le-ltb place first_area low)
          ∙ yes (nat_lt place (length bytes)) _ _ (lt-ltb place (length bytes) near)

      pub area_fails : (p : ℕ) → area h (record { place = place; bytes = drop place bytes }) ≡ Err p → start_of head area following bytes ≡ Err p
      area_fails p fails =
          at_area
          ∙ ap (λ (x : Read (Began S)). x >>= λ a. found_from (following a.0.version) (length bytes) a.0.state a.1.place a.1.bytes >>= λ f. Ok (with_log second place a.0.version a.1.place f)) fails

      -- records are read from the area's first gate on: so far, to this state
      module _ (version first m : ℕ) (s : S) (within : place + m ≤ length bytes) (reaches : Reaches (area h) following place version first (window place m bytes) s) where
        size : length (window place m bytes) ≡ m
        size = length-take m (drop place bytes) ∙ omega (arith, within, length-drop place bytes)

        abbrev go : Followed S → Started S
        go x = x >>= λ f. Ok (with_log second place version first f)

        abbrev later : List ℕ
        later = drop (place + m) bytes

        from_here : (n : ℕ) → length later ≤ n → start_of head area following bytes ≡ go (found_from (following version) n s (place + m) later)
        from_here n le =
            at_area
            ∙ ap (λ (l : List ℕ). found_in (area h) following (length bytes) second (record { place = place; bytes = l })) (sym (take-append-drop m (drop place bytes)) ∙ ap (λ (l : List ℕ). window place m bytes ++ l) (drop-drop m place bytes))
            ∙ reaches second later (length bytes) n (omega (arith, size, within, length-drop (place + m) bytes)) le
            ∙ ap go (ap (λ (k : ℕ). found_from (following version) n s (place + k) later) size)

        -- the file ends where a gate is due
        pub ends_here : place + m ≡ length bytes → start_of head area following bytes ≡ Err (place + m)
        ends_here at_end =
            from_here 0 (omega (arith, at_end, length-drop (place + m) bytes))
            ∙ ap go (ap (λ (l : List ℕ). found_from (following version) 0 s (place + m) l) (drop_all (place + m) bytes (omega (arith, at_end))) ∙ none_left (following version) 0 s (place + m))

        module _ (more : place + m < length bytes) where
          split : later ≡ get_or bytes (place + m) 0 ∷ drop (place + m + 1) bytes
          split = drop_more bytes (place + m) 0 more

          -- a closed gate: the log is at rest
          pub rests_here : get_or bytes (place + m) 0 ≢ open_gate
              → IsAtRest (area h) following front s (record { second = second; place = place; version = version; first = first; log_end = place + m + 1 }) bytes
          rests_here closed = record {
            ready = record {
              front_is = front_is;
              named = named;
              low = low;
              stands = record {
                opened = window place m bytes;
                gate = get_or bytes (place + m) 0;
                parts = ap (λ (k : ℕ). window place (k + 1) bytes) size ∙ one_more;
                closed = closed;
                long = ap (λ (k : ℕ). place + k + 1) size;
                reaches = reaches;
              };
            };
            selects = is;
          }
            where
              one_more : window place (m + 1) bytes ≡ window place m bytes ++ get_or bytes (place + m) 0 ∷ []
              one_more =
                  ap (take (m + 1)) (sym (take-append-drop m (drop place bytes)) ∙ ap (λ (l : List ℕ). window place m bytes ++ l) (drop-drop m place bytes ∙ split) ∙ sym (append_assoc (window place m bytes) (get_or bytes (place + m) 0 ∷ []) (drop (place + m + 1) bytes)))
                  ∙ take_at (window place m bytes ++ get_or bytes (place + m) 0 ∷ []) (drop (place + m + 1) bytes) (m + 1) (omega (arith, size, length-append (window place m bytes) (get_or bytes (place + m) 0 ∷ [])))

          -- an open one without a whole body behind it
          pub no_body_here : (p : ℕ) → get_or bytes (place + m) 0 ≡ open_gate → body_at (record { place = place + m + 1; bytes = drop (place + m + 1) bytes }) ≡ Err p → start_of head area following bytes ≡ Err (place + m)
          no_body_here p opens fails =
              from_here (suc (length bytes)) (omega (arith, length-drop (place + m) bytes))
              ∙ ap go (ap (λ (l : List ℕ). found_from (following version) (suc (length bytes)) s (place + m) l) split ∙ no_body (following version) (length bytes) s (place + m) (get_or bytes (place + m) 0) (drop (place + m + 1) bytes) p opens fails)

          -- one whose body can't follow
          pub stops_here : (body rest : List ℕ) → get_or bytes (place + m) 0 ≡ open_gate → drop (place + m + 1) bytes ≡ with_length body ++ rest → length body < 2 ^ 32 → following version s body ≡ None → start_of head area following bytes ≡ Err (place + m)
          stops_here body rest opens there fits none_is =
              let f = following version in
              let gate = get_or bytes (place + m) 0 in
              from_here (suc (length bytes)) (omega (arith, length-drop (place + m) bytes))
              ∙ ap go (ap (λ (l : List ℕ). found_from f (suc (length bytes)) s (place + m) l) (split ∙ ap (λ (l : List ℕ). gate ∷ l) there)
              ∙ open_it f (length bytes) s (place + m) gate (with_length body ++ rest) opens
              ∙ ap (λ (b : Read (ℕ × List ℕ)). behind_gate f s (place + m) b (λ t p bs. found_from f (length bytes) t p bs)) (body_again f (place + m + 1) body rest fits)
              ∙ ap (λ (o : Option S). or_damaged (place + m) o (λ t. found_from f (length bytes) t (place + m + 1 + length (with_length body)) rest)) none_is)

          -- one that is passed
          module _ (opens : get_or bytes (place + m) 0 ≡ open_gate) (body rest : List ℕ) (there : drop (place + m + 1) bytes ≡ with_length body ++ rest) (fits : length body < 2 ^ 32) (t : S) (follows : following version s body ≡ Some t) where
            pub goes_on : (place + (m + 5 + length body) ≤ length bytes) × Reaches (area h) following place version first (window place (m + 5 + length body) bytes) t
            goes_on =
                let front_bytes : List ℕ = window place m bytes ++ open_gate ∷ with_length body in
                let n = m + 5 + length body in
                let long_front : length front_bytes ≡ n = omega (arith, size, length-append (window place m bytes) (open_gate ∷ with_length body), length-append (u32 (length body)) body, length_u32 (length body)) in
                let all : drop place bytes ≡ front_bytes ++ rest =
                sym (take-append-drop m (drop place bytes)) ∙ ap (λ (l : List ℕ). window place m bytes ++ l) (drop-drop m place bytes ∙ split ∙ (λ i. opens i ∷ there i)) ∙ sym (append_assoc (window place m bytes) (open_gate ∷ with_length body) rest) in
                let taken : window place n bytes ≡ front_bytes = ap (take n) all ∙ take_at front_bytes rest n long_front in (
                  omega (arith, near, ap length all, length-append front_bytes rest, long_front, length-drop place bytes),
                  subst (λ (l : List ℕ). Reaches (area h) following place version first l t) (sym taken) (reaches_more (area h) following place version first (window place m bytes) body s t reaches follows fits),
                )
