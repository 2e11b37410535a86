-- What a checkpoint leaves of a log, whatever crashes within it.
use Rattle.std.proofs.Common.{◌≡◌, ◌⊎◌, inl, inr, ⊎_elim, ℕ, ◌+◌, ◌-◌, ◌≤◌, ◌<◌, ◌^◌, List, [], ◌∷◌, ◌++◌, length, Bool, true, false, Ok, refl, sym, ◌∙◌, ap, subst, arith, length-append, ◌==◌}
use Rattle.std.specs.Prelude.{not}
use Rattle.std.specs.Int.{w64, from_be_bytes}
use Rattle.std.proofs.lemmas.Nat.{from_be_bytes-to_be_bytes_8}
use Rattle.adr_disk.specs.Disk.{put, Torn}
use Rattle.adr_disk.proofs.Bytes.{Torn-put}
use Rattle.adr_wire.specs.Reading.{Read, Reading, ◌>>=◌}
use Rattle.adr_wire.specs.Fields.{byte_of, u64}
use Rattle.adr_law_journal.specs.Log.{Followed, Following, found_from}
use Rattle.adr_law_journal.proofs.Logs.{same_found}
use Rattle.adr_model.specs.Lengths.{Log, first_area}
use Rattle.adr_law_journal.specs.Areas.{Began, selects_second, selector_place, slot_place, with_log, IsHead, Reaches, window, IsArea, is_second, IsReady, IsAtRest, IsFree, TellsArea, other_log}
use Rattle.adr_law_journal.proofs.Windows.{torn_before, torn_behind, written}
use Rattle.adr_law_journal.proofs.Reading.{area_long}

-- a slot stands between the selector and the areas
pub slot_low : (second : Bool) → (40 ≤ slot_place second) × (slot_place second + 8 ≤ first_area)
slot_low true = (omega arith, omega arith)
slot_low false = (omega arith, omega arith)

-- and beside the other one
pub slots_apart : (second : Bool) → ((slot_place second + 8 ≤ slot_place (not second)) ⊎ (slot_place (not second) + 8 ≤ slot_place second))
slots_apart true = inr (omega arith)
slots_apart false = inl (omega arith)

-- a place in a slot
pub long_u64 : (n : ℕ) → length (u64 n) ≡ 8
unfolding u64
long_u64 n = refl

slot_written : (at place : ℕ) (bytes : List ℕ) → at ≤ length bytes → window at 8 (put bytes at (u64 place)) ≡ u64 place
slot_written at place bytes within = subst (λ (n : ℕ). window at n (put bytes at (u64 place)) ≡ u64 place) (long_u64 place) (written at (u64 place) bytes within)

pub number_again : (n : ℕ) → n < 2 ^ 64 → from_be_bytes w64 (u64 n) ≡ n
unfolding u64
number_again n lt = from_be_bytes-to_be_bytes_8 n lt

module _ {S : Type 0} (area : Reading (Began S)) (following : ℕ → Following S) (front : List ℕ) where
  area_as : (s : S) (place version first log_end : ℕ) (old new : List ℕ) (is : IsArea area following s place version first log_end old) → window place (length is.opened + 1) new ≡ window place (length is.opened + 1) old → IsArea area following s place version first log_end new
  area_as s place version first log_end old new is same = record {
    opened = is.opened;
    gate = is.gate;
    parts = same ∙ is.parts;
    closed = is.closed;
    long = is.long;
    reaches = is.reaches;
  }

  module _ (s : S) (log : Log) (old new : List ℕ) (there : IsReady area following front s log old) where
    long_enough : (first_area < length old) × (log.log_end ≤ length old)
    long_enough = let far = area_long area following s log.place log.version log.first log.log_end old there.stands in let low = there.low in (omega (arith, low, far.0, far.1), far.1)

    ready_as : window 0 selector_place new ≡ window 0 selector_place old → window (slot_place log.second) 8 new ≡ window (slot_place log.second) 8 old
        → window log.place (length there.stands.opened + 1) new ≡ window log.place (length there.stands.opened + 1) old → IsReady area following front s log new
    ready_as front_same slot_same area_same = record {
      front_is = front_same ∙ there.front_is;
      named = ap (from_be_bytes w64) slot_same ∙ there.named;
      low = there.low;
      stands = area_as s log.place log.version log.first log.log_end old new there.stands area_same;
    }

    -- a new area is written where it is free
    pub ready_area : (place n : ℕ) → IsFree log place n → Torn place n old new → IsReady area following front s log new
    ready_area place n free torn =
        let is = there.stands in
        let low = there.low in
        let slot = slot_low log.second in
        let long = long_enough in
        let starts : first_area ≤ place = ⊎_elim (λ at_end. omega (arith, at_end, is.long, low)) (λ before. before.0) free in
        let within : place ≤ length old = ⊎_elim (λ at_end. omega (arith, at_end, long.1)) (λ before. omega (arith, before.1, is.long, long.1)) free in
        ready_as
        (torn_before place n old new torn 0 selector_place within (omega (arith, starts)))
        (torn_before place n old new torn (slot_place log.second) 8 within (omega (arith, starts, slot.1)))
        (⊎_elim (λ at_end. torn_before place n old new torn log.place (length is.opened + 1) within (omega (arith, at_end, is.long)))
        (λ before. torn_behind place n old new torn log.place (length is.opened + 1) (log.place - (place + n)) (omega (arith, before.1))) free)

    -- the other slot is written
    pub ready_slot : Torn (slot_place (not log.second)) 8 old new → IsReady area following front s log new
    ready_slot torn =
        let is = there.stands in
        let low = there.low in
        let other = slot_low (not log.second) in
        let long = long_enough in
        let at = slot_place (not log.second) in
        let within : at ≤ length old = omega (arith, other.1, long.0) in
        ready_as
        (torn_before at 8 old new torn 0 selector_place within (omega (arith, other.0)))
        (⊎_elim (λ below. torn_before at 8 old new torn (slot_place log.second) 8 within below)
        (λ above. torn_behind at 8 old new torn (slot_place log.second) 8 (slot_place log.second - (at + 8)) (omega (arith, above))) (slots_apart log.second))
        (torn_behind at 8 old new torn log.place (length is.opened + 1) (log.place - (at + 8)) (omega (arith, other.1, low)))

    -- the selector is written
    pub ready_selector : Torn selector_place 1 old new → IsReady area following front s log new
    ready_selector torn =
        let is = there.stands in
        let low = there.low in
        let slot = slot_low log.second in
        let long = long_enough in
        ready_as
        (torn_before selector_place 1 old new torn 0 selector_place (omega (arith, long.0)) (omega arith))
        (torn_behind selector_place 1 old new torn (slot_place log.second) 8 (slot_place log.second - 40) (omega (arith, slot.0)))
        (torn_behind selector_place 1 old new torn log.place (length is.opened + 1) (log.place - 40) (omega (arith, low)))

    -- what is written behind the selector selects as before
    pub selects_behind : (at n : ℕ) → 40 ≤ at → at ≤ length old → Torn at n old new → is_second old ≡ log.second → is_second new ≡ log.second
    selects_behind at n le within torn is = ap (λ (l : List ℕ). byte_of l == selects_second) (torn_before at n old new torn selector_place 1 within (omega (arith, le))) ∙ is

  -- ---- the new area

  -- an area's bytes with its closed gate lead to its state
  pub told_reaches : (place : ℕ) (l : List ℕ) (version : ℕ) (s : S) → TellsArea area place l version s → Reaches area following place version (place + length l) l s
  told_reaches place l version s tells = λ second rest n m le fits.
      ap (λ (x : Read (Began S)). x >>= λ a. found_from (following a.0.version) n a.0.state a.1.place a.1.bytes >>= λ f. Ok (with_log second place a.0.version a.1.place f)) (tells rest)
      ∙ ap (λ (x : Followed S). x >>= λ f. Ok (with_log second place version (place + length l) f)) (same_found (following version) n m s (place + length l) rest (omega (arith, le)) fits)

  module _ (s t : S) (log : Log) (place version : ℕ) (l there : List ℕ) (ready : IsReady area following front s log there) (free : IsFree log place (length l + 1)) (tells : TellsArea area place l version t) where
    abbrev new_log : Log
    new_log = other_log log place version (length l)

    abbrev with_area : List ℕ
    with_area = put there place (l ++ 0 ∷ [])

    abbrev with_slot : List ℕ
    with_slot = put with_area (slot_place new_log.second) (u64 place)

    size : length (l ++ 0 ∷ []) ≡ length l + 1
    size = length-append l (0 ∷ [])

    place_low : (first_area ≤ place) × (place ≤ length there)
    place_low =
        let low = ready.low in
        let is = ready.stands in
        let far = area_long area following s log.place log.version log.first log.log_end there is in (
          ⊎_elim (λ at_end. omega (arith, at_end, is.long, low)) (λ before. before.0) free,
          ⊎_elim (λ at_end. omega (arith, at_end, far.1)) (λ before. omega (arith, before.1, is.long, far.1)) free,
        )

    torn_area : Torn place (length l + 1) there with_area
    torn_area = Torn-put there place (length l + 1) (l ++ 0 ∷ []) size

    old_stays : IsReady area following front s log with_area
    old_stays = ready_area s log there with_area ready place (length l + 1) free torn_area

    torn_slot : Torn (slot_place new_log.second) 8 with_area with_slot
    torn_slot = Torn-put with_area (slot_place new_log.second) 8 (u64 place) (long_u64 place)

    -- with both, each slot names an area
    pub both_ready : place < 2 ^ 64 → IsReady area following front s log with_slot × IsReady area following front t new_log with_slot
    both_ready fits =
        let slot = slot_low new_log.second in
        let at = slot_place new_log.second in
        let old = ready_slot s log with_area with_slot old_stays torn_slot in
        let far = area_long area following s log.place log.version log.first log.log_end with_area old_stays.stands in
        let low = ready.low in
        let within : at ≤ length with_area = omega (arith, slot.1, far.0, far.1, low) in
        let area_is : window place (length l + 1) with_slot ≡ l ++ 0 ∷ [] =
        torn_behind at 8 with_area with_slot torn_slot place (length l + 1) (place - (at + 8)) (omega (arith, slot.1, place_low.0))
        ∙ ap (λ (n : ℕ). window place n with_area) (sym size) ∙ written place (l ++ 0 ∷ []) there place_low.1 in (
          old,
          record {
            front_is = old.front_is;
            named = ap (from_be_bytes w64) (slot_written at place with_area within) ∙ number_again place fits;
            low = place_low.0;
            stands = record {
              opened = l;
              gate = 0;
              parts = area_is;
              closed = omega arith;
              long = refl;
              reaches = told_reaches place l version t tells;
            };
          },
        )

-- ---- the calls of a checkpoint

same_or_other : (b c : Bool) → (b ≡ c) ⊎ (b ≡ not c)
same_or_other true true = inl refl
same_or_other true false = inr refl
same_or_other false true = inr refl
same_or_other false false = inl refl

module _ {H S : Type 0} (head : Reading H) (area : H → Reading (Began S)) (following : ℕ → Following S) (front : List ℕ) (h : H) (is_head : IsHead head front h) (s : S) (log : Log) where
  abbrev IsThere : Log → List ℕ → Type 0
  IsThere log bytes = IsAtRest (area h) following front s log bytes

  -- whatever a crash leaves of the new area, the log is as it was
  pub torn_new_area : (place n : ℕ) (there left : List ℕ) → IsThere log there → IsFree log place n → Torn place n there left → IsThere log left
  torn_new_area place n there left is free torn =
      let low = is.ready.low in
      let far = area_long (area h) following s log.place log.version log.first log.log_end there is.ready.stands in
      record {
        ready = ready_area (area h) following front s log there left is.ready place n free torn;
        selects = selects_behind (area h) following front s log there left is.ready place n
            (⊎_elim (λ at_end. omega (arith, at_end, far.0, low)) (λ before. omega (arith, before.0)) free)
            (⊎_elim (λ at_end. omega (arith, at_end, far.1)) (λ before. omega (arith, before.1, far.0, far.1)) free) torn is.selects;
      }

  -- and of the slot that isn't selected
  pub torn_other_slot : (there left : List ℕ) → IsThere log there → Torn (slot_place (not log.second)) 8 there left → IsThere log left
  torn_other_slot there left is torn =
      let low = is.ready.low in
      let far = area_long (area h) following s log.place log.version log.first log.log_end there is.ready.stands in
      let other = slot_low (not log.second) in
      record {
        ready = ready_slot (area h) following front s log there left is.ready torn;
        selects = selects_behind (area h) following front s log there left is.ready (slot_place (not log.second)) 8 other.0 (omega (arith, other.1, far.0, far.1, low)) torn is.selects;
      }

  -- where both slots name areas of one state, a log is there whatever the selector is
  pub torn_selector : (other : Log) (there left : List ℕ) → other.second ≡ not log.second → IsReady (area h) following front s log there → IsReady (area h) following front s other there
      → Torn selector_place 1 there left → IsThere log left ⊎ IsThere other left
  torn_selector other there left is_other ready ready_other torn =
      let here = ready_selector (area h) following front s log there left ready torn in
      let there_too = ready_selector (area h) following front s other there left ready_other torn in ⊎_elim
      (λ same. inl (record { ready = here; selects = same }))
      (λ changed. inr (record { ready = there_too; selects = changed ∙ sym is_other }))
      (same_or_other (is_second left) log.second)

  -- the selector that selects a slot
  pub put_selector : (other : Log) (there : List ℕ) (selector : ℕ) → (selector == selects_second) ≡ other.second → IsReady (area h) following front s other there
      → IsThere other (put there selector_place (selector ∷ []))
  put_selector other there selector selects ready =
      let low = ready.low in
      let far = area_long (area h) following s other.place other.version other.first other.log_end there ready.stands in
      let torn = Torn-put there selector_place 1 (selector ∷ []) refl in
      record {
        ready = ready_selector (area h) following front s other there (put there selector_place (selector ∷ [])) ready torn;
        selects = ap (λ (l : List ℕ). byte_of l == selects_second) (written selector_place (selector ∷ []) there (omega (arith, low, far.0, far.1))) ∙ selects;
      }
