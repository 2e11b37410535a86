-- A gate holds what stands behind it.
use Rattle.std.proofs.Common.{◌≡◌, ◌≢◌, ◌⊎◌, inl, inr, ℕ, ◌+◌, ◌≤◌, ◌<◌, List, [], ◌∷◌, ◌++◌, length, take, drop, get_or, refl, sym, ◌∙◌, ap, subst, arith, append_assoc, take-append-drop, ◌==◌}
use Rattle.std.specs.Int.{w64, from_be_bytes}
use Rattle.std.proofs.lemmas.List.{drop_more, take_at, take-take, length-take-le}
use Rattle.std.proofs.lemmas.Bool.{cases_eq}
use Rattle.adr_disk.specs.Disk.{put, Torn}
use Rattle.adr_wire.specs.Reading.{Reading}
use Rattle.adr_wire.specs.Fields.{byte_of}
use Rattle.adr_law_journal.specs.Log.{Following, open_gate}
use Rattle.adr_model.specs.Lengths.{Log, first_area}
use Rattle.adr_law_journal.specs.Areas.{Began, selects_second, selector_place, slot_place, IsHead, Reaches, window, IsArea, IsAtRest}
use Rattle.adr_law_journal.proofs.Windows.{torn_before}
use Rattle.adr_law_journal.proofs.Reading.{area_long}
use Rattle.adr_law_journal.proofs.Keeping.{slot_low}
use Rattle.adr_law_journal.proofs.Recording.{torn_record}
use Rattle.adr_law_journal.proofs.Starting.{rests_here}
use Rattle.adr_law_group.specs.Batch.{IsHeld}

-- one byte at a place, and the same elsewhere
one_byte : (gate : ℕ) (there left : List ℕ) → gate < length there → Torn gate 1 there left → get_or left gate 0 ≡ open_gate → left ≡ put there gate (open_gate ∷ [])
one_byte gate there left within torn opens =
    let front : take gate left ≡ take gate there = subst (λ (k : ℕ). take k left ≡ take gate there) (length-take-le gate there (omega (arith, within))) torn.before in
    sym (take-append-drop gate left)
    ∙ (λ i. front i ++ (drop_more left gate 0 (omega (arith, within, torn.no_shorter))) i)
    ∙ (λ i. take gate there ++ (opens i ∷ torn.after i))
    ∙ sym (append_assoc (take gate there) (open_gate ∷ []) (drop (gate + 1) there))

module _ {H S : Type 0} (head : Reading H) (area : H → Reading (Began S)) (following : ℕ → Following S) (front : List ℕ) (h : H) (is_head : IsHead head front h) (s : S) (log : Log) (gate : ℕ) where
  abbrev Held : List ℕ → Type 0
  Held bytes = IsHeld (area h) following front s log gate bytes

  pub held_behind : (n : ℕ) (there left : List ℕ) → Held there → Torn (gate + 1) n there left → Held left
  held_behind n there left held torn = record {
    rests = torn_record head area following front h is_head s log n there left held.rests (subst (λ (e : ℕ). Torn e n there left) held.ends torn);
    ends = held.ends;
  }

  module _ (there left : List ℕ) (held : Held there) (torn : Torn gate 1 there left) where
    stands : IsArea (area h) following s log.place log.version log.first log.log_end there
    stands = held.rests.ready.stands

    gate_is : log.place + length stands.opened ≡ gate
    gate_is = omega (arith, stands.long, held.ends)

    far : (log.place < log.log_end) × (log.log_end ≤ length there)
    far = area_long (area h) following s log.place log.version log.first log.log_end there stands

    low : first_area ≤ log.place
    low = held.rests.ready.low

    within : gate < length there
    within = omega (arith, far.1, held.ends)

    long_left : log.log_end ≤ length left
    long_left = omega (arith, far.1, torn.no_shorter)

    same : (place m : ℕ) → place + m ≤ gate → window place m left ≡ window place m there
    same place m le = torn_before gate 1 there left torn place m (omega (arith, within)) le

    opened_is : window log.place (length stands.opened) left ≡ stands.opened
    opened_is =
        same log.place (length stands.opened) (omega (arith, gate_is))
        ∙ sym (take-take (length stands.opened) (length stands.opened + 1) (drop log.place there) (omega arith))
        ∙ ap (take (length stands.opened)) stands.parts ∙ take_at stands.opened (stands.gate ∷ []) (length stands.opened) refl

    shut : get_or left gate 0 ≢ open_gate → Held left
    shut closed =
        let slot = slot_low log.second in
        let reaches = subst (λ (l : List ℕ). Reaches (area h) following log.place log.version log.first l s) (sym opened_is) stands.reaches in
        let more : log.place + length stands.opened < length left = omega (arith, gate_is, held.ends, long_left) in
        record {
          rests = subst (λ (e : ℕ). IsAtRest (area h) following front s (record log { log_end = e }) left) stands.long
              (rests_here head area following h front is_head left
              (same 0 selector_place (omega (arith, low, gate_is)) ∙ held.rests.ready.front_is) (omega (arith, low, far.0, long_left)) log.second
              (ap (λ (l : List ℕ). byte_of l == selects_second) (same selector_place 1 (omega (arith, low, gate_is))) ∙ held.rests.selects) log.place
              (ap (from_be_bytes w64) (same (slot_place log.second) 8 (omega (arith, low, gate_is, slot.1))) ∙ held.rests.ready.named) low (omega (arith, far.0, long_left)) log.version log.first (length stands.opened) s
              (omega (arith, more)) reaches more (subst (λ (p : ℕ). get_or left p 0 ≢ open_gate) (sym gate_is) closed));
          ends = held.ends;
        }

    pub held_or_all : Held left ⊎ (left ≡ put there gate (open_gate ∷ []))
    held_or_all = elim (cases_eq (get_or left gate 0) open_gate) [
      | inl opens ↦ inr (one_byte gate there left within torn opens)
      | inr closed ↦ inl (shut closed)
    ]
