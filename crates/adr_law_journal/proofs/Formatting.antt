-- What a crash within a format leaves.
use Rattle.std.proofs.Common.{◌≡◌, ◌⊎◌, inl, inr, ℕ, ◌+◌, List, [], ◌∷◌, ◌++◌, length, take, drop, get_or, Ok, Err, refl, sym, ◌∙◌, ap, arith, append_assoc, length-append, take-append-drop, ◌==◌}
use Rattle.std.specs.Int.{w64, from_be_bytes}
use Rattle.std.proofs.lemmas.List.{drop_more, drop_at, take_at, append-nil as append-none}
use Rattle.std.proofs.lemmas.Bool.{cases_eq}
use Rattle.adr_disk.specs.Disk.{Torn}
use Rattle.adr_wire.specs.Reading.{Reading}
use Rattle.adr_wire.specs.Fields.{byte_of, u64}
use Rattle.adr_law_journal.specs.Log.{Following, open_gate}
use Rattle.adr_model.specs.Lengths.{first_area}
use Rattle.adr_law_journal.specs.Areas.{Began, Found, start_of, selects_second, selector_place, window, IsHead, IsAtRest, TellsArea}
use Rattle.adr_law_journal.specs.Recording.{new_bytes, first_log}
use Rattle.adr_law_journal.proofs.Keeping.{long_u64, number_again, told_reaches}
use Rattle.adr_law_journal.proofs.Starting.{short, shut}

-- what stands behind a front
at_front : (front rest : List ℕ) (n k : ℕ) → length front ≡ n → window n k (front ++ rest) ≡ take k rest
at_front front rest n k is = ap (take k) (drop_at front rest n is)

module _ {H S : Type 0} (head : Reading H) (area : H → Reading (Began S)) (following : ℕ → Following S) where
  pub torn_first : (bytes : List ℕ) → Torn 0 1 [] bytes → start_of head area following bytes ≡ Err 0
  torn_first bytes torn = short head area following bytes (omega (arith, torn.no_longer))

  pub torn_rest : (n : ℕ) (bytes : List ℕ) → Torn 1 n (0 ∷ []) bytes → start_of head area following bytes ≡ Err 0
  torn_rest n bytes torn =
      ap (start_of head area following) (sym (take-append-drop 1 bytes) ∙ ap (λ (l : List ℕ). l ++ drop 1 bytes) torn.before)
      ∙ shut head area following 0 (drop 1 bytes) (omega arith)

  pub torn_last : (rest : List ℕ) (f : Found S) (bytes : List ℕ) → start_of head area following (open_gate ∷ rest) ≡ Ok f → Torn 0 1 (0 ∷ rest) bytes
      → (start_of head area following bytes ≡ Err 0) ⊎ (start_of head area following bytes ≡ Ok f)
  torn_last rest f bytes whole torn =
      let gate = get_or bytes 0 0 in
      let is : bytes ≡ gate ∷ rest = drop_more bytes 0 0 (omega (arith, torn.no_shorter)) ∙ ap (λ (l : List ℕ). gate ∷ l) torn.after in
      elim (cases_eq gate open_gate) [
        | inl opened ↦ inr (ap (start_of head area following) (is ∙ ap (λ (g : ℕ). g ∷ rest) opened) ∙ whole)
        | inr closed ↦ inl (ap (start_of head area following) is ∙ shut head area following gate rest closed)
      ]

  -- what was formatted is at rest
  pub formatted : (front : List ℕ) (h : H) (s : S) (version : ℕ) (image : List ℕ) → IsHead head front h → TellsArea (area h) first_area image version s
      → IsAtRest (area h) following front s (first_log version (length image)) (open_gate ∷ new_bytes front image)
  formatted front h s version image is_head tells =
      let g : List ℕ = open_gate ∷ front in
      let slots : List ℕ = u64 first_area ++ (u64 first_area ++ (image ++ 0 ∷ [])) in
      let long : length g ≡ selector_place = omega (arith, is_head.long) in
      let with_selector : List ℕ = g ++ 0 ∷ [] in
      let with_first : List ℕ = with_selector ++ u64 first_area in
      let with_second : List ℕ = with_first ++ u64 first_area in
      let behind_selector : g ++ (0 ∷ slots) ≡ with_selector ++ slots = sym (append_assoc g (0 ∷ []) slots) in
      let behind_slots : g ++ (0 ∷ slots) ≡ with_second ++ (image ++ 0 ∷ []) =
      behind_selector ∙ sym (append_assoc with_selector (u64 first_area) (u64 first_area ++ (image ++ 0 ∷ []))) ∙ sym (append_assoc with_first (u64 first_area) (image ++ 0 ∷ [])) in
      let long_selector : length with_selector ≡ 40 = omega (arith, long, length-append g (0 ∷ [])) in
      let long_second : length with_second ≡ first_area = omega (arith, long_selector, length-append with_selector (u64 first_area), length-append with_first (u64 first_area), long_u64 first_area) in
      record {
        ready = record {
          front_is = take_at g (0 ∷ slots) selector_place long;
          named = ap (from_be_bytes w64) (ap (window 40 8) behind_selector ∙ at_front with_selector slots 40 8 long_selector ∙ take_at (u64 first_area) (u64 first_area ++ (image ++ 0 ∷ [])) 8 (long_u64 first_area)) ∙ number_again first_area (omega arith);
          low = omega arith;
          stands = record {
            opened = image;
            gate = 0;
            parts = ap (window first_area (length image + 1)) behind_slots ∙ at_front with_second (image ++ 0 ∷ []) first_area (length image + 1) long_second
                ∙ ap (take (length image + 1)) (sym (append-none (image ++ 0 ∷ []))) ∙ take_at (image ++ 0 ∷ []) [] (length image + 1) (length-append image (0 ∷ []));
            closed = omega arith;
            long = refl;
            reaches = told_reaches (area h) following front first_area image version s tells;
          };
        };
        selects = ap (λ (l : List ℕ). byte_of l == selects_second) (at_front g (0 ∷ slots) selector_place 1 long);
      }
