-- What a format writes is a log at rest, and what a journal stands for behind it.
use Rattle.std.proofs.Common.{◌≡◌, ℕ, ◌+◌, ◌<◌, List, ◌∷◌, length, false, Option, refl, sym, subst, arith}
use Rattle.adr_wire.specs.Reading.{Reading}
use Rattle.adr_model.specs.Store.{State}
use Rattle.adr_model.specs.Lengths.{Log, area_version, length_limit, first_area, image_length, new_log}
use Rattle.adr_law_journal.specs.Log.{Following, open_gate}
use Rattle.adr_law_journal.specs.Areas.{Began, found, IsHead, TellsArea}
use Rattle.adr_law_journal.specs.Kept.{Layout, Rests, IsSettled}
use Rattle.adr_law_journal.specs.Recording.{first_log, new_bytes}
use Rattle.adr_law_journal.proofs.Formatting.{formatted}
use Rattle.adr_journal.specs.Kept.{Ids, ids_of, layout_of, IsAt}

first_is : (s : State) (n : ℕ) → n ≡ 6 + image_length s.store → first_log area_version n ≡ new_log s
first_is s n is =
    let first : first_area + n ≡ first_area + 6 + image_length s.store = omega (arith, is) in
    let end : first_area + n + 1 ≡ first_area + 7 + image_length s.store = omega (arith, is) in
    (λ i. let log : Log = record { second = false; place = first_area; version = area_version; first = first i; log_end = end i } in log)

module _ (head : Reading Ids) (area : Ids → Reading (Began State)) (following : ℕ → Following State) (front image : List ℕ) (s : State) (is_head : IsHead head front (ids_of s)) where
  abbrev pub new_layout : Layout Ids State
  new_layout = layout_of head area following front (ids_of s) is_head

  pub new_rests : TellsArea (area (ids_of s)) first_area image area_version s → length image ≡ 6 + image_length s.store → (written : List ℕ) → written ≡ new_bytes front image → Rests new_layout s (new_log s) (open_gate ∷ written)
  new_rests tells long written is =
      subst (λ (w : List ℕ). Rests new_layout s (new_log s) (open_gate ∷ w)) (sym is)
      (subst (λ (l : Log). Rests new_layout s l (open_gate ∷ new_bytes front image)) (first_is s (length image) long)
      (formatted head area following front (ids_of s) s area_version image is_head tells))

  pub new_at : {D : Type 0} (content : D → Option (List ℕ)) (may_leave : D → List ℕ → Type 0) (disk : D) → image_length s.store < length_limit → IsSettled new_layout content may_leave disk s (new_log s)
      → IsAt head area following content may_leave disk (new_log s) (found s (new_log s))
  new_at content may_leave disk short settled = record {
    is_log = refl;
    version = omega arith;
    front = front;
    is_head = is_head;
    settled = settled;
    place = omega arith;
    first = omega (arith, short);
    begun = omega arith;
    ends = omega (arith, short);
  }
