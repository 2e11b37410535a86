-- One more record behind those that are held.
use Rattle.std.proofs.Common.{◌≡◌, ℕ, ◌+◌, ◌≤◌, ◌<◌, List, [], ◌∷◌, ◌++◌, length, take, drop, get_or, Option, Some, None, refl, sym, ◌∙◌, ap, subst, arith, append_assoc, length-append, take-append-drop}
use Rattle.std.specs.Prelude.{◌^◌}
use Rattle.std.specs.Option.{option_map}
use Rattle.std.proofs.lemmas.List.{drop_all, drop_more, length-take-le}
use Rattle.adr_disk.specs.Disk.{put}
use Rattle.adr_disk.proofs.Bytes.{put-put}
use Rattle.adr_model.specs.Store.{State}
use Rattle.adr_model.specs.Lengths.{Log}
use Rattle.adr_law_journal.specs.Log.{open_gate, record_of}
use Rattle.adr_law_journal.specs.Kept.{Layout, Rests}
use Rattle.adr_law_journal.specs.Recording.{log_behind}
use Rattle.adr_law_journal.proofs.Recording.{staged, opened_up}
use Rattle.adr_law_journal.proofs.Settled.{rests_long}
use Rattle.adr_law_journal.proofs.Told.{some_is, is_some_of}
use Rattle.adr_journal.specs.Kept.{Ids}
use Rattle.adr_journal.proofs.Found.{record_length}
use Rattle.adr_gather.specs.Held.{joined, with_held}
use Rattle.adr_gather.specs.Gathered.{Gathered, Holds}
use Rattle.adr_gather.proofs.Putting.{put_at, some_held, in_one_piece}

-- all but the last byte, and the last one
ends_so : (b : ℕ) (held : List ℕ) → b ∷ held ≡ take (length held) (b ∷ held) ++ get_or (b ∷ held) (length held) 0 ∷ []
ends_so b held =
    let all : List ℕ = b ∷ held in
    let n = length held in
    let last : drop n all ≡ get_or all n 0 ∷ [] = drop_more all n 0 (omega arith) ∙ ap (λ (l : List ℕ). get_or all n 0 ∷ l) (drop_all (n + 1) all (omega arith)) in
    sym (take-append-drop n all) ∙ ap (λ (l : List ℕ). take n all ++ l) last

pub length-joined : (held written : List ℕ) → length (joined held written) ≡ length held + length written
length-joined [] written = omega arith
length-joined (b ∷ held) written = omega (arith, length-append (take (length held) (b ∷ held)) (open_gate ∷ written), length-take-le (length held) (b ∷ held) (omega arith))

module _ (there : List ℕ) (gate : ℕ) (within : gate < length there) (b : ℕ) (held written : List ℕ) where
  abbrev front : List ℕ
  front = take gate there

  abbrev most : List ℕ
  most = open_gate ∷ take (length held) (b ∷ held)

  abbrev size : ℕ
  size = gate + 1 + length (b ∷ held) + length written

  abbrev behind : List ℕ
  behind = drop size there

  -- the last gate is this byte
  normal : (x : ℕ) → (front ++ (most ++ x ∷ written)) ++ behind ≡ (front ++ most) ++ x ∷ (written ++ behind)
  normal x = append_assoc front (most ++ x ∷ written) behind ∙ ap (λ (l : List ℕ). front ++ l) (append_assoc most (x ∷ written) behind) ∙ sym (append_assoc front most (x ∷ (written ++ behind)))

  long_front : length front ≡ gate
  long_front = length-take-le gate there (omega (arith, within))

  long_most : length most ≡ 1 + length held
  long_most = omega (arith, length-take-le (length held) (b ∷ held) (omega arith))

  put_most : (x : ℕ) → put there gate (most ++ x ∷ written) ≡ (front ++ most) ++ x ∷ (written ++ behind)
  put_most x =
      let n : gate + length (most ++ x ∷ written) ≡ size = omega (arith, length-append most (x ∷ written), long_most) in
      ap (λ (m : ℕ). (front ++ (most ++ x ∷ written)) ++ drop m there) n ∙ normal x

  opened_last : put (put (with_held gate (b ∷ held) there) (gate + 1 + length (b ∷ held)) written) (gate + length (b ∷ held)) (open_gate ∷ []) ≡ with_held gate (joined (b ∷ held) written) there
  opened_last =
      let all : List ℕ = b ∷ held in
      let last = get_or all (length held) 0 in
      let n : gate + 1 + length all ≡ gate + length (open_gate ∷ all) = omega arith in
      let parts : (open_gate ∷ all) ++ written ≡ most ++ last ∷ written = ap (λ (l : List ℕ). open_gate ∷ (l ++ written)) (ends_so b held) ∙ append_assoc most (last ∷ []) written in
      let first : put (with_held gate all there) (gate + 1 + length all) written ≡ (front ++ most) ++ last ∷ (written ++ behind) =
      ap (λ (l : List ℕ). put l (gate + 1 + length all) written) (in_one_piece gate all there (omega arith) within)
      ∙ ap (λ (m : ℕ). put (put there gate (open_gate ∷ all)) m written) n
      ∙ put-put there gate (open_gate ∷ all) written
      ∙ ap (put there gate) parts
      ∙ put_most last in
      let long : length (front ++ most) ≡ gate + length all = omega (arith, length-append front most, long_front, long_most) in
      let second : put ((front ++ most) ++ last ∷ (written ++ behind)) (gate + length all) (open_gate ∷ []) ≡ (front ++ most) ++ open_gate ∷ (written ++ behind) =
      put_at (front ++ most) (last ∷ (written ++ behind)) (gate + length all) (open_gate ∷ []) long ∙ append_assoc (front ++ most) (open_gate ∷ []) (written ++ behind) in
      ap (λ (l : List ℕ). put l (gate + length all) (open_gate ∷ [])) first ∙ second ∙ sym (put_most open_gate)
      ∙ sym (in_one_piece gate (joined all written) there (omega (arith, length-joined all written)) within)

-- the record behind the last gate, and then the gate: the bytes are those of one batch
pub opened_more : (there : List ℕ) (gate : ℕ) (held written : List ℕ) → 1 ≤ length written → gate < length there
    → put (put (with_held gate held there) (gate + 1 + length held) written) (gate + length held) (open_gate ∷ []) ≡ with_held gate (joined held written) there
opened_more there gate [] written some within =
    ap (λ (n : ℕ). put (put there n written) (gate + 0) (open_gate ∷ [])) (omega arith) ∙ ap (λ (n : ℕ). put (put there (gate + 1) written) n (open_gate ∷ [])) (omega arith) ∙ sym (some_held gate written there some within)
opened_more there gate (b ∷ held) written some within = opened_last there gate within b held written

-- what is told of what is made of a list
pub mapped_from : {A B : Type 0} (f : A → B) (o : Option A) (y : B) → option_map f o ≡ Some y → (x : A) × (o ≡ Some x) × (f x ≡ y)
mapped_from f None y is = absurd (cc is)
mapped_from f (Some x) y is = (x, refl, some_is (f x) y is)

module _ {D : Type 0} (l : Layout Ids State) (content : D → Option (List ℕ)) (may_leave : D → List ℕ → Type 0) (g : Gathered D) (s : State) (log : Log) (holds : Holds l content may_leave g s log) where
  -- what is held stands within what is there
  pub holds_within : (x : List ℕ) → content g.disk ≡ Some x → g.gate < length x
  holds_within x told = let far = rests_long l holds.base.state holds.base.log x (holds.settled.at_rest x told) in omega (arith, far.1, holds.base_ends)

  module _ (t : State) (body written : List ℕ) (is : written ≡ record_of body) (follows : l.following log.version s body ≡ Some t) (fits : length body < 2 ^ 32) where
    abbrev more : Gathered D
    more = record g { held = joined g.held written }

    long : length written ≡ 5 + length body
    long = ap length is ∙ record_length body

    rests_then : (x : List ℕ) → content g.disk ≡ Some x → Rests l t (log_behind log body) (with_held g.gate (joined g.held written) x)
    rests_then x told =
        let v : List ℕ = with_held g.gate g.held x in
        let rests : Rests l s log v = holds.whole.at_rest v (ap (option_map (with_held g.gate g.held)) told) in
        let st = staged l.head l.area l.following l.front l.told l.is_head s log body v rests in
        let up = opened_up l.head l.area l.following l.front l.told l.is_head s log t (g.gate + length g.held) (omega (arith, holds.ends)) body (put v log.log_end (record_of body)) st follows fits in
        let same : put (put v log.log_end (record_of body)) (g.gate + length g.held) (open_gate ∷ []) ≡ with_held g.gate (joined g.held written) x =
        ap (λ (n : ℕ). put (put v n (record_of body)) (g.gate + length g.held) (open_gate ∷ [])) (sym holds.ends)
        ∙ ap (λ (w : List ℕ). put (put v (g.gate + 1 + length g.held) w) (g.gate + length g.held) (open_gate ∷ [])) (sym is)
        ∙ opened_more x g.gate g.held written (omega (arith, long)) (holds_within x told) in
        subst (λ (y : List ℕ). Rests l t (log_behind log body) y) same up

    pub joined_holds : Holds l content may_leave more t (log_behind log body)
    joined_holds = record {
      whole = record {
        at_rest = λ y told. let made = mapped_from (with_held g.gate (joined g.held written)) (content g.disk) y told in subst (λ (z : List ℕ). Rests l t (log_behind log body) z) made.2 (rests_then made.0 made.1);
        synced = λ y told bytes image.
            let made = mapped_from (with_held g.gate (joined g.held written)) (content g.disk) y told in
            let left = image (is_some_of (content g.disk) made.0 made.1) in
            sym left.2 ∙ ap (with_held g.gate (joined g.held written)) (holds.settled.synced made.0 made.1 left.0 left.1) ∙ made.2;
      };
      ends = omega (arith, length-joined g.held written, long, holds.ends);
      base = holds.base;
      settled = holds.settled;
      base_ends = holds.base_ends;
    }
