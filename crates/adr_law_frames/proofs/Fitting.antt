-- What a state of a log answers fits a frame.
use Rattle.std.proofs.Common.{◌≡◌, ℕ, ◌+◌, ◌*◌, ◌<◌, ◌≤◌, List, [], ◌∷◌, ◌++◌, length, Bool, true, false, ◌==◌, Ok, refl, sym, subst, arith}
use Rattle.std.specs.Bool.{then_some}
use Rattle.std.specs.Prelude.{if◌then◌else◌}
use Rattle.std.specs.List.{AllByRecursion, flat_map}
use Rattle.std.specs.Option.{option_map}
use Rattle.std.proofs.lemmas.List.{length-append}
use Rattle.adr_values.specs.declared.stamp.LinkStamp.{LinkStamp}
use Rattle.adr_values.specs.Dated.{with_moments}
use Rattle.adr_values.specs.Vector.{Cursors, at}
use Rattle.adr_values.proofs.Dated.{as_many}
use Rattle.adr_values.specs.declared.mark.Mark.{Mark}
use Rattle.adr_wire.specs.Composites.{mark, vector}
use Rattle.adr_wire.specs.Fields.{u16, u32, u64}
use Rattle.adr_wire.specs.Headed.{head}
use Rattle.adr_wire.specs.Optional.{if_there}
use Rattle.adr_wire.specs.Ranges.{IsCursor, IsCursors}
use Rattle.adr_wire.specs.Timed.{dated, timed, vector2}
use Rattle.adr_law_lengths.proofs.Lengths.{vector_long}
use Rattle.adr_model.specs.Member.{Each}
use Rattle.adr_model.specs.Change.{Item}
use Rattle.adr_model.specs.Serve.{Request, Reply, begins_at, byte_limit, candidates, first_items, item_length, reply_of, reply_to, serve, serve_refusal}
use Rattle.adr_model.specs.Spelled.{IsSaidOfKey, SayOfTheirKeys}
use Rattle.adr_model.specs.Store.{State, updates_of}
use Rattle.adr_model.specs.Update.{Key, RowOf, LinkOf, Said, Holds, IsPresent, Update}
use Rattle.adr_law_knowledge.proofs.Refusing.{answered}
use Rattle.adr_law_calls.proofs.Rows.{held_as}
use Rattle.adr_image.specs.Stored.{IsSpelledRow}
use Rattle.adr_records.specs.BodyLaws.{content_of_attr}
use Rattle.adr_records.specs.Logged.{IsLogged}
use Rattle.adr_frames.specs.Frames.{IsFrameLength}
use Rattle.adr_packet.specs.Parts.{item, items, parties, reach}
use Rattle.adr_packet.specs.Replies.{fields, magic, reply_bytes, told_in}
use Rattle.adr_packet.specs.Requests.{IsRequest}
use Rattle.adr_law_frames.specs.Fits.{item_limit}
use Rattle.adr_law_frames.proofs.Bytes.{item_is_no_longer}
use Rattle.adr_law_frames.proofs.Cut.{cut_at}
use Rattle.adr_law_frames.proofs.Offered.{all_offered}
use Rattle.adr_law_frames.proofs.Short.{item_is_short, most_bytes}

-- ---- the items of a state of a log

says_of_key : (key : Key) (said : Said) (stamp : LinkStamp) → IsSpelledRow key said stamp → IsSaidOfKey key said
says_of_key (RowOf o attr) (Holds content) stamp spelled = content_of_attr o attr content spelled.2
says_of_key (RowOf o attr) (IsPresent b) stamp spelled = spelled
says_of_key (LinkOf l) (Holds content) stamp spelled = spelled
says_of_key (LinkOf l) (IsPresent b) stamp spelled = tt

module _ (s : State) (logged : IsLogged s) where
  says : SayOfTheirKeys (updates_of s.store.rows)
  says u m =
      let h = held_as s.store.rows u m in
      subst (λ (v : Update). IsSaidOfKey v.key v.said) (sym h.2) (says_of_key h.0.update.key h.0.update.said h.0.update.stamp (logged.spelled.rows h.0 h.1))

  items_counted : (from : Mark) (asked : Cursors)
      → Each (λ (c : ℕ × Item). (length (item c.1) ≤ item_length c.1) × (item_length c.1 ≤ most_bytes)) (candidates s.store.rows from asked)
  items_counted from asked c m =
      let q = all_offered s.store.rows logged.formed.store.rising from asked c m in
      (item_is_no_longer s.store.rows logged.spelled.rows c.1 q, item_is_short s.store logged.formed.store says c.1 q)

pub offered_short : (s : State) (from : Mark) (asked : Cursors) → IsLogged s
    → Each (λ (c : ℕ × Item). length (item c.1) < item_limit) (candidates s.store.rows from asked)
offered_short s from asked logged c m = let q = items_counted s logged from asked c m in omega arith

-- ---- the parts of a reply

-- a count, and at most 10,000 cursors
vector_short : (v : Cursors) → IsCursors v → length (vector v) ≤ 240004
vector_short v q = omega (arith, vector_long v q, q.0.few)

mark_long : (m : Mark) → length (mark m) ≡ 24
unfolding u64
mark_long m = refl

head_long : (version : ℕ) → length (head magic version) ≡ 6
unfolding u16
head_long version = refl

-- each cursor with its moment, whatever that is
dated_long : (times v : Cursors) → AllByRecursion IsCursor v → length (flat_map dated (with_moments times v)) ≡ 32 * length v
unfolding u64
dated_long times [] all = refl
dated_long times (c ∷ cs) all =
    let rest = dated_long times cs all.1 in
    let here = all.0.0 in
    omega (arith, length-append c.0 (u64 c.1 ++ u64 (at times c.0)), length-append (dated (c, at times c.0)) (flat_map dated (with_moments times cs)))

-- a vector of either version
timed_short : (version : ℕ) (v times : Cursors) → IsCursors v → length (timed version (v, times)) ≤ 320004
unfolding u32
timed_short version v times q = by (version == 1)
  where
    by : (one : Bool) → length (if one then vector v else vector2 (v, times)) ≤ 320004
    by true = let short = vector_short v q in omega arith
    by false = omega (arith, dated_long times v q.1, as_many times v, q.0.few)

last_short : (version : ℕ) (b : Bool) (v times : Cursors) → IsCursors v
    → length (if_there (timed version) (option_map (λ w. (w, times)) (then_some b v))) ≤ 320005
last_short version true v times q = let short = timed_short version v times q in omega arith
last_short version false v times q = omega arith

items_long : (is : List Item) → length (items is) ≡ 4 + length (flat_map item is)
unfolding u32
items_long is = omega arith

module _ (s : State) (q : Request) (now : ℕ) (logged : IsLogged s) (asked : IsRequest q) where
  abbrev all : List (ℕ × Item)
  all = candidates s.store.rows (begins_at s q) q.vector

  abbrev first : List (ℕ × Item)
  first = first_items q.max byte_limit all

  abbrev reply : Bool → Reply
  reply b = reply_of s q now (begins_at s q) first b

  reply_short : (b : Bool) → length (fields (reply b)) ≤ 4759500
  unfolding u32
  reply_short b =
      let r = reply b in
      let last = if_there (timed r.version) (told_in r) in
      let behind = last ++ items r.items in
      let cut = cut_at most_bytes q.max byte_limit all (items_counted s logged (begins_at s q) q.vector) in
      omega (
        arith,
        cut,
        items_long r.items,
        last_short q.version b s.store.vector r.times (logged.formed.store.vector, logged.spelled.vector),
        vector_short q.vector asked.vector,
        mark_long r.from,
        mark_long r.to,
        asked.dest,
        logged.dsa,
        logged.inv,
        length-append last (items r.items),
        length-append (vector r.asked) behind,
        length-append (mark r.from) (mark r.to),
        length-append (reach (r.from, r.to)) (u32 r.schema ++ (vector r.asked ++ behind)),
        length-append r.source r.inv,
        length-append r.dest (r.source ++ r.inv),
        length-append (parties (r.dest, (r.source, r.inv))) (reach (r.from, r.to) ++ (u32 r.schema ++ (vector r.asked ++ behind))),
      )

  reply_fits : (b : Bool) → IsFrameLength (length (2 ∷ reply_bytes (reply b)))
  reply_fits b =
      let short = reply_short b in
      let joined = length-append (head magic q.version) (fields (reply b)) in
      let long = head_long q.version in
      (omega arith, omega arith)

pub served_fit : (s : State) (q : Request) (r : Reply) (now : ℕ) → IsLogged s → IsRequest q → serve s q now ≡ Ok r → IsFrameLength (length (2 ∷ reply_bytes r))
served_fit s q r now logged asked e =
    let t = answered (serve_refusal s q) (reply_to s q now) r e in
    subst (λ (x : Reply). IsFrameLength (length (2 ∷ reply_bytes x))) t.1
    (reply_fits s q now logged asked (length (first s q now logged asked) == length (all s q now logged asked)))
