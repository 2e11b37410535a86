-- What a formed state answers is spelled, where its rows say what rows of their keys say; and so they do behind each change that can follow.
use Rattle.std.proofs.Common.{◌≡◌, inl, inr, ⊎_elim, ℕ, ◌<◌, ◌≤◌, List, [], ◌∷◌, Bool, true, false, cond, ◌&&◌, ◌==◌, None, Ok, unwrap_or, refl, sym, ap, ◌∙◌, subst, map, filter, length, arith}
use Rattle.std.specs.Prelude.{nat_le, nat_lt, not, if◌then◌else◌}
use Rattle.std.specs.Bool.{then_some}
use Rattle.std.specs.List.Sorted.{IsStrictlySortedBy}
use Rattle.std.proofs.lemmas.Bool.{and_parts, leb-true, ltb-true, ltb-false, eqb-false}
use Rattle.adr_values.specs.declared.stamp.Unit.{Unit as Named}
use Rattle.adr_values.proofs.ExactCalls.{not_then}
use Rattle.adr_values.specs.Numbered.{numbered}
use Rattle.adr_values.specs.Table.{Table}
use Rattle.adr_values.specs.Vector.{Cursors, IsVector, at}
use Rattle.adr_values.specs.Times.{AreTimesOf}
use Rattle.adr_values.proofs.Moments.{no_times, times_raise, times_filter}
use Rattle.adr_values.specs.declared.mark.Mark.{Mark}
use Rattle.adr_call.specs.declared.refusal.ServeRefusal.TheVariants.{BadMark, RolledBack}
use Rattle.adr_model.specs.Member.{Member, Each}
use Rattle.adr_model.specs.Update.{Identifier, Key, Update, key_order, same_identifier, same_unit, unit_of}
use Rattle.adr_model.specs.Store.{Held, State, no_mark, updates_of}
use Rattle.adr_model.specs.Change.{Item, Written, Change, updates_written, after}
use Rattle.adr_model.specs.Take.{times_brought}
use Rattle.adr_model.specs.Formed.{IsFormed}
use Rattle.adr_model.specs.LocalLog.{IsOrdered}
use Rattle.adr_model.specs.Serve.{Request, Reply, last_local, is_above_mark, is_unseen, sendable, item_of, candidates, byte_limit, first_items, reply_of, begins_at, times_told, reply_to, shown_by, serve_refusals, serve_refusal, serve}
use Rattle.adr_model.specs.Spelled.{IsSaidOfKey, SayOfTheirKeys, IsSpelledItem, IsSpelledReply}
use Rattle.adr_model.proofs.Members.{of_filter, flat_member, member_left, mapped_member}
use Rattle.adr_law_knowledge.proofs.Counting.{filtered_rise}
use Rattle.adr_law_knowledge.proofs.Refusing.{none_there, is_so, answered}
use Rattle.adr_law_calls.proofs.Rows.{held_as, updated}
use Rattle.adr_law_calls.proofs.Locals.{last_within, units_tell}
use Rattle.adr_law_calls.proofs.Candidates.{entry_of, candidate_from}
use Rattle.adr_law_calls.proofs.Ground.{first_front, read_to_item}
use Rattle.adr_law_calls.specs.Follow.{MayFollowInTurn, CanFollow, after_write}
use Rattle.adr_law_calls.proofs.TakenFollow.{nothing_is_vector}
use Rattle.adr_law_calls.proofs.Whence.{rows_from}

-- ---- what rows say behind a change

writes_say : (table : Table) (vector : Cursors) (rows : List Held) (ws : List Written) → MayFollowInTurn table vector rows ws
    → Each (λ (w : Written). SayOfTheirKeys w.item.rows) ws
writes_say table vector rows [] may w m = absurd m
writes_say table vector rows (v ∷ vs) may w (inl e) = subst (λ (x : Written). SayOfTheirKeys x.item.rows) (sym e) may.0.form.says
writes_say table vector rows (v ∷ vs) may w (inr m) = writes_say table vector (after_write rows v) vs may.2 w m

pub still_say : (s : State) (c : Change) → SayOfTheirKeys (updates_of s.store.rows) → CanFollow s c
    → SayOfTheirKeys (updates_of (after s c).store.rows)
still_say s c says follows = rows_from (λ (u : Update). IsSaidOfKey u.key u.said) s c says new
  where
    new : SayOfTheirKeys (updates_written c)
    new u m =
        let t = flat_member (λ (w : Written). w.item.rows) c.writes u m in
        writes_say (numbered s.store.schema) s.store.vector s.store.rows c.writes follows.goes_on.writes t.0 t.1 u t.2

-- ---- the keys of rows and of their updates

abbrev keys : List Held → List Key
keys hs = map (λ (h : Held). h.update.key) hs

same_keys : (hs : List Held) → keys hs ≡ map (λ (u : Update). u.key) (updates_of hs)
same_keys [] = refl
same_keys (h ∷ hs) = ap (λ ks. h.update.key ∷ ks) (same_keys hs)

-- ---- where a served reply begins

module _ (s : State) (q : Request) (now : ℕ) (formed : IsFormed s) (says : SayOfTheirKeys (updates_of s.store.rows))
    (none : serve_refusal s q ≡ None) where
  marked : (nat_le q.mark.prop q.mark.obj && nat_le q.mark.obj q.mark.seen) ≡ true
  marked = is_so (nat_le q.mark.prop q.mark.obj && nat_le q.mark.obj q.mark.seen)
      (BadMark q.mark.prop q.mark.obj q.mark.seen) (none_there (serve_refusals s q) none _ (inr (inr (inl refl))))

  shown : shown_by s q ≤ s.store.usn
  shown = ltb-false s.store.usn (shown_by s q)
      (not_then (nat_lt s.store.usn (shown_by s q)) (RolledBack s.inv s.store.usn (shown_by s q))
      (none_there (serve_refusals s q) none _ (inr (inr (inr (inl refl))))))

  abbrev pub from : Mark
  from = begins_at s q

  pub began : IsOrdered from
  began = by (same_identifier q.inv s.inv)
    where
      by : (b : Bool) → IsOrdered (cond b q.mark no_mark)
      by true =
          let t = and_parts (nat_le q.mark.prop q.mark.obj) (nat_le q.mark.obj q.mark.seen) marked in
          record { prop = leb-true q.mark.prop q.mark.obj t.0; obj = leb-true q.mark.obj q.mark.seen t.1 }
      by false = record { prop = omega arith; obj = omega arith }

  pub seen_before : from.seen ≤ s.store.usn
  seen_before = omega (arith, shown)

  -- ---- what it sends

  abbrev pub rows : List Held
  rows = s.store.rows

  abbrev pub unseen : List Held
  unseen = sendable rows from q.vector

  abbrev pub sent : List (ℕ × Item)
  sent = first_items q.max byte_limit (candidates rows from q.vector)

  abbrev pub items : List Item
  items = map (λ (c : ℕ × Item). c.1) sent

  abbrev pub reply : Bool → Reply
  reply last = reply_of s q now from sent last

  -- an item that is sent is of a row that may be sent
  sent_from : (c : ℕ × Item) → Member c sent
      → (x : Held) × Member x unseen × (c ≡ entry_of rows unseen (unit_of x.update.key))
  sent_from c m =
      let front = first_front q.max byte_limit (candidates rows from q.vector) in
      candidate_from rows unseen c (subst (λ (cs : List (ℕ × Item)). Member c cs) front.1 (member_left sent front.0 c m))

  of_unseen : (x : Held) → Member x unseen
      → Member x rows × ((is_above_mark from rows x && is_unseen from q.vector x) ≡ true)
  of_unseen x m = of_filter (λ (h : Held). is_above_mark from rows h && is_unseen from q.vector h) rows x m

  above : (x : Held) → Member x unseen → from.obj < last_local rows (unit_of x.update.key)
  above x m = ltb-true from.obj (last_local rows (unit_of x.update.key))
      (and_parts (is_above_mark from rows x) (is_unseen from q.vector x) (of_unseen x m).1).0

  within : (x : Held) → last_local rows (unit_of x.update.key) ≤ s.store.usn
  within x = last_within (unit_of x.update.key) rows s.store.usn (λ y m e. (formed.store.locals y m).1)

  -- ---- its mark and its vector

  pub read_to : (from.obj ≤ (reply false).to.obj) × ((reply false).to.obj ≤ s.store.usn)
  read_to = ⊎_elim
      (λ e. (omega (arith, e), omega (arith, e, began.obj, seen_before)))
      (λ z.
      let x = sent_from z.0 z.1 in
      let k : z.0.0 ≡ last_local rows (unit_of x.0.update.key) = ap (λ (c : ℕ × Item). c.0) x.2 in
      (omega (arith, above x.0 x.1, z.2, k), omega (arith, within x.0, z.2, k)))
      (read_to_item from.obj sent)

  to_ordered : (b : Bool) → IsOrdered (reply b).to
  to_ordered true = record { prop = omega arith; obj = omega arith }
  to_ordered false = record { prop = omega (arith, began.prop, read_to.0); obj = read_to.1 }

  last_is_vector : (b : Bool) → IsVector (unwrap_or (then_some b s.store.vector) [])
  last_is_vector true = formed.store.vector
  last_is_vector false = nothing_is_vector

  -- the times that are told are of cursors of the own vector
  told_times : AreTimesOf s.store.vector (times_told s now)
  told_times = times_raise s.store.vector (filter is_other s.store.times) s.inv (if s.store.usn == 0 then 0 else now) (by (s.store.usn == 0) refl) (times_filter is_other s.store.vector s.store.times formed.store.times)
    where
      is_other : Identifier × ℕ → Bool
      is_other t = not (same_identifier t.0 s.inv)

      by : (b : Bool) → (s.store.usn == 0) ≡ b → 1 ≤ (if b then 0 else now) → 1 ≤ at s.store.vector s.inv
      by true e one = absurd (omega (arith, one))
      by false e one = let some = eqb-false s.store.usn 0 e in omega (arith, some, formed.own)

  times_are : (b : Bool) → AreTimesOf (unwrap_or (then_some b s.store.vector) []) (times_brought (reply b))
  times_are true = by (q.version == 2)
    where
      by : (b : Bool) → AreTimesOf s.store.vector (if b then times_told s now else [])
      by true = told_times
      by false = no_times s.store.vector
  times_are false = no_times []

  -- ---- its items

  pub item_is : (i : Item) → Member i items → (unit : Named) × (i ≡ item_of unseen unit)
  item_is i m =
      let c = mapped_member (λ (c : ℕ × Item). c.1) sent i m in
      let x = sent_from c.0 c.1 in
      (unit_of x.0.update.key, c.2 ∙ ap (λ (d : ℕ × Item). d.1) x.2)

  pub row_is : (unit : Named) (u : Update) → Member u (item_of unseen unit).rows
      → (h : Held) × Member h rows × (u ≡ h.update) × (unit_of h.update.key ≡ unit)
  row_is unit u m =
      let h = held_as (filter (λ (y : Held). same_unit (unit_of y.update.key) unit) unseen) u m in
      let k = of_filter (λ (y : Held). same_unit (unit_of y.update.key) unit) unseen h.0 h.1 in
      (h.0, (of_unseen h.0 k.0).0, h.2, units_tell (unit_of h.0.update.key) unit k.1)

  item_spelled : (unit : Named) → IsSpelledItem (item_of unseen unit)
  item_spelled unit = record {
    of_unit = λ u m. let h = row_is unit u m in ap (λ (v : Update). unit_of v.key) h.2 ∙ h.3;
    rising = subst (IsStrictlySortedBy key_order)
        (same_keys (filter (λ (h : Held). same_unit (unit_of h.update.key) unit) unseen))
        (filtered_rise key_order (λ (h : Held). h.update.key) (λ (h : Held). same_unit (unit_of h.update.key) unit) unseen
        (filtered_rise key_order (λ (h : Held). h.update.key) (λ (h : Held). is_above_mark from rows h && is_unseen from q.vector h) rows
        formed.store.rising));
    says = λ u m. let h = row_is unit u m in subst (λ (v : Update). IsSaidOfKey v.key v.said) (sym h.2) (says h.0.update (updated rows h.0 h.1));
  }

  spelled : (b : Bool) → IsSpelledReply (reply b)
  spelled b = record {
    to = to_ordered b;
    last = last_is_vector b;
    times = times_are b;
    items = λ i m. let x = item_is i m in subst IsSpelledItem (sym x.1) (item_spelled x.0);
  }

  abbrev is_last : Bool
  is_last = length sent == length (candidates rows from q.vector)

  pub reply_spelled : IsSpelledReply (reply_to s q now)
  reply_spelled = spelled is_last

-- what a formed state answers is of the form of a reply, whatever was asked
pub served_is_spelled : (s : State) (q : Request) (r : Reply) (now : ℕ) → IsFormed s → SayOfTheirKeys (updates_of s.store.rows) → serve s q now ≡ Ok r
    → IsSpelledReply r
served_is_spelled s q r now formed says e =
    let t = answered (serve_refusal s q) (reply_to s q now) r e in
    subst IsSpelledReply t.1 (reply_spelled s q now formed says t.0)
