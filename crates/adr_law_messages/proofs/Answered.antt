-- What a state of a log asks and answers has the form of its bytes, and a reply of the form is one that is taken.
use Rattle.std.proofs.Common.{◌≡◌, ℕ, ◌<◌, ◌≤◌, Bool, true, false, leb, List, [], ◌∷◌, length, map, Option, Some, None, unwrap_or, Result, Ok, ◌==◌, ◌&&◌, ◌^◌, cond, refl, sym, ap, subst, ◌∙◌, inl, inr, ⊎_elim, arith}
use Rattle.std.specs.Bool.{then_some}
use Rattle.std.specs.Prelude.{if◌then◌else◌, is_some}
use Rattle.std.specs.BTreeMap.{is_at}
use Rattle.std.specs.List.{AllByRecursion}
use Rattle.std.specs.Option.{IfSome, option_map}
use Rattle.std.proofs.lemmas.Bool.{and_from, and_parts, eqb-true, le-leb, leb-true, leb-false}
use Rattle.adr_values.specs.declared.stamp.Oid.{Oid}
use Rattle.adr_values.specs.declared.stamp.Unit.{Unit as Named}
use Rattle.adr_values.specs.declared.stamp.Unit.TheVariants.{Object}
use Rattle.adr_values.specs.Order.{identifier_order}
use Rattle.adr_values.specs.Numbered.{numbered}
use Rattle.adr_call.specs.declared.refusal.ServeRefusal.{ServeRefusal}
use Rattle.adr_values.specs.Vector.{Cursors, IsVector}
use Rattle.adr_values.specs.Times.{AreTimesOf}
use Rattle.adr_values.specs.declared.mark.Mark.{Mark}
use Rattle.adr_values.proofs.Moments.{no_times}
use Rattle.adr_wire.specs.Composites.{Row, is_ordered}
use Rattle.adr_wire.specs.Headed.{is_version}
use Rattle.adr_wire.specs.Optional.{IsIfThere}
use Rattle.adr_wire.specs.Pieces.{Piece, OfRows, OfLink, IsPiece}
use Rattle.adr_wire.specs.Ranges.{InTurn, IsCursors, IsCursor, IsId, IsMark, IsOid, IsRowAbove, IsU32, IsU64}
use Rattle.adr_wire.specs.Timed.{IsTimed}
use Rattle.adr_law_lengths.specs.Written.{update_of}
use Rattle.adr_model.specs.Change.{Item}
use Rattle.adr_model.specs.Formed.{AreFormedRows}
use Rattle.adr_model.specs.LocalLog.{IsOrdered}
use Rattle.adr_model.specs.Member.{Each, Member}
use Rattle.adr_model.specs.Place.{identifier}
use Rattle.adr_model.specs.Serve.{Request, Reply, ask, begins_at, byte_limit, candidates, item_of, reply_to, serve_refusal, serve, times_told}
use Rattle.adr_model.specs.Spelled.{IsSpelledItem, IsSpelledReply, SayOfTheirKeys}
use Rattle.adr_model.specs.Store.{Held, PartnerMark, State, kept_of, no_mark, updates_of}
use Rattle.adr_model.specs.Take.{is_reserved_row}
use Rattle.adr_model.specs.Update.{Identifier, Key, RowOf, LinkOf, Update, deleted_attr, same_identifier, unit_of}
use Rattle.adr_model.proofs.Members.{mapped_member, member_left}
use Rattle.adr_law_knowledge.proofs.Refusing.{answered}
use Rattle.adr_law_calls.proofs.Rows.{updated}
use Rattle.adr_law_calls.proofs.Candidates.{candidate_from, row_in_item}
use Rattle.adr_law_calls.proofs.Ground.{first_front}
use Rattle.adr_law_calls.proofs.Tables.{each_found}
use Rattle.adr_law_calls.specs.Taken.{AreBare}
use Rattle.adr_law_calls.proofs.Served as answer
use Rattle.adr_law_calls.proofs.TakenFollow.{nothing_is_vector}
use Rattle.adr_image.specs.Body.{Body}
use Rattle.adr_image.specs.Changes.{HasBody, change_of, item_of as item_said, written_of}
use Rattle.adr_image.specs.Stored.{IsSpelledRow}
use Rattle.adr_image.proofs.WholeLaws.{number_small}
use Rattle.adr_packet.specs.Parts.{IsItem, one_item}
use Rattle.adr_packet.specs.Requests.{IsRequest}
use Rattle.adr_packet.specs.Replies.{IsReply}
use Rattle.adr_records.specs.BodyLaws.{change_spelled}
use Rattle.adr_records.specs.Logged.{IsLogged}
use Rattle.adr_law_recorded.specs.Ranged.{IsRangedItem, IsRangedReply, IsRangedRequest}
use Rattle.adr_law_recorded.proofs.Asked.{no_mark_in_range}
use Rattle.adr_law_recorded.proofs.Bodied.{item_piece}
use Rattle.adr_law_recorded.proofs.Served.{logged_says, served_in_range}

-- ---- what is asked

schema_in_range : (s : State) → IsLogged s → IsU32 s.store.schema
schema_in_range s logged = number_small s.store.schema logged.spelled.schema

pub asked_formed : (s : State) (partner : Identifier) (max version : ℕ) → IsLogged s → IsId partner → 1 ≤ max → IsU32 max → is_version version ≡ true
    → IsRequest (ask s partner max version)
asked_formed s partner max version logged id some few known =
    record {
      version = known;
      dest = logged.dsa;
      source = id;
      inv = kept (λ (k : PartnerMark). IsId k.inv) refl (λ k m. (logged.spelled.marks k m).1.0);
      mark = kept (λ (k : PartnerMark). IsMark k.mark) no_mark_in_range (λ k m. (logged.spelled.marks k m).1.1);
      schema = schema_in_range s logged;
      some = some;
      max = few;
      vector = (logged.formed.store.vector, logged.spelled.vector);
    }
  where
    kept : (P : PartnerMark → Type 0) → P (record { inv = identifier 0; mark = no_mark }) → Each (λ (k : Identifier × PartnerMark). P k.1) s.store.marks → P (kept_of s.store partner)
    kept P none each = each_found P (is_at (identifier_order partner)) s.store.marks (record { inv = identifier 0; mark = no_mark }) none each

-- ---- marks in order

in_order : (m : Mark) → IsOrdered m → is_ordered m ≡ true
in_order m o = and_from (leb m.prop m.obj) (leb m.obj m.seen) (le-leb m.prop m.obj o.prop) (le-leb m.obj m.seen o.obj)

ordered : (m : Mark) → is_ordered m ≡ true → IsOrdered m
ordered m e =
    let both = and_parts (leb m.prop m.obj) (leb m.obj m.seen) e in
    record { prop = leb-true m.prop m.obj both.0; obj = leb-true m.obj m.seen both.1 }

-- ---- items that are answered

-- beside a death in a formed store there are only class, name and deleted rows of its object
module _ (s : State) (formed : AreFormedRows (numbered s.store.schema) (updates_of s.store.rows)) (o : Oid) where
  abbrev all : List Update
  all = updates_of s.store.rows

  named : (p : Oid) → Object p ≡ Object o → p ≡ o
  named p e = cc

  of_row : (attr : ℕ) (u : Update) → u.key ≡ RowOf o attr → Member u all → ((n : ℕ) → deleted_attr < n → Each (λ r. r.key ≡ RowOf o n → ⊥) all) → is_reserved_row (RowOf o attr) ≡ true
  of_row attr u is m bare = and_from (leb 1 attr) (leb attr 3) (least (leb 1 attr) refl) (most (leb attr 3) refl)
    where
      least : (b : Bool) → leb 1 attr ≡ b → leb 1 attr ≡ true
      least true e = e
      least false e =
          let zero_is : attr ≡ 0 = (let more = leb-false 1 attr e in omega (arith, more)) in
          absurd (formed.none o u m (is ∙ ap (λ n. RowOf o n) zero_is))

      most : (b : Bool) → leb attr 3 ≡ b → leb attr 3 ≡ true
      most true e = e
      most false e = absurd (bare attr (let more = leb-false attr 3 e in omega (arith, more)) u m is)

  of_key : (k : Key) (u : Update) → u.key ≡ k → unit_of k ≡ Object o → Member u all → ((n : ℕ) → deleted_attr < n → Each (λ r. r.key ≡ RowOf o n → ⊥) all) → is_reserved_row k ≡ true
  of_key (RowOf p attr) u is unit m bare =
      let same = named p unit in
      ap (λ q. is_reserved_row (RowOf q attr)) same ∙ of_row attr u (is ∙ ap (λ q. RowOf q attr) same) m bare
  of_key (LinkOf l) u is unit m bare = absurd (cc)

  bare_beside : (d u : Update) → Member d all → d.key ≡ RowOf o deleted_attr → Member u all → unit_of u.key ≡ Object o → is_reserved_row u.key ≡ true
  bare_beside d u there death m unit = ⊎_elim
      (λ dead. of_key u.key u refl unit m dead.bare)
      (λ live. absurd (live.0 (d, there, death)))
      (formed.objects o (d, deleted_attr, there, death))

module _ (s : State) (q : Request) (now : ℕ) (logged : IsLogged s) (says : SayOfTheirKeys (updates_of s.store.rows)) (none : serve_refusal s q ≡ None) where
  abbrev unseen : List Held
  unseen = answer.unseen s q now logged.formed says none

  abbrev items : List Item
  items = answer.items s q now logged.formed says none

  -- a row of which an item is sent
  some_row : (i : Item) → Member i items → (x : Held) × Member x unseen × (i ≡ item_of unseen (unit_of x.update.key))
  some_row i m =
      let c = mapped_member (λ (c : ℕ × Item). c.1) (answer.sent s q now logged.formed says none) i m in
      let front = first_front q.max byte_limit (candidates s.store.rows (answer.from s q now logged.formed says none) q.vector) in
      let x = candidate_from s.store.rows unseen c.0 (subst (λ (cs : List (ℕ × Item)). Member c.0 cs) front.1 (member_left (answer.sent s q now logged.formed says none) front.0 c.0 c.1)) in
      (x.0, x.1, c.2 ∙ ap (λ (d : ℕ × Item). d.1) x.2)

  there : (unit : Named) (u : Update) → Member u (item_of unseen unit).rows → Member u (updates_of s.store.rows) × (unit_of u.key ≡ unit)
  there unit u m =
      let h = answer.row_is s q now logged.formed says none unit u m in
      (subst (λ v. Member v (updates_of s.store.rows)) (sym h.2) (updated s.store.rows h.0 h.1), ap (λ (v : Update). unit_of v.key) h.2 ∙ h.3)

  bare : (unit : Named) → AreBare (item_of unseen unit).rows
  bare unit d m death u n =
      let one = there unit d m in
      let two = there unit u n in
      bare_beside s logged.formed.store.rows death.0 d u one.0 death.1 two.0 (two.1 ∙ sym one.1 ∙ ap unit_of death.1)

  item_formed : IsSpelledReply (reply_to s q now) → IsRangedReply (reply_to s q now) → Each IsItem items
  item_formed spelled ranged i m =
      let x = some_row i m in
      let unit = unit_of x.0.update.key in
      let p = item_piece unit (item_of unseen unit).rows (x.0.update, row_in_item s.store.rows unseen x.0 x.1)
      (subst IsSpelledItem x.2 (spelled.items i m)) (bare unit) (subst IsRangedItem x.2 (ranged.items i m)) in
      record { piece = p.piece; in_range = p.in_range; says = x.2 ∙ sym p.says }

-- ---- items in any order

each_in_turn : (last : Option (Unit {0})) (is : List Item) → Each IsItem is → InTurn one_item (λ _. IsItem) last is
each_in_turn last [] each = tt
each_in_turn last (i ∷ is) each = (each i (inl refl), each_in_turn (Some tt) is (λ j m. each j (inr m)))

from_turn : (last : Option (Unit {0})) (is : List Item) → InTurn one_item (λ _. IsItem) last is → Each IsItem is
from_turn last [] turn i m = absurd m
from_turn last (j ∷ js) turn i (inl e) = subst IsItem (sym e) turn.0
from_turn last (j ∷ js) turn i (inr m) = from_turn (Some tt) js turn.1 i m

-- ---- what is answered

module _ (s : State) (q : Request) (now : ℕ) (logged : IsLogged s) (asked : IsRequest q) (none : serve_refusal s q ≡ None)
    (spelled : IsSpelledReply (reply_to s q now)) (ranged : IsRangedReply (reply_to s q now)) where
  says : SayOfTheirKeys (updates_of s.store.rows)
  says = logged_says s logged

  from_in_range : IsMark (begins_at s q)
  from_in_range = by (same_identifier q.inv s.inv)
    where
      by : (b : Bool) → IsMark (cond b q.mark no_mark)
      by true = asked.mark
      by false = no_mark_in_range

  abbrev told : Bool → Cursors
  told b = if b && (q.version == 2) then times_told s now else []

  -- a reply of version 1 tells no times
  none_told : (q.version == 1) ≡ true → told true ≡ []
  none_told one = ap (λ (n : ℕ). if n == 2 then times_told s now else []) (eqb-true q.version 1 one)

  last_formed : (b : Bool) → AreTimesOf (unwrap_or (then_some b s.store.vector) []) (cond (is_some (then_some b s.store.vector)) (told b) [])
      → AllByRecursion (λ t. IsU64 t.1) (told b) → IsIfThere (IsTimed q.version) (option_map (λ v. (v, told b)) (then_some b s.store.vector))
  last_formed true times moments = record {
    is = record { cursors = (logged.formed.store.vector, logged.spelled.vector); times = times; moments = moments };
    none = none_told;
  }
  last_formed false times moments = tt

  -- nor does one that isn't the last
  untold : (b : Bool) → then_some b s.store.vector ≡ None → told b ≡ []
  untold true e = absurd (cc)
  untold false e = refl

  abbrev is_last : Bool
  is_last = length (answer.sent s q now logged.formed says none) == length (candidates s.store.rows (begins_at s q) q.vector)

  reply_formed : IsReply (reply_to s q now)
  reply_formed = record {
    version = asked.version;
    dest = asked.dest;
    source = ranged.source;
    inv = ranged.inv;
    from = (from_in_range, in_order (begins_at s q) (answer.began s q now logged.formed says none));
    to = (ranged.to, in_order (reply_to s q now).to spelled.to);
    schema = schema_in_range s logged;
    asked = asked.vector;
    told = last_formed is_last spelled.times ranged.times;
    untold = untold is_last;
    items = (ranged.few, each_in_turn None (reply_to s q now).items (item_formed s q now logged says none spelled ranged));
  }

pub served_formed : (s : State) (q : Request) (r : Reply) (now : ℕ) → IsLogged s → IsRequest q → now < 2 ^ 64 → serve s q now ≡ Ok r → IsReply r
served_formed s q r now logged asked small e =
    let t = answered (serve_refusal s q) (reply_to s q now) r e in
    let fits : IsRangedRequest q = record { version = asked.version; mark = asked.mark; max = asked.max } in
    let right = served_in_range s q (reply_to s q now) now logged fits small (e ∙ ap (λ (x : Reply). served x) (sym t.1)) in
    subst IsReply t.1 (reply_formed s q now logged asked t.0 right.0 right.1)
  where
    served : Reply → Result Reply ServeRefusal
    served x = Ok x

-- ---- what is taken

abbrev only_written : Piece → Body
only_written p = (1, (false, (1, (None, (([], []), ([], ([], (1, p) ∷ [])))))))

-- an item is spelled, as the change is that writes it alone
piece_spelled : (p : Piece) → IsPiece p → IsSpelledItem (item_said p)
piece_spelled p q = ((change_spelled 1 0 1 (change_of (only_written p)) has refl).items (written_of (1, p)) (inl refl)).0
  where
    empty : IsCursors []
    empty = (nothing_is_vector, tt)

    timed : IsTimed 1 ([], [])
    timed = record { is = record { cursors = empty; times = no_times []; moments = tt }; none = λ one. refl }

    has : HasBody 1 0 1 (change_of (only_written p))
    has = record {
      body = only_written p;
      in_range = (omega arith, (tt, (refl, (tt, (timed, (empty, ((omega arith, tt), (omega arith, ((((omega arith, omega arith), refl), q), tt)))))))));
      says = refl;
    }

abbrev IsRightUpdate : Update → Type 0
IsRightUpdate u = IsSpelledRow u.key u.said u.stamp

rows_right : (o : Oid) (last : Option ℕ) (rows : List Row) → IsOid o → InTurn (λ (r : Row). r.0) IsRowAbove last rows → Each IsRightUpdate (map (update_of o) rows)
rows_right o last [] id turn u m = absurd m
rows_right o last (r ∷ rs) id turn u (inl e) = subst IsRightUpdate (sym e) (id, turn.0.0.0, turn.0.0.1.1, turn.0.0.1.0, refl)
rows_right o last (r ∷ rs) id turn u (inr m) = rows_right o (Some r.0) rs id turn.1 u m

piece_right : (p : Piece) → IsPiece p → IsRangedItem (item_said p)
piece_right (OfRows x) q u m = rows_right x.0 None x.1 q.0 q.1.1 u m
piece_right (OfLink l) q u (inl e) = subst IsRightUpdate (sym e) (q.0.0, q.0.1.0, q.0.1.1, q.1.0, q.1.1)
piece_right (OfLink l) q u (inr m) = absurd m

-- the vector of a last reply, and what is told beside it
record IsLastTaken (last : Option Cursors) (times : Cursors) : Type 0 where
  vector : IsVector (unwrap_or last [])
  cursors : IfSome last (AllByRecursion IsCursor)
  told : AreTimesOf (unwrap_or last []) (cond (is_some last) times [])
  moments : AllByRecursion (λ t. IsU64 t.1) times

last_taken : (version : ℕ) (last : Option Cursors) (times : Cursors) → IsIfThere (IsTimed version) (option_map (λ v. (v, times)) last) → (last ≡ None → times ≡ [])
    → IsLastTaken last times
last_taken version None times q none = record {
  vector = nothing_is_vector;
  cursors = tt;
  told = no_times [];
  moments = subst (AllByRecursion (λ t. IsU64 t.1)) (sym (none refl)) tt;
}
last_taken version (Some v) times q none = record { vector = q.is.cursors.0; cursors = q.is.cursors.1; told = q.is.times; moments = q.is.moments }

pub reply_taken : (r : Reply) → IsReply r → IsSpelledReply r × IsRangedReply r
reply_taken r p =
    let items = from_turn None r.items p.items.1 in
    let last = last_taken r.version r.last r.times p.told p.untold in (
      record {
        to = ordered r.to p.to.1;
        last = last.vector;
        times = last.told;
        items = λ i m. let q = items i m in subst IsSpelledItem (sym q.says) (piece_spelled q.piece q.in_range);
      },
      record {
        version = p.version;
        source = p.source;
        inv = p.inv;
        to = p.to.0;
        last = last.cursors;
        times = last.moments;
        few = p.items.0;
        items = λ i m. let q = items i m in subst IsRangedItem (sym q.says) (piece_right q.piece q.in_range);
      },
    )
