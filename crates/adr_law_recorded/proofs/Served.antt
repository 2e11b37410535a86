-- What a state of a log answers to a request in range is a reply in range, and of the form of one.
use Rattle.std.proofs.Common.{◌≡◌, ℕ, ◌-◌, ◌≤◌, ◌<◌, ◌^◌, List, [], ◌∷◌, Bool, true, false, cond, ◌||◌, ◌==◌, None, Ok, refl, sym, subst, length, arith}
use Rattle.std.specs.Prelude.{if◌then◌else◌, IfSome, filter, not}
use Rattle.std.specs.Bool.{then_some}
use Rattle.std.specs.List.{AllByRecursion}
use Rattle.std.proofs.lemmas.Bool.{or_parts, eqb-false}
use Rattle.std.proofs.lemmas.List.{length-map}
use Rattle.adr_values.specs.declared.stamp.LinkStamp.{LinkStamp}
use Rattle.adr_values.specs.declared.stamp.Unit.{Unit as Named}
use Rattle.adr_values.specs.Vector.{Cursors}
use Rattle.adr_wire.specs.Ranges.{IsCursor, IsMark, IsU64}
use Rattle.adr_model.specs.Update.{Identifier, Key, RowOf, LinkOf, Said, Holds, IsPresent, Update, same_identifier}
use Rattle.adr_model.specs.Store.{State, updates_of}
use Rattle.adr_model.specs.Change.{Item}
use Rattle.adr_model.specs.Serve.{Request, Reply, item_of, item_length, candidates, byte_limit, first_items, times_told, reply_to, serve_refusal, serve}
use Rattle.adr_model.specs.Spelled.{IsSaidOfKey, SayOfTheirKeys, IsSpelledReply}
use Rattle.adr_law_knowledge.proofs.Refusing.{answered}
use Rattle.adr_law_calls.proofs.Rows.{held_as}
use Rattle.adr_law_calls.proofs.Served as answer
use Rattle.adr_image.specs.Stored.{IsSpelledRow}
use Rattle.adr_image.proofs.Staying.{raised_moments}
use Rattle.adr_records.specs.BodyLaws.{content_of_attr}
use Rattle.adr_records.specs.Logged.{IsLogged}
use Rattle.adr_law_recorded.specs.Ranged.{IsRangedItem, IsRangedReply, IsRangedRequest}

-- ---- what a spelled row says

says_of_key : (key : Key) (said : Said) (stamp : LinkStamp) → IsSpelledRow key said stamp → IsSaidOfKey key said
says_of_key (RowOf o attr) (Holds content) stamp spelled = content_of_attr o attr content spelled.2
says_of_key (RowOf o attr) (IsPresent b) stamp spelled = spelled
says_of_key (LinkOf l) (Holds content) stamp spelled = spelled
says_of_key (LinkOf l) (IsPresent b) stamp spelled = tt

-- ---- the first items are no more than were asked for

few_first : (most bytes : ℕ) (cs : List (ℕ × Item)) → length (first_items most bytes cs) ≤ most
few_first most bytes [] = omega arith
few_first most bytes (c ∷ cs) =
    by ((most == 0) || (bytes == 0)) refl (few_first (most - 1) (bytes - item_length c.1) cs)
  where
    next : List (ℕ × Item)
    next = first_items (most - 1) (bytes - item_length c.1) cs

    by : (b : Bool) → ((most == 0) || (bytes == 0)) ≡ b → length next ≤ most - 1
        → length (cond b [] (c ∷ next)) ≤ most
    by true is few = omega arith
    by false is few = let some = eqb-false most 0 (or_parts (most == 0) (bytes == 0) is).0 in omega (arith, few, some)

-- ---- moments that are told

passing_moments : (test : Identifier × ℕ → Bool) (ts : Cursors) → AllByRecursion (λ t. IsU64 t.1) ts → AllByRecursion (λ t. IsU64 t.1) (filter test ts)
passing_moments test [] all = tt
passing_moments test (t ∷ ts) all = by (test t) (passing_moments test ts all.1)
  where
    by : (b : Bool) → AllByRecursion (λ (x : Identifier × ℕ). IsU64 x.1) (filter test ts) → AllByRecursion (λ (x : Identifier × ℕ). IsU64 x.1) (cond b (t ∷ filter test ts) (filter test ts))
    by true rest = (all.0, rest)
    by false rest = rest

told_ranged : (s : State) (now : ℕ) → now < 2 ^ 64 → AllByRecursion (λ t. IsU64 t.1) s.store.times → AllByRecursion (λ t. IsU64 t.1) (times_told s now)
told_ranged s now fits all =
    raised_moments (filter (λ (t : Identifier × ℕ). not (same_identifier t.0 s.inv)) s.store.times) s.inv (cond (s.store.usn == 0) 0 now) (passing_moments _ s.store.times all) (own (s.store.usn == 0))
  where
    own : (b : Bool) → IsU64 (cond b 0 now)
    own true = omega arith
    own false = fits

-- ---- its ranges

module _ (s : State) (q : Request) (now : ℕ) (logged : IsLogged s) (says : SayOfTheirKeys (updates_of s.store.rows)) (ranged : IsRangedRequest q)
    (fits : now < 2 ^ 64) (none : serve_refusal s q ≡ None) where
  abbrev sent : List (ℕ × Item)
  sent = answer.sent s q now logged.formed says none

  abbrev reply : Bool → Reply
  reply b = answer.reply s q now logged.formed says none b

  to_in_range : (b : Bool) → IsMark (reply b).to
  to_in_range true = (logged.spelled.usn, (logged.spelled.usn, logged.spelled.usn))
  to_in_range false =
      let began = answer.began s q now logged.formed says none in
      let seen_before = answer.seen_before s q now logged.formed says none in
      let read_to = answer.read_to s q now logged.formed says none in (
        omega (arith, read_to.1, logged.spelled.usn),
        (omega (arith, began.prop, began.obj, seen_before, logged.spelled.usn), logged.spelled.usn),
      )

  last_in_range : (b : Bool) → IfSome (then_some b s.store.vector) (AllByRecursion IsCursor)
  last_in_range true = logged.spelled.vector
  last_in_range false = tt

  told_in_range : (b : Bool) → AllByRecursion (λ t. IsU64 t.1) (reply b).times
  told_in_range true = by (q.version == 2)
    where
      by : (two : Bool) → AllByRecursion (λ (t : Identifier × ℕ). IsU64 t.1) (if two then times_told s now else [])
      by true = told_ranged s now fits logged.spelled.times
      by false = tt
  told_in_range false = tt

  row_in_range : (unit : Named) → IsRangedItem (item_of (answer.unseen s q now logged.formed says none) unit)
  row_in_range unit u m =
      let h = answer.row_is s q now logged.formed says none unit u m in
      subst (λ (v : Update). IsSpelledRow v.key v.said v.stamp) (sym h.2) (logged.spelled.rows h.0 h.1)

  in_range : (b : Bool) → IsRangedReply (reply b)
  in_range b = record {
    version = ranged.version;
    source = logged.dsa;
    inv = logged.inv;
    to = to_in_range b;
    last = last_in_range b;
    times = told_in_range b;
    few = omega (
      arith,
      length-map sent (λ (c : ℕ × Item). c.1),
      few_first q.max byte_limit (candidates s.store.rows (answer.from s q now logged.formed says none) q.vector),
      ranged.max,
    );
    items = λ i m. let x = answer.item_is s q now logged.formed says none i m in subst IsRangedItem (sym x.1) (row_in_range x.0);
  }

  pub reply_in_range : IsRangedReply (reply_to s q now)
  reply_in_range = in_range (length sent == length (candidates s.store.rows (answer.from s q now logged.formed says none) q.vector))

-- the rows of a spelled store say so
pub logged_says : (s : State) → IsLogged s → SayOfTheirKeys (updates_of s.store.rows)
logged_says s logged u m =
    let h = held_as s.store.rows u m in
    subst (λ (v : Update). IsSaidOfKey v.key v.said) (sym h.2) (says_of_key h.0.update.key h.0.update.said h.0.update.stamp (logged.spelled.rows h.0 h.1))

pub served_in_range : (s : State) (q : Request) (r : Reply) (now : ℕ) → IsLogged s → IsRangedRequest q → now < 2 ^ 64 → serve s q now ≡ Ok r
    → IsSpelledReply r × IsRangedReply r
served_in_range s q r now logged ranged fits e =
    let t = answered (serve_refusal s q) (reply_to s q now) r e in (
      answer.served_is_spelled s q r now logged.formed (logged_says s logged) e,
      subst IsRangedReply t.1 (reply_in_range s q now logged (logged_says s logged) ranged fits t.0),
    )
