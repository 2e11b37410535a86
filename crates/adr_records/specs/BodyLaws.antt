-- A change that may be recorded is read from its body and follows, and what follows leads to a state of a log.
use Rattle.std.proofs.Common.{◌≡◌, ℕ, ◌≤◌, Bool, true, false, cond, eqb, leb, List, [], ◌∷◌, ◌&&◌, length, map, Option, Some, None, refl, sym, ap, subst, ◌∙◌, arith, inl, inr}
use Rattle.std.specs.List.{AllByRecursion, list_all}
use Rattle.std.specs.List.Sorted.{IsStrictlySortedBy}
use Rattle.std.specs.Option.{IfSome}
use Rattle.std.specs.Ordering.{nat_cmp, ordering_then}
use Rattle.std.specs.declared.cmp.Ordering.{Ordering}
use Rattle.std.specs.declared.cmp.Ordering.TheVariants.{Less}
use Rattle.std.proofs.lemmas.Bool.{and_from, and_parts, eq-eqb, eqb-true, le-leb, leb-true}
use Rattle.std.proofs.lemmas.Cmp.{nat_cmp_total, tied_itself}
use Rattle.adr_values.specs.declared.stamp.Oid.{Oid}
use Rattle.adr_values.specs.declared.stamp.Unit.TheVariants.{Object}
use Rattle.adr_values.specs.contracts.stamp.OidOrd.TheImpl.Laws.{total-law as objects_total}
use Rattle.adr_values.specs.declared.content.Content.{Content}
use Rattle.adr_values.specs.declared.content.Content.TheVariants.{Class, Name, Dead, Values}
use Rattle.adr_wire.specs.Composites.{Row}
use Rattle.adr_wire.specs.Pieces.{Piece, OfRows, OfLink, IsPiece}
use Rattle.adr_wire.specs.Ranges.{InTurn, IsContent, IsRowAbove}
use Rattle.adr_wire.specs.Reading.{is_above}
use Rattle.adr_wire.specs.Spelling.{AreBytes}
use Rattle.adr_law_lengths.specs.Written.{update_of}
use Rattle.adr_model.specs.Change.{Change, Written, after}
use Rattle.adr_model.specs.Lengths.{change_length, area_version}
use Rattle.adr_model.specs.LocalLog.{IsOrdered}
use Rattle.adr_model.specs.Member.{Each, Member}
use Rattle.adr_model.specs.Store.{State}
use Rattle.adr_model.specs.Update.{Key, RowOf, LinkOf, IsPresent, Update, key_order, unit_of}
use Rattle.adr_model.specs.Spelled.{AreLocalsRising, IsContentOfAttr, IsSaidOfKey, IsSpelledChange, IsSpelledItem, IsSpelledWrite}
use Rattle.adr_law_calls.specs.Follow.{CanFollow}
use Rattle.adr_law_calls.specs.Tested.{can_follow}
use Rattle.adr_law_calls.proofs.WholeTested.{follows_where_tested, tested_where_follows}
use Rattle.adr_journal.specs.Kept.{ids_of}
use Rattle.adr_image.specs.Body.{IsMarkIf, IsWrite, Write}
use Rattle.adr_image.specs.Changes.{HasBody, decoded_change, item_of, written_of}
use Rattle.adr_wire.specs.Headed.{is_version}
use Rattle.adr_image.specs.Image.{Marked}
use Rattle.adr_image.proofs.Recorded.{change_again, change_long, change_only}
use Rattle.adr_image.proofs.Staying.{stays_spelled}
use Rattle.adr_image.proofs.Storing.{chain, less_from_test}
use Rattle.adr_image.proofs.Taking.{less_is}
use Rattle.adr_records.specs.Body.{are_locals_within, body_of, by_change, following, following_in}
use Rattle.adr_records.specs.Logged.{IsLogged, MayBegin, MayBeRecorded}

-- ---- what a body in range says is of the form of a change

locals_rise : (last usn : ℕ) (ws : List Write) → InTurn (λ (w : Write). w.0) IsWrite (Some last) ws → list_all (λ (w : Written). leb w.local usn) (map written_of ws) ≡ true → AreLocalsRising last usn (map written_of ws)
locals_rise last usn [] turn all = tt
locals_rise last usn (w ∷ ws) turn all =
    let a = and_parts (leb w.0 usn) (list_all (λ (v : Written). leb v.local usn) (map written_of ws)) all in
    (less_is last w.0 (less_from_test (nat_cmp last w.0) turn.0.0.1), leb-true w.0 usn a.0, locals_rise w.0 usn ws turn.1 a.1)

mark_in_order : (m : Option Marked) → IsMarkIf m → IfSome m (λ k. IsOrdered k.1.mark)
mark_in_order None q = tt
mark_in_order (Some k) q =
    let a = and_parts (leb k.1.mark.prop k.1.mark.obj) (leb k.1.mark.obj k.1.mark.seen) q.1.1.1 in
    record { prop = leb-true k.1.mark.prop k.1.mark.obj a.0; obj = leb-true k.1.mark.obj k.1.mark.seen a.1 }

abbrev attrs : List Row → List ℕ
attrs rows = map (λ (r : Row). r.0) rows

abbrev keys : List Update → List Key
keys us = map (λ (u : Update). u.key) us

module _ (o : Oid) where
  of_object : (rows : List Row) → Each (λ u. unit_of u.key ≡ Object o) (map (update_of o) rows)
  of_object [] u m = absurd m
  of_object (r ∷ rs) u (inl e) = ap (λ (v : Update). unit_of v.key) e
  of_object (r ∷ rs) u (inr m) = of_object rs u m

  attrs_in_turn : (last : Option ℕ) (rows : List Row) → InTurn (λ (r : Row). r.0) IsRowAbove last rows → InTurn (λ (r : Row). r.0) (λ last r. is_above nat_cmp last r.0 ≡ true) last rows
  attrs_in_turn last [] turn = tt
  attrs_in_turn last (r ∷ rs) turn = (turn.0.1, attrs_in_turn (Some r.0) rs turn.1)

  keys_below : (attr : ℕ) (rows : List Row) → AllByRecursion (λ b. nat_cmp attr b ≡ Less) (attrs rows) → AllByRecursion (λ k. key_order (RowOf o attr) k ≡ Less) (keys (map (update_of o) rows))
  keys_below attr [] all = tt
  keys_below attr (r ∷ rs) all = (ap (λ (w : Ordering). ordering_then w (nat_cmp attr r.0)) (tied_itself objects_total o) ∙ all.0, keys_below attr rs all.1)

  keys_rise : (rows : List Row) → IsStrictlySortedBy nat_cmp (attrs rows) → IsStrictlySortedBy key_order (keys (map (update_of o) rows))
  unfolding IsStrictlySortedBy
  keys_rise [] s = tt
  keys_rise (r ∷ rs) s = (keys_below r.0 rs s.0, keys_rise rs s.1)

  other : (attr n : ℕ) → eqb attr n ≡ false → attr ≡ n → ⊥
  other attr n differs is = let same : eqb attr n ≡ true = eq-eqb attr n is in cc

  pub content_of_attr : (attr : ℕ) (content : Content) → IsContent attr content → IsContentOfAttr attr content
  content_of_attr attr (Class class) q = eqb-true attr 1 q.0
  content_of_attr attr (Name text parent) q = eqb-true attr 2 q.0
  content_of_attr attr Dead q = eqb-true attr 3 q
  content_of_attr attr (Values vs) q = (other attr 1 q.0, other attr 2 q.1, other attr 3 q.2)

  rows_say : (last : Option ℕ) (rows : List Row) → InTurn (λ (r : Row). r.0) IsRowAbove last rows → Each (λ u. IsSaidOfKey u.key u.said) (map (update_of o) rows)
  rows_say last [] turn u m = absurd m
  rows_say last (r ∷ rs) turn u (inl e) = subst (λ (v : Update). IsSaidOfKey v.key v.said) (sym e) (content_of_attr r.0 r.2 turn.0.0.1.1)
  rows_say last (r ∷ rs) turn u (inr m) = rows_say (Some r.0) rs turn.1 u m

  one_there : (rows : List Row) → 1 ≤ length rows → (u : Update) × Member u (map (update_of o) rows)
  one_there [] some = absurd (omega (arith, some))
  one_there (r ∷ rs) some = (update_of o r, inl refl)

piece_spelled : (p : Piece) → IsPiece p → IsSpelledItem (item_of p) × ((u : Update) × Member u (item_of p).rows)
unfolding IsStrictlySortedBy
piece_spelled (OfRows x) q = (
  record {
    of_unit = of_object x.0 x.1;
    rising = keys_rise x.0 x.1 (chain nat_cmp nat_cmp_total (λ (r : Row). r.0) None x.1 (attrs_in_turn x.0 None x.1 q.1.1)).0;
    says = rows_say x.0 None x.1 q.1.1;
  },
  one_there x.0 x.1 q.1.0.0,
)
piece_spelled (OfLink l) q = (record { of_unit = of_it; rising = (tt, tt); says = says_it }, (record { key = LinkOf l.0; stamp = l.1; said = IsPresent l.2 }, inl refl))
  where
    of_it : Each (λ u. unit_of u.key ≡ (item_of (OfLink l)).unit) (item_of (OfLink l)).rows
    of_it u (inl e) = ap (λ (v : Update). unit_of v.key) e
    of_it u (inr m) = absurd m

    says_it : Each (λ u. IsSaidOfKey u.key u.said) (item_of (OfLink l)).rows
    says_it u (inl e) = subst (λ (v : Update). IsSaidOfKey v.key v.said) (sym e) tt
    says_it u (inr m) = absurd m

writes_spelled : (last : Option ℕ) (ws : List Write) → InTurn (λ (w : Write). w.0) IsWrite last ws → Each IsSpelledWrite (map written_of ws)
writes_spelled last [] turn w m = absurd m
writes_spelled last (x ∷ xs) turn w (inl e) = subst IsSpelledWrite (sym e) (piece_spelled x.1 turn.0.1)
writes_spelled last (x ∷ xs) turn w (inr m) = writes_spelled (Some x.0) xs turn.1 w m

pub change_spelled : (version before schema : ℕ) (c : Change) → HasBody version before schema c → are_locals_within c ≡ true → IsSpelledChange before c
change_spelled version before schema c has within =
    let b = has.body in
    let q = has.in_range in
    subst (IsSpelledChange before) (sym has.says) (record {
      locals = locals_rise before b.0 b.1.1.1.1.1.1.1 q.1.1.1.1.1.1.1.1 (subst (λ (d : Change). are_locals_within d ≡ true) has.says within);
      mark = mark_in_order b.1.1.1.0 q.1.1.1.0;
      joined = q.1.1.1.1.0.is.cursors.0;
      times = q.1.1.1.1.0.is.times;
      purged = q.1.1.1.1.1.0.0;
      items = writes_spelled (Some before) b.1.1.1.1.1.1.1 q.1.1.1.1.1.1.1.1;
    })

-- ---- what is recorded follows

locals_within : (above usn : ℕ) (ws : List Written) → AreLocalsRising above usn ws → list_all (λ (w : Written). leb w.local usn) ws ≡ true
locals_within above usn [] rise = refl
locals_within above usn (w ∷ ws) rise = and_from (leb w.local usn) (list_all (λ (v : Written). leb v.local usn) ws) (le-leb w.local usn rise.1) (locals_within w.local usn ws rise.2)

pub body_follows : (s : State) (c : Change) → MayBeRecorded s c → following area_version s (body_of c) ≡ Some (after s c)
body_follows s c may =
    ap (by_change s) (change_again area_version s.store.usn s.store.schema c may.body)
    ∙ ap (λ (b : Bool). cond b (Some (after s c)) None)
    (and_from (are_locals_within c) (can_follow s c) (locals_within s.store.usn c.usn c.writes may.follows.goes_on.locals) (tested_where_follows s c may.logged.formed may.follows))

pub body_long : (s : State) (c : Change) → MayBeRecorded s c → length (body_of c) ≡ change_length c
body_long s c may = change_long s.store.usn s.store.schema c may.body

-- ---- what follows is recorded

module _ (version : ℕ) (s : State) where
  -- a change that has a body of a version and is tested can follow
  pub change_follows : (c : Change) → IsLogged s → HasBody version s.store.usn s.store.schema c → are_locals_within c ≡ true → can_follow s c ≡ true → CanFollow s c
  change_follows c logged has within follows = follows_where_tested s c logged.formed logged.classes (change_spelled version s.store.usn s.store.schema c has within) follows

  pub logged_behind : (c : Change) → IsLogged s → CanFollow s c → HasBody version s.store.usn s.store.schema c → IsLogged (after s c)
  logged_behind c logged follows has = record {
    dsa = logged.dsa;
    inv = logged.inv;
    formed = follows.formed;
    spelled = stays_spelled version s c logged.inv logged.spelled has follows.classes;
    classes = follows.classes;
  }

  pub stays_logged : (t : State) (body : List ℕ) → AreBytes body → IsLogged s → following version s body ≡ Some t → IsLogged t
  stays_logged t body are logged follows = by (decoded_change version s.store.usn s.store.schema body) refl follows
    where
      on : (c : Change) (b : Bool) → decoded_change version s.store.usn s.store.schema body ≡ Some c → (are_locals_within c && can_follow s c) ≡ b → cond b (Some (after s c)) None ≡ Some t → IsLogged t
      on c true says passes h =
          let a = and_parts (are_locals_within c) (can_follow s c) passes in
          let has = (change_only version s.store.usn s.store.schema body c are says).0 in
          let is : after s c ≡ t = cc in
          subst IsLogged is (logged_behind c logged (change_follows c logged has a.0 a.1) has)
      on c false says passes h = absurd (cc)

      by : (r : Option Change) → decoded_change version s.store.usn s.store.schema body ≡ r → by_change s r ≡ Some t → IsLogged t
      by (Some c) says h = on c (are_locals_within c && can_follow s c) says refl h
      by None says h = absurd (cc)

  follows_owned : (t : State) (body : List ℕ) → following version s body ≡ Some t → ids_of t ≡ ids_of s
  follows_owned t body follows = by (decoded_change version s.store.usn s.store.schema body) follows
    where
      on : (c : Change) (b : Bool) → cond b (Some (after s c)) None ≡ Some t → ids_of t ≡ ids_of s
      on c true h = let is : after s c ≡ t = cc in ap ids_of (sym is)
      on c false h = absurd (cc)

      by : (r : Option Change) → by_change s r ≡ Some t → ids_of t ≡ ids_of s
      by (Some c) h = on c (are_locals_within c && can_follow s c) h
      by None h = absurd (cc)

pub logged_after : (s : State) (c : Change) → MayBeRecorded s c → IsLogged (after s c)
logged_after s c may = logged_behind area_version s c may.logged may.follows may.body

-- ---- by the version of an area

pub body_follows_in : (s : State) (c : Change) → MayBeRecorded s c → following_in area_version s (body_of c) ≡ Some (after s c)
body_follows_in s c may = body_follows s c may

pub begins_anew : (s : State) (c : Change) → MayBeRecorded s c → MayBegin s
begins_anew s c may = record { logged = may.logged; normal = may.follows.goes_on.normal }

pub stays_owned : (version : ℕ) (s t : State) (body : List ℕ) → AreBytes body → IsLogged s → following_in version s body ≡ Some t → IsLogged t × (ids_of t ≡ ids_of s)
stays_owned version s t body are logged follows = by (is_version version) follows
  where
    by : (b : Bool) → cond b (following version s body) None ≡ Some t → IsLogged t × (ids_of t ≡ ids_of s)
    by true h = (stays_logged version s t body are logged h, follows_owned version s t body h)
    by false h = absurd (cc)
