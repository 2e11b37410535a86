-- Room for rows stays, and so do hints.
use Rattle.std.proofs.Common.{◌≡◌, ◌⊎◌, inl, inr, refl, sym, ap, ◌∙◌, subst, arith, ℕ, ◌+◌, ◌-◌, ◌<◌, ◌≤◌, length, take, drop, List, [], ◌∷◌, Bool, true, false, cond, ◌||◌, Option, Some, None, zero, suc, slice_index_or}
use Rattle.std.specs.Prelude.{IsSome, is_some}
use Rattle.std.specs.Map.{keys_of, lookup}
use Rattle.std.specs.Option.{option_map}
use Rattle.std.specs.BTreeMap.{is_at}
use Rattle.std.specs.BTreeSet.{BTreeSet, contains}
use Rattle.std.proofs.lemmas.Bool.{cases_lt}
use Rattle.std.proofs.lemmas.List.{get_or-drop, get_or-take, get_or_default, length-take}
use Rattle.adr_values.specs.declared.stamp.LinkKey.{LinkKey}
use Rattle.adr_values.specs.declared.stamp.Oid.{Oid}
use Rattle.adr_model.proofs.Keys.{equal_order}
use Rattle.adr_model.specs.Update.{Key, RowOf, LinkOf}
use Rattle.adr_model.specs.Change.{stripped}
use Rattle.adr_model.specs.Member.{Each}
use Rattle.adr_model.specs.Store.{Held, with_row}
use Rattle.adr_shelves.specs.declared.place.Place.{Place}
use Rattle.adr_table.specs.declared.slots.Slots.{Slots}
use Rattle.adr_table.specs.declared.back.Behind.{Behind}
use Rattle.adr_table.specs.declared.locals.Local.{Local}
use Rattle.adr_table.specs.declared.table.Table.{Table}
use Rattle.adr_shelves.specs.Place.{place_of, place_order}
use Rattle.adr_table.specs.Slots.{HasSlot, IsTidy, places, row_at, rows_seen}
use Rattle.adr_table.specs.Back.{AreBacked, IsHinted, behind_order, hint, link_behind}
use Rattle.adr_table.specs.Deaths.{IsListed}
use Rattle.adr_table.specs.Locals.{AreLocated, IsLocated}
use Rattle.adr_table.specs.Table.{HasRoom, HaveRoom, IsKept}
use Rattle.adr_table.proofs.LocalsKept.{each_same, each_stripped, each_written}
use Rattle.adr_shelves.proofs.Entries.{Entries}
use Rattle.adr_shelves.proofs.Places.{same_place}
use Rattle.adr_table.proofs.Behinds.{exact_behinds}

pub still_none : (b : Bool) (o : Option Held) → o ≡ None → cond b None o ≡ None
still_none true o e = refl
still_none false o e = e

abbrev any_key : (Place → Bool) → List Place → Bool
any_key test [] = false
any_key test (p ∷ ps) = test p || any_key test ps

by_keys : (test : Place → Bool) (es : Entries) → is_some (lookup test es) ≡ any_key test (keys_of es)
by_keys test [] = refl
by_keys test (e ∷ es) = by (test e.0) (by_keys test es)
  where
    by : (b : Bool) → is_some (lookup test es) ≡ any_key test (keys_of es) → is_some (cond b (Some e.1) (lookup test es)) ≡ (b || any_key test (keys_of es))
    by true h = refl
    by false h = h

-- slots of the same places
pub slot_stays : (old new : Slots) → places new ≡ places old → (q : Place) → HasSlot old q → HasSlot new q
slot_stays old new same q some =
    by_keys (is_at (place_order q)) new.map ∙ ap (any_key (is_at (place_order q))) same ∙ sym (by_keys (is_at (place_order q)) old.map) ∙ some

pub room_stays : (old new : Slots) (back : BTreeSet Behind) (dead : BTreeSet Oid) (locals : BTreeSet Local) → places new ≡ places old → (h : Held)
    → HasRoom (record { slots = old; back = back; dead = dead; locals = locals }) h → HasRoom (record { slots = new; back = back; dead = dead; locals = locals }) h
room_stays old new back dead locals same h room =
    record { slot = slot_stays old new same (place_of h.update.key) room.slot; hinted = room.hinted; listed = room.listed; located = room.located }

-- a row that is written has its hint
pub backed_more : (old new : Slots) (back : BTreeSet Behind) (row : Held) → AreBacked old back → IsHinted back row.update.key
    → ((q : Place) → row_at new q ≡ cond (is_at (place_order (place_of row.update.key)) q) (Some row) (row_at old q)) → AreBacked new back
backed_more old new back row backed hinted rows l some = by (is_at (place_order (place_of row.update.key)) (place_of (LinkOf l))) refl (rows (place_of (LinkOf l)))
  where
    by : (b : Bool) → is_at (place_order (place_of row.update.key)) (place_of (LinkOf l)) ≡ b → row_at new (place_of (LinkOf l)) ≡ cond b (Some row) (row_at old (place_of (LinkOf l))) → contains behind_order back (hint l) ≡ true
    by true at e = subst (IsHinted back) (same_place row.update.key (LinkOf l) at) hinted
    by false at e = backed l (subst IsSome e some)

nothing : (o : Option Held) → o ≡ None → IsSome o → ⊥
nothing None e some = cc
nothing (Some h) e some = cc

-- and so have fewer rows
pub backed_fewer : (old new : Slots) (back : BTreeSet Behind) → AreBacked old back → ((q : Place) → row_at old q ≡ None → row_at new q ≡ None) → AreBacked new back
backed_fewer old new back backed fewer l some = by (row_at old (place_of (LinkOf l))) refl
  where
    by : (o : Option Held) → row_at old (place_of (LinkOf l)) ≡ o → contains behind_order back (hint l) ≡ true
    by None is = absurd (nothing (row_at new (place_of (LinkOf l))) (fewer (place_of (LinkOf l)) is) some)
    by (Some h) is = backed l (ap is_some is)

pub backed_same : (old new : Slots) (back back' : BTreeSet Behind) → AreBacked old back → ((k : Key) → IsHinted back k → IsHinted back' k) → ((q : Place) → row_at new q ≡ row_at old q) → AreBacked new back'
backed_same old new back back' backed more same l some = more (LinkOf l) (backed l (subst IsSome (same (place_of (LinkOf l))) some))

-- the link of a row that is held has its hint
pub hinted_held : (slots : Slots) (back : BTreeSet Behind) → AreBacked slots back → (k : Key) → IsSome (row_at slots (place_of k)) → IsHinted back k
hinted_held slots back backed (RowOf o a) some = tt
hinted_held slots back backed (LinkOf l) some = backed l some

pub mapped_some : {X Y : Type 0} (f : X → Y) (o : Option X) (y : Y) → Some y ≡ option_map f o → IsSome o
mapped_some f None y e = cc
mapped_some f (Some x) y e = refl

links_apart : (k l : LinkKey) → is_at (behind_order (hint k)) (hint l) ≡ true → k ≡ l
links_apart k l at = let same : Some k ≡ Some l = ap link_behind (exact_behinds (hint k) (hint l) (equal_order (behind_order (hint k) (hint l)) at)) in cc

-- a hint goes that has no row
pub backed_without : (old new : Slots) (back back' : BTreeSet Behind) (link : LinkKey) → AreBacked old back → row_at old (place_of (LinkOf link)) ≡ None
    → ((b : Behind) → contains behind_order back' b ≡ cond (is_at (behind_order (hint link)) b) false (contains behind_order back b))
    → ((q : Place) → row_at new q ≡ row_at old q) → AreBacked new back'
backed_without old new back back' link backed none without same l some =
    without (hint l) ∙ by (is_at (behind_order (hint link)) (hint l)) refl
  where
    there : IsSome (row_at old (place_of (LinkOf l)))
    there = subst IsSome (same (place_of (LinkOf l))) some

    by : (t : Bool) → is_at (behind_order (hint link)) (hint l) ≡ t → cond t false (contains behind_order back (hint l)) ≡ true
    by true at = absurd (nothing (row_at old (place_of (LinkOf l))) (subst (λ k. row_at old (place_of (LinkOf k)) ≡ None) (links_apart link l at) none) there)
    by false at = backed l there

-- ---- slots and hints are made

-- where all stay and more are made, room stays
pub room_more : (t s : Table) (h : Held) → ((q : Place) → HasSlot t.slots q → HasSlot s.slots q) → ((k : Key) → IsHinted t.back k → IsHinted s.back k)
    → ((k : Key) → IsListed t.dead k → IsListed s.dead k) → ((x : Held) → IsLocated t.locals x → IsLocated s.locals x) → HasRoom t h → HasRoom s h
room_more t s h slots back dead locals room = record {
  slot = slots (place_of h.update.key) room.slot;
  hinted = back h.update.key room.hinted;
  listed = dead h.update.key room.listed;
  located = locals h room.located;
}

-- and so does what keeps them together
pub kept_more : (t s : Table) → IsKept t → IsTidy s.slots → rows_seen s.slots ≡ rows_seen t.slots → ((q : Place) → row_at s.slots q ≡ row_at t.slots q)
    → ((k : Key) → IsHinted t.back k → IsHinted s.back k) → ((k : Key) → IsListed t.dead k → IsListed s.dead k) → IsKept s
kept_more t s kept tidy seen same back dead = record {
  tidy = tidy;
  backed = backed_same t.slots s.slots t.back s.back kept.backed back same;
  listed = each_same t.slots s.slots (λ h. IsListed t.dead h.update.key) (λ h. IsListed s.dead h.update.key) kept.listed (λ h is. dead h.update.key is) seen;
}

-- and the hint of each number
pub numbered_more : (old new : Slots) (locals locals' : BTreeSet Local) → AreLocated old locals
    → rows_seen new ≡ rows_seen old → ((x : Held) → IsLocated locals x → IsLocated locals' x) → AreLocated new locals'
numbered_more old new locals locals' numbered seen more = each_same old new (IsLocated locals) (IsLocated locals') numbered more seen

-- and where a row is put that has its hints
pub kept_put : (t s : Table) (row : Held) → IsKept t → IsTidy s.slots → rows_seen s.slots ≡ with_row (rows_seen t.slots) row
    → ((q : Place) → row_at s.slots q ≡ cond (is_at (place_order (place_of row.update.key)) q) (Some row) (row_at t.slots q))
    → ((k : Key) → IsHinted t.back k → IsHinted s.back k) → ((k : Key) → IsListed t.dead k → IsListed s.dead k) → IsHinted s.back row.update.key → IsListed s.dead row.update.key → IsKept s
kept_put t s row kept tidy seen rows back dead hinted listed = record {
  tidy = tidy;
  backed = backed_more t.slots s.slots s.back row (backed_same t.slots t.slots t.back s.back kept.backed back (λ q. refl)) hinted rows;
  listed = each_written t.slots s.slots (λ h. IsListed s.dead h.update.key) row (λ h m. dead h.update.key (kept.listed h m)) listed seen;
}

-- and where a death takes what goes with it
pub kept_stripped : (old new : Slots) (back : BTreeSet Behind) (dead : BTreeSet Oid) (locals : BTreeSet Local) (object : Option Oid)
    → IsKept (record { slots = old; back = back; dead = dead; locals = locals }) → IsTidy new → rows_seen new ≡ stripped object (rows_seen old)
    → ((q : Place) → row_at old q ≡ None → row_at new q ≡ None) → IsKept (record { slots = new; back = back; dead = dead; locals = locals })
kept_stripped old new back dead locals object kept tidy seen fewer = record {
  tidy = tidy;
  backed = backed_fewer old new back kept.backed fewer;
  listed = each_stripped old new (λ h. IsListed dead h.update.key) object kept.listed seen;
}

-- ---- room for several rows

pub room_later : (t s : Table) (h : Held) (hs : List Held) → HaveRoom t (h ∷ hs) → ((x : Held) → HasRoom t x → HasRoom s x) → HaveRoom s hs
room_later t s h hs room more i d lt = more (slice_index_or hs i d) (room (suc i) d (omega (arith, lt)))

-- something holds of the rows before an index
abbrev pub HoldBefore : (Held → Type 0) → List Held → ℕ → Type 0
HoldBefore P rows n = (i : ℕ) (d : Held) → i < n → P (slice_index_or rows i d)

-- of all by index, or of each
pub each_before : (P : Held → Type 0) (rows : List Held) → HoldBefore P rows (length rows) → Each P rows
each_before P [] before h m = absurd m
each_before P (x ∷ xs) before h (inl e) = subst P (sym e) (before 0 x (omega arith))
each_before P (x ∷ xs) before h (inr m) = each_before P xs (λ i d lt. before (suc i) d (omega (arith, lt))) h m

pub before_each : (P : Held → Type 0) (rows : List Held) → Each P rows → HoldBefore P rows (length rows)
before_each P [] each i d lt = absurd (omega (arith, lt))
before_each P (x ∷ xs) each zero d lt = each x (inl refl)
before_each P (x ∷ xs) each (suc i) d lt = before_each P xs (λ y m. each y (inr m)) i d (omega (arith, lt))

-- and of the first ones of the rows from there on
pub span_before : (P Q : Held → Type 0) (rows rest : List Held) (n m : ℕ) → rest ≡ drop n rows → m ≤ length rest → HoldBefore P rows n → ((h : Held) → P h → Q h)
    → HoldBefore Q (take m rest) (length (take m rest)) → HoldBefore Q rows (n + m)
span_before P Q rows rest n m is within before more here i d lt = by (cases_lt i n)
  where
    by : (i < n) ⊎ (n ≤ i) → Q (slice_index_or rows i d)
    by (inl less) = more (slice_index_or rows i d) (before i d less)
    by (inr le) =
        let at : n + (i - n) ≡ i = omega (arith, le) in
        let low : i - n < m = omega (arith, le, lt) in
        let short : i - n < length (take m rest) = omega (arith, low, within, length-take m rest) in
        subst Q (get_or-take m rest (i - n) d low ∙ ap (λ xs. slice_index_or xs (i - n) d) is ∙ get_or-drop n rows (i - n) d ∙ ap (λ k. slice_index_or rows k d) at) (here (i - n) d short)

-- and of one row more
pub next_before : (P Q : Held → Type 0) (rows : List Held) (n : ℕ) (x : Held) → n < length rows → x ≡ slice_index_or rows n x
    → HoldBefore P rows n → ((h : Held) → P h → Q h) → Q x → HoldBefore Q rows (n + 1)
next_before P Q rows n x within is before more here i d lt = by (cases_lt i n)
  where
    by : (i < n) ⊎ (n ≤ i) → Q (slice_index_or rows i d)
    by (inl less) = more (slice_index_or rows i d) (before i d less)
    by (inr le) =
        let at : n ≡ i = omega (arith, le, lt) in
        subst Q (is ∙ get_or_default rows n x d within ∙ ap (λ k. slice_index_or rows k d) at) here
