-- What becomes of slots where more are made for rows.
use Rattle.std.proofs.Common.{◌≡◌, refl, sym, ap, ◌∙◌, subst, inl, inr, ℕ, List, [], ◌∷◌, Bool, true, false, None, fold, take}
use Rattle.std.specs.Prelude.{IsSome, unwrap_or}
use Rattle.std.specs.List.{list_all}
use Rattle.std.specs.Map.{lookup}
use Rattle.std.specs.BTreeMap.{insert_entry, is_at}
use Rattle.std.specs.BTreeSet.{BTreeSet}
use Rattle.adr_values.specs.declared.stamp.Oid.{Oid}
use Rattle.adr_model.proofs.Members.{all_pass, each_passes}
use Rattle.adr_model.specs.Member.{Each}
use Rattle.adr_model.specs.Store.{Held, is_row_of}
use Rattle.adr_model.specs.Update.{Key, RowOf, LinkOf}
use Rattle.adr_shelves.specs.declared.place.Place.{Place}
use Rattle.adr_shelves.specs.Place.{is_of_class, is_of_link, place_of, place_order}
use Rattle.adr_shelves.specs.Shelves.{flat, front, is_life, tally, with_slot}
use Rattle.adr_shelves.proofs.Entries.{AreSorted, Entries}
use Rattle.adr_table.specs.declared.back.Behind.{Behind}
use Rattle.adr_table.specs.declared.table.Table.{Table}
use Rattle.adr_table.specs.Back.{IsHinted}
use Rattle.adr_table.specs.Locals.{IsLocated}
use Rattle.adr_table.specs.Slots.{AreAtHome, HasSlot, seen}
use Rattle.adr_table.specs.Table.{HasRoom, HaveRoom}
use Rattle.adr_table.proofs.Counts.{tally_made}
use Rattle.adr_table.proofs.Fills.{front_passes, life_parts, sorted_put}
use Rattle.adr_table.proofs.Listed.{none_killed}
use Rattle.adr_table.proofs.Rooms.{before_each}
use Rattle.adr_table.proofs.Seen.{home_still, made, new_none, put_there, slot_made, still_there}

-- new slots have the rows of the old ones and no others, and each old slot stays
pub record AreMade (es new : Entries) : Type 0 where
  pub ordered : AreSorted new
  pub home : AreAtHome new
  pub rows : seen new ≡ seen es
  pub objects : tally is_of_class new ≡ tally is_of_class es
  pub links : tally is_of_link new ≡ tally is_of_link es
  pub same : (q : Place) → flat (lookup (is_at (place_order q)) new) ≡ flat (lookup (is_at (place_order q)) es)
  pub more : (q : Place) → IsSome (lookup (is_at (place_order q)) es) → IsSome (lookup (is_at (place_order q)) new)

none_made : (es : Entries) → AreSorted es → AreAtHome es → AreMade es es
none_made es sorted home = record { ordered = sorted; home = home; rows = refl; objects = refl; links = refl; same = λ q. refl; more = λ q some. some }

pub one_made : (es new : Entries) (p : Place) → AreSorted es → AreAtHome es → new ≡ insert_entry place_order es p (unwrap_or (lookup (is_at (place_order p)) es) None) → AreMade es new
one_made es new p sorted home is = slot_made (AreMade es) es new p sorted is (none_made es sorted home) (λ none. record {
  ordered = sorted_put es p None sorted;
  home = home_still es p None tt home;
  rows = made es p none;
  objects = tally_made is_of_class es p none;
  links = tally_made is_of_link es p none;
  same = λ q. new_none es p q none;
  more = λ q some. still_there es p q none some;
})

later_made : (es mid new : Entries) → AreMade es mid → AreMade mid new → AreMade es new
later_made es mid new first later = record {
  ordered = later.ordered;
  home = later.home;
  rows = later.rows ∙ first.rows;
  objects = later.objects ∙ first.objects;
  links = later.links ∙ first.links;
  same = λ q. later.same q ∙ first.same q;
  more = λ q some. later.more q (first.more q some);
}

all_made : (hs : List Held) (es : Entries) → AreSorted es → AreAtHome es → AreMade es (fold with_slot es hs)
all_made [] es sorted home = none_made es sorted home
all_made (h ∷ hs) es sorted home =
    let first = one_made es (with_slot es h) (place_of h.update.key) sorted home refl in
    later_made es (with_slot es h) (fold with_slot (with_slot es h) hs) first (all_made hs (with_slot es h) first.ordered first.home)

abbrev IsThere : Entries → Held → Type 0
IsThere es h = IsSome (lookup (is_at (place_order (place_of h.update.key))) es)

-- each row has one then
all_there : (hs : List Held) (es : Entries) → AreSorted es → AreAtHome es → Each (IsThere (fold with_slot es hs)) hs
all_there [] es sorted home x m = absurd m
all_there (h ∷ hs) es sorted home x (inl e) =
    let place = place_of h.update.key in
    let first = one_made es (with_slot es h) place sorted home refl in
    let there = put_there es place (unwrap_or (lookup (is_at (place_order place)) es) None) in
    subst (IsThere (fold with_slot es (h ∷ hs))) (sym e) ((all_made hs (with_slot es h) first.ordered first.home).more place there)
all_there (h ∷ hs) es sorted home x (inr m) =
    let first = one_made es (with_slot es h) (place_of h.update.key) sorted home refl in
    all_there hs (with_slot es h) first.ordered first.home x m

-- ---- slots for all rows are made, or none

pub object_made : (hs : List Held) (es new : Entries) (b : Bool) → AreSorted es → AreAtHome es → (b ≡ true → new ≡ fold with_slot es hs) → (b ≡ false → new ≡ es) → AreMade es new
object_made hs es new true sorted home all none = subst (AreMade es) (sym (all refl)) (all_made hs es sorted home)
object_made hs es new false sorted home all none = subst (AreMade es) (sym (none refl)) (none_made es sorted home)

pub object_there : (hs : List Held) (es new : Entries) → AreSorted es → AreAtHome es → new ≡ fold with_slot es hs → Each (IsThere new) hs
object_there hs es new sorted home is = subst (λ xs. Each (IsThere xs) hs) (sym is) (all_there hs es sorted home)

-- ---- rows of an object, none of which is a death

pub lives_own : (o : Oid) (hs : List Held) → list_all (is_life o) hs ≡ true → list_all (λ h. is_row_of o h.update.key) hs ≡ true
lives_own o hs all = all_pass (λ h. is_row_of o h.update.key) hs (λ h m. (life_parts o h (each_passes (is_life o) hs all h m)).0)

own_hinted : (back : BTreeSet Behind) (o : Oid) (k : Key) → is_row_of o k ≡ true → IsHinted back k
own_hinted back o (RowOf p a) own = tt
own_hinted back o (LinkOf l) own = cc

-- a slot and the hint of its number is room for each
pub lives_room : (t : Table) (o : Oid) (hs : List Held) → list_all (is_life o) hs ≡ true → Each (λ h. HasSlot t.slots (place_of h.update.key)) hs → Each (IsLocated t.locals) hs → HaveRoom t hs
lives_room t o hs all slots located = before_each (HasRoom t) hs (λ h m.
    let parts = life_parts o h (each_passes (is_life o) hs all h m) in
    record { slot = slots h m; hinted = own_hinted t.back o h.update.key parts.0; listed = none_killed t.dead h.update.key parts.1; located = located h m })

-- those at the front are such rows
pub front_all : (o : Oid) (hs : List Held) (n : ℕ) → take n hs ≡ front (is_life o) hs → list_all (is_life o) (take n hs) ≡ true
front_all o hs n is = ap (list_all (is_life o)) is ∙ all_pass (is_life o) (front (is_life o) hs) (front_passes (is_life o) hs)
