-- Each object of a directory's data has its members in the order of their keys, each once.
use Rattle.std.proofs.Common.{◌≡◌, ℕ, List, [], ◌∷◌, Ordering, Less, Equal, Greater, map, refl, ap, ◌∙◌}
use Rattle.std.specs.Prelude.{⊤}
use Rattle.std.specs.List.{fold}
use Rattle.std.specs.Ordering.{nat_cmp, match_ordering, ordering_reverse}
use Rattle.std.specs.Cmp.Lexicographic.{slice_cmp}
use Rattle.std.proofs.lemmas.Cmp.{nat_list_cmp_total}
use Rattle.serde_json.specs.Data.{Data, null, boolean, number, string, array, object, Items, no_items, item, Members, no_members, member, put}
use Rattle.serde_json.specs.View.{items_of}
use Rattle.adr_values.specs.declared.content.Value.{Value as Item}
use Rattle.adr_values.specs.declared.content.Value.TheVariants.{Text, Number, Flag, Octets, Ref}
use Rattle.adr_call.specs.declared.directory.Entry.{Entry}
use Rattle.adr_json.specs.Text.{array_by, entry_json, identifier_json, value_json, with_attribute}

-- a key is below another
abbrev pub IsBelow : List ℕ → List ℕ → Type 0
IsBelow k l = slice_cmp nat_cmp k l ≡ Less

-- a key is below those of all members
abbrev pub IsBelowAll : List ℕ → Members → Type 0
IsBelowAll k no_members = ⊤
IsBelowAll k (member l e ms) = IsBelow k l × IsBelowAll k ms

abbrev mutual
  pub IsOrdered : Data → Type 0
  IsOrdered null = ⊤
  IsOrdered (boolean b) = ⊤
  IsOrdered (number n) = ⊤
  IsOrdered (string s) = ⊤
  IsOrdered (array ds) = AreItemsOrdered ds
  IsOrdered (object ms) = AreMembersOrdered ms

  pub AreItemsOrdered : Items → Type 0
  AreItemsOrdered no_items = ⊤
  AreItemsOrdered (item d ds) = IsOrdered d × AreItemsOrdered ds

  pub AreMembersOrdered : Members → Type 0
  AreMembersOrdered no_members = ⊤
  AreMembersOrdered (member k d ms) = IsOrdered d × IsBelowAll k ms × AreMembersOrdered ms

below_more : (k l : List ℕ) (ms : Members) → IsBelow k l → IsBelowAll l ms → IsBelowAll k ms
below_more k l no_members less h = tt
below_more k l (member m e ms) less h = (nat_list_cmp_total.trans k l m less h.0, below_more k l ms less h.1)

-- what holds of both, holds of what is put
below_at : (o : Ordering) (j : List ℕ) (a b c : Members) → IsBelowAll j a → IsBelowAll j b → IsBelowAll j c → IsBelowAll j (match_ordering o a b c)
below_at Less j a b c ha hb hc = ha
below_at Equal j a b c ha hb hc = hb
below_at Greater j a b c ha hb hc = hc

below_put : (j k : List ℕ) (d : Data) (ms : Members) → IsBelow j k → IsBelowAll j ms → IsBelowAll j (put k d ms)
below_put j k d no_members less h = (less, tt)
below_put j k d (member l e ms) less h =
    below_at (slice_cmp nat_cmp k l) j (member k d (member l e ms)) (member l d ms) (member l e (put k d ms))
    (less, h) h (h.0, below_put j k d ms less h.1)

ordered_put_at : (o : Ordering) (k l : List ℕ) (d e : Data) (ms : Members) → slice_cmp nat_cmp k l ≡ o → IsOrdered d
    → AreMembersOrdered (member l e ms) → AreMembersOrdered (put k d ms)
    → AreMembersOrdered (match_ordering o (member k d (member l e ms)) (member l d ms) (member l e (put k d ms)))
ordered_put_at Less k l d e ms is hd h more = (hd, (is, below_more k l ms is h.1), h)
ordered_put_at Equal k l d e ms is hd h more = (hd, h.1, h.2)
ordered_put_at Greater k l d e ms is hd h more =
    let below : IsBelow l k = nat_list_cmp_total.antisymm l k ∙ ap ordering_reverse is in
    (h.0, below_put l k d ms below h.1, more)

ordered_put : (k : List ℕ) (d : Data) (ms : Members) → IsOrdered d → AreMembersOrdered ms → AreMembersOrdered (put k d ms)
ordered_put k d no_members hd h = (hd, tt, tt)
ordered_put k d (member l e ms) hd h = ordered_put_at (slice_cmp nat_cmp k l) k l d e ms refl hd h (ordered_put k d ms hd h.2)

items_ordered : {A : Type 0} (f : A → Data) → ((x : A) → IsOrdered (f x)) → (xs : List A) → AreItemsOrdered (items_of (map f xs))
items_ordered f each [] = tt
items_ordered f each (x ∷ xs) = (each x, items_ordered f each xs)

members_ordered : {A : Type 0} (f : A → Data) → ((x : A) → IsOrdered (f x)) → (ms : Members) (xs : List (ℕ × List A)) → AreMembersOrdered ms
    → AreMembersOrdered (fold (with_attribute f) ms xs)
members_ordered f each ms [] h = h
members_ordered f each ms (x ∷ xs) h = members_ordered f each (with_attribute f ms x) xs (ordered_put _ _ ms (items_ordered f each x.1) h)

value_ordered : (v : Item) → IsOrdered (value_json v)
value_ordered (Text text) = tt
value_ordered (Number n) = tt
value_ordered (Flag flag) = tt
value_ordered (Octets octets) = tt
value_ordered (Ref id) = tt

entry_ordered : (e : Entry) → IsOrdered (entry_json e)
unfolding entry_json
entry_ordered e =
    let links = members_ordered identifier_json (λ id. tt) no_members e.links tt in
    let values = members_ordered value_json value_ordered no_members e.values tt in (
      tt,
      (refl, (refl, (refl, (refl, (refl, tt))))),
      (
        tt,
        (refl, (refl, (refl, (refl, tt)))),
        (links, (refl, (refl, (refl, tt))), (tt, (refl, (refl, tt)), (tt, (refl, tt), (values, tt, tt)))),
      ),
    )

pub directory_ordered : (d : List Entry) → IsOrdered (array_by entry_json d)
directory_ordered d = items_ordered entry_json entry_ordered d
