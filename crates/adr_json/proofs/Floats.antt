-- A directory has no number that is a float, so its text is exact.
use Rattle.std.proofs.Common.{◌≡◌, Bool, true, false, ◌||◌, pos, negsuc, refl}
use Rattle.serde_json.specs.Data.{Num, Data, null, boolean, number, string, array, object, Items, no_items, item, Members, no_members, member}
use Rattle.serde_json.specs.Find.{is_float}
use Rattle.serde_json.specs.Written.{has_float, items_have_float, members_have_float}
use Rattle.adr_values.specs.declared.content.Value.{Value as Item}
use Rattle.adr_values.specs.declared.content.Value.TheVariants.{Text, Number, Flag, Octets, Ref}
use Rattle.adr_call.specs.declared.directory.Entry.{Entry}
use Rattle.adr_json.specs.Text.{entry_json}
use Rattle.adr_json.proofs.Numbers.{AllNumbers, AllOfItems, AllOfMembers, OfValue, of_entry}

abbrev pub IsWhole : Num → Type 0
IsWhole n = is_float n ≡ false

neither : (a b : Bool) → a ≡ false → b ≡ false → (a || b) ≡ false
neither false b h g = g
neither true b h g = absurd (cc)

mutual
  pub no_float : (d : Data) → AllNumbers IsWhole d → has_float d ≡ false
  no_float null h = refl
  no_float (boolean b) h = refl
  no_float (number n) h = h
  no_float (string s) h = refl
  no_float (array ds) h = no_float_in_items ds h
  no_float (object ms) h = no_float_in_members ms h

  no_float_in_items : (ds : Items) → AllOfItems IsWhole ds → items_have_float ds ≡ false
  no_float_in_items no_items h = refl
  no_float_in_items (item d ds) h = neither (has_float d) _ (no_float d h.0) (no_float_in_items ds h.1)

  no_float_in_members : (ms : Members) → AllOfMembers IsWhole ms → members_have_float ms ≡ false
  no_float_in_members no_members h = refl
  no_float_in_members (member k d ms) h = neither (has_float d) _ (no_float d h.0) (no_float_in_members ms h.1)

value_whole : (v : Item) → OfValue IsWhole v
value_whole (Text text) = tt
value_whole (Number (pos n)) = refl
value_whole (Number (negsuc n)) = refl
value_whole (Flag flag) = tt
value_whole (Octets octets) = tt
value_whole (Ref id) = tt

pub entry_exact : (e : Entry) → has_float (entry_json e) ≡ false
entry_exact e = no_float (entry_json e) (of_entry IsWhole e (λ i v within. λ j w inside. value_whole _))
