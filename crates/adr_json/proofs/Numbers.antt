-- What holds of each number of the data of an entry.
use Rattle.std.proofs.Common.{ℕ, List, [], ◌∷◌, Ordering, Less, Equal, Greater, map}
use Rattle.std.specs.Prelude.{All, ⊤}
use Rattle.std.specs.List.{fold}
use Rattle.std.specs.Ordering.{nat_cmp, match_ordering}
use Rattle.std.specs.Cmp.Lexicographic.{slice_cmp}
use Rattle.std.proofs.lemmas.List.Elements.{All-head, All-tail}
use Rattle.serde_json.specs.Data.{Num, Data, null, boolean, number, string, array, object, Items, no_items, item, Members, no_members, member, put}
use Rattle.serde_json.specs.Find.{of_integer}
use Rattle.serde_json.specs.View.{items_of}
use Rattle.adr_values.specs.declared.content.Value.{Value as Item}
use Rattle.adr_values.specs.declared.content.Value.TheVariants.{Text, Number, Flag, Octets, Ref}
use Rattle.adr_call.specs.declared.directory.Entry.{Entry}
use Rattle.adr_json.specs.Text.{array_by, entry_json, identifier_json, value_json, with_attribute}

module _ (P : Num → Type 0) where
  abbrev mutual
    -- each number of some data
    pub AllNumbers : Data → Type 0
    AllNumbers null = ⊤
    AllNumbers (boolean b) = ⊤
    AllNumbers (number n) = P n
    AllNumbers (string s) = ⊤
    AllNumbers (array ds) = AllOfItems ds
    AllNumbers (object ms) = AllOfMembers ms

    pub AllOfItems : Items → Type 0
    AllOfItems no_items = ⊤
    AllOfItems (item d ds) = AllNumbers d × AllOfItems ds

    pub AllOfMembers : Members → Type 0
    AllOfMembers no_members = ⊤
    AllOfMembers (member k d ms) = AllNumbers d × AllOfMembers ms

  -- the number of a value
  abbrev pub OfValue : Item → Type 0
  OfValue (Text text) = ⊤
  OfValue (Number n) = P (of_integer n)
  OfValue (Flag flag) = ⊤
  OfValue (Octets octets) = ⊤
  OfValue (Ref id) = ⊤

  -- the numbers of an attribute's values
  abbrev pub OfValues : ℕ × List Item → Type 0
  OfValues v = All OfValue v.1

  pub of_items : {A : Type 0} (f : A → Data) (Q : A → Type 0) → ((x : A) → Q x → AllNumbers (f x)) → (xs : List A) → All Q xs
      → AllOfItems (items_of (map f xs))
  of_items f Q each [] h = tt
  of_items f Q each (x ∷ xs) h = (each x (All-head Q x xs h), of_items f Q each xs (All-tail Q x xs h))

  put_at : (o : Ordering) (a b c : Members) → AllOfMembers a → AllOfMembers b → AllOfMembers c → AllOfMembers (match_ordering o a b c)
  put_at Less a b c ha hb hc = ha
  put_at Equal a b c ha hb hc = hb
  put_at Greater a b c ha hb hc = hc

  of_put : (k : List ℕ) (d : Data) (ms : Members) → AllNumbers d → AllOfMembers ms → AllOfMembers (put k d ms)
  of_put k d no_members hd hms = (hd, tt)
  of_put k d (member l e ms) hd hms =
      put_at (slice_cmp nat_cmp k l) (member k d (member l e ms)) (member l d ms) (member l e (put k d ms))
      (hd, hms) (hd, hms.1) (hms.0, of_put k d ms hd hms.1)

  of_members : {A : Type 0} (f : A → Data) (Q : ℕ × List A → Type 0) → ((x : ℕ × List A) → Q x → AllNumbers (array_by f x.1))
      → (ms : Members) (xs : List (ℕ × List A))
      → AllOfMembers ms → All Q xs → AllOfMembers (fold (with_attribute f) ms xs)
  of_members f Q each ms [] h hxs = h
  of_members f Q each ms (x ∷ xs) h hxs =
      of_members f Q each (with_attribute f ms x) xs (of_put _ _ ms (each x (All-head Q x xs hxs)) h) (All-tail Q x xs hxs)

  of_value : (v : Item) → OfValue v → AllNumbers (value_json v)
  of_value (Text text) h = tt
  of_value (Number n) h = h
  of_value (Flag flag) h = tt
  of_value (Octets octets) h = tt
  of_value (Ref id) h = tt

  of_links : (l : ℕ × List (List ℕ)) → ⊤ → AllNumbers (array_by identifier_json l.1)
  of_links l h = of_items identifier_json (λ id. ⊤) (λ id none. tt) l.1 (λ k d below. tt)

  pub of_entry : (e : Entry) → All OfValues e.values → AllNumbers (entry_json e)
  unfolding entry_json
  of_entry e h =
      let links = of_members identifier_json (λ l. ⊤) of_links no_members e.links tt (λ k d below. tt) in
      let values = of_members value_json OfValues (λ v each. of_items value_json OfValue of_value v.1 each) no_members e.values tt h in
      (tt, (tt, (links, (tt, (tt, (values, tt))))))
