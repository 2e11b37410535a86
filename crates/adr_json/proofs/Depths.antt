-- A directory's JSON nests no deeper than four.
use Rattle.std.proofs.Common.{ℕ, ◌+◌, ◌≤◌, List, [], ◌∷◌, Ordering, Less, Equal, Greater, map, arith}
use Rattle.std.specs.List.{fold}
use Rattle.std.specs.Ordering.{nat_cmp, match_ordering}
use Rattle.std.specs.Cmp.Lexicographic.{slice_cmp}
use Rattle.json.specs.Tree.{depth, items_depth, members_depth}
use Rattle.serde_json.specs.Data.{Data, Members, no_members, member, put}
use Rattle.serde_json.specs.View.{items_of}
use Rattle.serde_json.specs.Written.{outline, items_outline, members_outline}
use Rattle.adr_values.specs.declared.content.Value.{Value as Item}
use Rattle.adr_values.specs.declared.content.Value.TheVariants.{Text, Number, Flag, Octets, Ref}
use Rattle.adr_call.specs.declared.directory.Entry.{Entry}
use Rattle.adr_json.specs.Text.{array_by, entry_json, identifier_json, value_json, with_attribute}

-- at most so deep
abbrev Within : ℕ → Data → Type 0
Within n d = depth (outline d) ≤ n

abbrev MembersWithin : ℕ → Members → Type 0
MembersWithin n ms = members_depth (members_outline ms) ≤ n

items_within : {A : Type 0} (f : A → Data) (n : ℕ) → ((x : A) → Within n (f x)) → (xs : List A)
    → items_depth (items_outline (items_of (map f xs))) ≤ n
items_within f n each [] = omega arith
items_within f n each (x ∷ xs) = omega (arith, each x, items_within f n each xs)

array_within : {A : Type 0} (f : A → Data) (n : ℕ) → ((x : A) → Within n (f x)) → (xs : List A) → Within (n + 1) (array_by f xs)
array_within f n each xs = omega (arith, items_within f n each xs)

put_at : (o : Ordering) (n : ℕ) (a b c : Members) → MembersWithin n a → MembersWithin n b → MembersWithin n c
    → MembersWithin n (match_ordering o a b c)
put_at Less n a b c ha hb hc = ha
put_at Equal n a b c ha hb hc = hb
put_at Greater n a b c ha hb hc = hc

put_within : (n : ℕ) (k : List ℕ) (d : Data) (ms : Members) → Within n d → MembersWithin n ms → MembersWithin n (put k d ms)
put_within n k d no_members hd h = omega arith
put_within n k d (member l e ms) hd h =
    let more = put_within n k d ms hd (omega arith) in
    put_at (slice_cmp nat_cmp k l) n (member k d (member l e ms)) (member l d ms) (member l e (put k d ms)) (omega arith) (omega arith) (omega arith)

members_within : {A : Type 0} (f : A → Data) (n : ℕ) → ((x : A) → Within n (f x)) → (ms : Members) (xs : List (ℕ × List A)) → MembersWithin (n + 1) ms
    → MembersWithin (n + 1) (fold (with_attribute f) ms xs)
members_within f n each ms [] h = h
members_within f n each ms (x ∷ xs) h =
    members_within f n each (with_attribute f ms x) xs (put_within (n + 1) _ _ ms (array_within f n each x.1) h)

value_within : (v : Item) → Within 0 (value_json v)
value_within (Text text) = omega arith
value_within (Number n) = omega arith
value_within (Flag flag) = omega arith
value_within (Octets octets) = omega arith
value_within (Ref id) = omega arith

entry_within : (e : Entry) → Within 3 (entry_json e)
unfolding entry_json
entry_within e =
    let links = members_within identifier_json 0 (λ id. omega arith) no_members e.links (omega arith) in
    let values = members_within value_json 0 value_within no_members e.values (omega arith) in
    omega arith

pub directory_within : (d : List Entry) → depth (outline (array_by entry_json d)) ≤ 4
directory_within d = array_within entry_json 3 entry_within d
