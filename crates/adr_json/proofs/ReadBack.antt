-- The text of a directory reads back as its data.
use Rattle.std.proofs.Common.{◌≡◌, ℕ, ◌≤◌, pos, negsuc, List, [], Some, option_map, option_and_then, Greater, refl, sym, ap, ◌∙◌, arith, append-nil}
use Rattle.std.specs.Prelude.{⊤}
use Rattle.std.specs.Ordering.{nat_cmp, ordering_reverse}
use Rattle.std.specs.Cmp.Lexicographic.{slice_cmp}
use Rattle.std.proofs.lemmas.Cmp.{nat_list_cmp_total}
use Rattle.json.specs.Lex.{tokens}
use Rattle.json.specs.Json as json
use Rattle.json.specs.Tree.{depth}
use Rattle.json.proofs.Printed.Trees.{value-json_tokens}
use Rattle.serde_json.specs.Data.{Num, Data, null, boolean, number, string, array, object, Items, no_items, item, Members, no_members, member, put}
use Rattle.serde_json.specs.Read.{number_of, of_json, of_items, of_members, max_depth, read}
use Rattle.serde_json.specs.Written.{compact_text, number_text, outline, items_outline, members_outline}
use Rattle.serde_json.proofs.Numbers.{number_of-decimal, number_of-negative}
use Rattle.adr_json.proofs.Numbers.{AllNumbers, AllOfItems, AllOfMembers}
use Rattle.adr_json.proofs.Ordered.{IsBelowAll, IsOrdered, AreItemsOrdered, AreMembersOrdered}
use Rattle.adr_json.proofs.Texts.{IsSmall, lexed}

number_back : (n : Num) → IsSmall n → number_of (number_text n) ≡ Some n
number_back n (pos m, is, small) = ap (λ x. number_of (number_text x)) is ∙ number_of-decimal m (omega arith) ∙ ap Some (sym is)
number_back n (negsuc m, is, small) = ap (λ x. number_of (number_text x)) is ∙ number_of-negative m (omega arith) ∙ ap Some (sym is)

-- members that were found, and then others
abbrev joined : Members → Members → Members
joined no_members ms = ms
joined (member k d found) ms = member k d (joined found ms)

joined_none : (found : Members) → joined found no_members ≡ found
joined_none no_members = refl
joined_none (member k d found) = ap (member k d) (joined_none found)

joined_one : (found : Members) (k : List ℕ) (d : Data) (ms : Members)
    → joined (joined found (member k d no_members)) ms ≡ joined found (member k d ms)
joined_one no_members k d ms = refl
joined_one (member l e found) k d ms = ap (member l e) (joined_one found k d ms)

-- what was found stands before the others
abbrev AreBefore : Members → Members → Type 0
AreBefore no_members ms = ⊤
AreBefore (member k d found) ms = IsBelowAll k ms × AreBefore found ms

put_last : (k : List ℕ) (d : Data) (found ms : Members) → AreBefore found (member k d ms) → put k d found ≡ joined found (member k d no_members)
put_last k d no_members ms h = refl
put_last k d (member l e found) ms h =
    let above : slice_cmp nat_cmp k l ≡ Greater = nat_list_cmp_total.antisymm k l ∙ ap ordering_reverse h.0.0 in
    rw above (ap (member l e) (put_last k d found ms h.1))

before_more : (k : List ℕ) (d : Data) (found ms : Members) → AreBefore found (member k d ms) → IsBelowAll k ms
    → AreBefore (joined found (member k d no_members)) ms
before_more k d no_members ms h after = (after, tt)
before_more k d (member l e found) ms h after = (h.0.1, before_more k d found ms h.1 after)

mutual
  back : (d : Data) → AllNumbers IsSmall d → IsOrdered d → of_json (outline d) ≡ Some d
  back null h o = refl
  back (boolean b) h o = refl
  back (number n) h o = ap (option_map number) (number_back n h)
  back (string s) h o = refl
  back (array ds) h o = ap (option_map array) (items_back ds h o)
  back (object ms) h o = ap (option_map object) (members_back no_members ms h o tt)

  items_back : (ds : Items) → AllOfItems IsSmall ds → AreItemsOrdered ds → of_items (items_outline ds) ≡ Some ds
  items_back no_items h o = refl
  items_back (item d ds) h o =
      ap (option_and_then (λ x. option_map (item x) (of_items (items_outline ds)))) (back d h.0 o.0)
      ∙ ap (option_map (item d)) (items_back ds h.1 o.1)

  members_back : (found ms : Members) → AllOfMembers IsSmall ms → AreMembersOrdered ms → AreBefore found ms
      → of_members (members_outline ms) found ≡ Some (joined found ms)
  members_back found no_members h o before = ap Some (sym (joined_none found))
  members_back found (member k d ms) h o before =
      ap (option_and_then (λ x. of_members (members_outline ms) (put k x found))) (back d h.0 o.0)
      ∙ ap (of_members (members_outline ms)) (put_last k d found ms before)
      ∙ members_back (joined found (member k d no_members)) ms h.1 o.2 (before_more k d found ms before o.1)
      ∙ ap Some (joined_one found k d ms)

pub reads_back : (d : Data) → AllNumbers IsSmall d → IsOrdered d → depth (outline d) ≤ max_depth → read (compact_text d) ≡ Some d
reads_back d h o shallow =
    let parsed : json.value max_depth (tokens (compact_text d)) ≡ Some (outline d, []) =
    ap (json.value max_depth) (lexed d h ∙ sym (append-nil _)) ∙ value-json_tokens (outline d) max_depth [] shallow in
    ap (λ p. option_and_then of_json (option_and_then (λ q. json.if_last q.0 q.1) p)) parsed ∙ back d h o
