-- How many rows of a kind there are, after a slot is made or its row replaced.
use Rattle.std.proofs.Common.{◌≡◌, ℕ, ◌≤◌, [], ◌∷◌, Bool, true, false, cond, not, ◌&&◌, Option, Some, None, refl, sym, ap, ◌∙◌, subst, arith}
use Rattle.std.specs.Prelude.{is_some}
use Rattle.std.specs.Map.{lookup, keys_of, set_value}
use Rattle.std.specs.BTreeMap.{insert_entry, is_at}
use Rattle.std.specs.Ordering.{is_eq, match_ordering}
use Rattle.std.specs.declared.cmp.Ordering.{Ordering}
use Rattle.std.specs.declared.cmp.Ordering.TheVariants.{Less, Equal, Greater}
use Rattle.std.proofs.lemmas.Map.Keys.{sorted_tail}
use Rattle.adr_model.proofs.Keys.{equal_order}
use Rattle.adr_model.specs.Store.{Held}
use Rattle.adr_shelves.specs.declared.place.Place.{Place}
use Rattle.adr_shelves.specs.Place.{place_order}
use Rattle.adr_shelves.specs.Shelves.{flat, one_more_if, tally}
use Rattle.adr_shelves.proofs.Places.{exact_places}
use Rattle.adr_shelves.proofs.Entries.{Entries, AreSorted}
use Rattle.adr_table.proofs.Seen.{none_below}

pub tally_made : (test : Place → Bool) (es : Entries) (p : Place) → lookup (is_at (place_order p)) es ≡ None → tally test (insert_entry place_order es p None) ≡ tally test es
tally_made test [] p none = refl
tally_made test (e ∷ es) p none = by (place_order p e.0) none (tally_made test es p)
  where
    by : (o : Ordering) → cond (is_eq o) (Some e.1) (lookup (is_at (place_order p)) es) ≡ None → (lookup (is_at (place_order p)) es ≡ None → tally test (insert_entry place_order es p None) ≡ tally test es)
        → tally test (match_ordering o ((p, None) ∷ e ∷ es) ((e.0, None) ∷ es) (e ∷ insert_entry place_order es p None)) ≡ tally test (e ∷ es)
    by Less n later = refl
    by Equal n later = cc
    by Greater n later = ap (one_more_if (is_some e.1 && test e.0)) (later n)

pub more_more : (a b : Bool) (n : ℕ) → one_more_if a (one_more_if b n) ≡ one_more_if b (one_more_if a n)
more_more true true n = refl
more_more true false n = refl
more_more false true n = refl
more_more false false n = refl

-- the row that was there, if there was one, counts no more, and the one that is put there counts
pub tally_replaced : (test : Place → Bool) (es : Entries) (p : Place) (v : Option Held) → AreSorted es
    → one_more_if (is_some (flat (lookup (is_at (place_order p)) es)) && test p) (tally test (insert_entry place_order es p v)) ≡ one_more_if (is_some v && test p) (tally test es)
tally_replaced test [] p v sorted = refl
tally_replaced test (e ∷ es) p v sorted = by (place_order p e.0) refl (tally_replaced test es p v (sorted_tail place_order e.0 (keys_of es) sorted))
  where
    old : Option (Option Held)
    old = lookup (is_at (place_order p)) es

    less : place_order p e.0 ≡ Less → old ≡ None
    less is = subst (λ o. cond (is_eq o) (Some e.1) old ≡ None) is (none_below e es p sorted is)

    by : (o : Ordering) → place_order p e.0 ≡ o
        → one_more_if (is_some (flat old) && test p) (tally test (insert_entry place_order es p v)) ≡ one_more_if (is_some v && test p) (tally test es)
        → one_more_if (is_some (flat (cond (is_eq o) (Some e.1) old)) && test p) (tally test (match_ordering o ((p, v) ∷ e ∷ es) ((e.0, v) ∷ es) (e ∷ insert_entry place_order es p v)))
        ≡ one_more_if (is_some v && test p) (tally test (e ∷ es))
    by Less is later = ap (λ o. one_more_if (is_some (flat o) && test p) (tally test ((p, v) ∷ e ∷ es))) (less is)
    by Equal is later =
        ap (λ b. one_more_if (is_some e.1 && b) (one_more_if (is_some v && test e.0) (tally test es))) (ap test (exact_places p e.0 is))
        ∙ more_more (is_some e.1 && test e.0) (is_some v && test e.0) (tally test es)
        ∙ ap (λ b. one_more_if (is_some v && b) (one_more_if (is_some e.1 && test e.0) (tally test es))) (sym (ap test (exact_places p e.0 is)))
    by Greater is later =
        more_more (is_some (flat old) && test p) (is_some e.1 && test e.0) (tally test (insert_entry place_order es p v))
        ∙ ap (one_more_if (is_some e.1 && test e.0)) later
        ∙ more_more (is_some e.1 && test e.0) (is_some v && test p) (tally test es)

-- ---- counts, as rows come and go

-- a slot that is emptied, if there is one
emptied : (test : Place → Bool) (es : Entries) (p : Place)
    → one_more_if (is_some (flat (lookup (is_at (place_order p)) es)) && test p) (tally test (set_value (is_at (place_order p)) es None)) ≡ tally test es
emptied test [] p = refl
emptied test (e ∷ es) p = by (is_at (place_order p) e.0) refl (emptied test es p)
  where
    old : Option (Option Held)
    old = lookup (is_at (place_order p)) es

    by : (b : Bool) → is_at (place_order p) e.0 ≡ b
        → one_more_if (is_some (flat old) && test p) (tally test (set_value (is_at (place_order p)) es None)) ≡ tally test es
        → one_more_if (is_some (flat (cond b (Some e.1) old)) && test p) (tally test (cond b ((e.0, None) ∷ es) (e ∷ set_value (is_at (place_order p)) es None))) ≡ tally test (e ∷ es)
    by true at later = ap (λ b. one_more_if (is_some e.1 && b) (tally test es)) (ap test (exact_places p e.0 (equal_order (place_order p e.0) at)))
    by false at later =
        more_more (is_some (flat old) && test p) (is_some e.1 && test e.0) (tally test (set_value (is_at (place_order p)) es None))
        ∙ ap (one_more_if (is_some e.1 && test e.0)) later

at_least : (b : Bool) (n m : ℕ) → one_more_if b n ≡ m → one_more_if b 0 ≤ m
at_least true n m e = omega (arith, e)
at_least false n m e = omega (arith, e)

pub emptied_room : (test : Place → Bool) (es : Entries) (p : Place)
    → (b : Bool) → b ≡ (is_some (flat (lookup (is_at (place_order p)) es)) && test p) → (n : ℕ) → n ≡ tally test es → one_more_if b 0 ≤ n
emptied_room test es p b e n count =
    let fewer = tally test (set_value (is_at (place_order p)) es None) in
    at_least b fewer n (ap (λ c. one_more_if c fewer) e ∙ emptied test es p ∙ sym count)

cancelled : (b : Bool) (n m : ℕ) → one_more_if b n ≡ one_more_if b m → n ≡ m
cancelled true n m e = omega (arith, e)
cancelled false n m e = e

pub emptied_count : (test : Place → Bool) (es fs : Entries) (p : Place) → fs ≡ set_value (is_at (place_order p)) es None
    → (b : Bool) → b ≡ (is_some (flat (lookup (is_at (place_order p)) es)) && test p) → (n m : ℕ) → n ≡ tally test es → one_more_if b m ≡ n → m ≡ tally test fs
emptied_count test es fs p is b e n m count less =
    let fewer = tally test (set_value (is_at (place_order p)) es None) in
    cancelled b m fewer (less ∙ count ∙ sym (ap (λ c. one_more_if c fewer) e ∙ emptied test es p)) ∙ sym (ap (tally test) is)

-- a row that is put
put_either : (was here : Bool) (n m : ℕ) → one_more_if (was && here) m ≡ one_more_if here n → m ≡ one_more_if (not was && here) n
put_either true true n m e = omega (arith, e)
put_either true false n m e = e
put_either false here n m e = e

pub put_count : (test : Place → Bool) (es fs : Entries) (p : Place) (h : Held) → fs ≡ insert_entry place_order es p (Some h) → AreSorted es
    → (b : Bool) → b ≡ (not (is_some (flat (lookup (is_at (place_order p)) es))) && test p) → (n : ℕ) → n ≡ tally test es → tally test fs ≡ one_more_if b n
put_count test es fs p h is sorted b e n count =
    put_either (is_some (flat (lookup (is_at (place_order p)) es))) (test p) (tally test es) (tally test fs)
    (ap (λ xs. one_more_if (is_some (flat (lookup (is_at (place_order p)) es)) && test p) (tally test xs)) is ∙ tally_replaced test es p (Some h) sorted)
    ∙ ap (λ c. one_more_if c (tally test es)) (sym e) ∙ ap (one_more_if b) (sym count)

pub put_room : (test : Place → Bool) (es fs : Entries) (p : Place) (h : Held) → fs ≡ insert_entry place_order es p (Some h) → AreSorted es
    → (b : Bool) → b ≡ (not (is_some (flat (lookup (is_at (place_order p)) es))) && test p) → (n : ℕ) → n ≡ tally test es
    → (most : ℕ) → tally test fs ≤ most → one_more_if b n ≤ most
put_room test es fs p h is sorted b e n count most few = let more = put_count test es fs p h is sorted b e n count in omega (arith, few, more)
