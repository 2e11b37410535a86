-- What becomes of slots where those of a run are emptied at once.
use Rattle.std.proofs.Common.{◌≡◌, ℕ, [], ◌∷◌, Bool, true, false, cond, not, ◌&&◌, Option, Some, None, refl, sym, ap, ◌∙◌, arith}
use Rattle.std.specs.Prelude.{◌==◌, IfSome, is_some, nat_le}
use Rattle.std.specs.Map.{lookup}
use Rattle.std.specs.BTreeMap.{is_at}
use Rattle.std.proofs.lemmas.Bool.Decides.{nat_tests}
use Rattle.adr_values.specs.declared.stamp.Oid.{Oid}
use Rattle.adr_model.proofs.Keys.{equal_order}
use Rattle.adr_model.specs.Store.{Held}
use Rattle.adr_model.specs.Update.{class_attr}
use Rattle.adr_shelves.specs.declared.place.Place.{Place}
use Rattle.adr_shelves.specs.Place.{is_in_run, is_of_class, is_of_link, place_of, place_order, values_start}
use Rattle.adr_shelves.specs.Shelves.{emptied, flat, one_more_if, tally}
use Rattle.adr_table.specs.Slots.{AreAtHome}
use Rattle.adr_shelves.proofs.Places.{exact_places}
use Rattle.adr_shelves.proofs.Entries.{Entries}
use Rattle.adr_shelves.proofs.ShelvedEmptied.{told}

pub emptied_home : (test : Place → Bool) (es : Entries) → AreAtHome es → AreAtHome (emptied test es)
emptied_home test [] home = tt
emptied_home test (e ∷ es) home = (by (test e.0), emptied_home test es home.1)
  where
    by : (b : Bool) → IfSome (cond b None e.1) (λ h. place_of h.update.key ≡ e.0)
    by true = tt
    by false = home.0

pub emptied_found : (test : Place → Bool) (es : Entries) (q : Place) → flat (lookup (is_at (place_order q)) (emptied test es)) ≡ cond (test q) None (flat (lookup (is_at (place_order q)) es))
emptied_found test [] q = by (test q)
  where
    by : (b : Bool) → ◌≡◌ {A = Option Held} None (cond b None None)
    by true = refl
    by false = refl
emptied_found test (e ∷ es) q = by (is_at (place_order q) e.0) refl (emptied_found test es q)
  where
    by : (b : Bool) → is_at (place_order q) e.0 ≡ b → flat (lookup (is_at (place_order q)) (emptied test es)) ≡ cond (test q) None (flat (lookup (is_at (place_order q)) es))
        → flat (cond b (Some (cond (test e.0) None e.1)) (lookup (is_at (place_order q)) (emptied test es))) ≡ cond (test q) None (flat (cond b (Some e.1) (lookup (is_at (place_order q)) es)))
    by true at later = ap (λ p. cond (test p) None e.1) (sym (exact_places q e.0 (equal_order (place_order q e.0) at)))
    by false at later = later

-- rows that don't go are counted still
emptied_tally : (test counts : Place → Bool) → ((q : Place) → test q ≡ true → counts q ≡ false) → (es : Entries) → tally counts (emptied test es) ≡ tally counts es
emptied_tally test counts apart [] = refl
emptied_tally test counts apart (e ∷ es) = by (test e.0) refl ∙ ap (one_more_if (is_some e.1 && counts e.0)) (emptied_tally test counts apart es)
  where
    uncounted : (b c : Bool) (n : ℕ) → c ≡ false → n ≡ one_more_if (b && c) n
    uncounted true true n is = cc
    uncounted true false n is = refl
    uncounted false c n is = refl

    by : (b : Bool) → test e.0 ≡ b → one_more_if (is_some (cond b None e.1) && counts e.0) (tally counts (emptied test es)) ≡ one_more_if (is_some e.1 && counts e.0) (tally counts (emptied test es))
    by true is = uncounted (is_some e.1) (counts e.0) (tally counts (emptied test es)) (apart e.0 is)
    by false is = refl

no_class : (o : Oid) (q : Place) → is_in_run (values_start o) q ≡ true → is_of_class q ≡ false
no_class o q is = by (not q.is_link) q.attr (told o q is).attr
  where
    by : (b : Bool) (a : ℕ) → nat_le 4 a ≡ true → (b && (a == class_attr)) ≡ false
    by true a h = grind (arith, nat_tests)
    by false a h = refl

pub classes_stay : (o : Oid) (es new : Entries) → new ≡ emptied (is_in_run (values_start o)) es → tally is_of_class es ≡ tally is_of_class new
classes_stay o es new is = sym (ap (tally is_of_class) is ∙ emptied_tally (is_in_run (values_start o)) is_of_class (no_class o) es)

pub links_stay : (o : Oid) (es new : Entries) → new ≡ emptied (is_in_run (values_start o)) es → tally is_of_link es ≡ tally is_of_link new
links_stay o es new is = sym (ap (tally is_of_link) is ∙ emptied_tally (is_in_run (values_start o)) is_of_link (λ q h. sym (told o q h).row) es)
