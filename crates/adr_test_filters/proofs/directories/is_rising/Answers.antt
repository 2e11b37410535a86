use Rattle.std.proofs.Common.{◌≡◌, ◌⊎◌, inl, inr, ◌≤◌, ◌+◌, ◌-◌, ◌<◌, ℕ, List, [], get_or, map, true, refl, sym, subst, ◌∙◌, arith}
use Rattle.std.specs.Ordering.{is_lt}
use Rattle.std.specs.declared.cmp.Ordering.{Ordering}
use Rattle.std.specs.declared.cmp.Ordering.TheVariants.{Less, Equal, Greater}
use Rattle.std.proofs.lemmas.Bool.{cases_lt}
use Rattle.std.proofs.lemmas.Cmp.{nat_list_cmp_total}
use Rattle.std.proofs.lemmas.List.{length-map}
use Rattle.std.proofs.lemmas.Map.Keys.{sorted_from_all_adjacent}
use Rattle.adr_values.specs.Order.{identifier_order}
use Rattle.adr_call.specs.declared.directory.Entry.{Entry}
use Rattle.adr_test_filters.proofs.directories.is_rising.Goals as goal

less : (o : Ordering) → is_lt o ≡ true → o ≡ Less
less Less h = refl
less Equal h = cc
less Greater h = cc

abbrev Rises : List (List ℕ) → ℕ → Type 0
Rises gs k = identifier_order (get_or gs k []) (get_or gs (k + 1) []) ≡ Less

-- one pair more
further : (gs : List (List ℕ)) (place : ℕ) → ((k : ℕ) → k + 1 < place → Rises gs k) → Rises gs (place - 1) → (k : ℕ) → k + 1 < place + 1 → Rises gs k
further gs place before last k lt = by (cases_lt (k + 1) place)
  where
    by : (k + 1 < place) ⊎ (place ≤ k + 1) → Rises gs k
    by (inl l) = before k l
    by (inr le) = let same : place - 1 ≡ k = omega arith in subst (Rises gs) same last

pub loop-place-preserved : goal.loop-place-preserved
loop-place-preserved c =
    let gs = map (λ (e : Entry). e.guid) c.args.entries.now in
    further gs c.loop-place.place c.loop-place.invariant (less _ (sym c.rises_at.ensures ∙ c.if-not-rises_at.false))

pub returns : goal.returns
returns c is =
    let gs = map (λ (e : Entry). e.guid) c.args.entries.now in
    let long = length-map c.args.entries.now (λ (e : Entry). e.guid) in
    sorted_from_all_adjacent nat_list_cmp_total gs [] (λ k lt. c.loop-place.invariant k (omega (arith, c.loop-place-test.false)))
