use Rattle.std.proofs.Common.{◌≡◌, ◌⊎◌, inl, inr, ⊎_elim, ◌∙◌, refl, sym, ap, subst, List, Bool, true, false, cond, ◌||◌, Option, None}
use Rattle.std.specs.List.{list_any}
use Rattle.std.specs.BTreeMap.{is_at}
use Rattle.std.specs.Ordering.{is_eq}
use Rattle.std.specs.Map.Iter.{deref}
use Rattle.std.proofs.lemmas.Map.Iter.{rest_more}
use Rattle.adr_model.specs.Update.{LinkOf, same_object}
use Rattle.adr_model.specs.Store.{Held}
use Rattle.adr_values.specs.declared.stamp.LinkKey.{LinkKey}
use Rattle.adr_table.specs.declared.back.Behind.{Behind}
use Rattle.adr_shelves.specs.Place.{place_of}
use Rattle.adr_table.specs.Slots.{row_at}
use Rattle.adr_table.specs.Back.{behind_order, hint, is_place_of, link_behind}
use Rattle.adr_table.proofs.Behinds.{first_hints, hinted, other_row, own_row, stops_later, some_or_none}
use Rattle.adr_table.proofs.Rooms.{still_none}
use Rattle.adr_table.proofs.back.empty_links_to.Goals as goal

pub loop-behind-init : goal.loop-behind-init
loop-behind-init c =
    let left = c.into_iter-behind-iterator.ensures.into_iter_gives ∙ c.range-behind-items.ensures.between tt in (
      tt,
      tt,
      c.requires.tidy,
      refl,
      (λ k no. refl),
      (λ k to. some_or_none (row_at c.args.slots.now (place_of (LinkOf k))) (λ some. hinted c.args.object.now c.args.back.now.keys c.into_iter-behind-iterator.result left k to (c.requires.backed k some))),
      (λ q e. e),
      first_hints c.args.object.now c.args.back.now.keys c.into_iter-behind-iterator.result left c.range-behind-items.ensures.ordered,
    )

pub loop-behind-preserved : goal.loop-behind-preserved
loop-behind-preserved c =
    let left = rest_more deref c.loop-behind.behind-iterator c.next.new.self c.next.result c.in-Some.behind c.in-Some.is c.next.ensures.steps in
    let to : same_object c.in-Some.behind.now.to c.args.object.now ≡ true = ap is_eq (sym c.cmp.ensures) ∙ sym c.is_eq.ensures ∙ c.if-not-is_eq.false in (
      tt,
      tt,
      c.empty_behind.ensures.tidy,
      c.empty_behind.ensures.places ∙ c.loop-behind.invariant.3,
      (λ k no. c.empty_behind.ensures.rows (place_of k) ∙ ap (λ b. cond b None (row_at c.loop-behind.slots (place_of k))) (other_row c.args.object.now c.in-Some.behind.now k to no) ∙ c.loop-behind.invariant.4 k no),
      (λ k at. ⊎_elim (λ none. inl (c.empty_behind.ensures.rows (place_of (LinkOf k)) ∙ still_none (is_place_of (link_behind c.in-Some.behind.now) (place_of (LinkOf k))) (row_at c.loop-behind.slots (place_of (LinkOf k))) none))
          (λ any. by c.in-Some.behind.now c.next.new.self k (row_at c.empty_behind.new.slots (place_of (LinkOf k))) (row_at c.loop-behind.slots (place_of (LinkOf k))) (c.empty_behind.ensures.rows (place_of (LinkOf k)))
          (subst (λ xs. list_any (is_at (behind_order (hint k))) xs ≡ true) left any)) (c.loop-behind.invariant.5 k at)),
      (λ q e. c.empty_behind.ensures.rows q ∙ still_none (is_place_of (link_behind c.in-Some.behind.now) q) (row_at c.loop-behind.slots q) (c.loop-behind.invariant.6 q e)),
      stops_later c.args.object.now c.in-Some.behind.now c.next.new.self c.loop-behind.behind-iterator left c.loop-behind.invariant.7,
    )
  where
    by : (b : Behind) (bs : List Behind) (k : LinkKey) (new old : Option Held) → new ≡ cond (is_place_of (link_behind b) (place_of (LinkOf k))) None old → (is_at (behind_order (hint k)) b || list_any (is_at (behind_order (hint k))) bs) ≡ true
        → (new ≡ None) ⊎ (list_any (is_at (behind_order (hint k))) bs ≡ true)
    by b bs k new old e any = turn (is_at (behind_order (hint k)) b) refl any
      where
        turn : (t : Bool) → is_at (behind_order (hint k)) b ≡ t → (t || list_any (is_at (behind_order (hint k))) bs) ≡ true → (new ≡ None) ⊎ (list_any (is_at (behind_order (hint k))) bs ≡ true)
        turn true is any = inl (e ∙ ap (λ t. cond t None old) (own_row b k is))
        turn false is any = inr any
