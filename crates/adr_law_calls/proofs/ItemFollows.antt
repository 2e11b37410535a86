-- What holds on the way still holds behind one more item, and so behind all.
use Rattle.std.proofs.Common.{◌≡◌, ◌⊎◌, inl, inr, ⊎_elim, ℕ, ◌≤◌, ◌+◌, List, [], ◌∷◌, ◌++◌, Option, None, refl, sym, subst, fold, arith, length}
use Rattle.std.proofs.lemmas.List.{append-nil}
use Rattle.adr_values.specs.declared.stamp.Unit.{Unit as Named}
use Rattle.adr_values.specs.declared.stamp.Unit.TheVariants.{Object, Link}
use Rattle.adr_values.specs.declared.content.Content.TheVariants.{Class}
use Rattle.adr_values.specs.Numbered.{numbered}
use Rattle.adr_values.specs.Vector.{at}
use Rattle.adr_call.specs.declared.refusal.TakeRefusal.{TakeRefusal}
use Rattle.adr_model.specs.Member.{Member, Each}
use Rattle.adr_model.specs.Update.{LinkOf, Holds, Update}
use Rattle.adr_model.specs.Live.{objects_of}
use Rattle.adr_model.specs.Store.{Held, State, updates_of}
use Rattle.adr_model.specs.Change.{Item, Written, put}
use Rattle.adr_model.specs.Formed.{IsFormed}
use Rattle.adr_model.specs.Sound.{AreClassesKnown}
use Rattle.adr_model.specs.Write.{object_limit, link_limit, links_in}
use Rattle.adr_model.specs.Take.{Taking, begin, rows_taken, item_refusal, take_item, take_items}
use Rattle.adr_model.proofs.Members.{member_of_either}
use Rattle.adr_law_calls.specs.Puts.{under, MayPut, ArePut}
use Rattle.adr_law_calls.proofs.Putting.{are_put}
use Rattle.adr_law_calls.proofs.Formed.{classes_stay_known}
use Rattle.adr_law_calls.proofs.FormedRows.{stood}
use Rattle.adr_law_calls.proofs.Rows.{link_of_unit}
use Rattle.adr_law_calls.specs.KeepForms.{KeepForms}
use Rattle.adr_law_calls.proofs.ItemStep.{put_of_item, goes_on, steady_step}
use Rattle.adr_law_calls.proofs.Items.{begins_formed}
use Rattle.adr_model.specs.Spelled.{IsSaidOfKey, IsSpelledItem, AreLocalsRising}
use Rattle.adr_law_calls.specs.Taken.{AreBare, MayBeTaken}
use Rattle.adr_law_calls.specs.Follow.{MayFollow, AreWithinLimits, MayFollowInTurn, after_write, HasKnownClasses}
use Rattle.adr_law_calls.specs.SoFar.{FollowsSoFar}
use Rattle.adr_law_calls.proofs.Said.{neither}
use Rattle.adr_law_calls.proofs.ItemMay.{item_may}
use Rattle.adr_law_calls.proofs.WritesFollow.{one_more_follows, one_more_local}

-- classes stay known where rows are put that keep the forms: a link row says none
pub classes_stay : (schema usn : ℕ) (before after : List Held) (V : List ℕ → ℕ) (unit : Named) (us : List Update)
    → AreClassesKnown (numbered schema) (updates_of before)
    → MayPut (updates_of before) V unit us → ArePut usn us before after
    → KeepForms (numbered schema) V (updates_of before) unit us → Each (λ u. IsSaidOfKey u.key u.said) us
    → AreClassesKnown (numbered schema) (updates_of after)
classes_stay schema usn before after V (Object o) us known put are keeps says = classes_stay_known schema usn before after V o keeps.0 us known put are keeps.1
classes_stay schema usn before after V (Link l) us known put are keeps says = λ u m class is. ⊎_elim
    (λ n. absurd (no_class u n class is)) (λ n. known u n class is) (stood usn before after us are u m)
  where
    no_class : (u : Update) → Member u us → (class : ℕ) → u.said ≡ Holds (Class class) → ⊥
    no_class u m class is = subst (IsSaidOfKey (LinkOf l)) is
        (subst (λ k. IsSaidOfKey k u.said) (link_of_unit u.key l (put.of_unit u m)) (says u m))

module _ (s : State) (t : Taking) (way : FollowsSoFar s t) (i : Item) (refusal : Option TakeRefusal)
    (place objects links : ℕ) (more_objects : t.objects ≤ objects) (more_links : t.links ≤ links) where
  -- nothing is written
  idle : FollowsSoFar s (goes_on t i [] refusal place objects links)
  idle = record {
    steady = steady_step s t way.steady i refusal place objects links [] (inl refl);
    classes = way.classes;
    spaced = subst (AreLocalsRising s.store.usn (t.usn + 0)) (sym (append-nil t.writes))
        (subst (λ n. AreLocalsRising s.store.usn n t.writes) (omega arith) way.spaced);
    bare = subst (Each (λ w. AreBare w.item.rows)) (sym (append-nil t.writes)) way.bare;
    follow = λ o l. subst (MayFollowInTurn (numbered s.store.schema) s.store.vector s.store.rows)
        (sym (append-nil t.writes))
        (way.follow (omega (arith, o, more_objects)) (omega (arith, l, more_links)));
  }

  module _ (u : Update) (us : List Update) (good : MayBeTaken s.store.schema s.store.vector t.rows i.unit (u ∷ us))
      (count_objects : length (objects_of (updates_of (goes_on t i (u ∷ us) refusal place objects links).rows)) ≤ objects)
      (count_links : links_in (goes_on t i (u ∷ us) refusal place objects links).rows ≤ links) where
    abbrev after : List Held
    after = fold put t.rows (under (t.usn + 1) (u ∷ us))

    abbrev behind : Taking
    behind = goes_on t i (u ∷ us) refusal place objects links

    abbrev write : Written
    write = record { local = t.usn + 1; item = record { unit = i.unit; rows = u ∷ us } }

    are : ArePut (t.usn + 1) (u ∷ us) t.rows after
    are = are_put (t.usn + 1) t.rows (at s.store.vector) i.unit (u ∷ us) good.put

    same : behind.rows ≡ after
    same = put_of_item t.usn i (u ∷ us) t.rows

    follow : objects ≤ object_limit → links ≤ link_limit
        → MayFollowInTurn (numbered s.store.schema) s.store.vector s.store.rows (t.writes ++ (write ∷ []))
    follow o l = one_more_follows (numbered s.store.schema) s.store.vector s.store.rows t.writes write
        (way.follow (omega (arith, o, more_objects)) (omega (arith, l, more_links)))
        (subst (λ rows. MayFollow (numbered s.store.schema) s.store.vector rows write.item) (sym way.steady.made) good.follows)
        (subst (λ rows. AreWithinLimits (after_write rows write)) (sym way.steady.made) (omega (arith, o, count_objects), omega (arith, l, count_links)))

    bare : Each (λ w. AreBare w.item.rows) (t.writes ++ (write ∷ []))
    bare w m = ⊎_elim (λ n. way.bare w n) (λ n. new w n) (member_of_either t.writes (write ∷ []) w m)
      where
        new : (w : Written) → Member w (write ∷ []) → AreBare w.item.rows
        new w (inl e) = subst (λ (z : Written). AreBare z.item.rows) (sym e) good.put.bare
        new w (inr n) = absurd n

    written : FollowsSoFar s behind
    written = record {
      steady = steady_step s t way.steady i refusal place objects links (u ∷ us) (inr (good.put, good.keeps));
      classes = subst (λ rows. AreClassesKnown (numbered s.store.schema) (updates_of rows)) (sym same)
          (classes_stay s.store.schema (t.usn + 1) t.rows after (at s.store.vector) i.unit (u ∷ us) way.classes good.put are good.keeps good.follows.form.says);
      spaced = one_more_local s.store.usn t.usn t.writes write way.steady.rises (omega arith) way.spaced;
      bare = bare;
      follow = follow;
    }

  pub step : (us : List Update) → (us ≡ []) ⊎ MayBeTaken s.store.schema s.store.vector t.rows i.unit us
      → length (objects_of (updates_of (goes_on t i us refusal place objects links).rows)) ≤ objects
      → links_in (goes_on t i us refusal place objects links).rows ≤ links
      → FollowsSoFar s (goes_on t i us refusal place objects links)
  step [] e objects links = idle
  step (u ∷ us) (inl e) objects links = absurd (let f : u ∷ us ≡ [] = e in cc)
  step (u ∷ us) (inr good) objects links = written u us good objects links

module _ (s : State) where
  abbrev taken : Taking → Item → Taking
  taken t i = take_item (numbered s.store.schema) s.store.vector t i

  abbrev all : Taking → List Item → Taking
  all t is = fold (take_item (numbered s.store.schema) s.store.vector) t is

  one_item : (t : Taking) (i : Item) → FollowsSoFar s t → IsSpelledItem i
      → item_refusal (numbered s.store.schema) s.store.vector t.rows t.place i ≡ None
      → FollowsSoFar s (taken t i)
  one_item t i way spelled none =
      step s t way i (taken t i).refusal (taken t i).place (taken t i).objects (taken t i).links (omega arith) (omega arith) (rows_taken s.store.vector t.rows i)
      (item_may s.store.schema s.store.vector t.rows t.place i way.steady.rising way.steady.formed spelled none)
      (omega arith) (omega arith)

  all_on_way : (is : List Item) (t : Taking) → (t.refusal ≡ None → FollowsSoFar s t) → Each IsSpelledItem is
      → (all t is).refusal ≡ None → FollowsSoFar s (all t is)
  all_on_way [] t way spelled none = way none
  all_on_way (i ∷ is) t way spelled none = all_on_way is (taken t i) next (λ j m. spelled j (inr m)) none
    where
      next : (taken t i).refusal ≡ None → FollowsSoFar s (taken t i)
      next e = let p = neither t.refusal (item_refusal (numbered s.store.schema) s.store.vector t.rows t.place i) e in one_item t i
          (way p.0) (spelled i (inl refl)) p.1

  pub items_on_way : (is : List Item) → IsFormed s → HasKnownClasses s → Each IsSpelledItem is
      → (take_items s is).refusal ≡ None → FollowsSoFar s (take_items s is)
  items_on_way is formed classes spelled none = all_on_way is (begin s) (λ e. starts) spelled none
    where
      starts : FollowsSoFar s (begin s)
      starts = record {
        steady = begins_formed s formed;
        classes = classes;
        spaced = tt;
        bare = λ w m. absurd m;
        follow = λ o l. tt;
      }
