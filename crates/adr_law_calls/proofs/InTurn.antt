-- Items that are written one after the other, in one change, leave what one change for each leaves.
use Rattle.std.proofs.Common.{◌≡◌, ℕ, ◌≤◌, ◌+◌, List, [], ◌∷◌, ◌++◌, Bool, true, false, cond, refl, sym, ap, ◌∙◌, subst, map, fold, length, max, arith}
use Rattle.std.specs.Ordering.{is_eq}
use Rattle.std.proofs.lemmas.List.Sums.{fold-append}
use Rattle.adr_values.specs.Order.{identifier_order}
use Rattle.adr_values.specs.Vector.{Cursors, at, raised}
use Rattle.adr_values.proofs.Cursors.{IsRising, FromOne, same_cursors}
use Rattle.adr_values.proofs.Joining.{at-raised, rising-raised, from_one-raised}
use Rattle.adr_model.specs.Update.{Identifier}
use Rattle.adr_model.specs.Store.{Held, Normal, State}
use Rattle.adr_model.specs.Change.{Written, put, held_of, rows_after, after}
use Rattle.adr_model.specs.Formed.{IsFormed}
use Rattle.adr_model.specs.Write.{own_change}
use Rattle.adr_law_calls.specs.Puts.{held_at}
use Rattle.adr_law_calls.specs.MayWrites.{after_item, MayWriteInTurn}
use Rattle.adr_law_calls.proofs.WriteFormed.{write_formed}

-- a cursor that is raised twice has the later number
raised_twice : (v : Cursors) (inv : Identifier) (n m : ℕ) → IsRising v → FromOne v → n ≤ m → raised (raised v inv n) inv m ≡ raised v inv m
raised_twice v inv n m rising one le =
    same_cursors (raised (raised v inv n) inv m) (raised v inv m) (rising-raised (raised v inv n) inv m (rising-raised v inv n rising)) (rising-raised v inv m rising)
    (from_one-raised (raised v inv n) inv m (from_one-raised v inv n one)) (from_one-raised v inv m one)
    (λ q. at-raised (raised v inv n) inv m q ∙ (ap (λ k. max k (cond (is_eq (identifier_order q inv)) m 0)) (at-raised v inv n q) ∙ (by (at v q) (is_eq (identifier_order q inv)) ∙ sym (at-raised v inv m q))))
  where
    by : (k : ℕ) (b : Bool) → max (max k (cond b n 0)) (cond b m 0) ≡ max k (cond b m 0)
    by k true = omega (arith, le)
    by k false = omega arith

module _ (s : State) (formed : IsFormed s) (w : Written) (ws : List Written) (local : w.local ≡ s.store.usn + 1) where
  abbrev one : State
  one = after_item s w.item

  pub rows_in_turn : rows_after [] (held_of (w ∷ ws)) s.store.rows ≡ rows_after [] (held_of ws) one.store.rows
  rows_in_turn =
      fold-append put s.store.rows (map (held_at w.local) w.item.rows) (held_of ws)
      ∙ ap (λ (hs : List Held). fold put (fold put s.store.rows hs) (held_of ws)) (ap (λ (n : ℕ). map (held_at n) w.item.rows) local ∙ sym (append_nothing (map (held_at (s.store.usn + 1)) w.item.rows)))
    where
      append_nothing : (hs : List Held) → hs ++ [] ≡ hs
      append_nothing [] = refl
      append_nothing (h ∷ hs) = ap (λ (t : List Held). h ∷ t) (append_nothing hs)

  usns : s.store.usn + length (w ∷ ws) ≡ one.store.usn + length ws
  usns = omega arith

  vectors : raised s.store.vector s.inv (s.store.usn + length (w ∷ ws)) ≡ raised one.store.vector s.inv (one.store.usn + length ws)
  vectors =
      sym (raised_twice s.store.vector s.inv (s.store.usn + 1) (s.store.usn + length (w ∷ ws)) formed.store.vector.rising formed.store.vector.from_one (omega arith))
      ∙ ap (raised (raised s.store.vector s.inv (s.store.usn + 1)) s.inv) usns

  -- the first item by itself, and then the others
  pub first_by_itself : after s (own_change s (w ∷ ws)) ≡ after one (own_change one ws)
  first_by_itself = λ i. record {
    dsa = s.dsa;
    inv = s.inv;
    mode = Normal;
    store = record {
      schema = s.store.schema;
      usn = usns i;
      rows = rows_in_turn i;
      vector = vectors i;
      times = s.store.times;
      purged = s.store.purged;
      marks = s.store.marks;
    };
  }

-- one item by itself
pub only_one : (s : State) (w : Written) → w.local ≡ s.store.usn + 1 → after s (own_change s (w ∷ [])) ≡ after_item s w.item
only_one s w local = ap (λ (n : ℕ). after s (own_change s (record { local = n; item = w.item } ∷ []))) local

-- a formed state is formed behind them
pub in_turn_formed : (s : State) (w : Written) (ws : List Written) → IsFormed s → MayWriteInTurn s (w ∷ ws) → IsFormed (after s (own_change s (w ∷ ws)))
in_turn_formed s w [] formed may = subst IsFormed (sym (only_one s w may.0)) (write_formed s w.item formed may.1)
in_turn_formed s w (v ∷ vs) formed may =
    subst IsFormed (sym (first_by_itself s formed w (v ∷ vs) may.0)) (in_turn_formed (after_item s w.item) v vs (write_formed s w.item formed may.1) may.2)
