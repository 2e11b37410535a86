-- What was collected stays covered where the stores of the world after an event come of those before.
use Rattle.std.proofs.Common.{◌≡◌, ◌⊎◌, inl, inr, ⊎_elim, ℕ, List, [], ◌∷◌, ◌++◌, true, Option, Some, None, refl, sym, subst, fold}
use Rattle.std.proofs.Math.Nat.{le_refl, le_trans}
use Rattle.adr_values.specs.declared.stamp.Oid.{Oid}
use Rattle.adr_values.specs.Vector.{Cursors, at, at_most, joined, raised}
use Rattle.adr_model.specs.Member.{Member, Each}
use Rattle.adr_model.specs.Update.{Identifier, Update, inv_of, usn_of}
use Rattle.adr_model.specs.Reflects.{AtMost}
use Rattle.adr_model.specs.Store.{Store, State}
use Rattle.adr_model.specs.Change.{Change, after}
use Rattle.adr_model.specs.Serve.{Request}
use Rattle.adr_model.specs.Collect.{covering}
use Rattle.adr_model.specs.Replica.{Replica, Book}
use Rattle.adr_model.specs.World.{Name, World, bound, with_replica}
use Rattle.adr_model.specs.Convergence.{IsStoreOf, CoversDeaths, IsPurgedCovered}
use Rattle.adr_model.proofs.Members.{member_of_either}
use Rattle.adr_law_convergence.proofs.Found.{each_bound, in_place}
use Rattle.adr_law_knowledge.proofs.Raised.{raised_up}
use Rattle.adr_law_convergence.proofs.CoveredVectors.{covered_by_more, covered_raised, covered_joined, within_joined}

-- the vector has all that one of the stores has seen
pub record IsGrown (w : World) (v : Cursors) : Type 0 where
  pub origin : Store
  pub of : IsStoreOf w origin
  pub grows : AtMost (at origin.vector) (at v)

-- every store, and every request that is under way, covers what these cursors tell of
pub record IsCovered (w : World) (purged : Cursors) : Type 0 where
  pub stores : (t : Store) → IsStoreOf w t → at_most purged t.vector ≡ true
  pub requests : Each (λ (q : Name × Request). at_most purged q.1.vector ≡ true) w.requests

-- a store that may come: it has seen what another one has, and what was collected in it is covered
pub record MayCome (w : World) (s : Store) : Type 0 where
  pub grown : IsGrown w s.vector
  pub covered : IsCovered w s.purged

-- a world whose stores may come, and whose requests were there or have seen what a store has
pub record MayFollow (w v : World) : Type 0 where
  pub stores : (s : Store) → IsStoreOf v s → MayCome w s
  pub requests : Each (λ (q : Name × Request). Member q w.requests ⊎ IsGrown w q.1.vector) v.requests

pub grown_covers : (w : World) (p v : Cursors) → IsCovered w p → IsGrown w v → at_most p v ≡ true
grown_covers w p v covered grown = covered_by_more p grown.origin.vector v grown.grows (covered.stores grown.origin grown.of)

pub followed : (w v : World) → MayFollow w v → IsPurgedCovered v
followed w v may = record {
  stores = λ s t m n. grown_covers w s.purged t.vector (may.stores s m).covered (may.stores t n).grown;
  requests = λ s m q n. asked s (may.stores s m).covered q (may.requests q n);
}
  where
    asked : (s : Store) → IsCovered w s.purged → (q : Name × Request) → Member q w.requests ⊎ IsGrown w q.1.vector → at_most s.purged q.1.vector ≡ true
    asked s covered q (inl m) = covered.requests q m
    asked s covered q (inr grown) = grown_covers w s.purged q.1.vector covered grown

-- where nothing was collected, all is covered
pub nothing_collected : (v : World) → ((s : Store) → IsStoreOf v s → s.purged ≡ []) → IsPurgedCovered v
nothing_collected v none = record {
  stores = λ s t m n. subst (λ (p : Cursors). at_most p t.vector ≡ true) (sym (none s m)) refl;
  requests = λ s m q n. subst (λ (p : Cursors). at_most p q.1.vector ≡ true) (sym (none s m)) refl;
}

-- a vector that covers births and deaths covers the least one that does
covered_deaths : (w : Cursors) (ds : List (Oid × Update)) (v : Cursors) → CoversDeaths w ds → at_most v w ≡ true
    → at_most (fold (λ u (d : Oid × Update). raised (raised u d.0.birth.inv d.0.birth.usn) (inv_of d.1) (usn_of d.1)) v ds) w ≡ true
covered_deaths w [] v each v_is = v_is
covered_deaths w (d ∷ ds) v each v_is =
    covered_deaths w ds (raised (raised v d.0.birth.inv d.0.birth.usn) (inv_of d.1) (usn_of d.1)) (λ e m. each e (inr m))
    (covered_raised (raised v d.0.birth.inv d.0.birth.usn) w (inv_of d.1) (usn_of d.1) (covered_raised v w d.0.birth.inv d.0.birth.usn v_is (each d (inl refl)).0) (each d (inl refl)).1)

module _ (w : World) where
  pub nothing_covered : IsCovered w []
  nothing_covered = record { stores = λ t m. refl; requests = λ q m. refl }

  pub deaths_covered : (ds : List (Oid × Update)) → ((t : Store) → IsStoreOf w t → CoversDeaths t.vector ds) → Each (λ (q : Name × Request). CoversDeaths q.1.vector ds) w.requests → IsCovered w (covering ds)
  deaths_covered ds stores requests = record {
    stores = λ t m. covered_deaths t.vector ds [] (stores t m) refl;
    requests = λ q m. covered_deaths q.1.vector ds [] (requests q m) refl;
  }

  both_covered : (p q : Cursors) → IsCovered w p → IsCovered w q → IsCovered w (joined p q)
  both_covered p q c d = record {
    stores = λ t m. covered_joined q p t.vector (c.stores t m) (d.stores t m);
    requests = λ r m. covered_joined q p r.1.vector (c.requests r m) (d.requests r m);
  }

  -- a vector that is raised
  pub raised_grows : (s : Store) (inv : Identifier) (usn : ℕ) → IsStoreOf w s → IsGrown w (raised s.vector inv usn)
  raised_grows s inv usn m = record { origin = s; of = m; grows = raised_up s.vector inv usn }

  pub as_it_was : (s : Store) → IsStoreOf w s → IsGrown w s.vector
  as_it_was s m = record { origin = s; of = m; grows = λ q. le_refl (at s.vector q) }

  module _ (covered : IsPurgedCovered w) where
    pub purged_covered : (s : Store) → IsStoreOf w s → IsCovered w s.purged
    purged_covered s m = record { stores = λ t n. covered.stores s t m n; requests = λ q n. covered.requests s m q n }

    pub comes_itself : (s : Store) → IsStoreOf w s → MayCome w s
    comes_itself s m = record { grown = as_it_was s m; covered = purged_covered s m }

    -- a change whose purged cursors are covered
    pub changed_comes : (s : State) (c : Change) → IsStoreOf w s.store → IsCovered w c.purged → MayCome w (after s c).store
    changed_comes s c m purged = record {
      grown = record { origin = s.store; of = m; grows = λ q. within_both q };
      covered = both_covered s.store.purged c.purged (purged_covered s.store m) purged;
    }
      where
        within_both : AtMost (at s.store.vector) (at (raised (joined s.store.vector c.joined) s.inv c.usn))
        within_both q = le_trans (within_joined c.joined s.store.vector q) (raised_up (joined s.store.vector c.joined) s.inv c.usn q)

    -- ---- whole worlds

    -- both stores of a controller may come
    abbrev pub BothCome : Replica → Type 0
    BothCome r = MayCome w r.safe.store × MayCome w r.read.store

    pub both_come : (r : Replica) → Member r w.replicas → BothCome r
    both_come r m = (comes_itself r.safe.store (inl (r, m, inl refl)), comes_itself r.read.store (inl (r, m, inr refl)))

    pub follows : (v : World) → Each BothCome v.replicas → Each (λ (i : Name × Store). MayCome w i.1) v.images → Each (λ (q : Name × Request). Member q w.requests ⊎ IsGrown w q.1.vector) v.requests → MayFollow w v
    follows v replicas images requests = record { stores = stores; requests = requests }
      where
        stores : (s : Store) → IsStoreOf v s → MayCome w s
        stores s (inl (r, m, inl e)) = subst (MayCome w) (sym e) (replicas r m).0
        stores s (inl (r, m, inr e)) = subst (MayCome w) (sym e) (replicas r m).1
        stores s (inr (i, m, e)) = subst (MayCome w) (sym e) (images i m)

    images_come : Each (λ (i : Name × Store). MayCome w i.1) w.images
    images_come i m = comes_itself i.1 (inr (i, m, refl))

    requests_stay : Each (λ (q : Name × Request). Member q w.requests ⊎ IsGrown w q.1.vector) w.requests
    requests_stay q m = inl m

    pub placed : (book : Book) (new : Replica) → BothCome new → IsPurgedCovered (record w { book = book; replicas = with_replica w.replicas new })
    placed book new comes = followed w (record w { book = book; replicas = with_replica w.replicas new }) (follows (record w { book = book; replicas = with_replica w.replicas new }) each images_come requests_stay)
      where
        each : Each BothCome (with_replica w.replicas new)
        each q m = ⊎_elim (λ e. subst BothCome (sym e) comes) (λ t. both_come q t.0) (in_place w.replicas new q m)

    pub joining : (book : Book) (new : Replica) → BothCome new → IsPurgedCovered (record w { book = book; replicas = w.replicas ++ new ∷ [] })
    joining book new comes = followed w (record w { book = book; replicas = w.replicas ++ new ∷ [] }) (follows (record w { book = book; replicas = w.replicas ++ new ∷ [] }) each images_come requests_stay)
      where
        each : Each BothCome (w.replicas ++ new ∷ [])
        each q m = by (member_of_either w.replicas (new ∷ []) q m)
          where
            by : Member q w.replicas ⊎ Member q (new ∷ []) → BothCome q
            by (inl n) = both_come q n
            by (inr (inl e)) = subst BothCome (sym e) comes
            by (inr (inr n)) = absurd n

    pub requested : (name : Name) (o : Option Request) → ((q : Request) → o ≡ Some q → IsGrown w q.vector) → IsPurgedCovered (record w { requests = bound w.requests name o })
    requested name o grown = followed w (record w { requests = bound w.requests name o }) (follows (record w { requests = bound w.requests name o }) both_come images_come (each o grown))
      where
        each : (o : Option Request) → ((q : Request) → o ≡ Some q → IsGrown w q.vector) → Each (λ (q : Name × Request). Member q w.requests ⊎ IsGrown w q.1.vector) (bound w.requests name o)
        each None new q m = inl m
        each (Some x) new q m = by (member_of_either w.requests ((name, x) ∷ []) q m)
          where
            by : Member q w.requests ⊎ Member q ((name, x) ∷ []) → Member q w.requests ⊎ IsGrown w q.1.vector
            by (inl n) = inl n
            by (inr (inl e)) = inr (subst (λ (p : Name × Request). IsGrown w p.1.vector) (sym e) (new x refl))
            by (inr (inr n)) = absurd n

    pub imaged : (name : Name) (o : Option Store) → ((s : Store) → o ≡ Some s → MayCome w s) → IsPurgedCovered (record w { images = bound w.images name o })
    imaged name o comes = followed w (record w { images = bound w.images name o }) (follows (record w { images = bound w.images name o }) both_come (each_bound (MayCome w) w.images name o images_come comes) requests_stay)
