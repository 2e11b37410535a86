-- Where no walk is needed.
use Rattle.std.proofs.Common.{◌≡◌, ◌⊎◌, inl, inr, ⊎_elim, ℕ, zero, suc, Bool, true, false, Option, Some, None, refl, sym, ap, ◌∙◌, subst}
use Rattle.adr_model.specs.Update.{Identifier, same_identifier}
use Rattle.adr_model.specs.Place.{Node, node_at, is_fixed, breaks_loop}
use Rattle.adr_law_tree.specs.Walk.{Look, Up, Met, Breaks, free}
use Rattle.adr_law_tree.specs.Breaker.{in_loop, loop_breaker}
use Rattle.adr_law_tree.specs.Short.{ChildlessLaw, SameParentLaw, NoLoopLaw}
use Rattle.adr_law_tree.proofs.Walks.{Keeps, IsMore, is_found, ClosedBy, met_from, around}
use Rattle.adr_law_tree.proofs.Fuel.{itself}
use Rattle.adr_law_tree.proofs.Unfixed.{keeps_free, found_free}
use Rattle.adr_law_tree.proofs.Loops.{as_more, own_of, same_bools, closed_by, round, in_round, is_breaking, never_round}

-- the last object on a way
last : (at : Look) → Keeps at → (k : ℕ) (g : Identifier) (m : Node) → Up at k g m → (g ≡ m.object.guid) ⊎ ((p : Node) × Met at g p × (p.parent ≡ m.object.guid))
last at keeps zero g m up = inl (sym (keeps g m up))
last at keeps (suc k) g m (p, e, up) = inr (by (last at keeps k p.parent m up))
  where
    by : (p.parent ≡ m.object.guid) ⊎ ((q : Node) × Met at p.parent q × (q.parent ≡ m.object.guid)) → (q : Node) × Met at g q × (q.parent ≡ m.object.guid)
    by (inl here) = (p, (zero, e), here)
    by (inr (q, met, here)) = (q, (suc met.0, (p, e, met.1)), here)

false_where : (b : Bool) → (b ≡ true → ⊥) → b ≡ false
false_where false none = refl
false_where true none = absurd (none refl)

pub childless_law : ChildlessLaw
childless_law all x more is childless = false_where (in_loop more x) (λ e. none (round more x (own_of more x is.here) e))
  where
    no_child : (p : Node) → node_at more p.object.guid ≡ Some p → p.parent ≡ x.object.guid → ⊥
    no_child p here e =
        let f : same_identifier p.parent x.object.guid ≡ false = childless p here in
        let t : same_identifier p.parent x.object.guid ≡ true = subst (λ h. same_identifier h x.object.guid ≡ true) (sym e) (itself x.object.guid) in cc

    none : Met (free more) x.parent x → ⊥
    none (k, up) = ⊎_elim (λ e. no_child x is.here e)
        (λ t. no_child t.0 (found_free more t.0.object.guid t.0 (is_found (free more) (keeps_free more) t.1.0 x.parent t.0 t.1.1)) t.2) (last (free more) (keeps_free more) k x.parent x up)

-- a way to an object leads to the one in its stead
instead : (at more others : Look) (x y : Node) → IsMore at more x → IsMore at others y → x.object.guid ≡ y.object.guid → (k : ℕ) (g : Identifier) → Up more k g x → Met others g y
instead at more others x y m n guids zero g up = (zero, ap others (sym (m.keeps_more g x up) ∙ guids) ∙ n.here)
instead at more others x y m n guids (suc k) g (p, e, up) = by (m.else g) (n.else g) (instead at more others x y m n guids k p.parent up)
  where
    by : (g ≡ x.object.guid) ⊎ (more g ≡ at g) → (g ≡ y.object.guid) ⊎ (others g ≡ at g) → Met others p.parent y → Met others g y
    by (inl here) there rest = (zero, ap others (here ∙ guids) ∙ n.here)
    by (inr same) (inl there) rest = (zero, ap others there ∙ n.here)
    by (inr same) (inr other) rest = (suc rest.0, (p, other ∙ sym same ∙ e, rest.1))

pub same_parent_law : SameParentLaw
same_parent_law all x y more others is also guids parents = same_bools (in_loop more x) (in_loop others y)
    (λ e. in_round others y (subst (λ g. Met (free others) g y) parents (go (round more x (own_of more x is.here) e))))
    (λ e. in_round more x (subst (λ g. Met (free more) g x) (sym parents) (back (round others y (own_of others y also.here) e))))
  where
    go : Met (free more) x.parent x → Met (free others) x.parent y
    go (k, up) = by (is_fixed x.object.guid) refl
      where
        by : (b : Bool) → is_fixed x.object.guid ≡ b → Met (free others) x.parent y
        by true fixed = absurd (never_round more x fixed (k, up))
        by false e = instead (free all) (free more) (free others) x y (as_more all x more is e) (as_more all y others also (ap is_fixed (sym guids) ∙ e)) guids k x.parent up

    back : Met (free others) y.parent y → Met (free more) y.parent x
    back (k, up) = by (is_fixed y.object.guid) refl
      where
        by : (b : Bool) → is_fixed y.object.guid ≡ b → Met (free more) y.parent x
        by true fixed = absurd (never_round others y fixed (k, up))
        by false e = instead (free all) (free others) (free more) y x (as_more all y others also e) (as_more all x more is (ap is_fixed guids ∙ e)) (sym guids) k y.parent up

pub no_loop_law : NoLoopLaw
no_loop_law all none x here = false_where (in_loop all x) (λ e. by (loop_breaker all x) (closed_by all x (own_of all x here)) (round all x (own_of all x here) e))
  where
    by : (o : Option Node) → ClosedBy (free all) x o → Met (free all) x.parent x → ⊥
    by None c met = c met
    by (Some b) (loop, up, youngest) met =
        let F : Look = free all in
        let there : node_at all b.object.guid ≡ Some b = found_free all b.object.guid b (is_found F (keeps_free all) up.0 x.parent b up.1) in
        let breaks_b : Breaks F b = (met_from F b.parent x b (around F x b loop up) up, (λ m above. youngest m (met_from F x.parent b m up above))) in
        let t : breaks_loop all b ≡ true = is_breaking all b breaks_b in
        let f : breaks_loop all b ≡ false = none b there in cc
