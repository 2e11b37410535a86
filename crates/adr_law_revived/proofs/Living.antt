-- Where an object of a GUID stands one of it is live, and a live object has its node.
use Rattle.std.proofs.Common.{◌≡◌, inl, inr, ⊎_elim, Bool, true, false, cond, not, ◌&&◌, ℕ, List, [], ◌∷◌, Some, None, refl, sym, ap, ◌∙◌, subst, find}
use Rattle.std.specs.List.{list_all}
use Rattle.std.specs.Option.{option_and_then}
use Rattle.std.specs.Ordering.{is_lt}
use Rattle.std.specs.declared.cmp.Ordering.{Ordering}
use Rattle.std.specs.declared.cmp.Ordering.TheVariants.{Less, Equal, Greater}
use Rattle.std.proofs.lemmas.Cmp.{tied_itself}
use Rattle.adr_values.specs.declared.stamp.Oid.{Oid}
use Rattle.adr_values.specs.declared.stamp.LinkStamp.{LinkStamp}
use Rattle.adr_values.specs.declared.content.Content.TheVariants.{Class, Name}
use Rattle.adr_model.specs.Member.{Member, Each}
use Rattle.adr_model.specs.Update.{Identifier, Update, RowOf, Holds, class_attr, name_attr, same_identifier, same_object, same_key, ends}
use Rattle.adr_model.specs.Winner.{winners}
use Rattle.adr_model.specs.Live.{standing, yields_to, live, is_among, live_rows}
use Rattle.adr_model.specs.Place.{row_at, with_name, node_of, nodes_of}
use Rattle.adr_model.proofs.Members.{none_passes, one_passes, in_filter, in_filter_map, found}
use Rattle.adr_model.proofs.Keys.{winner_found}
use Rattle.adr_law_knowledge.proofs.Comparing.{keys_tell, same_as_itself, objects_same}
use Rattle.adr_law_knowledge.proofs.Winners.{in_winners}
use Rattle.adr_law_calls.proofs.Nodes.{of_live_rows}
use Rattle.adr_law_tree.proofs.Fuel.{same_guid}
use Rattle.adr_law_tree.proofs.Unique.{elder, elders_total, has_winner}

is_less : (o : Ordering) → is_lt o ≡ true → o ≡ Less
is_less Less e = refl
is_less Equal e = absurd (cc)
is_less Greater e = absurd (cc)

-- what isn't found isn't there
pub none_found : {A : Type 0} (test : A → Bool) (xs : List A) (x : A) → Member x xs → test x ≡ true → find test xs ≡ None → ⊥
none_found test [] x m passes none = absurd m
none_found {A = A} test (y ∷ ys) x m passes none = by (test y) refl m none (λ n. none_found test ys x n passes)
  where
    by : (b : Bool) → test y ≡ b → Member x (y ∷ ys) → cond b (Some y) (find test ys) ≡ None → (Member x ys → find test ys ≡ None → ⊥) → ⊥
    by true is n e rest = absurd (cc)
    by false is (inl same) e rest = let fails : test x ≡ false = ap test same ∙ is in absurd (cc)
    by false is (inr n) e rest = rest n e

module _ (us : List Update) where
  abbrev IsOne : Oid → Type 0
  IsOne o = Member o (standing us)

  abbrev Yields : Oid → Oid → Type 0
  Yields o p = yields_to us o p ≡ true

  abbrev older : Update → Oid → LinkStamp × Oid
  older u o = (u.stamp, o)

  less : (o p : Oid) (m : IsOne o) (n : IsOne p) → Yields o p → elder (older (has_winner us o m).0 o) (older (has_winner us p n).0 p) ≡ Less
  less o p m n e = is_less _ (rw ((has_winner us o m).1, (has_winner us p n).1) at e)

  not_itself : (o : Oid) → IsOne o → Yields o o → ⊥
  not_itself o m e =
      let first : elder (older (has_winner us o m).0 o) (older (has_winner us o m).0 o) ≡ Less = less o o m m e in
      let tie : elder (older (has_winner us o m).0 o) (older (has_winner us o m).0 o) ≡ Equal = tied_itself elders_total (older (has_winner us o m).0 o) in
      cc

  -- who doesn't yield, though one that it yields to does
  never : (o p q : Oid) → IsOne o → IsOne p → IsOne q → Yields o p → Yields p q → yields_to us o q ≡ false → ⊥
  never o p q l m n e f none =
      let sum : elder (older (has_winner us o l).0 o) (older (has_winner us q n).0 q) ≡ Less =
      elders_total.trans (older (has_winner us o l).0 o) (older (has_winner us p m).0 p) (older (has_winner us q n).0 q) (less o p l m e) (less p q m n f) in
      let fails : is_lt (elder (older (has_winner us o l).0 o) (older (has_winner us q n).0 q)) ≡ false = rw ((has_winner us o l).1, (has_winner us q n).1) at none in
      cc

  passes_on : (o p q : Oid) → IsOne o → IsOne p → IsOne q → Yields o p → (Yields o q → ⊥) → Yields p q → ⊥
  passes_on o p q l m n e none f = by (yields_to us o q) refl
    where
      by : (b : Bool) → yields_to us o q ≡ b → ⊥
      by true is = none is
      by false is = never o p q l m n e f is

  module _ (g : Identifier) where
    abbrev IsMine : Oid → Type 0
    IsMine o = same_identifier o.guid g ≡ true

    -- one that yields to none of a list, and to none to which the first one doesn't
    record IsGreatest (b : Oid) (ps : List Oid) : Type 0 where
      it : Oid
      one : IsOne it
      mine : IsMine it
      above : (x : Oid) → Member x ps → IsOne x → IsMine x → Yields it x → ⊥
      beyond : (x : Oid) → IsOne x → (Yields b x → ⊥) → Yields it x → ⊥

    greatest : (b : Oid) → IsOne b → IsMine b → (ps : List Oid) → Each IsOne ps → IsGreatest b ps
    greatest b m is [] all = record { it = b; one = m; mine = is; above = λ x n. absurd n; beyond = λ x n h. h }
    greatest b m is (p ∷ ps) all = by (same_identifier p.guid g) refl (yields_to us b p) refl (λ own. greatest p (all p (inl refl)) own ps (λ x n. all x (inr n))) (greatest b m is ps (λ x n. all x (inr n)))
      where
        by : (c : Bool) → same_identifier p.guid g ≡ c → (d : Bool) → yields_to us b p ≡ d → (IsMine p → IsGreatest p ps) → IsGreatest b ps → IsGreatest b (p ∷ ps)
        by true own true yields to_p to_b = let r = to_p own in record {
          it = r.it;
          one = r.one;
          mine = r.mine;
          above = λ x n k mine. ⊎_elim (λ e. r.beyond x k (λ y. not_itself p (all p (inl refl)) (subst (Yields p) e y))) (λ o. r.above x o k mine) n;
          beyond = λ x n h. r.beyond x n (passes_on b p x m (all p (inl refl)) n yields h);
        }
        by true own false stays to_p to_b = record {
          it = to_b.it;
          one = to_b.one;
          mine = to_b.mine;
          above = λ x n k mine. ⊎_elim (λ e. to_b.beyond x k (λ y. let f : yields_to us b p ≡ true = subst (Yields b) e y in cc)) (λ o. to_b.above x o k mine) n;
          beyond = to_b.beyond;
        }
        by false other d e to_p to_b = record {
          it = to_b.it;
          one = to_b.one;
          mine = to_b.mine;
          above = λ x n k mine. ⊎_elim (λ same. let f : same_identifier p.guid g ≡ true = subst IsMine same mine in absurd (cc)) (λ o. to_b.above x o k mine) n;
          beyond = to_b.beyond;
        }

    pub some_lives : (o : Oid) → IsOne o → IsMine o → (p : Oid) × IsOne p × IsMine p × (is_among (live us) p ≡ true)
    some_lives o m is = (r.it, r.one, r.mine, one_passes (λ q. same_object q r.it) (live us) r.it (in_filter _ (standing us) r.it r.one (ap not (none_passes _ (standing us) none))) (objects_same r.it r.it refl))
      where
        r : IsGreatest o (standing us)
        r = greatest o m is (standing us) (λ p n. n)

        none : (p : Oid) → Member p (standing us) → (same_identifier r.it.guid p.guid && yields_to us r.it p) ≡ false
        none p n = by (same_identifier r.it.guid p.guid) refl (yields_to us r.it p) refl
          where
            by : (b : Bool) → same_identifier r.it.guid p.guid ≡ b → (c : Bool) → yields_to us r.it p ≡ c → (b && c) ≡ false
            by false e c f = refl
            by true e false f = refl
            by true e true f = absurd (r.above p n n (subst (λ h. same_identifier h g ≡ true) (same_guid r.it.guid p.guid e) r.mine) f)

  -- ---- the node of a live object

  module _ (one : Each (λ u. Each (λ v. u.key ≡ v.key → u ≡ v) us) us) (o : Oid) (among : is_among (live us) o ≡ true) where
    row_lives : (u : Update) → Member u us → (attr : ℕ) → u.key ≡ RowOf o attr → Member u (live_rows us)
    row_lives u m attr key = in_filter (λ (x : Update). list_all (is_among (live us)) (ends x.key)) (winners us) u
        (in_winners us u (winner_found us u m (same_as_itself u.key) (λ v k same. one v k u m (keys_tell v.key u.key same))))
        (subst (λ k. list_all (is_among (live us)) (ends k) ≡ true) (sym key) (ap (λ b. b && true) among))

    name_found : (n : Update) → Member n us → n.key ≡ RowOf o name_attr → row_at (live_rows us) (RowOf o name_attr) ≡ Some n
    name_found n m key = found (λ (u : Update). same_key u.key (RowOf o name_attr)) (live_rows us) n (row_lives n m name_attr key)
        (ap (λ k. same_key k (RowOf o name_attr)) key ∙ same_as_itself (RowOf o name_attr))
        (λ v k same. one v (of_live_rows us v k).0 n m (keys_tell v.key (RowOf o name_attr) same ∙ sym key))

    pub node_there : (c n : Update) (class : ℕ) (text : List ℕ) (parent : Identifier) → Member c us → c.key ≡ RowOf o class_attr → c.said ≡ Holds (Class class)
        → Member n us → n.key ≡ RowOf o name_attr → n.said ≡ Holds (Name text parent)
        → Member (record { object = o; class = class; text = text; parent = parent; stamp = n.stamp }) (nodes_of (live_rows us))
    node_there c n class text parent mc kc book mn kn sn = in_filter_map (λ (u : Update). node_of (live_rows us) u.key u.said) (live_rows us) c _ (row_lives c mc class_attr kc)
        (ap (λ k. node_of (live_rows us) k c.said) kc ∙ (ap (λ s. node_of (live_rows us) (RowOf o class_attr) s) book
        ∙ (ap (λ r. option_and_then (λ u. with_name o class u.stamp u.said) r) (name_found n mn kn) ∙ ap (λ s. with_name o class n.stamp s) sn)))
