-- What is visible to a store with sound knowledge is in its view.
use Rattle.std.proofs.Common.{◌≡◌, ◌⊎◌, ◌↔◌, inl, inr, ⊎_elim, List, Bool, true, false, ◌&&◌, ◌||◌, refl, sym, ap, ◌∙◌, subst, arith}
use Rattle.std.proofs.lemmas.Bool.{and_from, and_parts, or_left, or_right, leb-true, le-leb, or_cases}
use Rattle.adr_values.specs.Vector.{Cursors, at}
use Rattle.adr_model.specs.Member.{Member, Each}
use Rattle.adr_model.specs.Update.{Identifier, Update, inv_of, usn_of, at_least}
use Rattle.adr_model.specs.Reflects.{Covers, Supersedes, knowledge_of, Reflects}
use Rattle.adr_model.specs.Store.{Store, updates_of}
use Rattle.adr_model.specs.Visible.{covers_update, is_held, visible}
use Rattle.adr_model.specs.Formed.{IsFormedStore}
use Rattle.adr_values.proofs.Comparing.{everywhere_from_at_most}
use Rattle.adr_model.specs.Directory.{directory}
use Rattle.adr_model.proofs.Members.{one_passes, of_filter, in_filter, some_passes}
use Rattle.adr_law_knowledge.specs.Known.{CoverAlike, IsSoundKnowledge, IsInView}
use Rattle.adr_model.specs.Sound.{HasOneContent}
use Rattle.adr_law_knowledge.proofs.Comparing.{supersedes_self, supersedes_where_at_least, at_least_where_supersedes}
use Rattle.adr_law_knowledge.proofs.Lists.{same_filter}
use Rattle.adr_law_knowledge.proofs.Winners.{one_of_stamp}
use Rattle.adr_law_knowledge.proofs.Shows.{directory_same}

pub covered_where_tested : (vector : Cursors) (u : Update) → covers_update vector u ≡ true → Covers (at vector) u
covered_where_tested vector u e = leb-true (usn_of u) (at vector (inv_of u)) e

pub tested_where_covered : (vector : Cursors) (u : Update) → Covers (at vector) u → covers_update vector u ≡ true
tested_where_covered vector u c = le-leb (usn_of u) (at vector (inv_of u)) c

-- an update that is among those held, by its key and its stamp
pub of_held : (rows : List Update) (u : Update) → is_held rows u ≡ true → (h : Update) × Member h rows × Supersedes h u × Supersedes u h
of_held rows u e = let t = some_passes (λ (h : Update). at_least h u && at_least u h) rows e in
    let p = and_parts (at_least t.0 u) (at_least u t.0) t.2 in
    (t.0, t.1, supersedes_where_at_least t.0 u p.0, supersedes_where_at_least u t.0 p.1)

pub held_is_held : (rows : List Update) (u : Update) → Member u rows → is_held rows u ≡ true
held_is_held rows u m = let self : at_least u u ≡ true = at_least_where_supersedes u u (supersedes_self u) in
    one_passes (λ (h : Update). at_least h u && at_least u h) rows u m (and_from _ _ self self)

pub of_visible : (issued : List Update) (vector : Cursors) (rows : List Update) (u : Update) → Member u (visible issued vector rows) → Member u issued × (Covers (at vector) u ⊎ (is_held rows u ≡ true))
of_visible issued vector rows u m = let t = of_filter (λ (x : Update). covers_update vector x || is_held rows x) issued u m in
    (t.0, ⊎_elim (λ c. inl (covered_where_tested vector u c)) (λ h. inr h) (or_cases (covers_update vector u) (is_held rows u) t.1))

pub covered_is_visible : (issued : List Update) (vector : Cursors) (rows : List Update) (u : Update) → Member u issued → Covers (at vector) u → Member u (visible issued vector rows)
covered_is_visible issued vector rows u m c =
    in_filter (λ (x : Update). covers_update vector x || is_held rows x) issued u m (or_left _ _ (tested_where_covered vector u c))

pub held_is_visible : (issued : List Update) (vector : Cursors) (rows : List Update) (u : Update) → Member u issued → Member u rows → Member u (visible issued vector rows)
held_is_visible issued vector rows u m h =
    in_filter (λ (x : Update). covers_update vector x || is_held rows x) issued u m (or_right _ _ (held_is_held rows u h))

pub visible_is_in_view : (issued : List Update) (s : Store) → IsSoundKnowledge issued (knowledge_of s) → IsInView issued (knowledge_of s) (visible issued s.vector (updates_of s.rows))
visible_is_in_view issued s k = record {
  held = λ u m. held_is_visible issued s.vector (updates_of s.rows) u (k.known u m) m;
  within = λ u m. (of_visible issued s.vector (updates_of s.rows) u m).0;
  covered = λ u m c. covered_is_visible issued s.vector (updates_of s.rows) u m c;
  taken = λ u m. let t = of_visible issued s.vector (updates_of s.rows) u m in taken u t.0 t.1;
}
  where
    taken : (u : Update) → Member u issued → Covers (at s.vector) u ⊎ (is_held (updates_of s.rows) u ≡ true) → Reflects issued (knowledge_of s) u
    taken u m (inl c) = k.covered u m c
    taken u m (inr h) = let t = of_held (updates_of s.rows) u h in inl (t.0, t.1, t.2)

pub held_shows_visible : (issued : List Update) (s : Store) → HasOneContent issued → IsSoundKnowledge issued (knowledge_of s)
    → directory (updates_of s.rows) ≡ directory (visible issued s.vector (updates_of s.rows))
held_shows_visible issued s one k = directory_same issued (knowledge_of s) (visible issued s.vector (updates_of s.rows)) one k.purged (visible_is_in_view issued s k)

-- what is held counts for nothing beyond the vector
visible_by_vector : (issued : List Update) (s : Store) (u : Update) → HasOneContent issued → IsSoundKnowledge issued (knowledge_of s)
    → Each (λ h. Covers (at s.vector) h) (updates_of s.rows) → Member u issued → (covers_update s.vector u || is_held (updates_of s.rows) u) ≡ covers_update s.vector u
visible_by_vector issued s u one k covered m = by (covers_update s.vector u) refl (is_held (updates_of s.rows) u) refl
  where
    known : is_held (updates_of s.rows) u ≡ true → covers_update s.vector u ≡ true
    known e = let t = of_held (updates_of s.rows) u e in
        let same : t.0 ≡ u = one_of_stamp issued t.0 u one (k.known t.0 t.1) m t.2.key t.2.stamp t.3.stamp in
        tested_where_covered s.vector u (subst (λ x. Covers (at s.vector) x) same (covered t.0 t.1))

    by : (c : Bool) → covers_update s.vector u ≡ c → (h : Bool) → is_held (updates_of s.rows) u ≡ h → (c || h) ≡ c
    by true e h f = refl
    by false e true f = let yes : covers_update s.vector u ≡ true = known f in cc
    by false e false f = refl

same_coverage : (v w : Cursors) (u : Update) → Covers (at v) u ↔ Covers (at w) u → covers_update v u ≡ covers_update w u
same_coverage v w u same = by (covers_update v u) refl (covers_update w u) refl
  where
    to : covers_update v u ≡ true → covers_update w u ≡ true
    to e = tested_where_covered w u (same.0 (covered_where_tested v u e))

    back : covers_update w u ≡ true → covers_update v u ≡ true
    back e = tested_where_covered v u (same.1 (covered_where_tested w u e))

    by : (a : Bool) → covers_update v u ≡ a → (b : Bool) → covers_update w u ≡ b → a ≡ b
    by true e b f = sym (to e) ∙ f
    by false e true f = sym e ∙ back f
    by false e false f = refl

pub equal_coverage : (issued : List Update) (s t : Store) → HasOneContent issued → IsSoundKnowledge issued (knowledge_of s) → IsSoundKnowledge issued (knowledge_of t)
    → Each (λ h. Covers (at s.vector) h) (updates_of s.rows) → Each (λ h. Covers (at t.vector) h) (updates_of t.rows)
    → CoverAlike issued (at s.vector) (at t.vector) → directory (updates_of s.rows) ≡ directory (updates_of t.rows)
equal_coverage issued s t one k l covered others same =
    held_shows_visible issued s one k ∙ (ap directory (same_filter _ _ issued agree) ∙ sym (held_shows_visible issued t one l))
  where
    agree : Each (λ u. (covers_update s.vector u || is_held (updates_of s.rows) u) ≡ (covers_update t.vector u || is_held (updates_of t.rows) u)) issued
    agree u m = visible_by_vector issued s u one k covered m ∙ (same_coverage s.vector t.vector u (same u m) ∙ sym (visible_by_vector issued t u one l others m))

pub equal_vectors : (issued : List Update) (s t : Store) → ((i : Identifier) → at s.vector i ≡ at t.vector i) → CoverAlike issued (at s.vector) (at t.vector)
equal_vectors issued s t same u m = (λ c. up s t c (same (inv_of u)), λ c. up t s c (sym (same (inv_of u))))
  where
    up : (a b : Store) → Covers (at a.vector) u → at a.vector (inv_of u) ≡ at b.vector (inv_of u) → Covers (at b.vector) u
    up a b c e = omega (arith, c, e)

-- membership alone, without what is known of the store
pub visible_where : (issued : List Update) (vector : Cursors) (rows : List Update) (u : Update) → Member u issued
    → Covers (at vector) u ⊎ ((h : Update) × Member h rows × Supersedes h u × Supersedes u h) → Member u (visible issued vector rows)
visible_where issued vector rows u m (inl c) = covered_is_visible issued vector rows u m c
visible_where issued vector rows u m (inr (h, n, s, t)) =
    in_filter (λ (x : Update). covers_update vector x || is_held rows x) issued u m (or_right _ _ found)
  where
    found : is_held rows u ≡ true
    found = one_passes (λ (x : Update). at_least x u && at_least u x) rows h n (and_from _ _ (at_least_where_supersedes h u s) (at_least_where_supersedes u h t))

pub visible_only : (issued : List Update) (vector : Cursors) (rows : List Update) (u : Update) → Member u (visible issued vector rows)
    → Member u issued × (Covers (at vector) u ⊎ ((h : Update) × Member h rows × Supersedes h u × Supersedes u h))
visible_only issued vector rows u m = let t = of_visible issued vector rows u m in (t.0, ⊎_elim (λ c. inl c) (λ h. inr (of_held rows u h)) t.1)

pub formed_is_sound : (issued : List Update) (s : Store) → IsFormedStore s → Each (λ u. Member u issued) (updates_of s.rows)
    → Each (λ u. Covers (at s.vector) u → Reflects issued (knowledge_of s) u) issued → IsSoundKnowledge issued (knowledge_of s)
formed_is_sound issued s is known covered = record { known = known; covered = covered; purged = everywhere_from_at_most s.purged s.vector is.purged_within }
