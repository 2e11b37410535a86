-- Connected controllers that have nothing left to write, and have one vector, are level.
use Rattle.std.proofs.Common.{◌≡◌, inl, inr, ℕ, zero, suc, List, refl, sym, ◌∙◌, subst}
use Rattle.adr_values.specs.Vector.{Cursors, at}
use Rattle.adr_model.specs.Member.{Member, Each}
use Rattle.adr_model.specs.Update.{Update}
use Rattle.adr_model.specs.Reflects.{Covers, knowledge_of, Reflects}
use Rattle.adr_model.specs.Store.{updates_of}
use Rattle.adr_model.specs.Replica.{Replica}
use Rattle.adr_model.specs.World.{in_view, Name, World}
use Rattle.adr_model.specs.Rings.{Connection}
use Rattle.adr_model.specs.Sound.{IsSoundWorld}
use Rattle.adr_model.specs.Convergence.{held_by}
use Rattle.adr_law_knowledge.proofs.Knows.{covers_up}
use Rattle.adr_law_knowledge.proofs.View.{covered_is_visible, held_is_visible, of_visible, visible_is_in_view}
use Rattle.adr_law_convergence.proofs.Controllers.{replica_is_sound}
use Rattle.adr_law_convergence.proofs.Directories.{by_whom, seen, seen_by}
use Rattle.adr_law_convergence.specs.Rounds.{HaveOneVector, Reaches, AreConnected}
use Rattle.adr_law_convergence.proofs.Knowing.{Knows, known_where_reflected, knows_too}
use Rattle.adr_law_convergence.proofs.Runs.{one_of, AreSettled}
use Rattle.adr_run_exercised.proofs.Level.{AreLevel}

-- ---- what some have in view

pub seen_is_issued : (names : List Name) (w : World) → Each (λ u. Member u w.book.issued) (seen_by names w)
seen_is_issued names w u m = let t = by_whom names w u m in (of_visible w.book.issued t.0.safe.store.vector (held_by t.0) u t.3).0

-- ---- what one knows all know

-- there is a controller of this name
abbrev pub IsThere : World → Name → Type 0
IsThere w x = (r : Replica) × Member r w.replicas × (r.name ≡ x)

module _ (w : World) (sound : IsSoundWorld w) (names : List Name) (over : List Connection) (among_these : Each (λ c. Member c.0 names × Member c.1 names) over) (settled : AreSettled over w)
    (one : HaveOneVector names w) (there : Each (IsThere w) names) where
  abbrev issued : List Update
  issued = w.book.issued

  abbrev KnownBy : Replica → Update → Type 0
  KnownBy r u = Knows issued (knowledge_of r.safe.store) u

  -- by one connection
  passes : (d s : Replica) (dest source : Name) → Member d w.replicas → Member s w.replicas → d.name ≡ dest → s.name ≡ source → Member (dest, source) over → (u : Update) → KnownBy s u → KnownBy d u
  passes d s dest source m n e f c u = knows_too issued (knowledge_of s.safe.store) (knowledge_of d.safe.store) rows purged u
    where
      rows : Each (λ x. Reflects issued (knowledge_of d.safe.store) x) (updates_of s.safe.store.rows)
      rows x k = let t = settled x (dest, source) c (s, n, f, k) in
          subst (λ (q : Replica). Reflects issued (knowledge_of q.safe.store) x) (one_of w sound t.0 d t.1 m (t.2 ∙ sym e)) t.3

      vector : s.safe.store.vector ≡ d.safe.store.vector
      vector = let named = among_these (dest, source) c in one s n d m (subst (λ x. Member x names) (sym f) named.1) (subst (λ x. Member x names) (sym e) named.0)

      purged : Each (λ x. Covers (at s.safe.store.purged) x → Reflects issued (knowledge_of d.safe.store) x) issued
      purged x k covered = (replica_is_sound w d sound m).covered x k
          (subst (λ (v : Cursors). Covers (at v) x) vector (covers_up (at s.safe.store.purged) (at s.safe.store.vector) x (replica_is_sound w s sound n).purged covered))

  -- along a way
  reaches : (steps : ℕ) (from name : Name) → Reaches over steps from name → (p q : Replica) → Member p w.replicas → Member q w.replicas → p.name ≡ from → q.name ≡ name → (u : Update) → KnownBy p u → KnownBy q u
  reaches zero from name way p q m n e f u k = subst (λ (r : Replica). KnownBy r u) (one_of w sound p q m n (e ∙ (sym way ∙ sym f))) k
  reaches (suc steps) from name (inl short) p q m n e f u k = reaches steps from name short p q m n e f u k
  reaches (suc steps) from name (inr (next, c, rest)) p q m n e f u k = let t = there next (among_these (next, from) c).0 in
      reaches steps next name rest t.0 q t.1 n t.2 f u (passes t.0 p next from t.1 m t.2 e c u k)

  pub settled_are_level : AreConnected over names → AreLevel issued (seen_by names w) names w
  settled_are_level connected r m is = record { held = held; covered = covered; known = known }
    where
      held : Each (λ u. Member u (seen_by names w)) (updates_of r.safe.store.rows)
      held u k = seen names w r u m is (held_is_visible issued r.safe.store.vector (held_by r) u ((replica_is_sound w r sound m).known u k) k)

      covered : Each (λ u. Covers (at r.safe.store.vector) u → Member u (seen_by names w)) issued
      covered u k le = seen names w r u m is (covered_is_visible issued r.safe.store.vector (held_by r) u k le)

      known : Each (λ u. KnownBy r u) (seen_by names w)
      known u k = reaches way.0 t.0.name r.name way.1 t.0 r t.1 m refl refl u
          (known_where_reflected issued (knowledge_of t.0.safe.store) u ((visible_is_in_view issued t.0.safe.store (replica_is_sound w t.0 sound t.1)).taken u t.3))
        where
          t : (q : Replica) × Member q w.replicas × Member q.name names × Member u (in_view w q.safe)
          t = by_whom names w u k

          way : (steps : ℕ) × Reaches over steps t.0.name r.name
          way = connected.ways r.name is t.0.name t.2
