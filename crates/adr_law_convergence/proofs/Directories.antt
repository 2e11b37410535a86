-- Who hears from each shows what all had in view.
use Rattle.std.proofs.Common.{◌≡◌, ◌⊎◌, inl, inr, ⊎_elim, ℕ, List, [], ◌∷◌, Bool, true, ◌&&◌, refl, sym, ap, ◌∙◌, subst, filter, flat_map}
use Rattle.std.specs.List.{list_any}
use Rattle.std.specs.Str.{bytes_eq}
use Rattle.std.proofs.lemmas.Bool.{and_parts, or_cases}
use Rattle.adr_values.specs.Vector.{Cursors, at}
use Rattle.adr_values.proofs.Comparing.{everywhere_from_at_most}
use Rattle.adr_model.specs.Member.{Member, Each}
use Rattle.adr_model.specs.Update.{Update}
use Rattle.adr_model.specs.Directory.{directory}
use Rattle.adr_model.specs.Reflects.{knowledge_of, Covers}
use Rattle.adr_model.specs.Store.{Store, updates_of}
use Rattle.adr_model.specs.Replica.{Replica}
use Rattle.adr_model.specs.World.{in_view, Name, World}
use Rattle.adr_model.specs.Step.{step}
use Rattle.adr_model.specs.Sound.{IsSoundStore, IsSoundWorld}
use Rattle.adr_model.specs.Convergence.{held_by}
use Rattle.adr_model.proofs.Members.{member_flat, flat_member, in_filter, of_filter, one_passes, some_passes}
use Rattle.adr_law_knowledge.specs.Known.{IsSoundKnowledge}
use Rattle.adr_law_knowledge.proofs.Comparing.{supersedes_self}
use Rattle.adr_law_knowledge.proofs.Knows.{covers_up}
use Rattle.adr_law_knowledge.proofs.View.{covered_is_visible, held_is_visible, of_visible, visible_is_in_view, formed_is_sound}
use Rattle.adr_law_convergence.proofs.Found.{same_name, same_name_tests}
use Rattle.adr_law_convergence.specs.Rounds.{Exchange, line_of, AreWhole, behind_exchanges, passed_on, spread, AllHear, AreAmong, HearersShowTheSame}
use Rattle.adr_law_convergence.proofs.Knowing.{Knows, known_where_reflected, knows_too, shows_all}
use Rattle.adr_law_convergence.proofs.Wholes.{IsCycled, cycled}
use Rattle.adr_law_convergence.proofs.Runs.{one_of, stands}

-- whether it is one of these
abbrev pub among : List Name → Replica → Bool
among names r = list_any (λ n. bytes_eq n r.name) names

-- the issued updates that one of these covers or holds
abbrev pub seen_by : List Name → World → List Update
seen_by names w = flat_map (λ (x : Replica). in_view w x.safe) (filter (among names) w.replicas)

pub seen : (names : List Name) (w : World) (r : Replica) (u : Update) → Member r w.replicas → Member r.name names → Member u (in_view w r.safe) → Member u (seen_by names w)
seen names w r u m is v = member_flat (λ (x : Replica). in_view w x.safe) (filter (among names) w.replicas) r u (in_filter (among names) w.replicas r m (one_passes (λ (n : Name). bytes_eq n r.name) names r.name is (same_name_tests r.name r.name refl))) v

pub by_whom : (names : List Name) (w : World) (u : Update) → Member u (seen_by names w) → (r : Replica) × Member r w.replicas × Member r.name names × Member u (in_view w r.safe)
by_whom names w u m = let t = flat_member (λ (x : Replica). in_view w x.safe) (filter (among names) w.replicas) u m in
    let f = of_filter (among names) w.replicas t.0 t.1 in
    let n = some_passes (λ (n : Name). bytes_eq n t.0.name) names f.1 in
    (t.0, f.0, subst (λ x. Member x names) (same_name n.0 t.0.name n.2) n.1, t.2)

store_of : (w : World) → IsSoundWorld w → (r : Replica) → Member r w.replicas → IsSoundStore w.book r.safe.store
store_of w sound r m = (sound.replicas r m).safe.store

knowledge : (w : World) → IsSoundWorld w → (r : Replica) → Member r w.replicas → IsSoundKnowledge w.book.issued (knowledge_of r.safe.store)
knowledge w sound r m = let s = store_of w sound r m in formed_is_sound w.book.issued r.safe.store s.formed s.known s.covered

-- ---- what is held, and what was collected, was seen at the beginning

record IsOfAll (issued all : List Update) (s : Store) : Type 0 where
  held : Each (λ u. Member u all) (updates_of s.rows)
  purged : Each (λ d. Covers (at s.purged) d → Member d all) issued

module _ (issued all : List Update) (names : List Name) where
  abbrev AreOfAll : World → Type 0
  AreOfAll w = Each (λ r. Member r.name names → IsOfAll issued all r.safe.store) w.replicas

  of_all_on : (w v : World) (sound : IsSoundWorld w) (dest source : Name) (c : IsCycled w v dest source) → (Member dest names → Member source names) → AreOfAll w → AreOfAll v
  of_all_on w v sound dest source c closed were r m is = by (stands w v sound dest source c r m)
    where
      pulled : r ≡ c.n → r.name ≡ dest → IsOfAll issued all r.safe.store
      pulled same f = subst (λ (q : Replica). IsOfAll issued all q.safe.store) (sym same) (record { held = held; purged = purged })
        where
          named : Member dest names
          named = subst (λ n. Member n names) f is

          d : IsOfAll issued all c.d.safe.store
          d = were c.d c.d_there.0 (subst (λ n. Member n names) (sym c.d_there.1) named)

          s : IsOfAll issued all c.s.safe.store
          s = were c.s c.s_there.0 (subst (λ n. Member n names) (sym c.s_there.1) (closed named))

          held : Each (λ u. Member u all) (updates_of c.n.safe.store.rows)
          held u k = ⊎_elim (λ old. d.held u old) (λ new. s.held u new.0) (c.carried.all.gained u k)

          purged : Each (λ x. Covers (at c.n.safe.store.purged) x → Member x all) issued
          purged x k covered = d.purged x k (subst (λ (p : Cursors). Covers (at p) x) c.carried.all.purged covered)

      by : ((r ≡ c.n) × (r.name ≡ dest)) ⊎ ((r.name ≡ dest → ⊥) × Member r w.replicas) → IsOfAll issued all r.safe.store
      by (inl (same, f)) = pulled same f
      by (inr (other, k)) = were r k is

  of_all_behind : (xs : List Exchange) (w : World) → IsSoundWorld w → AreWhole w xs → AreAmong names xs → AreOfAll w → AreOfAll (behind_exchanges w xs)
  of_all_behind [] w sound whole closed were = were
  of_all_behind (x ∷ xs) w sound whole closed were = let c = cycled w sound x whole.0 in
      of_all_behind xs (step w (line_of x)).0 c.sound whole.1 (λ y m. closed y (inr m)) (of_all_on w (step w (line_of x)).0 sound x.dest x.source c (closed x (inl refl)) were)

-- ---- word of an update

abbrev Know : List Update → Update → World → (Name → Bool) → Type 0
Know issued u w has = Each (λ r. has r.name ≡ true → Knows issued (knowledge_of r.safe.store) u) w.replicas

module _ (w v : World) (sound : IsSoundWorld w) (dest source : Name) (c : IsCycled w v dest source) (u : Update) where
  d_knowledge : IsSoundKnowledge w.book.issued (knowledge_of c.d.safe.store)
  d_knowledge = knowledge w sound c.d c.d_there.0

  kept : Knows w.book.issued (knowledge_of c.d.safe.store) u → Knows w.book.issued (knowledge_of c.n.safe.store) u
  kept = knows_too w.book.issued (knowledge_of c.d.safe.store) (knowledge_of c.n.safe.store) (λ x m. c.carried.all.keeps x (inl (x, m, supersedes_self x)))
      (λ x m covered. c.carried.all.keeps x (d_knowledge.covered x m (covers_up (at c.d.safe.store.purged) (at c.d.safe.store.vector) x d_knowledge.purged covered))) u

  heard : Knows w.book.issued (knowledge_of c.s.safe.store) u → Knows w.book.issued (knowledge_of c.n.safe.store) u
  heard = knows_too w.book.issued (knowledge_of c.s.safe.store) (knowledge_of c.n.safe.store) c.carried.all.took
      (λ x m covered. c.carried.all.keeps x (d_knowledge.covered x m (covers_up (at c.s.safe.store.purged) (at c.d.safe.store.vector) x (everywhere_from_at_most c.s.safe.store.purged c.d.safe.store.vector c.carried.covered) covered))) u

  know_on : (has : Name → Bool) (max : ℕ) → Know w.book.issued u w has → Know w.book.issued u v (passed_on has (record { dest = dest; source = source; max = max }))
  know_on has max all r m h = by (stands w v sound dest source c r m) (or_cases (has r.name) (bytes_eq r.name dest && has source) h)
    where
      back : r ≡ c.n → Knows w.book.issued (knowledge_of c.n.safe.store) u → Knows w.book.issued (knowledge_of r.safe.store) u
      back same k = subst (λ (q : Replica). Knows w.book.issued (knowledge_of q.safe.store) u) (sym same) k

      by : ((r ≡ c.n) × (r.name ≡ dest)) ⊎ ((r.name ≡ dest → ⊥) × Member r w.replicas) → (has r.name ≡ true) ⊎ ((bytes_eq r.name dest && has source) ≡ true) → Knows w.book.issued (knowledge_of r.safe.store) u
      by (inl (same, f)) (inl had) = back same (kept (all c.d c.d_there.0 (ap has (c.d_there.1 ∙ sym f) ∙ had)))
      by (inl (same, f)) (inr new) = back same (heard (all c.s c.s_there.0 (ap has c.s_there.1 ∙ (and_parts (bytes_eq r.name dest) (has source) new).1)))
      by (inr (other, k)) (inl had) = all r k had
      by (inr (other, k)) (inr new) = absurd (other (same_name r.name dest (and_parts (bytes_eq r.name dest) (has source) new).0))

know_behind : (u : Update) (xs : List Exchange) (w : World) (has : Name → Bool) → IsSoundWorld w → AreWhole w xs → Know w.book.issued u w has → Know w.book.issued u (behind_exchanges w xs) (spread has xs)
know_behind u [] w has sound whole all = all
know_behind u (x ∷ xs) w has sound whole all = let c = cycled w sound x whole.0 in let v = (step w (line_of x)).0 in
    subst (λ is. Know is u (behind_exchanges v xs) (spread (passed_on has x) xs)) c.issued
    (know_behind u xs v (passed_on has x) c.sound whole.1 (subst (λ is. Know is u v (passed_on has x)) (sym c.issued) (know_on w v sound x.dest x.source c u has x.max all)))

-- ---- what each shows

shows : (w : World) (names : List Name) (xs : List Exchange) → IsSoundWorld w → AreWhole w xs → AreAmong names xs → AllHear names xs
    → Each (λ r. Member r.name names → directory (held_by r) ≡ directory (seen_by names w)) (behind_exchanges w xs).replicas
shows w names xs sound whole closed hear r m is =
    shows_all issued (knowledge_of r.safe.store) all sound.book.one_content within (of.held) (of.purged) known
  where
    issued : List Update
    issued = w.book.issued

    all : List Update
    all = seen_by names w

    within : Each (λ u. Member u issued) all
    within u k = let t = by_whom names w u k in (of_visible issued t.0.safe.store.vector (held_by t.0) u t.3).0

    start : Each (λ q. Member q.name names → IsOfAll issued all q.safe.store) w.replicas
    start q k named = let s = store_of w sound q k in let n = knowledge w sound q k in record {
      held = λ u i. seen names w q u k named (held_is_visible issued q.safe.store.vector (held_by q) u (s.known u i) i);
      purged = λ d i covered. seen names w q d k named (covered_is_visible issued q.safe.store.vector (held_by q) d i (covers_up (at q.safe.store.purged) (at q.safe.store.vector) d n.purged covered));
    }

    of : IsOfAll issued all r.safe.store
    of = of_all_behind issued all names xs w sound whole closed start r m is

    known : Each (λ u. Knows issued (knowledge_of r.safe.store) u) all
    known u k = know_behind u xs w (λ z. bytes_eq z t.0.name) sound whole first r m (hear r.name is t.0.name t.2)
      where
        t : (q : Replica) × Member q w.replicas × Member q.name names × Member u (in_view w q.safe)
        t = by_whom names w u k

        first : Know issued u w (λ z. bytes_eq z t.0.name)
        first q i e = subst (λ (z : Replica). Knows issued (knowledge_of z.safe.store) u) (one_of w sound t.0 q t.1 i (sym (same_name q.name t.0.name e)))
            (known_where_reflected issued (knowledge_of t.0.safe.store) u ((visible_is_in_view issued t.0.safe.store (knowledge w sound t.0 t.1)).taken u t.3))

pub hearers_show_the_same : HearersShowTheSame
hearers_show_the_same w names xs sound whole closed hear r m q n is it = shows w names xs sound whole closed hear r m is ∙ sym (shows w names xs sound whole closed hear q n it)
