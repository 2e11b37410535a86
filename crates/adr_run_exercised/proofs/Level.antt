-- Controllers are level: all that they hold or cover is among some updates, and each of them knows each of these. Whole cycles keep them so.
use Rattle.std.proofs.Common.{◌≡◌, ◌≢◌, ◌⊎◌, inl, inr, ⊎_elim, ℕ, ◌≤◌, List, [], ◌∷◌, Bool, true, false, refl, sym, ap, ◌∙◌, subst, arith}
use Rattle.std.specs.Str.{bytes_eq}
use Rattle.adr_values.specs.Vector.{at}
use Rattle.adr_model.specs.Member.{Member, Each}
use Rattle.adr_model.specs.Update.{Identifier, Update, inv_of}
use Rattle.adr_model.specs.Directory.{directory}
use Rattle.adr_model.specs.Reflects.{Covers, knowledge_of}
use Rattle.adr_model.specs.Store.{Store, State, updates_of}
use Rattle.adr_model.specs.Replica.{Replica, Book}
use Rattle.adr_model.specs.World.{Name, World}
use Rattle.adr_model.specs.Step.{step}
use Rattle.adr_model.specs.Sound.{last_of, IsSoundBook, IsSoundState, IsSoundWorld}
use Rattle.adr_model.specs.Convergence.{held_by}
use Rattle.adr_law_knowledge.specs.Known.{IsSoundKnowledge}
use Rattle.adr_law_knowledge.proofs.Comparing.{supersedes_self}
use Rattle.adr_law_knowledge.proofs.Knows.{covers_up}
use Rattle.adr_law_convergence.proofs.Controllers.{replica_is_sound}
use Rattle.adr_law_convergence.proofs.Found.{same_name, same_name_tests}
use Rattle.adr_law_convergence.specs.Rounds.{Exchange, line_of, AreWhole, AreAmong, behind_exchanges, ShowTheSame}
use Rattle.adr_law_convergence.proofs.Knowing.{Knows, knows_too, shows_all}
use Rattle.adr_law_convergence.proofs.Runs.{stands}
use Rattle.adr_law_convergence.proofs.Wholes.{IsCycled, cycled}

-- all that a store holds or covers is among these updates, and it knows each of them
pub record IsLevel (issued all : List Update) (s : Store) : Type 0 where
  pub held : Each (λ u. Member u all) (updates_of s.rows)
  pub covered : Each (λ u. Covers (at s.vector) u → Member u all) issued
  pub known : Each (λ u. Knows issued (knowledge_of s) u) all

abbrev pub AreLevel : List Update → List Update → List Name → World → Type 0
AreLevel issued all names w = Each (λ r. Member r.name names → IsLevel issued all r.safe.store) w.replicas

-- an identifier is the own one, or another one
pub own_or_other : (own i : Identifier) → (i ≡ own) ⊎ (i ≢ own)
own_or_other own i = by (bytes_eq i own) refl
  where
    by : (b : Bool) → bytes_eq i own ≡ b → (i ≡ own) ⊎ (i ≢ own)
    by true is = inl (same_name i own is)
    by false is = inr (λ e. let t : bytes_eq i own ≡ true = same_name_tests i own e in absurd (cc))

-- all that was issued under its own identifier a controller covers
pub own_covered : (book : Book) (s : State) (u : Update) → IsSoundBook book → IsSoundState book s → Member u book.issued → inv_of u ≡ s.inv → Covers (at s.store.vector) u
own_covered book s u sound_book is m own = omega (arith, (sound_book.once u m).1, ap (last_of book) own, ap (at s.store.vector) own, is.last, is.formed.own)

-- ---- a whole cycle

either : (a b : ℕ) → (a ≤ b) ⊎ (b ≤ a)
either a b = grind arith

module _ (all : List Update) (names : List Name) (w v : World) (sound : IsSoundWorld w) (dest source : Name) (c : IsCycled w v dest source) where
  abbrev issued : List Update
  issued = w.book.issued

  d_knowledge : IsSoundKnowledge issued (knowledge_of c.d.safe.store)
  d_knowledge = replica_is_sound w c.d sound c.d_there.0

  pulled_level : IsLevel issued all c.d.safe.store → IsLevel issued all c.s.safe.store → IsLevel issued all c.n.safe.store
  pulled_level d s = record { held = held; covered = covered; known = known }
    where
      held : Each (λ u. Member u all) (updates_of c.n.safe.store.rows)
      held u k = ⊎_elim (λ old. d.held u old) (λ new. s.held u new.0) (c.carried.all.gained u k)

      -- of what others issued it covers what the one or the other covered
      joined : (u : Update) → Member u issued → Covers (at c.n.safe.store.vector) u → inv_of u ≢ c.n.safe.inv → Member u all
      joined u m le other = ⊎_elim
          (λ less. s.covered u m (omega (arith, le, less, c.carried.all.vector (inv_of u) other)))
          (λ more. d.covered u m (omega (arith, le, more, c.carried.all.vector (inv_of u) other)))
          (either (at c.d.safe.store.vector (inv_of u)) (at c.s.safe.store.vector (inv_of u)))

      covered : Each (λ u. Covers (at c.n.safe.store.vector) u → Member u all) issued
      covered u m le = ⊎_elim
          (λ own. d.covered u m (own_covered w.book c.d.safe u sound.book (sound.replicas c.d c.d_there.0).safe m (own ∙ c.carried.inv)))
          (joined u m le)
          (own_or_other c.n.safe.inv (inv_of u))

      known : Each (λ u. Knows issued (knowledge_of c.n.safe.store) u) all
      known u k = knows_too issued (knowledge_of c.d.safe.store) (knowledge_of c.n.safe.store) (λ x m. c.carried.all.keeps x (inl (x, m, supersedes_self x)))
          (λ x m purged. c.carried.all.keeps x (d_knowledge.covered x m (covers_up (at c.d.safe.store.purged) (at c.d.safe.store.vector) x d_knowledge.purged purged))) u (d.known u k)

  level_on : (Member dest names → Member source names) → AreLevel issued all names w → AreLevel issued all names v
  level_on closed were r m is = by (stands w v sound dest source c r m)
    where
      new : r ≡ c.n → r.name ≡ dest → IsLevel issued all r.safe.store
      new same f = let named : Member dest names = subst (λ n. Member n names) f is in
          subst (λ (q : Replica). IsLevel issued all q.safe.store) (sym same) (pulled_level
          (were c.d c.d_there.0 (subst (λ n. Member n names) (sym c.d_there.1) named))
          (were c.s c.s_there.0 (subst (λ n. Member n names) (sym c.s_there.1) (closed named))))

      by : ((r ≡ c.n) × (r.name ≡ dest)) ⊎ ((r.name ≡ dest → ⊥) × Member r w.replicas) → IsLevel issued all r.safe.store
      by (inl (same, f)) = new same f
      by (inr (other, k)) = were r k is

pub level_behind : (all : List Update) (names : List Name) (xs : List Exchange) (w : World) → IsSoundWorld w → AreWhole w xs → AreAmong names xs
    → AreLevel w.book.issued all names w → AreLevel w.book.issued all names (behind_exchanges w xs)
level_behind all names [] w sound whole closed were = were
level_behind all names (x ∷ xs) w sound whole closed were = let v = (step w (line_of x)).0 in let c = cycled w sound x whole.0 in
    subst (λ is. AreLevel is all names (behind_exchanges v xs)) c.issued
    (level_behind all names xs v c.sound whole.1 (λ y m. closed y (inr m)) (subst (λ is. AreLevel is all names v) (sym c.issued) (level_on all names w v sound x.dest x.source c (closed x (inl refl)) were)))

-- ---- what they show

pub level_show_the_same : (all : List Update) (names : List Name) (w : World) → IsSoundWorld w → Each (λ u. Member u w.book.issued) all → AreLevel w.book.issued all names w → ShowTheSame names w
level_show_the_same all names w sound within are r m q n is it = shows r m is ∙ sym (shows q n it)
  where
    shows : (x : Replica) → Member x w.replicas → Member x.name names → directory (held_by x) ≡ directory all
    shows x k named = let l = are x k named in let of = replica_is_sound w x sound k in
        shows_all w.book.issued (knowledge_of x.safe.store) all sound.book.one_content within l.held
        (λ d i purged. l.covered d i (covers_up (at x.safe.store.purged) (at x.safe.store.vector) d of.purged purged)) l.known
