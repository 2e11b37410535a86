-- A sound world in which one controller is put in place of another one, or comes.
use Rattle.std.proofs.Common.{◌≡◌, ◌≢◌, ◌⊎◌, inl, inr, ⊎_elim, List, [], ◌∷◌, ◌++◌, sym, ap, ◌∙◌, subst}
use Rattle.adr_model.specs.Member.{Member, Each}
use Rattle.adr_model.specs.Update.{Identifier}
use Rattle.adr_model.specs.Store.{Normal}
use Rattle.adr_model.specs.LocalLog.{no_log}
use Rattle.adr_model.specs.Replica.{Replica, Book, log_of}
use Rattle.adr_model.specs.World.{World, with_replica}
use Rattle.adr_model.specs.Sound.{IsSoundBook, IsSoundReplica, IsTraced, AreIdentifiersSound, IsSoundWorld}
use Rattle.adr_model.proofs.Members.{member_of_either}
use Rattle.adr_law_calls.specs.Later.{IsLater}
use Rattle.adr_law_calls.proofs.Frames.{store_later, request_later}
use Rattle.adr_law_calls.proofs.Replies.{reply_later, replica_later}
use Rattle.adr_law_convergence.proofs.Found.{in_place}

-- the book and a controller that may stand in a world next: the book is later and sound, of the logs none changed but the
-- controller's, and that is sound, with identifiers that lines gave
pub record MayStand (w : World) (b : Book) (r : Replica) : Type 0 where
  pub later : IsLater w.book b
  pub book : IsSoundBook b
  pub given : Member r.safe.inv w.given.invs
  pub dsa_given : Member r.safe.dsa w.given.dsas
  pub sound : IsSoundReplica b r
  pub stores : IsTraced w r.safe.store × IsTraced w r.read.store
  pub normal : r.safe.mode ≡ Normal

-- the new controller is no one else's
pub record IsApart (w : World) (book : Book) (r q : Replica) : Type 0 where
  pub names : q.name ≢ r.name
  pub dsas : q.safe.dsa ≢ r.safe.dsa
  pub invs : q.safe.inv ≢ r.safe.inv
  pub log : log_of book q.safe.inv ≡ log_of w.book q.safe.inv

module _ (w : World) (book : Book) (r : Replica) (rs : List Replica) (sound : IsSoundWorld w) (may : MayStand w book r)
    (unused : (i : Identifier) → (Member i w.given.invs → ⊥) → log_of book i ≡ no_log)
    (who : (q : Replica) → Member q rs → (q ≡ r) ⊎ (Member q w.replicas × IsApart w book r q)) where
  abbrev v : World
  v = record w { book = book; replicas = rs }

  -- a fact of the new one and of the others
  each : (P : Replica → Type 0) → P r → ((q : Replica) → Member q w.replicas → IsApart w book r q → P q) → Each P rs
  each P new old q m = ⊎_elim (λ e. subst P (sym e) new) (λ o. old q o.0 o.1) (who q m)

  -- a name or an identifier that two share makes them one
  one : {A : Type 0} (f : Replica → A) → ((q : Replica) → IsApart w book r q → f q ≢ f r) → Each (λ p. Each (λ q. f p ≡ f q → p ≡ q) w.replicas) w.replicas → Each (λ p. Each (λ q. f p ≡ f q → p ≡ q) rs) rs
  one {A = A} f differ old p m q n e = by (who p m) (who q n)
    where
      by : (p ≡ r) ⊎ (Member p w.replicas × IsApart w book r p) → (q ≡ r) ⊎ (Member q w.replicas × IsApart w book r q) → p ≡ q
      by (inl a) (inl b) = a ∙ sym b
      by (inl a) (inr b) = absurd (differ q b.1 (sym e ∙ ap f a))
      by (inr a) (inl b) = absurd (differ p a.1 (e ∙ ap f b))
      by (inr a) (inr b) = old p a.0 q b.0 e

  identifiers : AreIdentifiersSound v
  identifiers = record {
    names = one (λ q. q.name) (λ q a. a.names) sound.identifiers.names;
    dsas = one (λ q. q.safe.dsa) (λ q a. a.dsas) sound.identifiers.dsas;
    invs = one (λ q. q.safe.inv) (λ q a. a.invs) sound.identifiers.invs;
    dsas_given = each (λ q. Member q.safe.dsa w.given.dsas) may.dsa_given (λ q m a. sound.identifiers.dsas_given q m);
    invs_given = each (λ q. Member q.safe.inv w.given.invs) may.given (λ q m a. sound.identifiers.invs_given q m);
    unused = unused;
    stores = each (λ q. IsTraced w q.safe.store × IsTraced w q.read.store) may.stores (λ q m a. sound.identifiers.stores q m);
    images = sound.identifiers.images;
    requests = sound.identifiers.requests;
    replies = sound.identifiers.replies;
  }

  pub world_with : IsSoundWorld v
  world_with = record {
    clean = sound.clean;
    book = may.book;
    replicas = each (IsSoundReplica book) may.sound (λ q m a. replica_later w.book book may.later q a.log (sound.replicas q m));
    images = λ i m. store_later w.book book may.later i.1 (sound.images i m);
    requests = λ q m. request_later w.book book may.later q.1 (sound.requests q m);
    replies = λ p m. reply_later w.book book may.later p.1 (sound.replies p m);
    identifiers = identifiers;
    normal = each (λ q. q.safe.mode ≡ Normal) may.normal (λ q m a. sound.normal q m);
  }

-- only the log of one incarnation changed
abbrev pub OnlyLog : Book → Book → Identifier → Type 0
OnlyLog book later_book inv = (i : Identifier) → i ≢ inv → log_of later_book i ≡ log_of book i

-- a controller in place of the one of its name, with that one's identifier or under an invocation that no one has
pub replaced : (w : World) (book : Book) (old new : Replica) → IsSoundWorld w → Member old w.replicas → MayStand w book new → new.name ≡ old.name → new.safe.dsa ≡ old.safe.dsa
    → (new.safe.inv ≡ old.safe.inv) ⊎ Each (λ q. q.safe.inv ≢ new.safe.inv) w.replicas → OnlyLog w.book book new.safe.inv
    → IsSoundWorld (record w { book = book; replicas = with_replica w.replicas new })
replaced w book old new sound there may name dsa inv only = world_with w book new (with_replica w.replicas new) sound may unused who
  where
    unused : (i : Identifier) → (Member i w.given.invs → ⊥) → log_of book i ≡ no_log
    unused i not_given = only i (λ e. not_given (subst (λ (j : Identifier). Member j w.given.invs) (sym e) may.given)) ∙ sound.identifiers.unused i not_given

    apart : (q : Replica) → Member q w.replicas → q.name ≢ new.name → IsApart w book new q
    apart q m other = record {
      names = other;
      dsas = λ e. not_old (sound.identifiers.dsas q m old there (e ∙ dsa));
      invs = invs;
      log = only q.safe.inv invs;
    }
      where
        not_old : q ≢ old
        not_old e = other (ap (λ (p : Replica). p.name) e ∙ sym name)

        invs : q.safe.inv ≢ new.safe.inv
        invs = ⊎_elim (λ same. λ e. not_old (sound.identifiers.invs q m old there (e ∙ same))) (λ fresh. fresh q m) inv

    who : (q : Replica) → Member q (with_replica w.replicas new) → (q ≡ new) ⊎ (Member q w.replicas × IsApart w book new q)
    who q m = ⊎_elim (λ e. inl e) (λ t. inr (t.0, apart q t.0 t.1)) (in_place w.replicas new q m)

-- a controller that comes, with a name and identifiers that no one has
pub added : (w : World) (book : Book) (new : Replica) → IsSoundWorld w → MayStand w book new → Each (λ q. q.name ≢ new.name) w.replicas → Each (λ q. q.safe.dsa ≢ new.safe.dsa) w.replicas
    → Each (λ q. q.safe.inv ≢ new.safe.inv) w.replicas → OnlyLog w.book book new.safe.inv
    → IsSoundWorld (record w { book = book; replicas = w.replicas ++ new ∷ [] })
added w book new sound may names dsas invs only = world_with w book new (w.replicas ++ new ∷ []) sound may unused who
  where
    unused : (i : Identifier) → (Member i w.given.invs → ⊥) → log_of book i ≡ no_log
    unused i not_given = only i (λ e. not_given (subst (λ (j : Identifier). Member j w.given.invs) (sym e) may.given)) ∙ sound.identifiers.unused i not_given

    who : (q : Replica) → Member q (w.replicas ++ new ∷ []) → (q ≡ new) ⊎ (Member q w.replicas × IsApart w book new q)
    who q m = by (member_of_either w.replicas (new ∷ []) q m)
      where
        by : Member q w.replicas ⊎ Member q (new ∷ []) → (q ≡ new) ⊎ (Member q w.replicas × IsApart w book new q)
        by (inl n) = inr (n, record { names = names q n; dsas = dsas q n; invs = invs q n; log = only q.safe.inv (invs q n) })
        by (inr (inl e)) = inl e
        by (inr (inr n)) = absurd n
