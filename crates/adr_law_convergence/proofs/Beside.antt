-- What may change in a sound world beside its controllers and its book: the time, what is bound, and more that is given.
use Rattle.std.proofs.Common.{inl, inr, Option, Some, None}
use Rattle.std.specs.Prelude.{IfSome}
use Rattle.adr_values.specs.Vector.{Cursors}
use Rattle.adr_model.specs.Member.{Member, Each}
use Rattle.adr_model.specs.Update.{Identifier}
use Rattle.adr_model.specs.Store.{Store}
use Rattle.adr_model.specs.Serve.{Request, Reply}
use Rattle.adr_model.specs.World.{LastReply, Name, World}
use Rattle.adr_model.specs.Sound.{IsSoundRequest, IsSoundReply, IsSoundStore, IsGiven, WereTold, IsTraced, IsTracedReply, IsSoundWorld}

module _ (w v : World) (invs : (i : Identifier) → Member i w.given.invs → Member i v.given.invs) (told : Each (λ (l : LastReply). Member l v.last_replies) w.last_replies) where
  -- what was given is so when more is given
  pub still_given : (i : Identifier) → IsGiven w i → IsGiven v i
  still_given i (inl m) = inl (invs i m)
  still_given i (inr e) = inr e

  still_told : (vector times : Cursors) → WereTold w vector times → WereTold v vector times
  still_told vector times all t m = let s = all t m in record { reply = s.reply; made = told s.reply s.made; inv = s.inv; time = s.time; covered = s.covered }

  pub still_traced : (s : Store) → IsTraced w s → IsTraced v s
  still_traced s all = ((λ k m. still_given k.1.inv (all.0 k m)), still_told s.vector s.times all.1)

  pub reply_still_traced : (r : Reply) → IsTracedReply w r → IsTracedReply v r
  reply_still_traced r is = (invs r.inv is.0, by r.last is.1)
    where
      by : (o : Option Cursors) → IfSome o (λ carried. WereTold w carried r.times) → IfSome o (λ carried. WereTold v carried r.times)
      by None h = tt
      by (Some carried) h = still_told carried r.times h

  -- the controllers and the book of the one, and all else of the other
  pub beside_sound : IsSoundWorld w → ((i : Identifier) → Member i w.given.dsas → Member i v.given.dsas)
      → Each (λ (q : Name × Request). IsSoundRequest w.book q.1 × IsGiven v q.1.inv) v.requests
      → Each (λ (r : Name × Reply). IsSoundReply w.book r.1 × IsTracedReply v r.1) v.replies
      → Each (λ (i : Name × Store). IsSoundStore w.book i.1 × IsTraced v i.1) v.images
      → IsSoundWorld (record v { clean = w.clean; book = w.book; replicas = w.replicas })
  beside_sound sound dsas requests replies images = record {
    clean = sound.clean;
    book = sound.book;
    replicas = sound.replicas;
    images = λ i m. (images i m).0;
    requests = λ q m. (requests q m).0;
    replies = λ r m. (replies r m).0;
    identifiers = record {
      names = sound.identifiers.names;
      dsas = sound.identifiers.dsas;
      invs = sound.identifiers.invs;
      dsas_given = λ r m. dsas r.safe.dsa (sound.identifiers.dsas_given r m);
      invs_given = λ r m. invs r.safe.inv (sound.identifiers.invs_given r m);
      unused = λ i not_given. sound.identifiers.unused i (λ m. not_given (invs i m));
      stores = λ r m. (still_traced r.safe.store (sound.identifiers.stores r m).0, still_traced r.read.store (sound.identifiers.stores r m).1);
      images = λ i m. (images i m).1;
      requests = λ q m. (requests q m).1;
      replies = λ r m. (replies r m).1;
    };
    normal = sound.normal;
  }
