-- Controllers that come, and that are restored, in a sound world.
use Rattle.std.proofs.Common.{◌≡◌, ◌≢◌, inl, inr, List, [], ◌∷◌, ◌++◌, Result, Ok, Err, refl, sym, ap, ◌∙◌, subst, arith}
use Rattle.adr_call.specs.declared.refusal.AdoptRefusal.{AdoptRefusal}
use Rattle.adr_model.specs.Member.{Member, Each}
use Rattle.adr_model.specs.Update.{Identifier}
use Rattle.adr_model.specs.Store.{Normal, Store, State, empty_state}
use Rattle.adr_model.specs.LocalLog.{no_log}
use Rattle.adr_model.specs.Collect.{woken, adopt}
use Rattle.adr_model.specs.Replica.{Replica, on_new_disk, log_of, begun}
use Rattle.adr_model.specs.Lengths.{new_log, area_fits}
use Rattle.adr_model.specs.World.{Name, World, Gone, with_replica, adopts}
use Rattle.adr_model.specs.Step.{gives}
use Rattle.adr_model.specs.Sound.{IsSoundBook, IsSoundStore, IsSoundState, IsTraced, IsSoundWorld}
use Rattle.adr_model.specs.Convergence.{IsNewName, IsNewDsa, IsNewInv}
use Rattle.adr_model.proofs.Members.{member_left, member_right}
use Rattle.adr_law_calls.specs.Later.{IsLater}
use Rattle.adr_model.specs.LocalLog.{first_log}
use Rattle.adr_law_calls.proofs.Empty.{new_is_sound}
use Rattle.adr_law_calls.proofs.Woken.{adopted_is_woken, adopted_is_sound}
use Rattle.adr_law_calls.proofs.Tables.{entry_other}
use Rattle.adr_call.specs.declared.outcome.Outcome.TheVariants as outcomes
use Rattle.adr_law_convergence.proofs.Beside.{beside_sound, still_given, still_traced, reply_still_traced}
use Rattle.adr_law_convergence.proofs.Reached.{within_case}
use Rattle.adr_law_convergence.proofs.Replacing.{MayStand, OnlyLog, replaced, added}
use Rattle.adr_law_knowledge.proofs.Raised.{raised_up}

pub given_sound : (w : World) (dsas invs : List Identifier) → IsSoundWorld w → IsSoundWorld (gives w dsas invs)
given_sound w dsas invs sound = beside_sound w v more (λ l m. m) sound (member_left w.given.dsas dsas)
    (λ q m. (sound.requests q m, still_given w v more (λ l n. n) q.1.inv (sound.identifiers.requests q m)))
    (λ r m. (sound.replies r m, reply_still_traced w v more (λ l n. n) r.1 (sound.identifiers.replies r m)))
    (λ i m. (sound.images i m, still_traced w v more (λ l n. n) i.1 (sound.identifiers.images i m)))
  where
    v : World
    v = gives w dsas invs

    more : (i : Identifier) → Member i w.given.invs → Member i (w.given.invs ++ invs)
    more = member_left w.given.invs invs

module _ (w : World) (sound : IsSoundWorld w) (inv : Identifier) (new_inv : IsNewInv w inv) where
  abbrev given_more : List Identifier → World
  given_more dsas = gives w dsas (inv ∷ [])

  fresh : log_of w.book inv ≡ no_log
  fresh = sound.identifiers.unused inv new_inv

  apart : Each (λ q. q.safe.inv ≢ inv) w.replicas
  apart q m e = new_inv (subst (λ (i : Identifier). Member i w.given.invs) e (sound.identifiers.invs_given q m))

  only : (s : State) → s.inv ≡ inv → OnlyLog w.book (begun w.book s) s.inv
  only s is i other = entry_other w.book.logs no_log s.inv i (first_log s.store.usn s.store.rows) other

  -- a controller on a new disk, which stands in a book in which its incarnation begins
  stands : (dsas : List Identifier) (name : Name) (s : State) → s.inv ≡ inv → s.mode ≡ Normal → Member s.dsa (w.given.dsas ++ dsas) → IsTraced (given_more dsas) s.store
      → IsLater w.book (begun w.book s) × (IsSoundBook (begun w.book s) × IsSoundState (begun w.book s) s) → MayStand (given_more dsas) (begun w.book s) (on_new_disk name s)
  stands dsas name s is normal dsa marks begins = record {
    later = begins.0;
    book = begins.1.0;
    given = subst (λ (i : Identifier). Member i (w.given.invs ++ inv ∷ [])) (sym is) (member_right w.given.invs (inv ∷ []) inv (inl refl));
    dsa_given = dsa;
    sound = record { safe = begins.1.1; read = inl (refl, refl) };
    stores = (marks, marks);
    normal = normal;
  }

  -- ---- a controller that comes

  module _ (name : Name) (dsa : Identifier) (new_name : IsNewName w name) (new_dsa : IsNewDsa w dsa) where
    comes : (s : State) → s.inv ≡ inv → s.dsa ≡ dsa → s.mode ≡ Normal → IsTraced (given_more (dsa ∷ [])) s.store
        → IsLater w.book (begun w.book s) × (IsSoundBook (begun w.book s) × IsSoundState (begun w.book s) s)
        → IsSoundWorld (record (given_more (dsa ∷ [])) { book = begun w.book s; replicas = w.replicas ++ on_new_disk name s ∷ [] })
    comes s is same normal marks begins = added (given_more (dsa ∷ [])) (begun w.book s) (on_new_disk name s) (given_sound w (dsa ∷ []) (inv ∷ []) sound)
        (stands (dsa ∷ []) name s is normal (subst (λ (d : Identifier). Member d (w.given.dsas ++ dsa ∷ [])) (sym same) (member_right w.given.dsas (dsa ∷ []) dsa (inl refl))) marks begins)
        new_name
        (λ q m e. new_dsa (subst (λ (d : Identifier). Member d w.given.dsas) (e ∙ same) (sound.identifiers.dsas_given q m)))
        (λ q m e. apart q m (e ∙ is)) (only s is)

    pub new_comes : IsSoundWorld (record (given_more (dsa ∷ [])) { book = begun w.book (empty_state dsa inv); replicas = w.replicas ++ on_new_disk name (empty_state dsa inv) ∷ [] })
    new_comes = comes (empty_state dsa inv) refl refl refl ((λ k m. absurd m), (λ t m. absurd m)) (new_is_sound w.book dsa inv sound.book fresh)

  -- ---- a controller that is made of an image

  image_marks : (dsas : List Identifier) (image : Store) (dsa : Identifier) (s : State) → woken image dsa inv ≡ s → IsTraced w image → IsTraced (given_more dsas) s.store
  image_marks dsas image dsa s is given = subst (λ (d : State). IsTraced (given_more dsas) d.store) is (
    still.0,
    λ t m. let k = still.1 t m in
        record { reply = k.reply; made = k.made; inv = k.inv; time = k.time; covered = omega (arith, k.covered, raised_up image.vector inv image.usn t.0) },
  )
    where
      still : IsTraced (given_more dsas) image
      still = still_traced w (given_more dsas) (member_left w.given.invs (inv ∷ [])) (λ l m. m) image given

  module _ (name : Name) (image : Store) (sound_image : IsSoundStore w.book image) (given_image : IsTraced w image) where
    pub installed : (dsa : Identifier) → IsNewName w name → IsNewDsa w dsa
        → IsSoundWorld (adopts (given_more (dsa ∷ [])) (λ r. w.replicas ++ r ∷ []) name (adopt image dsa inv)).0
    installed dsa new_name new_dsa = by (adopt image dsa inv) refl
      where
        by : (t : Result State AdoptRefusal) → adopt image dsa inv ≡ t → IsSoundWorld (adopts (given_more (dsa ∷ [])) (λ r. w.replicas ++ r ∷ []) name t).0
        by (Err x) e = given_sound w (dsa ∷ []) (inv ∷ []) sound
        by (Ok s) e = let is = adopted_is_woken image dsa inv s e in
            within_case (λ (g : Gone). IsSoundWorld g.0) (given_more (dsa ∷ [])) (area_fits (new_log s) s.store) (record (given_more (dsa ∷ [])) { book = begun w.book s; replicas = w.replicas ++ on_new_disk name s ∷ [] }, outcomes.Ok) (given_sound w (dsa ∷ []) (inv ∷ []) sound)
            (comes name dsa new_name new_dsa s (ap (λ (d : State). d.inv) (sym is)) (ap (λ (d : State). d.dsa) (sym is)) (ap (λ (d : State). d.mode) (sym is))
            (image_marks (dsa ∷ []) image dsa s is given_image) (adopted_is_sound w.book image dsa inv s sound.book sound_image fresh e))

    pub restored : (r : Replica) → Member r w.replicas → r.name ≡ name → IsSoundWorld (adopts (given_more []) (with_replica w.replicas) name (adopt image r.safe.dsa inv)).0
    restored r there called = by (adopt image r.safe.dsa inv) refl
      where
        by : (t : Result State AdoptRefusal) → adopt image r.safe.dsa inv ≡ t → IsSoundWorld (adopts (given_more []) (with_replica w.replicas) name t).0
        by (Err x) e = given_sound w [] (inv ∷ []) sound
        by (Ok s) e = let is = adopted_is_woken image r.safe.dsa inv s e in let dsa : s.dsa ≡ r.safe.dsa = ap (λ (d : State). d.dsa) (sym is) in
            within_case (λ (g : Gone). IsSoundWorld g.0) (given_more []) (area_fits (new_log s) s.store) (record (given_more []) { book = begun w.book s; replicas = with_replica w.replicas (on_new_disk name s) }, outcomes.Ok) (given_sound w [] (inv ∷ []) sound)
            (replaced (given_more []) (begun w.book s) r (on_new_disk name s) (given_sound w [] (inv ∷ []) sound) there
            (stands [] name s (ap (λ (d : State). d.inv) (sym is)) (ap (λ (d : State). d.mode) (sym is))
            (subst (λ (d : Identifier). Member d (w.given.dsas ++ [])) (sym dsa) (member_left w.given.dsas [] r.safe.dsa (sound.identifiers.dsas_given r there)))
            (image_marks [] image r.safe.dsa s is given_image) (adopted_is_sound w.book image r.safe.dsa inv s sound.book sound_image fresh e))
            (sym called) dsa (inr (λ q m same. apart q m (same ∙ ap (λ (d : State). d.inv) (sym is)))) (only s (ap (λ (d : State). d.inv) (sym is))))
