-- A request that covers what was collected isn't refused for its age.
use Rattle.std.proofs.Common.{◌≡◌, Bool, true, false, Err, refl, ℕ}
use Rattle.adr_values.specs.Vector.{at_most}
use Rattle.adr_call.specs.declared.refusal.ServeRefusal.{ServeRefusal}
use Rattle.adr_call.specs.declared.refusal.ServeRefusal.TheVariants.{RolledBack, TooOld}
use Rattle.adr_model.specs.Store.{State}
use Rattle.adr_model.specs.Serve.{Request, shown_by, serve}
use Rattle.adr_law_knowledge.proofs.Refusing.{tested_is, none_is, all_covered}
use Rattle.adr_law_calls.proofs.GrantedSoundly.{serve_refusal_is}

abbrev pub is_for_age : ServeRefusal → Bool
is_for_age (TooOld inv purged has) = true
is_for_age _ = false

pub not_too_old : (s : State) (q : Request) (now : ℕ) (x : ServeRefusal) → at_most s.store.purged q.vector ≡ true → serve s q now ≡ Err x → is_for_age x ≡ false
not_too_old s q now x covers e = serve_refusal_is other s q now refl refl refl (tested_is other _ (RolledBack s.inv s.store.usn (shown_by s q)) refl) refl
    (none_is other _ (all_covered (λ gap. TooOld gap.0 gap.2 gap.1) s.store.purged q.vector covers)) x e
  where
    other : ServeRefusal → Type 0
    other y = is_for_age y ≡ false
