-- What it means that a request is served, and that none shows a rollback.
use Rattle.std.proofs.Common.{◌≡◌, ◌≢◌, Bool, Err, inl, inr, ℕ, ◌≤◌, List, true, false, None, Ok, refl, subst, arith}
use Rattle.std.specs.Bool.{then_some}
use Rattle.std.proofs.lemmas.Bool.{true≢false, le-ltb}
use Rattle.std.specs.List.{AllByRecursion}
use Rattle.std.specs.Option.{IfSome, option_map}
use Rattle.std.specs.Prelude.{nat_lt}
use Rattle.adr_values.specs.Vector.{at_most, first_gap}
use Rattle.adr_call.specs.declared.refusal.ServeRefusal.{ServeRefusal}
use Rattle.adr_call.specs.declared.refusal.ServeRefusal.TheVariants.{Quarantined as IsQuarantined, WrongController, BadMark, RolledBack, SchemaMismatch, TooOld}
use Rattle.adr_model.specs.Store.{State}
use Rattle.adr_model.specs.Serve.{Request, Reply, shown_by, serve_refusals, serve_refusal, reply_to, serve}
use Rattle.adr_model.specs.Replica.{Book}
use Rattle.adr_model.specs.Sound.{IsSoundBook, IsSoundState, IsSoundRequest, IsSoundReply}
use Rattle.adr_law_knowledge.proofs.Refusing.{none_there, unmet, where_it_is, none_is, all_is, tested_is, answered, refused_by, mapped_is, no_gap}
use Rattle.adr_law_calls.proofs.ServedSoundly.{begins, reply_is_sound}

nothing_lacks : (s : State) (q : Request) → serve_refusal s q ≡ None → at_most s.store.purged q.vector ≡ true
nothing_lacks s q h = no_gap (λ gap. TooOld gap.0 gap.2 gap.1) s.store.purged q.vector (none_there (serve_refusals s q) h _ (inr (inr (inr (inr (inr (inl refl)))))))

pub served_is_sound : (book : Book) (s : State) (q : Request) (now : ℕ) (r : Reply) → IsSoundBook book → IsSoundState book s → IsSoundRequest book q → serve s q now ≡ Ok r → IsSoundReply book r
served_is_sound book s q now r sound_book state request e = subst (IsSoundReply book) t.1 (reply_is_sound book s q now sound_book state request (nothing_lacks s q t.0))
  where
    t : (serve_refusal s q ≡ None) × (reply_to s q now ≡ r)
    t = answered (serve_refusal s q) (reply_to s q now) r e

-- no more is shown of this incarnation than it has done
pub shown_within : (book : Book) (s : State) (q : Request) → IsSoundState book s → IsSoundRequest book q → shown_by s q ≤ s.store.usn
shown_within book s q state request = let b = (begins book s q state request).1 in omega (arith, request.bounded s.inv, state.last, b)

-- ---- what a refusal is

-- a fact of each refusal that there may be is one of the one that is given
module _ (P : ServeRefusal → Type 0) (s : State) (q : Request) (now : ℕ) where
  pub serve_refusal_is : P IsQuarantined → P (WrongController s.dsa q.source) → P (BadMark q.mark.prop q.mark.obj q.mark.seen)
      → IfSome (then_some (nat_lt s.store.usn (shown_by s q)) (RolledBack s.inv s.store.usn (shown_by s q))) P
      → P (SchemaMismatch s.store.schema q.schema)
      → IfSome (option_map (λ gap. TooOld gap.0 gap.2 gap.1) (first_gap s.store.purged q.vector)) P
      → (x : ServeRefusal) → serve s q now ≡ Err x → P x
  serve_refusal_is quarantined wrong mark rolled_back schema old x e = where_it_is P (serve_refusal s q) x (all_is P (serve_refusals s q) each) (refused_by (serve_refusal s q) (reply_to s q now) x e)
    where
      each : AllByRecursion (λ o. IfSome o P) (serve_refusals s q)
      each = (
        tested_is P _ IsQuarantined quarantined,
        (
          tested_is P _ (WrongController s.dsa q.source) wrong,
          (
            tested_is P _ (BadMark q.mark.prop q.mark.obj q.mark.seen) mark,
            (
              rolled_back,
              (
                tested_is P _ (SchemaMismatch s.store.schema q.schema) schema,
                (old, tt),
              ),
            ),
          ),
        ),
      )

abbrev is_rollback : ServeRefusal → Bool
is_rollback (RolledBack inv mine shown) = true
is_rollback _ = false

pub no_rollback : (book : Book) (s : State) (q : Request) (now : ℕ) (inv : List ℕ) (mine shown : ℕ) → IsSoundState book s → IsSoundRequest book q → serve s q now ≢ Err (RolledBack inv mine shown)
no_rollback book s q now inv mine shown state request e = true≢false (serve_refusal_is harmless s q now refl refl refl within refl (mapped_is _ harmless (λ gap. refl) (first_gap s.store.purged q.vector)) (RolledBack inv mine shown) e)
  where
    harmless : ServeRefusal → Type 0
    harmless x = is_rollback x ≡ false

    within : IfSome (then_some (nat_lt s.store.usn (shown_by s q)) (RolledBack s.inv s.store.usn (shown_by s q))) harmless
    within = none_is harmless _ (unmet _ _ (le-ltb s.store.usn (shown_by s q) (shown_within book s q state request)))
