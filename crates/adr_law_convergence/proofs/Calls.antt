-- A call that a sound controller makes may settle.
use Rattle.std.proofs.Common.{◌≡◌, ◌++◌, List, [], Some, Result, Ok, Err, refl, sym, subst}
use Rattle.adr_model.specs.Member.{Member, Each}
use Rattle.adr_model.specs.Store.{Normal, State}
use Rattle.adr_model.specs.Change.{Change, Written, held_of, after}
use Rattle.adr_model.specs.LocalLog.{Follows}
use Rattle.adr_model.specs.Take.{take_items, taken_change, take_refusal, take}
use Rattle.adr_model.specs.Write.{items_written, own_change, write_refusal, write}
use Rattle.adr_model.specs.Collect.{deaths_to_collect, collection, collect_refusal, collect}
use Rattle.adr_model.specs.Replica.{Call, ToWrite, ToTake, ToCollect, ToUpgrade, ToQuarantine, change_in, change_of, Pending, issued_by, Replica, Book}
use Rattle.adr_model.specs.Sound.{last_of, IsSoundBook, IsSoundState, IsSoundCall}
use Rattle.adr_law_knowledge.proofs.Refusing.{answered}
use Rattle.adr_law_calls.specs.Later.{AreIssuedBy, MayIssue}
use Rattle.adr_law_calls.specs.Settling.{Leaves, MaySettle}
use Rattle.adr_law_calls.proofs.Leaving.{sound_state_is_left}
use Rattle.adr_law_calls.proofs.Written.{write_may_follow}
use Rattle.adr_law_calls.proofs.CollectionLeaves.{collection_leaves}
use Rattle.adr_law_calls.proofs.WriteSound.{write_leaves_sound}
use Rattle.adr_model.specs.Upgrade.{upgraded, upgrade_refusal, upgrade}
use Rattle.adr_law_calls.proofs.Upgraded.{upgrade_leaves}
use Rattle.adr_law_calls.proofs.TakenLeaves.{taken_leaves}

-- what is asked of a call before it settles
pub record Settles (book : Book) (s : State) (p : Pending) : Type 0 where
  pub follows : Follows (last_of book s.inv) p.change
  pub issued : AreIssuedBy book s.inv p.change (issued_by p.call p.change)
  pub content : MayIssue book p.change (issued_by p.call p.change)
  pub leaves : Leaves book s p
  pub normal : p.change.mode ≡ Normal

pub in_change : {E : Type 0} (r : Result Change E) (c : Change) → change_in r ≡ Some c → r ≡ Ok c
in_change (Ok d) c e = cc
in_change (Err x) c e = absurd (cc)

-- a change of no writes that issues nothing
issues_nothing : (book : Book) (c : Change) → c.writes ≡ [] → MayIssue book c []
issues_nothing book c none = record {
  alone = λ u m. absurd m;
  born = λ u m. absurd m;
  births = λ u m. absurd m;
  logged = subst (λ (ws : List Written). Each (λ h. Member h.update (book.issued ++ [])) (held_of ws)) (sym none) (λ h m. absurd m);
}

module _ (book : Book) (s : State) (sound_book : IsSoundBook book) (state : IsSoundState book s) where
  settles : (call : Call) (c : Change) → IsSoundCall book call → change_of s call ≡ Some c → Settles book s (record { call = call; change = c })
  settles (ToWrite w now) c is made = record { follows = (write_may_follow book s w now state.last c ok).0; issued = (write_may_follow book s w now state.last c ok).1; content = left.0; leaves = left.1; normal = subst (λ (d : Change). d.mode ≡ Normal) change refl }
    where
      ok : write s w now ≡ Ok c
      ok = in_change (write s w now) c made

      change : own_change s (items_written s w now) ≡ c
      change = (answered (write_refusal s w) (own_change s (items_written s w now)) c ok).1

      left : MayIssue book c (issued_by (ToWrite w now) c) × Leaves book s (record { call = ToWrite w now; change = c })
      left = write_leaves_sound book s w now c sound_book state is ok
  settles (ToTake r) c is made = record { follows = left.0; issued = λ u m. absurd m; content = left.1.0; leaves = left.1.1; normal = subst (λ (d : Change). d.mode ≡ Normal) change refl }
    where
      ok : take s r ≡ Ok c
      ok = in_change (take s r) c made

      change : taken_change s r (take_items s r.items) ≡ c
      change = (answered (take_refusal s r (take_items s r.items) (after s (taken_change s r (take_items s r.items)))) (taken_change s r (take_items s r.items)) c ok).1

      left : Follows (last_of book s.inv) c × (MayIssue book c [] × Leaves book s (record { call = ToTake r; change = c }))
      left = taken_leaves book s r c sound_book state is ok
  settles (ToCollect now lifetime) c is made = record { follows = left.0; issued = λ u m. absurd m; content = issues_nothing book c (subst (λ (d : Change). d.writes ≡ []) change refl); leaves = left.1; normal = subst (λ (d : Change). d.mode ≡ Normal) change refl }
    where
      ok : collect s now lifetime ≡ Ok c
      ok = in_change (collect s now lifetime) c made

      change : collection s (deaths_to_collect s now lifetime) ≡ c
      change = (answered (collect_refusal s (collection s (deaths_to_collect s now lifetime))) (collection s (deaths_to_collect s now lifetime)) c ok).1

      left : Follows (last_of book s.inv) c × Leaves book s (record { call = ToCollect now lifetime; change = c })
      left = collection_leaves book s now lifetime c sound_book state ok
  settles ToUpgrade c is made = record { follows = left.0; issued = λ u m. absurd m; content = issues_nothing book c (subst (λ (d : Change). d.writes ≡ []) change refl); leaves = left.1; normal = subst (λ (d : Change). d.mode ≡ Normal) change refl }
    where
      ok : upgrade s ≡ Ok c
      ok = in_change (upgrade s) c made

      change : upgraded s ≡ c
      change = (answered (upgrade_refusal s) (upgraded s) c ok).1

      left : Follows (last_of book s.inv) c × Leaves book s (record { call = ToUpgrade; change = c })
      left = upgrade_leaves book s c sound_book state ok
  settles ToQuarantine c is made = absurd is

  pub call_settles : (p : Pending) → IsSoundCall book p.call → change_of s p.call ≡ Some p.change → Settles book s p
  call_settles p is made = settles p.call p.change is made

  pub may_settle : (r : Replica) (p : Pending) → r.safe ≡ s → Settles book s p → MaySettle book r p
  may_settle r p same is = subst (λ (d : State). MaySettle book (record r { safe = d }) p) (sym same) (record {
    follows = is.follows;
    issued = is.issued;
    content = is.content;
    state = sound_state_is_left book s p sound_book state is.follows is.issued is.leaves;
  })
