-- A connection that is served, by how its last turn ended.
use Rattle.std.proofs.Common.{◌≡◌, ◌⊎◌, inl, inr, ℕ, suc, ◌+◌, ◌<◌, List, Option, Some, None, Result, Ok, Err, refl, sym, ap, subst, ◌∙◌, arith}
use Rattle.std.specs.Prelude.{IsSome}
use Rattle.adr_disk.specs.Disk.{Among}
use Rattle.adr_journal.specs.declared.keeper.Keeper.{Ghosts}
use Rattle.adr_controller.specs.Running.{Running, IsInOrder}
use Rattle.adr_outside.specs.Traffic.{Traffic}
use Rattle.adr_session.specs.declared.ending.End.{End}
use Rattle.adr_session.specs.declared.ending.End.TheVariants as ended
use Rattle.adr_session.specs.declared.ending.Served.{Served}
use Rattle.adr_session.specs.declared.ending.ServeFault.{ServeFault}
use Rattle.adr_session.specs.Talk.{Point, Hung, Malformed, Reaches, message_limit}
use Rattle.adr_session.specs.Told.{Behind, EndsSo, FindsBehind, FindsNear, IsAt, LeavesBehind, ServedTo, Serves, TakesTurn}
use Rattle.adr_session.proofs.Talking.{ends_at, further, near_behind}
use Rattle.adr_law_controller.proofs.Crashes.{Crashes, LeavesLaw, crash_on, finds_here}

module _ {K : Type 0} (k : Ghosts K) (t : Traffic) (p : Point) (n : ℕ) (c : Running K) (net : Option Traffic) (moments : Option (List ℕ)) where
  pub serves_err :
      n < message_limit → (e : ServeFault) → Behind n p (λ q. TakesTurn k t q (Err e) c net moments) → Serves k t p (Err e) c net moments
  serves_err lt e b = (n, lt, b)

  pub serves_end :
      n < message_limit → (e : End) → Behind n p (λ q. EndsSo k t q e c net moments) → ServedTo k t p n e c net moments
  serves_end lt ended.Hung b = (b.0, ends_at message_limit n p b.0 Hung lt b.1 b.2.0, b.2.1)
  serves_end lt ended.Malformed b = (b.0, ends_at message_limit n p b.0 Malformed lt b.1 b.2.0, b.2.1)
  serves_end lt ended.Fault b = (lt, b)
  serves_end lt ended.Limit b = absurd b.2

  pub ended_so :
      (o : Option End) (e : End) → o ≡ Some e → (q : Point) → TakesTurn k t q (Ok o) c net moments
      → EndsSo k t q e c net moments
  ended_so o e is q turns = subst (λ (x : Option End). TakesTurn k t q (Ok x) c net moments) is turns

  pub goes_so :
      (o : Option End) → o ≡ None → (q : Point) → Reaches n p q → TakesTurn k t q (Ok o) c net moments
      → Behind (n + 1) p (λ r. IsAt k t r c net moments)
  goes_so o is q reach turns =
      let next = subst (λ (x : Option End). TakesTurn k t q (Ok x) c net moments) is turns in
      let one : suc n ≡ n + 1 = omega arith in
      (next.0, subst (λ (m : ℕ). Reaches m p next.0) one (further n p q next.0 reach next.1), next.2)

  -- what a start finds from then on
  pub left_err :
      n < message_limit → (e : ServeFault) → Behind n p (λ q. TakesTurn k t q (Err e) c net moments × Among (FindsNear q) (k.may_leave c.keeper))
      → LeavesBehind k t p (Err e) c net moments
  left_err lt e b = (n, lt, b)

  -- and where a fault is handed on
  pub left_on :
      (r : Result Served ServeFault) (e f : ServeFault) → r ≡ Err e → e ≡ f → LeavesBehind k t p (Err f) c net moments
      → LeavesBehind k t p r c net moments
  left_on r e f is same left =
      subst (λ (x : Result Served ServeFault). LeavesBehind k t p x c net moments) (sym (is ∙ ap (λ (x : ServeFault). let y : Result Served ServeFault = Err x in y) same)) left

  module _ (leaves : LeavesLaw k) (in_order : IsInOrder k c) (tells : IsSome (k.told c.keeper)) where
    pub left_end :
        (e : End) → Behind n p (λ q. EndsSo k t q e c net moments)
        → LeavesBehind k t p (Ok (record { messages = n; end = e })) c net moments
    left_end ended.Hung b = (b.0, b.1, (b.0, refl, (b.2.1.stands.0, finds_here k leaves b.0.stands c b.2.1.stands in_order tells)))
    left_end ended.Malformed b = (b.0, b.1, (b.0, refl, (b.2.1.stands.0, finds_here k leaves b.0.stands c b.2.1.stands in_order tells)))
    left_end ended.Fault b = (b.0, b.1, (b.2.0, b.2.1.near, (b.2.1.stands.0, finds_here k leaves b.2.0.stands c b.2.1.stands in_order tells)))
    left_end ended.Limit b = absurd b.2

pub serves_all :
    {K : Type 0} (k : Ghosts K) (t : Traffic) (p : Point) (c : Running K) (net : Option Traffic) (moments : Option (List ℕ)) (n : ℕ) → n ≡ message_limit
    → Behind n p (λ q. IsAt k t q c net moments) → ServedTo k t p message_limit ended.Limit c net moments
serves_all k t p c net moments n is b = (b.0, subst (λ (m : ℕ). Reaches m p b.0) is b.1, b.2)

pub left_all :
    {K : Type 0} (k : Ghosts K) (t : Traffic) (p : Point) (c : Running K) (net : Option Traffic) (moments : Option (List ℕ)) (n : ℕ) → n ≡ message_limit
    → LeavesLaw k → IsInOrder k c → IsSome (k.told c.keeper) → Behind n p (λ q. IsAt k t q c net moments) → LeavesBehind k t p (Ok (record { messages = message_limit; end = ended.Limit })) c net moments
left_all k t p c net moments n is leaves in_order tells b =
    (b.0, subst (λ (m : ℕ). Reaches m p b.0) is b.1, (b.0, refl, (b.2.stands.0, finds_here k leaves b.0.stands c b.2.stands in_order tells)))

-- a crash so far, and in one message more
pub crash_more :
    {K : Type 0} (k : Ghosts K) (n : ℕ) (p : Point) (at : Point → Type 0) (old mid new : K) → n < message_limit → Behind n p at → Crashes k old mid (FindsBehind p) → (IsSome (k.told old) → IsSome (k.told mid))
    → ((q : Point) → at q → Crashes k mid new (FindsNear q)) → Crashes k old new (FindsBehind p)
crash_more k n p at old mid new lt b first still second =
    crash_on k old mid new (FindsBehind p) (FindsNear b.0) (FindsBehind p) (λ s finds. finds) (near_behind n p b.0 lt b.1) first still (second b.0 b.2)

-- a turn that went on met no fault of the line
pub not_cut :
    (o : Option End) (A : Type 0) → o ≡ None
    → (let r : Result (Option End) ServeFault = Ok o in r ≡ Ok (Some ended.Fault)) ⊎ A → A
not_cut o A none (inl cut) = absurd (cc)
not_cut o A none (inr still) = still
