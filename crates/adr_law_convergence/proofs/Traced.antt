-- Times are told: what a change brings, and what a whole reply tells.
use Rattle.std.proofs.Common.{◌≡◌, inl, ⊎_elim, ℕ, ◌≤◌, List, [], ◌∷◌, ◌++◌, Bool, true, false, not, ◌==◌, Option, Some, None, is_some, unwrap_or, refl, sym, ap, subst, filter, if◌then◌else◌, arith}
use Rattle.std.specs.Prelude.{IfSome}
use Rattle.adr_values.specs.Vector.{Cursors, IsVector, at, joined}
use Rattle.adr_values.proofs.Joining.{at-joined}
use Rattle.adr_model.specs.Member.{Each}
use Rattle.adr_model.specs.Update.{Identifier, same_identifier}
use Rattle.adr_model.specs.Store.{PartnerMark, State}
use Rattle.adr_model.specs.Change.{Change, after}
use Rattle.adr_model.specs.Formed.{IsFormed}
use Rattle.adr_model.specs.Serve.{Request, Reply, first_items, candidates, byte_limit, begins_at, times_told, reply_of}
use Rattle.adr_model.specs.Take.{times_brought}
use Rattle.adr_model.specs.World.{LastReply, World, noted}
use Rattle.adr_model.specs.Sound.{IsGiven, WasTold, WereTold, IsTraced}
use Rattle.adr_model.proofs.Members.{member_left, member_right, of_filter}
use Rattle.adr_law_knowledge.proofs.Raised.{raised_up}
use Rattle.adr_law_calls.proofs.Joined.{raised_from, joined_from}
use Rattle.adr_law_calls.proofs.Leaving.{each_mark}
use Rattle.adr_model.specs.Convergence.{TimesAreTrue}

-- a time that was told is so where the vector has grown
told_more : (w : World) (v x : Cursors) (t : Identifier × ℕ) → at v t.0 ≤ at x t.0 → WasTold w.last_replies v t → WasTold w.last_replies x t
told_more w v x t up is = record { reply = is.reply; made = is.made; inv = is.inv; time = is.time; covered = omega (arith, is.covered, up) }

-- a change keeps a store traced that brings a mark of a given identifier, and times that were told
pub changed_traced : (w : World) (s : State) (c : Change) → IsVector c.joined → IsTraced w s.store → IfSome c.mark (λ m. IsGiven w m.1.inv) → WereTold w c.joined c.times → IsTraced w (after s c).store
changed_traced w s c vector is mark told = (each_mark (λ (k : PartnerMark). IsGiven w k.inv) c.mark s.store.marks mark is.0, times)
  where
    up : (i : Identifier) → at (joined s.store.vector c.joined) i ≤ at (after s c).store.vector i
    up = raised_up (joined s.store.vector c.joined) s.inv c.usn

    times : WereTold w (after s c).store.vector (joined s.store.times c.times)
    times t m = ⊎_elim
        (λ new. told_more w c.joined (after s c).store.vector t (omega (arith, up t.0, at-joined c.joined s.store.vector t.0 vector.rising)) (told t new))
        (λ old. told_more w s.store.vector (after s c).store.vector t (omega (arith, up t.0, at-joined c.joined s.store.vector t.0 vector.rising)) (is.1 t old))
        (joined_from c.times s.store.times t m)

-- what a taken reply brings was told
pub brought_told : (w : World) (r : Reply) → IfSome r.last (λ carried. WereTold w carried r.times) → WereTold w (unwrap_or r.last []) (times_brought r)
brought_told w r = by r.last
  where
    by : (o : Option Cursors) → IfSome o (λ carried. WereTold w carried r.times) → WereTold w (unwrap_or o []) (if is_some o then r.times else [])
    by None h t m = absurd m
    by (Some v) h t m = h t m

-- what a reply tells was told by the replies so far and by itself
module _ (w : World) (s : State) (q : Request) (formed : IsFormed s) (before : WereTold w s.store.vector s.store.times) where
  abbrev now : ℕ
  now = w.time

  abbrev own : LastReply
  own = record { inv = s.inv; time = now; usn = s.store.usn }

  abbrev behind : List LastReply
  behind = w.last_replies ++ own ∷ []

  own_time : (t : Identifier × ℕ) → t ≡ (s.inv, if s.store.usn == 0 then 0 else now) → 1 ≤ (if s.store.usn == 0 then 0 else now) → WasTold behind s.store.vector t
  own_time t is one = by (s.store.usn == 0) refl is one
    where
      by : (b : Bool) → (s.store.usn == 0) ≡ b → t ≡ (s.inv, if b then 0 else now) → 1 ≤ (if b then 0 else now) → WasTold behind s.store.vector t
      by true e same one = absurd (omega (arith, one))
      by false e same one = record {
        reply = own;
        made = member_right w.last_replies (own ∷ []) own (inl refl);
        inv = sym (ap (λ (x : Identifier × ℕ). x.0) same);
        time = sym (ap (λ (x : Identifier × ℕ). x.1) same);
        covered = subst (λ i. s.store.usn ≤ at s.store.vector i) (sym (ap (λ (x : Identifier × ℕ). x.0) same)) (omega (arith, formed.own));
      }

  told : Each (WasTold behind s.store.vector) (times_told s now)
  told t m = ⊎_elim
      (λ new. own_time t new.0 new.1)
      (λ old. let k = before t (of_filter (λ (x : Identifier × ℕ). not (same_identifier x.0 s.inv)) s.store.times t old).0 in
      record { reply = k.reply; made = member_left w.last_replies (own ∷ []) k.reply k.made; inv = k.inv; time = k.time; covered = k.covered })
      (raised_from (filter (λ (x : Identifier × ℕ). not (same_identifier x.0 s.inv)) s.store.times) s.inv (if s.store.usn == 0 then 0 else now) t m)

  abbrev reply : Bool → Reply
  reply b = reply_of s q now (begins_at s q) (first_items q.max byte_limit (candidates s.store.rows (begins_at s q) q.vector)) b

  pub reply_told : (b : Bool) → IfSome (reply b).last (λ carried. WereTold (noted w (reply b)) carried (reply b).times)
  reply_told false = tt
  reply_told true = by (q.version == 2)
    where
      by : (c : Bool) → Each (WasTold (if c then behind else w.last_replies) s.store.vector) (if c then times_told s now else [])
      by true t m = told t m
      by false t m = absurd m

pub times_are_true : TimesAreTrue
times_are_true w sound r there = (sound.identifiers.stores r there).0.1
