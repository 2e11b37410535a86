-- What is asked of a kept call that settles, and what is so then.
use Rattle.std.specs.Prelude.{◌++◌, IfSome}
use Rattle.adr_values.specs.Numbered.{numbered}
use Rattle.adr_values.specs.Vector.{IsVector, at}
use Rattle.adr_model.specs.Member.{Member, Each}
use Rattle.adr_model.specs.Update.{Identifier, Update}
use Rattle.adr_model.specs.Reflects.{Covers, knowledge_of, Reflects}
use Rattle.adr_model.specs.Store.{PartnerMark, State, updates_of}
use Rattle.adr_model.specs.Change.{after}
use Rattle.adr_model.specs.Formed.{IsFormedStore, IsClosed}
use Rattle.adr_model.specs.LocalLog.{Follows}
use Rattle.adr_model.specs.Replica.{Pending, issued_by, Replica, Book, recorded}
use Rattle.adr_model.specs.Sound.{last_of, IsBounded, IsSoundBook, IsSoundMark, IsSoundState, IsSettled, IsSoundReplica, AreClassesKnown}
use Rattle.adr_law_calls.specs.Later.{IsLater, AreIssuedBy, MayIssue}

-- what a change leaves of a controller's store: nothing is lost, what is held was issued, what is covered now was taken, the
-- store is formed and closed, and a mark that is kept anew tells the truth
pub record Leaves (book : Book) (s : State) (p : Pending) : Type 0 where
  pub keeps : (u : Update) → Reflects book.issued (knowledge_of s.store) u → Reflects book.issued (knowledge_of (after s p.change).store) u
  pub known : Each (λ u. Member u (book.issued ++ issued_by p.call p.change)) (updates_of (after s p.change).store.rows)
  pub issued : Each (λ u. Reflects book.issued (knowledge_of (after s p.change).store) u) (issued_by p.call p.change)
  pub joined : IsVector p.change.joined
  pub bounded : IsBounded book (at p.change.joined)
  pub carried : Each (λ u. Covers (at p.change.joined) u → Reflects book.issued (knowledge_of (after s p.change).store) u) book.issued
  pub formed : IsFormedStore (after s p.change).store
  pub closed : IsClosed (after s p.change).store
  pub classes : AreClassesKnown (numbered p.change.schema) (updates_of (after s p.change).store.rows)
  pub mark : IfSome p.change.mark (λ (m : Identifier × PartnerMark). IsSoundMark book (knowledge_of (after s p.change).store) m.1.inv m.1.mark)

-- the change follows in its log, issues what it may, and leaves a sound state
pub record MaySettle (book : Book) (r : Replica) (p : Pending) : Type 0 where
  pub follows : Follows (last_of book r.safe.inv) p.change
  pub issued : AreIssuedBy book r.safe.inv p.change (issued_by p.call p.change)
  pub content : MayIssue book p.change (issued_by p.call p.change)
  pub state : IsSoundState (recorded book r.safe.inv p) (after r.safe p.change)

-- the book and the controller behind the move are sound, and nothing is left to settle
pub record HasSettled (b : Book) (m : Book × Replica) : Type 0 where
  pub later : IsLater b m.0
  pub book : IsSoundBook m.0
  pub replica : IsSoundReplica m.0 m.1
  pub settled : IsSettled m.1
