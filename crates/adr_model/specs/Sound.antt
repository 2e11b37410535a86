-- The world of a run: what holds always, and what holds as long as no database was put back without a fresh identifier.
use Rattle.std.specs.Prelude.{◌≡◌, ◌≢◌, ◌⊎◌, ◌≤◌, ℕ, List, true, Some, None, IsSome, IfSome}
use Rattle.adr_values.specs.Table.{Table, class_at}
use Rattle.adr_values.specs.Numbered.{numbered}
use Rattle.adr_values.specs.declared.content.Content.TheVariants.{Class}
use Rattle.adr_values.specs.declared.stamp.Oid.{Oid}
use Rattle.adr_values.specs.Vector.{Cursors, IsVector, at}
use Rattle.adr_values.specs.Times.{AreTimesOf}
use Rattle.adr_values.specs.declared.mark.Mark.{Mark}
use Rattle.adr_model.specs.Member.{Member, Each}
use Rattle.adr_model.specs.Update.{Identifier, Update, RowOf, Holds, ends, inv_of, usn_of, unit_of, class_attr}
use Rattle.adr_model.specs.Place.{identifier}
use Rattle.adr_model.specs.Reflects.{Numbers, Covers, Knowledge, knowledge_of, Reflects}
use Rattle.adr_model.specs.Store.{Held, PartnerMark, Normal, Store, State, updates_of}
use Rattle.adr_model.specs.Change.{Item, Change, updates_written, after}
use Rattle.adr_model.specs.LocalLog.{LocalLog, no_log, last_usn, rows_at, IsBoundary, IsKept, IsOrdered, IsBelow, WatermarkHolds}
use Rattle.adr_model.specs.Serve.{Request, Reply}
use Rattle.adr_model.specs.Given.{IsWellGiven}
use Rattle.adr_model.specs.Lengths.{Log, log_limit, area_version, log_after}
use Rattle.adr_model.specs.Spelled.{SayOfTheirKeys, IsSpelledReply}
use Rattle.adr_model.specs.Take.{is_birth}
use Rattle.adr_model.specs.Formed.{AreRising, AreFormedRows, IsFormedStore, IsFormed, IsClosed}
use Rattle.adr_model.specs.Replica.{Call, ToWrite, ToTake, ToCollect, ToUpgrade, ToQuarantine, change_of, Pending, Up, Replica, Book, log_of}
use Rattle.adr_model.specs.World.{LastReply, World, Name, Snapshot}

-- the last USN of an incarnation, 0 for an identifier that wasn't used
abbrev pub last_of : Book → Identifier → ℕ
last_of book inv = last_usn (log_of book inv)

abbrev pub IsBounded : Book → Numbers → Type 0
IsBounded book V = (i : Identifier) → V i ≤ last_of book i

abbrev pub IsBirthOf : Oid → Update → Type 0
IsBirthOf o u = (u.key ≡ RowOf o class_attr) × (is_birth o u ≡ true)

-- two updates are among the rows that one change of a log writes
abbrev pub IsOfOneChange : LocalLog → Update → Update → Type 0
IsOfOneChange h u v = (c : Change) × Member c h.changes × Member u (updates_written c) × Member v (updates_written c)

-- of one key and one write there is one update
abbrev pub HasOneContent : List Update → Type 0
HasOneContent issued = Each (λ u. Each (λ v. u.key ≡ v.key → inv_of u ≡ inv_of v → usn_of u ≡ usn_of v → u ≡ v) issued) issued

-- what was issued and the logs: that an identifier's USNs were used once, each by one change, and each object that is named was
-- born
pub record IsSoundBook (book : Book) : Type 0 where
  pub one_content : HasOneContent book.issued
  pub once : Each (λ u. (1 ≤ usn_of u) × (usn_of u ≤ last_of book (inv_of u))) book.issued
  pub one_change : Each (λ u. Each (λ v. inv_of u ≡ inv_of v → usn_of u ≡ usn_of v → IsOfOneChange (log_of book (inv_of u)) u v) book.issued) book.issued
  pub born : Each (λ u. Each (λ o. (b : Update) × Member b book.issued × IsBirthOf o b) (ends u.key)) book.issued
  pub births : Each (λ u. (o : Oid) → u.key ≡ RowOf o class_attr → is_birth o u ≡ true) book.issued
  pub kept : (i : Identifier) → IsKept (log_of book i)
  pub logged : (i : Identifier) (usn : ℕ) → Each (λ h. Member h.update book.issued) (rows_at (log_of book i) usn)

-- a mark of an incarnation tells the truth, of a moment between two changes
pub record IsSoundMark (book : Book) (k : Knowledge) (inv : Identifier) (m : Mark) : Type 0 where
  pub ordered : IsOrdered m
  pub seen : m.seen ≤ last_of book inv
  pub boundary : IsBoundary (log_of book inv) m.seen
  pub watermark : WatermarkHolds book.issued k (log_of book inv) m

abbrev pub AreClassesKnown : Table → List Update → Type 0
AreClassesKnown table rows = Each (λ u. (class : ℕ) → u.said ≡ Holds (Class class) → IsSome (class_at table class)) rows

-- a store has taken each issued update that its vector covers
pub record IsSoundStore (book : Book) (s : Store) : Type 0 where
  pub known : Each (λ u. Member u book.issued) (updates_of s.rows)
  pub bounded : IsBounded book (at s.vector)
  pub covered : Each (λ u. Covers (at s.vector) u → Reflects book.issued (knowledge_of s) u) book.issued
  pub formed : IsFormedStore s
  pub closed : IsClosed s
  pub classes : AreClassesKnown (numbered s.schema) (updates_of s.rows)
  pub marks : Each (λ (k : Identifier × PartnerMark). IsSoundMark book (knowledge_of s) k.1.inv k.1.mark) s.marks

-- a controller's state is what its log says
pub record IsSoundState (book : Book) (s : State) : Type 0 where
  pub store : IsSoundStore book s.store
  pub formed : IsFormed s
  pub last : s.store.usn ≡ last_of book s.inv
  pub rows : s.store.rows ≡ rows_at (log_of book s.inv) s.store.usn

pub record IsSoundRequest (book : Book) (q : Request) : Type 0 where
  pub bounded : IsBounded book (at q.vector)
  pub ordered : IsOrdered q.mark
  pub seen : q.mark.seen ≤ last_of book q.inv

abbrev pub IsSent : Reply → Update → Type 0
IsSent r u = (i : Item) × Member i r.items × Member u i.rows

-- what a reply leaves out below its end is covered by the request, or lies below its beginning
abbrev pub CoversItsGround : Reply → LocalLog → Type 0
CoversItsGround r h =
    Each (λ x. IsBelow (rows_at h r.to.seen) r.to x → Covers (at r.asked) x.update ⊎ (IsSent r x.update ⊎ IsBelow (rows_at h r.to.seen) r.from x)) (rows_at h r.to.seen)

-- with its rows, the carried vector and the request's vector as purged, the source had taken all that the carried vector covers
abbrev pub CarriesAll : List Update → Reply → LocalLog → Cursors → Type 0
CarriesAll issued r h carried =
    Each (λ u. Covers (at carried) u → Reflects issued (record { rows = updates_of (rows_at h r.to.seen); vector = at carried; purged = at r.asked }) u) issued

pub record IsSoundLast (book : Book) (r : Reply) (carried : Cursors) : Type 0 where
  pub obj : r.to.obj ≡ r.to.seen
  pub prop : r.to.prop ≡ r.to.seen
  pub vector : IsVector carried
  pub times : AreTimesOf carried r.times
  pub bounded : IsBounded book (at carried)
  pub carries : CarriesAll book.issued r (log_of book r.inv) carried

-- an item has a row, and is the whole unseen part of its unit
pub record IsExact (rows : List Held) (r : Reply) (i : Item) : Type 0 where
  pub some : (u : Update) × Member u i.rows
  pub from : Each (λ u. (h : Held) × Member h rows × (h.update ≡ u) × (unit_of u.key ≡ i.unit)) i.rows
  pub whole : Each (λ h. unit_of h.update.key ≡ i.unit → Member h.update i.rows ⊎ (Covers (at r.asked) h.update ⊎ (h.local ≤ r.from.prop))) rows

pub record IsSoundReply (book : Book) (r : Reply) : Type 0 where
  pub to_ordered : IsOrdered r.to
  pub to_seen : r.to.seen ≤ last_of book r.inv
  pub to_boundary : IsBoundary (log_of book r.inv) r.to.seen
  pub from_ordered : IsOrdered r.from
  pub forward : r.from.seen ≤ r.to.seen
  pub asked : IsBounded book (at r.asked)
  pub known : (u : Update) → IsSent r u → Member u book.issued
  pub ground : CoversItsGround r (log_of book r.inv)
  pub last : IfSome r.last (IsSoundLast book r)
  pub exact : Each (IsExact (rows_at (log_of book r.inv) r.to.seen) r) r.items
  pub once : Each (λ i. Each (λ j. i.unit ≡ j.unit → i ≡ j) r.items) r.items
  pub rising : AreRising (rows_at (log_of book r.inv) r.to.seen)
  pub formed : AreFormedRows (numbered r.schema) (updates_of (rows_at (log_of book r.inv) r.to.seen))
  pub classes : AreClassesKnown (numbered r.schema) (updates_of (rows_at (log_of book r.inv) r.to.seen))

-- a call that may be kept: a write as clients give it, a sound reply, a collection or an upgrade. No controller shows that it was
-- put back, so none is quarantined
abbrev pub IsSoundCall : Book → Call → Type 0
IsSoundCall book (ToWrite w now) = IsWellGiven w
IsSoundCall book (ToTake reply) = IsSoundReply book reply
IsSoundCall book (ToCollect now lifetime) = Unit {0}
IsSoundCall book ToUpgrade = Unit {0}
IsSoundCall book ToQuarantine = ⊥

-- a change that isn't safe is that of the kept call, and the controller isn't up
pub record IsPending (book : Book) (r : Replica) (p : Pending) : Type 0 where
  pub kept : r.kept ≡ Some p
  pub call : IsSoundCall book p.call
  pub made : change_of r.safe p.call ≡ Some p.change
  pub read : r.read ≡ after r.safe p.change
  pub not_up : r.standing ≢ Up

abbrev pub IsSettled : Replica → Type 0
IsSettled r = (r.kept ≡ None) × (r.read ≡ r.safe)

pub record IsSoundReplica (book : Book) (r : Replica) : Type 0 where
  pub safe : IsSoundState book r.safe
  pub read : IsSettled r ⊎ ((p : Pending) × IsPending book r p)

-- an identifier that a line gave, or the zero that stands for none
abbrev pub IsGiven : World → Identifier → Type 0
IsGiven w inv = Member inv w.given.invs ⊎ (inv ≡ identifier 0)

abbrev pub AreMarksGiven : World → Store → Type 0
AreMarksGiven w s = Each (λ (k : Identifier × PartnerMark). IsGiven w k.1.inv) s.marks

-- at this moment a last reply of the incarnation was made, at a USN that the vector covers
pub record WasTold (told : List LastReply) (vector : Cursors) (t : Identifier × ℕ) : Type 0 where
  pub reply : LastReply
  pub made : Member reply told
  pub inv : reply.inv ≡ t.0
  pub time : reply.time ≡ t.1
  pub covered : reply.usn ≤ at vector t.0

-- each time beside a vector was told so
abbrev pub WereTold : World → Cursors → Cursors → Type 0
WereTold w vector times = Each (WasTold w.last_replies vector) times

-- marks are of identifiers that lines gave, and times were told
abbrev pub IsTraced : World → Store → Type 0
IsTraced w s = AreMarksGiven w s × WereTold w s.vector s.times

-- a reply is of an identifier that a line gave, and tells times that were told
abbrev pub IsTracedReply : World → Reply → Type 0
IsTracedReply w r = Member r.inv w.given.invs × IfSome r.last (λ carried. WereTold w carried r.times)

-- names and identifiers are no one else's, and were given by lines; times were told by last replies
pub record AreIdentifiersSound (w : World) : Type 0 where
  pub names : Each (λ r. Each (λ q. r.name ≡ q.name → r ≡ q) w.replicas) w.replicas
  pub dsas : Each (λ r. Each (λ q. r.safe.dsa ≡ q.safe.dsa → r ≡ q) w.replicas) w.replicas
  pub invs : Each (λ r. Each (λ q. r.safe.inv ≡ q.safe.inv → r ≡ q) w.replicas) w.replicas
  pub dsas_given : Each (λ r. Member r.safe.dsa w.given.dsas) w.replicas
  pub invs_given : Each (λ r. Member r.safe.inv w.given.invs) w.replicas
  pub unused : (i : Identifier) → (Member i w.given.invs → ⊥) → log_of w.book i ≡ no_log
  pub stores : Each (λ r. IsTraced w r.safe.store × IsTraced w r.read.store) w.replicas
  pub images : Each (λ (i : Name × Store). IsTraced w i.1) w.images
  pub requests : Each (λ (q : Name × Request). IsGiven w q.1.inv) w.requests
  pub replies : Each (λ (r : Name × Reply). IsTracedReply w r.1) w.replies

-- a world while no database was put back. Nothing is asked of a snapshot: only a rollback looks at one, and the world isn't clean
-- after it
pub record IsSoundWorld (w : World) : Type 0 where
  pub clean : w.clean ≡ true
  pub book : IsSoundBook w.book
  pub replicas : Each (IsSoundReplica w.book) w.replicas
  pub images : Each (λ (i : Name × Store). IsSoundStore w.book i.1) w.images
  pub requests : Each (λ (q : Name × Request). IsSoundRequest w.book q.1) w.requests
  pub replies : Each (λ (r : Name × Reply). IsSoundReply w.book r.1) w.replies
  pub identifiers : AreIdentifiersSound w
  pub normal : Each (λ r. r.safe.mode ≡ Normal) w.replicas

-- ---- what holds always

-- a store that is formed, whose classes its schema has, and whose rows say what rows of their keys say
pub record IsOrderlyStore (s : Store) : Type 0 where
  pub formed : IsFormedStore s
  pub classes : AreClassesKnown (numbered s.schema) (updates_of s.rows)
  pub says : SayOfTheirKeys (updates_of s.rows)

-- a formed state of such a store, whose identifiers lines gave
pub record IsOrderlyState (w : World) (s : State) : Type 0 where
  pub dsa : Member s.dsa w.given.dsas
  pub inv : Member s.inv w.given.invs
  pub formed : IsFormed s
  pub store : IsOrderlyStore s.store

-- what a start would find is what the kept change leaves, and its log is that of the change's record
pub record IsUnsettled (r : Replica) (p : Pending) : Type 0 where
  pub kept : r.kept ≡ Some p
  pub read : r.read ≡ after r.safe p.change
  pub read_log : r.device.read_log ≡ log_after r.device.safe_log p.change

-- a log of the version that is written, within the limit
pub record IsOrderlyLog (l : Log) : Type 0 where
  pub version : l.version ≡ area_version
  pub within : l.log_end ≤ log_limit

-- both states are orderly, and so are both logs. A controller that is up is settled, with one log, and any other is, or keeps a change
pub record IsOrderlyReplica (w : World) (r : Replica) : Type 0 where
  pub safe : IsOrderlyState w r.safe
  pub read : IsOrderlyState w r.read
  pub safe_log : IsOrderlyLog r.device.safe_log
  pub read_log : IsOrderlyLog r.device.read_log
  pub up : r.standing ≡ Up → IsSettled r
  pub up_log : r.standing ≡ Up → r.device.read_log ≡ r.device.safe_log
  pub settled : IsSettled r ⊎ ((p : Pending) × IsUnsettled r p)

pub record IsOrderlySnapshot (w : World) (s : Snapshot) : Type 0 where
  pub state : IsOrderlyState w s.state
  pub log : IsOrderlyLog s.log

-- nothing is bound to a name twice
abbrev pub AreBoundOnce : {A : Type 0} → List (Name × A) → Type 0
AreBoundOnce {A} xs = Each (λ (x : Name × A). Each (λ (y : Name × A). x.0 ≡ y.0 → x ≡ y) xs) xs

-- names are no one else's, identifiers are those of lines, what is held is formed and replies are spelled, whether they are true or
-- not: also after a database was put back
pub record IsOrderlyWorld (w : World) : Type 0 where
  pub names : Each (λ r. Each (λ q. r.name ≡ q.name → r ≡ q) w.replicas) w.replicas
  pub replicas : Each (IsOrderlyReplica w) w.replicas
  pub replies : Each (λ (r : Name × Reply). IsSpelledReply r.1) w.replies
  pub images : Each (λ (i : Name × Store). IsOrderlyStore i.1) w.images
  pub snapshots : Each (λ (s : Name × Snapshot). IsOrderlySnapshot w s.1) w.snapshots
  pub bound_requests : AreBoundOnce w.requests
  pub bound_replies : AreBoundOnce w.replies
  pub bound_images : AreBoundOnce w.images
  pub bound_snapshots : AreBoundOnce w.snapshots

-- the world of a run: orderly always, and sound while it is clean
pub record IsWorldOfRun (w : World) : Type 0 where
  pub orderly : IsOrderlyWorld w
  pub sound : w.clean ≡ true → IsSoundWorld w
