-- What a write leaves: nothing is lost, what is written is held, and the store is formed and closed.
use Rattle.std.proofs.Common.{inl, ⊎_elim, ℕ, ◌+◌, List, [], ◌++◌, arith}
use Rattle.adr_values.specs.declared.stamp.Unit.{Unit as Named}
use Rattle.adr_values.specs.Numbered.{numbered}
use Rattle.adr_values.specs.Vector.{IsVector, at, raised}
use Rattle.adr_values.proofs.Comparing.{everywhere_from_at_most}
use Rattle.adr_model.specs.Member.{Member, Each}
use Rattle.adr_model.specs.Update.{Update}
use Rattle.adr_model.specs.Reflects.{Numbers, Covers, AtMost, Knowledge, knowledge_of, Reflects}
use Rattle.adr_model.specs.Store.{Held, Store, State, updates_of}
use Rattle.adr_model.specs.Change.{Item}
use Rattle.adr_model.specs.Write.{Write}
use Rattle.adr_model.specs.Formed.{IsClosed}
use Rattle.adr_model.specs.Replica.{Book, ToWrite}
use Rattle.adr_model.specs.Sound.{AreClassesKnown, IsSoundBook, IsSoundState}
use Rattle.adr_model.proofs.Members.{member_left, member_right}
use Rattle.adr_law_knowledge.proofs.Comparing.{supersedes_self}
use Rattle.adr_law_knowledge.specs.Grows.{Grows}
use Rattle.adr_law_knowledge.proofs.Knows.{grows_keeps, grows_trans, more_covered}
use Rattle.adr_law_calls.proofs.Empty.{empty_is_formed}
use Rattle.adr_law_calls.specs.Settling.{Leaves}
use Rattle.adr_law_calls.specs.Puts.{held_at, ArePut}
use Rattle.adr_law_calls.proofs.Rows.{updated}
use Rattle.adr_law_calls.proofs.Putting.{puts_grow}
use Rattle.adr_law_calls.specs.MayWrites.{MayWrite}
use Rattle.adr_law_knowledge.proofs.Raised.{raised_up}
use Rattle.adr_law_calls.proofs.PutForms.{whence_update}
use Rattle.adr_law_calls.proofs.WriteForms.{classes_stay, stays_closed}
use Rattle.adr_law_calls.proofs.WriteFormed.{stands, are_written, write_formed}
use Rattle.adr_law_calls.proofs.Issues.{change_of}
use Rattle.adr_law_knowledge.proofs.Lists.{alone_from}

module _ (book : Book) (s : State) (unit : Named) (us : List Update) (rows : List Held)
    (sound_book : IsSoundBook book) (state : IsSoundState book s) (may : MayWrite s unit us)
    (are : ArePut (s.store.usn + 1) us s.store.rows rows) where
  abbrev V : Numbers
  V = at s.store.vector

  abbrev P : Numbers
  P = at s.store.purged

  -- the store with the rows
  abbrev left : Store
  left = record {
    schema = s.store.schema;
    usn = s.store.usn + 1;
    rows = rows;
    vector = raised s.store.vector s.inv (s.store.usn + 1);
    times = s.store.times;
    purged = s.store.purged;
    marks = s.store.marks;
  }

  purged_within : AtMost P V
  purged_within i = everywhere_from_at_most s.store.purged s.store.vector state.store.formed.purged_within i

  pub grows : (issued : List Update) → Grows issued (knowledge_of s.store) (knowledge_of left)
  grows issued = grows_trans issued (knowledge_of s.store) put_alone (knowledge_of left)
      (puts_grow issued (s.store.usn + 1) s.store.rows rows V P unit us may.put are purged_within)
      (more_covered issued (updates_of rows) V (at left.vector) P P (raised_up s.store.vector s.inv (s.store.usn + 1)) (λ i. omega arith))
    where
      put_alone : Knowledge
      put_alone = record { rows = updates_of rows; vector = V; purged = P }

  keeps : (u : Update) → Reflects book.issued (knowledge_of s.store) u → Reflects book.issued (knowledge_of left) u
  keeps = grows_keeps book.issued (knowledge_of s.store) (knowledge_of left) (grows book.issued)

  known : Each (λ u. Member u (book.issued ++ (us ++ []))) (updates_of rows)
  known u m = ⊎_elim (λ n. member_right book.issued (us ++ []) u (member_left us [] u n)) (λ n. member_left book.issued (us ++ []) u (state.store.known u n)) (whence_update (s.store.usn + 1) us s.store.rows rows are u m)

  pub written : (issued : List Update) → Each (λ u. Reflects issued (knowledge_of left) u) (us ++ [])
  written issued u m = inl (u, updated rows (held_at (s.store.usn + 1) u) (are.written u (alone_from us u m)), supersedes_self u)

  closed : IsClosed left
  closed l r m is o n = stays_closed s us rows are book sound_book state unit may r m l is o n

  classes : AreClassesKnown (numbered s.store.schema) (updates_of rows)
  classes = classes_stay s us rows are unit may state.store.classes

  nothing_joined : IsVector []
  nothing_joined = empty_is_formed.vector

  nothing_carried : Each (λ u. Covers (at []) u → Reflects book.issued (knowledge_of left) u) book.issued
  nothing_carried u m c = absurd (omega (arith, (sound_book.once u m).0, c))

module _ (book : Book) (s : State) (item : Item) (sound_book : IsSoundBook book) (state : IsSoundState book s) (may : MayWrite s item.unit item.rows) where
  pub write_leaves : (w : Write) (now : ℕ) → Leaves book s (record { call = ToWrite w now; change = change_of s item })
  write_leaves w now = record {
    keeps = keeps book s item.unit item.rows (stands s item) sound_book state may (are_written s item state.formed may);
    known = known book s item.unit item.rows (stands s item) sound_book state may (are_written s item state.formed may);
    issued = written book s item.unit item.rows (stands s item) sound_book state may (are_written s item state.formed may) book.issued;
    joined = nothing_joined book s item.unit item.rows (stands s item) sound_book state may (are_written s item state.formed may);
    bounded = λ i. omega arith;
    carried = nothing_carried book s item.unit item.rows (stands s item) sound_book state may (are_written s item state.formed may);
    formed = (write_formed s item state.formed may).store;
    closed = closed book s item.unit item.rows (stands s item) sound_book state may (are_written s item state.formed may);
    classes = classes book s item.unit item.rows (stands s item) sound_book state may (are_written s item state.formed may);
    mark = tt;
  }
