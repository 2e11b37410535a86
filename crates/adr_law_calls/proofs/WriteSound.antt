-- A sound state that writes may issue what it writes, and leaves what a sound state needs.
use Rattle.std.proofs.Common.{◌≡◌, ℕ, ◌+◌, None, Ok, refl, subst}
use Rattle.adr_model.specs.Store.{State}
use Rattle.adr_model.specs.Change.{Written, Change}
use Rattle.adr_model.specs.Write.{Write, AddObject, Modify, Rename, Delete, AddLink, RemoveLink, Revive, write_refusal, rows_written, more_written, items_written, own_change, write}
use Rattle.adr_model.specs.Given.{IsWellGiven}
use Rattle.adr_model.specs.Formed.{IsFormed}
use Rattle.adr_model.specs.Replica.{Book, ToWrite, issued_by}
use Rattle.adr_model.specs.Sound.{IsSoundBook, IsSoundState}
use Rattle.adr_law_calls.specs.Later.{MayIssue}
use Rattle.adr_law_calls.specs.Settling.{Leaves}
use Rattle.adr_law_calls.specs.MayWrites.{MayWrite, MayWriteInTurn}
use Rattle.adr_law_knowledge.proofs.Refusing.{answered}
use Rattle.adr_law_calls.proofs.Written.{items_are_own}
use Rattle.adr_law_calls.proofs.InTurnSound.{in_turn_issue, in_turn_leave}
use Rattle.adr_law_calls.proofs.Linked.{may_add_link, may_remove_link}
use Rattle.adr_law_calls.proofs.Changed.{may_rename, may_delete, may_modify}
use Rattle.adr_law_calls.proofs.Coming.{may_come}
use Rattle.adr_law_calls.proofs.Reviving.{may_revive, may_relink}

pub may_write : (s : State) (w : Write) (now : ℕ) → IsFormed s → IsWellGiven w → write_refusal s w ≡ None → MayWrite s (rows_written s w now).unit (rows_written s w now).rows
may_write s (AddObject guid class parent text values) now formed given none = may_come s formed guid class parent text values given none now
may_write s (Modify guid values) now formed given none = may_modify s formed guid values given.0 none now
may_write s (Rename guid parent text) now formed given none = may_rename s formed guid parent text none now
may_write s (Delete guid) now formed given none = may_delete s formed guid none now
may_write s (AddLink from attr to) now formed given none = may_add_link s formed from attr to now none
may_write s (RemoveLink from attr to) now formed given none = may_remove_link s formed from attr to now none
may_write s (Revive image guid parent text) now formed given none = may_revive s formed image guid parent text given none now

-- all that a write writes may be written, one item after the other
pub may_write_in_turn : (s : State) (w : Write) (now : ℕ) → IsFormed s → IsWellGiven w → write_refusal s w ≡ None → MayWriteInTurn s (items_written s w now)
may_write_in_turn s (AddObject guid class parent text values) now formed given none = (refl, may_write s (AddObject guid class parent text values) now formed given none, tt)
may_write_in_turn s (Modify guid values) now formed given none = (refl, may_write s (Modify guid values) now formed given none, tt)
may_write_in_turn s (Rename guid parent text) now formed given none = (refl, may_write s (Rename guid parent text) now formed given none, tt)
may_write_in_turn s (Delete guid) now formed given none = (refl, may_write s (Delete guid) now formed given none, tt)
may_write_in_turn s (AddLink from attr to) now formed given none = (refl, may_write s (AddLink from attr to) now formed given none, tt)
may_write_in_turn s (RemoveLink from attr to) now formed given none = (refl, may_write s (RemoveLink from attr to) now formed given none, tt)
may_write_in_turn s (Revive image guid parent text) now formed given none = (refl, may_revive s formed image guid parent text given none now, may_relink s formed image guid parent text given none now)

pub write_leaves_sound : (book : Book) (s : State) (w : Write) (now : ℕ) (c : Change) → IsSoundBook book → IsSoundState book s → IsWellGiven w → write s w now ≡ Ok c
    → MayIssue book c (issued_by (ToWrite w now) c) × Leaves book s (record { call = ToWrite w now; change = c })
write_leaves_sound book s w now c sound_book state given made =
    let t = answered (write_refusal s w) (own_change s (items_written s w now)) c made in
    let may = may_write_in_turn s w now state.formed given t.0 in
    let first : Written = record { local = s.store.usn + 1; item = rows_written s w now } in
    subst (λ (d : Change). MayIssue book d (issued_by (ToWrite w now) d) × Leaves book s (record { call = ToWrite w now; change = d })) t.1 (
      in_turn_issue w now book s first (more_written s w now) sound_book state may (items_are_own s w now),
      in_turn_leave w now book s first (more_written s w now) sound_book state may (items_are_own s w now),
    )
