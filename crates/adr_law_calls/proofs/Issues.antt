-- What a write issues keeps a book sound.
use Rattle.std.proofs.Common.{◌+◌, [], ◌∷◌, ◌++◌, sym, subst}
use Rattle.adr_model.specs.Member.{Member, Each}
use Rattle.adr_model.specs.Store.{Held, State}
use Rattle.adr_model.specs.Change.{Item, Change, held_of, updates_written}
use Rattle.adr_model.specs.Write.{own_change}
use Rattle.adr_model.specs.Replica.{Book}
use Rattle.adr_model.specs.Sound.{IsSoundBook, IsSoundState}
use Rattle.adr_model.proofs.Members.{member_left, member_right, mapped_member}
use Rattle.adr_law_calls.specs.Later.{MayIssue}
use Rattle.adr_law_calls.specs.Puts.{held_at}
use Rattle.adr_law_calls.specs.MayWrites.{MayWrite}
use Rattle.adr_law_knowledge.proofs.Lists.{alone_from}
use Rattle.adr_law_calls.proofs.Writes.{end_of_unit, ends_born, class_rows_born}

-- the change that writes one item, under the next USN
abbrev pub change_of : State → Item → Change
change_of s item = own_change s (record { local = s.store.usn + 1; item = item } ∷ [])

pub write_may_issue : (book : Book) (s : State) (item : Item) → IsSoundBook book → IsSoundState book s → MayWrite s item.unit item.rows
    → MayIssue book (change_of s item) (updates_written (change_of s item))
write_may_issue book s item sound_book state may = record {
  alone = λ u m v n e _. may.put.alone u (alone_from item.rows u m) v (alone_from item.rows v n) e;
  born = λ u m o n. ends_born book s sound_book state item.unit item.rows may o (end_of_unit u.key item.unit o (may.put.of_unit u (alone_from item.rows u m)) n);
  births = λ u m o is. class_rows_born book s sound_book state item.unit item.rows may u (alone_from item.rows u m) o is;
  logged = logged;
}
  where
    logged : Each (λ h. Member h.update (book.issued ++ (item.rows ++ []))) (held_of (change_of s item).writes)
    logged h m = let u = mapped_member (held_at (s.store.usn + 1)) item.rows h (alone_from _ h m) in
        subst (λ (x : Held). Member x.update (book.issued ++ (item.rows ++ []))) (sym u.2) (member_right book.issued (item.rows ++ []) u.0 (member_left item.rows [] u.0 u.1))
