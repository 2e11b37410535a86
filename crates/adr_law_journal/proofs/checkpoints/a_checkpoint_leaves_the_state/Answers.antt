use Rattle.adr_law_journal.proofs.Reading.{at_rest_stands}
use Rattle.adr_law_journal.proofs.Keeping.{both_ready, torn_new_area, torn_other_slot, torn_selector, put_selector}
use Rattle.adr_law_journal.proofs.checkpoints.a_checkpoint_leaves_the_state.Goals as goal

pub returns : goal.returns
returns c = record {
  stands = λ l s log there rests. at_rest_stands l.head l.area l.following l.front l.told l.is_head s log there rests;
  first = λ l s log place n there left rests free torn.
      torn_other_slot l.head l.area l.following l.front l.told l.is_head s log torn.0 left (torn_new_area l.head l.area l.following l.front l.told l.is_head s log place n there torn.0 rests free torn.1) torn.2;
  staged = λ l s log place version image there rests free tells fits. both_ready (l.area l.told) l.following l.front s s log place version image there rests.ready free tells fits;
  second = λ l s log other there left is_other ready ready_other torn. torn_selector l.head l.area l.following l.front l.told l.is_head s log other there left is_other ready ready_other torn;
  selected = λ l s other there selector selects ready. put_selector l.head l.area l.following l.front l.told l.is_head s other other there selector selects ready;
}
