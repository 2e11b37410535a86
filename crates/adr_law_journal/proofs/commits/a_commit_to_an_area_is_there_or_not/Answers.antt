use Rattle.adr_law_journal.proofs.Recording.{torn_record, staged, torn_gate, opened_up}
use Rattle.adr_law_journal.proofs.commits.a_commit_to_an_area_is_there_or_not.Goals as goal

pub returns : goal.returns
returns c = record {
  first = λ l s log n there left rests torn. torn_record l.head l.area l.following l.front l.told l.is_head s log n there left rests torn;
  staged = λ l s log body there rests. staged l.head l.area l.following l.front l.told l.is_head s log body there rests;
  second = λ l s t log gate body there left is_gate st follows fits torn. torn_gate l.head l.area l.following l.front l.told l.is_head s log t gate is_gate body there left st follows fits torn;
  opened = λ l s t log gate body there is_gate st follows fits. opened_up l.head l.area l.following l.front l.told l.is_head s log t gate is_gate body there st follows fits;
}
