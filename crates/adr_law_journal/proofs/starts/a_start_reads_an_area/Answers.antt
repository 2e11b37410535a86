use Rattle.adr_law_journal.proofs.Starting.{short, shut, head_fails, slots_fail, too_low, too_far, area_fails, area_reached}
use Rattle.adr_law_journal.proofs.starts.a_start_reads_an_area.Goals as goal

pub returns : goal.returns
returns c = record {
  short = λ head area following bytes lt. short head area following bytes lt;
  shut = λ head area following gate rest closed. shut head area following gate rest closed;
  head_fails = λ head area following rest place some fails. head_fails head area following rest place some fails;
  slots_fail = λ l bytes place has fails. slots_fail l.head l.area l.following l.told l.front l.is_head bytes has place fails;
  too_low = λ l bytes has long low. too_low l.head l.area l.following l.told l.front l.is_head bytes has long low;
  too_far = λ l bytes has long low far. too_far l.head l.area l.following l.told l.front l.is_head bytes has long low far;
  area_fails = λ l bytes second place fault has n fails. area_fails l.head l.area l.following l.told l.front l.is_head bytes has n.long second n.selects place n.named n.low n.near fault fails;
  reaches = λ l bytes place n began rest le was is. area_reached (l.area l.told) l.following bytes place n began rest le was is;
}
