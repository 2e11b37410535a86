use Rattle.std.proofs.Common.{arith}
use Rattle.adr_law_journal.proofs.Starting.{ends_here, rests_here, no_body_here, stops_here, goes_on}
use Rattle.adr_law_journal.proofs.starts.a_start_reads_an_area_record_by_record.Goals as goal

pub returns : goal.returns
returns c = record {
  ends = λ l bytes second place version first m s has n reaches at_end.
      ends_here l.head l.area l.following l.told l.front l.is_head bytes has n.long second n.selects place n.named n.low n.near version first m s (omega (arith, at_end)) reaches at_end;
  rests = λ l bytes second place version first m s has n reaches more closed.
      rests_here l.head l.area l.following l.told l.front l.is_head bytes has n.long second n.selects place n.named n.low n.near version first m s (omega (arith, more)) reaches more closed;
  cut = λ l bytes second place version first m fault s has n reaches more opens fails.
      no_body_here l.head l.area l.following l.told l.front l.is_head bytes has n.long second n.selects place n.named n.low n.near version first m s (omega (arith, more)) reaches more fault opens fails;
  stops = λ l bytes second place version first m s body rest has n reaches more opens there fits none_is.
      stops_here l.head l.area l.following l.told l.front l.is_head bytes has n.long second n.selects place n.named n.low n.near version first m s (omega (arith, more)) reaches more body rest opens there fits none_is;
  goes_on = λ l bytes second place version first m s t body rest has n reaches more opens there fits follows.
      goes_on l.head l.area l.following l.told l.front l.is_head bytes has n.long second n.selects place n.named n.low n.near version first m s (omega (arith, more)) reaches more opens body rest there fits t follows;
}
