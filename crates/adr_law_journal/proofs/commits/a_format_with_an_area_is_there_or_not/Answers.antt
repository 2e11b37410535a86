use Rattle.adr_law_journal.proofs.Formatting.{torn_first, torn_rest, torn_last, formatted}
use Rattle.adr_law_journal.proofs.commits.a_format_with_an_area_is_there_or_not.Goals as goal

pub returns : goal.returns
returns c = record {
  first = λ head area following left torn. torn_first head area following left torn;
  second = λ head area following n left torn. torn_rest head area following n left torn;
  third = λ head area following f rest left whole torn. torn_last head area following rest f left whole torn;
  formatted = λ l s version image tells. formatted l.head l.area l.following l.front l.told s version image l.is_head tells;
}
