-- From a disk's bytes to what a start finds.
use Rattle.std.proofs.Common.{inl, inr, ⊎_elim, ℕ, List, Option, sym, ◌∙◌, ap, subst, arith}
use Rattle.std.specs.Option.{option_map}
use Rattle.adr_disk.specs.Disk.{Among, Keeps, LeavesOnly}
use Rattle.adr_wire.specs.Reading.{Reading}
use Rattle.adr_model.specs.Lengths.{Log}
use Rattle.adr_law_journal.specs.Log.{Following}
use Rattle.adr_law_journal.specs.Areas.{Began, Started, start_of}
use Rattle.adr_law_journal.specs.Kept.{Layout, Finds, IsSettled}

-- what each crash image has, what a start finds has
pub finds_each : {H S : Type 0} (head : Reading H) (area : H → Reading (Began S)) (following : ℕ → Following S) (may_leave : List ℕ → Type 0) (P : Started S → Type 0) → Among (λ bytes. P (start_of head area following bytes)) may_leave → Among P (Finds head area following may_leave)
finds_each head area following may_leave P h f left = subst P left.2 (h left.0 left.1)

module _ {K D H S : Type 0} (head : Reading H) (area : H → Reading (Began S)) (following : ℕ → Following S) (disk : K → D) (content : D → Option (List ℕ)) (may_leave : D → List ℕ → Type 0) (moment : D → ℕ) (left_since : D → ℕ → List ℕ → Type 0) (old new : K) where
  abbrev pub told_by : K → Option (Started S)
  told_by k = option_map (start_of head area following) (content (disk k))

  abbrev pub leaves_by : K → Started S → Type 0
  leaves_by k = Finds head area following (may_leave (disk k))

  abbrev pub moment_by : K → ℕ
  moment_by k = moment (disk k)

  abbrev pub since_by : K → ℕ → Started S → Type 0
  since_by k t = Finds head area following (left_since (disk k) t)

  pub lifted : (P : Started S → Type 0) → LeavesOnly moment left_since (disk old) (disk new) (λ bytes. P (start_of head area following bytes)) → LeavesOnly moment_by since_by old new P
  lifted P h = record {
    later = h.later;
    each = λ f left. subst P left.2 (h.each left.0 left.1);
    before = λ t f le left. ⊎_elim (λ was. inl (left.0, was, left.2)) (λ p. inr (subst P left.2 p)) (h.before t left.0 le left.1);
  }

  -- nothing changes
  pub kept_same : Keeps content may_leave moment left_since (disk old) (disk new) → Keeps told_by leaves_by moment_by since_by old new
  kept_same h = record {
    content_stays = ap (option_map (start_of head area following)) h.content_stays;
    no_more = λ f left. (left.0, h.no_more left.0 left.1, left.2);
    no_fewer = λ f left. (left.0, h.no_fewer left.0 left.1, left.2);
    moment_stays = h.moment_stays;
    past_stays = λ t f left. (left.0, h.past_stays t left.0 left.1, left.2);
    past_kept = λ t f left. (left.0, h.past_kept t left.0 left.1, left.2);
  }

  -- where nothing has changed, what is left is what was left
  pub kept_leaves : ((d : D) (bytes : List ℕ) → left_since d (moment d) bytes → may_leave d bytes) → (P : List ℕ → Type 0) → Among P (may_leave (disk old)) → Keeps content may_leave moment left_since (disk old) (disk new) → LeavesOnly moment left_since (disk old) (disk new) P
  kept_leaves only_now P here h = record {
    later = omega (arith, h.moment_stays);
    each = λ bytes left. here bytes (only_now (disk old) bytes (h.past_stays (moment (disk old)) bytes left));
    before = λ t bytes le left. inl (h.past_stays t bytes left);
  }

-- a log that is settled stays so
pub settled_kept : {D H S : Type 0} (l : Layout H S) (content : D → Option (List ℕ)) (may_leave : D → List ℕ → Type 0) (moment : D → ℕ) (left_since : D → ℕ → List ℕ → Type 0) (old new : D) (s : S) (log : Log)
    → Keeps content may_leave moment left_since old new → IsSettled l content may_leave old s log → IsSettled l content may_leave new s log
settled_kept l content may_leave moment left_since old new s log h settled = record {
  at_rest = λ there is. settled.at_rest there (sym h.content_stays ∙ is);
  synced = λ there is bytes left. settled.synced there (sym h.content_stays ∙ is) bytes (h.no_more bytes left);
}

-- one run of calls behind one that changed nothing
module _ {D : Type 0} (content : D → Option (List ℕ)) (may_leave : D → List ℕ → Type 0) (moment : D → ℕ) (left_since : D → ℕ → List ℕ → Type 0) (old mid new : D) where
  pub after_kept : (P : List ℕ → Type 0) → Keeps content may_leave moment left_since old mid → LeavesOnly moment left_since mid new P → LeavesOnly moment left_since old new P
  after_kept P h then = record {
    later = omega (arith, h.moment_stays, then.later);
    each = λ bytes left. then.each bytes (subst (λ (t : ℕ). left_since new t bytes) (sym h.moment_stays) left);
    before = λ t bytes le left. ⊎_elim (λ was. inl (h.past_stays t bytes was)) inr (then.before t bytes (omega (arith, le, h.moment_stays)) left);
  }
