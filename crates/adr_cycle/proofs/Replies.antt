-- A reply from what its parts are read from.
use Rattle.std.proofs.Common.{◌≡◌, ◌∙◌, ℕ, ◌≤◌, List, Bool, ◌==◌, Option, is_none, map, sym, ap, subst, length}
use Rattle.std.specs.Bool.{then_some}
use Rattle.adr_values.specs.Vector.{Cursors}
use Rattle.adr_values.specs.declared.mark.Mark.{Mark}
use Rattle.adr_model.specs.Change.{Item}
use Rattle.adr_model.specs.Update.{Identifier}
use Rattle.adr_model.specs.Store.{Held, State}
use Rattle.adr_model.specs.Serve.{Request, Reply, begins_at, byte_limit, candidates, first_items, reply_of, reply_to}
use Rattle.adr_cycle.proofs.Choosing.{candidates_rise}
use Rattle.adr_cycle.proofs.Cutting.{cut, last_number}
use Rattle.adr_cycle.proofs.Numbered.{next}

module _ (rows : List Held) (from : Mark) (asked : Cursors) (most last : ℕ) (sent seen : List (ℕ × Item)) (first : sent ≡ first_items most byte_limit (candidates rows from asked)) (same : seen ≡ sent) (end : last ≡ last_number from.obj seen) where
  -- the last number that is sent
  end_is : last ≡ last_number from.obj (first_items most byte_limit (candidates rows from asked))
  end_is = end ∙ ap (last_number from.obj) (same ∙ first)

  pub end_above : from.obj ≤ last
  end_above = subst (λ n. from.obj ≤ n) (sym end_is) (cut most byte_limit from.obj (candidates rows from asked) (candidates_rise rows from asked)).0

  -- whether all are sent
  all_sent : (none : Bool) → none ≡ is_none (next last (candidates rows from asked)) → none ≡ (length sent == length (candidates rows from asked))
  all_sent none is =
      is ∙ ap (λ n. is_none (next n (candidates rows from asked))) end_is
      ∙ (cut most byte_limit from.obj (candidates rows from asked) (candidates_rise rows from asked)).1
      ∙ ap (λ (xs : List (ℕ × Item)). length xs == length (candidates rows from asked)) (sym first)

  pub reply_is : (s : State) (q : Request) (now : ℕ) (none : Bool) → none ≡ is_none (next last (candidates rows from asked)) → from ≡ begins_at s q → rows ≡ s.store.rows → asked ≡ q.vector → most ≡ q.max
      → reply_of s q now from sent none ≡ reply_to s q now
  reply_is s q now none is begins held vector limit =
      ap (λ b. reply_of s q now from sent b) (all_sent none is)
      ∙ ap (λ (xs : List (ℕ × Item)). reply_of s q now from xs (length xs == length (candidates rows from asked))) first
      ∙ ap (λ m. by rows from asked m) limit ∙ ap (λ v. by rows from v q.max) vector ∙ ap (λ r. by r from q.vector q.max) held ∙ ap (λ f. by s.store.rows f q.vector q.max) begins
    where
      by : List Held → Mark → Cursors → ℕ → Reply
      by r f v m = reply_of s q now f (first_items m byte_limit (candidates r f v)) (length (first_items m byte_limit (candidates r f v)) == length (candidates r f v))

-- a reply is made of its parts
pub made_of : (s : State) (q : Request) (now : ℕ) (from : Mark) (sent : List (ℕ × Item)) (last : Bool) (x : Reply) (version : ℕ) (dest source inv : Identifier) (to : Mark) (schema : ℕ) (asked : Cursors) (vector : Option Cursors) (times : Cursors) (items : List Item)
    → x ≡ record { version = version; dest = dest; source = source; inv = inv; from = from; to = to; schema = schema; asked = asked; last = vector; times = times; items = items }
    → version ≡ q.version → dest ≡ q.dest → source ≡ s.dsa → inv ≡ s.inv → to ≡ (reply_of s q now from sent last).to → schema ≡ s.store.schema → asked ≡ q.vector → vector ≡ then_some last s.store.vector
    → times ≡ (reply_of s q now from sent last).times → items ≡ map (λ (c : ℕ × Item). c.1) sent
    → x ≡ reply_of s q now from sent last
made_of s q now from sent last x version dest source inv to schema asked vector times items is its_version its_dest its_source its_inv its_to its_schema its_asked its_vector its_times its_items =
    let made : x ≡ record {
      version = q.version;
      dest = q.dest;
      source = s.dsa;
      inv = s.inv;
      from = from;
      to = (reply_of s q now from sent last).to;
      schema = s.store.schema;
      asked = q.vector;
      last = then_some last s.store.vector;
      times = (reply_of s q now from sent last).times;
      items = map (λ (c : ℕ × Item). c.1) sent;
    } = cc in
    made
