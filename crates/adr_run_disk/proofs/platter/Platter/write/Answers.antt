use Rattle.std.proofs.Common.{◌≡◌, ◌≤◌, ◌++◌, ◌∷◌, [], List, ℕ, length, take, drop, sym, ◌∙◌, ap, arith}
use Rattle.std.proofs.lemmas.List.{length_push}
use Rattle.adr_disk.specs.Disk.{put}
use Rattle.adr_disk.specs.Memory.{Surface, Held, with_write, read_of}
use Rattle.adr_run_disk.specs.Entries.{surface_at}
use Rattle.adr_run_disk.specs.Platter.{surface_of}
use Rattle.adr_run_disk.specs.declared.platter.Entry.{Entry}
use Rattle.adr_disk.proofs.Writes.{over-append}
use Rattle.adr_run_disk.proofs.Steps.{IsEntryFor, surface-added, in_range-added, undoable-added, surface-shown}
use Rattle.adr_run_disk.proofs.platter.Platter.write.Goals as goal
use Rattle.adr_run_disk.proofs.platter.Platter.write.Goals.{After-put}

-- the entry that is pushed
abbrev entry : After-put → Entry
entry c = record {
  at = c.args.at;
  from = c.len.result;
  len = length c.args.new.now;
  before = c.len-2.result;
  covered_from = c.len-3.result;
  covered_len = length c.part_of-covered.result.now;
}

covered_is : (c : After-put) → c.part_of-covered.result.now ≡ take (length c.args.new.now) (drop c.args.at c.self.inside.bytes.items)
covered_is c = c.part_of-covered.ensures ∙ ap (λ (l : List ℕ). take (length c.args.new.now) (drop c.args.at l)) c.deref.ensures.value

is_entry : (c : After-put) → IsEntryFor c.self.inside.bytes.items c.self.inside.log.items c.self.inside.covered.items c.args.new.now (entry c)
is_entry c = record {
  from = omega arith;
  len = omega arith;
  before = omega arith;
  covered_from = omega arith;
  covered_len = ap length (covered_is c);
}

within : (c : After-put) → c.args.at ≤ length c.self.inside.bytes.items
within c = omega (arith, ap (λ (h : Held). length (read_of h.surface)) c.self.view_is, ap length c.self.invariant.bytes)

-- what is there after it
covers : (c : After-put) → c.extend_from_slice.new.self.items ≡ c.self.inside.covered.items ++ take (length c.args.new.now) (drop c.args.at c.self.inside.bytes.items)
covers c = rw c.unwrap.ensures at c.extend_from_slice.ensures.items ∙ ap (λ (l : List ℕ). c.self.inside.covered.items ++ l) (covered_is c)

grows : (c : After-put) → c.extend_from_slice-2.new.self.items ≡ c.self.inside.log.items ++ c.args.new.now
grows c = rw c.unwrap-2.ensures at c.extend_from_slice-2.ensures.items

pushes : (c : After-put) → c.push.new.self.items ≡ c.self.inside.entries.items ++ entry c ∷ []
pushes c = rw c.unwrap-3.ensures at c.push.ensures.items

surface : (c : After-put)
    → surface_at c.put.new.bytes.items c.extend_from_slice-2.new.self.items c.extend_from_slice.new.self.items c.push.new.self.items
    ≡ with_write (surface_of c.self.inside) (record { at = c.args.at; bytes = c.args.new.now })
surface c =
    let a = c.self.inside in
    let whole = c.self.invariant in
    surface-added a.bytes.items a.log.items a.covered.items c.args.new.now (entry c) a.entries.items (is_entry c) whole.in_range whole.undoable (within c) _ _ _ _ c.put.ensures.items (grows c) (covers c) (pushes c)

pub invariant_of-self : goal.invariant_of-self
invariant_of-self c =
    let a = c.self.inside in
    let whole = c.self.invariant in
    record {
      in_range = in_range-added a.bytes.items a.log.items a.covered.items c.args.new.now (entry c) a.entries.items (is_entry c) whole.in_range whole.undoable (within c) _ _ (grows c) (pushes c) (omega (arith, within c));
      undoable = undoable-added a.bytes.items a.log.items a.covered.items c.args.new.now (entry c) a.entries.items (is_entry c) whole.in_range whole.undoable (within c) _ _ _ c.put.ensures.items (covers c) (pushes c);
      bytes =
          c.put.ensures.items
          ∙ ap (λ (l : List ℕ). put l c.args.at c.args.new.now) whole.bytes
          ∙ sym (over-append (surface_of a).written (record { at = c.args.at; bytes = c.args.new.now } ∷ []) (surface_of a).synced)
          ∙ ap read_of (sym (surface c));
      idle = λ none. absurd (omega (arith, ap length none, ap length (pushes c), length_push a.entries.items (entry c)));
    }

pub returns-clause-written : goal.returns-clause-written
returns-clause-written c =
    let a = c.self.inside in
    record {
      surface = surface c ∙ ap (λ (h : Held). with_write h.surface (record { at = c.args.at; bytes = c.args.new.now })) c.self.view_is;
      past =
          c.add.ensures
          ∙ ap (λ (s : Surface). a.past.surfaces ++ s ∷ []) (surface-shown _ a.bytes.items _ a.log.items _ a.covered.items _ a.entries.items c.deref-2.ensures.value c.deref-4.ensures.value c.deref-5.ensures.value c.deref-3.ensures.value)
          ∙ ap (λ (h : Held). h.past ++ h.surface ∷ []) c.self.view_is;
    }
