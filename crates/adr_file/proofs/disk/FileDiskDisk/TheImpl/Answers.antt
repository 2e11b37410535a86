use Rattle.std.proofs.Common.{rules, ◌≡◌, ◌-◌, inl, List, ℕ, length, take, drop, min, Some, ap, arith}
use Rattle.std.proofs.lemmas.Grind.{common_steps}
use Rattle.std.proofs.lemmas.Result.{on_ok_weaker}
use Rattle.std.specs.Option.{ForSome, option_map}
use Rattle.adr_disk.specs.Disk.{put, Only}
use Rattle.adr_file.specs.Device.{bytes_of, AsBytes}
use Rattle.adr_file.proofs.AsBytes.{keeps_bytes, told_bytes, told_ok, told_same}
use Rattle.adr_file.proofs.disk.FileDiskDisk.TheImpl.Goals as goal

pub attach-tells : goal.attach-tells
attach-tells g c = record {
  keeps = keeps_bytes g.F.Folder c.args.self.now c.new.self.now c.ensures.keeps;
  cause = search rules;
  uncounted = c.ensures.counts.uncounted;
  spare = on_ok_weaker c.result (λ (same : c.new.self.now.faults ≡ c.args.self.now.faults). (omega arith, omega arith)) c.ensures.counts.passed;
  gives = tt;
}

pub len-tells : goal.len-tells
len-tells g c = record {
  len = told_ok c.result (g.F.Folder.file c.args.self.now.folder) (λ (n : ℕ) (bytes : List ℕ). n ≡ length bytes) c.ensures.len;
  keeps = keeps_bytes g.F.Folder c.args.self.now c.new.self.now c.ensures.keeps;
  cause = search rules;
  uncounted = c.ensures.counts.uncounted;
  spare = on_ok_weaker c.result (λ (same : c.new.self.now.faults ≡ c.args.self.now.faults). (omega arith, omega arith)) c.ensures.counts.passed;
  gives = tt;
}

pub read-tells : goal.read-tells
read-tells g c = record {
  within = c.ensures.within;
  filled = told_ok c.result (g.F.Folder.file c.args.self.now.folder) (λ (n : ℕ) (bytes : List ℕ). n ≡ min (length c.args.into.now) (length bytes - c.args.at)) c.ensures.filled;
  read = told_ok c.result (g.F.Folder.file c.args.self.now.folder) (λ (n : ℕ) (bytes : List ℕ). take n c.new.into.now ≡ take n (drop c.args.at bytes)) c.ensures.read;
  keeps = keeps_bytes g.F.Folder c.args.self.now c.new.self.now c.ensures.keeps;
  cause = search rules;
  uncounted = c.ensures.counts.uncounted;
  spare = on_ok_weaker c.result (λ (same : c.new.self.now.faults ≡ c.args.self.now.faults). (omega arith, omega arith)) c.ensures.counts.passed;
  gives = tt;
}

pub write_at-tells : goal.write_at-tells
write_at-tells g c =
    let f = g.F.Folder in
    let old = f.file c.args.self.now.folder in
    let new = f.file c.new.self.now.folder in
    record {
      written = told_ok c.result old (λ _ (bytes : List ℕ). option_map bytes_of new ≡ Some (put bytes c.args.at c.args.bytes.now)) (on_ok_weaker c.result
          (λ (written : ForSome old (λ there. new ≡ Some (Some (put (bytes_of there) c.args.at c.args.bytes.now)))). λ there is. ap (option_map bytes_of) (written there is)) c.ensures.written);
      told = told_bytes old new c.ensures.turns.told;
      crash = c.ensures.turns.crash;
      time = c.ensures.turns.time;
      cause = search rules;
      no_memory = λ none. keeps_bytes f c.args.self.now c.new.self.now (c.ensures.no_memory none);
      no_memory_only = λ none. inl (omega (arith, c.ensures.counts.uncounted none));
      spare = grind (arith, common_steps);
      gives = tt;
    }

pub sync-tells : goal.sync-tells
sync-tells g c =
    let f = g.F.Folder in
    let old = f.file c.args.self.now.folder in
    let new = f.file c.new.self.now.folder in
    record {
      durable = told_same c.result old new (λ (bytes : List ℕ). Only bytes (AsBytes (f.may_leave c.new.self.now.folder))) c.ensures.same c.ensures.durable;
      same = on_ok_weaker c.result (λ (same : new ≡ old). ap (option_map bytes_of) same) c.ensures.same;
      told = told_bytes old new c.ensures.turns.told;
      crash = c.ensures.turns.crash;
      time = c.ensures.turns.time;
      cause = search rules;
      uncounted = c.ensures.counts.uncounted;
      no_memory = λ none. keeps_bytes f c.args.self.now c.new.self.now (c.ensures.no_memory none);
      no_memory_only = λ none. omega (arith, c.ensures.counts.uncounted none);
      spare = grind (arith, common_steps);
      gives = tt;
    }
