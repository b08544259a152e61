use Rattle.std.proofs.Common.{◌≡◌, Ok, length, true, sym, subst, rules, arith}
use Rattle.shard_fold.specs.Fold.{is_new}
use Rattle.shard_disks.specs.PlainDisks.{outline}
use Rattle.shard_reading.specs.Steps.{BeginsShard, records_in}
use Rattle.shard_reading.proofs.BeginLemmas.{has_none}
use Rattle.shard_reading.proofs.beginning.begin.Goals as goal

pub returns : goal.returns
returns g c =
    let new : is_new c.args.cuts.now ≡ true = search rules in
    let none : length (records_in (outline c.args.disks.now) 0) ≡ 0 = omega (arith, c.count.ensures, c.if-count-gt0.false) in
    record {
      begins = subst (λ b. BeginsShard g.D.Disk.state b c.args.disks.now c.write_opening.new.disks (Ok tt)) (sym (has_none c.args.cuts.now (records_in (outline c.args.disks.now) 0) new none))
          c.in_ok-write_opening.ensures.begins;
    }
