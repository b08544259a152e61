use Rattle.std.proofs.Common.{◌≡◌, ◌<◌, ◌+◌, ◌-◌, length, sym, subst, arith}
use Rattle.shard_reading.proofs.GenerationLemmas.{index_elsewhere, index_read, newest_at, newest_known, sound_parts}
use Rattle.shard_reading.proofs.reading.read_index.Goals as goal

pub end-requires : goal.end-requires
end-requires g c =
    let last : length c.args.cuts.now - 1 + 1 ≡ length c.args.cuts.now = omega (arith, c.requires.some) in
    subst (λ n. n < 8) (sym (newest_at c.args.cuts.now (length c.args.cuts.now - 1) _ last)) (newest_known c.args.cuts.now (sound_parts c.args.cuts.now c.requires.sound).0)

pub returns-then-end : goal.returns-then-end
returns-then-end g c =
    let last : length c.args.cuts.now - 1 + 1 ≡ length c.args.cuts.now = omega (arith, c.requires.some) in
    record {
      reads = index_elsewhere g.D.Disk.state c.args.cuts.now c.args.disks.now c.read_generations.new.disks (c.in_ok-index.index, c.in_ok-index.end) _ c.end.result
          (newest_at c.args.cuts.now (length c.args.cuts.now - 1) _ last) c.in_ok-index.ensures.looks c.in_ok-index.ensures.reached c.end.ensures.end c.end.ensures.behind_records c.if-end.true;
    }

pub returns : goal.returns
returns g c =
    let last : length c.args.cuts.now - 1 + 1 ≡ length c.args.cuts.now = omega (arith, c.requires.some) in
    record {
      reads = index_read g.D.Disk.state c.args.cuts.now c.args.disks.now c.read_generations.new.disks (c.in_ok-index.index, c.in_ok-index.end) _ c.end.result
          (newest_at c.args.cuts.now (length c.args.cuts.now - 1) _ last) c.in_ok-index.ensures.looks c.in_ok-index.ensures.reached c.end.ensures.end c.if-end.false c.in_ok-index.ensures.exact c.in_ok-index.ensures.cuts;
    }
