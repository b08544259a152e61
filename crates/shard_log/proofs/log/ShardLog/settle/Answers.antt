use Rattle.std.proofs.Common.{rules, ◌≡◌, Ok, None, is_none, false, refl, sym, ap, subst}
use Rattle.gated_log.specs.declared.settled.Settled.TheVariants.{In, Out}
use Rattle.shard_disks.specs.Calls.{EndsDoubt}
use Rattle.shard_disks.specs.Outline.{Outline}
use Rattle.shard_log.specs.PlainShardLog.{IsShardLog, PlainShardLog, own_slot}
use Rattle.shard_log.specs.Steps.{Settles}
use Rattle.shard_log.proofs.SettleLemmas.{doubt_of, kept_in, kept_out, kept_same, settle_err, settle_in, settle_none, settle_out}
use Rattle.shard_log.proofs.log.ShardLog.settle.Goals as goal

pub returns-then-is_none : goal.returns-then-is_none
returns-then-is_none g c =
    let old : PlainShardLog g.row.D.Denot = record { disks = c.self.inside.disks; index = c.self.inside.index; unshown = c.self.inside.unshown.items; asked = c.self.inside.asked } in
    let none : c.self.inside.disks.doubted ≡ None = search rules in
    rw (← c.self.view_is) (record { settles = settle_none g.D.Disk.state old c.self.invariant none })

pub invariant_of-self : goal.invariant_of-self
invariant_of-self g c =
    let old : PlainShardLog g.row.D.Denot = record { disks = c.self.inside.disks; index = c.self.inside.index; unshown = c.self.inside.unshown.items; asked = c.self.inside.asked } in
    let other : is_none c.self.inside.disks.doubted ≡ false = search rules in
    let is : c.settle-settled.result ≡ Ok In = search rules in
    let ends = subst (EndsDoubt g.D.Disk.state c.self.inside.disks c.settle-settled.new.self) is c.settle-settled.ensures.ends in
    kept_in g.D.Disk.state old c.self.invariant c.settle-settled.new.self c.doubted.ensures.eight (doubt_of (own_slot old) c.self.inside.disks.doubted c.self.invariant.sound.doubted other) ends
    c.doubted.ensures.stand (c.doubted-rests.ensures.rests (ap (λ (o : Outline). o.doubted) (ends.in_stays refl)))

pub invariant_of-self-in-Ok-Out : goal.invariant_of-self-in-Ok-Out
invariant_of-self-in-Ok-Out g c =
    let old : PlainShardLog g.row.D.Denot = record { disks = c.self.inside.disks; index = c.self.inside.index; unshown = c.self.inside.unshown.items; asked = c.self.inside.asked } in
    let other : is_none c.self.inside.disks.doubted ≡ false = search rules in
    let is : c.settle-settled.result ≡ Ok Out = search rules in
    let ends = subst (EndsDoubt g.D.Disk.state c.self.inside.disks c.settle-settled.new.self) is c.settle-settled.ensures.ends in
    subst (λ u. IsShardLog g.D.Disk.state (record old { disks = c.settle-settled.new.self; unshown = u })) (sym c.clear.ensures.items)
    (kept_out g.D.Disk.state old c.self.invariant c.settle-settled.new.self c.doubted.ensures.eight (doubt_of (own_slot old) c.self.inside.disks.doubted c.self.invariant.sound.doubted other) ends
    (c.doubted-rests.ensures.rests (ap (λ (o : Outline). o.doubted) (ends.out_stays refl))))

pub invariant_of-self-in-Err : goal.invariant_of-self-in-Err
invariant_of-self-in-Err g c =
    let old : PlainShardLog g.row.D.Denot = record { disks = c.self.inside.disks; index = c.self.inside.index; unshown = c.self.inside.unshown.items; asked = c.self.inside.asked } in
    kept_same g.D.Disk.state old c.self.invariant c.settle-settled.new.self c.in-Err.ensures.ends.fault_stays c.in-Err.ensures.ends.disks.tells

pub returns-in-Ok-In : goal.returns-in-Ok-In
returns-in-Ok-In g c =
    let old : PlainShardLog g.row.D.Denot = record { disks = c.self.inside.disks; index = c.self.inside.index; unshown = c.self.inside.unshown.items; asked = c.self.inside.asked } in
    let other : is_none c.self.inside.disks.doubted ≡ false = search rules in
    let is : c.settle-settled.result ≡ Ok In = search rules in
    let ends = subst (EndsDoubt g.D.Disk.state c.self.inside.disks c.settle-settled.new.self) is c.settle-settled.ensures.ends in
    rw (← c.self.view_is) (record {
      settles = settle_in g.D.Disk.state old c.self.invariant c.settle-settled.new.self c.doubted.ensures.eight (doubt_of (own_slot old) c.self.inside.disks.doubted c.self.invariant.sound.doubted other) ends;
    })

pub returns-in-Ok-Out : goal.returns-in-Ok-Out
returns-in-Ok-Out g c =
    let old : PlainShardLog g.row.D.Denot = record { disks = c.self.inside.disks; index = c.self.inside.index; unshown = c.self.inside.unshown.items; asked = c.self.inside.asked } in
    let other : is_none c.self.inside.disks.doubted ≡ false = search rules in
    let is : c.settle-settled.result ≡ Ok Out = search rules in
    let ends = subst (EndsDoubt g.D.Disk.state c.self.inside.disks c.settle-settled.new.self) is c.settle-settled.ensures.ends in
    rw (← c.self.view_is) (record {
      settles = subst (λ u. Settles g.D.Disk.state old (record old { disks = c.settle-settled.new.self; unshown = u }) (Ok tt)) (sym c.clear.ensures.items)
          (settle_out g.D.Disk.state old c.self.invariant c.settle-settled.new.self c.doubted.ensures.eight (doubt_of (own_slot old) c.self.inside.disks.doubted c.self.invariant.sound.doubted other) ends);
    })

pub returns-in-Err : goal.returns-in-Err
returns-in-Err g c =
    let old : PlainShardLog g.row.D.Denot = record { disks = c.self.inside.disks; index = c.self.inside.index; unshown = c.self.inside.unshown.items; asked = c.self.inside.asked } in
    let other : is_none c.self.inside.disks.doubted ≡ false = search rules in
    rw (← c.self.view_is) (record {
      settles = settle_err g.D.Disk.state old c.self.invariant c.settle-settled.new.self c.doubted.ensures.eight (doubt_of (own_slot old) c.self.inside.disks.doubted c.self.invariant.sound.doubted other) c.in-Err.field-0 c.in-Err.ensures.ends;
    })
