use Rattle.std.proofs.Common.{◌≡◌, Ok, sym, ap, subst, ◌∙◌}
use Rattle.shard_index.specs.KeptIndex.{KeptIndex, list_of}
use Rattle.shard_index.specs.Absorbing.{absorbed_all, kept_after_all}
use Rattle.shard_log.specs.PlainShardLog.{IsShardLog, PlainShardLog}
use Rattle.shard_log.specs.Steps.{Shows}
use Rattle.shard_log.proofs.ShowLemmas.{cuts_stay, kept_shown, show_ok}
use Rattle.shard_log.proofs.log.ShardLog.show.Goals as goal

pub invariant_of-self : goal.invariant_of-self
invariant_of-self g c =
    let old : PlainShardLog g.row.D.Denot = record { disks = c.self.inside.disks; index = c.self.inside.index; unshown = c.self.inside.unshown.items; asked = c.self.inside.asked } in
    let list : list_of c.absorb_all.new.self ≡ absorbed_all c.self.inside.unshown.items (list_of c.self.inside.index) =
    c.in-Ok.ensures.list ∙ ap (λ l. absorbed_all l (list_of c.self.inside.index)) c.deref.ensures.value in
    let cuts : c.absorb_all.new.self.cuts ≡ c.self.inside.index.cuts =
    ap (λ (i : KeptIndex). i.cuts) (c.in-Ok.ensures.kept ∙ ap (λ l. kept_after_all l c.self.inside.index) c.deref.ensures.value)
    ∙ cuts_stay c.self.inside.unshown.items c.self.inside.index c.self.invariant.sound.group in
    subst (λ u. IsShardLog g.D.Disk.state (record old { index = c.absorb_all.new.self; unshown = u })) (sym c.clear.ensures.items)
    (kept_shown g.D.Disk.state old c.self.invariant (ap (λ (s : PlainShardLog g.row.D.Denot). s.disks.doubted) c.self.view_is ∙ c.requires.rests) c.absorb_all.new.self list cuts)

pub returns-in-Ok : goal.returns-in-Ok
returns-in-Ok g c =
    let old : PlainShardLog g.row.D.Denot = record { disks = c.self.inside.disks; index = c.self.inside.index; unshown = c.self.inside.unshown.items; asked = c.self.inside.asked } in
    let list : list_of c.absorb_all.new.self ≡ absorbed_all c.self.inside.unshown.items (list_of c.self.inside.index) =
    c.in-Ok.ensures.list ∙ ap (λ l. absorbed_all l (list_of c.self.inside.index)) c.deref.ensures.value in
    let cuts : c.absorb_all.new.self.cuts ≡ c.self.inside.index.cuts =
    ap (λ (i : KeptIndex). i.cuts) (c.in-Ok.ensures.kept ∙ ap (λ l. kept_after_all l c.self.inside.index) c.deref.ensures.value)
    ∙ cuts_stay c.self.inside.unshown.items c.self.inside.index c.self.invariant.sound.group in
    rw (← c.self.view_is) (record {
      shows = subst (λ u. Shows old (record old { index = c.absorb_all.new.self; unshown = u }) (Ok tt)) (sym c.clear.ensures.items)
          (show_ok g.D.Disk.state old c.self.invariant (ap (λ (s : PlainShardLog g.row.D.Denot). s.disks.doubted) c.self.view_is ∙ c.requires.rests) c.absorb_all.new.self list cuts);
    })
