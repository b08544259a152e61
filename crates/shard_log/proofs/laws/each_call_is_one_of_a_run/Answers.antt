use Rattle.shard_log.proofs.CallLemmas.{append_comes, append_cut, mount_comes, mount_cut, mount_cut_synced, tick_comes, tick_cut}
use Rattle.shard_log.proofs.laws.each_call_is_one_of_a_run.Goals as goal

pub returns-clause-appends : goal.returns-clause-appends
returns-clause-appends g c = append_comes g.D.Disk.state

pub returns-clause-appends_cut : goal.returns-clause-appends_cut
returns-clause-appends_cut g c = append_cut g.D.Disk.state

pub returns-clause-ticks : goal.returns-clause-ticks
returns-clause-ticks g c = tick_comes g.D.Disk.state

pub returns-clause-ticks_cut : goal.returns-clause-ticks_cut
returns-clause-ticks_cut g c = tick_cut g.D.Disk.state

pub returns-clause-mounts : goal.returns-clause-mounts
returns-clause-mounts g c = mount_comes g.D.Disk.state

pub returns-clause-mounts_cut : goal.returns-clause-mounts_cut
returns-clause-mounts_cut g c = mount_cut g.D.Disk.state

pub returns-clause-mounts_cut_synced : goal.returns-clause-mounts_cut_synced
returns-clause-mounts_cut_synced g c = mount_cut_synced g.D.Disk.state
