use Rattle.std.proofs.Common.{◌≡◌, IsTrue, subst, ◌∙◌}
use Rattle.gated_log.specs.Records.{records}
use Rattle.pair_log.specs.Epochs.{read_pair}
use Rattle.pair_log.specs.Mounted.{mounted_first, or_first}
use Rattle.pair_log.specs.PlainPair.{first_disk}
use Rattle.session_journal.specs.declared.limits.TheConstants.{MOST_BYTES}
use Rattle.session_journal.specs.Mounting.{first_snapshot}
use Rattle.session_journal.proofs.MountingLemmas.{both_limited}
use Rattle.session_journal.proofs.mounting.mount_pair.Goals as goal

pub returns-in-Ok-mount-clause-mounts : goal.returns-in-Ok-mount-clause-mounts
returns-in-Ok-mount-clause-mounts g c =
    let pair = c.in-Ok-mount.pair in
    let first = g.D.Disk.state c.args.first in
    let second = g.D.Disk.state c.args.second in
    let is : c.deref.result.now ≡ first_snapshot c.args.asked = c.deref.ensures.value ∙ c.in-Ok.ensures.bytes in
    let limits = both_limited pair.side pair.active.limit pair.standby.limit MOST_BYTES c.in-Ok-mount.ensures.first_limit c.in-Ok-mount.ensures.second_limit in
    record {
      list = subst (λ s. IsTrue first.tells → IsTrue second.tells → pair.active.payloads ≡ or_first s (read_pair first.seen second.seen)) is c.in-Ok-mount.ensures.list;
      side = c.in-Ok-mount.ensures.side;
      rests = c.in-Ok-mount.ensures.rests;
      first_bytes = subst (λ s. IsTrue first.tells → IsTrue second.tells → (g.D.Disk.state (first_disk pair)).seen ≡ mounted_first s (records first.seen) (records second.seen) first.seen) is c.in-Ok-mount.ensures.first_bytes;
      second_bytes = c.in-Ok-mount.ensures.second_bytes;
      limit = limits.0;
      standby_limit = limits.1;
      first_tells = c.in-Ok-mount.ensures.first_tells;
      second_tells = c.in-Ok-mount.ensures.second_tells;
      first_arms = c.in-Ok-mount.ensures.first_arms;
      second_arms = c.in-Ok-mount.ensures.second_arms;
      first_faults = c.in-Ok-mount.ensures.first_faults;
      second_faults = c.in-Ok-mount.ensures.second_faults;
    }
