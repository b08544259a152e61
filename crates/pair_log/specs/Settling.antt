-- What a settle of a pair leaves, by what was in doubt.
use Rattle.std.specs.Prelude.{◌≡◌, ◌+◌, [], ◌∷◌, ◌++◌}
use Rattle.gated_log.specs.PlainLog.{AtRest, doubted_length}
use Rattle.pair_log.specs.declared.doubt.Doubt.{Doubt}
use Rattle.pair_log.specs.declared.doubt.Doubt.TheVariants.{Nothing, Commit, Rewrite}
use Rattle.pair_log.specs.declared.side.Side.{Side}
use Rattle.pair_log.specs.Epochs.{next_epoch}
use Rattle.pair_log.specs.PlainPair.{PlainPair, both_disks, first_disk, second_disk}
use Rattle.pair_log.specs.Sides.{first_of, other_side}

-- the side whose gate is in doubt, and the disk on a side
abbrev pub doubted_side_of : Doubt → Side → Side
doubted_side_of Rewrite side = other_side side
doubted_side_of doubt side = side

abbrev pub doubted_side : {D : Type 0} → PlainPair D → Side
doubted_side pair = doubted_side_of pair.doubt pair.side

abbrev pub disk_on : {D : Type 0} → Side → PlainPair D → D
disk_on side pair = first_of side (first_disk pair) (second_disk pair)

-- In: the record is behind the others, or the snapshot is the whole list on what was the standby
abbrev pub IsSettledIn : {D : Type 0} → Doubt → PlainPair D → PlainPair D → Type 0
IsSettledIn Commit old new = new ≡ record old {
  active = record old.active {
    disk = new.active.disk;
    payloads = new.active.payloads;
    end = old.active.end + (5 + doubted_length old.active.standing);
    spare = new.active.spare;
    standing = AtRest;
  };
  doubt = Nothing;
  past = old.past ++ both_disks old ∷ [];
}
IsSettledIn Rewrite old new = new ≡ record {
  active = record old.standby {
    disk = new.active.disk;
    payloads = new.active.payloads;
    end = old.standby.end + (5 + doubted_length old.standby.standing);
    spare = new.active.spare;
    standing = AtRest;
  };
  standby = old.active;
  side = other_side old.side;
  epoch = next_epoch old.epoch;
  doubt = Nothing;
  past = old.past ++ both_disks old ∷ [];
}
IsSettledIn doubt old new = ⊥

-- Out: all is as it was before what was in doubt
abbrev pub IsSettledOut : {D : Type 0} → Doubt → PlainPair D → PlainPair D → Type 0
IsSettledOut Commit old new = new ≡ record old {
  active = record old.active { disk = new.active.disk; standing = AtRest };
  doubt = Nothing;
  past = old.past ++ both_disks old ∷ [];
}
IsSettledOut Rewrite old new = new ≡ record old {
  standby = record old.standby { disk = new.standby.disk; standing = AtRest };
  doubt = Nothing;
  past = old.past ++ both_disks old ∷ [];
}
IsSettledOut doubt old new = new ≡ record old { doubt = Nothing }

-- the disk failed, and the doubt stays
abbrev pub IsUnsettled : {D : Type 0} → Doubt → PlainPair D → PlainPair D → Type 0
IsUnsettled Commit old new = new ≡ record old { active = record old.active { disk = new.active.disk }; past = old.past ++ both_disks old ∷ [] }
IsUnsettled Rewrite old new = new ≡ record old { standby = record old.standby { disk = new.standby.disk }; past = old.past ++ both_disks old ∷ [] }
IsUnsettled doubt old new = ⊥
