-- A pair that is only read, call after call.
use Rattle.std.proofs.Common.{◌≡◌, ℕ, IsTrue, List, [], ◌∷◌, ◌++◌, inl, inr, sym, ap, subst, ◌∙◌}
use Rattle.outside.specs.Along.{WithinBoth, keeps_and, keeps_weaker}
use Rattle.outside.specs.DiskModel.{DiskState, WritesNone}
use Rattle.gated_log.specs.PlainLog.{PlainLog}
use Rattle.pair_log.specs.declared.doubt.Doubt.TheVariants.{Nothing}
use Rattle.pair_log.specs.Epochs.{read_pair}
use Rattle.pair_log.specs.PlainPair.{EachMoment, IsEither, PlainPair, Told, after_doubt, after_of, both_disks}
use Rattle.session_journal.specs.PairCalls.{IsRead}

-- nothing is in doubt, so there is one list
pub rests_after : {D : Type 0} (pair : PlainPair D) → pair.doubt ≡ Nothing → after_doubt pair ≡ pair.active.payloads
rests_after pair rests = ap (λ d. after_of d pair.active.payloads pair.active.standing pair.standby.standing) rests

pub one_list : {D : Type 0} (pair : PlainPair D) → pair.doubt ≡ Nothing → (list : List (List ℕ)) → IsEither pair.active.payloads (after_doubt pair) list → list ≡ pair.active.payloads
one_list pair rests list (inl e) = e
one_list pair rests list (inr e) = e ∙ rests_after pair rests

-- one call
pub read_once : {D : Type 0} (state : D → DiskState) (old new : PlainPair D) → old.doubt ≡ Nothing
    → new ≡ record old { active = record old.active { disk = new.active.disk }; past = old.past ++ both_disks old ∷ [] }
    → WritesNone (state old.active.disk) (state new.active.disk)
    → EachMoment state old new (IsEither old.active.payloads (after_doubt old))
    → (state new.active.disk).tells ≡ (state old.active.disk).tells → (state new.active.disk).arms ≡ (state old.active.disk).arms
    → IsRead state old new
read_once {D = D} state old new rests stays writes_none moments tells arms = record {
  stays = stays ∙ ap (λ past. record old { active = record old.active { disk = new.active.disk }; past = past }) (sym (ap (λ (p : PlainPair D). p.past) stays));
  writes_none = writes_none;
  moments = λ told. keeps_weaker (WithinBoth state) (λ images. IsEither old.active.payloads (after_doubt old) (read_pair images.0 images.1)) (λ images. read_pair images.0 images.1 ≡ old.active.payloads)
      old.past (both_disks old) new.past (both_disks new) (λ images has. one_list old rests (read_pair images.0 images.1) has) (moments told);
  tells = tells;
  arms = arms;
}

pub same_payloads : {D : Type 0} (state : D → DiskState) (old new : PlainPair D) → IsRead state old new → new.active.payloads ≡ old.active.payloads
same_payloads {D = D} state old new read = ap (λ (p : PlainPair D). p.active.payloads) read.stays

pub same_standby : {D : Type 0} (state : D → DiskState) (old new : PlainPair D) → IsRead state old new → new.standby ≡ old.standby
same_standby {D = D} state old new read = ap (λ (p : PlainPair D). p.standby) read.stays

pub told_then : {D : Type 0} (state : D → DiskState) (old new : PlainPair D) → IsRead state old new → Told state old → Told state new
told_then {D = D} state old new read told =
    (subst IsTrue (sym read.tells) told.0, subst (λ (l : PlainLog D). IsTrue (state l.disk).tells) (sym (same_standby state old new read)) told.1)

-- and then another
pub read_and : {D : Type 0} (state : D → DiskState) (old mid new : PlainPair D) → IsRead state old mid → IsRead state mid new → IsRead state old new
read_and {D = D} state old mid new first second = record {
  stays = second.stays ∙ ap (λ (p : PlainPair D). record p { active = record p.active { disk = new.active.disk }; past = new.past }) first.stays;
  writes_none = record {
    size = second.writes_none.size ∙ first.writes_none.size;
    seen = second.writes_none.seen ∙ first.writes_none.seen;
    images = λ image left. first.writes_none.images image (second.writes_none.images image left);
  };
  moments = λ told. keeps_and (WithinBoth state) (λ images. read_pair images.0 images.1 ≡ old.active.payloads)
      old.past (both_disks old) mid.past (both_disks mid) new.past (both_disks new)
      (first.moments told)
      (keeps_weaker (WithinBoth state) (λ images. read_pair images.0 images.1 ≡ mid.active.payloads) (λ images. read_pair images.0 images.1 ≡ old.active.payloads)
      mid.past (both_disks mid) new.past (both_disks new) (λ images e. e ∙ same_payloads state old mid first) (second.moments (told_then state old mid first told)));
  tells = second.tells ∙ first.tells;
  arms = second.arms ∙ first.arms;
}
