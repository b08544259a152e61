-- What the calls of a pair make, where memory ran out or a rewrite failed.
use Rattle.std.proofs.Common.{◌≡◌, ◌⊎◌, ℕ, ◌≤◌, List, [], ◌∷◌, ◌++◌, inl, inr, Err, refl, sym, ap, subst, ◌∙◌}
use Rattle.std.proofs.Math.Nat.{le_refl}
use Rattle.outside.specs.Along.{WithinBoth, keeps_at_first}
use Rattle.outside.specs.Cause.{Rose}
use Rattle.outside.specs.DiskModel.{DiskState}
use Rattle.gated_log.specs.PlainLog.{InDoubt, Lost, PlainLog}
use Rattle.pair_log.specs.declared.side.Side.{Side}
use Rattle.pair_log.specs.declared.side.Side.TheVariants.{First, Second}
use Rattle.pair_log.specs.declared.doubt.Doubt.TheVariants.{Nothing, Restart, Rewrite}
use Rattle.pair_log.specs.Epochs.{read_pair}
use Rattle.pair_log.specs.PlainPair.{EachMoment, HasEither, IsEither, PlainPair, after_doubt, after_of, both_disks, first_disk, second_disk}
use Rattle.pair_log.specs.Sides.{first_of, second_of}
use Rattle.session_journal.specs.declared.refused.JournalRefused.TheVariants.{Fault, Memory}
use Rattle.session_journal.specs.PairCalls.{HasMoreRoom, Makes}

-- nothing happened but that there may be more room
pub only_room : {D : Type 0} (state : D → DiskState) (old new : PlainPair D) (after : List (List ℕ)) → HasMoreRoom old new → HasEither state old
    → Makes state old new after (Err Memory)
only_room {D = D} state old new after room images =
    subst (λ (p : PlainPair D). Makes state old p after (Err Memory)) (sym room) (record {
      list = tt;
      rests = tt;
      memory = λ e. refl;
      in_doubt = λ e. absurd (cc);
      kept = λ told. refl;
      undecided = λ e. absurd (cc);
      any_moment = λ told. keeps_at_first (WithinBoth state) (λ images. IsEither old.active.payloads after (read_pair images.0 images.1)) old.past (both_disks old);
      images = images;
      limits = λ limit e f. (e, f);
      disks = record { first_tells = refl; second_tells = refl; first_arms = refl; second_arms = refl };
      cause = record {
        first_later = le_refl (state (first_disk old)).faults;
        second_later = le_refl (state (second_disk old)).faults;
        fault = λ e. absurd (cc);
        first_kept = λ not_fault. refl;
        second_kept = λ not_fault. refl;
      };
    })

-- of two on their sides, each stands so to the one before
first_stands : {A : Type 0} (R : A → A → Type 0) (side : Side) (a b x y : A) → R a x → R b y → R (first_of side a b) (first_of side x y)
first_stands R First a b x y r s = r
first_stands R Second a b x y r s = s

second_stands : {A : Type 0} (R : A → A → Type 0) (side : Side) (a b x y : A) → R a x → R b y → R (second_of side a b) (second_of side x y)
second_stands R First a b x y r s = s
second_stands R Second a b x y r s = r

one_rose : {A : Type 0} (R : A → A → Type 0) (side : Side) (a b x y : A) → R b y →
    R (first_of side a b) (first_of side x y) ⊎ R (second_of side a b) (second_of side x y)
one_rose R First a b x y r = inr r
one_rose R Second a b x y r = inl r

-- the standby failed, and the active log stays
pub standby_failed : {D : Type 0} (state : D → DiskState) (old new : PlainPair D) (after : List (List ℕ))
    → new.side ≡ old.side → new.active.disk ≡ old.active.disk → new.active.payloads ≡ old.active.payloads
    → new.active.limit ≡ old.active.limit → new.standby.limit ≡ old.standby.limit
    → (new.doubt ≡ Nothing → ⊥) → ((new.doubt ≡ Restart → ⊥) → after_doubt new ≡ after)
    → EachMoment state old new (IsEither old.active.payloads after) → HasEither state new
    → (state new.standby.disk).tells ≡ (state old.standby.disk).tells → (state new.standby.disk).arms ≡ (state old.standby.disk).arms
    → (state old.standby.disk).faults ≤ (state new.standby.disk).faults → Rose (state old.standby.disk).faults (state new.standby.disk).faults
    → Makes state old new after (Err Fault)
standby_failed {D = D} state old new after side disk payloads limit standby_limit doubt undecided moment images tells arms later rose = record {
  list = tt;
  rests = tt;
  memory = λ e. absurd (cc);
  in_doubt = λ e. doubt;
  kept = λ told. payloads;
  undecided = λ e told. undecided;
  any_moment = moment;
  images = images;
  limits = λ most e f. (limit ∙ e, standby_limit ∙ f);
  disks = record {
    first_tells = first (λ d e. (state e).tells ≡ (state d).tells) (ap (λ d. (state d).tells) disk) tells;
    second_tells = second (λ d e. (state e).tells ≡ (state d).tells) (ap (λ d. (state d).tells) disk) tells;
    first_arms = first (λ d e. (state e).arms ≡ (state d).arms) (ap (λ d. (state d).arms) disk) arms;
    second_arms = second (λ d e. (state e).arms ≡ (state d).arms) (ap (λ d. (state d).arms) disk) arms;
  };
  cause = record {
    first_later = first (λ d e. (state d).faults ≤ (state e).faults) same_faults later;
    second_later = second (λ d e. (state d).faults ≤ (state e).faults) same_faults later;
    fault = λ e. subst (λ s. Rose (state (first_of old.side old.active.disk old.standby.disk)).faults (state (first_of s new.active.disk new.standby.disk)).faults
        ⊎ Rose (state (second_of old.side old.active.disk old.standby.disk)).faults (state (second_of s new.active.disk new.standby.disk)).faults) (sym side)
        (one_rose (λ d e. Rose (state d).faults (state e).faults) old.side old.active.disk old.standby.disk new.active.disk new.standby.disk rose);
    first_kept = λ not_fault. absurd (not_fault refl);
    second_kept = λ not_fault. absurd (not_fault refl);
  };
} where
  same_faults : (state old.active.disk).faults ≤ (state new.active.disk).faults
  same_faults = subst (λ d. (state old.active.disk).faults ≤ (state d).faults) (sym disk) (le_refl (state old.active.disk).faults)

  first : (R : D → D → Type 0) → R old.active.disk new.active.disk → R old.standby.disk new.standby.disk → R (first_disk old) (first_disk new)
  first R r s = subst (λ t. R (first_disk old) (first_of t new.active.disk new.standby.disk)) (sym side)
      (first_stands R old.side old.active.disk old.standby.disk new.active.disk new.standby.disk r s)

  second : (R : D → D → Type 0) → R old.active.disk new.active.disk → R old.standby.disk new.standby.disk → R (second_disk old) (second_disk new)
  second R r s = subst (λ t. R (second_disk old) (second_of t new.active.disk new.standby.disk)) (sym side)
      (second_stands R old.side old.active.disk old.standby.disk new.active.disk new.standby.disk r s)

-- what stays where a rewrite failed, at its restart or at its commit
record IsFailed {D : Type 0} (old new : PlainPair D) (snapshot : List ℕ) : Type 0 where
  pub side : new.side ≡ old.side
  pub active : new.active ≡ old.active
  pub limit : new.standby.limit ≡ old.standby.limit
  pub doubt : new.doubt ≡ Nothing → ⊥
  pub undecided : (new.doubt ≡ Restart → ⊥) → after_doubt new ≡ snapshot ∷ []

-- as the pair's rewrite tells it
abbrev pub FailsSo : {D : Type 0} → PlainPair D → PlainPair D → List ℕ → Type 0
FailsSo old new snapshot =
    (new
    ≡ record old {
      standby = record old.standby {
        disk = new.standby.disk;
        payloads = new.standby.payloads;
        end = 0;
        spare = new.standby.spare;
        standing = InDoubt snapshot;
      };
      doubt = Rewrite;
      past = old.past ++ both_disks old ∷ [];
    })
    ⊎ (new
    ≡ record old {
      standby = record old.standby { disk = new.standby.disk; payloads = []; end = 0; spare = new.standby.spare; standing = Lost };
      doubt = Restart;
      past = old.past ++ both_disks old ∷ [];
    })

failed : {D : Type 0} (old new : PlainPair D) (snapshot : List ℕ) → FailsSo old new snapshot → IsFailed old new snapshot
failed {D = D} old new snapshot (inl stays) = record {
  side = ap (λ (p : PlainPair D). p.side) stays;
  active = ap (λ (p : PlainPair D). p.active) stays;
  limit = ap (λ (p : PlainPair D). p.standby.limit) stays;
  doubt = λ none. let e = sym (ap (λ (p : PlainPair D). p.doubt) stays) ∙ none in cc;
  undecided = λ not_restart.
      ap (λ (p : PlainPair D). after_of p.doubt p.active.payloads p.active.standing p.standby.standing) stays;
}
failed {D = D} old new snapshot (inr stays) = record {
  side = ap (λ (p : PlainPair D). p.side) stays;
  active = ap (λ (p : PlainPair D). p.active) stays;
  limit = ap (λ (p : PlainPair D). p.standby.limit) stays;
  doubt = λ none. let e = sym (ap (λ (p : PlainPair D). p.doubt) stays) ∙ none in cc;
  undecided = λ not_restart. absurd (not_restart (ap (λ (p : PlainPair D). p.doubt) stays));
}

second_back : {A : Type 0} (side : Side) (a b : A) → second_of side (first_of side a b) (second_of side a b) ≡ b
second_back First a b = refl
second_back Second a b = refl

pub rewrite_failed : {D : Type 0} (state : D → DiskState) (old mid new : PlainPair D) (snapshot : List ℕ) → HasMoreRoom old mid → FailsSo mid new snapshot
    → EachMoment state mid new (IsEither mid.active.payloads (snapshot ∷ [])) → HasEither state new
    → (state (second_of mid.side (first_disk new) (second_disk new))).tells ≡ (state mid.standby.disk).tells
    → (state (second_of mid.side (first_disk new) (second_disk new))).arms ≡ (state mid.standby.disk).arms
    → (state mid.standby.disk).faults ≤ (state (second_of mid.side (first_disk new) (second_disk new))).faults
    → Rose (state mid.standby.disk).faults (state (second_of mid.side (first_disk new) (second_disk new))).faults
    → Makes state old new (snapshot ∷ []) (Err Fault)
rewrite_failed {D = D} state old mid new snapshot room fails moment images tells arms later rose =
    standby_failed state old new (snapshot ∷ [])
    (f.side ∙ ap (λ (p : PlainPair D). p.side) room)
    (ap (λ (l : PlainLog D). l.disk) f.active ∙ ap (λ (p : PlainPair D). p.active.disk) room)
    (ap (λ (l : PlainLog D). l.payloads) f.active ∙ ap (λ (p : PlainPair D). p.active.payloads) room)
    (ap (λ (l : PlainLog D). l.limit) f.active ∙ ap (λ (p : PlainPair D). p.active.limit) room)
    (f.limit ∙ ap (λ (p : PlainPair D). p.standby.limit) room)
    f.doubt f.undecided
    (subst (λ (p : PlainPair D). EachMoment state p new (IsEither p.active.payloads (snapshot ∷ []))) room moment) images
    (was (λ d e. (state e).tells ≡ (state d).tells) tells)
    (was (λ d e. (state e).arms ≡ (state d).arms) arms)
    (was (λ d e. (state d).faults ≤ (state e).faults) later)
    (was (λ d e. Rose (state d).faults (state e).faults) rose)
  where
    f : IsFailed mid new snapshot
    f = failed mid new snapshot fails

    there : second_of mid.side (first_disk new) (second_disk new) ≡ new.standby.disk
    there = subst (λ s. second_of s (first_disk new) (second_disk new) ≡ new.standby.disk) f.side (second_back new.side new.active.disk new.standby.disk)

    was : (R : D → D → Type 0) → R mid.standby.disk (second_of mid.side (first_disk new) (second_disk new)) → R old.standby.disk new.standby.disk
    was R r = subst (λ d. R d new.standby.disk) (ap (λ (p : PlainPair D). p.standby.disk) room) (subst (R mid.standby.disk) there r)
