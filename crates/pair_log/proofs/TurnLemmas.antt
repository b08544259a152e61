-- How the standby log comes to count.
use Rattle.std.proofs.Common.{ℕ, true, false, not, ◌^◌, ◌<◌, ◌≤◌, ◌≡◌, ◌==◌, ◌&&◌, ◌||◌, nat_lt, if◌then◌else◌, List, [], ◌∷◌, length, take, arith, refl, sym, ap, subst, ◌∙◌}
use Rattle.std.proofs.lemmas.Bool.Decides.{nat_tests}
use Rattle.std.proofs.lemmas.List.{length-take}
use Rattle.std.proofs.lemmas.Nat.{from_be_bytes-to_be_bytes_8}
use Rattle.std.specs.Int.{w64, from_be_bytes, to_be_bytes}
use Rattle.gated_log.specs.PlainLog.{AllHave, AtRest, HasList, PlainLog, is_in_doubt, with_doubted}
use Rattle.outside.specs.DiskModel.{DiskState}
use Rattle.gated_log.specs.Records.{records}
use Rattle.pair_log.specs.declared.side.Side.{Side}
use Rattle.pair_log.specs.declared.side.Side.TheVariants.{First, Second}
use Rattle.pair_log.specs.declared.doubt.Doubt.TheVariants.{Nothing, Rewrite}
use Rattle.pair_log.specs.Epochs.{epoch_of, is_later, next_epoch}
use Rattle.pair_log.specs.PlainPair.{AllRead, IsEither, IsFresh, IsPair, StandbyHas, PlainPair, StandsSo, Told, after_doubt, after_of, counts, head_of}
use Rattle.pair_log.specs.Sides.{first_of, other_side, second_of}
use Rattle.pair_log.proofs.PairLemmas.{newer_reads, read_as, pair_leaves, pair_leaves_turned}

pub nothing_there : (payloads : List (List ℕ)) → length payloads ≡ 0 → payloads ≡ []
nothing_there [] e = refl
nothing_there (payload ∷ payloads) e = absurd (omega (arith, e))

pub next_fits : (epoch : ℕ) → next_epoch epoch < 2 ^ 64
next_fits epoch = omega arith

-- a log that is being rewritten has no record yet
pub fresh_none : {D : Type 0} (state : D → DiskState) (pair : PlainPair D) → IsPair state pair → pair.doubt ≡ Rewrite → pair.standby.payloads ≡ []
fresh_none state pair log doubt = nothing_there pair.standby.payloads (subst (λ d. IsFresh d pair.standby.payloads) doubt log.fresh)

-- the standby log counts
pub turned : {D : Type 0} (state : D → DiskState) (pair : PlainPair D) (new : PlainLog D) → IsPair state pair → pair.active.standing ≡ AtRest
    → 0 < length new.payloads → new.standing ≡ AtRest → (state new.disk).tells ≡ (state pair.standby.disk).tells → (Told state pair → AllHave new.standing new.payloads (state new.disk).may_leave)
    → (Told state pair → counts (other_side pair.side) new.payloads pair.active.payloads ≡ true) → (Told state pair → next_epoch pair.epoch ≡ epoch_of (head_of new.payloads))
    → IsPair state (record { active = new; standby = pair.active; side = other_side pair.side; epoch = next_epoch pair.epoch; doubt = Nothing; past = [] })
turned state pair new log stood some rests same has later epoch = record {
  some = some;
  stands = (rests, ap is_in_doubt stood);
  fresh = tt;
  fits = next_fits pair.epoch;
  told = λ told.
      let before : Told state pair = (told.1, sym same ∙ told.0) in
      let t = log.told before in
      let active_has : AllHave AtRest pair.active.payloads (state pair.active.disk).may_leave =
      subst (λ s. AllHave s pair.active.payloads (state pair.active.disk).may_leave) stood t.active_has in
      record {
        epoch = epoch before;
        active_has = has before;
        standby_has = λ a left. ap (counts (other_side pair.side) new.payloads) (active_has a left) ∙ later before;
      };
}

pub turned_pair : {D : Type 0} (state : D → DiskState) (pair : PlainPair D) (new : PlainLog D) → IsPair state pair → pair.doubt ≡ Rewrite
    → 0 < length new.payloads → new.standing ≡ AtRest → (state new.disk).tells ≡ (state pair.standby.disk).tells
    → (Told state pair → new.payloads ≡ with_doubted pair.standby.standing pair.standby.payloads) → (Told state pair → AllHave new.standing new.payloads (state new.disk).may_leave)
    → IsPair state (record { active = new; standby = pair.active; side = other_side pair.side; epoch = next_epoch pair.epoch; doubt = Nothing; past = [] })
turned_pair state pair new log doubt some rests same list has =
    let stands : StandsSo Rewrite pair.active.standing pair.standby.standing = subst (λ d. StandsSo d pair.active.standing pair.standby.standing) doubt log.stands in
    let listed : Told state pair → new.payloads ≡ with_doubted pair.standby.standing [] =
    λ told. list told ∙ ap (with_doubted pair.standby.standing) (fresh_none state pair log doubt) in
    let others : Told state pair → StandbyHas Rewrite pair.side pair.active.payloads pair.standby.standing (state pair.standby.disk).may_leave =
    λ told. subst (λ d. StandbyHas d pair.side pair.active.payloads pair.standby.standing (state pair.standby.disk).may_leave) doubt (log.told told).standby_has in
    turned state pair new log stands.0 some rests same has
    (λ told. let (has_others, later, alone, epoch) = others told in ap (λ l. counts (other_side pair.side) l pair.active.payloads) (listed told) ∙ later)
    (λ told.
    let (has_others, later, alone, epoch) = others told in
    ap next_epoch (log.told told).epoch ∙ (sym epoch ∙ ap (λ l. epoch_of (head_of l)) (sym (listed told))))

-- one image of each while the rewrite is in doubt
rewrite_reads : {D : Type 0} (state : D → DiskState) (pair : PlainPair D) (a b : List ℕ) → IsPair state pair → Told state pair → pair.doubt ≡ Rewrite
    → (state pair.active.disk).may_leave a → HasList pair.standby.standing pair.standby.payloads b
    → IsEither pair.active.payloads (after_doubt pair) (read_as pair.side (records a) (records b))
rewrite_reads state pair a b log told doubt left has =
    let stands : StandsSo Rewrite pair.active.standing pair.standby.standing = subst (λ d. StandsSo d pair.active.standing pair.standby.standing) doubt log.stands in
    let t = log.told told in
    let (others, later, alone, epoch) : StandbyHas Rewrite pair.side pair.active.payloads pair.standby.standing (state pair.standby.disk).may_leave =
    subst (λ d. StandbyHas d pair.side pair.active.payloads pair.standby.standing (state pair.standby.disk).may_leave) doubt t.standby_has in
    let active_has : AllHave AtRest pair.active.payloads (state pair.active.disk).may_leave =
    subst (λ s. AllHave s pair.active.payloads (state pair.active.disk).may_leave) stands.0 t.active_has in
    subst (λ d. IsEither pair.active.payloads (after_of d pair.active.payloads pair.active.standing pair.standby.standing) (read_as pair.side (records a) (records b))) (sym doubt)
    (newer_reads pair.standby.standing pair.side pair.active.payloads a b (active_has a left)
    (subst (λ l. HasList pair.standby.standing l b) (fresh_none state pair log doubt) has) stands.1 later alone)

pub rewrite_moment : {D : Type 0} (state : D → DiskState) (pair : PlainPair D) (new : D)
    → IsPair state pair → Told state pair → pair.doubt ≡ Rewrite → ((b : List ℕ) → (state new).left_since (state pair.standby.disk).calls b → HasList pair.standby.standing pair.standby.payloads b)
    → ((a : List ℕ) → (state pair.active.disk).left_since (state pair.active.disk).calls a → (state pair.active.disk).may_leave a)
    → AllRead ((state (first_of pair.side pair.active.disk new)).left_since (state (first_of pair.side pair.active.disk pair.standby.disk)).calls)
    ((state (second_of pair.side pair.active.disk new)).left_since (state (second_of pair.side pair.active.disk pair.standby.disk)).calls)
    (IsEither pair.active.payloads (after_doubt pair))
rewrite_moment state pair new log told doubt each now =
    pair_leaves state pair.side pair.active.disk pair.standby.disk pair.active.disk new (IsEither pair.active.payloads (after_doubt pair))
    (λ a b left_a left_b. rewrite_reads state pair a b log told doubt (now a left_a) (each b left_b))

pub rewrite_moment_turned : {D : Type 0} (state : D → DiskState) (pair : PlainPair D) (new : D)
    → IsPair state pair → Told state pair → pair.doubt ≡ Rewrite → ((b : List ℕ) → (state new).left_since (state pair.standby.disk).calls b → HasList pair.standby.standing pair.standby.payloads b)
    → ((a : List ℕ) → (state pair.active.disk).left_since (state pair.active.disk).calls a → (state pair.active.disk).may_leave a)
    → AllRead ((state (first_of (other_side pair.side) new pair.active.disk)).left_since (state (first_of pair.side pair.active.disk pair.standby.disk)).calls)
    ((state (second_of (other_side pair.side) new pair.active.disk)).left_since (state (second_of pair.side pair.active.disk pair.standby.disk)).calls)
    (IsEither pair.active.payloads (after_doubt pair))
rewrite_moment_turned state pair new log told doubt each now =
    pair_leaves_turned state pair.side pair.active.disk pair.standby.disk pair.active.disk new (IsEither pair.active.payloads (after_doubt pair))
    (λ a b left_a left_b. rewrite_reads state pair a b log told doubt (now a left_a) (each b left_b))

-- the epoch that a snapshot begins with
pub epoch_spelled : (snapshot : List ℕ) (epoch : ℕ) → take 8 snapshot ≡ to_be_bytes w64 epoch → epoch < 2 ^ 64 → epoch_of snapshot ≡ epoch
epoch_spelled snapshot epoch e fits =
    let eight : length (take 8 snapshot) ≡ 8 = ap length e in
    let long : 8 ≤ length snapshot = omega (arith, eight, length-take 8 snapshot) in
    let test : nat_lt (length snapshot) 8 ≡ false = grind (arith, nat_tests) in
    ap (λ t. if t then 0 else from_be_bytes w64 (take 8 snapshot)) test ∙ (ap (from_be_bytes w64) e ∙ from_be_bytes-to_be_bytes_8 epoch fits)

-- the next epoch is later, and the one before it isn't
later_next : (epoch next : ℕ) → next ≡ next_epoch epoch → is_later epoch next ≡ true
later_next epoch next e = let test : (next == next_epoch epoch) ≡ true = grind (arith, nat_tests) in ap (λ t. t || (not (epoch == next_epoch next) && nat_lt epoch next)) test

earlier_next : (epoch next : ℕ) → next ≡ next_epoch epoch → epoch < 2 ^ 64 → is_later next epoch ≡ false
earlier_next epoch next e fits =
    let behind : epoch ≡ next_epoch next → ⊥ = λ f. omega (arith, e, f, fits) in
    let first : (epoch == next_epoch next) ≡ false = not_equal epoch (next_epoch next) behind in
    let second : (next == next_epoch epoch) ≡ true = grind (arith, nat_tests) in
    ap (λ t. t || (not (next == next_epoch epoch) && nat_lt next epoch)) first ∙ ap (λ t. not t && nat_lt next epoch) second
  where
    not_equal : (a b : ℕ) → (a ≡ b → ⊥) → (a == b) ≡ false
    not_equal a b h = grind (arith, nat_tests)

-- the next one is later, on either side
pub next_counts : (side : Side) (snapshot : List ℕ) (payloads : List (List ℕ)) → epoch_of snapshot ≡ next_epoch (epoch_of (head_of payloads)) → epoch_of (head_of payloads) < 2 ^ 64
    → 0 < length payloads → counts (other_side side) (snapshot ∷ []) payloads ≡ true
next_counts side snapshot [] e fits some = absurd (omega (arith, some))
next_counts First snapshot (payload ∷ payloads) e fits some = later_next (epoch_of payload) (epoch_of snapshot) e
next_counts Second snapshot (payload ∷ payloads) e fits some = ap not (earlier_next (epoch_of payload) (epoch_of snapshot) e fits)
