-- How a doubt of a pair ends.
use Rattle.std.proofs.Common.{ℕ, ◌+◌, ◌<◌, ◌≡◌, Result, Ok, List, [], ◌∷◌, ◌++◌, length, arith, refl, sym, ap, subst, ◌∙◌}
use Rattle.std.proofs.lemmas.List.{append-nil}
use Rattle.gated_log.specs.declared.refused.LogRefused.{LogRefused}
use Rattle.gated_log.specs.declared.settled.Settled.{Settled}
use Rattle.gated_log.specs.declared.settled.Settled.TheVariants.{In, Out}
use Rattle.gated_log.specs.PlainLog.{AllHave, AtRest, HasList, InDoubt, Lost, PlainLog, Standing, with_doubted}
use Rattle.outside.specs.DiskModel.{DiskState}
use Rattle.gated_log.specs.Records.{records}
use Rattle.pair_log.specs.declared.doubt.Doubt.TheVariants.{Nothing, Commit}
use Rattle.pair_log.specs.Epochs.{epoch_of}
use Rattle.pair_log.specs.PlainPair.{AllOlder, AllRead, IsEither, IsPair, StandbyHas, PlainPair, StandsSo, Told, after_doubt, counts, head_of}
use Rattle.pair_log.specs.Sides.{first_of, second_of}
use Rattle.pair_log.proofs.PairLemmas.{counts_more, doubt_reads, pair_leaves, pair_reads}

-- what was in doubt is behind the others
doubted_later : (standing : Standing) (payloads : List (List ℕ)) → (later : List (List ℕ)) × (with_doubted standing payloads ≡ payloads ++ later)
doubted_later AtRest payloads = ([], sym (append-nil payloads))
doubted_later Lost payloads = ([], sym (append-nil payloads))
doubted_later (InDoubt payload) payloads = (payload ∷ [], refl)

-- either way
pub settled_later : (settled : Settled) (standing : Standing) (payloads new : List (List ℕ))
    → (Path (Result Settled LogRefused) (Ok settled) (Ok In) → new ≡ with_doubted standing payloads) → (Path (Result Settled LogRefused) (Ok settled) (Ok Out) → new ≡ payloads)
    → (later : List (List ℕ)) × (new ≡ payloads ++ later)
settled_later In standing payloads new after before = let (later, e) = doubted_later standing payloads in (later, after refl ∙ e)
settled_later Out standing payloads new after before = ([], before refl ∙ sym (append-nil payloads))

pub settled_some : (settled : Settled) (before new : ℕ) → (Path (Result Settled LogRefused) (Ok settled) (Ok In) → new ≡ before + 1) → (Path (Result Settled LogRefused) (Ok settled) (Ok Out) → new ≡ before)
    → 0 < before → 0 < new
settled_some In before new after same some = omega (arith, after refl)
settled_some Out before new after same some = omega (arith, same refl, some)

-- record 0 stays
head_stays : (payloads later : List (List ℕ)) → 0 < length payloads → head_of (payloads ++ later) ≡ head_of payloads
head_stays [] later some = absurd (omega (arith, some))
head_stays (payload ∷ payloads) later some = refl

-- a pair whose commit was settled
pub settled_pair : {D : Type 0} (state : D → DiskState) (pair : PlainPair D) (new : PlainLog D) → IsPair state pair → pair.doubt ≡ Commit
    → 0 < length new.payloads → new.standing ≡ AtRest → (state new.disk).tells ≡ (state pair.active.disk).tells
    → (Told state pair → (later : List (List ℕ)) × (new.payloads ≡ pair.active.payloads ++ later))
    → (Told state pair → AllHave new.standing new.payloads (state new.disk).may_leave)
    → IsPair state (record { active = new; standby = pair.standby; side = pair.side; epoch = pair.epoch; doubt = Nothing; past = [] })
settled_pair state pair new log doubt some rests same list has =
    let stands : StandsSo Commit pair.active.standing pair.standby.standing = subst (λ d. StandsSo d pair.active.standing pair.standby.standing) doubt log.stands in
    record {
      some = some;
      stands = (rests, stands.1);
      fresh = tt;
      fits = log.fits;
      told = λ told.
          let before : Told state pair = (sym same ∙ told.0, told.1) in
          let t = log.told before in
          let (later, listed) = list before in
          let others : AllOlder pair.side pair.active.payloads (state pair.standby.disk).may_leave =
          subst (λ d. StandbyHas d pair.side pair.active.payloads pair.standby.standing (state pair.standby.disk).may_leave) doubt t.standby_has in
          record {
            epoch = t.epoch ∙ ap epoch_of (sym (ap head_of listed ∙ head_stays pair.active.payloads later log.some));
            active_has = has before;
            standby_has = λ b left.
                ap (λ l. counts pair.side l (records b)) listed ∙ (counts_more pair.side pair.active.payloads later (records b) log.some ∙ others b left);
          };
    }

-- at any moment of a call that changes the active disk alone, and leaves each image with its list
pub active_moment : {D : Type 0} (state : D → DiskState) (pair : PlainPair D) (new : D)
    → IsPair state pair → Told state pair → ((a : List ℕ) → (state new).left_since (state pair.active.disk).calls a → HasList pair.active.standing pair.active.payloads a)
    → ((b : List ℕ) → (state pair.standby.disk).left_since (state pair.standby.disk).calls b → (state pair.standby.disk).may_leave b)
    → AllRead ((state (first_of pair.side new pair.standby.disk)).left_since (state (first_of pair.side pair.active.disk pair.standby.disk)).calls)
    ((state (second_of pair.side new pair.standby.disk)).left_since (state (second_of pair.side pair.active.disk pair.standby.disk)).calls)
    (IsEither pair.active.payloads (after_doubt pair))
active_moment state pair new log told each now =
    pair_leaves state pair.side pair.active.disk pair.standby.disk new pair.standby.disk (IsEither pair.active.payloads (after_doubt pair))
    (λ a b left_a left_b. doubt_reads pair.doubt pair.side pair.active.payloads pair.active.standing pair.standby.standing (state pair.standby.disk).may_leave a b log.stands log.some
    (each a left_a) (log.told told).standby_has (now b left_b))

-- and after such a call that keeps its list
pub active_now : {D : Type 0} (state : D → DiskState) (pair : PlainPair D) (new : PlainLog D) → IsPair state pair → Told state pair
    → new.standing ≡ pair.active.standing → new.payloads ≡ pair.active.payloads → AllHave new.standing new.payloads (state new.disk).may_leave
    → AllRead (state (first_of pair.side new.disk pair.standby.disk)).may_leave (state (second_of pair.side new.disk pair.standby.disk)).may_leave (IsEither pair.active.payloads (after_doubt pair))
active_now state pair new log told standing list has =
    let has_then : AllHave pair.active.standing pair.active.payloads (state new.disk).may_leave =
    subst (λ s. AllHave s pair.active.payloads (state new.disk).may_leave) standing (subst (λ l. AllHave new.standing l (state new.disk).may_leave) list has) in
    pair_reads state pair.side new.disk pair.standby.disk (IsEither pair.active.payloads (after_doubt pair))
    (λ a b left_a left_b. doubt_reads pair.doubt pair.side pair.active.payloads pair.active.standing pair.standby.standing (state pair.standby.disk).may_leave a b log.stands log.some
    (has_then a left_a) (log.told told).standby_has left_b)
