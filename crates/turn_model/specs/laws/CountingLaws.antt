-- A sweep goes on to count what was issued as the list grows, and as other subscriptions or shards are served.
use Rattle.std.proofs.Common.{◌≡◌, ◌⊎◌, inl, inr, ℕ, ◌+◌, ◌<◌, ◌≤◌, Bool, true, false, ◌&&◌, ◌||◌, eqb, List, [], ◌∷◌}
use Rattle.std.proofs.Common.{refl, sym, ap, ◌∙◌}
use Rattle.std.specs.List.{list_any}
use Rattle.std.proofs.lemmas.Bool.{cases_lt, cases_eq, and_left, and_right, ne_eqb, or_from}
use Rattle.std.proofs.lemmas.List.Folds.{list_any-append}
use Rattle.topic_model.specs.Profile.{Profile}
use Rattle.topic_model.specs.StoredMessage.{StoredMessage}
use Rattle.shard_model.specs.declared.sweep.Sweep.{Sweep}
use Rattle.shard_model.specs.ShardList.{ShardList, next_of}
use Rattle.shard_model.specs.Growing.{HasGrown}
use Rattle.shard_model.specs.Lists.{IsList}
use Rattle.shard_model.specs.Wanted.{is_wanted}
use Rattle.shard_model.specs.SweepOrder.{Run, is_issued_by, is_in_order}
use Rattle.topic_model.specs.Places.{HasPlace}
use Rattle.shard_model.specs.laws.PlaceLaws.{kept_place, place_kept}
use Rattle.shard_model.specs.laws.GrownSweepLaws.{was_in, counts_stay, none_of_new}
use Rattle.turn_model.specs.Delivery.{Reader, kind_for}
use Rattle.turn_model.specs.Batch.{entries_from, count1, count2, next1_of, next2_of}
use Rattle.turn_model.specs.MayIssue.{Issuing, reader_of, is_issue_of, was_issued}
use Rattle.turn_model.specs.Counting.{CountsIssued, taken_of, batch_of, issued_to, seen_by}

pub counts_as_grown : (profile : Profile) (i : Issuing) (later : ShardList) (sweep : Sweep) → IsList i.list →
    IsList later → HasGrown i.list later → is_in_order profile i.list i.start sweep ≡ true →
    ((offset : ℕ) → next_of i.list ≤ offset → was_issued i offset ≡ false) → CountsIssued profile i sweep →
    CountsIssued profile (seen_by i later) sweep
counts_as_grown profile i later sweep is is_later grown order none counts w has =
    by (cases_lt w.offset (next_of i.list))
  where
    kept : HasPlace later.messages w × (is_wanted i.subscription.filter i.start w ≡ true)
    kept = kept_place (is_wanted i.subscription.filter i.start) later.messages has.0 w has.1

    by : (w.offset < next_of i.list) ⊎ (next_of i.list ≤ w.offset) →
        was_issued i w.offset ≡ is_issued_by profile later sweep w.offset
    by (inl before) =
        let there = was_in profile i.list later w is is_later grown kept.0 before in
        counts w (place_kept (is_wanted i.subscription.filter i.start) i.list.messages there.0 w there.1 kept.1)
        ∙ sym (counts_stay profile i.list later i.start sweep w is is_later grown order kept.0 before)
    by (inr new) = none w.offset new ∙ sym
        (none_of_new profile i.list later i.start sweep w is is_later grown order kept.0 new)

-- the entries of one subscription and shard are no issues of another
not_this : (subscription shard other_subscription other_shard : ℕ) (same : Bool) →
    (subscription ≡ other_subscription → shard ≡ other_shard → ⊥) →
    (eqb subscription other_subscription && (eqb shard other_shard && same)) ≡ false
not_this subscription shard other_subscription other_shard same apart =
    by (cases_eq subscription other_subscription) (cases_eq shard other_shard)
  where
    by : (subscription ≡ other_subscription) ⊎ (subscription ≡ other_subscription → ⊥) → (shard ≡ other_shard)
        ⊎ (shard ≡ other_shard → ⊥) → (eqb subscription other_subscription && (eqb shard other_shard && same)) ≡ false
    by (inl one) (inl two) = absurd (apart one two)
    by (inl one) (inr two) = and_right (eqb subscription other_subscription) (eqb shard other_shard && same)
        (and_left (eqb shard other_shard) same (ne_eqb shard other_shard two))
    by (inr one) two = and_left (eqb subscription other_subscription) (eqb shard other_shard && same)
        (ne_eqb subscription other_subscription one)

entries_of_others : (now : ℕ) (r : Reader) (next1 next2 subscription shard offset : ℕ) (ws : List StoredMessage) →
    (r.subscription ≡ subscription → r.shard ≡ shard → ⊥) →
    list_any (is_issue_of subscription shard offset) (entries_from now r next1 next2 ws) ≡ false
entries_of_others now r next1 next2 subscription shard offset [] apart = refl
entries_of_others now r next1 next2 subscription shard offset (w ∷ ws) apart =
    let kind = kind_for now r w next1 next2 in
    or_from (eqb r.subscription subscription && (eqb r.shard shard && eqb w.offset offset))
    (list_any (is_issue_of subscription shard offset)
    (entries_from now r (next1 + count1 kind) (next2 + count2 kind) ws))
    (not_this r.subscription r.shard subscription shard (eqb w.offset offset) apart)
    (entries_of_others now r (next1 + count1 kind) (next2 + count2 kind) subscription shard offset ws apart)

pub counts_as_others : (profile : Profile) (i other : Issuing) (run : Run) (sweep : Sweep) →
    (i.subscription.number ≡ other.subscription.number → i.shard ≡ other.shard → ⊥) → CountsIssued profile other sweep →
    CountsIssued profile (issued_to other (batch_of profile i run)) sweep
counts_as_others profile i other run sweep apart counts w has =
    list_any-append (is_issue_of other.subscription.number other.shard w.offset) other.session.issued
    (batch_of profile i run).entries
    ∙ ap (λ b. was_issued other w.offset || b)
    (entries_of_others i.now (reader_of i) (next1_of i.session)
    (next2_of i.session) other.subscription.number other.shard w.offset (taken_of profile i run) apart)
    ∙ by (was_issued other w.offset)
    ∙ counts w has
  where
    by : (b : Bool) → (b || false) ≡ b
    by true = refl
    by false = refl
