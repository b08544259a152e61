-- A batch is read again as it was issued.
use Rattle.std.proofs.Common.{◌≡◌, ℕ, suc, ◌+◌, Bool, true, false, ◌||◌, nat_lt, List, [], ◌∷◌, refl, sym, ap, ◌∙◌}
use Rattle.std.proofs.Common.{arith}
use Rattle.std.proofs.lemmas.Bool.{lt-ltb}
use Rattle.topic_model.specs.StoredMessage.{StoredMessage}
use Rattle.topic_model.specs.Places.{HasPlace}
use Rattle.session_model.specs.declared.entry.Kind.{Kind}
use Rattle.mqtt_props.specs.Sizes.{var_size}
use Rattle.turn_model.specs.Delivery.{Reader, has_expired, is_own, is_kept_back, kind_for, silent_if, loud_kind}
use Rattle.turn_model.specs.Delivery.{delivery_length, delivery_body_size}
use Rattle.turn_model.specs.Batch.{entries_from, entry_of, count1, count2}
use Rattle.session_refinement.specs.ReadAgain.{again_from, kind_again, is_silent_again, kept_limit}

-- every packet is longer than 0 bytes
never_empty : (r : Reader) (m : StoredMessage) (kind : Kind) → nat_lt 0 (delivery_length r.version m kind) ≡ true
never_empty r m kind =
    lt-ltb 0 (1 + var_size (delivery_body_size r.version m kind) + delivery_body_size r.version m kind) (omega arith)

kept_back_alike : (now : ℕ) (r : Reader) (expired : Bool) (m : StoredMessage) (kind : Kind) →
    has_expired now m ≡ expired →
    is_kept_back now r m kind ≡ is_silent_again (record r { limit = kept_limit expired r.limit }) m kind
kept_back_alike now r true m kind is =
    ap (λ b. is_own r m || (b || nat_lt r.limit (delivery_length r.version m kind))) is
    ∙ ap (λ b. is_own r m || b) (sym (never_empty r m kind))
kept_back_alike now r false m kind is =
    ap (λ b. is_own r m || (b || nat_lt r.limit (delivery_length r.version m kind))) is

pub kinds_alike : (now : ℕ) (r : Reader) (expired : Bool) (m : StoredMessage) (next1 next2 : ℕ) →
    has_expired now m ≡ expired →
    kind_for now r m next1 next2 ≡ kind_again (record r { limit = kept_limit expired r.limit }) m next1 next2
kinds_alike now r expired m next1 next2 is =
    ap (λ b. silent_if b (loud_kind r.version m next1 next2))
    (kept_back_alike now r expired m (loud_kind r.version m next1 next2) is)

pub entries_alike : (now : ℕ) (r : Reader) (expired : Bool) (next1 next2 : ℕ) (ms : List StoredMessage) →
    ((m : StoredMessage) → HasPlace ms m → has_expired now m ≡ expired) →
    entries_from now r next1 next2 ms ≡ again_from (record r { limit = kept_limit expired r.limit }) next1 next2 ms
entries_alike now r expired next1 next2 [] alike = refl
entries_alike now r expired next1 next2 (m ∷ ms) alike =
    let kind : Kind = kind_again (record r { limit = kept_limit expired r.limit }) m next1 next2 in
    ap (λ k. entry_of r m k ∷ entries_from now r (next1 + count1 k) (next2 + count2 k) ms)
    (kinds_alike now r expired m next1 next2 (alike m (0, refl)))
    ∙ ap (λ es. entry_of r m kind ∷ es)
    (entries_alike now r expired (next1 + count1 kind) (next2 + count2 kind) ms
    (λ n has. alike n (suc has.0, has.1)))
