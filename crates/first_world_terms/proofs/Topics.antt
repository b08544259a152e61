-- Among messages with consecutive offsets an offset tells the message, and so its topic.
use Rattle.std.proofs.Common.{◌≡◌, ℕ, suc, ◌<◌, Bool, true, false, cond, ◌&&◌, ◌==◌, nat_lt, nat_le, List, [], ◌∷◌, ◌++◌, map, refl, arith, filter}
use Rattle.std.specs.List.{list_any, AllByRecursion}
use Rattle.std.proofs.lemmas.List.{map-append}
use Rattle.std.proofs.lemmas.List.Elements.{filter-append}
use Rattle.std.proofs.lemmas.Bool.Decides.{nat_tests}
use Rattle.first_topic_name.specs.StoredMessage.{StoredMessage}
use Rattle.first_world_terms.proofs.Offsets.{Numbered, passing_below, passing_below-rest}

-- one of the messages has this offset and passes
abbrev pub passes_at : (StoredMessage → Bool) → List StoredMessage → ℕ → Bool
passes_at same ms offset = list_any (λ (m : StoredMessage). (m.offset == offset) && same m) ms

-- no message from an offset on has a lower one
passes_at-none : (same : StoredMessage → Bool) (offset n : ℕ) (ms : List StoredMessage) → Numbered n ms → offset < n → passes_at same ms offset ≡ false
passes_at-none same offset n [] h l = refl
passes_at-none same offset n (m ∷ ms) h l = grind (arith, nat_tests, passes_at-none same offset (suc n) ms h.1 (omega arith))

-- the offset tells whether the message passes
abbrev TellsIn : (StoredMessage → Bool) → List StoredMessage → List StoredMessage → Type 0
TellsIn same all ms = AllByRecursion (λ (m : StoredMessage). passes_at same all m.offset ≡ same m) ms

-- another message in front with a lower offset changes nothing
TellsIn-cons : (same : StoredMessage → Bool) (m : StoredMessage) (n : ℕ) (all ms : List StoredMessage) → m.offset < n → Numbered n ms → TellsIn same all ms
    → TellsIn same (m ∷ all) ms
TellsIn-cons same m n all [] l h t = tt
TellsIn-cons same m n all (w ∷ ms) l h t =
    (grind (arith, nat_tests, t.0), TellsIn-cons same m (suc n) all ms (omega arith) h.1 t.1)

-- the offset of each message tells whether it passes
TellsIn-all : (same : StoredMessage → Bool) (n : ℕ) (ms : List StoredMessage) → Numbered n ms → TellsIn same ms ms
TellsIn-all same n [] h = tt
TellsIn-all same n (m ∷ ms) h =
    (grind (arith, nat_tests, passes_at-none same m.offset (suc n) ms h.1), TellsIn-cons same m (suc n) ms ms (omega arith) h.1 (TellsIn-all same (suc n) ms h.1))

-- so it does for those that a filter keeps
TellsIn-filter : (same test : StoredMessage → Bool) (all ms : List StoredMessage) → TellsIn same all ms → TellsIn same all (filter test ms)
TellsIn-filter same test all [] t = tt
TellsIn-filter same test all (m ∷ ms) t =
    elim (test m) as (λ b. TellsIn same all (cond b (m ∷ filter test ms) (filter test ms)))
    [ true ↦ (t.0, TellsIn-filter same test all ms t.1) | false ↦ TellsIn-filter same test all ms t.1 ]

-- the offsets of which a message passes are the offsets of the messages that pass
offsets_passing : (same : StoredMessage → Bool) (all ms : List StoredMessage) → TellsIn same all ms
    → filter (passes_at same all) (map (λ (m : StoredMessage). m.offset) ms) ≡ map (λ (m : StoredMessage). m.offset) (filter same ms)
offsets_passing same all [] t = refl
offsets_passing same all (m ∷ ms) t = grind (arith, t.0, offsets_passing same all ms t.1)

-- the offsets of some messages
abbrev pub offsets : List StoredMessage → List ℕ
offsets ms = map (λ (m : StoredMessage). m.offset) ms

-- the offsets below one, of the messages that pass a first test, of which the messages pass a second one, begin those of
-- all messages that pass both
pub offsets_begin : (test same : StoredMessage → Bool) (high : ℕ) (ms : List StoredMessage) → Numbered 0 ms
    → (rest : List ℕ) × (filter (passes_at same ms) (offsets (passing_below test high ms)) ++ rest ≡ offsets (filter same (filter test ms)))
offsets_begin test same high ms h =
    let above : List StoredMessage = filter (λ m. test m && nat_le high m.offset) ms in
    let e : filter (passes_at same ms) (offsets (passing_below test high ms)) ≡ offsets (filter same (passing_below test high ms)) =
    offsets_passing same ms (passing_below test high ms) (TellsIn-filter same (λ m. test m && nat_lt m.offset high) ms ms (TellsIn-all same 0 ms h)) in
    let all : passing_below test high ms ++ above ≡ filter test ms = passing_below-rest test high 0 ms h in
    (offsets (filter same above), rw (e, ← all, filter-append same (passing_below test high ms) above, map-append (λ (m : StoredMessage). m.offset) (filter same (passing_below test high ms)) (filter same above)))
