-- A part of a payload.
use Rattle.std.proofs.Common.{ℕ, zero, suc, ◌+◌, ◌-◌, ◌^◌, ◌≤◌, ◌<◌, ◌≡◌, ◌⊎◌, inl, inr, min, List, [], length, take, drop, get_or, arith, sym, ap, ◌∙◌, drop_of_length-le}
use Rattle.std.proofs.Math.Nat.{min-eq_left, min-eq_right}
use Rattle.std.proofs.lemmas.List.{drop-drop, drop-take, get_or-map, length-map, length-take, take-take, take_all}
use Rattle.gated_log.specs.declared.span.Span.{Span}
use Rattle.gated_log.specs.PlainLog.{payload_at, payloads_at}

order : (a b : ℕ) → (a ≤ b) ⊎ (b ≤ a)
order zero b = inl (omega arith)
order (suc a) zero = inr (omega arith)
order (suc a) (suc b) = one_more (order a b)
  where
    one_more : (a ≤ b) ⊎ (b ≤ a) → (suc a ≤ suc b) ⊎ (suc b ≤ suc a)
    one_more (inl h) = inl (omega (arith, h))
    one_more (inr h) = inr (omega (arith, h))

take_less : (most count : ℕ) (bytes : List ℕ) → take (min most count) bytes ≡ take most (take count bytes)
take_less most count bytes = either_way (order most count)
  where
    either_way : (most ≤ count) ⊎ (count ≤ most) → take (min most count) bytes ≡ take most (take count bytes)
    either_way (inl h) = ap (λ n. take n bytes) (min-eq_left h) ∙ sym (take-take most count bytes h)
    either_way (inr h) = ap (λ n. take n bytes) (min-eq_right h) ∙ sym (take_all most (take count bytes) (omega (arith, h, length-take count bytes)))

pub part_is : (bytes : List ℕ) (at count from most : ℕ) → take (min most (count - min from count)) (drop (at + min from count) bytes) ≡ take most (drop from (take count (drop at bytes)))
part_is bytes at count from most = either_way (order from count)
  where
    either_way : (from ≤ count) ⊎ (count ≤ from) → take (min most (count - min from count)) (drop (at + min from count) bytes) ≡ take most (drop from (take count (drop at bytes)))
    either_way (inl h) =
        let whole : from + (count - from) ≡ count = omega (arith, h) in
        ap (λ s. take (min most (count - s)) (drop (at + s) bytes)) (min-eq_left h)
        ∙ (take_less most (count - from) (drop (at + from) bytes)
        ∙ (ap (λ l. take most (take (count - from) l)) (sym (drop-drop from at bytes))
        ∙ (ap (take most) (sym (drop-take from (count - from) (drop at bytes)))
        ∙ ap (λ n. take most (drop from (take n (drop at bytes)))) whole)))
    either_way (inr h) =
        let none : drop from (take count (drop at bytes)) ≡ [] = drop_of_length-le (take count (drop at bytes)) (omega (arith, h, length-take count (drop at bytes))) in
        let left : min most (count - count) ≡ 0 = omega arith in
        ap (λ s. take (min most (count - s)) (drop (at + s) bytes)) (min-eq_right h)
        ∙ (ap (λ n. take n (drop (at + count) bytes)) left ∙ (sym (take_all most [] (omega arith)) ∙ ap (take most) (sym none)))

-- a payload is no longer than its span says
pub short_payload : (bytes : List ℕ) (spans : List Span) (k : ℕ) (span : Span) → k < length (payloads_at bytes spans) → span ≡ get_or spans k span → span.length ≤ 2 ^ 32 - 1
    → length (get_or (payloads_at bytes spans) k []) ≤ 2 ^ 32 - 1
short_payload bytes spans k span within there short =
    let listed : get_or (payloads_at bytes spans) k [] ≡ payload_at bytes (get_or spans k span) =
    get_or-map (payload_at bytes) spans k span [] (omega (arith, within, length-map spans (payload_at bytes))) in
    omega (arith, ap length (listed ∙ ap (payload_at bytes) (sym there)), length-take span.length (drop span.at bytes), short)
