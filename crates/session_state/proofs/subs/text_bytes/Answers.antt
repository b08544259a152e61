use Rattle.std.proofs.Common.{◌≡◌, ◌<◌, ◌+◌, length, take, get_or, ap, sym, ◌∙◌, arith, ℕ, List}
use Rattle.std.proofs.lemmas.List.Sums.{sum_by_more, sum_by-take-le}
use Rattle.topic_model.specs.Levels.{text_of_levels}
use Rattle.session_state.specs.KeptSub.{KeptSub}
use Rattle.session_state.specs.KeptFits.{text_bytes}
use Rattle.session_state.proofs.subs.text_bytes.Goals as goal

-- one more text
more_bytes : (subs : List KeptSub) (i bytes : ℕ) (s : KeptSub) (levels : List (List ℕ)) (text : List ℕ) → i < length subs → bytes ≡ text_bytes (take i subs) →
    s ≡ get_or subs i s → levels ≡ s.filter → text ≡ text_of_levels levels → bytes + length text ≡ text_bytes (take (i + 1) subs)
more_bytes subs i bytes s levels text within so_far item filter is =
    ap (λ n. n + length text) so_far
    ∙ ap (λ t. text_bytes (take i subs) + length t) (is ∙ ap text_of_levels filter ∙ ap (λ (x : KeptSub). text_of_levels x.filter) item)
    ∙ sym (sum_by_more (λ (x : KeptSub). length (text_of_levels x.filter)) subs i s within)

pub overflow_add-bytes : goal.overflow_add-bytes
overflow_add-bytes c =
    let more =
    more_bytes c.args.subs.now c.loop-sub.sub-index c.loop-sub.bytes c.sub-item.result c.sub.inside.filter c.text.result.now c.loop-sub-test.true c.loop-sub.invariant
    c.sub-item.is (ap (λ (s : KeptSub). s.filter) c.sub.view_is) c.text.ensures.text in
    let all = sum_by-take-le (λ (x : KeptSub). length (text_of_levels x.filter)) c.args.subs.now (c.loop-sub.sub-index + 1) in
    let few = c.requires in
    omega arith

pub loop-sub-preserved : goal.loop-sub-preserved
loop-sub-preserved c =
    more_bytes c.args.subs.now c.loop-sub.sub-index c.loop-sub.bytes c.sub-item.result c.sub.inside.filter c.text.result.now c.loop-sub-test.true c.loop-sub.invariant
    c.sub-item.is (ap (λ (s : KeptSub). s.filter) c.sub.view_is) c.text.ensures.text
