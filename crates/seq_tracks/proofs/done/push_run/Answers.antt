use Rattle.std.proofs.Common.{◌≡◌, ℕ, ◌+◌, ◌-◌, List, [], ◌∷◌, ◌++◌, length, ap, ◌∙◌, append_assoc, arith}
use Rattle.std.proofs.lemmas.List.{length-append}
use Rattle.session_model.specs.Acting.{numbers_from}
use Rattle.seq_tracks.specs.ListLaws.{length-from, from-push}
use Rattle.seq_tracks.proofs.done.push_run.Goals as goal

pub push_reserved-requires : goal.push_reserved-requires
push_reserved-requires c =
    let old = c.args.done.now.items in
    let start = c.args.number + 1 in
    let count = c.loop-before.before - c.args.number in
    let long : length c.loop-before.done.items ≡ length old + count =
    ap length c.loop-before.invariant.0 ∙ length-append old (numbers_from start count) ∙ ap (λ (n : ℕ). length old + n) (length-from start count) in
    let same = c.loop-before.invariant.1 in
    omega (arith, c.requires.room)

pub loop-before-preserved : goal.loop-before-preserved
loop-before-preserved c =
    let old = c.args.done.now.items in
    let start = c.args.number + 1 in
    let count = c.loop-before.before - c.args.number in
    let next : c.loop-before.before + 1 ≡ start + count = omega arith in
    let more : count + 1 ≡ c.loop-before.before + 1 - c.args.number = omega arith in (
      c.push_reserved.ensures.items
          ∙ ap (λ (l : List ℕ). l ++ (c.loop-before.before + 1) ∷ []) c.loop-before.invariant.0
          ∙ append_assoc old (numbers_from start count) ((c.loop-before.before + 1) ∷ [])
          ∙ ap (λ (l : List ℕ). old ++ l) (from-push start count (c.loop-before.before + 1) next)
          ∙ ap (λ (n : ℕ). old ++ numbers_from start n) more,
      c.push_reserved.ensures.capacity ∙ c.loop-before.invariant.1,
    )
