-- A write puts the next bytes of the piece behind those that are put.
use Rattle.std.proofs.Common.{ℕ, ◌+◌, ◌-◌, ◌<◌, ◌≤◌, List, ◌++◌, length, take, drop, arith, sym, ap, ◌∙◌, subst, length-drop, Option}
use Rattle.std.proofs.Math.Seq.{take-add}
use Rattle.std.proofs.lemmas.List.{take_rest}
use Rattle.outside.specs.Sink.{Puts, puts_then}
use Rattle.outside.proofs.adapters.write_whole.Goals as goal

-- a write puts more of the piece behind the front that is put
puts_more : (before mid now : Option (List ℕ)) (piece : List ℕ) (done n : ℕ) → Puts before mid (take done piece)
    → Puts mid now (take n (take (length piece - done) (drop done piece))) → Puts before now (take (done + n) piece)
puts_more before mid now piece done n first second =
    subst (Puts before now) (ap (λ l. take done piece ++ take n l) (take_rest piece done) ∙ sym (take-add done n piece)) (puts_then before mid now _ _ first second)

-- what a write took is within the piece
within : (piece : List ℕ) (done n : ℕ) → done ≤ length piece → n ≤ length (take (length piece - done) (drop done piece)) → done + n ≤ length piece
within piece done n at_most room = omega (arith, ap length (take_rest piece done), length-drop done piece)

-- a round writes one byte at least
progress : (round done n : ℕ) → round ≤ done → 0 < n → round + 1 ≤ done + n
progress round done n at_least some = omega arith

pub loop-round-preserved : goal.loop-round-preserved
loop-round-preserved g c =
    let (at_least, at_most, front) = c.loop-round.invariant in
    let wrote = c.in_ok-done.ensures in (
      progress _ _ _ at_least wrote.some,
      within c.args.piece.now _ _ at_most wrote.room,
      puts_more _ _ _ c.args.piece.now _ _ front wrote.ok,
    )
