use Rattle.std.proofs.Common.{◌≡◌, ℕ, ◌+◌, ◌-◌, ◌≤◌, ◌<◌, ◌&&◌, nat_le, nat_lt, sym, ap, ◌∙◌, arith}
use Rattle.std.proofs.lemmas.Bool.Decides.{nat_tests}
use Rattle.seq_tracks.specs.ListLaws.{has-from}
use Rattle.session_state.proofs.sound.is_in.Goals as goal

behind : (first count n : ℕ) → first ≤ n → nat_lt (n - first) count ≡ (nat_le first n && nat_lt n (first + count))
behind first count n h = grind (arith, nat_tests)

before : (first count n : ℕ) → n < first → nat_le first n ≡ (nat_le first n && nat_lt n (first + count))
before first count n h = grind (arith, nat_tests)

pub returns-then-first-number : goal.returns-then-first-number
returns-then-first-number c =
    ap (nat_lt (c.args.number - c.args.first)) c.from.ensures
    ∙ behind c.args.first c.args.count c.args.number c.if-first-number.true ∙ sym (has-from c.args.first c.args.count c.args.number)

pub returns-else-first-number : goal.returns-else-first-number
returns-else-first-number c = before c.args.first c.args.count c.args.number c.if-first-number.false ∙ sym (has-from c.args.first c.args.count c.args.number)
