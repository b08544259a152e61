-- A text that begins plainly is that of the number which it is read as.
use Rattle.std.proofs.Common.{◌≡◌, ◌≤◌, ℕ, Some, Ok, sym, ap, subst, ◌∙◌, arith}
use Rattle.std.proofs.lemmas.Option.{IfSome_then}
use Rattle.std.specs.Fmt.{decimal}
use Rattle.std.proofs.lemmas.Fmt.{parse-decimal}
use Rattle.log_bench.proofs.NumberLemmas.{BeginsPlainly, begins_plainly, is_text_of}
use Rattle.log_bench.proofs.words.number_of.Goals as goal

pub returns-then-not-begins_plainly-clause-every :
    goal.returns-then-not-begins_plainly-clause-every
returns-then-not-begins_plainly-clause-every c = λ n low high e.
    let plain = begins_plainly n c.as_bytes.result.now (omega arith) (c.as_bytes.ensures.value ∙ e) in
    let yes = c.begins_plainly.ensures.1 plain in
    let other = rw c.if-not-begins_plainly.true at yes in
    cc

pub returns-in-Ok-clause-written : goal.returns-in-Ok-clause-written
returns-in-Ok-clause-written c =
    let plain = subst BeginsPlainly c.as_bytes.ensures.value (c.begins_plainly.ensures.0 c.if-not-begins_plainly.false) in
    let written = is_text_of c.args.word.now c.parse.result c.in-Ok.number c.parse.ensures.value.0 plain c.in-Ok.is in
    IfSome_then c.within.result c.within.ensures.some (λ n same. written ∙ ap decimal (sym same.0))

pub returns-in-Ok-clause-every : goal.returns-in-Ok-clause-every
returns-in-Ok-clause-every c = λ n low high e.
    let read : c.parse.result ≡ Ok n = parse-decimal 64 n c.args.word.now c.parse.result (omega arith) (omega arith) e c.parse.ensures.value.0 in
    let same : c.in-Ok.number ≡ n = cc in
    subst (λ (m : ℕ). c.args.least ≤ m → m ≤ c.args.most → c.within.result ≡ Some m) same c.within.ensures.every low high

pub returns-in-Err-clause-every : goal.returns-in-Err-clause-every
returns-in-Err-clause-every c = λ n low high e.
    let read : c.parse.result ≡ Ok n = parse-decimal 64 n c.args.word.now c.parse.result (omega arith) (omega arith) e c.parse.ensures.value.0 in
    cc
