-- A turn reads one more piece of what was left.
use Rattle.std.proofs.Common.{◌≡◌, ◌++◌, ◌∙◌, vec_len, ◌+◌, take, length-take, subst, sym, arith, rules}
use Rattle.std.specs.Io.KnownBytes.{Consumes}
use Rattle.broker_main.proofs.ReadingLemmas.{appended, reads_more, reads_all, leaves_nothing, was_too_long}
use Rattle.broker_main.proofs.TakesLemmas.{given_more, gives_some_more, ends_at_once, stops_past}
use Rattle.broker_main.proofs.reading.read_script.Goals as goal

pub returns-then-count-eq0-clause-all : goal.returns-then-count-eq0-clause-all
returns-then-count-eq0-clause-all g c =
    reads_all _ _ _ c.turns.invariant.read (c.in_ok-count.ensures.end c.if-count-eq0.true (omega arith))

pub returns-then-count-eq0-clause-end : goal.returns-then-count-eq0-clause-end
returns-then-count-eq0-clause-end g c =
    leaves_nothing _ _ _ _ _ _ c.turns.invariant.read (c.in_ok-count.ensures.end c.if-count-eq0.true (omega arith)) c.in_ok-count.ensures.bytes c.if-count-eq0.true

pub returns-then-count-eq0-clause-once : goal.returns-then-count-eq0-clause-once
returns-then-count-eq0-clause-once g c =
    ends_at_once _ _ _ _ _ c.turns.invariant.given c.turns.invariant.limit c.in_ok-count.ensures.gave c.if-count-eq0.true

pub returns-then-len-count-clause-stopped_once : goal.returns-then-len-count-clause-stopped_once
returns-then-len-count-clause-stopped_once g c =
    stops_past _ _ _ _ _ c.turns.invariant.given c.turns.invariant.limit c.in_ok-count.ensures.gave (omega arith)

pub returns-then-len-count-clause-stopped : goal.returns-then-len-count-clause-stopped
returns-then-len-count-clause-stopped g c = (
  was_too_long _ _ _ _ _ _ c.turns.invariant.read c.in_ok-count.ensures.bytes (omega arith),
  c.in_ok-count.ensures.cause.kept ∙ c.turns.invariant.kept,
)

pub returns-in_err-extend_from_slice-clause-stopped_once : goal.returns-in_err-extend_from_slice-clause-stopped_once
returns-in_err-extend_from_slice-clause-stopped_once g c =
    let some = gives_some_more _ _ _ _ _ c.turns.invariant.given c.in_ok-count.ensures.gave (omega arith) (omega arith) in
    search rules

pub turns-preserved : goal.turns-preserved
turns-preserved g c =
    let more = reads_more _ _ _ c.turns.bytes.items c.take.new.into _ c.turns.invariant.read c.in_ok-count.ensures.bytes in
    let e : c.extend_from_slice.new.self.items ≡ c.turns.bytes.items ++ take c.in_ok-count.count c.take.new.into =
    appended _ _ _ c.take.new.into _ c.turns.piece.len _ c.in_ok-extend_from_slice.ensures.items c.deref.ensures.value (omega arith) in
    let added : vec_len c.extend_from_slice.new.self ≡ vec_len c.turns.bytes + c.in_ok-count.count =
    omega (arith, c.in_ok-extend_from_slice.ensures.len, length-take c.in_ok-count.count c.deref.result.now, c.in_ok-count.ensures.room) in
    record {
      read = subst (Consumes (g.S.Source.left c.args.source.now) (g.S.Source.left c.take.new.self)) (sym e) more;
      limit = omega arith;
      room = omega arith;
      kept = c.in_ok-count.ensures.cause.kept ∙ c.turns.invariant.kept;
      given = given_more _ _ _ _ _ _ c.turns.invariant.given c.in_ok-count.ensures.gave (omega arith) added;
    }
