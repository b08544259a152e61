use Rattle.std.proofs.Common.{◌+◌, ◌-◌, drop, ap, sym, subst, ◌∙◌, arith}
use Rattle.std.proofs.lemmas.Result.{err_from_is_err_and}
use Rattle.session_state.specs.KeptSession.{KeptSessions}
use Rattle.session_codec.specs.Reading.{session_at, so_many}
use Rattle.session_codec.specs.Parts.{sessions_from}
use Rattle.session_codec.specs.PartLaws.{IsSoFar, none_map, so_far_more, so_far_missing, so_far_all}
use Rattle.session_codec.specs.AddLaws.{refused_with, sessions_after, all_from}
use Rattle.session_codec.proofs.sessions.so_many_in.Goals as goal

pub returns-in_err-session : goal.returns-in_err-session
returns-in_err-session c =
    let h = c.args.head in
    let bytes = c.args.bytes.now in
    let read = session_at h.format h.shards in
    let p = err_from_is_err_and c.from_residual.result c.from_residual.ensures.1 in
    rw (p.1, p.2) record {
      exact = none_map c.in_err-session.field-0.0 _ _
          (λ none. ap (sessions_from h.next)
          (so_far_missing read h.count (drop c.args.at.now bytes) c.loop.sessions.list (h.count - c.loop.counter) (h.count - (c.loop.counter + 1))
          (drop c.loop.at bytes) (omega arith) c.loop.invariant.far none))
          c.in_err-session.ensures.exact;
    }

pub returns-then-not-branch : goal.returns-then-not-branch
returns-then-not-branch c =
    let h = c.args.head in
    let bytes = c.args.bytes.now in
    let read = session_at h.format h.shards in
    let i = c.loop.invariant in
    let m = c.in_ok-session.session in
    let far = so_far_more read h.count (drop c.args.at.now bytes) c.loop.sessions.list (h.count - c.loop.counter) (h.count - (c.loop.counter + 1))
    (drop c.loop.at bytes) (m, drop c.session_in.new.at bytes) (omega arith) i.far c.in_ok-session.ensures.exact in
    let refused = refused_with c.loop.sessions.next c.loop.sessions.list m h.format h.shards h.count (h.count - (c.loop.counter + 1))
    (drop c.args.at.now bytes) (drop c.session_in.new.at bytes) i.sound
    (sym c.in_ok-add.ensures.fits ∙ c.if-not-branch.true) far in
    record { exact = ap (λ n. sessions_from n (so_many read h.count (drop c.args.at.now bytes))) (sym i.next) ∙ refused }

pub loop-preserved : goal.loop-preserved
loop-preserved c =
    let h = c.args.head in
    let bytes = c.args.bytes.now in
    let read = session_at h.format h.shards in
    let i = c.loop.invariant in
    let m = c.in_ok-session.session in
    let far = so_far_more read h.count (drop c.args.at.now bytes) c.loop.sessions.list (h.count - c.loop.counter) (h.count - (c.loop.counter + 1))
    (drop c.loop.at bytes) (m, drop c.session_in.new.at bytes) (omega arith) i.far c.in_ok-session.ensures.exact in
    let after = sessions_after h.next c.loop.sessions c.add.new.self m c.in_ok-add.field-0 c.if-not-branch.false
    c.in_ok-add.ensures.fits c.in_ok-add.ensures.added i.next i.sound in
    record {
      far = subst (λ (s : KeptSessions). IsSoFar read h.count (drop c.args.at.now bytes) s.list (h.count - (c.loop.counter + 1)) (drop c.session_in.new.at bytes))
          (sym after.0) far;
      next = after.1;
      sound = after.2;
    }

pub returns : goal.returns
returns c =
    let h = c.args.head in
    let bytes = c.args.bytes.now in
    let read = session_at h.format h.shards in
    let i = c.loop.invariant in
    record {
      exact = ap (sessions_from h.next) (so_far_all read h.count (drop c.args.at.now bytes) c.loop.sessions.list (h.count - c.loop.counter) (drop c.loop.at bytes) (omega arith) i.far)
          ∙ all_from h.next c.loop.sessions (drop c.loop.at bytes) i.next i.sound;
    }
