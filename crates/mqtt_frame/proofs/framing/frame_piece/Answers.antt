use Rattle.std.proofs.Common.{ℕ, ◌-◌, ◌≤◌, List, ◌++◌, length, take, drop, Some, ap, ◌∙◌, arith}
use Rattle.mqtt_frame.specs.Steps.{Extends}
use Rattle.mqtt_frame.proofs.StepLemmas.{slice_behind, in_two, read_as, of_stream, ends_there, goes_on, goes_behind, extends_by, on_err}
use Rattle.mqtt_frame.proofs.framing.frame_piece.Goals as goal

pub returns-in-Some-clause-ok : goal.returns-in-Some-clause-ok
returns-in-Some-clause-ok c =
    let limit = c.args.limit in
    let kept = c.args.kept.now.items in
    let piece = c.args.piece.now in
    let missing = c.in_ok-missing.missing in
    let first = c.extend_from_slice.new.self.items in
    let stopped = c.in_ok-stopped.stopped in
    let old = c.args.out.now.items in
    let new = c.frame_all.new.out.items in
    let s = read_as limit c.deref.result.now first stopped old new c.deref.ensures.value c.in_ok-stopped.ensures.ok in
    of_stream limit (first ++ drop missing piece) (kept ++ piece) first (Some c.in-Some.header) old new
    (in_two kept piece first missing (c.in_ok-extend_from_slice.ensures.items ∙ ap (λ (t : List ℕ). t ++ take missing piece) c.in_ok-missing.ensures.same))
    (ends_there limit first (drop missing piece) first c.in-Some.header stopped old new s c.in-Some.is)

pub returns-in_err-bad-clause-err : goal.returns-in_err-bad-clause-err
returns-in_err-bad-clause-err c =
    on_err c.from_residual-in_err-bad.result (Extends c.args.kept.now.items c.frame_others.new.kept.items)
    (extends_by c.args.kept.now.items (take c.in_ok-missing.missing c.args.piece.now) c.extend_from_slice.new.self.items c.frame_others.new.kept.items (c.in_ok-extend_from_slice.ensures.items ∙ ap (λ (t : List ℕ). t ++ take c.in_ok-missing.missing c.args.piece.now) c.in_ok-missing.ensures.same) c.in_err-bad.ensures.err)

pub returns-then-stopped-len-clause-ok : goal.returns-then-stopped-len-clause-ok
returns-then-stopped-len-clause-ok c =
    let limit = c.args.limit in
    let kept = c.args.kept.now.items in
    let piece = c.args.piece.now in
    let missing = c.in_ok-missing.missing in
    let first = c.extend_from_slice.new.self.items in
    let left = c.frame_others.new.kept.items in
    let bad = c.in_ok-bad.bad in
    let stopped = c.in_ok-stopped.stopped in
    let old = c.args.out.now.items in
    let mid = c.frame_all.new.out.items in
    let new = c.frame_others.new.out.items in
    let s = read_as limit c.deref.result.now first stopped old mid c.deref.ensures.value c.in_ok-stopped.ensures.ok in
    let size = c.deref.ensures in
    let all : length first ≤ stopped.at = omega (arith, ap length c.deref.ensures.value) in
    let later = of_stream limit (take (length piece - missing) (drop missing piece)) (drop missing piece) left bad mid new (slice_behind piece missing) c.in_ok-bad.ensures.ok in
    of_stream limit (first ++ drop missing piece) (kept ++ piece) left bad old new
    (in_two kept piece first missing (c.in_ok-extend_from_slice.ensures.items ∙ ap (λ (t : List ℕ). t ++ take missing piece) c.in_ok-missing.ensures.same))
    (goes_behind limit first (drop missing piece) left bad stopped old mid new s c.in_default.is all later)

pub returns-in_err-bad-2-clause-err : goal.returns-in_err-bad-2-clause-err
returns-in_err-bad-2-clause-err c =
    on_err c.from_residual-in_err-bad-2.result (Extends c.args.kept.now.items c.frame_on.new.kept.items)
    (extends_by c.args.kept.now.items (take c.in_ok-missing.missing c.args.piece.now) c.extend_from_slice.new.self.items c.frame_on.new.kept.items (c.in_ok-extend_from_slice.ensures.items ∙ ap (λ (t : List ℕ). t ++ take c.in_ok-missing.missing c.args.piece.now) c.in_ok-missing.ensures.same) c.in_err-bad-2.ensures.err)

pub returns-clause-ok : goal.returns-clause-ok
returns-clause-ok c =
    let limit = c.args.limit in
    let kept = c.args.kept.now.items in
    let piece = c.args.piece.now in
    let missing = c.in_ok-missing.missing in
    let first = c.extend_from_slice.new.self.items in
    let left = c.frame_on.new.kept.items in
    let bad = c.in_ok-bad-2.bad in
    let stopped = c.in_ok-stopped.stopped in
    let old = c.args.out.now.items in
    let mid = c.frame_all.new.out.items in
    let new = c.frame_on.new.out.items in
    let s = read_as limit c.deref.result.now first stopped old mid c.deref.ensures.value c.in_ok-stopped.ensures.ok in
    let later = of_stream limit (drop stopped.at first ++ take (length piece - missing) (drop missing piece)) (drop stopped.at first ++ drop missing piece) left bad mid new
    (ap (λ (t : List ℕ). drop stopped.at first ++ t) (slice_behind piece missing)) c.in_ok-bad-2.ensures.ok in
    of_stream limit (first ++ drop missing piece) (kept ++ piece) left bad old new
    (in_two kept piece first missing (c.in_ok-extend_from_slice.ensures.items ∙ ap (λ (t : List ℕ). t ++ take missing piece) c.in_ok-missing.ensures.same))
    (goes_on limit first (drop missing piece) left bad stopped old mid new s c.in_default.is later)
