use Rattle.std.proofs.Common.{◌≡◌, ◌+◌, ◌-◌, ◌≤◌, ◌<◌, ◌^◌, arith, ap, length, sym, ◌∙◌, subst}
use Rattle.std.specs.Prelude.{is_err, vec_len, vec_capacity, false, true}
use Rattle.gated_log.specs.PlainLog.{AtRest, InDoubt, IsLog, PlainLog}
use Rattle.gated_log.specs.LogView.{standing_of}
use Rattle.outside.specs.Results.{when_err, when_ok}
use Rattle.gated_log.proofs.LogLemmas.{commit_doubted, commit_log, commit_log_doubted, commit_told, log_has, rested}
use Rattle.gated_log.proofs.log.Log.commit.Goals as goal

pub invariant_of-self : goal.invariant_of-self
invariant_of-self g c =
    let rests : standing_of c.self.inside.standing ≡ AtRest = ap (λ (v : PlainLog g.row.D.Denot). v.standing) c.self.view_is ∙ c.requires.rests in
    let room : 0 < vec_capacity c.self.inside.spans - vec_len c.self.inside.spans =
    subst (λ n. 0 < n) (sym (ap (λ (v : PlainLog g.row.D.Denot). v.spare) c.self.view_is)) c.requires.room in
    let failed : is_err c.write_record.result ≡ true = sym c.is_err.ensures.value ∙ c.if-is_err.true in
    let fits : c.self.inside.end + (6 + c.len.result) ≤ 2 ^ 64 - 1 = omega (arith, c.passes.ensures.under c.if-passes.false, c.self.ranges) in (
      subst (λ p. IsLog (g.D.Disk.state c.write_record.new.disk).tells (g.D.Disk.state c.write_record.new.disk).size (g.D.Disk.state c.write_record.new.disk).seen (g.D.Disk.state c.write_record.new.disk).may_leave
          c.self.inside.spans.items (vec_capacity c.self.inside.spans - vec_len c.self.inside.spans) c.self.inside.end (InDoubt p)) (sym c.of.ensures)
          (commit_log_doubted _ _ _ _ _ _ _ _ _ _ _ _ c.args.draft.now c.self.invariant.0 rests (when_err c.write_record.result failed c.write_record.ensures.doubt)
          (record {
            room = room;
            some = omega (arith, c.len.ensures.length, c.len.ensures.some);
            short = omega (arith, c.len.ensures.length, c.len.ensures.short);
            fits = omega (arith, fits, c.len.ensures.length);
          })
          c.write_record.ensures.no_shorter c.write_record.ensures.run.tells),
      c.len-then-is_err.ensures.length ∙ ap length (sym c.of.ensures),
    )

pub invariant_of-self-2 : goal.invariant_of-self-2
invariant_of-self-2 g c =
    let rests : standing_of c.self.inside.standing ≡ AtRest = ap (λ (v : PlainLog g.row.D.Denot). v.standing) c.self.view_is ∙ c.requires.rests in
    let done : is_err c.write_record.result ≡ false = sym c.is_err.ensures.value ∙ c.if-is_err.false in (
      rw (c.add_span.ensures.spans, c.add_span.ensures.end, c.len-2.ensures.length, rests)
          (commit_log _ _ _ _ _ _ _ _ _ _ _ _ _ c.args.draft.now c.self.invariant.0 rests (when_ok c.write_record.result done c.write_record.ensures.list)
          (when_ok c.write_record.result done c.write_record.ensures.stands) (when_ok c.write_record.result done c.write_record.ensures.size) c.write_record.ensures.run.tells),
      c.self.invariant.1,
    )

pub returns-then-is_err-clause-kept : goal.returns-then-is_err-clause-kept
returns-then-is_err-clause-kept g c =
    let rests : standing_of c.self.inside.standing ≡ AtRest = ap (λ (v : PlainLog g.row.D.Denot). v.standing) c.self.view_is ∙ c.requires.rests in
    let failed : is_err c.write_record.result ≡ true = sym c.is_err.ensures.value ∙ c.if-is_err.true in
    rw (← c.self.view_is) (λ told.
    (commit_doubted _ _ _ _ _ _ c.self.inside.spans.items _ _ c.args.draft.now (rested _ _ _ _ _ _ _ _ c.self.invariant.0 rests) told
    (when_err c.write_record.result failed c.write_record.ensures.doubt told)).list)

pub returns-then-is_err-clause-images : goal.returns-then-is_err-clause-images
returns-then-is_err-clause-images g c = λ told. log_has _ _ _ _ _ _ _ _ (invariant_of-self g c).0 told

pub returns-clause-list : goal.returns-clause-list
returns-clause-list g c =
    let rests : standing_of c.self.inside.standing ≡ AtRest = ap (λ (v : PlainLog g.row.D.Denot). v.standing) c.self.view_is ∙ c.requires.rests in
    let done : is_err c.write_record.result ≡ false = sym c.is_err.ensures.value ∙ c.if-is_err.false in
    rw (← c.self.view_is, c.add_span.ensures.spans, c.len-2.ensures.length) (λ told.
    (commit_told _ _ _ _ _ _ c.self.inside.spans.items _ _ c.args.draft.now (rested _ _ _ _ _ _ _ _ c.self.invariant.0 rests) told
    (when_ok c.write_record.result done c.write_record.ensures.list told) (when_ok c.write_record.result done c.write_record.ensures.stands told)).list)

pub returns-clause-images : goal.returns-clause-images
returns-clause-images g c = λ told. log_has _ _ _ _ _ _ _ _ (invariant_of-self-2 g c).0 told
