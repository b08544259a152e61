use Rattle.std.proofs.Common.{drop, ◌∙◌}
use Rattle.std.proofs.lemmas.Result.{err_from_is_err_and}
use Rattle.session_codec.specs.PartLaws.{none_map}
use Rattle.session_codec.specs.AddLaws.{sessions_behind}
use Rattle.session_codec.proofs.sessions.sessions_in.Goals as goal

pub returns-in_err-sessions : goal.returns-in_err-sessions
returns-in_err-sessions c =
    let a = c.args in
    let p = err_from_is_err_and c.from_residual-in_err-sessions.result c.from_residual-in_err-sessions.ensures.1 in
    rw (p.1, p.2) record {
      exact = none_map c.in_err-sessions.field-0.0 _ _
          (λ none. sessions_behind a.format a.shards (drop a.at.now a.bytes.now) (c.in_ok-next.next, drop c.eight_in.new.at a.bytes.now)
          (c.in_ok-count.count, drop c.four_in.new.at a.bytes.now) c.in_ok-next.ensures.exact c.in_ok-count.ensures.exact ∙ none)
          c.in_err-sessions.ensures.exact;
    }

pub returns : goal.returns
returns c =
    let a = c.args in
    record {
      exact = sessions_behind a.format a.shards (drop a.at.now a.bytes.now) (c.in_ok-next.next, drop c.eight_in.new.at a.bytes.now)
          (c.in_ok-count.count, drop c.four_in.new.at a.bytes.now) c.in_ok-next.ensures.exact c.in_ok-count.ensures.exact
          ∙ c.in_ok-sessions.ensures.exact;
    }
