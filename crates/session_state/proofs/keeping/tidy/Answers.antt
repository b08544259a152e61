use Rattle.std.proofs.Common.{◌∙◌, sym, ap, length, arith}
use Rattle.session_state.specs.KeptActing.{has_unfinished, kept_versions}
use Rattle.session_state.specs.FilterLaws.{filter_whole}
use Rattle.session_state.proofs.keeping.tidy.Goals as goal

pub returns-else-len-before-clause-versions : goal.returns-else-len-before-clause-versions
returns-else-len-before-clause-versions c =
    let all = c.drop_finished.ensures in
    let lengths = ap length all in
    let same = filter_whole (has_unfinished c.args.tracks.now) c.args.batches.now.items (omega arith) in
    sym (ap (λ bs. kept_versions c.args.subs.now.items bs c.args.versions.now.items) (all ∙ same) ∙ c.requires.versions)
