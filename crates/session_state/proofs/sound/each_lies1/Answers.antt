use Rattle.std.proofs.Common.{ℕ, ◌||◌, not, sym, ◌∙◌}
use Rattle.seq_tracks.specs.PlainTracks.{is_unfinished1}
use Rattle.session_state.specs.SoundTest.{each_lies1, lies_in_one1}
use Rattle.session_state.proofs.SoundLemmas.{all_so_far, not_all}
use Rattle.session_state.proofs.sound.each_lies1.Goals as goal

pub returns-then-not-lies1 : goal.returns-then-not-lies1
returns-then-not-lies1 c =
    not_all (λ (n : ℕ). not (is_unfinished1 c.args.tracks.now n) || lies_in_one1 c.args.batches.now n) c.loop-number.number c.args.tracks.now.issued1
    c.issued1-number-end.result (each_lies1 c.args.tracks.now c.args.batches.now) c.loop-number.invariant c.loop-number-test.true c.issued1-number-end.ensures
    (sym c.lies1.ensures ∙ c.if-not-lies1.true)

pub loop-number-preserved : goal.loop-number-preserved
loop-number-preserved c =
    all_so_far (λ (n : ℕ). not (is_unfinished1 c.args.tracks.now n) || lies_in_one1 c.args.batches.now n) c.loop-number.number c.args.tracks.now.issued1
    c.issued1-number-end.result (each_lies1 c.args.tracks.now c.args.batches.now) c.loop-number.invariant c.loop-number-test.true c.issued1-number-end.ensures
    (sym c.lies1.ensures ∙ c.if-not-lies1.false)
