use Rattle.std.proofs.Common.{ℕ, ◌||◌, not, sym, ◌∙◌}
use Rattle.seq_tracks.specs.PlainTracks.{is_unfinished2}
use Rattle.session_state.specs.SoundTest.{each_lies2, lies_in_one2}
use Rattle.session_state.proofs.SoundLemmas.{all_so_far, not_all}
use Rattle.session_state.proofs.sound.each_lies2.Goals as goal

pub returns-then-not-lies2 : goal.returns-then-not-lies2
returns-then-not-lies2 c =
    not_all (λ (n : ℕ). not (is_unfinished2 c.args.tracks.now n) || lies_in_one2 c.args.batches.now n) c.loop-number.number c.args.tracks.now.issued2
    c.issued2-number-end.result (each_lies2 c.args.tracks.now c.args.batches.now) c.loop-number.invariant c.loop-number-test.true c.issued2-number-end.ensures
    (sym c.lies2.ensures ∙ c.if-not-lies2.true)

pub loop-number-preserved : goal.loop-number-preserved
loop-number-preserved c =
    all_so_far (λ (n : ℕ). not (is_unfinished2 c.args.tracks.now n) || lies_in_one2 c.args.batches.now n) c.loop-number.number c.args.tracks.now.issued2
    c.issued2-number-end.result (each_lies2 c.args.tracks.now c.args.batches.now) c.loop-number.invariant c.loop-number-test.true c.issued2-number-end.ensures
    (sym c.lies2.ensures ∙ c.if-not-lies2.false)
