use Rattle.std.proofs.Common.{sym, ap, ◌∙◌}
use Rattle.shard_index.specs.KeptIndex.{list_of}
use Rattle.shard_index.specs.Absorbing.{kept_after_all}
use Rattle.shard_index.proofs.IndexLemmas.{shown, twin_again, when_ok}
use Rattle.shard_index.proofs.index.Index.absorb_all.Goals as goal

pub keep_twin-requires : goal.keep_twin-requires
keep_twin-requires c =
    twin_again c.args.ops.now c.args.self.now c.absorb_each.new.self c.follow_all.new.awaited c.in_ok-before.before c.requires.stand c.requires.group
    (c.in_default.ensures.kept ∙ ap (kept_after_all c.args.ops.now) c.in_ok-before.ensures.same) c.in_ok-before.ensures.taken
    (when_ok c.follow_all.result (sym c.is_ok.ensures.value ∙ c.if-is_ok.true) c.follow_all.ensures)

pub returns-then-is_ok-clause-list : goal.returns-then-is_ok-clause-list
returns-then-is_ok-clause-list c =
    ap list_of c.keep_twin.ensures
    ∙ shown c.args.ops.now c.args.self.now c.take_twin.new.self c.absorb_each.new.self c.in_ok-before.ensures.same c.in_default.ensures.kept

pub returns-else-is_ok-clause-list : goal.returns-else-is_ok-clause-list
returns-else-is_ok-clause-list c =
    shown c.args.ops.now c.args.self.now c.take_twin.new.self c.absorb_each.new.self c.in_ok-before.ensures.same c.in_default.ensures.kept
