use Rattle.std.proofs.Common.{◌≡◌, ◌-◌, ◌+◌, ◌∙◌, ap, arith, sym, length, map, rules, take, ℕ}
use Rattle.disk_memory.specs.Kept.{plain}
use Rattle.disk_memory.specs.PlainDisk.{seen_of}
use Rattle.disk_memory.proofs.Undo.{IsLast, last_of, unwound_is}
use Rattle.disk_memory.proofs.contents.unwind.Goals as goal

pub undo-requires : goal.undo-requires
undo-requires c =
    let ws = c.args.writes.now in
    let w = c.index-writes-count.result in
    let left = length ws - c.loop-past.past in
    let i = length ws - 1 - c.loop-past.past in
    let last : IsLast c.args.base.now.value.items ws i w c.loop-past.bytes.items =
    last_of c.args.base.now.value.items c.loop-past.bytes.items ws left i w c.requires.kept (omega arith) (omega arith) c.index-writes-count.is c.loop-past.invariant in
    record { place = omega (arith, last.place, c.loop-past.bytes.ok); short = last.short; end = λ h. omega (arith, last.end h, c.loop-past.bytes.ok) }

pub loop-past-preserved : goal.loop-past-preserved
loop-past-preserved c =
    let base = c.args.base.now.value.items in
    let ws = c.args.writes.now in
    let w = c.index-writes-count.result in
    let left = length ws - c.loop-past.past in
    let i = length ws - 1 - c.loop-past.past in
    let last : IsLast base ws i w c.loop-past.bytes.items =
    last_of base c.loop-past.bytes.items ws left i w c.requires.kept (omega arith) (omega arith) c.index-writes-count.is c.loop-past.invariant in
    let same : i ≡ length ws - (c.loop-past.past + 1) = omega arith in
    c.undo.ensures ∙ last.undone_is ∙ ap (λ (n : ℕ). seen_of base (map plain (take n ws))) same

pub returns-clause-undone : goal.returns-clause-undone
returns-clause-undone c =
    let at_base : c.loop-past.bytes.items ≡ c.args.base.now.value.items = search rules in
    at_base ∙ sym (unwound_is c.args.base.now.value.items c.args.bytes.now.items c.args.writes.now c.requires)
