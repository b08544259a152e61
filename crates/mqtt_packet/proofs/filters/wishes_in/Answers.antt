use Rattle.std.proofs.Common.{◌∷◌, [], arith}
use Rattle.std.proofs.lemmas.Result.{err_from_is_err_and}
use Rattle.std.proofs.lemmas.List.{length-append}
use Rattle.mqtt_packet.specs.Reading.{wish_at}
use Rattle.mqtt_packet.specs.EachLaws.{one_more, one_missing, at_the_end}
use Rattle.mqtt_packet.specs.PartLaws.{none_map}
use Rattle.mqtt_packet.proofs.filters.wishes_in.Goals as goal

pub returns-in_err-wish : goal.returns-in_err-wish
returns-in_err-wish c =
    let p = err_from_is_err_and c.from_residual.result c.from_residual.ensures.1 in
    let i = c.loop-at.invariant in
    rw (p.1, p.2) record { exact = none_map c.in_err-wish.field-0.0 _ _ (one_missing wish_at c.args.bytes.now c.loop-at.wishes.items c.loop-at.at i.few c.loop-at-test.true i.whole) c.in_err-wish.ensures.exact }

pub loop-at-preserved : goal.loop-at-preserved
loop-at-preserved c =
    let i = c.loop-at.invariant in
    rw c.in_ok-push.ensures.items record {
      whole = one_more wish_at c.args.bytes.now c.loop-at.wishes.items c.in_ok-wish.wish c.loop-at.at c.wish_in.new.at i.few c.loop-at-test.true i.whole c.in_ok-wish.ensures.exact;
      few = omega (arith, i.few, c.in_ok-wish.ensures.moves, length-append c.loop-at.wishes.items (c.in_ok-wish.wish ∷ []));
    }

pub returns : goal.returns
returns c = record { exact = at_the_end wish_at c.args.bytes.now c.loop-at.wishes.items c.loop-at.at c.loop-at-test.false c.loop-at.invariant.whole }
