use Rattle.std.proofs.Common.{◌∷◌, [], arith}
use Rattle.std.proofs.lemmas.Result.{err_from_is_err_and}
use Rattle.std.proofs.lemmas.List.{length-append}
use Rattle.mqtt_packet.specs.Reading.{name_at}
use Rattle.mqtt_packet.specs.EachLaws.{one_more, one_missing, at_the_end}
use Rattle.mqtt_packet.specs.PartLaws.{none_map}
use Rattle.mqtt_packet.proofs.filters.names_in.Goals as goal

pub returns-in_err-name : goal.returns-in_err-name
returns-in_err-name c =
    let p = err_from_is_err_and c.from_residual.result c.from_residual.ensures.1 in
    let i = c.loop-at.invariant in
    rw (p.1, p.2) record { exact = none_map c.in_err-name.field-0.0 _ _ (one_missing name_at c.args.bytes.now c.loop-at.names.items c.loop-at.at i.few c.loop-at-test.true i.whole) c.in_err-name.ensures.exact }

pub loop-at-preserved : goal.loop-at-preserved
loop-at-preserved c =
    let i = c.loop-at.invariant in
    rw c.in_ok-push.ensures.items record {
      whole = one_more name_at c.args.bytes.now c.loop-at.names.items c.in_ok-name.name c.loop-at.at c.name_in.new.at i.few c.loop-at-test.true i.whole c.in_ok-name.ensures.exact;
      few = omega (arith, i.few, c.in_ok-name.ensures.moves, length-append c.loop-at.names.items (c.in_ok-name.name ∷ []));
    }

pub returns : goal.returns
returns c = record { exact = at_the_end name_at c.args.bytes.now c.loop-at.names.items c.loop-at.at c.loop-at-test.false c.loop-at.invariant.whole }
