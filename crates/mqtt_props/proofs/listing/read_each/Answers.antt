use Rattle.std.proofs.Common.{◌∷◌, [], arith}
use Rattle.std.proofs.lemmas.Result.{err_from_is_err_and}
use Rattle.std.proofs.lemmas.List.{length-append}
use Rattle.std.proofs.lemmas.List.Elements.{All-push}
use Rattle.mqtt_props.specs.Prop.{IsPropIn}
use Rattle.mqtt_props.specs.EachLaws.{one_more, one_refused, at_the_end, unless_map}
use Rattle.mqtt_props.proofs.listing.read_each.Goals as goal

pub returns-in_err-prop-clause-exact : goal.returns-in_err-prop-clause-exact
returns-in_err-prop-clause-exact c =
    let p = err_from_is_err_and c.from_residual.result c.from_residual.ensures.1 in
    let i = c.loop-at.invariant in
    rw (p.1, p.2) (unless_map c.in_err-prop.field-0.0 _ _ (one_refused c.args.holder c.args.bytes.now c.loop-at.list.items c.in_err-prop.field-0.0 c.loop-at.at i.few c.loop-at-test.true i.whole) c.in_err-prop.ensures.exact.0)

pub loop-at-preserved : goal.loop-at-preserved
loop-at-preserved c =
    let i = c.loop-at.invariant in
    let e = c.in_ok-prop.ensures.exact in
    rw c.in_ok-push.ensures.items record {
      whole = one_more c.args.holder c.args.bytes.now c.loop-at.list.items c.in_ok-prop.prop c.loop-at.at c.read_prop.new.at i.few c.loop-at-test.true i.whole e.0;
      few = omega (arith, i.few, c.in_ok-prop.ensures.moves, length-append c.loop-at.list.items (c.in_ok-prop.prop ∷ []));
      within = e.2;
      fits = All-push (IsPropIn c.args.holder) c.loop-at.list.items c.in_ok-prop.prop i.fits c.in_ok-prop.ensures.fits;
    }

pub returns-clause-exact : goal.returns-clause-exact
returns-clause-exact c = at_the_end c.args.holder c.args.bytes.now c.loop-at.list.items c.loop-at.at c.loop-at-test.false c.loop-at.invariant.whole
