use Rattle.std.proofs.lemmas.Result.{err_from_is_err_and}
use Rattle.mqtt_packet.specs.PutLaws.{begins_further}
use Rattle.mqtt_packet.proofs.putting.put_wishes.Goals as goal

pub returns-in_err-put_wish : goal.returns-in_err-put_wish
returns-in_err-put_wish c =
    let p = err_from_is_err_and c.from_residual.result c.from_residual.ensures.1 in
    rw p.1 record { exact = begins_further _ _ _ _ c.loop-wish.invariant c.in_err-put_wish.ensures.exact }
