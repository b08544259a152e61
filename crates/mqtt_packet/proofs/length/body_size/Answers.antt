use Rattle.std.proofs.Common.{subst}
use Rattle.mqtt_packet.specs.Packet.{plain}
use Rattle.mqtt_packet.specs.Fits.{Fits, FitsSubscribe, FitsUnsubscribe}
use Rattle.mqtt_packet.proofs.length.body_size.Goals as goal

pub wishes_size-requires : goal.wishes_size-requires
wishes_size-requires c =
    let fits : FitsSubscribe (record { id = c.in-Subscribe.id; props = c.in-Subscribe.props; filters = c.in-Subscribe.filters.items }) =
    subst (λ p. Fits (plain p)) c.in-Subscribe.is c.requires.fits in
    rw c.deref.ensures.value fits.filters

pub names_size-requires : goal.names_size-requires
names_size-requires c =
    let fits : FitsUnsubscribe (record { id = c.in-Unsubscribe.id; props = c.in-Unsubscribe.props; filters = c.in-Unsubscribe.filters.items }) =
    subst (λ p. Fits (plain p)) c.in-Unsubscribe.is c.requires.fits in
    rw c.deref-in-Unsubscribe.ensures.value fits.filters
