use Rattle.std.proofs.Common.{◌≡◌, ◌+◌, List, ℕ, [], ◌∷◌, ◌++◌, length, refl, sym, ap, subst, ◌∙◌, arith}
use Rattle.first_topic_name.specs.Pieces.{levels_of}
use Rattle.first_mqtt_packet.specs.declared.packet.Packet.{Packet}
use Rattle.first_mqtt_packet.specs.declared.packet.Packet.TheVariants.{Suback}
use Rattle.first_world_terms.specs.Move.{Sent}
use Rattle.first_world_terms.specs.Text.{text_of_outs}
use Rattle.first_world_terms.specs.PlainBroker.{PlainBroker}
use Rattle.broker_main.specs.BrokerView.{IsWrittenAt}
use Rattle.broker_main.proofs.Subscribing.{subscribed_at, granted_one}
use Rattle.broker_main.proofs.broker.Broker.subscribe.Goals as goal

pub returns-clause-broker : goal.returns-clause-broker
returns-clause-broker c =
    let inside = c.self.inside in
    let p : PlainBroker = record { messages = inside.messages.items; sessions = inside.sessions.items; connections = inside.connections.items; lobby = inside.lobby.items } in
    let written : IsWrittenAt p.sessions c.args.place = subst (λ (q : PlainBroker). IsWrittenAt q.sessions c.args.place) (sym c.self.view_is) c.requires.written in
    let filter = c.of-filter.ensures ∙ ap levels_of c.in_ok-copy.ensures in
    let next : c.len-next.result ≡ 0 + length p.messages = omega (arith, c.len-next.ensures, inside.messages.ok.0) in
    rw (← c.self.view_is) (subscribed_at p c.args.place c.args.number c.args.id c.args.filters c.only_wish-wish.result.now c.only_wish-wish.result.now.options c.of-filter.result c.len-next.result c.subscribe_session.new.sessions.items c.only_wish-wish.ensures refl filter next written c.subscribe_session.ensures)

pub returns-clause-text : goal.returns-clause-text
returns-clause-text c =
    let granted = granted_one c.args.filters c.only_wish-wish.result.now c.only_wish-wish.result.now.options c.only_wish-wish.ensures refl in
    let old = c.args.text.now.items in
    c.in_ok-put_answer.ensures
    ∙ ap (λ (packet : Packet). old ++ text_of_outs (Sent c.args.number packet ∷ [])) c.in_ok-make_suback.ensures
    ∙ ap (λ (reasons : List ℕ). old ++ text_of_outs (Sent c.args.number (Suback c.args.id [] reasons) ∷ [])) (sym granted)
