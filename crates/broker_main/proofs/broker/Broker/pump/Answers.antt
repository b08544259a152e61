use Rattle.std.proofs.Common.{◌≡◌, ◌<◌, ◌++◌, List, [], ◌∷◌, Some, length, sym, ap, subst, ◌∙◌, arith}
use Rattle.std.specs.Prelude.{slice_get}
use Rattle.std.specs.Option.{option_map}
use Rattle.first_topic_name.specs.StoredMessage.{StoredMessage}
use Rattle.first_session_core.specs.PlainConnection.{PlainConnection}
use Rattle.first_session_core.specs.Pump.{pump_of}
use Rattle.first_session_core.specs.IssuedView.{issue_of_fields}
use Rattle.first_mqtt_packet.specs.declared.packet.Packet.{Packet}
use Rattle.first_world_terms.specs.Move.{sent_on}
use Rattle.first_world_terms.specs.Text.{text_of_outs}
use Rattle.first_world_terms.specs.PlainBroker.{PlainBroker, Step, session_on, list_with}
use Rattle.broker_main.specs.BrokerView.{IsConnectionPlace, IsWrittenAt}
use Rattle.broker_main.proofs.Places.{there}
use Rattle.broker_main.proofs.Pumping.{pumped_step, pumped_broker}
use Rattle.broker_main.proofs.broker.Broker.pump.Goals as goal

pub returns-clause-broker : goal.returns-clause-broker
returns-clause-broker c =
    let inside = c.self.inside in
    let p : PlainBroker = record { messages = inside.messages.items; sessions = inside.sessions.items; connections = inside.connections.items; lobby = inside.lobby.items } in
    let at = c.place_of_connection-at.result in
    let place = c.session_place-place.result in
    let here : IsConnectionPlace p.connections c.args.number at = subst (λ (l : List PlainConnection). IsConnectionPlace l c.args.number at) c.deref.ensures.value c.place_of_connection-at.ensures.place in
    let within_connections : at < length p.connections = omega (arith, c.if-at-len.false, c.len.ensures, inside.connections.ok.0) in
    let within_sessions : place < length p.sessions = omega (arith, c.if-place-len.false, c.len-2.ensures, inside.sessions.ok.0) in
    let ck = there p.connections at c.index-2.result.now within_connections c.index-2.ensures in
    let sm = there p.sessions place c.index.result.now within_sessions c.index.ensures in
    let found : session_on p c.args.number ≡ slice_get p.sessions place = subst (λ (q : PlainBroker). session_on q c.args.number ≡ slice_get q.sessions place) (sym c.self.view_is) c.session_place-place.ensures.found in
    let written : IsWrittenAt p.sessions place = subst (λ (q : PlainBroker). IsWrittenAt q.sessions place) (sym c.self.view_is) c.session_place-place.ensures.written in
    let issue : pump_of c.index.result.now c.index-2.result.now (list_with p.messages ∷ []) ≡ Some (issue_of_fields c.in-Some.issued) =
    ap (λ (l : List StoredMessage). pump_of c.index.result.now c.index-2.result.now (list_with l ∷ [])) (sym c.deref-2.ensures.value) ∙ sym c.in_ok-found.ensures ∙ ap (option_map issue_of_fields) c.in-Some.is in
    rw (← c.self.view_is)
    (pumped_broker p c.args.number at place c.index-2.result.now c.index.result.now c.in-Some.issued c.issue_session.new.sessions.items c.spend_connection.new.connections.items here ck sm written c.in_ok-issue_session.ensures c.spend_connection.ensures
    ∙ ap (λ (s : Step). s.broker) (sym (pumped_step p c.args.number at place c.index-2.result.now c.index.result.now c.in-Some.issued here ck found sm issue)))

pub returns-clause-text : goal.returns-clause-text
returns-clause-text c =
    let inside = c.self.inside in
    let p : PlainBroker = record { messages = inside.messages.items; sessions = inside.sessions.items; connections = inside.connections.items; lobby = inside.lobby.items } in
    let at = c.place_of_connection-at.result in
    let place = c.session_place-place.result in
    let here : IsConnectionPlace p.connections c.args.number at = subst (λ (l : List PlainConnection). IsConnectionPlace l c.args.number at) c.deref.ensures.value c.place_of_connection-at.ensures.place in
    let within_connections : at < length p.connections = omega (arith, c.if-at-len.false, c.len.ensures, inside.connections.ok.0) in
    let within_sessions : place < length p.sessions = omega (arith, c.if-place-len.false, c.len-2.ensures, inside.sessions.ok.0) in
    let ck = there p.connections at c.index-2.result.now within_connections c.index-2.ensures in
    let sm = there p.sessions place c.index.result.now within_sessions c.index.ensures in
    let found : session_on p c.args.number ≡ slice_get p.sessions place = subst (λ (q : PlainBroker). session_on q c.args.number ≡ slice_get q.sessions place) (sym c.self.view_is) c.session_place-place.ensures.found in
    let issue : pump_of c.index.result.now c.index-2.result.now (list_with p.messages ∷ []) ≡ Some (issue_of_fields c.in-Some.issued) =
    ap (λ (l : List StoredMessage). pump_of c.index.result.now c.index-2.result.now (list_with l ∷ [])) (sym c.deref-2.ensures.value) ∙ sym c.in_ok-found.ensures ∙ ap (option_map issue_of_fields) c.in-Some.is in
    rw (← c.self.view_is)
    (c.in_ok-put_packets.ensures
    ∙ ap (λ (packets : List Packet). c.args.text.now.items ++ text_of_outs (sent_on c.args.number packets)) c.deref-3.ensures.value
    ∙ ap (λ (s : Step). c.args.text.now.items ++ text_of_outs s.outs) (sym (pumped_step p c.args.number at place c.index-2.result.now c.index.result.now c.in-Some.issued here ck found sm issue)))
