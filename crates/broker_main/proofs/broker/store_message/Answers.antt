use Rattle.std.proofs.Common.{◌≡◌, ◌+◌, [], ◌∷◌, ◌++◌, length, sym, ap, subst, ◌∙◌, arith}
use Rattle.first_topic_name.specs.StoredMessage.{StoredMessage}
use Rattle.first_session_core.specs.SessionView.{HasOffsets}
use Rattle.broker_main.proofs.Stored.{stored_message, offsets_push, same_message}
use Rattle.broker_main.proofs.broker.store_message.Goals as goal

pub returns-clause-stored : goal.returns-clause-stored
returns-clause-stored c =
    let messages = c.args.messages.now.items in
    let m = c.args.session.now in
    let offset : c.len-offset.result ≡ length messages = c.len-offset.ensures ∙ c.args.messages.now.ok.0 in
    let publisher = c.in_ok-publisher.ensures ∙ c.client.ensures in
    c.in_ok-push.ensures.items
    ∙ ap (λ (w : StoredMessage). messages ++ w ∷ []) (c.published-message.ensures ∙ same_message _ _ _ _ _ _ _ _ _ _ _ _ offset publisher c.incarnation-incarnation.ensures c.of-topic.ensures c.empty.ensures)
    ∙ sym (stored_message messages m c.args.qos c.args.topic c.args.payload)

pub returns-clause-offsets : goal.returns-clause-offsets
returns-clause-offsets c =
    let messages = c.args.messages.now.items in
    let end : c.len-offset.result ≡ 0 + length messages = omega (arith, c.len-offset.ensures, c.args.messages.now.ok.0) in
    let place = ap (λ (w : StoredMessage). w.offset) c.published-message.ensures ∙ end in
    subst (HasOffsets 0) (sym c.in_ok-push.ensures.items) (offsets_push 0 messages c.published-message.result c.requires place)
