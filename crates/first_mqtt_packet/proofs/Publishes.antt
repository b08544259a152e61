-- A PUBLISH that is read is the one that was written, and what was written is read again.
use Rattle.std.proofs.Common.{◌≡◌, ℕ, ◌+◌, ◌^◌, ◌<◌, ◌≤◌, true, false, ltb, leb, eqb, List, [], ◌∷◌, ◌++◌, length, get_or, take, drop, Some, None, sym, ap, subst, ◌∙◌, arith, eq-eqb}
use Rattle.std.specs.Int.{w16, to_be_bytes}
use Rattle.std.proofs.lemmas.Bool.{and_parts, and_from, ltb-true, lt-ltb, leb-true, le-leb, eqb-true, cond-true}
use Rattle.std.proofs.lemmas.List.{append_assoc, length-append, length-drop, drop_more, take_at, drop_at, take-append-drop}
use Rattle.std.proofs.lemmas.Nat.{from_be_bytes-to_be_bytes_2}
use Rattle.std.proofs.lemmas.Option.{cond_some}
use Rattle.first_mqtt_packet.specs.declared.packet.Packet.{Packet}
use Rattle.first_mqtt_packet.specs.declared.packet.Packet.TheVariants.{Publish}
use Rattle.first_mqtt_packet.specs.Written.{written, framed}
use Rattle.first_mqtt_packet.specs.Reading.{two_at, is_publish, topic_at, after_topic, is_plain_topic, publish_in}
use Rattle.first_mqtt_packet.specs.Spells.{IsBuilt, publishes}
use Rattle.first_mqtt_packet.proofs.Texts.{plain_short}
use Rattle.first_mqtt_packet.proofs.Fields.{IsBytes, IsBytes-drop, cut, length_cut, two_back, two_below}

-- the body, field by field
abbrev pub publish_body : List ℕ → ℕ → List ℕ → List ℕ
publish_body topic id payload = to_be_bytes w16 (length topic) ++ (topic ++ (to_be_bytes w16 id ++ (0 ∷ payload)))

pub publish_written : (topic : List ℕ) (id : ℕ) (payload : List ℕ) → written (Publish false 1 false topic id [] payload) ≡ framed 50 (publish_body topic id payload)
publish_written topic id payload =
    ap
    (λ (t : List ℕ). framed 50 (to_be_bytes w16 (length topic) ++ t))
    (append_assoc (topic ++ to_be_bytes w16 id) (0 ∷ []) payload ∙ append_assoc topic (to_be_bytes w16 id) (0 ∷ payload))

-- a body of so many bytes, in its parts
parts : (body : List ℕ) → 3 ≤ length (after_topic body) → body ≡ take 2 body ++ (topic_at body ++ (take 2 (after_topic body) ++ (get_or (after_topic body) 2 0 ∷ drop 3 (after_topic body))))
parts body long =
    cut 0 2 body
    ∙ ap (λ (t : List ℕ). take 2 body ++ t) (sym (take-append-drop (two_at body 0) (drop 2 body))
    ∙ ap (λ (t : List ℕ). topic_at body ++ t) (cut 0 2 (after_topic body)
    ∙ ap (λ (t : List ℕ). take 2 (after_topic body) ++ t) (drop_more (after_topic body) 2 0 (omega arith))))

same_parts : (a t c rest : List ℕ) (d : ℕ) (a' c' : List ℕ) (d' : ℕ) → a ≡ a' → c ≡ c' → d ≡ d' → a ++ (t ++ (c ++ (d ∷ rest))) ≡ a' ++ (t ++ (c' ++ (d' ∷ rest)))
same_parts a t c rest d a' c' d' p q r = cc

pub publish_found : (body : List ℕ) (p : Packet) → IsBytes body → publish_in body ≡ Some p → IsBuilt p × (framed 50 body ≡ written p)
publish_found body p fits e =
    let some = cond_some (is_publish body) (Publish false 1 false (topic_at body) (two_at (after_topic body) 0) [] (drop 3 (after_topic body))) p e in
    let t1 = and_parts _ _ some.0 in
    let t2 = and_parts _ _ t1.0 in
    let t3 = and_parts _ _ t2.0 in
    let long : two_at body 0 + 5 ≤ length body = leb-true (two_at body 0 + 5) (length body) t3.0 in
    let some_id : 0 < two_at (after_topic body) 0 = ltb-true 0 (two_at (after_topic body) 0) t2.1 in
    let no_props : get_or (after_topic body) 2 0 ≡ 0 = eqb-true (get_or (after_topic body) 2 0) 0 t1.1 in
    let topic_len : two_at body 0 ≡ length (topic_at body) = sym (length_cut 2 (two_at body 0) body (omega (arith, long))) in
    let rest_len : 3 ≤ length (after_topic body) = omega (arith, long, length-drop (two_at body 0) (drop 2 body), length-drop 2 body) in
    let rest_fits : IsBytes (after_topic body) = IsBytes-drop (two_at body 0) (drop 2 body) (IsBytes-drop 2 body fits) in
    let whole : body ≡ publish_body (topic_at body) (two_at (after_topic body) 0) (drop 3 (after_topic body)) =
    parts body rest_len
    ∙ same_parts
    (take 2 body) (topic_at body) (take 2 (after_topic body)) (drop 3 (after_topic body)) (get_or (after_topic body) 2 0)
    (to_be_bytes w16 (length (topic_at body))) (to_be_bytes w16 (two_at (after_topic body) 0)) 0
    (sym (two_back body 0 fits (omega (arith, long))) ∙ ap (to_be_bytes w16) topic_len)
    (sym (two_back (after_topic body) 0 rest_fits (omega (arith, rest_len))))
    no_props in
    let built : IsBuilt (Publish false 1 false (topic_at body) (two_at (after_topic body) 0) [] (drop 3 (after_topic body))) =
    publishes some_id (two_below (after_topic body) 0 rest_fits) t3.1 in
    subst
    (λ (q : Packet). IsBuilt q × (framed 50 body ≡ written q))
    some.1
    (built, ap (framed 50) whole ∙ sym (publish_written (topic_at body) (two_at (after_topic body) 0) (drop 3 (after_topic body))))

-- what is read from a body with these fields
publish_from : (body topic : List ℕ) (id : ℕ) (payload : List ℕ) → is_publish body ≡ true → topic_at body ≡ topic → two_at (after_topic body) 0 ≡ id → drop 3 (after_topic body) ≡ payload → publish_in body ≡ Some (Publish false 1 false topic id [] payload)
publish_from body topic id payload is a b c =
    cond-true (is_publish body) (Some (Publish false 1 false (topic_at body) (two_at (after_topic body) 0) [] (drop 3 (after_topic body)))) None is ∙ cc

pub publish_again : (topic : List ℕ) (id : ℕ) (payload : List ℕ) → 0 < id → id < 2 ^ 16 → is_plain_topic topic ≡ true → publish_in (publish_body topic id payload) ≡ Some (Publish false 1 false topic id [] payload)
publish_again topic id payload some limit plain =
    let behind : List ℕ = to_be_bytes w16 id ++ (0 ∷ payload) in
    let short : length topic ≤ 1024 = plain_short topic plain in
    let size : two_at (publish_body topic id payload) 0 ≡ length topic = from_be_bytes-to_be_bytes_2 (length topic) (omega (arith, short)) in
    let first : topic_at (publish_body topic id payload) ≡ topic = take_at topic behind (two_at (publish_body topic id payload) 0) (sym size) in
    let rest : after_topic (publish_body topic id payload) ≡ to_be_bytes w16 id ++ (0 ∷ payload) = drop_at topic behind (two_at (publish_body topic id payload) 0) (sym size) in
    let second : two_at (after_topic (publish_body topic id payload)) 0 ≡ id = ap (λ (t : List ℕ). two_at t 0) rest ∙ from_be_bytes-to_be_bytes_2 id limit in
    let third : drop 3 (after_topic (publish_body topic id payload)) ≡ payload = ap (drop 3) rest in
    let fourth : get_or (after_topic (publish_body topic id payload)) 2 0 ≡ 0 = ap (λ (t : List ℕ). get_or t 2 0) rest in
    let len : length (publish_body topic id payload) ≡ 2 + (length topic + (3 + length payload)) = omega (arith, length-append topic behind) in
    let long : leb (two_at (publish_body topic id payload) 0 + 5) (length (publish_body topic id payload)) ≡ true =
    le-leb (two_at (publish_body topic id payload) 0 + 5) (length (publish_body topic id payload)) (omega (arith, len, size)) in
    let is_plain : is_plain_topic (topic_at (publish_body topic id payload)) ≡ true = ap is_plain_topic first ∙ plain in
    let above : ltb 0 (two_at (after_topic (publish_body topic id payload)) 0) ≡ true = lt-ltb 0 (two_at (after_topic (publish_body topic id payload)) 0) (omega (arith, second, some)) in
    let no_props : eqb (get_or (after_topic (publish_body topic id payload)) 2 0) 0 ≡ true = eq-eqb (get_or (after_topic (publish_body topic id payload)) 2 0) 0 fourth in
    publish_from
    (publish_body topic id payload)
    topic
    id
    payload
    (and_from _ _ (and_from _ _ (and_from _ _ long is_plain) above) no_props)
    first
    second
    third
