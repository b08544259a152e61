-- A CONNECT that is read is the one that was written, and what was written is read again.
use Rattle.std.proofs.Common.{◌≡◌, ℕ, ◌+◌, ◌-◌, ◌^◌, ◌<◌, ◌≤◌, true, false, ltb, leb, eqb, ◌&&◌, List, [], ◌∷◌, ◌++◌, length, take, drop, Some, None, refl, sym, ap, subst, ◌∙◌, arith, eq-eqb}
use Rattle.std.specs.Str.{bytes_eq}
use Rattle.std.specs.Int.{w16, w32, to_be_bytes}
use Rattle.std.proofs.lemmas.Bool.{and_parts, and_from, ltb-true, lt-ltb, leb-true, le-leb, eqb-true, cond-true}
use Rattle.std.proofs.lemmas.List.{append-nil, length-drop}
use Rattle.std.proofs.lemmas.Nat.{from_be_bytes-to_be_bytes_2, from_be_bytes-to_be_bytes_4}
use Rattle.std.proofs.lemmas.Option.{cond_some}
use Rattle.std.proofs.lemmas.Slice.Eq.{bytes_eq-Decides}
use Rattle.first_mqtt_packet.specs.declared.props.Prop.TheVariants.{Four}
use Rattle.first_mqtt_packet.specs.declared.packet.Packet.{Packet}
use Rattle.first_mqtt_packet.specs.declared.packet.Packet.TheVariants.{Connect}
use Rattle.first_mqtt_packet.specs.Written.{written, framed}
use Rattle.first_mqtt_packet.specs.Reading.{two_at, four_at, is_connect, is_connect_front, is_plain_client, connect_in}
use Rattle.first_mqtt_packet.specs.Spells.{IsBuilt, connects}
use Rattle.first_mqtt_packet.proofs.Texts.{client_short}
use Rattle.first_mqtt_packet.proofs.Fields.{IsBytes, cut, two_back, four_back, two_below, four_below}

abbrev pub head : List ℕ
head = 0 ∷ 4 ∷ 77 ∷ 81 ∷ 84 ∷ 84 ∷ 5 ∷ 0 ∷ []

abbrev pub expiry_head : List ℕ
expiry_head = 5 ∷ 17 ∷ []

-- the body, field by field
abbrev pub connect_body : ℕ → ℕ → List ℕ → List ℕ
connect_body keep_alive expiry client =
    head ++ (to_be_bytes w16 keep_alive ++ (expiry_head ++ (to_be_bytes w32 expiry ++ (to_be_bytes w16 (length client) ++ client))))

three_nils : (xs : List ℕ) → xs ++ [] ++ [] ++ [] ≡ xs
three_nils xs = append-nil (xs ++ [] ++ []) ∙ append-nil (xs ++ []) ∙ append-nil xs

pub connect_written : (keep_alive expiry : ℕ) (client : List ℕ) → written (Connect false keep_alive (Four 17 expiry ∷ []) client None None None) ≡ framed 16 (connect_body keep_alive expiry client)
connect_written keep_alive expiry client =
    ap
    (λ (t : List ℕ). framed 16 (head ++ (to_be_bytes w16 keep_alive ++ (expiry_head ++ (to_be_bytes w32 expiry ++ (to_be_bytes w16 (length client) ++ t))))))
    (three_nils client)

-- a body of so many bytes, in its parts
parts : (body : List ℕ) → body ≡ take 8 body ++ (take 2 (drop 8 body) ++ (take 2 (drop 10 body) ++ (take 4 (drop 12 body) ++ (take 2 (drop 16 body) ++ drop 18 body))))
parts body =
    cut 0 8 body
    ∙ ap (λ (t : List ℕ). take 8 body ++ t) (cut 8 2 body
    ∙ ap (λ (t : List ℕ). take 2 (drop 8 body) ++ t) (cut 10 2 body
    ∙ ap (λ (t : List ℕ). take 2 (drop 10 body) ++ t) (cut 12 4 body
    ∙ ap (λ (t : List ℕ). take 4 (drop 12 body) ++ t) (cut 16 2 body))))

same_parts : (a b c d e rest a' b' c' d' e' : List ℕ) → a ≡ a' → b ≡ b' → c ≡ c' → d ≡ d' → e ≡ e' → a ++ (b ++ (c ++ (d ++ (e ++ rest)))) ≡ a' ++ (b' ++ (c' ++ (d' ++ (e' ++ rest))))
same_parts a b c d e rest a' b' c' d' e' p q r s t = cc

pub connect_found : (body : List ℕ) (p : Packet) → IsBytes body → connect_in body ≡ Some p → IsBuilt p × (framed 16 body ≡ written p)
connect_found body p fits e =
    let some = cond_some (is_connect body) (Connect false (two_at body 8) (Four 17 (four_at body 12) ∷ []) (drop 18 body) None None None) p e in
    let t1 = and_parts (leb 18 (length body) && is_connect_front body && ltb 0 (four_at body 12) && eqb (two_at body 16) (length body - 18)) (is_plain_client (drop 18 body)) some.0 in
    let t2 = and_parts (leb 18 (length body) && is_connect_front body && ltb 0 (four_at body 12)) (eqb (two_at body 16) (length body - 18)) t1.0 in
    let t3 = and_parts (leb 18 (length body) && is_connect_front body) (ltb 0 (four_at body 12)) t2.0 in
    let t4 = and_parts (leb 18 (length body)) (is_connect_front body) t3.0 in
    let t5 = and_parts (bytes_eq (take 8 body) head) (bytes_eq (take 2 (drop 10 body)) expiry_head) t4.1 in
    let long : 18 ≤ length body = leb-true 18 (length body) t4.0 in
    let some_expiry : 0 < four_at body 12 = ltb-true 0 (four_at body 12) t3.1 in
    let client_len : two_at body 16 ≡ length (drop 18 body) = eqb-true (two_at body 16) (length body - 18) t2.1 ∙ sym (length-drop 18 body) in
    let whole : body ≡ connect_body (two_at body 8) (four_at body 12) (drop 18 body) =
    parts body
    ∙ same_parts
    (take 8 body) (take 2 (drop 8 body)) (take 2 (drop 10 body)) (take 4 (drop 12 body)) (take 2 (drop 16 body)) (drop 18 body)
    head (to_be_bytes w16 (two_at body 8)) expiry_head (to_be_bytes w32 (four_at body 12)) (to_be_bytes w16 (length (drop 18 body)))
    ((bytes_eq-Decides (take 8 body) head).0 t5.0)
    (sym (two_back body 8 fits (omega arith)))
    ((bytes_eq-Decides (take 2 (drop 10 body)) expiry_head).0 t5.1)
    (sym (four_back body 12 fits (omega arith)))
    (sym (two_back body 16 fits (omega arith)) ∙ ap (to_be_bytes w16) client_len) in
    let built : IsBuilt (Connect false (two_at body 8) (Four 17 (four_at body 12) ∷ []) (drop 18 body) None None None) =
    connects (two_below body 8 fits) some_expiry (four_below body 12 fits) t1.1 in
    subst
    (λ (q : Packet). IsBuilt q × (framed 16 body ≡ written q))
    some.1
    (built, ap (framed 16) whole ∙ sym (connect_written (two_at body 8) (four_at body 12) (drop 18 body)))

-- what is read from a body with these fields
connect_from : (body : List ℕ) (keep_alive expiry : ℕ) (client : List ℕ) → is_connect body ≡ true → two_at body 8 ≡ keep_alive → four_at body 12 ≡ expiry → drop 18 body ≡ client → connect_in body ≡ Some (Connect false keep_alive (Four 17 expiry ∷ []) client None None None)
connect_from body keep_alive expiry client is a b c =
    cond-true (is_connect body) (Some (Connect false (two_at body 8) (Four 17 (four_at body 12) ∷ []) (drop 18 body) None None None)) None is ∙ cc

pub connect_again : (keep_alive expiry : ℕ) (client : List ℕ) → keep_alive < 2 ^ 16 → 0 < expiry → expiry < 2 ^ 32 → is_plain_client client ≡ true → connect_in (connect_body keep_alive expiry client) ≡ Some (Connect false keep_alive (Four 17 expiry ∷ []) client None None None)
connect_again keep_alive expiry client alive some limit plain =
    let first : two_at (connect_body keep_alive expiry client) 8 ≡ keep_alive = from_be_bytes-to_be_bytes_2 keep_alive alive in
    let second : four_at (connect_body keep_alive expiry client) 12 ≡ expiry = from_be_bytes-to_be_bytes_4 expiry limit in
    let short : length client ≤ 256 = client_short client plain in
    let third : two_at (connect_body keep_alive expiry client) 16 ≡ length client = from_be_bytes-to_be_bytes_2 (length client) (omega (arith, short)) in
    let len : length (connect_body keep_alive expiry client) ≡ 18 + length client = omega arith in
    let front : is_connect_front (connect_body keep_alive expiry client) ≡ true = refl in
    let long : leb 18 (length (connect_body keep_alive expiry client)) ≡ true = le-leb 18 (length (connect_body keep_alive expiry client)) (omega (arith, len)) in
    let above : ltb 0 (four_at (connect_body keep_alive expiry client) 12) ≡ true = rw second (lt-ltb 0 expiry some) in
    let size : eqb (two_at (connect_body keep_alive expiry client) 16) (length (connect_body keep_alive expiry client) - 18) ≡ true =
    eq-eqb (two_at (connect_body keep_alive expiry client) 16) (length (connect_body keep_alive expiry client) - 18) (third ∙ omega (arith, len)) in
    connect_from
    (connect_body keep_alive expiry client)
    keep_alive
    expiry
    client
    (and_from _ _ (and_from _ _ (and_from _ _ (and_from _ _ long front) above) size) plain)
    first
    second
    refl
