-- A SUBSCRIBE that is read is the one that was written, and what was written is read again.
use Rattle.std.proofs.Common.{◌≡◌, ℕ, ◌+◌, ◌-◌, ◌^◌, ◌<◌, ◌≤◌, true, ltb, leb, eqb, List, [], ◌∷◌, ◌++◌, length, get_or, take, drop, Some, None, refl, sym, ap, subst, ◌∙◌, arith, eq-eqb}
use Rattle.std.specs.Int.{w16, to_be_bytes}
use Rattle.std.proofs.lemmas.Bool.{and_parts, and_from, ltb-true, lt-ltb, leb-true, le-leb, eqb-true, cond-true}
use Rattle.std.proofs.lemmas.List.{append-nil, length-append, drop_more, drop_all, take_at, get_or_at}
use Rattle.std.proofs.lemmas.Nat.{from_be_bytes-to_be_bytes_2}
use Rattle.std.proofs.lemmas.Option.{cond_some}
use Rattle.first_mqtt_packet.specs.declared.packet.Wish.{Wish}
use Rattle.first_mqtt_packet.specs.declared.packet.Packet.{Packet}
use Rattle.first_mqtt_packet.specs.declared.packet.Packet.TheVariants.{Subscribe}
use Rattle.first_mqtt_packet.specs.Written.{written, framed}
use Rattle.first_mqtt_packet.specs.Reading.{two_at, is_subscribe, filter_at, is_plain_topic, subscribe_in}
use Rattle.first_mqtt_packet.specs.Spells.{IsBuilt, subscribes}
use Rattle.first_mqtt_packet.proofs.Texts.{plain_short}
use Rattle.first_mqtt_packet.proofs.Fields.{IsBytes, cut, length_cut, two_back, two_below}

-- the body, field by field
abbrev pub subscribe_body : ℕ → List ℕ → List ℕ
subscribe_body id filter = to_be_bytes w16 id ++ (0 ∷ (to_be_bytes w16 (length filter) ++ (filter ++ 1 ∷ [])))

abbrev pub wished : List ℕ → Wish
wished filter = record { filter = filter; options = 1 }

pub subscribe_written : (id : ℕ) (filter : List ℕ) → written (Subscribe id [] (wished filter ∷ [])) ≡ framed 130 (subscribe_body id filter)
subscribe_written id filter =
    ap (λ (t : List ℕ). framed 130 (to_be_bytes w16 id ++ (0 ∷ (to_be_bytes w16 (length filter) ++ t)))) (append-nil (filter ++ 1 ∷ []))

-- the last byte
last : (body : List ℕ) → 6 ≤ length body → drop (length body - 1) body ≡ get_or body (length body - 1) 0 ∷ []
last body long =
    drop_more body (length body - 1) 0 (omega arith) ∙ ap (λ (t : List ℕ). get_or body (length body - 1) 0 ∷ t) (drop_all (length body - 1 + 1) body (omega arith))

-- a body of so many bytes, in its parts
parts : (body : List ℕ) → 6 ≤ length body → body ≡ take 2 body ++ (get_or body 2 0 ∷ (take 2 (drop 3 body) ++ (filter_at body ++ get_or body (length body - 1) 0 ∷ [])))
parts body long =
    let place : 5 + (length body - 1 - 5) ≡ length body - 1 = omega arith in
    cut 0 2 body
    ∙ ap (λ (t : List ℕ). take 2 body ++ t) (drop_more body 2 0 (omega arith)
    ∙ ap (λ (t : List ℕ). get_or body 2 0 ∷ t) (cut 3 2 body
    ∙ ap (λ (t : List ℕ). take 2 (drop 3 body) ++ t) (cut 5 (length body - 1 - 5) body
    ∙ ap (λ (t : List ℕ). filter_at body ++ t) (ap (λ (k : ℕ). drop k body) place ∙ last body long))))

same_parts : (a c f : List ℕ) (b d : ℕ) (a' c' : List ℕ) (b' d' : ℕ) → a ≡ a' → b ≡ b' → c ≡ c' → d ≡ d' → a ++ (b ∷ (c ++ (f ++ d ∷ []))) ≡ a' ++ (b' ∷ (c' ++ (f ++ d' ∷ [])))
same_parts a c f b d a' c' b' d' p q r s = cc

pub subscribe_found : (body : List ℕ) (p : Packet) → IsBytes body → subscribe_in body ≡ Some p → IsBuilt p × (framed 130 body ≡ written p)
subscribe_found body p fits e =
    let some = cond_some (is_subscribe body) (Subscribe (two_at body 0) [] (wished (filter_at body) ∷ [])) p e in
    let t1 = and_parts _ _ some.0 in
    let t2 = and_parts _ _ t1.0 in
    let t3 = and_parts _ _ t2.0 in
    let t4 = and_parts _ _ t3.0 in
    let t5 = and_parts _ _ t4.0 in
    let long : 6 ≤ length body = leb-true 6 (length body) t5.0 in
    let some_id : 0 < two_at body 0 = ltb-true 0 (two_at body 0) t5.1 in
    let no_props : get_or body 2 0 ≡ 0 = eqb-true (get_or body 2 0) 0 t4.1 in
    let told : two_at body 3 ≡ length body - 6 = eqb-true (two_at body 3) (length body - 6) t3.1 in
    let options : get_or body (length body - 1) 0 ≡ 1 = eqb-true (get_or body (length body - 1) 0) 1 t1.1 in
    let filter_len : two_at body 3 ≡ length (filter_at body) = omega (arith, told, long, length_cut 5 (length body - 1 - 5) body (omega (arith, long))) in
    let whole : body ≡ subscribe_body (two_at body 0) (filter_at body) =
    parts body long
    ∙ same_parts
    (take 2 body) (take 2 (drop 3 body)) (filter_at body) (get_or body 2 0) (get_or body (length body - 1) 0)
    (to_be_bytes w16 (two_at body 0)) (to_be_bytes w16 (length (filter_at body))) 0 1
    (sym (two_back body 0 fits (omega (arith, long))))
    no_props
    (sym (two_back body 3 fits (omega (arith, long))) ∙ ap (to_be_bytes w16) filter_len)
    options in
    let built : IsBuilt (Subscribe (two_at body 0) [] (wished (filter_at body) ∷ [])) = subscribes some_id (two_below body 0 fits) t2.1 in
    subst
    (λ (q : Packet). IsBuilt q × (framed 130 body ≡ written q))
    some.1
    (built, ap (framed 130) whole ∙ sym (subscribe_written (two_at body 0) (filter_at body)))

-- what is read from a body with these fields
subscribe_from : (body : List ℕ) (id : ℕ) (filter : List ℕ) → is_subscribe body ≡ true → two_at body 0 ≡ id → filter_at body ≡ filter → subscribe_in body ≡ Some (Subscribe id [] (wished filter ∷ []))
subscribe_from body id filter is a b =
    cond-true (is_subscribe body) (Some (Subscribe (two_at body 0) [] (wished (filter_at body) ∷ []))) None is
    ∙ ap (λ (i : ℕ). Some (Subscribe i [] (wished (filter_at body) ∷ []))) a
    ∙ ap (λ (f : List ℕ). Some (Subscribe id [] (wished f ∷ []))) b

pub subscribe_again : (id : ℕ) (filter : List ℕ) → 0 < id → id < 2 ^ 16 → is_plain_topic filter ≡ true → subscribe_in (subscribe_body id filter) ≡ Some (Subscribe id [] (wished filter ∷ []))
subscribe_again id filter some limit plain =
    let short : length filter ≤ 1024 = plain_short filter plain in
    let first : two_at (subscribe_body id filter) 0 ≡ id = from_be_bytes-to_be_bytes_2 id limit in
    let second : two_at (subscribe_body id filter) 3 ≡ length filter = from_be_bytes-to_be_bytes_2 (length filter) (omega (arith, short)) in
    let len : length (subscribe_body id filter) ≡ length filter + 6 = omega (arith, length-append filter (1 ∷ [])) in
    let place : length (subscribe_body id filter) - 1 ≡ 5 + length filter = omega (arith, len) in
    let front_len : length (to_be_bytes w16 id ++ (0 ∷ (to_be_bytes w16 (length filter) ++ filter))) ≡ length (subscribe_body id filter) - 1 = omega (arith, len) in
    let third : filter_at (subscribe_body id filter) ≡ filter = take_at filter (1 ∷ []) (length (subscribe_body id filter) - 1 - 5) (omega (arith, len)) in
    let fourth : get_or (subscribe_body id filter) (length (subscribe_body id filter) - 1) 0 ≡ 1 =
    get_or_at (to_be_bytes w16 id ++ (0 ∷ (to_be_bytes w16 (length filter) ++ filter))) 1 [] 0 (length (subscribe_body id filter) - 1) front_len in
    let long : leb 6 (length (subscribe_body id filter)) ≡ true = le-leb 6 (length (subscribe_body id filter)) (omega (arith, len)) in
    let above : ltb 0 (two_at (subscribe_body id filter) 0) ≡ true = rw first (lt-ltb 0 id some) in
    let no_props : eqb (get_or (subscribe_body id filter) 2 0) 0 ≡ true = refl in
    let size : eqb (two_at (subscribe_body id filter) 3) (length (subscribe_body id filter) - 6) ≡ true =
    eq-eqb (two_at (subscribe_body id filter) 3) (length (subscribe_body id filter) - 6) (second ∙ omega (arith, len)) in
    let is_plain : is_plain_topic (filter_at (subscribe_body id filter)) ≡ true = ap is_plain_topic third ∙ plain in
    let options : eqb (get_or (subscribe_body id filter) (length (subscribe_body id filter) - 1) 0) 1 ≡ true =
    eq-eqb (get_or (subscribe_body id filter) (length (subscribe_body id filter) - 1) 0) 1 fourth in
    subscribe_from
    (subscribe_body id filter)
    id
    filter
    (and_from _ _ (and_from _ _ (and_from _ _ (and_from _ _ (and_from _ _ long above) no_props) size) is_plain) options)
    first
    third
