-- Printable bytes are text.
use Rattle.std.proofs.Common.{◌≡◌, ℕ, ◌≤◌, true, ◌||◌, not, eqb, leb, List, [], ◌∷◌, length, refl, arith, zero, suc}
use Rattle.std.specs.List.{list_all}
use Rattle.std.specs.Str.{IsAscii, IsUtf8}
use Rattle.std.proofs.lemmas.Bool.{and_parts, and_from, leb-true}
use Rattle.std.proofs.lemmas.Str.{IsUtf8-from_ascii}
use Rattle.first_mqtt_packet.specs.Reading.{is_text_byte, is_topic_byte, is_plain_topic, is_plain_client, is_subscribe, is_publish, filter_at, topic_at}

ascii : (xs : List ℕ) → list_all is_text_byte xs ≡ true → IsAscii xs
ascii [] all i = omega arith
ascii (x ∷ xs) all zero =
    let here = (and_parts (is_text_byte x) (list_all is_text_byte xs) all).0 in
    let most = leb-true x 126 (and_parts (leb 33 x) (leb x 126) here).1 in
    omega (arith, most)
ascii (x ∷ xs) all (suc i) = ascii xs (and_parts (is_text_byte x) (list_all is_text_byte xs) all).1 i

pub text_is_utf8 : (xs : List ℕ) → list_all is_text_byte xs ≡ true → IsUtf8 xs
text_is_utf8 xs all = IsUtf8-from_ascii xs (ascii xs all)

-- what has no wildcard is printable
topic_bytes : (xs : List ℕ) → list_all is_topic_byte xs ≡ true → list_all is_text_byte xs ≡ true
topic_bytes [] all = refl
topic_bytes (x ∷ xs) all =
    let both = and_parts (is_topic_byte x) (list_all is_topic_byte xs) all in
    and_from (is_text_byte x) (list_all is_text_byte xs) (and_parts (is_text_byte x) (not (eqb x 35 || eqb x 43)) both.0).0 (topic_bytes xs both.1)

plain_is_text : (xs : List ℕ) → is_plain_topic xs ≡ true → list_all is_text_byte xs ≡ true
plain_is_text xs plain = topic_bytes xs (and_parts _ _ (and_parts _ _ (and_parts _ _ plain).0).0).1

pub plain_short : (xs : List ℕ) → is_plain_topic xs ≡ true → length xs ≤ 1024
plain_short xs plain = leb-true (length xs) 1024 (and_parts _ _ (and_parts _ _ (and_parts _ _ (and_parts _ _ plain).0).0).0).1

pub client_short : (xs : List ℕ) → is_plain_client xs ≡ true → length xs ≤ 256
client_short xs plain = leb-true (length xs) 256 (and_parts _ _ (and_parts _ _ plain).0).1

pub filter_is_text : (body : List ℕ) → is_subscribe body ≡ true → list_all is_text_byte (filter_at body) ≡ true
filter_is_text body is = plain_is_text (filter_at body) (and_parts _ _ (and_parts _ _ is).0).1

pub topic_is_text : (body : List ℕ) → is_publish body ≡ true → list_all is_text_byte (topic_at body) ≡ true
topic_is_text body is = plain_is_text (topic_at body) (and_parts _ _ (and_parts _ _ (and_parts _ _ is).0).0).1
