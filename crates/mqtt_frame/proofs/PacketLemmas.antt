-- Whole packets are framed, and what is framed is whole packets.
use Rattle.std.proofs.Common.{◌≡◌, ℕ, zero, suc, ◌+◌, ◌≤◌, Bool, true, false, List, [], ◌∷◌, ◌++◌, length, take, drop, Result, Ok, Err, refl, sym, ap, subst, ◌∙◌, append_assoc, arith}
use Rattle.std.specs.Prelude.{nat_lt, nat_le}
use Rattle.std.proofs.Math.Seq.{take-append_seam, drop-append_seam, take-append-add}
use Rattle.std.proofs.lemmas.Bool.{le-leb, le-ltb, leb-true, ltb-false}
use Rattle.std.proofs.lemmas.List.{length-append, length-drop, length-take, take-append-drop}
use Rattle.wire_fields.specs.declared.cut.Cut.{Cut}
use Rattle.wire_fields.specs.declared.cut.Cut.TheVariants.{Short, Bad}
use Rattle.wire_fields.specs.Spelled.{spelled_var}
use Rattle.wire_fields.specs.Reading.{var_at, AreBytes}
use Rattle.wire_fields.specs.Places.{are_bytes_drop, are_bytes_rest}
use Rattle.wire_fields.specs.VarLaws.{var_again, var_takes}
use Rattle.mqtt_frame.specs.declared.front.Front.{Front}
use Rattle.mqtt_frame.specs.declared.front.Front.TheVariants.{Whole, Begun, Refused}
use Rattle.mqtt_frame.specs.Framing.{Framed, packet_size, front_sized, front_with, front_of, framed}
use Rattle.mqtt_frame.specs.PlainFramer.{joined}
use Rattle.mqtt_frame.specs.Packets.{packet_of, IsPacket, ArePackets, behind_packets}
use Rattle.mqtt_frame.proofs.FrontLemmas.{by_tests, tests_whole, front_none, front_there}
use Rattle.mqtt_frame.proofs.FramedLemmas.{prefixed, framed_whole, framed_begun, framed_refused}

-- ---- a whole packet is framed

tests_pass : (over fits : Bool) (n : ℕ) → over ≡ false → fits ≡ true → by_tests over fits n ≡ Whole n
unfolding by_tests
tests_pass true fits n e h = absurd cc
tests_pass false true n e h = refl
tests_pass false false n e h = absurd cc

sized_passes : (limit there n : ℕ) → n ≤ limit → n ≤ there → front_sized limit there n ≡ Whole n
unfolding by_tests
sized_passes limit there n within fits = tests_pass (nat_lt limit n) (nat_le n there) n (le-ltb limit n within) (le-leb n there fits)

packet_length : (first : ℕ) (body : List ℕ) → length (packet_of first body) ≡ packet_size (length body)
packet_length first body = omega (arith, length-append (first ∷ spelled_var (length body)) body)

front_packet : (limit first : ℕ) (body more : List ℕ) → length body ≤ 268435455 → length (packet_of first body) ≤ limit → front_of limit (packet_of first body ++ more) ≡ Whole (length (packet_of first body))
unfolding front_of
front_packet limit first body more can within =
    let there : ℕ = length (packet_of first body ++ more) in
    let n : ℕ = length body in
    let size = packet_length first body in
    let fits : packet_size n ≤ there = omega (arith, length-append (packet_of first body) more) in
    let small : packet_size n ≤ limit = omega arith in
    ap (λ (t : List ℕ). front_with limit there (var_at t)) (append_assoc (spelled_var n) body more)
    ∙ ap (front_with limit there) (var_again n (body ++ more) can)
    ∙ sized_passes limit there (packet_size n) small fits
    ∙ ap Whole (sym size)

framed_packet : (limit : ℕ) (packet more : List ℕ) → IsPacket limit packet → framed limit (packet ++ more) ≡ prefixed (packet ∷ []) (framed limit more)
framed_packet limit packet more p =
    let whole : front_of limit (packet ++ more) ≡ Whole (length packet) =
    subst (λ (t : List ℕ). front_of limit (t ++ more) ≡ Whole (length t)) (sym p.parts) (front_packet limit p.first p.body more p.has_length (subst (λ (t : List ℕ). length t ≤ limit) p.parts p.within)) in
    framed_whole limit (length packet) (packet ++ more) whole
    ∙ ap (λ (t : List ℕ). prefixed (t ∷ []) (framed limit (drop (length packet) (packet ++ more)))) (take-append_seam packet more)
    ∙ ap (λ (t : List ℕ). prefixed (packet ∷ []) (framed limit t)) (drop-append_seam packet more)

pub packets_framed : (limit : ℕ) (packets : List (List ℕ)) (rest : List ℕ) → ArePackets limit packets → framed limit (joined packets ++ rest) ≡ behind_packets packets (framed limit rest)
packets_framed limit [] rest all = refl
packets_framed limit (packet ∷ packets) rest all =
    let later : framed limit (joined packets ++ rest) ≡ behind_packets packets (framed limit rest) = packets_framed limit packets rest all.1 in
    ap (framed limit) (append_assoc packet (joined packets) rest)
    ∙ framed_packet limit packet (joined packets ++ rest) all.0
    ∙ ap (prefixed (packet ∷ [])) later

-- ---- what is framed is whole packets

pub record Read (limit there size : ℕ) (read : Result (ℕ × List ℕ) Cut) : Type 0 where
  pub found : ℕ × List ℕ
  pub is : read ≡ Ok found
  pub sized : packet_size found.0 ≡ size
  pub within : size ≤ limit
  pub fits : size ≤ there

with_read : (limit there size : ℕ) (read : Result (ℕ × List ℕ) Cut) → front_with limit there read ≡ Whole size → Read limit there size read
unfolding by_tests
with_read limit there size (Ok x) e =
    let n : ℕ = packet_size x.0 in
    let tests = tests_whole (nat_lt limit n) (nat_le n there) n size e in
    let least : n ≤ limit = ltb-false limit n tests.0 in
    let most : n ≤ there = leb-true n there tests.1 in
    let is : n ≡ size = tests.2 in
    record { found = x; is = refl; sized = is; within = omega arith; fits = omega arith }
with_read limit there size (Err Short) e = absurd cc
with_read limit there size (Err Bad) e = absurd cc

front_read : (limit size first : ℕ) (stream : List ℕ) → front_of limit (first ∷ stream) ≡ Whole size → Read limit (length (first ∷ stream)) size (var_at stream)
unfolding front_of
front_read limit size first stream e = with_read limit (length (first ∷ stream)) size (var_at stream) e

pub whole_is_packet : (limit size : ℕ) (stream : List ℕ) → AreBytes stream → front_of limit stream ≡ Whole size → IsPacket limit (take size stream)
whole_is_packet limit size [] bytes e = absurd (let none = sym (front_none limit) ∙ e in cc)
whole_is_packet limit size (first ∷ stream) bytes e =
    let r = front_read limit size first stream e in
    let n : ℕ = r.found.0 in
    let others : List ℕ = r.found.1 in
    let took = var_takes stream r.found (are_bytes_rest first stream bytes) r.is in
    let spelling : List ℕ = spelled_var n in
    let sized : packet_size n ≡ size = r.sized in
    let whole : length stream ≡ length spelling + length others = ap length took.parts ∙ length-append spelling others in
    let fits : size ≤ suc (length stream) = r.fits in
    let many : n ≤ length others = omega arith in
    let body : List ℕ = take n others in
    let count : length body ≡ n = omega (arith, length-take n others) in
    let steps : size ≡ suc (length spelling + n) = omega arith in
    let parts : take size (first ∷ stream) ≡ packet_of first body =
    ap (λ (k : ℕ). take k (first ∷ stream)) steps
    ∙ ap (λ (t : List ℕ). first ∷ take (length spelling + n) t) took.parts
    ∙ ap (λ (t : List ℕ). first ∷ t) (take-append-add spelling others n)
    ∙ ap (λ (k : ℕ). first ∷ spelled_var k ++ body) (sym count) in
    let size_of : length (take size (first ∷ stream)) ≤ size = omega (arith, length-take size (first ∷ stream)) in
    record {
      first = first;
      body = body;
      parts = parts;
      has_length = omega (arith, took.in_range);
      within = omega (arith, r.within);
    }

-- the packets are whole ones, and with the rest behind them they are the stream
pub record IsCut (limit : ℕ) (cut : Framed) (stream : List ℕ) : Type 0 where
  pub packets : ArePackets limit cut.packets
  pub all : joined cut.packets ++ cut.rest ≡ stream

cut_whole : (limit size : ℕ) (stream : List ℕ) → AreBytes stream → front_of limit stream ≡ Whole size → IsCut limit (framed limit (drop size stream)) (drop size stream) → IsCut limit (framed limit stream) stream
cut_whole limit size stream bytes e later =
    let cut : Framed = framed limit (drop size stream) in
    subst (λ (f : Framed). IsCut limit f stream) (sym (framed_whole limit size stream e)) (record {
      packets = (whole_is_packet limit size stream bytes e, later.packets);
      all = append_assoc (take size stream) (joined cut.packets) cut.rest ∙ ap (λ (t : List ℕ). take size stream ++ t) later.all ∙ take-append-drop size stream;
    })

cut_by : (limit : ℕ) (stream : List ℕ) → AreBytes stream → (front : Front) → front_of limit stream ≡ front → ((size : ℕ) → front ≡ Whole size → IsCut limit (framed limit (drop size stream)) (drop size stream)) → IsCut limit (framed limit stream) stream
cut_by limit stream bytes (Whole size) e later = cut_whole limit size stream bytes e (later size refl)
cut_by limit stream bytes Begun e later = subst (λ (f : Framed). IsCut limit f stream) (sym (framed_begun limit stream e)) (record { packets = tt; all = refl })
cut_by limit stream bytes (Refused header) e later = subst (λ (f : Framed). IsCut limit f stream) (sym (framed_refused limit header stream e)) (record { packets = tt; all = refl })

cut_within : (n limit : ℕ) (stream : List ℕ) → AreBytes stream → length stream ≤ n → IsCut limit (framed limit stream) stream
cut_within zero limit [] bytes h = cut_by limit [] bytes Begun (front_none limit) (λ size e. absurd cc)
cut_within zero limit (x ∷ stream) bytes h = absurd (omega arith)
cut_within (suc n) limit stream bytes h =
    cut_by limit stream bytes (front_of limit stream) refl
    (λ size e. let there = front_there limit size stream e in cut_within n limit (drop size stream) (are_bytes_drop size stream bytes) (omega (arith, length-drop size stream)))

pub is_cut : (limit : ℕ) (stream : List ℕ) → AreBytes stream → IsCut limit (framed limit stream) stream
is_cut limit stream bytes = cut_within (length stream) limit stream bytes (omega arith)
