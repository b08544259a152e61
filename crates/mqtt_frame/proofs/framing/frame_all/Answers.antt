use Rattle.std.proofs.Common.{◌≡◌, ℕ, ◌+◌, ◌-◌, List, [], ◌∷◌, ◌++◌, length, take, drop, ap, sym, ◌∙◌, append_assoc, arith}
use Rattle.std.proofs.lemmas.List.{length-drop}
use Rattle.mqtt_frame.specs.Framing.{front_of}
use Rattle.mqtt_frame.proofs.StepLemmas.{one_more, slice_behind, stopped_begun, stopped_refused}
use Rattle.mqtt_frame.proofs.framing.frame_all.Goals as goal

pub loop-size-preserved : goal.loop-size-preserved
loop-size-preserved c =
    let i = c.loop-size.invariant in
    let at : ℕ = c.loop-size.at in
    let size : ℕ = c.in-Whole.size in
    let bytes : List ℕ = c.args.bytes.now in
    let e = c.in-Whole.ensures in
    let there = e.there in
    let tail = slice_behind bytes at in
    let packet : List ℕ = take size (drop at bytes) in
    let sized : at + size - at ≡ size = omega arith in
    record {
      within = omega (arith, ap length tail, length-drop at bytes);
      given = i.given ++ packet ∷ [];
      added = c.in_ok-push_packet-in-Whole.ensures.ok
          ∙ ap (λ (n : ℕ). c.loop-size.out.items ++ take n (drop at bytes) ∷ []) sized
          ∙ ap (λ (t : List (List ℕ)). t ++ packet ∷ []) i.added
          ∙ append_assoc c.args.out.now.items i.given (packet ∷ []);
      left = one_more c.args.limit at size bytes i.given i.left (ap (front_of c.args.limit) (sym tail) ∙ sym e.exact);
    }

pub returns-in-Begun-clause-ok : goal.returns-in-Begun-clause-ok
returns-in-Begun-clause-ok c =
    let i = c.loop-size.invariant in
    let tail = slice_behind c.args.bytes.now c.loop-size.at in
    stopped_begun c.args.limit c.loop-size.at c.args.bytes.now i.given c.args.out.now.items c.loop-size.out.items i.left (ap (front_of c.args.limit) (sym tail) ∙ sym c.in-Begun.ensures.exact) i.added i.within

pub returns-in-Refused-clause-ok : goal.returns-in-Refused-clause-ok
returns-in-Refused-clause-ok c =
    let i = c.loop-size.invariant in
    let tail = slice_behind c.args.bytes.now c.loop-size.at in
    stopped_refused c.args.limit c.loop-size.at c.in-Refused.header c.args.bytes.now i.given c.args.out.now.items c.loop-size.out.items i.left (ap (front_of c.args.limit) (sym tail) ∙ sym c.in-Refused.ensures.exact) i.added i.within
