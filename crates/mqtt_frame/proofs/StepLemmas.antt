-- The steps of a feed: packet by packet through some bytes, and from what was kept to what follows it.
use Rattle.std.proofs.Common.{◌≡◌, ℕ, ◌+◌, ◌-◌, ◌≤◌, List, [], ◌∷◌, ◌++◌, length, take, drop, Option, Some, None, Result, Ok, Err, refl, sym, ap, subst, ◌∙◌, append_assoc, arith}
use Rattle.std.specs.Prelude.{OnErr}
use Rattle.std.proofs.Math.Seq.{take-append_seam, take_all, drop-drop}
use Rattle.std.proofs.lemmas.List.{append-nil, length-drop, take-append-drop, drop_all}
use Rattle.mqtt_frame.specs.declared.front.Front.TheVariants.{Whole, Begun, Refused}
use Rattle.mqtt_frame.specs.declared.refused.BadHeader.{BadHeader}
use Rattle.mqtt_frame.specs.declared.framing.Stopped.{Stopped}
use Rattle.mqtt_frame.specs.Framing.{Framed, front_of, framed}
use Rattle.mqtt_frame.specs.PlainFramer.{kept_of}
use Rattle.mqtt_frame.specs.Steps.{Extends, IsFramed, IsStopped}
use Rattle.mqtt_frame.proofs.FramedLemmas.{prefixed, none_whole, more_of, framed_whole, framed_begun, framed_refused, framed_joint}

-- the bytes from a place on
pub slice_behind : (bytes : List ℕ) (at : ℕ) → take (length bytes - at) (drop at bytes) ≡ drop at bytes
slice_behind bytes at = take_all (length bytes - at) (drop at bytes) (omega (arith, length-drop at bytes))

-- ---- packet by packet

abbrev pub IsLeft : ℕ → List ℕ → ℕ → List (List ℕ) → Type 0
IsLeft limit bytes at given = framed limit bytes ≡ prefixed given (framed limit (drop at bytes))

pub one_more : (limit at size : ℕ) (bytes : List ℕ) (given : List (List ℕ)) → IsLeft limit bytes at given → front_of limit (drop at bytes) ≡ Whole size → IsLeft limit bytes (at + size) (given ++ take size (drop at bytes) ∷ [])
one_more limit at size bytes given left e =
    let packet : List ℕ = take size (drop at bytes) in
    let later : Framed = framed limit (drop (at + size) bytes) in
    left
    ∙ ap (prefixed given) (framed_whole limit size (drop at bytes) e)
    ∙ ap (λ (s : List ℕ). prefixed given (prefixed (packet ∷ []) (framed limit s))) (drop-drop size at bytes)
    ∙ ap (λ (all : List (List ℕ)). record { packets = all; rest = later.rest; bad = later.bad }) (sym (append_assoc given (packet ∷ []) later.packets))

stopped_at : (limit at : ℕ) (bytes : List ℕ) (given : List (List ℕ)) (bad : Option BadHeader) → IsLeft limit bytes at given → framed limit (drop at bytes) ≡ none_whole (drop at bytes) bad
    → framed limit bytes ≡ record { packets = given; rest = drop at bytes; bad = bad }
stopped_at limit at bytes given bad left e =
    left
    ∙ ap (prefixed given) e
    ∙ ap (λ (all : List (List ℕ)). record { packets = all; rest = drop at bytes; bad = bad }) (append-nil given)

is_stopped : (cut : Framed) (stopped : Stopped) (bytes : List ℕ) (given old new : List (List ℕ)) → cut ≡ record { packets = given; rest = drop stopped.at bytes; bad = stopped.bad } → new ≡ old ++ given → stopped.at ≤ length bytes → IsStopped cut stopped bytes old new
is_stopped cut stopped bytes given old new e added within =
    subst (λ (f : Framed). IsStopped f stopped bytes old new) (sym e) (record { packets = added; rest = refl; within = within; bad = refl })

pub stopped_begun : (limit at : ℕ) (bytes : List ℕ) (given old new : List (List ℕ)) → IsLeft limit bytes at given → front_of limit (drop at bytes) ≡ Begun → new ≡ old ++ given → at ≤ length bytes → IsStopped (framed limit bytes) (record { at = at; bad = None }) bytes old new
stopped_begun limit at bytes given old new left e added within =
    is_stopped (framed limit bytes) (record { at = at; bad = None }) bytes given old new (stopped_at limit at bytes given None left (framed_begun limit (drop at bytes) e)) added within

pub stopped_refused : (limit at : ℕ) (header : BadHeader) (bytes : List ℕ) (given old new : List (List ℕ)) → IsLeft limit bytes at given → front_of limit (drop at bytes) ≡ Refused header → new ≡ old ++ given → at ≤ length bytes → IsStopped (framed limit bytes) (record { at = at; bad = Some header }) bytes old new
stopped_refused limit at header bytes given old new left e added within =
    is_stopped (framed limit bytes) (record { at = at; bad = Some header }) bytes given old new (stopped_at limit at bytes given (Some header) left (framed_refused limit header (drop at bytes) e)) added within

-- ---- what stands in front stays

pub extends_by : {A : Type 0} (old added mid new : List A) → mid ≡ old ++ added → Extends mid new → Extends old new
extends_by old added mid new e h =
    let rest = drop (length mid) new in
    let whole : new ≡ old ++ (added ++ rest) = sym (take-append-drop (length mid) new) ∙ ap (λ t. t ++ rest) (h ∙ e) ∙ append_assoc old added rest in
    ap (take (length old)) whole ∙ take-append_seam old (added ++ rest)

pub on_err : {T E : Type 0} (r : Result T E) (P : Type 0) → P → OnErr r P
on_err (Ok x) P p = tt
on_err (Err e) P p = p

-- ---- what was kept, and what follows it

-- of bytes that are equal
pub read_as : (limit : ℕ) (read kept : List ℕ) (stopped : Stopped) (old new : List (List ℕ)) → read ≡ kept → IsStopped (framed limit read) stopped read old new → IsStopped (framed limit kept) stopped kept old new
read_as limit read kept stopped old new e s = subst (λ (t : List ℕ). IsStopped (framed limit t) stopped t old new) e s

pub of_stream : (limit : ℕ) (stream whole left : List ℕ) (bad : Option BadHeader) (old new : List (List ℕ)) → stream ≡ whole → IsFramed (framed limit stream) bad left old new → IsFramed (framed limit whole) bad left old new
of_stream limit stream whole left bad old new e s = subst (λ (t : List ℕ). IsFramed (framed limit t) bad left old new) e s

pub in_two : (kept piece first : List ℕ) (missing : ℕ) → first ≡ kept ++ take missing piece → first ++ drop missing piece ≡ kept ++ piece
in_two kept piece first missing e =
    ap (λ (t : List ℕ). t ++ drop missing piece) e
    ∙ append_assoc kept (take missing piece) (drop missing piece)
    ∙ ap (λ (t : List ℕ). kept ++ t) (take-append-drop missing piece)

pub ends_here : (cut : Framed) (bytes left : List ℕ) (header : BadHeader) (stopped : Stopped) (old new : List (List ℕ)) → IsStopped cut stopped bytes old new → stopped.bad ≡ Some header → IsFramed cut (Some header) left old new
ends_here cut bytes left header stopped old new s e =
    let bad : cut.bad ≡ Some header = sym s.bad ∙ e in
    record { packets = s.packets; rest = subst (λ (b : Option BadHeader). kept_of b left ≡ kept_of b cut.rest) (sym bad) refl; bad = sym bad }

pub ends_there : (limit : ℕ) (kept others left : List ℕ) (header : BadHeader) (stopped : Stopped) (old new : List (List ℕ)) → IsStopped (framed limit kept) stopped kept old new → stopped.bad ≡ Some header
    → IsFramed (framed limit (kept ++ others)) (Some header) left old new
ends_there limit kept others left header stopped old new s e =
    let cut : Framed = framed limit kept in
    let total : framed limit (kept ++ others) ≡ record { packets = cut.packets; rest = cut.rest ++ others; bad = Some header } =
    framed_joint limit kept others ∙ ap (λ (b : Option BadHeader). more_of b limit cut.packets cut.rest others) (sym s.bad ∙ e) in
    subst (λ (f : Framed). IsFramed f (Some header) left old new) (sym total) (record { packets = s.packets; rest = refl; bad = refl })

pub goes_on : (limit : ℕ) (kept others left : List ℕ) (bad : Option BadHeader) (stopped : Stopped) (old mid new : List (List ℕ)) → IsStopped (framed limit kept) stopped kept old mid → stopped.bad ≡ None
    → IsFramed (framed limit (drop stopped.at kept ++ others)) bad left mid new → IsFramed (framed limit (kept ++ others)) bad left old new
goes_on limit kept others left bad stopped old mid new s e later =
    let cut : Framed = framed limit kept in
    let rest : Framed = framed limit (drop stopped.at kept ++ others) in
    let total : framed limit (kept ++ others) ≡ prefixed cut.packets rest =
    framed_joint limit kept others
    ∙ ap (λ (b : Option BadHeader). more_of b limit cut.packets cut.rest others) (sym s.bad ∙ e)
    ∙ ap (λ (r : List ℕ). prefixed cut.packets (framed limit (r ++ others))) (sym s.rest) in
    subst (λ (f : Framed). IsFramed f bad left old new) (sym total) (record {
      packets = later.packets ∙ ap (λ (t : List (List ℕ)). t ++ rest.packets) s.packets ∙ append_assoc old cut.packets rest.packets;
      rest = later.rest;
      bad = later.bad;
    })

-- all that was kept is given
pub goes_behind : (limit : ℕ) (kept others left : List ℕ) (bad : Option BadHeader) (stopped : Stopped) (old mid new : List (List ℕ)) → IsStopped (framed limit kept) stopped kept old mid → stopped.bad ≡ None → length kept ≤ stopped.at
    → IsFramed (framed limit others) bad left mid new → IsFramed (framed limit (kept ++ others)) bad left old new
goes_behind limit kept others left bad stopped old mid new s e all later =
    goes_on limit kept others left bad stopped old mid new s e
    (subst (λ (t : List ℕ). IsFramed (framed limit (t ++ others)) bad left mid new) (sym (drop_all stopped.at kept all)) later)
