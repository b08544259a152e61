-- The form of a message and of each kind of operation.
use Rattle.std.proofs.Common.{◌≡◌, ℕ, Bool, true, false, ◌&&◌, ◌==◌, List, ◌++◌, is_none, Option, Some, None, refl, sym, ap, subst, ◌∙◌}
use Rattle.std.proofs.lemmas.Bool.{and_parts, and_from, eqb-true, eq-eqb}
use Rattle.wire_fields.specs.Spelled.{spelled_u8}
use Rattle.topic_model.specs.StoredMessage.{StoredMessage}
use Rattle.topic_name.specs.KeptMessage.{ColdPlace, KeptMessage}
use Rattle.session_codec.specs.HasSpelling.{fits_u8, fits_u16, fits_u64}
use Rattle.session_codec.specs.Reading.{two_at, made, both}
use Rattle.session_codec.specs.Forms.{IsForm, then_form, both_form, made_form, if_form, none_form}
use Rattle.session_codec.specs.PartForms.{byte_form, two_form, eight_form}
use Rattle.record_codec.specs.declared.group.Op.{Op}
use Rattle.record_codec.specs.declared.group.Op.TheVariants.{Store, Release, Forget}
use Rattle.record_codec.specs.Spelling.{store_tag, tag_of, spelled_message, spelled_body, spelled_op}
use Rattle.record_codec.specs.HasSpelling.{fits_blob, fits_props, fits_topic, fits_delivery, fits_sender, fits_expiry, fits_message_if, fits_message, fits_store, fits_op}
use Rattle.record_codec.specs.Reading.{sender_at, Told, told_at, message_of, store_at, release_of, forget_of, body_at, behind_tag, op_at}
use Rattle.record_codec.specs.FieldForms.{fits_expiry_as, expiry_form, sender_form, delivery_form, topic_form, props_form, blob_form}

-- ---- what is told of a message

abbrev told_of : StoredMessage → Told
told_of m = ((m.publisher, m.incarnation), ((m.id, m.qos), (m.stamp, (m.expiry, (m.topic, (m.props, m.payload))))))

-- a told message has a spelling where its expiry is there or not
abbrev fits_told : Bool → Told → Bool
fits_told expires t = fits_message_if (fits_expiry_as expires t.1.1.1.0) (message_of 0 t).stored

abbrev spelled_as_told : Told → List ℕ
spelled_as_told t = spelled_message (message_of 0 t).stored

told_form : (expires : Bool) → IsForm (fits_told expires) spelled_as_told (told_at expires)
told_form expires =
    both_form sender_form (both_form delivery_form (both_form eight_form (both_form (expiry_form expires) (both_form topic_form (both_form props_form blob_form)))))

-- ---- whether a message expires

abbrev expires_as : Bool → Option ℕ → Bool
expires_as true None = false
expires_as true (Some seconds) = true
expires_as false None = true
expires_as false (Some seconds) = false

same_test : (expires : Bool) (e : Option ℕ) → expires_as expires e ≡ true → fits_expiry e ≡ fits_expiry_as expires e
same_test true None h = absurd cc
same_test true (Some seconds) h = refl
same_test false None h = refl
same_test false (Some seconds) h = absurd cc

then_expires : (expires : Bool) (e : Option ℕ) → fits_expiry_as expires e ≡ true → expires_as expires e ≡ true
then_expires true None h = absurd cc
then_expires true (Some seconds) h = refl
then_expires false None h = refl
then_expires false (Some seconds) h = absurd cc

-- the test of the expiry among those of a message
expiry_of : (c : Bool) (m : StoredMessage) → fits_message_if c m ≡ true → c ≡ true
expiry_of c m h =
    let rest : Bool = fits_topic m.topic && (fits_props m.props && fits_blob m.payload) in
    let one = and_parts (fits_sender m.publisher m.incarnation) (fits_delivery m.id m.qos && (fits_u64 m.stamp && (c && rest))) h in
    let two = and_parts (fits_delivery m.id m.qos) (fits_u64 m.stamp && (c && rest)) one.1 in
    let three = and_parts (fits_u64 m.stamp) (c && rest) two.1 in
    (and_parts c rest three.1).0

-- ---- a message with this offset

abbrev is_store : ℕ → Bool → KeptMessage → Bool
is_store offset expires m = fits_store offset m && expires_as expires m.stored.expiry

no_place : (place : Option ColdPlace) → is_none place ≡ true → None ≡ place
no_place None h = refl
no_place (Some p) h = absurd cc

store_from : (offset : ℕ) (expires : Bool) (m : KeptMessage) → is_store offset expires m ≡ true →
    (t : Told) × (message_of offset t ≡ m) × (fits_told expires t ≡ true)
store_from offset expires m h =
    let p = and_parts (fits_store offset m) (expires_as expires m.stored.expiry) h in
    let q = and_parts ((m.stored.offset == offset) && fits_u64 offset) (is_none m.place && fits_message m.stored) p.0 in
    let at : m.stored.offset ≡ offset = eqb-true m.stored.offset offset (and_parts (m.stored.offset == offset) (fits_u64 offset) q.0).0 in
    let r = and_parts (is_none m.place) (fits_message m.stored) q.1 in
    let here : None ≡ m.place = no_place m.place r.0 in
    let there : offset ≡ m.stored.offset = sym at in (
      told_of m.stored,
      (λ i. record { stored = record m.stored { offset = there i }; place = here i }),
      ap (λ c. fits_message_if c m.stored) (sym (same_test expires m.stored.expiry p.1)) ∙ r.1,
    )

store_to : (offset : ℕ) (expires : Bool) → fits_u64 offset ≡ true → (t : Told) → fits_told expires t ≡ true →
    (is_store offset expires (message_of offset t) ≡ true) × (spelled_message (message_of offset t).stored ≡ spelled_as_told t)
store_to offset expires small t h =
    let m : KeptMessage = message_of offset t in
    let e : Option ℕ = m.stored.expiry in
    let same : expires_as expires e ≡ true = then_expires expires e (expiry_of (fits_expiry_as expires e) m.stored h) in
    let told : fits_message m.stored ≡ true = ap (λ c. fits_message_if c m.stored) (same_test expires e same) ∙ h in
    let at : ((offset == offset) && fits_u64 offset) ≡ true = and_from (offset == offset) (fits_u64 offset) (eq-eqb offset offset refl) small in
    (and_from (fits_store offset m) (expires_as expires e) (and_from ((offset == offset) && fits_u64 offset) (fits_message m.stored) at told) same, refl)

-- no message has an offset that isn't a number of eight bytes
too_far : (offset : ℕ) (expires : Bool) → fits_u64 offset ≡ false → (m : KeptMessage) → is_store offset expires m ≡ false
too_far offset expires large m =
    no_less (m.stored.offset == offset) (fits_u64 offset) (is_none m.place && fits_message m.stored) (expires_as expires m.stored.expiry) large
  where
    no_less : (a b c d : Bool) → b ≡ false → (((a && b) && c) && d) ≡ false
    no_less true b c d e = ap (λ b. (b && c) && d) e
    no_less false b c d e = refl

store_form : (offset : ℕ) (expires : Bool) → IsForm (is_store offset expires) (λ (m : KeptMessage). spelled_message m.stored) (store_at offset expires)
store_form offset expires =
    if_form (fits_u64 offset)
    (λ small. made_form (is_store offset expires) (λ (m : KeptMessage). spelled_message m.stored) (message_of offset) (told_form expires) (store_from offset expires) (store_to offset expires small))
    (λ large. none_form (too_far offset expires large))

-- ---- the operations of one kind

-- an operation of this kind that has a spelling
abbrev is_kind : ℕ → ℕ → Op → Bool
is_kind offset tag op = (tag == tag_of op) && fits_op offset op

-- the tag of a Store tells whether its message expires
tells : Bool → ℕ
tells true = 4
tells false = 1

tag_tells : (e : Option ℕ) → (1 == store_tag e) ≡ true → expires_as false e ≡ true
tag_tells None h = refl
tag_tells (Some seconds) h = absurd cc

tag_tells_expiry : (e : Option ℕ) → (4 == store_tag e) ≡ true → expires_as true e ≡ true
tag_tells_expiry None h = absurd cc
tag_tells_expiry (Some seconds) h = refl

told_by_tag : (e : Option ℕ) → expires_as false e ≡ true → (1 == store_tag e) ≡ true
told_by_tag None h = refl
told_by_tag (Some seconds) h = absurd cc

expiry_told_by_tag : (e : Option ℕ) → expires_as true e ≡ true → (4 == store_tag e) ≡ true
expiry_told_by_tag None h = absurd cc
expiry_told_by_tag (Some seconds) h = refl

store_kind_from : (offset : ℕ) (op : Op) → is_kind offset 1 op ≡ true → (m : KeptMessage) × (Store m ≡ op) × (is_store offset false m ≡ true)
store_kind_from offset (Store m) h =
    let p = and_parts (1 == store_tag m.stored.expiry) (fits_store offset m) h in
    (m, refl, and_from (fits_store offset m) (expires_as false m.stored.expiry) p.1 (tag_tells m.stored.expiry p.0))
store_kind_from offset other h = absurd cc

store_kind_to : (offset : ℕ) (m : KeptMessage) → is_store offset false m ≡ true → (is_kind offset 1 (Store m) ≡ true) × (spelled_message m.stored ≡ spelled_message m.stored)
store_kind_to offset m h =
    let p = and_parts (fits_store offset m) (expires_as false m.stored.expiry) h in
    (and_from (1 == store_tag m.stored.expiry) (fits_store offset m) (told_by_tag m.stored.expiry p.1) p.0, refl)

store_kind : (offset : ℕ) → IsForm (is_kind offset 1) spelled_body (made Store (store_at offset false))
store_kind offset = made_form (is_kind offset 1) spelled_body Store (store_form offset false) (store_kind_from offset) (store_kind_to offset)

expiring_kind_from : (offset : ℕ) (op : Op) → is_kind offset 4 op ≡ true → (m : KeptMessage) × (Store m ≡ op) × (is_store offset true m ≡ true)
expiring_kind_from offset (Store m) h =
    let p = and_parts (4 == store_tag m.stored.expiry) (fits_store offset m) h in
    (m, refl, and_from (fits_store offset m) (expires_as true m.stored.expiry) p.1 (tag_tells_expiry m.stored.expiry p.0))
expiring_kind_from offset other h = absurd cc

expiring_kind_to : (offset : ℕ) (m : KeptMessage) → is_store offset true m ≡ true → (is_kind offset 4 (Store m) ≡ true) × (spelled_message m.stored ≡ spelled_message m.stored)
expiring_kind_to offset m h =
    let p = and_parts (fits_store offset m) (expires_as true m.stored.expiry) h in
    (and_from (4 == store_tag m.stored.expiry) (fits_store offset m) (expiry_told_by_tag m.stored.expiry p.1) p.0, refl)

expiring_kind : (offset : ℕ) → IsForm (is_kind offset 4) spelled_body (made Store (store_at offset true))
expiring_kind offset = made_form (is_kind offset 4) spelled_body Store (store_form offset true) (expiring_kind_from offset) (expiring_kind_to offset)

-- no message is told to be of another kind
not_a_store : (tag : ℕ) (e : Option ℕ) (b : Bool) → (tag == 1) ≡ false → (tag == 4) ≡ false → ((tag == store_tag e) && b) ≡ false
not_a_store tag None b h1 h4 = ap (λ c. c && b) h1
not_a_store tag (Some seconds) b h1 h4 = ap (λ c. c && b) h4

release_from : (offset : ℕ) (op : Op) → is_kind offset 2 op ≡ true →
    (x : (List ℕ × ℕ) × ℕ) × (release_of x ≡ op) × ((fits_sender x.0.0 x.0.1 && fits_u16 x.1) ≡ true)
release_from offset (Store m) h = absurd (let e = sym (not_a_store 2 m.stored.expiry (fits_store offset m) refl refl) ∙ h in cc)
release_from offset (Release publisher incarnation id) h = (((publisher, incarnation), id), refl, h)
release_from offset (Forget publisher incarnation) h = absurd cc

release_kind : (offset : ℕ) → IsForm (is_kind offset 2) spelled_body (made release_of (both sender_at two_at))
release_kind offset =
    made_form (is_kind offset 2) spelled_body release_of (both_form sender_form two_form) (release_from offset) (λ x h. (h, refl))

forget_from : (offset : ℕ) (op : Op) → is_kind offset 3 op ≡ true → (x : List ℕ × ℕ) × (forget_of x ≡ op) × (fits_sender x.0 x.1 ≡ true)
forget_from offset (Store m) h = absurd (let e = sym (not_a_store 3 m.stored.expiry (fits_store offset m) refl refl) ∙ h in cc)
forget_from offset (Release publisher incarnation id) h = absurd cc
forget_from offset (Forget publisher incarnation) h = ((publisher, incarnation), refl, h)

forget_kind : (offset : ℕ) → IsForm (is_kind offset 3) spelled_body (made forget_of sender_at)
forget_kind offset = made_form (is_kind offset 3) spelled_body forget_of sender_form (forget_from offset) (λ x h. (h, refl))

-- ---- an operation, by the byte that tells its kind

of_tag : (offset tag k : ℕ) (read : List ℕ → Option (Op × List ℕ)) → IsForm (is_kind offset k) spelled_body read → (tag == k) ≡ true →
    IsForm (is_kind offset tag) spelled_body read
of_tag offset tag k read is e = subst (λ (t : ℕ). IsForm (is_kind offset t) spelled_body read) (sym (eqb-true tag k e)) is

no_tag : (offset tag : ℕ) → (tag == 1) ≡ false → (tag == 2) ≡ false → (tag == 3) ≡ false → (tag == 4) ≡ false → (op : Op) → is_kind offset tag op ≡ false
no_tag offset tag h1 h2 h3 h4 (Store m) = not_a_store tag m.stored.expiry (fits_store offset m) h1 h4
no_tag offset tag h1 h2 h3 h4 (Release publisher incarnation id) = ap (λ b. b && fits_op offset (Release publisher incarnation id)) h2
no_tag offset tag h1 h2 h3 h4 (Forget publisher incarnation) = ap (λ b. b && fits_op offset (Forget publisher incarnation)) h3

body_form : (offset tag : ℕ) → IsForm (is_kind offset tag) spelled_body (body_at offset tag)
body_form offset tag =
    if_form (tag == 1) (of_tag offset tag 1 (made Store (store_at offset false)) (store_kind offset)) (λ h1.
    if_form (tag == 2) (of_tag offset tag 2 (made release_of (both sender_at two_at)) (release_kind offset)) (λ h2.
    if_form (tag == 3) (of_tag offset tag 3 (made forget_of sender_at) (forget_kind offset)) (λ h3.
    if_form (tag == 4) (of_tag offset tag 4 (made Store (store_at offset true)) (expiring_kind offset)) (λ h4.
    none_form (no_tag offset tag h1 h2 h3 h4)))))

small_store : (e : Option ℕ) → fits_u8 (store_tag e) ≡ true
small_store None = refl
small_store (Some seconds) = refl

small_tag : (op : Op) → fits_u8 (tag_of op) ≡ true
small_tag (Store m) = small_store m.stored.expiry
small_tag (Release publisher incarnation id) = refl
small_tag (Forget publisher incarnation) = refl

pub op_form : (offset : ℕ) → IsForm (fits_op offset) spelled_op (op_at offset)
op_form offset =
    made_form (fits_op offset) spelled_op behind_tag (then_form byte_form (λ tag h. body_form offset tag))
    (λ op h. (
      (tag_of op, op),
      refl,
      and_from (fits_u8 (tag_of op)) (is_kind offset (tag_of op) op) (small_tag op)
          (and_from (tag_of op == tag_of op) (fits_op offset op) (eq-eqb (tag_of op) (tag_of op) refl) h),
    ))
    (λ x h.
    let p = and_parts (fits_u8 x.0) (is_kind offset x.0 x.1) h in
    let q = and_parts (x.0 == tag_of x.1) (fits_op offset x.1) p.1 in
    (q.1, ap (λ n. spelled_u8 n ++ spelled_body x.1) (sym (eqb-true x.0 (tag_of x.1) q.0))))
