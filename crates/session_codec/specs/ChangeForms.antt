-- The form of each kind of change, of a change, and of a record of changes.
use Rattle.std.proofs.Common.{◌≡◌, ℕ, ◌^◌, ◌≤◌, Bool, true, false, ◌&&◌, ◌==◌, List, ◌++◌, Option, refl, sym, ap, subst, arith}
use Rattle.std.specs.Prelude.{nat_lt, nat_le}
use Rattle.std.proofs.lemmas.Bool.{and_parts, and_from, eqb-true, eq-eqb, leb-true, lt-ltb}
use Rattle.wire_fields.specs.Spelled.{spelled_u8, spelled_u16, spelled_text}
use Rattle.session_model.specs.Change.{Subscribes}
use Rattle.session_state.specs.declared.change.Effect.{Effect}
use Rattle.session_state.specs.declared.change.Effect.TheVariants.{Began, Ended, Bound, Parted, Subscribed, Replaced, Unsubscribed, Issued, Acked, Received, Done, Passed}
use Rattle.session_state.specs.declared.change.Began.{Began as Beginning}
use Rattle.session_state.specs.declared.change.Parted.{Parted as Parting}
use Rattle.session_state.specs.declared.change.Replaced.{Replaced as Replacing}
use Rattle.session_state.specs.declared.change.Issued.{Issued as Issuing}
use Rattle.session_state.specs.declared.change.Passed.{Passed as Passing}
use Rattle.session_codec.specs.declared.formats.TheConstants.{MOST_CHANGES}
use Rattle.session_codec.specs.Spelling.{tag_of, spelled_began, spelled_parted, spelled_subscribed, spelled_replaced, spelled_issued, spelled_passed, spelled_effect, spelled_change, spelled_changes}
use Rattle.session_codec.specs.HasSpelling.{fits_u8, fits_u16, fits_u32, fits_u64, fits_text, fits_began, fits_parted, fits_subscribed, fits_replaced, fits_issued, fits_passed, fits_effect, fits_change, is_change_count, have_spelling}
use Rattle.session_codec.specs.Reading.{made, nothing_at, four_at, eight_at, began_of, began_at, parted_of, parted_at, subscribed_of, subscribed_at, replaced_of, replaced_at, issued_of, issued_at, passed_of, passed_at, ended_of, effect_at, change_of, change_at, change_count_at, changes_at, changes_in}
use Rattle.session_codec.specs.Forms.{IsForm, IsWhole, then_form, both_form, passing_form, made_form, record_form, refit, if_form, none_form, nothing_form, many_form, counted_form, filling_whole}
use Rattle.session_codec.specs.PartForms.{byte_form, two_form, four_form, eight_form, name_form, filter_form, moment_form, window_form, sweep_form, batch_form, narrower}

-- ---- the fields of each kind

pub began_form : (format : ℕ) → IsForm (fits_began format) (spelled_began format) (began_at format)
began_form format =
    record_form began_of (λ (b : Beginning). (b.incarnation, (b.expiry, b.window))) (λ b. refl) (λ x. refl)
    (both_form eight_form (both_form four_form (window_form format)))

pub parted_form : IsForm fits_parted spelled_parted parted_at
parted_form = record_form parted_of (λ (p : Parting). (p.expiry, p.moment)) (λ p. refl) (λ x. refl) (both_form four_form moment_form)

pub subscribed_form : (shards : ℕ) → IsForm (fits_subscribed shards) spelled_subscribed (subscribed_at shards)
subscribed_form shards =
    record_form subscribed_of (λ (s : Subscribes). (s.subscription, (s.version, (s.options, (s.identifier, (s.filter, s.sweeps)))))) (λ s. refl) (λ x. refl)
    (both_form four_form (both_form four_form (both_form byte_form (both_form four_form (both_form filter_form (many_form sweep_form shards))))))

pub replaced_form : IsForm fits_replaced spelled_replaced replaced_at
replaced_form =
    record_form replaced_of (λ (r : Replacing). (r.subscription, (r.version, (r.options, r.identifier)))) (λ r. refl) (λ x. refl)
    (both_form four_form (both_form four_form (both_form byte_form four_form)))

pub issued_form : IsForm fits_issued spelled_issued issued_at
issued_form =
    record_form issued_of (λ (i : Issuing). (i.subscription, (i.batch, i.sweep))) (λ i. refl) (λ x. refl)
    (both_form four_form (both_form batch_form sweep_form))

pub passed_form : IsForm fits_passed spelled_passed passed_at
passed_form = record_form passed_of (λ (p : Passing). (p.track, p.number)) (λ p. refl) (λ x. refl) (both_form byte_form eight_form)

-- ---- the effects of one kind

-- an effect of this kind that has a spelling
abbrev is_kind : ℕ → ℕ → ℕ → Effect → Bool
is_kind format shards tag e = (tag == tag_of e) && fits_effect format shards e

began_from : (format shards : ℕ) (e : Effect) → is_kind format shards 1 e ≡ true → (x : Beginning) × (Began x ≡ e) × (fits_began format x ≡ true)
began_from format shards (Began x) h = (x, refl, h)
began_from format shards other h = absurd cc

began_kind : (format shards : ℕ) → IsForm (is_kind format shards 1) (spelled_effect format) (made Began (began_at format))
began_kind format shards =
    made_form (is_kind format shards 1) (spelled_effect format) Began (began_form format) (began_from format shards) (λ x h. (h, refl))

ended_from : (format shards : ℕ) (e : Effect) → is_kind format shards 2 e ≡ true → (x : Unit {0}) × (ended_of x ≡ e) × (true ≡ true)
ended_from format shards Ended h = (tt, refl, refl)
ended_from format shards other h = absurd cc

ended_kind : (format shards : ℕ) → IsForm (is_kind format shards 2) (spelled_effect format) (made ended_of nothing_at)
ended_kind format shards =
    made_form (is_kind format shards 2) (spelled_effect format) ended_of nothing_form (ended_from format shards) (λ x h. (refl, refl))

bound_from : (format shards : ℕ) (e : Effect) → is_kind format shards 3 e ≡ true → (x : ℕ) × (Bound x ≡ e) × (fits_u32 x ≡ true)
bound_from format shards (Bound x) h = (x, refl, h)
bound_from format shards other h = absurd cc

bound_kind : (format shards : ℕ) → IsForm (is_kind format shards 3) (spelled_effect format) (made Bound (four_at))
bound_kind format shards =
    made_form (is_kind format shards 3) (spelled_effect format) Bound (four_form) (bound_from format shards) (λ x h. (h, refl))

parted_from : (format shards : ℕ) (e : Effect) → is_kind format shards 4 e ≡ true → (x : Parting) × (Parted x ≡ e) × (fits_parted x ≡ true)
parted_from format shards (Parted x) h = (x, refl, h)
parted_from format shards other h = absurd cc

parted_kind : (format shards : ℕ) → IsForm (is_kind format shards 4) (spelled_effect format) (made Parted (parted_at))
parted_kind format shards =
    made_form (is_kind format shards 4) (spelled_effect format) Parted (parted_form) (parted_from format shards) (λ x h. (h, refl))

subscribed_from : (format shards : ℕ) (e : Effect) → is_kind format shards 5 e ≡ true → (x : Subscribes) × (Subscribed x ≡ e) × (fits_subscribed shards x ≡ true)
subscribed_from format shards (Subscribed x) h = (x, refl, h)
subscribed_from format shards other h = absurd cc

subscribed_kind : (format shards : ℕ) → IsForm (is_kind format shards 5) (spelled_effect format) (made Subscribed (subscribed_at shards))
subscribed_kind format shards =
    made_form (is_kind format shards 5) (spelled_effect format) Subscribed (subscribed_form shards) (subscribed_from format shards) (λ x h. (h, refl))

replaced_from : (format shards : ℕ) (e : Effect) → is_kind format shards 6 e ≡ true → (x : Replacing) × (Replaced x ≡ e) × (fits_replaced x ≡ true)
replaced_from format shards (Replaced x) h = (x, refl, h)
replaced_from format shards other h = absurd cc

replaced_kind : (format shards : ℕ) → IsForm (is_kind format shards 6) (spelled_effect format) (made Replaced (replaced_at))
replaced_kind format shards =
    made_form (is_kind format shards 6) (spelled_effect format) Replaced (replaced_form) (replaced_from format shards) (λ x h. (h, refl))

unsubscribed_from : (format shards : ℕ) (e : Effect) → is_kind format shards 7 e ≡ true → (x : ℕ) × (Unsubscribed x ≡ e) × (fits_u32 x ≡ true)
unsubscribed_from format shards (Unsubscribed x) h = (x, refl, h)
unsubscribed_from format shards other h = absurd cc

unsubscribed_kind : (format shards : ℕ) → IsForm (is_kind format shards 7) (spelled_effect format) (made Unsubscribed (four_at))
unsubscribed_kind format shards =
    made_form (is_kind format shards 7) (spelled_effect format) Unsubscribed (four_form) (unsubscribed_from format shards) (λ x h. (h, refl))

issued_from : (format shards : ℕ) (e : Effect) → is_kind format shards 8 e ≡ true → (x : Issuing) × (Issued x ≡ e) × (fits_issued x ≡ true)
issued_from format shards (Issued x) h = (x, refl, h)
issued_from format shards other h = absurd cc

issued_kind : (format shards : ℕ) → IsForm (is_kind format shards 8) (spelled_effect format) (made Issued (issued_at))
issued_kind format shards =
    made_form (is_kind format shards 8) (spelled_effect format) Issued (issued_form) (issued_from format shards) (λ x h. (h, refl))

acked_from : (format shards : ℕ) (e : Effect) → is_kind format shards 9 e ≡ true → (x : ℕ) × (Acked x ≡ e) × (fits_u64 x ≡ true)
acked_from format shards (Acked x) h = (x, refl, h)
acked_from format shards other h = absurd cc

acked_kind : (format shards : ℕ) → IsForm (is_kind format shards 9) (spelled_effect format) (made Acked (eight_at))
acked_kind format shards =
    made_form (is_kind format shards 9) (spelled_effect format) Acked (eight_form) (acked_from format shards) (λ x h. (h, refl))

received_from : (format shards : ℕ) (e : Effect) → is_kind format shards 10 e ≡ true → (x : ℕ) × (Received x ≡ e) × (fits_u64 x ≡ true)
received_from format shards (Received x) h = (x, refl, h)
received_from format shards other h = absurd cc

received_kind : (format shards : ℕ) → IsForm (is_kind format shards 10) (spelled_effect format) (made Received (eight_at))
received_kind format shards =
    made_form (is_kind format shards 10) (spelled_effect format) Received (eight_form) (received_from format shards) (λ x h. (h, refl))

done_from : (format shards : ℕ) (e : Effect) → is_kind format shards 11 e ≡ true → (x : ℕ) × (Done x ≡ e) × (fits_u64 x ≡ true)
done_from format shards (Done x) h = (x, refl, h)
done_from format shards other h = absurd cc

done_kind : (format shards : ℕ) → IsForm (is_kind format shards 11) (spelled_effect format) (made Done (eight_at))
done_kind format shards =
    made_form (is_kind format shards 11) (spelled_effect format) Done (eight_form) (done_from format shards) (λ x h. (h, refl))

passed_from : (format shards : ℕ) (e : Effect) → is_kind format shards 12 e ≡ true → (x : Passing) × (Passed x ≡ e) × (fits_passed x ≡ true)
passed_from format shards (Passed x) h = (x, refl, h)
passed_from format shards other h = absurd cc

passed_kind : (format shards : ℕ) → IsForm (is_kind format shards 12) (spelled_effect format) (made Passed (passed_at))
passed_kind format shards =
    made_form (is_kind format shards 12) (spelled_effect format) Passed (passed_form) (passed_from format shards) (λ x h. (h, refl))

-- ---- an effect, by the byte that tells its kind

of_tag : (format shards tag : ℕ) (k : ℕ) (read : List ℕ → Option (Effect × List ℕ)) → IsForm (is_kind format shards k) (spelled_effect format) read →
    (tag == k) ≡ true → IsForm (is_kind format shards tag) (spelled_effect format) read
of_tag format shards tag k read is e = subst (λ (t : ℕ). IsForm (is_kind format shards t) (spelled_effect format) read) (sym (eqb-true tag k e)) is

no_tag : (format shards tag : ℕ) → (tag == 1) ≡ false → (tag == 2) ≡ false → (tag == 3) ≡ false → (tag == 4) ≡ false → (tag == 5) ≡ false → (tag == 6) ≡ false → (tag == 7) ≡ false → (tag == 8) ≡ false → (tag == 9) ≡ false → (tag == 10) ≡ false → (tag == 11) ≡ false → (tag == 12) ≡ false → (e : Effect) → is_kind format shards tag e ≡ false
no_tag format shards tag h1 h2 h3 h4 h5 h6 h7 h8 h9 h10 h11 h12 (Began x) = ap (λ b. b && fits_effect format shards (Began x)) h1
no_tag format shards tag h1 h2 h3 h4 h5 h6 h7 h8 h9 h10 h11 h12 Ended = ap (λ b. b && fits_effect format shards Ended) h2
no_tag format shards tag h1 h2 h3 h4 h5 h6 h7 h8 h9 h10 h11 h12 (Bound x) = ap (λ b. b && fits_effect format shards (Bound x)) h3
no_tag format shards tag h1 h2 h3 h4 h5 h6 h7 h8 h9 h10 h11 h12 (Parted x) = ap (λ b. b && fits_effect format shards (Parted x)) h4
no_tag format shards tag h1 h2 h3 h4 h5 h6 h7 h8 h9 h10 h11 h12 (Subscribed x) = ap (λ b. b && fits_effect format shards (Subscribed x)) h5
no_tag format shards tag h1 h2 h3 h4 h5 h6 h7 h8 h9 h10 h11 h12 (Replaced x) = ap (λ b. b && fits_effect format shards (Replaced x)) h6
no_tag format shards tag h1 h2 h3 h4 h5 h6 h7 h8 h9 h10 h11 h12 (Unsubscribed x) = ap (λ b. b && fits_effect format shards (Unsubscribed x)) h7
no_tag format shards tag h1 h2 h3 h4 h5 h6 h7 h8 h9 h10 h11 h12 (Issued x) = ap (λ b. b && fits_effect format shards (Issued x)) h8
no_tag format shards tag h1 h2 h3 h4 h5 h6 h7 h8 h9 h10 h11 h12 (Acked x) = ap (λ b. b && fits_effect format shards (Acked x)) h9
no_tag format shards tag h1 h2 h3 h4 h5 h6 h7 h8 h9 h10 h11 h12 (Received x) = ap (λ b. b && fits_effect format shards (Received x)) h10
no_tag format shards tag h1 h2 h3 h4 h5 h6 h7 h8 h9 h10 h11 h12 (Done x) = ap (λ b. b && fits_effect format shards (Done x)) h11
no_tag format shards tag h1 h2 h3 h4 h5 h6 h7 h8 h9 h10 h11 h12 (Passed x) = ap (λ b. b && fits_effect format shards (Passed x)) h12

pub effect_form : (format shards tag : ℕ) → IsForm (is_kind format shards tag) (spelled_effect format) (effect_at format shards tag)
effect_form format shards tag =
    if_form (tag == 1) (of_tag format shards tag 1 (made Began (began_at format)) (began_kind format shards)) (λ h1.
    if_form (tag == 2) (of_tag format shards tag 2 (made ended_of nothing_at) (ended_kind format shards)) (λ h2.
    if_form (tag == 3) (of_tag format shards tag 3 (made Bound (four_at)) (bound_kind format shards)) (λ h3.
    if_form (tag == 4) (of_tag format shards tag 4 (made Parted (parted_at)) (parted_kind format shards)) (λ h4.
    if_form (tag == 5) (of_tag format shards tag 5 (made Subscribed (subscribed_at shards)) (subscribed_kind format shards)) (λ h5.
    if_form (tag == 6) (of_tag format shards tag 6 (made Replaced (replaced_at)) (replaced_kind format shards)) (λ h6.
    if_form (tag == 7) (of_tag format shards tag 7 (made Unsubscribed (four_at)) (unsubscribed_kind format shards)) (λ h7.
    if_form (tag == 8) (of_tag format shards tag 8 (made Issued (issued_at)) (issued_kind format shards)) (λ h8.
    if_form (tag == 9) (of_tag format shards tag 9 (made Acked (eight_at)) (acked_kind format shards)) (λ h9.
    if_form (tag == 10) (of_tag format shards tag 10 (made Received (eight_at)) (received_kind format shards)) (λ h10.
    if_form (tag == 11) (of_tag format shards tag 11 (made Done (eight_at)) (done_kind format shards)) (λ h11.
    if_form (tag == 12) (of_tag format shards tag 12 (made Passed (passed_at)) (passed_kind format shards)) (λ h12.
    none_form (no_tag format shards tag h1 h2 h3 h4 h5 h6 h7 h8 h9 h10 h11 h12)))))))))))))

-- ---- a change

small_tag : (e : Effect) → fits_u8 (tag_of e) ≡ true
small_tag (Began x) = refl
small_tag Ended = refl
small_tag (Bound x) = refl
small_tag (Parted x) = refl
small_tag (Subscribed x) = refl
small_tag (Replaced x) = refl
small_tag (Unsubscribed x) = refl
small_tag (Issued x) = refl
small_tag (Acked x) = refl
small_tag (Received x) = refl
small_tag (Done x) = refl
small_tag (Passed x) = refl

pub change_form : (format shards : ℕ) → IsForm (fits_change format shards) (spelled_change format) (change_at format shards)
change_form format shards =
    made_form (fits_change format shards) (spelled_change format) change_of
    (then_form byte_form (λ tag h. both_form name_form (effect_form format shards tag)))
    (λ c h.
    let p = and_parts (fits_text c.client) (fits_effect format shards c.effect) h in (
      (tag_of c.effect, (c.client, c.effect)),
      refl,
      and_from (fits_u8 (tag_of c.effect)) (fits_text c.client && is_kind format shards (tag_of c.effect) c.effect) (small_tag c.effect)
          (and_from (fits_text c.client) (is_kind format shards (tag_of c.effect) c.effect) p.0
          (and_from (tag_of c.effect == tag_of c.effect) (fits_effect format shards c.effect) (eq-eqb (tag_of c.effect) (tag_of c.effect) refl) p.1)),
    ))
    (λ x h.
    let p = and_parts (fits_u8 x.0) (fits_text x.1.0 && is_kind format shards x.0 x.1.1) h in
    let q = and_parts (fits_text x.1.0) (is_kind format shards x.0 x.1.1) p.1 in
    let r = and_parts (x.0 == tag_of x.1.1) (fits_effect format shards x.1.1) q.1 in (
      and_from (fits_text x.1.0) (fits_effect format shards x.1.1) q.0 r.1,
      ap (λ n. spelled_u8 n ++ (spelled_text x.1.0 ++ spelled_effect format x.1.1)) (sym (eqb-true x.0 (tag_of x.1.1) r.0)),
    ))

-- ---- a record of changes

count_within : (n : ℕ) → is_change_count n ≡ true → fits_u16 n ≡ true
count_within n h =
    let few : n ≤ MOST_CHANGES = leb-true n MOST_CHANGES (and_parts (nat_lt 0 n) (nat_le n MOST_CHANGES) h).1 in
    lt-ltb n (2 ^ 16) (omega arith)

change_count_form : IsForm is_change_count spelled_u16 change_count_at
change_count_form = refit is_change_count (passing_form is_change_count two_form) (narrower is_change_count fits_u16 count_within)

pub changes_form : (format shards : ℕ) → IsForm (have_spelling format shards) (spelled_changes format) (changes_at format shards)
changes_form format shards = counted_form change_count_form (change_form format shards)

pub changes_whole : (format shards : ℕ) → IsWhole (have_spelling format shards) (spelled_changes format) (changes_in format shards)
unfolding changes_in
changes_whole format shards = filling_whole (changes_form format shards)
