-- The parts of a packet: each reader of one reads what is spelled, and what it reads was spelled.
use Rattle.std.proofs.Common.{All, ◌≡◌, ℕ, ◌^◌, ◌<◌, ◌≤◌, Bool, true, false, not, ltb, List, ◌++◌, length, Result, Ok, Err, Option, Some, refl, sym, ap, subst, ◌∙◌, append_assoc, arith}
use Rattle.std.proofs.lemmas.Bool.{ltb-true, lt-ltb}
use Rattle.std.proofs.lemmas.List.{length-append}
use Rattle.wire_fields.specs.declared.cut.Cut.{Cut}
use Rattle.wire_fields.specs.Spelled.{spelled_u8, spelled_u16, spelled_var, spelled_text, spelled_bin}
use Rattle.wire_fields.specs.Reading.{AreBytes}
use Rattle.wire_fields.specs.NumberLaws.{u8_again, u8_takes, u16_again, u16_takes}
use Rattle.wire_fields.specs.TextLaws.{is_text_of, is_text_means}
use Rattle.wire_fields.specs.SizedLaws.{text_again, text_takes, bin_again, bin_takes}
use Rattle.mqtt_props.specs.declared.prop.Prop.{Prop}
use Rattle.mqtt_props.specs.declared.refused.PropRefused.{PropRefused}
use Rattle.mqtt_props.specs.declared.table.Holder.{Holder}
use Rattle.mqtt_props.specs.Prop.{IsPropIn, IsShortText}
use Rattle.mqtt_props.specs.Props.{in_writing_order, list_at, spelled_bare, spelled_props, IsArranged}
use Rattle.mqtt_props.specs.SpelledLaws.{list_again}
use Rattle.mqtt_props.specs.FoundLaws.{list_takes}
use Rattle.mqtt_packet.specs.declared.packet.Wish.{Wish}
use Rattle.mqtt_packet.specs.Spelling.{spelled_wish}
use Rattle.mqtt_packet.specs.Fits.{IsId, IsTopicName, IsShortBinary, IsWish, has_wildcard}
use Rattle.mqtt_packet.specs.Reading.{◌>>=◌, only_if, if_field, if_list, byte_at, two_at, name_at, blob_at, props_at, id_at, topic_at, wish_at}
use Rattle.mqtt_packet.specs.ReaderLaws.{IsRead, Given, IsField, some_is, and_then, where_passes, makes, recast}

-- ---- single fields

pub field_ok : {A : Type 0} (r : Result A Cut) (x : A) → if_field r ≡ Some x → r ≡ Ok x
field_ok (Ok y) x e = ap Ok (some_is y x e)
field_ok (Err cut) x e = absurd cc

field_reads : {A : Type 0} {Fits : A → Type 0} {spelled : A → List ℕ} {read : List ℕ → Result (A × List ℕ) Cut}
    → ((x : A) (rest : List ℕ) → Fits x → read (spelled x ++ rest) ≡ Ok (x, rest))
    → ((bytes : List ℕ) (x : A × List ℕ) → AreBytes bytes → read bytes ≡ Ok x → (Fits x.0) × (bytes ≡ spelled x.0 ++ x.1))
    → IsRead (Given (IsField Fits spelled)) (λ (bytes : List ℕ). if_field (read bytes))
field_reads {A} {Fits} {spelled} {read} again takes = record {
  again = λ bytes x few g.
      ap (λ (l : List ℕ). if_field (read l)) (g.parts ∙ ap (λ (l : List ℕ). l ++ x.1) g.is.is)
      ∙ ap if_field (again x.0 x.1 g.is.fits);
  takes = λ bytes x fits e.
      let t = takes bytes x fits (field_ok (read bytes) x e) in
      record { field = spelled x.0; is = record { fits = t.0; is = refl }; parts = t.1 };
}

abbrev pub IsByte : ℕ → Type 0
IsByte n = n < 2 ^ 8

abbrev pub IsTwo : ℕ → Type 0
IsTwo n = n < 2 ^ 16

pub byte_reads : IsRead (Given (IsField IsByte spelled_u8)) byte_at
byte_reads = field_reads (λ n rest lt. u8_again n rest) (λ bytes x fits e. let t = u8_takes bytes x fits e in (t.in_range, t.parts))

pub two_reads : IsRead (Given (IsField IsTwo spelled_u16)) two_at
two_reads = field_reads (λ n rest lt. u16_again n rest lt) (λ bytes x fits e. let t = u16_takes bytes x fits e in (t.in_range, t.parts))

pub name_reads : IsRead (Given (IsField IsShortText spelled_text)) name_at
name_reads = field_reads
    (λ text rest h. text_again text rest (omega (arith, h.0)) (is_text_of text h.1))
    (λ bytes x fits e. let t = text_takes bytes x fits e in ((omega (arith, t.in_range.0), is_text_means x.0 t.in_range.1), t.parts))

pub blob_reads : IsRead (Given (IsField IsShortBinary spelled_bin)) blob_at
blob_reads = field_reads
    (λ blob rest h. bin_again blob rest (omega (arith, h)))
    (λ bytes x fits e. let t = bin_takes bytes x fits e in (omega (arith, t.in_range), t.parts))

-- ---- a field with a test

tested_reads : {A : Type 0} {Fits : A → Type 0} {spelled : A → List ℕ} {read : List ℕ → Option (A × List ℕ)} (test : A → Bool)
    → IsRead (Given (IsField Fits spelled)) read
    → IsRead (Given (IsField (λ (x : A). Fits x × (test x ≡ true)) spelled))
    (λ (bytes : List ℕ). read bytes >>= λ x. only_if (test x.0) (Some x))
tested_reads {A} {Fits} {spelled} {read} test is =
    recast (and_then (λ x. only_if (test x.0) (Some x)) is (λ x. where_passes (test x) (makes (λ (rest : List ℕ). (x, rest)))))
    (λ bytes x few g. record {
      value = x.0;
      field = g.field;
      rest = x.1;
      is = record { fits = g.is.fits.0; is = g.is.is };
      parts = g.parts;
      behind = record { passes = g.is.fits.1; good = record { is = refl } };
    })
    (λ bytes x fits t. subst (λ (y : A × List ℕ). Given (IsField (λ (x : A). Fits x × (test x ≡ true)) spelled) bytes y) t.behind.good.is
    (record { field = t.field; is = record { fits = (t.is.fits, t.behind.passes); is = t.is.is }; parts = t.parts }))

refit : {A : Type 0} {Fits New : A → Type 0} {spelled : A → List ℕ} {read : List ℕ → Option (A × List ℕ)}
    → IsRead (Given (IsField Fits spelled)) read
    → ((x : A) → New x → Fits x) → ((x : A) → Fits x → New x) → IsRead (Given (IsField New spelled)) read
refit is to from = recast is
    (λ bytes x few g. record { field = g.field; is = record { fits = to x.0 g.is.fits; is = g.is.is }; parts = g.parts })
    (λ bytes x fits g. record { field = g.field; is = record { fits = from x.0 g.is.fits; is = g.is.is }; parts = g.parts })

not_true : (b : Bool) → not b ≡ true → b ≡ false
not_true true e = absurd cc
not_true false e = refl

pub id_reads : IsRead (Given (IsField IsId spelled_u16)) id_at
id_reads = refit (tested_reads (λ (id : ℕ). ltb 0 id) two_reads) (λ id h. (h.1, lt-ltb 0 id h.0)) (λ id h. (ltb-true 0 id h.1, h.0))

pub topic_reads : IsRead (Given (IsField IsTopicName spelled_text)) topic_at
topic_reads =
    refit (tested_reads (λ (topic : List ℕ). not (has_wildcard topic)) name_reads)
    (λ topic h. (h.0, ap not h.1))
    (λ topic h. (h.0, not_true (has_wildcard topic) h.1))

-- ---- properties

-- properties in writing order, which were sent in some order
pub record IsList (holder : Holder) (ps : List Prop) (field : List ℕ) : Type 0 where
  pub sent : List Prop
  pub list : IsArranged holder sent ps
  pub is : field ≡ spelled_props sent

-- properties as they were sent
pub sent_list : {holder : Holder} (sent : List Prop) → All (IsPropIn holder) sent
    → IsList holder (in_writing_order sent) (spelled_props sent)
sent_list sent fits = record { sent = sent; list = record { fits = fits; ordered = refl }; is = refl }

list_ok : {A : Type 0} (r : Result A PropRefused) (x : A) → if_list r ≡ Some x → r ≡ Ok x
list_ok (Ok y) x e = ap Ok (some_is y x e)
list_ok (Err refused) x e = absurd cc

pub props_reads : (holder : Holder) → IsRead (Given (IsList holder)) (props_at holder)
props_reads holder = record {
  again = λ bytes x few g.
      let qs : List Prop = g.is.sent in
      let whole : bytes ≡ spelled_props qs ++ x.1 = g.parts ∙ ap (λ (l : List ℕ). l ++ x.1) g.is.is in
      let small : length (spelled_bare qs) ≤ 268435455 =
      omega (
        arith,
        few,
        ap length whole,
        length-append (spelled_props qs) x.1,
        length-append (spelled_var (length (spelled_bare qs))) (spelled_bare qs),
      ) in
      ap (props_at holder) whole
      ∙ ap if_list (list_again holder qs x.1 g.is.list.fits small)
      ∙ ap (λ (ps : List Prop). Some (ps, x.1)) g.is.list.ordered;
  takes = λ bytes x fits e.
      let t = list_takes holder bytes x fits (list_ok (list_at holder bytes) x e) in
      record { field = spelled_props t.0; is = record { sent = t.0; list = t.1.list; is = refl }; parts = t.1.parts };
}

-- ---- a filter with its options

pub wish_reads : IsRead (Given (IsField IsWish spelled_wish)) wish_at
wish_reads =
    recast (and_then _ name_reads (λ filter. and_then _ byte_reads (λ options.
    where_passes (ltb options 64) (makes (λ (rest : List ℕ). (record { filter = filter; options = options }, rest))))))
    (λ bytes x few g. record {
      value = x.0.filter;
      field = spelled_text x.0.filter;
      rest = spelled_u8 x.0.options ++ x.1;
      is = record { fits = g.is.fits.0; is = refl };
      parts = g.parts ∙ ap (λ (l : List ℕ). l ++ x.1) g.is.is ∙ append_assoc (spelled_text x.0.filter) (spelled_u8 x.0.options) x.1;
      behind = record {
        value = x.0.options;
        field = spelled_u8 x.0.options;
        rest = x.1;
        is = record { fits = omega (arith, g.is.fits.1); is = refl };
        parts = refl;
        behind = record { passes = lt-ltb x.0.options 64 g.is.fits.1; good = record { is = refl } };
      };
    })
    (λ bytes x fits t. subst (λ (y : Wish × List ℕ). Given (IsField IsWish spelled_wish) bytes y) t.behind.behind.good.is (record {
      field = spelled_text t.value ++ spelled_u8 t.behind.value;
      is = record { fits = (t.is.fits, ltb-true t.behind.value 64 t.behind.behind.passes); is = refl };
      parts = t.parts ∙ (λ i. t.is.is i ++ t.behind.parts i)
          ∙ ap (λ (l : List ℕ). spelled_text t.value ++ (l ++ t.behind.rest)) t.behind.is.is
          ∙ sym (append_assoc (spelled_text t.value) (spelled_u8 t.behind.value) t.behind.rest);
    }))

pub text_some : (text : List ℕ) → 0 < length (spelled_text text)
text_some text = omega arith

pub wish_some : (wish : Wish) → 0 < length (spelled_wish wish)
wish_some wish = omega arith
