-- A reader and what it reads, for readers of every kind: each law of packets is put together of these.
use Rattle.std.proofs.Common.{◌≡◌, ℕ, zero, suc, ◌<◌, ◌≤◌, Bool, true, false, cond, List, [], ◌∷◌, ◌++◌, length, Option, Some, None, refl, sym, ap, subst, ◌∙◌, append_assoc, arith, All}
use Rattle.std.specs.List.{flat_map}
use Rattle.std.proofs.lemmas.List.{length-append, drop_at}
use Rattle.std.proofs.lemmas.List.Elements.{All-cons, All-nil}
use Rattle.wire_fields.specs.Reading.{AreBytes}
use Rattle.wire_fields.specs.Places.{are_bytes_drop}
use Rattle.mqtt_packet.specs.Reading.{◌>>=◌, only_if, at_end, in_front, each_within, each_at}

-- What is good for a value is read as it, and what is read as a value is good for it.
pub record IsRead {B : Type 0} (Good : List ℕ → B → Type 0) (read : List ℕ → Option B) : Type 0 where
  pub again : (bytes : List ℕ) (y : B) → length bytes ≤ 268435455 → Good bytes y → read bytes ≡ Some y
  pub takes : (bytes : List ℕ) (y : B) → AreBytes bytes → read bytes ≡ Some y → Good bytes y

-- a part in front, and the bytes behind it
pub record Given {A : Type 0} (Is : A → List ℕ → Type 0) (bytes : List ℕ) (x : A × List ℕ) : Type 0 where
  pub field : List ℕ
  pub is : Is x.0 field
  pub parts : bytes ≡ field ++ x.1

-- a part in front, and the bytes behind it are good
pub record Then {A B : Type 0} (Is : A → List ℕ → Type 0) (Good : A → List ℕ → B → Type 0) (bytes : List ℕ) (y : B) : Type 0 where
  pub value : A
  pub field : List ℕ
  pub rest : List ℕ
  pub is : Is value field
  pub parts : bytes ≡ field ++ rest
  pub behind : Good value rest y

-- a test passes, and the bytes are good
pub record Where {B : Type 0} (test : Bool) (Good : List ℕ → B → Type 0) (bytes : List ℕ) (y : B) : Type 0 where
  pub passes : test ≡ true
  pub good : Good bytes y

-- a value is made of the bytes
pub record Makes {B : Type 0} (make : List ℕ → B) (bytes : List ℕ) (y : B) : Type 0 where
  pub is : make bytes ≡ y

-- the bytes have ended
pub record Ends {B : Type 0} (x : B) (bytes : List ℕ) (y : B) : Type 0 where
  pub none : bytes ≡ []
  pub is : x ≡ y

-- a field that has one spelling
pub record IsField {A : Type 0} (Fits : A → Type 0) (spelled : A → List ℕ) (x : A) (field : List ℕ) : Type 0 where
  pub fits : Fits x
  pub is : field ≡ spelled x

-- ---- what a step gave

pub bind_some : {A B : Type 0} (r : Option A) (f : A → Option B) (y : B) → (r >>= f) ≡ Some y → (x : A) × (r ≡ Some x) × (f x ≡ Some y)
bind_some (Some x) f y e = (x, refl, e)
bind_some None f y e = absurd cc

pub passed : {B : Type 0} (b : Bool) (r : Option B) (y : B) → cond b r None ≡ Some y → (b ≡ true) × (r ≡ Some y)
passed true r y e = (refl, e)
passed false r y e = absurd cc

pub some_is : {A : Type 0} (x y : A) → Some x ≡ Some y → x ≡ y
some_is x y e = cc

pub are_bytes_behind : (xs ys : List ℕ) → AreBytes (xs ++ ys) → AreBytes ys
are_bytes_behind xs ys h = subst AreBytes (drop_at xs ys (length xs) refl) (are_bytes_drop (length xs) (xs ++ ys) h)

pub behind_part : (bytes field rest : List ℕ) → bytes ≡ field ++ rest → AreBytes bytes → AreBytes rest
behind_part bytes field rest e h = are_bytes_behind field rest (subst AreBytes e h)

-- ---- readers of readers

pub and_then : {A B : Type 0} {Is : A → List ℕ → Type 0} {Good : A → List ℕ → B → Type 0}
    {read : List ℕ → Option (A × List ℕ)} (next : A × List ℕ → Option B)
    → IsRead (Given Is) read → ((x : A) → IsRead (Good x) (λ (rest : List ℕ). next (x, rest)))
    → IsRead (Then Is Good) (λ (bytes : List ℕ). read bytes >>= next)
and_then {A} {B} {Is} {Good} {read} next first others = record {
  again = λ bytes y few t.
      let small : length t.rest ≤ 268435455 = omega (arith, few, ap length t.parts, length-append t.field t.rest) in
      ap (λ (r : Option (A × List ℕ)). r >>= next) (first.again bytes (t.value, t.rest) few (record {
        field = t.field;
        is = t.is;
        parts = t.parts;
      }))
      ∙ (others t.value).again t.rest y small t.behind;
  takes = λ bytes y fits e.
      let found = bind_some (read bytes) next y e in
      let g = first.takes bytes found.0 fits found.1 in
      record {
        value = found.0.0;
        field = g.field;
        rest = found.0.1;
        is = g.is;
        parts = g.parts;
        behind = (others found.0.0).takes found.0.1 y (behind_part bytes g.field found.0.1 g.parts fits) found.2;
      };
}

pub where_passes : {B : Type 0} {Good : List ℕ → B → Type 0} {read : List ℕ → Option B} (test : Bool) → IsRead Good read
    → IsRead (Where test Good) (λ (bytes : List ℕ). only_if test (read bytes))
where_passes {B} {Good} {read} test others = record {
  again = λ bytes y few w. ap (λ (b : Bool). cond b (read bytes) None) w.passes ∙ others.again bytes y few w.good;
  takes = λ bytes y fits e.
      let p = passed test (read bytes) y e in
      record { passes = p.0; good = others.takes bytes y fits p.1 };
}

pub makes : {B : Type 0} (make : List ℕ → B) → IsRead (Makes make) (λ (bytes : List ℕ). Some (make bytes))
makes make = record {
  again = λ bytes y few m. ap Some m.is;
  takes = λ bytes y fits e. record { is = some_is (make bytes) y e };
}

ended : {B : Type 0} (x : B) (bytes : List ℕ) (y : B) → at_end x bytes ≡ Some y → Ends x bytes y
ended x [] y e = record { none = refl; is = some_is x y e }
ended x (b ∷ bytes) y e = absurd cc

pub ends : {B : Type 0} (x : B) → IsRead (Ends x) (at_end x)
ends x = record {
  again = λ bytes y few e. ap (at_end x) e.none ∙ ap Some e.is;
  takes = λ bytes y fits e. ended x bytes y e;
}

-- a value that doesn't depend on the bytes, if there is one, and the bytes are good
pub record Known {A B : Type 0} (found : Option A) (Good : A → List ℕ → B → Type 0) (bytes : List ℕ) (y : B) : Type 0 where
  pub value : A
  pub is : found ≡ Some value
  pub good : Good value bytes y

pub known_then : {A B : Type 0} {Good : A → List ℕ → B → Type 0} (found : Option A) (next : A → List ℕ → Option B)
    → ((x : A) → IsRead (Good x) (next x))
    → IsRead (Known found Good) (λ (bytes : List ℕ). found >>= λ x. next x bytes)
known_then {A} {B} {Good} found next others = record {
  again = λ bytes y few k. ap (λ (r : Option A). r >>= λ x. next x bytes) k.is ∙ (others k.value).again bytes y few k.good;
  takes = λ bytes y fits e.
      let f = bind_some found (λ x. next x bytes) y e in
      record { value = f.0; is = f.1; good = (others f.0).takes bytes y fits f.2 };
}

-- two parts in front
pub record IsPair {A B : Type 0} (IsOne : A → List ℕ → Type 0) (IsOther : B → List ℕ → Type 0) (x : A × B) (field : List ℕ) : Type 0 where
  pub first : List ℕ
  pub second : List ℕ
  pub is_first : IsOne x.0 first
  pub is_second : IsOther x.1 second
  pub parts : field ≡ first ++ second

-- what is good said in other words
pub recast : {B : Type 0} {Good New : List ℕ → B → Type 0} {read : List ℕ → Option B} → IsRead Good read
    → ((bytes : List ℕ) (y : B) → length bytes ≤ 268435455 → New bytes y → Good bytes y)
    → ((bytes : List ℕ) (y : B) → AreBytes bytes → Good bytes y → New bytes y)
    → IsRead New read
recast is to from = record {
  again = λ bytes y few n. is.again bytes y few (to bytes y few n);
  takes = λ bytes y fits e. from bytes y fits (is.takes bytes y fits e);
}

pub pair_reads : {A B : Type 0} {IsOne : A → List ℕ → Type 0} {IsOther : B → List ℕ → Type 0}
    {one : List ℕ → Option (A × List ℕ)} {two : List ℕ → Option (B × List ℕ)}
    → IsRead (Given IsOne) one → IsRead (Given IsOther) two
    → IsRead (Given (IsPair IsOne IsOther)) (λ (bytes : List ℕ). one bytes >>= λ a. two a.1 >>= λ b. Some ((a.0, b.0), b.1))
pair_reads {A} {B} {IsOne} {IsOther} {one} {two} first second =
    recast (and_then (λ (a : A × List ℕ). two a.1 >>= λ b. Some ((a.0, b.0), b.1)) first (λ x.
    and_then (λ (b : B × List ℕ). Some ((x, b.0), b.1)) second (λ y. makes (λ (rest : List ℕ). ((x, y), rest)))))
    (λ bytes x few g. record {
      value = x.0.0;
      field = g.is.first;
      rest = g.is.second ++ x.1;
      is = g.is.is_first;
      parts = g.parts ∙ ap (λ (l : List ℕ). l ++ x.1) g.is.parts ∙ append_assoc g.is.first g.is.second x.1;
      behind = record { value = x.0.1; field = g.is.second; rest = x.1; is = g.is.is_second; parts = refl; behind = record { is = refl } };
    })
    (λ bytes x fits t. subst (λ (y : (A × B) × List ℕ). Given (IsPair IsOne IsOther) bytes y) t.behind.behind.is (record {
      field = t.field ++ t.behind.field;
      is = record { first = t.field; second = t.behind.field; is_first = t.is; is_second = t.behind.is; parts = refl };
      parts = t.parts ∙ ap (λ (l : List ℕ). t.field ++ l) t.behind.parts ∙ sym (append_assoc t.field t.behind.field t.behind.rest);
    }))

-- what is made of what was read
pub record Mapped {A B : Type 0} (make : A → B) (Good : List ℕ → A → Type 0) (bytes : List ℕ) (y : B) : Type 0 where
  pub value : A
  pub good : Good bytes value
  pub is : make value ≡ y

pub maps : {A B : Type 0} {Good : List ℕ → A → Type 0} {read : List ℕ → Option A} (make : A → B) → IsRead Good read
    → IsRead (Mapped make Good) (λ (bytes : List ℕ). read bytes >>= λ x. Some (make x))
maps {A} {B} {Good} {read} make is = record {
  again = λ bytes y few m.
      ap (λ (r : Option A). r >>= λ z. Some (make z)) (is.again bytes m.value few m.good) ∙ ap Some m.is;
  takes = λ bytes y fits e.
      let found = bind_some (read bytes) (λ z. Some (make z)) y e in
      record { value = found.0; good = is.takes bytes found.0 fits found.1; is = some_is (make found.0) y found.2 };
}

-- ---- elements that fill the bytes

-- each fits, and they stand one after another
pub record AreEach {A : Type 0} (Fits : A → Type 0) (spelled : A → List ℕ) (bytes : List ℕ) (xs : List A) : Type 0 where
  pub fits : All Fits xs
  pub parts : bytes ≡ flat_map spelled xs

in_front_some : {A : Type 0} (x : A) (r : Option (List A)) (ys : List A) → in_front x r ≡ Some ys
    → (xs : List A) × (r ≡ Some xs) × ((x ∷ xs) ≡ ys)
in_front_some x (Some xs) ys e = (xs, refl, cc)
in_front_some x None ys e = absurd cc

no_more : {A : Type 0} (read : List ℕ → Option (A × List ℕ)) (n : ℕ) → each_within read n [] ≡ Some []
unfolding each_within
no_more read zero = refl
no_more read (suc n) = refl

one_more : {A : Type 0} (read : List ℕ → Option (A × List ℕ)) (n : ℕ) (bytes : List ℕ) → 0 < length bytes
    → each_within read (suc n) bytes ≡ (read bytes >>= λ x. in_front x.0 (each_within read n x.1))
unfolding each_within
one_more read n [] some = absurd (omega (arith, some))
one_more read n (b ∷ bytes) some = refl

no_room : {A : Type 0} (read : List ℕ → Option (A × List ℕ)) (b : ℕ) (bytes : List ℕ) (ys : List A)
    → each_within read 0 (b ∷ bytes) ≡ Some ys → ⊥
unfolding each_within
no_room read b bytes ys e = cc

each_again : {A : Type 0} {Fits : A → Type 0} {spelled : A → List ℕ} {read : List ℕ → Option (A × List ℕ)}
    → IsRead (Given (IsField Fits spelled)) read
    → ((x : A) → 0 < length (spelled x)) → (xs : List A) (n : ℕ) → All Fits xs → length (flat_map spelled xs) ≤ n
    → length (flat_map spelled xs) ≤ 268435455
    → each_within read n (flat_map spelled xs) ≡ Some xs
each_again {A} {Fits} {spelled} {read} is some [] n fits le few = no_more read n
each_again {A} {Fits} {spelled} {read} is some (x ∷ xs) zero fits le few =
    absurd (omega (arith, le, some x, length-append (spelled x) (flat_map spelled xs)))
each_again {A} {Fits} {spelled} {read} is some (x ∷ xs) (suc n) fits le few =
    let rest : List ℕ = flat_map spelled xs in
    let size = length-append (spelled x) rest in
    let first : read (spelled x ++ rest) ≡ Some (x, rest) =
    is.again (spelled x ++ rest) (x, rest) few (record {
      field = spelled x;
      is = record { fits = fits 0 x (omega arith); is = refl };
      parts = refl;
    }) in
    let others : each_within read n rest ≡ Some xs =
    each_again is some xs n (λ k d lt. fits (suc k) d (omega (arith, lt))) (omega (arith, le, size, some x)) (omega (arith, few, size)) in
    one_more read n (spelled x ++ rest) (omega (arith, some x, size))
    ∙ ap (λ (r : Option (A × List ℕ)). r >>= λ y. in_front y.0 (each_within read n y.1)) first
    ∙ ap (in_front x) others

each_takes : {A : Type 0} {Fits : A → Type 0} {spelled : A → List ℕ} {read : List ℕ → Option (A × List ℕ)}
    → IsRead (Given (IsField Fits spelled)) read
    → ((x : A) → 0 < length (spelled x)) → (n : ℕ) (bytes : List ℕ) (ys : List A) → AreBytes bytes → each_within read n bytes ≡ Some ys
    → AreEach Fits spelled bytes ys
each_takes {A} {Fits} {spelled} {read} is some n [] ys fits e =
    let none : [] ≡ ys = some_is [] ys (sym (no_more read n) ∙ e) in
    subst (λ (zs : List A). AreEach Fits spelled [] zs) none (record { fits = All-nil Fits; parts = refl })
each_takes {A} {Fits} {spelled} {read} is some zero (b ∷ bytes) ys fits e = absurd (no_room read b bytes ys e)
each_takes {A} {Fits} {spelled} {read} is some (suc n) (b ∷ bytes) ys fits e =
    let found =
    bind_some (read (b ∷ bytes)) (λ y. in_front y.0 (each_within read n y.1)) ys (sym (one_more read n (b ∷ bytes) (omega arith)) ∙ e) in
    let x : A = found.0.0 in
    let rest : List ℕ = found.0.1 in
    let g = is.takes (b ∷ bytes) found.0 fits found.1 in
    let behind = in_front_some x (each_within read n rest) ys found.2 in
    let others = each_takes is some n rest behind.0 (behind_part (b ∷ bytes) g.field rest g.parts fits) behind.1 in
    subst (λ (zs : List A). AreEach Fits spelled (b ∷ bytes) zs) {x = x ∷ behind.0} behind.2 (record {
      fits = All-cons Fits x behind.0 g.is.fits others.fits;
      parts = g.parts ∙ (λ i. g.is.is i ++ others.parts i);
    })

pub each_reads : {A : Type 0} {Fits : A → Type 0} {spelled : A → List ℕ} {read : List ℕ → Option (A × List ℕ)}
    → IsRead (Given (IsField Fits spelled)) read
    → ((x : A) → 0 < length (spelled x)) → IsRead (AreEach Fits spelled) (each_at read)
each_reads {A} {Fits} {spelled} {read} is some = record {
  again = λ bytes xs few each.
      ap (λ (l : List ℕ). each_within read (length l) l) each.parts
      ∙ each_again is some xs (length (flat_map spelled xs)) each.fits (omega arith) (omega (arith, few, ap length each.parts));
  takes = λ bytes xs fits e. each_takes is some (length bytes) bytes xs fits e;
}
