-- What bytes spell, by what is read of them: once for records of each kind.
use Rattle.std.proofs.Common.{◌≡◌, ℕ, Bool, List, Result, Ok, Err, IfOk, IsErrOf, Option, Some, None, IsTrue, sym, ap, subst, ◌∙◌}
use Rattle.wire_fields.specs.Reading.{AreBytes}
use Rattle.session_codec.specs.declared.refused.CodecRefused.{CodecRefused}
use Rattle.session_codec.specs.declared.refused.CodecRefused.TheVariants.{Bad}
use Rattle.session_codec.specs.Taking.{GivesPart}
use Rattle.session_codec.specs.Forms.{IsWhole, some_is}
use Rattle.record_codec.specs.Spells.{Spells}

pub read_again : {A : Type 0} {fits : A → Bool} {spelled : A → List ℕ} {read : List ℕ → Option A} → IsWhole fits spelled read →
    (x : A) → IsTrue (fits x) → read (spelled x) ≡ Some x
read_again is x h = is.again x h

pub was_spelled : {A : Type 0} {fits : A → Bool} {spelled : A → List ℕ} {read : List ℕ → Option A} → IsWhole fits spelled read →
    (bytes : List ℕ) (x : A) → AreBytes bytes → read bytes ≡ Some x → Spells fits spelled bytes x
was_spelled is bytes x are e = let t = is.takes bytes x are e in record { has = t.0; is = t.1 }

-- no two values have one spelling
pub one_value : {A : Type 0} {fits : A → Bool} {spelled : A → List ℕ} {read : List ℕ → Option A} → IsWhole fits spelled read →
    (x y : A) → IsTrue (fits x) → IsTrue (fits y) → spelled x ≡ spelled y → x ≡ y
one_value {A} {fits} {spelled} {read} is x y f g e = some_is x y (sym (is.again x f) ∙ ap read e ∙ is.again y g)

no_value : {A : Type 0} {fits : A → Bool} {spelled : A → List ℕ} {read : List ℕ → Option A} → IsWhole fits spelled read →
    (bytes : List ℕ) → read bytes ≡ None → (x : A) → Spells fits spelled bytes x → ⊥
no_value {A} {fits} {spelled} {read} is bytes none x s = let e = sym none ∙ ap read s.is ∙ is.again x s.has in cc

-- what a call gave that reads a record

pub given_is_spelled : {A X : Type 0} {fits : A → Bool} {spelled : A → List ℕ} {read : List ℕ → Option A} → IsWhole fits spelled read →
    (view : X → A) (r : Result X CodecRefused) (bytes : List ℕ) → AreBytes bytes → GivesPart view r (read bytes) →
    IfOk r (λ v. Spells fits spelled bytes (view v))
given_is_spelled is view (Ok v) bytes are e = was_spelled is bytes (view v) are e
given_is_spelled is view (Err refused) bytes are e = tt

pub given_none : {A X : Type 0} {fits : A → Bool} {spelled : A → List ℕ} {read : List ℕ → Option A} → IsWhole fits spelled read →
    (view : X → A) (r : Result X CodecRefused) (bytes : List ℕ) → GivesPart view r (read bytes) → IsErrOf r Bad →
    (x : A) → Spells fits spelled bytes x → ⊥
given_none {A} {X} {fits} {spelled} {read} is view r bytes e bad =
    no_value is bytes (subst (λ r. GivesPart view r (read bytes)) bad e)
