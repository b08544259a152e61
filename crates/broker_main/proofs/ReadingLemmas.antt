-- What reading on does to the bytes that were read.
use Rattle.std.proofs.Common.{ℕ, ◌+◌, ◌<◌, ◌≡◌, List, [], ◌++◌, length, take, drop, Option, Some, None, IfSome, arith, sym, ap, ◌∙◌, append_assoc, append-nil, length-append, take-append-drop}
use lib.Seq.{take-append_seam}
use Rattle.std.proofs.lemmas.Option.{none-some, same_Some}
use Rattle.std.specs.Io.KnownBytes.{Consumes, IsAtEnd}
use Rattle.outside.specs.Source.{TakesFront}
use Rattle.broker_main.specs.Outcome.{script_limit}

-- a list is the front of itself and more
take_front : (n : ℕ) (front rest : List ℕ) → n ≡ length front → take n (front ++ rest) ≡ front
take_front n front rest e = ap (λ k. take k (front ++ rest)) e ∙ take-append_seam front rest

-- what was appended to the bytes is the piece, which stands at the front of its buffer
pub appended : (new bytes buffer into rest : List ℕ) (room n : ℕ) → new ≡ bytes ++ take n buffer → buffer ≡ take room (into ++ rest) → room ≡ length into
    → new ≡ bytes ++ take n into
appended new bytes buffer into rest room n p q e = p ∙ ap (λ l. bytes ++ take n l) (q ∙ take_front room into rest e)

-- one more piece was read
pub reads_more : (before mid now : Option (List ℕ)) (bytes into : List ℕ) (n : ℕ) → Consumes before mid bytes → TakesFront mid now n into
    → Consumes before now (bytes ++ take n into)
reads_more None mid now bytes into n p t = tt
reads_more (Some script) None now bytes into n p t = absurd p
reads_more (Some script) (Some left) None bytes into n p t = absurd (none-some _ t.rest)
reads_more (Some script) (Some left) (Some rest) bytes into n p t =
    let e : rest ≡ drop n left = same_Some _ _ t.rest in
    p ∙ ap (λ l. bytes ++ l) (sym (take-append-drop n left) ∙ ap (λ l. take n left ++ l) (sym e) ∙ ap (λ l. l ++ rest) (sym t.bytes))
    ∙ sym (append_assoc bytes (take n into) rest)

-- all was read
pub reads_all : (before mid : Option (List ℕ)) (bytes : List ℕ) → Consumes before mid bytes → IsAtEnd mid → IfSome before (λ script. bytes ≡ script)
reads_all None mid bytes p e = tt
reads_all (Some script) None bytes p e = absurd p
reads_all (Some script) (Some left) bytes p e = sym (p ∙ ap (λ l. bytes ++ l) e ∙ append-nil bytes)

-- nothing is left then
pub leaves_nothing : (before mid now : Option (List ℕ)) (bytes into : List ℕ) (n : ℕ) → Consumes before mid bytes → IsAtEnd mid → TakesFront mid now n into
    → n ≡ 0 → IfSome before (λ script. now ≡ Some [])
leaves_nothing None mid now bytes into n p e t z = tt
leaves_nothing (Some script) None now bytes into n p e t z = absurd p
leaves_nothing (Some script) (Some left) now bytes into n p e t z = t.rest ∙ ap Some (ap (λ k. drop k left) z ∙ e)

-- more was left than a script may have
pub was_too_long : (before mid now : Option (List ℕ)) (bytes into : List ℕ) (n : ℕ) → Consumes before mid bytes → TakesFront mid now n into
    → script_limit < length bytes + n → IfSome before (λ script. script_limit < length script)
was_too_long None mid now bytes into n p t h = tt
was_too_long (Some script) None now bytes into n p t h = absurd p
was_too_long (Some script) (Some left) now bytes into n p t h = omega (arith, t.within, ap length p, length-append bytes left)
