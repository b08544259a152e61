-- What follows from an answer that is known, or from what holds anyway.
use Rattle.std.specs.Prelude.{◌≡◌, true, false, Result, Ok, Err, OnOk, OnErr, is_err}
use Rattle.std.proofs.Common.{sym}
use Rattle.std.proofs.lemmas.Bool.{true≢false}

pub on_err : {T E P : Type 0} (result : Result T E) → P → OnErr result P
on_err (Ok x) p = tt
on_err (Err e) p = p

pub on_ok_then : {T E P Q : Type 0} (result : Result T E) → (P → Q) → OnOk result P → OnOk result Q
on_ok_then (Ok x) f p = f p
on_ok_then (Err e) f p = tt

pub when_err : {T E P : Type 0} (result : Result T E) → is_err result ≡ true → OnErr result P → P
when_err (Ok x) e p = absurd (true≢false (sym e))
when_err (Err x) e p = p

pub when_ok : {T E P : Type 0} (result : Result T E) → is_err result ≡ false → OnOk result P → P
when_ok (Ok x) e p = p
when_ok (Err x) e p = absurd (true≢false e)
