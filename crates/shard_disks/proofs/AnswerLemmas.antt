-- What a log answers.
use Rattle.std.proofs.Common.{Result, Ok, Err, OnOk, OnErr, IsErrOf, refl}
use Rattle.gated_log.specs.declared.refused.LogRefused.{LogRefused}
use Rattle.gated_log.specs.declared.refused.LogRefused.TheVariants.{Fault, Full, Memory}

-- neither full nor without memory, so the disk failed
pub only_fault : {T : Type 0} (result : Result T LogRefused) → (IsErrOf result Full → ⊥) → (IsErrOf result Memory → ⊥) → OnErr result (IsErrOf result Fault)
only_fault (Ok x) full memory = tt
only_fault (Err Full) full memory = absurd (full refl)
only_fault (Err Fault) full memory = refl
only_fault (Err Memory) full memory = absurd (memory refl)

pub on_fault : {T P : Type 0} (result : Result T LogRefused) → OnErr result (IsErrOf result Fault) → (IsErrOf result Fault → P) → OnErr result P
on_fault (Ok x) fault p = tt
on_fault (Err e) fault p = p fault

pub on_ok_with : {T E P Q R : Type 0} (result : Result T E) → (P → Q → R) → OnOk result P → OnOk result Q → OnOk result R
on_ok_with (Ok x) f p q = f p q
on_ok_with (Err e) f p q = tt

pub on_err_with : {T E P Q R : Type 0} (result : Result T E) → (P → Q → R) → OnErr result P → OnErr result Q → OnErr result R
on_err_with (Ok x) f p q = tt
on_err_with (Err e) f p q = f p q

pub on_err_then : {T E P Q : Type 0} (result : Result T E) → (P → Q) → OnErr result P → OnErr result Q
on_err_then (Ok x) f p = tt
on_err_then (Err e) f p = f p
