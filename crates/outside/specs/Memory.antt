-- A source and a sink in memory, as their callers see them.
use Rattle.std.specs.Prelude.{ℕ, List}

-- a source: the bytes left, how many each take gave, the numbers from 1 of the calls that fail, and how many calls and faults there were
pub record Supply : Type 0 where
  pub left : List ℕ
  pub gave : List ℕ
  pub failing : List ℕ
  pub calls : ℕ
  pub faults : ℕ

-- a sink: the bytes put, the numbers from 1 of the calls that fail, and how many calls and faults there were
pub record Store : Type 0 where
  pub taken : List ℕ
  pub failing : List ℕ
  pub calls : ℕ
  pub faults : ℕ
