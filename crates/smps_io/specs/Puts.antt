-- What a put answers.
use Rattle.std.specs.Prelude.{◌≡◌, ◌≤◌, ℕ, List, ◌++◌, take, Option, Result, IsErrOf}
use Rattle.std.specs.Option.{option_map}
use Rattle.smps_io.specs.Faults.{Rose}
use Rattle.smps_io.specs.declared.sink.SinkFault.{SinkFault}
use Rattle.smps_io.specs.declared.sink.SinkFault.TheVariants.{Failed}

-- these bytes were appended, where the sink tells
abbrev pub Appends : Option (List ℕ) → List ℕ → Option (List ℕ) → Type 0
Appends old bytes new = new ≡ option_map (λ written. written ++ bytes) old

-- a prefix of these bytes was appended
abbrev pub AppendsPrefix : Option (List ℕ) → List ℕ → Option (List ℕ) → Type 0
AppendsPrefix old bytes new = (k : ℕ) × Appends old (take k bytes) new

pub record SinkHasCause {T : Type 0} (before now : ℕ) (result : Result T SinkFault) : Type 0 where
  pub later : before ≤ now
  pub failed : IsErrOf result Failed → Rose before now
