-- What a fetch answers, and what it leaves.
use Rattle.std.specs.Prelude.{◌≡◌, ◌<◌, ◌≤◌, ◌↔◌, ℕ, List, ◌++◌, take, length, Option, Result, IfSome, IfOk, IsErrOf, Vec}
use Rattle.std.specs.declared.alloc.Global.{Global}
use Rattle.smps_io.specs.Faults.{Rose}
use Rattle.smps_io.specs.Files.{Files, bytes_of}
use Rattle.smps_io.specs.declared.shelf.ShelfFault.{ShelfFault}
use Rattle.smps_io.specs.declared.shelf.ShelfFault.TheVariants.{Failed, TooLong}

-- where the shelf tells what it holds: the bytes of that name, and too long only where there are more than the limit
abbrev pub GivesFile : Option Files → List ℕ → ℕ → Result (Vec ℕ Global) ShelfFault → Type 0
GivesFile content name limit result = IfSome content (λ files.
    IfOk result (λ bytes. bytes.items ≡ bytes_of files name) × (IsErrOf result TooLong → limit < length (bytes_of files name)))

-- too long comes exactly where the source gave more bytes than the limit
abbrev pub IsTooLong : ℕ → ℕ → Result (Vec ℕ Global) ShelfFault → Type 0
IsTooLong limit given result = IsErrOf result TooLong ↔ (limit < given)

-- a fetch that failed raised the count, and no fetch lowers it
pub record FetchHasCause (before now : ℕ) (result : Result (Vec ℕ Global) ShelfFault) : Type 0 where
  pub later : before ≤ now
  pub failed : IsErrOf result Failed → Rose before now

-- behind those before, the first of these names were fetched, or all, in their order
abbrev pub FetchesPrefix : List (List ℕ) → List (List ℕ) → List (List ℕ) → Type 0
FetchesPrefix before names now = (k : ℕ) × (now ≡ before ++ take k names)
