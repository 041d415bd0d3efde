-- New shelves in memory.
use Rattle.std.specs.Prelude.{◌≡◌, ℕ, List, [], String, Vec}
use Rattle.std.specs.declared.alloc.Global.{Global}
use Rattle.smps_io.specs.declared.memory_shelf.MemoryShelf.{MemoryShelf}
use Rattle.smps_io.specs.declared.memory_shelf.NeverFails.{NeverFails}

-- a shelf of these files, of whose fetches these fail, before the first fetch
pub record IsNewShelf (files : Vec (String Global × Vec ℕ Global) Global) (fails : Vec ℕ Global) (shelf : MemoryShelf) : Type 0 where
  pub holds : shelf.files ≡ files
  pub failing : shelf.fails ≡ fails
  pub unfetched : shelf.fetches.items ≡ []
  pub unfailed : shelf.faults ≡ 0
  pub ungiven : shelf.given ≡ 0

-- the same of a shelf that never fails
pub record IsSureShelf (files : Vec (String Global × Vec ℕ Global) Global) (shelf : NeverFails) : Type 0 where
  pub holds : shelf.files ≡ files
  pub unfetched : shelf.fetches.items ≡ []
  pub ungiven : shelf.given ≡ 0
