-- What the system's edges show: which files were fetched, and how often they failed.
use Rattle.std.specs.Prelude.{ℕ, List, map, string_bytes}
use Rattle.smps_io.specs.declared.real.RealShelf.{RealShelf}
use Rattle.smps_io.specs.declared.real.RealSink.{RealSink}

-- the names of all fetches, in their order
abbrev pub fetched_names : RealShelf → List (List ℕ)
fetched_names shelf = map string_bytes shelf.fetches.items

abbrev pub fetch_faults : RealShelf → ℕ
fetch_faults shelf = shelf.faults

abbrev pub put_faults : RealSink → ℕ
put_faults sink = sink.faults
