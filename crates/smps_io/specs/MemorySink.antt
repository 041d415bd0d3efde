-- What an output in memory shows.
use Rattle.std.specs.Prelude.{ℕ, List}
use Rattle.smps_io.specs.declared.memory_sink.MemorySink.{MemorySink}

abbrev pub written_bytes : MemorySink → List ℕ
written_bytes sink = sink.bytes.items

abbrev pub failing_calls : MemorySink → List ℕ
failing_calls sink = sink.fails.items
