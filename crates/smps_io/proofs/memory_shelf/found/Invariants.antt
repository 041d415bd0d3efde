use Rattle.std.proofs.Common.{◌≡◌, drop}
use Rattle.smps_io.specs.Files.{file_of}
use Rattle.smps_io.specs.Memory.{files_of}
use Rattle.smps_io.proofs.memory_shelf.found.Given as goal

abbrev pub invariant-loop-file : goal.invariant-loop-file
invariant-loop-file l = file_of (files_of (drop l.file-index l.files)) l.name ≡ file_of (files_of l.files) l.name
