use Rattle.std.proofs.Common.{◌≡◌, drop}
use Rattle.test_ports.specs.Files.{file_of}
use Rattle.test_ports.proofs.sources.find_file.Given as goal

abbrev pub invariant-loop-file : goal.invariant-loop-file
invariant-loop-file l = file_of l.files l.name ≡ file_of (drop l.file-index l.files) l.name
