use Rattle.std.specs.Prelude.{◌≡◌, map, string_bytes, take}
use Rattle.clap.specs.Walk.{texts}
use Rattle.mgr_args.proofs.given.strings_of.Given as goal

abbrev pub invariant-loop-word : goal.invariant-loop-word
invariant-loop-word l = map string_bytes l.strings.items ≡ texts (take l.word-index l.words)
