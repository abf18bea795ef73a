use Rattle.std.specs.Prelude.{◌≡◌, map, string_bytes, take}
use Rattle.clap.specs.Walk.{texts}
use Rattle.mgr_args.proofs.job.texts_of.Given as goal

abbrev pub invariant-loop-word : goal.invariant-loop-word
invariant-loop-word l = texts l.given.items ≡ map string_bytes (take l.word-index l.words)
