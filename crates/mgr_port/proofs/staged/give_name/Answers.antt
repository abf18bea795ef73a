use Rattle.mgr_port.proofs.PlaceLaws.{given_kept, given_text}
use Rattle.mgr_port.proofs.StagingLaws.{named_free, named_kept, unnamed_kept, unkept_read}
use Rattle.mgr_port.proofs.staged.give_name.Goals as goal

pub returns-in-Nothing-clause-named : goal.returns-in-Nothing-clause-named
returns-in-Nothing-clause-named g c = λ file. named_free file _ _ c.args.staged _ _ c.in-Nothing.is c.give_free_name.ensures.named

pub returns-in_ok-spare-in-Log-clause-named : goal.returns-in_ok-spare-in-Log-clause-named
returns-in_ok-spare-in-Log-clause-named g c = λ file.
    named_kept file _ _ c.args.staged _ _ _ _ _ c.in-Log.is tt (_, c.in_ok-spare-in-Log.ensures.kept) c.in_ok-spare-in-Log.ensures.path c.rename.ensures.step

pub returns-in_ok-spare-in-Log-clause-unnamed : goal.returns-in_ok-spare-in-Log-clause-unnamed
returns-in_ok-spare-in-Log-clause-unnamed g c = λ _. unnamed_kept _ _ _ c.args.staged _ _ _ _ _ c.in-Log.is (_, c.in_ok-spare-in-Log.ensures.kept) c.rename.ensures.step

pub returns-in_ok-spare-in-Text-clause-named : goal.returns-in_ok-spare-in-Text-clause-named
returns-in_ok-spare-in-Text-clause-named g c = λ file.
    named_kept file _ _ c.args.staged _ _ _ _ _ c.in-Text.is tt c.in_ok-spare-in-Text.ensures.kept c.in_ok-spare-in-Text.ensures.path c.rename-in-Text.ensures.step

pub returns-in_ok-spare-in-Text-clause-unnamed : goal.returns-in_ok-spare-in-Text-clause-unnamed
returns-in_ok-spare-in-Text-clause-unnamed g c = λ _. unnamed_kept _ _ _ c.args.staged _ _ _ _ _ c.in-Text.is c.in_ok-spare-in-Text.ensures.kept c.rename-in-Text.ensures.step

pub returns-in_ok-spare-in-Read-clause-named : goal.returns-in_ok-spare-in-Read-clause-named
returns-in_ok-spare-in-Read-clause-named g c = λ file.
    named_kept file _ _ c.args.staged _ _ _ _ _ c.in-Read.is tt (_, _, c.in_ok-check_as_read-in-Read.ensures.shown, c.in_ok-spare-in-Read.ensures.kept) c.in_ok-spare-in-Read.ensures.path c.rename-in-Read.ensures.step

pub returns-in_ok-spare-in-Read-clause-unnamed : goal.returns-in_ok-spare-in-Read-clause-unnamed
returns-in_ok-spare-in-Read-clause-unnamed g c = λ _.
    unnamed_kept _ _ _ c.args.staged _ _ _ _ _ c.in-Read.is (_, _, c.in_ok-check_as_read-in-Read.ensures.shown, c.in_ok-spare-in-Read.ensures.kept) c.rename-in-Read.ensures.step

pub returns-in_err-spare-in-Read-clause-unnamed : goal.returns-in_err-spare-in-Read-clause-unnamed
returns-in_err-spare-in-Read-clause-unnamed g c = λ _. unkept_read _ _ _ c.args.staged _ _ _ _ _ c.in_ok-check_as_read-in-Read.ensures.shown c.in_err-spare-in-Read.ensures.idle

pub rename-requires : goal.rename-requires
rename-requires g c = given_kept _ _ _ _ _ c.in_ok-spare-in-Log.ensures.path c.in_ok-spare-in-Log.ensures.kept

pub rename-requires-in-Text : goal.rename-requires-in-Text
rename-requires-in-Text g c = given_text _ _ _ _ _ _ c.in_ok-spare-in-Text.ensures.path c.in_ok-spare-in-Text.ensures.kept

pub rename-requires-in-Read : goal.rename-requires-in-Read
rename-requires-in-Read g c = given_kept _ _ _ _ _ c.in_ok-spare-in-Read.ensures.path c.in_ok-spare-in-Read.ensures.kept
