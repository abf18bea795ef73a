use Rattle.mgr_port.proofs.BytesLaws.{before_quiet, front_is_there, lines_are_there, read_is_there}
use Rattle.mgr_port.proofs.NamingLaws.{text_is_elsewhere}
use Rattle.mgr_port.proofs.WorldLaws.{grown}
use Rattle.mgr_port.proofs.laws.a_log_that_was_read_only_grows.Goals as goal

pub returns-clause-grown : goal.returns-clause-grown
returns-clause-grown c file before a b left found ends long may shown = grown file before a b left found ends long may shown

pub returns-clause-read : goal.returns-clause-read
returns-clause-read c file path next read bytes left now loads has = read_is_there file path next read left bytes now loads has

pub returns-clause-added : goal.returns-clause-added
returns-clause-added c file path lines bytes left longer old now added has = lines_are_there file path left lines longer bytes old now added has

pub returns-clause-failed : goal.returns-clause-failed
returns-clause-failed c file lines bytes old now front has = front_is_there file lines bytes old now front has

pub returns-clause-quiet : goal.returns-clause-quiet
returns-clause-quiet c file bytes old now quiet has = before_quiet file old now bytes quiet has

pub returns-clause-text : goal.returns-clause-text
returns-clause-text c log file dated path name text bytes own now_own is_there old made now other makes puts has =
    text_is_elsewhere log bytes file dated path name text own now_own is_there old made now other makes puts has
