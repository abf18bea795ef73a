use Rattle.mgr_port.proofs.BytesLaws.{lines_are_on_device, torn}
use Rattle.mgr_port.proofs.laws.a_log_is_torn_only_at_its_end.Goals as goal

pub returns-clause-torn : goal.returns-clause-torn
returns-clause-torn c file lines bytes found old now front device stands = torn file lines bytes found old now front device stands

pub returns-clause-added : goal.returns-clause-added
returns-clause-added c file path lines bytes left longer old now added known = lines_are_on_device file path left lines longer bytes old now added known
