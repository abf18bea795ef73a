use Rattle.mgr_port.proofs.NamingLaws.{had_elsewhere, held_early, stood_elsewhere}
use Rattle.mgr_port.proofs.laws.what_stands_elsewhere_is_left.Goals as goal

pub returns-clause-name : goal.returns-clause-name
returns-clause-name c stamp_of written file path name other old now puts off_path off_name not_kept stands =
    stood_elsewhere stamp_of written path name other file off_path not_kept off_name old now puts stands

pub returns-clause-bytes : goal.returns-clause-bytes
returns-clause-bytes c written file path name bytes old now puts other has = had_elsewhere written path name file other bytes old now puts has

pub returns-clause-early : goal.returns-clause-early
returns-clause-early c stamp_of path name bytes old now only off_path not_kept holds = held_early stamp_of path name bytes old now off_path not_kept only holds
