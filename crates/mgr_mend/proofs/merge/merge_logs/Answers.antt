use Rattle.std.proofs.Common.{None}
use Rattle.mgr_mend.proofs.MergeLemmas.{merges, is_loaded, refuses, leaves, unwritten, begins}
use Rattle.mgr_mend.proofs.merge.merge_logs.Goals as goal

pub returns-clause-merged : goal.returns-clause-merged
returns-clause-merged g c = merges _ _ _ _ _ c.args.adopt _ _ c.in_ok-opened.ensures.loaded c.merge_loaded.result (λ m. m.new) (λ m. m.torn.items) c.merge_loaded.ensures.merged

pub returns-clause-not_loaded : goal.returns-clause-not_loaded
returns-clause-not_loaded g c = is_loaded _ c.merge_loaded.result c.merge_loaded.ensures.loaded

pub returns-clause-refused : goal.returns-clause-refused
returns-clause-refused g c = refuses _ _ _ _ _ c.args.adopt _ _ c.in_ok-opened.ensures.loaded c.merge_loaded.result c.merge_loaded.ensures.refused

pub returns-clause-text_stays : goal.returns-clause-text_stays
returns-clause-text_stays g c = leaves _ _ _ _ _ c.args.adopt _ _ c.in_ok-opened.ensures.loaded c.merge_loaded.result c.merge_loaded.ensures.text_stays

pub returns-clause-unwritten : goal.returns-clause-unwritten
returns-clause-unwritten g c = unwritten _ _ _ _ None c.args.adopt _ _ c.in_ok-opened.ensures.loaded c.merge_loaded.result c.merge_loaded.ensures.unwritten

pub returns-clause-begun : goal.returns-clause-begun
returns-clause-begun g c = begins _ _ _ _ _ c.args.adopt _ _ c.in_ok-opened.ensures.loaded c.merge_loaded.result c.merge_loaded.ensures.begun
