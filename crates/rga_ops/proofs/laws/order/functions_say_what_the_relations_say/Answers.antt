use Rattle.rga_ops.proofs.PathLaws.{is_complete-iff, root_path-is, is-root_path}
use Rattle.rga_ops.proofs.BeforeLaws.{before-iff}
use Rattle.rga_ops.proofs.laws.order.functions_say_what_the_relations_say.Goals as goal

pub returns : goal.returns
returns c = record { complete = is_complete-iff; path = λ c id p. (root_path-is, is-root_path); before = before-iff }
