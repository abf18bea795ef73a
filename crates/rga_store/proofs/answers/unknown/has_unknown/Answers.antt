use Rattle.rga_store.proofs.Prelude.{sym, ◌∙◌}
use Rattle.rga_store.proofs.KnownListLaws.{known_list_taken, known_list_joined, known_list_not_new}
use Rattle.rga_store.proofs.answers.unknown.has_unknown.Goals as goal

pub returns-clause-taken : goal.returns-clause-taken
returns-clause-taken g c = λ none limit. known_list_taken limit (g.H.Holder.held c.args.holder.now) c.args.ops.now (sym c.is_any_unknown.ensures ∙ none)

pub returns-clause-joined : goal.returns-clause-joined
returns-clause-joined g c = λ none. known_list_joined (g.H.Holder.held c.args.holder.now) c.args.ops.now (sym c.is_any_unknown.ensures ∙ none)

pub returns-clause-none_new : goal.returns-clause-none_new
returns-clause-none_new g c = λ none. known_list_not_new (g.H.Holder.held c.args.holder.now) c.args.ops.now (sym c.is_any_unknown.ensures ∙ none)
