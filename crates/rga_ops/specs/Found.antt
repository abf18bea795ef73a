-- What a store finds of an operation's identifier.
use Rattle.std.specs.Option.{option_map}
use Rattle.rga_ops.specs.Content.{element}
use Rattle.rga_ops.specs.Answer.{Facts}
use Rattle.rga_ops.specs.declared.answer.Found.{Found}

abbrev pub facts_of : Found → Facts
facts_of f = record {
  found = option_map (λ x. element x.0 x.1) f.element;
  deleted = f.deleted;
  known = f.known;
  limit = f.limit;
}
