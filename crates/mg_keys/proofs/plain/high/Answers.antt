use Rattle.std.proofs.Common.{rules, ◌≡◌, [], ◌∙◌, ap, List, ℕ}
use Rattle.mg_keys.specs.Utf8.{begins, multibyte_character, reading_behind}
use Rattle.mg_keys.specs.Argument.{value}
use Rattle.mg_keys.specs.Meaning.{insertion_meaning}
use Rattle.mg_keys.proofs.HighLaws.{high_meaning}
use Rattle.mg_keys.proofs.plain.high.Goals as goal

pub returns-in-More : goal.returns-in-More
returns-in-More c =
    let read : multibyte_character c.args.byte [] ≡ begins = search rules in
    let on : (rest : List ℕ) → multibyte_character c.args.byte rest ≡ reading_behind c.in-More.begun rest = search rules in
    (high_meaning c.args.argument c.args.byte [] c.requires ∙ ap (insertion_meaning (value c.args.argument)) read, λ rest. high_meaning c.args.argument c.args.byte rest c.requires ∙ ap (insertion_meaning (value c.args.argument)) (on rest))
