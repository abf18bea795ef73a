use Rattle.std.proofs.Common.{◌∙◌, ap, sym, ◌++◌, ◌∷◌, append_assoc, map, decimal}
use Rattle.std.specs.Prelude.{string_bytes}
use Rattle.std.specs.List.{flat_map, join_with_byte}
use Rattle.mgr_show.proofs.LineLaws.{with_commas}
use Rattle.mgr_show.proofs.lines.push_writers.Goals as goal

pub others-init : goal.others-init
others-init c =
    ap (λ b. b ++ flat_map (λ n. 44 ∷ decimal n) c.pop_first.new.self.keys) (c.in_ok-push_str.ensures.bytes ∙ ap (λ b. string_bytes c.args.text.now ++ b) c.format.ensures.text)
    ∙ append_assoc (string_bytes c.args.text.now) (decimal c.in-Some.first) (flat_map (λ n. 44 ∷ decimal n) c.pop_first.new.self.keys)
    ∙ ap (λ b. string_bytes c.args.text.now ++ b) (sym (with_commas decimal c.in-Some.first c.pop_first.new.self.keys))
    ∙ ap (λ ks. string_bytes c.args.text.now ++ join_with_byte 44 (map decimal ks)) (sym c.in-Some.ensures.removal)
