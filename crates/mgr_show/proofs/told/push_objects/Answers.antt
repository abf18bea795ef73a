use Rattle.std.proofs.Common.{◌∙◌, ap, sym, ◌++◌, ◌∷◌, append_assoc, map}
use Rattle.std.specs.Prelude.{string_bytes}
use Rattle.std.specs.List.{flat_map, join_with_byte}
use Rattle.mgr_show.specs.Told.{tally_object}
use Rattle.mgr_show.proofs.LineLaws.{with_commas}
use Rattle.mgr_show.proofs.told.push_objects.Goals as goal

pub others-init : goal.others-init
others-init c =
    ap (λ b. b ++ flat_map (λ e. 44 ∷ tally_object e) c.pop_first.new.self.entries) c.in_ok-push_object.ensures
    ∙ append_assoc (string_bytes c.args.text.now) (tally_object (c.in-Some.first, c.in-Some.tally)) (flat_map (λ e. 44 ∷ tally_object e) c.pop_first.new.self.entries)
    ∙ ap (λ b. string_bytes c.args.text.now ++ b) (sym (with_commas tally_object (c.in-Some.first, c.in-Some.tally) c.pop_first.new.self.entries))
    ∙ ap (λ es. string_bytes c.args.text.now ++ join_with_byte 44 (map tally_object es)) (sym c.in-Some.ensures.removal)
