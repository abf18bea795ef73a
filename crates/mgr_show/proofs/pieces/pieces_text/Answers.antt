use Rattle.std.proofs.Common.{◌∙◌, ◌≤◌, length, ap, sym, subst, ◌++◌, append_assoc}
use Rattle.std.specs.Prelude.{string_bytes}
use Rattle.std.specs.List.{flat_map}
use Rattle.std.proofs.lemmas.List.Sums.{prefix_len-le-length}
use Rattle.mgr_show.specs.Authors.{piece_line, pieces, piece, characters}
use Rattle.mgr_show.proofs.AuthorLaws.{first_piece}
use Rattle.mgr_show.proofs.pieces.pieces_text.Goals as goal

pub split_at-requires : goal.split_at-requires
split_at-requires c = subst (λ n. n ≤ length c.pieces.rest.now) (sym c.piece_len.ensures) (prefix_len-le-length _ c.pieces.rest.now)

pub pieces-preserved : goal.pieces-preserved
pieces-preserved c =
    ap (λ b. b ++ flat_map piece_line (pieces c.split_at.result.1.now)) c.in_ok-push_piece.ensures
    ∙ append_assoc (string_bytes c.pieces.text) _ _
    ∙ (λ k. string_bytes c.pieces.text ++ (piece_line (piece c.in-Some.first.now.0 (characters (c.split_at.ensures.front k))) ++ flat_map piece_line (pieces (c.split_at.ensures.back k))))
    ∙ ap (λ b. string_bytes c.pieces.text ++ b) (first_piece piece_line c.pieces.rest.now c.in-Some.first.now c.piece_len.result c.in-Some.ensures.value c.piece_len.ensures)
    ∙ c.pieces.invariant
