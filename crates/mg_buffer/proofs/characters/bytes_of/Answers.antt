use Rattle.std.proofs.Common.{rules, ◌∙◌, ◌+◌, ◌++◌, List, sym, ap, subst, arith, append_assoc, drop, encode_utf8_all, ℕ}
use Rattle.std.specs.Char.{IsScalar, encode_utf8}
use Rattle.std.specs.Str.{IsUtf8}
use Rattle.std.proofs.lemmas.List.{drop_more}
use Rattle.std.proofs.lemmas.Str.{IsUtf8-append, IsUtf8-encode}
use Rattle.mg_buffer.proofs.characters.bytes_of.Goals as goal

pub loop-index-preserved : goal.loop-index-preserved
loop-index-preserved c =
    let ch : ℕ = c.index-characters-index.result in
    let scalar : IsScalar ch = search rules in
    let chars : List ℕ = c.args.characters.now in
    let before : List ℕ = c.loop-index.bytes.items in
    let rest : List ℕ = drop (c.loop-index.index + 1) chars in
    record {
      bytes =
          ap (λ b. b ++ encode_utf8_all rest) c.in_ok-push_utf8.ensures.bytes
          ∙ append_assoc before (encode_utf8 ch) (encode_utf8_all rest)
          ∙ ap (λ x. before ++ (encode_utf8 x ++ encode_utf8_all rest)) c.index-characters-index.is
          ∙ ap (λ cs. before ++ encode_utf8_all cs) (sym (drop_more chars c.loop-index.index ch c.loop-index-test.true))
          ∙ c.loop-index.invariant.bytes;
      utf8 = subst IsUtf8 (sym c.in_ok-push_utf8.ensures.bytes) (IsUtf8-append _ _ c.loop-index.invariant.utf8 (IsUtf8-encode ch scalar));
      room = omega (arith, c.in_ok-push_utf8.ensures.room, c.loop-index.invariant.room, c.loop-index-test.true);
    }
