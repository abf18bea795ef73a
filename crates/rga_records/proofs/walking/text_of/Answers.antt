use Rattle.std.proofs.Common.{◌≡◌, ℕ, List, get_or, sym, ap, ◌∙◌, subst}
use Rattle.std.specs.Prelude.{string_bytes, encode_utf8_all}
use Rattle.std.proofs.lemmas.Result.{IfOk-weaker}
use Rattle.rga_ops.specs.Order.{text}
use Rattle.rga_records.specs.Records.{Entries, content_of_records}
use Rattle.rga_records.specs.Links.{AreCodes, AreLinks, IsLinkChain}
use Rattle.rga_records.proofs.LinkedRecordLaws.{kept_of, links_few, links_text}
use Rattle.rga_records.proofs.walking.text_of.Goals as goal

pub returns : goal.returns
returns c = record {
  ok =
      let es : Entries = c.args.entries.now in
      let codes : List ℕ = c.in_ok-links.links.shown.items in
      let next : List ℕ = c.in_ok-links.links.next.items in
      let l : AreLinks es codes next = subst (λ fs. AreLinks fs codes next) c.pages.ensures.pages c.in_ok-links.ensures.ok in
      let linked : IsLinkChain c.as_slice.result.now (get_or c.as_slice.result.now 0 0) l.linked.chain =
      subst (λ ns. IsLinkChain ns (get_or ns 0 0) l.linked.chain) (sym c.as_slice.ensures.value) l.linked.linked in
      let are : AreCodes c.as_slice-2.result.now (kept_of es) = subst (λ xs. AreCodes xs (kept_of es)) (sym c.as_slice-2.ensures.value) l.each_shown in
      IfOk-weaker c.read_along.result _ (λ string. string_bytes string ≡ encode_utf8_all (text (content_of_records es)))
      (λ string same. same ∙ ap encode_utf8_all (links_text es codes next c.pages.ensures.ordered l))
      (c.read_along.ensures.ok l.linked.chain (kept_of es) are linked (links_few es codes next c.pages.ensures.ordered l));
}
