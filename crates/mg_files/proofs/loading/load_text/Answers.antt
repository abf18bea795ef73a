use Rattle.std.proofs.Common.{◌≡◌, List, false, refl, ap, ◌∙◌, inl, inr, Err}
use Rattle.std.specs.Prelude.{chars}
use Rattle.std.proofs.lemmas.Result.{err_from_is_err_and}
use Rattle.std.proofs.lemmas.Str.{encodes-chars, IsUtf8-from_is_utf8}
use Rattle.rga_ops.specs.Content.{nothing, join, content_of}
use Rattle.rga_ops.specs.Order.{text}
use Rattle.rga_ops.specs.declared.op.Op.{Op}
use Rattle.rga_ops.proofs.ContentLaws.{nothing_join}
use Rattle.rga_doc.specs.Document.{document}
use Rattle.rga_doc.specs.LocalEdit.{splice_operations}
use Rattle.mg_files.specs.Faults.{store_fault}
use Rattle.mg_files.specs.Loading.{text_insertions}
use Rattle.mg_files.proofs.LoadedLaws.{limit_of, of_verdict, text_is_loaded, text_inserted}
use Rattle.mg_files.proofs.loading.load_text.Goals as goal

pub returns-in_err-ops-clause-exact : goal.returns-in_err-ops-clause-exact
returns-in_err-ops-clause-exact g c =
    let p = err_from_is_err_and c.from_residual-in_err-ops.result c.from_residual-in_err-ops.ensures.1 in
    let made : c.in_ok-doc.doc ≡ document nothing c.args.limit c.args.replica false = c.in_ok-doc.ensures in
    let put : c.deref.result.now ≡ chars c.args.bytes.now = c.deref.ensures.value ∙ c.in_ok-put.ensures.0 in
    λ fine. elim c.in_err-ops.ensures.exact [
      | inl want ↦ absurd (fine (p.1 ∙ (λ k. Err ((p.2 ∙ ap store_fault want) k))))
      | inr is ↦
          let loaded = text_is_loaded c.args.replica c.args.limit c.args.bytes.now c.deref.result.now c.in_ok-doc.doc (limit_of c.args.replica c.args.limit c.requires) c.in_ok-put.ensures.1 made put in
          rw (p.1, p.2, loaded ∙ ap (of_verdict c.args.replica (chars c.args.bytes.now)) is) refl
    ]

pub returns-clause-shown : goal.returns-clause-shown
returns-clause-shown g c =
    let made : c.in_ok-doc.doc ≡ document nothing c.args.limit c.args.replica false = c.in_ok-doc.ensures in
    let put : c.deref.result.now ≡ chars c.args.bytes.now = c.deref.ensures.value ∙ c.in_ok-put.ensures.0 in
    let text : text c.splice.new.self.content ≡ c.deref.result.now = text_inserted c.in_ok-doc.doc c.args.limit c.args.replica c.deref.result.now (text c.splice.new.self.content) made c.in_ok-ops.ensures.text in
    rw (c.new.ensures, c.new-buffer.ensures, text, put) (encodes-chars c.args.bytes.now (IsUtf8-from_is_utf8 c.args.bytes.now c.in_ok-put.ensures.1))

pub returns-clause-exact : goal.returns-clause-exact
returns-clause-exact g c =
    let made : c.in_ok-doc.doc ≡ document nothing c.args.limit c.args.replica false = c.in_ok-doc.ensures in
    let put : c.deref.result.now ≡ chars c.args.bytes.now = c.deref.ensures.value ∙ c.in_ok-put.ensures.0 in
    let all : List Op = text_insertions c.args.replica (chars c.args.bytes.now) in
    let ops : c.in_ok-ops.ops.items ≡ all = c.in_ok-ops.ensures.operations ∙ (λ k. splice_operations (made k).replica (made k).content 0 0 (put k)) in
    let left : c.splice.new.self ≡ document (content_of all) c.args.limit c.args.replica c.splice.new.self.listed =
    c.in_ok-ops.ensures.content
    ∙ (λ k. record (made k) { content = join (made k).content (content_of (ops k)); listed = c.splice.new.self.listed })
    ∙ (λ k. document (nothing_join (content_of all) k) c.args.limit c.args.replica c.splice.new.self.listed) in
    let loaded = text_is_loaded c.args.replica c.args.limit c.args.bytes.now c.deref.result.now c.in_ok-doc.doc (limit_of c.args.replica c.args.limit c.requires) c.in_ok-put.ensures.1 made put in
    let taken = loaded ∙ ap (of_verdict c.args.replica (chars c.args.bytes.now)) c.in_ok-ops.ensures.exact in
    λ fine. rw (taken, c.new.ensures, c.new-buffer.ensures, left, ops, c.in_ok-name.ensures.ok) refl
