-- What a store that was made empty took of a log.
use Rattle.std.proofs.Common.{◌≡◌, ℕ, List, Option, Ok, sym, subst, ◌∙◌}
use Rattle.std.specs.Prelude.{IfSome}
use Rattle.std.proofs.lemmas.Option.{IfSome_then}
use Rattle.rga_ops.specs.Content.{Content, nothing}
use Rattle.rga_store.specs.declared.text_store.TheConstants.{MAX_LIMIT}
use Rattle.rga_exchange.specs.declared.log.LogRead.{LogRead}
use Rattle.rga_exchange.specs.Log.{log_outcome}
use Rattle.mgr_show.specs.Note.{note_from}
use Rattle.mgr_show.specs.Stored.{IsRead}
use Rattle.mgr_show.proofs.NoteLaws.{content_of_note}

-- the bytes that were taken are those that are told
pub told_is_read : (told : Option (List ℕ)) (bytes taken : List ℕ) (limit : ℕ) (start c : Content) (read : LogRead) → IfSome told (λ b. bytes ≡ b) → taken ≡ bytes → limit ≡ MAX_LIMIT → start ≡ nothing
    → note_from limit start taken ≡ Ok c → (log_outcome limit start taken).1 ≡ Ok read → IfSome told (λ b. IsRead b c read)
told_is_read told bytes taken limit start c read same all fits empty h ended =
    let own = content_of_note taken c ((λ k. note_from (sym fits k) (sym empty k) taken) ∙ h) in
    IfSome_then told same (λ b is. subst (λ l. IsRead l c read) (all ∙ is) (record { readable = own.0; content = own.1; ended = (λ k. (log_outcome (sym fits k) (sym empty k) taken).1) ∙ ended }))
