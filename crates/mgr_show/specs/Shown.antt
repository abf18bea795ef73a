-- What `show_ops` writes.
use Rattle.std.specs.Prelude.{◌≡◌, ℕ, List, Option, Ok, ⊤, encode_utf8_all}
use Rattle.rga_ops.specs.Prelude.{Content, content_of, text}
use Rattle.rga_ops.specs.Content.{IsAgreed}
use Rattle.rga_lines.specs.Log.{log_operations}
use Rattle.rga_exchange.specs.Counting.{Calls, Writes, WritesFront}
use Rattle.rga_store.specs.declared.text_store.TheConstants.{MAX_LIMIT}
use Rattle.mgr_show.specs.declared.fault.ShowFault.{ShowFault}
use Rattle.mgr_show.specs.declared.fault.ShowFault.TheVariants as fault
use Rattle.mgr_show.specs.Log.{log_of}

-- faults that the bytes alone decide
abbrev pub IsOfInput : ShowFault → Type 0
IsOfInput fault.Read = ⊥
IsOfInput fault.Write = ⊥
IsOfInput (fault.Memory _) = ⊥
IsOfInput e = ⊤

-- the text of a content in UTF-8
abbrev pub shown_bytes : Content → List ℕ
shown_bytes c = encode_utf8_all (text c)

-- the content of the operations of a log
abbrev pub log_content : List ℕ → Content
log_content bytes = content_of (log_operations bytes)

-- the log is accepted: its operations agree, and what they lead to is their content
pub record IsAccepted (bytes : List ℕ) : Type 0 where
  pub agreed : IsAgreed (log_operations bytes)
  pub content : log_of MAX_LIMIT bytes ≡ Ok (log_content bytes)

module _ {W : Type 0} (contents : W → Option (List ℕ)) (old new : Calls W) where
  -- the text of an accepted log was written
  pub record ShowsLog (bytes : List ℕ) : Type 0 where
    pub accepted : IsAccepted bytes
    pub written : Writes contents old new (shown_bytes (log_content bytes))

  -- a beginning of it was written
  pub record BeginsToShow (bytes : List ℕ) : Type 0 where
    pub accepted : IsAccepted bytes
    pub begun : WritesFront contents old new (shown_bytes (log_content bytes))
