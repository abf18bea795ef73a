-- What is held of a note once logs were merged into it.
use Rattle.std.specs.Prelude.{ℕ, List}
use Rattle.rga_ops.specs.Content.{Content, join, content_of}
use Rattle.rga_exchange.specs.Sending.{StandsFor}
use Rattle.mg_files.specs.Held.{Held, log_bytes}
use Rattle.mgr_show.specs.Joined.{all_operations}

-- the log of the name stood for this content, and stands for it with all operations of the logs
pub record HoldsJoin (name : List ℕ) (logs : List (List ℕ)) (s t : Held) : Type 0 where
  pub held : Content
  pub stood : StandsFor (log_bytes (s name).log) held
  pub stands : StandsFor (log_bytes (t name).log) (join held (content_of (all_operations logs)))
