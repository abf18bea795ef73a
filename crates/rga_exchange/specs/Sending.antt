-- Operations as the lines of a log, and of an exchange.
use Rattle.std.specs.Prelude.{◌≡◌, ◌≤◌, ℕ, List, [], ◌∷◌, ◌++◌, map, length, take, Option, Contains}
use Rattle.std.specs.List.{AllByRecursion}
use Rattle.rga_ops.specs.Content.{Content, join, content_of, IsAgreed}
use Rattle.rga_ops.specs.ListAnswer.{AreWellFormed, IsJoinable}
use Rattle.rga_ops.specs.Operations.{operations}
use Rattle.rga_ops.specs.declared.op.Op.{Op}
use Rattle.rga_lines.specs.declared.line.TheConstants.{MAX_LINE}
use Rattle.rga_exchange.specs.Counting.{Calls, Writes, WritesFront}
use Rattle.rga_lines.specs.Log.{log_operations, IsOperation}
use Rattle.rga_lines.specs.Spelling.{line, head_line, end_line, IsWritable}
use Rattle.rga_lines.specs.Stream.{bytes_of_lines, lines_of, rest_of}

-- the lines of operations, each with its newline
abbrev pub log_text : List Op → List ℕ
log_text ops = bytes_of_lines (map line ops)

-- the line that begins an exchange, the lines of operations, and the line that ends an exchange of so many
abbrev pub exchange_lines : List Op → List (List ℕ)
exchange_lines ops = head_line ∷ (map line ops ++ end_line (length ops) ∷ [])

-- the head, the operations and the end, each line with its newline
abbrev pub exchange_text : List Op → List ℕ
exchange_text ops = bytes_of_lines (exchange_lines ops)

-- what is sent of a content: all its operations
abbrev pub stream_text : Content → List ℕ
stream_text c = exchange_text (operations c)

-- each operation of the list can be written
abbrev pub AreWritable : List Op → Type 0
AreWritable ops = (op : Op) → Contains ops op → IsWritable op

-- A log whose lines all are operations stands for the content of its operations, where these agree. Its rest may be
-- anything that is not too long: it counts where it is an operation, and else was cut off.
pub record StandsFor (bytes : List ℕ) (c : Content) : Type 0 where
  pub lines : AllByRecursion IsOperation (lines_of bytes)
  pub short : length (rest_of bytes) ≤ MAX_LINE
  pub agreed : IsAgreed (log_operations bytes)
  pub content : c ≡ content_of (log_operations bytes)

-- With this behind it a log has the first so many of the operations behind its own, and stands for its content joined
-- with theirs.
pub record GainsFirst (bytes front : List ℕ) (c : Content) (ops : List Op) : Type 0 where
  pub count : ℕ
  pub within : count ≤ length ops
  pub operations : log_operations (bytes ++ front) ≡ log_operations bytes ++ take count ops
  pub stands : StandsFor (bytes ++ front) (join c (content_of (take count ops)))

module _ {W : Type 0} (contents : W → Option (List ℕ)) (old new : Calls W) where
  -- Known bytes grew by these, with which a log that is empty or ends in a newline gains the first of the operations.
  pub record AppendsFirst (ops : List Op) : Type 0 where
    pub front : List ℕ
    pub written : Writes contents old new front
    pub gained : (bytes : List ℕ) (c : Content) → StandsFor bytes c → rest_of bytes ≡ [] → AreWellFormed ops → IsJoinable c ops → GainsFirst bytes front c ops

  -- Known bytes grew by a beginning of some bytes and the lines of the first so many of the operations. Each of these
  -- can be written, where all are well-formed.
  pub record WritesFirst (bytes : List ℕ) (ops : List Op) : Type 0 where
    pub count : ℕ
    pub within : count ≤ length ops
    pub writable : AreWellFormed ops → AreWritable (take count ops)
    pub begun : WritesFront contents old new (bytes ++ log_text (take count ops))
