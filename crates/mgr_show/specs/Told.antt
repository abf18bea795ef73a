-- The numbers of a log as they are written.
use Rattle.std.specs.Prelude.{◌≡◌, ◌≢◌, ℕ, Bool, List, ◌++◌, Option, IfSome, map, if◌then◌else◌, codes, decimal}
use Rattle.std.specs.List.{flat_map, join_with_byte}
use Rattle.rga_exchange.specs.Counting.{Calls, Writes, WritesFront}
use Rattle.rga_exchange.specs.declared.log.LogEnd.{LogEnd}
use Rattle.rga_exchange.specs.declared.log.LogEnd.TheVariants.{Whole, Bare, Torn}
use Rattle.mgr_show.specs.Shown.{log_content, shown_bytes}
use Rattle.mgr_show.specs.Numbers.{failures_of_look, text_is, AreNumbers}
use Rattle.mgr_show.specs.declared.counts.Counts.{Counts}
use Rattle.mgr_show.specs.declared.numbers.Numbers.{Numbers}
use Rattle.mgr_show.specs.declared.numbers.TextIs.{TextIs}
use Rattle.mgr_show.specs.declared.numbers.TextIs.TheVariants.{Same, Other, Unread}
use Rattle.mgr_show.specs.declared.tallies.Tally.{Tally}

-- what stands after the last newline of a log: nothing, an operation, or what is none
abbrev pub end_name : LogEnd → List ℕ
end_name Whole = codes "whole"
end_name Bare = codes "bare"
end_name (Torn bytes) = codes "torn"

abbrev pub text_name : TextIs → List ℕ
text_name Same = codes "same"
text_name Other = codes "other"
text_name Unread = codes "unread"

-- ---- for people

unfoldable pub operations_line : List ℕ → Counts → List ℕ
operations_line name n =
    name ++ (codes ".ops: " ++ (decimal n.operations
    ++ (codes " operations: " ++ (decimal n.insertions
    ++ (codes " insertions, " ++ (decimal n.deletions
    ++ codes " deletions\n"))))))

unfoldable pub size_lines : Numbers → List ℕ
size_lines n =
    decimal n.counts.visible ++ (codes " visible, " ++ (decimal n.counts.waiting
    ++ (codes " waiting, " ++ (decimal n.bytes
    ++ (codes " bytes, ends " ++ (end_name n.end
    ++ (codes "\ntext: " ++ (text_name n.text
    ++ codes "\n"))))))))

unfoldable pub tally_line : ℕ × Tally → List ℕ
tally_line e =
    codes "replica " ++ (decimal e.0
    ++ (codes ": " ++ (decimal e.1.characters
    ++ (codes " characters, greatest counter " ++ (decimal e.1.counter
    ++ codes "\n")))))

-- ---- in JSON

unfoldable pub operations_members : Counts → List ℕ
operations_members n =
    codes "{\"operations\":" ++ (decimal n.operations
    ++ (codes ",\"insertions\":" ++ (decimal n.insertions
    ++ (codes ",\"deletions\":" ++ decimal n.deletions))))

unfoldable pub size_members : Numbers → List ℕ
size_members n =
    codes ",\"visible\":" ++ (decimal n.counts.visible
    ++ (codes ",\"waiting\":" ++ (decimal n.counts.waiting
    ++ (codes ",\"bytes\":" ++ (decimal n.bytes
    ++ (codes ",\"end\":\"" ++ (end_name n.end
    ++ (codes "\",\"text\":\"" ++ (text_name n.text
    ++ codes "\"")))))))))

unfoldable pub tally_object : ℕ × Tally → List ℕ
tally_object e =
    codes "{\"replica\":" ++ (decimal e.0
    ++ (codes ",\"characters\":" ++ (decimal e.1.characters
    ++ (codes ",\"counter\":" ++ (decimal e.1.counter
    ++ codes "}")))))

-- ---- the whole

-- lines, of which each replica has one, or one object in one line
unfoldable pub numbers_bytes : Bool → List ℕ → Numbers → List ℕ
numbers_bytes json name n =
    if json then
    operations_members n.counts ++ (size_members n
    ++ (codes ",\"replicas\":[" ++ (join_with_byte 44 (map tally_object n.counts.tallies.entries)
    ++ codes "]}\n")))
    else operations_line name n.counts ++ (size_lines n ++ flat_map tally_line n.counts.tallies.entries)

-- these are the numbers of a log, where it is told, and of the text beside it, where that was read and is told
pub record AreNumbersOf (log beside : Option (List ℕ)) (n : Numbers) : Type 0 where
  pub numbers : IfSome log (λ bytes. AreNumbers bytes n)
  pub text : n.text ≢ Unread → IfSome log (λ bytes. IfSome beside (λ text. n.text ≡ text_is text (shown_bytes (log_content bytes))))

module _ {W : Type 0} (contents : W → Option (List ℕ)) (old new : Calls W) (json : Bool) (name : List ℕ) (log beside : Option (List ℕ)) where
  -- the numbers of a log were written
  pub record WritesNumbers : Type 0 where
    pub numbers : Numbers
    pub are : AreNumbersOf log beside numbers
    pub written : Writes contents old new (numbers_bytes json name numbers)

  -- a beginning of them was written
  pub record BeginsToWriteNumbers : Type 0 where
    pub numbers : Numbers
    pub are : AreNumbersOf log beside numbers
    pub begun : WritesFront contents old new (numbers_bytes json name numbers)

module _ {W : Type 0} (contents : W → Option (List ℕ)) (old new : Calls W) (json : Bool) (name : List ℕ) (failed failing : ℕ) where
  -- the text was told as unread in what was written, exactly if its read failed
  pub record LooksAtText : Type 0 where
    pub numbers : Numbers
    pub looked : failing ≡ failures_of_look numbers.text failed
    pub written : Writes contents old new (numbers_bytes json name numbers)
