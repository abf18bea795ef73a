-- What becomes of files, by what was looked at.
use Rattle.std.specs.Prelude.{◌≡◌, ◌≢◌, ◌⊎◌, ℕ, ◌≤◌, pos, ◌+ℤ◌, ◌-ℤ◌, ◌<ℤ◌, ◌≤ℤ◌, Bool, true, Some, bit_and, bit_or, if◌then◌else◌}
use Rattle.mgr_port.specs.declared.spare.Look.{Look}
use Rattle.mgr_port.specs.declared.stamp.Stamp.{Stamp}
use Rattle.mgr_port.specs.declared.stamp.Time.{Time}
use Rattle.mgr_port.specs.declared.log.FoundLog.{FoundLog}
use Rattle.mgr_port.specs.declared.log.LeftLog.{LeftLog}

-- both are of one file, whatever stands in it
pub record AreOfOneFile (a b : Stamp) : Type 0 where
  pub device : a.device ≡ b.device
  pub inode : a.inode ≡ b.inode

-- Lines may be put behind a log: its name stands for the file that was left, which is no shorter than it was, ends there as
-- it did, and has at most whole lines more.
pub record MayGrow (left : LeftLog) (found : FoundLog) : Type 0 where
  pub same_file : AreOfOneFile found.stamp left.stamp
  pub no_shorter : left.stamp.length ≤ found.stamp.length
  pub same_end : found.end ≡ Some left.end
  pub whole_lines : (found.stamp.length ≡ left.stamp.length) ⊎ (found.ends_in_newline ≡ true)

-- The mode of a new file that stands for another: that of the other, without the right to run it, and with its owner's right
-- to read and write it (0o600). Without the other's owner and group (0o666), the group may do nothing (0o606).
abbrev pub mode_like : ℕ → Bool → ℕ
mode_like mode is_owned = bit_or (bit_and mode (if is_owned then 438 else 390)) 384

-- The text was given the time of the log: it has it, to a part of a second, and its date was set after what it says.
pub record WasGiven (changed touched log : Time) : Type 0 where
  pub same : changed ≡ log
  pub has_parts : changed.nanos ≢ pos 0
  pub set_after : touched ≢ changed

-- What a text is dated that is put beside a log: a tick later.
abbrev pub IsLater : Time → Time → Type 0
IsLater log put =
    ((log.nanos <ℤ pos 999999900) × (put.seconds ≡ log.seconds) × (put.nanos ≡ log.nanos +ℤ pos 100))
    ⊎ ((pos 999999900 ≤ℤ log.nanos) × (put.nanos ≡ log.nanos -ℤ pos 999999900))

-- it is dated so, or was given the time of the log
abbrev pub IsDatedBy : Look → Time → Type 0
IsDatedBy text log = (put : Time) × IsLater log put × ((text.stamp.changed ≡ put) ⊎ WasGiven text.stamp.changed text.touched log)
