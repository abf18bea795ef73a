-- The steps of a folder in memory.
use Rattle.std.specs.Prelude.{string_bytes}
use Rattle.mgr_port.specs.Folder.{FolderStep}
use Rattle.mgr_port.specs.Folder as told
use Rattle.test_ports.specs.declared.files.Step.{Step}
use Rattle.test_ports.specs.declared.files.Step.TheVariants as step

abbrev pub folder_step_of : Step → FolderStep
folder_step_of (step.Looks path found) = told.Looks (string_bytes path) found
folder_step_of (step.Follows path found) = told.Follows (string_bytes path) found
folder_step_of (step.Resolves path target) = told.Resolves (string_bytes path) (string_bytes target)
folder_step_of (step.LooksAt file look) = told.LooksAt file look
folder_step_of (step.Opens file path opening) = told.Opens file (string_bytes path) opening
folder_step_of (step.Locks file lock) = told.Locks file lock
folder_step_of (step.Ends file length end) = told.Ends file length end
folder_step_of (step.EndsInNewline file length is) = told.EndsInNewline file length is
folder_step_of (step.Adds file lines) = told.Adds file lines.items
folder_step_of (step.Empties file) = told.Empties file
folder_step_of (step.SetsMode file mode) = told.SetsMode file mode
folder_step_of (step.GivesTo file owner) = told.GivesTo file owner
folder_step_of (step.Dates file log later) = told.Dates file log later
folder_step_of (step.Syncs file) = told.Syncs file
folder_step_of (step.SyncsFolder path) = told.SyncsFolder (string_bytes path)
folder_step_of (step.ReadsAll file bytes) = told.ReadsAll file bytes.items
folder_step_of (step.Reads path bytes) = told.Reads (string_bytes path) bytes.items
folder_step_of (step.Links path name) = told.Links (string_bytes path) (string_bytes name)
folder_step_of (step.Makes name bytes) = told.Makes (string_bytes name) bytes.items
folder_step_of (step.Removes path) = told.Removes (string_bytes path)
folder_step_of (step.Renames path name) = told.Renames (string_bytes path) (string_bytes name)
folder_step_of (step.Overwrites file path) = told.Overwrites file (string_bytes path)
