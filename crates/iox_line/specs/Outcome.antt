-- What is answered of a line.
use Rattle.std.specs.Prelude.{ℕ, ◌<◌, ◌≤◌, ◌≡◌, Bool, true, false, ◌||◌, List, Option, None, Some, length, Result, Ok, Err}
use Rattle.std.specs.declared.alloc.AllocError.{AllocError}
use Rattle.iox_command.specs.declared.command.Command.{Command}
use Rattle.iox_command.specs.declared.command.Command.TheVariants as command
use Rattle.iox_line.specs.Memory.{some}
use Rattle.iox_line.specs.AttributesReading.{requires_some}
use Rattle.iox_line.specs.declared.error.LineError.{LineError}
use Rattle.iox_line.specs.declared.error.LineError.TheVariants as fault
use Rattle.iox_line.specs.Spelling.{Spells}
use Rattle.iox_command.specs.Ports.{command_of}
use Rattle.iox_line.specs.Reading.{if_of_port}
use Rattle.iox_line.specs.declared.read.ReadLine.{ReadLine}
use Rattle.iox_line.specs.declared.read.ReadLine.TheVariants as read

-- A line of at most 1,024 bytes is read as the command that it spells, or is faulty if it spells none; a longer line is too long.
abbrev pub IsReadAs : List ℕ → Result (Command ℕ) LineError → Type 0
IsReadAs line (Ok command) = (length line ≤ 1024) × Spells line command
IsReadAs line (Err fault.Faulty) = (length line ≤ 1024) × ((command : Command ℕ) → Spells line command → ⊥)
IsReadAs line (Err fault.TooLong) = 1024 < length line

-- Whether the command has attributes or actions of other nodes; only these take memory.
abbrev pub takes_memory : Command ℕ → Bool
takes_memory (command.Create node name options attributes steps) = some attributes || some steps
takes_memory (command.Open node name options requirements steps) = requires_some requirements || some steps
takes_memory (command.OpenOrCreate node name options requirements steps) = requires_some requirements || some steps
takes_memory (command.Foreign pattern name steps) = some steps
takes_memory other = false

-- Either what the line is read as; or memory ran out, and the line spells a command that takes memory.
abbrev pub Answers : List ℕ → Result (Result (Command ℕ) LineError) AllocError → Type 0
Answers line (Ok read) = IsReadAs line read
Answers line (Err lacking) = (length line ≤ 1024) × (c : Command ℕ) × Spells line c × (takes_memory c ≡ true)

-- What is read of a line without memory: the command on an existing port that it spells; or another command that it spells, or that it
-- spells none; or the fault for which it spells none.
abbrev pub IsReadSoFar : List ℕ → ReadLine → Type 0
IsReadSoFar line (read.OfPort command) = IsReadAs line (Ok (command_of command))
IsReadSoFar line (read.Other (Some command)) = IsReadAs line (Ok command) × (if_of_port (Some command) ≡ None)
IsReadSoFar line (read.Other None) = IsReadAs line (Err fault.Faulty)
IsReadSoFar line (read.Fault why) = IsReadAs line (Err why)

-- These words are read as this.
abbrev pub AreReadAs : Option (Command ℕ) → ReadLine → Type 0
AreReadAs spelled (read.OfPort command) = spelled ≡ Some (command_of command)
AreReadAs spelled (read.Other command) = (command ≡ spelled) × (if_of_port spelled ≡ None)
AreReadAs spelled (read.Fault why) = (why ≡ fault.Faulty) × (spelled ≡ None)
