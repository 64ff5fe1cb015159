-- What a reply says of a line that isn't a command.
use Rattle.std.specs.Prelude.{ℕ, List, codes}
use Rattle.iox_line.specs.declared.error.LineError.{LineError}
use Rattle.iox_line.specs.declared.error.LineError.TheVariants as fault

-- The text of each fault, which follows `err ` in the reply.
abbrev pub fault_text : LineError → List ℕ
fault_text fault.Faulty = codes "faulty line"
fault_text fault.TooLong = codes "line too long"
