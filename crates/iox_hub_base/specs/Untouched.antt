-- A table that runs out of memory before the first storage operation.
use Rattle.std.specs.Prelude.{◌≡◌}
use Rattle.iox_negotiate_table.specs.NegotiateBase.Access.{Access, Look}
use Rattle.iox_negotiate_table.specs.NegotiateBase.declared.answer.LookAnswer.TheVariants.{OutOfMemory}

-- A lookup runs out of memory. No call begins with another storage operation, so the definition demands nothing of other storage
-- operations.
abbrev pub FindsNoMemory : Access → Type 0
FindsNoMemory (Look hash answer) = answer ≡ OutOfMemory
FindsNoMemory other = Unit {0}
