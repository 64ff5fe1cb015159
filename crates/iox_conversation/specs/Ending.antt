-- How a conversation ended: the status of the program, and its text on standard error.
use Rattle.std.specs.Prelude.{ℕ, List, Result, Ok, Err, codes}
use Rattle.iox_conversation.specs.declared.error.ServeError.{ServeError}
use Rattle.iox_conversation.specs.declared.error.ServeError.TheVariants.{ReadFault, WriteFault, OutOfMemory}

-- The text of each error.
abbrev pub words_of_error : ServeError → List ℕ
words_of_error ReadFault = codes "read fault"
words_of_error WriteFault = codes "write fault"
words_of_error OutOfMemory = codes "out of memory"

-- The status of each error: 1 after a fault, 2 if memory ran out.
abbrev pub status_of_error : ServeError → ℕ
status_of_error ReadFault = 1
status_of_error WriteFault = 1
status_of_error OutOfMemory = 2

-- The status of a conversation: 0 at the end of the input, otherwise that of the error.
abbrev pub status_of : {X : Type 0} → Result X ServeError → ℕ
status_of (Ok end) = 0
status_of (Err error) = status_of_error error
