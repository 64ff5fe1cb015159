-- The replies to a script, in terms of the machine of `iox_machine`.
use Rattle.std.specs.Prelude.{ℕ, ◌≡◌, ◌⊎◌, ◌<◌, ◌≤◌, Bool, false, List, [], ◌∷◌, ◌++◌, Option, Result, Ok, Err, codes, length, filter_map}
use Rattle.std.specs.Io.KnownBytes.{Appends, Consumes}
use Rattle.std.specs.List.{AllZip}
use Rattle.std.specs.Result.{result_ok}
use Rattle.iox_command.specs.declared.command.Command.{Command}
use Rattle.iox_command.specs.declared.reply.Reply.{Reply}
use Rattle.iox_conversation.specs.Lines.{heard_whole}
use Rattle.iox_conversation.specs.declared.error.ServeError.{ServeError}
use Rattle.iox_conversation.specs.declared.error.ServeError.TheVariants.{ReadFault, WriteFault, OutOfMemory}
use Rattle.iox_hub_commands.specs.Asked.{types_of}
use Rattle.iox_hub_machine.specs.RunLaws.{names_in}
use Rattle.iox_line.specs.Outcome.{IsReadAs}
use Rattle.iox_line.specs.ReplyText.{reply_text}
use Rattle.iox_line.specs.declared.error.LineError.{LineError}
use Rattle.iox_line.specs.declared.error.LineError.TheVariants as fault
use Rattle.iox_machine.specs.Choices.{as_named}
use Rattle.iox_machine.specs.Run as machine
use Rattle.iox_negotiate_machine.specs.Laws.{HaveOwnHashes}

-- One line of text for each line that was read: `err` and its text for a fault, and the text of the next reply for a command.
abbrev pub reply_lines : List (Result (Command ℕ) LineError) → List (Reply ℕ) → List ℕ
reply_lines (Err fault.Faulty ∷ reads) replies = codes "err faulty line" ++ (10 ∷ reply_lines reads replies)
reply_lines (Err fault.TooLong ∷ reads) replies = codes "err line too long" ++ (10 ∷ reply_lines reads replies)
reply_lines (Ok command ∷ reads) (reply ∷ replies) = reply_text reply ++ (10 ∷ reply_lines reads replies)
reply_lines reads replies = []

-- Each command among what was read has a reply. If no two services of the names that are asked for share a hash, whatever their patterns
-- are, a new machine may give these replies to all these commands. Its messages are slices of 64-bit numbers, with one such number as user
-- header; the default value is 0; its subscribers may have `buffer` expired connections; and each port does what was named for it.
abbrev pub NewMachineMayReply : ℕ → List (Result (Command ℕ) LineError) → List (Reply ℕ) → Type 0
NewMachineMayReply buffer reads replies =
    let commands = filter_map (λ read. result_ok read) reads in
    (length replies ≡ length commands)
    × (HaveOwnHashes (names_in commands)
    → machine.Answers (types_of (codes "u64") 8 8 (codes "u64") 8 8) (as_named (λ value. value ≡ 0)) buffer commands false replies)

-- If no two services of the names that are asked for share a hash, the text is what a new machine may answer to the lines: each line is
-- read as the command that it spells, or as the fault for which it spells none; the text has one line for each, and the replies in it are
-- the machine's.
abbrev pub AnswersAsNewMachine : ℕ → List (List ℕ) → List ℕ → Type 0
AnswersAsNewMachine buffer lines text =
    (reads : List (Result (Command ℕ) LineError)) × (replies : List (Reply ℕ)) × AllZip IsReadAs lines reads
    × (text ≡ reply_lines reads replies) × NewMachineMayReply buffer reads replies

-- What is written when a conversation breaks off: if no two services of the names that are asked for share a hash, it is a beginning of
-- what a new machine may answer. All that was read before a last piece, of at most 65,536 bytes, is answered: each line that ended before
-- that piece has its whole reply line in what was written, and what follows there begins the answers to the first lines that were read
-- whole by that piece. After `ReadFault` there is no such piece. After `WriteFault`, and after no other error, a beginning of the answers
-- to those lines is written. After `OutOfMemory` that piece ends the first line that isn't answered, or at the end of the input the last
-- line isn't answered, or nothing was read yet.
pub record BeginsAsNewMachine (buffer : ℕ) (error : ServeError) (ended : Bool) (left leaves held holds : Option (List ℕ)) : Type 0 where
  pub read : List ℕ
  pub piece : List ℕ
  pub text : List ℕ
  pub begun : List ℕ
  pub unwritten : List ℕ
  pub lines : List (List ℕ)
  pub others : List (List ℕ)
  pub consumed : Consumes left leaves (read ++ piece)
  pub short : length piece ≤ 65536
  pub appended : Appends held holds (text ++ begun)
  pub whole : heard_whole ended (read ++ piece) ≡ heard_whole false read ++ (lines ++ others)
  pub answered : (reads : List (Result (Command ℕ) LineError)) × (later : List (Result (Command ℕ) LineError))
      × (replies : List (Reply ℕ))
      × AllZip IsReadAs (heard_whole false read) reads × AllZip IsReadAs lines later × (text ≡ reply_lines reads replies)
      × (text ++ (begun ++ unwritten) ≡ reply_lines (reads ++ later) replies) × NewMachineMayReply buffer (reads ++ later) replies
  pub read_fault : error ≡ ReadFault → piece ≡ []
  pub write_fault : (begun ≡ []) ⊎ (error ≡ WriteFault)
  pub out_of_memory : error ≡ OutOfMemory → (0 < length (lines ++ others)) ⊎ ((read ≡ []) × (piece ≡ []))
